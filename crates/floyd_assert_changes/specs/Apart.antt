-- Assertions whose existentials are renamed apart from names that are taken elsewhere.
use Rattle.std.specs.Prelude.{ℕ, Bool, ◌||◌, if◌then◌else◌, List, [], ◌∷◌, ◌++◌, Result}
use Rattle.floyd_text.specs.declared.refusal.No.{No}
use Rattle.floyd_truth.specs.Capture.{most_marks, unmarked_from}
use Rattle.floyd_assert_trees.specs.declared.assertion.Assertion.{Assertion}
use Rattle.floyd_assert_trees.specs.declared.binder.Binder.{Binder}
use Rattle.floyd_assert_changes.specs.Changed.{assertion_fits, below_existentials, body_after, body_binds, body_mentions, has_name}
use Rattle.floyd_assert_changes.specs.Substituted.{within_limits}

-- the name is to be avoided, is free or bound in what stands below the existentials, or is that of one of these others
abbrev pub is_taken : (List ℕ → Bool) → Assertion → List Binder → List ℕ → Bool
is_taken avoid a others name = avoid name || (body_mentions a name || (body_binds a name || has_name name others))

-- The new name of an existential of x, where these are the others of its list: x, unless it is to be avoided, and else x'k
-- with the least k from 1 that is not taken.
abbrev pub apart_name : (List ℕ → Bool) → Assertion → List Binder → List ℕ → List ℕ
apart_name avoid a others x = if avoid x then unmarked_from (is_taken avoid a others) x most_marks 1 else x

-- the existentials with their new names, where those so far are done
abbrev pub apart_from : (List ℕ → Bool) → Assertion → List Binder → List Binder → List Binder
apart_from avoid a done [] = done
apart_from avoid a done (b ∷ more) =
    apart_from avoid a (done ++ record { name = apart_name avoid a (done ++ more) b.name; sort = b.sort } ∷ []) more

abbrev pub apart_existentials : (List ℕ → Bool) → Assertion → List Binder
apart_existentials avoid a = apart_from avoid a [] a.existentials

-- the assertion, each of whose existentials that has a name to be avoided has a new one
abbrev pub apart : (List ℕ → Bool) → Assertion → Assertion
apart avoid a = body_after (below_existentials [] a.existentials (apart_existentials avoid a)) a (apart_existentials avoid a)

-- what is answered
abbrev pub set_apart : (List ℕ → Bool) → Assertion → Result Assertion No
set_apart avoid a = within_limits assertion_fits (apart avoid a)
