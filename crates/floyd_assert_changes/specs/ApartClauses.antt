-- New names of existentials, one after the other, beside the names that none may get.
use Rattle.std.specs.Prelude.{ℕ, if◌then◌else◌, List, [], ◌∷◌}
use Rattle.floyd_tree.specs.Formulas.{formulas}
use Rattle.floyd_tree.specs.Plain.{plains}
use Rattle.floyd_truth.specs.Capture.{most_marks, unmarked_from}
use Rattle.floyd_assert_trees.specs.declared.assertion.Assertion.{Assertion}
use Rattle.floyd_assert_trees.specs.declared.binder.Binder.{Binder}
use Rattle.floyd_assert_changes.specs.BodyClauses.{binders_names}
use Rattle.floyd_assert_changes.specs.Changed.{terms_in}
use Rattle.floyd_assert_changes.specs.NamesClauses.{Names, formulas_names, has, terms_names, with_name}

-- these names, and those that the assertion has
abbrev pub whole_names : Assertion → Names → Names
whole_names a names = binders_names a.existentials (terms_names (plains (terms_in a)) (formulas_names (formulas a.props) names))

abbrev pub next_name : Names → Names → List ℕ → List ℕ
next_name avoid names x = if has avoid x then unmarked_from (has names) x most_marks 1 else x

abbrev pub named_from : Names → Names → List Binder → List Binder
named_from avoid names [] = []
named_from avoid names (b ∷ bs) =
    record { name = next_name avoid names b.name; sort = b.sort } ∷ named_from avoid (with_name (next_name avoid names b.name) names) bs
