-- Terms, formulas and assertions with a hole in the place of each occurrence of a term.
use Rattle.std.specs.Prelude.{ℕ, Bool, ◌||◌, if◌then◌else◌, zero, suc, ◌+◌, List, [], map, Option, Some, None}
use Rattle.floyd_tree_sorts.specs.declared.heads.Head.TheVariants.{Variable}
use Rattle.floyd_tree_sorts.specs.declared.sorts.Sort.{Sort, Z}
use Rattle.floyd_tree.specs.Formulas.{PlainFormula, PlainFormulas, Says, NoFormula, MoreFormulas, formulas, formulas_mention}
use Rattle.floyd_tree.specs.Plain.{Plain, Plains, At, Done, More, mentions, mentions_in, plains}
use Rattle.floyd_truth.specs.Capture.{bound_in_some, marked, most_marks}
use Rattle.floyd_arith.specs.Same.{same_term}
use Rattle.floyd_assert_trees.specs.declared.assertion.Assertion.{Assertion}
use Rattle.floyd_assert_trees.specs.declared.binder.Binder.{Binder}
use Rattle.floyd_assert_changes.specs.Changed.{has_name}
use Rattle.floyd_assert_terms.specs.Mapped.{body_mapped}
use Rattle.floyd_rewriting.specs.Occurrences.{hides}

module _ (from hole : Plain) where
  abbrev mutual
    pub opened : Plain → Plain
    opened (At head kids) = if same_term (At head kids) from then hole else At head (opened_in kids)

    pub opened_in : Plains → Plains
    opened_in Done = Done
    opened_in (More t ts) = More (opened t) (opened_in ts)

  abbrev mutual
    pub formula_opened : PlainFormula → PlainFormula
    formula_opened (Says head terms kids) = Says head (opened_in terms) (if hides from head then kids else formulas_opened kids)

    pub formulas_opened : PlainFormulas → PlainFormulas
    formulas_opened NoFormula = NoFormula
    formulas_opened (MoreFormulas f fs) = MoreFormulas (formula_opened f) (formulas_opened fs)

  abbrev pub assertion_opened : Assertion → Assertion
  assertion_opened a = body_mapped opened (map formula_opened a.props) a

-- A hole is a variable of the term's sort; a term without a sort stands nowhere.
abbrev pub hole_for : List ℕ → Option Sort → Plain
hole_for name (Some s) = At (Variable name s) Done
hole_for name None = At (Variable name Z) Done

-- whether the name is free in the term or the terms, or free or bound in the formulas, or bound before them
abbrev pub is_there : Plain → List Binder → List PlainFormula → List Plain → List ℕ → Bool
is_there from binders props terms x =
    mentions x from || (has_name x binders || (formulas_mention x (formulas props) || (bound_in_some x (formulas props) || mentions_in x (plains terms))))

-- the first of '1, '2, .. that is not taken, if one of that many is not
abbrev pub first_free : (List ℕ → Bool) → ℕ → ℕ → Option (List ℕ)
first_free taken zero k = None
first_free taken (suc tries) k = if taken (marked [] k) then first_free taken tries (k + 1) else Some (marked [] k)

-- The name of the holes, which nothing else has. There are fewer names than are tried.
abbrev pub hole_name : Plain → List Binder → List PlainFormula → List Plain → Option (List ℕ)
hole_name from binders props terms = first_free (is_there from binders props terms) most_marks 1
