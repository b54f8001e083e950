-- Numbers that rows write of well-formed numbers are well formed.
use Rattle.std.proofs.Common.{◌≡◌, ℤ, List, [], ◌∷◌, Option, Some, None, Ok, refl, ap, ap₂, subst, ◌∙◌}
use Rattle.std.specs.Prelude.{◌+ℤ◌, option_and_then}
use Rattle.floyd_tree_sorts.specs.declared.connectives.FormulaHead.TheVariants as f
use Rattle.floyd_tree_sorts.specs.declared.heads.Head.TheVariants as h
use Rattle.floyd_tree_sorts.specs.declared.operators.Operator.{Operator}
use Rattle.floyd_tree_sorts.specs.declared.operators.Operator.TheVariants.{Add, Sub}
use Rattle.floyd_tree_sorts.specs.declared.sorts.Sort.{Z}
use Rattle.floyd_tree_sorts.specs.Table.{sort_at}
use Rattle.floyd_tree.specs.Plain.{Plain, Done, More}
use Rattle.floyd_tree.specs.WellSorted.{sorts_of, with_first}
use Rattle.floyd_tree_values.specs.Rules.{Scope}
use Rattle.floyd_assert_trees.specs.declared.items.Defs.{Defs}
use Rattle.floyd_assert_trees.specs.declared.spec.SpecTable.{SpecTable}
use Rattle.floyd_fieldpath.specs.Nested.{literal}
use Rattle.floyd_fieldpath.specs.Sums.{literal_in, literal_or, of_both, plus, small, two}
use Rattle.floyd_fieldpath_laws.proofs.Meanings.{written_is}
use Rattle.floyd_folding.specs.Folding.{folded, number_of_two, of_literals}
use Rattle.floyd_goal_forms.specs.Terms.{FormulaFits, TermFits}
use Rattle.floyd_goal_parts.specs.Writing.{at_most}
use Rattle.floyd_entail_soundness.proofs.Placing.{same_Ok}
use Rattle.floyd_formed_equations.proofs.Equations.{two_formed}

module _ (defs : Defs) (scope : Scope) where
  abbrev N : Plain → Type 0
  N t = TermFits defs scope Z t

  pub literal_fits : (z : ℤ) → N (literal z)
  literal_fits z = record { fits = record { sorted = refl; allowed = (tt, tt) }; known = (tt, tt) }

  two_fits : (operator : Operator) (a b : Plain) → sort_at (h.Operator operator) (Z ∷ Z ∷ []) ≡ Some Z → N a → N b → N (two operator a b)
  two_fits operator a b e p q =
      let sorts : sorts_of (More a (More b Done)) ≡ Some (Z ∷ Z ∷ []) = ap₂ (λ x y. with_first x (with_first y (Some []))) p.fits.sorted q.fits.sorted in
      record {
        fits = record { sorted = ap (option_and_then (sort_at (h.Operator operator))) sorts ∙ e; allowed = (tt, (p.fits.allowed, (q.fits.allowed, tt))) };
        known = (tt, (p.known, (q.known, tt)));
      }

  or_fits : (o : Option ℤ) (t c : Plain) → N t → literal_or o t ≡ Ok c → N c
  or_fits None t c k e = subst N (written_is t c e) k
  or_fits (Some z) t c k e = subst N (same_Ok {A = Plain} (literal z) c e) (literal_fits z)

  pub plus_fits : (a b c : Plain) → N a → N b → plus a b ≡ Ok c → N c
  plus_fits a b c p q e = or_fits (small (of_both (λ x y. x +ℤ y) (literal_in a) (literal_in b))) (two Add a b) c (two_fits Add a b refl p q) e

  pub less_fits : (a b c : Plain) → N a → N b → folded Sub a b ≡ Ok c → N c
  less_fits a b c p q e = or_fits (small (of_literals (number_of_two Sub) (literal_in a) (literal_in b))) (two Sub a b) c (two_fits Sub a b refl p q) e

  pub at_most_fits : (specs : SpecTable) (a b : Plain) → N a → N b → FormulaFits defs specs scope (at_most a b)
  at_most_fits specs a b p q = two_formed defs specs scope f.AtMost a b Z Z tt p.fits.sorted q.fits.sorted refl (p.fits.allowed, p.known) (q.fits.allowed, q.known)
