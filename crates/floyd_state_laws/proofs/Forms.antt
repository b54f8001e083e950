-- Parts of well formed assertions.
use Rattle.std.proofs.Common.{List, [], ◌∷◌, All}
use Rattle.std.specs.List.{AllByRecursion}
use Rattle.std.proofs.lemmas.List.Elements.{All-cons, All-nil}
use Rattle.floyd_tree_sorts.specs.declared.sorts.Sort.{Z}
use Rattle.floyd_tree.specs.Plain.{Plain}
use Rattle.floyd_tree_values.specs.Rules.{Scope}
use Rattle.floyd_assert_trees.specs.declared.assertion.Assertion.{Assertion}
use Rattle.floyd_assert_trees.specs.declared.items.Defs.{Defs}
use Rattle.floyd_assert_trees.specs.declared.sep.Sep.{Sep}
use Rattle.floyd_assert_trees.specs.declared.sep.Sep.TheVariants.{FieldAt, Padding, Valid, Anything, Predicate}
use Rattle.floyd_assert_trees.specs.declared.spec.SpecTable.{SpecTable}
use Rattle.floyd_fieldpath_laws.specs.Conditions.{IsNumber}
use Rattle.floyd_goal_forms.specs.Assertions.{AssertionFits, PartFits, PartsFit, Predicates, PredicatesOf, inner_scope}
use Rattle.floyd_goal_forms.specs.Terms.{TermFits}
use Rattle.floyd_symexpr_soundness.specs.Laws.{PartIsSorted}

module _ (defs : Defs) (scope : Scope) where
  numbers_fit : (ts : List Plain) → AllByRecursion (TermFits defs scope Z) ts → All IsNumber ts
  numbers_fit [] k = All-nil IsNumber
  numbers_fit (t ∷ ts) k = All-cons IsNumber t ts k.0.fits.sorted (numbers_fit ts k.1)

  module _ (preds : Predicates) where
    part_sorted : (p : Sep) → PartFits defs scope preds p → PartIsSorted defs.structs p
    part_sorted (FieldAt r value) k =
        record {
          sizes = record { count = k.region.type.sizes.count; numbers = numbers_fit r.ty.sizes k.region.type.sizes.sizes };
          nested = k.region.nested;
          at = k.region.at;
          sort = k.sort;
          has = k.is;
          sorted = k.term.fits.sorted;
        }
    part_sorted (Padding r) k = tt
    part_sorted (Valid address) k = tt
    part_sorted Anything k = tt
    part_sorted (Predicate name terms) k = tt

    parts_sorted : (ps : List Sep) → PartsFit defs scope preds ps → AllByRecursion (PartIsSorted defs.structs) ps
    parts_sorted [] k = tt
    parts_sorted (p ∷ ps) k = (part_sorted p k.0, parts_sorted ps k.1)

pub parts_are_sorted : (defs : Defs) (specs : SpecTable) (scope : Scope) (a : Assertion) → AssertionFits defs specs scope a → AllByRecursion (PartIsSorted defs.structs) a.parts
parts_are_sorted defs specs scope a fits = parts_sorted defs (inner_scope a scope) (PredicatesOf defs (inner_scope a scope)) a.parts fits.parts
