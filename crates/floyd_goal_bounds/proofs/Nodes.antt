-- The nodes of an assertion are no more than its size and its existentials.
use Rattle.std.proofs.Common.{◌≡◌, ℕ, zero, suc, ◌+◌, ◌≤◌, Bool, true, false, cond, List, [], ◌∷◌, ◌++◌, length, Some, refl, sym, subst, arith, pos, negsuc}
use Rattle.std.specs.List.{AllByRecursion, flat_map}
use Rattle.floyd_tree_sorts.specs.declared.heads.Head.{Head}
use Rattle.floyd_tree_sorts.specs.declared.heads.Head.TheVariants as h
use Rattle.floyd_tree_sorts.specs.declared.sorts.Sort.{Sort, Z}
use Rattle.floyd_tree_sorts.specs.Table.{sort_at}
use Rattle.floyd_tree.specs.declared.paths.PathStep.{PathStep}
use Rattle.floyd_tree.specs.declared.paths.PathStep.TheVariants.{Field, Subscript}
use Rattle.floyd_tree.specs.Formulas.{PlainFormula, formula_size, formula_sizes, formulas}
use Rattle.floyd_tree.specs.Plain.{Plain, Plains, At, Done, More, head_of, plains, size, sizes}
use Rattle.floyd_tree.specs.WellSorted.{sort_of, sorts_of}
use Rattle.floyd_tree_values.specs.Rules.{Scope}
use Rattle.floyd_assert_changes.specs.Changed.{local_terms, part_terms, region_terms, step_terms, terms_in}
use Rattle.floyd_assert_laws.specs.InChanged.{body_nodes}
use Rattle.floyd_assert_trees.specs.declared.assertion.Assertion.{Assertion}
use Rattle.floyd_assert_trees.specs.declared.assertion.Local.{Local}
use Rattle.floyd_assert_trees.specs.declared.items.Defs.{Defs}
use Rattle.floyd_assert_trees.specs.declared.sep.Region.{Region}
use Rattle.floyd_assert_trees.specs.declared.sep.Sep.{Sep}
use Rattle.floyd_assert_trees.specs.declared.sep.Sep.TheVariants.{FieldAt, Padding, Valid, Anything, Predicate}
use Rattle.floyd_assert_trees.specs.Sizes.{assertion_size, is_sixteen, local_size, part_size, region_size, share_size, step_size, sum_of}
use Rattle.floyd_goal_formulas.proofs.Values.{first_some}
use Rattle.floyd_goal_forms.specs.Assertions.{PartFits, PartsFit, PredicatesOf}
use Rattle.floyd_pure_quantifiers.proofs.Equating.{kid_sorts}

-- ---- lists of terms

sizes_both : (xs ys : List Plain) → sizes (plains (xs ++ ys)) ≡ sizes (plains xs) + sizes (plains ys)
sizes_both [] ys = omega arith
sizes_both (x ∷ xs) ys = omega (arith, sizes_both xs ys)

sizes_sum : (ts : List Plain) → sizes (plains ts) ≡ sum_of size ts
sizes_sum [] = refl
sizes_sum (t ∷ ts) = omega (arith, sizes_sum ts)

formulas_sum : (fs : List PlainFormula) → formula_sizes (formulas fs) ≡ sum_of formula_size fs
formulas_sum [] = refl
formulas_sum (f ∷ fs) = omega (arith, formulas_sum fs)

steps_sum : (path : List PathStep) → sizes (plains (flat_map step_terms path)) ≡ sum_of step_size path
steps_sum [] = refl
steps_sum (Field x ∷ path) = omega (arith, steps_sum path)
steps_sum (Subscript t ∷ path) = omega (arith, steps_sum path)

locals_sum : (ls : List Local) → sizes (plains (local_terms ls)) ≤ sum_of local_size ls
locals_sum [] = omega arith
locals_sum (l ∷ ls) = omega (arith, locals_sum ls)

-- ---- shares

-- a literal has no kids
no_kids : (n : ℕ) (t : Plain) (ts : Plains) → sort_of (At (h.Literal (pos n)) (More t ts)) ≡ Some Z → ⊥
no_kids n t ts e =
    let k = kid_sorts (h.Literal (pos n)) (More t ts) Z e in
    let p = first_some (sort_of t) (sorts_of ts) k.0 k.1 in
    let taken : sort_at (h.Literal (pos n)) (p.0 ∷ p.1) ≡ Some Z = subst (λ ss. sort_at (h.Literal (pos n)) ss ≡ Some Z) p.4 k.2 in
    cc

one_node : (head : Head) (kids : Plains) → is_sixteen head ≡ true → sort_of (At head kids) ≡ Some Z → size (At head kids) ≤ 1
one_node (h.Literal (pos n)) Done e s = omega arith
one_node (h.Literal (pos n)) (More t ts) e s = absurd (no_kids n t ts s)
one_node head kids e s = absurd cc

-- the whole share counts nothing and is one node
share_nodes : (t : Plain) → sort_of t ≡ Some Z → size t ≤ share_size t + 1
share_nodes (At head kids) s = by (is_sixteen head) refl
  where
    by : (b : Bool) → is_sixteen head ≡ b → size (At head kids) ≤ cond b 0 (size (At head kids)) + 1
    by true e = omega (arith, one_node head kids e s)
    by false e = omega arith

-- ---- parts

-- the share of a part is a number
abbrev pub IsShared : Sep → Type 0
IsShared (FieldAt r value) = sort_of r.share ≡ Some Z
IsShared (Padding r) = sort_of r.share ≡ Some Z
IsShared part = Unit {0}

region_nodes : (r : Region) → sort_of r.share ≡ Some Z → sizes (plains (region_terms r)) ≤ region_size r + 1
region_nodes r s =
    let rest = flat_map step_terms r.path ++ r.root ∷ [] in
    omega (arith, share_nodes r.share s, sizes_both r.ty.sizes rest, sizes_sum r.ty.sizes, sizes_both (flat_map step_terms r.path) (r.root ∷ []), steps_sum r.path)

part_nodes : (p : Sep) → IsShared p → sizes (plains (part_terms p)) ≤ part_size p
part_nodes (FieldAt r value) s = omega (arith, region_nodes r s, sizes_both (region_terms r) (value ∷ []))
part_nodes (Padding r) s = region_nodes r s
part_nodes (Valid t) s = omega arith
part_nodes Anything s = omega arith
part_nodes (Predicate name terms) s = omega (arith, sizes_sum terms)

parts_nodes : (ps : List Sep) → AllByRecursion IsShared ps → sizes (plains (flat_map part_terms ps)) ≤ sum_of part_size ps
parts_nodes [] s = omega arith
parts_nodes (p ∷ ps) s = omega (arith, sizes_both (part_terms p) (flat_map part_terms ps), part_nodes p s.0, parts_nodes ps s.1)

pub few_nodes : (a : Assertion) → AllByRecursion IsShared a.parts → body_nodes a ≤ assertion_size a + length a.existentials
few_nodes a s =
    omega (arith, formulas_sum a.props, sizes_both (local_terms a.locals) (flat_map part_terms a.parts), locals_sum a.locals, parts_nodes a.parts s)

module _ (defs : Defs) (scope : Scope) where
  part_shared : (p : Sep) → PartFits defs scope (PredicatesOf defs scope) p → IsShared p
  part_shared (FieldAt r value) k = k.region.share.fits.sorted
  part_shared (Padding r) k = k.0.share.fits.sorted
  part_shared (Valid t) k = tt
  part_shared Anything k = tt
  part_shared (Predicate name terms) k = tt

  pub parts_shared : (ps : List Sep) → PartsFit defs scope (PredicatesOf defs scope) ps → AllByRecursion IsShared ps
  parts_shared [] k = tt
  parts_shared (p ∷ ps) k = (part_shared p k.0, parts_shared ps k.1)
