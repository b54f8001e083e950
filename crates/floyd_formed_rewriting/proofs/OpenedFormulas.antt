-- Well-formed formulas are so with holes.
use Rattle.std.proofs.Common.{◌≡◌, ℕ, Bool, true, false, not, ◌&&◌, cond, List, [], ◌∷◌, map, sym, ap, ◌∙◌}
use Rattle.floyd_tree_sorts.specs.declared.connectives.FormulaHead.{FormulaHead}
use Rattle.floyd_tree_sorts.specs.declared.heads.Head.TheVariants.{Variable}
use Rattle.floyd_tree_sorts.specs.declared.sorts.Sort.{Sort}
use Rattle.floyd_tree_sorts.specs.Heads.{binds}
use Rattle.floyd_tree.specs.Formulas.{PlainFormula, PlainFormulas, Says, NoFormula, MoreFormulas, formula_mentions, formulas, formulas_mention}
use Rattle.floyd_tree.specs.Plain.{Plain, At, Done, mentions_in}
use Rattle.floyd_tree_values.specs.Rules.{CallsOf, Scope}
use Rattle.floyd_truth.specs.Capture.{bound_in, bound_in_some}
use Rattle.floyd_truth.proofs.Fresh.{neither}
use Rattle.floyd_assert_trees.specs.declared.items.Defs.{Defs}
use Rattle.floyd_assert_trees.specs.declared.spec.SpecTable.{SpecTable}
use Rattle.floyd_assert_trees.specs.Meanings.{value_defs}
use Rattle.floyd_goal_forms.specs.Terms.{AllHeadsFit, FormulaFits, FormulasFit, HeadsFit}
use Rattle.floyd_goal_formulas.specs.Fits.{AreAllowed, IsAllowed, scope_below}
use Rattle.floyd_formed_quantifiers.proofs.Leading.{terms_stay}
use Rattle.floyd_pure_rewriting.proofs.HoleData.{other_than}
use Rattle.floyd_rewriting.specs.Holes.{formula_opened, formulas_opened}
use Rattle.floyd_rewriting.specs.HolesClauses.{IsHole}
use Rattle.floyd_rewriting.specs.Occurrences.{hides}
use Rattle.floyd_rewriting.proofs.FormulasOpened.{well_sorted_kept}
use Rattle.floyd_formed_rewriting.proofs.Opened.{Room, head_below, terms_opened}

-- what is free below a head that does not bind the name
free_below : (name : List ℕ) (head : FormulaHead) (kids : PlainFormulas) → binds name head ≡ false → (not (binds name head) && formulas_mention name kids) ≡ false → formulas_mention name kids ≡ false
free_below name head kids b e = ap (λ c. not c && formulas_mention name kids) (sym b) ∙ e

module _ (defs : Defs) (specs : SpecTable) (name : List ℕ) (s : Sort) (from : Plain) where
  abbrev hole : Plain
  hole = At (Variable name s) Done

  -- formulas that stay as they are
  mutual
    formula_stays : (small large : Scope) → Room name s small large → (a : PlainFormula) → formula_mentions name a ≡ false → bound_in name a ≡ false → IsAllowed (value_defs defs) small a → IsAllowed (value_defs defs) large a
    formula_stays small large room (Says head terms kids) e b h =
        let p = neither (mentions_in name terms) (not (binds name head) && formulas_mention name kids) e in
        let q = neither (binds name head) (bound_in_some name kids) b in (
          terms_stay defs.structs (CallsOf (value_defs defs).funs) small large terms (λ v i r k. room.others v r (other_than name v (λ n. mentions_in n terms) p.0 i) k) h.0,
          formulas_stay (scope_below head small) (scope_below head large) (head_below name s small large head q.0 room) kids (free_below name head kids q.0 p.1) q.1 h.1,
        )

    formulas_stay : (small large : Scope) → Room name s small large → (fs : PlainFormulas) → formulas_mention name fs ≡ false → bound_in_some name fs ≡ false → AreAllowed (value_defs defs) small fs → AreAllowed (value_defs defs) large fs
    formulas_stay small large room NoFormula e b h = tt
    formulas_stay small large room (MoreFormulas a fs) e b h =
        let p = neither (formula_mentions name a) (formulas_mention name fs) e in
        let q = neither (bound_in name a) (bound_in_some name fs) b in
        (formula_stays small large room a p.0 q.0 h.0, formulas_stay small large room fs p.1 q.1 h.1)

  record Good (large : Scope) (a : PlainFormula) : Type 0 where
    pub allowed : IsAllowed (value_defs defs) large a
    pub known : HeadsFit defs specs a

  record AllGood (large : Scope) (fs : PlainFormulas) : Type 0 where
    pub allowed : AreAllowed (value_defs defs) large fs
    pub known : AllHeadsFit defs specs fs

  -- the formulas, or others in their place
  either : (b : Bool) (large : Scope) (fs gs : PlainFormulas) → AllGood large fs → AllGood large gs → AllGood large (cond b fs gs)
  either true large fs gs h k = h
  either false large fs gs h k = k

  mutual
    formula_good : (small large : Scope) → Room name s small large → (a : PlainFormula) → formula_mentions name a ≡ false → bound_in name a ≡ false → IsAllowed (value_defs defs) small a → HeadsFit defs specs a → Good large (formula_opened from hole a)
    formula_good small large room (Says head terms kids) e b h g =
        let p = neither (mentions_in name terms) (not (binds name head) && formulas_mention name kids) e in
        let q = neither (binds name head) (bound_in_some name kids) b in
        let free = free_below name head kids q.0 p.1 in
        let inner = scope_below head small in
        let outer = scope_below head large in
        let below = head_below name s small large head q.0 room in
        let ts = terms_opened defs name s from small large room terms p.0 h.0 g.1 in
        let old : AllGood outer kids = record { allowed = formulas_stay inner outer below kids free q.1 h.1; known = g.2 } in
        let fs = either (hides from head) outer kids (formulas_opened from hole kids) old (formulas_good inner outer below kids free q.1 h.1 g.2) in
        record { allowed = (ts.0, fs.allowed); known = (g.0, ts.1, fs.known) }

    formulas_good : (small large : Scope) → Room name s small large → (fs : PlainFormulas) → formulas_mention name fs ≡ false → bound_in_some name fs ≡ false → AreAllowed (value_defs defs) small fs → AllHeadsFit defs specs fs → AllGood large (formulas_opened from hole fs)
    formulas_good small large room NoFormula e b h g = record { allowed = tt; known = tt }
    formulas_good small large room (MoreFormulas a fs) e b h g =
        let p = neither (formula_mentions name a) (formulas_mention name fs) e in
        let q = neither (bound_in name a) (bound_in_some name fs) b in
        let k = formula_good small large room a p.0 q.0 h.0 g.0 in
        let l = formulas_good small large room fs p.1 q.1 h.1 g.1 in
        record { allowed = (k.allowed, l.allowed); known = (k.known, l.known) }

  module _ (is : IsHole from hole) (small large : Scope) (room : Room name s small large) where
    pub formula_with_holes : (a : PlainFormula) → formula_mentions name a ≡ false → bound_in name a ≡ false → FormulaFits defs specs small a → FormulaFits defs specs large (formula_opened from hole a)
    formula_with_holes a e b h =
        let k = formula_good small large room a e b h.fits.allowed h.known in
        record { fits = record { sorted = well_sorted_kept from hole is a ∙ h.fits.sorted; allowed = k.allowed }; known = k.known }

    pub formulas_with_holes : (fs : List PlainFormula) → formulas_mention name (formulas fs) ≡ false → bound_in_some name (formulas fs) ≡ false → FormulasFit defs specs small fs → FormulasFit defs specs large (map (formula_opened from hole) fs)
    formulas_with_holes [] e b h = tt
    formulas_with_holes (a ∷ fs) e b h =
        let p = neither (formula_mentions name a) (formulas_mention name (formulas fs)) e in
        let q = neither (bound_in name a) (bound_in_some name (formulas fs)) b in
        (formula_with_holes a p.0 q.0 h.0, formulas_with_holes fs p.1 q.1 h.1)
