-- A well-formed term is well formed as what it is simplified to.
use Rattle.std.proofs.Common.{◌≡◌, List, [], ◌∷◌, Option, Some, None, Result, Ok, Err, refl, sym, ap, ◌∙◌, subst}
use Rattle.std.specs.Option.{unwrap_or}
use Rattle.floyd_text.specs.declared.refusal.No.{No}
use Rattle.floyd_tree_sorts.specs.declared.heads.Head.{Head}
use Rattle.floyd_tree_sorts.specs.declared.heads.Head.TheVariants.{Variable, Default, Gv, Fun as FunHead}
use Rattle.floyd_tree_sorts.specs.declared.sorts.Sort.{Sort}
use Rattle.floyd_tree_sorts.specs.Table.{sort_at}
use Rattle.floyd_tree.specs.Plain.{Plain, Plains, At, Done, More}
use Rattle.floyd_tree.specs.WellSorted.{sort_of, sorts_of, with_first}
use Rattle.floyd_tree_values.specs.Rules.{CallsOf, IsAllowed, Scope}
use Rattle.floyd_assert_trees.specs.declared.items.Defs.{Defs}
use Rattle.floyd_assert_trees.specs.Meanings.{value_defs}
use Rattle.floyd_fieldpath.specs.Written.{written}
use Rattle.floyd_goal_forms.specs.Terms.{TermFits}
use Rattle.floyd_goal_formulas.proofs.Values.{first_some}
use Rattle.floyd_simplifying.specs.Assertions.{changed_or, term_or}
use Rattle.floyd_simplifying.specs.Simplified.{Step, behind, over_kids, simplified, simplified_in, step}
use Rattle.floyd_simplifying.proofs.ListsKept.{on_ok_some, written_is}
use Rattle.floyd_simplifying.proofs.Sorting.{kids_sorted}
use Rattle.floyd_simplifying.proofs.TermsKept.{both_are}
use Rattle.floyd_formed_simplifying.proofs.Steps.{AllFine, Fine, step_fine, step_sorted}

-- a node, and what takes its place
behind_is : (node : Plain) (x : Step) (r : Option Plain) → behind node x ≡ Ok r → (q : Option Plain) × (x ≡ Ok q) × (Some (unwrap_or q node) ≡ r)
behind_is node (Ok None) r e = (None, refl, cc)
behind_is node (Ok (Some t)) r e = (Some t, refl, cc)
behind_is node (Err refusal) r e = absurd cc

module _ (defs : Defs) (scope : Scope) where
  pub record Simple (s : Sort) (t : Plain) : Type 0 where
    pub sorted : sort_of t ≡ Some s
    pub fine : Fine defs scope t

  pub record AllSimple (ss : List Sort) (ts : Plains) : Type 0 where
    pub sorted : sorts_of ts ≡ Some ss
    pub fine : AllFine defs scope ts

  -- what a node's head asks for does not depend on its kids
  head_stays : (head : Head) (ts us : Plains) → IsAllowed defs.structs scope (CallsOf (value_defs defs).funs) head ts → IsAllowed defs.structs scope (CallsOf (value_defs defs).funs) head us
  head_stays (Variable x s) ts us h = h
  head_stays (Default shape s) ts us h = h
  head_stays (FunHead name arguments s) ts us h = h
  head_stays head ts us h = tt

  mutual
    term_simple : (t : Plain) (s : Sort) → Fine defs scope t → sort_of t ≡ Some s → (r : Option Plain) → simplified t ≡ Ok r → Simple s (unwrap_or r t)
    term_simple (At head kids) s a e r i =
        let k = kids_sorted head (sorts_of kids) s e in
        by k.0 k.1 k.2 (λ us j. terms_simple kids k.0 (a.0.1, a.1.1) k.1 (Some us) j) (simplified_in kids) refl i
      where
        by : (ss : List Sort) → sorts_of kids ≡ Some ss → sort_at head ss ≡ Some s → ((us : Plains) → simplified_in kids ≡ Ok (Some us) → AllSimple ss us) → (x : Result (Option Plains) No) → simplified_in kids ≡ x → over_kids head kids x ≡ Ok r → Simple s (unwrap_or r (At head kids))
        by ss f g all (Ok None) j i = record { sorted = step_sorted (value_defs defs) s head kids ss f g r i; fine = step_fine defs scope head kids r a i }
        by ss f g all (Ok (Some us)) j i =
            let p = on_ok_some (written (At head us)) (λ node. behind node (step node)) r i in
            let node : At head us ≡ p.0 = written_is (At head us) p.0 p.1 in
            let q = behind_is (At head us) (step (At head us)) r (subst (λ u. behind u (step u) ≡ Ok r) (sym node) p.2) in
            let k = all us j in
            let over : Fine defs scope (At head us) = ((head_stays head kids us a.0.0, k.fine.0), (a.1.0, k.fine.1)) in
            subst (λ o. Simple s (unwrap_or o (At head kids))) q.2
            (record { sorted = step_sorted (value_defs defs) s head us ss k.sorted g q.0 q.1; fine = step_fine defs scope head us q.0 over q.1 })
        by ss f g all (Err refusal) j i = absurd cc

    pub terms_simple : (ts : Plains) (ss : List Sort) → AllFine defs scope ts → sorts_of ts ≡ Some ss → (r : Option Plains) → simplified_in ts ≡ Ok r → AllSimple ss (unwrap_or r ts)
    terms_simple Done ss a e r i =
        let nothing : None ≡ r = cc in
        subst (λ q. AllSimple ss (unwrap_or q Done)) nothing (record { sorted = e; fine = (tt, tt) })
    terms_simple (More t ts) ss a e r i =
        let p = first_some (sort_of t) (sorts_of ts) ss e in
        let b = both_are More t ts (simplified t) (simplified_in ts) r i in
        let k = term_simple t p.0 (a.0.0, a.1.0) p.2 b.first b.first_is in
        let l = terms_simple ts p.1 (a.0.1, a.1.1) p.3 b.rest b.rest_is in
        let made : AllSimple (p.0 ∷ p.1) (More (unwrap_or b.first t) (unwrap_or b.rest ts)) = record {
          sorted = ap (λ o. with_first o (sorts_of (unwrap_or b.rest ts))) k.sorted ∙ ap (with_first (Some p.0)) l.sorted;
          fine = ((k.fine.0, l.fine.0), (k.fine.1, l.fine.1));
        } in
        subst (λ rs. AllSimple rs (unwrap_or r (More t ts))) (sym p.4) (subst (AllSimple (p.0 ∷ p.1)) b.is made)

  pub term_formed : (s : Sort) (t : Plain) → TermFits defs scope s t → TermFits defs scope s (term_or t)
  term_formed s t h = by (simplified t) refl
    where
      by : (x : Result (Option Plain) No) → simplified t ≡ x → TermFits defs scope s (changed_or t x)
      by (Ok None) e = h
      by (Ok (Some made)) e =
          let k = term_simple t s (h.fits.allowed, h.known) h.fits.sorted (Some made) e in
          record { fits = record { sorted = k.sorted; allowed = k.fine.0 }; known = k.fine.1 }
      by (Err refusal) e = h
