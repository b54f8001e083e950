-- Terms with holes mean the same, where the holes have the value of what they stand for.
use Rattle.std.proofs.Common.{◌≡◌, ◌↔◌, Bool, true, false, cond, List, refl, sym, ap, subst, ◌∙◌}
use Rattle.std.specs.Prelude.{option_and_then}
use Rattle.floyd_tree_sorts.specs.declared.heads.Head.{Head}
use Rattle.floyd_tree_sorts.specs.declared.heads.Head.TheVariants.{Fun}
use Rattle.floyd_tree_sorts.specs.Table.{sort_at}
use Rattle.floyd_tree.specs.Plain.{Plain, Plains, At, Done, More}
use Rattle.floyd_tree.specs.WellSorted.{sorts_of}
use Rattle.floyd_tree_values.specs.BuiltIns.{Env}
use Rattle.floyd_tree_values.specs.Data.{Datum}
use Rattle.floyd_tree_values.specs.Means.{Defs, Means, AllMean, built_in, call, more}
use Rattle.floyd_tree_values.proofs.OneValue.{applies, calls, one_value, split}
use Rattle.floyd_arith.specs.Same.{same_term}
use Rattle.floyd_arith.proofs.SameLemmas.{same_term_true}
use Rattle.floyd_rewriting.specs.Holes.{opened, opened_in}
use Rattle.floyd_rewriting.specs.HolesClauses.{IsHole}
use Rattle.floyd_rewriting.proofs.TermsOpened.{sorts_kept}

module _ (defs : Defs) (env : Env) where
  -- from a node over `us` to the node over `ts`
  node_to : (head : Head) (ts : Plains) (e : Datum) (us : Plains) → sorts_of ts ≡ sorts_of us → ((ds : List Datum) → AllMean defs env us ds → AllMean defs env ts ds) → Means defs env (At head us) e → Means defs env (At head ts) e
  node_to (Fun name sorts s) ts e us i k m =
      let p = calls m in
      call {bindings = p.opened.bindings} {term = p.opened.term} (k p.data' p.mean) p.is p.term
  node_to head ts e us i k m =
      let p = applies {head = head} refl m in
      subst (Means defs env (At head ts)) (sym p.is) (built_in {head = head} refl (ap (option_and_then (sort_at head)) i ∙ p.sorted) (k p.data' p.mean))

module _ (from hole : Plain) (is : IsHole from hole) (defs : Defs) (env : Env) (d : Datum) (own : Means defs env from d) (here : Means defs env hole d) where
  mutual
    pub means_kept : (t : Plain) (e : Datum) → Means defs env (opened from hole t) e ↔ Means defs env t e
    means_kept (At head kids) e =
        by (same_term (At head kids) from) refl (
          node_to defs env head kids e (opened_in from hole kids) (sym (sorts_kept from hole is kids)) (λ ds. (all_kept kids ds).0),
          node_to defs env head (opened_in from hole kids) e kids (sorts_kept from hole is kids) (λ ds. (all_kept kids ds).1),
        )
      where
        by : (b : Bool) → same_term (At head kids) from ≡ b → (Means defs env (At head (opened_in from hole kids)) e ↔ Means defs env (At head kids) e) → Means defs env (cond b hole (At head (opened_in from hole kids))) e ↔ Means defs env (At head kids) e
        by true i node =
            let same = same_term_true (At head kids) from i in (
              λ m. subst (λ t. Means defs env t e) (sym same) (subst (Means defs env from) (one_value defs here e m) own),
              λ m. subst (Means defs env hole) (one_value defs own e (subst (λ t. Means defs env t e) same m)) here,
            )
        by false i node = node

    pub all_kept : (ts : Plains) (ds : List Datum) → AllMean defs env (opened_in from hole ts) ds ↔ AllMean defs env ts ds
    all_kept Done ds = (λ m. m, λ m. m)
    all_kept (More t ts) ds = (
      λ m. let p = split m in subst (AllMean defs env (More t ts)) (sym p.is) (more ((means_kept t p.datum).0 p.first) ((all_kept ts p.data').0 p.rest)),
      λ m. let p = split m in subst (AllMean defs env (More (opened from hole t) (opened_in from hole ts))) (sym p.is) (more ((means_kept t p.datum).1 p.first) ((all_kept ts p.data').1 p.rest)),
    )
