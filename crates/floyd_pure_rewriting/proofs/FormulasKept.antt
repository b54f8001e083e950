-- Formulas with holes are true where they were, where the holes have the value of what they stand for.
use Rattle.std.proofs.Common.{◌≡◌, ◌↔◌, ℕ, Bool, true, false, ◌⊎◌, inl, inr, cond, List, refl, sym, ap, subst, ◌∙◌, true≢false}
use Rattle.std.specs.Prelude.{bytes_eq}
use Rattle.std.proofs.lemmas.Slice.Eq.{bytes_eq-Decides}
use Rattle.floyd_int.specs.declared.kinds.Value.{Value}
use Rattle.floyd_tree_sorts.specs.declared.connectives.FormulaHead.TheVariants.{True, False, Implies, Or, And, Forall, Exists}
use Rattle.floyd_tree.specs.Formulas.{PlainFormula, PlainFormulas, Says, NoFormula, MoreFormulas}
use Rattle.floyd_tree.specs.Plain.{Plain, mentions}
use Rattle.floyd_tree_values.specs.BuiltIns.{Env}
use Rattle.floyd_tree_values.specs.Data.{Datum}
use Rattle.floyd_tree_values.specs.Means.{Defs, Means}
use Rattle.floyd_truth.specs.Capture.{bound_in, bound_in_some}
use Rattle.floyd_truth.specs.Truth.{Truth, FirstTrue, SecondTrue}
use Rattle.floyd_truth.proofs.Fresh.{neither}
use Rattle.floyd_truth.proofs.OneTruth.{giving, put, says_of}
use Rattle.floyd_truth.proofs.Tracks.{means_like}
use Rattle.floyd_rewriting.specs.Holes.{formula_opened, formulas_opened, opened_in}
use Rattle.floyd_rewriting.specs.HolesClauses.{IsHole}
use Rattle.floyd_pure_rewriting.proofs.TermsKept.{all_kept}

or_map : {A B C D : Type 0} → (A → C) → (B → D) → A ⊎ B → C ⊎ D
or_map p q (inl a) = inl (p a)
or_map p q (inr b) = inr (q b)

-- the hole is a variable of that name
module _ (from hole : Plain) (is : IsHole from hole) (name : List ℕ) (names : (v : List ℕ) → mentions v hole ≡ true → v ≡ name) (defs : Defs) (specs : List ℕ → Value → Bool) (env : Env) (d : Datum) where
  pub record Valued (g : List ℕ → Datum) : Type 0 where
    pub own : Means defs (giving env g) from d
    pub here : Means defs (giving env g) hole d

  -- below a binder of another variable than those of both terms
  put_other : (g : List ℕ → Datum) (x v : List ℕ) (e : Datum) → bytes_eq v x ≡ false → g v ≡ put g x e v
  put_other g x v e i = sym (ap (λ b. cond b e (g v)) i)

  not_own : (x v : List ℕ) → mentions x from ≡ false → mentions v from ≡ true → bytes_eq v x ≡ false
  not_own x v a m = by (bytes_eq v x) refl
    where
      by : (b : Bool) → bytes_eq v x ≡ b → bytes_eq v x ≡ false
      by false i = i
      by true i = absurd (true≢false (sym (subst (λ n. mentions n from ≡ true) ((bytes_eq-Decides v x).0 i) m) ∙ a))

  not_hole : (x v : List ℕ) → bytes_eq name x ≡ false → mentions v hole ≡ true → bytes_eq v x ≡ false
  not_hole x v a m = ap (λ n. bytes_eq n x) (names v m) ∙ a

  valued_below : (g : List ℕ → Datum) (x : List ℕ) (e : Datum) → mentions x from ≡ false → bytes_eq name x ≡ false → Valued g → Valued (put g x e)
  valued_below g x e a b v = record {
    own = means_like defs env g (put g x e) from (λ w m. put_other g x w e (not_own x w a m)) d v.own;
    here = means_like defs env g (put g x e) hole (λ w m. put_other g x w e (not_hole x w b m)) d v.here;
  }

  -- under a binder of a variable of the term nothing changes
  inside_kept : (g : List ℕ → Datum) (x : List ℕ) (e : Datum) (fs : PlainFormulas) → (mentions x from ≡ false → FirstTrue defs specs (giving env (put g x e)) (formulas_opened from hole fs) ↔ FirstTrue defs specs (giving env (put g x e)) fs) → (b : Bool) → mentions x from ≡ b → FirstTrue defs specs (giving env (put g x e)) (cond b fs (formulas_opened from hole fs)) ↔ FirstTrue defs specs (giving env (put g x e)) fs
  inside_kept g x e fs k true i = (λ q. q, λ q. q)
  inside_kept g x e fs k false i = k i

  mutual
    pub truth_kept : (g : List ℕ → Datum) → Valued g → (f : PlainFormula) → bound_in name f ≡ false → Truth defs specs (giving env g) (formula_opened from hole f) ↔ Truth defs specs (giving env g) f
    truth_kept g v (Says (Forall x s) ts fs) n =
        let p = neither (bytes_eq name x) (bound_in_some name fs) n in
        let inside = λ (e : Datum). inside_kept g x e fs (λ i. first_kept (put g x e) (valued_below g x e i p.0 v) fs p.1) (mentions x from) refl in
        (λ q e h. (inside e).0 (q e h), λ q e h. (inside e).1 (q e h))
    truth_kept g v (Says (Exists x s) ts fs) n =
        let p = neither (bytes_eq name x) (bound_in_some name fs) n in
        let inside = λ (e : Datum). inside_kept g x e fs (λ i. first_kept (put g x e) (valued_below g x e i p.0 v) fs p.1) (mentions x from) refl in
        (λ q. (q.0, q.1, (inside q.0).0 q.2), λ q. (q.0, q.1, (inside q.0).1 q.2))
    truth_kept g v (Says True ts fs) n = (λ q. tt, λ q. tt)
    truth_kept g v (Says False ts fs) n = (λ q. q, λ q. q)
    truth_kept g v (Says Implies ts fs) n =
        let first = first_kept g v fs n in
        let second = second_kept g v fs n in
        (λ q r. second.0 (q (first.1 r)), λ q r. second.1 (q (first.0 r)))
    truth_kept g v (Says Or ts fs) n =
        let first = first_kept g v fs n in
        let second = second_kept g v fs n in
        (or_map first.0 second.0, or_map first.1 second.1)
    truth_kept g v (Says And ts fs) n =
        let first = first_kept g v fs n in
        let second = second_kept g v fs n in
        (λ q. (first.0 q.0, second.0 q.1), λ q. (first.1 q.0, second.1 q.1))
    truth_kept g v (Says head ts fs) n = (
      says_of defs specs env g g head (opened_in from hole ts) ts (λ ds. (all_kept from hole is defs (giving env g) d v.own v.here ts ds).0),
      says_of defs specs env g g head ts (opened_in from hole ts) (λ ds. (all_kept from hole is defs (giving env g) d v.own v.here ts ds).1),
    )

    first_kept : (g : List ℕ → Datum) → Valued g → (fs : PlainFormulas) → bound_in_some name fs ≡ false → FirstTrue defs specs (giving env g) (formulas_opened from hole fs) ↔ FirstTrue defs specs (giving env g) fs
    first_kept g v NoFormula n = (λ q. q, λ q. q)
    first_kept g v (MoreFormulas f fs) n = truth_kept g v f (neither (bound_in name f) (bound_in_some name fs) n).0

    second_kept : (g : List ℕ → Datum) → Valued g → (fs : PlainFormulas) → bound_in_some name fs ≡ false → SecondTrue defs specs (giving env g) (formulas_opened from hole fs) ↔ SecondTrue defs specs (giving env g) fs
    second_kept g v NoFormula n = (λ q. q, λ q. q)
    second_kept g v (MoreFormulas f fs) n = first_kept g v fs (neither (bound_in name f) (bound_in_some name fs) n).1
