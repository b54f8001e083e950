-- LOCAL once a temporary is set.
use Rattle.std.proofs.Common.{◌≡◌, ℕ, ◌+◌, Bool, true, false, cond, inl, inr, List, [], ◌∷◌, ◌++◌, map, length, length-append, Some, append_assoc, refl, sym, ap, subst, ◌∙◌, bytes_eq, slice_set, if◌then◌else◌}
use Rattle.std.specs.List.{position_from}
use Rattle.std.proofs.lemmas.Iterator.Adapters.{position_from-zero}
use Rattle.std.proofs.lemmas.Slice.Eq.{bytes_eq-Decides}
use Rattle.floyd_int.specs.declared.kinds.Value.{Value}
use Rattle.floyd_clight_machine.specs.Evaluation as m
use Rattle.floyd_tree.specs.Plain.{Plain}
use Rattle.floyd_tree_values.specs.BuiltIns.{Env}
use Rattle.floyd_tree_values.specs.Data.{Val}
use Rattle.floyd_tree_values.specs.Means.{Defs, Means}
use Rattle.floyd_tree_values.specs.Rules.{AreDistinct, IsOneOf}
use Rattle.floyd_assert_trees.specs.declared.assertion.Local.{Local}
use Rattle.floyd_assert_meaning.specs.Assertions.{LocalsHold}
use Rattle.floyd_forward.specs.Set.{local_place, put_local}

module _ (defs : Defs) (env : Env) (temps : List ℕ → Value) (x : List ℕ) (t : Plain) (v : Value) (means : Means defs env t (Val v)) where
  abbrev later : List ℕ → Value
  later = m.with_temp x v temps

  abbrev new : Local
  new = record { name = x; term = t }

  -- another temporary keeps its value
  kept : (y : List ℕ) (u : Plain) → (x ≡ y → ⊥) → Means defs env u (Val (temps y)) → Means defs env u (Val (later y))
  kept y u differ h = by (bytes_eq y x) refl
    where
      by : (b : Bool) → bytes_eq y x ≡ b → Means defs env u (Val (if b then v else temps y))
      by true e = absurd (differ (sym ((bytes_eq-Decides y x).0 e)))
      by false e = h

  set_now : Means defs env t (Val (later x))
  set_now = subst (λ b. Means defs env t (Val (if b then v else temps x))) (sym ((bytes_eq-Decides x x).1 refl)) means

  locals_both : (ks ls : List Local) → LocalsHold defs env later ks → LocalsHold defs env later ls → LocalsHold defs env later (ks ++ ls)
  locals_both [] ls h k = k
  locals_both (l ∷ ks) ls h k = (h.0, locals_both ks ls h.1 k)

  others_kept : (ls : List Local) → (IsOneOf (map (λ (l : Local). l.name) ls) x → ⊥) → LocalsHold defs env temps ls → LocalsHold defs env later ls
  others_kept [] n h = tt
  others_kept (l ∷ ls) n h = (kept l.name l.term (λ e. n (inl e)) h.0, others_kept ls (λ o. n (inr o)) h.1)

  put_at : (before ls : List Local) (a : Local) → slice_set (before ++ a ∷ ls) (length before) new ≡ before ++ new ∷ ls
  put_at [] ls a = refl
  put_at (b ∷ before) ls a = ap (λ ks. b ∷ ks) (put_at before ls a)

  abbrev Is : Local → Bool
  Is l = bytes_eq x l.name

  one_of : (y : List ℕ) (names : List (List ℕ)) → x ≡ y → IsOneOf names x → IsOneOf names y
  one_of y names e h = subst (IsOneOf names) e h

  false_true : false ≡ true → ⊥
  false_true e = absurd cc

  pub put_holds : (before ls : List Local) → AreDistinct (map (λ (l : Local). l.name) ls) → LocalsHold defs env later before → LocalsHold defs env temps ls → LocalsHold defs env later (put_local new (position_from Is (length before) ls) (before ++ ls))
  put_holds before [] d h k = locals_both (before ++ []) (new ∷ []) (locals_both before [] h tt) (set_now, tt)
  put_holds before (a ∷ ls) d h k =
      by (bytes_eq x a.name) refl
      (λ e. subst (λ ks. LocalsHold defs env later (put_local new (position_from Is (length before + 1) ls) ks)) (append_assoc before (a ∷ []) ls)
      (subst (λ n. LocalsHold defs env later (put_local new (position_from Is n ls) ((before ++ a ∷ []) ++ ls))) (length-append before (a ∷ []))
      (put_holds (before ++ a ∷ []) ls d.1 (locals_both before (a ∷ []) h (kept a.name a.term e k.0, tt)) k.1)))
    where
      by : (b : Bool) → bytes_eq x a.name ≡ b → ((x ≡ a.name → ⊥) → LocalsHold defs env later (put_local new (position_from Is (length before + 1) ls) (before ++ a ∷ ls))) → LocalsHold defs env later (put_local new (cond b (Some (length before)) (position_from Is (length before + 1) ls)) (before ++ a ∷ ls))
      by true e next =
          let same : x ≡ a.name = (bytes_eq-Decides x a.name).0 e in
          subst (LocalsHold defs env later) (sym (put_at before ls a)) (locals_both before (new ∷ ls) h (set_now, others_kept ls (λ o. d.0 (one_of a.name (map (λ (l : Local). l.name) ls) same o)) k.1))
      by false e next = next (λ same. false_true (sym e ∙ (bytes_eq-Decides x a.name).1 same))

  pub set_locals : (ls : List Local) → AreDistinct (map (λ (l : Local). l.name) ls) → LocalsHold defs env temps ls → LocalsHold defs env later (put_local new (local_place x ls) ls)
  set_locals ls d h = subst (λ o. LocalsHold defs env later (put_local new o ls)) (sym (position_from-zero Is ls)) (put_holds [] ls d tt h)
