-- All of a list of tokens: an exact reader answers what reads and nothing else, there is one reading at most, and what
-- is refused stops where the tokens are no front any more, for the greatest cause there.
use Rattle.std.proofs.Common.{◌≡◌, ℕ, suc, ◌+◌, ◌-◌, ◌<◌, ◌≤◌, Bool, List, [], ◌∷◌, ◌++◌, length, take, drop, Result, Ok, Err, refl, sym, ◌∙◌, ap, subst, append-nil, length-append, take-append-drop, arith}
use Rattle.std.proofs.Math.Seq.{take-append_seam, drop-append_seam, take-append-add}
use Rattle.std.proofs.lemmas.List.{take-append-le}
use Rattle.floyd_grammar.specs.declared.stop.Fault.{Fault}
use Rattle.floyd_grammar.specs.Phrase.{Phrase}
use Rattle.floyd_grammar.specs.ParseClauses.{Parser, Read, whole, ended, ended_read}
use Rattle.floyd_grammar.specs.Refused.{IsGreatest, IsCause, IsRefused}
use Rattle.floyd_grammar.proofs.Exact.{Within, Exact, no_cause, same_fault}
use Rattle.floyd_grammar.proofs.Either.{past}

module _ {T A : Type 0} (p : Parser T A) (g : Phrase T A) (first bad : T → Bool) (more : A → T → Bool) (E : Exact p g first bad more) where
  -- what reads is answered
  pub all_only : (ts : List T) (x : A) → g.reads ts x → whole p ts ≡ Ok x
  all_only ts x d = ap ended_read (ap p (sym (append-nil ts)) ∙ E.reads ts x [] d tt)

  -- there is one reading at most
  pub unique : (ts : List T) (x y : A) → g.reads ts x → g.reads ts y → x ≡ y
  unique ts x y d e = same x y (sym (all_only ts x d) ∙ all_only ts y e)
    where
      same : (x y : A) → (let z : Result A Fault = Ok x in z) ≡ Ok y → x ≡ y
      same x y e = cc

  found_at : (ts : List T) (o : Read T A) → p ts ≡ o → (x : A) → ended_read o ≡ Ok x → g.reads ts x
  found_at ts (Ok (y, [])) e x q =
      let d = E.ok ts y [] e in
      let same : y ≡ x = cc in
      subst (λ (z : A). g.reads ts z) same (subst (λ (z : List T). g.reads z y) (sym (d.1 ∙ append-nil d.0)) d.2)
  found_at ts (Ok (y, t ∷ r)) e x q = cc
  found_at ts (Err f) e x q = cc

  -- what is answered reads
  pub all_found : (ts : List T) (x : A) → whole p ts ≡ Ok x → g.reads ts x
  all_found ts x e = found_at ts (p ts) refl x e

  -- what a list that reads begins with is a front
  pub prefix_front : (u v : List T) (x : A) → g.reads (u ++ v) x → g.front u
  prefix_front u v x d = E.shorter u v (E.whole (u ++ v) x d)

  -- Where the reader stopped, as a refusal of the list. It went no further than to the next token.
  pub is_refused : (ts u r : List T) (f : Fault) → ((x : A) → g.reads ts x → ⊥) → ts ≡ u ++ r → length r ≡ f.left → g.front u → IsCause g.refuses u r f.cause
      → ((n : ℕ) → n < length r → Within (p ts) n → ⊥) → IsRefused g ts f
  is_refused ts u r f no_reading cut len d c stays = record {
    no_reading = no_reading;
    place = record {
      within = omega (arith, at);
      so_far = λ j le. subst g.front (sym (front_is j (omega (arith, at, le)))) (E.shorter (take j u) (drop j u) (subst g.front (sym (take-append-drop j u)) d));
      no_further = λ lt d'. further r refl (omega (arith, at, lt, ap length cut, length-append u r)) (subst (λ (z : List T). g.front z) (ap (λ (n : ℕ). take (n + 1) ts) at) d');
    };
    cause = subst (λ (n : ℕ). IsCause g.refuses (take n ts) (drop n ts) f.cause) (sym at) (subst (λ (z : List T). IsCause g.refuses z (drop (length u) ts) f.cause) (sym before) (subst (λ (z : List T). IsCause g.refuses u z f.cause) (sym behind) c));
  }
    where
      at : length ts - f.left ≡ length u
      at = omega (arith, ap length cut, length-append u r, len)

      before : take (length u) ts ≡ u
      before = ap (λ (z : List T). take (length u) z) cut ∙ take-append_seam u r

      behind : drop (length u) ts ≡ r
      behind = ap (λ (z : List T). drop (length u) z) cut ∙ drop-append_seam u r

      front_is : (j : ℕ) → j ≤ length u → take j ts ≡ take j u
      front_is j le = ap (λ (z : List T). take j z) cut ∙ take-append-le j u r le

      further : (z : List T) → r ≡ z → 0 < length z → g.front (take (length u + 1) ts) → ⊥
      further [] e lt d' = omega arith
      further (t ∷ z) e lt d' =
          let split : ts ≡ u ++ t ∷ z = cut ∙ ap (λ (s : List T). u ++ s) e in
          let one_more : take (length u + 1) ts ≡ u ++ t ∷ [] = ap (λ (s : List T). take (length u + 1) s) split ∙ take-append-add u (t ∷ z) 1 in
          stays (length z) (omega (arith, ap length e)) (subst (λ (s : List T). Within (p s) (length z)) (sym split) (past p g first bad more E u t z (subst g.front one_more d')))

  no_reading : (ts : List T) (f : Fault) → whole p ts ≡ Err f → (x : A) → g.reads ts x → ⊥
  no_reading ts f e x d = let e' = all_only ts x d in cc

  refused_at : (ts : List T) (o : Read T A) → p ts ≡ o → (f : Fault) → ended_read o ≡ Err f → whole p ts ≡ Err f → IsRefused g ts f
  refused_at ts (Ok (x, [])) e f q w = cc
  refused_at ts (Ok (x, t ∷ r)) e f q w =
      let z : Fault = record { left = suc (length r); cause = 0 } in
      let d = E.ok ts x (t ∷ r) e in
      let none : IsGreatest (g.refuses d.0 t) 0 = no_cause (λ k d'. E.calm d.0 x t r k (ap p (sym d.1) ∙ e) d') in
      subst (λ (y : Fault). IsRefused g ts y) (same_fault z f (ended x (t ∷ r)) refl q)
      (is_refused ts d.0 (t ∷ r) z (no_reading ts f w) d.1 refl (E.whole d.0 x d.2) none
      (λ n lt win. let h : length (t ∷ r) ≤ n = subst (λ (o : Read T A). Within o n) e win in omega arith))
  refused_at ts (Err z) e f q w =
      let d = E.err ts z e in
      subst (λ (y : Fault). IsRefused g ts y) (same_fault z f (ended_read {T = T} {A = A} (Err z)) refl q)
      (is_refused ts d.0 d.1 z (no_reading ts f w) d.2 d.3 d.4 d.5
      (λ n lt win. let h : z.left ≤ n = subst (λ (o : Read T A). Within o n) e win in let len = d.3 in omega (arith, len)))

  -- what is refused does not read, and stops there
  pub all_refused : (ts : List T) (f : Fault) → whole p ts ≡ Err f → IsRefused g ts f
  all_refused ts f e = refused_at ts (p ts) refl f e e
