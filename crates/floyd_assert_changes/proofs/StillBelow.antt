-- The bits of changes below a binder.
use Rattle.std.proofs.Common.{◌≡◌, ℕ, ◌*◌, ◌<◌, ◌^◌, max, Bool, true, false, List, [], ◌∷◌, Option, Some, zero, suc, refl, sym, ◌∙◌, ap, subst, arith}
use Rattle.std.specs.Prelude.{bytes_eq, bit_and, bit_or, cond}
use Rattle.std.specs.Int.{bit_at}
use Rattle.std.specs.Map.{lookup}
use Rattle.std.proofs.Math.Pow.{pow_pos}
use Rattle.std.proofs.lemmas.Nat.Bits.{bit_at_or, bit_at-lt, bit_at-pow_same, and_pow}
use Rattle.std.proofs.lemmas.Slice.Eq.{bytes_eq-Decides}
use Rattle.floyd_tree_sorts.specs.Prints.{slot}
use Rattle.floyd_tree.specs.Plain.{Plain}
use Rattle.floyd_tree.proofs.Summaries.{or_left, or_right}
use Rattle.floyd_truth.specs.Capture.{Becomes, Called, Changes, Put}
use Rattle.floyd_truth.specs.Replace.{puts}
use Rattle.floyd_assert_changes.proofs.Replacing.{no_times}
use Rattle.floyd_assert_changes.specs.ChangesClauses.{IsStill, Stays, bits_onto}

by_name : (x y v : List ℕ) (o : Option Becomes) (b : Bool) → bytes_eq v x ≡ b → (v ≡ x → y ≡ v) → Stays o v → Stays (cond b (Some (Called y)) o) v
by_name x y v o true e h k = h ((bytes_eq-Decides v x).0 e)
by_name x y v o false e h k = k

-- where the name stays
pub still_kept : (bits : ℕ) (ch : Changes) (x y : List ℕ) → x ≡ y → IsStill bits ch → IsStill bits ((x, Called y) ∷ ch)
still_kept bits ch x y e h v l = by_name x y v (lookup (bytes_eq v) ch) (bytes_eq v x) refl (λ s. sym e ∙ sym s) (h v l)

no_bit_at : (m i : ℕ) → bit_and m (2 ^ i) ≡ 0 → bit_at m i ≡ 0
no_bit_at m i h =
    let zero_is : bit_at m i * 2 ^ i ≡ 0 = sym (and_pow m i) ∙ h in
    let some : 0 < 2 ^ i = pow_pos i in
    by (bit_at m i) refl (bit_at-lt m i) zero_is some
  where
    by : (b : ℕ) → bit_at m i ≡ b → bit_at m i < 2 → bit_at m i * 2 ^ i ≡ 0 → 0 < 2 ^ i → bit_at m i ≡ 0
    by zero e l z s = e
    by (suc b) e l z s =
        let one : bit_at m i ≡ 1 = omega (arith, e, l) in
        let w : 1 * 2 ^ i ≡ 0 = sym (ap (λ n. n * 2 ^ i) one) ∙ z in
        absurd (omega (arith, w, s))

-- where it is another one
pub still_renamed : (bits : ℕ) (ch : Changes) (x y : List ℕ) → IsStill bits ch → IsStill (bit_or bits (2 ^ slot x)) ((x, Called y) ∷ ch)
still_renamed bits ch x y h v l =
    let none : bit_at (bit_or bits (2 ^ slot x)) (slot v) ≡ 0 = no_bit_at (bit_or bits (2 ^ slot x)) (slot v) l in
    let most : max (bit_at bits (slot v)) (bit_at (2 ^ slot x) (slot v)) ≡ 0 = sym (bit_at_or bits (2 ^ slot x) (slot v)) ∙ none in
    by_name x y v (lookup (bytes_eq v) ch) (bytes_eq v x) refl
    (λ s.
    let one : bit_at (2 ^ slot x) (slot v) ≡ 1 = ap (λ n. bit_at (2 ^ slot x) (slot n)) s ∙ bit_at-pow_same (slot x) in
    absurd (omega (arith, most, one)))
    (h v (and_pow bits (slot v) ∙ ap (λ n. n * 2 ^ slot v) (let low : bit_at bits (slot v) ≡ 0 = omega (arith, most) in low) ∙ no_times (2 ^ slot v)))

-- the bits of variables that are replaced
kept_bit : (m i : ℕ) (by : List (List ℕ × Plain)) → bit_at m i ≡ 1 → bit_at (bits_onto m by) i ≡ 1
kept_bit m i [] h = h
kept_bit m i (p ∷ by) h = kept_bit (bit_or m (2 ^ slot p.0)) i by (or_left m (2 ^ slot p.0) i h)

zero_one : (n : ℕ) → n ≡ 0 → n ≡ 1 → ⊥
zero_one n e h = omega (arith, e, h)

put_here : (m : ℕ) (p : List ℕ × Plain) (by : List (List ℕ × Plain)) (v : List ℕ) (b : Bool) → bytes_eq v p.0 ≡ b → bit_and (bits_onto (bit_or m (2 ^ slot p.0)) by) (2 ^ slot v) ≡ 0 → Stays (lookup (bytes_eq v) (puts by)) v → Stays (cond b (Some (Put p.1)) (lookup (bytes_eq v) (puts by))) v
put_here m p by v false e h k = k
put_here m p by v true e h k =
    zero_one (bit_at (bits_onto (bit_or m (2 ^ slot p.0)) by) (slot v)) (no_bit_at (bits_onto (bit_or m (2 ^ slot p.0)) by) (slot v) h)
    (kept_bit (bit_or m (2 ^ slot p.0)) (slot v) by
    (or_right m (2 ^ slot p.0) (slot v) (ap (λ n. bit_at (2 ^ slot n) (slot v)) (sym ((bytes_eq-Decides v p.0).0 e)) ∙ bit_at-pow_same (slot v))))

puts_still_from : (m : ℕ) (by : List (List ℕ × Plain)) → IsStill (bits_onto m by) (puts by)
puts_still_from m [] v h = tt
puts_still_from m (p ∷ by) v h = put_here m p by v (bytes_eq v p.0) refl h (puts_still_from (bit_or m (2 ^ slot p.0)) by v h)

pub puts_still : (by : List (List ℕ × Plain)) (ch : Changes) (bits : ℕ) → ch ≡ puts by → bits ≡ bits_onto 0 by → IsStill bits ch
puts_still by ch bits e h = subst (λ c. IsStill bits c) (sym e) (subst (λ n. IsStill n (puts by)) (sym h) (puts_still_from 0 by))
