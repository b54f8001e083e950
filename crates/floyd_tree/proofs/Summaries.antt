-- A variable whose bit is not in a summary does not occur.
use Rattle.std.proofs.Common.{◌≡◌, ℕ, ◌*◌, ◌^◌, ◌<◌, Bool, true, false, ◌||◌, List, refl, ap, sym, ◌∙◌, subst, arith}
use Rattle.std.specs.Prelude.{bytes_eq, bit_and, bit_or}
use Rattle.std.specs.Int.{bit_at}
use Rattle.std.proofs.lemmas.Nat.Bits.{bit_at_or, bit_at-lt, bit_at-pow_same, and_pow}
use Rattle.std.proofs.lemmas.Slice.Eq.{bytes_eq-Decides}
use Rattle.floyd_tree_sorts.specs.declared.heads.Head.{Head}
use Rattle.floyd_tree_sorts.specs.declared.heads.Head.TheVariants.{Variable}
use Rattle.floyd_tree_sorts.specs.Heads.{is_variable}
use Rattle.floyd_tree.specs.Plain.{Plain, Plains, At, Done, More, plains, head_of, kids_of, mentions, mentions_in}
use Rattle.floyd_tree.specs.Code.{plains-listed}
use Rattle.std.proofs.Math.Pow.{pow_pos}
use Rattle.floyd_tree_sorts.specs.Prints.{slot, head_summary}
use Rattle.floyd_tree.specs.Prints.{summary, summaries_from}

pub same_name : (x y : List ℕ) → bytes_eq x y ≡ true → x ≡ y
same_name x y h = (bytes_eq-Decides x y).0 h

-- bits that are set stay set
pub or_left : (a b i : ℕ) → bit_at a i ≡ 1 → bit_at (bit_or a b) i ≡ 1
or_left a b i h = bit_at_or a b i ∙ (let low : bit_at b i < 2 = bit_at-lt b i in omega arith)

pub or_right : (a b i : ℕ) → bit_at b i ≡ 1 → bit_at (bit_or a b) i ≡ 1
or_right a b i h = bit_at_or a b i ∙ (let low : bit_at a i < 2 = bit_at-lt a i in omega arith)

kept : (m i : ℕ) (ts : Plains) → bit_at m i ≡ 1 → bit_at (summaries_from m ts) i ≡ 1
kept m i Done h = h
kept m i (More t ts) h = kept (bit_or m (summary t)) i ts (or_left m (summary t) i h)

head_bit : (x : List ℕ) (head : Head) → is_variable x head ≡ true → bit_at (head_summary head) (slot x) ≡ 1
head_bit x (Variable y s) h = subst (λ z. bit_at (2 ^ slot z) (slot x) ≡ 1) (same_name x y h) (bit_at-pow_same (slot x))
head_bit x head h = absurd cc

-- one of two is true
pub either : {P : Type 0} (a b : Bool) → (a || b) ≡ true → (a ≡ true → P) → (b ≡ true → P) → P
either true b h p q = p refl
either false b h p q = q h

mutual
  covers : (x : List ℕ) (t : Plain) → mentions x t ≡ true → bit_at (summary t) (slot x) ≡ 1
  covers x (At head kids) h =
      either (is_variable x head) (mentions_in x kids) h
      (λ e. kept (head_summary head) (slot x) kids (head_bit x head e))
      (λ e. covers_in x (head_summary head) kids e)

  pub covers_in : (x : List ℕ) (m : ℕ) (ts : Plains) → mentions_in x ts ≡ true → bit_at (summaries_from m ts) (slot x) ≡ 1
  covers_in x m Done h = absurd cc
  covers_in x m (More t ts) h =
      either (mentions x t) (mentions_in x ts) h
      (λ e. kept (bit_or m (summary t)) (slot x) ts (or_right m (summary t) (slot x) (covers x t e)))
      (λ e. covers_in x (bit_or m (summary t)) ts e)

not_true : (b : Bool) → (b ≡ true → ⊥) → b ≡ false
not_true true h = absurd (h refl)
not_true false h = refl

-- where the bit is not set, what would set it is not so
pub no_bit : (m i : ℕ) (test : Bool) → bit_and m (2 ^ i) ≡ 0 → (test ≡ true → bit_at m i ≡ 1) → test ≡ false
no_bit m i test h sets =
    not_true test
    (λ e.
    let one : 1 * 2 ^ i ≡ 0 = sym (ap (λ n. n * 2 ^ i) (sets e)) ∙ sym (and_pow m i) ∙ h in
    let some : 0 < 2 ^ i = pow_pos i in
    omega arith)

pub not_mentioned : (x : List ℕ) (t : Plain) → bit_and (summary t) (2 ^ slot x) ≡ 0 → mentions x t ≡ false
not_mentioned x t h = no_bit (summary t) (slot x) (mentions x t) h (covers x t)

pub mentions_parts : (x : List ℕ) (t : Plain) → mentions x t ≡ (is_variable x (head_of t) || mentions_in x (plains (kids_of t)))
mentions_parts x (At head kids) = ap (λ ts. is_variable x head || mentions_in x ts) (sym (plains-listed kids))
