-- What the loops of decoding keep.
use Rattle.std.proofs.Common.{◌≡◌, ℕ, zero, suc, ◌+◌, ◌-◌, ◌*◌, ◌^◌, ◌<◌, ◌≤◌, Bool, true, false, ◌&&◌, List, [], ◌∷◌, length, get_or, drop, Some, None, option_map, refl, sym, ◌∙◌, ap, arith, add-one, lit<}
use Rattle.std.proofs.lemmas.List.{drop_more}
use Rattle.std.proofs.Math.Nat.{pow-le-pow_right, pow-suc}
use Rattle.floyd_memval.specs.declared.bytes.MemByte.{MemByte}
use Rattle.floyd_memval.specs.declared.bytes.MemByte.TheVariants.{Undef, Byte, Fragment}
use Rattle.floyd_memval.specs.Decoding.{number_in, is_fragment, are_fragments}

-- a byte that is no number leaves none in the whole
pub number_in-none : (bytes : List MemByte) (i : ℕ) → i < length bytes → ((b : ℕ) → get_or bytes i Undef ≡ Byte b → ⊥) → number_in bytes ≡ None
number_in-none [] i below other = absurd (omega arith)
number_in-none (Undef ∷ bytes) i below other = refl
number_in-none (Byte b ∷ bytes) zero below other = absurd (other b refl)
number_in-none (Byte b ∷ bytes) (suc i) below other = ap (option_map (λ n. b + 256 * n)) (number_in-none bytes i (omega arith) other)
number_in-none (Fragment v k ∷ bytes) i below other = refl

-- one more byte below the number of the bytes behind
pub number_in-byte : (bytes : List MemByte) (i j b n : ℕ) → j < length bytes → i ≡ j + 1 → get_or bytes j Undef ≡ Byte b → number_in (drop i bytes) ≡ Some n → number_in (drop j bytes) ≡ Some (b + 256 * n)
number_in-byte bytes i j b n below at byte behind =
    ap number_in (drop_more bytes j Undef below)
    ∙ ap (λ x. number_in (x ∷ drop (j + 1) bytes)) byte
    ∙ ap (λ k. option_map (λ m. b + 256 * m) (number_in (drop k bytes))) (sym at)
    ∙ ap (option_map (λ m. b + 256 * m)) behind

-- the bound of a number of m + 1 bytes
pub byte_bound : (low bits k m : ℕ) → bits < 256 ^ k → m ≡ k + 1 → low < 256 * (bits + 1) → low < 256 ^ m
byte_bound low bits k m h e g = rw (e, add-one, pow-suc) (grind arith)

pub room : (bits k : ℕ) → bits < 256 ^ k → k ≤ 7 → bits < 256 ^ 7
room bits k h small = let some : 0 < 256 = lit< tt in let more : 256 ^ k ≤ 256 ^ 7 = pow-le-pow_right some small in omega arith

-- whether what is left are fragments decides of the whole
are_fragments-next : (bytes : List MemByte) (i block offset : ℕ) (whole : Bool) → i < length bytes → whole ≡ are_fragments (length bytes - i) block offset (drop i bytes) → whole ≡ is_fragment (length bytes - 1 - i) block offset (get_or bytes i Undef) && are_fragments (length bytes - (i + 1)) block offset (drop (i + 1) bytes)
are_fragments-next bytes i block offset whole below so_far =
    let left : length bytes - i ≡ suc (length bytes - (i + 1)) = omega arith in
    let number : length bytes - (i + 1) ≡ length bytes - 1 - i = omega arith in
    so_far
    ∙ ap (λ n. are_fragments n block offset (drop i bytes)) left
    ∙ ap (are_fragments (suc (length bytes - (i + 1))) block offset) (drop_more bytes i Undef below)
    ∙ ap (λ n. is_fragment n block offset (get_or bytes i Undef) && are_fragments (length bytes - (i + 1)) block offset (drop (i + 1) bytes)) number

pub are_fragments-none : (bytes : List MemByte) (i block offset : ℕ) (whole : Bool) → i < length bytes → is_fragment (length bytes - 1 - i) block offset (get_or bytes i Undef) ≡ false → whole ≡ are_fragments (length bytes - i) block offset (drop i bytes) → whole ≡ false
are_fragments-none bytes i block offset whole below other so_far =
    are_fragments-next bytes i block offset whole below so_far
    ∙ ap (λ t. t && are_fragments (length bytes - (i + 1)) block offset (drop (i + 1) bytes)) other

pub are_fragments-more : (bytes : List MemByte) (i block offset : ℕ) (whole : Bool) → i < length bytes → is_fragment (length bytes - 1 - i) block offset (get_or bytes i Undef) ≡ true → whole ≡ are_fragments (length bytes - i) block offset (drop i bytes) → whole ≡ are_fragments (length bytes - (i + 1)) block offset (drop (i + 1) bytes)
are_fragments-more bytes i block offset whole below same so_far =
    are_fragments-next bytes i block offset whole below so_far
    ∙ ap (λ t. t && are_fragments (length bytes - (i + 1)) block offset (drop (i + 1) bytes)) same
