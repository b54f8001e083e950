-- Numbers and their bytes.
use Rattle.std.proofs.Common.{◌≡◌, ℕ, zero, suc, ◌+◌, ◌*◌, ◌/◌, ◌%◌, ◌^◌, ◌<◌, length, Some, option_map, refl, sym, ◌∙◌, ap, arith, lit<}
use Rattle.std.proofs.Math.Nat.{mod-eq_of_lt, pow-suc, one-le-pow, mul_comm, div-one, div-div-eq-div-mul}
use Rattle.std.proofs.Math.Arith.{mod-mul}
use Rattle.std.specs.Prelude.{slice_get}
use Rattle.floyd_memval.specs.declared.bytes.MemByte.TheVariants.{Byte}
use Rattle.floyd_memval.specs.Decoding.{number_in}
use Rattle.floyd_memval.specs.Encoding.{number_bytes}

pub length-number_bytes : (n x : ℕ) → length (number_bytes n x) ≡ n
length-number_bytes zero x = refl
length-number_bytes (suc n) x = ap suc (length-number_bytes n (x / 256))

-- the low byte and the others
low_and_rest : (n x : ℕ) → x % 256 + 256 * (x / 256 % 256 ^ n) ≡ x % 256 ^ suc n
low_and_rest n x =
    let some : 0 < 256 = lit< tt in
    let some_power : 0 < 256 ^ n = one-le-pow n 256 some in
    let e = mod-mul x some_power some in
    let p = pow-suc 256 n in
    rw p (omega (arith, e))

-- the number in n bytes of a number is that number modulo 2 to the 8 n
pub number_in-number_bytes : (n x : ℕ) → number_in (number_bytes n x) ≡ Some (x % 256 ^ n)
number_in-number_bytes zero x = ap Some (omega arith)
number_in-number_bytes (suc n) x =
    ap (option_map (λ m. x % 256 + 256 * m)) (number_in-number_bytes n (x / 256)) ∙ ap Some (low_and_rest n x)

pub number_in-number_bytes_small : (n x : ℕ) → x < 256 ^ n → number_in (number_bytes n x) ≡ Some x
number_in-number_bytes_small n x h = number_in-number_bytes n x ∙ ap Some (mod-eq_of_lt h)

-- at place i stand the bits from 8 i on
pub slice_get-number_bytes : (n x i : ℕ) → i < n → slice_get (number_bytes n x) i ≡ Some (Byte (x / 256 ^ i % 256))
slice_get-number_bytes zero x i below = absurd (omega arith)
slice_get-number_bytes (suc n) x zero below = ap (λ y. Some (Byte (y % 256))) (sym (div-one x))
slice_get-number_bytes (suc n) x (suc i) below =
    slice_get-number_bytes n (x / 256) i (omega arith)
    ∙ ap (λ y. Some (Byte (y % 256))) (div-div-eq-div-mul x 256 (256 ^ i) ∙ ap (λ m. x / m) (mul_comm 256 (256 ^ i) ∙ sym (pow-suc 256 i)))
