-- Names of specifications and scripts, character by character.
use Rattle.std.proofs.Common.{◌≡◌, ℕ, ◌+◌, ◌-◌, ◌<◌, ◌≤◌, false, eqb, List, [], ◌∷◌, length, drop, suc, zero, refl, arith}
use Rattle.floyd_lex.specs.Unicode.{name_step, name_len, name_len_after}

-- the bytes of a character count
pub inside_name : (inside : ℕ) (bytes : List ℕ) → inside ≤ length bytes → name_len_after inside bytes ≡ inside + name_len (drop inside bytes)
inside_name zero [] h = refl
inside_name zero (b ∷ bytes) h = omega arith
inside_name (suc inside) [] h = absurd (omega (arith, h))
inside_name (suc inside) (b ∷ bytes) h = rw (inside_name inside bytes (omega (arith, h))) (omega arith)

-- a character and what follows it
pub name_len_step : (bytes : List ℕ) (n : ℕ) → name_step bytes ≡ n → 0 < n → n ≤ length bytes → name_len bytes ≡ n + name_len (drop n bytes)
name_len_step [] n e some h = absurd (omega (arith, some, h))
name_len_step (b ∷ bytes) zero e some h = absurd (omega (arith, some))
name_len_step (b ∷ bytes) (suc n) e some h =
    let more : eqb (suc n) 0 ≡ false = grind arith in
    let less : suc n - 1 ≡ n = omega arith in
    rw (e, more, less, inside_name n bytes (omega (arith, h))) (omega arith)

-- a name ends where no character goes on with it
pub name_len_stop : (bytes : List ℕ) → name_step bytes ≡ 0 → name_len bytes ≡ 0
name_len_stop [] e = refl
name_len_stop (b ∷ bytes) e = rw e refl
