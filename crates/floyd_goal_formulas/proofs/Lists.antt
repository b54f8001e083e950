-- The last of terms.
use Rattle.std.proofs.Common.{◌≡◌, suc, ◌-◌, List, [], ◌∷◌, length, refl, ap, ◌∙◌, arith}
use Rattle.std.specs.Prelude.{slice_get}
use Rattle.floyd_tree.specs.Plain.{Plain}
use Rattle.floyd_goal_formulas.specs.Said.{last_of}

pub last_is : (ts : List Plain) → slice_get ts (length ts - 1) ≡ last_of ts
last_is [] = refl
last_is (a ∷ []) = refl
last_is (a ∷ b ∷ ts) =
    let e : length (a ∷ b ∷ ts) - 1 ≡ suc (length (b ∷ ts) - 1) = omega arith in
    ap (slice_get (a ∷ b ∷ ts)) e ∙ last_is (b ∷ ts)
