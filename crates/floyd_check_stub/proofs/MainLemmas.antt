-- Statements whose last is known.
use Rattle.std.proofs.Common.{◌≡◌, ◌&&◌, List, [], ◌∷◌, ◌++◌, refl, true, false, ap, ◌∙◌, Bool}
use Rattle.std.specs.List.{list_all}
use Rattle.floyd_clight.specs.declared.syntax.Stmt.{Stmt}
use Rattle.floyd_check_stub.specs.MainForm.{sets_constant, returns_set, ends_well, sets_and_returns}

and_assoc : (a b c : Bool) → (a && (b && c)) ≡ ((a && b) && c)
and_assoc true b c = refl
and_assoc false b c = refl

-- all before the last set constants, and the last returns
ends_with : (all front : List Stmt) (last : Stmt) → ends_well all (front ++ last ∷ []) ≡ (list_all sets_constant front && returns_set all last)
ends_with all [] last = refl
ends_with all (s ∷ []) last = and_assoc (sets_constant s) true (returns_set all last)
ends_with all (s ∷ t ∷ front) last =
    ap (λ (b : Bool). sets_constant s && b) (ends_with all (t ∷ front) last) ∙ and_assoc (sets_constant s) (list_all sets_constant (t ∷ front)) (returns_set all last)

pub split_at_last : (all front : List Stmt) (last : Stmt) → all ≡ front ++ last ∷ [] → sets_and_returns all ≡ (list_all sets_constant front && returns_set all last)
split_at_last all front last e = ap (ends_well all) e ∙ ends_with all front last
