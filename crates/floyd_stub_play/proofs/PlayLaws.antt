-- What QED comes to.
use Rattle.std.proofs.Common.{◌≡◌, List, [], ◌∷◌, length, Ok, refl, arith}
use Rattle.floyd_text.specs.declared.place.Place.{Place}
use Rattle.floyd_stub_goal.specs.declared.stack.Numbered.{Numbered}
use Rattle.floyd_stub_play.specs.Derivation.{at_end}

-- where no goal is left, QED is accepted
pub end_none : (end : Place) (left : List Numbered) → length left ≡ 0 → at_end end left ≡ Ok tt
end_none end [] e = refl
end_none end (g ∷ gs) e = absurd (omega (arith, e))
