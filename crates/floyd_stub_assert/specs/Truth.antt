-- The truth of formulas.
use Rattle.std.specs.Prelude.{◌≡◌, List, [], ◌∷◌}
use Rattle.floyd_ctypes.specs.declared.ctype.CType.{CType}
use Rattle.floyd_ctypes.specs.Has.{Has}
use Rattle.floyd_stub_assert.specs.declared.formula.Formula.{Formula, True, False, Equal, Hasty, And', more_of-Formula, end_of-Formula}
use Rattle.floyd_stub_assert.specs.Data.{Datum, Num, Val, Env, value}

abbrev pub IsOfType : CType → Datum → Type 0
IsOfType t (Num n) = ⊥
IsOfType t (Val v) = Has t v

abbrev pub Truth : Env → Formula → Type 0
Truth x True = Unit {0}
Truth x False = ⊥
Truth x (Equal a b) = value x a ≡ value x b
Truth x (Hasty t a) = IsOfType t (value x a)
Truth x (And' p (more_of-Formula f end_of-Formula) q (more_of-Formula g end_of-Formula)) = Truth x f × Truth x g

abbrev pub AllTrue : Env → List Formula → Type 0
AllTrue x [] = Unit {0}
AllTrue x (f ∷ fs) = Truth x f × AllTrue x fs
