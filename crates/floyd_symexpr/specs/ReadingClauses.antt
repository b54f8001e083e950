-- What the parts of a reading of an expression ask of it.
use Rattle.std.specs.Prelude.{Bool, true, false, ◌&&◌}
use Rattle.floyd_int.specs.declared.kinds.IntOp.{IntOp}
use Rattle.floyd_int.specs.declared.kinds.IntOp.TheVariants.{Add}
use Rattle.floyd_ctypes.specs.declared.ctype.CType.{CType, Array'}
use Rattle.floyd_clight.specs.declared.syntax.Expr.{Expr}
use Rattle.floyd_clight_machine.specs.Evaluation.{is_zero_constant}
use Rattle.floyd_clight_machine.specs.Types.{is_pointer}

abbrev pub is_array : CType → Bool
is_array (Array' p t n) = true
is_array t = false

abbrev pub is_add : IntOp → Bool
is_add Add = true
is_add op = false

-- the constant 0 that is cast to this type is null
abbrev pub is_null_cast : CType → Expr → Bool
is_null_cast t e = is_pointer t && is_zero_constant e
