-- Where an object lies that an expression stands for.
use Rattle.std.specs.Prelude.{Result}
use Rattle.floyd_text.specs.declared.refusal.No.{No}
use Rattle.floyd_ctypes.specs.Structs.{Structs}
use Rattle.floyd_clight.specs.declared.syntax.Expr.{Expr}
use Rattle.floyd_clight.specs.Types.{type_of}
use Rattle.floyd_assert_trees.specs.declared.assertion.Assertion.{Assertion}
use Rattle.floyd_fieldpath.specs.Written.{on_ok}
use Rattle.floyd_symexpr_rows.specs.Rows.{nothing_needed}
use Rattle.floyd_symexpr_paths.specs.declared.location.Located.{Located}
use Rattle.floyd_symexpr_paths.specs.Bounds.{located}
use Rattle.floyd_symexpr.specs.Expressions.{read}

abbrev pub locate : Assertion → Structs → Expr → Result Located No
locate source structs e = on_ok ((read source structs e).place nothing_needed) (λ l. located structs source.parts (type_of e) l.0 l.1)
