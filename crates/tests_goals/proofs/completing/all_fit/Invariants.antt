use Rattle.std.proofs.Common.{ℕ, ◌<◌, IsTrue, get_or}
use Rattle.floyd_ctypes.specs.declared.field.Field.{Field}
use Rattle.floyd_ctypes.specs.Layout.{type_fits}
use Rattle.tests_goals.proofs.completing.all_fit.Given as goal

-- the fields so far fit
abbrev pub invariant-fields : goal.invariant-fields
invariant-fields l = (k : ℕ) (d : Field) → k < l.field-index → IsTrue (type_fits l.table (get_or l.fields k d).ty)
