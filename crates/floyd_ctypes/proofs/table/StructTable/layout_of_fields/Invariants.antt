use Rattle.std.proofs.Common.{◌≡◌, ◌*◌, ◌≤◌, drop}
use Rattle.floyd_ctypes.specs.Layout.{layout, laid_after, nothing_laid}
use Rattle.floyd_ctypes.proofs.table.StructTable.layout_of_fields.Given as goal

-- what is laid, with the rest after it, is all; no field takes more than its greatest size and seven bytes before it
abbrev pub invariant-fields : goal.invariant-fields
invariant-fields l = record {
  rest : laid_after (layout l.self) l.laid (drop l.field-index l.fields) ≡ laid_after (layout l.self) nothing_laid l.fields;
  end : l.laid.size ≤ l.field-index * 4294967302;
  some : 1 ≤ l.laid.align;
  few : l.laid.align ≤ 8;
}
