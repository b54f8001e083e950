use Rattle.std.proofs.Common.{◌≡◌, ◌++◌}
use Rattle.floyd_ctypes.proofs.table.copied.Given as goal

-- the copy so far and the rest are all
abbrev pub invariant-structs : goal.invariant-structs
invariant-structs l = l.copy.entries ++ l.tag-iterator ≡ l.structs.entries
