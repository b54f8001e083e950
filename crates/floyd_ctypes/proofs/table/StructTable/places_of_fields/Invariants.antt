use Rattle.std.proofs.Common.{◌≡◌, ◌*◌, ◌≤◌, ℕ, List, drop, bytes_eq}
use Rattle.indexmap.specs.IndexMap.{get}
use Rattle.floyd_ctypes.specs.Layout.{layout, nothing_laid}
use Rattle.floyd_ctypes.specs.Stored.{place_from, either}
use Rattle.floyd_ctypes.proofs.table.StructTable.places_of_fields.Given as goal

-- the places so far, and of other names those in the rest, are all
abbrev pub invariant-fields : goal.invariant-fields
invariant-fields l = record {
  rest : (name : List ℕ) → either (get bytes_eq l.places name) (place_from (layout l.self) l.index l.laid (drop l.index l.fields) name)
      ≡ place_from (layout l.self) 0 nothing_laid l.fields name;
  end : l.laid.size ≤ l.index * 4294967302;
}
