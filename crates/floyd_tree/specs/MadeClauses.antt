-- What is measured before a node is made.
use Rattle.std.specs.Prelude.{ℕ, ◌+◌, Option, Some, None, ◌&&◌, nat_le, if◌then◌else◌}
use Rattle.floyd_tree.specs.Plain.{Plains, sizes, heights}

-- the size and the height of a tree with these kids, unless it is beyond a limit
abbrev pub measures_of : Plains → Option (ℕ × ℕ)
measures_of kids = if nat_le (sizes kids + 1) 65536 && nat_le (heights kids + 1) 256 then Some (sizes kids + 1, heights kids + 1) else None
