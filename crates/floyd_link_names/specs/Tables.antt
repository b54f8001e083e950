-- Tables of names that are declared and defined.
use Rattle.std.specs.Prelude.{List, [], ◌∷◌}
use Rattle.floyd_ctypes.specs.declared.ctype.CType.{CType}
use Rattle.floyd_termread_scope.specs.Scopes.{Named}
use Rattle.floyd_specread_sources.specs.Tables.{put_new}
use Rattle.floyd_link_names.specs.declared.entries.Entry.{Entry}

-- each name with its first type
abbrev pub with_types : List Entry → Named CType → Named CType
with_types [] table = table
with_types (e ∷ es) table = with_types es (put_new e.name e.ctype table)

abbrev pub with_names : List Entry → Named (Unit {0}) → Named (Unit {0})
with_names [] table = table
with_names (e ∷ es) table = with_names es (put_new e.name tt table)
