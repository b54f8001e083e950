-- What the code reads where the names of types in scope may change: they stand beside the answer.
use Rattle.std.specs.Prelude.{Result, Ok, Err}
use Rattle.floyd_grammar.specs.declared.stop.Stop.{Stop}
use Rattle.floyd_cparse_trees.specs.declared.declarations.External.{External}
use Rattle.floyd_cparse_types.specs.declared.values.Declarators.{Declarators}
use Rattle.floyd_cparse_tokens.specs.Tokens.{Types}
use Rattle.floyd_cparse.specs.Units.{Typedefs, ReadExternal, read_external}

abbrev pub external_in : Types → Result External Stop → Result ReadExternal Stop
external_in types (Ok tree) = Ok (read_external types tree)
external_in types (Err e) = Err e

abbrev pub typedefs_in : Types → Result Declarators Stop → Result Typedefs Stop
typedefs_in types (Ok all) = Ok (record { items = all.items; types = types; end = all.end })
typedefs_in types (Err e) = Err e
