-- What the code of a reader answers.
use Rattle.std.specs.Prelude.{◌≡◌, List, Result, Ok, Err}
use Rattle.floyd_grammar.specs.declared.stop.Stop.TheVariants as stop
use Rattle.floyd_grammar.specs.declared.stop.Stop.{Stop}
use Rattle.floyd_grammar.specs.declared.stop.Fault.{Fault}
use Rattle.floyd_grammar.specs.ParseClauses.{Read}

-- The answer, and the tokens that are left, are what a parser function says, unless memory ran out.
abbrev pub Gives : {T A : Type 0} → Result A Stop → List T → Read T A → Type 0
Gives (Ok x) rest wanted = wanted ≡ Ok (x, rest)
Gives (Err (stop.Fault fault)) rest wanted = wanted ≡ Err fault
Gives (Err stop.Memory) rest wanted = Unit {0}

-- The answer is what a parser function says of all of a list, unless memory ran out.
abbrev pub GivesAll : {A : Type 0} → Result A Stop → Result A Fault → Type 0
GivesAll (Ok x) wanted = wanted ≡ Ok x
GivesAll (Err (stop.Fault fault)) wanted = wanted ≡ Err fault
GivesAll (Err stop.Memory) wanted = Unit {0}
