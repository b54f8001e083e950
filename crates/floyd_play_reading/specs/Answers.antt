-- What a call answers is so, unless memory ran out.
use Rattle.std.specs.Prelude.{Result, Ok, Err}
use Rattle.floyd_text.specs.declared.refusal.Halt.{Halt}
use Rattle.floyd_text.specs.declared.refusal.Halt.TheVariants.{Refused, Memory}
use Rattle.floyd_text.specs.declared.refusal.Refusal.{Refusal}

abbrev pub IsAnswer : {A : Type 0} → (Result A Refusal → Type 0) → Result A Halt → Type 0
IsAnswer Right (Ok x) = Right (Ok x)
IsAnswer Right (Err (Refused refusal)) = Right (Err refusal)
IsAnswer Right (Err Memory) = Unit {0}
