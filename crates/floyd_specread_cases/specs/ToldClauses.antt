-- A word of a private clause: what is told of what was read.
use Rattle.std.specs.Prelude.{◌≡◌, ℕ, Bool, false, Result, Ok, Err}
use Rattle.floyd_text.specs.declared.refusal.Halt.{Halt}
use Rattle.floyd_text.specs.declared.refusal.Halt.TheVariants.{Refused, Memory}

abbrev pub IsTold : Result (Bool × ℕ) Halt → Bool → Type 0
IsTold (Ok read) differ = differ ≡ read.0
IsTold (Err (Refused refusal)) differ = differ ≡ false
IsTold (Err Memory) differ = ⊥
