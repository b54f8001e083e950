-- Words of private clauses: what a test decides, and what it says of types that were read.
use Rattle.std.specs.Prelude.{◌≡◌, ℕ, Bool, true, false, List, Some, Result, Ok, Err}
use Rattle.floyd_text.specs.declared.refusal.Halt.{Halt}
use Rattle.floyd_text.specs.declared.refusal.Halt.TheVariants.{Refused, Memory}
use Rattle.floyd_termread_scope.specs.Scopes.{Named}
use Rattle.floyd_specread_sources.specs.declared.functions.Prototype.{Prototype}
use Rattle.floyd_specread_declarations.specs.Judging.{Differs}

abbrev pub Decides : Bool → Type 0 → Type 0
Decides true P = P
Decides false P = ¬ P

abbrev pub TypedUnlike : Named Prototype → List ℕ → Result (Prototype × ℕ) Halt → Bool → Type 0
TypedUnlike functions x (Ok typed) b = Decides b (Differs functions x (Some typed.0))
TypedUnlike functions x (Err (Refused refusal)) b = b ≡ false
TypedUnlike functions x (Err Memory) b = ⊥
