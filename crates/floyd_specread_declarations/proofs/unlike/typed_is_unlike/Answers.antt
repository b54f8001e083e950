use Rattle.std.proofs.Common.{ℕ, Result, sym, subst}
use Rattle.floyd_text.specs.declared.refusal.Halt.{Halt}
use Rattle.floyd_specread_sources.specs.declared.functions.Prototype.{Prototype}
use Rattle.floyd_specread_declarations.specs.UnlikeClauses.{TypedUnlike}
use Rattle.floyd_specread_declarations.proofs.unlike.typed_is_unlike.Goals as goal

pub returns-in-Ok : goal.returns-in-Ok
returns-in-Ok c = subst (λ (r : Result (Prototype × ℕ) Halt). TypedUnlike c.args.functions.now c.args.name.now r c.is_unlike.result) (sym c.in-Ok.is) (rw c.as_slice.ensures at c.is_unlike.ensures)
