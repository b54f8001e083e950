use Rattle.std.proofs.Common.{ℕ, Some, Result, refl, sym, subst}
use Rattle.floyd_text.specs.declared.refusal.Halt.{Halt}
use Rattle.floyd_termread.specs.Brackets.{outermost}
use Rattle.floyd_specread_trees.specs.declared.declarations.Declaration.{Declaration}
use Rattle.floyd_specread_declarations.specs.Judging.{types_of}
use Rattle.floyd_specread_declarations.specs.JudgedClauses.{ReadUnlike}
use Rattle.floyd_specread_declarations.proofs.UnlikeLemmas.{read_unlike}
use Rattle.floyd_specread_declarations.proofs.judging.read_is_unlike.Goals as goal

pub returns-in-Ok : goal.returns-in-Ok
returns-in-Ok c =
    subst (λ (r : Result (Declaration × ℕ) Halt). ReadUnlike c.args.text.bytes.now c.args.text.tokens.now c.args.around.functions.now c.args.written.standing c.args.written.name.now (outermost c.args.around.scope.now) c.args.around.items.now c.args.at r c.is_unlike.result) (sym c.in-Ok.is) (Some (types_of c.in-Ok.declaration.spec), refl, rw (c.as_slice.ensures, c.get-spec.ensures) at c.is_unlike.ensures)

pub returns-in-Err : goal.returns-in-Err
returns-in-Err c = read_unlike c.args.text.bytes.now c.args.text.tokens.now c.args.around.functions.now c.args.written.standing c.args.written.name.now (outermost c.args.around.scope.now) c.args.around.items.now c.args.at c.args.read.now c.in-Err.halt c.stopped_is_unlike.result c.in-Err.is c.stopped_is_unlike.ensures
