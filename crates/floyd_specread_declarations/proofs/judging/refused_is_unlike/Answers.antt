use Rattle.floyd_termread.specs.Brackets.{outermost}
use Rattle.floyd_specread_declarations.proofs.UnlikeLemmas.{refused_unlike}
use Rattle.floyd_specread_declarations.proofs.judging.refused_is_unlike.Goals as goal

pub returns : goal.returns
returns c = refused_unlike c.args.text.bytes.now c.args.text.tokens.now c.args.around.functions.now c.args.written.standing c.args.written.name.now (outermost c.args.around.scope.now) c.args.around.items.now c.args.at c.typed_behind_at-typed.result c.typed_is_unlike.result c.typed_behind_at-typed.ensures.exact c.typed_is_unlike.ensures
