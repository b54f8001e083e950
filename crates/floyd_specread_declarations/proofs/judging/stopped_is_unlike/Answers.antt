use Rattle.floyd_termread.specs.Brackets.{outermost}
use Rattle.floyd_specread_declarations.proofs.UnlikeLemmas.{stopped_unlike}
use Rattle.floyd_specread_declarations.proofs.judging.stopped_is_unlike.Goals as goal

pub returns-in-Refused : goal.returns-in-Refused
returns-in-Refused c = stopped_unlike c.args.text.bytes.now c.args.text.tokens.now c.args.around.functions.now c.args.written.standing c.args.written.name.now (outermost c.args.around.scope.now) c.args.around.items.now c.args.at c.args.halt.now c.in-Refused.field-0 c.refused_is_unlike.result c.in-Refused.is c.refused_is_unlike.ensures
