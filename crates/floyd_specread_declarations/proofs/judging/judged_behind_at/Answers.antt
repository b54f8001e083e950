use Rattle.floyd_termread.specs.Brackets.{outermost}
use Rattle.floyd_specread_declarations.proofs.JudgedLemmas.{wrong_name, right_name}
use Rattle.floyd_specread_declarations.proofs.judging.judged_behind_at.Goals as goal

pub returns-in_err-judge_name-clause-exact : goal.returns-in_err-judge_name-clause-exact
returns-in_err-judge_name-clause-exact c =
    wrong_name c.args.text.bytes.now c.args.text.tokens.now c.args.around.functions.now c.args.around.bodies.now c.args.written.standing c.args.written.name.now (outermost c.args.around.scope.now) c.args.around.items.now c.args.at c.behind_name_at-read.result c.from_residual-in_err-judge_name.result c.in_ok-unlike.unlike c.in_err-judge_name.field-0.0 c.behind_name_at-read.ensures.exact c.in_ok-unlike.ensures c.from_residual-in_err-judge_name.ensures.1 c.in_err-judge_name.ensures.exact

pub returns-clause-exact : goal.returns-clause-exact
returns-clause-exact c = right_name c.args.text.bytes.now c.args.text.tokens.now c.args.around.functions.now c.args.around.bodies.now c.args.written.standing c.args.written.name.now (outermost c.args.around.scope.now) c.args.around.items.now c.args.at c.behind_name_at-read.result c.in_ok-unlike.unlike c.behind_name_at-read.ensures.exact c.in_ok-unlike.ensures c.in_ok-judge_name.ensures.exact
