use Rattle.floyd_specread_cases.specs.Cases.{fun_form}
use Rattle.floyd_specread_cases.proofs.ToldLemmas.{tells_if}
use Rattle.floyd_specread_cases.proofs.judging.fun_cases_differ_at.Goals as goal

pub returns : goal.returns
returns c = tells_if (fun_form c.args.text.bytes.now c.args.text.tokens.now) c.args.at c.fun_form_at-read.result c.told.result c.fun_form_at-read.ensures.exact c.told.ensures
