use Rattle.floyd_specread_cases.specs.Cases.{pred_form}
use Rattle.floyd_specread_cases.proofs.ToldLemmas.{tells_if}
use Rattle.floyd_specread_cases.proofs.judging.pred_cases_differ_at.Goals as goal

pub returns : goal.returns
returns c = tells_if (pred_form c.args.text.bytes.now c.args.text.tokens.now) c.args.at c.pred_form_at-read.result c.told.result c.pred_form_at-read.ensures.exact c.told.ensures
