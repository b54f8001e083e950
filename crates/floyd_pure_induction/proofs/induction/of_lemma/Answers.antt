use Rattle.floyd_pure_induction.proofs.MarkLemmas.{cases_stop}
use Rattle.floyd_pure_induction.proofs.induction.of_lemma.Goals as goal

pub returns-in-Err : goal.returns-in-Err
returns-in-Err g c = record { exact = cases_stop c.args.goal.now c.args.args.now c.args.lemma.now c.in-Err.stop c.in-Err.ensures.exact }
