use Rattle.floyd_entail.proofs.IntrosLemmas.{of_entail, of_run}
use Rattle.floyd_entail.proofs.intros.do_intros.Goals as goal

pub returns-in-Run : goal.returns-in-Run
returns-in-Run g c =
    record {
      exact = of_run c.args.goal.now c.in-Run.run' c.args.args.now c.get.result.now c.as_slice-names.result.now c.with_names.result c.in-Run.is c.get.ensures c.as_slice-names.ensures
          c.with_names.ensures.exact;
    }

pub returns-in-Entail : goal.returns-in-Entail
returns-in-Entail g c =
    record {
      exact = of_entail c.args.goal.now c.in-Entail.entail c.args.args.now c.get-in-Entail.result.now c.as_slice-names.result.now c.with_names-in-Entail.result c.in-Entail.is c.get-in-Entail.ensures c.as_slice-names.ensures
          c.with_names-in-Entail.ensures.exact;
    }
