use Rattle.std.proofs.Common.{sym, subst}
use Rattle.floyd_clight.specs.declared.syntax.Stmt.{Stmt}
use Rattle.floyd_goal.specs.Answers.{IsAnswer}
use Rattle.floyd_forward.specs.Forward.{OfStatement}
use Rattle.floyd_forward.proofs.forward.of_statement.Goals as goal

pub returns-in-Assign : goal.returns-in-Assign
returns-in-Assign g c =
    record {
      exact = subst (λ (s : Stmt). IsAnswer (OfStatement c.args.at.defs.now.structs c.args.at.run.now s) c.assigns.result) (sym c.in-Assign.is) c.assigns.ensures.exact;
    }
