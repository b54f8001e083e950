use Rattle.std.proofs.Common.{ap, ◌∙◌}
use Rattle.floyd_elab_names.specs.Declarators.{name_of, name_or_none}
use Rattle.floyd_elab_names.specs.Scopes.{leave}
use Rattle.floyd_elab_statements.proofs.Exits.{only_ok, gives_memory}
use Rattle.floyd_elab_statements.proofs.Steps.{on_ok}
use Rattle.floyd_elab_statements.proofs.PlacedLemmas.{placed_gives, outer_declared}
use Rattle.floyd_elab_statements.proofs.variables.place_variable.Goals as goal

pub returns-in_err-target-clause-exact : goal.returns-in_err-target-clause-exact
returns-in_err-target-clause-exact c = gives_memory _ c.from_residual.result _ c.from_residual.ensures.1

pub returns-in_err-target-clause-left : goal.returns-in_err-target-clause-left
returns-in_err-target-clause-left c = only_ok c.from_residual.result _ _ c.from_residual.ensures.1

pub returns-clause-exact : goal.returns-clause-exact
returns-clause-exact c =
    placed_gives c.args.out.now c.args.names.now c.args.d.now c.args.meaning c.initialise.result c.initialise.new.out c.in_scope.new.names _ c.args.progress.now c.initialise.new.progress c.in_ok-target.ensures.target c.in_ok-target.ensures.names c.initialise.ensures.exact

pub returns-clause-left : goal.returns-clause-left
returns-clause-left c =
    on_ok c.initialise.result (ap leave c.in_ok-target.ensures.names ∙ outer_declared (name_or_none (name_of c.args.d.now.declarator)) c.args.meaning c.args.names.now)
