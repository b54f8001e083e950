use Rattle.floyd_elab_statements.proofs.Exits.{only_ok}
use Rattle.floyd_elab_statements.proofs.Steps.{gives_err, gives_as}
use Rattle.floyd_elab_statements.proofs.PlacedLemmas.{undeclared, declares}
use Rattle.floyd_elab_statements.proofs.variables.declare.Goals as goal

pub returns-in_err-meaning-clause-exact : goal.returns-in_err-meaning-clause-exact
returns-in_err-meaning-clause-exact c =
    let h = c.in_err-meaning.field-0.0 in
    gives_err _ c.from_residual.result h _ c.from_residual.ensures.1
    (undeclared c.args.out.now c.args.names.now c.args.one.declarator.now c.args.one.base.now c.args.one.taken c.args.progress.now h c.in_err-meaning.ensures.exact)

pub returns-in_err-meaning-clause-left : goal.returns-in_err-meaning-clause-left
returns-in_err-meaning-clause-left c = only_ok c.from_residual.result _ _ c.from_residual.ensures.1

pub returns-clause-exact : goal.returns-clause-exact
returns-clause-exact c =
    gives_as _ c.place_variable.result _ _
    (declares c.args.out.now c.args.names.now c.args.one.declarator.now c.args.one.base.now c.args.one.taken c.args.progress.now c.in_ok-meaning.meaning c.declare_variable.new.progress c.in_ok-meaning.ensures.exact)
    c.place_variable.ensures.exact

pub returns-clause-left : goal.returns-clause-left
returns-clause-left c = c.place_variable.ensures.left
