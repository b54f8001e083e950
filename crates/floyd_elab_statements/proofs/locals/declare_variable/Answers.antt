use Rattle.std.proofs.Common.{◌∙◌, ap}
use Rattle.floyd_elab_names.specs.Refusing.{and_then}
use Rattle.floyd_elab_statements.specs.LocalClauses.{variable_type, variable}
use Rattle.floyd_elab_statements.proofs.Steps.{stops, stops_as, gives_as, gives_err}
use Rattle.floyd_elab_statements.proofs.LocalLemmas.{declared_is}
use Rattle.floyd_elab_statements.proofs.locals.declare_variable.Goals as goal

pub returns-in_err-t : goal.returns-in_err-t
returns-in_err-t c =
    let names = c.args.names.now in
    let base = c.args.base.now in
    let d = c.args.d.now in
    let h = c.in_err-t.field-0.0 in
    record {
      exact = gives_err _ c.from_residual.result h _ c.from_residual.ensures.1
          (stops_as h _ _ (declared_is names base d c.args.taken c.args.progress.now)
          (stops h (variable_type names base d c.args.progress.now) (λ t. variable d t c.args.taken) c.in_err-t.ensures.exact));
    }

pub returns : goal.returns
returns c =
    let names = c.args.names.now in
    let base = c.args.base.now in
    let d = c.args.d.now in
    record {
      exact = gives_as _ c.variable.result _ _
          (declared_is names base d c.args.taken c.args.progress.now ∙ ap (λ r. and_then r (λ t. variable d t c.args.taken)) c.in_ok-t.ensures.exact)
          c.variable.ensures.exact;
    }
