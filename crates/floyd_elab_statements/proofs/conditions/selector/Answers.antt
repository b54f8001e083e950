use Rattle.floyd_elab_expressions.specs.Behind.{behind}
use Rattle.floyd_elab_statements.proofs.Steps.{gives_as, gives_err}
use Rattle.floyd_elab_statements.proofs.ConditionLemmas.{selector_unread, selector_read}
use Rattle.floyd_elab_statements.proofs.conditions.selector.Goals as goal

pub returns-in_err-a : goal.returns-in_err-a
returns-in_err-a c =
    let h = c.in_err-a.field-0.0 in
    record {
      exact = gives_err _ c.from_residual.result h _ c.from_residual.ensures.1
          (selector_unread c.args.names.now c.args.place c.args.e.now c.args.out.now c.args.progress.now h c.in_err-a.ensures.exact);
    }

pub returns : goal.returns
returns c =
    let q = c.rvalue.new.progress in
    let out = c.rvalue.new.out in
    let a = c.in_ok-a.a in
    record {
      exact = gives_as _ c.select.result _ _
          (selector_read c.args.names.now c.args.place c.args.e.now c.args.out.now c.args.progress.now (behind out a) q
          c.in_ok-a.ensures.exact)
          (c.select.ensures.exact out q);
    }
