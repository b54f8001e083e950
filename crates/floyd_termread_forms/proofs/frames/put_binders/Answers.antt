use Rattle.floyd_termread_forms.proofs.ListLemmas.{halts, binder_stops, binder_next}
use Rattle.floyd_termread_forms.proofs.frames.put_binders.Goals as goal

pub returns-in_err-binder_frame : goal.returns-in_err-binder_frame
returns-in_err-binder_frame c = record {
  exact = halts _ _ _ _ c.from_residual.ensures.1
      (binder_stops c.args.all c.args.place c.binders.frames c.binders.rest.now c.in-Some.more.now c.in-Some.binder.now _ c.in-Some.ensures.cases.0 c.binders.invariant _ c.in_err-binder_frame.ensures.exact);
}

pub binders-preserved : goal.binders-preserved
binders-preserved c =
    binder_next c.args.all c.args.place c.binders.frames c.binders.rest.now c.in-Some.more.now c.in-Some.binder.now _ c.in-Some.ensures.cases.0 c.binders.invariant c.in_ok-binder_frame.field-0 c.push.new.self c.in_ok-binder_frame.ensures.exact c.in_ok-push.ensures.ok
