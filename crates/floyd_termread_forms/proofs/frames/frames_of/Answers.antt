use Rattle.floyd_termread_forms.proofs.ListLemmas.{halts, prefix_stops, prefix_next}
use Rattle.floyd_termread_forms.proofs.frames.frames_of.Goals as goal

pub returns-in_err-put_prefix : goal.returns-in_err-put_prefix
returns-in_err-put_prefix c = record {
  exact = halts _ _ _ _ c.from_residual.ensures.1
      (prefix_stops c.prefixes.frames c.prefixes.rest.now c.in-Some.more.now c.in-Some.prefix.now _ c.in-Some.ensures.cases.0 c.prefixes.invariant _ c.in_err-put_prefix.ensures.exact);
}

pub prefixes-preserved : goal.prefixes-preserved
prefixes-preserved c =
    prefix_next c.prefixes.frames c.prefixes.rest.now c.in-Some.more.now c.in-Some.prefix.now _ c.in-Some.ensures.cases.0 c.prefixes.invariant _ c.in_ok-put_prefix.ensures.exact
