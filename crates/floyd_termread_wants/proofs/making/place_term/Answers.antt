use Rattle.std.proofs.Common.{subst}
use Rattle.floyd_tree.specs.Plain.{Plain, At, plains}
use Rattle.floyd_termread_wants.specs.Judging.{Judged, Judges}
use Rattle.floyd_termread_wants.proofs.MakingLemmas.{made_taken}
use Rattle.floyd_termread_wants.proofs.making.place_term.Goals as goal

pub returns-in-Ok : goal.returns-in-Ok
returns-in-Ok c = record {
  exact = subst (λ (wanted : Judged Plain). Judges (λ (t : Plain). t) c.take_term.result wanted)
      (made_taken c.args.wanted.now c.args.place (At c.args.head (plains c.args.kids.now)) c.in-Ok.t c.in-Ok.ensures.exact) c.take_term.ensures.exact;
}
