use Rattle.std.proofs.Common.{Ok, Err, refl}
use Rattle.floyd_play_reading.proofs.ReadingLemmas.{stops}
use Rattle.floyd_play_steps.specs.Steps.{Makes}
use Rattle.floyd_play_steps.proofs.StateLemmas.{row_stops}
use Rattle.floyd_play_steps.proofs.advancing.made_by.Goals as goal

pub returns-in_err-args : goal.returns-in_err-args
returns-in_err-args g c =
    record {
      exact = stops (Makes c.args.command.now c.args.state.now c.args.basis.defs.now c.args.basis.specs.now c.args.goal.now) c.from_residual.result c.in_err-args.field-0.0 c.from_residual.ensures.1
          (λ refusal e. (Err refusal, rw (e, c.as_slice-blocks.ensures, c.get.ensures) at c.in_err-args.ensures.exact, refl));
    }

pub do_row-requires : goal.do_row-requires
do_row-requires g c =
    record {
      meets = c.requires.meet c.args.state.now.blocks c.args.goal.now c.args.command.now.bytes c.args.command.now.tokens c.args.command.now.rule c.in_ok-args.args c.requires.goal
          (rw (c.as_slice-blocks.ensures, c.get.ensures) at c.in_ok-args.ensures.exact);
    }

pub returns-in-Ok : goal.returns-in-Ok
returns-in-Ok g c =
    record { exact = (Ok c.in_ok-args.args, rw (c.as_slice-blocks.ensures, c.get.ensures) at c.in_ok-args.ensures.exact, (Ok c.in-Ok.made, c.in-Ok.ensures.exact, refl)) }

pub returns : goal.returns
returns g c =
    record {
      exact = row_stops c.args.command.now c.args.state.now c.args.basis.defs.now c.args.basis.specs.now c.args.goal.now c.in_ok-args.args c.in-Err.stop c.halt_of.result c.first.result c.halt_of.ensures c.first.ensures
          (rw (c.as_slice-blocks.ensures, c.get.ensures) at c.in_ok-args.ensures.exact) c.in-Err.ensures.exact;
    }
