use Rattle.std.proofs.Common.{Ok, Err, refl}
use Rattle.floyd_play_reading.specs.Arguments as reading
use Rattle.floyd_play_reading.proofs.ReadingLemmas.{stops}
use Rattle.floyd_play_reading.proofs.arguments.read_arguments.Goals as goal

pub returns-in_err-args : goal.returns-in_err-args
returns-in_err-args c =
    record {
      exact = stops (reading.AreRead c.args.command.now.bytes c.args.command.now.tokens c.args.defs.now c.args.specs.now c.args.blocks.now c.args.goal.now c.args.command.now.rule) c.from_residual.result c.in_err-args.field-0.0 c.from_residual.ensures.1
          (λ refusal e. (Err refusal, (Err refusal, rw (e, c.shape_of.ensures, c.as_slice.ensures, c.get.ensures) at c.in_err-args.ensures.exact, refl), refl));
    }

pub returns-in_err-_end : goal.returns-in_err-_end
returns-in_err-_end c =
    record {
      exact = stops (reading.AreRead c.args.command.now.bytes c.args.command.now.tokens c.args.defs.now c.args.specs.now c.args.blocks.now c.args.goal.now c.args.command.now.rule) c.from_residual-in_err-_end.result c.in_err-_end.field-0.0 c.from_residual-in_err-_end.ensures.1
          (λ refusal e. (Err refusal, (Ok (c.in_ok-args.args, c.in_ok-args.end), rw (c.shape_of.ensures, c.as_slice.ensures, c.get.ensures) at c.in_ok-args.ensures.exact, (Err refusal, rw (e, c.as_slice.ensures, c.get.ensures) at c.in_err-_end.ensures.exact, refl)), refl));
    }

pub returns : goal.returns
returns c =
    record { exact = (Ok (c.in_ok-args.args, c.in_ok-_end._behind), (Ok (c.in_ok-args.args, c.in_ok-args.end), rw (c.shape_of.ensures, c.as_slice.ensures, c.get.ensures) at c.in_ok-args.ensures.exact, (Ok (c.in_ok-_end._end, c.in_ok-_end._behind), rw (c.as_slice.ensures, c.get.ensures) at c.in_ok-_end.ensures.exact, refl)), refl) }
