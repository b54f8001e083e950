use Rattle.floyd_play_arguments.proofs.DigitLemmas.{read_all}
use Rattle.floyd_play_arguments.proofs.numbers.digits.Goals as goal

pub returns : goal.returns
returns c = read_all c.digits.number c.digits.rest.now c.args.text.now c.in_default.ensures.cases c.digits.invariant.small c.digits.invariant.so_far
