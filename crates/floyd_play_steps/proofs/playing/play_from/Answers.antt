use Rattle.floyd_play_steps.proofs.DerivationLemmas.{all_derived}
use Rattle.floyd_play_steps.proofs.playing.play_from.Goals as goal

pub returns-clause-derived : goal.returns-clause-derived
returns-clause-derived c =
    all_derived c.args.basis.defs.now c.args.basis.specs.now c.args.start c.args.place c.in_ok-state.state c.play_commands.result c.in_ok-state.ensures.exact c.play_commands.ensures.derived
