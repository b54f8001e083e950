use Rattle.std.proofs.Common.{◌≡◌, ◌≤◌, ◌+◌, drop, length}
use Rattle.std.specs.List.{AllByRecursion}
use Rattle.floyd_assert_trees.specs.Sizes.{sum_of}
use Rattle.floyd_goal.specs.Stacks.{most}
use Rattle.floyd_goal_trees.specs.Sizes.{goal_size}
use Rattle.floyd_play_steps.specs.Derivations.{Derives}
use Rattle.floyd_play_steps.specs.Few.{AllHaveFew}
use Rattle.floyd_play_steps.specs.Forms.{AreWellFormed, IsCommand}
use Rattle.floyd_play_steps.proofs.PlayLemmas.{SoFar}
use Rattle.floyd_play_steps.proofs.playing.play_commands.Given as goal

abbrev pub invariant-commands : goal.invariant-commands
invariant-commands l = record {
  so_far : SoFar l.basis.defs.now l.basis.specs.now l.commands l.fn.state (drop l.command-index l.commands) l.current;
  derived : Derives l.basis.defs.now l.basis.specs.now l.fn.state.blocks l.current.stack → Derives l.basis.defs.now l.basis.specs.now l.fn.state.blocks l.fn.state.stack;
  own : l.current.blocks ≡ l.fn.state.blocks;
  rest : AllByRecursion IsCommand (drop l.command-index l.commands);
  goals : AreWellFormed l.basis.defs.now l.basis.specs.now l.current.stack;
  few : AllHaveFew l.current.stack;
  small : sum_of goal_size l.current.stack ≤ most;
  made : l.current.made ≡ length l.current.stack + l.command-index;
}
