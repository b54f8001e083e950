use Rattle.std.proofs.Common.{◌∙◌, ◌≡◌, ◌+◌, ◌∷◌, drop, arith}
use Rattle.floyd_play_steps.specs.Forms.{IsCommand}
use Rattle.floyd_play_steps.proofs.DerivationLemmas.{by_step}
use Rattle.floyd_play_steps.proofs.PlayLemmas.{Step, counted, formed, next_command, next_of, one_more, small, step_of}
use Rattle.floyd_play_steps.proofs.StepLemmas.{few_left}
use Rattle.floyd_play_steps.proofs.playing.play_commands.Goals as goal

pub advance-requires-clause-made : goal.advance-requires-clause-made
advance-requires-clause-made c =
    omega (arith, few_left c.commands.current.stack c.commands.invariant.small, c.commands.invariant.made, c.commands-test.true, c.requires.few)

pub commands-preserved : goal.commands-preserved
commands-preserved c =
    let cs = c.args.commands.now in
    let i = c.commands.command-index in
    let x = c.command-item.result in
    let now = c.commands.current in
    let next = c.in_ok-current.current in
    let defs = c.args.basis.defs.now in
    let specs = c.args.basis.specs.now in
    let at : drop i cs ≡ x ∷ drop (i + 1) cs = next_command cs i x c.commands-test.true c.command-item.is in
    let both = next_of IsCommand x (drop i cs) (drop (i + 1) cs) at c.commands.invariant.rest in
    let st : Step x now defs specs next = step_of x now defs specs next c.in_ok-current.ensures.exact in
    record {
      so_far = one_more defs specs cs c.args.state (drop i cs) (drop (i + 1) cs) now next x c.commands.invariant.so_far at c.in_ok-current.ensures.exact;
      derived = λ h. c.commands.invariant.derived (by_step defs specs x now next c.args.state.blocks c.commands.invariant.own both.0 c.commands.invariant.few st h);
      own = st.blocks ∙ c.commands.invariant.own;
      rest = both.1;
      goals = formed x now defs specs next c.requires.keep both.0 c.commands.invariant.small c.commands.invariant.few st c.commands.invariant.goals;
      few = c.in_ok-current.ensures.few c.commands.invariant.few;
      small = small x now defs specs next st;
      made = counted x now defs specs next i st c.commands.invariant.made;
    }
