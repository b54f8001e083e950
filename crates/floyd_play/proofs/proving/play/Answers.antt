use Rattle.std.proofs.Common.{List, subst, sym, ◌∙◌}
use Rattle.std.specs.Map.{keys_of}
use Rattle.floyd_goal_trees.specs.declared.goal.Goal.{Goal}
use Rattle.floyd_play_laws.proofs.Deriving.{keeping}
use Rattle.floyd_play_steps.specs.Derivations.{HasDerivation}
use Rattle.floyd_play_steps.specs.Forms.{ArgumentsMeet, CommandsKeepForms}
use Rattle.floyd_play.proofs.ProvingLemmas.{StartsHold, back, forth, starts_hold}
use Rattle.floyd_play.proofs.proving.play.Goals as goal

pub play-requires-clause-meet : goal.play-requires-clause-meet
play-requires-clause-meet c = back ArgumentsMeet c.get.result.now c.args.defs.now c.get-2.result.now c.args.specs.now c.get.ensures c.get-2.ensures c.requires.meet

pub play-requires-clause-keep : goal.play-requires-clause-keep
play-requires-clause-keep c =
    back CommandsKeepForms c.get.result.now c.args.defs.now c.get-2.result.now c.args.specs.now c.get.ensures c.get-2.ensures (keeping c.args.defs.now c.args.specs.now c.requires.lawful)

pub claimed-requires : goal.claimed-requires
claimed-requires c =
    record {
      holds = record {
        starts = subst (λ (gs : List Goal). StartsHold c.args.defs.now c.args.specs.now (keys_of c.args.defs.now.proved) gs) (sym (c.in_ok-goals.ensures ∙ c.as_slice.ensures))
            (starts_hold c.args.defs.now c.args.specs.now c.args.start c.requires.lawful c.requires.goals
            (forth (λ d s. HasDerivation d s c.args.start) c.get.result.now c.args.defs.now c.get-2.result.now c.args.specs.now c.get.ensures c.get-2.ensures c.in_ok-play.ensures.derived));
      };
    }
