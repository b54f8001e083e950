use Rattle.std.proofs.Common.{ap, ◌∙◌}
use Rattle.std.specs.Map.{keys_of}
use Rattle.floyd_assert_trees.specs.declared.items.Defs.{Defs}
use Rattle.floyd_play.proofs.ProvingLemmas.{starts_as}
use Rattle.floyd_play.proofs.proving.claimed.Goals as goal

pub proved-requires : goal.proved-requires
proved-requires c =
    record {
      holds = record {
        starts = starts_as c.in_ok-defs.defs c.args.defs.now c.in_ok-specs.specs c.args.specs.now c.in_ok-before.before (keys_of c.args.defs.now.proved) c.args.goals c.in_ok-defs.ensures c.in_ok-specs.ensures
            (c.in_ok-before.ensures ∙ ap (λ (d : Defs). keys_of d.proved) c.get.ensures) c.requires.holds.starts;
      };
    }
