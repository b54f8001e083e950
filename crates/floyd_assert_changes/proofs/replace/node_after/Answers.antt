use Rattle.std.proofs.Common.{◌∙◌}
use Rattle.floyd_assert_changes.specs.ChangesClauses.{changes}
use Rattle.floyd_assert_changes.proofs.Replacing.{node_told}
use Rattle.floyd_assert_changes.proofs.replace.node_after.Goals as goal

pub returns : goal.returns
returns g c =
    let told =
    node_told c.make.result (changes c.args.changing.now) c.args.t.now c.sort-sort.result.now c.in_ok-head.head c.args.kids.now c.requires.head
    (c.in_ok-head.ensures ∙ c.head.ensures) c.requires.kids c.sort-sort.ensures c.requires.sorts c.make.ensures.exact in
    record { ok = told.0; fits = told.1; err = told.2 }
