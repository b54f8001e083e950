use Rattle.std.proofs.Common.{sym, subst}
use Rattle.floyd_tree.specs.Plain.{plains}
use Rattle.floyd_truth.specs.Replace.{AllSortsAgree}
use Rattle.floyd_assert_changes.specs.Changed.{part_terms}
use Rattle.floyd_assert_changes.specs.ChangesClauses.{changes}
use Rattle.floyd_assert_changes.proofs.Parting.{agree_item}
use Rattle.floyd_assert_changes.proofs.parts.parts_after.Goals as goal

pub part_after-requires-clause-sorts : goal.part_after-requires-clause-sorts
part_after-requires-clause-sorts g c =
    let ch = changes c.args.changing.now in
    subst (λ p. AllSortsAgree ch (plains (part_terms p))) (sym c.part-item.is)
    (agree_item ch part_terms c.args.parts.now c.parts.part-index c.part-item.result c.parts-test.true c.requires.sorts)
