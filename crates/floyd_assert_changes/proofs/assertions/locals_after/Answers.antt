use Rattle.std.proofs.Common.{sym, subst}
use Rattle.floyd_truth.specs.Replace.{SortsAgree}
use Rattle.floyd_assert_trees.specs.declared.assertion.Local.{Local}
use Rattle.floyd_assert_changes.specs.ChangesClauses.{changes}
use Rattle.floyd_assert_changes.proofs.Existentials.{local_agree}
use Rattle.floyd_assert_changes.proofs.assertions.locals_after.Goals as goal

pub term_after-requires-clause-sorts : goal.term_after-requires-clause-sorts
term_after-requires-clause-sorts g c =
    let ch = changes c.args.changing.now in
    subst (λ (l : Local). SortsAgree ch l.term) (sym c.local-item.is)
    (local_agree ch c.args.locals.now c.locals.local-index c.local-item.result c.locals-test.true c.requires.sorts)
