use Rattle.floyd_assert_changes.proofs.SetApart.{of_term}
use Rattle.floyd_assert_changes.proofs.apart.rename_apart_from.Goals as goal

pub returns : goal.returns
returns g c = record { exact = of_term c.set_apart.result c.in_ok-avoid.avoid c.args.term.now c.args.a.now c.in_ok-avoid.ensures c.set_apart.ensures.exact }
