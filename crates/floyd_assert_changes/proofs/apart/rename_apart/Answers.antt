use Rattle.floyd_assert_changes.proofs.SetApart.{of_variables}
use Rattle.floyd_assert_changes.proofs.apart.rename_apart.Goals as goal

pub returns : goal.returns
returns g c = record { exact = of_variables c.set_apart.result c.in_ok-avoid.avoid c.args.variables.now c.args.a.now c.in_ok-avoid.ensures c.set_apart.ensures.exact }
