use Rattle.std.proofs.Common.{sym, ◌∙◌, ap}
use Rattle.floyd_stub_goal.specs.Sides.{is_vint}
use Rattle.floyd_stub_goal.proofs.Conjunctions.{is_vint_vint}
use Rattle.floyd_stub_goal.proofs.side.is_vint.Goals as goal

pub returns-in-Vint : goal.returns-in-Vint
returns-in-Vint c = sym (is_vint_vint c.in-Vint.field-0) ∙ sym (ap is_vint c.in-Vint.is)
