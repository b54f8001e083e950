use Rattle.std.proofs.Common.{◌≡◌, take}
use Rattle.floyd_stub_assert.proofs.formula.share_formulas.Given as goal

abbrev pub invariant-formulas : goal.invariant-formulas
invariant-formulas l = l.copy ≡ take l.f-index l.f-items
