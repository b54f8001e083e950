use Rattle.std.proofs.Common.{◌≡◌, take}
use Rattle.floyd_clight.proofs.syntax.share_cases.Given as goal

-- the cases so far are shared
abbrev pub invariant-cases : goal.invariant-cases
invariant-cases l = l.all ≡ take l.case-index l.cases
