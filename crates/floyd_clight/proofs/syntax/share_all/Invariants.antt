use Rattle.std.proofs.Common.{◌≡◌, take}
use Rattle.floyd_clight.proofs.syntax.share_all.Given as goal

-- the expressions so far are shared
abbrev pub invariant-expressions : goal.invariant-expressions
invariant-expressions l = l.all ≡ take l.e-index l.expressions
