use Rattle.std.proofs.Common.{◌≡◌, take}
use Rattle.floyd_clight.proofs.syntax.+share.Given as goal

-- the statements so far are shared
abbrev pub invariant-share_parts-parts : goal.invariant-share_parts-parts
invariant-share_parts-parts l = l.all ≡ take l.part-index l.parts
