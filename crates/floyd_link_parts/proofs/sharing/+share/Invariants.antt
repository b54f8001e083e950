use Rattle.std.proofs.Common.{◌≡◌, ◌++◌, drop}
use Rattle.floyd_link_parts.proofs.sharing.+share.Given as goal

abbrev pub invariant-share_initials-parts : goal.invariant-share_initials-parts
invariant-share_initials-parts l = l.all ++ drop l.part-index l.parts ≡ l.parts
