use Rattle.std.proofs.Common.{◌≡◌, take}
use Rattle.floyd_tree.proofs.paths.Path.share.Given as goal

abbrev pub invariant-steps : goal.invariant-steps
invariant-steps l = l.path ≡ take l.place l.self
