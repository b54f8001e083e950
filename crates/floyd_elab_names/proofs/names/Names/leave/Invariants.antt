use Rattle.std.proofs.Common.{◌≡◌, [], length, bytes_eq}
use Rattle.indexmap.specs.IndexMap.{get}
use Rattle.floyd_elab_names.specs.Scopes.{leave}
use Rattle.floyd_elab_names.specs.ChangeClauses.{after_all, IsKept}
use Rattle.floyd_elab_names.proofs.names.Names.leave.Given as goal

abbrev pub decreases-changes : goal.decreases-changes
decreases-changes l = length l.self-inside.changes

-- what is left is the same as at the start
abbrev pub invariant-changes : goal.invariant-changes
invariant-changes l = record {
  kept : IsKept l.self-inside.changes (get bytes_eq l.self-inside.visible) l.self-inside.depth;
  same : leave (after_all [] l.self-inside.changes) ≡ leave l.fn.self;
}
