use Rattle.std.proofs.Common.{◌≡◌, ◌++◌, length}
use Rattle.floyd_termread_scope.specs.Scopes.{sort_of}
use Rattle.floyd_termread_forms.specs.FrameClauses.{bound_by_all, hidden_by_all}
use Rattle.floyd_termread_forms.proofs.frames.bind_all.Given as goal

abbrev pub decreases-frames : goal.decreases-frames
decreases-frames l = length l.rest

abbrev pub invariant-frames : goal.invariant-frames
invariant-frames l = record {
  hidden : l.hidden ++ hidden_by_all l.rest (sort_of l.bound) ≡ hidden_by_all l.frames (sort_of l.initial.bound);
  bound : bound_by_all l.rest (sort_of l.bound) ≡ bound_by_all l.frames (sort_of l.initial.bound);
}
