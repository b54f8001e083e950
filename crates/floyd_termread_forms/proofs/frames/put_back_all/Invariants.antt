use Rattle.std.proofs.Common.{◌≡◌, drop}
use Rattle.floyd_termread_scope.specs.Scopes.{sort_of}
use Rattle.floyd_termread_forms.specs.FrameClauses.{put_back_all}
use Rattle.floyd_termread_forms.proofs.frames.put_back_all.Given as goal

abbrev pub invariant-frames : goal.invariant-frames
invariant-frames l = sort_of l.bound ≡ put_back_all (drop l.i l.frames) (drop l.i l.hidden) (sort_of l.initial.bound)
