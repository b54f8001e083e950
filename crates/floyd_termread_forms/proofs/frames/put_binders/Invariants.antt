use Rattle.std.proofs.Common.{◌≡◌, length}
use Rattle.floyd_termread_forms.specs.FrameClauses.{behind}
use Rattle.floyd_termread_forms.specs.Frames.{binder_frames}
use Rattle.floyd_termread_forms.proofs.frames.put_binders.Given as goal

abbrev pub decreases-binders : goal.decreases-binders
decreases-binders l = length l.rest

abbrev pub invariant-binders : goal.invariant-binders
invariant-binders l = behind l.frames (binder_frames l.all l.place l.rest) ≡ behind l.initial.frames (binder_frames l.all l.place l.binders)
