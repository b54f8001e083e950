use Rattle.std.proofs.Common.{◌≡◌, drop, Ok}
use Rattle.floyd_termread_forms.specs.Frames.{wrapped}
use Rattle.floyd_termread_forms.proofs.frames.wrap.Given as goal

abbrev pub invariant-frames : goal.invariant-frames
invariant-frames l = wrapped (drop l.i l.frames) l.fn.x ≡ Ok l.x
