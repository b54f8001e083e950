use Rattle.std.proofs.Common.{◌≡◌, length}
use Rattle.floyd_termread_forms.specs.FrameClauses.{behind}
use Rattle.floyd_termread_forms.specs.Frames.{frames}
use Rattle.floyd_termread_forms.proofs.frames.frames_of.Given as goal

abbrev pub decreases-prefixes : goal.decreases-prefixes
decreases-prefixes l = length l.rest

abbrev pub invariant-prefixes : goal.invariant-prefixes
invariant-prefixes l = behind l.frames (frames l.rest) ≡ frames l.prefixes
