use Rattle.std.proofs.Common.{refl}
use Rattle.floyd_termread_forms.proofs.FrameLemmas.{sorts_are}
use Rattle.floyd_termread_forms.proofs.frames.unbind_named.Goals as goal

pub returns : goal.returns
returns c = sorts_are _ _ _ _ _ _ c.in_ok-name.ensures refl c.unbind.ensures
