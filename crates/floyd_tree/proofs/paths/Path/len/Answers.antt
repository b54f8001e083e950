use Rattle.std.proofs.Common.{sym, ◌∙◌, ap, length}
use Rattle.floyd_tree.proofs.PathLemmas.{length-steps_in}
use Rattle.floyd_tree.proofs.paths.Path.len.Goals as goal

pub returns : goal.returns
returns c = ap length c.as_slice.ensures ∙ sym (length-steps_in _ c.self.invariant) ∙ ap length c.self.view_is
