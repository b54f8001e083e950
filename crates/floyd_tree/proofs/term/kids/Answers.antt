use Rattle.std.proofs.Common.{sym, ◌∙◌, ap}
use Rattle.floyd_tree.specs.Code.{listed-plains}
use Rattle.floyd_tree.specs.Plain.{kids_of}
use Rattle.floyd_tree.specs.Stored.{plain}
use Rattle.floyd_tree.proofs.Faults.{stored_kids_sound}
use Rattle.floyd_tree.proofs.term.kids.Goals as goal

pub returns-clause-value : goal.returns-clause-value
returns-clause-value c = sym (listed-plains _) ∙ ap (λ n. kids_of (plain n)) c.deref.ensures ∙ ap kids_of c.t.view_is

pub returns-clause-sound : goal.returns-clause-sound
returns-clause-sound c = stored_kids_sound _ c.deref.result.now c.t.invariant (sym c.deref.ensures)
