use Rattle.floyd_tree.proofs.Faults.{stored_sound}
use Rattle.floyd_tree.proofs.term.Term.share.Goals as goal

pub returns-in_err-clone-clause-sound : goal.returns-in_err-clone-clause-sound
returns-in_err-clone-clause-sound c = stored_sound _ c.args.self.now c.self.invariant c.self.view_is

pub returns-clause-sound : goal.returns-clause-sound
returns-clause-sound c = stored_sound _ c.args.self.now c.self.invariant c.self.view_is
