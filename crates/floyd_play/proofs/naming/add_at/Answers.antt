use Rattle.std.proofs.Common.{◌∙◌, sym}
use Rattle.floyd_play.proofs.ProvingLemmas.{none_more, pushed}
use Rattle.floyd_play.proofs.naming.add_at.Goals as goal

pub returns-in_ok-push-in-Some : goal.returns-in_ok-push-in-Some
returns-in_ok-push-in-Some c = λ h. pushed c.args.names.now c.args.place c.in-Some.name.now c.in_ok-name-in-Some.name tt c.args.all.now.items c.push.new.self.items c.in-Some.ensures c.in_ok-name-in-Some.ensures c.in_ok-push-in-Some.ensures.items h

pub returns-in-None : goal.returns-in-None
returns-in-None c = λ h. h ∙ sym (none_more c.args.names.now c.args.place (sym c.in-None.ensures))
