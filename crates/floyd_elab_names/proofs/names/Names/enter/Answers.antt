use Rattle.std.proofs.Common.{ap, ◌∙◌, length, length-append, [], ◌∷◌, arith}
use Rattle.floyd_elab_names.specs.declared.names.Change.TheVariants.{Entered}
use Rattle.floyd_elab_names.specs.Scopes.{enter}
use Rattle.floyd_elab_names.proofs.NameLemmas.{after_last, few_scopes, kept_entered}
use Rattle.floyd_elab_names.proofs.names.Names.enter.Goals as goal

pub prove-unreachable-requires : goal.prove-unreachable-requires
prove-unreachable-requires c =
    omega (arith, few_scopes c.self.inside.changes _ c.self.inside.depth c.self.invariant, ap length c.in_ok-push.ensures.ok, length-append c.self.inside.changes (Entered ∷ []))

pub invariant_of-self-2 : goal.invariant_of-self-2
invariant_of-self-2 c = kept_entered c.self.inside.changes c.push.new.self _ c.self.inside.depth c.self.invariant c.in_ok-push.ensures.ok

pub returns-clause-ok : goal.returns-clause-ok
returns-clause-ok c = rw c.in_ok-push.ensures.ok (after_last _ c.self.inside.changes Entered ∙ ap enter c.self.view_is)
