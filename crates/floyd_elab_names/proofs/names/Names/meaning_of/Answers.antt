use Rattle.std.proofs.Common.{ap, sym, ◌∙◌, None, Some}
use Rattle.floyd_elab_names.specs.declared.meaning.Meaning.{Meaning}
use Rattle.floyd_elab_names.proofs.NameLemmas.{meaning_kept}
use Rattle.floyd_elab_names.proofs.names.Names.meaning_of.Goals as goal

pub returns-in_err-seen : goal.returns-in_err-seen
returns-in_err-seen c =
    rw c.from_residual.ensures
    (meaning_kept c.self.inside.changes _ c.self.inside.depth c.args.self.now c.args.name.now None c.self.invariant c.self.view_is (sym c.in_err-seen.ensures.value))

pub returns : goal.returns
returns c =
    ap (λ (m : Meaning). Some m) c.get-2.ensures
    ∙ meaning_kept c.self.inside.changes _ c.self.inside.depth c.args.self.now c.args.name.now (Some c.in_ok-seen.seen.now) c.self.invariant c.self.view_is
    (sym c.in_ok-seen.ensures.value)
