use Rattle.std.proofs.Common.{sym, None, Some}
use Rattle.floyd_elab_names.proofs.NameLemmas.{here_kept}
use Rattle.floyd_elab_names.proofs.names.Names.is_here.Goals as goal

pub returns-in-Some : goal.returns-in-Some
returns-in-Some c =
    here_kept c.self.inside.changes _ c.self.inside.depth c.args.self.now c.args.name.now (Some c.in-Some.seen.now) c.self.invariant c.self.view_is
    (sym c.in-Some.ensures.value)

pub returns-in-None : goal.returns-in-None
returns-in-None c =
    here_kept c.self.inside.changes _ c.self.inside.depth c.args.self.now c.args.name.now None c.self.invariant c.self.view_is (sym c.in-None.ensures.value)
