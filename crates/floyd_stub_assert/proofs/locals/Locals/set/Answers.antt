use Rattle.std.proofs.Common.{◌∙◌, ap}
use Rattle.floyd_stub_assert.proofs.LocalLaws.{set_is}
use Rattle.floyd_stub_assert.specs.LocalTerms.{with_local}
use Rattle.floyd_stub_assert.proofs.locals.Locals.set.Goals as goal

pub returns-clause-ok : goal.returns-clause-ok
returns-clause-ok c = c.in_ok-insert.ensures.entries ∙ set_is c.self.inside.entries.entries c.args.name c.args.term ∙ ap (with_local c.args.name c.args.term) c.self.view_is
