use Rattle.std.proofs.Common.{◌∙◌, ap}
use Rattle.floyd_stub_assert.proofs.LocalLaws.{get_is}
use Rattle.floyd_stub_assert.specs.LocalTerms.{term_of}
use Rattle.floyd_stub_assert.proofs.locals.Locals.get.Goals as goal

pub returns : goal.returns
returns c = c.get.ensures.value ∙ get_is c.self.inside.entries.entries c.args.name.now ∙ ap (term_of c.args.name.now) c.self.view_is
