use Rattle.std.proofs.Common.{◌∙◌, ap}
use Rattle.std.specs.Prelude.{slice_get}
use Rattle.floyd_stub_assert.proofs.locals.Locals.entry.Goals as goal

pub returns : goal.returns
returns c = c.get_index.ensures.entry ∙ ap (λ ls. slice_get ls c.args.at) c.self.view_is
