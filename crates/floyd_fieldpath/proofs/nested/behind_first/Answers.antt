use Rattle.std.proofs.Common.{◌∙◌, arith}
use Rattle.floyd_fieldpath.proofs.TypeLemmas.{element_behind}
use Rattle.floyd_fieldpath.proofs.nested.behind_first.Goals as goal

pub returns : goal.returns
returns c =
    element_behind c.new.result c.args.element.now c.args.sizes.now (omega arith)
    (c.new.ensures.shape ∙ c.in_ok-share.ensures) (c.new.ensures.sizes ∙ c.in_ok-sizes.ensures)
