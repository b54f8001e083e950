use Rattle.std.proofs.Common.{ap, ◌∙◌}
use Rattle.floyd_ctypes.specs.declared.ctype.CType.{CType, Array}
use Rattle.floyd_elab_names.proofs.TypeLemmas.{array_is}
use Rattle.floyd_elab_names.proofs.wraps.array_of.Goals as goal

pub returns : goal.returns
returns c = ap (λ (t : CType). Array t c.args.number) c.in_ok-new.ensures ∙ array_is c.args.t c.args.number
