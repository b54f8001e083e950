use Rattle.std.proofs.Common.{sym, ◌∙◌}
use Rattle.floyd_pure_quantifiers.proofs.Equating.{injectable}
use Rattle.floyd_pure_quantifiers.proofs.inject.injected.Goals as goal

pub equations-requires : goal.equations-requires
equations-requires g c =
    injectable c.args.f.now c.in-Equation.a.now c.in-Equation.b.now c.head.result.now c.head-in-Equation.result.now c.as_slice.result.now c.as_slice-then-are_alike.result.now c.in-Equation.ensures c.limits_of.ensures.sorted c.limits_of.ensures.small c.limits_of.ensures.low c.head.ensures c.head-in-Equation.ensures (sym c.are_alike.ensures ∙ c.if-are_alike.true) (c.as_slice.ensures ∙ c.kids.ensures.value) (c.as_slice-then-are_alike.ensures ∙ c.kids-then-are_alike.ensures.value)
