use Rattle.std.proofs.Common.{sym, ap, ◌∙◌, arith}
use Rattle.floyd_ctypes.specs.declared.ctype.CType.{CType, Struct}
use Rattle.floyd_ctypes.specs.Layout.{layout, arrays_fit as arrays_fit_lem}
use Rattle.floyd_ctypes.proofs.Aligned.{of_layout}
use Rattle.floyd_ctypes.proofs.Arrays.{levels, levels_fall, elements_fit, array_within, layout-array_some, layout-array_none}
use Rattle.floyd_ctypes.proofs.table.StructTable.+layout_of.Goals as goal

pub layout_of-requires : goal.layout_of-requires
layout_of-requires t c = (
  omega (arith, levels_fall c.args.t.now c.in-Array.element c.in-Array.number c.in-Array.is, ap levels c.get.ensures, c.decreases),
  ap (λ (u : CType). arrays_fit_lem c.args.self.now u) c.get.ensures
      ∙ elements_fit c.args.self.now c.in-Array.element c.in-Array.number (ap (λ (u : CType). arrays_fit_lem c.args.self.now u) (sym c.in-Array.is) ∙ c.requires),
)

pub returns-in_err-element-in-Array-clause-value :
    goal.returns-in_err-element-in-Array-clause-value
returns-in_err-element-in-Array-clause-value t c =
    c.from_residual.ensures
    ∙ layout-array_none c.args.self.now c.in-Array.element c.in-Array.number
    (c.in_err-element-in-Array.ensures.value ∙ ap (λ (u : CType). layout c.args.self.now u) c.get.ensures)
    ∙ ap (λ (u : CType). layout c.args.self.now u) (sym c.in-Array.is)

pub overflow_mul-result : goal.overflow_mul-result
overflow_mul-result t c =
    let within = array_within c.args.self.now c.in-Array.element c.in-Array.number c.in_ok-element-in-Array.element
    (ap (λ (u : CType). arrays_fit_lem c.args.self.now u) (sym c.in-Array.is) ∙ c.requires)
    (c.in_ok-element-in-Array.ensures.value ∙ ap (λ (u : CType). layout c.args.self.now u) c.get.ensures) in
    omega arith

pub returns-in_ok-element-in-Array-clause-value : goal.returns-in_ok-element-in-Array-clause-value
returns-in_ok-element-in-Array-clause-value t c =
    layout-array_some c.args.self.now c.in-Array.element c.in-Array.number c.in_ok-element-in-Array.element
    (c.in_ok-element-in-Array.ensures.value ∙ ap (λ (u : CType). layout c.args.self.now u) c.get.ensures)
    ∙ ap (λ (u : CType). layout c.args.self.now u) (sym c.in-Array.is)

pub returns-in_ok-laid-in-Struct-clause-align : goal.returns-in_ok-laid-in-Struct-clause-align
returns-in_ok-laid-in-Struct-clause-align t c = of_layout c.args.self.now (Struct c.in-Struct.tag) c.in_ok-laid-in-Struct.laid.now.layout c.in_ok-laid-in-Struct.ensures.some.named
