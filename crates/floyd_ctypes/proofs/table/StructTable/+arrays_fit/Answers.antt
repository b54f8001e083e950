use Rattle.std.proofs.Common.{sym, ap, ◌∙◌}
use Rattle.floyd_ctypes.specs.declared.ctype.CType.{CType}
use Rattle.floyd_ctypes.specs.Layout.{layout, arrays_fit as arrays_fit_lem}
use Rattle.floyd_ctypes.proofs.Arrays.{arrays_fit-inside, arrays_fit-some, arrays_fit-none}
use Rattle.floyd_ctypes.proofs.table.StructTable.+arrays_fit.Goals as goal

pub returns-then-not-arrays_fit : goal.returns-then-not-arrays_fit
returns-then-not-arrays_fit t c =
    arrays_fit-inside c.args.self.now c.in-Array.element c.in-Array.number
    (sym c.if-not-arrays_fit.true ∙ c.arrays_fit.ensures ∙ ap (λ (u : CType). arrays_fit_lem c.args.self.now u) c.get.ensures)
    ∙ ap (λ (u : CType). arrays_fit_lem c.args.self.now u) (sym c.in-Array.is)

pub returns-in-Some : goal.returns-in-Some
returns-in-Some t c =
    c.product_fits.ensures
    ∙ arrays_fit-some c.args.self.now c.in-Array.element c.in-Array.number c.in-Some.layout
    (c.if-not-arrays_fit.ensures ∙ ap (λ (u : CType). arrays_fit_lem c.args.self.now u) c.get.ensures)
    (c.in-Some.ensures.value ∙ ap (λ (u : CType). layout c.args.self.now u) c.get-in-Array.ensures)
    ∙ ap (λ (u : CType). arrays_fit_lem c.args.self.now u) (sym c.in-Array.is)

pub returns-in-None : goal.returns-in-None
returns-in-None t c =
    arrays_fit-none c.args.self.now c.in-Array.element c.in-Array.number
    (c.if-not-arrays_fit.ensures ∙ ap (λ (u : CType). arrays_fit_lem c.args.self.now u) c.get.ensures)
    (c.in-None.ensures.value ∙ ap (λ (u : CType). layout c.args.self.now u) c.get-in-Array.ensures)
    ∙ ap (λ (u : CType). arrays_fit_lem c.args.self.now u) (sym c.in-Array.is)
