use Rattle.std.proofs.Common.{◌≡◌, ◌+◌, ◌&&◌, false, get_or, drop, ap, sym, ◌∙◌}
use Rattle.floyd_ctypes.specs.declared.ctype.CType.{Array}
use Rattle.floyd_ctypes.specs.Layout.{type_fits}
use Rattle.floyd_elab_names.specs.ListClauses.{each_within as each_within_lem}
use Rattle.floyd_elab_names.specs.Types.{arrays_within as arrays_within_lem}
use Rattle.floyd_elab_names.proofs.LimitLemmas.{within_of_pointer, within_of_array, within_of_function, next_within}
use Rattle.floyd_elab_names.proofs.limits.+arrays.Goals as goal

pub arrays_within-returns-in-Pointer : goal.arrays_within-returns-in-Pointer
arrays_within-returns-in-Pointer t c =
    let s = c.args.structs.now in
    c.arrays_within.ensures ∙ ap (arrays_within_lem s) c.get.ensures ∙ sym (ap (arrays_within_lem s) c.in-Pointer.is ∙ within_of_pointer s c.in-Pointer.to)

pub arrays_within-returns-then-arrays_within : goal.arrays_within-returns-then-arrays_within
arrays_within-returns-then-arrays_within t c =
    let s = c.args.structs.now in
    let e = c.in-Array.element in
    c.fits.ensures
    ∙ ap (type_fits s) c.in-Array.is
    ∙ ap (λ b. b && type_fits s (Array e c.in-Array.field-1))
    (sym c.if-arrays_within.true ∙ c.arrays_within-in-Array.ensures ∙ ap (arrays_within_lem s) c.get-in-Array.ensures)
    ∙ within_of_array s e c.in-Array.field-1
    ∙ sym (ap (arrays_within_lem s) c.in-Array.is)

pub arrays_within-returns-else-arrays_within : goal.arrays_within-returns-else-arrays_within
arrays_within-returns-else-arrays_within t c =
    let s = c.args.structs.now in
    let e = c.in-Array.element in
    c.if-arrays_within.false
    ∙ ap (λ b. b && type_fits s (Array e c.in-Array.field-1))
    (sym c.if-arrays_within.false ∙ c.arrays_within-in-Array.ensures ∙ ap (arrays_within_lem s) c.get-in-Array.ensures)
    ∙ within_of_array s e c.in-Array.field-1
    ∙ sym (ap (arrays_within_lem s) c.in-Array.is)

pub arrays_within-returns-then-each_within : goal.arrays_within-returns-then-each_within
arrays_within-returns-then-each_within t c =
    let s = c.args.structs.now in
    let r = c.in-Function.result in
    c.arrays_within-then-each_within.ensures
    ∙ ap (arrays_within_lem s) c.get-then-each_within.ensures
    ∙ ap (λ b. b && arrays_within_lem s r) (sym c.if-each_within.true ∙ c.each_within.ensures ∙ ap (each_within_lem s) c.as_slice.ensures)
    ∙ sym (ap (arrays_within_lem s) c.in-Function.is ∙ within_of_function s c.in-Function.parameters r)

pub arrays_within-returns-else-each_within : goal.arrays_within-returns-else-each_within
arrays_within-returns-else-each_within t c =
    let s = c.args.structs.now in
    let r = c.in-Function.result in
    c.if-each_within.false
    ∙ ap (λ b. b && arrays_within_lem s r) (sym c.if-each_within.false ∙ c.each_within.ensures ∙ ap (each_within_lem s) c.as_slice.ensures)
    ∙ sym (ap (arrays_within_lem s) c.in-Function.is ∙ within_of_function s c.in-Function.parameters r)

pub each_within-returns-then-not-arrays_within : goal.each_within-returns-then-not-arrays_within
each_within-returns-then-not-arrays_within t c =
    let s = c.args.structs.now in
    let ts = c.args.types.now in
    let i = c.types.t-index in
    let one : arrays_within_lem s (get_or ts i c.t-item.result) ≡ false =
    sym (ap (arrays_within_lem s) c.t-item.is) ∙ sym c.arrays_within.ensures ∙ c.if-not-arrays_within.true in
    ap (λ b. b && each_within_lem s (drop (i + 1) ts)) (sym one)
    ∙ sym (next_within s ts i c.t-item.result c.types-test.true)
    ∙ c.types.invariant
