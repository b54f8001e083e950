use Rattle.std.proofs.Common.{ap, sym, ◌∙◌, ◌&&◌, not}
use Rattle.floyd_elab_names.specs.Types.{is_aggregate as is_aggregate_lem, returns_well as returns_well_lem}
use Rattle.floyd_elab_names.proofs.TypeLemmas.{returns_well-pointer, returns_well-array, returns_well-function}
use Rattle.floyd_elab_names.proofs.types.+returns_well.Goals as goal

pub returns-in-Pointer : goal.returns-in-Pointer
returns-in-Pointer t c = c.returns_well.ensures ∙ ap returns_well_lem c.get.ensures ∙ sym (ap returns_well_lem c.in-Pointer.is ∙ returns_well-pointer _)

pub returns-in-Array : goal.returns-in-Array
returns-in-Array t c = c.returns_well-in-Array.ensures ∙ ap returns_well_lem c.get-in-Array.ensures ∙ sym (ap returns_well_lem c.in-Array.is ∙ returns_well-array _ _)

pub returns-then-not-is_aggregate : goal.returns-then-not-is_aggregate
returns-then-not-is_aggregate t c =
    let r = c.in-Function.result in
    c.returns_well-then-not-is_aggregate.ensures
    ∙ ap returns_well_lem c.get-result.ensures
    ∙ sym (ap returns_well_lem c.in-Function.is ∙ returns_well-function _ r
    ∙ ap (λ b. b && returns_well_lem r) (ap (λ x. not (is_aggregate_lem x)) (sym c.get-result.ensures) ∙ ap not (sym c.is_aggregate.ensures) ∙ ap not c.if-not-is_aggregate.true))

pub returns-else-not-is_aggregate : goal.returns-else-not-is_aggregate
returns-else-not-is_aggregate t c =
    let r = c.in-Function.result in
    ap not c.if-not-is_aggregate.false
    ∙ sym (ap returns_well_lem c.in-Function.is ∙ returns_well-function _ r
    ∙ ap (λ b. b && returns_well_lem r) (ap (λ x. not (is_aggregate_lem x)) (sym c.get-result.ensures) ∙ ap not (sym c.is_aggregate.ensures) ∙ ap not c.if-not-is_aggregate.false))
