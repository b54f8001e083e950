use Rattle.std.proofs.Common.{length, sym, ◌∙◌, ap, get_or, arith, rules}
use Rattle.std.specs.Prelude.{slice_get}
use Rattle.floyd_tree.proofs.PathLemmas.{length-steps_in, none_at, step_at}
use Rattle.floyd_tree.proofs.paths.Path.step.Goals as goal

pub offset_bounds-as_slice-place : goal.offset_bounds-as_slice-place
offset_bounds-as_slice-place c =
    let len = ap length c.as_slice.ensures ∙ sym (length-steps_in _ c.self.invariant) ∙ ap length c.self.view_is in
    let small = c.as_slice.type_inv.1 in
    search (rules, len)

pub bounds-as_slice-place : goal.bounds-as_slice-place
bounds-as_slice-place c =
    let len = ap length c.as_slice.ensures ∙ sym (length-steps_in _ c.self.invariant) ∙ ap length c.self.view_is in
    omega (arith, c.requires)

pub unreachable-requires : goal.unreachable-requires
unreachable-requires c =
    let xs = c.self.inside.steps.items in
    let i = c.args.place in
    let len = length-steps_in xs c.self.invariant in
    let seen = ap length c.self.view_is in
    none_at xs i c.index-as_slice-place.result c.self.invariant (omega (arith, c.requires))
    (ap (λ ys. get_or ys i c.index-as_slice-place.result) (sym c.as_slice.ensures) ∙ sym c.index-as_slice-place.is ∙ c.in-None.is)

pub returns : goal.returns
returns c =
    let xs = c.self.inside.steps.items in
    let i = c.args.place in
    let len = length-steps_in xs c.self.invariant in
    let seen = ap length c.self.view_is in
    ap (λ ys. slice_get ys i) (sym c.self.view_is)
    ∙ step_at xs i c.index-as_slice-place.result c.in-Some.step c.self.invariant (omega (arith, c.requires))
    (ap (λ ys. get_or ys i c.index-as_slice-place.result) (sym c.as_slice.ensures) ∙ sym c.index-as_slice-place.is ∙ c.in-Some.is)
