use Rattle.std.proofs.Common.{◌||◌, sym, ap, ◌∙◌}
use Rattle.floyd_tree_sorts.specs.Heads.{binds}
use Rattle.floyd_tree.specs.Formulas.{formulas, formulas_of}
use Rattle.floyd_truth.specs.Capture.{bound_in_some}
use Rattle.floyd_rewriting.proofs.HoleNames.{bound_parts}
use Rattle.floyd_rewriting.proofs.hole_names.+bound.Goals as goal

pub is_bound-returns-else-binds : goal.is_bound-returns-else-binds
is_bound-returns-else-binds t c =
    let x = c.args.x.now in
    let f = c.args.f.now in
    c.some_bind.ensures
    ∙ ap (λ ks. bound_in_some x (formulas ks)) (c.as_slice.ensures ∙ c.formula_kids.ensures)
    ∙ ap (λ b. b || bound_in_some x (formulas (formulas_of f))) (sym c.if-binds.false ∙ c.binds.ensures ∙ ap (binds x) c.formula_head.ensures)
    ∙ bound_parts x f
