use Rattle.std.proofs.Common.{◌≡◌, ◌++◌, drop}
use Rattle.floyd_tree_sorts.specs.Rows.{subscripts}
use Rattle.floyd_show_terms.specs.Paths.{shape_steps_text}
use Rattle.floyd_show_terms.proofs.paths.put_steps.Given as goal

abbrev pub invariant-steps : goal.invariant-steps
invariant-steps l =
    (l.out ++ shape_steps_text (drop l.step-index l.steps) l.left ≡ l.initial.out ++ shape_steps_text l.steps l.texts) ×
    (drop (subscripts (drop l.step-index l.steps)) l.left ≡ drop (subscripts l.steps) l.texts)
