use Rattle.std.proofs.Common.{◌≡◌, ◌++◌, drop}
use Rattle.floyd_tree_sorts.specs.ShapeClauses.{arrays_of}
use Rattle.floyd_show_terms.specs.TypesClauses.{parameters_text}
use Rattle.floyd_show_terms.proofs.types.+types.Given as goal

-- what was put, and what is left to put
abbrev pub invariant-put_parameters-shapes : goal.invariant-put_parameters-shapes
invariant-put_parameters-shapes l =
    (l.out ++ parameters_text (drop l.shape-index l.shapes) l.left ≡ l.initial.out ++ parameters_text l.shapes l.sizes) ×
    (drop (arrays_of (drop l.shape-index l.shapes)) l.left ≡ drop (arrays_of l.shapes) l.sizes)
