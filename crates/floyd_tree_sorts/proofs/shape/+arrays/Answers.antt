use Rattle.std.proofs.Common.{◌≡◌, ℕ, ◌+◌, min, ◌^◌, ◌-◌, ◌∙◌, ap, arith}
use Rattle.floyd_tree_sorts.specs.ShapeClauses.{arrays_of}
use Rattle.floyd_tree_sorts.specs.Table.{arrays}
use Rattle.floyd_tree_sorts.proofs.ShapeLemmas.{arrays_function}
use Rattle.floyd_tree_sorts.proofs.shape.+arrays.Goals as goal

saturated : (a b x y z m r : ℕ) → r ≡ min (a + b) m → a ≡ min x m → b ≡ min y m → z ≡ x + y → r ≡ min z m
saturated a b x y z m r e f g h = omega arith

pub arrays-returns-in-Function : goal.arrays-returns-in-Function
arrays-returns-in-Function t c =
    saturated c.arrays_of.result c.arrays-in-Function.result (arrays_of c.in-Function.parameters) (arrays c.in-Function.result) (arrays c.args.shape.now) _ _
    c.saturating_add-in-Function.ensures
    (c.arrays_of.ensures ∙ ap (λ x. min (arrays_of x) (2 ^ 128 - 1)) c.as_slice.ensures)
    (c.arrays-in-Function.ensures ∙ ap (λ x. min (arrays x) (2 ^ 128 - 1)) c.get-in-Function.ensures)
    (ap arrays c.in-Function.is ∙ arrays_function c.in-Function.parameters c.in-Function.result)
