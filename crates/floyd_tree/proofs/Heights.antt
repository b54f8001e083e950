-- Kids are lower than their tree, and a tree is known by its head and kids.
use Rattle.std.proofs.Common.{◌≡◌, ℕ, suc, zero, ◌+◌, ◌<◌, ◌≤◌, List, [], ◌∷◌, length, get_or, ap, sym, ◌∙◌, arith}
use Rattle.floyd_tree.specs.Code.{plains-listed}
use Rattle.floyd_tree.specs.Plain.{Plain, At, plains, head_of, kids_of, height, heights}

pub height_at : (ts : List Plain) (i : ℕ) (d : Plain) → i < length ts → height (get_or ts i d) ≤ heights (plains ts)
height_at [] i d h = absurd (omega arith)
height_at (t ∷ ts) zero d h = omega arith
height_at (t ∷ ts) (suc i) d h = omega (arith, height_at ts i d (omega arith))

pub heights_below : (t : Plain) → heights (plains (kids_of t)) + 1 ≡ height t
heights_below (At head kids) = ap (λ ts. heights ts + 1) (plains-listed kids)

whole : (t : Plain) → At (head_of t) (plains (kids_of t)) ≡ t
whole (At head kids) = ap (At head) (plains-listed kids)

pub same_parts : (a b : Plain) → head_of a ≡ head_of b → kids_of a ≡ kids_of b → a ≡ b
same_parts a b h k = sym (whole a) ∙ ap (λ x. At x (plains (kids_of a))) h ∙ ap (λ x. At (head_of b) (plains x)) k ∙ whole b
