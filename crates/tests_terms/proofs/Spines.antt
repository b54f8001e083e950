-- The positions above the leftmost leaf.
use Rattle.std.proofs.Common.{◌≡◌, ℕ, zero, suc, ◌+◌, ◌≤◌, Bool, true, false, ◌||◌, List, refl, ap, ◌∙◌, arith}
use Rattle.floyd_tree_sorts.specs.declared.heads.Head.TheVariants.{Variable}
use Rattle.floyd_tree_sorts.specs.declared.sorts.Sort.{Z}
use Rattle.floyd_tree_sorts.specs.Heads.{is_variable}
use Rattle.floyd_tree.specs.Plain.{Plain, Plains, At, Done, More, mentions, mentions_in}
use Rattle.floyd_tree.specs.Replace.{above, above_in, one_if}
use Rattle.tests_terms.specs.Full.{full, spine}

absent : (n : ℕ) (x : List ℕ) (leaf : Plain) → mentions x leaf ≡ false → mentions x (full n leaf) ≡ false
absent zero x leaf h = h
absent (suc n) x leaf h =
    ap (λ b. b || (mentions x (full n leaf) || false)) (absent n x leaf h) ∙ ap (λ b. b || false) (absent n x leaf h)

neither : (a b : Bool) → (a || b) ≡ false → (a ≡ false) × (b ≡ false)
neither false b h = (refl, h)
neither true b h = absurd cc

mutual
  none_above : (x : List ℕ) (t : Plain) → mentions x t ≡ false → above x t ≡ 0
  none_above x (At head kids) h =
      let p = neither (is_variable x head) (mentions_in x kids) h in
      omega (arith, ap one_if p.1, none_above_in x kids p.1)

  none_above_in : (x : List ℕ) (ts : Plains) → mentions_in x ts ≡ false → above_in x ts ≡ 0
  none_above_in x Done h = refl
  none_above_in x (More t ts) h =
      let p = neither (mentions x t) (mentions_in x ts) h in
      omega (arith, none_above x t p.0, none_above_in x ts p.1)

at_most_one : (b : Bool) → one_if b ≤ 1
at_most_one true = omega arith
at_most_one false = omega arith

above_leftmost : (n : ℕ) (x : List ℕ) (leaf : Plain) → mentions x leaf ≡ false → above x (spine n (At (Variable x Z) Done) leaf) ≤ n
above_leftmost zero x leaf h = omega arith
above_leftmost (suc n) x leaf h =
    omega (arith, at_most_one (mentions x (spine n (At (Variable x Z) Done) leaf) || (mentions x (full n leaf) || false)), above_leftmost n x leaf h, none_above x (full n leaf) (absent n x leaf h))

-- a substitution that makes no more nodes than there are such positions
pub few_made : (n before after : ℕ) (x : List ℕ) (leaf t : Plain) → mentions x leaf ≡ false → t ≡ spine n (At (Variable x Z) Done) leaf → after ≤ before + above x t → after ≤ before + n
few_made n before after x leaf t h e cost = omega (arith, cost, ap (above x) e, above_leftmost n x leaf h)
