use Rattle.std.proofs.Common.{◌≡◌, [], ◌∷◌, length, IfOk, Option, Some, ℤ, sym, ap, subst, ◌∙◌, arith}
use Rattle.std.proofs.lemmas.Int.{to_z-of_z}
use mir.Syntax.{w128}
use Rattle.floyd_tree_sorts.specs.declared.heads.Head.TheVariants.{Operator}
use Rattle.floyd_tree.specs.Plain.{At, More, Done, height}
use Rattle.floyd_arith.specs.declared.unknowns.Linear.{Linear}
use Rattle.floyd_arith.specs.Linear.{linear_of, literal_of, of_both, scaled, within, constant}
use Rattle.floyd_arith.proofs.LinearLemmas.{linear_small, linear_apart, plus_once, node_is, two_items, product_left, product_right}
use Rattle.floyd_arith.proofs.apart.+apart.Goals as goal

abbrev multiple_of : Option Linear → ℤ → Option Linear
multiple_of b k = of_both (λ x y. scaled k y) (within (constant k)) b

pub apart-by_operator-requires : goal.apart-by_operator-requires
apart-by_operator-requires t c =
    let a = c.a-item.result in
    let b = c.b-item.result in
    let two : length c.as_slice.result.now ≡ 2 = omega (arith, c.in-len2.len_at_least, c.in-len2.len_below) in
    let items = two_items c.as_slice.result.now a b two c.a-item.is c.b-item.is in
    let node = node_is c.args.t.now (Operator c.in-Operator.operator) (a ∷ b ∷ []) (sym c.head.ensures ∙ c.in-Operator.is) (sym c.kids.ensures.value ∙ sym c.as_slice.ensures ∙ items) in
    let high = ap height node in
    (omega (arith, high, c.decreases), node)

pub by_operator-returns-in-Add : goal.by_operator-returns-in-Add
by_operator-returns-in-Add t c =
    let a = c.args.a.now in
    let b = c.args.b.now in
    let node = c.requires ∙ ap (λ o. At (Operator o) (More a (More b Done))) c.in-Add.is in
    subst (λ x. IfOk c.sum.result (λ s. s ≡ x)) (plus_once (linear_of a) (linear_of b) ∙ sym (ap linear_of node)) c.sum.ensures

pub product-returns-in-Some : goal.product-returns-in-Some
product-returns-in-Some t c =
    let a = c.args.a.now in
    let b = c.args.b.now in
    let left : literal_of a ≡ Some c.in-Some.k = sym c.literal_of.ensures.value ∙ c.in-Some.is in
    subst (λ x. IfOk c.multiple.result (λ p. p ≡ x)) (ap (multiple_of (linear_of b)) (to_z-of_z w128 c.in-Some.k c.in-Some.ensures.fits) ∙ product_left c.args.t.now a b c.in-Some.k (literal_of b) left) c.multiple.ensures

pub product-returns-in-Some-literal_of : goal.product-returns-in-Some-literal_of
product-returns-in-Some-literal_of t c =
    let a = c.args.a.now in
    let b = c.args.b.now in
    let none = sym c.literal_of.ensures.value ∙ c.in_default.is in
    let right : literal_of b ≡ Some c.in-Some-literal_of.k = sym c.literal_of-2.ensures.value ∙ c.in-Some-literal_of.is in
    subst (λ x. IfOk c.multiple-in-Some-literal_of.result (λ p. p ≡ x)) (ap (multiple_of (linear_of a)) (to_z-of_z w128 c.in-Some-literal_of.k c.in-Some-literal_of.ensures.fits) ∙ product_right c.args.t.now a b c.in-Some-literal_of.k none right) c.multiple-in-Some-literal_of.ensures

pub sum-add-requires-clause-small : goal.sum-add-requires-clause-small
sum-add-requires-clause-small t c = linear_small c.args.a.now c.in-Some.sum (sym c.in_ok-sum.ensures ∙ c.in-Some.is)

pub sum-add-requires-clause-apart : goal.sum-add-requires-clause-apart
sum-add-requires-clause-apart t c = linear_apart c.args.b.now c.in-Some-2.more (sym c.in_ok-more.ensures ∙ c.in-Some-2.is)
