use Rattle.std.proofs.Common.{◌≡◌, ◌≤◌, ◌+◌, ◌+ℤ◌, ◌∷◌, Some, drop, sym, ap, ◌∙◌, arith}
use Rattle.std.proofs.lemmas.Int.{ints}
use Rattle.std.specs.Prelude.{unsigned_abs}
use Rattle.std.proofs.lemmas.List.{drop_more}
use Rattle.floyd_fieldpath.specs.Sums.{literal_in}
use Rattle.floyd_simplifying.specs.SumClauses.{whole}
use Rattle.floyd_simplifying.proofs.Summing.{added, number_on}
use Rattle.floyd_simplifying.proofs.sums.sum_of.Goals as goal

pub items-preserved : goal.items-preserved
items-preserved c =
    let items = c.args.items.now in
    let i = c.items.item-index in
    let t = c.item-item.result in
    let step : drop i items ≡ t ∷ drop (i + 1) items = drop_more items i t c.items-test.true ∙ ap (λ u. u ∷ drop (i + 1) items) (sym c.item-item.is) in
    let literal : literal_in t ≡ Some c.in-Some.z = sym c.literal_in.ensures ∙ c.in-Some.is in
    let value : whole c.plus-sum.result ≡ whole c.items.sum +ℤ c.in-Some.z = omega (arith, ints, c.plus-sum.ensures.value) in
    let near : unsigned_abs c.plus-sum.result.high ≤ c.items.item-index + 1 = omega (arith, ints, c.plus-sum.ensures.near, c.items.invariant.near) in
    record {
      total = number_on (whole c.items.sum) c.in-Some.z (whole c.plus-sum.result) t (drop (i + 1) items) literal value ∙ ap (added (whole c.items.sum)) (sym step) ∙ c.items.invariant.total;
      near = near;
    }
