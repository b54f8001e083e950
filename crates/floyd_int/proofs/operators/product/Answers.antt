use Rattle.std.proofs.Common.{◌*ℤ◌, sym, ◌∙◌, ap}
use Rattle.floyd_int.specs.Operation.{arithmetic}
use Rattle.floyd_int.proofs.Wide.{InRange-fits, product_fits, wide_product}
use Rattle.floyd_int.proofs.operators.product.Goals as goal

pub returns-then-is_signed-clause-exact : goal.returns-then-is_signed-clause-exact
returns-then-is_signed-clause-exact c =
    let k = c.args.kind in
    let x = c.value in
    let y = c.value-then-is_signed in
    let signed = sym c.is_signed.ensures ∙ c.if-is_signed.true in
    let fits = product_fits k x.result y.result signed x.ensures.in_range y.ensures.in_range in
    let product = wide_product x.result y.result (InRange-fits k x.result x.ensures.in_range) (InRange-fits k y.result y.ensures.in_range) fits in
    c.arithmetic.ensures.exact ∙ ap (arithmetic k) (product ∙ (λ i. x.ensures.value i *ℤ y.ensures.value i))
