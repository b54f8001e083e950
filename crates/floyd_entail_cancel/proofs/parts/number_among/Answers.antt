use Rattle.std.proofs.Common.{◌≡◌, ℕ, ◌+◌, sym, ap, ◌∙◌, subst, drop, arith}
use Rattle.std.specs.Prelude.{IfSome}
use Rattle.floyd_entail_cancel.specs.Cancel.{number_among}
use Rattle.floyd_entail_cancel.proofs.NumberLemmas.{number_here, number_past}
use Rattle.floyd_entail_cancel.proofs.parts.number_among.Goals as goal

pub returns-then-is_here : goal.returns-then-is_here
returns-then-is_here c =
    let here = number_here c.args.parts.now c.parts.i c.parts.left c.index-parts-i.result c.parts-test.true c.index-parts-i.is (sym c.is_here.ensures ∙ c.if-is_here.true) in
    let same : c.parts.i + 1 ≡ number_among c.args.parts.now c.args.number = omega (arith, here, c.parts.invariant) in
    subst (λ (m : ℕ). IfSome c.number_of.result (λ n. n ≡ m)) same c.number_of.ensures

pub parts-preserved : goal.parts-preserved
parts-preserved c =
    ap (λ (k : ℕ). number_among (drop (c.parts.i + 1) c.args.parts.now) k + (c.parts.i + 1)) c.number_behind-left.ensures
    ∙ number_past c.args.parts.now c.parts.i c.parts.left c.index-parts-i.result c.parts-test.true c.index-parts-i.is (sym c.is_here.ensures ∙ c.if-is_here.false)
    ∙ c.parts.invariant
