use Rattle.std.proofs.Common.{◌≡◌, false, Some, sym, ◌∙◌, ap}
use Rattle.floyd_stub_goal.specs.Sides.{is_dropped, kept}
use Rattle.floyd_stub_goal.proofs.Conjunctions.{onto, onto_none, onto_kept}
use Rattle.floyd_stub_goal.proofs.side.conjunction.Goals as goal

pub formulas-init : goal.formulas-init
formulas-init c = onto_none (kept c.args.formulas)

pub formulas-preserved-then-not-is_dropped : goal.formulas-preserved-then-not-is_dropped
formulas-preserved-then-not-is_dropped c =
    let d : is_dropped c.in-Some.f ≡ false = sym c.is_dropped.ensures ∙ c.if-not-is_dropped.true in
    ap (λ f. onto (kept c.pop.new.self) (Some f)) c.in_ok-joined.ensures
    ∙ sym (onto_kept c.pop.new.self c.in-Some.f c.formulas.all d)
    ∙ ap (λ fs. onto (kept fs) c.formulas.all) (sym c.in-Some.ensures)
    ∙ c.formulas.invariant
