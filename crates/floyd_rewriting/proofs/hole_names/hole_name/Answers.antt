use Rattle.std.proofs.Common.{◌≡◌, ◌+◌, ◌-◌, ◌^◌, true, false, [], refl, sym, ◌∙◌, ap, subst, arith}
use Rattle.floyd_truth.specs.Capture.{marked, most_marks}
use Rattle.floyd_rewriting.specs.Holes.{first_free, is_there}
use Rattle.floyd_rewriting.proofs.HoleNames.{most_is, next_free, no_more}
use Rattle.floyd_rewriting.proofs.hole_names.hole_name.Goals as goal

pub marks-preserved : goal.marks-preserved
marks-preserved c =
    let i = c.marks.i in
    let taken = is_there c.args.from.now c.args.binders.now c.args.props.now c.args.terms.now in
    let most : most_marks ≡ 2 ^ 63 = most_is in
    let there : taken (marked [] (i + 1)) ≡ true = ap taken (sym c.in_ok-name.ensures) ∙ sym c.is_there.ensures ∙ c.if-not-is_there.false in
    c.marks.invariant ∙ next_free taken (most_marks - i) (most_marks - (i + 1)) (i + 1) (omega (arith, most, c.marks-test.true)) there
