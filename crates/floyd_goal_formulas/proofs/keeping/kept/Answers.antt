use Rattle.std.proofs.Common.{◌≡◌, ◌+◌, ◌∷◌, drop, sym, subst, ap, ◌∙◌}
use Rattle.std.proofs.lemmas.List.{drop_all, drop_more}
use Rattle.floyd_goal_formulas.specs.Keeping.{Kept}
use Rattle.floyd_goal_formulas.proofs.KeepingLemmas.{one_more, none_left}
use Rattle.floyd_goal_formulas.proofs.keeping.kept.Goals as goal

pub formulas-preserved : goal.formulas-preserved
formulas-preserved c = λ more k.
    let hs = c.args.hypotheses.now in
    let fs = c.args.formulas.now in
    let i = c.formulas.formula-index in
    let f = c.formula-item.result in
    let step : drop i fs ≡ f ∷ drop (i + 1) fs = drop_more fs i f c.formulas-test.true ∙ ap (λ g. g ∷ drop (i + 1) fs) (sym c.formula-item.is) in
    one_more hs fs (drop (i + 1) fs) c.formulas.all c.keep.new.all f (λ m n. c.formulas.invariant m (subst (λ xs. Kept hs xs m) (sym step) n)) c.in_ok-keep.ensures more k

pub returns : goal.returns
returns c =
    let hs = c.args.hypotheses.now in
    let fs = c.args.formulas.now in
    none_left hs fs c.formulas.all (λ m n. c.formulas.invariant m (subst (λ xs. Kept hs xs m) (sym (drop_all c.formulas.formula-index fs c.formulas-test.false)) n))
