use Rattle.std.proofs.Common.{◌+◌, map, refl, sym, ◌∙◌}
use Rattle.std.specs.List.{flat_map}
use Rattle.floyd_assert_changes.specs.Changed.{step_after, step_terms}
use Rattle.floyd_assert_changes.specs.ChangesClauses.{changes}
use Rattle.floyd_assert_changes.specs.FittingClauses.{fit_after}
use Rattle.floyd_assert_changes.proofs.Parting.{agree_in, fit_left, taken_more, unfit_left}
use Rattle.floyd_assert_changes.proofs.Stopping.{stopped}
use Rattle.floyd_assert_changes.proofs.parts.path_after.Goals as goal

pub step_after-requires-clause-sorts : goal.step_after-requires-clause-sorts
step_after-requires-clause-sorts g c =
    agree_in (changes c.args.changing.now) step_terms c.args.path.now c.steps.place c.step.result.now c.step.ensures c.requires.sorts

pub returns-in_err-step-clause-err : goal.returns-in_err-step-clause-err
returns-in_err-step-clause-err g c =
    let ch = changes c.args.changing.now in
    let path = c.args.path.now in
    let step = c.step.result.now in
    let told =
    stopped c.from_residual.result (map (step_after ch) path) c.in_err-step.field-0.0 (fit_after ch (step_terms step)) (fit_after ch (flat_map step_terms path))
    c.from_residual.ensures.1
    (λ e. sym c.steps.invariant.fits ∙ unfit_left ch step_terms path c.steps.place step c.step.ensures e)
    c.in_err-step.ensures.err in
    told.2

pub steps-preserved : goal.steps-preserved
steps-preserved g c =
    let ch = changes c.args.changing.now in
    let path = c.args.path.now in
    let i = c.steps.place in
    let step = c.step.result.now in
    record {
      items = c.in_ok-push.ensures.ok ∙ taken_more (step_after ch) path i (i + 1) step c.in_ok-step.step c.steps.all refl c.step.ensures c.steps.invariant.items c.in_ok-step.ensures.ok;
      fits = fit_left ch step_terms path i (i + 1) step refl c.step.ensures c.in_ok-step.ensures.fits ∙ c.steps.invariant.fits;
    }
