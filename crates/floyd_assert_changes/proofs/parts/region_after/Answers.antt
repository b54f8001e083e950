use Rattle.std.specs.List.{flat_map}
use Rattle.floyd_tree.specs.Made.{fits}
use Rattle.floyd_truth.specs.Replace.{replaced}
use Rattle.floyd_assert_changes.specs.Changed.{region_after, region_terms, step_terms}
use Rattle.floyd_assert_changes.specs.ChangesClauses.{changes}
use Rattle.floyd_assert_changes.specs.FittingClauses.{fit_after}
use Rattle.floyd_assert_changes.proofs.Parting.{unfit_path, unfit_root, unfit_share, unfit_sizes}
use Rattle.floyd_assert_changes.proofs.Stopping.{stopped}
use Rattle.floyd_assert_changes.proofs.parts.region_after.Goals as goal

pub returns-in_err-share : goal.returns-in_err-share
returns-in_err-share g c =
    let ch = changes c.args.changing.now in
    let r = c.args.region.now in
    let told =
    stopped c.from_residual.result (region_after ch r) c.in_err-share.field-0.0 (fits (replaced ch r.share)) (fit_after ch (region_terms r))
    c.from_residual.ensures.1 (unfit_share ch r) c.in_err-share.ensures.err in
    record { ok = told.0; fits = told.1; err = told.2 }

pub returns-in_err-ty : goal.returns-in_err-ty
returns-in_err-ty g c =
    let ch = changes c.args.changing.now in
    let r = c.args.region.now in
    let told =
    stopped c.from_residual-in_err-ty.result (region_after ch r) c.in_err-ty.field-0.0 (fit_after ch r.ty.sizes) (fit_after ch (region_terms r))
    c.from_residual-in_err-ty.ensures.1 (unfit_sizes ch r) c.in_err-ty.ensures.err in
    record { ok = told.0; fits = told.1; err = told.2 }

pub returns-in_err-path : goal.returns-in_err-path
returns-in_err-path g c =
    let ch = changes c.args.changing.now in
    let r = c.args.region.now in
    let told =
    stopped c.from_residual-in_err-path.result (region_after ch r) c.in_err-path.field-0.0 (fit_after ch (flat_map step_terms r.path)) (fit_after ch (region_terms r))
    c.from_residual-in_err-path.ensures.1 (unfit_path ch r) c.in_err-path.ensures.err in
    record { ok = told.0; fits = told.1; err = told.2 }

pub returns-in_err-root : goal.returns-in_err-root
returns-in_err-root g c =
    let ch = changes c.args.changing.now in
    let r = c.args.region.now in
    let told =
    stopped c.from_residual-in_err-root.result (region_after ch r) c.in_err-root.field-0.0 (fits (replaced ch r.root)) (fit_after ch (region_terms r))
    c.from_residual-in_err-root.ensures.1 (unfit_root ch r) c.in_err-root.ensures.err in
    record { ok = told.0; fits = told.1; err = told.2 }
