use Rattle.std.proofs.Common.{refl}
use Rattle.floyd_elab.specs.Units.{elaborate_external as elaborate_external_lem, elaborate_externals as elaborate_externals_lem}
use Rattle.floyd_elab.proofs.StepLemmas.{next_done, stopped, all_done}
use Rattle.floyd_elab.proofs.FollowLemmas.{stopped_with}
use Rattle.floyd_elab.proofs.source.elaborate_externals.Goals as goal

pub externals-preserved : goal.externals-preserved
externals-preserved c =
    next_done elaborate_external_lem elaborate_externals_lem (λ s. refl) (λ x xs s. refl)
    c.args.externals.now c.externals.e-index c.e-item.result c.externals.file c.elaborate_external.new.file _
    c.externals-test.true c.e-item.is c.in_ok-elaborate_external.ensures c.externals.invariant

pub returns-in_err-elaborate_external : goal.returns-in_err-elaborate_external
returns-in_err-elaborate_external c =
    stopped_with c.from_residual.result c.in_err-elaborate_external.field-0.0 _ _ _ c.from_residual.ensures.1
    (stopped elaborate_external_lem elaborate_externals_lem (λ s. refl) (λ x xs s. refl)
    c.args.externals.now c.externals.e-index c.e-item.result c.externals.file c.in_err-elaborate_external.field-0.0 _
    c.externals-test.true c.e-item.is c.in_err-elaborate_external.ensures c.externals.invariant)

pub returns : goal.returns
returns c =
    all_done elaborate_external_lem elaborate_externals_lem (λ s. refl) (λ x xs s. refl)
    c.args.externals.now c.externals.e-index c.externals.file _ c.externals-test.false c.externals.invariant
