use Rattle.std.proofs.Common.{refl}
use Rattle.floyd_elab.specs.Units.{declare_one as declare_one_lem, declare_all as declare_all_lem}
use Rattle.floyd_elab.proofs.StepLemmas.{next_done, stopped, all_done}
use Rattle.floyd_elab.proofs.FollowLemmas.{stopped_with}
use Rattle.floyd_elab.proofs.declarations.declare_all.Goals as goal

pub declarators-preserved : goal.declarators-preserved
declarators-preserved c =
    next_done (declare_one_lem c.args.external c.args.specifiers.now c.args.base.now) (declare_all_lem c.args.external c.args.specifiers.now c.args.base.now) (λ s. refl) (λ x xs s. refl)
    c.args.declarators.now c.declarators.d-index c.d-item.result c.declarators.file c.declare_one.new.file _
    c.declarators-test.true c.d-item.is c.in_ok-declare_one.ensures c.declarators.invariant

pub returns-in_err-declare_one : goal.returns-in_err-declare_one
returns-in_err-declare_one c =
    stopped_with c.from_residual.result c.in_err-declare_one.field-0.0 _ _ _ c.from_residual.ensures.1
    (stopped (declare_one_lem c.args.external c.args.specifiers.now c.args.base.now) (declare_all_lem c.args.external c.args.specifiers.now c.args.base.now) (λ s. refl) (λ x xs s. refl)
    c.args.declarators.now c.declarators.d-index c.d-item.result c.declarators.file c.in_err-declare_one.field-0.0 _
    c.declarators-test.true c.d-item.is c.in_err-declare_one.ensures c.declarators.invariant)

pub returns : goal.returns
returns c =
    all_done (declare_one_lem c.args.external c.args.specifiers.now c.args.base.now) (declare_all_lem c.args.external c.args.specifiers.now c.args.base.now) (λ s. refl) (λ x xs s. refl)
    c.args.declarators.now c.declarators.d-index c.declarators.file _ c.declarators-test.false c.declarators.invariant
