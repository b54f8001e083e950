use Rattle.std.proofs.Common.{refl}
use Rattle.floyd_elab.specs.Units.{typedef as typedef_lem, all_typedefs as all_typedefs_lem}
use Rattle.floyd_elab.proofs.StepLemmas.{next_done, stopped, all_done}
use Rattle.floyd_elab.proofs.FollowLemmas.{stopped_with}
use Rattle.floyd_elab.proofs.typedefs.all_typedefs.Goals as goal

pub declarators-preserved : goal.declarators-preserved
declarators-preserved c =
    next_done (typedef_lem c.args.specifiers.now c.args.base.now) (all_typedefs_lem c.args.specifiers.now c.args.base.now) (λ s. refl) (λ x xs s. refl)
    c.args.declarators.now c.declarators.d-index c.d-item.result c.declarators.file c.typedef.new.file _
    c.declarators-test.true c.d-item.is c.in_ok-typedef.ensures c.declarators.invariant

pub returns-in_err-typedef : goal.returns-in_err-typedef
returns-in_err-typedef c =
    stopped_with c.from_residual.result c.in_err-typedef.field-0.0 _ _ _ c.from_residual.ensures.1
    (stopped (typedef_lem c.args.specifiers.now c.args.base.now) (all_typedefs_lem c.args.specifiers.now c.args.base.now) (λ s. refl) (λ x xs s. refl)
    c.args.declarators.now c.declarators.d-index c.d-item.result c.declarators.file c.in_err-typedef.field-0.0 _
    c.declarators-test.true c.d-item.is c.in_err-typedef.ensures c.declarators.invariant)

pub returns : goal.returns
returns c =
    all_done (typedef_lem c.args.specifiers.now c.args.base.now) (all_typedefs_lem c.args.specifiers.now c.args.base.now) (λ s. refl) (λ x xs s. refl)
    c.args.declarators.now c.declarators.d-index c.declarators.file _ c.declarators-test.false c.declarators.invariant
