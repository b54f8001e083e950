use Rattle.floyd_ctypes.specs.declared.ctype.CType.{CType}
use Rattle.floyd_elab.specs.Units.{declare_type as declare_type_lem}
use Rattle.floyd_elab.specs.UnitClauses.{declare_base as declare_base_lem}
use Rattle.floyd_elab.proofs.FollowLemmas.{stopped_with, behind_stops, behind_gives}
use Rattle.floyd_elab.proofs.headings.heading.Goals as goal

pub returns-in_err-base : goal.returns-in_err-base
returns-in_err-base c =
    stopped_with c.from_residual.result c.in_err-base.field-0.0 _ _ _ c.from_residual.ensures.1
    (behind_stops (λ (base : CType). declare_type_lem base c.args.f.now.declarator) (declare_base_lem c.args.f.now.specifiers.base c.args.file.now) c.in_err-base.field-0.0 c.in_err-base.ensures)

pub returns : goal.returns
returns c =
    behind_gives (λ (base : CType). declare_type_lem base c.args.f.now.declarator) (λ t. t) (declare_base_lem c.args.f.now.specifiers.base c.args.file.now)
    c.in_ok-base.base c.declare_base.new.file c.declare_type.new.file c.declare_type.result c.in_ok-base.ensures c.declare_type.ensures
