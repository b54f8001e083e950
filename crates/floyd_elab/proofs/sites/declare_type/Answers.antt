use Rattle.floyd_elab.proofs.DeclareLemmas.{type_is_large, type_is_declared}
use Rattle.floyd_elab.proofs.FollowLemmas.{stopped_with, behind_stops}
use Rattle.floyd_elab.specs.UnitClauses.{any_type as any_type_lem}
use Rattle.floyd_elab.proofs.DeclareLemmas.{within}
use Rattle.floyd_elab.proofs.sites.declare_type.Goals as goal

pub returns-in_err-t : goal.returns-in_err-t
returns-in_err-t c =
    stopped_with c.from_residual.result c.in_err-t.field-0.0 _ _ _ c.from_residual.ensures.1
    (behind_stops (within c.args.d.now) (any_type_lem c.args.base.now c.args.d.now c.args.file.now) c.in_err-t.field-0.0 c.in_err-t.ensures)

pub returns-in_err-unless_large : goal.returns-in_err-unless_large
returns-in_err-unless_large c =
    stopped_with c.from_residual-in_err-unless_large.result c.in_err-unless_large.field-0.0 _ _ _ c.from_residual-in_err-unless_large.ensures.1
    (type_is_large c.args.base.now c.args.d.now c.args.file.now c.any_type.new.file c.in_ok-t.t c.in_ok-t.ensures c.in_err-unless_large.field-0.0 c.in_err-unless_large.ensures)

pub returns : goal.returns
returns c = type_is_declared c.args.base.now c.args.d.now c.args.file.now c.any_type.new.file c.in_ok-t.t c.in_ok-t.ensures c.in_ok-unless_large.ensures
