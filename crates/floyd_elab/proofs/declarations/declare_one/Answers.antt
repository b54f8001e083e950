use Rattle.floyd_elab_names.specs.Refusing.{◌>>=◌}
use Rattle.floyd_elab.specs.Units.{declare_type as declare_type_lem}
use Rattle.floyd_elab.specs.UnitClauses.{unless_constant as unless_constant_lem, declare_as as declare_as_lem}
use Rattle.floyd_elab.proofs.FollowLemmas.{stopped_with, behind_stops, behind_stops_at, behind_gives}
use Rattle.floyd_elab.proofs.declarations.declare_one.Goals as goal

pub returns-in_err-unless_constant : goal.returns-in_err-unless_constant
returns-in_err-unless_constant c =
    stopped_with c.from_residual.result c.in_err-unless_constant.field-0.0 _ _ _ c.from_residual.ensures.1
    (behind_stops (λ _. declare_type_lem c.args.base.now c.args.d.now.declarator >>= declare_as_lem c.args.external c.args.d.now)
    (unless_constant_lem c.args.specifiers.now c.args.base.now c.args.d.now.declarator c.args.file.now) c.in_err-unless_constant.field-0.0 c.in_err-unless_constant.ensures)

pub returns-in_err-t : goal.returns-in_err-t
returns-in_err-t c =
    stopped_with c.from_residual-in_err-t.result c.in_err-t.field-0.0 _ _ _ c.from_residual-in_err-t.ensures.1
    (behind_stops_at (λ _. declare_type_lem c.args.base.now c.args.d.now.declarator >>= declare_as_lem c.args.external c.args.d.now)
    (unless_constant_lem c.args.specifiers.now c.args.base.now c.args.d.now.declarator c.args.file.now) tt c.args.file.now c.in_err-t.field-0.0 c.in_ok-unless_constant.ensures
    (behind_stops (declare_as_lem c.args.external c.args.d.now) (declare_type_lem c.args.base.now c.args.d.now.declarator c.args.file.now) c.in_err-t.field-0.0 c.in_err-t.ensures))

pub returns : goal.returns
returns c =
    behind_gives (λ _. declare_type_lem c.args.base.now c.args.d.now.declarator >>= declare_as_lem c.args.external c.args.d.now) (λ u. u)
    (unless_constant_lem c.args.specifiers.now c.args.base.now c.args.d.now.declarator c.args.file.now) tt c.args.file.now c.declare_as.new.file c.declare_as.result c.in_ok-unless_constant.ensures
    (behind_gives (declare_as_lem c.args.external c.args.d.now) (λ u. u) (declare_type_lem c.args.base.now c.args.d.now.declarator c.args.file.now)
    c.in_ok-t.t c.declare_type.new.file c.declare_as.new.file c.declare_as.result c.in_ok-t.ensures c.declare_as.ensures)
