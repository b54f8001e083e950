use Rattle.std.proofs.Common.{subst}
use Rattle.floyd_cparse_trees.specs.declared.types.Identifier.{Identifier}
use Rattle.floyd_elab_names.specs.Refusing.{GivesWith}
use Rattle.floyd_elab.specs.Units.{declarator_name as declarator_name_lem, declare_type as declare_type_lem}
use Rattle.floyd_elab.specs.Units.{typedef_of_name as typedef_of_name_lem}
use Rattle.floyd_elab.proofs.FollowLemmas.{stopped_with, behind_stops, behind_gives}
use Rattle.floyd_elab.proofs.typedefs.typedef.Goals as goal

pub returns-in_err-t : goal.returns-in_err-t
returns-in_err-t c =
    stopped_with c.from_residual-in_err-t.result c.in_err-t.field-0.0 _ _ _ c.from_residual-in_err-t.ensures.1
    (behind_stops (typedef_of_name_lem c.args.specifiers.now c.args.base.now c.args.d.now (declarator_name_lem c.args.d.now)) (declare_type_lem c.args.base.now c.args.d.now c.args.file.now)
    c.in_err-t.field-0.0 c.in_err-t.ensures)

pub returns : goal.returns
returns c =
    behind_gives (typedef_of_name_lem c.args.specifiers.now c.args.base.now c.args.d.now (declarator_name_lem c.args.d.now)) (λ u. u) (declare_type_lem c.args.base.now c.args.d.now c.args.file.now)
    c.in_ok-t.t c.declare_type.new.file c.typedef_of_name.new.file c.typedef_of_name.result c.in_ok-t.ensures
    (subst (λ (i : Identifier). GivesWith (λ u. u) c.typedef_of_name.result c.typedef_of_name.new.file (typedef_of_name_lem c.args.specifiers.now c.args.base.now c.args.d.now i c.in_ok-t.t c.declare_type.new.file))
    c.in_ok-i.ensures c.typedef_of_name.ensures)
