use Rattle.std.proofs.Common.{List, subst}
use Rattle.floyd_ctypes.specs.declared.ctype.CType.{CType}
use Rattle.floyd_cparse_trees.specs.declared.types.Declarator.{Declarator}
use Rattle.floyd_elab_names.specs.Refusing.{GivesWith}
use Rattle.floyd_elab.specs.Units.{all_typedefs as all_typedefs_lem}
use Rattle.floyd_elab.specs.UnitClauses.{declare_base as declare_base_lem}
use Rattle.floyd_elab.proofs.FollowLemmas.{stopped_with, behind_stops, behind_gives}
use Rattle.floyd_elab.proofs.source.typedefs.Goals as goal

pub returns-in_err-base : goal.returns-in_err-base
returns-in_err-base c =
    stopped_with c.from_residual.result c.in_err-base.field-0.0 _ _ _ c.from_residual.ensures.1
    (behind_stops (λ (base : CType). all_typedefs_lem c.args.d.now.specifiers base c.args.d.now.declarators) (declare_base_lem c.args.d.now.specifiers.base c.args.file.now) c.in_err-base.field-0.0 c.in_err-base.ensures)

pub returns : goal.returns
returns c =
    behind_gives (λ (base : CType). all_typedefs_lem c.args.d.now.specifiers base c.args.d.now.declarators) (λ u. u) (declare_base_lem c.args.d.now.specifiers.base c.args.file.now)
    c.in_ok-base.base c.declare_base.new.file c.all_typedefs.new.file c.all_typedefs.result c.in_ok-base.ensures
    (subst (λ (ds : List Declarator). GivesWith (λ u. u) c.all_typedefs.result c.all_typedefs.new.file (all_typedefs_lem c.args.d.now.specifiers c.in_ok-base.base ds c.declare_base.new.file)) c.as_slice.ensures c.all_typedefs.ensures)
