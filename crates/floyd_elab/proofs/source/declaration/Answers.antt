use Rattle.std.proofs.Common.{List, subst}
use Rattle.floyd_ctypes.specs.declared.ctype.CType.{CType}
use Rattle.floyd_cparse_trees.specs.declared.declarations.InitDeclarator.{InitDeclarator}
use Rattle.floyd_elab_names.specs.Refusing.{GivesWith}
use Rattle.floyd_elab.specs.Units.{declare_all as declare_all_lem}
use Rattle.floyd_elab.specs.UnitClauses.{declare_base as declare_base_lem}
use Rattle.floyd_elab.proofs.FollowLemmas.{stopped_with, behind_stops, behind_gives}
use Rattle.floyd_elab.proofs.source.declaration.Goals as goal

pub returns-in_err-base : goal.returns-in_err-base
returns-in_err-base c =
    stopped_with c.from_residual.result c.in_err-base.field-0.0 _ _ _ c.from_residual.ensures.1
    (behind_stops (λ (base : CType). declare_all_lem c.args.d.now.external c.args.d.now.specifiers base c.args.d.now.declarators) (declare_base_lem c.args.d.now.specifiers.base c.args.file.now) c.in_err-base.field-0.0 c.in_err-base.ensures)

pub returns : goal.returns
returns c =
    behind_gives (λ (base : CType). declare_all_lem c.args.d.now.external c.args.d.now.specifiers base c.args.d.now.declarators) (λ u. u) (declare_base_lem c.args.d.now.specifiers.base c.args.file.now)
    c.in_ok-base.base c.declare_base.new.file c.declare_all.new.file c.declare_all.result c.in_ok-base.ensures
    (subst (λ (ds : List InitDeclarator). GivesWith (λ u. u) c.declare_all.result c.declare_all.new.file (declare_all_lem c.args.d.now.external c.args.d.now.specifiers c.in_ok-base.base ds c.declare_base.new.file)) c.as_slice.ensures c.declare_all.ensures)
