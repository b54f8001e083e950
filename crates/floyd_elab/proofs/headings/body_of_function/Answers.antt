use Rattle.std.proofs.Common.{List, subst}
use Rattle.floyd_ctypes.specs.declared.ctype.CType.{CType}
use Rattle.floyd_cparse_trees.specs.declared.statements.BlockItem.{BlockItem}
use Rattle.floyd_cparse_trees.specs.declared.statements.CStatement.{Block}
use Rattle.floyd_clight.specs.declared.unit.Local.{Local}
use Rattle.floyd_elab_names.specs.Refusing.{GivesWith}
use Rattle.floyd_elab.specs.Units.{parameters_of as parameters_of_lem, define_body as define_body_lem}
use Rattle.floyd_elab.proofs.headings.body_of_function.Goals as goal

pub returns : goal.returns
returns c =
    subst (λ (r : CType). GivesWith (λ u. u) c.define_body.result c.define_body.new.file (define_body_lem c.args.i r (parameters_of_lem c.args.f.now.declarator c.args.t.now) (Block c.args.f.now.body) c.args.file.now))
    c.in_ok-result_type.ensures
    (subst (λ (ps : List Local). GivesWith (λ u. u) c.define_body.result c.define_body.new.file (define_body_lem c.args.i c.in_ok-result_type.result_type ps (Block c.args.f.now.body) c.args.file.now))
    c.in_ok-parameters.ensures
    (subst (λ (items : List BlockItem). GivesWith (λ u. u) c.define_body.result c.define_body.new.file (define_body_lem c.args.i c.in_ok-result_type.result_type c.in_ok-parameters.parameters (Block items) c.args.file.now))
    c.as_slice.ensures c.define_body.ensures))
