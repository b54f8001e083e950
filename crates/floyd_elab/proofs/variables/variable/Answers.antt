use Rattle.std.proofs.Common.{Bool, subst}
use Rattle.floyd_cparse_trees.specs.declared.types.Identifier.{Identifier}
use Rattle.floyd_elab_names.specs.Refusing.{GivesWith}
use Rattle.floyd_elab.specs.Units.{declarator_name as declarator_name_lem}
use Rattle.floyd_elab.specs.Units.{variable_of_name as variable_of_name_lem}
use Rattle.floyd_elab.proofs.variables.variable.Goals as goal

pub returns : goal.returns
returns c =
    subst (λ (b : Bool). GivesWith (λ u. u) c.variable_of_name.result c.variable_of_name.new.file (variable_of_name_lem b (declarator_name_lem c.args.d.now.declarator) c.args.t.now c.args.d.now.initialiser c.args.file.now))
    c.is_defined-defines.ensures
    (subst (λ (i : Identifier). GivesWith (λ u. u) c.variable_of_name.result c.variable_of_name.new.file (variable_of_name_lem c.is_defined-defines.result i c.args.t.now c.args.d.now.initialiser c.args.file.now))
    c.in_ok-i.ensures c.variable_of_name.ensures)
