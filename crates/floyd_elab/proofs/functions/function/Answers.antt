use Rattle.std.proofs.Common.{subst}
use Rattle.floyd_cparse_trees.specs.declared.types.Identifier.{Identifier}
use Rattle.floyd_elab_names.specs.Refusing.{GivesWith}
use Rattle.floyd_elab.specs.Units.{function_of_name as function_of_name_lem}
use Rattle.floyd_elab.proofs.functions.function.Goals as goal

pub returns : goal.returns
returns c =
    subst (λ (i : Identifier). GivesWith (λ u. u) c.function_of_name.result c.function_of_name.new.file (function_of_name_lem i c.args.t.now c.args.d.now.initialiser c.args.file.now))
    c.in_ok-i.ensures c.function_of_name.ensures
