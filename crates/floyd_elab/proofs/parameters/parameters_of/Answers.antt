use Rattle.std.proofs.Common.{List, ap, ◌∙◌}
use Rattle.floyd_ctypes.specs.declared.ctype.CType.{CType}
use Rattle.floyd_cparse_trees.specs.declared.types.Parameter.{Parameter}
use Rattle.floyd_elab.specs.Units.{pair as pair_lem}
use Rattle.floyd_elab.specs.UnitClauses.{names_of}
use Rattle.floyd_elab.proofs.ParameterLemmas.{parameters_of_own}
use Rattle.floyd_elab.proofs.parameters.parameters_of.Goals as goal

pub returns-in_ok-pair-in-Some : goal.returns-in_ok-pair-in-Some
returns-in_ok-pair-in-Some c =
    c.in_ok-pair-in-Some.ensures
    ∙ ap (λ (qs : List Parameter). pair_lem (names_of qs) c.as_slice-in-Some.result.now) c.as_slice.ensures
    ∙ ap (λ (ts : List CType). pair_lem (names_of c.in-Some.parameters.now) ts) c.as_slice-in-Some.ensures
    ∙ parameters_of_own c.args.d.now c.args.t.now c.in-Function.types c.in-Function.field-1 c.in-Some.parameters.now c.in-Function.is c.in-Some.ensures
