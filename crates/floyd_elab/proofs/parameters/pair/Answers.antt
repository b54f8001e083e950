use Rattle.std.proofs.Common.{Option, ap, sym, ◌∙◌}
use Rattle.floyd_ctypes.specs.declared.ctype.CType.{CType}
use Rattle.floyd_elab_names.specs.Declarators.{name_of}
use Rattle.floyd_elab.specs.UnitClauses.{local_of}
use Rattle.floyd_elab.proofs.ParameterLemmas.{next_paired, end_paired, all_paired, is_none}
use Rattle.floyd_elab.proofs.parameters.pair.Goals as goal

pub parameters-preserved : goal.parameters-preserved
parameters-preserved c =
    next_paired c.args.parameters.now c.args.types.now c.parameters.k c.parameters.locals _ c.parameters.invariant
    c.index-parameters-k.result c.in-Some.next c.push.new.self c.parameters-test.true c.index-parameters-k.is
    (sym c.in-Some.is ∙ c.in_ok-found.ensures ∙ ap (λ (t : Option CType). local_of (name_of c.index-parameters-k.result.declarator) t) c.at.ensures)
    c.in_ok-push.ensures.ok

pub returns-in_default : goal.returns-in_default
returns-in_default c =
    end_paired c.args.parameters.now c.args.types.now c.parameters.k c.parameters.locals _ c.parameters.invariant
    c.index-parameters-k.result c.parameters-test.true c.index-parameters-k.is
    (sym (is_none c.in_ok-found.found c.in_default.not-Some) ∙ c.in_ok-found.ensures ∙ ap (λ (t : Option CType). local_of (name_of c.index-parameters-k.result.declarator) t) c.at.ensures)

pub returns : goal.returns
returns c = all_paired c.args.parameters.now c.args.types.now c.parameters.k c.parameters.locals _ c.parameters.invariant c.parameters-test.false
