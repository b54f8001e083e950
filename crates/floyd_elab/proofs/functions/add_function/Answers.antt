use Rattle.std.proofs.Common.{rules, ◌≡◌, ◌++◌, ◌∷◌, [], ap, sym, ◌∙◌}
use Rattle.floyd_ctypes.specs.declared.ctype.CType.{CType}
use Rattle.floyd_elab.specs.UnitClauses.{with_function}
use Rattle.floyd_elab.proofs.ParameterLemmas.{with_function_of}
use Rattle.floyd_elab.proofs.functions.add_function.Goals as goal

pub returns-in_ok-push-in-Function : goal.returns-in_ok-push-in-Function
returns-in_ok-push-in-Function c =
    let put : c.push.new.self ≡ c.args.functions.now ++ record { name = c.args.i.now.name; place = c.args.i.now.place; parameters = c.in-Function.parameters; result = c.in-Function.result } ∷ [] = search rules in
    put ∙ sym (ap (λ (t : CType). with_function c.args.functions.now c.args.i.now t) c.in-Function.is ∙ with_function_of c.args.functions.now c.args.i.now c.in-Function.parameters c.in-Function.result)
