use Rattle.std.proofs.Common.{[], subst, sym}
use Rattle.std.proofs.lemmas.Result.{err_from_is_err_and}
use Rattle.floyd_text.specs.Gives.{Gives}
use Rattle.floyd_elab_expressions.specs.Expressions.{binary_operator as binary_operator_lem}
use Rattle.floyd_elab_expressions.specs.Behind.{behind}
use Rattle.floyd_elab_effects.specs.Effects.{send_to}
use Rattle.floyd_elab_expressions.specs.Clight.{Translated}
use Rattle.floyd_elab_expressions.proofs.Chains.{goes, stops}
use Rattle.floyd_elab_effects.proofs.effects.send_operation.Goals as goal

pub returns-in_err-sum : goal.returns-in_err-sum
returns-in_err-sum c =
    let target : Translated = behind [] c.args.operation.to.target.now in
    let p = err_from_is_err_and c.from_residual.result c.from_residual.ensures.1 in
    record { exact = rw (p.1, p.2) (stops c.in_err-sum.field-0.0 (binary_operator_lem c.args.operation.op c.args.operation.to.place (behind [] c.args.a.now) (behind c.args.out.now c.args.b.now) c.args.progress.now) (λ (sum : Translated). send_to c.args.operation.to.place target sum sum.before) (c.in_err-sum.ensures.exact c.args.out.now)) }

pub returns : goal.returns
returns c =
    let target : Translated = behind [] c.args.operation.to.target.now in
    let sum : Translated = behind c.args.out.now c.in_ok-sum.sum in
    record { exact = subst (Gives _ c.send.result) (sym (goes (binary_operator_lem c.args.operation.op c.args.operation.to.place (behind [] c.args.a.now) (behind c.args.out.now c.args.b.now) c.args.progress.now) (λ (s : Translated). send_to c.args.operation.to.place target s s.before) sum c.args.progress.now (c.in_ok-sum.ensures.exact c.args.out.now))) (c.send.ensures.exact c.args.progress.now) }
