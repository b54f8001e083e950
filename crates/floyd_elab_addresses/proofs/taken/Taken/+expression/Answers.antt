use Rattle.std.proofs.Common.{◌&&◌, ◌||◌, refl, ap, sym, ◌∙◌, inl, inr, drop_of_length-le}
use Rattle.std.proofs.lemmas.Result.{on_ok_weaker}
use Rattle.std.specs.List.{list_any}
use Rattle.floyd_elab_addresses.specs.Addresses.{ends_in_address, is_variable, in_expression}
use Rattle.floyd_elab_addresses.specs.SetClauses.{is_among}
use Rattle.floyd_elab_addresses.proofs.Adding.{adds_as, adds_then}
use Rattle.floyd_elab_addresses.proofs.ExpressionParts.{in-parenthesised, in-postfix, in-member, in-index, in-binary, in-assign, one_part, two_parts, three_parts, prefixed_parts, call_parts, any_next}
use Rattle.floyd_elab_addresses.proofs.taken.Taken.+expression.Goals as goal

pub expression-returns-in-Parenthesised : goal.expression-returns-in-Parenthesised
expression-returns-in-Parenthesised t c =
    let e = c.args.e.now in
    let inner = c.in-Parenthesised.inner in
    on_ok_weaker _
    (adds_as c.args.self.now c.expression.new.self (λ x. in_expression x c.get.result.now) (λ x. in_expression x e)
    (λ x. one_part x e inner c.get.result.now (ap (in_expression x) c.in-Parenthesised.is ∙ in-parenthesised x inner) c.get.ensures))
    c.expression.ensures

pub expression-returns-in-PostfixStep : goal.expression-returns-in-PostfixStep
expression-returns-in-PostfixStep t c =
    let e = c.args.e.now in
    let operand = c.in-PostfixStep.operand in
    let got = c.get-in-PostfixStep.result.now in
    on_ok_weaker _
    (adds_as c.args.self.now c.expression-in-PostfixStep.new.self (λ x. in_expression x got) (λ x. in_expression x e)
    (λ x. one_part x e operand got
    (elim c.in-PostfixStep.is [
      | inl h ↦ ap (in_expression x) h.2 ∙ in-postfix x operand h.0 h.1
      | inr h ↦ ap (in_expression x) h.3 ∙ in-member x operand h.0 h.1 h.2
    ])
    c.get-in-PostfixStep.ensures))
    c.expression-in-PostfixStep.ensures

pub expression-returns-in_ok-address-in-Prefixed : goal.expression-returns-in_ok-address-in-Prefixed
expression-returns-in_ok-address-in-Prefixed t c =
    let e = c.args.e.now in
    let prefixes = c.as_slice.result.now in
    let one = c.get-in-Prefixed.result.now in
    let other = c.get-in-Prefixed-2.result.now in
    on_ok_weaker _
    (adds_then c.args.self.now c.address.new.self c.expression-in-Prefixed.new.self
    (λ x. ends_in_address prefixes && is_variable x one) (λ x. in_expression x other) (λ x. in_expression x e)
    (λ x. prefixed_parts x e c.in-Prefixed.prefixes prefixes c.in-Prefixed.operand one other
    c.in-Prefixed.is c.as_slice.ensures c.get-in-Prefixed.ensures c.get-in-Prefixed-2.ensures)
    c.in_ok-address-in-Prefixed.ensures)
    c.expression-in-Prefixed.ensures

pub expression-returns-in_ok-expression-in-Call : goal.expression-returns-in_ok-expression-in-Call
expression-returns-in_ok-expression-in-Call t c =
    let e = c.args.e.now in
    let function = c.get-in-Call.result.now in
    let given = c.as_slice-in-Call.result.now in
    on_ok_weaker _
    (adds_then c.args.self.now c.expression-in-Call.new.self c.arguments.new.self
    (λ x. in_expression x function) (λ x. list_any (in_expression x) given) (λ x. in_expression x e)
    (λ x. call_parts x e c.in-Call.place c.in-Call.function function c.in-Call.arguments given c.in-Call.is c.get-in-Call.ensures c.as_slice-in-Call.ensures)
    c.in_ok-expression-in-Call.ensures)
    c.arguments.ensures

pub expression-returns-in_ok-expression-in-Index : goal.expression-returns-in_ok-expression-in-Index
expression-returns-in_ok-expression-in-Index t c =
    let e = c.args.e.now in
    let first = c.in-Index.first in
    let second = c.in-Index.second in
    let one = c.get-in-Index.result.now in
    let other = c.get-in-Index-2.result.now in
    on_ok_weaker _
    (adds_then c.args.self.now c.expression-in-Index.new.self c.expression-in-Index-2.new.self
    (λ x. in_expression x one) (λ x. in_expression x other) (λ x. in_expression x e)
    (λ x. two_parts x e first second one other
    (elim c.in-Index.is [
      | inl h ↦ ap (in_expression x) h.1 ∙ in-index x first h.0 second
      | inr a ↦ elim a [
        | inl h ↦ ap (in_expression x) h.2 ∙ in-binary x first h.0 h.1 second
        | inr h ↦ ap (in_expression x) h.2 ∙ in-assign x first h.0 h.1 second
      ]
    ])
    c.get-in-Index.ensures c.get-in-Index-2.ensures)
    c.in_ok-expression-in-Index.ensures)
    c.expression-in-Index-2.ensures

pub expression-returns-in_ok-expression-in-Conditional-2 : goal.expression-returns-in_ok-expression-in-Conditional-2
expression-returns-in_ok-expression-in-Conditional-2 t c =
    let e = c.args.e.now in
    let test = c.get-in-Conditional.result.now in
    let one = c.get-in-Conditional-2.result.now in
    let other = c.get-in-Conditional-3.result.now in
    on_ok_weaker _
    (adds_then c.args.self.now c.expression-in-Conditional-2.new.self c.expression-in-Conditional-3.new.self
    (λ x. in_expression x test || in_expression x one) (λ x. in_expression x other) (λ x. in_expression x e)
    (λ x. three_parts x e c.in-Conditional.place c.in-Conditional.condition c.in-Conditional.then c.in-Conditional.otherwise test one other
    c.in-Conditional.is c.get-in-Conditional.ensures c.get-in-Conditional-2.ensures c.get-in-Conditional-3.ensures)
    (adds_then c.args.self.now c.expression-in-Conditional.new.self c.expression-in-Conditional-2.new.self
    (λ x. in_expression x test) (λ x. in_expression x one) (λ x. in_expression x test || in_expression x one)
    (λ x. refl) c.in_ok-expression-in-Conditional.ensures c.in_ok-expression-in-Conditional-2.ensures))
    c.expression-in-Conditional-3.ensures

pub arguments-arguments-preserved : goal.arguments-arguments-preserved
arguments-arguments-preserved t c =
    λ x.
    any_next (in_expression x) c.args.arguments.now c.arguments.argument-index c.argument-item.result
    (is_among c.arguments.self x) (is_among c.expression.new.self x) _
    c.arguments-test.true c.argument-item.is (c.in_ok-expression.ensures x) (c.arguments.invariant x)

pub arguments-returns : goal.arguments-returns
arguments-returns t c =
    λ x.
    sym (ap (λ v. list_any (in_expression x) v || is_among c.arguments.self x) (drop_of_length-le c.args.arguments.now c.arguments-test.false))
    ∙ c.arguments.invariant x
