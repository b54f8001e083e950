use Rattle.std.proofs.Common.{◌≡◌, ℕ, ◌+◌, ◌-◌, ◌<◌, arith, ◌||◌, List, length, drop, ◌++◌, refl, ap, sym, ◌∙◌, inl, inr}
use Rattle.std.proofs.Math.Seq.{drop-length}
use Rattle.std.proofs.lemmas.Result.{on_ok_weaker}
use Rattle.floyd_cparse_trees.specs.declared.statements.SwitchCase.{SwitchCase}
use Rattle.floyd_elab_addresses.specs.Addresses.{in_expression, in_option, in_statement}
use Rattle.floyd_elab_addresses.specs.Flags.{statement_flags}
use Rattle.floyd_elab_addresses.specs.PartClauses.{in_all, in_any_case, flags_of_all, flags_of_cases}
use Rattle.floyd_elab_addresses.specs.SetClauses.{is_among}
use Rattle.floyd_elab_addresses.proofs.Adding.{or-swap, adds_as, adds_then}
use Rattle.floyd_elab_addresses.proofs.StatementParts.{in-block, flags-block, in-switch, flags-switch, flags_of_switch, in_next_case, flags_next_case, in-if, in-if_else, in-while, in-do, in-for, flags-if, flags-if_else, flags-while, flags-do, flags-for, flags_of_one, flags_of_two, declaration_in, declaration_flags, statement_in, item_flags_of, in_next_item, flags_next_item}
use Rattle.floyd_elab_addresses.proofs.statements.+statement.Goals as goal

pub statement-returns-in-Effect : goal.statement-returns-in-Effect
statement-returns-in-Effect t c =
    let s = c.args.s.now in
    record {
      taken = on_ok_weaker _
          (adds_as c.args.taken.now c.expression.new.self (λ x. in_expression x c.in-Effect.e) (λ x. in_statement x s) (λ x. ap (in_statement x) c.in-Effect.is))
          c.expression.ensures;
      flags = on_ok_weaker _ (λ _. sym (ap (λ u. statement_flags u ++ c.args.flags.now) c.in-Effect.is)) c.expression.ensures;
    }

pub statement-returns-in-Return : goal.statement-returns-in-Return
statement-returns-in-Return t c =
    let s = c.args.s.now in
    record {
      taken = on_ok_weaker _
          (adds_as c.args.taken.now c.optional.new.self (λ x. in_option x c.in-Return.value) (λ x. in_statement x s) (λ x. ap (in_statement x) c.in-Return.is))
          c.optional.ensures;
      flags = on_ok_weaker _ (λ _. sym (ap (λ u. statement_flags u ++ c.args.flags.now) c.in-Return.is)) c.optional.ensures;
    }

pub statement-returns-in_ok-inner-in-Block : goal.statement-returns-in_ok-inner-in-Block
statement-returns-in_ok-inner-in-Block t c =
    let s = c.args.s.now in
    let items = c.in-Block.items in
    record {
      taken = on_ok_weaker _
          (adds_as c.args.taken.now c.join.new.self (is_among c.in_ok-inner-in-Block.inner) (λ x. in_statement x s)
          (λ x.
          ap (in_statement x) c.in-Block.is
          ∙ in-block x items
          ∙ sym (ap (in_all x) c.as_slice.ensures)
          ∙ sym (c.in_ok-inner-in-Block.ensures.taken x)))
          c.join.ensures;
      flags = on_ok_weaker _
          (λ _.
          c.in_ok-inner-in-Block.ensures.flags
          ∙ ap (λ fs. fs ++ c.args.flags.now) (ap flags_of_all c.as_slice.ensures ∙ sym (flags-block items) ∙ sym (ap statement_flags c.in-Block.is)))
          c.join.ensures;
    }

pub statement-returns-in_ok-statement-in-IfElse : goal.statement-returns-in_ok-statement-in-IfElse
statement-returns-in_ok-statement-in-IfElse t c =
    let s = c.args.s.now in
    let place = c.in-IfElse.place in
    let test = c.in-IfElse.condition in
    let one = c.in-IfElse.then in
    let other = c.in-IfElse.otherwise in
    let got = c.get-in-IfElse.result.now in
    let got_other = c.get.result.now in
    record {
      taken = on_ok_weaker _
          (adds_then c.args.taken.now c.statement.new.taken c.statement-in-IfElse.new.taken
          (λ x. in_expression x test || in_statement x got_other) (λ x. in_statement x got) (λ x. in_statement x s)
          (λ x.
          ap (in_statement x) c.in-IfElse.is
          ∙ in-if_else x place test one other
          ∙ or-swap (in_expression x test) (in_statement x one) (in_statement x other)
          ∙ sym (ap (λ u. in_expression x test || in_statement x u || in_statement x got) c.get.ensures
          ∙ ap (λ u. in_expression x test || in_statement x other || in_statement x u) c.get-in-IfElse.ensures))
          (adds_then c.args.taken.now c.expression-in-IfElse.new.self c.statement.new.taken
          (λ x. in_expression x test) (λ x. in_statement x got_other) (λ x. in_expression x test || in_statement x got_other)
          (λ x. refl) c.in_ok-expression-in-IfElse.ensures c.in_ok-statement-in-IfElse.ensures.taken))
          c.statement-in-IfElse.ensures.taken;
      flags = on_ok_weaker _
          (flags_of_two s got got_other c.statement-in-IfElse.new.flags c.statement.new.flags c.args.flags.now
          (ap statement_flags c.in-IfElse.is
          ∙ flags-if_else place test one other
          ∙ sym (ap (λ u. statement_flags u ++ statement_flags got_other) c.get-in-IfElse.ensures ∙ ap (λ u. statement_flags one ++ statement_flags u) c.get.ensures))
          c.in_ok-statement-in-IfElse.ensures.flags)
          c.statement-in-IfElse.ensures.flags;
    }

pub statement-returns-in_ok-statement-in-Do : goal.statement-returns-in_ok-statement-in-Do
statement-returns-in_ok-statement-in-Do t c =
    let s = c.args.s.now in
    let place = c.in-Do.place in
    let test = c.in-Do.condition in
    let body = c.in-Do.body in
    let got = c.get-in-Do.result.now in
    record {
      taken = on_ok_weaker _
          (adds_then c.args.taken.now c.statement-in-Do.new.taken c.expression-in-Do.new.self
          (λ x. in_statement x got) (λ x. in_expression x test) (λ x. in_statement x s)
          (λ x.
          ap (in_statement x) c.in-Do.is
          ∙ in-do x body place test
          ∙ sym (ap (λ u. in_statement x u || in_expression x test) c.get-in-Do.ensures))
          c.in_ok-statement-in-Do.ensures.taken)
          c.expression-in-Do.ensures;
      flags = on_ok_weaker _
          (λ _.
          c.in_ok-statement-in-Do.ensures.flags
          ∙ ap (λ fs. fs ++ c.args.flags.now) (ap statement_flags c.get-in-Do.ensures ∙ sym (ap statement_flags c.in-Do.is ∙ flags-do body place test)))
          c.expression-in-Do.ensures;
    }

pub statement-returns-in_ok-optional-in-For-3 : goal.statement-returns-in_ok-optional-in-For-3
statement-returns-in_ok-optional-in-For-3 t c =
    let s = c.args.s.now in
    let place = c.in-For.place in
    let first = c.in-For.first in
    let test = c.in-For.condition in
    let third = c.in-For.third in
    let body = c.in-For.body in
    let got = c.get-in-For.result.now in
    record {
      taken = on_ok_weaker _
          (adds_then c.args.taken.now c.optional-in-For-3.new.self c.statement-in-For.new.taken
          (λ x. in_option x first || in_option x test || in_option x third) (λ x. in_statement x got) (λ x. in_statement x s)
          (λ x.
          ap (in_statement x) c.in-For.is
          ∙ in-for x place first test third body
          ∙ sym (ap (λ u. in_option x first || in_option x test || in_option x third || in_statement x u) c.get-in-For.ensures))
          (adds_then c.args.taken.now c.optional-in-For-2.new.self c.optional-in-For-3.new.self
          (λ x. in_option x first || in_option x test) (λ x. in_option x third) (λ x. in_option x first || in_option x test || in_option x third)
          (λ x. refl)
          (adds_then c.args.taken.now c.optional-in-For.new.self c.optional-in-For-2.new.self
          (λ x. in_option x first) (λ x. in_option x test) (λ x. in_option x first || in_option x test)
          (λ x. refl) c.in_ok-optional-in-For.ensures c.in_ok-optional-in-For-2.ensures)
          c.in_ok-optional-in-For-3.ensures))
          c.statement-in-For.ensures.taken;
      flags = on_ok_weaker _
          (flags_of_one s got c.statement-in-For.new.flags c.args.flags.now
          (ap statement_flags c.in-For.is ∙ flags-for place first test third body ∙ sym (ap statement_flags c.get-in-For.ensures)))
          c.statement-in-For.ensures.flags;
    }

pub statement-returns-in_ok-expression-in-If : goal.statement-returns-in_ok-expression-in-If
statement-returns-in_ok-expression-in-If t c =
    let s = c.args.s.now in
    let test = c.in-If.condition in
    let body = c.in-If.body in
    let got = c.get-in-If.result.now in
    let in_both : (x : List ℕ) → in_statement x s ≡ (in_expression x test || in_statement x body) =
    λ x.
    elim c.in-If.is [
      | inl h ↦ ap (in_statement x) h.1 ∙ in-if x h.0 test body
      | inr h ↦ ap (in_statement x) h.1 ∙ in-while x h.0 test body
    ] in
    let flags_are : statement_flags s ≡ statement_flags body =
    elim c.in-If.is [
      | inl h ↦ ap statement_flags h.1 ∙ flags-if h.0 test body
      | inr h ↦ ap statement_flags h.1 ∙ flags-while h.0 test body
    ] in
    record {
      taken = on_ok_weaker _
          (adds_then c.args.taken.now c.expression-in-If.new.self c.statement-in-If.new.taken
          (λ x. in_expression x test) (λ x. in_statement x got) (λ x. in_statement x s)
          (λ x. in_both x ∙ sym (ap (λ u. in_expression x test || in_statement x u) c.get-in-If.ensures))
          c.in_ok-expression-in-If.ensures)
          c.statement-in-If.ensures.taken;
      flags = on_ok_weaker _
          (flags_of_one s got c.statement-in-If.new.flags c.args.flags.now (flags_are ∙ sym (ap statement_flags c.get-in-If.ensures)))
          c.statement-in-If.ensures.flags;
    }

pub item-returns-in-Declaration : goal.item-returns-in-Declaration
item-returns-in-Declaration t c =
    let item = c.args.item.now in
    let d = c.in-Declaration.d in
    let ds = c.as_slice.result.now in
    record {
      taken = on_ok_weaker _
          (declaration_in item d ds c.in-Declaration.is c.as_slice.ensures c.args.taken.now c.declarators.new.taken)
          c.declarators.ensures.taken;
      flags = on_ok_weaker _
          (declaration_flags item d ds c.in-Declaration.is c.as_slice.ensures (is_among c.args.taken.now) c.declarators.new.flags c.args.flags.now)
          c.declarators.ensures.flags;
    }

pub item-returns-in-Statement : goal.item-returns-in-Statement
item-returns-in-Statement t c =
    let item = c.args.item.now in
    let s = c.in-Statement.s in
    record {
      taken = on_ok_weaker _ (statement_in item s c.in-Statement.is c.args.taken.now c.statement.new.taken) c.statement.ensures.taken;
      flags = on_ok_weaker _
          (item_flags_of item s c.in-Statement.is (is_among c.args.taken.now) c.statement.new.flags c.args.flags.now)
          c.statement.ensures.flags;
    }

pub block-items-init : goal.block-items-init
block-items-init t c =
    let items = c.args.items.now in
    record {
      taken = λ x. ap (λ names. is_among names x) c.new-taken.ensures ∙ sym (ap (in_all x) (drop-length items));
      flags = sym (ap (λ v. flags_of_all v ++ c.args.flags.now) (drop-length items));
    }

pub block-items-preserved : goal.block-items-preserved
block-items-preserved t c =
    let all = c.args.items.now in
    let k = c.items.i in
    let j = k - 1 in
    let one = c.index-items-i.result in
    let step : j + 1 ≡ k = omega arith in
    let within : j < length all = omega arith in
    record {
      taken = λ x.
          in_next_item all k j one step within c.index-items-i.is x (is_among c.items.taken x) (is_among c.item.new.taken x)
          (c.in_ok-item.ensures.taken x) (c.items.invariant.taken x);
      flags =
          flags_next_item all k j one step within c.index-items-i.is (is_among c.items.taken) c.item.new.flags c.items.flags c.args.flags.now
          c.items.invariant.taken c.in_ok-item.ensures.flags c.items.invariant.flags;
    }

pub block-returns : goal.block-returns
block-returns t c =
    let items = c.args.items.now in
    let none : c.items.i ≡ 0 = omega arith in
    record {
      taken = λ x. c.items.invariant.taken x ∙ ap (λ n. in_all x (drop n items)) none;
      flags = c.items.invariant.flags ∙ ap (λ n. flags_of_all (drop n items) ++ c.args.flags.now) none;
    }

pub statement-returns-in_ok-expression-in-Switch : goal.statement-returns-in_ok-expression-in-Switch
statement-returns-in_ok-expression-in-Switch t c =
    let s = c.args.s.now in
    let place = c.in-Switch.place in
    let value = c.in-Switch.value in
    let cases = c.in-Switch.cases in
    let got = c.as_slice-in-Switch.result.now in
    record {
      taken = on_ok_weaker _
          (adds_then c.args.taken.now c.expression-in-Switch.new.self c.switch_cases.new.taken
          (λ x. in_expression x value) (λ x. in_any_case x got) (λ x. in_statement x s)
          (λ x.
          ap (in_statement x) c.in-Switch.is
          ∙ in-switch x place value cases
          ∙ sym (ap (λ u. in_expression x value || in_any_case x u) c.as_slice-in-Switch.ensures))
          c.in_ok-expression-in-Switch.ensures)
          c.switch_cases.ensures.taken;
      flags = on_ok_weaker _
          (flags_of_switch s got c.switch_cases.new.flags c.args.flags.now
          (ap statement_flags c.in-Switch.is ∙ flags-switch place value cases ∙ sym (ap flags_of_cases c.as_slice-in-Switch.ensures)))
          c.switch_cases.ensures.flags;
    }

pub switch_cases-cases-init : goal.switch_cases-cases-init
switch_cases-cases-init t c =
    let cases = c.args.cases.now in
    record {
      taken = λ x. sym (ap (λ v. in_any_case x v || is_among c.args.taken.now x) (drop-length cases));
      flags = sym (ap (λ v. flags_of_cases v ++ c.args.flags.now) (drop-length cases));
    }

pub switch_cases-cases-preserved : goal.switch_cases-cases-preserved
switch_cases-cases-preserved t c =
    let all = c.args.cases.now in
    let k = c.cases.i in
    let j = k - 1 in
    let one = c.index-cases-i.result in
    let body = c.get.result.now in
    let has : body ≡ one.body = c.get.ensures ∙ ap (λ (x : SwitchCase). x.body) (sym c.index-cases-i.is) in
    let step : j + 1 ≡ k = omega arith in
    let within : j < length all = omega arith in
    record {
      taken =
          in_next_case all k j one step within c.index-cases-i.is body has c.args.taken.now c.cases.taken c.statement.new.taken
          c.in_ok-statement.ensures.taken c.cases.invariant.taken;
      flags =
          flags_next_case all k j one step within c.index-cases-i.is body has c.statement.new.flags c.cases.flags c.args.flags.now
          c.in_ok-statement.ensures.flags c.cases.invariant.flags;
    }

pub switch_cases-returns : goal.switch_cases-returns
switch_cases-returns t c =
    let cases = c.args.cases.now in
    let none : c.cases.i ≡ 0 = omega arith in
    record {
      taken = λ x. c.cases.invariant.taken x ∙ ap (λ n. in_any_case x (drop n cases) || is_among c.args.taken.now x) none;
      flags = c.cases.invariant.flags ∙ ap (λ n. flags_of_cases (drop n cases) ++ c.args.flags.now) none;
    }
