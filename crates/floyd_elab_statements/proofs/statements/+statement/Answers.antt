use Rattle.std.proofs.Common.{◌≡◌, ◌+◌, ◌<◌, Bool, List, [], ◌∷◌, ◌++◌, length, drop, arith, refl, ap, sym, ◌∙◌}
use Rattle.std.specs.Prelude.{Result, Ok}
use Rattle.std.proofs.lemmas.List.{append-nil, append_assoc, drop_more}
use Rattle.std.proofs.Math.Seq.{drop-length}
use Rattle.floyd_text.specs.declared.place.Place.{Place}
use Rattle.floyd_text.specs.declared.refusal.Refusal.{Refusal}
use Rattle.floyd_cparse_trees.specs.declared.expressions.CExpr.{CExpr}
use Rattle.floyd_cparse_trees.specs.declared.statements.CStatement as c_of
use Rattle.floyd_elab_names.specs.Scopes.{leave}
use Rattle.floyd_ctyping.specs.Switches.{Labels, no_labels, with_label, next_label}
use Rattle.floyd_clight.specs.declared.syntax.Case.{Case}
use Rattle.floyd_clight.specs.declared.syntax.Stmt.{Stmt}
use Rattle.floyd_elab_expressions.specs.declared.progress.Progress.{Progress}
use Rattle.floyd_elab_expressions.specs.Behind.{put_behind}
use Rattle.floyd_elab_addresses.specs.Flags.{statement_flags}
use Rattle.floyd_elab_addresses.specs.PartClauses.{in_all, flags_of_all, flags_of_cases, flags_of_item}
use Rattle.floyd_elab_addresses.proofs.StatementParts.{flags-if, flags-if_else, flags-while, flags-do, flags-for, flags-switch, flags-block}
use Rattle.floyd_elab_statements.specs.LocalClauses.{beginning}
use Rattle.floyd_elab_statements.specs.Statements.{statement, loop_test, optional_test}
use Rattle.floyd_elab_statements.specs.WalkClauses.{item, all_items, all_cases, cases_behind, sequence_behind, with_else}
use Rattle.floyd_elab_statements.proofs.Steps.{gives_err, gives_as, stops_as, on_ok, typed, typing_stops, beside_same, appended_none}
use Rattle.floyd_elab_statements.proofs.Exits.{only_ok, only_err}
use Rattle.floyd_elab_statements.proofs.Walking.{in_empty, empty_stops, sequenced_goes, sequenced_stops, outer_same, names_as}
use Rattle.floyd_elab_statements.proofs.ItemLemmas.{block_is, next_item, stopped_item, flags_first}
use Rattle.floyd_elab_statements.proofs.CaseLemmas.{behind_none, label_stops, body_stops, case_goes, next_case, stopped_case, switch_stops, cases_stop, switch_goes, flags_first_case}
use Rattle.floyd_elab_statements.proofs.StatementLemmas.{if_stops, if_branch_stops, if_goes, if_else_stops, then_stops, then_goes, else_stops, else_goes, while_stops, while_body_stops, while_goes, do_stops, do_test_stops, do_goes, for_stops, for_test_stops, for_third_stops, for_body_stops, for_goes}
use Rattle.floyd_elab_statements.proofs.statements.+statement.Goals as goal

-- Statements by their kind.

pub statement-returns-in-Block : goal.statement-returns-in-Block
statement-returns-in-Block t c =
    let items = c.in-Block.items in
    let all = c.as_slice.result.now in
    let whole : c.args.s.now ≡ c_of.Block all = c.in-Block.is ∙ ap (λ l. c_of.Block l) (sym c.as_slice.ensures) in
    record {
      exact = λ more are.
          gives_as _ c.block.result _ _ (ap (λ u. put_behind c.args.out.now (statement c.args.function.result_type.now c.args.names.now u c.args.progress.now)) whole)
          (c.block.ensures.exact more (are ∙ ap (λ fs. fs ++ more) (ap statement_flags whole ∙ flags-block all)));
      flags = λ more are. c.block.ensures.flags more (are ∙ ap (λ fs. fs ++ more) (ap statement_flags whole ∙ flags-block all));
      names = c.block.ensures.names;
    }

pub statement-returns-in-Empty : goal.statement-returns-in-Empty
statement-returns-in-Empty t c =
    let is = c.in-Empty.is in
    let p = c.args.progress.now in
    let out = c.args.out.now in
    record {
      exact = λ more are. ap (λ u. put_behind out (statement c.args.function.result_type.now c.args.names.now u p)) is ∙ appended_none out p;
      flags = λ more are. are ∙ ap (λ u. statement_flags u ++ more) is;
      names = refl;
    }

pub statement-returns-in-Effect : goal.statement-returns-in-Effect
statement-returns-in-Effect t c =
    let is = c.in-Effect.is in
    record {
      exact = λ more are. gives_as _ c.effect.result _ _ (ap (λ u. put_behind c.args.out.now (statement c.args.function.result_type.now c.args.names.now u c.args.progress.now)) is) c.effect.ensures.exact;
      flags = λ more are. on_ok c.effect.result (are ∙ ap (λ u. statement_flags u ++ more) is);
      names = on_ok c.effect.result refl;
    }

pub statement-returns-in-If : goal.statement-returns-in-If
statement-returns-in-If t c =
    let place = c.in-If.place in
    let e = c.in-If.condition in
    let a = c.get.result.now in
    let whole : c.args.s.now ≡ c_of.If place e a = c.in-If.is ∙ ap (λ u. c_of.If place e u) (sym c.get.ensures) in
    record {
      exact = λ more are.
          gives_as _ c.if_then.result _ _ (ap (λ u. put_behind c.args.out.now (statement c.args.function.result_type.now c.args.names.now u c.args.progress.now)) whole)
          (c.if_then.ensures.exact more (are ∙ ap (λ fs. fs ++ more) (ap statement_flags whole ∙ flags-if place e a)));
      flags = λ more are. c.if_then.ensures.flags more (are ∙ ap (λ fs. fs ++ more) (ap statement_flags whole ∙ flags-if place e a));
      names = c.if_then.ensures.names;
    }

-- the flags of both branches
both_flags : (s : c_of.CStatement) (place : Place) (e : CExpr) (a b : c_of.CStatement) (flags more : List Bool) → s ≡ c_of.IfElse place e a b → flags ≡ statement_flags s ++ more → flags ≡ statement_flags a ++ (statement_flags b ++ more)
both_flags s place e a b flags more whole are = are ∙ ap (λ fs. fs ++ more) (ap statement_flags whole ∙ flags-if_else place e a b) ∙ append_assoc (statement_flags a) (statement_flags b) more

pub statement-returns-in_err-test-in-IfElse : goal.statement-returns-in_err-test-in-IfElse
statement-returns-in_err-test-in-IfElse t c =
    let h = c.in_err-test-in-IfElse.field-0.0 in
    let r = c.from_residual in
    record {
      exact = λ more are.
          gives_err _ r.result h _ r.ensures.1
          (stops_as h _ _ (ap (λ u. put_behind c.args.out.now (statement c.args.function.result_type.now c.args.names.now u c.args.progress.now)) c.in-IfElse.is)
          (if_else_stops c.args.function.result_type.now c.args.names.now c.in-IfElse.place c.in-IfElse.condition c.in-IfElse.then c.in-IfElse.otherwise c.args.out.now c.args.progress.now h c.in_err-test-in-IfElse.ensures.exact));
      flags = λ more are. only_ok r.result _ _ r.ensures.1;
      names = only_ok r.result _ _ r.ensures.1;
    }

pub statement-returns-in_err-first-in-IfElse : goal.statement-returns-in_err-first-in-IfElse
statement-returns-in_err-first-in-IfElse t c =
    let h = c.in_err-first-in-IfElse.field-0.0 in
    let r = c.from_residual-in_err-first-in-IfElse in
    let place = c.in-IfElse.place in
    let e = c.in-IfElse.condition in
    let a = c.get-in-IfElse.result.now in
    let b = c.in-IfElse.otherwise in
    let q = c.test.new.progress in
    let whole : c.args.s.now ≡ c_of.IfElse place e a b = c.in-IfElse.is ∙ ap (λ u. c_of.IfElse place e u b) (sym c.get-in-IfElse.ensures) in
    record {
      exact = λ more are.
          gives_err _ r.result h _ r.ensures.1
          (stops_as h _ _ (ap (λ u. put_behind c.args.out.now (statement c.args.function.result_type.now c.args.names.now u c.args.progress.now)) whole)
          (then_stops c.args.function.result_type.now c.args.names.now place e a b c.args.out.now c.args.progress.now
          c.test.new.out c.in_ok-test-in-IfElse.test q c.in_ok-test-in-IfElse.ensures.exact h
          (empty_stops (λ l. sequence_behind l (statement c.args.function.result_type.now c.args.names.now a q)) c.new-none.result h c.new-none.ensures
          (c.in_err-first-in-IfElse.ensures.exact (statement_flags b ++ more) (both_flags c.args.s.now place e a b c.args.flags.now more whole are)))));
      flags = λ more are. only_ok r.result _ _ r.ensures.1;
      names = only_ok r.result _ _ r.ensures.1;
    }

pub statement-returns-in_ok-first-in-IfElse : goal.statement-returns-in_ok-first-in-IfElse
statement-returns-in_ok-first-in-IfElse t c =
    let result = c.args.function.result_type.now in
    let names = c.args.names.now in
    let place = c.in-IfElse.place in
    let e = c.in-IfElse.condition in
    let a = c.get-in-IfElse.result.now in
    let b = c.get-in-IfElse-2.result.now in
    let q = c.test.new.progress in
    let y = c.single.new.progress in
    let whole : c.args.s.now ≡ c_of.IfElse place e a b = c.in-IfElse.is ∙ ap (λ u. c_of.IfElse place e u c.in-IfElse.otherwise) (sym c.get-in-IfElse.ensures) ∙ ap (λ u. c_of.IfElse place e a u) (sym c.get-in-IfElse-2.ensures) in
    let d = c.if_else in
    record {
      exact = λ more are.
          let fits = both_flags c.args.s.now place e a b c.args.flags.now more whole are in
          gives_as _ d.result _ _
          (ap (λ u. put_behind c.args.out.now (statement result names u c.args.progress.now)) whole
          ∙ then_goes result names place e a b c.args.out.now c.args.progress.now c.test.new.out c.in_ok-test-in-IfElse.test q c.in_ok-test-in-IfElse.ensures.exact
          c.in_ok-first-in-IfElse.first y
          (in_empty (λ l. sequence_behind l (statement result names a q)) c.new-none.result _ c.new-none.ensures (c.in_ok-first-in-IfElse.ensures.exact (statement_flags b ++ more) fits))
          ∙ ap (λ n. with_else c.test.new.out c.in_ok-test-in-IfElse.test c.in_ok-first-in-IfElse.first (sequence_behind [] (statement result n b y))) (sym c.in_ok-first-in-IfElse.ensures.names))
          (d.ensures.exact more (c.in_ok-first-in-IfElse.ensures.flags (statement_flags b ++ more) fits));
      flags = λ more are. d.ensures.flags more (c.in_ok-first-in-IfElse.ensures.flags (statement_flags b ++ more) (both_flags c.args.s.now place e a b c.args.flags.now more whole are));
      names = names_as d.result d.new.names c.single.new.names names c.in_ok-first-in-IfElse.ensures.names d.ensures.names;
    }

pub statement-returns-in-While : goal.statement-returns-in-While
statement-returns-in-While t c =
    let place = c.in-While.place in
    let e = c.in-While.condition in
    let a = c.get-in-While.result.now in
    let whole : c.args.s.now ≡ c_of.While place e a = c.in-While.is ∙ ap (λ u. c_of.While place e u) (sym c.get-in-While.ensures) in
    record {
      exact = λ more are.
          gives_as _ c.while_loop.result _ _ (ap (λ u. put_behind c.args.out.now (statement c.args.function.result_type.now c.args.names.now u c.args.progress.now)) whole)
          (c.while_loop.ensures.exact more (are ∙ ap (λ fs. fs ++ more) (ap statement_flags whole ∙ flags-while place e a)));
      flags = λ more are. c.while_loop.ensures.flags more (are ∙ ap (λ fs. fs ++ more) (ap statement_flags whole ∙ flags-while place e a));
      names = c.while_loop.ensures.names;
    }

pub statement-returns-in-Do : goal.statement-returns-in-Do
statement-returns-in-Do t c =
    let place = c.in-Do.place in
    let e = c.in-Do.condition in
    let a = c.get-in-Do.result.now in
    let whole : c.args.s.now ≡ c_of.Do a place e = c.in-Do.is ∙ ap (λ u. c_of.Do u place e) (sym c.get-in-Do.ensures) in
    record {
      exact = λ more are.
          gives_as _ c.do_loop.result _ _ (ap (λ u. put_behind c.args.out.now (statement c.args.function.result_type.now c.args.names.now u c.args.progress.now)) whole)
          (c.do_loop.ensures.exact more (are ∙ ap (λ fs. fs ++ more) (ap statement_flags whole ∙ flags-do a place e)));
      flags = λ more are. c.do_loop.ensures.flags more (are ∙ ap (λ fs. fs ++ more) (ap statement_flags whole ∙ flags-do a place e));
      names = c.do_loop.ensures.names;
    }

pub statement-returns-in-For : goal.statement-returns-in-For
statement-returns-in-For t c =
    let place = c.in-For.place in
    let first = c.in-For.first in
    let e = c.in-For.condition in
    let third = c.in-For.third in
    let a = c.get-in-For.result.now in
    let whole : c.args.s.now ≡ c_of.For place first e third a = c.in-For.is ∙ ap (λ u. c_of.For place first e third u) (sym c.get-in-For.ensures) in
    record {
      exact = λ more are.
          gives_as _ c.for_loop.result _ _ (ap (λ u. put_behind c.args.out.now (statement c.args.function.result_type.now c.args.names.now u c.args.progress.now)) whole)
          (c.for_loop.ensures.exact more (are ∙ ap (λ fs. fs ++ more) (ap statement_flags whole ∙ flags-for place first e third a)));
      flags = λ more are. c.for_loop.ensures.flags more (are ∙ ap (λ fs. fs ++ more) (ap statement_flags whole ∙ flags-for place first e third a));
      names = c.for_loop.ensures.names;
    }

pub statement-returns-in-Switch : goal.statement-returns-in-Switch
statement-returns-in-Switch t c =
    let place = c.in-Switch.place in
    let e = c.in-Switch.value in
    let all = c.as_slice-in-Switch.result.now in
    let whole : c.args.s.now ≡ c_of.Switch place e all = c.in-Switch.is ∙ ap (λ l. c_of.Switch place e l) (sym c.as_slice-in-Switch.ensures) in
    record {
      exact = λ more are.
          gives_as _ c.switch.result _ _ (ap (λ u. put_behind c.args.out.now (statement c.args.function.result_type.now c.args.names.now u c.args.progress.now)) whole)
          (c.switch.ensures.exact more (are ∙ ap (λ fs. fs ++ more) (ap statement_flags whole ∙ flags-switch place e all)));
      flags = λ more are. c.switch.ensures.flags more (are ∙ ap (λ fs. fs ++ more) (ap statement_flags whole ∙ flags-switch place e all));
      names = c.switch.ensures.names;
    }

pub statement-returns-in-Break : goal.statement-returns-in-Break
statement-returns-in-Break t c =
    let is = c.in-Break.is in
    let p = c.args.progress.now in
    record {
      exact = λ more are. gives_as _ c.push_one.result _ _ (ap (λ u. put_behind c.args.out.now (statement c.args.function.result_type.now c.args.names.now u p)) is) (c.push_one.ensures.exact p);
      flags = λ more are. on_ok c.push_one.result (are ∙ ap (λ u. statement_flags u ++ more) is);
      names = on_ok c.push_one.result refl;
    }

pub statement-returns-in-Continue : goal.statement-returns-in-Continue
statement-returns-in-Continue t c =
    let is = c.in-Continue.is in
    let p = c.args.progress.now in
    record {
      exact = λ more are. gives_as _ c.push_one-in-Continue.result _ _ (ap (λ u. put_behind c.args.out.now (statement c.args.function.result_type.now c.args.names.now u p)) is) (c.push_one-in-Continue.ensures.exact p);
      flags = λ more are. on_ok c.push_one-in-Continue.result (are ∙ ap (λ u. statement_flags u ++ more) is);
      names = on_ok c.push_one-in-Continue.result refl;
    }

pub statement-returns-in-Return : goal.statement-returns-in-Return
statement-returns-in-Return t c =
    let is = c.in-Return.is in
    record {
      exact = λ more are. gives_as _ c.return_statement.result _ _ (ap (λ u. put_behind c.args.out.now (statement c.args.function.result_type.now c.args.names.now u c.args.progress.now)) is) c.return_statement.ensures.exact;
      flags = λ more are. on_ok c.return_statement.result (are ∙ ap (λ u. statement_flags u ++ more) is);
      names = on_ok c.return_statement.result refl;
    }

-- A block.

pub block-returns-in_err-all : goal.block-returns-in_err-all
block-returns-in_err-all t c =
    let h = c.in_err-all.field-0.0 in
    let r = c.from_residual-in_err-all in
    record {
      exact = λ more are.
          gives_err _ r.result h _ r.ensures.1
          (stops_as h _ _ (block_is c.args.function.result_type.now c.args.names.now c.enter.new.self c.args.items.now c.args.out.now c.args.progress.now c.in_ok-enter.ensures.ok) (c.in_err-all.ensures.exact more are));
      flags = λ more are. only_ok r.result _ _ r.ensures.1;
      names = only_ok r.result _ _ r.ensures.1;
    }

pub block-returns : goal.block-returns
block-returns t c =
    record {
      exact = λ more are.
          block_is c.args.function.result_type.now c.args.names.now c.enter.new.self c.args.items.now c.args.out.now c.args.progress.now c.in_ok-enter.ensures.ok
          ∙ c.in_ok-all.ensures.exact more are;
      flags = λ more are. c.in_ok-all.ensures.flags more are;
      names = c.leave.ensures ∙ c.in_ok-all.ensures.left ∙ ap leave c.in_ok-enter.ensures.ok;
    }

-- Items.

pub all-items-init : goal.all-items-init
all-items-init t c = record { left = refl; flags = λ more h. h; exact = λ more h. refl }

pub all-items-preserved : goal.all-items-preserved
all-items-preserved t c =
    let items = c.args.items.now in
    let at = c.items.one-index in
    let one = c.one-item.result in
    let rest = drop (at + 1) items in
    let within : at < length items = omega arith in
    let split : drop at items ≡ one ∷ rest = drop_more items at one within ∙ ap (λ v. v ∷ rest) (sym c.one-item.is) in
    record {
      left = c.in_ok-item.ensures.left ∙ c.items.invariant.left;
      flags = λ more h. c.in_ok-item.ensures.flags (λ x. in_all x rest) (flags_of_all rest ++ more) (flags_first one rest (drop at items) c.items.flags more split (c.items.invariant.flags more h));
      exact = λ more h.
          c.items.invariant.exact more h
          ∙ ap (λ l. put_behind c.items.out (all_items c.args.function.result_type.now c.items.names l c.items.progress)) split
          ∙ next_item c.args.function.result_type.now c.items.out c.items.names one rest c.items.progress c.item.new.out c.item.new.names c.item.new.progress
          (c.in_ok-item.ensures.exact (λ x. in_all x rest) (flags_of_all rest ++ more) (flags_first one rest (drop at items) c.items.flags more split (c.items.invariant.flags more h)));
    }

pub all-returns-in_err-item : goal.all-returns-in_err-item
all-returns-in_err-item t c =
    let items = c.args.items.now in
    let at = c.items.one-index in
    let one = c.one-item.result in
    let rest = drop (at + 1) items in
    let within : at < length items = omega arith in
    let split : drop at items ≡ one ∷ rest = drop_more items at one within ∙ ap (λ v. v ∷ rest) (sym c.one-item.is) in
    let h = c.in_err-item.field-0.0 in
    let r = c.from_residual in
    record {
      exact = λ more are.
          gives_err _ r.result h _ r.ensures.1
          (stops_as h _ _
          (c.items.invariant.exact more are ∙ ap (λ l. put_behind c.items.out (all_items c.args.function.result_type.now c.items.names l c.items.progress)) split)
          (stopped_item c.args.function.result_type.now c.items.out c.items.names one rest c.items.progress h
          (c.in_err-item.ensures.exact (λ x. in_all x rest) (flags_of_all rest ++ more) (flags_first one rest (drop at items) c.items.flags more split (c.items.invariant.flags more are)))));
      flags = λ more are. only_ok r.result _ _ r.ensures.1;
      left = only_ok r.result _ _ r.ensures.1;
    }

pub all-returns : goal.all-returns
all-returns t c =
    let items = c.args.items.now in
    let at_end : c.items.one-index ≡ length items = omega arith in
    let done : drop c.items.one-index items ≡ [] = ap (λ n. drop n items) at_end ∙ drop-length items in
    record {
      exact = λ more h.
          c.items.invariant.exact more h
          ∙ ap (λ l. put_behind c.items.out (all_items c.args.function.result_type.now c.items.names l c.items.progress)) done
          ∙ ap (λ (l : List Stmt). let made : Result (List Stmt × Progress) Refusal = Ok (l, c.items.progress) in made) (append-nil c.items.out);
      flags = λ more h. c.items.invariant.flags more h ∙ ap (λ l. flags_of_all l ++ more) done;
      left = c.items.invariant.left;
    }

pub item-returns-in-Declaration : goal.item-returns-in-Declaration
item-returns-in-Declaration t c =
    let is = c.in-Declaration.is in
    record {
      exact = λ rest more are.
          gives_as _ c.declaration.result _ _ (ap (λ u. beginning c.args.out.now (item c.args.function.result_type.now c.args.names.now u rest c.args.progress.now)) is)
          (c.declaration.ensures.exact rest more (are ∙ ap (λ u. flags_of_item u rest ++ more) is));
      flags = λ rest more are. c.declaration.ensures.flags rest more (are ∙ ap (λ u. flags_of_item u rest ++ more) is);
      left = c.declaration.ensures.left;
    }

pub item-returns-in-Statement : goal.item-returns-in-Statement
item-returns-in-Statement t c =
    let is = c.in-Statement.is in
    let names = c.args.names.now in
    record {
      exact = λ rest more are.
          gives_as _ c.statement.result _ _ (ap (λ u. beginning c.args.out.now (item c.args.function.result_type.now names u rest c.args.progress.now)) is)
          (beside_same c.statement.result c.args.out.now (statement c.args.function.result_type.now names c.in-Statement.s c.args.progress.now) c.statement.new.out names c.statement.new.names c.statement.new.progress
          c.statement.ensures.names
          (c.statement.ensures.exact more (are ∙ ap (λ u. flags_of_item u rest ++ more) is)));
      flags = λ rest more are. c.statement.ensures.flags more (are ∙ ap (λ u. flags_of_item u rest ++ more) is);
      left = outer_same c.statement.result c.statement.new.names names c.statement.ensures.names;
    }

-- A statement as one of Clight.

pub single-returns-in_err-statement : goal.single-returns-in_err-statement
single-returns-in_err-statement t c =
    let h = c.in_err-statement.field-0.0 in
    let r = c.from_residual in
    record {
      exact = λ more are. gives_err _ r.result h _ r.ensures.1 (sequenced_stops h c.args.before (statement c.args.function.result_type.now c.args.names.now c.args.s.now c.args.progress.now) (c.in_err-statement.ensures.exact more are));
      flags = λ more are. only_ok r.result _ _ r.ensures.1;
      names = only_ok r.result _ _ r.ensures.1;
    }

pub single-returns : goal.single-returns
single-returns t c =
    record {
      exact = λ more are.
          sequenced_goes c.args.before c.statement.new.out (statement c.args.function.result_type.now c.args.names.now c.args.s.now c.args.progress.now) c.statement.new.progress _
          (c.in_ok-statement.ensures.exact more are) c.in_ok-one_statement.ensures;
      flags = λ more are. c.in_ok-statement.ensures.flags more are;
      names = c.in_ok-statement.ensures.names;
    }

-- `if`.

pub if_then-returns-in_err-test : goal.if_then-returns-in_err-test
if_then-returns-in_err-test t c =
    let h = c.in_err-test.field-0.0 in
    let r = c.from_residual in
    record {
      exact = λ more are.
          gives_err _ r.result h _ r.ensures.1
          (if_stops c.args.parts.function.result_type.now c.args.names.now c.args.parts.place c.args.parts.condition.now c.args.body.now c.args.out.now c.args.progress.now h c.in_err-test.ensures.exact);
      flags = λ more are. only_ok r.result _ _ r.ensures.1;
      names = only_ok r.result _ _ r.ensures.1;
    }

pub if_then-returns-in_err-first : goal.if_then-returns-in_err-first
if_then-returns-in_err-first t c =
    let h = c.in_err-first.field-0.0 in
    let r = c.from_residual-in_err-first in
    let q = c.test.new.progress in
    record {
      exact = λ more are.
          gives_err _ r.result h _ r.ensures.1
          (if_branch_stops c.args.parts.function.result_type.now c.args.names.now c.args.parts.place c.args.parts.condition.now c.args.body.now c.args.out.now c.args.progress.now
          c.test.new.out c.in_ok-test.test q c.in_ok-test.ensures.exact h
          (empty_stops (λ l. sequence_behind l (statement c.args.parts.function.result_type.now c.args.names.now c.args.body.now q)) c.new-none.result h c.new-none.ensures (c.in_err-first.ensures.exact more are)));
      flags = λ more are. only_ok r.result _ _ r.ensures.1;
      names = only_ok r.result _ _ r.ensures.1;
    }

pub if_then-returns : goal.if_then-returns
if_then-returns t c =
    let q = c.test.new.progress in
    record {
      exact = λ more are.
          if_goes c.args.parts.function.result_type.now c.args.names.now c.args.parts.place c.args.parts.condition.now c.args.body.now c.args.out.now c.args.progress.now
          c.test.new.out c.in_ok-test.test q c.in_ok-test.ensures.exact
          c.in_ok-first.first c.in_ok-first.first c.in_ok-second.second c.in_ok-test.test c.push_if.new.out c.single.new.progress
          (in_empty (λ l. sequence_behind l (statement c.args.parts.function.result_type.now c.args.names.now c.args.body.now q)) c.new-none.result _ c.new-none.ensures (c.in_ok-first.ensures.exact more are))
          refl refl c.in_ok-second.ensures c.in_ok-push_if.ensures;
      flags = λ more are. c.in_ok-first.ensures.flags more are;
      names = c.in_ok-first.ensures.names;
    }

-- The second branch.

pub if_else-returns-in_err-second : goal.if_else-returns-in_err-second
if_else-returns-in_err-second t c =
    let h = c.in_err-second.field-0.0 in
    let r = c.from_residual in
    let b = statement c.args.made.function.result_type.now c.args.names.now c.args.otherwise.now c.args.progress.now in
    record {
      exact = λ more are.
          gives_err _ r.result h _ r.ensures.1
          (else_stops h c.args.out.now c.args.made.test c.args.made.first (sequence_behind [] b)
          (empty_stops (λ l. sequence_behind l b) c.new-none.result h c.new-none.ensures (c.in_err-second.ensures.exact more are)));
      flags = λ more are. only_ok r.result _ _ r.ensures.1;
      names = only_ok r.result _ _ r.ensures.1;
    }

pub if_else-returns : goal.if_else-returns
if_else-returns t c =
    let b = statement c.args.made.function.result_type.now c.args.names.now c.args.otherwise.now c.args.progress.now in
    record {
      exact = λ more are.
          else_goes c.args.out.now c.push.new.out c.args.made.test c.args.made.test c.args.made.first c.in_ok-second.second (sequence_behind [] b) c.single.new.progress
          (in_empty (λ l. sequence_behind l b) c.new-none.result _ c.new-none.ensures (c.in_ok-second.ensures.exact more are))
          refl c.in_ok-push.ensures;
      flags = λ more are. c.in_ok-second.ensures.flags more are;
      names = c.in_ok-second.ensures.names;
    }

-- `while`.

pub while_loop-returns-in_err-loop_test : goal.while_loop-returns-in_err-loop_test
while_loop-returns-in_err-loop_test t c =
    let h = c.in_err-loop_test.field-0.0 in
    let r = c.from_residual in
    let whether = loop_test c.args.names.now c.args.parts.place c.args.parts.condition.now c.args.progress.now in
    record {
      exact = λ more are.
          gives_err _ r.result h _ r.ensures.1
          (while_stops c.args.parts.function.result_type.now c.args.names.now c.args.parts.place c.args.parts.condition.now c.args.body.now c.args.out.now c.args.progress.now h
          (empty_stops (λ l. put_behind l whether) c.new-inner.result h c.new-inner.ensures c.in_err-loop_test.ensures.exact));
      flags = λ more are. only_ok r.result _ _ r.ensures.1;
      names = only_ok r.result _ _ r.ensures.1;
    }

pub while_loop-returns-in_err-first : goal.while_loop-returns-in_err-first
while_loop-returns-in_err-first t c =
    let h = c.in_err-first.field-0.0 in
    let r = c.from_residual-in_err-first in
    let whether = loop_test c.args.names.now c.args.parts.place c.args.parts.condition.now c.args.progress.now in
    record {
      exact = λ more are.
          gives_err _ r.result h _ r.ensures.1
          (while_body_stops c.args.parts.function.result_type.now c.args.names.now c.args.parts.place c.args.parts.condition.now c.args.body.now c.args.out.now c.args.progress.now
          c.loop_test.new.out c.loop_test.new.progress
          (in_empty (λ l. put_behind l whether) c.new-inner.result _ c.new-inner.ensures c.in_ok-loop_test.ensures.exact) h
          (c.in_err-first.ensures.exact more are));
      flags = λ more are. only_ok r.result _ _ r.ensures.1;
      names = only_ok r.result _ _ r.ensures.1;
    }

pub while_loop-returns : goal.while_loop-returns
while_loop-returns t c =
    let whether = loop_test c.args.names.now c.args.parts.place c.args.parts.condition.now c.args.progress.now in
    record {
      exact = λ more are.
          while_goes c.args.parts.function.result_type.now c.args.names.now c.args.parts.place c.args.parts.condition.now c.args.body.now c.args.out.now c.args.progress.now
          c.loop_test.new.out c.loop_test.new.progress
          (in_empty (λ l. put_behind l whether) c.new-inner.result _ c.new-inner.ensures c.in_ok-loop_test.ensures.exact)
          c.in_ok-first.first c.in_ok-second.second c.push_loop.new.out c.single.new.progress
          (c.in_ok-first.ensures.exact more are) c.in_ok-second.ensures c.in_ok-push_loop.ensures;
      flags = λ more are. c.in_ok-first.ensures.flags more are;
      names = c.in_ok-first.ensures.names;
    }

-- `do`.

pub do_loop-returns-in_err-first : goal.do_loop-returns-in_err-first
do_loop-returns-in_err-first t c =
    let h = c.in_err-first.field-0.0 in
    let r = c.from_residual in
    record {
      exact = λ more are.
          gives_err _ r.result h _ r.ensures.1
          (do_stops c.args.parts.function.result_type.now c.args.names.now c.args.body.now c.args.parts.place c.args.parts.condition.now c.args.out.now c.args.progress.now h
          (empty_stops (λ l. sequence_behind l (statement c.args.parts.function.result_type.now c.args.names.now c.args.body.now c.args.progress.now)) c.new-none.result h c.new-none.ensures (c.in_err-first.ensures.exact more are)));
      flags = λ more are. only_ok r.result _ _ r.ensures.1;
      names = only_ok r.result _ _ r.ensures.1;
    }

pub do_loop-returns-in_err-second : goal.do_loop-returns-in_err-second
do_loop-returns-in_err-second t c =
    let h = c.in_err-second.field-0.0 in
    let r = c.from_residual-in_err-second in
    let result = c.args.parts.function.result_type.now in
    let names = c.args.names.now in
    let q = c.single.new.progress in
    record {
      exact = λ more are.
          gives_err _ r.result h _ r.ensures.1
          (do_test_stops result names c.args.body.now c.args.parts.place c.args.parts.condition.now c.args.out.now c.args.progress.now
          c.in_ok-first.first q
          (in_empty (λ l. sequence_behind l (statement result names c.args.body.now c.args.progress.now)) c.new-none.result _ c.new-none.ensures (c.in_ok-first.ensures.exact more are)) h
          (stops_as h _ _ (ap (λ n. sequence_behind [] (loop_test n c.args.parts.place c.args.parts.condition.now q)) (sym c.in_ok-first.ensures.names)) c.in_err-second.ensures.exact));
      flags = λ more are. only_ok r.result _ _ r.ensures.1;
      names = only_ok r.result _ _ r.ensures.1;
    }

pub do_loop-returns : goal.do_loop-returns
do_loop-returns t c =
    let result = c.args.parts.function.result_type.now in
    let names = c.args.names.now in
    let q = c.single.new.progress in
    record {
      exact = λ more are.
          do_goes result names c.args.body.now c.args.parts.place c.args.parts.condition.now c.args.out.now c.args.progress.now
          c.in_ok-first.first q
          (in_empty (λ l. sequence_behind l (statement result names c.args.body.now c.args.progress.now)) c.new-none.result _ c.new-none.ensures (c.in_ok-first.ensures.exact more are))
          c.in_ok-second.second c.push_loop.new.out c.test_behind.new.progress
          (ap (λ n. sequence_behind [] (loop_test n c.args.parts.place c.args.parts.condition.now q)) (sym c.in_ok-first.ensures.names) ∙ c.in_ok-second.ensures.exact)
          c.in_ok-push_loop.ensures;
      flags = λ more are. c.in_ok-first.ensures.flags more are;
      names = c.in_ok-first.ensures.names;
    }

-- `for`.

pub for_loop-returns-in_err-optional_effect : goal.for_loop-returns-in_err-optional_effect
for_loop-returns-in_err-optional_effect t c =
    let h = c.in_err-optional_effect.field-0.0 in
    let r = c.from_residual in
    record {
      exact = λ more are.
          gives_err _ r.result h _ r.ensures.1
          (for_stops c.args.parts.function.result_type.now c.args.names.now c.args.parts.place c.args.parts.first.now c.args.parts.condition.now c.args.parts.third.now c.args.body.now c.args.out.now c.args.progress.now h c.in_err-optional_effect.ensures.exact);
      flags = λ more are. only_ok r.result _ _ r.ensures.1;
      names = only_ok r.result _ _ r.ensures.1;
    }

pub for_loop-returns-in_err-optional_test : goal.for_loop-returns-in_err-optional_test
for_loop-returns-in_err-optional_test t c =
    let h = c.in_err-optional_test.field-0.0 in
    let r = c.from_residual-in_err-optional_test in
    let q = c.optional_effect.new.progress in
    record {
      exact = λ more are.
          gives_err _ r.result h _ r.ensures.1
          (for_test_stops c.args.parts.function.result_type.now c.args.names.now c.args.parts.place c.args.parts.first.now c.args.parts.condition.now c.args.parts.third.now c.args.body.now c.args.out.now c.args.progress.now
          c.optional_effect.new.out q c.in_ok-optional_effect.ensures.exact h
          (empty_stops (λ l. put_behind l (optional_test c.args.names.now c.args.parts.place c.args.parts.condition.now q)) c.new-inner.result h c.new-inner.ensures c.in_err-optional_test.ensures.exact));
      flags = λ more are. only_ok r.result _ _ r.ensures.1;
      names = only_ok r.result _ _ r.ensures.1;
    }

pub for_loop-returns-in_err-second : goal.for_loop-returns-in_err-second
for_loop-returns-in_err-second t c =
    let h = c.in_err-second.field-0.0 in
    let r = c.from_residual-in_err-second in
    let q = c.optional_effect.new.progress in
    record {
      exact = λ more are.
          gives_err _ r.result h _ r.ensures.1
          (for_third_stops c.args.parts.function.result_type.now c.args.names.now c.args.parts.place c.args.parts.first.now c.args.parts.condition.now c.args.parts.third.now c.args.body.now c.args.out.now c.args.progress.now
          c.optional_effect.new.out q c.in_ok-optional_effect.ensures.exact
          c.optional_test.new.out c.optional_test.new.progress
          (in_empty (λ l. put_behind l (optional_test c.args.names.now c.args.parts.place c.args.parts.condition.now q)) c.new-inner.result _ c.new-inner.ensures c.in_ok-optional_test.ensures.exact)
          h c.in_err-second.ensures.exact);
      flags = λ more are. only_ok r.result _ _ r.ensures.1;
      names = only_ok r.result _ _ r.ensures.1;
    }

pub for_loop-returns-in_err-first : goal.for_loop-returns-in_err-first
for_loop-returns-in_err-first t c =
    let h = c.in_err-first.field-0.0 in
    let r = c.from_residual-in_err-first in
    let q = c.optional_effect.new.progress in
    record {
      exact = λ more are.
          gives_err _ r.result h _ r.ensures.1
          (for_body_stops c.args.parts.function.result_type.now c.args.names.now c.args.parts.place c.args.parts.first.now c.args.parts.condition.now c.args.parts.third.now c.args.body.now c.args.out.now c.args.progress.now
          c.optional_effect.new.out q c.in_ok-optional_effect.ensures.exact
          c.optional_test.new.out c.optional_test.new.progress
          (in_empty (λ l. put_behind l (optional_test c.args.names.now c.args.parts.place c.args.parts.condition.now q)) c.new-inner.result _ c.new-inner.ensures c.in_ok-optional_test.ensures.exact)
          c.in_ok-second.second c.effect_behind.new.progress c.in_ok-second.ensures.exact
          h (c.in_err-first.ensures.exact more are));
      flags = λ more are. only_ok r.result _ _ r.ensures.1;
      names = only_ok r.result _ _ r.ensures.1;
    }

pub for_loop-returns : goal.for_loop-returns
for_loop-returns t c =
    let q = c.optional_effect.new.progress in
    record {
      exact = λ more are.
          for_goes c.args.parts.function.result_type.now c.args.names.now c.args.parts.place c.args.parts.first.now c.args.parts.condition.now c.args.parts.third.now c.args.body.now c.args.out.now c.args.progress.now
          c.optional_effect.new.out q c.in_ok-optional_effect.ensures.exact
          c.optional_test.new.out c.optional_test.new.progress
          (in_empty (λ l. put_behind l (optional_test c.args.names.now c.args.parts.place c.args.parts.condition.now q)) c.new-inner.result _ c.new-inner.ensures c.in_ok-optional_test.ensures.exact)
          c.in_ok-second.second c.effect_behind.new.progress c.in_ok-second.ensures.exact
          c.in_ok-first.first c.push_loop.new.out c.single.new.progress
          (c.in_ok-first.ensures.exact more are) c.in_ok-push_loop.ensures;
      flags = λ more are. c.in_ok-first.ensures.flags more are;
      names = c.in_ok-first.ensures.names;
    }

-- `switch`.

pub switch-returns-in_err-value : goal.switch-returns-in_err-value
switch-returns-in_err-value t c =
    let h = c.in_err-value.field-0.0 in
    let r = c.from_residual in
    record {
      exact = λ more are.
          gives_err _ r.result h _ r.ensures.1
          (switch_stops c.args.parts.function.result_type.now c.args.names.now c.args.parts.place c.args.parts.condition.now c.args.cases.now c.args.out.now c.args.progress.now h c.in_err-value.ensures.exact);
      flags = λ more are. only_ok r.result _ _ r.ensures.1;
      names = only_ok r.result _ _ r.ensures.1;
    }

pub switch-returns-in_err-made : goal.switch-returns-in_err-made
switch-returns-in_err-made t c =
    let h = c.in_err-made.field-0.0 in
    let r = c.from_residual-in_err-made in
    let q = c.selector.new.progress in
    record {
      exact = λ more are.
          gives_err _ r.result h _ r.ensures.1
          (cases_stop c.args.parts.function.result_type.now c.args.names.now c.args.parts.place c.args.parts.condition.now c.args.cases.now c.args.out.now c.args.progress.now
          c.selector.new.out c.in_ok-value.value c.in_ok-value.kind q c.in_ok-value.ensures.exact h (c.in_err-made.ensures.exact more are));
      flags = λ more are. only_ok r.result _ _ r.ensures.1;
      names = only_ok r.result _ _ r.ensures.1;
    }

pub switch-returns : goal.switch-returns
switch-returns t c =
    let q = c.selector.new.progress in
    record {
      exact = λ more are.
          switch_goes c.args.parts.function.result_type.now c.args.names.now c.args.parts.place c.args.parts.condition.now c.args.cases.now c.args.out.now c.args.progress.now
          c.selector.new.out c.in_ok-value.value c.in_ok-value.kind q c.in_ok-value.ensures.exact
          c.in_ok-made.made c.push.new.self c.switch_cases.new.progress (c.in_ok-made.ensures.exact more are) c.in_ok-push.ensures.ok;
      flags = λ more are. c.in_ok-made.ensures.flags more are;
      names = c.in_ok-made.ensures.names;
    }

-- The cases.

pub switch_cases-cases-init : goal.switch_cases-cases-init
switch_cases-cases-init t c =
    record {
      names = refl;
      flags = λ more h. h;
      exact = λ more h.
          behind_none (all_cases c.args.parts.function.result_type.now c.args.names.now c.args.parts.kind no_labels c.args.cases.now c.args.progress.now)
          ∙ ap (λ (l : List Case). cases_behind l (all_cases c.args.parts.function.result_type.now c.args.names.now c.args.parts.kind no_labels c.args.cases.now c.args.progress.now)) (sym c.new-all.ensures)
          ∙ ap (λ (l : Labels). cases_behind c.new-all.result (all_cases c.args.parts.function.result_type.now c.args.names.now c.args.parts.kind l c.args.cases.now c.args.progress.now)) (sym c.new-labels.ensures);
    }

pub switch_cases-cases-preserved : goal.switch_cases-cases-preserved
switch_cases-cases-preserved t c =
    let result = c.args.parts.function.result_type.now in
    let kind = c.args.parts.kind in
    let cases = c.args.cases.now in
    let at = c.cases.case-index in
    let one = c.case-item.result in
    let rest = drop (at + 1) cases in
    let made = c.in_ok-made.made in
    let q = c.switch_case.new.progress in
    let within : at < length cases = omega arith in
    let split : drop at cases ≡ one ∷ rest = drop_more cases at one within ∙ ap (λ v. v ∷ rest) (sym c.case-item.is) in
    record {
      names = c.in_ok-made.ensures.names ∙ c.cases.invariant.names;
      flags = λ more h. c.in_ok-made.ensures.flags (flags_of_cases rest ++ more) (flags_first_case one rest (drop at cases) c.cases.flags more split (c.cases.invariant.flags more h));
      exact = λ more h.
          c.cases.invariant.exact more h
          ∙ ap (λ l. cases_behind c.cases.all (all_cases result c.cases.names kind c.cases.labels l c.cases.progress)) split
          ∙ next_case result c.cases.all c.cases.names kind c.cases.labels one rest c.cases.progress made q
          (c.in_ok-made.ensures.exact (flags_of_cases rest ++ more) (flags_first_case one rest (drop at cases) c.cases.flags more split (c.cases.invariant.flags more h)))
          ∙ ap (λ n. cases_behind (c.cases.all ++ made ∷ []) (all_cases result n kind (with_label c.cases.labels made.label) rest q)) (sym c.in_ok-made.ensures.names)
          ∙ ap (λ (l : Labels). cases_behind (c.cases.all ++ made ∷ []) (all_cases result c.switch_case.new.names kind l rest q)) (sym c.in_ok-made.ensures.labels)
          ∙ ap (λ (l : List Case). cases_behind l (all_cases result c.switch_case.new.names kind c.switch_case.new.labels rest q)) (sym c.in_ok-push.ensures.ok);
    }

pub switch_cases-returns-in_err-made : goal.switch_cases-returns-in_err-made
switch_cases-returns-in_err-made t c =
    let result = c.args.parts.function.result_type.now in
    let kind = c.args.parts.kind in
    let cases = c.args.cases.now in
    let at = c.cases.case-index in
    let one = c.case-item.result in
    let rest = drop (at + 1) cases in
    let within : at < length cases = omega arith in
    let split : drop at cases ≡ one ∷ rest = drop_more cases at one within ∙ ap (λ v. v ∷ rest) (sym c.case-item.is) in
    let h = c.in_err-made.field-0.0 in
    let r = c.from_residual in
    record {
      exact = λ more are.
          gives_err _ r.result h _ r.ensures.1
          (stops_as h _ _
          (c.cases.invariant.exact more are ∙ ap (λ l. cases_behind c.cases.all (all_cases result c.cases.names kind c.cases.labels l c.cases.progress)) split)
          (stopped_case result c.cases.all c.cases.names kind c.cases.labels one rest c.cases.progress h
          (c.in_err-made.ensures.exact (flags_of_cases rest ++ more) (flags_first_case one rest (drop at cases) c.cases.flags more split (c.cases.invariant.flags more are)))));
      flags = λ more are. only_ok r.result _ _ r.ensures.1;
      names = only_ok r.result _ _ r.ensures.1;
    }

pub switch_cases-returns : goal.switch_cases-returns
switch_cases-returns t c =
    let result = c.args.parts.function.result_type.now in
    let kind = c.args.parts.kind in
    let cases = c.args.cases.now in
    let at_end : c.cases.case-index ≡ length cases = omega arith in
    let done : drop c.cases.case-index cases ≡ [] = ap (λ n. drop n cases) at_end ∙ drop-length cases in
    record {
      exact = λ more h.
          c.cases.invariant.exact more h
          ∙ ap (λ l. cases_behind c.cases.all (all_cases result c.cases.names kind c.cases.labels l c.cases.progress)) done
          ∙ ap (λ (l : List Case). let made : Result (List Case × Progress) Refusal = Ok (l, c.cases.progress) in made) (append-nil c.cases.all);
      flags = λ more h. c.cases.invariant.flags more h ∙ ap (λ l. flags_of_cases l ++ more) done;
      names = c.cases.invariant.names;
    }

pub switch_case-returns-in_err-label : goal.switch_case-returns-in_err-label
switch_case-returns-in_err-label t c =
    let h = c.in_err-label.field-0.0 in
    let r = c.from_residual in
    let p = c.args.progress.now in
    let one = c.args.case.now in
    record {
      exact = λ more are.
          gives_err _ r.result h _ r.ensures.1
          (label_stops c.args.parts.function.result_type.now c.args.names.now c.args.parts.kind c.args.labels.now one p h
          (typing_stops h (next_label c.args.parts.kind c.args.labels.now one.label) p (c.in_err-label.ensures.exact p.tags)));
      flags = λ more are. only_ok r.result _ _ r.ensures.1;
      names = only_ok r.result _ _ r.ensures.1;
      labels = only_err r.result _ _ r.ensures.1;
    }

pub switch_case-returns-in_err-body : goal.switch_case-returns-in_err-body
switch_case-returns-in_err-body t c =
    let result = c.args.parts.function.result_type.now in
    let names = c.args.names.now in
    let h = c.in_err-body.field-0.0 in
    let r = c.from_residual-in_err-body in
    let p = c.args.progress.now in
    let one = c.args.case.now in
    let got = c.get.result.now in
    let bits = c.in_ok-label.label in
    record {
      exact = λ more are.
          gives_err _ r.result h _ r.ensures.1
          (body_stops result names c.args.parts.kind c.args.labels.now one p bits p (typed (next_label c.args.parts.kind c.args.labels.now one.label) p bits p.tags (c.in_ok-label.ensures.exact p.tags)) h
          (stops_as h _ _ (ap (λ u. sequence_behind [] (statement result names u p)) (sym c.get.ensures))
          (empty_stops (λ l. sequence_behind l (statement result names got p)) c.new-none.result h c.new-none.ensures
          (c.in_err-body.ensures.exact more (are ∙ ap (λ u. statement_flags u ++ more) (sym c.get.ensures))))));
      flags = λ more are. only_ok r.result _ _ r.ensures.1;
      names = only_ok r.result _ _ r.ensures.1;
      labels = only_err r.result _ _ r.ensures.1;
    }

pub switch_case-returns : goal.switch_case-returns
switch_case-returns t c =
    let result = c.args.parts.function.result_type.now in
    let names = c.args.names.now in
    let p = c.args.progress.now in
    let one = c.args.case.now in
    let got = c.get.result.now in
    let bits = c.in_ok-label.label in
    record {
      exact = λ more are.
          case_goes result names c.args.parts.kind c.args.labels.now one p bits p (typed (next_label c.args.parts.kind c.args.labels.now one.label) p bits p.tags (c.in_ok-label.ensures.exact p.tags))
          c.in_ok-body.body c.single.new.progress
          (ap (λ u. sequence_behind [] (statement result names u p)) (sym c.get.ensures)
          ∙ in_empty (λ l. sequence_behind l (statement result names got p)) c.new-none.result _ c.new-none.ensures
          (c.in_ok-body.ensures.exact more (are ∙ ap (λ u. statement_flags u ++ more) (sym c.get.ensures))));
      flags = λ more are. c.in_ok-body.ensures.flags more (are ∙ ap (λ u. statement_flags u ++ more) (sym c.get.ensures));
      names = c.in_ok-body.ensures.names;
      labels = c.in_ok-label.ensures.added;
    }
