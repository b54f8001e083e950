use Rattle.std.proofs.Common.{List, Result, Ok, Err, pred, refl, sym, ◌∙◌, subst}
use Rattle.floyd_grammar.specs.declared.stop.Stop.{Stop}
use Rattle.floyd_grammar.specs.GivesClauses.{Gives}
use Rattle.floyd_grammar.specs.ParseClauses.{Read, one, pure, ◌>>=◌}
use Rattle.floyd_cparse_statements.specs.declared.values.BlockItems.{BlockItems}
use Rattle.floyd_cparse_statements.specs.declared.values.ForHead.{ForHead}
use Rattle.floyd_cparse_statements.specs.declared.values.ReadStatement.{ReadStatement}
use Rattle.floyd_cparse_trees.specs.declared.statements.SwitchCase.{SwitchCase}
use Rattle.floyd_cparse_trees.specs.declared.statements.SwitchLabel.{SwitchLabel}
use Rattle.floyd_cparse_statements.specs.LabelClauses.{switch_label}
use Rattle.floyd_cparse_statements.specs.Statements.{brace_end, items_of, is_first, statement_item, case_of, for_of}
use Rattle.floyd_cparse_statements.specs.StatementClauses.{all_items, block_items, block_item, next_item, case_items, next_case_item, stated_item, switch_case, all_cases, switch_cases, statements, after_start, for_head}
use Rattle.floyd_cparse_tokens.specs.Tokens.{Sight, Types}
use Rattle.floyd_cparse_tokens.proofs.ReadLemmas.{gives_next, gives_fault, gives_end, gives_from, gives_then, gives_not}
use Rattle.floyd_cparse_statements.proofs.StatementShrinks.{statements_none, statements_some, next_item_eats, item_passes, case_item_eats, case_eats, case_item_passes, gives_case, gives_label, for_body, for_in_two}
use Rattle.floyd_cparse_statements.proofs.read_statements.+statements.Goals as goal

pub read_statement-returns-then-room-eq0 : goal.read_statement-returns-then-room-eq0
read_statement-returns-then-room-eq0 t c = rw (statements_none c.args.types.now c.args.room c.if-room-eq0.true) c.refuse_without_room.ensures

pub read_statement-returns : goal.read_statement-returns
read_statement-returns t c = rw (statements_some c.args.types.now c.args.room c.if-room-eq0.false) c.read_statement_inside.ensures

pub read_block_items-each-smaller : goal.read_block_items-each-smaller
unfolding next_item
read_block_items-each-smaller t c =
    let all : BlockItems = record { items = c.each.items; takes_else = c.each.takes_else } in
    (next_item_eats c.args.types.now c.args.room all).law c.each.reader c.in_ok-next.next c.read_item.new.reader
    (item_passes all (block_item c.args.types.now (pred c.args.room) (statements c.args.types.now c.args.room)) c.each.reader (sym c.leads_item.ensures ∙ c.each-test.true) ∙ c.in_ok-next.ensures)

pub read_block_items-each-preserved : goal.read_block_items-each-preserved
unfolding next_item
read_block_items-each-preserved t c =
    let all : BlockItems = record { items = c.each.items; takes_else = c.each.takes_else } in
    rw c.in_ok-push.ensures.ok
    (gives_next c.each.invariant (next_item_eats c.args.types.now c.args.room all) (sym c.leads_item.ensures ∙ c.each-test.true) c.in_ok-next.next c.read_item.new.reader
    (item_passes all (block_item c.args.types.now (pred c.args.room) (statements c.args.types.now c.args.room)) c.each.reader (sym c.leads_item.ensures ∙ c.each-test.true) ∙ c.in_ok-next.ensures))

pub read_block_items-returns-in_err-next : goal.read_block_items-returns-in_err-next
unfolding block_items next_item
read_block_items-returns-in_err-next t c =
    let all : BlockItems = record { items = c.each.items; takes_else = c.each.takes_else } in
    let stmt = statements c.args.types.now c.args.room in
    let e = c.in_err-next.field-0.0 in
    let leads = sym c.leads_item.ensures ∙ c.each-test.true in
    gives_from c.from_residual.result e c.read_item.new.reader (block_items c.args.types.now (pred c.args.room) stmt c.args.reader.now) c.from_residual.ensures.1
    (gives_not (all_items c.args.types.now (pred c.args.room) stmt) (λ (x : BlockItems). one brace_end >>= λ _. pure (items_of x)) c.args.reader.now c.read_item.new.reader e
    (gives_fault c.each.invariant leads e c.read_item.new.reader
    (subst (λ (z : Read Sight _). Gives (Err e) c.read_item.new.reader z) (sym (item_passes all (block_item c.args.types.now (pred c.args.room) stmt) c.each.reader leads)) c.in_err-next.ensures)))

pub read_block_items-returns-in_err-take_brace_end : goal.read_block_items-returns-in_err-take_brace_end
unfolding block_items
read_block_items-returns-in_err-take_brace_end t c =
    let all : BlockItems = record { items = c.each.items; takes_else = c.each.takes_else } in
    let stmt = statements c.args.types.now c.args.room in
    let e = c.in_err-take_brace_end.field-0.0 in
    gives_from c.from_residual-in_err-take_brace_end.result e c.take_brace_end.new.reader (block_items c.args.types.now (pred c.args.room) stmt c.args.reader.now) c.from_residual-in_err-take_brace_end.ensures.1
    (gives_then (all_items c.args.types.now (pred c.args.room) stmt) (λ (x : BlockItems). one brace_end >>= λ _. pure (items_of x)) all c.args.reader.now c.each.reader c.take_brace_end.new.reader (Err e)
    (gives_end c.each.invariant (sym c.leads_item.ensures ∙ c.each-test.false))
    (gives_not (one brace_end) (λ _. pure (items_of all)) c.each.reader c.take_brace_end.new.reader e c.in_err-take_brace_end.ensures))

pub read_started-returns-in_err-head-in-For : goal.read_started-returns-in_err-head-in-For
unfolding after_start
read_started-returns-in_err-head-in-For t c =
    let types : Types = c.args.types.now in
    let room = c.args.room in
    let inner = statements types room in
    let second = statements types (pred room) in
    let e = c.in_err-head-in-For.field-0.0 in
    rw (c.in-For.is, ← for_in_two types room inner second c.in-For.place c.args.reader.now)
    (gives_from c.from_residual-in_err-head-in-For.result e c.read_for_head.new.reader ((for_head types room inner second >>= for_body types room inner second c.in-For.place) c.args.reader.now) c.from_residual-in_err-head-in-For.ensures.1
    (gives_not (for_head types room inner second) (for_body types room inner second c.in-For.place) c.args.reader.now c.read_for_head.new.reader e c.in_err-head-in-For.ensures))

pub read_started-returns-in_err-body-in-For : goal.read_started-returns-in_err-body-in-For
unfolding after_start
read_started-returns-in_err-body-in-For t c =
    let types : Types = c.args.types.now in
    let room = c.args.room in
    let inner = statements types room in
    let second = statements types (pred room) in
    let place = c.in-For.place in
    let head : ForHead = c.in_ok-head-in-For.head in
    let e = c.in_err-body-in-For.field-0.0 in
    rw (c.in-For.is, ← for_in_two types room inner second place c.args.reader.now)
    (gives_from c.from_residual-in_err-body-in-For.result e c.read_statement-in-For.new.reader ((for_head types room inner second >>= for_body types room inner second place) c.args.reader.now) c.from_residual-in_err-body-in-For.ensures.1
    (gives_then (for_head types room inner second) (for_body types room inner second place) head c.args.reader.now c.read_for_head.new.reader c.read_statement-in-For.new.reader (Err e) c.in_ok-head-in-For.ensures
    (gives_not inner (λ (x : ReadStatement). pure (for_of place head.first head.condition head.third x)) c.read_for_head.new.reader c.read_statement-in-For.new.reader e c.in_err-body-in-For.ensures)))

pub read_started-returns-in_ok-for_of-in-For : goal.read_started-returns-in_ok-for_of-in-For
unfolding after_start
read_started-returns-in_ok-for_of-in-For t c =
    let types : Types = c.args.types.now in
    let room = c.args.room in
    rw (c.in-For.is, ← for_in_two types room (statements types room) (statements types (pred room)) c.in-For.place c.args.reader.now, c.in_ok-for_of-in-For.ensures, c.in_ok-head-in-For.ensures, c.in_ok-body-in-For.ensures) refl

-- the cases of a switch
pub read_switch_case-each-smaller : goal.read_switch_case-each-smaller
unfolding next_case_item stated_item
read_switch_case-each-smaller t c =
    let all : BlockItems = record { items = c.each.items; takes_else = c.each.takes_else } in
    (case_item_eats c.args.types.now c.args.room all).law c.each.reader (statement_item c.in_ok-next.next) c.read_statement.new.reader
    (case_item_passes all (stated_item c.args.types.now (statements c.args.types.now c.args.room)) c.each.reader (sym c.leads_case_item.ensures ∙ c.each-test.true) ∙ rw c.in_ok-next.ensures refl)

pub read_switch_case-each-preserved : goal.read_switch_case-each-preserved
unfolding next_case_item stated_item
read_switch_case-each-preserved t c =
    let all : BlockItems = record { items = c.each.items; takes_else = c.each.takes_else } in
    rw (c.in_ok-push.ensures.ok, c.into_inner.ensures)
    (gives_next c.each.invariant (case_item_eats c.args.types.now c.args.room all) (sym c.leads_case_item.ensures ∙ c.each-test.true) (statement_item c.in_ok-next.next) c.read_statement.new.reader
    (case_item_passes all (stated_item c.args.types.now (statements c.args.types.now c.args.room)) c.each.reader (sym c.leads_case_item.ensures ∙ c.each-test.true) ∙ rw c.in_ok-next.ensures refl))

pub read_switch_case-returns-in_err-label : goal.read_switch_case-returns-in_err-label
unfolding switch_case
read_switch_case-returns-in_err-label t c =
    let types : Types = c.args.types.now in
    let room = c.args.room in
    let stmt = statements types room in
    let e = c.in_err-label.field-0.0 in
    gives_from c.from_residual.result e c.read_label.new.reader (switch_case types (pred room) stmt c.args.first c.args.reader.now) c.from_residual.ensures.1
    (gives_not (switch_label types (pred room) c.args.first) (λ (x : SwitchLabel). case_items types stmt >>= λ (xs : BlockItems). pure (case_of x xs)) c.args.reader.now c.read_label.new.reader e
    (gives_label types room (Err e) c.args.first c.saturating_sub.result c.args.reader.now c.read_label.new.reader c.saturating_sub.ensures c.in_err-label.ensures))

pub read_switch_case-returns-in_err-next : goal.read_switch_case-returns-in_err-next
unfolding switch_case next_case_item stated_item
read_switch_case-returns-in_err-next t c =
    let types : Types = c.args.types.now in
    let all : BlockItems = record { items = c.each.items; takes_else = c.each.takes_else } in
    let stmt = statements types c.args.room in
    let label : SwitchLabel = c.in_ok-label.label in
    let e = c.in_err-next.field-0.0 in
    let leads = sym c.leads_case_item.ensures ∙ c.each-test.true in
    gives_from c.from_residual-in_err-next.result e c.read_statement.new.reader (switch_case types (pred c.args.room) stmt c.args.first c.args.reader.now) c.from_residual-in_err-next.ensures.1
    (gives_then (switch_label types (pred c.args.room) c.args.first) (λ (x : SwitchLabel). case_items types stmt >>= λ (xs : BlockItems). pure (case_of x xs)) label c.args.reader.now c.read_label.new.reader c.read_statement.new.reader (Err e)
    (gives_label types c.args.room (Ok label) c.args.first c.saturating_sub.result c.args.reader.now c.read_label.new.reader c.saturating_sub.ensures c.in_ok-label.ensures)
    (gives_not (case_items types stmt) (λ (xs : BlockItems). pure (case_of label xs)) c.read_label.new.reader c.read_statement.new.reader e
    (gives_fault c.each.invariant leads e c.read_statement.new.reader
    (subst (λ (z : Read Sight _). Gives (Err e) c.read_statement.new.reader z) (sym (case_item_passes all (stated_item types stmt) c.each.reader leads))
    (gives_not stmt (λ (x : ReadStatement). pure (statement_item x)) c.each.reader c.read_statement.new.reader e c.in_err-next.ensures)))))

pub read_switch_case-returns : goal.read_switch_case-returns
unfolding switch_case
read_switch_case-returns t c =
    let types : Types = c.args.types.now in
    let all : BlockItems = record { items = c.each.items; takes_else = c.each.takes_else } in
    let stmt = statements types c.args.room in
    let label : SwitchLabel = c.in_ok-label.label in
    let made : Result SwitchCase Stop = Ok (record { label = label; body = c.in_ok-body.body }) in
    gives_then (switch_label types (pred c.args.room) c.args.first) (λ (x : SwitchLabel). case_items types stmt >>= λ (xs : BlockItems). pure (case_of x xs)) label c.args.reader.now c.read_label.new.reader c.each.reader made
    (gives_label types c.args.room (Ok label) c.args.first c.saturating_sub.result c.args.reader.now c.read_label.new.reader c.saturating_sub.ensures c.in_ok-label.ensures)
    (gives_then (case_items types stmt) (λ (xs : BlockItems). pure (case_of label xs)) all c.read_label.new.reader c.each.reader c.each.reader made
    (gives_end c.each.invariant (sym c.leads_case_item.ensures ∙ c.each-test.false))
    (rw c.in_ok-body.ensures refl))

pub read_switch_cases-each-smaller : goal.read_switch_cases-each-smaller
read_switch_cases-each-smaller t c =
    (case_eats c.args.types.now c.args.room c.is_first-first.result).law c.each.reader c.in_ok-next.next c.read_switch_case.new.reader c.in_ok-next.ensures

pub read_switch_cases-each-preserved : goal.read_switch_cases-each-preserved
read_switch_cases-each-preserved t c =
    let types : Types = c.args.types.now in
    let room = c.args.room in
    rw c.in_ok-push.ensures.ok
    (gives_next c.each.invariant (case_eats types room (is_first c.each.cases)) (sym c.leads_case.ensures ∙ c.each-test.true) c.in_ok-next.next c.read_switch_case.new.reader
    (gives_case types room (Ok c.in_ok-next.next) c.is_first-first.result c.each.cases c.each.reader c.read_switch_case.new.reader c.is_first-first.ensures c.in_ok-next.ensures))

pub read_switch_cases-returns-in_err-next : goal.read_switch_cases-returns-in_err-next
unfolding switch_cases
read_switch_cases-returns-in_err-next t c =
    let types : Types = c.args.types.now in
    let room = c.args.room in
    let stmt = statements types room in
    let e = c.in_err-next.field-0.0 in
    gives_from c.from_residual.result e c.read_switch_case.new.reader (switch_cases types (pred room) stmt c.args.reader.now) c.from_residual.ensures.1
    (gives_not (all_cases types (pred room) stmt) (λ (xs : List SwitchCase). one brace_end >>= λ _. pure xs) c.args.reader.now c.read_switch_case.new.reader e
    (gives_fault c.each.invariant (sym c.leads_case.ensures ∙ c.each-test.true) e c.read_switch_case.new.reader
    (gives_case types room (Err e) c.is_first-first.result c.each.cases c.each.reader c.read_switch_case.new.reader c.is_first-first.ensures c.in_err-next.ensures)))

pub read_switch_cases-returns-in_err-take_brace_end : goal.read_switch_cases-returns-in_err-take_brace_end
unfolding switch_cases
read_switch_cases-returns-in_err-take_brace_end t c =
    let types : Types = c.args.types.now in
    let stmt = statements types c.args.room in
    let e = c.in_err-take_brace_end.field-0.0 in
    gives_from c.from_residual-in_err-take_brace_end.result e c.take_brace_end.new.reader (switch_cases types (pred c.args.room) stmt c.args.reader.now) c.from_residual-in_err-take_brace_end.ensures.1
    (gives_then (all_cases types (pred c.args.room) stmt) (λ (xs : List SwitchCase). one brace_end >>= λ _. pure xs) c.each.cases c.args.reader.now c.each.reader c.take_brace_end.new.reader (Err e)
    (gives_end c.each.invariant (sym c.leads_case.ensures ∙ c.each-test.false))
    (gives_not (one brace_end) (λ _. pure c.each.cases) c.each.reader c.take_brace_end.new.reader e c.in_err-take_brace_end.ensures))
