use Rattle.std.proofs.Common.{sym, ◌∙◌}
use Rattle.floyd_lex.specs.Token.{Token}
use Rattle.floyd_grammar.proofs.Turns.{turning}
use Rattle.floyd_cparse_tokens.specs.Tokens.{is_there}
use Rattle.floyd_cparse_tokens.proofs.ReadLemmas.{gives_next, gives_end, gives_fault, gives_from, gives_init}
use Rattle.floyd_termread_grammar.specs.declared.values.Contents.{Contents}
use Rattle.floyd_termread_tables.specs.Brackets.{first_want}
use Rattle.floyd_termread_grammar.specs.Terms.{first_link, plus_link, first_item, plus_item, more_items, no_items, step_at}
use Rattle.floyd_termread_grammar.specs.TermClauses.{nested, operand, begins_link, one_link, links, next_item, contents, one_step, step_list}
use Rattle.floyd_termread_grammar.proofs.RoomLemmas.{nested_none, nested_some}
use Rattle.floyd_termread_grammar.proofs.TermShrinks.{link_eats, item_eats, step_eats}
use Rattle.floyd_termread_grammar.proofs.read_terms.+terms.Goals as goal

pub read_nested-returns-then-room-eq0 : goal.read_nested-returns-then-room-eq0
read_nested-returns-then-room-eq0 t c = rw (nested_none c.args.room c.args.want c.args.count c.if-room-eq0.true) c.refuse_without_room.ensures

pub read_nested-returns : goal.read_nested-returns
read_nested-returns t c = rw (nested_some c.args.room c.args.want c.args.count c.if-room-eq0.false) c.read_inside.ensures

pub read_links-each-init : goal.read_links-each-init
unfolding links
read_links-each-init t c =
    rw c.first_link-chain.ensures
    (gives_init begins_link plus_link (one_link c.args.room (nested c.args.room)) first_link (operand c.args.room (nested c.args.room) c.args.want c.args.count) c.in_ok-first.first c.args.reader.now c.read_operand.new.reader c.in_ok-first.ensures)

pub read_links-each-smaller : goal.read_links-each-smaller
read_links-each-smaller t c = (link_eats c.args.room c.each.chain).law c.each.reader (c.in_ok-start.start, c.in_ok-start.x) c.read_link.new.reader c.in_ok-start.ensures

pub read_links-each-preserved : goal.read_links-each-preserved
read_links-each-preserved t c =
    rw c.in_ok-chain.ensures
    (gives_next c.each.invariant (link_eats c.args.room c.each.chain) (sym c.leads_link.ensures ∙ c.each-test.true) (c.in_ok-start.start, c.in_ok-start.x) c.read_link.new.reader c.in_ok-start.ensures)

pub read_links-returns : goal.read_links-returns
read_links-returns t c = gives_end c.each.invariant (sym c.leads_link.ensures ∙ c.each-test.false)

pub read_contents-each-init : goal.read_contents-each-init
unfolding contents
read_contents-each-init t c =
    rw c.in_ok-all.ensures
    (gives_init (more_items c.args.form) plus_item (next_item c.args.room (nested c.args.room) c.args.form) first_item (nested c.args.room (first_want c.args.form) c.args.count) c.in_ok-first.first c.args.reader.now c.read_nested.new.reader (rw (← c.first_want.ensures) c.in_ok-first.ensures))

pub read_contents-each-smaller : goal.read_contents-each-smaller
read_contents-each-smaller t c = (item_eats c.args.room c.args.form c.each.all).law c.each.reader c.in_ok-next.next c.read_item.new.reader c.in_ok-next.ensures

pub read_contents-each-preserved : goal.read_contents-each-preserved
read_contents-each-preserved t c =
    rw c.in_ok-all-2.ensures
    (gives_next c.each.invariant (item_eats c.args.room c.args.form c.each.all) (sym c.leads_item.ensures ∙ c.each-test.true) c.in_ok-next.next c.read_item.new.reader c.in_ok-next.ensures)

pub read_contents-returns-in_err-next : goal.read_contents-returns-in_err-next
read_contents-returns-in_err-next t c =
    gives_from c.from_residual-in_err-next.result c.in_err-next.field-0.0 c.read_item.new.reader (contents c.args.room (nested c.args.room) c.args.form c.args.count c.args.reader.now) c.from_residual-in_err-next.ensures.1
    (gives_fault c.each.invariant (sym c.leads_item.ensures ∙ c.each-test.true) c.in_err-next.field-0.0 c.read_item.new.reader c.in_err-next.ensures)

pub read_step_list-each-init : goal.read_step_list-each-init
unfolding step_list
read_step_list-each-init t c = rw c.no_items-all.ensures (turning (λ (all : Contents) (s : Token). is_there (step_at s)) plus_item (one_step c.args.room (nested c.args.room)) (no_items c.args.count) c.args.reader.now)

pub read_step_list-each-smaller : goal.read_step_list-each-smaller
read_step_list-each-smaller t c = (step_eats c.args.room c.each.all).law c.each.reader c.in_ok-next.next c.read_step.new.reader c.in_ok-next.ensures

pub read_step_list-each-preserved : goal.read_step_list-each-preserved
read_step_list-each-preserved t c =
    rw c.in_ok-all.ensures
    (gives_next c.each.invariant (step_eats c.args.room c.each.all) (sym c.leads_step.ensures ∙ c.each-test.true) c.in_ok-next.next c.read_step.new.reader c.in_ok-next.ensures)
