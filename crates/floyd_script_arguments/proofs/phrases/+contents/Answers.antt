use Rattle.std.proofs.Common.{Ok, refl, sym, ◌∙◌, subst}
use Rattle.floyd_lex.specs.declared.kinds.Punctuator.TheVariants as p
use Rattle.floyd_grammar.specs.GivesClauses.{Gives}
use Rattle.floyd_cparse_tokens.proofs.ReadLemmas.{gives_next, gives_end, gives_fault, gives_from}
use Rattle.floyd_script_tokens.specs.SightClauses.{take_as}
use Rattle.floyd_script_tokens.specs.declared.heads.Opening.{Opening}
use Rattle.floyd_script_tokens.specs.declared.heads.Opening.TheVariants.{Round, Square}
use Rattle.floyd_script_arguments.specs.ArgumentClauses.{contents}
use Rattle.floyd_script_arguments.specs.ArgumentClauses as r
use Rattle.floyd_script_arguments.proofs.PhraseExact.{contents_turns, item_in_eats}
use Rattle.floyd_script_arguments.proofs.RoomLemmas.{opened_in}
use Rattle.floyd_script_arguments.proofs.phrases.+contents.Goals as goal

pub read_contents-each-init : goal.read_contents-each-init
read_contents-each-init t c = contents_turns c.args.room c.args.reader.now

pub read_contents-each-smaller : goal.read_contents-each-smaller
read_contents-each-smaller t c = (item_in_eats c.args.room).law c.each.reader c.in_ok-read_item.field-0 c.read_item.new.reader c.in_ok-read_item.ensures

pub read_contents-each-preserved : goal.read_contents-each-preserved
read_contents-each-preserved t c =
    gives_next c.each.invariant (item_in_eats c.args.room) (sym c.leads_phrase.ensures ∙ c.each-test.true) c.in_ok-read_item.field-0 c.read_item.new.reader c.in_ok-read_item.ensures

pub read_contents-returns-in_err-read_item : goal.read_contents-returns-in_err-read_item
read_contents-returns-in_err-read_item t c =
    gives_from c.from_residual.result c.in_err-read_item.field-0.0 c.read_item.new.reader (contents c.args.room c.args.reader.now) c.from_residual.ensures.1
    (gives_fault c.each.invariant (sym c.leads_phrase.ensures ∙ c.each-test.true) c.in_err-read_item.field-0.0 c.read_item.new.reader c.in_err-read_item.ensures)

pub read_contents-returns : goal.read_contents-returns
read_contents-returns t c = gives_end c.each.invariant (sym c.leads_phrase.ensures ∙ c.each-test.false)

pub read_item-returns-in-Round : goal.read_item-returns-in-Round
unfolding r.after_opening
read_item-returns-in-Round t c =
    opened_in c.args.room Round p.CloseParen (λ inner. refl) (λ h. h) c.in_ok-token.token c.item.result c.args.reader.now c.take.new.self c.read_bracketed.new.reader c.read_bracketed.result
    c.in_ok-token.ensures.ok (rw (← c.has_room.ensures) c.item.ensures.value) (rw (← c.has_room.ensures) c.item.ensures.room)
    (subst (λ (o : Opening). Gives (Ok o) c.take.new.self (take_as c.item.result c.args.reader.now)) c.in-Round.is c.in_ok-take.ensures) c.read_bracketed.ensures

pub read_item-returns : goal.read_item-returns
unfolding r.after_opening
read_item-returns t c =
    opened_in c.args.room Square p.CloseBracket (λ inner. refl) (λ h. h) c.in_ok-token.token c.item.result c.args.reader.now c.take.new.self c.read_bracketed-in-Square.new.reader c.read_bracketed-in-Square.result
    c.in_ok-token.ensures.ok (rw (← c.has_room.ensures) c.item.ensures.value) (rw (← c.has_room.ensures) c.item.ensures.room)
    (subst (λ (o : Opening). Gives (Ok o) c.take.new.self (take_as c.item.result c.args.reader.now)) c.in-Square.is c.in_ok-take.ensures) c.read_bracketed-in-Square.ensures
