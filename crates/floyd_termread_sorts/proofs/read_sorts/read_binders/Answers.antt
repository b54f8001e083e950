use Rattle.std.proofs.Common.{[], sym, ◌∙◌}
use Rattle.floyd_lex.specs.declared.kinds.Punctuator.TheVariants as p
use Rattle.floyd_cparse_tokens.proofs.ReadLemmas.{gives_next, gives_init}
use Rattle.floyd_termread_tokens.specs.Tokens.{is_mark}
use Rattle.floyd_termread_sorts.specs.Sorts.{plus_binder, first_binder}
use Rattle.floyd_termread_sorts.specs.SortClauses.{binder, binders, next_binder}
use Rattle.floyd_termread_sorts.proofs.SortShrinks.{next_binder_eats}
use Rattle.floyd_termread_sorts.proofs.read_sorts.read_binders.Goals as goal

pub each-init : goal.each-init
unfolding binders
each-init c =
    rw c.in_ok-all.ensures
    (gives_init (λ _. is_mark p.Comma) plus_binder (next_binder c.args.room c.args.count) first_binder (binder c.args.room c.args.count c.args.depth []) c.in_ok-first.first c.args.reader.now c.read_binder.new.reader (rw (← c.new.ensures) c.in_ok-first.ensures))

pub each-smaller : goal.each-smaller
each-smaller c = (next_binder_eats c.args.room c.args.count c.each.all).law c.each.reader c.in_ok-next.next c.read_next_binder.new.reader c.in_ok-next.ensures

pub each-preserved : goal.each-preserved
each-preserved c =
    rw c.in_ok-all-2.ensures
    (gives_next c.each.invariant (next_binder_eats c.args.room c.args.count c.each.all) (sym c.leads_mark.ensures ∙ c.each-test.true) c.in_ok-next.next c.read_next_binder.new.reader c.in_ok-next.ensures)
