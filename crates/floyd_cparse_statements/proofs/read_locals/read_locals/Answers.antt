use Rattle.std.proofs.Common.{sym, ◌∙◌}
use Rattle.floyd_cparse_statements.specs.Statements.{first_local}
use Rattle.floyd_cparse_statements.specs.StatementClauses.{locals, local}
use Rattle.floyd_cparse_tokens.proofs.ReadLemmas.{begun_behind, gives_next}
use Rattle.floyd_cparse_statements.proofs.StatementShrinks.{next_local_eats}
use Rattle.floyd_cparse_statements.proofs.read_locals.read_locals.Goals as goal

pub each-init : goal.each-init
unfolding locals
each-init c =
    rw (c.in_ok-push.ensures.ok, c.new-items.ensures)
    (begun_behind (local c.args.types.now c.args.room) first_local c.in_ok-first.first c.args.reader.now c.read_local.new.reader c.in_ok-first.ensures)

pub each-smaller : goal.each-smaller
each-smaller c = (next_local_eats c.args.types.now c.args.room).law c.each.reader c.in_ok-next.next c.read_next_local.new.reader c.in_ok-next.ensures

pub each-preserved : goal.each-preserved
each-preserved c =
    rw c.in_ok-push-2.ensures.ok
    (gives_next c.each.invariant (next_local_eats c.args.types.now c.args.room) (sym c.leads_mark.ensures ∙ c.each-test.true) c.in_ok-next.next c.read_next_local.new.reader c.in_ok-next.ensures)
