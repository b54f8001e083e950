use Rattle.std.proofs.Common.{sym, ◌∙◌}
use Rattle.floyd_cparse.specs.Units.{first_value}
use Rattle.floyd_cparse.specs.UnitClauses.{inits, value_list}
use Rattle.floyd_cparse_tokens.proofs.ReadLemmas.{begun_behind, gives_next}
use Rattle.floyd_cparse.proofs.UnitShrinks.{next_value_eats}
use Rattle.floyd_cparse.proofs.read_initialisers.+initialisers.Goals as goal

pub read_value_list-each-init : goal.read_value_list-each-init
unfolding value_list
read_value_list-each-init t c =
    rw (c.in_ok-push.ensures.ok, c.new-items.ensures)
    (begun_behind (inits c.args.types.now c.args.room) first_value c.in_ok-first.first c.args.reader.now c.read_init.new.reader c.in_ok-first.ensures)

pub read_value_list-each-smaller : goal.read_value_list-each-smaller
read_value_list-each-smaller t c = (next_value_eats c.args.types.now c.args.room).law c.each.reader c.in_ok-next.next c.read_next_value.new.reader c.in_ok-next.ensures

pub read_value_list-each-preserved : goal.read_value_list-each-preserved
read_value_list-each-preserved t c =
    rw c.in_ok-push-2.ensures.ok
    (gives_next c.each.invariant (next_value_eats c.args.types.now c.args.room) (sym c.leads_separator.ensures ∙ c.each-test.true) c.in_ok-next.next c.read_next_value.new.reader c.in_ok-next.ensures)
