use Rattle.std.proofs.Common.{sym, ◌∙◌}
use Rattle.floyd_cparse_tokens.proofs.ReadLemmas.{gives_next}
use Rattle.floyd_cparse.proofs.UnitShrinks.{next_global_eats}
use Rattle.floyd_cparse.proofs.read_units.read_globals.Goals as goal

pub each-smaller : goal.each-smaller
each-smaller c = (next_global_eats c.args.types.now).law c.each.reader c.in_ok-next.next c.read_next_global.new.reader c.in_ok-next.ensures

pub each-preserved : goal.each-preserved
each-preserved c =
    rw c.in_ok-push-2.ensures.ok
    (gives_next c.each.invariant (next_global_eats c.args.types.now) (sym c.leads_mark.ensures ∙ c.each-test.true) c.in_ok-next.next c.read_next_global.new.reader c.in_ok-next.ensures)
