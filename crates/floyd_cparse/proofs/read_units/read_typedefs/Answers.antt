use Rattle.std.proofs.Common.{sym, ◌∙◌, suc}
use Rattle.floyd_cparse_types.specs.declared.values.Declared.TheVariants as of
use Rattle.floyd_cparse_types.specs.TypeClauses.{within}
use Rattle.floyd_cparse.specs.Units.{limit, first_typedef}
use Rattle.floyd_cparse.specs.UnitClauses.{typedefs}
use Rattle.floyd_cparse_tokens.proofs.ReadLemmas.{begun_behind, gives_next}
use Rattle.floyd_cparse.proofs.UnitShrinks.{next_typedef_eats}
use Rattle.floyd_cparse.proofs.read_units.read_typedefs.Goals as goal

pub each-init : goal.each-init
unfolding typedefs limit
each-init c =
    rw (c.in_ok-push.ensures.ok, c.new-items.ensures, c.in_ok-add_name.ensures)
    (begun_behind ((within c.args.types.now (suc limit)).dtor of.Type 0) (first_typedef c.args.types.now) c.in_ok-first.first c.args.reader.now c.read_dtor.new.reader c.in_ok-first.ensures)

pub each-smaller : goal.each-smaller
each-smaller c = (next_typedef_eats c.each.types).law c.each.reader c.in_ok-next.next c.read_next_typedef.new.reader c.in_ok-next.ensures

pub each-preserved : goal.each-preserved
each-preserved c =
    rw (c.in_ok-push-2.ensures.ok, c.in_ok-add_name-2.ensures)
    (gives_next c.each.invariant (next_typedef_eats c.each.types) (sym c.leads_mark.ensures ∙ c.each-test.true) c.in_ok-next.next c.read_next_typedef.new.reader c.in_ok-next.ensures)
