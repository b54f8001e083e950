use Rattle.std.proofs.Common.{[], sym, ◌∙◌}
use Rattle.floyd_grammar.specs.ParseClauses.{pure}
use Rattle.floyd_cparse.specs.Units.{ReadUnit, unit_of}
use Rattle.floyd_cparse.specs.UnitClauses.{unit, externals}
use Rattle.floyd_cparse_tokens.proofs.ReadLemmas.{gives_next, gives_fault, gives_from, gives_not}
use Rattle.floyd_cparse.proofs.UnitShrinks.{external_eats}
use Rattle.floyd_cparse.proofs.read_units.read_unit.Goals as goal

pub returns-in_err-next : goal.returns-in_err-next
unfolding unit
returns-in_err-next c =
    gives_from c.from_residual.result c.in_err-next.field-0.0 c.read_external.new.reader (unit c.args.reader.now) c.from_residual.ensures.1
    (gives_not (externals []) (λ (all : ReadUnit). pure (unit_of all)) c.args.reader.now c.read_external.new.reader c.in_err-next.field-0.0
    (gives_fault c.each.invariant (sym c.leads_any.ensures ∙ c.each-test.true) c.in_err-next.field-0.0 c.read_external.new.reader c.in_err-next.ensures))

pub each-smaller : goal.each-smaller
each-smaller c = (external_eats c.each.types).law c.each.reader _ c.read_external.new.reader c.in_ok-next.ensures

pub each-preserved : goal.each-preserved
each-preserved c =
    rw c.in_ok-push.ensures.ok
    (gives_next c.each.invariant (external_eats c.each.types) (sym c.leads_any.ensures ∙ c.each-test.true) _ c.read_external.new.reader c.in_ok-next.ensures)
