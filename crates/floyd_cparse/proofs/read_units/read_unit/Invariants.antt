use Rattle.std.proofs.Common.{[], true, length}
use Rattle.floyd_grammar.proofs.Turns.{Turning}
use Rattle.floyd_cparse.specs.Units.{ReadUnit, plus_external}
use Rattle.floyd_cparse.specs.UnitClauses.{external, externals}
use Rattle.floyd_cparse.proofs.read_units.read_unit.Given as goal

abbrev pub invariant-each : goal.invariant-each
invariant-each l = Turning (λ _ _. true) plus_external (λ (all : ReadUnit). external all.types) (record { externals = l.externals; types = l.types }) l.reader (externals [] l.fn.reader)

abbrev pub decreases-each : goal.decreases-each
decreases-each l = length l.reader
