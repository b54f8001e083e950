use Rattle.std.proofs.Common.{◌≡◌, ◌≤◌, length, take}
use Rattle.floyd_cparse_expressions.specs.Expressions.{end_with_prefixes}
use Rattle.floyd_cparse_expressions.proofs.build_expressions.end_with_prefixes.Given as goal

abbrev pub invariant-each : goal.invariant-each
invariant-each l = record {
  within : l.at ≤ length l.prefixes;
  same : end_with_prefixes (take l.at l.prefixes) l.end ≡ end_with_prefixes l.prefixes l.fn.end;
}

abbrev pub decreases-each : goal.decreases-each
decreases-each l = l.at
