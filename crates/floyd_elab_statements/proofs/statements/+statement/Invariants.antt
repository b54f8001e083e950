use Rattle.std.proofs.Common.{◌≡◌, Bool, List, ◌++◌, drop}
use Rattle.floyd_elab_names.specs.Scopes.{leave}
use Rattle.floyd_elab_expressions.specs.Behind.{put_behind}
use Rattle.floyd_ctyping.specs.Switches.{no_labels}
use Rattle.floyd_elab_addresses.specs.PartClauses.{flags_of_all, flags_of_cases}
use Rattle.floyd_elab_statements.specs.WalkClauses.{all_items, all_cases, cases_behind}
use Rattle.floyd_elab_statements.proofs.statements.+statement.Given as goal

abbrev pub invariant-all-items : goal.invariant-all-items
invariant-all-items l = record {
  left : leave l.names ≡ leave l.initial.names;
  flags : (more : List Bool) → l.initial.flags ≡ flags_of_all l.items ++ more → l.flags ≡ flags_of_all (drop l.one-index l.items) ++ more;
  exact : (more : List Bool) → l.initial.flags ≡ flags_of_all l.items ++ more
      → put_behind l.initial.out (all_items l.function.result_type.now l.initial.names l.items l.initial.progress) ≡ put_behind l.out (all_items l.function.result_type.now l.names (drop l.one-index l.items) l.progress);
}

abbrev pub invariant-switch_cases-cases : goal.invariant-switch_cases-cases
invariant-switch_cases-cases l = record {
  names : l.names ≡ l.initial.names;
  flags : (more : List Bool) → l.initial.flags ≡ flags_of_cases l.cases ++ more → l.flags ≡ flags_of_cases (drop l.case-index l.cases) ++ more;
  exact : (more : List Bool) → l.initial.flags ≡ flags_of_cases l.cases ++ more
      → all_cases l.parts.function.result_type.now l.initial.names l.parts.kind no_labels l.cases l.initial.progress
      ≡ cases_behind l.all (all_cases l.parts.function.result_type.now l.names l.parts.kind l.labels (drop l.case-index l.cases) l.progress);
}
