use Rattle.std.proofs.Common.{◌≡◌, ℕ, List, ◌++◌, drop}
use Rattle.floyd_elab_addresses.specs.PartClauses.{in_all, in_any_case, flags_of_all, flags_of_cases}
use Rattle.floyd_elab_addresses.specs.SetClauses.{is_among, Adds}
use Rattle.floyd_elab_addresses.proofs.statements.+statement.Given as goal

abbrev pub invariant-block-items : goal.invariant-block-items
invariant-block-items l = record {
  taken : (x : List ℕ) → is_among l.taken x ≡ in_all x (drop l.i l.items);
  flags : l.flags ≡ flags_of_all (drop l.i l.items) ++ l.initial.flags;
}

abbrev pub invariant-switch_cases-cases : goal.invariant-switch_cases-cases
invariant-switch_cases-cases l = record {
  taken : Adds (λ x. in_any_case x (drop l.i l.cases)) l.initial.taken l.taken;
  flags : l.flags ≡ flags_of_cases (drop l.i l.cases) ++ l.initial.flags;
}
