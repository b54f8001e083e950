use Rattle.std.proofs.Common.{◌≡◌, ℕ, List, ◌++◌, drop}
use Rattle.floyd_elab_addresses.specs.Addresses.{in_declarators}
use Rattle.floyd_elab_addresses.specs.Flags.{declarator_flags}
use Rattle.floyd_elab_addresses.specs.SetClauses.{is_among}
use Rattle.floyd_elab_addresses.proofs.statements.declarators.Given as goal

abbrev pub invariant-declarators : goal.invariant-declarators
invariant-declarators l = record {
  taken : (x : List ℕ) → is_among l.taken x ≡ in_declarators x (drop l.i l.all) (is_among l.initial.taken x);
  flags : l.flags ≡ declarator_flags (drop l.i l.all) (is_among l.initial.taken) ++ l.initial.flags;
}
