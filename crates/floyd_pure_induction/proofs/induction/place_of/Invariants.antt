use Rattle.std.proofs.Common.{◌≡◌, ◌+◌, drop, map, option_map}
use Rattle.std.specs.Prelude.{bytes_eq, position}
use Rattle.floyd_assert_trees.specs.declared.binder.Binder.{Binder}
use Rattle.floyd_pure_induction.proofs.induction.place_of.Given as goal

abbrev pub invariant-variables : goal.invariant-variables
invariant-variables l =
    position (bytes_eq l.x) (map (λ (b : Binder). b.name) l.variables)
    ≡ option_map (λ n. n + l.i) (position (bytes_eq l.x) (map (λ (b : Binder). b.name) (drop l.i l.variables)))
