-- What names stand for, by the tables and the sorts of variables.
use Rattle.std.specs.Prelude.{Some}
use Rattle.floyd_assert_trees.specs.declared.items.Defs.{Defs}
use Rattle.floyd_assert_trees.specs.declared.spec.SpecTable.{SpecTable}
use Rattle.floyd_play_scopes.specs.GoalScopes.{Sorts}
use Rattle.floyd_termread_scope.specs.Scopes.{Env, Named}

abbrev pub env_of : Defs → SpecTable → Sorts → Named (Unit {0}) → Env
env_of defs specs sorts names = record { variable = sorts; defs = defs; specs = specs.items; locals = Some names }
