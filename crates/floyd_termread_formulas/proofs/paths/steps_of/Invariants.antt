use Rattle.std.proofs.Common.{◌≡◌, map, length}
use Rattle.floyd_termread_scope.specs.Scopes.{env}
use Rattle.floyd_termread_forms.specs.FrameClauses.{behind}
use Rattle.floyd_termread_formulas.specs.Formulas.{reading_of, steps_of}
use Rattle.floyd_termread_formulas.proofs.paths.steps_of.Given as goal

abbrev pub decreases-items : goal.decreases-items
decreases-items l = length l.rest

abbrev pub invariant-items : goal.invariant-items
invariant-items l = behind l.path (steps_of (env l.scope l.bound) (map reading_of l.rest)) ≡ steps_of (env l.scope l.bound) (map reading_of l.items)
