-- Formulas that are well formed in a context.
use Rattle.std.specs.Prelude.{List, All}
use Rattle.floyd_tree.specs.Formulas.{PlainFormula}
use Rattle.floyd_tree_values.specs.Means.{Defs}
use Rattle.floyd_goal_formulas.specs.Fits.{Fits}
use Rattle.floyd_goal_trees.specs.declared.context.Context.{Context}
pub use Rattle.floyd_goal_trees.specs.Contexts.{scope_of}

-- each of the formulas is well formed
abbrev pub AllFit : Defs → Context → List PlainFormula → Type 0
AllFit defs context fs = All (Fits defs (scope_of context)) fs
