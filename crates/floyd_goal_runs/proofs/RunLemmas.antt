-- Goals of what is left to run.
use Rattle.std.proofs.Common.{◌≡◌, List, [], ◌∷◌, refl, sym, ap, ◌∙◌}
use Rattle.floyd_clight.specs.declared.syntax.Stmt.{Stmt}
use Rattle.floyd_assert_trees.specs.declared.assertion.Assertion.{Assertion}
use Rattle.floyd_goal_trees.specs.declared.exits.Exit.{Exit}
use Rattle.floyd_goal_trees.specs.declared.exits.Exit.TheVariants as x
use Rattle.floyd_goal_trees.specs.declared.goal.Goal.TheVariants.{Entail, Run}
use Rattle.floyd_goal_trees.specs.declared.goal.Run as r
use Rattle.floyd_goal_forms.specs.Starts.{by_rest, run_goal}

by_some : (run : r.Run) (ss : List Stmt) (exit : Exit) → (ss ≡ [] → ⊥) → by_rest run ss exit ≡ Run run
by_some run [] exit some = absurd (some refl)
by_some run (s ∷ ss) exit some = refl

by_none : (run : r.Run) (ss : List Stmt) (exit : Exit) → ss ≡ [] → by_rest run ss exit ≡ by_rest run [] exit
by_none run ss exit none = ap (λ rest. by_rest run rest exit) none

-- statements are left
pub goes_on : (run : r.Run) → (run.rest ≡ [] → ⊥) → Run run ≡ run_goal run
goes_on run some = sym (by_some run run.rest run.exits.normal some)

-- none is left, and the normal exit is an assertion, absent or the function's end
pub ended : (run : r.Run) (target : Assertion) → run.rest ≡ [] → run.exits.normal ≡ x.To target → Entail (record { context = run.context; source = run.source; target = target }) ≡ run_goal run
ended run target none e = sym (by_none run run.rest run.exits.normal none ∙ ap (by_rest run []) e)

pub left_open : (run : r.Run) → run.rest ≡ [] → run.exits.normal ≡ x.None → Run run ≡ run_goal run
left_open run none e = sym (by_none run run.rest run.exits.normal none ∙ ap (by_rest run []) e)

pub at_end : (run : r.Run) → run.rest ≡ [] → run.exits.normal ≡ x.End → Run run ≡ run_goal run
at_end run none e = sym (by_none run run.rest run.exits.normal none ∙ ap (by_rest run []) e)
