-- Answers of the rows of branches and loops.
use Rattle.std.proofs.Common.{◌≡◌, Bool, true, false, not, List, [], ◌∷◌, Ok, refl, ap, sym, ◌∙◌, IsTrue, ◌↔◌}
use Rattle.floyd_clight.specs.declared.syntax.Stmt.{Stmt}
use Rattle.floyd_goal_trees.specs.Contexts.{after_command}
use Rattle.floyd_goal_trees.specs.declared.context.Context.{Context}
use Rattle.floyd_goal_trees.specs.declared.goal.Goal.{Goal}
use Rattle.floyd_goal_trees.specs.declared.goal.Run.{Run}
use Rattle.floyd_control.specs.ForwardIf.{is_followed}
use Rattle.floyd_control.specs.ForwardLoop.{Given, Loops, looped}

is_empty : (ss : List Stmt) → ss ≡ [] → is_followed ss ≡ false
is_empty ss e = ap is_followed e

is_some : (ss : List Stmt) → (ss ≡ [] → ⊥) → is_followed ss ≡ true
is_some [] h = absurd (h refl)
is_some (s ∷ ss) h = refl

-- whether statements are there, by whether there are none
pub followed : (empty : Bool) (ss : List Stmt) → (IsTrue empty ↔ (ss ≡ [])) → not empty ≡ is_followed ss
followed true ss e = sym (is_empty ss (e.0 refl))
followed false ss e = sym (is_some ss (λ none. let wrong : false ≡ true = e.1 none in cc))

pub loop_answers : (run : Run) (context : Context) (given : Given) (first second : Stmt) (goals : List Goal) → context ≡ after_command run.context → goals ≡ looped run context given first second → Loops run given first second (Ok goals)
loop_answers run context given first second goals e is = ap Ok (is ∙ ap (λ c. looped run c given first second) e)
