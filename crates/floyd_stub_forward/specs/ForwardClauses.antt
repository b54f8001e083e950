-- What the parts of `forward` do: what the next statement does, and what a return adds to its goal.
use Rattle.std.specs.Prelude.{List, [], ◌∷◌, ◌++◌, Some, Result, Ok, Err}
use Rattle.floyd_text.specs.declared.refusal.No.{No}
use Rattle.floyd_clight.specs.declared.syntax.Expr.{Expr}
use Rattle.floyd_clight.specs.declared.syntax.Stmt.{Stmt, Set, Return}
use Rattle.floyd_stub_machine.specs.Evaluation.{Ident}
use Rattle.floyd_stub_assert.specs.declared.term.Term.{Term}
use Rattle.floyd_stub_assert.specs.declared.formula.Formula.{Equal, Hasty}
use Rattle.floyd_stub_assert.specs.declared.assertion.Assertion.{Assertion}
use Rattle.floyd_stub_assert.specs.LocalTerms.{Locals}
use Rattle.floyd_stub_goal.specs.declared.goal.Context.{Context}
use Rattle.floyd_stub_goal.specs.declared.goal.Exits.{Exits}
use Rattle.floyd_stub_goal.specs.declared.goal.Goal.{Goal}
use Rattle.floyd_stub_goal.specs.declared.goal.Goal.TheVariants as goal
use Rattle.floyd_stub_goal.specs.declared.goal.Run.{Run}
use Rattle.floyd_stub_goal.specs.declared.goal.Return as r
use Rattle.floyd_stub_goal.specs.Sides.{wrong_goal, and_then, kept, with_hypotheses}
use Rattle.floyd_stub_forward.specs.declared.turn.Turn.{Turn}
use Rattle.floyd_stub_forward.specs.declared.turn.Turn.TheVariants.{Sets, Returns}
use Rattle.floyd_stub_forward.specs.Forward.{evaluate, forward_set, forward_return, returned_post}

abbrev pub of_set : Locals → Ident → Expr → Result Turn No
of_set locals x e = and_then (evaluate locals e) (λ t. Ok (Sets x t))

abbrev pub of_statement : Locals → Stmt → Result Turn No
of_statement locals (Set x e) = of_set locals x e
of_statement locals (Return (Some e)) = and_then (evaluate locals e) (λ v. Ok (Returns v))
of_statement locals s = Err wrong_goal

abbrev pub turn_of : Locals → List Stmt → Result Turn No
turn_of locals [] = Err wrong_goal
turn_of locals (s ∷ rest) = of_statement locals s

-- the goals that it leaves, given the statements after it
abbrev pub taken : Context → Assertion → Exits → List Stmt → Turn → List Goal
taken context source exits rest (Sets x t) = forward_set context source exits rest x t
taken context source exits rest (Returns v) = forward_return context source exits v

-- the postcondition with the equation of the returned value
abbrev pub with_equation : r.Return → Term → r.Return
with_equation ret v = record {
  post = record { prop = ret.post.prop ++ Equal v ret.value ∷ []; local = ret.post.local; sep = ret.post.sep };
  value = ret.value;
  result = ret.result;
}

-- that a goal's postcondition holds
abbrev pub entailment : Run → Goal
entailment run = goal.Entail (record { context = run.context; source = run.source; target = run.exits.ret.post })

-- that it holds of a value, where what is kept of the claim that the value has its type is a hypothesis
abbrev pub post_goal : Run → Term → Goal
post_goal run v = goal.Entail (record { context = with_hypotheses run.context (kept (Hasty run.exits.ret.result v ∷ [])); source = run.source; target = returned_post run.exits v })
