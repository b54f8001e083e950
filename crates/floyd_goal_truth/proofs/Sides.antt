-- Side formulas are true where their goal is.
use Rattle.std.proofs.Common.{◌≡◌, ℕ, Bool, true, false, cond, List, Option, Some, None, Ok, Err, refl, sym, ap, subst}
use Rattle.floyd_int.specs.declared.kinds.Value.{Value}
use Rattle.floyd_tree.specs.Formulas.{PlainFormula}
use Rattle.floyd_tree.specs.MadeFormulas.{formula_fits}
use Rattle.floyd_tree_values.specs.BuiltIns.{Env}
use Rattle.floyd_tree_values.specs.Means.{Defs}
use Rattle.floyd_tree_values.specs.Rules.{DefsKeep, Suits}
use Rattle.floyd_truth.specs.Truth.{Truth, AllTrue}
use Rattle.floyd_goal_trees.specs.Contexts.{after_command}
use Rattle.floyd_goal_trees.specs.declared.context.Context.{Context}
use Rattle.floyd_goal_trees.specs.declared.goal.Pure.{Pure}
use Rattle.floyd_goal.specs.declared.side_goals.Sides.{Sides}
use Rattle.floyd_goal_formulas.specs.Keeping.{Kept, conjunction, too_large}
use Rattle.floyd_goal.specs.Sides.{Side, side_goal}
use Rattle.floyd_goal_truth.specs.Scopes.{AllFit, scope_of}
use Rattle.floyd_goal_truth.specs.Truths.{IsTrueIfAny, Under}
use Rattle.floyd_goal_formulas.proofs.Keepings.{kept_true, conjunction_true}

-- the goal of side formulas that are kept
record Made (context : Context) (kept : List PlainFormula) (o : Option PlainFormula) (sides : Sides) : Type 0 where
  pub same : sides.kept ≡ kept
  pub target : (b : PlainFormula) → o ≡ Some b → sides.goal ≡ Some (record { context = after_command context; target = b })

made_if : (context : Context) (kept : List PlainFormula) (target : PlainFormula) (sides : Sides) (c : Bool) → cond c (Ok (record { kept = kept; goal = Some (record { context = after_command context; target = target }) })) (Err too_large) ≡ Ok sides → Made context kept (Some target) sides
made_if context kept target sides true e =
    let is : record { kept = kept; goal = Some (record { context = after_command context; target = target }) } ≡ sides = cc in
    subst (λ s. Made context kept (Some target) s) is (record { same = refl; target = λ b g. ap (λ t. Some (record { context = after_command context; target = t })) cc })
made_if context kept target sides false e = absurd cc

made : (context : Context) (kept : List PlainFormula) (o : Option PlainFormula) (sides : Sides) → side_goal context kept o ≡ Ok sides → Made context kept o sides
made context kept None sides e =
    let is : record { kept = kept; goal = None } ≡ sides = cc in
    subst (λ s. Made context kept None s) is (record { same = refl; target = λ b g. absurd cc })
made context kept (Some target) sides e = made_if context kept target sides (formula_fits target) e

pub side_sound : (defs : Defs) (specs : List ℕ → Value → Bool) (context : Context) (fs : List PlainFormula) (sides : Sides) → DefsKeep defs → AllFit defs context fs → Side context fs (Ok sides) → IsTrueIfAny defs specs sides.goal → Under defs specs context (λ env. AllTrue defs specs env fs)
side_sound defs specs context fs sides keeps fit side goal env suits hyps =
    let kept = side.0 in
    let m = made context kept (conjunction kept) sides (sym side.2) in
    let all = conjunction_true defs specs (scope_of context) env keeps suits kept (λ b e. (subst (IsTrueIfAny defs specs) (m.target b e) goal) env suits hyps) in
    kept_true defs specs (scope_of context) env keeps suits context.hypotheses fs kept fit side.1 hyps all

-- so at one environment, where the target of the goal is true there
abbrev pub TargetTrue : Defs → (List ℕ → Value → Bool) → Env → Option Pure → Type 0
TargetTrue defs specs env None = Unit {0}
TargetTrue defs specs env (Some pure) = Truth defs specs env pure.target

pub side_sound_at : (defs : Defs) (specs : List ℕ → Value → Bool) (context : Context) (fs : List PlainFormula) (sides : Sides) (env : Env) → DefsKeep defs → AllFit defs context fs → Side context fs (Ok sides) → Suits (scope_of context) env → AllTrue defs specs env context.hypotheses → TargetTrue defs specs env sides.goal → AllTrue defs specs env fs × AllTrue defs specs env sides.kept
side_sound_at defs specs context fs sides env keeps fit side suits hyps goal =
    let kept = side.0 in
    let m = made context kept (conjunction kept) sides (sym side.2) in
    let all = conjunction_true defs specs (scope_of context) env keeps suits kept (λ b e. subst (TargetTrue defs specs env) (m.target b e) goal) in
    (kept_true defs specs (scope_of context) env keeps suits context.hypotheses fs kept fit side.1 hyps all, subst (AllTrue defs specs env) (sym m.same) all)

-- the goal has the context of what goes on
context_if : (context : Context) (kept : List PlainFormula) (target : PlainFormula) (sides : Sides) (c : Bool) → cond c (Ok (record { kept = kept; goal = Some (record { context = after_command context; target = target }) })) (Err too_large) ≡ Ok sides → (p : Pure) → sides.goal ≡ Some p → p.context ≡ after_command context
context_if context kept target sides true e p g =
    let is : Option.Some (record { context = after_command context; target = target }) ≡ Some p = cc in
    let same : record { context = after_command context; target = target } ≡ p = cc in
    ap (λ (q : Pure). q.context) (sym same)
context_if context kept target sides false e p g = absurd cc

context_by : (context : Context) (kept : List PlainFormula) (o : Option PlainFormula) (sides : Sides) → side_goal context kept o ≡ Ok sides → (p : Pure) → sides.goal ≡ Some p → p.context ≡ after_command context
context_by context kept None sides e p g =
    let is : record { kept = kept; goal = None } ≡ sides = cc in
    let none : sides.goal ≡ None = ap (λ (s : Sides). s.goal) (sym is) in
    absurd cc
context_by context kept (Some target) sides e p g = context_if context kept target sides (formula_fits target) e p g

pub side_context : (context : Context) (fs : List PlainFormula) (sides : Sides) → Side context fs (Ok sides) → (p : Pure) → sides.goal ≡ Some p → p.context ≡ after_command context
side_context context fs sides side p g = context_by context side.0 (conjunction side.0) sides (sym side.2) p g

-- the formulas that are kept are those that need a proof
pub kept_same : (context : Context) (fs : List PlainFormula) (sides : Sides) → Side context fs (Ok sides) → Kept context.hypotheses fs sides.kept
kept_same context fs sides side =
    let m = made context side.0 (conjunction side.0) sides (sym side.2) in
    subst (Kept context.hypotheses fs) (sym m.same) side.1
