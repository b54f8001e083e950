-- An environment goes on from itself, behind a command.
use Rattle.std.proofs.Common.{ℕ, Bool, true, false, cond, inl, inr, List, [], ◌∷◌, refl}
use Rattle.std.specs.Prelude.{bytes_eq}
use Rattle.floyd_tree_values.specs.BuiltIns.{Env}
use Rattle.floyd_tree_values.specs.Rules.{IsOneOf}
use Rattle.floyd_goal_trees.specs.Contexts.{unmarked}
use Rattle.floyd_goal_trees.specs.declared.context.Context.{Context}
use Rattle.floyd_goal_trees.specs.declared.context.Mark.{Mark}
use Rattle.floyd_goal_trees.specs.declared.context.Mark.TheVariants as m
use Rattle.floyd_pure_formulas.specs.Keeps.{GoesOn, MarkStays}
use Rattle.floyd_pure_formulas.specs.VariableCases.{mark_without, names_without}

stays : (mark : Mark) → MarkStays mark (unmarked mark)
stays m.Plain = tt
stays (m.Start name) = tt
stays (m.Induction name place names) = (refl, refl, λ x h. h)

pub itself : (context : Context) (env : Env) → GoesOn context (unmarked context.mark) env env
itself context env = record { global = refl; local = refl; variables = λ x s e. refl; promise = stays context.mark }

-- names without one are among them
among : (x : List ℕ) (names : List (List ℕ)) (v : List ℕ) → IsOneOf (names_without x names) v → IsOneOf names v
among x [] v h = h
among x (y ∷ names) v h = by (bytes_eq x y) (among x names v) h
  where
    by : (c : Bool) → (IsOneOf (names_without x names) v → IsOneOf names v) → IsOneOf (cond c (names_without x names) (y ∷ names_without x names)) v → IsOneOf (y ∷ names) v
    by true inner h = inr (inner h)
    by false inner (inl e) = inl e
    by false inner (inr h) = inr (inner h)

-- a mark without a name promises no more
pub stays_without : (x : List ℕ) (mark : Mark) → MarkStays mark (mark_without x (unmarked mark))
stays_without x m.Plain = tt
stays_without x (m.Start name) = tt
stays_without x (m.Induction name place names) = (refl, refl, λ v h. among x names v h)
