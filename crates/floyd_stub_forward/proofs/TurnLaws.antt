-- A row of forward is the turn of its next statement.
use Rattle.std.proofs.Common.{◌≡◌, List, [], ◌∷◌, Some, None, Result, Ok, Err, drop, refl, sym, ◌∙◌, subst, ap}
use Rattle.floyd_text.specs.declared.refusal.No.{No}
use Rattle.floyd_text.specs.declared.refusal.RuleStop.{RuleStop}
use Rattle.floyd_text.specs.declared.refusal.RuleStop.TheVariants as stop
use Rattle.floyd_text.specs.Gives.{RuleGives, RuleStops}
use Rattle.floyd_clight.specs.declared.syntax.Stmt.{Stmt, Skip, Set, Assign, Call, Seq', If', Loop', Switch', Break, Continue, Return}
use Rattle.floyd_stub_assert.specs.declared.assertion.Assertion.{Assertion}
use Rattle.floyd_stub_goal.specs.declared.goal.Context.{Context}
use Rattle.floyd_stub_goal.specs.declared.goal.Exits.{Exits}
use Rattle.floyd_stub_goal.specs.declared.goal.Goal.{Goal}
use Rattle.floyd_stub_goal.specs.Sides.{and_then}
use Rattle.floyd_stub_forward.specs.Forward.{evaluate, forward}
use Rattle.floyd_stub_forward.specs.declared.turn.Turn.{Turn}
use Rattle.floyd_stub_forward.specs.declared.turn.Turn.TheVariants.{Sets, Returns}
use Rattle.floyd_stub_forward.specs.ForwardClauses.{turn_of, taken}

twice : {A B C : Type 0} → (r : Result A No) (f : A → B) (g : B → Result C No) → and_then r (λ a. g (f a)) ≡ and_then (and_then r (λ a. Ok (f a))) g
twice (Ok a) f g = refl
twice (Err e) f g = refl

pub forward_is : (context : Context) (source : Assertion) (exits : Exits) (ss : List Stmt) → forward context source exits ss ≡ and_then (turn_of source.local ss) (λ turn. Ok (taken context source exits (drop 1 ss) turn))
forward_is context source exits [] = refl
forward_is context source exits (Skip ∷ ss) = refl
forward_is context source exits (Set x e ∷ ss) = twice (evaluate source.local e) (Sets x) (λ turn. Ok (taken context source exits ss turn))
forward_is context source exits (Assign p e ∷ ss) = refl
forward_is context source exits (Call to f es ∷ ss) = refl
forward_is context source exits (Seq' shape all ∷ ss) = refl
forward_is context source exits (If' e p a q b ∷ ss) = refl
forward_is context source exits (Loop' p a q b ∷ ss) = refl
forward_is context source exits (Switch' e shape cases ∷ ss) = refl
forward_is context source exits (Break ∷ ss) = refl
forward_is context source exits (Continue ∷ ss) = refl
forward_is context source exits (Return None ∷ ss) = refl
forward_is context source exits (Return (Some e) ∷ ss) = twice (evaluate source.local e) Returns (λ turn. Ok (taken context source exits ss turn))

-- what answers for a turn answers for the row
pub taken_forward : (context : Context) (source : Assertion) (exits : Exits) (ss : List Stmt) (turn : Turn) (r : Result (List Goal) RuleStop) → turn_of source.local ss ≡ Ok turn → RuleGives (λ goals. goals) r (Ok (taken context source exits (drop 1 ss) turn)) → RuleGives (λ goals. goals) r (forward context source exits ss)
taken_forward context source exits ss turn r e p =
    subst (RuleGives (λ goals. goals) r) (sym (forward_is context source exits ss ∙ ap (λ t. and_then t (λ u. Ok (taken context source exits (drop 1 ss) u))) e)) p

-- where the turn is refused, the row is
pub stopped_forward : (context : Context) (source : Assertion) (exits : Exits) (ss : List Stmt) (stop : RuleStop) → RuleStops stop (turn_of source.local ss) → RuleStops stop (forward context source exits ss)
stopped_forward context source exits ss (stop.No refusal) e =
    forward_is context source exits ss ∙ ap (λ t. and_then t (λ u. Ok (taken context source exits (drop 1 ss) u))) e
stopped_forward context source exits ss stop.Memory e = tt
