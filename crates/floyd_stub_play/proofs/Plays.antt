-- A proof that plays through makes its start hold.
use Rattle.std.proofs.Common.{◌≡◌, ℕ, ◌+◌, List, [], ◌∷◌, ◌++◌, length, Result, Ok, Err, refl}
use Rattle.floyd_text.specs.declared.place.Place.{Place}
use Rattle.floyd_text.specs.declared.refusal.No.{No}
use Rattle.floyd_text.specs.declared.refusal.Refusal.{Refusal}
use Rattle.floyd_text.specs.declared.rule.Rule.{Rule}
use Rattle.floyd_text.specs.declared.rule.Rule.TheVariants.{Forward, Cancel}
use Rattle.floyd_stub_goal.specs.declared.goal.Goal.{Goal}
use Rattle.floyd_stub_goal.specs.declared.stack.Numbered.{Numbered}
use Rattle.floyd_stub_goal.specs.declared.script.Command.{Command}
use Rattle.floyd_stub_goal.specs.declared.script.Proof.{Proof}
use Rattle.floyd_stub_runs.specs.World.{World}
use Rattle.floyd_stub_runs.specs.Linked.{world}
use Rattle.floyd_stub_goal.specs.GoalHolds.{GoalHolds, HoldsFor}
use Rattle.floyd_stub_goal.specs.Starts.{Play, numbered}
use Rattle.floyd_stub_goal.proofs.SideLaws.{AllHold, refused}
use Rattle.floyd_stub_forward.proofs.ForwardHolds.{forward_row_holds}
use Rattle.floyd_stub_entail.proofs.CancelHolds.{cancel_row_holds}
use Rattle.floyd_stub_play.specs.Rows.{row}
use Rattle.floyd_stub_play.specs.Derivation.{at_end, on_row, on_first, then_play, played_from, played}

-- a goal holds where the goals of its row hold
pub row_holds : (W : World) (n : ℕ) (rule : Rule) (g : Goal) (gs : List Goal) → row rule g ≡ Ok gs → AllHold W n gs → GoalHolds W n g
row_holds W n Forward g gs e p = forward_row_holds W n g gs e p
row_holds W n Cancel g gs e p = cancel_row_holds W n g gs e p
row_holds W n rule g gs e p = absurd (refused e)

abbrev LeftHold : World → ℕ → List Numbered → Type 0
LeftHold W n [] = Unit {0}
LeftHold W n (g ∷ gs) = GoalHolds W n g.goal × LeftHold W n gs

made_hold : (W : World) (n k : ℕ) (made : List Goal) (left : List Numbered) → LeftHold W n (numbered k made ++ left) → AllHold W n made × LeftHold W n left
made_hold W n k [] left p = (tt, p)
made_hold W n k (g ∷ gs) left p =
    let q = made_hold W n (k + 1) gs left p.1 in
    ((p.0, q.0), q.1)

row_done : (W : World) (n : ℕ) (c : Command) (next number : ℕ) (g : Goal) (gs : List Numbered) (go : Play → Result (Unit {0}) Refusal) (o : Result (List Goal) No) → row c.rule g ≡ o → ((p : Play) → go p ≡ Ok tt → LeftHold W n p.left) → then_play (on_row c next number gs o) go ≡ Ok tt → GoalHolds W n g × LeftHold W n gs
row_done W n c next number g gs go (Err e) i f p = cc
row_done W n c next number g gs go (Ok made) i f p =
    let q = made_hold W n next made gs (f (record { next = next + length made; left = numbered next made ++ gs }) p) in
    (row_holds W n c.rule g made i q.0, q.1)

first_done : (W : World) (n : ℕ) (c : Command) (next : ℕ) (left : List Numbered) (go : Play → Result (Unit {0}) Refusal) → ((p : Play) → go p ≡ Ok tt → LeftHold W n p.left) → then_play (on_first c next left) go ≡ Ok tt → LeftHold W n left
first_done W n c next [] go f p = tt
first_done W n c next (g ∷ gs) go f p = row_done W n c next g.number g.goal gs go (row c.rule g.goal) refl f p

end_done : (W : World) (n : ℕ) (end : Place) (left : List Numbered) → at_end end left ≡ Ok tt → LeftHold W n left
end_done W n end [] p = tt
end_done W n end (g ∷ gs) p = cc

-- what is left holds where the commands close it
left_holds : (W : World) (n : ℕ) (cs : List Command) (end : Place) (p : Play) → played_from cs end p ≡ Ok tt → LeftHold W n p.left
left_holds W n [] end p e = end_done W n end p.left e
left_holds W n (c ∷ cs) end p e = first_done W n c p.next p.left (played_from cs end) (left_holds W n cs end) e

-- the start of a proof that plays through holds
pub start_holds : (W : World) (n : ℕ) (proof : Proof) (start : Goal) → played proof start ≡ Ok tt → GoalHolds W n start
start_holds W n proof start e = (left_holds W n proof.commands proof.end _ e).0

pub start_holds_for : (n : ℕ) (proof : Proof) (start : Goal) → played proof start ≡ Ok tt → HoldsFor n start
start_holds_for n proof start e = record { in_each = λ L. start_holds (world L) n proof start e }
