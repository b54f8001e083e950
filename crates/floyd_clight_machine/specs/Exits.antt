-- The ways out of a part of a function or of a whole call, and a configuration above further frames.
use Rattle.std.specs.Prelude.{[], ◌∷◌, ◌++◌, Option, Some, None}
use Rattle.floyd_int.specs.declared.kinds.Value.{Value}
use Rattle.floyd_clight.specs.declared.syntax.Stmt.{Stmt, Skip, Set, Assign, Call, Seq', If', Loop', Break, Continue, Return, Switch'}
use Rattle.floyd_clight_machine.specs.Machine.{Act, Config, Run, Calling, Returning, Kseq, Kloop1, Kloop2, Kswitch, Kcall, Kont, Outcome, Next, Asks, Ended, Stuck, call_kont}

pub data Exit : Type 0 where
  Normal Broke Continued : (act : Act) → Exit
  Returned : (v : Value) → Exit

-- A part of a function may be left by its end, by break, by continue and by a return; a whole call by its return alone.
pub data Level : Type 0 where
  Part Whole : Level

abbrev pub local_exit : Level → Stmt → Act → Option Exit
local_exit Part Skip act = Some (Normal act)
local_exit Part (Set x e) act = None
local_exit Part (Assign p e) act = None
local_exit Part (Call to f es) act = None
local_exit Part (Seq' shape all) act = None
local_exit Part (If' e p a q b) act = None
local_exit Part (Loop' p a q b) act = None
local_exit Part Break act = Some (Broke act)
local_exit Part Continue act = Some (Continued act)
local_exit Part (Return e) act = None
local_exit Part (Switch' e shape cases) act = None
local_exit Whole s act = None

-- a way out, where no own frame is left
abbrev pub exit_of : Level → Config → Option Exit
exit_of l (Run s [] act) = local_exit l s act
exit_of l (Run s (f ∷ k) act) = None
exit_of l (Calling f args k) = None
exit_of l (Returning v []) = Some (Returned v)
exit_of l (Returning v (f ∷ k)) = None

-- frames that a call stands above: none, or those of its caller
abbrev pub IsCall : Kont → Type 0
IsCall [] = Unit {0}
IsCall (Kseq s ∷ k) = ⊥
IsCall (Kloop1 a b ∷ k) = ⊥
IsCall (Kloop2 a b ∷ k) = ⊥
IsCall (Kswitch ∷ k) = ⊥
IsCall (Kcall to act ∷ k) = Unit {0}

-- a call and a return stand above such frames
abbrev pub IsProper : Config → Type 0
IsProper (Run s k act) = Unit {0}
IsProper (Calling f args k) = IsCall k
IsProper (Returning v k) = IsCall k

-- a part of a function may stand above any frames, a whole call above those of a call
abbrev pub Suits : Level → Kont → Type 0
Suits Part r = Unit {0}
Suits Whole r = IsCall r

-- what a return comes to above the frames r
abbrev pub return_to : Kont → Kont → Kont
return_to r [] = call_kont r
return_to r (f ∷ k) = f ∷ (k ++ r)

-- the configuration above the frames r
abbrev pub under : Kont → Config → Config
under r (Run s k act) = Run s (k ++ r) act
under r (Calling f args k) = Calling f args (k ++ r)
under r (Returning v k) = Returning v (return_to r k)

-- from a way out, on above the frames r
abbrev pub resume : Kont → Exit → Config
resume r (Normal act) = Run Skip r act
resume r (Broke act) = Run Break r act
resume r (Continued act) = Run Continue r act
resume r (Returned v) = Returning v (call_kont r)

abbrev pub over : Kont → Outcome → Outcome
over r (Next c m) = Next (under r c) m
over r (Asks f args k) = Asks f args (return_to r k)
over r (Ended v) = Ended v
over r Stuck = Stuck
