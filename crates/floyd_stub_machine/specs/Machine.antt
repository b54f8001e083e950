-- The Clight machine: its configurations and its step. A configuration stands beside a memory.
use Rattle.std.specs.Prelude.{ℕ, ◌+◌, ◌==◌, Bool, not, List, [], ◌∷◌, ◌++◌, Option, Some, None, option_and_then, if◌then◌else◌}
use Rattle.floyd_int.specs.declared.kinds.Value.{Value}
use Rattle.floyd_int.specs.declared.kinds.Value.TheVariants.{Vundef, Vint}
use Rattle.floyd_memval.specs.declared.bytes.MemByte.{MemByte}
use Rattle.floyd_clight_memory.specs.Memory.{Mem, Slot, Block, Readable, includes, nth, slot, free}
use Rattle.floyd_ctypes.specs.declared.ctype.CType.{CType}
use Rattle.floyd_ctypes.specs.Structs.{Structs}
use Rattle.floyd_ctypes.specs.Has.{has}
use Rattle.floyd_clight.specs.declared.syntax.Expr.{Expr}
use Rattle.floyd_clight.specs.declared.syntax.Stmt.{Stmt, Skip, Set, Assign, Call, Seq', If', Loop', Break, Continue, Return, Switch', end_of-Stmt, more_of-Stmt}
use Rattle.floyd_stub_machine.specs.Evaluation.{Ident, Temps, unset, with_temp, Look, eval_by}

-- a local variable that has a block
pub record LocalBlock : Type 0 where
  pub name : Ident
  pub block : ℕ

-- one activation of a function: its result type, its temporaries, and the blocks of its local variables
pub record Act : Type 0 where
  pub result : CType
  pub temps : Temps
  pub blocks : List LocalBlock

-- what is to be done afterwards: a statement, or the rest of a loop whose first or second part runs, or to go on in the
-- caller, with the result in the named temporary, if any
pub data Frame : Type 0 where
  Kseq : (s : Stmt) → Frame
  Kloop1 : (first : Stmt) → (second : Stmt) → Frame
  Kloop2 : (first : Stmt) → (second : Stmt) → Frame
  Kcall : (to : Option Ident) → (act : Act) → Frame

-- the innermost frame comes first
abbrev pub Kont : Type 0
Kont = List Frame

-- a function runs, or is called, or returns
pub data Config : Type 0 where
  Run : (s : Stmt) → (k : Kont) → (act : Act) → Config
  Calling : (f : Ident) → (args : List Value) → (k : Kont) → Config
  Returning : (v : Value) → (k : Kont) → Config

-- a step goes on, or waits for the answer of an external function, or the run has ended, or no case applies
pub data Outcome : Type 0 where
  Next : (c : Config) → (m : Mem) → Outcome
  Asks : (f : Ident) → (args : List Value) → (k : Kont) → Outcome
  Ended : (v : Value) → Outcome
  Stuck : Outcome

-- a function with a body
pub record Fun : Type 0 where
  pub result : CType
  pub params : List Ident
  pub body : Stmt

-- a function: its own body, or an external one with its result type
pub data Def : Type 0 where
  Own : (fn : Fun) → Def
  Ext : (result : CType) → Def

pub record Program : Type 0 where
  pub structs : Structs
  pub functions : Ident → Option Def

abbrev pub readable : Option Slot → Option MemByte
readable None = None
readable (Some s) = if includes s.perm Readable then Some s.byte else None

-- the machine looks at its memory
abbrev pub look : Mem → Look
look m = record { byte_at = λ block offset. readable (slot m block offset) }

abbrev pub eval : Structs → Mem → Act → Expr → Option Value
eval structs m act e = eval_by structs (look m) act.temps e

-- what a test comes to: 0 is false
abbrev pub is_true : Value → Option Bool
is_true (Vint n) = Some (not (n == 0))
is_true v = None

abbrev pub test : Structs → Mem → Act → Expr → Option Bool
test structs m act e = option_and_then is_true (eval structs m act e)

abbrev pub set_in : Option Ident → Value → Act → Act
set_in None v act = act
set_in (Some x) v act = record { result = act.result; temps = with_temp x v act.temps; blocks = act.blocks }

-- what is left once the activation is over
abbrev pub call_kont : Kont → Kont
call_kont [] = []
call_kont (Kseq s ∷ k) = call_kont k
call_kont (Kloop1 a b ∷ k) = call_kont k
call_kont (Kloop2 a b ∷ k) = call_kont k
call_kont (Kcall to act ∷ k) = Kcall to act ∷ k

abbrev pub on_some : {A : Type 0} → Option A → (A → Outcome) → Outcome
on_some None f = Stuck
on_some (Some a) f = f a

abbrev pub and_then : Option Mem → (Mem → Option Mem) → Option Mem
and_then None f = None
and_then (Some m) f = f m

-- the memory with all blocks of an activation freed whole
abbrev pub free_all : List LocalBlock → Mem → Option Mem
free_all [] m = Some m
free_all (b ∷ bs) m = and_then (free m b.block) (λ n. free_all bs n)

-- an activation is over and gives a value
abbrev pub finish : Act → Value → Kont → Mem → Outcome
finish act v k m = if has act.result v then on_some (free_all act.blocks m) (λ n. Next (Returning v (call_kont k)) n) else Stuck

abbrev pub loop : Stmt → Stmt → Stmt
loop a b = Loop' tt (more_of-Stmt a end_of-Stmt) tt (more_of-Stmt b end_of-Stmt)

-- skip: what comes next, or the end of the body, which gives Vundef
abbrev pub step_skip : Kont → Act → Mem → Outcome
step_skip [] act m = finish act Vundef [] m
step_skip (Kseq s ∷ k) act m = Next (Run s k act) m
step_skip (Kloop1 a b ∷ k) act m = Next (Run b (Kloop2 a b ∷ k) act) m
step_skip (Kloop2 a b ∷ k) act m = Next (Run (loop a b) k act) m
step_skip (Kcall to caller ∷ k) act m = finish act Vundef (Kcall to caller ∷ k) m

-- break leaves the innermost loop
abbrev pub step_break : Kont → Act → Mem → Outcome
step_break [] act m = Stuck
step_break (Kseq s ∷ k) act m = Next (Run Break k act) m
step_break (Kloop1 a b ∷ k) act m = Next (Run Skip k act) m
step_break (Kloop2 a b ∷ k) act m = Next (Run Skip k act) m
step_break (Kcall to caller ∷ k) act m = Stuck

-- continue goes from the first part of the innermost loop to the second
abbrev pub step_continue : Kont → Act → Mem → Outcome
step_continue [] act m = Stuck
step_continue (Kseq s ∷ k) act m = Next (Run Continue k act) m
step_continue (Kloop1 a b ∷ k) act m = Next (Run b (Kloop2 a b ∷ k) act) m
step_continue (Kloop2 a b ∷ k) act m = Stuck
step_continue (Kcall to caller ∷ k) act m = Stuck

abbrev pub step_return : Structs → Option Expr → Kont → Act → Mem → Outcome
step_return structs None k act m = finish act Vundef k m
step_return structs (Some e) k act m = on_some (eval structs m act e) (λ v. finish act v k m)

-- stores, calls and switches are not built yet: a store needs places, and a call the blocks of the functions
abbrev pub step_run : Structs → Stmt → Kont → Act → Mem → Outcome
step_run structs Skip k act m = step_skip k act m
step_run structs (Set x e) k act m = on_some (eval structs m act e) (λ v. Next (Run Skip k (set_in (Some x) v act)) m)
step_run structs (Assign p e) k act m = Stuck
step_run structs (Call to f es) k act m = Stuck
step_run structs (Seq' [] end_of-Stmt) k act m = Next (Run Skip k act) m
step_run structs (Seq' (u ∷ shape) (more_of-Stmt s rest)) k act m = Next (Run s (Kseq (Seq' shape rest) ∷ k) act) m
step_run structs (If' e p (more_of-Stmt a end_of-Stmt) q (more_of-Stmt b end_of-Stmt)) k act m =
    on_some (test structs m act e) (λ t. Next (Run (if t then a else b) k act) m)
step_run structs (Loop' p (more_of-Stmt a end_of-Stmt) q (more_of-Stmt b end_of-Stmt)) k act m = Next (Run a (Kloop1 a b ∷ k) act) m
step_run structs Break k act m = step_break k act m
step_run structs Continue k act m = step_continue k act m
step_run structs (Return e) k act m = step_return structs e k act m
step_run structs (Switch' e shape cases) k act m = Stuck

-- the parameters as temporaries, all others undefined, where there are as many arguments
abbrev pub bind_params : List Ident → List Value → Temps → Option Temps
bind_params [] [] temps = Some temps
bind_params [] (v ∷ vs) temps = None
bind_params (x ∷ xs) [] temps = None
bind_params (x ∷ xs) (v ∷ vs) temps = bind_params xs vs (with_temp x v temps)

abbrev pub entered : Fun → Kont → Mem → Temps → Outcome
entered fn k m temps = Next (Run fn.body k (record { result = fn.result; temps = temps; blocks = [] })) m

abbrev pub step_call : Option Def → Ident → List Value → Kont → Mem → Outcome
step_call None f args k m = Stuck
step_call (Some (Own fn)) f args k m = on_some (bind_params fn.params args unset) (entered fn k m)
step_call (Some (Ext result)) f args k m = Asks f args (call_kont k)

-- the run ends with a number
abbrev pub ended : Value → Outcome
ended (Vint n) = Ended (Vint n)
ended v = Stuck

abbrev pub step_back : Value → Kont → Mem → Outcome
step_back v [] m = ended v
step_back v (Kseq s ∷ k) m = Stuck
step_back v (Kloop1 a b ∷ k) m = Stuck
step_back v (Kloop2 a b ∷ k) m = Stuck
step_back v (Kcall to act ∷ k) m = Next (Run Skip k (set_in to v act)) m

abbrev pub step : Program → Config → Mem → Outcome
step P (Run s k act) m = step_run P.structs s k act m
step P (Calling f args k) m = step_call (P.functions f) f args k m
step P (Returning v k) m = step_back v k m

-- a place in memory
pub record Spot : Type 0 where
  pub block : ℕ
  pub offset : ℕ

abbrev pub spots_from : ℕ → ℕ → List Slot → List Spot
spots_from block offset [] = []
spots_from block offset (s ∷ ss) = record { block = block; offset = offset } ∷ spots_from block (offset + 1) ss

abbrev pub spots_of : ℕ → Option Block → List Spot
spots_of block None = []
spots_of block (Some b) = spots_from block 0 b.slots

-- all places of these blocks
abbrev pub all_spots : List LocalBlock → Mem → List Spot
all_spots [] m = []
all_spots (b ∷ bs) m = spots_of b.block (nth m b.block) ++ all_spots bs m

-- the places that a step loads from
abbrev pub reads : Config → Mem → List Spot
reads c m = []

abbrev pub skip_writes : Kont → Act → Mem → List Spot
skip_writes [] act m = all_spots act.blocks m
skip_writes (Kseq s ∷ k) act m = []
skip_writes (Kloop1 a b ∷ k) act m = []
skip_writes (Kloop2 a b ∷ k) act m = []
skip_writes (Kcall to caller ∷ k) act m = all_spots act.blocks m

abbrev pub run_writes : Stmt → Kont → Act → Mem → List Spot
run_writes Skip k act m = skip_writes k act m
run_writes (Return e) k act m = all_spots act.blocks m
run_writes s k act m = []

-- the places that a step stores to or frees
abbrev pub writes : Config → Mem → List Spot
writes (Run s k act) m = run_writes s k act m
writes c m = []
