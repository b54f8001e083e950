-- The step of the Clight machine.
use Rattle.std.specs.Prelude.{ℕ, ◌==◌, ◌&&◌, Bool, true, false, not, List, [], ◌∷◌, Option, Some, None, option_map, option_and_then, find, if◌then◌else◌, bytes_eq}
use Rattle.floyd_int.specs.declared.kinds.Value.{Value}
use Rattle.floyd_int.specs.declared.kinds.Value.TheVariants.{Vundef, Vint, Vptr}
use Rattle.floyd_memval.specs.declared.bytes.MemByte.{MemByte}
use Rattle.floyd_memval.specs.declared.bytes.Chunk.{Chunk}
use Rattle.floyd_memval.specs.Chunks.{chunk_of}
use Rattle.floyd_clight_memory.specs.Loads.{in_memory}
use Rattle.floyd_clight_memory.specs.Memory.{Mem, Slot, Readable, includes, slot, is_valid, alloc, free, store, next, and_then}
use Rattle.floyd_ctypes.specs.declared.ctype.CType.{CType, Int}
use Rattle.floyd_ctypes.specs.Structs.{Structs}
use Rattle.floyd_ctypes.specs.Layout.{size}
use Rattle.floyd_ctypes.specs.Has.{has}
use Rattle.floyd_clight.specs.declared.unit.Local.{Local}
use Rattle.floyd_clight.specs.declared.syntax.Binding.{Binding}
use Rattle.floyd_clight.specs.declared.syntax.Binding.TheVariants as binding
use Rattle.floyd_clight.specs.declared.syntax.Expr.{Expr}
use Rattle.floyd_clight.specs.declared.syntax.Stmt.{Stmt, Skip, Set, Assign, Call, Seq', If', Loop', Break, Continue, Return, Switch', end_of-Stmt, more_of-Stmt}
use Rattle.floyd_clight.specs.Types.{type_of}
use Rattle.floyd_clight_machine.specs.Types.{Signature, called_type, same_signature}
use Rattle.floyd_clight_machine.specs.Integers.{bits_of}
use Rattle.floyd_clight_machine.specs.Evaluation.{Ident, Spot, Look, Temps, unset, with_temp, eval_by, eval_all_by, place_by}
use Rattle.floyd_clight_machine.specs.Switching.{chosen}
pub use Rattle.floyd_clight_machine.specs.Configurations.{LocalBlock, Act, Frame, Kseq, Kloop1, Kloop2, Kswitch, Kcall, Kont, Config, Run, Calling, Returning, Outcome, Next, Asks, Ended, Stuck, Answer}
pub use Rattle.floyd_clight_machine.specs.Programs.{Fun, Def, Own, Ext, GlobalBlock, FunctionBlock, Program, signature, function_named, function_at, file_block}

-- Evaluation over the memory of the machine.

abbrev pub local_block : List LocalBlock → Ident → Option ℕ
local_block blocks x = option_map (λ (b : LocalBlock). b.block) (find (λ (b : LocalBlock). bytes_eq x b.name) blocks)

abbrev pub block_named : Program → List LocalBlock → Binding → Ident → Option ℕ
block_named P blocks binding.Block x = local_block blocks x
block_named P blocks binding.File x = file_block P x

-- an activation with these local blocks looks at the memory
abbrev pub look : Program → List LocalBlock → Mem → Look
look P blocks m = record {
  byte_at = in_memory m;
  is_valid = is_valid m;
  block_of = block_named P blocks;
}

abbrev pub eval : Program → Mem → Act → Expr → Option Value
eval P m act e = eval_by P.structs (look P act.blocks m) act.temps e

abbrev pub place : Program → Mem → Act → Expr → Option Spot
place P m act e = place_by P.structs (look P act.blocks m) act.temps e

abbrev pub eval_all : Program → Mem → Act → List Expr → Option (List Value)
eval_all P m act es = eval_all_by P.structs (look P act.blocks m) act.temps es

-- what a test comes to: 0 is false
abbrev pub is_true : Value → Option Bool
is_true (Vint n) = Some (not (n == 0))
is_true v = None

abbrev pub test : Program → Mem → Act → Expr → Option Bool
test P m act e = option_and_then is_true (eval P m act e)

abbrev pub switch_bits : CType → Value → Option ℕ
switch_bits (Int k) v = bits_of k v
switch_bits t v = None

-- What a step does.

abbrev pub set_in : Option Ident → Value → Act → Act
set_in None v act = act
set_in (Some x) v act = record { result = act.result; temps = with_temp x v act.temps; blocks = act.blocks }

-- what is left once the activation is over
abbrev pub call_kont : Kont → Kont
call_kont [] = []
call_kont (Kseq s ∷ k) = call_kont k
call_kont (Kloop1 a b ∷ k) = call_kont k
call_kont (Kloop2 a b ∷ k) = call_kont k
call_kont (Kswitch ∷ k) = call_kont k
call_kont (Kcall to act ∷ k) = Kcall to act ∷ k

abbrev pub on_some : {A : Type 0} → Option A → (A → Outcome) → Outcome
on_some None f = Stuck
on_some (Some a) f = f a

-- the memory with all blocks of an activation freed whole
abbrev pub free_all : List LocalBlock → Mem → Option Mem
free_all [] m = Some m
free_all (b ∷ bs) m = and_then (free m b.block) (λ n. free_all bs n)

-- an activation is over and gives a value
abbrev pub finish : Act → Value → Kont → Mem → Outcome
finish act v k m = if has act.result v then on_some (free_all act.blocks m) (λ n. Next (Returning v (call_kont k)) n) else Stuck

abbrev pub store_as : Option Chunk → Spot → Value → Mem → Option Mem
store_as None s v m = None
store_as (Some c) s v m = store c m s.block s.offset v

-- the memory with a value of the type laid down at a place
abbrev pub store_at : CType → Spot → Value → Mem → Option Mem
store_at t s v m = if has t v then store_as (chunk_of t) s v m else None

abbrev pub called_with : Signature → Option FunctionBlock → Option FunctionBlock
called_with t None = None
called_with t (Some g) = if same_signature t (signature g.def) then Some g else None

abbrev pub called_at : Program → Option Signature → Value → Option FunctionBlock
called_at P (Some t) (Vptr block offset) = if offset == 0 then called_with t (function_at P block) else None
called_at P t v = None

-- the function that a value of the callee's type leads to: its block is a function's of that type
abbrev pub called : Program → CType → Value → Option FunctionBlock
called P t v = called_at P (called_type t) v

-- each argument is a value of its parameter's type, and there is one for each
abbrev pub all_have : List CType → List Value → Bool
all_have [] [] = true
all_have [] (v ∷ vs) = false
all_have (t ∷ ts) [] = false
all_have (t ∷ ts) (v ∷ vs) = has t v && all_have ts vs

abbrev pub entering : FunctionBlock → List Value → Kont → Mem → Outcome
entering g args k m = if all_have (signature g.def).params args then Next (Calling g.name args k) m else Stuck

-- The step, by the statement.

abbrev pub loop : Stmt → Stmt → Stmt
loop a b = Loop' tt (more_of-Stmt a end_of-Stmt) tt (more_of-Stmt b end_of-Stmt)

-- skip: what comes next, or the end of the body, which gives Vundef
abbrev pub step_skip : Kont → Act → Mem → Outcome
step_skip [] act m = finish act Vundef [] m
step_skip (Kseq s ∷ k) act m = Next (Run s k act) m
step_skip (Kloop1 a b ∷ k) act m = Next (Run b (Kloop2 a b ∷ k) act) m
step_skip (Kloop2 a b ∷ k) act m = Next (Run (loop a b) k act) m
step_skip (Kswitch ∷ k) act m = Next (Run Skip k act) m
step_skip (Kcall to caller ∷ k) act m = finish act Vundef (Kcall to caller ∷ k) m

-- break leaves the innermost loop or switch
abbrev pub step_break : Kont → Act → Mem → Outcome
step_break [] act m = Stuck
step_break (Kseq s ∷ k) act m = Next (Run Break k act) m
step_break (Kloop1 a b ∷ k) act m = Next (Run Skip k act) m
step_break (Kloop2 a b ∷ k) act m = Next (Run Skip k act) m
step_break (Kswitch ∷ k) act m = Next (Run Skip k act) m
step_break (Kcall to caller ∷ k) act m = Stuck

-- continue goes from the first part of the innermost loop to the second
abbrev pub step_continue : Kont → Act → Mem → Outcome
step_continue [] act m = Stuck
step_continue (Kseq s ∷ k) act m = Next (Run Continue k act) m
step_continue (Kloop1 a b ∷ k) act m = Next (Run b (Kloop2 a b ∷ k) act) m
step_continue (Kloop2 a b ∷ k) act m = Stuck
step_continue (Kswitch ∷ k) act m = Next (Run Continue k act) m
step_continue (Kcall to caller ∷ k) act m = Stuck

abbrev pub step_assign : Program → Expr → Expr → Kont → Act → Mem → Outcome
step_assign P p e k act m =
    on_some (place P m act p) (λ s. on_some (eval P m act e) (λ v. on_some (store_at (type_of p) s v m) (λ n. Next (Run Skip k act) n)))

abbrev pub step_to : Program → Option Ident → Expr → List Expr → Kont → Act → Mem → Outcome
step_to P to f es k act m =
    on_some (option_and_then (called P (type_of f)) (eval P m act f)) (λ g. on_some (eval_all P m act es) (λ args. entering g args (Kcall to act ∷ k) m))

abbrev pub step_return : Program → Option Expr → Kont → Act → Mem → Outcome
step_return P None k act m = finish act Vundef k m
step_return P (Some e) k act m = on_some (eval P m act e) (λ v. finish act v k m)

abbrev pub step_run : Program → Stmt → Kont → Act → Mem → Outcome
step_run P Skip k act m = step_skip k act m
step_run P (Set x e) k act m = on_some (eval P m act e) (λ v. Next (Run Skip k (set_in (Some x) v act)) m)
step_run P (Assign p e) k act m = step_assign P p e k act m
step_run P (Call to f es) k act m = step_to P to f es k act m
step_run P (Seq' [] end_of-Stmt) k act m = Next (Run Skip k act) m
step_run P (Seq' (u ∷ shape) (more_of-Stmt s rest)) k act m = Next (Run s (Kseq (Seq' shape rest) ∷ k) act) m
step_run P (If' e p (more_of-Stmt a end_of-Stmt) q (more_of-Stmt b end_of-Stmt)) k act m =
    on_some (test P m act e) (λ t. Next (Run (if t then a else b) k act) m)
step_run P (Loop' p (more_of-Stmt a end_of-Stmt) q (more_of-Stmt b end_of-Stmt)) k act m = Next (Run a (Kloop1 a b ∷ k) act) m
step_run P Break k act m = step_break k act m
step_run P Continue k act m = step_continue k act m
step_run P (Return e) k act m = step_return P e k act m
step_run P (Switch' e shape cases) k act m =
    on_some (option_and_then (switch_bits (type_of e)) (eval P m act e)) (λ n. Next (Run (chosen shape cases n) (Kswitch ∷ k) act) m)

-- The step of a call and of a return.

-- the parameters as temporaries, all others undefined, where there are as many arguments
abbrev pub bind_params : List Local → List Value → Temps → Option Temps
bind_params [] [] temps = Some temps
bind_params [] (v ∷ vs) temps = None
bind_params (p ∷ ps) [] temps = None
bind_params (p ∷ ps) (v ∷ vs) temps = bind_params ps vs (with_temp p.name v temps)

-- local variables with blocks that were made for them, in order, and the memory with those
pub record Placed : Type 0 where
  pub blocks : List LocalBlock
  pub mem : Mem

abbrev pub and_first : LocalBlock → Option Placed → Option Placed
and_first b rest = option_map (λ (p : Placed). record { blocks = b ∷ p.blocks; mem = p.mem }) rest

abbrev pub alloc_all : Structs → List Local → Mem → Option Placed
alloc_all structs [] m = Some (record { blocks = []; mem = m })
alloc_all structs (l ∷ ls) m =
    option_and_then (λ n. and_first (record { name = l.name; block = next m; size = n }) (alloc_all structs ls (alloc m n))) (size structs l.ctype)

abbrev pub entered : Fun → Temps → Kont → Placed → Outcome
entered fn temps k p = Next (Run fn.body k (record { result = fn.result; temps = temps; blocks = p.blocks })) p.mem

-- an own function begins; an external one is waited for, on behalf of its caller
abbrev pub step_def : Structs → Def → Ident → List Value → Kont → Mem → Outcome
step_def structs (Own fn) f args k m = on_some (bind_params fn.params args unset) (λ temps. on_some (alloc_all structs fn.locals m) (entered fn temps k))
step_def structs (Ext t) f args k m = Asks f args (call_kont k)

abbrev pub step_call : Structs → Option FunctionBlock → Ident → List Value → Kont → Mem → Outcome
step_call structs None f args k m = Stuck
step_call structs (Some g) f args k m = step_def structs g.def f args k m

abbrev pub step_back : Value → Kont → Mem → Outcome
step_back v [] m = Ended v
step_back v (Kseq s ∷ k) m = Stuck
step_back v (Kloop1 a b ∷ k) m = Stuck
step_back v (Kloop2 a b ∷ k) m = Stuck
step_back v (Kswitch ∷ k) m = Stuck
step_back v (Kcall to act ∷ k) m = Next (Run Skip k (set_in to v act)) m

abbrev pub step : Program → Config → Mem → Outcome
step P (Run s k act) m = step_run P s k act m
step P (Calling f args k) m = step_call P.structs (function_named P f) f args k m
step P (Returning v k) m = step_back v k m
