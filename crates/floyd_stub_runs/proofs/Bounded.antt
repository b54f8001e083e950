-- Each step and each lawful answer keeps the bounds: the blocks of the local variables stay.
use Rattle.std.proofs.Common.{◌≡◌, ◌≢◌, ℕ, zero, suc, List, [], ◌∷◌, ◌++◌, Option, Some, None, Bool, true, false, cond, refl, sym, ◌∙◌, subst, ap}
use Rattle.floyd_int.specs.declared.kinds.Value.{Value}
use Rattle.floyd_int.specs.declared.kinds.Value.TheVariants.{Vundef, Vint, Vlong, Vptr}
use Rattle.floyd_clight_memory.specs.Memory.{Mem, Slot, Block, Perm, Freeable, includes, all_include, nth, put, freed, free, free_block}
use Rattle.floyd_ctypes.specs.Structs.{Structs}
use Rattle.floyd_ctypes.specs.Has.{has}
use Rattle.floyd_clight.specs.declared.syntax.Expr.{Expr}
use Rattle.floyd_clight.specs.declared.syntax.Stmt.{Skip, Set, Assign, Call, Seq', If', Loop', Break, Continue, Return, Switch', end_of-Stmt, more_of-Stmt}
use Rattle.floyd_stub_machine.specs.Evaluation.{Ident, unset}
use Rattle.floyd_stub_machine.specs.Machine.{Act, LocalBlock, Config, Run, Calling, Returning, Kseq, Kloop1, Kloop2, Kcall, Kont, Outcome, Next, Asks, Ended, Stuck, Program, Def, Own, Ext, call_kont, on_some, eval, test, set_in, free_all, and_then, finish, step, step_call, step_return, step_break, step_continue, step_back, bind_params, entered}
use Rattle.floyd_stub_runs.specs.Runs.{Keeps, perms, is_ext}
use Rattle.floyd_stub_runs.specs.Safe.{IsApart, IsLocal, AllIn, Bounds, kont_blocks}
use Rattle.floyd_stub_runs.proofs.Under.{IsCall}

nth_put_other : {A : Type 0} → (xs : List A) (n k : ℕ) (y : A) → (n ≢ k) → nth (put xs n y) k ≡ nth xs k
nth_put_other [] n k y ne = refl
nth_put_other (x ∷ xs) zero zero y ne = absurd (ne refl)
nth_put_other (x ∷ xs) zero (suc k) y ne = refl
nth_put_other (x ∷ xs) (suc n) zero y ne = refl
nth_put_other (x ∷ xs) (suc n) (suc k) y ne = nth_put_other xs n k y (λ e. ne (ap suc e))

-- a local block may be freed
free_is : (m : Mem) (b : ℕ) (l : IsLocal m b) → free m b ≡ Some (put m b (freed l.there))
free_is m b l = ap (free_block m b) l.is ∙ ap (λ w. cond w (Some (put m b (freed l.there))) None) l.whole

all_in_put : (ls : List LocalBlock) (m : Mem) (b : ℕ) (y : Block) → IsApart b ls → AllIn ls m → AllIn ls (put m b y)
all_in_put [] m b y a i = tt
all_in_put (l ∷ ls) m b y a i =
    (record { there = i.0.there; is = nth_put_other m b l.block y a.0 ∙ i.0.is; kind = i.0.kind; whole = i.0.whole }, i.1, all_in_put ls m b y a.1 i.2)

-- once the first ones are freed, the others are there
free_all_keeps : (ls ks : List LocalBlock) (m n : Mem) → AllIn (ls ++ ks) m → free_all ls m ≡ Some n → AllIn ks n
free_all_keeps [] ks m n a e = let p : m ≡ n = cc in subst (AllIn ks) p a
free_all_keeps (l ∷ ls) ks m n a e =
    let next = put m l.block (freed a.0.there) in
    free_all_keeps ls ks next n (all_in_put (ls ++ ks) m l.block (freed a.0.there) a.1 a.2)
    (ap (λ o. and_then o (λ q. free_all ls q)) (sym (free_is m l.block a.0)) ∙ e)

kont_blocks_call : (k : Kont) → kont_blocks (call_kont k) ≡ kont_blocks k
kont_blocks_call [] = refl
kont_blocks_call (Kseq s ∷ k) = kont_blocks_call k
kont_blocks_call (Kloop1 a b ∷ k) = kont_blocks_call k
kont_blocks_call (Kloop2 a b ∷ k) = kont_blocks_call k
kont_blocks_call (Kcall to act ∷ k) = refl

is_call_kont : (k : Kont) → IsCall (call_kont k)
is_call_kont [] = tt
is_call_kont (Kseq s ∷ k) = is_call_kont k
is_call_kont (Kloop1 a b ∷ k) = is_call_kont k
is_call_kont (Kloop2 a b ∷ k) = is_call_kont k
is_call_kont (Kcall to act ∷ k) = tt

-- a call and a return stand above the frame of a caller
abbrev pub IsProper : Config → Type 0
IsProper (Run s k act) = Unit {0}
IsProper (Calling f args k) = IsCall k
IsProper (Returning v k) = IsCall k

abbrev pub Good : Config → Mem → Type 0
Good c m = Bounds c m × IsProper c

abbrev pub GoodOutcome : Mem → Outcome → Type 0
GoodOutcome m (Next d n) = Good d n
GoodOutcome m (Asks f args k) = AllIn (kont_blocks k) m × IsCall k
GoodOutcome m (Ended v) = Unit {0}
GoodOutcome m Stuck = Unit {0}

good_some : {A : Type 0} → (m : Mem) (o : Option A) (f : A → Outcome) → ((a : A) → o ≡ Some a → GoodOutcome m (f a)) → GoodOutcome m (on_some o f)
good_some m None f g = tt
good_some m (Some a) f g = g a refl

good_if : (m : Mem) (b : Bool) (o : Outcome) → GoodOutcome m o → GoodOutcome m (cond b o Stuck)
good_if m true o g = g
good_if m false o g = tt

finish_good : (act : Act) (v : Value) (k : Kont) (m : Mem) → AllIn (act.blocks ++ kont_blocks k) m → GoodOutcome m (finish act v k m)
finish_good act v k m a =
    good_if m (has act.result v) (on_some (free_all act.blocks m) (λ n. Next (Returning v (call_kont k)) n))
    (good_some m (free_all act.blocks m) (λ n. Next (Returning v (call_kont k)) n)
    (λ n e. (subst (λ bs. AllIn bs n) (sym (kont_blocks_call k)) (free_all_keeps act.blocks (kont_blocks k) m n a e), is_call_kont k)))

call_good : (m : Mem) (d : Option Def) (f : Ident) (args : List Value) (k : Kont) → AllIn (kont_blocks k) m → GoodOutcome m (step_call d f args k m)
call_good m None f args k a = tt
call_good m (Some (Own fn)) f args k a = good_some m (bind_params fn.params args unset) (entered fn k m) (λ t e. (a, tt))
call_good m (Some (Ext res)) f args k a = (subst (λ bs. AllIn bs m) (sym (kont_blocks_call k)) a, is_call_kont k)

return_good : (S : Structs) (m : Mem) (e : Option Expr) (k : Kont) (act : Act) → AllIn (act.blocks ++ kont_blocks k) m → GoodOutcome m (step_return S e k act m)
return_good S m None k act a = finish_good act Vundef k m a
return_good S m (Some e) k act a = good_some m (eval S m act e) (λ v. finish act v k m) (λ v p. finish_good act v k m a)

break_good : (k : Kont) (act : Act) (m : Mem) → AllIn (act.blocks ++ kont_blocks k) m → GoodOutcome m (step_break k act m)
break_good [] act m a = tt
break_good (Kseq s ∷ k) act m a = (a, tt)
break_good (Kloop1 s t ∷ k) act m a = (a, tt)
break_good (Kloop2 s t ∷ k) act m a = (a, tt)
break_good (Kcall to caller ∷ k) act m a = tt

continue_good : (k : Kont) (act : Act) (m : Mem) → AllIn (act.blocks ++ kont_blocks k) m → GoodOutcome m (step_continue k act m)
continue_good [] act m a = tt
continue_good (Kseq s ∷ k) act m a = (a, tt)
continue_good (Kloop1 s t ∷ k) act m a = (a, tt)
continue_good (Kloop2 s t ∷ k) act m a = tt
continue_good (Kcall to caller ∷ k) act m a = tt

set_in_good : (to : Option Ident) (v : Value) (act : Act) (k : Kont) (m : Mem) → AllIn (act.blocks ++ kont_blocks k) m → AllIn ((set_in to v act).blocks ++ kont_blocks k) m
set_in_good None v act k m a = a
set_in_good (Some x) v act k m a = a

back_good : (m : Mem) (v : Value) (k : Kont) → AllIn (kont_blocks k) m → GoodOutcome m (step_back v k m)
back_good m Vundef [] a = tt
back_good m (Vint n) [] a = tt
back_good m (Vlong n) [] a = tt
back_good m (Vptr b o) [] a = tt
back_good m v (Kseq s ∷ k) a = tt
back_good m v (Kloop1 s t ∷ k) a = tt
back_good m v (Kloop2 s t ∷ k) a = tt
back_good m v (Kcall to act ∷ k) a = (set_in_good to v act k m a, tt)

-- each step keeps the bounds
pub step_good : (P : Program) (c : Config) (m : Mem) → Good c m → GoodOutcome m (step P c m)
step_good P (Run Skip [] act) m g = finish_good act Vundef [] m g.0
step_good P (Run Skip (Kseq s ∷ k) act) m g = (g.0, tt)
step_good P (Run Skip (Kloop1 a b ∷ k) act) m g = (g.0, tt)
step_good P (Run Skip (Kloop2 a b ∷ k) act) m g = (g.0, tt)
step_good P (Run Skip (Kcall to caller ∷ k) act) m g = finish_good act Vundef (Kcall to caller ∷ k) m g.0
step_good P (Run (Set x e) k act) m g = good_some m (eval P.structs m act e) (λ v. Next (Run Skip k (set_in (Some x) v act)) m) (λ v p. (g.0, tt))
step_good P (Run (Assign p e) k act) m g = tt
step_good P (Run (Call to f es) k act) m g = tt
step_good P (Run (Seq' [] end_of-Stmt) k act) m g = (g.0, tt)
step_good P (Run (Seq' (u ∷ shape) (more_of-Stmt s rest)) k act) m g = (g.0, tt)
step_good P (Run (If' e p (more_of-Stmt a end_of-Stmt) q (more_of-Stmt b end_of-Stmt)) k act) m g = good_some m (test P.structs m act e) (λ t. Next (Run (cond t a b) k act) m) (λ t i. (g.0, tt))
step_good P (Run (Loop' p (more_of-Stmt a end_of-Stmt) q (more_of-Stmt b end_of-Stmt)) k act) m g = (g.0, tt)
step_good P (Run Break k act) m g = break_good k act m g.0
step_good P (Run Continue k act) m g = continue_good k act m g.0
step_good P (Run (Return e) k act) m g = return_good P.structs m e k act g.0
step_good P (Run (Switch' e shape cases) k act) m g = tt
step_good P (Calling f args k) m g = call_good m (P.functions f) f args k g.0
step_good P (Returning v k) m g = back_good m v k g.0

abbrev all_perms : Perm → List (Option Perm) → Bool
all_perms p [] = true
all_perms p (q ∷ qs) = cond (includes q p) (all_perms p qs) false

all_include_is : (p : Perm) (ss : List Slot) → all_include p ss ≡ all_perms p (perms ss)
all_include_is p [] = refl
all_include_is p (s ∷ ss) = ap (λ b. cond (includes s.perm p) b false) (all_include_is p ss)

local_kept : (m n : Mem) (b : ℕ) → Keeps m n → IsLocal m b → IsLocal n b
local_kept m n b k l =
    let r = k.kept b l.there l.is (ap is_ext l.kind) in
    record {
      there = r.0;
      is = r.1;
      kind = r.2.kind ∙ l.kind;
      whole = all_include_is Freeable r.0.slots ∙ ap (all_perms Freeable) r.2.perms ∙ sym (all_include_is Freeable l.there.slots) ∙ l.whole;
    }

-- a lawful answer keeps the bounds
pub answer_keeps : (m n : Mem) (ls : List LocalBlock) → Keeps m n → AllIn ls m → AllIn ls n
answer_keeps m n [] k a = tt
answer_keeps m n (l ∷ ls) k a = (local_kept m n l.block k a.0, a.1, answer_keeps m n ls k a.2)
