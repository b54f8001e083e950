-- A step, its exits, its reads and writes and the bounds are the same above further frames.
use Rattle.std.proofs.Common.{◌≡◌, ℕ, List, [], ◌∷◌, ◌++◌, Option, Some, None, Bool, true, false, cond, refl, sym, ◌∙◌, subst, ap, append_assoc}
use Rattle.std.specs.Prelude.{option_and_then}
use Rattle.floyd_int.specs.declared.kinds.Value.{Value}
use Rattle.floyd_int.specs.declared.kinds.Value.TheVariants.{Vundef}
use Rattle.floyd_clight_memory.specs.Memory.{Mem}
use Rattle.floyd_ctypes.specs.Structs.{Structs}
use Rattle.floyd_ctypes.specs.Has.{has}
use Rattle.floyd_clight.specs.Types.{type_of}
use Rattle.floyd_clight.specs.declared.syntax.Expr.{Expr}
use Rattle.floyd_clight.specs.declared.syntax.Stmt.{Skip, Set, Assign, Call, Seq', If', Loop', Break, Continue, Return, Switch', end_of-Stmt, more_of-Stmt}
use Rattle.floyd_clight_machine.specs.Evaluation.{Ident, unset}
use Rattle.floyd_clight_machine.specs.Machine.{Act, LocalBlock, Config, Run, Calling, Returning, Kseq, Kloop1, Kloop2, Kswitch, Kcall, Kont, Outcome, Next, Asks, Stuck, Program, Def, Own, Ext, FunctionBlock, signature, function_named, call_kont, on_some, eval, eval_all, place, test, free_all, finish, store_at, called, all_have, step, step_def, step_call, step_return, step_skip, step_break, step_continue, step_assign, step_to, switch_bits, bind_params, alloc_all}
use Rattle.floyd_clight_machine.specs.Touched.{reads, writes, freed_spots}
use Rattle.floyd_clight_machine.specs.Exits.{Exit, Normal, Broke, Continued, Returned, Level, Part, Whole, exit_of, IsCall, Suits, return_to, under, over, resume}
use Rattle.floyd_clight_machine.specs.Bounds.{IsApart, AllLocal, Bound, Bounds, kont_blocks}
use Rattle.floyd_clight_machine.specs.Laws.{StepsAlike}

pub exit_under : (l : Level) (c : Config) (r : Kont) (x : Exit) → exit_of l c ≡ Some x → under r c ≡ resume r x
exit_under Part (Run Skip [] act) r (Normal a) e = let p : act ≡ a = cc in ap (Run Skip r) p
exit_under Part (Run Skip [] act) r (Broke a) e = cc
exit_under Part (Run Skip [] act) r (Continued a) e = cc
exit_under Part (Run Skip [] act) r (Returned v) e = cc
exit_under Part (Run (Set y d) [] act) r x e = cc
exit_under Part (Run (Assign p d) [] act) r x e = cc
exit_under Part (Run (Call to f ds) [] act) r x e = cc
exit_under Part (Run (Seq' shape all) [] act) r x e = cc
exit_under Part (Run (If' d p a q b) [] act) r x e = cc
exit_under Part (Run (Loop' p a q b) [] act) r x e = cc
exit_under Part (Run Break [] act) r (Normal a) e = cc
exit_under Part (Run Break [] act) r (Broke a) e = let p : act ≡ a = cc in ap (Run Break r) p
exit_under Part (Run Break [] act) r (Continued a) e = cc
exit_under Part (Run Break [] act) r (Returned v) e = cc
exit_under Part (Run Continue [] act) r (Normal a) e = cc
exit_under Part (Run Continue [] act) r (Broke a) e = cc
exit_under Part (Run Continue [] act) r (Continued a) e = let p : act ≡ a = cc in ap (Run Continue r) p
exit_under Part (Run Continue [] act) r (Returned v) e = cc
exit_under Part (Run (Return d) [] act) r x e = cc
exit_under Part (Run (Switch' d shape cases) [] act) r x e = cc
exit_under Whole (Run s [] act) r x e = cc
exit_under l (Run s (f ∷ k) act) r x e = cc
exit_under l (Calling f args k) r x e = cc
exit_under l (Returning v []) r (Normal a) e = cc
exit_under l (Returning v []) r (Broke a) e = cc
exit_under l (Returning v []) r (Continued a) e = cc
exit_under l (Returning v []) r (Returned w) e = let p : v ≡ w = cc in ap (λ u. Returning u (call_kont r)) p
exit_under l (Returning v (f ∷ k)) r x e = cc

pub call_kont_under : (k r : Kont) → call_kont (k ++ r) ≡ return_to r (call_kont k)
call_kont_under [] r = refl
call_kont_under (Kseq s ∷ k) r = call_kont_under k r
call_kont_under (Kloop1 a b ∷ k) r = call_kont_under k r
call_kont_under (Kloop2 a b ∷ k) r = call_kont_under k r
call_kont_under (Kswitch ∷ k) r = call_kont_under k r
call_kont_under (Kcall to act ∷ k) r = refl

-- of a call's continuation nothing is left out
pub call_kont_is : (r : Kont) → IsCall r → call_kont r ≡ r
call_kont_is [] u = refl
call_kont_is (Kseq s ∷ k) u = absurd u
call_kont_is (Kloop1 a b ∷ k) u = absurd u
call_kont_is (Kloop2 a b ∷ k) u = absurd u
call_kont_is (Kswitch ∷ k) u = absurd u
call_kont_is (Kcall to act ∷ k) u = refl

over_some : {A : Type 0} → (r : Kont) (o : Option A) (f g : A → Outcome) → ((a : A) → f a ≡ over r (g a)) → on_some o f ≡ over r (on_some o g)
over_some r None f g e = refl
over_some r (Some a) f g e = e a

finish_if : (b : Bool) (act : Act) (v : Value) (k r : Kont) (m : Mem)
    → cond b (on_some (free_all act.blocks m) (λ n. Next (Returning v (call_kont (k ++ r))) n)) Stuck
    ≡ over r (cond b (on_some (free_all act.blocks m) (λ n. Next (Returning v (call_kont k)) n)) Stuck)
finish_if true act v k r m = over_some r (free_all act.blocks m) _ _ (λ n. ap (λ x. Next (Returning v x) n) (call_kont_under k r))
finish_if false act v k r m = refl

finish_under : (act : Act) (v : Value) (k r : Kont) (m : Mem) → finish act v (k ++ r) m ≡ over r (finish act v k m)
finish_under act v k r m = finish_if (has act.result v) act v k r m

def_under : (S : Structs) (d : Def) (f : Ident) (args : List Value) (k r : Kont) (m : Mem) → step_def S d f args (k ++ r) m ≡ over r (step_def S d f args k m)
def_under S (Own fn) f args k r m = over_some r (bind_params fn.params args unset) _ _ (λ t. over_some r (alloc_all S fn.locals m) _ _ (λ p. refl))
def_under S (Ext t) f args k r m = ap (Asks f args) (call_kont_under k r)

call_under : (S : Structs) (d : Option FunctionBlock) (f : Ident) (args : List Value) (k r : Kont) (m : Mem) → step_call S d f args (k ++ r) m ≡ over r (step_call S d f args k m)
call_under S None f args k r m = refl
call_under S (Some g) f args k r m = def_under S g.def f args k r m

return_under : (P : Program) (e : Option Expr) (k r : Kont) (act : Act) (m : Mem) → step_return P e (k ++ r) act m ≡ over r (step_return P e k act m)
return_under P None k r act m = finish_under act Vundef k r m
return_under P (Some e) k r act m = over_some r (eval P m act e) _ _ (λ v. finish_under act v k r m)

assign_under : (P : Program) (p e : Expr) (k r : Kont) (act : Act) (m : Mem) → step_assign P p e (k ++ r) act m ≡ over r (step_assign P p e k act m)
assign_under P p e k r act m =
    over_some r (place P m act p) _ _ (λ s. over_some r (eval P m act e) _ _ (λ v. over_some r (store_at (type_of p) s v m) _ _ (λ n. refl)))

entering_if : (b : Bool) (g : FunctionBlock) (args : List Value) (k r : Kont) (m : Mem) → cond b (Next (Calling g.name args (k ++ r)) m) Stuck ≡ over r (cond b (Next (Calling g.name args k) m) Stuck)
entering_if true g args k r m = refl
entering_if false g args k r m = refl

to_under : (P : Program) (to : Option Ident) (f : Expr) (es : List Expr) (k r : Kont) (act : Act) (m : Mem) → step_to P to f es (k ++ r) act m ≡ over r (step_to P to f es k act m)
to_under P to f es k r act m =
    over_some r (option_and_then (called P (type_of f)) (eval P m act f)) _ _ (λ g. over_some r (eval_all P m act es) _ _ (λ args. entering_if (all_have (signature g.def).params args) g args (Kcall to act ∷ k) r m))

skip_under : (r : Kont) (act : Act) (m : Mem) → IsCall r → step_skip r act m ≡ over r (finish act Vundef [] m)
skip_under [] act m u = finish_under act Vundef [] [] m
skip_under (Kseq s ∷ k) act m u = absurd u
skip_under (Kloop1 a b ∷ k) act m u = absurd u
skip_under (Kloop2 a b ∷ k) act m u = absurd u
skip_under (Kswitch ∷ k) act m u = absurd u
skip_under (Kcall to caller ∷ k) act m u = finish_under act Vundef [] (Kcall to caller ∷ k) m

-- no loop and no switch stands below a call
break_under : (r : Kont) (act : Act) (m : Mem) → IsCall r → step_break r act m ≡ Stuck
break_under [] act m u = refl
break_under (Kseq s ∷ k) act m u = absurd u
break_under (Kloop1 a b ∷ k) act m u = absurd u
break_under (Kloop2 a b ∷ k) act m u = absurd u
break_under (Kswitch ∷ k) act m u = absurd u
break_under (Kcall to caller ∷ k) act m u = refl

continue_under : (r : Kont) (act : Act) (m : Mem) → IsCall r → step_continue r act m ≡ Stuck
continue_under [] act m u = refl
continue_under (Kseq s ∷ k) act m u = absurd u
continue_under (Kloop1 a b ∷ k) act m u = absurd u
continue_under (Kloop2 a b ∷ k) act m u = absurd u
continue_under (Kswitch ∷ k) act m u = absurd u
continue_under (Kcall to caller ∷ k) act m u = refl

pub step_under : (P : Program) (l : Level) (c : Config) (r : Kont) (m : Mem) → Suits l r → exit_of l c ≡ None → step P (under r c) m ≡ over r (step P c m)
step_under P Part (Run Skip [] act) r m u e = cc
step_under P Whole (Run Skip [] act) r m u e = skip_under r act m u
step_under P l (Run Skip (Kseq s ∷ k) act) r m u e = refl
step_under P l (Run Skip (Kloop1 a b ∷ k) act) r m u e = refl
step_under P l (Run Skip (Kloop2 a b ∷ k) act) r m u e = refl
step_under P l (Run Skip (Kswitch ∷ k) act) r m u e = refl
step_under P l (Run Skip (Kcall to caller ∷ k) act) r m u e = finish_under act Vundef (Kcall to caller ∷ k) r m
step_under P l (Run (Set x d) k act) r m u e = over_some r (eval P m act d) _ _ (λ v. refl)
step_under P l (Run (Assign p d) k act) r m u e = assign_under P p d k r act m
step_under P l (Run (Call to f ds) k act) r m u e = to_under P to f ds k r act m
step_under P l (Run (Seq' [] end_of-Stmt) k act) r m u e = refl
step_under P l (Run (Seq' (i ∷ shape) (more_of-Stmt s rest)) k act) r m u e = refl
step_under P l (Run (If' d p (more_of-Stmt a end_of-Stmt) q (more_of-Stmt b end_of-Stmt)) k act) r m u e = over_some r (test P m act d) _ _ (λ t. refl)
step_under P l (Run (Loop' p (more_of-Stmt a end_of-Stmt) q (more_of-Stmt b end_of-Stmt)) k act) r m u e = refl
step_under P Part (Run Break [] act) r m u e = cc
step_under P Whole (Run Break [] act) r m u e = break_under r act m u
step_under P l (Run Break (Kseq s ∷ k) act) r m u e = refl
step_under P l (Run Break (Kloop1 a b ∷ k) act) r m u e = refl
step_under P l (Run Break (Kloop2 a b ∷ k) act) r m u e = refl
step_under P l (Run Break (Kswitch ∷ k) act) r m u e = refl
step_under P l (Run Break (Kcall to caller ∷ k) act) r m u e = refl
step_under P Part (Run Continue [] act) r m u e = cc
step_under P Whole (Run Continue [] act) r m u e = continue_under r act m u
step_under P l (Run Continue (Kseq s ∷ k) act) r m u e = refl
step_under P l (Run Continue (Kloop1 a b ∷ k) act) r m u e = refl
step_under P l (Run Continue (Kloop2 a b ∷ k) act) r m u e = refl
step_under P l (Run Continue (Kswitch ∷ k) act) r m u e = refl
step_under P l (Run Continue (Kcall to caller ∷ k) act) r m u e = refl
step_under P l (Run (Return d) k act) r m u e = return_under P d k r act m
step_under P l (Run (Switch' d shape cases) k act) r m u e = over_some r (option_and_then (switch_bits (type_of d)) (eval P m act d)) _ _ (λ n. refl)
step_under P l (Calling f args k) r m u e = call_under P.structs (function_named P f) f args k r m
step_under P l (Returning v []) r m u e = cc
step_under P l (Returning v (Kseq s ∷ k)) r m u e = refl
step_under P l (Returning v (Kloop1 a b ∷ k)) r m u e = refl
step_under P l (Returning v (Kloop2 a b ∷ k)) r m u e = refl
step_under P l (Returning v (Kswitch ∷ k)) r m u e = refl
step_under P l (Returning v (Kcall to act ∷ k)) r m u e = refl

skip_writes_under : (P : Program) (r : Kont) (act : Act) (m : Mem) → IsCall r → writes P (Run Skip r act) m ≡ freed_spots act.blocks m
skip_writes_under P [] act m u = refl
skip_writes_under P (Kseq s ∷ k) act m u = absurd u
skip_writes_under P (Kloop1 a b ∷ k) act m u = absurd u
skip_writes_under P (Kloop2 a b ∷ k) act m u = absurd u
skip_writes_under P (Kswitch ∷ k) act m u = absurd u
skip_writes_under P (Kcall to caller ∷ k) act m u = refl

pub writes_under : (P : Program) (l : Level) (c : Config) (r : Kont) (m : Mem) → Suits l r → exit_of l c ≡ None → writes P (under r c) m ≡ writes P c m
writes_under P Part (Run Skip [] act) r m u e = cc
writes_under P Whole (Run Skip [] act) r m u e = skip_writes_under P r act m u
writes_under P l (Run Skip (Kseq s ∷ k) act) r m u e = refl
writes_under P l (Run Skip (Kloop1 a b ∷ k) act) r m u e = refl
writes_under P l (Run Skip (Kloop2 a b ∷ k) act) r m u e = refl
writes_under P l (Run Skip (Kswitch ∷ k) act) r m u e = refl
writes_under P l (Run Skip (Kcall to caller ∷ k) act) r m u e = refl
writes_under P l (Run (Set x d) k act) r m u e = refl
writes_under P l (Run (Assign p d) k act) r m u e = refl
writes_under P l (Run (Call to f ds) k act) r m u e = refl
writes_under P l (Run (Seq' shape all) k act) r m u e = refl
writes_under P l (Run (If' d p a q b) k act) r m u e = refl
writes_under P l (Run (Loop' p a q b) k act) r m u e = refl
writes_under P l (Run Break k act) r m u e = refl
writes_under P l (Run Continue k act) r m u e = refl
writes_under P l (Run (Return d) k act) r m u e = refl
writes_under P l (Run (Switch' d shape cases) k act) r m u e = refl
writes_under P l (Calling f args k) r m u e = refl
writes_under P l (Returning v k) r m u e = refl

pub reads_under : (P : Program) (c : Config) (r : Kont) (m : Mem) → reads P (under r c) m ≡ reads P c m
reads_under P (Run s k act) r m = refl
reads_under P (Calling f args k) r m = refl
reads_under P (Returning v k) r m = refl

pub steps_alike : (P : Program) (l : Level) (c : Config) (r : Kont) (m : Mem) → Suits l r → exit_of l c ≡ None → StepsAlike P c r m
steps_alike P l c r m u e = record { steps = step_under P l c r m u e; reads = reads_under P c r m; writes = writes_under P l c r m u e }

apart_front : (b : ℕ) (ls ks : List LocalBlock) → IsApart b (ls ++ ks) → IsApart b ls
apart_front b [] ks a = tt
apart_front b (l ∷ ls) ks a = (a.0, apart_front b ls ks a.1)

pub locals_front : (ls ks : List LocalBlock) (m : Mem) → AllLocal (ls ++ ks) m → AllLocal ls m
locals_front [] ks m a = tt
locals_front (l ∷ ls) ks m a = (a.0, apart_front l.block ls ks a.1, locals_front ls ks m a.2)

pub locals_back : (ls ks : List LocalBlock) (m : Mem) → AllLocal (ls ++ ks) m → AllLocal ks m
locals_back [] ks m a = a
locals_back (l ∷ ls) ks m a = locals_back ls ks m a.2

pub kont_blocks_under : (k r : Kont) → kont_blocks (k ++ r) ≡ kont_blocks k ++ kont_blocks r
kont_blocks_under [] r = refl
kont_blocks_under (Kseq s ∷ k) r = kont_blocks_under k r
kont_blocks_under (Kloop1 a b ∷ k) r = kont_blocks_under k r
kont_blocks_under (Kloop2 a b ∷ k) r = kont_blocks_under k r
kont_blocks_under (Kswitch ∷ k) r = kont_blocks_under k r
kont_blocks_under (Kcall to act ∷ k) r = ap (λ bs. act.blocks ++ bs) (kont_blocks_under k r) ∙ sym (append_assoc act.blocks (kont_blocks k) (kont_blocks r))

bound_with : (P : Program) (ls ks : List LocalBlock) (m : Mem) → AllLocal ks m → Bound P ls m → Bound P ks m
bound_with P ls ks m a b = record { locals = a; variables = b.variables; functions = b.functions }

bound_front : (P : Program) (ls ks all : List LocalBlock) (m : Mem) → all ≡ ls ++ ks → Bound P all m → Bound P ls m
bound_front P ls ks all m e b = bound_with P all ls m (locals_front ls ks m (subst (λ bs. AllLocal bs m) e b.locals)) b

pub bounds_under : (P : Program) (r : Kont) (c : Config) (m : Mem) → Bounds P (under r c) m → Bounds P c m
bounds_under P r (Run s k act) m b =
    bound_front P (act.blocks ++ kont_blocks k) (kont_blocks r) (act.blocks ++ kont_blocks (k ++ r)) m
    (ap (λ bs. act.blocks ++ bs) (kont_blocks_under k r) ∙ sym (append_assoc act.blocks (kont_blocks k) (kont_blocks r))) b
bounds_under P r (Calling f args k) m b = bound_front P (kont_blocks k) (kont_blocks r) (kont_blocks (k ++ r)) m (kont_blocks_under k r) b
bounds_under P r (Returning v []) m b = bound_with P (kont_blocks (call_kont r)) [] m tt b
bounds_under P r (Returning v (f ∷ k)) m b = bound_front P (kont_blocks (f ∷ k)) (kont_blocks r) (kont_blocks (f ∷ (k ++ r))) m (kont_blocks_under (f ∷ k) r) b
