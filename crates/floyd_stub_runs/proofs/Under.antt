-- A step, its exits, its reads and writes and the bounds are the same above further frames.
use Rattle.std.proofs.Common.{◌≡◌, ℕ, List, [], ◌∷◌, ◌++◌, Option, Some, None, Bool, true, false, cond, refl, sym, ◌∙◌, subst, ap, append_assoc}
use Rattle.floyd_int.specs.declared.kinds.Value.{Value}
use Rattle.floyd_int.specs.declared.kinds.Value.TheVariants.{Vundef}
use Rattle.floyd_clight_memory.specs.Memory.{Mem}
use Rattle.floyd_ctypes.specs.Structs.{Structs}
use Rattle.floyd_ctypes.specs.Has.{has}
use Rattle.floyd_clight.specs.declared.syntax.Expr.{Expr}
use Rattle.floyd_clight.specs.declared.syntax.Stmt.{Skip, Set, Assign, Call, Seq', If', Loop', Break, Continue, Return, Switch', end_of-Stmt, more_of-Stmt}
use Rattle.floyd_stub_machine.specs.Evaluation.{Ident, unset}
use Rattle.floyd_stub_machine.specs.Machine.{Act, LocalBlock, Config, Run, Calling, Returning, Kseq, Kloop1, Kloop2, Kcall, Kont, Outcome, Next, Asks, Ended, Stuck, Program, Def, Own, Ext, call_kont, on_some, eval, test, free_all, finish, step, step_call, step_return, step_skip, step_break, step_continue, bind_params, writes, all_spots}
use Rattle.floyd_stub_runs.specs.Safe.{Exit, Normal, Broke, Continued, Returned, Level, Part, Whole, exit_of, IsApart, AllIn, Bounds, kont_blocks}

-- a call's continuation
abbrev pub IsCall : Kont → Type 0
IsCall [] = Unit {0}
IsCall (Kseq s ∷ k) = ⊥
IsCall (Kloop1 a b ∷ k) = ⊥
IsCall (Kloop2 a b ∷ k) = ⊥
IsCall (Kcall to act ∷ k) = Unit {0}

-- a part of a function may stand above any frames, a whole call above those of a call
abbrev pub Suits : Level → Kont → Type 0
Suits Part r = Unit {0}
Suits Whole r = IsCall r

-- the same, but a call stands above a frame of its caller
abbrev pub SuitsPart : Level → Kont → Type 0
SuitsPart Part r = Unit {0}
SuitsPart Whole [] = ⊥
SuitsPart Whole (Kseq s ∷ k) = ⊥
SuitsPart Whole (Kloop1 a b ∷ k) = ⊥
SuitsPart Whole (Kloop2 a b ∷ k) = ⊥
SuitsPart Whole (Kcall to act ∷ k) = Unit {0}

pub suits : (l : Level) (r : Kont) → SuitsPart l r → Suits l r
suits Part r u = tt
suits Whole [] u = tt
suits Whole (Kseq s ∷ k) u = u
suits Whole (Kloop1 a b ∷ k) u = u
suits Whole (Kloop2 a b ∷ k) u = u
suits Whole (Kcall to act ∷ k) u = tt

-- what a return comes to
abbrev pub return_to : Kont → Kont → Kont
return_to r [] = call_kont r
return_to r (f ∷ k) = f ∷ (k ++ r)

abbrev pub under : Kont → Config → Config
under r (Run s k act) = Run s (k ++ r) act
under r (Calling f args k) = Calling f args (k ++ r)
under r (Returning v k) = Returning v (return_to r k)

abbrev pub resume : Kont → Exit → Config
resume r (Normal act) = Run Skip r act
resume r (Broke act) = Run Break r act
resume r (Continued act) = Run Continue r act
resume r (Returned v) = Returning v (call_kont r)

abbrev pub over : Kont → Outcome → Outcome
over r (Next c m) = Next (under r c) m
over r (Asks f args k) = Asks f args (return_to r k)
over r (Ended v) = Ended v
over r Stuck = Stuck

pub exit_under : (l : Level) (c : Config) (r : Kont) (x : Exit) → exit_of l c ≡ Some x → under r c ≡ resume r x
exit_under Part (Run Skip [] act) r (Normal a) e = let p : act ≡ a = cc in ap (Run Skip r) p
exit_under Part (Run Skip [] act) r (Broke a) e = cc
exit_under Part (Run Skip [] act) r (Continued a) e = cc
exit_under Part (Run Skip [] act) r (Returned v) e = cc
exit_under Part (Run (Set y d) [] act) r x e = cc
exit_under Part (Run (Assign p d) [] act) r x e = cc
exit_under Part (Run (Call to f ds) [] act) r x e = cc
exit_under Part (Run (Seq' shape all) [] act) r x e = cc
exit_under Part (Run (If' d p a q b) [] act) r x e = cc
exit_under Part (Run (Loop' p a q b) [] act) r x e = cc
exit_under Part (Run Break [] act) r (Normal a) e = cc
exit_under Part (Run Break [] act) r (Broke a) e = let p : act ≡ a = cc in ap (Run Break r) p
exit_under Part (Run Break [] act) r (Continued a) e = cc
exit_under Part (Run Break [] act) r (Returned v) e = cc
exit_under Part (Run Continue [] act) r (Normal a) e = cc
exit_under Part (Run Continue [] act) r (Broke a) e = cc
exit_under Part (Run Continue [] act) r (Continued a) e = let p : act ≡ a = cc in ap (Run Continue r) p
exit_under Part (Run Continue [] act) r (Returned v) e = cc
exit_under Part (Run (Return d) [] act) r x e = cc
exit_under Part (Run (Switch' d shape cases) [] act) r x e = cc
exit_under Whole (Run s [] act) r x e = cc
exit_under l (Run s (f ∷ k) act) r x e = cc
exit_under l (Calling f args k) r x e = cc
exit_under l (Returning v []) r (Normal a) e = cc
exit_under l (Returning v []) r (Broke a) e = cc
exit_under l (Returning v []) r (Continued a) e = cc
exit_under l (Returning v []) r (Returned w) e = let p : v ≡ w = cc in ap (λ u. Returning u (call_kont r)) p
exit_under l (Returning v (f ∷ k)) r x e = cc

pub no_exit_under : (l j : Level) (c : Config) (r : Kont) → SuitsPart l r → exit_of l c ≡ None → exit_of j (under r c) ≡ None
no_exit_under Part j (Run Skip [] act) r u e = cc
no_exit_under Part Part (Run (Set y d) [] act) [] u e = refl
no_exit_under Part Whole (Run (Set y d) [] act) [] u e = refl
no_exit_under Part j (Run (Set y d) [] act) (g ∷ r) u e = refl
no_exit_under Part Part (Run (Assign p d) [] act) [] u e = refl
no_exit_under Part Whole (Run (Assign p d) [] act) [] u e = refl
no_exit_under Part j (Run (Assign p d) [] act) (g ∷ r) u e = refl
no_exit_under Part Part (Run (Call to f ds) [] act) [] u e = refl
no_exit_under Part Whole (Run (Call to f ds) [] act) [] u e = refl
no_exit_under Part j (Run (Call to f ds) [] act) (g ∷ r) u e = refl
no_exit_under Part Part (Run (Seq' shape all) [] act) [] u e = refl
no_exit_under Part Whole (Run (Seq' shape all) [] act) [] u e = refl
no_exit_under Part j (Run (Seq' shape all) [] act) (g ∷ r) u e = refl
no_exit_under Part Part (Run (If' d p a q b) [] act) [] u e = refl
no_exit_under Part Whole (Run (If' d p a q b) [] act) [] u e = refl
no_exit_under Part j (Run (If' d p a q b) [] act) (g ∷ r) u e = refl
no_exit_under Part Part (Run (Loop' p a q b) [] act) [] u e = refl
no_exit_under Part Whole (Run (Loop' p a q b) [] act) [] u e = refl
no_exit_under Part j (Run (Loop' p a q b) [] act) (g ∷ r) u e = refl
no_exit_under Part j (Run Break [] act) r u e = cc
no_exit_under Part j (Run Continue [] act) r u e = cc
no_exit_under Part Part (Run (Return d) [] act) [] u e = refl
no_exit_under Part Whole (Run (Return d) [] act) [] u e = refl
no_exit_under Part j (Run (Return d) [] act) (g ∷ r) u e = refl
no_exit_under Part Part (Run (Switch' d shape cases) [] act) [] u e = refl
no_exit_under Part Whole (Run (Switch' d shape cases) [] act) [] u e = refl
no_exit_under Part j (Run (Switch' d shape cases) [] act) (g ∷ r) u e = refl
no_exit_under Whole j (Run s [] act) [] u e = absurd u
no_exit_under Whole j (Run s [] act) (f ∷ r) u e = refl
no_exit_under l j (Run s (f ∷ k) act) r u e = refl
no_exit_under l j (Calling f args k) r u e = refl
no_exit_under l j (Returning v []) r u e = cc
no_exit_under l j (Returning v (f ∷ k)) r u e = refl

pub call_kont_under : (k r : Kont) → call_kont (k ++ r) ≡ return_to r (call_kont k)
call_kont_under [] r = refl
call_kont_under (Kseq s ∷ k) r = call_kont_under k r
call_kont_under (Kloop1 a b ∷ k) r = call_kont_under k r
call_kont_under (Kloop2 a b ∷ k) r = call_kont_under k r
call_kont_under (Kcall to act ∷ k) r = refl

-- of a call's continuation nothing is left out
pub call_kont_is : (r : Kont) → IsCall r → call_kont r ≡ r
call_kont_is [] u = refl
call_kont_is (Kseq s ∷ k) u = absurd u
call_kont_is (Kloop1 a b ∷ k) u = absurd u
call_kont_is (Kloop2 a b ∷ k) u = absurd u
call_kont_is (Kcall to act ∷ k) u = refl

over_some : {A : Type 0} → (r : Kont) (o : Option A) (f g : A → Outcome) → ((a : A) → f a ≡ over r (g a)) → on_some o f ≡ over r (on_some o g)
over_some r None f g e = refl
over_some r (Some a) f g e = e a

finish_if : (b : Bool) (act : Act) (v : Value) (k r : Kont) (m : Mem)
    → cond b (on_some (free_all act.blocks m) (λ n. Next (Returning v (call_kont (k ++ r))) n)) Stuck
    ≡ over r (cond b (on_some (free_all act.blocks m) (λ n. Next (Returning v (call_kont k)) n)) Stuck)
finish_if true act v k r m = over_some r (free_all act.blocks m) _ _ (λ n. ap (λ x. Next (Returning v x) n) (call_kont_under k r))
finish_if false act v k r m = refl

finish_under : (act : Act) (v : Value) (k r : Kont) (m : Mem) → finish act v (k ++ r) m ≡ over r (finish act v k m)
finish_under act v k r m = finish_if (has act.result v) act v k r m

call_under : (d : Option Def) (f : Ident) (args : List Value) (k r : Kont) (m : Mem) → step_call d f args (k ++ r) m ≡ over r (step_call d f args k m)
call_under None f args k r m = refl
call_under (Some (Own fn)) f args k r m = over_some r (bind_params fn.params args unset) _ _ (λ t. refl)
call_under (Some (Ext res)) f args k r m = ap (Asks f args) (call_kont_under k r)

return_under : (S : Structs) (e : Option Expr) (k r : Kont) (act : Act) (m : Mem) → step_return S e (k ++ r) act m ≡ over r (step_return S e k act m)
return_under S None k r act m = finish_under act Vundef k r m
return_under S (Some e) k r act m = over_some r (eval S m act e) _ _ (λ v. finish_under act v k r m)

skip_under : (r : Kont) (act : Act) (m : Mem) → IsCall r → step_skip r act m ≡ over r (finish act Vundef [] m)
skip_under [] act m u = finish_under act Vundef [] [] m
skip_under (Kseq s ∷ k) act m u = absurd u
skip_under (Kloop1 a b ∷ k) act m u = absurd u
skip_under (Kloop2 a b ∷ k) act m u = absurd u
skip_under (Kcall to caller ∷ k) act m u = finish_under act Vundef [] (Kcall to caller ∷ k) m

-- no loop stands below a call
break_under : (r : Kont) (act : Act) (m : Mem) → IsCall r → step_break r act m ≡ Stuck
break_under [] act m u = refl
break_under (Kseq s ∷ k) act m u = absurd u
break_under (Kloop1 a b ∷ k) act m u = absurd u
break_under (Kloop2 a b ∷ k) act m u = absurd u
break_under (Kcall to caller ∷ k) act m u = refl

continue_under : (r : Kont) (act : Act) (m : Mem) → IsCall r → step_continue r act m ≡ Stuck
continue_under [] act m u = refl
continue_under (Kseq s ∷ k) act m u = absurd u
continue_under (Kloop1 a b ∷ k) act m u = absurd u
continue_under (Kloop2 a b ∷ k) act m u = absurd u
continue_under (Kcall to caller ∷ k) act m u = refl

pub step_under : (P : Program) (l : Level) (c : Config) (r : Kont) (m : Mem) → Suits l r → exit_of l c ≡ None → step P (under r c) m ≡ over r (step P c m)
step_under P Part (Run Skip [] act) r m u e = cc
step_under P Whole (Run Skip [] act) r m u e = skip_under r act m u
step_under P l (Run Skip (Kseq s ∷ k) act) r m u e = refl
step_under P l (Run Skip (Kloop1 a b ∷ k) act) r m u e = refl
step_under P l (Run Skip (Kloop2 a b ∷ k) act) r m u e = refl
step_under P l (Run Skip (Kcall to caller ∷ k) act) r m u e = finish_under act Vundef (Kcall to caller ∷ k) r m
step_under P l (Run (Set x d) k act) r m u e = over_some r (eval P.structs m act d) _ _ (λ v. refl)
step_under P l (Run (Assign p d) k act) r m u e = refl
step_under P l (Run (Call to f ds) k act) r m u e = refl
step_under P l (Run (Seq' [] end_of-Stmt) k act) r m u e = refl
step_under P l (Run (Seq' (i ∷ shape) (more_of-Stmt s rest)) k act) r m u e = refl
step_under P l (Run (If' d p (more_of-Stmt a end_of-Stmt) q (more_of-Stmt b end_of-Stmt)) k act) r m u e = over_some r (test P.structs m act d) _ _ (λ t. refl)
step_under P l (Run (Loop' p (more_of-Stmt a end_of-Stmt) q (more_of-Stmt b end_of-Stmt)) k act) r m u e = refl
step_under P Part (Run Break [] act) r m u e = cc
step_under P Whole (Run Break [] act) r m u e = break_under r act m u
step_under P l (Run Break (Kseq s ∷ k) act) r m u e = refl
step_under P l (Run Break (Kloop1 a b ∷ k) act) r m u e = refl
step_under P l (Run Break (Kloop2 a b ∷ k) act) r m u e = refl
step_under P l (Run Break (Kcall to caller ∷ k) act) r m u e = refl
step_under P Part (Run Continue [] act) r m u e = cc
step_under P Whole (Run Continue [] act) r m u e = continue_under r act m u
step_under P l (Run Continue (Kseq s ∷ k) act) r m u e = refl
step_under P l (Run Continue (Kloop1 a b ∷ k) act) r m u e = refl
step_under P l (Run Continue (Kloop2 a b ∷ k) act) r m u e = refl
step_under P l (Run Continue (Kcall to caller ∷ k) act) r m u e = refl
step_under P l (Run (Return d) k act) r m u e = return_under P.structs d k r act m
step_under P l (Run (Switch' d shape cases) k act) r m u e = refl
step_under P l (Calling f args k) r m u e = call_under (P.functions f) f args k r m
step_under P l (Returning v []) r m u e = cc
step_under P l (Returning v (Kseq s ∷ k)) r m u e = refl
step_under P l (Returning v (Kloop1 a b ∷ k)) r m u e = refl
step_under P l (Returning v (Kloop2 a b ∷ k)) r m u e = refl
step_under P l (Returning v (Kcall to act ∷ k)) r m u e = refl

skip_writes_under : (r : Kont) (act : Act) (m : Mem) → IsCall r → writes (Run Skip r act) m ≡ all_spots act.blocks m
skip_writes_under [] act m u = refl
skip_writes_under (Kseq s ∷ k) act m u = absurd u
skip_writes_under (Kloop1 a b ∷ k) act m u = absurd u
skip_writes_under (Kloop2 a b ∷ k) act m u = absurd u
skip_writes_under (Kcall to caller ∷ k) act m u = refl

pub writes_under : (l : Level) (c : Config) (r : Kont) (m : Mem) → Suits l r → exit_of l c ≡ None → writes (under r c) m ≡ writes c m
writes_under Part (Run Skip [] act) r m u e = cc
writes_under Whole (Run Skip [] act) r m u e = skip_writes_under r act m u
writes_under l (Run Skip (Kseq s ∷ k) act) r m u e = refl
writes_under l (Run Skip (Kloop1 a b ∷ k) act) r m u e = refl
writes_under l (Run Skip (Kloop2 a b ∷ k) act) r m u e = refl
writes_under l (Run Skip (Kcall to caller ∷ k) act) r m u e = refl
writes_under l (Run (Set x d) k act) r m u e = refl
writes_under l (Run (Assign p d) k act) r m u e = refl
writes_under l (Run (Call to f ds) k act) r m u e = refl
writes_under l (Run (Seq' shape all) k act) r m u e = refl
writes_under l (Run (If' d p a q b) k act) r m u e = refl
writes_under l (Run (Loop' p a q b) k act) r m u e = refl
writes_under l (Run Break k act) r m u e = refl
writes_under l (Run Continue k act) r m u e = refl
writes_under l (Run (Return d) k act) r m u e = refl
writes_under l (Run (Switch' d shape cases) k act) r m u e = refl
writes_under l (Calling f args k) r m u e = refl
writes_under l (Returning v k) r m u e = refl

apart_front : (b : ℕ) (ls ks : List LocalBlock) → IsApart b (ls ++ ks) → IsApart b ls
apart_front b [] ks a = tt
apart_front b (l ∷ ls) ks a = (a.0, apart_front b ls ks a.1)

pub all_in_front : (ls ks : List LocalBlock) (m : Mem) → AllIn (ls ++ ks) m → AllIn ls m
all_in_front [] ks m a = tt
all_in_front (l ∷ ls) ks m a = (a.0, apart_front l.block ls ks a.1, all_in_front ls ks m a.2)

pub all_in_back : (ls ks : List LocalBlock) (m : Mem) → AllIn (ls ++ ks) m → AllIn ks m
all_in_back [] ks m a = a
all_in_back (l ∷ ls) ks m a = all_in_back ls ks m a.2

pub kont_blocks_under : (k r : Kont) → kont_blocks (k ++ r) ≡ kont_blocks k ++ kont_blocks r
kont_blocks_under [] r = refl
kont_blocks_under (Kseq s ∷ k) r = kont_blocks_under k r
kont_blocks_under (Kloop1 a b ∷ k) r = kont_blocks_under k r
kont_blocks_under (Kloop2 a b ∷ k) r = kont_blocks_under k r
kont_blocks_under (Kcall to act ∷ k) r = ap (λ bs. act.blocks ++ bs) (kont_blocks_under k r) ∙ sym (append_assoc act.blocks (kont_blocks k) (kont_blocks r))

kont_bounds : (k r : Kont) (m : Mem) → AllIn (kont_blocks (k ++ r)) m → AllIn (kont_blocks k) m
kont_bounds k r m a = all_in_front (kont_blocks k) (kont_blocks r) m (subst (λ bs. AllIn bs m) (kont_blocks_under k r) a)

pub bounds_under : (r : Kont) (c : Config) (m : Mem) → Bounds (under r c) m → Bounds c m
bounds_under r (Run s k act) m a =
    all_in_front (act.blocks ++ kont_blocks k) (kont_blocks r) m
    (subst (λ bs. AllIn bs m) (ap (λ bs. act.blocks ++ bs) (kont_blocks_under k r) ∙ sym (append_assoc act.blocks (kont_blocks k) (kont_blocks r))) a)
bounds_under r (Calling f args k) m a = kont_bounds k r m a
bounds_under r (Returning v []) m a = tt
bounds_under r (Returning v (f ∷ k)) m a = kont_bounds (f ∷ k) r m a
