-- From safety to runs: no state is stuck, and each call that returns meets its postcondition.
use Rattle.std.proofs.Common.{◌≡◌, ℕ, zero, suc, inl, inr, List, [], ◌∷◌, ◌++◌, length, None, refl, sym, subst, ap, arith}
use Rattle.std.proofs.lemmas.List.{length-append}
use Rattle.floyd_int.specs.declared.kinds.Value.{Value}
use Rattle.floyd_int.specs.declared.kinds.Value.TheVariants.{Vint}
use Rattle.floyd_clight_memory.specs.Memory.{Mem}
use Rattle.floyd_clight.specs.declared.syntax.Stmt.{Stmt}
use Rattle.floyd_stub_machine.specs.Evaluation.{Ident}
use Rattle.floyd_stub_machine.specs.Machine.{Act, Config, Run, Calling, Returning, Frame, Kont, Outcome, Next, Asks, Ended, Stuck, step}
use Rattle.floyd_stub_assert.specs.Heaplet.{Heaplet, Joins, Fits}
use Rattle.floyd_stub_assert.specs.Data.{Env}
use Rattle.floyd_stub_runs.specs.World.{World}
use Rattle.floyd_stub_runs.specs.Runs.{Answer, run, run_on, AllLawful, lawful_on, Goes, NoneStuck, FirstReturn, CallMeets, CallsMeet}
use Rattle.floyd_stub_runs.specs.Safe.{Returned, Exits, Whole, exit_of, Safe, StepsTo, Bounds, CallExits}
use Rattle.floyd_stub_runs.proofs.HeapLaws.{part}
use Rattle.floyd_stub_runs.proofs.Under.{IsCall, under, over, step_under, bounds_under, call_kont_is}
use Rattle.floyd_stub_runs.proofs.Bounded.{Good, GoodOutcome, step_good, answer_keeps}
use Rattle.floyd_stub_runs.proofs.Induction.{AllHold, all_keep}

-- a run may end at this exit
abbrev pub EndsWell : Exits → Type 0
EndsWell E = (v : Value) (h : Heaplet) → E (Returned v) h → (n : ℕ) × (v ≡ Vint n)

goes_on : (W : World) (P : Config → Heaplet → Type 0) (h F k : Heaplet) (m : Mem) (o : Outcome) → Joins h F k → Fits k m → StepsTo W P h F m o → Goes W m o
goes_on W P h F k m (Next c n) j t s = tt
goes_on W P h F k m (Asks f args r) j t s = let may = s.0 in (may.0, may.1, part may.3 (part j t), may.4)
goes_on W P h F k m (Ended v) j t s = tt
goes_on W P h F k m Stuck j t s = s

ends : (W : World) (m : Mem) (v : Value) → (n : ℕ) × (v ≡ Vint n) → Goes W m (step W.program (Returning v []) m)
ends W m v e = subst (λ u. Goes W m (step W.program (Returning u []) m)) (sym e.1) tt

goes : (W : World) (n : ℕ) (c : Config) (h F k : Heaplet) (m : Mem) (E : Exits) → EndsWell E → Safe W Whole (suc n) c h E → Joins h F k → Fits k m → Bounds c m → Goes W m (step W.program c m)
goes W n (Run s [] act) h F k m E w s' j t b = goes_on W (λ d g. Safe W Whole n d g E) h F k m (step W.program (Run s [] act) m) j t (s' F k m j t b).steps
goes W n (Run s (f ∷ r) act) h F k m E w s' j t b = goes_on W (λ d g. Safe W Whole n d g E) h F k m (step W.program (Run s (f ∷ r) act) m) j t (s' F k m j t b).steps
goes W n (Calling f args r) h F k m E w s' j t b = goes_on W (λ d g. Safe W Whole n d g E) h F k m (step W.program (Calling f args r) m) j t (s' F k m j t b).steps
goes W n (Returning v []) h F k m E w s' j t b = ends W m v (w v h s')
goes W n (Returning v (f ∷ r)) h F k m E w s' j t b = goes_on W (λ d g. Safe W Whole n d g E) h F k m (step W.program (Returning v (f ∷ r)) m) j t (s' F k m j t b).steps

-- what is claimed of the run of n steps from a safe configuration
abbrev NoneStuckFrom : World → ℕ → Exits → Type 0
NoneStuckFrom W n E = (c : Config) (h F k : Heaplet) (m : Mem) (answers : List Answer) → Safe W Whole (suc n) c h E → Joins h F k → Fits k m → Good c m → AllLawful W n answers c m → NoneStuck W (run W n answers c m)

none_stuck_on : (W : World) (n : ℕ) (h F : Heaplet) (m : Mem) (answers : List Answer) (E : Exits) (o : Outcome) → NoneStuckFrom W n E → StepsTo W (λ d g. Safe W Whole (suc n) d g E) h F m o → GoodOutcome m o → lawful_on W (AllLawful W n) answers m o → NoneStuck W (run_on (run W n) answers o)
none_stuck_on W n h F m answers E (Next d q) f s g l = f d s.0 F s.1 q answers s.4 s.2 s.3 g l
none_stuck_on W n h F m [] E (Asks i args r) f s g l = tt
none_stuck_on W n h F m (a ∷ answers) E (Asks i args r) f s g l =
    let t = s.1 a.value a.mem l.0 in
    f (Returning a.value r) t.0 F t.1 a.mem answers t.4 t.2 t.3 (answer_keeps m a.mem _ l.0.keeps g.0, g.1) l.1
none_stuck_on W n h F m answers E (Ended v) f s g l = tt
none_stuck_on W n h F m answers E Stuck f s g l = tt

none_stuck_end : (W : World) (n : ℕ) (m : Mem) (answers : List Answer) (v : Value) → (i : ℕ) × (v ≡ Vint i) → NoneStuck W (run_on (run W n) answers (step W.program (Returning v []) m))
none_stuck_end W n m answers v e = subst (λ u. NoneStuck W (run_on (run W n) answers (step W.program (Returning u []) m))) (sym e.1) tt

none_stuck_next : (W : World) (n : ℕ) (c : Config) (h F k : Heaplet) (m : Mem) (answers : List Answer) (E : Exits) → EndsWell E → NoneStuckFrom W n E → Safe W Whole (suc (suc n)) c h E → Joins h F k → Fits k m → Good c m → lawful_on W (AllLawful W n) answers m (step W.program c m) → NoneStuck W (run_on (run W n) answers (step W.program c m))
none_stuck_next W n (Run s [] act) h F k m answers E w f s' j t g l = none_stuck_on W n h F m answers E (step W.program (Run s [] act) m) f (s' F k m j t g.0).steps (step_good W.program (Run s [] act) m g) l
none_stuck_next W n (Run s (i ∷ r) act) h F k m answers E w f s' j t g l = none_stuck_on W n h F m answers E (step W.program (Run s (i ∷ r) act) m) f (s' F k m j t g.0).steps (step_good W.program (Run s (i ∷ r) act) m g) l
none_stuck_next W n (Calling i args r) h F k m answers E w f s' j t g l = none_stuck_on W n h F m answers E (step W.program (Calling i args r) m) f (s' F k m j t g.0).steps (step_good W.program (Calling i args r) m g) l
none_stuck_next W n (Returning v []) h F k m answers E w f s' j t g l = none_stuck_end W n m answers v (w v h s')
none_stuck_next W n (Returning v (i ∷ r)) h F k m answers E w f s' j t g l = none_stuck_on W n h F m answers E (step W.program (Returning v (i ∷ r)) m) f (s' F k m j t g.0).steps (step_good W.program (Returning v (i ∷ r)) m g) l

none_stuck : (W : World) (n : ℕ) (E : Exits) → EndsWell E → NoneStuckFrom W n E
none_stuck W zero E w c h F k m answers s j t g l = (goes W zero c h F k m E w s j t g.0, tt)
none_stuck W (suc n) E w c h F k m answers s j t g l =
    (goes W (suc n) c h F k m E w s j t g.0, none_stuck_next W n c h F k m answers E w (none_stuck W n E w) s j t g l)

-- beside the same F, v is an exit in memory q
abbrev Lies : Exits → Heaplet → Value → Mem → Type 0
Lies E F v q = (h : Heaplet) × (k : Heaplet) × E (Returned v) h × Joins h F k × Fits k q

longer : (f : Frame) (k r : Kont) → f ∷ (k ++ r) ≡ r → ⊥
longer f k r e = absurd (omega (arith, ap length e, length-append k r))

run_not_returning : {s : Stmt} {i r : Kont} {act : Act} {v : Value} → Run s i act ≡ Returning v r → ⊥
run_not_returning e = cc

call_not_returning : {f : Ident} {args : List Value} {i r : Kont} {v : Value} → Calling f args i ≡ Returning v r → ⊥
call_not_returning e = cc

value_of : {v w : Value} {k r : Kont} → Returning w k ≡ Returning v r → w ≡ v
value_of e = cc

kont_of : {v w : Value} {k r : Kont} → Returning w k ≡ Returning v r → k ≡ r
kont_of e = cc

-- a state that returns to r has no own frames
here : (W : World) (n : ℕ) (c : Config) (r : Kont) (h F k : Heaplet) (m : Mem) (E : Exits) (v : Value) (q : Mem) → Safe W Whole (suc n) c h E → Joins h F k → Fits k m → under r c ≡ Returning v r → m ≡ q → Lies E F v q
here W n (Run s i act) r h F k m E v q s' j t e p = absurd (run_not_returning e)
here W n (Calling f args i) r h F k m E v q s' j t e p = absurd (call_not_returning e)
here W n (Returning w []) r h F k m E v q s' j t e p = (h, k, subst (λ u. E (Returned u) h) (value_of e) s', j, subst (Fits k) p t)
here W n (Returning w (f ∷ i)) r h F k m E v q s' j t e p = absurd (longer f i r (kont_of e))

-- the claim of a walk along a run of n steps to the first return
abbrev WalksTo : World → ℕ → Kont → Exits → Value → Mem → Type 0
WalksTo W n r E v q = (c : Config) (h F k : Heaplet) (m : Mem) (answers : List Answer) → Safe W Whole (suc n) c h E → Joins h F k → Fits k m → Good (under r c) m → AllLawful W n answers (under r c) m → FirstReturn r (run W n answers (under r c) m) v q → Lies E F v q

walk_on : (W : World) (n : ℕ) (r : Kont) (h F : Heaplet) (m : Mem) (answers : List Answer) (E : Exits) (v : Value) (q : Mem) (o : Outcome) → WalksTo W n r E v q → StepsTo W (λ d g. Safe W Whole (suc n) d g E) h F m o → GoodOutcome m (over r o) → lawful_on W (AllLawful W n) answers m (over r o) → FirstReturn r (run_on (run W n) answers (over r o)) v q → Lies E F v q
walk_on W n r h F m answers E v q (Next d p) f s g l x = f d s.0 F s.1 p answers s.4 s.2 s.3 g l x
walk_on W n r h F m [] E v q (Asks i args u) f s g l x = absurd x
walk_on W n r h F m (a ∷ answers) E v q (Asks i args u) f s g l x =
    let t = s.1 a.value a.mem l.0 in
    f (Returning a.value u) t.0 F t.1 a.mem answers t.4 t.2 t.3 (answer_keeps m a.mem _ l.0.keeps g.0, g.1) l.1 x
walk_on W n r h F m answers E v q (Ended w) f s g l x = absurd x
walk_on W n r h F m answers E v q Stuck f s g l x = absurd x

walk_step : (W : World) (n : ℕ) (c : Config) (r : Kont) (h F k : Heaplet) (m : Mem) (answers : List Answer) (E : Exits) (v : Value) (q : Mem) → IsCall r → exit_of Whole c ≡ None → WalksTo W n r E v q → StepsTo W (λ d g. Safe W Whole (suc n) d g E) h F m (step W.program c m) → Good (under r c) m → lawful_on W (AllLawful W n) answers m (step W.program (under r c) m) → FirstReturn r (run_on (run W n) answers (step W.program (under r c) m)) v q → Lies E F v q
walk_step W n c r h F k m answers E v q u e f s g l x =
    let is = step_under W.program Whole c r m u e in
    walk_on W n r h F m answers E v q (step W.program c m) f s
    (subst (GoodOutcome m) is (step_good W.program (under r c) m g))
    (subst (lawful_on W (AllLawful W n) answers m) is l)
    (subst (λ o. FirstReturn r (run_on (run W n) answers o) v q) is x)

-- beyond a state that is no return to r
beyond : (W : World) (n : ℕ) (c : Config) (r : Kont) (h F k : Heaplet) (m : Mem) (answers : List Answer) (E : Exits) (v : Value) (q : Mem) → IsCall r → WalksTo W n r E v q → Safe W Whole (suc (suc n)) c h E → Joins h F k → Fits k m → Good (under r c) m → lawful_on W (AllLawful W n) answers m (step W.program (under r c) m) → ((w : Value) → under r c ≡ Returning w r → ⊥) → FirstReturn r (run_on (run W n) answers (step W.program (under r c) m)) v q → Lies E F v q
beyond W n (Run s [] act) r h F k m answers E v q u f s' j t g l other x = walk_step W n (Run s [] act) r h F k m answers E v q u refl f (s' F k m j t (bounds_under r (Run s [] act) m g.0)).steps g l x
beyond W n (Run s (i ∷ a) act) r h F k m answers E v q u f s' j t g l other x = walk_step W n (Run s (i ∷ a) act) r h F k m answers E v q u refl f (s' F k m j t (bounds_under r (Run s (i ∷ a) act) m g.0)).steps g l x
beyond W n (Calling i args a) r h F k m answers E v q u f s' j t g l other x = walk_step W n (Calling i args a) r h F k m answers E v q u refl f (s' F k m j t (bounds_under r (Calling i args a) m g.0)).steps g l x
beyond W n (Returning w []) r h F k m answers E v q u f s' j t g l other x = absurd (other w (ap (Returning w) (call_kont_is r u)))
beyond W n (Returning w (i ∷ a)) r h F k m answers E v q u f s' j t g l other x = walk_step W n (Returning w (i ∷ a)) r h F k m answers E v q u refl f (s' F k m j t (bounds_under r (Returning w (i ∷ a)) m g.0)).steps g l x

walk : (W : World) (n : ℕ) (r : Kont) (E : Exits) (v : Value) (q : Mem) → IsCall r → WalksTo W n r E v q
walk W zero r E v q u c h F k m answers s j t g l (inl x) = here W zero c r h F k m E v q s j t x.0 x.1
walk W zero r E v q u c h F k m answers s j t g l (inr x) = absurd x.1
walk W (suc n) r E v q u c h F k m answers s j t g l (inl x) = here W (suc n) c r h F k m E v q s j t x.0 x.1
walk W (suc n) r E v q u c h F k m answers s j t g l (inr x) = beyond W n c r h F k m answers E v q u (walk W n r E v q u) s j t g l x.0 x.1

-- a call among the states keeps its specification
call_meets : (W : World) → AllHold W → (n : ℕ) (f : Ident) (args : List Value) (r : Kont) (m : Mem) (answers : List Answer) → Good (Calling f args r) m → AllLawful W (suc n) answers (Calling f args r) m → CallMeets W (Calling f args r) m (run_on (run W n) answers (step W.program (Calling f args r) m))
call_meets W a n f args r m answers g l = λ v q x y h F k j t p.
    let s = all_keep W a (suc (suc (suc n))) (suc (suc n)) (omega arith) f y args h p in
    let r' = walk W (suc n) r (CallExits W f y) v q g.1 (Calling f args []) h F k m answers s j t g l (inr ((λ w e. call_not_returning e), x)) in
    (r'.0, r'.1, r'.2.1, r'.3, r'.4)

each_meets : (W : World) → AllHold W → (n : ℕ) (c : Config) (m : Mem) (answers : List Answer) → Good c m → AllLawful W (suc n) answers c m → CallMeets W c m (run_on (run W n) answers (step W.program c m))
each_meets W a n (Run s k act) m answers g l = tt
each_meets W a n (Calling f args r) m answers g l = call_meets W a n f args r m answers g l
each_meets W a n (Returning v k) m answers g l = tt

last_meets : (W : World) (c : Config) (m : Mem) → CallMeets W c m []
last_meets W (Run s k act) m = tt
last_meets W (Calling f args r) m = λ v q x. absurd x
last_meets W (Returning v k) m = tt

abbrev CallsMeetFrom : World → ℕ → Type 0
CallsMeetFrom W n = (answers : List Answer) (c : Config) (m : Mem) → Good c m → AllLawful W n answers c m → CallsMeet W (run W n answers c m)

calls_meet_on : (W : World) (n : ℕ) (answers : List Answer) (m : Mem) (o : Outcome) → CallsMeetFrom W n → GoodOutcome m o → lawful_on W (AllLawful W n) answers m o → CallsMeet W (run_on (run W n) answers o)
calls_meet_on W n answers m (Next d q) f g l = f answers d q g l
calls_meet_on W n [] m (Asks i args r) f g l = tt
calls_meet_on W n (a ∷ answers) m (Asks i args r) f g l = f answers (Returning a.value r) a.mem (answer_keeps m a.mem _ l.0.keeps g.0, g.1) l.1
calls_meet_on W n answers m (Ended v) f g l = tt
calls_meet_on W n answers m Stuck f g l = tt

calls_meet : (W : World) → AllHold W → (n : ℕ) → CallsMeetFrom W n
calls_meet W a zero answers c m g l = (last_meets W c m, tt)
calls_meet W a (suc n) answers c m g l =
    (each_meets W a n c m answers g l, calls_meet_on W n answers m (step W.program c m) (calls_meet W a n) (step_good W.program c m g) l)

-- where every body holds, a run from a call of main is sound
pub sound_run : (W : World) (main : Ident) (m : Mem) → AllHold W → (x : Env) (h F k : Heaplet) → W.pre main x [] h → Joins h F k → Fits k m → EndsWell (CallExits W main x)
    → (n : ℕ) (answers : List Answer) → AllLawful W n answers (Calling main [] []) m
    → NoneStuck W (run W n answers (Calling main [] []) m) × CallsMeet W (run W n answers (Calling main [] []) m)
sound_run W main m a x h F k p j t w n answers l = (
  none_stuck W n (CallExits W main x) w (Calling main [] []) h F k m answers (all_keep W a (suc (suc n)) (suc n) (omega arith) main x [] h p) j t (tt, tt) l,
  calls_meet W a n answers (Calling main [] []) m (tt, tt) l,
)
