-- The laws of safety: fewer steps, consequence, frame, bind, and steps that touch no memory.
use Rattle.std.proofs.Common.{◌≡◌, ℕ, zero, suc, [], Option, Some, None, refl, sym, subst}
use Rattle.floyd_int.specs.declared.kinds.Value.{Value}
use Rattle.floyd_clight_memory.specs.Memory.{Mem}
use Rattle.floyd_clight.specs.declared.syntax.Stmt.{Skip, Break, Continue}
use Rattle.floyd_stub_machine.specs.Machine.{Act, Config, Run, Returning, Kont, Outcome, Next, Asks, Ended, Stuck, step, reads, writes}
use Rattle.floyd_stub_assert.specs.Heaplet.{Heaplet, Joins}
use Rattle.floyd_stub_runs.specs.World.{World}
use Rattle.floyd_stub_runs.specs.Safe.{Exit, Normal, Broke, Continued, Returned, Exits, Level, Part, exit_of, AllWithin, AllOwned, Lands, StepsTo, Now, Safe, with_normal}
use Rattle.floyd_stub_runs.proofs.HeapLaws.{assoc, assoc_back, all_within_more, all_owned_more}
use Rattle.floyd_stub_runs.proofs.Under.{Suits, SuitsPart, suits, under, over, resume, exit_under, no_exit_under, step_under, writes_under, bounds_under}

abbrev Reach : Type 1
Reach = Config → Heaplet → Type 0

steps_map : (W : World) (P Q : Reach) (h F : Heaplet) (m : Mem) (o : Outcome) → ((d : Config) (g : Heaplet) → P d g → Q d g) → StepsTo W P h F m o → StepsTo W Q h F m o
steps_map W P Q h F m (Next c n) f s = (s.0, s.1, s.2, s.3, f c s.0 s.4)
steps_map W P Q h F m (Asks g args k) f s =
    (s.0, λ v n l. let t = s.1 v n l in (t.0, t.1, t.2, t.3, f (Returning v k) t.0 t.4))
steps_map W P Q h F m (Ended v) f s = s
steps_map W P Q h F m Stuck f s = s

now_map : (W : World) (P Q : Reach) (c : Config) (h : Heaplet) (E E' : Exits) (e : Option Exit) → ((d : Config) (g : Heaplet) → P d g → Q d g) → ((x : Exit) (g : Heaplet) → E x g → E' x g) → Now W P c h E e → Now W Q c h E' e
now_map W P Q c h E E' (Some x) f g s = g x h s
now_map W P Q c h E E' None f g s = λ F k m j t b.
    let a = s F k m j t b in
    record { steps = steps_map W P Q h F m (step W.program c m) f a.steps; reads = a.reads; writes = a.writes }

-- fewer steps
pub one_less : (W : World) (l : Level) (n : ℕ) (c : Config) (h : Heaplet) (E : Exits) → Safe W l (suc n) c h E → Safe W l n c h E
one_less W l zero c h E s = tt
one_less W l (suc n) c h E s =
    now_map W (λ d g. Safe W l (suc n) d g E) (λ d g. Safe W l n d g E) c h E E (exit_of l c) (λ d g p. one_less W l n d g E p) (λ x g p. p) s

-- consequence
pub conseq : (W : World) (l : Level) (n : ℕ) (c : Config) (h : Heaplet) (E E' : Exits) → ((x : Exit) (g : Heaplet) → E x g → E' x g) → Safe W l n c h E → Safe W l n c h E'
conseq W l zero c h E E' f s = tt
conseq W l (suc n) c h E E' f s =
    now_map W (λ d g. Safe W l n d g E) (λ d g. Safe W l n d g E') c h E E' (exit_of l c) (λ d g p. conseq W l n d g E E' f p) f s

-- beside a heaplet G
abbrev pub Beside : Heaplet → Exits → Exits
Beside G E x k = (h : Heaplet) × Joins h G k × E x h

lands_beside : (P Q : Reach) (G F GF : Heaplet) (c : Config) (n : Mem) → ((d : Config) (g k : Heaplet) → Joins g G k → P d g → Q d k) → Joins G F GF → Lands P GF c n → Lands Q F c n
lands_beside P Q G F GF c n f j s =
    let r = assoc_back j s.2 in
    (r.0, s.1, r.2, s.3, f c s.0 r.0 r.1 s.4)

steps_beside : (W : World) (P Q : Reach) (h G hG F GF : Heaplet) (m : Mem) (o : Outcome) → ((d : Config) (g k : Heaplet) → Joins g G k → P d g → Q d k) → Joins h G hG → Joins G F GF → StepsTo W P h GF m o → StepsTo W Q hG F m o
steps_beside W P Q h G hG F GF m (Next c n) f j i s = lands_beside P Q G F GF c n f i s
steps_beside W P Q h G hG F GF m (Asks g args k) f j i s =
    let may = s.0 in
    let r = assoc may.3 j in
    ((may.0, may.1, r.0, r.2, may.4), λ v n l. lands_beside P Q G F GF (Returning v k) n f i (s.1 v n l))
steps_beside W P Q h G hG F GF m (Ended v) f j i s = s
steps_beside W P Q h G hG F GF m Stuck f j i s = s

now_beside : (W : World) (P Q : Reach) (c : Config) (h G hG : Heaplet) (E : Exits) (e : Option Exit) → ((d : Config) (g k : Heaplet) → Joins g G k → P d g → Q d k) → Joins h G hG → Now W P c h E e → Now W Q c hG (Beside G E) e
now_beside W P Q c h G hG E (Some x) f j s = (h, j, s)
now_beside W P Q c h G hG E None f j s = λ F k m i t b.
    let r = assoc j i in
    let a = s r.0 k m r.2 t b in
    record {
      steps = steps_beside W P Q h G hG F r.0 m (step W.program c m) f j r.1 a.steps;
      reads = all_within_more j (reads c m) a.reads;
      writes = all_owned_more j (writes c m) a.writes;
    }

-- the frame
pub frame : (W : World) (l : Level) (n : ℕ) (c : Config) (h G hG : Heaplet) (E : Exits) → Joins h G hG → Safe W l n c h E → Safe W l n c hG (Beside G E)
frame W l zero c h G hG E j s = tt
frame W l (suc n) c h G hG E j s =
    now_beside W (λ d g. Safe W l n d g E) (λ d g. Safe W l n d g (Beside G E)) c h G hG E (exit_of l c) (λ d g k i p. frame W l n d g G k E i p) j s

steps_over : (W : World) (P Q : Reach) (r : Kont) (h F : Heaplet) (m : Mem) (o : Outcome) → ((d : Config) (g : Heaplet) → P d g → Q (under r d) g) → StepsTo W P h F m o → StepsTo W Q h F m (over r o)
steps_over W P Q r h F m (Next c n) f s = (s.0, s.1, s.2, s.3, f c s.0 s.4)
steps_over W P Q r h F m (Asks g args k) f s =
    (s.0, λ v n l. let t = s.1 v n l in (t.0, t.1, t.2, t.3, f (Returning v k) t.0 t.4))
steps_over W P Q r h F m (Ended v) f s = s
steps_over W P Q r h F m Stuck f s = s

bind_now : (W : World) (l j : Level) (P Q : Reach) (c : Config) (h : Heaplet) (E E' : Exits) (r : Kont) → SuitsPart l r → Suits l r → ((d : Config) (g : Heaplet) → P d g → Q (under r d) g) → ((e : Exit) (g : Heaplet) → E e g → Now W Q (resume r e) g E' (exit_of j (resume r e))) → (e : Option Exit) → exit_of l c ≡ e → Now W P c h E e → Now W Q (under r c) h E' (exit_of j (under r c))
bind_now W l j P Q c h E E' r u t f g (Some x) eq s = subst (λ d. Now W Q d h E' (exit_of j d)) (sym (exit_under l c r x eq)) (g x h s)
bind_now W l j P Q c h E E' r u t f g None eq s =
    subst (Now W Q (under r c) h E') (sym (no_exit_under l j c r u eq)) (λ F k m i fit b.
    let a = s F k m i fit (bounds_under r c m b) in
    record {
      steps = subst (StepsTo W Q h F m) (sym (step_under W.program l c r m t eq)) (steps_over W P Q r h F m (step W.program c m) f a.steps);
      reads = a.reads;
      writes = subst (AllOwned h) (sym (writes_under l c r m t eq)) a.writes;
    })

-- on from the exits, under further frames
pub bind : (W : World) (l j : Level) (n : ℕ) (c : Config) (h : Heaplet) (E E' : Exits) (r : Kont) → SuitsPart l r → ((e : Exit) (g : Heaplet) → E e g → Safe W j n (resume r e) g E') → Safe W l n c h E → Safe W j n (under r c) h E'
bind W l j zero c h E E' r u g s = tt
bind W l j (suc n) c h E E' r u g s =
    bind_now W l j (λ d k. Safe W l n d k E) (λ d k. Safe W j n d k E') c h E E' r u (suits l r u)
    (λ d k p. bind W l j n d k E E' r u (λ e q x. one_less W j n (resume r e) q E' (g e q x)) p)
    g (exit_of l c) refl s

-- a part is done
pub done : (W : World) (n : ℕ) (act : Act) (h : Heaplet) (E : Exits) → E (Normal act) h → Safe W Part n (Run Skip [] act) h E
done W zero act h E p = tt
done W (suc n) act h E p = p

pub broke : (W : World) (n : ℕ) (act : Act) (h : Heaplet) (E : Exits) → E (Broke act) h → Safe W Part n (Run Break [] act) h E
broke W zero act h E p = tt
broke W (suc n) act h E p = p

pub continued : (W : World) (n : ℕ) (act : Act) (h : Heaplet) (E : Exits) → E (Continued act) h → Safe W Part n (Run Continue [] act) h E
continued W zero act h E p = tt
continued W (suc n) act h E p = p

-- a call is over
pub returned : (W : World) (l : Level) (n : ℕ) (v : Value) (h : Heaplet) (E : Exits) → E (Returned v) h → Safe W l n (Returning v []) h E
returned W l zero v h E p = tt
returned W l (suc n) v h E p = p

-- a step that touches no memory
pub record Quiet (W : World) (c d : Config) : Type 0 where
  pub steps : (m : Mem) → step W.program c m ≡ Next d m
  pub reads : (m : Mem) → reads c m ≡ []
  pub writes : (m : Mem) → writes c m ≡ []

pub quiet_step : (W : World) (l : Level) (n : ℕ) (c d : Config) (h : Heaplet) (E : Exits) → exit_of l c ≡ None → Quiet W c d → Safe W l n d h E → Safe W l (suc n) c h E
quiet_step W l n c d h E e q s =
    subst (Now W (λ d g. Safe W l n d g E) c h E) (sym e) (λ F k m j t b. record {
      steps = subst (StepsTo W (λ d g. Safe W l n d g E) h F m) (sym (q.steps m)) (h, k, j, t, s);
      reads = subst (AllWithin h) (sym (q.reads m)) tt;
      writes = subst (AllOwned h) (sym (q.writes m)) tt;
    })

pub quiet : (W : World) (l : Level) (n : ℕ) (c d : Config) (h : Heaplet) (E : Exits) → exit_of l c ≡ None → Quiet W c d → Safe W l n d h E → Safe W l n c h E
quiet W l zero c d h E e q s = tt
quiet W l (suc n) c d h E e q s = quiet_step W l n c d h E e q (one_less W l n d h E s)

-- with the normal exit as it was, exits are as they were
pub same_exits : (E : Exits) (x : Exit) (h : Heaplet) → with_normal (λ act g. E (Normal act) g) E x h → E x h
same_exits E (Normal act) h p = p
same_exits E (Broke act) h p = p
same_exits E (Continued act) h p = p
same_exits E (Returned v) h p = p
