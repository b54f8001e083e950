-- Safety of each statement, from what it needs.
use Rattle.std.proofs.Common.{◌≡◌, ℕ, zero, suc, Bool, true, cond, List, [], ◌∷◌, Option, Some, None, refl, sym, ◌∙◌, subst, ap, ap₂, arith}
use Rattle.std.specs.Prelude.{option_and_then}
use mathlib.Core.Former.{arity, this}
use Rattle.sqlite_items.specs.formers.items.Items.{the_former}
use Rattle.floyd_int.specs.declared.kinds.Value.{Value}
use Rattle.floyd_memval.specs.Chunks.{chunk_size, chunk_of}
use Rattle.floyd_memval.specs.Encoding.{encoding}
use Rattle.floyd_memval.proofs.RoundTrips.{length-encoding}
use Rattle.floyd_clight_memory.specs.Memory.{store_bytes}
use Rattle.floyd_clight.specs.Types.{type_of}
use Rattle.floyd_clight.specs.declared.syntax.Expr.{Expr}
use Rattle.floyd_clight.specs.declared.syntax.Stmt.{Stmt, Skip, Set, Assign, Call, If', Break, Continue, Switch', Row_of-Case, end_of-Stmt, more_of-Stmt}
use Rattle.floyd_clight_machine.specs.Looking.{Ident}
use Rattle.floyd_clight_machine.specs.Footprint.{chunk_spots, place_loads}
use Rattle.floyd_clight_machine.specs.Switching.{chosen}
use Rattle.floyd_clight_machine.specs.Machine.{Act, Run, Calling, Returning, Kloop1, Kloop2, Kswitch, Kcall, Next, Stuck, look, on_some, eval, eval_all, set_in, store_as, store_at, called, entering, is_true, switch_bits, loop, step}
use Rattle.floyd_clight_machine.specs.Touched.{loads, all_loads}
use Rattle.floyd_clight_machine.specs.Exits.{Exit, Normal, Broke, Continued, Returned, Part, Whole, resume}
use Rattle.floyd_clight_heap.specs.Heaplet.{Heaplet, Joins, OwnsFrom}
use Rattle.floyd_clight_heap.proofs.Sums.{part}
use Rattle.floyd_clight_heap.proofs.Stores.{owners_store}
use Rattle.floyd_clight_runs.specs.World.{Specs, World, has_result}
use Rattle.floyd_clight_runs.specs.Safe.{Exits, Safe, StepsTo, AllOwned}
use Rattle.floyd_clight_runs.specs.Calls.{CallExits, KeepsBelow}
use Rattle.floyd_clight_runs.specs.Needs.{SetFrom, AssignTo, CallOf, TestOf, BitsOf, first_exits, second_exits, switch_exits}
use Rattle.floyd_clight_runs.proofs.Safety.{Beside, one_less, frame, bind, done, continued, returned, quiet, quiet_step}
use Rattle.floyd_clight_runs.proofs.Blocks.{owned_spots}
use Rattle.floyd_clight_runs.proofs.Evaluated.{evaluated, evaluated_all, located, all_within_both}

pub set_safe : (W : World) (n : ℕ) (x : Ident) (e : Expr) (act : Act) (h : Heaplet) (E : Exits) → SetFrom W act h x e (λ a g. E (Normal a) g) → Safe W Part n (Run (Set x e) [] act) h E
set_safe W zero x e act h E q = tt
set_safe W (suc n) x e act h E q = λ F k m j t b.
    let r = evaluated W.program act h m e q.value (part j t) b.functions q.evaluates in
    record {
      steps = subst (λ o. StepsTo W (λ d g. Safe W Part n d g E) h F m (on_some o (λ v. Next (Run Skip [] (set_in (Some x) v act)) m))) (sym r.is)
          (h, k, j, t, done W n (set_in (Some x) q.value act) h E q.after);
      reads = r.reads;
      writes = tt;
    }

pub assign_safe : (W : World) (n : ℕ) (p e : Expr) (act : Act) (h : Heaplet) (E : Exits) → AssignTo W act h p e (λ a g. E (Normal a) g) → Safe W Part n (Run (Assign p e) [] act) h E
assign_safe W zero p e act h E q = tt
assign_safe W (suc n) p e act h E q = λ F k m j t b.
    let l = located W.program act h m p q.spot (part j t) b.functions q.locates in
    let r = evaluated W.program act h m e q.value (part j t) b.functions q.evaluates in
    let owns = subst (λ i. OwnsFrom i h q.spot.block q.spot.offset) (sym (length-encoding q.chunk q.value)) q.owned in
    let s = owners_store h F k m (encoding q.chunk q.value) q.spot.block q.spot.offset j t owns in
    let stored : store_at (type_of p) q.spot q.value m ≡ Some s.mem =
    ap (λ c. cond c (store_as (chunk_of (type_of p)) q.spot q.value m) None) q.typed
    ∙ ap (λ c. store_as c q.spot q.value m) q.chunked
    ∙ ap (λ c. cond c (store_bytes (encoding q.chunk q.value) m q.spot.block q.spot.offset) None) q.aligned ∙ s.is in
    let is : step W.program (Run (Assign p e) [] act) m ≡ Next (Run Skip [] act) s.mem =
    ap (λ o. on_some o (λ x. on_some (eval W.program m act e) (λ v. on_some (store_at (type_of p) x v m) (λ i. Next (Run Skip [] act) i)))) l.is
    ∙ ap (λ o. on_some o (λ v. on_some (store_at (type_of p) q.spot v m) (λ i. Next (Run Skip [] act) i))) r.is
    ∙ ap (λ o. on_some o (λ i. Next (Run Skip [] act) i)) stored in
    record {
      steps = subst (StepsTo W (λ d g. Safe W Part n d g E) h F m) (sym is) (_, _, s.joins, s.fits, done W n act _ E q.after);
      reads = all_within_both h (place_loads W.program.structs (look W.program act.blocks m) act.temps p) (loads W.program m act e) l.reads r.reads;
      writes = subst (AllOwned h) (sym (ap₂ chunk_spots q.chunked l.is)) (owned_spots (chunk_size q.chunk) h q.spot.block q.spot.offset q.owned);
    }

-- from the return of a call, on in the caller
call_exits_on : (W : World) (V : Specs) (n : ℕ) (to : Option Ident) (act : Act) (f : Ident) (x : V.With) (rest : Heaplet) (E : Exits)
    → ((v : Value) (g k : Heaplet) → has_result W.program f v ≡ true → V.post f x v g → Joins g rest k → E (Normal (set_in to v act)) k)
    → (e : Exit) (k : Heaplet) → Beside rest (CallExits W.program V f x) e k → Safe W Part n (resume (Kcall to act ∷ []) e) k E
call_exits_on W V n to act f x rest E after (Normal a) k b = absurd b.2
call_exits_on W V n to act f x rest E after (Broke a) k b = absurd b.2
call_exits_on W V n to act f x rest E after (Continued a) k b = absurd b.2
call_exits_on W V n to act f x rest E after (Returned v) k b =
    quiet W Part n (Returning v (Kcall to act ∷ [])) (Run Skip [] (set_in to v act)) k E refl (record { steps = λ m. refl; reads = λ m. refl; writes = λ m. refl })
    (done W n (set_in to v act) k E (after v b.0 k b.2.0 b.2.1 b.1))

pub call_safe : (W : World) (V : Specs) (n : ℕ) → KeepsBelow W V n → (to : Option Ident) (f : Expr) (es : List Expr) (act : Act) (h : Heaplet) (E : Exits) → CallOf W V act h to f es (λ a g. E (Normal a) g) → Safe W Part n (Run (Call to f es) [] act) h E
call_safe W V zero keeps to f es act h E q = tt
call_safe W V (suc n) keeps to f es act h E q = λ F k m j t b.
    let name = q.function.name in
    let s : Safe W Part n (Calling name q.args (Kcall to act ∷ [])) h E =
    bind W Whole Part n (Calling name q.args []) h (Beside q.rest (CallExits W.program V name q.with)) E (Kcall to act ∷ []) tt (call_exits_on W V n to act name q.with q.rest E q.after)
    (frame W Whole n (Calling name q.args []) q.needs q.rest h (CallExits W.program V name q.with) q.joins (keeps n (omega arith) name q.with q.args q.needs q.pre)) in
    let r = evaluated W.program act h m f q.callee (part j t) b.functions q.leads in
    let a = evaluated_all W.program act h m es q.args (part j t) b.functions q.evaluates in
    let is : step W.program (Run (Call to f es) [] act) m ≡ Next (Calling name q.args (Kcall to act ∷ [])) m =
    ap (λ o. on_some (option_and_then (called W.program (type_of f)) o) (λ g. on_some (eval_all W.program m act es) (λ args. entering g args (Kcall to act ∷ []) m))) r.is
    ∙ ap (λ o. on_some o (λ g. on_some (eval_all W.program m act es) (λ args. entering g args (Kcall to act ∷ []) m))) q.calls
    ∙ ap (λ o. on_some o (λ args. entering q.function args (Kcall to act ∷ []) m)) a.is
    ∙ ap (λ c. cond c (Next (Calling name q.args (Kcall to act ∷ [])) m) Stuck) q.typed in
    record {
      steps = subst (StepsTo W (λ d g. Safe W Part n d g E) h F m) (sym is) (h, k, j, t, s);
      reads = all_within_both h (loads W.program m act f) (all_loads W.program m act es) r.reads a.reads;
      writes = tt;
    }

abbrev branch : Expr → Stmt → Stmt → Stmt
branch e a b = If' e tt (more_of-Stmt a end_of-Stmt) tt (more_of-Stmt b end_of-Stmt)

pub branch_safe : (W : World) (n : ℕ) (e : Expr) (a b : Stmt) (act : Act) (h : Heaplet) (E : Exits) (c : Bool) → TestOf W act h e c → Safe W Part n (Run (cond c a b) [] act) h E → Safe W Part n (Run (branch e a b) [] act) h E
branch_safe W zero e a b act h E c q s = tt
branch_safe W (suc n) e a b act h E c q s = λ F k m j t i.
    let r = evaluated W.program act h m e q.value (part j t) i.functions q.evaluates in
    record {
      steps = subst (λ o. StepsTo W (λ d g. Safe W Part n d g E) h F m (on_some o (λ x. Next (Run (cond x a b) [] act) m))) (sym (ap (option_and_then is_true) r.is ∙ q.truth))
          (h, k, j, t, one_less W Part n (Run (cond c a b) [] act) h E s);
      reads = r.reads;
      writes = tt;
    }

switch_on : (W : World) (n : ℕ) (E : Exits) (e : Exit) (g : Heaplet) → switch_exits E e g → Safe W Part n (resume (Kswitch ∷ []) e) g E
switch_on W n E (Normal act) g p =
    quiet W Part n (Run Skip (Kswitch ∷ []) act) (Run Skip [] act) g E refl (record { steps = λ m. refl; reads = λ m. refl; writes = λ m. refl }) (done W n act g E p)
switch_on W n E (Broke act) g p =
    quiet W Part n (Run Break (Kswitch ∷ []) act) (Run Skip [] act) g E refl (record { steps = λ m. refl; reads = λ m. refl; writes = λ m. refl }) (done W n act g E p)
switch_on W n E (Continued act) g p =
    quiet W Part n (Run Continue (Kswitch ∷ []) act) (Run Continue [] act) g E refl (record { steps = λ m. refl; reads = λ m. refl; writes = λ m. refl }) (continued W n act g E p)
switch_on W n E (Returned v) g p = returned W Part n v g E p

pub switch_safe : (W : World) (n : ℕ) (e : Expr) (shape : List (Unit {0})) (cases : Row_of-Case (arity (the_former (this {0})) shape)) (act : Act) (h : Heaplet) (E : Exits) (i : ℕ) → BitsOf W act h e i
    → Safe W Part n (Run (chosen shape cases i) [] act) h (switch_exits E) → Safe W Part n (Run (Switch' e shape cases) [] act) h E
switch_safe W zero e shape cases act h E i q s = tt
switch_safe W (suc n) e shape cases act h E i q s = λ F k m j t b.
    let r = evaluated W.program act h m e q.value (part j t) b.functions q.evaluates in
    record {
      steps = subst (λ o. StepsTo W (λ d g. Safe W Part n d g E) h F m (on_some o (λ x. Next (Run (chosen shape cases x) (Kswitch ∷ []) act) m))) (sym (ap (option_and_then (switch_bits (type_of e))) r.is ∙ q.bits))
          (h, k, j, t, bind W Part Part n (Run (chosen shape cases i) [] act) h (switch_exits E) E (Kswitch ∷ []) tt (switch_on W n E) (one_less W Part n (Run (chosen shape cases i) [] act) h (switch_exits E) s));
      reads = r.reads;
      writes = tt;
    }

-- a loop, from its parts: I before it, C between its parts, and Q behind it where it is left by break
module _ (W : World) (a b : Stmt) (I C Q : Act → Heaplet → Type 0) (E : Exits) (left : (act : Act) (h : Heaplet) → Q act h → E (Normal act) h) where
  abbrev LoopSafe : ℕ → Type 0
  LoopSafe n = (act : Act) (h : Heaplet) → I act h → Safe W Part n (Run (loop a b) [] act) h E

  abbrev FirstSafe : ℕ → Type 0
  FirstSafe n = (act : Act) (h : Heaplet) → I act h → Safe W Part n (Run a [] act) h (first_exits C Q E)

  abbrev SecondSafe : ℕ → Type 0
  SecondSafe n = (act : Act) (h : Heaplet) → C act h → Safe W Part n (Run b [] act) h (second_exits I Q E)

  second_on : (n : ℕ) → LoopSafe n → (e : Exit) (g : Heaplet) → second_exits I Q E e g → Safe W Part n (resume (Kloop2 a b ∷ []) e) g E
  second_on n s (Normal act) g p =
      quiet W Part n (Run Skip (Kloop2 a b ∷ []) act) (Run (loop a b) [] act) g E refl (record { steps = λ m. refl; reads = λ m. refl; writes = λ m. refl }) (s act g p)
  second_on n s (Broke act) g p =
      quiet W Part n (Run Break (Kloop2 a b ∷ []) act) (Run Skip [] act) g E refl (record { steps = λ m. refl; reads = λ m. refl; writes = λ m. refl }) (done W n act g E (left act g p))
  second_on n s (Continued act) g p = absurd p
  second_on n s (Returned v) g p = returned W Part n v g E p

  second_part : (n : ℕ) → SecondSafe n → LoopSafe n → (act : Act) (g : Heaplet) → C act g → Safe W Part n (Run b (Kloop2 a b ∷ []) act) g E
  second_part n bs s act g p = bind W Part Part n (Run b [] act) g (second_exits I Q E) E (Kloop2 a b ∷ []) tt (second_on n s) (bs act g p)

  first_on : (n : ℕ) → SecondSafe n → LoopSafe n → (e : Exit) (g : Heaplet) → first_exits C Q E e g → Safe W Part n (resume (Kloop1 a b ∷ []) e) g E
  first_on n bs s (Normal act) g p =
      quiet W Part n (Run Skip (Kloop1 a b ∷ []) act) (Run b (Kloop2 a b ∷ []) act) g E refl (record { steps = λ m. refl; reads = λ m. refl; writes = λ m. refl }) (second_part n bs s act g p)
  first_on n bs s (Broke act) g p =
      quiet W Part n (Run Break (Kloop1 a b ∷ []) act) (Run Skip [] act) g E refl (record { steps = λ m. refl; reads = λ m. refl; writes = λ m. refl }) (done W n act g E (left act g p))
  first_on n bs s (Continued act) g p =
      quiet W Part n (Run Continue (Kloop1 a b ∷ []) act) (Run b (Kloop2 a b ∷ []) act) g E refl (record { steps = λ m. refl; reads = λ m. refl; writes = λ m. refl }) (second_part n bs s act g p)
  first_on n bs s (Returned v) g p = returned W Part n v g E p

  pub loop_safe : (n : ℕ) → FirstSafe n → SecondSafe n → LoopSafe n
  loop_safe zero as_ bs act h i = tt
  loop_safe (suc n) as_ bs act h i =
      let a1 : FirstSafe n = λ x g q. one_less W Part n (Run a [] x) g (first_exits C Q E) (as_ x g q) in
      let b1 : SecondSafe n = λ x g q. one_less W Part n (Run b [] x) g (second_exits I Q E) (bs x g q) in
      quiet_step W Part n (Run (loop a b) [] act) (Run a (Kloop1 a b ∷ []) act) h E refl (record { steps = λ m. refl; reads = λ m. refl; writes = λ m. refl })
      (bind W Part Part n (Run a [] act) h (first_exits C Q E) E (Kloop1 a b ∷ []) tt (first_on n b1 (loop_safe n a1 b1)) (a1 act h i))
