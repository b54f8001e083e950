-- All calls keep their specifications, for every number of steps.
use Rattle.std.proofs.Common.{◌≡◌, ℕ, zero, suc, ◌<◌, List, [], Option, Some, None, refl, sym, ◌∙◌, subst, ap, arith}
use Rattle.floyd_int.specs.declared.kinds.Value.{Value}
use Rattle.floyd_int.specs.declared.kinds.Value.TheVariants.{Vundef}
use Rattle.floyd_clight_memory.specs.Memory.{Mem}
use Rattle.floyd_ctypes.specs.declared.ctype.CType.{CType}
use Rattle.floyd_stub_machine.specs.Evaluation.{Ident, Temps, unset}
use Rattle.floyd_clight.specs.Flat.{flat}
use Rattle.floyd_stub_machine.specs.Machine.{Act, Run, Calling, Returning, Next, Fun, Def, Own, Ext, on_some, bind_params, entered, step, step_call}
use Rattle.floyd_stub_assert.specs.Heaplet.{Heaplet, Joins, Fits}
use Rattle.floyd_stub_assert.specs.Data.{Env}
use Rattle.floyd_stub_runs.specs.World.{World}
use Rattle.floyd_stub_runs.specs.Runs.{IsLawful}
use Rattle.floyd_stub_runs.specs.Safe.{Exit, Normal, Broke, Continued, Returned, Exits, Part, Whole, Safe, StepsTo, Lands, CallExits, KeepsBelow, SafeAll}
use Rattle.floyd_stub_runs.proofs.HeapLaws.{right_empty}
use Rattle.floyd_stub_runs.proofs.Under.{resume}
use Rattle.floyd_stub_runs.proofs.Safety.{bind, returned}
use Rattle.floyd_stub_runs.proofs.Flats.{flat_safe}
use Rattle.floyd_stub_runs.proofs.Steps.{ReturnOf, end_safe}

-- the exits of a body: at its end a return may be done
abbrev pub body_exits : World → Ident → Env → Exits
body_exits W f x (Normal act) h = ReturnOf act h (CallExits W f x) Vundef
body_exits W f x (Broke act) h = ⊥
body_exits W f x (Continued act) h = ⊥
body_exits W f x (Returned v) h = CallExits W f x (Returned v) h

abbrev pub start_act : Fun → Temps → Act
start_act fn temps = record { result = fn.result; temps = temps; blocks = [] }

-- from its start a body is safe
pub record StartsWith (W : World) (f : Ident) (fn : Fun) (x : Env) (args : List Value) (h : Heaplet) (n : ℕ) : Type 0 where
  pub temps : Temps
  pub binds : bind_params fn.params args unset ≡ Some temps
  pub runs : SafeAll W n (flat fn.body) (body_exits W f x) (start_act fn temps) h

abbrev pub BodyHolds : World → Ident → Fun → ℕ → Type 0
BodyHolds W f fn n = KeepsBelow W n → (x : Env) (args : List Value) (h : Heaplet) → W.pre f x args h → StartsWith W f fn x args h n

abbrev pub DefHolds : World → Ident → Option Def → Type 0
DefHolds W f None = (x : Env) (args : List Value) (h : Heaplet) → W.pre f x args h → ⊥
DefHolds W f (Some (Own fn)) = (n : ℕ) → BodyHolds W f fn n
DefHolds W f (Some (Ext result)) = Unit {0}

-- what is proved of each function of a program
abbrev pub AllHold : World → Type 0
AllHold W = (f : Ident) → DefHolds W f (W.program.functions f)

from_body : (W : World) (n : ℕ) (f : Ident) (x : Env) (e : Exit) (g : Heaplet) → body_exits W f x e g → Safe W Whole n (resume [] e) g (CallExits W f x)
from_body W n f x (Normal act) g p = end_safe W n act g (CallExits W f x) p
from_body W n f x (Broke act) g p = absurd p
from_body W n f x (Continued act) g p = absurd p
from_body W n f x (Returned v) g p = returned W Whole n v g (CallExits W f x) p

own_call : (W : World) (f : Ident) (fn : Fun) (x : Env) (args : List Value) (h : Heaplet) (n : ℕ) → W.program.functions f ≡ Some (Own fn) → StartsWith W f fn x args h n → Safe W Whole (suc n) (Calling f args []) h (CallExits W f x)
own_call W f fn x args h n e s = λ F k m j t b.
    let act = start_act fn s.temps in
    let is : step W.program (Calling f args []) m ≡ Next (Run fn.body [] act) m =
    ap (λ d. step_call d f args [] m) e ∙ ap (λ o. on_some o (entered fn [] m)) s.binds in
    record {
      steps = subst (StepsTo W (λ d g. Safe W Whole n d g (CallExits W f x)) h F m) (sym is)
          (h, k, j, t, bind W Part Whole n (Run fn.body [] act) h (body_exits W f x) (CallExits W f x) [] tt (from_body W n f x) (flat_safe W n fn.body (body_exits W f x) act h s.runs));
      reads = tt;
      writes = tt;
    }

answered : (W : World) (f : Ident) (res : CType) (x : Env) (args : List Value) (h F k : Heaplet) (m : Mem) (n : ℕ) → W.program.functions f ≡ Some (Ext res) → W.pre f x args h → Joins h F k → Fits k m → (v : Value) (q : Mem) → IsLawful W f args m v q → Lands (λ d g. Safe W Whole n d g (CallExits W f x)) F (Returning v []) q
answered W f res x args h F k m n e p j t v q l =
    let r = l.meets x h F k j t p in
    (r.0, r.1, r.3, r.4, returned W Whole n v r.0 (CallExits W f x) (l.fits, r.2))

ext_call : (W : World) (f : Ident) (res : CType) (x : Env) (args : List Value) (h : Heaplet) (n : ℕ) → W.program.functions f ≡ Some (Ext res) → W.pre f x args h → Safe W Whole (suc n) (Calling f args []) h (CallExits W f x)
ext_call W f res x args h n e p = λ F k m j t b.
    record {
      steps = subst (λ d. StepsTo W (λ c g. Safe W Whole n c g (CallExits W f x)) h F m (step_call d f args [] m)) (sym e)
          ((x, h, _, right_empty h, p), answered W f res x args h F k m n e p j t);
      reads = tt;
      writes = tt;
    }

call_keeps : (W : World) (n : ℕ) (f : Ident) (x : Env) (args : List Value) (h : Heaplet) → ((i : ℕ) → i < n → KeepsBelow W i) → W.pre f x args h → (d : Option Def) → W.program.functions f ≡ d → DefHolds W f d → Safe W Whole n (Calling f args []) h (CallExits W f x)
call_keeps W zero f x args h k p d e q = tt
call_keeps W (suc n) f x args h k p None e q = absurd (q x args h p)
call_keeps W (suc n) f x args h k p (Some (Own fn)) e q = own_call W f fn x args h n e (q n (k n (omega arith)) x args h p)
call_keeps W (suc n) f x args h k p (Some (Ext res)) e q = ext_call W f res x args h n e p

less : (W : World) (n i : ℕ) → KeepsBelow W n → i < suc n → KeepsBelow W i
less W n i k lt = λ j u. k j (omega arith)

pub all_keep : (W : World) → AllHold W → (n : ℕ) → KeepsBelow W n
all_keep W q zero = λ j h. absurd (omega arith)
all_keep W q (suc n) = λ j u f x args g p. call_keeps W j f x args g (λ i lt. less W n i (all_keep W q n) (omega arith)) p (W.program.functions f) refl (q f)
