-- All calls keep their specifications, for every number of steps.
use Rattle.std.proofs.Common.{◌≡◌, ℕ, zero, suc, ◌<◌, List, [], Some, refl, sym, ◌∙◌, subst, ap, arith}
use Rattle.floyd_int.specs.declared.kinds.Value.{Value}
use Rattle.floyd_clight_memory.specs.Memory.{Mem}
use Rattle.floyd_clight_machine.specs.Types.{Signature}
use Rattle.floyd_clight_machine.specs.Looking.{Ident}
use Rattle.floyd_clight_machine.specs.Machine.{Act, Run, Calling, Returning, Next, Fun, Def, Own, Ext, FunctionBlock, function_named, on_some, alloc_all, entered, step, step_call, step_def}
use Rattle.floyd_clight_machine.specs.Exits.{Exit, Normal, Broke, Continued, Returned, Part, Whole, resume}
use Rattle.floyd_clight_heap.specs.Heaplet.{Heaplet, empty, Joins, Fits}
use Rattle.floyd_clight_heap.proofs.Sums.{assoc_back, one_sum, right_empty}
use Rattle.floyd_clight_runs.specs.World.{Specs, World}
use Rattle.floyd_clight_runs.specs.Runs.{IsLawful}
use Rattle.floyd_clight_runs.specs.Safe.{Exits, Safe, StepsTo, Lands}
use Rattle.floyd_clight_runs.specs.Calls.{CallExits, KeepsFor, KeepsBelow, Gives, body_exits, start_act, StartsWith, AllHold}
use Rattle.floyd_clight_runs.proofs.Safety.{Beside, conseq, frame, bind, returned}
use Rattle.floyd_clight_runs.proofs.Blocks.{alloced_all}
use Rattle.floyd_clight_runs.proofs.Flats.{flat_safe}
use Rattle.floyd_clight_runs.proofs.Returns.{end_safe}

from_body : (W : World) (n : ℕ) (E : Exits) (e : Exit) (g : Heaplet) → ((act : Act) (h : Heaplet) → E (Normal act) h → ⊥) → body_exits E e g → Safe W Whole n (resume [] e) g E
from_body W n E (Normal act) g ne p = end_safe W n act g E p
from_body W n E (Broke act) g ne p = absurd p
from_body W n E (Continued act) g ne p = absurd p
from_body W n E (Returned v) g ne p = returned W Whole n v g E p

-- the first step of a call of an own function
own_is : (W : World) (f : Ident) (g : FunctionBlock) (fn : Fun) (args : List Value) (m : Mem) → function_named W.program f ≡ Some g → g.def ≡ Own fn → step W.program (Calling f args []) m ≡ step_def W.program.structs (Own fn) f args [] m
own_is W f g fn args m e d = ap (λ o. step_call W.program.structs o f args [] m) e ∙ ap (λ x. step_def W.program.structs x f args [] m) d

own_call : (W : World) (f : Ident) (g : FunctionBlock) (fn : Fun) (args : List Value) (h : Heaplet) (E : Exits) (n : ℕ) → ((act : Act) (h : Heaplet) → E (Normal act) h → ⊥) → function_named W.program f ≡ Some g → g.def ≡ Own fn → StartsWith W fn args h E n → Safe W Whole (suc n) (Calling f args []) h E
own_call W f g fn args h E n ne e d s = λ F k m j t b.
    let a = alloced_all W.program.structs fn.locals k m s.sized t in
    let act = start_act fn s.temps a.placed.blocks in
    let r = assoc_back j a.joins in
    let is : step W.program (Calling f args []) m ≡ Next (Run fn.body [] act) a.placed.mem =
    own_is W f g fn args m e d
    ∙ ap (λ o. on_some o (λ temps. on_some (alloc_all W.program.structs fn.locals m) (entered fn temps []))) s.binds
    ∙ ap (λ o. on_some o (entered fn s.temps [])) a.is in
    record {
      steps = subst (StepsTo W (λ c q. Safe W Whole n c q E) h F m) (sym is) (
        r.0,
        a.sum,
        r.2,
        a.fits,
        bind W Part Whole n (Run fn.body [] act) r.0 (body_exits E) E [] tt (λ x q p. from_body W n E x q ne p)
            (flat_safe W n fn.body (body_exits E) act r.0 (s.runs a.placed.blocks a.locals r.0 a.blocks a.distinct a.fresh r.1)),
      );
      reads = tt;
      writes = tt;
    }

-- the first step of a call of an external one
ext_is : (W : World) (f : Ident) (g : FunctionBlock) (type : Signature) (args : List Value) (m : Mem) → function_named W.program f ≡ Some g → g.def ≡ Ext type → step W.program (Calling f args []) m ≡ step_def W.program.structs (Ext type) f args [] m
ext_is W f g type args m e d = ap (λ o. step_call W.program.structs o f args [] m) e ∙ ap (λ x. step_def W.program.structs x f args [] m) d

answered : (W : World) (f : Ident) (x : W.own.With) (args : List Value) (h F k : Heaplet) (m : Mem) (n : ℕ) → W.own.pre f x args h → Joins h F k → Fits k m → (v : Value) (q : Mem) → IsLawful W f args m v q → Lands (λ d g. Safe W Whole n d g (CallExits W.program W.own f x)) F (Returning v []) q
answered W f x args h F k m n p j t v q l =
    let r = l.meets x h F k j t p in
    (r.0, r.1, r.3, r.4, returned W Whole n v r.0 (CallExits W.program W.own f x) (l.typed, r.2))

ext_call : (W : World) (f : Ident) (g : FunctionBlock) (type : Signature) (x : W.own.With) (args : List Value) (h : Heaplet) (n : ℕ) → function_named W.program f ≡ Some g → g.def ≡ Ext type → W.own.pre f x args h → Safe W Whole (suc n) (Calling f args []) h (CallExits W.program W.own f x)
ext_call W f g type x args h n e d p = λ F k m j t b.
    record {
      steps = subst (StepsTo W (λ c q. Safe W Whole n c q (CallExits W.program W.own f x)) h F m) (sym (ext_is W f g type args m e d))
          ((x, h, _, right_empty h, p), answered W f x args h F k m n p j t);
      reads = tt;
      writes = tt;
    }

-- what follows from other specifications is kept with them
given_exits : (W : World) (V : Specs) (f : Ident) (x : W.own.With) (y : V.With) (rest : Heaplet) → ((v : Value) (g k : Heaplet) → W.own.post f x v g → Joins g rest k → V.post f y v k) → (e : Exit) (k : Heaplet) → Beside rest (CallExits W.program W.own f x) e k → CallExits W.program V f y e k
given_exits W V f x y rest p (Normal act) k b = absurd b.2
given_exits W V f x y rest p (Broke act) k b = absurd b.2
given_exits W V f x y rest p (Continued act) k b = absurd b.2
given_exits W V f x y rest p (Returned v) k b = (b.2.0, p v b.0 k b.2.1 b.1)

pub keeps_given : (W : World) (V : Specs) (n : ℕ) → Gives W.own V → KeepsFor W W.own n → KeepsFor W V n
keeps_given W V n given keeps f x args h p =
    let s = given f x args h p in
    conseq W Whole n (Calling f args []) h (Beside s.rest (CallExits W.program W.own f s.with)) (CallExits W.program V f x) (given_exits W V f s.with x s.rest s.post)
    (frame W Whole n (Calling f args []) s.here s.rest h (CallExits W.program W.own f s.with) s.joins (keeps f s.with args s.here s.pre))

pub below_given : (W : World) (V : Specs) (n : ℕ) → Gives W.own V → KeepsBelow W W.own n → KeepsBelow W V n
below_given W V n given keeps = λ j lt. keeps_given W V j given (keeps j lt)

def_keeps : (W : World) (n : ℕ) (f : Ident) (g : FunctionBlock) (x : W.own.With) (args : List Value) (h : Heaplet) → AllHold W → KeepsBelow W W.own n → W.own.pre f x args h → function_named W.program f ≡ Some g → (d : Def) → g.def ≡ d → Safe W Whole (suc n) (Calling f args []) h (CallExits W.program W.own f x)
def_keeps W n f g x args h a k p e (Own fn) d =
    let q = a.bodies f g fn e d in
    own_call W f g fn args h (CallExits W.program W.own f x) n (λ act i z. z) e d (q.body n (below_given W q.calls n q.given k) x args h p)
def_keeps W n f g x args h a k p e (Ext type) d = ext_call W f g type x args h n e d p

call_keeps : (W : World) (n : ℕ) (f : Ident) (x : W.own.With) (args : List Value) (h : Heaplet) → AllHold W → ((i : ℕ) → i < n → KeepsBelow W W.own i) → W.own.pre f x args h → Safe W Whole n (Calling f args []) h (CallExits W.program W.own f x)
call_keeps W zero f x args h a k p = tt
call_keeps W (suc n) f x args h a k p =
    let g = a.known f x args h p in
    def_keeps W n f g.0 x args h a (k n (omega arith)) p g.1 g.0.def refl

less : (W : World) (n i : ℕ) → KeepsBelow W W.own n → i < suc n → KeepsBelow W W.own i
less W n i k lt = λ j u. k j (omega arith)

pub all_keep : (W : World) → AllHold W → (n : ℕ) → KeepsBelow W W.own n
all_keep W q zero = λ j h. absurd (omega arith)
all_keep W q (suc n) = λ j u f x args g p. call_keeps W j f x args g q (λ i lt. less W n i (all_keep W q n) (omega arith)) p

-- specifications follow from themselves
pub gives_self : (U : Specs) → Gives U U
gives_self U f x args h p = record {
  with = x;
  here = h;
  rest = empty;
  joins = right_empty h;
  pre = p;
  post = λ v g k q j. subst (U.post f x v) (one_sum (right_empty g) j) q;
}
