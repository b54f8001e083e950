-- Returns, and the end of a function.
use Rattle.std.proofs.Common.{◌≡◌, ℕ, zero, suc, [], Some, None, cond, sym, ◌∙◌, subst, ap}
use Rattle.floyd_int.specs.declared.kinds.Value.{Value}
use Rattle.floyd_int.specs.declared.kinds.Value.TheVariants.{Vundef}
use Rattle.floyd_clight_memory.specs.Memory.{Mem}
use Rattle.floyd_clight.specs.declared.syntax.Expr.{Expr}
use Rattle.floyd_clight.specs.declared.syntax.Stmt.{Skip, Return}
use Rattle.floyd_clight_machine.specs.Machine.{Act, Run, Returning, Next, Stuck, on_some, free_all, finish}
use Rattle.floyd_clight_machine.specs.Touched.{freed_spots}
use Rattle.floyd_clight_machine.specs.Exits.{Returned, Part, Whole}
use Rattle.floyd_clight_machine.specs.Bounds.{AllLocal}
use Rattle.floyd_clight_machine.proofs.Under.{locals_front}
use Rattle.floyd_clight_heap.specs.Heaplet.{Heaplet, Joins, Fits}
use Rattle.floyd_clight_heap.proofs.Sums.{assoc, part}
use Rattle.floyd_clight_runs.specs.World.{World}
use Rattle.floyd_clight_runs.specs.Safe.{Exits, Safe, StepsTo, AllOwned}
use Rattle.floyd_clight_runs.specs.Calls.{ReturnOf}
use Rattle.floyd_clight_runs.specs.Needs.{ReturnFrom}
use Rattle.floyd_clight_runs.proofs.Safety.{returned, all_owned_more}
use Rattle.floyd_clight_runs.proofs.Blocks.{freed_all, owned_freed}
use Rattle.floyd_clight_runs.proofs.Evaluated.{evaluated}

-- a return beside a frame
pub record Finishes (act : Act) (v : Value) (F : Heaplet) (m : Mem) (E : Exits) : Type 0 where
  pub mem : Mem
  pub is : finish act v [] m ≡ Next (Returning v []) mem
  pub rest : Heaplet
  pub sum : Heaplet
  pub joins : Joins rest F sum
  pub fits : Fits sum mem
  pub after : E (Returned v) rest

pub finishes : (act : Act) (v : Value) (h F k : Heaplet) (m : Mem) (E : Exits) → AllLocal act.blocks m → ReturnOf act h E v → Joins h F k → Fits k m → Finishes act v F m E
finishes act v h F k m E l q j t =
    let r = assoc q.joins j in
    let f = freed_all act.blocks m q.locals r.0 k l q.owned r.2 t in
    record {
      mem = f.mem;
      is = ap (λ b. cond b (on_some (free_all act.blocks m) (λ n. Next (Returning v []) n)) Stuck) q.typed ∙ ap (λ o. on_some o (λ n. Next (Returning v []) n)) f.is;
      rest = q.rest;
      sum = r.0;
      joins = r.1;
      fits = f.fits;
      after = q.after;
    }

pub freed_in : (act : Act) (v : Value) (h : Heaplet) (m : Mem) (E : Exits) → AllLocal act.blocks m → ReturnOf act h E v → AllOwned h (freed_spots act.blocks m)
freed_in act v h m E l q = all_owned_more q.joins (freed_spots act.blocks m) (owned_freed act.blocks m q.locals l q.owned)

-- the end of a function
pub end_safe : (W : World) (n : ℕ) (act : Act) (h : Heaplet) (E : Exits) → ReturnOf act h E Vundef → Safe W Whole n (Run Skip [] act) h E
end_safe W zero act h E q = tt
end_safe W (suc n) act h E q = λ F k m j t b.
    let l = locals_front act.blocks [] m b.locals in
    let f = finishes act Vundef h F k m E l q j t in
    record {
      steps = subst (StepsTo W (λ d g. Safe W Whole n d g E) h F m) (sym f.is) (f.rest, f.sum, f.joins, f.fits, returned W Whole n Vundef f.rest E f.after);
      reads = tt;
      writes = freed_in act Vundef h m E l q;
    }

-- the value of e is returned
pub return_safe : (W : World) (n : ℕ) (e : Expr) (act : Act) (h : Heaplet) (E : Exits) → ReturnFrom W act h e E → Safe W Part n (Run (Return (Some e)) [] act) h E
return_safe W zero e act h E q = tt
return_safe W (suc n) e act h E q = λ F k m j t b.
    let l = locals_front act.blocks [] m b.locals in
    let r = evaluated W.program act h m e q.value (part j t) b.functions q.evaluates in
    let f = finishes act q.value h F k m E l q.returns j t in
    record {
      steps = subst (StepsTo W (λ d g. Safe W Part n d g E) h F m) (sym (ap (λ o. on_some o (λ v. finish act v [] m)) r.is ∙ f.is))
          (f.rest, f.sum, f.joins, f.fits, returned W Part n q.value f.rest E f.after);
      reads = r.reads;
      writes = freed_in act q.value h m E l q.returns;
    }

-- a return without a value
pub return_nothing_safe : (W : World) (n : ℕ) (act : Act) (h : Heaplet) (E : Exits) → ReturnOf act h E Vundef → Safe W Part n (Run (Return None) [] act) h E
return_nothing_safe W zero act h E q = tt
return_nothing_safe W (suc n) act h E q = λ F k m j t b.
    let l = locals_front act.blocks [] m b.locals in
    let f = finishes act Vundef h F k m E l q j t in
    record {
      steps = subst (StepsTo W (λ d g. Safe W Part n d g E) h F m) (sym f.is) (f.rest, f.sum, f.joins, f.fits, returned W Part n Vundef f.rest E f.after);
      reads = tt;
      writes = freed_in act Vundef h m E l q;
    }
