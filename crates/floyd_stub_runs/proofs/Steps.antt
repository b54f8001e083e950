-- Safety of the statements of a function, from what they need.
use Rattle.std.proofs.Common.{◌≡◌, ℕ, zero, suc, true, [], Some, cond, refl, sym, ◌∙◌, subst, ap, ap₂}
use Rattle.std.specs.Prelude.{option_and_then}
use Rattle.floyd_int.specs.declared.kinds.Value.{Value}
use Rattle.floyd_int.specs.declared.kinds.Value.TheVariants.{Vundef}
use Rattle.floyd_clight_memory.specs.Memory.{Mem}
use Rattle.floyd_ctypes.specs.Structs.{Structs}
use Rattle.floyd_ctypes.specs.Has.{has}
use Rattle.floyd_clight.specs.declared.syntax.Expr.{Expr, Const, Temp, Var, Deref', AddrOf', Unary', Binary', Cast', Field', SizeOf, end_of-Expr, more_of-Expr}
use Rattle.floyd_clight.specs.declared.syntax.Stmt.{Skip, Set, Return}
use Rattle.floyd_stub_machine.specs.Evaluation.{Ident, Temps, Look, unary_value, binary_value, cast_value, eval_by}
use Rattle.floyd_clight.specs.Types.{type_of}
use Rattle.floyd_stub_machine.specs.Machine.{Act, Run, Returning, Kont, Next, Stuck, call_kont, on_some, look, eval, set_in, free_all, finish, all_spots}
use Rattle.floyd_stub_assert.specs.Heaplet.{Heaplet, Fits, seen}
use Rattle.floyd_stub_runs.specs.World.{World}
use Rattle.floyd_stub_runs.specs.Safe.{Normal, Returned, Exits, Part, Whole, Safe, StepsTo, AllOwned}
use Rattle.floyd_stub_runs.proofs.HeapLaws.{part}
use Rattle.floyd_stub_runs.proofs.Safety.{done, returned}

-- no expression looks at a place yet
same_value : (S : Structs) (l j : Look) (temps : Temps) (e : Expr) → eval_by S l temps e ≡ eval_by S j temps e
same_value S l j temps (Const v t) = refl
same_value S l j temps (Temp x t) = refl
same_value S l j temps (Var b x t) = refl
same_value S l j temps (Deref' p (more_of-Expr e end_of-Expr) t) = refl
same_value S l j temps (AddrOf' p (more_of-Expr e end_of-Expr) t) = refl
same_value S l j temps (Unary' op p (more_of-Expr e end_of-Expr) t) = ap (option_and_then (unary_value op (type_of e))) (same_value S l j temps e)
same_value S l j temps (Binary' op p (more_of-Expr a end_of-Expr) q (more_of-Expr b end_of-Expr) t) =
    ap₂ (λ x y. option_and_then (λ v. option_and_then (binary_value op (type_of a) (type_of b) v) y) x) (same_value S l j temps a) (same_value S l j temps b)
same_value S l j temps (Cast' p (more_of-Expr e end_of-Expr) t) = ap (option_and_then (cast_value (type_of e) t)) (same_value S l j temps e)
same_value S l j temps (Field' p (more_of-Expr e end_of-Expr) x t) = refl
same_value S l j temps (SizeOf of t) = refl

-- what an expression gives over a heaplet, it gives over each memory that it fits
pub eval_fits : (S : Structs) (h : Heaplet) (m : Mem) → Fits h m → (act : Act) (e : Expr) (v : Value) → eval_by S (seen h) act.temps e ≡ Some v → eval S m act e ≡ Some v
eval_fits S h m f act e v i = same_value S (look m) (seen h) act.temps e ∙ i

-- the value of e is given to x
pub record SetFrom (S : Structs) (act : Act) (h : Heaplet) (x : Ident) (e : Expr) (B : Act → Heaplet → Type 0) : Type 0 where
  pub value : Value
  pub evaluates : eval_by S (seen h) act.temps e ≡ Some value
  pub after : B (set_in (Some x) value act) h

pub set_safe : (W : World) (n : ℕ) (x : Ident) (e : Expr) (act : Act) (h : Heaplet) (E : Exits) → SetFrom W.program.structs act h x e (λ a g. E (Normal a) g) → Safe W Part n (Run (Set x e) [] act) h E
set_safe W zero x e act h E q = tt
set_safe W (suc n) x e act h E q = λ F k m j f b.
    record {
      steps = subst (λ o. StepsTo W (λ d g. Safe W Part n d g E) h F m (on_some o (λ v. Next (Run Skip [] (set_in (Some x) v act)) m))) (sym (eval_fits W.program.structs h m (part j f) act e q.value q.evaluates))
          (h, k, j, f, done W n (set_in (Some x) q.value act) h E q.after);
      reads = tt;
      writes = tt;
    }

-- v may be returned: there are no local blocks, and the exit is met
pub record ReturnOf (act : Act) (h : Heaplet) (E : Exits) (v : Value) : Type 0 where
  pub blocks : act.blocks ≡ []
  pub typed : has act.result v ≡ true
  pub after : E (Returned v) h

finish_is : (act : Act) (h : Heaplet) (E : Exits) (v : Value) (k : Kont) (m : Mem) → ReturnOf act h E v → finish act v k m ≡ Next (Returning v (call_kont k)) m
finish_is act h E v k m q =
    ap (λ b. cond b (on_some (free_all act.blocks m) (λ n. Next (Returning v (call_kont k)) n)) Stuck) q.typed
    ∙ ap (λ bs. on_some (free_all bs m) (λ n. Next (Returning v (call_kont k)) n)) q.blocks

no_spots : (act : Act) (h : Heaplet) (E : Exits) (v : Value) (m : Mem) → ReturnOf act h E v → AllOwned h (all_spots act.blocks m)
no_spots act h E v m q = subst (λ bs. AllOwned h (all_spots bs m)) (sym q.blocks) tt

-- the end of a function
pub end_safe : (W : World) (n : ℕ) (act : Act) (h : Heaplet) (E : Exits) → ReturnOf act h E Vundef → Safe W Whole n (Run Skip [] act) h E
end_safe W zero act h E q = tt
end_safe W (suc n) act h E q = λ F k m j f b.
    record {
      steps = subst (StepsTo W (λ d g. Safe W Whole n d g E) h F m) (sym (finish_is act h E Vundef [] m q)) (h, k, j, f, returned W Whole n Vundef h E q.after);
      reads = tt;
      writes = no_spots act h E Vundef m q;
    }

-- the value of e is returned
pub record ReturnFrom (S : Structs) (act : Act) (h : Heaplet) (e : Expr) (E : Exits) : Type 0 where
  pub value : Value
  pub evaluates : eval_by S (seen h) act.temps e ≡ Some value
  pub returns : ReturnOf act h E value

pub return_safe : (W : World) (n : ℕ) (e : Expr) (act : Act) (h : Heaplet) (E : Exits) → ReturnFrom W.program.structs act h e E → Safe W Part n (Run (Return (Some e)) [] act) h E
return_safe W zero e act h E q = tt
return_safe W (suc n) e act h E q = λ F k m j f b.
    record {
      steps = subst (StepsTo W (λ d g. Safe W Part n d g E) h F m)
          (sym (ap (λ o. on_some o (λ v. finish act v [] m)) (eval_fits W.program.structs h m (part j f) act e q.value q.evaluates) ∙ finish_is act h E q.value [] m q.returns))
          (h, k, j, f, returned W Part n q.value h E q.returns.after);
      reads = tt;
      writes = no_spots act h E q.value m q.returns;
    }
