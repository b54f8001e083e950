-- The small program has a start and an answer, and is sound.
use Rattle.std.proofs.Common.{inl, inr, ◌≡◌, arith, ℕ, zero, suc, Bool, true, false, cond, List, [], ◌∷◌, Option, Some, None, is_some, refl, sym, ◌∙◌, subst, ap}
use Rattle.std.specs.Prelude.{bytes_eq}
use Rattle.floyd_int.specs.declared.kinds.Value.{Value}
use Rattle.floyd_int.specs.declared.kinds.Value.TheVariants.{Vundef, Vint, Vlong, Vptr}
use Rattle.floyd_clight_memory.specs.Memory.{Mem, Block, Global, Local, Function, nth}
use Rattle.floyd_clight_memory.proofs.Places.{alike_same}
use Rattle.floyd_ctypes.specs.Has.{has}
use Rattle.floyd_clight.specs.Flat.{flat}
use Rattle.floyd_clight_machine.specs.Looking.{Ident}
use Rattle.floyd_clight_machine.specs.Evaluation.{unset}
use Rattle.floyd_clight_machine.specs.Machine.{LocalBlock, Fun, Own, FunctionBlock, signature, function_named, bind_params, set_in}
use Rattle.floyd_clight_machine.specs.Exits.{Returned}
use Rattle.floyd_clight_heap.specs.Heaplet.{Heaplet, empty, Joins, Fits}
use Rattle.floyd_clight_heap.proofs.Sums.{one_sum, right_empty, left_empty}
use Rattle.floyd_clight_runs.specs.World.{is_result, has_result}
use Rattle.floyd_clight_runs.specs.Runs.{IsLawful}
use Rattle.floyd_clight_runs.specs.Starts.{IsAmong, IsStart, IsSound}
use Rattle.floyd_clight_runs.specs.Safe.{Exits}
use Rattle.floyd_clight_runs.specs.Calls.{CallExits, KeepsBelow, with_normal, SafeAll, AreBlocksOf, AreFresh, body_exits, start_act, IsProved, AllHold}
use Rattle.floyd_clight_runs.specs.Sample.{main, ask, t, int, returns_t, main_function, main_block, ask_block, sample, plain, sample_world, function_there, sample_memory}
use Rattle.floyd_clight_runs.proofs.Induction.{gives_self}
use Rattle.floyd_clight_runs.proofs.Returns.{return_safe}
use Rattle.floyd_clight_runs.proofs.Rows.{call_safe}
use Rattle.floyd_clight_runs.proofs.Adequate.{EndsWell, sound}

empty_fits : (m : Mem) → Fits empty m
empty_fits m = record { at = λ b o. tt }

no_block : {A : Type 0} → (n : ℕ) (b : Block) → nth sample_memory (suc (suc n)) ≡ Some b → A
no_block n b e = cc

one_kind : (b : Block) → Some function_there ≡ Some b → b.kind ≡ function_there.kind
one_kind b e = let p : function_there ≡ b = cc in ap (λ (x : Block). x.kind) (sym p)

zero_is_not_one : (n : ℕ) → n ≡ suc n → ⊥
zero_is_not_one n e = omega (arith, e)

not_global : (b : Block) → Some function_there ≡ Some b → b.kind ≡ Global → ⊥
not_global b e k = let p : Function ≡ Global = sym (one_kind b e) ∙ k in cc

not_local : (b : Block) → Some function_there ≡ Some b → b.kind ≡ Local → ⊥
not_local b e k = let p : Function ≡ Local = sym (one_kind b e) ∙ k in cc

no_variable : (n : ℕ) (b : Block) → nth sample_memory n ≡ Some b → b.kind ≡ Global → ⊥
no_variable zero b e k = not_global b e k
no_variable (suc zero) b e k = not_global b e k
no_variable (suc (suc n)) b e k = no_block n b e

among : (n : ℕ) (b : Block) → nth sample_memory n ≡ Some b → IsAmong (0 ∷ 1 ∷ []) n
among zero b e = inl refl
among (suc zero) b e = inr (inl refl)
among (suc (suc n)) b e = no_block n b e

no_local : (n : ℕ) (b : Block) → nth sample_memory n ≡ Some b → b.kind ≡ Local → ⊥
no_local zero b e k = not_local b e k
no_local (suc zero) b e k = not_local b e k
no_local (suc (suc n)) b e k = no_block n b e

pub a_start : IsStart sample_world main sample_memory
a_start = record {
  memory = ((tt, tt), ((tt, tt), tt));
  distinct = ((zero_is_not_one 0, tt), (tt, tt));
  variables = tt;
  functions = (record { there = function_there; is = refl; of = refl; length = refl; perms = (refl, tt) }, (record { there = function_there; is = refl; of = refl; length = refl; perms = (refl, tt) }, tt));
  no_other_variable = λ n b e k. absurd (no_variable n b e k);
  no_other_function = λ n b e k. among n b e;
  no_local = no_local;
  with = tt;
  heaplet = empty;
  fits = empty_fits sample_memory;
  pre = (refl, refl, refl);
}

pub an_answer : IsLawful sample_world ask [] sample_memory (Vint 7) sample_memory
an_answer = record {
  meets = λ x h F k j t p. (h, k, p.2, j, t);
  keeps = record { kept = λ n b e u. (b, e, alike_same b); no_other = λ n b e u. (b, e, alike_same b); later = omega arith };
  memory = ((tt, tt), ((tt, tt), tt));
  typed = refl;
}

-- the program's functions
found : (b c : Bool) (g : FunctionBlock) (fn : Fun) → cond b (Some main_block) (cond c (Some ask_block) None) ≡ Some g → g.def ≡ Own fn → main_function ≡ fn
found true c g fn e d =
    let p : main_block ≡ g = cc in
    let q : Own main_function ≡ Own fn = ap (λ (x : FunctionBlock). x.def) p ∙ d in
    cc
found false true g fn e d =
    let p : ask_block ≡ g = cc in
    let q : ask_block.def ≡ Own fn = ap (λ (x : FunctionBlock). x.def) p ∙ d in
    cc
found false false g fn e d = cc

known_in : (o : Option FunctionBlock) → is_some o ≡ true → (g : FunctionBlock) × (o ≡ Some g)
known_in None e = cc
known_in (Some g) e = (g, refl)

sum_empty : (h g k : Heaplet) → h ≡ empty → g ≡ empty → Joins h g k → k ≡ empty
sum_empty h g k p q j = one_sum (subst (λ x. Joins x g k) p j) (subst (λ x. Joins empty x x) (sym q) (left_empty _)) ∙ q

joins_empty : (k : Heaplet) → k ≡ empty → Joins empty empty k
joins_empty k e = subst (Joins empty empty) (sym e) (right_empty empty)

-- behind the call, the result is returned
returns_it : (n : ℕ) (E : Exits) (v : Value) (k : Heaplet) → has int v ≡ true → E (Returned v) k → SafeAll sample_world n (returns_t ∷ []) (body_exits E) (set_in (Some t) v (start_act main_function unset [])) k
returns_it n E v k typed after =
    return_safe sample_world n _ (set_in (Some t) v (start_act main_function unset [])) k (with_normal (SafeAll sample_world n [] (body_exits E)) (body_exits E))
    (record { value = v; evaluates = refl; returns = record { locals = empty; rest = k; joins = left_empty k; owned = tt; typed = typed; after = after } })

runs_on : (n : ℕ) (E : Exits) → KeepsBelow sample_world plain n → ((v : Value) (k : Heaplet) → has int v ≡ true → k ≡ empty → E (Returned v) k) → (blocks : List LocalBlock) (locals h whole : Heaplet) → AreBlocksOf [] [] blocks → AreFresh blocks locals → h ≡ empty → Joins locals h whole →
    SafeAll sample_world n (flat main_function.body) (body_exits E) (start_act main_function unset blocks) whole
runs_on n E keeps after [] locals h whole a f p j =
    call_safe sample_world plain n keeps (Some t) _ [] (start_act main_function unset []) whole (with_normal (SafeAll sample_world n (returns_t ∷ []) (body_exits E)) (body_exits E))
    (record {
      callee = Vptr 1 0;
      function = ask_block;
      args = [];
      with = tt;
      needs = empty;
      rest = empty;
      leads = refl;
      calls = refl;
      evaluates = refl;
      typed = refl;
      joins = joins_empty whole (sum_empty locals h whole f p j);
      pre = (refl, refl, refl);
      after = λ v g k typed post i. returns_it n E v k typed (after v k typed (sum_empty g empty k post refl i));
    })
runs_on n E keeps after (b ∷ bs) locals h whole a f p j = absurd a

result_is : (f : Ident) (g : FunctionBlock) (v : Value) → function_named sample f ≡ Some g → g.def ≡ Own main_function → has int v ≡ true → has_result sample f v ≡ true
result_is f g v e d h = ap (λ o. is_result o v) e ∙ ap (λ x. has (signature x).result v) d ∙ h

main_proved : (f : Ident) (g : FunctionBlock) → function_named sample f ≡ Some g → g.def ≡ Own main_function → IsProved sample_world f main_function
main_proved f g e d = record {
  calls = plain;
  given = gives_self plain;
  body = λ n keeps x args h p. record {
    temps = unset;
    binds = ap (λ as_. bind_params [] as_ unset) p.1;
    sized = tt;
    runs = λ blocks locals whole a apart f' j. runs_on n (CallExits sample plain f x) keeps (λ v k typed post. (result_is f g v e d typed, post)) blocks locals h whole a f' p.2 j;
  };
}

all_hold : AllHold sample_world
all_hold = record {
  known = λ f x args h p. known_in (function_named sample f) p.0;
  bodies = λ f g fn e d.
      let q = found (bytes_eq f main) (bytes_eq f ask) g fn e d in
      subst (IsProved sample_world f) q (main_proved f g e (d ∙ ap Own (sym q)));
}

ends_well : (f : Ident) (x : Unit {0}) → EndsWell (CallExits sample plain main x)
ends_well f x Vundef h p = let e = p.0 in cc
ends_well f x (Vint n) h p = tt
ends_well f x (Vlong n) h p = let e = p.0 in cc
ends_well f x (Vptr b o) h p = let e = p.0 in cc

pub a_sound_program : IsSound sample_world main
a_sound_program = sound sample_world main all_hold (λ x. ends_well main x)
