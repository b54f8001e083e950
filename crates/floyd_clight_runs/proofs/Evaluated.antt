-- What an expression gives over a heaplet, it gives over each memory that the heaplet fits.
use Rattle.std.proofs.Common.{option_and_then, ◌++◌, ap₂, ◌≡◌, ℕ, ◌==◌, ◌||◌, Bool, true, false, cond, List, [], ◌∷◌, length, Option, Some, None, refl, sym, ◌∙◌, subst, ap, is_some, eqb-true, arith}
use Rattle.std.specs.Prelude.{find}
use Rattle.std.specs.List.{AllByRecursion}
use Rattle.std.proofs.lemmas.Bool.{and_parts}
use Rattle.floyd_int.specs.declared.kinds.Value.{Value}
use Rattle.floyd_memval.specs.declared.bytes.MemByte.{MemByte}
use Rattle.floyd_clight_memory.specs.Memory.{Mem, Slot, Function, Nonempty, nth, slot, slot_of, is_valid, has_perm}
use Rattle.floyd_clight_memory.specs.Loads.{readable}
use Rattle.floyd_clight.specs.declared.syntax.Expr.{Expr}
use Rattle.floyd_clight_machine.specs.Looking.{Spot}
use Rattle.floyd_clight_machine.specs.Evaluation.{eval_by, eval_all_by, place_by, with_first}
use Rattle.floyd_clight_machine.specs.Footprint.{value_loads, place_loads}
use Rattle.floyd_clight_machine.specs.Machine.{Program, Act, FunctionBlock, LocalBlock, look, eval, eval_all, place, function_at}
use Rattle.floyd_clight_machine.specs.Touched.{loads, all_loads}
use Rattle.floyd_clight_machine.specs.Bounds.{IsFixed, AreFunctions}
use Rattle.floyd_clight_machine.specs.Laws.{Grows, IsThere}
use Rattle.floyd_clight_machine.proofs.Growth.{value_last, place_last, then_some, map_some}
use Rattle.floyd_clight_heap.specs.Heaplet.{Cell, Heaplet, Fits, Within, byte_of}
use Rattle.floyd_clight_heap.proofs.Blocks.{bytes_are_read, places_are_valid}
use Rattle.floyd_clight_runs.specs.Seen.{seen, is_function_start}
use Rattle.floyd_clight_runs.specs.Safe.{AllWithin}

byte_read : (h : Heaplet) (m : Mem) → Fits h m → (b o : ℕ) (byte : MemByte) → byte_of (h b o) ≡ Some byte → readable (slot m b o) ≡ Some byte
byte_read h m f b o byte e =
    let r = bytes_are_read h m b o byte f e in
    ap readable r.is ∙ ap (λ t. cond t (Some r.slot.byte) None) r.readable ∙ ap Some r.same

cell_within : (h : Heaplet) (b o : ℕ) (c : Option Cell) → h b o ≡ c → is_some c ≡ true → Within h b o
cell_within h b o None e s = cc
cell_within h b o (Some c) e s = record { cell = c; has = e }

-- the start of a function is valid
slot_valid : (ss : List Slot) → length ss ≡ 1 → AllByRecursion (λ (s : Slot). s.perm ≡ Some Nonempty) ss → has_perm (nth ss 0) ≡ true
slot_valid [] e p = absurd (omega (arith, e))
slot_valid (s ∷ ss) e p = ap is_some p.0

fixed_valid : (m : Mem) (b : ℕ) → IsFixed m b Function 1 Nonempty → is_valid m b 0 ≡ true
fixed_valid m b f = ap (λ x. has_perm (slot_of x 0)) f.is ∙ slot_valid f.there.slots f.length f.perms

found_if : (t : Bool) (b : ℕ) (g : FunctionBlock) (o : Option FunctionBlock) (m : Mem) → (t ≡ true → is_valid m b 0 ≡ true) → (is_some o ≡ true → is_valid m b 0 ≡ true) → is_some (cond t (Some g) o) ≡ true → is_valid m b 0 ≡ true
found_if true b g o m f h e = f refl
found_if false b g o m f h e = h e

function_valid : (gs : List FunctionBlock) (m : Mem) (b : ℕ) → AreFunctions gs m → is_some (find (λ (g : FunctionBlock). b == g.block) gs) ≡ true → is_valid m b 0 ≡ true
function_valid [] m b a e = cc
function_valid (g ∷ gs) m b a e =
    found_if (b == g.block) b g (find (λ (g : FunctionBlock). b == g.block) gs) m
    (λ t. subst (λ x. is_valid m x 0 ≡ true) (sym (eqb-true b g.block t)) (fixed_valid m g.block a.0)) (function_valid gs m b a.1) e

start_valid : (P : Program) (m : Mem) (b o : ℕ) → AreFunctions P.functions m → is_function_start P b o ≡ true → is_valid m b o ≡ true
start_valid P m b o a e =
    let p = and_parts (o == 0) (is_some (function_at P b)) e in
    subst (λ x. is_valid m b x ≡ true) (sym (eqb-true o 0 p.0)) (function_valid P.functions m b a p.1)

valid_or : (P : Program) (h : Heaplet) (m : Mem) → Fits h m → AreFunctions P.functions m → (b o : ℕ) (c : Option Cell) → h b o ≡ c → is_some c || is_function_start P b o ≡ true → is_valid m b o ≡ true
valid_or P h m f a b o None e s = start_valid P m b o a s
valid_or P h m f a b o (Some c) e s = places_are_valid h m b o f (record { cell = c; has = e })

-- a memory has what a heaplet that fits it has
pub seen_grows : (P : Program) (blocks : List LocalBlock) (h : Heaplet) (m : Mem) → Fits h m → AreFunctions P.functions m → Grows (seen P blocks h) (look P blocks m)
seen_grows P blocks h m f a =
    record {
      names = λ b x. refl;
      bytes = byte_read h m f;
      valid = λ b o e. valid_or P h m f a b o (h b o) refl e;
    }

there_within : (P : Program) (blocks : List LocalBlock) (h : Heaplet) (s : Spot) → IsThere (seen P blocks h) s → Within h s.block s.offset
there_within P blocks h s t = go (h s.block s.offset) refl t.is
  where
    go : (c : Option Cell) → h s.block s.offset ≡ c → byte_of c ≡ Some t.byte → Within h s.block s.offset
    go None e i = cc
    go (Some c) e i = record { cell = c; has = e }

all_within : (P : Program) (blocks : List LocalBlock) (h : Heaplet) (ss : List Spot) → AllByRecursion (IsThere (seen P blocks h)) ss → AllWithin h ss
all_within P blocks h [] a = tt
all_within P blocks h (s ∷ ss) a = (there_within P blocks h s a.0, all_within P blocks h ss a.1)

-- a value, with what is loaded for it
pub record Evaluated (P : Program) (act : Act) (h : Heaplet) (m : Mem) (e : Expr) (v : Value) : Type 0 where
  pub is : eval P m act e ≡ Some v
  pub reads : AllWithin h (loads P m act e)

pub evaluated : (P : Program) (act : Act) (h : Heaplet) (m : Mem) (e : Expr) (v : Value) → Fits h m → AreFunctions P.functions m → eval_by P.structs (seen P act.blocks h) act.temps e ≡ Some v → Evaluated P act h m e v
evaluated P act h m e v f a i =
    let r = value_last (seen P act.blocks h) (look P act.blocks m) (seen_grows P act.blocks h m f a) P.structs act.temps e v i in
    record { is = r.0; reads = subst (AllWithin h) (sym r.1) (all_within P act.blocks h (value_loads P.structs (seen P act.blocks h) act.temps e) r.2) }

-- a place, with what is loaded to find it
pub record Located (P : Program) (act : Act) (h : Heaplet) (m : Mem) (e : Expr) (s : Spot) : Type 0 where
  pub is : place P m act e ≡ Some s
  pub reads : AllWithin h (place_loads P.structs (look P act.blocks m) act.temps e)

pub located : (P : Program) (act : Act) (h : Heaplet) (m : Mem) (e : Expr) (s : Spot) → Fits h m → AreFunctions P.functions m → place_by P.structs (seen P act.blocks h) act.temps e ≡ Some s → Located P act h m e s
located P act h m e s f a i =
    let r = place_last (seen P act.blocks h) (look P act.blocks m) (seen_grows P act.blocks h m f a) P.structs act.temps e s i in
    record { is = r.0; reads = subst (AllWithin h) (sym r.1) (all_within P act.blocks h (place_loads P.structs (seen P act.blocks h) act.temps e) r.2) }

pub all_within_both : (h : Heaplet) (xs ys : List Spot) → AllWithin h xs → AllWithin h ys → AllWithin h (xs ++ ys)
all_within_both h [] ys a b = b
all_within_both h (x ∷ xs) ys a b = (a.0, all_within_both h xs ys a.1 b)

-- values in order, with what is loaded for them
pub record EvaluatedAll (P : Program) (act : Act) (h : Heaplet) (m : Mem) (es : List Expr) (vs : List Value) : Type 0 where
  pub is : eval_all P m act es ≡ Some vs
  pub reads : AllWithin h (all_loads P m act es)

pub evaluated_all : (P : Program) (act : Act) (h : Heaplet) (m : Mem) (es : List Expr) (vs : List Value) → Fits h m → AreFunctions P.functions m → eval_all_by P.structs (seen P act.blocks h) act.temps es ≡ Some vs → EvaluatedAll P act h m es vs
evaluated_all P act h m [] vs f a i = record { is = i; reads = tt }
evaluated_all P act h m (e ∷ es) vs f a i =
    let look = seen P act.blocks h in
    let first = then_some (λ v. with_first v (eval_all_by P.structs look act.temps es)) (eval_by P.structs look act.temps e) vs i in
    let rest = map_some (λ ws. first.0 ∷ ws) (eval_all_by P.structs look act.temps es) vs first.2 in
    let r = evaluated P act h m e first.0 f a first.1 in
    let more = evaluated_all P act h m es rest.0 f a rest.1 in
    record {
      is = ap₂ (λ x y. option_and_then (λ v. with_first v y) x) r.is more.is ∙ rest.2;
      reads = all_within_both h (loads P m act e) (all_loads P m act es) r.reads more.reads;
    }
