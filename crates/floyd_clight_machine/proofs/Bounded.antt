-- Each step and each lawful answer keeps the bounds on blocks.
use Rattle.std.proofs.Common.{◌≡◌, ◌≢◌, ℕ, zero, suc, List, [], ◌∷◌, ◌++◌, length, Option, Some, None, Bool, true, false, cond, refl, sym, ◌∙◌, subst, ap, arith}
use Rattle.std.specs.Prelude.{option_and_then}
use Rattle.std.specs.List.{AllByRecursion}
use Rattle.floyd_int.specs.declared.kinds.Value.{Value}
use Rattle.floyd_int.specs.declared.kinds.Value.TheVariants.{Vundef}
use Rattle.floyd_memval.specs.declared.bytes.Chunk.{Chunk}
use Rattle.floyd_memval.specs.declared.bytes.MemByte.TheVariants.{Undef}
use Rattle.floyd_memval.specs.Chunks.{chunk_of}
use Rattle.floyd_clight_memory.specs.Memory.{Mem, Slot, Block, Perm, Kind, Global, Local as LocalKind, Function, Nonempty, Freeable, includes, all_include, nth, put, next, alloc, freed, and_then}
use Rattle.floyd_clight_memory.specs.Blocks.{perms, Alike, StaysAlike, fresh}
use Rattle.floyd_clight_memory.proofs.Places.{nth_put_other, nth_below, free_is, store_alike, new_block, old_blocks, fresh_size, fresh_whole}
use Rattle.floyd_ctypes.specs.Structs.{Structs}
use Rattle.floyd_ctypes.specs.Layout.{size}
use Rattle.floyd_ctypes.specs.Has.{has}
use Rattle.floyd_ctypes.specs.declared.ctype.CType.{CType}
use Rattle.floyd_clight.specs.Types.{type_of}
use Rattle.floyd_clight.specs.declared.unit.Local.{Local}
use Rattle.floyd_clight.specs.declared.syntax.Expr.{Expr}
use Rattle.floyd_clight.specs.declared.syntax.Stmt.{Skip, Set, Assign, Call, Seq', If', Loop', Break, Continue, Return, Switch', end_of-Stmt, more_of-Stmt}
use Rattle.floyd_clight_machine.specs.Evaluation.{Ident, Spot, Temps, unset}
use Rattle.floyd_clight_machine.specs.Switching.{chosen}
use Rattle.floyd_clight_machine.specs.Machine.{Act, LocalBlock, Config, Run, Calling, Returning, Kseq, Kloop1, Kloop2, Kswitch, Kcall, Kont, Outcome, Next, Stuck, Program, Fun, Def, Own, Ext, GlobalBlock, FunctionBlock, Placed, signature, function_named, call_kont, on_some, eval, eval_all, place, test, set_in, free_all, finish, store_as, store_at, called, all_have, entering, step, step_def, step_call, step_return, step_break, step_continue, step_back, step_assign, step_to, switch_bits, bind_params, and_first, alloc_all, entered}
use Rattle.floyd_clight_machine.specs.Exits.{IsCall}
use Rattle.floyd_clight_machine.specs.Bounds.{IsLocal, IsApart, AllLocal, IsFixed, AreVariables, AreFunctions, Bound, Bounds, KeepsBounds, Keeps, kont_blocks, is_ext}

-- Blocks like those that they were.

abbrev all_perms : Perm → List (Option Perm) → Bool
all_perms p [] = true
all_perms p (q ∷ qs) = cond (includes q p) (all_perms p qs) false

all_include_is : (p : Perm) (ss : List Slot) → all_include p ss ≡ all_perms p (perms ss)
all_include_is p [] = refl
all_include_is p (s ∷ ss) = ap (λ b. cond (includes s.perm p) b false) (all_include_is p ss)

abbrev length_of : List (Option Perm) → ℕ
length_of [] = zero
length_of (p ∷ ps) = suc (length_of ps)

length_is : (ss : List Slot) → length ss ≡ length_of (perms ss)
length_is [] = refl
length_is (s ∷ ss) = ap suc (length_is ss)

alike_size : (b c : Block) → Alike b c → length c.slots ≡ length b.slots
alike_size b c a = length_is c.slots ∙ ap length_of a.perms ∙ sym (length_is b.slots)

alike_whole : (b c : Block) → Alike b c → all_include Freeable b.slots ≡ true → all_include Freeable c.slots ≡ true
alike_whole b c a w = all_include_is Freeable c.slots ∙ ap (all_perms Freeable) a.perms ∙ sym (all_include_is Freeable b.slots) ∙ w

perms_all : (p : Perm) (ss : List Slot) → AllByRecursion (λ (s : Slot). s.perm ≡ Some p) ss → AllByRecursion (λ q. q ≡ Some p) (perms ss)
perms_all p [] a = tt
perms_all p (s ∷ ss) a = (a.0, perms_all p ss a.1)

all_from_perms : (p : Perm) (ss : List Slot) → AllByRecursion (λ q. q ≡ Some p) (perms ss) → AllByRecursion (λ (s : Slot). s.perm ≡ Some p) ss
all_from_perms p [] a = tt
all_from_perms p (s ∷ ss) a = (a.0, all_from_perms p ss a.1)

local_alike : (m n : Mem) (l : LocalBlock) (i : IsLocal m l) (c : Block) → nth n l.block ≡ Some c → Alike i.there c → IsLocal n l
local_alike m n l i c e a =
    record { there = c; is = e; kind = a.kind ∙ i.kind; size = alike_size i.there c a ∙ i.size; whole = alike_whole i.there c a i.whole }

fixed_alike : (m n : Mem) (b : ℕ) (k : Kind) (s : ℕ) (p : Perm) (i : IsFixed m b k s p) (c : Block) → nth n b ≡ Some c → Alike i.there c → IsFixed n b k s p
fixed_alike m n b k s p i c e a =
    record {
      there = c;
      is = e;
      of = a.kind ∙ i.of;
      length = alike_size i.there c a ∙ i.length;
      perms = all_from_perms p c.slots (subst (AllByRecursion (λ q. q ≡ Some p)) (sym a.perms) (perms_all p i.there.slots i.perms));
    }

-- what becomes of each block that a kind of blocks keeps
abbrev Lasting : Mem → Mem → Kind → Type 0
Lasting m n k = (b : ℕ) (x : Block) → nth m b ≡ Some x → x.kind ≡ k → (c : Block) × (nth n b ≡ Some c) × Alike x c

locals_last : (m n : Mem) (ls : List LocalBlock) → Lasting m n LocalKind → AllLocal ls m → AllLocal ls n
locals_last m n [] f a = tt
locals_last m n (l ∷ ls) f a =
    let y = f l.block a.0.there a.0.is a.0.kind in
    (local_alike m n l a.0 y.0 y.1 y.2, a.1, locals_last m n ls f a.2)

fixed_last : (m n : Mem) (b : ℕ) (k : Kind) (s : ℕ) (p : Perm) → Lasting m n k → IsFixed m b k s p → IsFixed n b k s p
fixed_last m n b k s p f i =
    let y = f b i.there i.is i.of in
    fixed_alike m n b k s p i y.0 y.1 y.2

variables_last : (m n : Mem) (gs : List GlobalBlock) → Lasting m n Global → AreVariables gs m → AreVariables gs n
variables_last m n [] f a = tt
variables_last m n (g ∷ gs) f a = (fixed_last m n g.block Global g.size g.perm f a.0, variables_last m n gs f a.1)

functions_last : (m n : Mem) (gs : List FunctionBlock) → Lasting m n Function → AreFunctions gs m → AreFunctions gs n
functions_last m n [] f a = tt
functions_last m n (g ∷ gs) f a = (fixed_last m n g.block Function 1 Nonempty f a.0, functions_last m n gs f a.1)

bound_last : (P : Program) (ls : List LocalBlock) (m n : Mem) → ((k : Kind) → is_ext k ≡ false → Lasting m n k) → Bound P ls m → Bound P ls n
bound_last P ls m n f b =
    record {
      locals = locals_last m n ls (f LocalKind refl) b.locals;
      variables = variables_last m n P.variables (f Global refl) b.variables;
      functions = functions_last m n P.functions (f Function refl) b.functions;
    }

bound_alike : (P : Program) (ls : List LocalBlock) (m n : Mem) → StaysAlike m n → Bound P ls m → Bound P ls n
bound_alike P ls m n f b = bound_last P ls m n (λ k u block x e i. f block x e) b

-- a lawful answer keeps the bounds
pub answer_keeps : (P : Program) (ls : List LocalBlock) (m n : Mem) → Keeps m n → Bound P ls m → Bound P ls n
answer_keeps P ls m n k b = bound_last P ls m n (λ kind u block x e i. k.kept block x e (ap is_ext i ∙ u)) b

-- Frees.

locals_put : (ls : List LocalBlock) (m : Mem) (b : ℕ) (y : Block) → IsApart b ls → AllLocal ls m → AllLocal ls (put m b y)
locals_put [] m b y a i = tt
locals_put (l ∷ ls) m b y a i =
    (record { there = i.0.there; is = nth_put_other m b l.block y a.0 ∙ i.0.is; kind = i.0.kind; size = i.0.size; whole = i.0.whole }, i.1, locals_put ls m b y a.1 i.2)

-- a local block has not the number of a block of another kind
apart_kind : (m : Mem) (l : LocalBlock) → IsLocal m l → (k : Kind) (s : ℕ) (p : Perm) (b : ℕ) → (LocalKind ≡ k → ⊥) → IsFixed m b k s p → l.block ≢ b
apart_kind m l i k s p b ne f e =
    let x : Some i.there ≡ Some f.there = sym i.is ∙ ap (nth m) e ∙ f.is in
    let y : i.there ≡ f.there = cc in
    ne (sym i.kind ∙ ap (λ (z : Block). z.kind) y ∙ f.of)

fixed_put : (m : Mem) (l : LocalBlock) (y : Block) (b : ℕ) (k : Kind) (s : ℕ) (p : Perm) → IsLocal m l → (LocalKind ≡ k → ⊥) → IsFixed m b k s p → IsFixed (put m l.block y) b k s p
fixed_put m l y b k s p i ne f =
    record { there = f.there; is = nth_put_other m l.block b y (apart_kind m l i k s p b ne f) ∙ f.is; of = f.of; length = f.length; perms = f.perms }

local_not_global : LocalKind ≡ Global → ⊥
local_not_global e = cc

local_not_function : LocalKind ≡ Function → ⊥
local_not_function e = cc

variables_put : (m : Mem) (l : LocalBlock) (y : Block) (gs : List GlobalBlock) → IsLocal m l → AreVariables gs m → AreVariables gs (put m l.block y)
variables_put m l y [] i a = tt
variables_put m l y (g ∷ gs) i a = (fixed_put m l y g.block Global g.size g.perm i local_not_global a.0, variables_put m l y gs i a.1)

functions_put : (m : Mem) (l : LocalBlock) (y : Block) (gs : List FunctionBlock) → IsLocal m l → AreFunctions gs m → AreFunctions gs (put m l.block y)
functions_put m l y [] i a = tt
functions_put m l y (g ∷ gs) i a = (fixed_put m l y g.block Function 1 Nonempty i local_not_function a.0, functions_put m l y gs i a.1)

-- once the first ones are freed, the others are there
free_all_keeps : (P : Program) (ls ks : List LocalBlock) (m n : Mem) → Bound P (ls ++ ks) m → free_all ls m ≡ Some n → Bound P ks n
free_all_keeps P [] ks m n b e = let p : m ≡ n = cc in subst (Bound P ks) p b
free_all_keeps P (l ∷ ls) ks m n b e =
    let i = b.locals.0 in
    let after = put m l.block (freed i.there) in
    free_all_keeps P ls ks after n
    (record {
      locals = locals_put (ls ++ ks) m l.block (freed i.there) b.locals.1 b.locals.2;
      variables = variables_put m l (freed i.there) P.variables i b.variables;
      functions = functions_put m l (freed i.there) P.functions i b.functions;
    })
    (ap (λ o. and_then o (λ q. free_all ls q)) (sym (free_is m l.block i.there i.is i.whole)) ∙ e)

-- New blocks.

lasting_alloc : (m : Mem) (n : ℕ) (k : Kind) → Lasting m (alloc m n) k
lasting_alloc m n k = λ b x e i. (x, old_blocks m n b x e, record { kind = refl; perms = refl })

-- the next block is none of those that are there
apart_next : (m : Mem) (ls : List LocalBlock) → AllLocal ls m → IsApart (next m) ls
apart_next m [] a = tt
apart_next m (l ∷ ls) a = ((λ e. let h = nth_below m l.block a.0.there a.0.is in absurd (omega (arith, h, e))), apart_next m ls a.2)

alloc_bound : (P : Program) (name : Ident) (n : ℕ) (ks : List LocalBlock) (m : Mem) → Bound P ks m → Bound P (record { name = name; block = next m; size = n } ∷ ks) (alloc m n)
alloc_bound P name n ks m b =
    let c = bound_last P ks m (alloc m n) (λ k u. lasting_alloc m n k) b in
    record {
      locals = (record { there = fresh n; is = new_block m n; kind = refl; size = fresh_size n (record { byte = Undef; perm = Some Freeable }); whole = fresh_whole n Undef }, apart_next m ks b.locals, c.locals);
      variables = c.variables;
      functions = c.functions;
    }

apart_middle : (b : ℕ) (xs : List LocalBlock) (x : LocalBlock) (ys : List LocalBlock) → IsApart b (xs ++ x ∷ ys) → (b ≢ x.block) × IsApart b (xs ++ ys)
apart_middle b [] x ys a = (a.0, a.1)
apart_middle b (y ∷ xs) x ys a =
    let r = apart_middle b xs x ys a.1 in
    (r.0, (a.0, r.1))

-- a block from the middle in front
locals_turned : (m : Mem) (xs : List LocalBlock) (x : LocalBlock) (ys : List LocalBlock) → AllLocal (xs ++ x ∷ ys) m → AllLocal (x ∷ (xs ++ ys)) m
locals_turned m [] x ys a = a
locals_turned m (y ∷ xs) x ys a =
    let r = locals_turned m xs x ys a.2 in
    let p = apart_middle y.block xs x ys a.1 in
    (r.0, ((λ e. p.0 (sym e)), r.1), (a.0, p.1, r.2))

bound_turned : (P : Program) (m : Mem) (xs : List LocalBlock) (x : LocalBlock) (ys : List LocalBlock) → Bound P (xs ++ x ∷ ys) m → Bound P (x ∷ (xs ++ ys)) m
bound_turned P m xs x ys b = record { locals = locals_turned m xs x ys b.locals; variables = b.variables; functions = b.functions }

-- what is claimed of the blocks that are made
abbrev Made : Program → List LocalBlock → Option Placed → Type 0
Made P ks None = Unit {0}
Made P ks (Some p) = Bound P (p.blocks ++ ks) p.mem

made_first : (P : Program) (x : LocalBlock) (ks : List LocalBlock) (o : Option Placed) → Made P (x ∷ ks) o → Made P ks (and_first x o)
made_first P x ks None b = tt
made_first P x ks (Some p) b = bound_turned P p.mem p.blocks x ks b

made_then : (P : Program) (S : Structs) (l : Local) (ls : List Local) (ks : List LocalBlock) (m : Mem) (o : Option ℕ) → ((n : ℕ) → Made P (record { name = l.name; block = next m; size = n } ∷ ks) (alloc_all S ls (alloc m n))) →
    Made P ks (option_and_then (λ n. and_first (record { name = l.name; block = next m; size = n }) (alloc_all S ls (alloc m n))) o)
made_then P S l ls ks m None f = tt
made_then P S l ls ks m (Some n) f = made_first P (record { name = l.name; block = next m; size = n }) ks (alloc_all S ls (alloc m n)) (f n)

alloc_all_keeps : (P : Program) (S : Structs) (ls : List Local) (ks : List LocalBlock) (m : Mem) → Bound P ks m → Made P ks (alloc_all S ls m)
alloc_all_keeps P S [] ks m b = b
alloc_all_keeps P S (l ∷ ls) ks m b =
    made_then P S l ls ks m (size S l.ctype) (λ n. alloc_all_keeps P S ls (record { name = l.name; block = next m; size = n } ∷ ks) (alloc m n) (alloc_bound P l.name n ks m b))

-- The step.

pub kont_blocks_call : (k : Kont) → kont_blocks (call_kont k) ≡ kont_blocks k
kont_blocks_call [] = refl
kont_blocks_call (Kseq s ∷ k) = kont_blocks_call k
kont_blocks_call (Kloop1 a b ∷ k) = kont_blocks_call k
kont_blocks_call (Kloop2 a b ∷ k) = kont_blocks_call k
kont_blocks_call (Kswitch ∷ k) = kont_blocks_call k
kont_blocks_call (Kcall to act ∷ k) = refl

pub is_call_kont : (k : Kont) → IsCall (call_kont k)
is_call_kont [] = tt
is_call_kont (Kseq s ∷ k) = is_call_kont k
is_call_kont (Kloop1 a b ∷ k) = is_call_kont k
is_call_kont (Kloop2 a b ∷ k) = is_call_kont k
is_call_kont (Kswitch ∷ k) = is_call_kont k
is_call_kont (Kcall to act ∷ k) = tt

keeps_some : {A : Type 0} → (P : Program) (m : Mem) (o : Option A) (f : A → Outcome) → ((a : A) → o ≡ Some a → KeepsBounds P m (f a)) → KeepsBounds P m (on_some o f)
keeps_some P m None f g = tt
keeps_some P m (Some a) f g = g a refl

keeps_if : (P : Program) (m : Mem) (b : Bool) (o : Outcome) → KeepsBounds P m o → KeepsBounds P m (cond b o Stuck)
keeps_if P m true o g = g
keeps_if P m false o g = tt

finish_keeps : (P : Program) (act : Act) (v : Value) (k : Kont) (m : Mem) → Bound P (act.blocks ++ kont_blocks k) m → KeepsBounds P m (finish act v k m)
finish_keeps P act v k m b =
    keeps_if P m (has act.result v) (on_some (free_all act.blocks m) (λ n. Next (Returning v (call_kont k)) n))
    (keeps_some P m (free_all act.blocks m) (λ n. Next (Returning v (call_kont k)) n)
    (λ n e. (subst (λ bs. Bound P bs n) (sym (kont_blocks_call k)) (free_all_keeps P act.blocks (kont_blocks k) m n b e), is_call_kont k)))

entered_keeps : (P : Program) (m : Mem) (fn : Fun) (temps : Temps) (k : Kont) (o : Option Placed) → Made P (kont_blocks k) o → KeepsBounds P m (on_some o (entered fn temps k))
entered_keeps P m fn temps k None b = tt
entered_keeps P m fn temps k (Some p) b = (b, tt)

def_keeps : (P : Program) (m : Mem) (d : Def) (f : Ident) (args : List Value) (k : Kont) → Bound P (kont_blocks k) m → KeepsBounds P m (step_def P.structs d f args k m)
def_keeps P m (Own fn) f args k b =
    keeps_some P m (bind_params fn.params args unset) (λ temps. on_some (alloc_all P.structs fn.locals m) (entered fn temps k))
    (λ t e. entered_keeps P m fn t k (alloc_all P.structs fn.locals m) (alloc_all_keeps P P.structs fn.locals (kont_blocks k) m b))
def_keeps P m (Ext t) f args k b = (subst (λ bs. Bound P bs m) (sym (kont_blocks_call k)) b, is_call_kont k)

call_keeps : (P : Program) (m : Mem) (g : Option FunctionBlock) (f : Ident) (args : List Value) (k : Kont) → Bound P (kont_blocks k) m → KeepsBounds P m (step_call P.structs g f args k m)
call_keeps P m None f args k b = tt
call_keeps P m (Some g) f args k b = def_keeps P m g.def f args k b

return_keeps : (P : Program) (m : Mem) (e : Option Expr) (k : Kont) (act : Act) → Bound P (act.blocks ++ kont_blocks k) m → KeepsBounds P m (step_return P e k act m)
return_keeps P m None k act b = finish_keeps P act Vundef k m b
return_keeps P m (Some e) k act b = keeps_some P m (eval P m act e) (λ v. finish act v k m) (λ v p. finish_keeps P act v k m b)

store_if : (t : Bool) (c : Option Chunk) (s : Spot) (v : Value) (m n : Mem) → cond t (store_as c s v m) None ≡ Some n → StaysAlike m n
store_if true None s v m n e = cc
store_if true (Some c) s v m n e = store_alike c m n s.block s.offset v e
store_if false c s v m n e = cc

store_keeps : (t : CType) (s : Spot) (v : Value) (m n : Mem) → store_at t s v m ≡ Some n → StaysAlike m n
store_keeps t s v m n e = store_if (has t v) (chunk_of t) s v m n e

assign_keeps : (P : Program) (p e : Expr) (k : Kont) (act : Act) (m : Mem) → Bound P (act.blocks ++ kont_blocks k) m → KeepsBounds P m (step_assign P p e k act m)
assign_keeps P p e k act m b =
    keeps_some P m (place P m act p) (λ s. on_some (eval P m act e) (λ v. on_some (store_at (type_of p) s v m) (λ n. Next (Run Skip k act) n)))
    (λ s i. keeps_some P m (eval P m act e) (λ v. on_some (store_at (type_of p) s v m) (λ n. Next (Run Skip k act) n))
    (λ v j. keeps_some P m (store_at (type_of p) s v m) (λ n. Next (Run Skip k act) n)
    (λ n h. (bound_alike P (act.blocks ++ kont_blocks k) m n (store_keeps (type_of p) s v m n h) b, tt))))

to_keeps : (P : Program) (to : Option Ident) (f : Expr) (es : List Expr) (k : Kont) (act : Act) (m : Mem) → Bound P (act.blocks ++ kont_blocks k) m → KeepsBounds P m (step_to P to f es k act m)
to_keeps P to f es k act m b =
    keeps_some P m (option_and_then (called P (type_of f)) (eval P m act f)) (λ g. on_some (eval_all P m act es) (λ args. entering g args (Kcall to act ∷ k) m))
    (λ g i. keeps_some P m (eval_all P m act es) (λ args. entering g args (Kcall to act ∷ k) m)
    (λ args j. keeps_if P m (all_have (signature g.def).params args) (Next (Calling g.name args (Kcall to act ∷ k)) m) (b, tt)))

break_keeps : (P : Program) (k : Kont) (act : Act) (m : Mem) → Bound P (act.blocks ++ kont_blocks k) m → KeepsBounds P m (step_break k act m)
break_keeps P [] act m b = tt
break_keeps P (Kseq s ∷ k) act m b = (b, tt)
break_keeps P (Kloop1 s t ∷ k) act m b = (b, tt)
break_keeps P (Kloop2 s t ∷ k) act m b = (b, tt)
break_keeps P (Kswitch ∷ k) act m b = (b, tt)
break_keeps P (Kcall to caller ∷ k) act m b = tt

continue_keeps : (P : Program) (k : Kont) (act : Act) (m : Mem) → Bound P (act.blocks ++ kont_blocks k) m → KeepsBounds P m (step_continue k act m)
continue_keeps P [] act m b = tt
continue_keeps P (Kseq s ∷ k) act m b = (b, tt)
continue_keeps P (Kloop1 s t ∷ k) act m b = (b, tt)
continue_keeps P (Kloop2 s t ∷ k) act m b = tt
continue_keeps P (Kswitch ∷ k) act m b = (b, tt)
continue_keeps P (Kcall to caller ∷ k) act m b = tt

set_in_keeps : (P : Program) (to : Option Ident) (v : Value) (act : Act) (k : Kont) (m : Mem) → Bound P (act.blocks ++ kont_blocks k) m → Bound P ((set_in to v act).blocks ++ kont_blocks k) m
set_in_keeps P None v act k m b = b
set_in_keeps P (Some x) v act k m b = b

back_keeps : (P : Program) (m : Mem) (v : Value) (k : Kont) → Bound P (kont_blocks k) m → KeepsBounds P m (step_back v k m)
back_keeps P m v [] b = tt
back_keeps P m v (Kseq s ∷ k) b = tt
back_keeps P m v (Kloop1 s t ∷ k) b = tt
back_keeps P m v (Kloop2 s t ∷ k) b = tt
back_keeps P m v (Kswitch ∷ k) b = tt
back_keeps P m v (Kcall to act ∷ k) b = (set_in_keeps P to v act k m b, tt)

-- each step keeps the bounds
pub step_keeps : (P : Program) (c : Config) (m : Mem) → Bounds P c m → KeepsBounds P m (step P c m)
step_keeps P (Run Skip [] act) m b = finish_keeps P act Vundef [] m b
step_keeps P (Run Skip (Kseq s ∷ k) act) m b = (b, tt)
step_keeps P (Run Skip (Kloop1 s t ∷ k) act) m b = (b, tt)
step_keeps P (Run Skip (Kloop2 s t ∷ k) act) m b = (b, tt)
step_keeps P (Run Skip (Kswitch ∷ k) act) m b = (b, tt)
step_keeps P (Run Skip (Kcall to caller ∷ k) act) m b = finish_keeps P act Vundef (Kcall to caller ∷ k) m b
step_keeps P (Run (Set x e) k act) m b = keeps_some P m (eval P m act e) (λ v. Next (Run Skip k (set_in (Some x) v act)) m) (λ v p. (b, tt))
step_keeps P (Run (Assign p e) k act) m b = assign_keeps P p e k act m b
step_keeps P (Run (Call to f es) k act) m b = to_keeps P to f es k act m b
step_keeps P (Run (Seq' [] end_of-Stmt) k act) m b = (b, tt)
step_keeps P (Run (Seq' (u ∷ shape) (more_of-Stmt s rest)) k act) m b = (b, tt)
step_keeps P (Run (If' e p (more_of-Stmt s end_of-Stmt) q (more_of-Stmt t end_of-Stmt)) k act) m b = keeps_some P m (test P m act e) (λ d. Next (Run (cond d s t) k act) m) (λ d i. (b, tt))
step_keeps P (Run (Loop' p (more_of-Stmt s end_of-Stmt) q (more_of-Stmt t end_of-Stmt)) k act) m b = (b, tt)
step_keeps P (Run Break k act) m b = break_keeps P k act m b
step_keeps P (Run Continue k act) m b = continue_keeps P k act m b
step_keeps P (Run (Return e) k act) m b = return_keeps P m e k act b
step_keeps P (Run (Switch' e shape cases) k act) m b =
    keeps_some P m (option_and_then (switch_bits (type_of e)) (eval P m act e)) (λ n. Next (Run (chosen shape cases n) (Kswitch ∷ k) act) m) (λ n i. (b, tt))
step_keeps P (Calling f args k) m b = call_keeps P m (function_named P f) f args k b
step_keeps P (Returning v k) m b = back_keeps P m v k b
