-- Values of some terms, as a check of the definitions.
use Rattle.std.proofs.Common.{◌≡◌, inl, inr, ℕ, ◌+ℤ◌, ◌-◌, ◌^◌, true, false, ℤ, pos, negsuc, List, [], ◌∷◌, Some, None, refl}
use Rattle.std.proofs.lemmas.List.Elements.{All-nil, All-cons}
use Rattle.std.proofs.lemmas.Slice.Eq.{bytes_eq-Decides}
use Rattle.floyd_int.specs.declared.kinds.IntKind.TheVariants.{I32}
use Rattle.floyd_int.specs.declared.kinds.Value.TheVariants as v
use Rattle.floyd_int.specs.Kind.{repr_of, value_of}
use Rattle.floyd_ctypes.specs.Structs.{Structs}
use Rattle.floyd_ctypes.specs.declared.ctype.CType.{CType, Int, Array', Struct, more_of-CType, end_of-CType}
use Rattle.floyd_ctypes.specs.declared.field.Field.{Field}
use Rattle.floyd_tree_sorts.specs.declared.shape.Shape.{Shape, more_of-Shape, end_of-Shape}
use Rattle.floyd_tree_sorts.specs.declared.shape.Shape as shape
use Rattle.floyd_tree_sorts.specs.declared.sorts.Sort.{Z, Val as ValSort}
use Rattle.floyd_tree_sorts.specs.Sorts.{list_sort, pair_sort}
use Rattle.floyd_tree_sorts.specs.declared.heads.Width.TheVariants.{Bits8, Bits16}
use Rattle.floyd_tree_sorts.specs.declared.heads.Head.{Head}
use Rattle.floyd_tree_sorts.specs.declared.heads.Head.TheVariants.{Literal, Variable, Nil, Operator, Fun as FunHead}
use Rattle.floyd_tree_sorts.specs.declared.operators.Operator.TheVariants.{Cons, Add, Nth}
use Rattle.floyd_tree.specs.Plain.{Plain, At, Done, More}
use Rattle.floyd_tree_values.specs.Data.{Datum, Number, Val, Pair, seq, default_of}
use Rattle.floyd_tree_values.specs.Numbers.{quot, rem, signed, unsigned, band, bor, bxor, bnot, shl, shr, eqz, ltz, lez}
use Rattle.floyd_tree_values.specs.Values.{vint, vlong, ptr_add, eqv}
use Rattle.floyd_tree_values.specs.Lists.{nth, upd, sublist, repeat, sum}
use Rattle.floyd_tree_values.specs.Defaults.{value_sort, default_value, undefined}
use Rattle.floyd_tree_values.specs.Funs.{Fun, Case, ByCases, NilPattern, ConsPattern, Bindings}
use Rattle.floyd_tree_values.specs.BuiltIns.{Env}
use Rattle.floyd_tree_values.specs.Means.{Defs, Means, built_in, call, none, more, inside}
use Rattle.floyd_tree_values.specs.Rules.{CaseKeeps, DefsKeep}

-- -7 by 2 is -3, and leaves -1; by 0 both are 0
quot_toward_zero : quot (negsuc 6) (pos 2) ≡ negsuc 2
quot_toward_zero = refl

rem_toward_zero : rem (negsuc 6) (pos 2) ≡ negsuc 0
rem_toward_zero = refl

quot_zero : quot (pos 7) (pos 0) ≡ pos 0
quot_zero = refl

rem_zero : rem (pos 7) (pos 0) ≡ pos 0
rem_zero = refl

-- -7 / 2 rounded down
shr_negative : shr (negsuc 6) (pos 1) ≡ negsuc 3
shr_negative = refl

shr_by_negative : shr (pos 7) (negsuc 0) ≡ pos 0
shr_by_negative = refl

shl_negative : shl (negsuc 2) (pos 2) ≡ negsuc 11
shl_negative = refl

shl_by_negative : shl (pos 7) (negsuc 0) ≡ pos 0
shl_by_negative = refl

band_mask : band (negsuc 0) (pos 255) ≡ pos 255
band_mask = refl

-- -4 and -6 have the bits of -8
band_negative : band (negsuc 3) (negsuc 5) ≡ negsuc 7
band_negative = refl

-- 5 or -8 is -3
bor_mixed : bor (pos 5) (negsuc 7) ≡ negsuc 2
bor_mixed = refl

bxor_mixed : bxor (pos 5) (negsuc 0) ≡ negsuc 5
bxor_mixed = refl

bnot_zero : bnot (pos 0) ≡ negsuc 0
bnot_zero = refl

signed_byte : signed Bits8 (pos 255) ≡ negsuc 0
unfolding repr_of value_of
signed_byte = refl

signed_wraps : signed Bits8 (negsuc 128) ≡ pos 127
unfolding repr_of value_of
signed_wraps = refl

unsigned_wraps : unsigned Bits16 (negsuc 0) ≡ pos 65535
unsigned_wraps = refl

comparisons : (eqz (pos 3) (pos 3) ≡ pos 1) × (ltz (pos 3) (pos 3) ≡ pos 0) × (lez (pos 3) (pos 3) ≡ pos 1) × (ltz (negsuc 0) (pos 0) ≡ pos 1)
comparisons = (refl, refl, refl, refl)

-- values
vint_wraps : vint (negsuc 0) ≡ v.Vint (2 ^ 32 - 1)
vint_wraps = refl

vlong_wraps : vlong (negsuc 0) ≡ v.Vlong (2 ^ 64 - 1)
vlong_wraps = refl

ptr_add_wraps : ptr_add (v.Vptr 3 4) (negsuc 4) ≡ v.Vptr 3 (2 ^ 64 - 1)
ptr_add_wraps = refl

ptr_add_null : ptr_add (v.Vlong 0) (pos 4) ≡ v.Vundef
ptr_add_null = refl

eqv_tells : (eqv (v.Vlong 0) (v.Vptr 0 0) ≡ pos 0) × (eqv (v.Vptr 2 8) (v.Vptr 2 8) ≡ pos 1) × (eqv (v.Vint 1) (v.Vlong 1) ≡ pos 0)
eqv_tells = (refl, refl, refl)

-- lists
module _ (a b c d : Datum) where
  sublist_middle : sublist (pos 1) (pos 3) (a ∷ b ∷ c ∷ d ∷ []) ≡ b ∷ c ∷ []
  sublist_middle = refl

  sublist_from_below : sublist (negsuc 1) (pos 1) (a ∷ b ∷ []) ≡ a ∷ []
  sublist_from_below = refl

  sublist_beyond : sublist (pos 1) (pos 9) (a ∷ b ∷ c ∷ []) ≡ b ∷ c ∷ []
  sublist_beyond = refl

  sublist_turned : sublist (pos 3) (pos 1) (a ∷ b ∷ c ∷ d ∷ []) ≡ []
  sublist_turned = refl

  nth_in : nth d (pos 1) (a ∷ b ∷ []) ≡ b
  nth_in = refl

  nth_out : (nth d (pos 2) (a ∷ b ∷ []) ≡ d) × (nth d (negsuc 0) (a ∷ b ∷ []) ≡ d)
  nth_out = (refl, refl)

  upd_in : upd (pos 1) c (a ∷ b ∷ []) ≡ a ∷ c ∷ []
  upd_in = refl

  upd_out : (upd (pos 2) c (a ∷ b ∷ []) ≡ a ∷ b ∷ []) × (upd (negsuc 0) c (a ∷ b ∷ []) ≡ a ∷ b ∷ [])
  upd_out = (refl, refl)

  repeat_some : (repeat a (pos 2) ≡ a ∷ a ∷ []) × (repeat a (negsuc 1) ≡ [])
  repeat_some = (refl, refl)

sum_some : sum (Number (pos 5) ∷ Number (negsuc 6) ∷ []) ≡ negsuc 1
sum_some = refl

default_of_pair : default_of (pair_sort Z (pair_sort ValSort (list_sort Z))) ≡ Pair (Number (pos 0)) (Pair (Val v.Vundef) (seq []))
default_of_pair = refl

-- struct s { int a; int b[2]; }; struct t { struct s c; }; struct u;
abbrev field : List ℕ → CType → Field
field name ty = record { name = name; ty = ty }

abbrev structs : Structs
structs =
    (115 ∷ [], Some (field (97 ∷ []) (Int I32) ∷ field (98 ∷ []) (Array' tt (more_of-CType (Int I32) end_of-CType) 2) ∷ []))
    ∷ (116 ∷ [], Some (field (99 ∷ []) (Struct (115 ∷ [])) ∷ []))
    ∷ (117 ∷ [], None)
    ∷ []

abbrev array_of : Shape → Shape
array_of t = shape.Array' tt (more_of-Shape t end_of-Shape)

struct_values : value_sort structs (shape.Struct (115 ∷ [])) ≡ Some (pair_sort ValSort (list_sort ValSort))
struct_values = refl

one_field_values : value_sort structs (shape.Struct (116 ∷ [])) ≡ Some (pair_sort ValSort (list_sort ValSort))
one_field_values = refl

no_values : (value_sort structs (array_of (shape.Struct (117 ∷ []))) ≡ None) × (value_sort structs shape.Void ≡ None)
no_values = (refl, refl)

pointer_values : value_sort structs (shape.Pointer' tt (more_of-Shape (shape.Struct (117 ∷ [])) end_of-Shape)) ≡ Some ValSort
pointer_values = refl

struct_default_is : default_value structs (shape.Struct (116 ∷ [])) [] ≡ Pair undefined (seq (undefined ∷ undefined ∷ []))
struct_default_is = refl

array_default_is : default_value structs (array_of (array_of (shape.Int I32))) (pos 2 ∷ pos 1 ∷ []) ≡ seq (seq (undefined ∷ []) ∷ seq (undefined ∷ []) ∷ [])
array_default_is = refl

-- FUN length(l: list Z): Z = x :: r => 1 + length(r) | nil => 0
abbrev leaf : Head → Plain
leaf head = At head Done

abbrev number : ℤ → Plain
number z = leaf (Literal z)

abbrev length_of : Plain → Plain
length_of t = At (FunHead (108 ∷ []) (list_sort Z ∷ []) Z) (More t Done)

abbrev cons : Plain → Plain → Plain
cons t u = At (Operator Cons) (More t (More u Done))

abbrev cons_term : Plain
cons_term = At (Operator Add) (More (number (pos 1)) (More (length_of (leaf (Variable (114 ∷ []) (list_sort Z)))) Done))

abbrev cons_case : Case
cons_case = record { pattern = ConsPattern (120 ∷ []) (114 ∷ []); term = cons_term }

abbrev nil_case : Case
nil_case = record { pattern = NilPattern; term = number (pos 0) }

abbrev length_fun : Fun
length_fun =
    record { name = 108 ∷ []; arguments = (120 ∷ [], list_sort Z) ∷ []; result = Z; body = ByCases (cons_case ∷ nil_case ∷ []) }

abbrev defs : Defs
defs = record { structs = structs; funs = length_fun ∷ [] }

number_means : (env : Env) (z : ℤ) → Means defs env (number z) (Number z)
number_means env z = built_in {s = Z} refl refl none

module _ (env : Env) where
  list_means : Means defs env (cons (number (pos 7)) (cons (number (pos 8)) (leaf (Nil Z)))) (seq (Number (pos 7) ∷ Number (pos 8) ∷ []))
  list_means =
      built_in {head = Operator Cons} {s = list_sort Z} {ds = Number (pos 7) ∷ seq (Number (pos 8) ∷ []) ∷ []} refl refl
      (more (number_means env (pos 7))
      (more (built_in {head = Operator Cons} {s = list_sort Z} {ds = Number (pos 8) ∷ seq [] ∷ []} refl refl
      (more (number_means env (pos 8)) (more (built_in {head = Nil Z} {s = list_sort Z} {ds = []} refl refl none) none))) none))

-- the length of an empty list, and of a list with one more item
length_nil : (env : Env) (t : Plain) → Means defs env t (seq []) → Means defs env (length_of t) (Number (pos 0))
length_nil env t m = call {bindings = (120 ∷ [], seq []) ∷ []} {term = number (pos 0)} (more m none) refl (number_means _ (pos 0))

length_cons : (env : Env) (t : Plain) (d : Datum) (ds : List Datum) (n : ℤ) → Means defs env t (seq (d ∷ ds)) → ((e : Env) (u : Plain) → Means defs e u (seq ds) → Means defs e (length_of u) (Number n)) → Means defs env (length_of t) (Number (pos 1 +ℤ n))
length_cons env t d ds n m rest =
    let bindings : Bindings = (120 ∷ [], d) ∷ (114 ∷ [], seq ds) ∷ (120 ∷ [], seq (d ∷ ds)) ∷ [] in
    let inner = inside env bindings in
    let tail : Means defs inner (leaf (Variable (114 ∷ []) (list_sort Z))) (seq ds) = built_in {s = list_sort Z} {ds = []} refl refl none in
    call {bindings = bindings} {term = cons_term} (more m none) refl
    (built_in {head = Operator Add} {s = Z} {ds = Number (pos 1) ∷ Number n ∷ []} refl refl
    (more (number_means inner (pos 1)) (more (rest inner (leaf (Variable (114 ∷ []) (list_sort Z))) tail) none)))

-- length(7 :: 8 :: nil) is 2
length_two : (env : Env) → Means defs env (length_of (cons (number (pos 7)) (cons (number (pos 8)) (leaf (Nil Z))))) (Number (pos 2))
length_two env =
    length_cons env (cons (number (pos 7)) (cons (number (pos 8)) (leaf (Nil Z)))) (Number (pos 7)) (Number (pos 8) ∷ []) (pos 1) (list_means env)
    (λ e t m. length_cons e t (Number (pos 8)) [] (pos 0) m length_nil)

-- it keeps the rules
abbrev Keeps : Case → Type 0
Keeps c = CaseKeeps structs [] length_fun (list_sort Z) Z c

cons_keeps : Keeps cons_case
cons_keeps =
    record {
      names = λ e. let same : false ≡ true = (bytes_eq-Decides (120 ∷ []) (114 ∷ [])).1 e in cc;
      term = record { fits = record { sorted = refl; allowed = (tt, ((tt, tt), ((inr (refl, refl, refl, inl refl), ((refl, tt), tt)), tt))) }; no_local = refl };
    }

nil_keeps : Keeps nil_case
nil_keeps = record { names = tt; term = record { fits = record { sorted = refl; allowed = (tt, tt) }; no_local = refl } }

length_keeps : DefsKeep defs
length_keeps = (record { name = refl; arguments = (λ e. e, tt); body = (inr refl, All-cons Keeps cons_case (nil_case ∷ []) cons_keeps (All-cons Keeps nil_case [] nil_keeps (All-nil Keeps))) }, tt)

-- nth(5, nil) of lists of pairs is a pair of defaults
nth_of_nil : (env : Env) → Means defs env (At (Operator Nth) (More (number (pos 5)) (More (leaf (Nil (pair_sort Z ValSort))) Done))) (Pair (Number (pos 0)) undefined)
nth_of_nil env =
    built_in {head = Operator Nth} {s = pair_sort Z ValSort} {ds = Number (pos 5) ∷ seq [] ∷ []} refl refl
    (more (number_means env (pos 5)) (more (built_in {head = Nil (pair_sort Z ValSort)} {s = list_sort (pair_sort Z ValSort)} {ds = []} refl refl none) none))
