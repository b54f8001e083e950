-- Evaluation depends on the places that it loads and on the validity that it asks for alone.
use Rattle.std.proofs.Common.{◌≡◌, ℕ, zero, suc, ◌+◌, ◌==◌, ◌&&◌, ◌||◌, Bool, true, false, cond, not, List, [], ◌∷◌, ◌++◌, Option, Some, None, refl, ◌∙◌, ap, ap₂}
use Rattle.std.specs.Prelude.{option_map, option_and_then, nat_lt, nat_le}
use Rattle.std.specs.List.{AllByRecursion}
use Rattle.floyd_int.specs.declared.kinds.IntOp.{IntOp}
use Rattle.floyd_int.specs.declared.kinds.IntOp.TheVariants.{Add, Sub, Mul, Div, Rem, And, Or, Xor, Shl, Shr, Eq, Ne, Lt, Le, Gt, Ge}
use Rattle.floyd_int.specs.declared.kinds.Value.{Value}
use Rattle.floyd_int.specs.declared.kinds.Value.TheVariants.{Vlong, Vptr}
use Rattle.floyd_memval.specs.declared.bytes.Chunk.{Chunk}
use Rattle.floyd_memval.specs.declared.bytes.Chunk.TheVariants.{Ptr}
use Rattle.floyd_memval.specs.Chunks.{chunk_size, kind_chunk}
use Rattle.floyd_memval.specs.Decoding.{decoding}
use Rattle.floyd_clight_memory.specs.Memory.{is_aligned}
use Rattle.floyd_clight_memory.specs.Loads.{bytes_by}
use Rattle.floyd_ctypes.specs.declared.ctype.CType.{CType, Void, Int, Pointer', Array', Struct, Function'}
use Rattle.floyd_ctypes.specs.Structs.{Structs}
use Rattle.floyd_clight.specs.declared.syntax.UnaryOp.{UnaryOp}
use Rattle.floyd_clight.specs.declared.syntax.UnaryOp.TheVariants.{Neg, Complement, Not}
use Rattle.floyd_clight.specs.declared.syntax.Expr.{Expr, Const, Temp, Var, Deref', AddrOf', Unary', Binary', Cast', Field', SizeOf, end_of-Expr, more_of-Expr}
use Rattle.floyd_clight.specs.Types.{type_of}
use Rattle.floyd_clight_machine.specs.Types.{pointee, is_pointer}
use Rattle.floyd_clight_machine.specs.Looking.{is_weakly_valid, load}
use Rattle.floyd_clight_machine.specs.Pointers.{equal_pointers, ordered_pointers, compare_pointers, on_addresses, pointer_unary, truth}
use Rattle.floyd_clight_machine.specs.Evaluation.{Spot, Look, Temps, address, value_at, unary_value, binary_value, cast_value, is_zero_constant, led, start_of, field_of, eval_by, place_by}
use Rattle.floyd_clight_machine.specs.Footprint.{spots, loads_at, value_loads, place_loads, weak_spots, equality_asks, order_asks, comparison_asks, binary_asks, unary_asks, value_asks, place_asks}
use Rattle.floyd_clight_machine.specs.Laws.{SameNames, SameBytes, SameValidity}

pub all_front : {A : Type 0} → (Q : A → Type 0) (xs ys : List A) → AllByRecursion Q (xs ++ ys) → AllByRecursion Q xs
all_front Q [] ys a = tt
all_front Q (x ∷ xs) ys a = (a.0, all_front Q xs ys a.1)

pub all_back : {A : Type 0} → (Q : A → Type 0) (xs ys : List A) → AllByRecursion Q (xs ++ ys) → AllByRecursion Q ys
all_back Q [] ys a = a
all_back Q (x ∷ xs) ys a = all_back Q xs ys a.1

pub all_both : {A : Type 0} → (Q : A → Type 0) (xs ys : List A) → AllByRecursion Q xs → AllByRecursion Q ys → AllByRecursion Q (xs ++ ys)
all_both Q [] ys a b = b
all_both Q (x ∷ xs) ys a b = (a.0, all_both Q xs ys a.1 b)

module _ (j k : Look) where
  -- the two facts, of one place
  abbrev ByteAt : Spot → Type 0
  ByteAt s = j.byte_at s.block s.offset ≡ k.byte_at s.block s.offset

  abbrev ValidAt : Spot → Type 0
  ValidAt s = j.is_valid s.block s.offset ≡ k.is_valid s.block s.offset

  bytes_same : (n block offset : ℕ) → SameBytes j k (spots n block offset) → bytes_by j.byte_at n block offset ≡ bytes_by k.byte_at n block offset
  bytes_same zero block offset h = refl
  bytes_same (suc n) block offset h = ap₂ (λ x y. option_and_then (λ byte. option_map (λ bytes. byte ∷ bytes) y) x) h.0 (bytes_same n block (offset + 1) h.1)

  load_same : (c : Chunk) (s : Spot) → SameBytes j k (spots (chunk_size c) s.block s.offset) → load j c s ≡ load k c s
  load_same c s h = ap (λ x. cond (is_aligned c s.offset) (option_map (decoding c) x) None) (bytes_same (chunk_size c) s.block s.offset h)

  value_at_same : (t : CType) (s : Spot) → SameBytes j k (loads_at t (Some s)) → value_at j t s ≡ value_at k t s
  value_at_same Void s h = refl
  value_at_same (Int kind) s h = load_same (kind_chunk kind) s h
  value_at_same (Pointer' p t) s h = load_same Ptr s h
  value_at_same (Array' p t n) s h = refl
  value_at_same (Struct tag) s h = refl
  value_at_same (Function' shape ps p r) s h = refl

  at_same : (t : CType) (o : Option Spot) → SameBytes j k (loads_at t o) → option_and_then (value_at j t) o ≡ option_and_then (value_at k t) o
  at_same t None h = refl
  at_same t (Some s) h = value_at_same t s h

  start_same : (t : CType) (o : Option ℕ) → SameBytes j k (loads_at t (option_map start_of o)) → option_and_then (λ b. value_at j t (start_of b)) o ≡ option_and_then (λ b. value_at k t (start_of b)) o
  start_same t None h = refl
  start_same t (Some b) h = value_at_same t (start_of b) h

  weak_same : (block offset : ℕ) → SameValidity j k (weak_spots block offset) → is_weakly_valid j block offset ≡ is_weakly_valid k block offset
  weak_same block zero h = ap (λ x. x || false) h.0
  weak_same block (suc offset) h = ap₂ (λ x y. x || y) h.0 h.1.0

  two_weak : (b o c q : ℕ) → SameValidity j k (weak_spots b o ++ weak_spots c q) → is_weakly_valid j b o && is_weakly_valid j c q ≡ is_weakly_valid k b o && is_weakly_valid k c q
  two_weak b o c q h =
      ap₂ (λ x y. x && y) (weak_same b o (all_front ValidAt (weak_spots b o) (weak_spots c q) h)) (weak_same c q (all_back ValidAt (weak_spots b o) (weak_spots c q) h))

  two_valid : (b o c q : ℕ) → SameValidity j k (record { block = b; offset = o } ∷ record { block = c; offset = q } ∷ []) → j.is_valid b o && j.is_valid c q ≡ k.is_valid b o && k.is_valid c q
  two_valid b o c q h = ap₂ (λ x y. x && y) h.0 h.1.0

  pair_same : (t : Bool) (b o c q : ℕ) → SameValidity j k (cond t (weak_spots b o ++ weak_spots c q) (record { block = b; offset = o } ∷ record { block = c; offset = q } ∷ [])) →
      cond t (cond (is_weakly_valid j b o && is_weakly_valid j c q) (Some (o == q)) None) (cond (j.is_valid b o && j.is_valid c q) (Some false) None)
      ≡ cond t (cond (is_weakly_valid k b o && is_weakly_valid k c q) (Some (o == q)) None) (cond (k.is_valid b o && k.is_valid c q) (Some false) None)
  pair_same true b o c q h = ap (λ x. cond x (Some (o == q)) None) (two_weak b o c q h)
  pair_same false b o c q h = ap (λ x. cond x (Some false) None) (two_valid b o c q h)

  equal_same : (v w : Value) → SameValidity j k (equality_asks v w) → equal_pointers j v w ≡ equal_pointers k v w
  equal_same (Vlong m) (Vlong n) h = refl
  equal_same (Vlong m) (Vptr b o) h = ap (λ x. cond (m == 0 && x) (Some false) None) (weak_same b o h)
  equal_same (Vptr b o) (Vlong n) h = ap (λ x. cond (n == 0 && x) (Some false) None) (weak_same b o h)
  equal_same (Vptr b o) (Vptr c q) h = pair_same (b == c) b o c q h
  equal_same v w h = refl

  order_if : (t : Bool) (b o c q : ℕ) (r : Bool) → SameValidity j k (cond t (weak_spots b o ++ weak_spots c q) []) →
      cond (t && (is_weakly_valid j b o && is_weakly_valid j c q)) (Some r) None ≡ cond (t && (is_weakly_valid k b o && is_weakly_valid k c q)) (Some r) None
  order_if true b o c q r h = ap (λ x. cond x (Some r) None) (two_weak b o c q h)
  order_if false b o c q r h = refl

  order_same : (order : ℕ → ℕ → Bool) (v w : Value) → SameValidity j k (order_asks v w) → ordered_pointers j order v w ≡ ordered_pointers k order v w
  order_same order (Vptr b o) (Vptr c q) h = order_if (b == c) b o c q (order o q) h
  order_same order v w h = refl

  compare_same : (op : IntOp) (v w : Value) → SameValidity j k (comparison_asks op v w) → compare_pointers j op v w ≡ compare_pointers k op v w
  compare_same Add v w h = refl
  compare_same Sub v w h = refl
  compare_same Mul v w h = refl
  compare_same Div v w h = refl
  compare_same Rem v w h = refl
  compare_same And v w h = refl
  compare_same Or v w h = refl
  compare_same Xor v w h = refl
  compare_same Shl v w h = refl
  compare_same Shr v w h = refl
  compare_same Eq v w h = ap truth (equal_same v w h)
  compare_same Ne v w h = ap (λ x. truth (option_map not x)) (equal_same v w h)
  compare_same Lt v w h = ap truth (order_same nat_lt v w h)
  compare_same Le v w h = ap truth (order_same nat_le v w h)
  compare_same Gt v w h = ap truth (order_same (λ o q. nat_lt q o) v w h)
  compare_same Ge v w h = ap truth (order_same (λ o q. nat_le q o) v w h)

  on_same : (op : IntOp) (t u : Option CType) (v w : Value) → SameValidity j k (binary_asks op t u (Some v) (Some w)) → on_addresses j op t u v w ≡ on_addresses k op t u v w
  on_same op (Some t) (Some u) v w h = compare_same op v w h
  on_same op (Some t) None v w h = refl
  on_same op None u v w h = refl

  binary_same : (S : Structs) (op : IntOp) (t u : CType) (v w : Value) → SameValidity j k (binary_asks op (pointee t) (pointee u) (Some v) (Some w)) → binary_value S j op t u v w ≡ binary_value S k op t u v w
  binary_same S op (Int a) (Int b) v w h = refl
  binary_same S op (Int a) u v w h = refl
  binary_same S op t (Int b) v w h = refl
  binary_same S op t u v w h = on_same op (pointee t) (pointee u) v w h

  both_same : (S : Structs) (op : IntOp) (t u : CType) (x y : Option Value) → SameValidity j k (binary_asks op (pointee t) (pointee u) x y) →
      option_and_then (λ v. option_and_then (binary_value S j op t u v) y) x ≡ option_and_then (λ v. option_and_then (binary_value S k op t u v) y) x
  both_same S op t u None y h = refl
  both_same S op t u (Some v) None h = refl
  both_same S op t u (Some v) (Some w) h = binary_same S op t u v w h

  not_same : (op : UnaryOp) (t : Option CType) (v : Value) → SameValidity j k (unary_asks op t (Some v)) → pointer_unary j op t v ≡ pointer_unary k op t v
  not_same Not (Some t) v h = ap truth (equal_same v (Vlong 0) h)
  not_same Not None v h = refl
  not_same Neg t v h = refl
  not_same Complement t v h = refl

  unary_same : (op : UnaryOp) (t : CType) (v : Value) → SameValidity j k (unary_asks op (pointee t) (Some v)) → unary_value j op t v ≡ unary_value k op t v
  unary_same op (Int a) v h = refl
  unary_same op t v h = not_same op (pointee t) v h

  one_same : (op : UnaryOp) (t : CType) (x : Option Value) → SameValidity j k (unary_asks op (pointee t) x) → option_and_then (unary_value j op t) x ≡ option_and_then (unary_value k op t) x
  one_same op t None h = refl
  one_same op t (Some v) h = unary_same op t v h

  module _ (S : Structs) (temps : Temps) (names : SameNames j k) where
    mutual
      pub value_same : (e : Expr) → SameBytes j k (value_loads S j temps e) → SameValidity j k (value_asks S j temps e) → eval_by S j temps e ≡ eval_by S k temps e
      value_same (Const v t) h g = refl
      value_same (Temp x t) h g = refl
      value_same (Var b x t) h g = start_same t (j.block_of b x) h ∙ ap (option_and_then (λ c. value_at k t (start_of c))) (names b x)
      value_same (Deref' p (more_of-Expr e end_of-Expr) t) h g =
          at_same t (option_and_then led (eval_by S j temps e)) (all_back ByteAt (value_loads S j temps e) (loads_at t (option_and_then led (eval_by S j temps e))) h)
          ∙ ap (λ x. option_and_then (value_at k t) (option_and_then led x)) (value_same e (all_front ByteAt (value_loads S j temps e) (loads_at t (option_and_then led (eval_by S j temps e))) h) g)
      value_same (AddrOf' p (more_of-Expr e end_of-Expr) t) h g = ap (option_map address) (place_same e h g)
      value_same (Unary' op p (more_of-Expr e end_of-Expr) t) h g =
          one_same op (type_of e) (eval_by S j temps e) (all_back ValidAt (value_asks S j temps e) (unary_asks op (pointee (type_of e)) (eval_by S j temps e)) g)
          ∙ ap (option_and_then (unary_value k op (type_of e))) (value_same e h (all_front ValidAt (value_asks S j temps e) (unary_asks op (pointee (type_of e)) (eval_by S j temps e)) g))
      value_same (Binary' op p (more_of-Expr a end_of-Expr) q (more_of-Expr b end_of-Expr) t) h g =
          let asks = binary_asks op (pointee (type_of a)) (pointee (type_of b)) (eval_by S j temps a) (eval_by S j temps b) in
          let operands = all_front ValidAt (value_asks S j temps a ++ value_asks S j temps b) asks g in
          both_same S op (type_of a) (type_of b) (eval_by S j temps a) (eval_by S j temps b) (all_back ValidAt (value_asks S j temps a ++ value_asks S j temps b) asks g)
          ∙ ap₂ (λ x y. option_and_then (λ v. option_and_then (binary_value S k op (type_of a) (type_of b) v) y) x)
          (value_same a (all_front ByteAt (value_loads S j temps a) (value_loads S j temps b) h) (all_front ValidAt (value_asks S j temps a) (value_asks S j temps b) operands))
          (value_same b (all_back ByteAt (value_loads S j temps a) (value_loads S j temps b) h) (all_back ValidAt (value_asks S j temps a) (value_asks S j temps b) operands))
      value_same (Cast' p (more_of-Expr e end_of-Expr) t) h g =
          ap (λ x. cond (is_pointer t && is_zero_constant e) (Some (Vlong 0)) (option_and_then (cast_value (type_of e) t) x)) (value_same e h g)
      value_same (Field' p (more_of-Expr e end_of-Expr) x t) h g =
          at_same t (option_and_then (field_of S (type_of e) x) (place_by S j temps e)) (all_back ByteAt (place_loads S j temps e) (loads_at t (option_and_then (field_of S (type_of e) x) (place_by S j temps e))) h)
          ∙ ap (λ y. option_and_then (value_at k t) (option_and_then (field_of S (type_of e) x) y)) (place_same e (all_front ByteAt (place_loads S j temps e) (loads_at t (option_and_then (field_of S (type_of e) x) (place_by S j temps e))) h) g)
      value_same (SizeOf of t) h g = refl

      pub place_same : (e : Expr) → SameBytes j k (place_loads S j temps e) → SameValidity j k (place_asks S j temps e) → place_by S j temps e ≡ place_by S k temps e
      place_same (Const v t) h g = refl
      place_same (Temp x t) h g = refl
      place_same (Var b x t) h g = ap (option_map start_of) (names b x)
      place_same (Deref' p (more_of-Expr e end_of-Expr) t) h g = ap (option_and_then led) (value_same e h g)
      place_same (AddrOf' p (more_of-Expr e end_of-Expr) t) h g = refl
      place_same (Unary' op p (more_of-Expr e end_of-Expr) t) h g = refl
      place_same (Binary' op p (more_of-Expr a end_of-Expr) q (more_of-Expr b end_of-Expr) t) h g = refl
      place_same (Cast' p (more_of-Expr e end_of-Expr) t) h g = refl
      place_same (Field' p (more_of-Expr e end_of-Expr) x t) h g = ap (option_and_then (field_of S (type_of e) x)) (place_same e h g)
      place_same (SizeOf of t) h g = refl
