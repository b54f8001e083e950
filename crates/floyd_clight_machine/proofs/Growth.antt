-- What has a value keeps it where more is found, and what is loaded for it is there.
use Rattle.std.proofs.Common.{◌∷◌, ◌≡◌, ℕ, zero, suc, ◌+◌, ◌==◌, ◌&&◌, ◌||◌, Bool, true, false, cond, not, List, [], ◌++◌, Option, Some, None, refl, sym, ◌∙◌, subst, ap, ap₂}
use Rattle.std.specs.Prelude.{option_map, option_and_then, nat_lt, nat_le}
use Rattle.std.specs.List.{AllByRecursion}
use Rattle.std.proofs.lemmas.Bool.{and_parts}
use Rattle.floyd_int.specs.declared.kinds.IntOp.{IntOp}
use Rattle.floyd_int.specs.declared.kinds.IntOp.TheVariants.{Add, Sub, Mul, Div, Rem, And, Or, Xor, Shl, Shr, Eq, Ne, Lt, Le, Gt, Ge}
use Rattle.floyd_int.specs.declared.kinds.Value.{Value}
use Rattle.floyd_int.specs.declared.kinds.Value.TheVariants.{Vlong, Vptr}
use Rattle.floyd_memval.specs.declared.bytes.MemByte.{MemByte}
use Rattle.floyd_memval.specs.declared.bytes.Chunk.{Chunk}
use Rattle.floyd_memval.specs.declared.bytes.Chunk.TheVariants.{Ptr}
use Rattle.floyd_memval.specs.Chunks.{chunk_size, kind_chunk}
use Rattle.floyd_memval.specs.Decoding.{decoding}
use Rattle.floyd_clight_memory.specs.Memory.{is_aligned}
use Rattle.floyd_clight_memory.specs.Loads.{bytes_by}
use Rattle.floyd_ctypes.specs.declared.ctype.CType.{CType, Void, Int, Pointer', Array', Struct, Function'}
use Rattle.floyd_ctypes.specs.Structs.{Structs}
use Rattle.floyd_clight.specs.declared.syntax.UnaryOp.{UnaryOp}
use Rattle.floyd_clight.specs.declared.syntax.UnaryOp.TheVariants.{Neg, Complement, Not}
use Rattle.floyd_clight.specs.declared.syntax.Expr.{Expr, Const, Temp, Var, Deref', AddrOf', Unary', Binary', Cast', Field', SizeOf, end_of-Expr, more_of-Expr}
use Rattle.floyd_clight.specs.Types.{type_of}
use Rattle.floyd_clight_machine.specs.Types.{pointee, is_pointer}
use Rattle.floyd_clight_machine.specs.Looking.{is_valid_below, is_weakly_valid}
use Rattle.floyd_clight_machine.specs.Pointers.{equal_pointers, ordered_pointers, compare_pointers, on_addresses, pointer_unary, truth}
use Rattle.floyd_clight_machine.specs.Evaluation.{Spot, Look, Temps, address, value_at, unary_value, binary_value, cast_value, is_zero_constant, led, start_of, field_of, eval_by, place_by}
use Rattle.floyd_clight_machine.specs.Footprint.{spots, loads_at, value_loads, place_loads}
use Rattle.floyd_clight_machine.specs.Laws.{Grows, IsThere, Lasts}
use Rattle.floyd_clight_machine.proofs.Dependence.{all_both}

-- what went before, where there is a result
pub then_some : {A B : Type 0} → (f : A → Option B) (o : Option A) (b : B) → option_and_then f o ≡ Some b → (a : A) × (o ≡ Some a) × (f a ≡ Some b)
then_some f None b e = cc
then_some f (Some a) b e = (a, refl, e)

pub map_some : {A B : Type 0} → (f : A → B) (o : Option A) (b : B) → option_map f o ≡ Some b → (a : A) × (o ≡ Some a) × (Some (f a) ≡ Some b)
map_some f None b e = cc
map_some f (Some a) b e = (a, refl, e)

if_last : {A : Type 0} → (c d : Bool) (x : Option A) (y : A) → (c ≡ true → d ≡ true) → cond c x None ≡ Some y → cond d x None ≡ Some y
if_last true d x y f e = ap (λ t. cond t x None) (f refl) ∙ e
if_last false d x y f e = cc

map_last : {A B : Type 0} → (f : A → B) (o n : Option A) (y : B) → ((a : A) → o ≡ Some a → n ≡ Some a) → option_map f o ≡ Some y → option_map f n ≡ Some y
map_last f None n y g e = cc
map_last f (Some a) n y g e = ap (option_map f) (g a refl) ∙ e

and_last : (a b c d : Bool) → (a ≡ true → c ≡ true) → (b ≡ true → d ≡ true) → a && b ≡ true → c && d ≡ true
and_last true b c d f g e = ap₂ (λ x y. x && y) (f refl) (g e)
and_last false b c d f g e = cc

or_last : (a b c d : Bool) → (a ≡ true → c ≡ true) → (b ≡ true → d ≡ true) → a || b ≡ true → c || d ≡ true
or_last true b c d f g e = ap (λ x. x || d) (f refl)
or_last false b true d f g e = refl
or_last false b false d f g e = g e

module _ (j k : Look) (grows : Grows j k) where
  -- one byte and the rest
  bytes_step : (x : Option MemByte) (y : Option (List MemByte)) (bs : List MemByte) → option_and_then (λ byte. option_map (λ bytes. byte ∷ bytes) y) x ≡ Some bs → (byte : MemByte) × (rest : List MemByte) × (x ≡ Some byte) × (y ≡ Some rest)
  bytes_step None y bs e = cc
  bytes_step (Some byte) None bs e = cc
  bytes_step (Some byte) (Some rest) bs e = (byte, rest, refl, refl)

  bytes_last : (n block offset : ℕ) (bs : List MemByte) → bytes_by j.byte_at n block offset ≡ Some bs → (bytes_by k.byte_at n block offset ≡ Some bs) × AllByRecursion (IsThere j) (spots n block offset)
  bytes_last zero block offset bs e = (e, tt)
  bytes_last (suc n) block offset bs e =
      let s = bytes_step (j.byte_at block offset) (bytes_by j.byte_at n block (offset + 1)) bs e in
      let r = bytes_last n block (offset + 1) s.1 s.3 in
      (ap₂ (λ x y. option_and_then (λ byte. option_map (λ bytes. byte ∷ bytes) y) x) (grows.bytes block offset s.0 s.2 ∙ sym s.2) (r.0 ∙ sym s.3) ∙ e, (record { byte = s.0; is = s.2 }, r.1))

  load_if : (t : Bool) (c : Chunk) (s : Spot) (v : Value) → cond t (option_map (decoding c) (bytes_by j.byte_at (chunk_size c) s.block s.offset)) None ≡ Some v → (cond t (option_map (decoding c) (bytes_by k.byte_at (chunk_size c) s.block s.offset)) None ≡ Some v) × AllByRecursion (IsThere j) (spots (chunk_size c) s.block s.offset)
  load_if true c s v e =
      let m = map_some (decoding c) (bytes_by j.byte_at (chunk_size c) s.block s.offset) v e in
      let r = bytes_last (chunk_size c) s.block s.offset m.0 m.1 in
      (ap (option_map (decoding c)) r.0 ∙ m.2, r.1)
  load_if false c s v e = cc

  value_at_last : (t : CType) (s : Spot) (v : Value) → value_at j t s ≡ Some v → (value_at k t s ≡ Some v) × AllByRecursion (IsThere j) (loads_at t (Some s))
  value_at_last Void s v e = cc
  value_at_last (Int kind) s v e = load_if (is_aligned (kind_chunk kind) s.offset) (kind_chunk kind) s v e
  value_at_last (Pointer' p t) s v e = load_if (is_aligned Ptr s.offset) Ptr s v e
  value_at_last (Array' p t n) s v e = (e, tt)
  value_at_last (Struct tag) s v e = (e, tt)
  value_at_last (Function' shape ps p r) s v e = (e, tt)

  below_last : (block offset : ℕ) → is_valid_below j block offset ≡ true → is_valid_below k block offset ≡ true
  below_last block zero e = e
  below_last block (suc offset) e = grows.valid block offset e

  weak_last : (block offset : ℕ) → is_weakly_valid j block offset ≡ true → is_weakly_valid k block offset ≡ true
  weak_last block offset e =
      or_last (j.is_valid block offset) (is_valid_below j block offset) (k.is_valid block offset) (is_valid_below k block offset) (grows.valid block offset) (below_last block offset) e

  two_weak : (b o c q : ℕ) → is_weakly_valid j b o && is_weakly_valid j c q ≡ true → is_weakly_valid k b o && is_weakly_valid k c q ≡ true
  two_weak b o c q e = and_last (is_weakly_valid j b o) (is_weakly_valid j c q) (is_weakly_valid k b o) (is_weakly_valid k c q) (weak_last b o) (weak_last c q) e

  pair_last : (t : Bool) (b o c q : ℕ) (r : Bool) →
      cond t (cond (is_weakly_valid j b o && is_weakly_valid j c q) (Some (o == q)) None) (cond (j.is_valid b o && j.is_valid c q) (Some false) None) ≡ Some r →
      cond t (cond (is_weakly_valid k b o && is_weakly_valid k c q) (Some (o == q)) None) (cond (k.is_valid b o && k.is_valid c q) (Some false) None) ≡ Some r
  pair_last true b o c q r e = if_last (is_weakly_valid j b o && is_weakly_valid j c q) (is_weakly_valid k b o && is_weakly_valid k c q) (Some (o == q)) r (two_weak b o c q) e
  pair_last false b o c q r e =
      if_last (j.is_valid b o && j.is_valid c q) (k.is_valid b o && k.is_valid c q) (Some false) r
      (and_last (j.is_valid b o) (j.is_valid c q) (k.is_valid b o) (k.is_valid c q) (grows.valid b o) (grows.valid c q)) e

  null_last : (t : Bool) (b o : ℕ) (r : Bool) → cond (t && is_weakly_valid j b o) (Some false) None ≡ Some r → cond (t && is_weakly_valid k b o) (Some false) None ≡ Some r
  null_last t b o r e =
      if_last (t && is_weakly_valid j b o) (t && is_weakly_valid k b o) (Some false) r
      (and_last t (is_weakly_valid j b o) t (is_weakly_valid k b o) (λ x. x) (weak_last b o)) e

  equal_last : (v w : Value) (r : Bool) → equal_pointers j v w ≡ Some r → equal_pointers k v w ≡ Some r
  equal_last (Vlong m) (Vlong n) r e = e
  equal_last (Vlong m) (Vptr b o) r e = null_last (m == 0) b o r e
  equal_last (Vptr b o) (Vlong n) r e = null_last (n == 0) b o r e
  equal_last (Vptr b o) (Vptr c q) r e = pair_last (b == c) b o c q r e
  equal_last v w r e = cc

  order_last : (order : ℕ → ℕ → Bool) (v w : Value) (r : Bool) → ordered_pointers j order v w ≡ Some r → ordered_pointers k order v w ≡ Some r
  order_last order (Vptr b o) (Vptr c q) r e =
      if_last (b == c && (is_weakly_valid j b o && is_weakly_valid j c q)) (b == c && (is_weakly_valid k b o && is_weakly_valid k c q)) (Some (order o q)) r
      (and_last (b == c) (is_weakly_valid j b o && is_weakly_valid j c q) (b == c) (is_weakly_valid k b o && is_weakly_valid k c q) (λ x. x) (two_weak b o c q)) e
  order_last order v w r e = cc

  truth_last : (o n : Option Bool) (v : Value) → ((b : Bool) → o ≡ Some b → n ≡ Some b) → truth o ≡ Some v → truth n ≡ Some v
  truth_last None n v f e = cc
  truth_last (Some b) n v f e = ap truth (f b refl) ∙ e

  compare_last : (op : IntOp) (v w x : Value) → compare_pointers j op v w ≡ Some x → compare_pointers k op v w ≡ Some x
  compare_last Add v w x e = e
  compare_last Sub v w x e = e
  compare_last Mul v w x e = e
  compare_last Div v w x e = e
  compare_last Rem v w x e = e
  compare_last And v w x e = e
  compare_last Or v w x e = e
  compare_last Xor v w x e = e
  compare_last Shl v w x e = e
  compare_last Shr v w x e = e
  compare_last Eq v w x e = truth_last (equal_pointers j v w) (equal_pointers k v w) x (equal_last v w) e
  compare_last Ne v w x e =
      truth_last (option_map not (equal_pointers j v w)) (option_map not (equal_pointers k v w)) x
      (λ b f. map_last not (equal_pointers j v w) (equal_pointers k v w) b (equal_last v w) f) e
  compare_last Lt v w x e = truth_last (ordered_pointers j nat_lt v w) (ordered_pointers k nat_lt v w) x (order_last nat_lt v w) e
  compare_last Le v w x e = truth_last (ordered_pointers j nat_le v w) (ordered_pointers k nat_le v w) x (order_last nat_le v w) e
  compare_last Gt v w x e = truth_last (ordered_pointers j (λ o q. nat_lt q o) v w) (ordered_pointers k (λ o q. nat_lt q o) v w) x (order_last (λ o q. nat_lt q o) v w) e
  compare_last Ge v w x e = truth_last (ordered_pointers j (λ o q. nat_le q o) v w) (ordered_pointers k (λ o q. nat_le q o) v w) x (order_last (λ o q. nat_le q o) v w) e

  on_last : (op : IntOp) (t u : Option CType) (v w x : Value) → on_addresses j op t u v w ≡ Some x → on_addresses k op t u v w ≡ Some x
  on_last op (Some t) (Some u) v w x e = compare_last op v w x e
  on_last op (Some t) None v w x e = e
  on_last op None u v w x e = e

  binary_last : (S : Structs) (op : IntOp) (t u : CType) (v w x : Value) → binary_value S j op t u v w ≡ Some x → binary_value S k op t u v w ≡ Some x
  binary_last S op (Int a) (Int b) v w x e = e
  binary_last S op (Int a) u v w x e = e
  binary_last S op t (Int b) v w x e = e
  binary_last S op t u v w x e = on_last op (pointee t) (pointee u) v w x e

  not_last : (op : UnaryOp) (t : Option CType) (v x : Value) → pointer_unary j op t v ≡ Some x → pointer_unary k op t v ≡ Some x
  not_last Not (Some t) v x e = truth_last (equal_pointers j v (Vlong 0)) (equal_pointers k v (Vlong 0)) x (equal_last v (Vlong 0)) e
  not_last Not None v x e = e
  not_last Neg t v x e = e
  not_last Complement t v x e = e

  unary_last : (op : UnaryOp) (t : CType) (v x : Value) → unary_value j op t v ≡ Some x → unary_value k op t v ≡ Some x
  unary_last op (Int a) v x e = e
  unary_last op t v x e = not_last op (pointee t) v x e

  module _ (S : Structs) (temps : Temps) where
    -- what is claimed: it has the same value, and the same places are loaded for it and are there
    abbrev ValueLasts : Expr → Value → Type 0
    ValueLasts e v = (eval_by S k temps e ≡ Some v) × (value_loads S k temps e ≡ value_loads S j temps e) × AllByRecursion (IsThere j) (value_loads S j temps e)

    abbrev PlaceLasts : Expr → Spot → Type 0
    PlaceLasts e s = (place_by S k temps e ≡ Some s) × (place_loads S k temps e ≡ place_loads S j temps e) × AllByRecursion (IsThere j) (place_loads S j temps e)

    zero_loads : (look : Look) (e : Expr) → is_zero_constant e ≡ true → value_loads S look temps e ≡ []
    zero_loads look (Const v t) h = refl
    zero_loads look (Temp x t) h = cc
    zero_loads look (Var b x t) h = cc
    zero_loads look (Deref' p e t) h = cc
    zero_loads look (AddrOf' p e t) h = cc
    zero_loads look (Unary' op p e t) h = cc
    zero_loads look (Binary' op p a q b t) h = cc
    zero_loads look (Cast' p e t) h = cc
    zero_loads look (Field' p e x t) h = cc
    zero_loads look (SizeOf of t) h = cc

    cast_last : (c : Bool) (f : Value → Option Value) (e : Expr) (v : Value) → (c ≡ true → is_zero_constant e ≡ true) → ((w : Value) → eval_by S j temps e ≡ Some w → ValueLasts e w) →
        cond c (Some (Vlong 0)) (option_and_then f (eval_by S j temps e)) ≡ Some v →
        (cond c (Some (Vlong 0)) (option_and_then f (eval_by S k temps e)) ≡ Some v) × (value_loads S k temps e ≡ value_loads S j temps e) × AllByRecursion (IsThere j) (value_loads S j temps e)
    cast_last true f e v z g h =
        (h, zero_loads k e (z refl) ∙ sym (zero_loads j e (z refl)), subst (AllByRecursion (IsThere j)) (sym (zero_loads j e (z refl))) tt)
    cast_last false f e v z g h =
        let i = then_some f (eval_by S j temps e) v h in
        let r = g i.0 i.1 in
        (ap (option_and_then f) r.0 ∙ i.2, r.1, r.2)

    mutual
      pub value_last : (e : Expr) (v : Value) → eval_by S j temps e ≡ Some v → ValueLasts e v
      value_last (Const w t) v h = (h, refl, tt)
      value_last (Temp x t) v h = (h, refl, tt)
      value_last (Var b x t) v h =
          let i = then_some (λ c. value_at j t (start_of c)) (j.block_of b x) v h in
          let a = value_at_last t (start_of i.0) v i.2 in
          let there : k.block_of b x ≡ Some i.0 = sym (grows.names b x) ∙ i.1 in (
            ap (option_and_then (λ c. value_at k t (start_of c))) there ∙ a.0,
            ap (λ o. loads_at t (option_map start_of o)) (sym (grows.names b x)),
            subst (λ o. AllByRecursion (IsThere j) (loads_at t (option_map start_of o))) (sym i.1) a.1,
          )
      value_last (Deref' p (more_of-Expr e end_of-Expr) t) v h =
          let i = then_some (value_at j t) (option_and_then led (eval_by S j temps e)) v h in
          let i2 = then_some led (eval_by S j temps e) i.0 i.1 in
          let r = value_last e i2.0 i2.1 in
          let a = value_at_last t i.0 v i.2 in (
            ap (λ x. option_and_then (value_at k t) (option_and_then led x)) r.0 ∙ ap (option_and_then (value_at k t)) i2.2 ∙ a.0,
            ap₂ (λ x y. x ++ loads_at t (option_and_then led y)) r.1 (r.0 ∙ sym i2.1),
            all_both (IsThere j) (value_loads S j temps e) (loads_at t (option_and_then led (eval_by S j temps e))) r.2
                (subst (λ o. AllByRecursion (IsThere j) (loads_at t o)) (sym i.1) a.1),
          )
      value_last (AddrOf' p (more_of-Expr e end_of-Expr) t) v h =
          let i = map_some address (place_by S j temps e) v h in
          let r = place_last e i.0 i.1 in
          (ap (option_map address) r.0 ∙ i.2, r.1, r.2)
      value_last (Unary' op p (more_of-Expr e end_of-Expr) t) v h =
          let i = then_some (unary_value j op (type_of e)) (eval_by S j temps e) v h in
          let r = value_last e i.0 i.1 in
          (ap (option_and_then (unary_value k op (type_of e))) r.0 ∙ unary_last op (type_of e) i.0 v i.2, r.1, r.2)
      value_last (Binary' op p (more_of-Expr a end_of-Expr) q (more_of-Expr b end_of-Expr) t) v h =
          let i = then_some (λ w. option_and_then (binary_value S j op (type_of a) (type_of b) w) (eval_by S j temps b)) (eval_by S j temps a) v h in
          let i2 = then_some (binary_value S j op (type_of a) (type_of b) i.0) (eval_by S j temps b) v i.2 in
          let r = value_last a i.0 i.1 in
          let r2 = value_last b i2.0 i2.1 in (
            ap₂ (λ x y. option_and_then (λ w. option_and_then (binary_value S k op (type_of a) (type_of b) w) y) x) r.0 r2.0 ∙ binary_last S op (type_of a) (type_of b) i.0 i2.0 v i2.2,
            ap₂ (λ x y. x ++ y) r.1 r2.1,
            all_both (IsThere j) (value_loads S j temps a) (value_loads S j temps b) r.2 r2.2,
          )
      value_last (Cast' p (more_of-Expr e end_of-Expr) t) v h =
          cast_last (is_pointer t && is_zero_constant e) (cast_value (type_of e) t) e v (λ z. (and_parts (is_pointer t) (is_zero_constant e) z).1) (λ w i. value_last e w i) h
      value_last (Field' p (more_of-Expr e end_of-Expr) x t) v h =
          let i = then_some (value_at j t) (option_and_then (field_of S (type_of e) x) (place_by S j temps e)) v h in
          let i2 = then_some (field_of S (type_of e) x) (place_by S j temps e) i.0 i.1 in
          let r = place_last e i2.0 i2.1 in
          let a = value_at_last t i.0 v i.2 in (
            ap (λ y. option_and_then (value_at k t) (option_and_then (field_of S (type_of e) x) y)) r.0 ∙ ap (option_and_then (value_at k t)) i2.2 ∙ a.0,
            ap₂ (λ y z. y ++ loads_at t (option_and_then (field_of S (type_of e) x) z)) r.1 (r.0 ∙ sym i2.1),
            all_both (IsThere j) (place_loads S j temps e) (loads_at t (option_and_then (field_of S (type_of e) x) (place_by S j temps e))) r.2
                (subst (λ o. AllByRecursion (IsThere j) (loads_at t o)) (sym i.1) a.1),
          )
      value_last (SizeOf of t) v h = (h, refl, tt)

      pub place_last : (e : Expr) (s : Spot) → place_by S j temps e ≡ Some s → PlaceLasts e s
      place_last (Const w t) s h = cc
      place_last (Temp x t) s h = cc
      place_last (Var b x t) s h = (ap (option_map start_of) (sym (grows.names b x)) ∙ h, refl, tt)
      place_last (Deref' p (more_of-Expr e end_of-Expr) t) s h =
          let i = then_some led (eval_by S j temps e) s h in
          let r = value_last e i.0 i.1 in
          (ap (option_and_then led) r.0 ∙ i.2, r.1, r.2)
      place_last (AddrOf' p (more_of-Expr e end_of-Expr) t) s h = cc
      place_last (Unary' op p (more_of-Expr e end_of-Expr) t) s h = cc
      place_last (Binary' op p (more_of-Expr a end_of-Expr) q (more_of-Expr b end_of-Expr) t) s h = cc
      place_last (Cast' p (more_of-Expr e end_of-Expr) t) s h = cc
      place_last (Field' p (more_of-Expr e end_of-Expr) x t) s h =
          let i = then_some (field_of S (type_of e) x) (place_by S j temps e) s h in
          let r = place_last e i.0 i.1 in
          (ap (option_and_then (field_of S (type_of e) x)) r.0 ∙ i.2, r.1, r.2)
      place_last (SizeOf of t) s h = cc

pub values_last : (S : Structs) (j k : Look) (temps : Temps) (e : Expr) (v : Value) → Grows j k → eval_by S j temps e ≡ Some v →
    Lasts j (eval_by S j temps e) (eval_by S k temps e) (value_loads S j temps e) (value_loads S k temps e)
values_last S j k temps e v g h =
    let r = value_last j k g S temps e v h in
    record { same = r.0 ∙ sym h; loaded = r.1; there = r.2 }

pub places_last : (S : Structs) (j k : Look) (temps : Temps) (e : Expr) (s : Spot) → Grows j k → place_by S j temps e ≡ Some s →
    Lasts j (place_by S j temps e) (place_by S k temps e) (place_loads S j temps e) (place_loads S k temps e)
places_last S j k temps e s g h =
    let r = place_last j k g S temps e s h in
    record { same = r.0 ∙ sym h; loaded = r.1; there = r.2 }
