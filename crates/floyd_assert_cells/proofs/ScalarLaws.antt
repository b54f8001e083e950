-- Scalars are loaded and stored.
use Rattle.std.proofs.Common.{◌≡◌, ◌≢◌, ◌⊎◌, ⊎_elim, ℕ, ◌%◌, true, ℤ, List, length, Option, None, Some, option_map, IsTrue, inl, inr, refl, sym, ◌∙◌, ap, subst, eq-eqb}
use Rattle.std.specs.Int.{◌∣◌}
use Rattle.std.proofs.lemmas.Bool.{cond-true}
use Rattle.std.proofs.lemmas.Nat.Gcd.{mod-eq-zero_of_dvd}
use Rattle.std.proofs.lemmas.Option.{same_Some}
use Rattle.floyd_int.specs.declared.kinds.Value.{Value}
use Rattle.floyd_int.specs.declared.kinds.Value.TheVariants.{Vundef}
use Rattle.floyd_ctypes.specs.declared.ctype.CType.{CType, Void, Int, Pointer', more_of-CType, end_of-CType}
use Rattle.floyd_ctypes.specs.declared.ctype.CType as c
use Rattle.floyd_ctypes.specs.Has.{has}
use Rattle.floyd_ctypes.specs.Structs.{Structs}
use Rattle.floyd_memval.specs.declared.bytes.MemByte.{MemByte}
use Rattle.floyd_memval.specs.Chunks.{chunk_of, chunk_size}
use Rattle.floyd_memval.specs.Decoding.{decoding}
use Rattle.floyd_memval.specs.Encoding.{encoding}
use Rattle.floyd_memval.proofs.RoundTrips.{decoding-encoding, length-encoding}
use Rattle.floyd_clight_memory.specs.Memory.{Mem, is_aligned, store, store_bytes}
use Rattle.floyd_clight_heap.specs.Heaplet.{Fits, HasBytes, Heaplet, Joins, laid, spread}
use Rattle.floyd_clight_heap.specs.Loads.{Shows}
use Rattle.floyd_clight_memory.specs.Loads.{load_by}
use Rattle.floyd_clight_heap.proofs.Loading.{loads}
use Rattle.floyd_clight_heap.proofs.Spreads.{spread_has}
use Rattle.floyd_clight_heap.proofs.Stores.{WholeFrom, laid_spread, spread_whole, store_all}
use Rattle.floyd_tree_sorts.specs.declared.shape.Shape.{Shape, more_of-Shape, end_of-Shape}
use Rattle.floyd_tree_sorts.specs.declared.shape.Shape as s
use Rattle.floyd_assert_cells.specs.Scalars.{Scalar, Integer, Address, chunk, holds, scalar_of, scalar_size, shape_scalar}
use Rattle.floyd_assert_cells.specs.Types.{shape_of}
use Rattle.floyd_assert_cells.specs.Forms.{Form, Single, form_layout, form_of}
use Rattle.floyd_assert_cells.specs.Cells.{ScalarCells}
use Rattle.floyd_assert_cells.proofs.Exact.{chunk_fits}

-- ---- views of scalars

pub chunk_agrees : (t : CType) → chunk_of t ≡ option_map chunk (scalar_of t)
chunk_agrees Void = refl
chunk_agrees (Int k) = refl
chunk_agrees (Pointer' p to) = refl
chunk_agrees (c.Array' p to n) = refl
chunk_agrees (c.Struct tag) = refl
chunk_agrees (c.Function' shape ps p r) = refl

pub shape_agrees : (t : CType) → shape_scalar (shape_of t) ≡ scalar_of t
shape_agrees Void = refl
shape_agrees (Int k) = refl
shape_agrees (Pointer' p (more_of-CType to end_of-CType)) = refl
shape_agrees (c.Array' p (more_of-CType t end_of-CType) n) = refl
shape_agrees (c.Struct tag) = refl
shape_agrees (c.Function' shape ps p (more_of-CType r end_of-CType)) = refl

pub holds_agrees : (t : CType) (r : Scalar) (v : Value) → scalar_of t ≡ Some r → has t v ≡ holds r v
holds_agrees Void r v e = cc
holds_agrees (Int k) r v e = ap (λ z. holds z v) (same_Some (Integer k) r e)
holds_agrees (Pointer' p to) r v e = ap (λ z. holds z v) (same_Some Address r e)
holds_agrees (c.Array' p to n) r v e = cc
holds_agrees (c.Struct tag) r v e = cc
holds_agrees (c.Function' shape ps p q) r v e = cc

-- a type of each scalar
abbrev type_of : Scalar → CType
type_of (Integer k) = Int k
type_of Address = Pointer' tt (more_of-CType Void end_of-CType)

-- a value that the type holds comes back from its bytes
pub comes_back : (r : Scalar) (v : Value) → IsTrue (holds r v) → decoding (chunk r) (encoding (chunk r) v) ≡ v
comes_back (Integer k) v h = decoding-encoding (Int k) (chunk (Integer k)) v refl h
comes_back Address v h = decoding-encoding (type_of Address) (chunk Address) v refl h

pub form_is_single : (structs : Structs) (shape : Shape) (sizes : List ℤ) (r : Scalar) (f : Form) → shape_scalar shape ≡ Some r → form_of structs (record { shape = shape; sizes = sizes }) ≡ Some f → Single r ≡ f
form_is_single structs s.Void sizes r f e g = cc
form_is_single structs (s.Int k) sizes r f e g = ap Single (sym (same_Some (Integer k) r e)) ∙ same_Some (Single (Integer k)) f g
form_is_single structs (s.Pointer' p to) sizes r f e g = ap Single (sym (same_Some Address r e)) ∙ same_Some (Single Address) f g
form_is_single structs (s.Array' p t) sizes r f e g = cc
form_is_single structs (s.Struct tag) sizes r f e g = cc
form_is_single structs (s.Function' shape ps p q) sizes r f e g = cc

-- a multiple of a scalar's alignment is aligned for its chunk
pub aligned_scalar : (r : Scalar) (o : ℕ) → (form_layout (Single r)).align ∣ o → is_aligned (chunk r) o ≡ true
aligned_scalar r o d = eq-eqb (o % chunk_size (chunk r)) 0 (ap (λ n. o % n) (chunk_fits r) ∙ mod-eq-zero_of_dvd (scalar_size r) d)

-- ---- loads

pub scalar_bytes : (less b : ℕ) (r : Scalar) (v : Value) (o : ℕ) (h : Heaplet) (c : ScalarCells less b r v o h) → HasBytes h c.bytes b o
scalar_bytes less b r v o h c = subst (λ z. HasBytes z c.bytes b o) (sym c.exact) (spread_has less c.bytes b o)

pub scalar_loads : (at : ℕ → ℕ → Option MemByte) (less b : ℕ) (r : Scalar) (v : Value) (o : ℕ) (h : Heaplet) → Shows at h → ScalarCells less b r v o h → v ≢ Vundef → is_aligned (chunk r) o ≡ true → load_by at (chunk r) b o ≡ Some v
scalar_loads at less b r v o h shows c some aligned =
    loads at h shows (chunk r) c.bytes b o aligned c.count (scalar_bytes less b r v o h c)
    ∙ ap Some (⊎_elim (λ u. absurd (some u)) (λ (p : IsTrue (holds r v) × (decoding (chunk r) c.bytes ≡ v)). p.1) c.reads)

-- a scalar's value is undefined or one that the type holds
pub scalar_value : (less b : ℕ) (r : Scalar) (v : Value) (o : ℕ) (h : Heaplet) → ScalarCells less b r v o h → (v ≡ Vundef) ⊎ IsTrue (holds r v)
scalar_value less b r v o h c = ⊎_elim (λ u. inl u) (λ (p : IsTrue (holds r v) × (decoding (chunk r) c.bytes ≡ v)). inr p.0) c.reads

-- ---- stores

-- w is stored beside a frame
pub record ScalarStored (r : Scalar) (w : Value) (F : Heaplet) (m : Mem) (b o : ℕ) : Type 0 where
  pub mem : Mem
  pub is : store (chunk r) m b o w ≡ Some mem
  pub here : Heaplet
  pub sum : Heaplet
  pub joins : Joins here F sum
  pub fits : Fits sum mem
  pub holds : ScalarCells 15 b r w o here

pub scalar_stores : (b : ℕ) (r : Scalar) (v w : Value) (o : ℕ) (h F k : Heaplet) (m : Mem) → Joins h F k → Fits k m → ScalarCells 15 b r v o h → IsTrue (holds r w) → is_aligned (chunk r) o ≡ true → ScalarStored r w F m b o
scalar_stores b r v w o h F k m j f c good aligned =
    let new : List MemByte = encoding (chunk r) w in
    let same : length c.bytes ≡ length new = c.count ∙ sym (length-encoding (chunk r) w) in
    let whole : WholeFrom (length new) h b o = subst (λ n. WholeFrom n h b o) same (subst (λ z. WholeFrom (length c.bytes) z b o) (sym c.exact) (spread_whole c.bytes b o)) in
    let s = store_all new h F k m b o j f whole in
    let laid_is : laid new b o h ≡ spread 15 new b o = ap (laid new b o) c.exact ∙ laid_spread c.bytes new b o same in
    record {
      mem = s.mem;
      is = cond-true (is_aligned (chunk r) o) (store_bytes new m b o) None aligned ∙ s.is;
      here = spread 15 new b o;
      sum = laid new b o k;
      joins = subst (λ z. Joins z F (laid new b o k)) laid_is s.joins;
      fits = s.fits;
      holds = record { bytes = new; count = length-encoding (chunk r) w; exact = refl; reads = inr (good, comes_back r w good) };
    }
