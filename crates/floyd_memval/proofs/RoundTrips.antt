-- What comes back from the bytes of a value.
use Rattle.std.proofs.Common.{◌≡◌, ℕ, ◌+◌, ◌%◌, ◌^◌, ◌<◌, ◌<ℤ◌, ◌≤ℤ◌, pos, ◌-ℤ◌, true, List, length, get_or, Option, Some, None, refl, sym, ◌∙◌, ap, subst, arith, ⊎_elim, nat_lt, nat_le, ltb-true, leb-true, eqb-true}
use Rattle.std.proofs.Math.Nat.{mod-eq_of_lt}
use Rattle.std.proofs.lemmas.Bool.{and_parts, or_cases}
use Rattle.std.proofs.lemmas.Int.{ints}
use Rattle.std.specs.Bool.{IsFalse}
use Rattle.std.specs.List.{Contains}
use Rattle.floyd_int.specs.declared.kinds.IntKind.{IntKind}
use Rattle.floyd_int.specs.declared.kinds.IntKind.TheVariants.{I8 as KindI8, U8 as KindU8, I16 as KindI16, U16 as KindU16, I32 as KindI32, U32 as KindU32, I64 as KindI64, U64 as KindU64}
use Rattle.floyd_int.specs.declared.kinds.Value.{Value}
use Rattle.floyd_int.specs.declared.kinds.Value.TheVariants.{Vundef, Vint, Vlong, Vptr}
use Rattle.floyd_int.specs.Kind.{width, greatest, repr_of, cast_of}
use Rattle.floyd_int.proofs.KindLaws.{value-above, value-up_to, repr-same, repr-small}
use Rattle.floyd_ctypes.specs.declared.ctype.CType.{CType, Void, Int, Pointer', Array', Struct, Function'}
use Rattle.floyd_ctypes.specs.Has.{Has, has_kind, has_pointer, signed_within}
use Rattle.floyd_ctypes.specs.Layout.{layout, natural}
use Rattle.floyd_ctypes.specs.Structs.{Structs}
use Rattle.floyd_memval.specs.declared.bytes.MemByte.{MemByte}
use Rattle.floyd_memval.specs.declared.bytes.MemByte.TheVariants.{Undef}
use Rattle.floyd_memval.specs.declared.bytes.Chunk.{Chunk}
use Rattle.floyd_memval.specs.declared.bytes.Chunk.TheVariants.{I8, U8, I16, U16, I32, I64, Ptr}
use Rattle.floyd_memval.specs.Chunks.{chunk_size, is_narrow, kind_chunk, chunk_of}
use Rattle.floyd_memval.specs.Encoding.{encoding, number_bytes, fragments, undefined_bytes}
use Rattle.floyd_memval.specs.Decoding.{number_in, pointer_in, value_from, decoding}
use Rattle.floyd_memval.proofs.DecodingLemmas.{number_in-none}
use Rattle.floyd_memval.proofs.FragmentLaws.{pointer_in-pointer, pointer_in-fragments, pointer_in-else, fragments-defined}
use Rattle.floyd_memval.proofs.NumberLaws.{number_in-number_bytes, number_in-number_bytes_small}

-- ---- sizes

pub length-encoding : (c : Chunk) (v : Value) → length (encoding c v) ≡ chunk_size c
unfolding encoding
length-encoding I8 v = elim v as (λ w. length (encoding I8 w) ≡ 1) [ Vundef ↦ refl | Vint x ↦ refl | Vlong x ↦ refl | Vptr b o ↦ refl ]
length-encoding U8 v = elim v as (λ w. length (encoding U8 w) ≡ 1) [ Vundef ↦ refl | Vint x ↦ refl | Vlong x ↦ refl | Vptr b o ↦ refl ]
length-encoding I16 v = elim v as (λ w. length (encoding I16 w) ≡ 2) [ Vundef ↦ refl | Vint x ↦ refl | Vlong x ↦ refl | Vptr b o ↦ refl ]
length-encoding U16 v = elim v as (λ w. length (encoding U16 w) ≡ 2) [ Vundef ↦ refl | Vint x ↦ refl | Vlong x ↦ refl | Vptr b o ↦ refl ]
length-encoding I32 v = elim v as (λ w. length (encoding I32 w) ≡ 4) [ Vundef ↦ refl | Vint x ↦ refl | Vlong x ↦ refl | Vptr b o ↦ refl ]
length-encoding I64 v = elim v as (λ w. length (encoding I64 w) ≡ 8) [ Vundef ↦ refl | Vint x ↦ refl | Vlong x ↦ refl | Vptr b o ↦ refl ]
length-encoding Ptr v = elim v as (λ w. length (encoding Ptr w) ≡ 8) [ Vundef ↦ refl | Vint x ↦ refl | Vlong x ↦ refl | Vptr b o ↦ refl ]

kind_layout : (k : IntKind) (structs : Structs) → layout structs (Int k) ≡ Some (natural (chunk_size (kind_chunk k)))
kind_layout KindI8 structs = refl
kind_layout KindU8 structs = refl
kind_layout KindI16 structs = refl
kind_layout KindU16 structs = refl
kind_layout KindI32 structs = refl
kind_layout KindU32 structs = refl
kind_layout KindI64 structs = refl
kind_layout KindU64 structs = refl

pub layout-scalar : (structs : Structs) (t : CType) (c : Chunk) → chunk_of t ≡ Some c → layout structs t ≡ Some (natural (chunk_size c))
layout-scalar structs Void c e = cc
layout-scalar structs (Int k) c e = let same : kind_chunk k ≡ c = cc in kind_layout k structs ∙ ap (λ d. Some (natural (chunk_size d))) same
layout-scalar structs (Pointer' p to) c e = let same : Ptr ≡ c = cc in ap (λ d. Some (natural (chunk_size d))) same
layout-scalar structs (Array' p ts n) c e = cc
layout-scalar structs (Struct tag) c e = cc
layout-scalar structs (Function' shape ps p r) c e = cc

-- ---- undefined bytes

other-undefined : (c : Chunk) (bytes : List MemByte) → ((b o : ℕ) → pointer_in bytes ≡ Vptr b o → ⊥) → value_from c bytes None ≡ Vundef
other-undefined I8 bytes none = refl
other-undefined U8 bytes none = refl
other-undefined I16 bytes none = refl
other-undefined U16 bytes none = refl
other-undefined I32 bytes none = refl
other-undefined I64 bytes none = pointer_in-else bytes none
other-undefined Ptr bytes none = pointer_in-else bytes none

-- one undefined byte leaves the whole undefined
pub decoding-undefined : (c : Chunk) (bytes : List MemByte) → Contains bytes Undef → decoding c bytes ≡ Vundef
unfolding decoding
decoding-undefined c bytes (k, below, is) =
    ap (value_from c bytes) (number_in-none bytes k below (λ b e. cc))
    ∙ other-undefined c bytes (λ b o e.
    let whole = pointer_in-pointer bytes b o e in
    fragments-defined 8 (Vptr b o) k (subst (λ xs. k < length xs) whole below) (sym (ap (λ xs. get_or xs k Undef) whole) ∙ is))

pub decoding-undefined_bytes : (c : Chunk) → decoding c (undefined_bytes c) ≡ Vundef
unfolding decoding
decoding-undefined_bytes I8 = refl
decoding-undefined_bytes U8 = refl
decoding-undefined_bytes I16 = refl
decoding-undefined_bytes U16 = refl
decoding-undefined_bytes I32 = refl
decoding-undefined_bytes I64 = refl
decoding-undefined_bytes Ptr = refl

-- ---- pointers

pointer_from : (c : Chunk) (bytes : List MemByte) (n : Option ℕ) (b o : ℕ) → value_from c bytes n ≡ Vptr b o → IsFalse (is_narrow c) × (bytes ≡ fragments 8 (Vptr b o))
pointer_from I8 bytes (Some x) b o e = cc
pointer_from U8 bytes (Some x) b o e = cc
pointer_from I16 bytes (Some x) b o e = cc
pointer_from U16 bytes (Some x) b o e = cc
pointer_from I32 bytes (Some x) b o e = cc
pointer_from I64 bytes (Some x) b o e = cc
pointer_from Ptr bytes (Some x) b o e = cc
pointer_from I8 bytes None b o e = cc
pointer_from U8 bytes None b o e = cc
pointer_from I16 bytes None b o e = cc
pointer_from U16 bytes None b o e = cc
pointer_from I32 bytes None b o e = cc
pointer_from I64 bytes None b o e = (refl, pointer_in-pointer bytes b o e)
pointer_from Ptr bytes None b o e = (refl, pointer_in-pointer bytes b o e)

-- a pointer comes from its fragments alone
pub decoding-pointer : (c : Chunk) (bytes : List MemByte) (b o : ℕ) → decoding c bytes ≡ Vptr b o → IsFalse (is_narrow c) × (bytes ≡ fragments 8 (Vptr b o))
unfolding decoding
decoding-pointer c bytes b o e = pointer_from c bytes (number_in bytes) b o e

pub decoding-fragments : (c : Chunk) (b o : ℕ) → IsFalse (is_narrow c) → decoding c (fragments 8 (Vptr b o)) ≡ Vptr b o
unfolding decoding
decoding-fragments I8 b o wide = cc
decoding-fragments U8 b o wide = cc
decoding-fragments I16 b o wide = cc
decoding-fragments U16 b o wide = cc
decoding-fragments I32 b o wide = cc
decoding-fragments I64 b o wide = pointer_in-fragments b o
decoding-fragments Ptr b o wide = pointer_in-fragments b o

-- ---- values of a type

-- the 32 bits of what a kind reads: of a number that is not negative
cast-low : (k : IntKind) (x : ℕ) → x < 2 ^ width k → pos x ≤ℤ greatest k → x < 2 ^ 32 → cast_of k KindI32 x ≡ x
cast-low k x bits low h = ap (repr_of KindI32) (value-up_to k x bits low) ∙ repr-small KindI32 x h

-- and of a negative one
cast-high : (k : IntKind) (x m : ℕ) → m < 2 ^ width k → greatest k <ℤ pos m → m + 2 ^ 32 ≡ x + 2 ^ width k → x < 2 ^ 32 → cast_of k KindI32 m ≡ x
cast-high k x m bits high e h =
    ap (repr_of KindI32) (value-above k m bits high)
    ∙ repr-same KindI32 (pos m -ℤ pos (2 ^ width k)) (pos x) 1 0 (omega (arith, ints))
    ∙ repr-small KindI32 x h

byte_back : (x : ℕ) → signed_within (2 ^ 7) x ≡ true → cast_of KindI8 KindI32 (x % 256) ≡ x
byte_back x h = ⊎_elim
    (λ e. let low = ltb-true x 128 e in
    ap (cast_of KindI8 KindI32) (mod-eq_of_lt (omega arith)) ∙ cast-low KindI8 x (omega arith) (omega (arith, ints)) (omega arith))
    (λ e. let p = and_parts (nat_le (2 ^ 32) (x + 2 ^ 7)) (nat_lt x (2 ^ 32)) e in
    let from = leb-true (2 ^ 32) (x + 2 ^ 7) p.0 in
    let below = ltb-true x (2 ^ 32) p.1 in
    cast-high KindI8 x (x % 256) (omega arith) (omega (arith, ints)) (omega arith) below)
    (or_cases (nat_lt x (2 ^ 7)) _ h)

short_back : (x : ℕ) → signed_within (2 ^ 15) x ≡ true → cast_of KindI16 KindI32 (x % 65536) ≡ x
short_back x h = ⊎_elim
    (λ e. let low = ltb-true x 32768 e in
    ap (cast_of KindI16 KindI32) (mod-eq_of_lt (omega arith)) ∙ cast-low KindI16 x (omega arith) (omega (arith, ints)) (omega arith))
    (λ e. let p = and_parts (nat_le (2 ^ 32) (x + 2 ^ 15)) (nat_lt x (2 ^ 32)) e in
    let from = leb-true (2 ^ 32) (x + 2 ^ 15) p.0 in
    let below = ltb-true x (2 ^ 32) p.1 in
    cast-high KindI16 x (x % 65536) (omega arith) (omega (arith, ints)) (omega arith) below)
    (or_cases (nat_lt x (2 ^ 15)) _ h)

-- at a chunk of up to 32 bits, where the reading of the lowest bits gives the number back
int_back : (c : Chunk) (n x y : ℕ) → value_from c (number_bytes n x) (Some (x % 256 ^ n)) ≡ Vint y → y ≡ x → value_from c (number_bytes n x) (number_in (number_bytes n x)) ≡ Vint x
int_back c n x y e same = ap (value_from c (number_bytes n x)) (number_in-number_bytes n x) ∙ e ∙ ap Vint same

kind_back : (k : IntKind) (v : Value) → has_kind k v ≡ true → decoding (kind_chunk k) (encoding (kind_chunk k) v) ≡ v
unfolding encoding decoding
kind_back KindI8 (Vint x) h = int_back I8 1 x _ refl (byte_back x h)
kind_back KindU8 (Vint x) h =
    let small = ltb-true x (2 ^ 8) h in
    int_back U8 1 x _ refl (ap (cast_of KindU8 KindI32) (mod-eq_of_lt small) ∙ cast-low KindU8 x small (omega (arith, ints)) (omega arith))
kind_back KindI16 (Vint x) h = int_back I16 2 x _ refl (short_back x h)
kind_back KindU16 (Vint x) h =
    let small = ltb-true x (2 ^ 16) h in
    int_back U16 2 x _ refl (ap (cast_of KindU16 KindI32) (mod-eq_of_lt small) ∙ cast-low KindU16 x small (omega (arith, ints)) (omega arith))
kind_back KindI32 (Vint x) h =
    let small = ltb-true x (2 ^ 32) h in
    int_back I32 4 x _ refl (mod-eq_of_lt small)
kind_back KindU32 (Vint x) h =
    let small = ltb-true x (2 ^ 32) h in
    int_back I32 4 x _ refl (mod-eq_of_lt small)
kind_back KindI64 (Vlong x) h = ap (value_from I64 (number_bytes 8 x)) (number_in-number_bytes_small 8 x (ltb-true x (2 ^ 64) h))
kind_back KindU64 (Vlong x) h = ap (value_from I64 (number_bytes 8 x)) (number_in-number_bytes_small 8 x (ltb-true x (2 ^ 64) h))
kind_back KindI8 Vundef h = cc
kind_back KindU8 Vundef h = cc
kind_back KindI16 Vundef h = cc
kind_back KindU16 Vundef h = cc
kind_back KindI32 Vundef h = cc
kind_back KindU32 Vundef h = cc
kind_back KindI64 Vundef h = cc
kind_back KindU64 Vundef h = cc
kind_back KindI8 (Vlong x) h = cc
kind_back KindU8 (Vlong x) h = cc
kind_back KindI16 (Vlong x) h = cc
kind_back KindU16 (Vlong x) h = cc
kind_back KindI32 (Vlong x) h = cc
kind_back KindU32 (Vlong x) h = cc
kind_back KindI64 (Vint x) h = cc
kind_back KindU64 (Vint x) h = cc
kind_back KindI8 (Vptr b o) h = cc
kind_back KindU8 (Vptr b o) h = cc
kind_back KindI16 (Vptr b o) h = cc
kind_back KindU16 (Vptr b o) h = cc
kind_back KindI32 (Vptr b o) h = cc
kind_back KindU32 (Vptr b o) h = cc
kind_back KindI64 (Vptr b o) h = cc
kind_back KindU64 (Vptr b o) h = cc

pointer_back : (v : Value) → has_pointer v ≡ true → decoding Ptr (encoding Ptr v) ≡ v
unfolding encoding decoding
pointer_back (Vptr b o) h = pointer_in-fragments b o
pointer_back (Vlong x) h =
    let null = eqb-true x 0 h in
    ap (value_from Ptr (number_bytes 8 x)) (number_in-number_bytes_small 8 x (omega arith))
pointer_back Vundef h = cc
pointer_back (Vint x) h = cc

-- a value of a scalar type comes back from its bytes at the type's chunk
pub decoding-encoding : (t : CType) (c : Chunk) (v : Value) → chunk_of t ≡ Some c → Has t v → decoding c (encoding c v) ≡ v
decoding-encoding Void c v e h = cc
decoding-encoding (Int k) c v e h = let same : kind_chunk k ≡ c = cc in subst (λ d. decoding d (encoding d v) ≡ v) same (kind_back k v h)
decoding-encoding (Pointer' p to) c v e h = let same : Ptr ≡ c = cc in subst (λ d. decoding d (encoding d v) ≡ v) same (pointer_back v h)
decoding-encoding (Array' p ts n) c v e h = cc
decoding-encoding (Struct tag) c v e h = cc
decoding-encoding (Function' shape ps p r) c v e h = cc
