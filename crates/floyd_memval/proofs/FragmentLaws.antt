-- Pointers and their fragments.
use Rattle.std.proofs.Common.{◌≡◌, ℕ, zero, suc, ◌<◌, Bool, true, false, ◌&&◌, List, [], ◌∷◌, length, refl, ◌∙◌, ap, arith, eqb-true, eq-eqb, get_or, if◌then◌else◌}
use Rattle.std.proofs.lemmas.Bool.{and_parts}
use Rattle.std.specs.Prelude.{◌==◌}
use Rattle.floyd_int.specs.declared.kinds.Value.{Value}
use Rattle.floyd_int.specs.declared.kinds.Value.TheVariants.{Vundef, Vint, Vlong, Vptr}
use Rattle.floyd_memval.specs.declared.bytes.MemByte.{MemByte}
use Rattle.floyd_memval.specs.declared.bytes.MemByte.TheVariants.{Undef, Byte, Fragment}
use Rattle.floyd_memval.specs.Encoding.{fragments}
use Rattle.floyd_memval.specs.Decoding.{is_fragment, are_fragments, pointer_in}

pub length-fragments : (n : ℕ) (v : Value) → length (fragments n v) ≡ n
length-fragments zero v = refl
length-fragments (suc n) v = ap suc (length-fragments n v)

is_fragment-true : (n block offset : ℕ) (byte : MemByte) → is_fragment n block offset byte ≡ true → byte ≡ Fragment (Vptr block offset) n
is_fragment-true n block offset Undef e = cc
is_fragment-true n block offset (Byte b) e = cc
is_fragment-true n block offset (Fragment Vundef i) e = cc
is_fragment-true n block offset (Fragment (Vint x) i) e = cc
is_fragment-true n block offset (Fragment (Vlong x) i) e = cc
is_fragment-true n block offset (Fragment (Vptr b o) i) e =
    let p = and_parts (block == b && offset == o) (i == n) e in
    let q = and_parts (block == b) (offset == o) p.0 in
    let same_block = eqb-true block b q.0 in
    let same_offset = eqb-true offset o q.1 in
    let same_number = eqb-true i n p.1 in
    cc

is_fragment-same : (n block offset : ℕ) → is_fragment n block offset (Fragment (Vptr block offset) n) ≡ true
is_fragment-same n block offset =
    rw (eq-eqb block block refl, eq-eqb offset offset refl, eq-eqb n n refl)

-- bytes that pass as fragments are the fragments
pub are_fragments-true : (n block offset : ℕ) (bytes : List MemByte) → are_fragments n block offset bytes ≡ true → bytes ≡ fragments n (Vptr block offset)
are_fragments-true zero block offset [] e = refl
are_fragments-true zero block offset (byte ∷ bytes) e = cc
are_fragments-true (suc n) block offset [] e = cc
are_fragments-true (suc n) block offset (byte ∷ bytes) e =
    let p = and_parts (is_fragment n block offset byte) (are_fragments n block offset bytes) e in
    let first = is_fragment-true n block offset byte p.0 in
    let rest = are_fragments-true n block offset bytes p.1 in
    cc

pub are_fragments-fragments : (n block offset : ℕ) → are_fragments n block offset (fragments n (Vptr block offset)) ≡ true
are_fragments-fragments zero block offset = refl
are_fragments-fragments (suc n) block offset =
    rw (is_fragment-same n block offset) (are_fragments-fragments n block offset)

-- the value of fragments, where it is a pointer
from_fragments : (block offset i : ℕ) (bytes : List MemByte) (t : Bool) (b o : ℕ) → are_fragments 8 block offset (Fragment (Vptr block offset) i ∷ bytes) ≡ t → (if t then Vptr block offset else Vundef) ≡ Vptr b o → Fragment (Vptr block offset) i ∷ bytes ≡ fragments 8 (Vptr b o)
from_fragments block offset i bytes false b o e h = cc
from_fragments block offset i bytes true b o e h =
    are_fragments-true 8 block offset (Fragment (Vptr block offset) i ∷ bytes) e ∙ ap (fragments 8) h

pub pointer_in-pointer : (bytes : List MemByte) (b o : ℕ) → pointer_in bytes ≡ Vptr b o → bytes ≡ fragments 8 (Vptr b o)
pointer_in-pointer [] b o e = cc
pointer_in-pointer (Undef ∷ bytes) b o e = cc
pointer_in-pointer (Byte x ∷ bytes) b o e = cc
pointer_in-pointer (Fragment Vundef i ∷ bytes) b o e = cc
pointer_in-pointer (Fragment (Vint x) i ∷ bytes) b o e = cc
pointer_in-pointer (Fragment (Vlong x) i ∷ bytes) b o e = cc
pointer_in-pointer (Fragment (Vptr block offset) i ∷ bytes) b o e = from_fragments block offset i bytes _ b o refl e

pub pointer_in-fragments : (b o : ℕ) → pointer_in (fragments 8 (Vptr b o)) ≡ Vptr b o
pointer_in-fragments b o = ap (λ t. if t then Vptr b o else Vundef) (are_fragments-fragments 8 b o)

-- bytes give a pointer or nothing
by_test : (t : Bool) (block offset : ℕ) → ((b o : ℕ) → (if t then Vptr block offset else Vundef) ≡ Vptr b o → ⊥) → (if t then Vptr block offset else Vundef) ≡ Vundef
by_test true block offset none = absurd (none block offset refl)
by_test false block offset none = refl

pub pointer_in-else : (bytes : List MemByte) → ((b o : ℕ) → pointer_in bytes ≡ Vptr b o → ⊥) → pointer_in bytes ≡ Vundef
pointer_in-else [] none = refl
pointer_in-else (Undef ∷ bytes) none = refl
pointer_in-else (Byte x ∷ bytes) none = refl
pointer_in-else (Fragment Vundef i ∷ bytes) none = refl
pointer_in-else (Fragment (Vint x) i ∷ bytes) none = refl
pointer_in-else (Fragment (Vlong x) i ∷ bytes) none = refl
pointer_in-else (Fragment (Vptr block offset) i ∷ bytes) none = by_test _ block offset none

-- no fragment is undefined
pub fragments-defined : (n : ℕ) (v : Value) (k : ℕ) → k < length (fragments n v) → get_or (fragments n v) k Undef ≡ Undef → ⊥
fragments-defined zero v k below e = omega arith
fragments-defined (suc n) v zero below e = cc
fragments-defined (suc n) v (suc k) below e = fragments-defined n v k (omega arith) e
