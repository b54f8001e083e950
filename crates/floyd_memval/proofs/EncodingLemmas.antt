-- What the loops of encoding keep, and how long an encoding is.
use Rattle.std.proofs.Common.{◌≡◌, ℕ, suc, ◌+◌, ◌-◌, ◌/◌, ◌%◌, ◌<◌, List, [], ◌∷◌, ◌++◌, length, take, drop, slice_set, sym, ◌∙◌, ap, arith, add-one}
use Rattle.std.proofs.lemmas.List.{take_more_set, drop-set, take_all, append-nil, append_assoc}
use Rattle.floyd_int.specs.declared.kinds.Value.{Value}
use Rattle.floyd_memval.specs.declared.bytes.MemByte.{MemByte}
use Rattle.floyd_memval.specs.declared.bytes.MemByte.TheVariants.{Byte, Fragment}
use Rattle.floyd_memval.specs.Encoding.{number_bytes, fragments}

-- the bytes so far and those of the rest stay the same when one more is put
pub bytes_more : (into whole : List MemByte) (i x : ℕ) → i < length into → ((n : ℕ) → i + n ≡ length into → take i into ++ number_bytes n x ≡ whole) → (n : ℕ) → i + 1 + n ≡ length into → take (i + 1) (slice_set into i (Byte (x % 256))) ++ number_bytes n (x / 256) ≡ whole
bytes_more into whole i x below so_far n e =
    ap (λ front. front ++ number_bytes n (x / 256)) (take_more_set into i (Byte (x % 256)) below)
    ∙ append_assoc (take i into) (Byte (x % 256) ∷ []) (number_bytes n (x / 256))
    ∙ so_far (suc n) (omega arith)

pub bytes_all : (into whole : List MemByte) (i x : ℕ) → i ≡ length into → ((n : ℕ) → i + n ≡ length into → take i into ++ number_bytes n x ≡ whole) → into ≡ whole
bytes_all into whole i x e so_far =
    sym (take_all i into (omega arith)) ∙ sym (append-nil (take i into)) ∙ so_far 0 (omega arith)

-- one more fragment is put below those that are there
pub fragments_more : (into : List MemByte) (n p : ℕ) (v : Value) → length into ≡ 8 → n < 8 → p ≡ 7 - n → drop (8 - n) into ≡ fragments n v → drop (8 - (n + 1)) (slice_set into p (Fragment v n)) ≡ fragments (n + 1) v
fragments_more into n p v whole below at so_far =
    let place : 8 - (n + 1) ≡ p = omega arith in
    let above : p + 1 ≡ 8 - n = omega arith in
    ap (λ k. drop k (slice_set into p (Fragment v n))) place
    ∙ drop-set into p (Fragment v n) (omega arith)
    ∙ ap (λ k. Fragment v n ∷ drop k into) above
    ∙ ap (λ bytes. Fragment v n ∷ bytes) so_far
    ∙ ap (λ k. fragments k v) (sym (add-one n))
