-- The places of fields, against their offsets and the fields themselves.
use Rattle.std.proofs.Common.{◌≡◌, ℕ, ◌+◌, suc, List, [], ◌∷◌, Option, None, Some, option_map, option_and_then, if◌then◌else◌, slice_get, find, bytes_eq, refl, ap, sym, ◌∙◌, arith, All, IsTrue, IfSome, Bor, subst, ◌<◌, get_or, drop, length, drop-cons, Bool, true, false, true≢false, cond, is_some}
use Rattle.std.proofs.lemmas.Option.{get_or_from_slice_get, slice_get_within}
use Rattle.std.specs.Option.{option_copied}
use Rattle.std.proofs.lemmas.Slice.Eq.{bytes_eq-Decides}
use Rattle.std.specs.Cmp.Lexicographic.{nat_list_eq_equiv}
use Rattle.indexmap.specs.IndexMap.{get}
use Rattle.floyd_ctypes.specs.declared.ctype.CType.{CType}
use Rattle.floyd_ctypes.specs.declared.field.Field.{Field}
use Rattle.floyd_ctypes.specs.declared.laid.FieldPlace.{FieldPlace}
use Rattle.floyd_ctypes.specs.declared.laid.Laid.{Laid}
use Rattle.floyd_ctypes.specs.declared.layout.Layout.{Layout}
use Rattle.floyd_ctypes.specs.Structs.{Structs, field_of}
use Rattle.floyd_ctypes.specs.Layout.{laid_after, offset_from, offset_after, after, nothing_laid, layout, offset, padded, type_fits}
use Rattle.floyd_ctypes.specs.Stored.{place_from, either, IsLaid}
use Rattle.floyd_ctypes.proofs.Options.{map_some, then_some, then-map, map-cond, then-cond, is_none}

-- the offset in a place is that of the field
offset_in_place : (of : CType → Option Layout) (index : ℕ) (laid : Layout) (fs : List Field) (name : List ℕ) → option_map (λ (p : FieldPlace). p.offset) (place_from of index laid fs name) ≡ offset_from of laid fs name
offset_in_place of index laid [] name = refl
offset_in_place of index laid (f ∷ fs) name =
    then-map (λ (p : FieldPlace). p.offset)
    (λ l. if bytes_eq name f.name then Some (record { index = index; offset = offset_after laid l }) else place_from of (index + 1) (after laid l) fs name)
    (λ l. if bytes_eq name f.name then Some (offset_after laid l) else offset_from of (after laid l) fs name)
    (λ l. map-cond (λ (p : FieldPlace). p.offset) (bytes_eq name f.name) (record { index = index; offset = offset_after laid l }) _ _
    (offset_in_place of (index + 1) (after laid l) fs name))
    (of f.ty)

-- the place that is kept gives the offset
pub offset_found : (structs : Structs) (tag : List ℕ) (laid : Laid) (name : List ℕ) (place : Option FieldPlace) → IsLaid structs tag laid → place ≡ get bytes_eq laid.places name → option_map (λ (p : FieldPlace). p.offset) place ≡ offset structs tag name
offset_found structs tag laid name place h e =
    ap (option_map (λ (p : FieldPlace). p.offset)) (e ∙ h.places name)
    ∙ offset_in_place (layout structs) 0 nothing_laid laid.fields name
    ∙ sym (ap (option_and_then (λ (fields : List Field). offset_from (layout structs) nothing_laid fields name)) h.fields)

-- the field at the index in a place is the one of that name, where the fields are those of `all` from `index` on
field_in_place : (of : CType → Option Layout) (all : List Field) (index : ℕ) (laid whole : Layout) (fs : List Field) (name : List ℕ)
    → ((k : ℕ) → slice_get all (index + k) ≡ slice_get fs k)
    → laid_after of laid fs ≡ Some whole
    → option_and_then (λ (p : FieldPlace). slice_get all p.index) (place_from of index laid fs name) ≡ find (λ (f : Field). bytes_eq name f.name) fs
field_in_place of all index laid whole [] name from e = refl
field_in_place of all index laid whole (f ∷ fs) name from e =
    let some = then_some (λ l. laid_after of (after laid l) fs) (of f.ty) whole e in
    let l = some.0 in
    ap (option_and_then (λ (p : FieldPlace). slice_get all p.index))
    (ap (option_and_then (λ l. if bytes_eq name f.name then Some (record { index = index; offset = offset_after laid l }) else place_from of (index + 1) (after laid l) fs name)) some.1)
    ∙ then-cond (λ (p : FieldPlace). slice_get all p.index) (bytes_eq name f.name) (record { index = index; offset = offset_after laid l })
    (place_from of (index + 1) (after laid l) fs name) (Some f) (find (λ (f : Field). bytes_eq name f.name) fs)
    (ap (slice_get all) (let z : index ≡ index + 0 = omega arith in z) ∙ from 0)
    (field_in_place of all (index + 1) (after laid l) whole fs name
    (λ k. ap (slice_get all) (let z : index + 1 + k ≡ index + suc k = omega arith in z) ∙ from (suc k)) some.2)

-- the place that is kept gives the field
pub field_found : (structs : Structs) (tag : List ℕ) (laid : Laid) (name : List ℕ) (place : Option FieldPlace) → IsLaid structs tag laid → place ≡ get bytes_eq laid.places name → option_and_then (λ (p : FieldPlace). slice_get laid.fields p.index) place ≡ field_of structs tag name
field_found structs tag laid name place h e =
    let whole = map_some padded (laid_after (layout structs) nothing_laid laid.fields) laid.layout h.whole in
    ap (option_and_then (λ (p : FieldPlace). slice_get laid.fields p.index)) (e ∙ h.places name)
    ∙ field_in_place (layout structs) laid.fields 0 nothing_laid whole.0 laid.fields name
    (λ k. ap (slice_get laid.fields) (let z : 0 + k ≡ k = omega arith in z)) whole.1
    ∙ sym (ap (option_and_then (find (λ (f : Field). bytes_eq name f.name))) h.fields)

-- a field that is read at an index fits, if all do
pub field_fits : (structs : Structs) (fields : List Field) (i : ℕ) (read : Option (Bor Field)) → option_copied read ≡ slice_get fields i
    → All (λ (f : Field). IsTrue (type_fits structs f.ty)) fields → IfSome read (λ f. IsTrue (type_fits structs f.now.ty))
field_fits structs fields i None e fits = tt
field_fits structs fields i (Some f) e fits =
    subst (λ (g : Field). IsTrue (type_fits structs g.ty)) (get_or_from_slice_get fields i f.now f.now (sym e))
    (fits i f.now (slice_get_within fields i f.now (sym e)))

-- A place is noted where its name has one already, and where it is new.
module _ (before : List ℕ → Option FieldPlace) (found : List ℕ) (place : FieldPlace) where
  pub noted_before : true ≡ is_some (before found) → (q : List ℕ) → before q ≡ either (before q) (if bytes_eq q found then Some place else None)
  noted_before there q = by (bytes_eq q found) refl
    where
      has : (o : Option FieldPlace) (p : Option FieldPlace) → true ≡ is_some o → o ≡ either o p
      has None p e = absurd (true≢false e)
      has (Some a) p e = refl

      none : (o : Option FieldPlace) → o ≡ either o None
      none None = refl
      none (Some a) = refl

      by : (b : Bool) → bytes_eq q found ≡ b → before q ≡ either (before q) (cond b (Some place) None)
      by true e = has (before q) (Some place) (there ∙ ap (λ n. is_some (before n)) (sym ((bytes_eq-Decides q found).0 e)))
      by false e = none (before q)

  pub noted_now : (now : List ℕ → Option FieldPlace) (key : List ℕ) → key ≡ found → ((q : List ℕ) → now q ≡ cond (bytes_eq key q) (Some place) (before q)) → false ≡ is_some (before found)
      → (q : List ℕ) → now q ≡ either (before q) (if bytes_eq q found then Some place else None)
  noted_now now key same updates absent q =
      updates q ∙ ap (λ b. cond b (Some place) (before q)) (ap (λ k. bytes_eq k q) same ∙ nat_list_eq_equiv.symm found q) ∙ by (bytes_eq q found) refl
    where
      none : (o : Option FieldPlace) → o ≡ either o None
      none None = refl
      none (Some a) = refl

      by : (b : Bool) → bytes_eq q found ≡ b → cond b (Some place) (before q) ≡ either (before q) (cond b (Some place) None)
      by true e = ap (λ o. either o (Some place)) (is_none (before found) absent ∙ ap before (sym ((bytes_eq-Decides q found).0 e)))
      by false e = none (before q)

-- a place that was noted comes before one in the rest
pub noted_first : (o rest : Option FieldPlace) (b : Bool) (place : FieldPlace) → either (either o (cond b (Some place) None)) rest ≡ either o (cond b (Some place) rest)
noted_first None rest true place = refl
noted_first None rest false place = refl
noted_first (Some p) rest b place = refl

-- a place at the index is that of the field there, or else one in the rest
pub place_next : (of : CType → Option Layout) (fields : List Field) (index : ℕ) (laid l more : Layout) (f : Field) (name : List ℕ)
    → f ≡ get_or fields index f → index < length fields → Some l ≡ of f.ty → more ≡ after laid l
    → cond (bytes_eq name f.name) (Some (record { index = index; offset = offset_after laid l })) (place_from of (index + 1) more (drop (index + 1) fields) name)
    ≡ place_from of index laid (drop index fields) name
place_next of fields index laid l more f name is within has m =
    ap (λ (m : Layout). cond (bytes_eq name f.name) (Some (record { index = index; offset = offset_after laid l })) (place_from of (index + 1) m (drop (index + 1) fields) name)) m
    ∙ ap (option_and_then (λ l. if bytes_eq name f.name then Some (record { index = index; offset = offset_after laid l }) else place_from of (index + 1) (after laid l) (drop (index + 1) fields) name)) has
    ∙ ap (λ fs. place_from of index laid fs name)
    (sym (drop-cons fields index f within ∙ ap (λ g. g ∷ drop (suc index) fields) (sym is) ∙ ap (λ n. f ∷ drop n fields) (let z : suc index ≡ index + 1 = omega arith in z)))
