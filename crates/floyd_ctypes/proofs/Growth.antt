-- A layout stays where the table of structs grows.
use Rattle.std.proofs.Common.{◌≡◌, ℕ, ◌<◌, ◌&&◌, All, IsTrue, get_or, length, ◌+◌, ◌≤◌, zero, suc, List, [], ◌∷◌, Option, Some, option_map, option_and_then, bytes_eq, if◌then◌else◌, cond, refl, ap, sym, ◌∙◌, arith}
use Rattle.floyd_ctypes.specs.declared.ctype.CType.{CType, Void, Int, Pointer', Array', Struct, Function', more_of-CType, end_of-CType}
use Rattle.floyd_ctypes.specs.declared.field.Field.{Field}
use Rattle.floyd_ctypes.specs.declared.laid.Laid.{Laid}
use Rattle.floyd_ctypes.specs.declared.layout.Layout.{Layout}
use Rattle.floyd_ctypes.specs.Structs.{Structs, fields_of, completes}
use Rattle.floyd_ctypes.specs.Layout.{layout_by, laid_after, fields_layout, struct_layout, layout, offset_after, after, padded, nothing_laid, repeated, arrays_fit, type_fits, within_limit}
use Rattle.floyd_ctypes.specs.Stored.{place_from, IsLaid}
use Rattle.floyd_ctypes.proofs.Options.{map_some, then_some}

-- what f gives, g gives too
abbrev pub Keeps : {X Y : Type 0} → (X → Option Y) → (X → Option Y) → Type 0
Keeps {X} {Y} f g = (x : X) (y : Y) → f x ≡ Some y → g x ≡ Some y

-- each struct that is complete stays so, with its fields, and there are no fewer
pub record Grows (before now : Structs) : Type 0 where
  pub fields : (tag : List ℕ) (fields : List Field) → fields_of before tag ≡ Some fields → fields_of now tag ≡ Some fields
  pub more : completes before ≤ completes now

by_type : (f g : List ℕ → Option Layout) → Keeps f g → Keeps (layout_by f) (layout_by g)
by_type f g keeps Void l e = e
by_type f g keeps (Int k) l e = e
by_type f g keeps (Pointer' p to) l e = e
by_type f g keeps (Array' p (more_of-CType t end_of-CType) n) l e =
    let found = map_some (repeated n) (layout_by f t) l e in
    ap (option_map (repeated n)) (by_type f g keeps t found.0 found.1) ∙ ap Some found.2
by_type f g keeps (Struct tag) l e = keeps tag l e
by_type f g keeps (Function' shape ps p r) l e = e

by_fields : (f g : CType → Option Layout) → Keeps f g → (laid whole : Layout) (fs : List Field) → laid_after f laid fs ≡ Some whole → laid_after g laid fs ≡ Some whole
by_fields f g keeps laid whole [] e = e
by_fields f g keeps laid whole (x ∷ fs) e =
    let found = then_some (λ l. laid_after f (after laid l) fs) (f x.ty) whole e in
    ap (option_and_then (λ l. laid_after g (after laid l) fs)) (keeps x.ty found.0 found.1)
    ∙ by_fields f g keeps (after laid found.0) whole fs found.2

pub of_fields : (f g : CType → Option Layout) → Keeps f g → (fs : List Field) (l : Layout) → fields_layout f fs ≡ Some l → fields_layout g fs ≡ Some l
of_fields f g keeps fs l e =
    let found = map_some padded (laid_after f nothing_laid fs) l e in
    ap (option_map padded) (by_fields f g keeps nothing_laid found.0 fs found.1) ∙ ap Some found.2

-- the places of fields stay, where each field has a layout
places_stay : (f g : CType → Option Layout) → Keeps f g → (index : ℕ) (laid whole : Layout) (fs : List Field) (name : List ℕ) → laid_after f laid fs ≡ Some whole → place_from f index laid fs name ≡ place_from g index laid fs name
places_stay f g keeps index laid whole [] name e = refl
places_stay f g keeps index laid whole (x ∷ fs) name e =
    let found = then_some (λ l. laid_after f (after laid l) fs) (f x.ty) whole e in
    let l = found.0 in
    let here = λ (of : CType → Option Layout) (m : Layout). if bytes_eq name x.name then Some (record { index = index; offset = offset_after laid m }) else place_from of (index + 1) (after laid m) fs name in
    ap (option_and_then (here f)) found.1
    ∙ ap (cond (bytes_eq name x.name) (Some (record { index = index; offset = offset_after laid l }))) (places_stay f g keeps (index + 1) (after laid l) whole fs name found.2)
    ∙ sym (ap (option_and_then (here g)) (keeps x.ty l found.1))

pub places_kept : (f g : CType → Option Layout) → Keeps f g → (fs : List Field) (l : Layout) (name : List ℕ) → fields_layout f fs ≡ Some l → place_from f 0 nothing_laid fs name ≡ place_from g 0 nothing_laid fs name
places_kept f g keeps fs l name e =
    let whole = map_some padded (laid_after f nothing_laid fs) l e in
    places_stay f g keeps 0 nothing_laid whole.0 fs name whole.1

by_tag : (before now : Structs) → Grows before now → (few more : ℕ) → few ≤ more → Keeps (struct_layout few before) (struct_layout more now)
by_tag before now grows zero more le tag l e = cc
by_tag before now grows (suc few) zero le tag l e = absurd (omega arith)
by_tag before now grows (suc few) (suc more) le tag l e =
    let found = then_some (fields_layout (layout_by (struct_layout few before))) (fields_of before tag) l e in
    ap (option_and_then (fields_layout (layout_by (struct_layout more now)))) (grows.fields tag found.0 found.1)
    ∙ of_fields (layout_by (struct_layout few before)) (layout_by (struct_layout more now))
    (by_type (struct_layout few before) (struct_layout more now) (by_tag before now grows few more (omega arith))) found.0 l found.2

-- the layouts of structs stay
pub tags_stay : (before now : Structs) → Grows before now → (depth : ℕ) → completes before ≤ depth → Keeps (layout before) (layout_by (struct_layout depth now))
tags_stay before now grows depth le = by_type (struct_layout (completes before) before) (struct_layout depth now) (by_tag before now grows (completes before) depth le)

-- and those of all types
pub layouts_stay : (before now : Structs) → Grows before now → Keeps (layout before) (layout now)
layouts_stay before now grows = tags_stay before now grows (completes now) grows.more

-- arrays that fit still do, in a type that has a layout
arrays_stay : (before now : Structs) → Grows before now → (t : CType) (l : Layout) → layout before t ≡ Some l → arrays_fit before t ≡ arrays_fit now t
arrays_stay before now grows Void l e = refl
arrays_stay before now grows (Int k) l e = refl
arrays_stay before now grows (Pointer' p to) l e = refl
arrays_stay before now grows (Array' p (more_of-CType t end_of-CType) n) l e =
    let found = map_some (repeated n) (layout before t) l e in
    ap (λ b. b && within_limit (option_map (repeated n) (layout before t))) (arrays_stay before now grows t found.0 found.1)
    ∙ ap (λ (o : Option Layout). arrays_fit now t && within_limit (option_map (repeated n) o)) (found.1 ∙ sym (layouts_stay before now grows t found.0 found.1))
arrays_stay before now grows (Struct tag) l e = refl
arrays_stay before now grows (Function' shape ps p r) l e = refl

-- so does whether a type fits that has a layout
pub type_stays : (before now : Structs) → Grows before now → (t : CType) (l : Layout) → layout before t ≡ Some l → type_fits before t ≡ type_fits now t
type_stays before now grows t l e =
    ap (λ b. b && within_limit (layout before t)) (arrays_stay before now grows t l e)
    ∙ ap (λ (o : Option Layout). arrays_fit now t && within_limit o) (e ∙ sym (layouts_stay before now grows t l e))

-- each of the fields that were laid has a layout
each_laid : (of : CType → Option Layout) (laid whole : Layout) (fs : List Field) → laid_after of laid fs ≡ Some whole → (k : ℕ) (d : Field) → k < length fs → (l : Layout) × (of (get_or fs k d).ty ≡ Some l)
each_laid of laid whole [] e k d h = absurd (omega arith)
each_laid of laid whole (f ∷ fs) e zero d h =
    let found = then_some (λ l. laid_after of (after laid l) fs) (of f.ty) whole e in
    (found.0, found.1)
each_laid of laid whole (f ∷ fs) e (suc k) d h =
    let found = then_some (λ l. laid_after of (after laid l) fs) (of f.ty) whole e in
    each_laid of (after laid found.0) whole fs found.2 k d (omega arith)

pub fits_stay : (before now : Structs) → Grows before now → (fs : List Field) (l : Layout) → fields_layout (layout before) fs ≡ Some l
    → All (λ (f : Field). IsTrue (type_fits before f.ty)) fs → All (λ (f : Field). IsTrue (type_fits now f.ty)) fs
fits_stay before now grows fs l e fits = λ k d h.
    let whole = map_some padded (laid_after (layout before) nothing_laid fs) l e in
    let found = each_laid (layout before) nothing_laid whole.0 fs whole.1 k d h in
    sym (type_stays before now grows (get_or fs k d).ty found.0 found.1) ∙ fits k d h

-- so does what is kept of a struct
pub laid_stays : (before now : Structs) → Grows before now → (tag : List ℕ) (laid : Laid) → IsLaid before tag laid → IsLaid now tag laid
laid_stays before now grows tag laid h = record {
  fields = grows.fields tag laid.fields h.fields;
  whole = of_fields (layout before) (layout now) (layouts_stay before now grows) laid.fields laid.layout h.whole;
  named = layouts_stay before now grows (Struct tag) laid.layout h.named;
  places = λ name. h.places name ∙ places_kept (layout before) (layout now) (layouts_stay before now grows) laid.fields laid.layout name h.whole;
  some = h.some;
  few = h.few;
  fits = fits_stay before now grows laid.fields laid.layout h.whole h.fits;
}
