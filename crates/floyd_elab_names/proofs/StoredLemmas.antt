-- Fields whose types have sizes.
use Rattle.std.proofs.Common.{◌≡◌, ℕ, zero, suc, Bool, true, false, ◌&&◌, IsTrue, All, List, [], ◌∷◌, ◌++◌, Option, None, Some, option_map, is_some, if◌then◌else◌, true≢false, refl, ap, sym, ◌∙◌, arith}
use Rattle.floyd_ctypes.specs.declared.ctype.CType.{CType}
use Rattle.floyd_ctypes.specs.declared.define.DefineStop.TheVariants.{Again, Incomplete}
use Rattle.floyd_ctypes.specs.declared.field.Field.{Field}
use Rattle.floyd_ctypes.specs.declared.layout.Layout.{Layout}
use Rattle.floyd_ctypes.specs.Define.{all_sized, refusal}
use Rattle.floyd_ctypes.specs.Layout.{layout, type_fits, arrays_fit, within_limit}
use Rattle.floyd_ctypes.specs.Structs.{Structs, is_complete}
use Rattle.floyd_ctypes.proofs.Growth.{Grows, layouts_stay, type_stays}
use Rattle.floyd_elab_names.specs.StoredClauses.{IsStored, AllStored}
use Rattle.floyd_elab_names.specs.Types.{is_within, is_object_within, is_object_type, has_size, returns_well}

pub each_fits : (structs : Structs) (fields : List Field) → AllStored structs fields → All (λ (f : Field). IsTrue (type_fits structs f.ty)) fields
each_fits structs [] all k d h = absurd (omega arith)
each_fits structs (f ∷ fs) all zero d h = all.0.0
each_fits structs (f ∷ fs) all (suc k) d h = each_fits structs fs all.1 k d (omega arith)

sized : (o : Option Layout) → is_some o ≡ true → is_some (option_map (λ (l : Layout). l.size) o) ≡ true
sized None h = h
sized (Some l) h = refl

all_are_sized : (structs : Structs) (fields : List Field) → AllStored structs fields → all_sized structs fields ≡ true
all_are_sized structs [] all = refl
all_are_sized structs (f ∷ fs) all =
    ap (λ b. b && all_sized structs fs) (sized (layout structs f.ty) all.0.1) ∙ all_are_sized structs fs all.1

pub not_incomplete : (structs : Structs) (tag : List ℕ) (fields : List Field) → AllStored structs fields → refusal structs tag fields ≡ Some Incomplete → ⊥
not_incomplete structs tag fields all e =
    by (is_complete structs tag) (all_sized structs fields) (all_are_sized structs fields all) e
  where
    by : (b c : Bool) → c ≡ true → (if b then Some Again else if c then None else Some Incomplete) ≡ Some Incomplete → ⊥
    by true c h e = cc
    by false true h e = cc
    by false false h e = true≢false (sym h)

both : (a b : Bool) → (a && b) ≡ true → (a ≡ true) × (b ≡ true)
both true true e = (refl, refl)
both true false e = cc
both false b e = cc

pub stored_object : (structs : Structs) (t : CType) → is_object_within structs t ≡ true → is_object_type structs t ≡ true → IsStored structs t
stored_object structs t e f =
    let small = both (is_within structs t) (within_limit (layout structs t)) e in
    let whole = both (has_size structs t) (returns_well t) f in
    let has = both (is_some (layout structs t)) (arrays_fit structs t) whole.0 in
    (ap (λ b. b && within_limit (layout structs t)) has.1 ∙ small.1, has.0)

some_is : (o : Option Layout) → is_some o ≡ true → (l : Layout) × (o ≡ Some l)
some_is None h = absurd (true≢false (sym h))
some_is (Some l) h = (l, refl)

stored_stays : (before now : Structs) → Grows before now → (t : CType) → IsStored before t → IsStored now t
stored_stays before now grows t h =
    let found = some_is (layout before t) h.1 in
    (sym (type_stays before now grows t found.0 found.1) ∙ h.0, ap is_some (layouts_stay before now grows t found.0 found.1))

pub all_stay : (before now : Structs) → Grows before now → (fields : List Field) → AllStored before fields → AllStored now fields
all_stay before now grows [] all = tt
all_stay before now grows (f ∷ fs) all = (stored_stays before now grows f.ty all.0, all_stay before now grows fs all.1)

pub one_more : (structs : Structs) (fields : List Field) (f : Field) → AllStored structs fields → IsStored structs f.ty → AllStored structs (fields ++ f ∷ [])
one_more structs [] f all one = (one, tt)
one_more structs (x ∷ xs) f all one = (all.0, one_more structs xs f all.1 one)
