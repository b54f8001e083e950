-- A type of C has a value sort exactly where it has a size.
use Rattle.std.proofs.Common.{◌≡◌, ℕ, zero, suc, Bool, ◌&&◌, List, [], ◌∷◌, Option, Some, None, is_some, refl, sym, ap, ◌∙◌}
use Rattle.std.specs.Prelude.{option_map, option_and_then}
use Rattle.floyd_ctypes.specs.declared.ctype.CType.{CType, more_of-CType, end_of-CType}
use Rattle.floyd_ctypes.specs.declared.ctype.CType as c
use Rattle.floyd_ctypes.specs.declared.field.Field.{Field}
use Rattle.floyd_ctypes.specs.declared.layout.Layout.{Layout}
use Rattle.floyd_ctypes.specs.Layout.{repeated, layout_by, laid_after, fields_layout, struct_layout, layout, after, padded, nothing_laid}
use Rattle.floyd_ctypes.specs.Structs.{Structs, fields_of, completes}
use Rattle.floyd_tree_sorts.specs.declared.sorts.Sort.{Sort}
use Rattle.floyd_tree_sorts.specs.Sorts.{list_sort}
use Rattle.floyd_tree_values.specs.Defaults.{pair_sorts, type_sort, fields_sort, struct_sort, ctype_sort}

mapped : {A B : Type 0} (f : A → B) (o : Option A) → is_some (option_map f o) ≡ is_some o
mapped f (Some a) = refl
mapped f None = refl

paired : (o p : Option Sort) → is_some (pair_sorts o p) ≡ (is_some o && is_some p)
paired (Some a) (Some b) = refl
paired (Some a) None = refl
paired None p = refl

-- both have something, one after the other
followed : {A B : Type 0} (o : Option A) (f : A → Option B) (t s : Bool) → t ≡ is_some o → ((a : A) → s ≡ is_some (f a)) → (t && s) ≡ is_some (option_and_then f o)
followed (Some a) f t s e h = ap (λ x. x && s) e ∙ h a
followed None f t s e h = ap (λ x. x && s) e

module _ (sort : List ℕ → Option Sort) (lay : List ℕ → Option Layout) (same : (tag : List ℕ) → is_some (sort tag) ≡ is_some (lay tag)) where
  type_sized : (t : CType) → is_some (type_sort sort t) ≡ is_some (layout_by lay t)
  type_sized c.Void = refl
  type_sized (c.Int k) = refl
  type_sized (c.Pointer' p to) = refl
  type_sized (c.Array' p (more_of-CType t end_of-CType) n) = mapped list_sort (type_sort sort t) ∙ type_sized t ∙ sym (mapped (repeated n) (layout_by lay t))
  type_sized (c.Struct tag) = same tag
  type_sized (c.Function' shape ps p r) = refl

  fields_sized : (f : Field) (fields : List Field) (laid : Layout) → is_some (fields_sort sort (f ∷ fields)) ≡ is_some (laid_after (layout_by lay) laid (f ∷ fields))
  fields_sized f [] laid = type_sized f.ty ∙ last (layout_by lay f.ty) laid
    where
      last : (o : Option Layout) (laid : Layout) → is_some o ≡ is_some (option_and_then (λ l. laid_after (layout_by lay) (after laid l) []) o)
      last (Some l) laid = refl
      last None laid = refl
  fields_sized f (g ∷ fields) laid =
      paired (type_sort sort f.ty) (fields_sort sort (g ∷ fields))
      ∙ followed (layout_by lay f.ty) (λ l. laid_after (layout_by lay) (after laid l) (g ∷ fields)) (is_some (type_sort sort f.ty)) (is_some (fields_sort sort (g ∷ fields)))
      (type_sized f.ty) (λ l. fields_sized g fields (after laid l))

  struct_sized : (fields : List Field) → ¬ (fields ≡ []) → is_some (fields_sort sort fields) ≡ is_some (fields_layout (layout_by lay) fields)
  struct_sized [] some = absurd (some refl)
  struct_sized (f ∷ fields) some = fields_sized f fields nothing_laid ∙ sym (mapped padded (laid_after (layout_by lay) nothing_laid (f ∷ fields)))

from_fields : (sort : List ℕ → Option Sort) (lay : List ℕ → Option Layout) → ((tag : List ℕ) → is_some (sort tag) ≡ is_some (lay tag)) → (o : Option (List Field)) → ((fields : List Field) → o ≡ Some fields → ¬ (fields ≡ [])) → is_some (option_and_then (fields_sort sort) o) ≡ is_some (option_and_then (fields_layout (layout_by lay)) o)
from_fields sort lay same None some = refl
from_fields sort lay same (Some fields) some = struct_sized sort lay same fields (some fields refl)

by_depth : (structs : Structs) → ((tag : List ℕ) (fields : List Field) → fields_of structs tag ≡ Some fields → ¬ (fields ≡ [])) → (depth : ℕ) (tag : List ℕ) → is_some (struct_sort depth structs tag) ≡ is_some (struct_layout depth structs tag)
by_depth structs some zero tag = refl
by_depth structs some (suc depth) tag = from_fields (struct_sort depth structs) (struct_layout depth structs) (by_depth structs some depth) (fields_of structs tag) (some tag)

pub sort_where_sized : (structs : Structs) → ((tag : List ℕ) (fields : List Field) → fields_of structs tag ≡ Some fields → ¬ (fields ≡ [])) → (t : CType) → is_some (ctype_sort structs t) ≡ is_some (layout structs t)
sort_where_sized structs some t = type_sized (struct_sort (completes structs) structs) (struct_layout (completes structs) structs) (by_depth structs some (completes structs)) t
