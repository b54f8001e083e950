-- The default value of a type is of its value sort.
use Rattle.std.proofs.Common.{◌≡◌, ℕ, zero, suc, List, [], ◌∷◌, replicate, Option, Some, None, option_map, option_and_then, ℤ, refl, subst}
use Rattle.std.specs.Option.{option_map_or}
use Rattle.std.proofs.lemmas.List.Elements.{All-nil, All-replicate}
use Rattle.floyd_ctypes.specs.declared.ctype.CType.{CType, more_of-CType, end_of-CType}
use Rattle.floyd_ctypes.specs.declared.ctype.CType as c
use Rattle.floyd_ctypes.specs.declared.field.Field.{Field}
use Rattle.floyd_ctypes.specs.Structs.{Structs, fields_of, completes}
use Rattle.floyd_tree_sorts.specs.declared.shape.Shape.{Shape, Int, Pointer', Array', Struct, more_of-Shape, end_of-Shape}
use Rattle.floyd_tree_sorts.specs.declared.sorts.Sort.{Sort, Val}
use Rattle.floyd_tree_sorts.specs.Sorts.{list_sort, pair_sort}
use Rattle.floyd_tree_values.specs.Data.{Datum, HasSort, Pair, seq}
use Rattle.floyd_tree_values.specs.Lists.{at_least_zero, repeat}
use Rattle.floyd_tree_values.specs.Defaults.{type_sort, fields_sort, shape_sort, struct_sort, value_sort, pair_sorts, type_default, fields_default, shape_default, struct_default, default_value, undefined}
use Rattle.floyd_tree_values.proofs.Sorted.{moved, list_of}

list_some : (o : Option Sort) (s : Sort) → option_map list_sort o ≡ Some s → (a : Sort) × (o ≡ Some a) × (list_sort a ≡ s)
list_some (Some a) s e = (a, refl, cc)
list_some None s e = absurd cc

pair_some : (o p : Option Sort) (s : Sort) → pair_sorts o p ≡ Some s → (a : Sort) × (b : Sort) × (o ≡ Some a) × (p ≡ Some b) × (pair_sort a b ≡ s)
pair_some (Some a) (Some b) s e = (a, b, refl, refl, cc)
pair_some (Some a) None s e = absurd cc
pair_some None p s e = absurd cc

module _ (sort : List ℕ → Option Sort) (default : List ℕ → Datum) (of : (tag : List ℕ) (s : Sort) → sort tag ≡ Some s → HasSort s (default tag)) where
  type_sorted : (t : CType) (s : Sort) → type_sort sort t ≡ Some s → HasSort s (type_default default t)
  type_sorted (c.Array' p (more_of-CType t end_of-CType) n) s e =
      let l = list_some (type_sort sort t) s e in
      subst (λ x. HasSort x (seq (replicate n (type_default default t)))) l.2
      (list_of (HasSort l.0) (replicate n (type_default default t)) (All-replicate (HasSort l.0) n (type_default default t) (type_sorted t l.0 l.1)))
  type_sorted (c.Struct tag) s e = of tag s e
  type_sorted (c.Int kind) s e = moved Val s undefined e tt
  type_sorted (c.Pointer' p to) s e = moved Val s undefined e tt
  type_sorted t s e = absurd cc

  fields_sorted : (fields : List Field) (s : Sort) → fields_sort sort fields ≡ Some s → HasSort s (fields_default default fields)
  fields_sorted [] s e = absurd cc
  fields_sorted (f ∷ []) s e = type_sorted f.ty s e
  fields_sorted (f ∷ g ∷ fields) s e =
      let p = pair_some (type_sort sort f.ty) (fields_sort sort (g ∷ fields)) s e in
      subst (λ x. HasSort x (Pair (type_default default f.ty) (fields_default default (g ∷ fields)))) p.4
      (type_sorted f.ty p.0 p.2, fields_sorted (g ∷ fields) p.1 p.3)

  shape_sorted : (shape : Shape) (sizes : List ℤ) (s : Sort) → shape_sort sort shape ≡ Some s → HasSort s (shape_default default shape sizes)
  shape_sorted (Array' p (more_of-Shape t end_of-Shape)) [] s e =
      let l = list_some (shape_sort sort t) s e in
      subst (λ x. HasSort x (seq [])) l.2 (All-nil (HasSort l.0))
  shape_sorted (Array' p (more_of-Shape t end_of-Shape)) (n ∷ sizes) s e =
      let l = list_some (shape_sort sort t) s e in
      let d = shape_default default t sizes in
      subst (λ x. HasSort x (seq (repeat d n))) l.2
      (list_of (HasSort l.0) (repeat d n) (All-replicate (HasSort l.0) (at_least_zero n) d (shape_sorted t sizes l.0 l.1)))
  shape_sorted (Struct tag) sizes s e = of tag s e
  shape_sorted (Int kind) sizes s e = moved Val s undefined e tt
  shape_sorted (Pointer' p to) sizes s e = moved Val s undefined e tt
  shape_sorted shape sizes s e = absurd cc

from_fields : (sort : List ℕ → Option Sort) (default : List ℕ → Datum) → ((tag : List ℕ) (s : Sort) → sort tag ≡ Some s → HasSort s (default tag)) → (o : Option (List Field)) (s : Sort) → option_and_then (fields_sort sort) o ≡ Some s → HasSort s (option_map_or (fields_default default) o undefined)
from_fields sort default of None s e = absurd cc
from_fields sort default of (Some fields) s e = fields_sorted sort default of fields s e

struct_sorted : (depth : ℕ) (structs : Structs) (tag : List ℕ) (s : Sort) → struct_sort depth structs tag ≡ Some s → HasSort s (struct_default depth structs tag)
struct_sorted zero structs tag s e = absurd cc
struct_sorted (suc depth) structs tag s e =
    from_fields (struct_sort depth structs) (struct_default depth structs) (struct_sorted depth structs) (fields_of structs tag) s e

pub default_value_sorted : (structs : Structs) (shape : Shape) (sizes : List ℤ) (s : Sort) → value_sort structs shape ≡ Some s → HasSort s (default_value structs shape sizes)
default_value_sorted structs shape sizes s e =
    shape_sorted (struct_sort (completes structs) structs) (struct_default (completes structs) structs) (struct_sorted (completes structs) structs) shape sizes s e
