-- Pieces of a well-formed array are well formed.
use Rattle.std.proofs.Common.{◌≡◌, ℕ, suc, List, [], ◌∷◌, length, Some, None, Ok, refl, sym, ap, ap₂, subst, ◌∙◌}
use Rattle.std.specs.Prelude.{option_and_then}
use Rattle.std.specs.List.{AllByRecursion}
use Rattle.std.proofs.lemmas.Option.{same_Some}
use Rattle.floyd_tree_sorts.specs.declared.sorts.Sort.{Z, Val}
use Rattle.floyd_tree.specs.declared.paths.PathStep.TheVariants.{Subscript}
use Rattle.floyd_tree.specs.Plain.{Plain}
use Rattle.floyd_tree.specs.Types.{SizedType}
use Rattle.floyd_tree_values.specs.Defaults.{value_sort}
use Rattle.floyd_tree_values.specs.Rules.{Scope}
use Rattle.floyd_assert_trees.specs.declared.items.Defs.{Defs}
use Rattle.floyd_assert_trees.specs.declared.sep.Region.{Region}
use Rattle.floyd_assert_trees.specs.declared.sep.Sep.{Sep}
use Rattle.floyd_fieldpath.specs.Nested.{element_type, type_at}
use Rattle.floyd_goal_forms.specs.Assertions.{ObjectFits, PartFits, PredicatesOf, RegionFits}
use Rattle.floyd_goal_forms.specs.Terms.{TermFits}
use Rattle.floyd_arrays.specs.declared.arrays.ArrayPart.{ArrayPart}
use Rattle.floyd_arrays.specs.Arrays.{array_of, behind, piece, resized, with_first}
use Rattle.floyd_arrays_soundness.proofs.Arrays.{array_is, count_fits, object_fits}
use Rattle.floyd_formed_places.proofs.Places.{address_formed}

as_many : (n : Plain) (ss : List Plain) → length (with_first n ss) ≡ length ss
as_many n [] = refl
as_many n (s ∷ ss) = refl

with_first_fits : (defs : Defs) (scope : Scope) (n : Plain) (ss : List Plain) → TermFits defs scope Z n → AllByRecursion (TermFits defs scope Z) ss → AllByRecursion (TermFits defs scope Z) (with_first n ss)
with_first_fits defs scope n [] k h = tt
with_first_fits defs scope n (s ∷ ss) k h = (k, h.1)

module _ (defs : Defs) (scope : Scope) (p : Sep) (a : ArrayPart) (given : array_of p ≡ Ok a) (f : PartFits defs scope (PredicatesOf defs scope) p) where
  abbrev pub object : ObjectFits defs scope a.region a.value
  object = object_fits defs scope (PredicatesOf defs scope) p a (array_is p a given) f

  pub count : TermFits defs scope Z a.count
  count = count_fits defs scope (PredicatesOf defs scope) p a (array_is p a given) f

  -- the value has the value sort of the array
  whole_sort : value_sort defs.structs a.region.ty.shape ≡ Some object.sort
  whole_sort =
      let at : type_at defs.structs a.region.ty [] ≡ Some object.region.nested = subst (λ path. type_at defs.structs a.region.ty path ≡ Some object.region.nested) (array_is p a given).whole object.region.at in
      let same : a.region.ty ≡ object.region.nested = same_Some {A = SizedType} a.region.ty object.region.nested at in
      subst (λ (u : SizedType). value_sort defs.structs u.shape ≡ Some object.sort) (sym same) object.is

  pub piece_fits : (n root v : Plain) → TermFits defs scope Z n → TermFits defs scope Val root → TermFits defs scope object.sort v → PartFits defs scope (PredicatesOf defs scope) (piece a n root v)
  piece_fits n root v k l m = record {
    region = record {
      share = object.region.share;
      type = record {
        sizes = record { count = as_many n a.region.ty.sizes ∙ object.region.type.sizes.count; sizes = with_first_fits defs scope n a.region.ty.sizes k object.region.type.sizes.sizes };
        sort = object.region.type.sort;
      };
      steps = tt;
      nested = resized a.region.ty n;
      at = refl;
      root = l;
    };
    sort = object.sort;
    is = whole_sort;
    term = m;
  }

  -- the address of an element
  pub behind_fits : (m root : Plain) → TermFits defs scope Z m → behind defs.structs a m ≡ Ok root → TermFits defs scope Val root
  behind_fits m root k e =
      let t = (array_is p a given).type in
      let u : SizedType = record { shape = t.element; sizes = t.rest } in
      let r : Region = record { share = a.region.share; ty = a.region.ty; path = Subscript m ∷ []; root = a.region.root } in
      let at : type_at defs.structs a.region.ty (Subscript m ∷ []) ≡ Some u = ap₂ (λ shape sizes. option_and_then (λ w. type_at defs.structs w []) (element_type shape sizes)) t.shape_is t.sizes_are in
      let fits : RegionFits defs scope r = record { share = object.region.share; type = object.region.type; steps = (k, tt); nested = u; at = at; root = object.region.root } in
      address_formed defs scope r u root fits at e
