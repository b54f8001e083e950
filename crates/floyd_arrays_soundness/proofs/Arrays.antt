-- Parts that are whole arrays.
use Rattle.std.proofs.Common.{◌≡◌, suc, Bool, true, false, List, [], ◌∷◌, length, Option, Some, None, Ok, Err, refl, sym, ap, subst}
use Rattle.std.specs.Prelude.{if◌then◌else◌, nat_eq}
use Rattle.std.specs.List.{AllByRecursion}
use Rattle.std.proofs.lemmas.Bool.{eqb-true}
use Rattle.floyd_clight_heap.specs.Heaplet.{Heaplet}
use Rattle.floyd_tree_sorts.specs.declared.sorts.Sort.{Z}
use Rattle.floyd_tree.specs.declared.paths.PathStep.{PathStep}
use Rattle.floyd_tree.specs.Plain.{Plain}
use Rattle.floyd_tree_values.specs.BuiltIns.{Env}
use Rattle.floyd_tree_values.specs.Rules.{Scope}
use Rattle.floyd_assert_trees.specs.declared.items.Defs.{Defs}
use Rattle.floyd_assert_trees.specs.declared.sep.Region.{Region}
use Rattle.floyd_assert_trees.specs.declared.sep.Sep.{Sep}
use Rattle.floyd_assert_trees.specs.declared.sep.Sep.TheVariants.{FieldAt, Padding, Valid, Anything, Predicate}
use Rattle.floyd_assert_meaning.specs.Parts.{ObjectHolds, PartHolds, object}
use Rattle.floyd_assert_meaning.specs.Settings.{Setting}
use Rattle.floyd_assert_meaning.proofs.Inversions.{object_of}
use Rattle.floyd_goal.specs.Goals.{wrong_goal}
use Rattle.floyd_goal_forms.specs.Assertions.{ObjectFits, PartFits, Predicates}
use Rattle.floyd_goal_forms.specs.Terms.{TermFits}
use Rattle.floyd_goal_plans.specs.Counts.{count_of}
use Rattle.floyd_arrays.specs.declared.arrays.ArrayPart.{ArrayPart}
use Rattle.floyd_arrays.specs.Arrays.{array_of, array_with, is_whole, piece, with_first}
use Rattle.floyd_entail_soundness.proofs.Placing.{same_Ok}
use Rattle.floyd_arrays_soundness.proofs.Elements.{IsArray, array_type}

pub record ArrayIs (p : Sep) (a : ArrayPart) : Type 0 where
  pub part_is : p ≡ FieldAt a.region a.value
  pub whole : a.region.path ≡ []
  pub type : IsArray a.region.ty a.count

empty_path : (path : List PathStep) → nat_eq (length path) 0 ≡ true → path ≡ []
empty_path [] e = refl
empty_path (s ∷ path) e =
    let more : suc (length path) ≡ 0 = eqb-true (suc (length path)) 0 e in
    absurd cc

pub array_is : (p : Sep) (a : ArrayPart) → array_of p ≡ Ok a → ArrayIs p a
array_is (FieldAt r v) a e = by (is_whole r) refl (count_of r.ty) refl e
  where
    by : (t : Bool) → is_whole r ≡ t → (o : Option Plain) → count_of r.ty ≡ o → (if t then array_with r v o else Err wrong_goal) ≡ Ok a → ArrayIs (FieldAt r v) a
    by false f o g h = absurd cc
    by true f None g h = absurd cc
    by true f (Some n) g h = subst (λ (x : ArrayPart). ArrayIs (FieldAt r v) x) (same_Ok {A = ArrayPart} (record { region = r; count = n; value = v }) a h) (record { part_is = refl; whole = empty_path r.path f; type = array_type r.ty n g })
array_is (Padding r) a e = absurd cc
array_is (Valid t) a e = absurd cc
array_is Anything a e = absurd cc
array_is (Predicate name terms) a e = absurd cc

-- the region of a piece, where the type is an array's
abbrev pub piece_region : (a : ArrayPart) → IsArray a.region.ty a.count → Plain → Plain → Region
piece_region a t k root = record { share = a.region.share; ty = record { shape = a.region.ty.shape; sizes = k ∷ t.rest }; path = []; root = root }

sizes_with : (a : ArrayPart) (t : IsArray a.region.ty a.count) (k : Plain) → with_first k a.region.ty.sizes ≡ k ∷ t.rest
sizes_with a t k = ap (with_first k) t.sizes_are

module _ (S : Setting) (env : Env) (a : ArrayPart) (t : IsArray a.region.ty a.count) (k root v : Plain) (h : Heaplet) where
  pub piece_part : ObjectHolds S env (piece_region a t k root) v h → PartHolds S env (piece a k root v) h
  piece_part holds =
      subst (λ ss. PartHolds S env (FieldAt (record { share = a.region.share; ty = record { shape = a.region.ty.shape; sizes = ss }; path = []; root = root }) v) h) (sym (sizes_with a t k)) (object holds)

  pub piece_object : PartHolds S env (piece a k root v) h → ObjectHolds S env (piece_region a t k root) v h
  piece_object holds =
      object_of (subst (λ ss. PartHolds S env (FieldAt (record { share = a.region.share; ty = record { shape = a.region.ty.shape; sizes = ss }; path = []; root = root }) v) h) (sizes_with a t k) holds)

-- the part is well formed, and so is the number of its elements
module _ (defs : Defs) (scope : Scope) (preds : Predicates) (p : Sep) (a : ArrayPart) (is : ArrayIs p a) (fits : PartFits defs scope preds p) where
  pub object_fits : ObjectFits defs scope a.region a.value
  object_fits = subst (PartFits defs scope preds) is.part_is fits

  pub count_fits : TermFits defs scope Z a.count
  count_fits = (subst (AllByRecursion (TermFits defs scope Z)) is.type.sizes_are object_fits.region.type.sizes.sizes).0
