-- The value of a field in a struct's value: each of its nodes is allowed, and its names are known.
use Rattle.std.proofs.Common.{◌≡◌, ℕ, zero, suc, Bool, true, false, List, [], ◌∷◌, Option, Some, None, Ok, refl, sym, ap, ◌∙◌, subst}
use Rattle.std.specs.Prelude.{bytes_eq, if◌then◌else◌, option_and_then, slice_get}
use Rattle.std.proofs.lemmas.Option.{same_Some}
use Rattle.floyd_ctypes.specs.declared.field.Field as d
use Rattle.floyd_ctypes.specs.Structs.{fields_of}
use Rattle.floyd_tree_sorts.specs.declared.heads.Head.{Head}
use Rattle.floyd_tree_sorts.specs.declared.operators.Operator.{Operator}
use Rattle.floyd_tree_sorts.specs.declared.operators.Operator.TheVariants.{Fst, Snd}
use Rattle.floyd_tree_sorts.specs.declared.shape.Shape.{Shape, Struct}
use Rattle.floyd_tree.specs.declared.paths.PathStep.TheVariants.{Field}
use Rattle.floyd_tree.specs.Plain.{Plain, Plains, At, Done, More, head_of, listed}
use Rattle.floyd_tree.specs.Types.{SizedType}
use Rattle.floyd_tree_values.specs.Rules.{AllAllowed, CallsOf, Scope}
use Rattle.floyd_assert_trees.specs.declared.items.Defs.{Defs}
use Rattle.floyd_assert_trees.specs.Meanings.{value_defs}
use Rattle.floyd_fieldpath.specs.Addresses.{on_type}
use Rattle.floyd_fieldpath.specs.Nested.{type_after, type_at}
use Rattle.floyd_fieldpath.specs.Projections.{component, default_of, field_item, first_of, is_default, is_pair, item, item_at, kid_under, of_fields, one, or_written, project, second_of}
use Rattle.floyd_fieldpath.specs.Written.{on_ok}
use Rattle.floyd_fieldpath_laws.proofs.Meanings.{on_ok_is, written_is}
use Rattle.floyd_goal_forms.specs.Terms.{AllKnown}
use Rattle.floyd_entail_soundness.proofs.Placing.{same_Ok}
use Rattle.floyd_formed_places.proofs.Places.{Fine}

module _ (defs : Defs) (scope : Scope) where
  abbrev F : Plain → Type 0
  F t = Fine defs scope t

  abbrev AllFine : Plains → Type 0
  AllFine ts = AllAllowed defs.structs scope (CallsOf (value_defs defs).funs) ts × AllKnown defs ts

  -- ---- the parts of a pair

  kid_at : (ts : Plains) (n : ℕ) (u : Plain) → AllFine ts → slice_get (listed ts) n ≡ Some u → F u
  kid_at Done zero u k e = absurd cc
  kid_at Done (suc n) u k e = absurd cc
  kid_at (More t ts) zero u k e = subst F (same_Some {A = Plain} t u e) (k.0.0, k.1.0)
  kid_at (More t ts) (suc n) u k e = kid_at ts n u (k.0.1, k.1.1) e

  kid_fine : (test : Head → Bool) (n : ℕ) (v u : Plain) → F v → kid_under test n v ≡ Some u → F u
  kid_fine test n (At head kids) u k e = by (test head) e
    where
      by : (b : Bool) → (if b then slice_get (listed kids) n else None) ≡ Some u → F u
      by true f = kid_at kids n u (k.0.1, k.1.1) f
      by false f = absurd cc

  part_fine : (o : Option Plain) (operator : Operator) (v c : Plain) → F v → ((u : Plain) → o ≡ Some u → F u) → or_written o (one operator v) ≡ Ok c → F c
  part_fine None operator v c k h e = subst F (written_is (one operator v) c e) ((tt, (k.0, tt)), (tt, (k.1, tt)))
  part_fine (Some u) operator v c k h e = subst F (same_Ok {A = Plain} u c e) (h u refl)

  first_fine : (v c : Plain) → F v → first_of v ≡ Ok c → F c
  first_fine v c k e = part_fine (kid_under is_pair 0 v) Fst v c k (λ u i. kid_fine is_pair 0 v u k i) e

  second_fine : (v c : Plain) → F v → second_of v ≡ Ok c → F c
  second_fine v c k e = part_fine (kid_under is_pair 1 v) Snd v c k (λ u i. kid_fine is_pair 1 v u k i) e

  -- ---- the value of a field

  module _ (after : SizedType) (defaults : (c : Plain) → default_of defs.structs after ≡ Ok c → F c) where
    component_fine : (fields : List d.Field) (x : List ℕ) (v c : Plain) → F v → component defs.structs after fields x v ≡ Ok c → F c
    component_fine [] x v c k e = absurd cc
    component_fine (f ∷ []) x v c k e = subst F (same_Ok {A = Plain} v c e) k
    component_fine (f ∷ g ∷ more) x v c k e = by_default (λ w i j. component_fine (g ∷ more) x w c i j) (is_default (head_of v)) e
      where
        by_name : ((w : Plain) → F w → component defs.structs after (g ∷ more) x w ≡ Ok c → F c) → (b : Bool) → (if b then first_of v else on_ok (second_of v) (component defs.structs after (g ∷ more) x)) ≡ Ok c → F c
        by_name next true j = first_fine v c k j
        by_name next false j =
            let q = on_ok_is (second_of v) (component defs.structs after (g ∷ more) x) c j in
            next q.0 (second_fine v q.0 k q.1) q.2

        by_default : ((w : Plain) → F w → component defs.structs after (g ∷ more) x w ≡ Ok c → F c) → (b : Bool) →
            (if b then default_of defs.structs after else (if bytes_eq x f.name then first_of v else on_ok (second_of v) (component defs.structs after (g ∷ more) x))) ≡ Ok c → F c
        by_default next true j = defaults c j
        by_default next false j = by_name next (bytes_eq x f.name) j

    fields_fine : (o : Option (List d.Field)) (x : List ℕ) (v c : Plain) → F v → of_fields o (λ fields. component defs.structs after fields x v) ≡ Ok c → F c
    fields_fine None x v c k e = absurd cc
    fields_fine (Some fields) x v c k e = component_fine fields x v c k e

    item_fine : (shape : Shape) (x : List ℕ) (v c : Plain) → F v → field_item defs.structs shape after x v ≡ Ok c → F c
    item_fine (Struct tag) x v c k e = by (is_default (head_of v)) e
      where
        by : (b : Bool) → (if b then default_of defs.structs after else of_fields (fields_of defs.structs tag) (λ fields. component defs.structs after fields x v)) ≡ Ok c → F c
        by true j = defaults c j
        by false j = fields_fine (fields_of defs.structs tag) x v c k j
    item_fine shape x v c k e = absurd cc

  -- behind the one step of a field
  pub field_fine : (t u : SizedType) (x : List ℕ) (v c : Plain) → ((w : Plain) → default_of defs.structs u ≡ Ok w → F w) → type_at defs.structs t (Field x ∷ []) ≡ Some u → F v → project defs.structs t (Field x ∷ []) v ≡ Ok c → F c
  field_fine t u x v c defaults typed k e = by_type (type_at defs.structs t (Field x ∷ [])) e
    where
      by_step : (o : Option SizedType) → type_after defs.structs t (Field x) ≡ o → on_type o (λ after. on_ok (item defs.structs t after (Field x) v) (item_at defs.structs after [])) ≡ Ok c → F c
      by_step None i j = absurd cc
      by_step (Some after) i j =
          let whole : type_at defs.structs t (Field x ∷ []) ≡ Some after = ap (option_and_then (λ w. type_at defs.structs w [])) i in
          let same : u ≡ after = same_Some {A = SizedType} u after (sym typed ∙ whole) in
          let own = subst (λ (w : SizedType). (y : Plain) → default_of defs.structs w ≡ Ok y → F y) same defaults in
          let q = on_ok_is (item defs.structs t after (Field x) v) (item_at defs.structs after []) c j in
          subst F (same_Ok {A = Plain} q.0 c q.2) (item_fine after own t.shape x v q.0 k q.1)

      by_type : (o : Option SizedType) → on_type o (λ nested. item_at defs.structs t (Field x ∷ []) v) ≡ Ok c → F c
      by_type None j = absurd cc
      by_type (Some nested) j = by_step (type_after defs.structs t (Field x)) refl j
