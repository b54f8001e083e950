-- The regions of a struct's fields are well formed, and their objects have the sorts of the fields.
use Rattle.std.proofs.Common.{◌≡◌, ℕ, false, cond, List, [], ◌∷◌, ◌++◌, Some, find, refl, sym, ap, ◌∙◌, bytes_eq}
use Rattle.std.specs.Prelude.{option_and_then, option_map}
use Rattle.std.specs.List.{AllByRecursion}
use Rattle.std.proofs.lemmas.Option.{same_Some}
use Rattle.std.proofs.lemmas.Slice.Eq.{bytes_eq-Decides}
use Rattle.floyd_ctypes.specs.declared.field.Field as d
use Rattle.floyd_ctypes.specs.Structs.{Structs, field_of, fields_of}
use Rattle.floyd_tree_sorts.specs.declared.shape.Shape.{Struct}
use Rattle.floyd_tree_sorts.specs.declared.sorts.Sort.{Sort}
use Rattle.floyd_tree.specs.declared.paths.PathStep.{PathStep}
use Rattle.floyd_tree.specs.declared.paths.PathStep.TheVariants.{Field}
use Rattle.floyd_tree.specs.Plain.{Plain}
use Rattle.floyd_tree.specs.Types.{SizedType}
use Rattle.floyd_tree_values.specs.Defaults.{type_sort, value_sort}
use Rattle.floyd_tree_values.specs.Rules.{Scope}
use Rattle.floyd_assert_trees.specs.declared.items.Defs.{Defs}
use Rattle.floyd_assert_trees.specs.declared.sep.Region.{Region}
use Rattle.floyd_fieldpath.specs.Nested.{field_type, sized_type, type_after, type_at}
use Rattle.floyd_fieldpath_laws.proofs.TypeSorts.{same_sort_of, sorts, step_some}
use Rattle.floyd_goal_forms.specs.Assertions.{ObjectFits, RegionFits, StepFits}
use Rattle.floyd_goal_forms.specs.Terms.{TermFits}
use Rattle.floyd_arrays_structs.specs.StructParts.{field_region}
use Rattle.floyd_formed_pure.proofs.Contexts.{both_all}
use Rattle.floyd_structs_soundness.specs.Fields.{NamesDiffer}

-- the type at a path with one step more
pub one_more : (structs : Structs) (step : PathStep) (path : List PathStep) (t u : SizedType) → type_at structs t path ≡ Some u → type_at structs t (path ++ step ∷ []) ≡ type_at structs u (step ∷ [])
one_more structs step [] t u e =
    let same : t ≡ u = same_Some {A = SizedType} t u e in
    ap (λ w. type_at structs w (step ∷ [])) same
one_more structs step (s ∷ path) t u e =
    let a = step_some structs path (type_after structs t s) u e in
    ap (option_and_then (λ w. type_at structs w (path ++ step ∷ []))) a.1 ∙ one_more structs step path a.0 u a.2

-- the type of a field
pub field_typed : (structs : Structs) (t : SizedType) (tag x : List ℕ) (f : d.Field) → t.shape ≡ Struct tag → field_of structs tag x ≡ Some f → type_at structs t (Field x ∷ []) ≡ Some (sized_type f.ty)
field_typed structs t tag x f shape found =
    ap (λ s. option_and_then (λ w. type_at structs w []) (field_type structs s x)) shape ∙ ap (λ o. option_and_then (λ w. type_at structs w []) (option_map (λ (g : d.Field). sized_type g.ty) o)) found

-- ---- fields are found by their names

abbrev Found : List d.Field → d.Field → Type 0
Found all f = find (λ (g : d.Field). bytes_eq f.name g.name) all ≡ Some f

found_behind : (f : d.Field) (all fs : List d.Field) → AllByRecursion (Found all) fs → AllByRecursion (λ (g : d.Field). bytes_eq g.name f.name ≡ false) fs → AllByRecursion (Found (f ∷ all)) fs
found_behind f all [] h differ = tt
found_behind f all (g ∷ fs) h differ = (ap (λ b. cond b (Some f) (find (λ (k : d.Field). bytes_eq g.name k.name) all)) differ.0 ∙ h.0, found_behind f all fs h.1 differ.1)

all_found : (fs : List d.Field) → NamesDiffer fs → AllByRecursion (Found fs) fs
all_found [] differ = tt
all_found (f ∷ fs) differ =
    (ap (λ b. cond b (Some f) (find (λ (k : d.Field). bytes_eq f.name k.name) fs)) ((bytes_eq-Decides f.name f.name).1 refl), found_behind f fs fs (all_found fs differ.1) differ.0)

abbrev pub IsNamed : Structs → List ℕ → d.Field → Type 0
IsNamed structs tag f = field_of structs tag f.name ≡ Some f

named_each : (structs : Structs) (tag : List ℕ) (all fs : List d.Field) → fields_of structs tag ≡ Some all → AllByRecursion (Found all) fs → AllByRecursion (IsNamed structs tag) fs
named_each structs tag all [] is h = tt
named_each structs tag all (f ∷ fs) is h = (ap (option_and_then (find (λ (g : d.Field). bytes_eq f.name g.name))) is ∙ h.0, named_each structs tag all fs is h.1)

pub all_named : (structs : Structs) (tag : List ℕ) (fs : List d.Field) → fields_of structs tag ≡ Some fs → NamesDiffer fs → AllByRecursion (IsNamed structs tag) fs
all_named structs tag fs is differ = named_each structs tag fs fs is (all_found fs differ)

module _ (defs : Defs) (scope : Scope) (r : Region) (t : SizedType) (typed : type_at defs.structs r.ty r.path ≡ Some t) where
  -- the region of a field
  pub field_region_fits : (x : List ℕ) (u : SizedType) → RegionFits defs scope r → type_at defs.structs t (Field x ∷ []) ≡ Some u → RegionFits defs scope (field_region r x)
  field_region_fits x u f e = record {
    share = f.share;
    type = f.type;
    steps = both_all (StepFits defs scope) r.path (Field x ∷ []) f.steps (tt, tt);
    nested = u;
    at = one_more defs.structs (Field x) r.path r.ty t typed ∙ e;
    root = f.root;
  }

  -- an object at a field has the field's sort
  pub record HasSort (f : d.Field) (v : Plain) : Type 0 where
    pub sort : Sort
    pub is : type_sort (sorts defs.structs) f.ty ≡ Some sort
    pub term : TermFits defs scope sort v

  pub of_field : (tag : List ℕ) (f : d.Field) (v : Plain) → t.shape ≡ Struct tag → IsNamed defs.structs tag f → ObjectFits defs scope (field_region r f.name) v → HasSort f v
  of_field tag f v shape named h =
      let at : type_at defs.structs r.ty (r.path ++ Field f.name ∷ []) ≡ Some (sized_type f.ty) = one_more defs.structs (Field f.name) r.path r.ty t typed ∙ field_typed defs.structs t tag f.name f shape named in
      let same : h.region.nested ≡ sized_type f.ty = same_Some {A = SizedType} h.region.nested (sized_type f.ty) (sym h.region.at ∙ at) in
      record {
        sort = h.sort;
        is = sym (same_sort_of (sorts defs.structs) f.ty) ∙ ap (λ (u : SizedType). value_sort defs.structs u.shape) (sym same) ∙ h.is;
        term = h.term;
      }
