-- Commands that put parts in place of one.
use Rattle.std.proofs.Common.{◌≡◌, ℕ, List, [], ◌∷◌, Option, Some, None, Result, Ok, All, refl, ap, subst}
use Rattle.std.specs.Prelude.{IsSome}
use Rattle.std.specs.List.{AllByRecursion}
use Rattle.std.proofs.lemmas.List.Elements.{All-cons, All-nil}
use Rattle.floyd_text.specs.declared.refusal.No.{No}
use Rattle.floyd_clight_heap.specs.Heaplet.{Heaplet}
use Rattle.floyd_tree_sorts.specs.declared.sorts.Sort.{Z}
use Rattle.floyd_tree.specs.declared.paths.PathStep.{PathStep}
use Rattle.floyd_tree.specs.declared.paths.PathStep.TheVariants.{Field, Subscript}
use Rattle.floyd_tree.specs.Plain.{Plain}
use Rattle.floyd_tree.specs.Types.{SizedType}
use Rattle.floyd_tree_values.specs.BuiltIns.{Env}
use Rattle.floyd_tree_values.specs.Defaults.{value_sort}
use Rattle.floyd_tree_values.specs.Rules.{Scope}
use Rattle.floyd_ctypes.specs.Structs.{Structs}
use Rattle.floyd_assert_trees.specs.declared.items.Defs.{Defs}
use Rattle.floyd_assert_trees.specs.declared.sep.Region.{Region}
use Rattle.floyd_assert_trees.specs.declared.sep.Sep.{Sep}
use Rattle.floyd_assert_trees.specs.declared.spec.SpecTable.{SpecTable}
use Rattle.floyd_assert_meaning.specs.Parts.{PartHolds, PartsHold}
use Rattle.floyd_fieldpath.specs.Nested.{nested_type, or_illegal, type_at}
use Rattle.floyd_fieldpath_laws.specs.Conditions.{IsNumber, IsStep}
use Rattle.floyd_part_laws.specs.Laws.{IsPlace}
use Rattle.floyd_goal_trees.specs.Contexts.{after_command, context_of, scope_of}
use Rattle.floyd_goal_trees.specs.declared.goal.Goal.{Goal}
use Rattle.floyd_goal_forms.specs.Assertions.{PartFits, PredicatesOf, RegionFits, StepFits}
use Rattle.floyd_goal_forms.specs.Goals.{IsWellFormed}
use Rattle.floyd_goal_forms.specs.Terms.{TermFits}
use Rattle.floyd_goal_meaning.specs.declared.linked.Linked.{Linked}
use Rattle.floyd_goal_meaning.specs.GoalHolds.{HoldsFor}
use Rattle.floyd_goal_meaning.specs.Links.{Has}
use Rattle.floyd_goal_meaning.specs.Programs.{Further, Places, setting}
use Rattle.floyd_goal_laws.proofs.Givens.{given_after}
use Rattle.floyd_goal_parts.specs.Rows.{InPlace, IsPut, Puts}
use Rattle.floyd_goal_parts.specs.Sources.{from_source, in_place, part_of, with_parts}
use Rattle.floyd_entail_soundness.proofs.Placing.{of_number, same_Ok}
use Rattle.floyd_entail_soundness.proofs.Sources.{from_other, no_existentials, of_result, part_found, parts_fit, source_put}

-- ---- a well-formed place

the_some : {A : Type 0} (o : Option A) → IsSome o → (a : A) × (o ≡ Some a)
the_some (Some a) h = (a, refl)
the_some None h = absurd cc

module _ (defs : Defs) (scope : Scope) where
  numbers : (ts : List Plain) → AllByRecursion (TermFits defs scope Z) ts → All IsNumber ts
  numbers [] h = All-nil IsNumber
  numbers (t ∷ ts) h = All-cons IsNumber t ts h.0.fits.sorted (numbers ts h.1)

  steps : (path : List PathStep) → AllByRecursion (StepFits defs scope) path → All IsStep path
  steps [] h = All-nil IsStep
  steps (Field x ∷ path) h = All-cons IsStep (Field x) path tt (steps path h.1)
  steps (Subscript t ∷ path) h = All-cons IsStep (Subscript t) path h.0.fits.sorted (steps path h.1)

  pub is_place : (r : Region) → RegionFits defs scope r → IsPlace defs.structs r
  is_place r f =
      let s = the_some (value_sort defs.structs r.ty.shape) f.type.sort in
      record {
        sizes = record { count = f.type.sizes.count; numbers = numbers r.ty.sizes f.type.sizes.sizes };
        sort = s.0;
        has = s.1;
        path = steps r.path f.steps;
        root = f.root.fits.sorted;
      }

pub typed_at : (structs : Structs) (t u : SizedType) (path : List PathStep) → nested_type structs t path ≡ Ok u → type_at structs t path ≡ Some u
typed_at structs t u path e = by (type_at structs t path) e
  where
    by : (o : Option SizedType) → or_illegal o ≡ Ok u → o ≡ Some u
    by (Some v) f = ap Some (same_Ok {A = SizedType} v u f)
    by None f = absurd cc

-- ---- the commands

-- what is put in place of a well-formed part holds of each heaplet of which that one does
abbrev pub Keeps : Defs → SpecTable → (Sep → Result (List Sep) No) → Type 0
Keeps defs specs changed =
    (L : Linked) (more : List Further) (place : Places) → Has L defs specs → (scope : Scope) (p : Sep) (new : List Sep) → PartFits defs scope (PredicatesOf defs scope) p → changed p ≡ Ok new →
    (env : Env) (h : Heaplet) → PartHolds (setting L more place) env p h → PartsHold (setting L more place) env new h

pub in_place_sound : (defs : Defs) (specs : SpecTable) (n : ℕ) (goal : Goal) (k : ℕ) (changed : Sep → Result (List Sep) No) (goals : List Goal) → IsWellFormed defs specs goal → Keeps defs specs changed → InPlace goal k changed (Ok goals) →
    AllByRecursion (HoldsFor defs specs n) goals → HoldsFor defs specs n goal
in_place_sound defs specs n goal k changed goals formed keeps row h =
    let found = of_result (part_of goal k) (Puts goal k changed) goals row in
    let source = found.0.0 in
    let part = found.0.1 in
    let is = part_found goal k source part found.1 in
    let made = of_result (changed part) (IsPut goal k source) goals found.2 in
    let new = with_parts source (in_place k made.0 source.parts) in
    let after = from_source goal (after_command (context_of goal)) new in
    let same : goals ≡ after ∷ [] = same_Ok {A = List Goal} goals (after ∷ []) made.2 in
    let one : HoldsFor defs specs n after = (subst (AllByRecursion (HoldsFor defs specs n)) same h).0 in
    let scope = scope_of (context_of goal) in
    let fits = of_number (PartFits defs scope (PredicatesOf defs scope)) k source.parts part is.part_is (parts_fit defs specs goal source is.source_is formed) in
    record {
      in_each = λ L more place has apart lemmas env given.
          from_other L more place defs specs n goal (after_command (context_of goal)) source new env is.source_is
          (λ temps g x. source_put (setting L more place) env source k part made.0 is.part_is (no_existentials goal source is.source_is) (λ q m. keeps L more place has scope part made.0 fits made.1 env q m) temps g x)
          (given_after (setting L more place) defs env (context_of goal) given)
          (one.in_each L more place has apart lemmas);
    }
