-- The terms of an object that was located in the source of a well-formed goal are well formed.
use Rattle.std.proofs.Common.{◌≡◌, ◌&&◌, true, List, [], ◌∷◌, ◌++◌, Some, Ok, sym, ap, subst, ◌∙◌}
use Rattle.std.specs.List.{AllByRecursion}
use Rattle.std.proofs.lemmas.List.Elements.{All-cons, All-nil}
use Rattle.std.proofs.lemmas.Option.{same_Some}
use Rattle.floyd_clight.specs.declared.syntax.Expr.{Expr}
use Rattle.floyd_clight.specs.Types.{type_of}
use Rattle.floyd_tree_sorts.specs.declared.connectives.FormulaHead.TheVariants.{Defined}
use Rattle.floyd_tree_sorts.specs.declared.sorts.Sort.{Val as ValSort, Z}
use Rattle.floyd_tree.specs.declared.paths.PathStep.{PathStep}
use Rattle.floyd_tree.specs.declared.paths.PathStep.TheVariants.{Field, Subscript}
use Rattle.floyd_tree.specs.Formulas.{takes_all}
use Rattle.floyd_tree.specs.Plain.{Plain}
use Rattle.floyd_tree.specs.Types.{SizedType}
use Rattle.floyd_tree.specs.WellSorted.{sort_of, with_first}
use Rattle.floyd_tree_values.specs.Defaults.{value_sort}
use Rattle.floyd_tree_values.specs.Means as m
use Rattle.floyd_tree_values.specs.Rules.{CallsOf, EachAllowed, Scope}
use Rattle.floyd_assert_trees.specs.declared.items.Defs.{Defs}
use Rattle.floyd_assert_trees.specs.declared.sep.Sep.TheVariants.{FieldAt}
use Rattle.floyd_assert_trees.specs.declared.spec.SpecTable.{SpecTable}
use Rattle.floyd_assert_trees.specs.Meanings.{value_defs}
use Rattle.floyd_fieldpath.specs.Nested.{sized_type, type_after, type_at}
use Rattle.floyd_fieldpath.specs.Projections.{project}
use Rattle.floyd_fieldpath.specs.Updates.{update}
use Rattle.floyd_fieldpath_laws.specs.Conditions.{HasSizes, IsPath, IsStep}
use Rattle.floyd_fieldpath_laws.proofs.AddressMeanings.{answered}
use Rattle.floyd_fieldpath_laws.proofs.SortedItems.{projects_have_sorts}
use Rattle.floyd_fieldpath_laws.proofs.SortedUpdates.{updates_have_sorts}
use Rattle.floyd_fieldpath_laws.proofs.TypeSorts.{step_some}
use Rattle.floyd_goal_formulas.specs.Fits.{Fits}
use Rattle.floyd_goal_forms.specs.Assertions.{ObjectFits, PartFits, PartsFit, PredicatesOf}
use Rattle.floyd_goal_forms.specs.Goals.{RunFits}
use Rattle.floyd_goal_forms.specs.Terms.{GlobalsKnown}
use Rattle.floyd_goal_trees.specs.Contexts.{scope_of}
use Rattle.floyd_goal_trees.specs.declared.goal.Run as r
use Rattle.floyd_symexpr_paths.specs.declared.location.Located.{Located}
use Rattle.floyd_symexpr.specs.Locate.{locate}
use Rattle.floyd_symexpr_forms.specs.Laws.{LocationFits, PartIsSized, SourceFits, StepIn, TermIn}
use Rattle.floyd_symexpr_forms.proofs.Items.{item_fits}
use Rattle.floyd_symexpr_forms.proofs.Locations.{location_fits}
use Rattle.floyd_symexpr_forms.proofs.Places.{after_sized}
use Rattle.floyd_symexpr_forms.proofs.Pointers.{IsSized}
use Rattle.floyd_symexpr_soundness.specs.Laws.{LiesIn, ObjectIsSorted, PartIsSorted}
use Rattle.floyd_symexpr_soundness.proofs.Locating.{lies_in, sorted_among}
use Rattle.floyd_symexpr_soundness.proofs.Sites.{sizes_at}
use Rattle.floyd_state_laws.proofs.Forms.{parts_are_sorted}
use Rattle.floyd_forward.specs.Set.{is_defined}
use Rattle.floyd_forward_soundness.proofs.Setting.{same_scope, source_fits}

-- what is so of each is so of one
among : {A : Type 0} (P : A → Type 0) (before : List A) (x : A) (behind : List A) → AllByRecursion P (before ++ x ∷ behind) → P x
among P [] x behind h = h.0
among P (y ∷ before) x behind h = among P before x behind h.1

module _ (defs : m.Defs) (scope : Scope) where
  abbrev G : Plain → Type 0
  G t = TermIn defs scope Z t

  -- the sizes of the type at a path are numbers
  type_sized : (t u : SizedType) (path : List PathStep) → AllByRecursion G t.sizes → type_at defs.structs t path ≡ Some u → AllByRecursion G u.sizes
  type_sized t u [] h e = subst (λ (w : SizedType). AllByRecursion G w.sizes) (same_Some t u e) h
  type_sized t u (step ∷ path) h e =
      let a = step_some defs.structs path (type_after defs.structs t step) u e in
      type_sized a.0 u path (subst (IsSized defs scope) a.1 (after_sized defs scope t step h)) a.2

  steps_behind : (own rest : List PathStep) → AllByRecursion (StepIn defs scope) (own ++ rest) → AllByRecursion (StepIn defs scope) rest
  steps_behind [] rest h = h
  steps_behind (step ∷ own) rest h = steps_behind own rest h.1

  is_path : (path : List PathStep) → AllByRecursion (StepIn defs scope) path → IsPath path
  is_path [] h = All-nil IsStep
  is_path (Field x ∷ path) h = All-cons IsStep (Field x) path tt (is_path path h.1)
  is_path (Subscript i ∷ path) h = All-cons IsStep (Subscript i) path h.0.sorted (is_path path h.1)

  pub defined_fits : (v : Plain) → TermIn defs scope ValSort v → Fits defs scope (is_defined v)
  defined_fits v g = record { sorted = ap (λ s. takes_all Defined (with_first s (Some [])) 0 && true) g.sorted; allowed = ((g.allowed, tt), tt) }

-- an object that was located in the source of a goal
module _ (defs : Defs) (specs : SpecTable) (run : r.Run) (fits : RunFits defs specs run) (bare : run.source.existentials ≡ []) (p : Expr) (l : Located) (found : locate run.source defs.structs p ≡ Ok l) where
  abbrev scope : Scope
  scope = scope_of run.context

  abbrev pub lies : LiesIn defs.structs run.source.parts l (type_of p)
  lies = lies_in defs.structs run.source p l found

  fit : SourceFits (value_defs defs) scope run.source
  fit = source_fits defs specs run fits bare

  pub location : LocationFits (value_defs defs) scope l
  location = location_fits (value_defs defs) scope run.source fit p l found

  pub object : ObjectFits defs scope lies.region lies.value
  object =
      among (PartFits defs scope (PredicatesOf defs scope)) lies.before (FieldAt lies.region lies.value) lies.behind
      (subst (PartsFit defs scope (PredicatesOf defs scope)) lies.parts_are
      (subst (λ s. PartsFit defs s (PredicatesOf defs s) run.source.parts) (same_scope defs specs run fits bare) fits.source.parts))

  sorted : ObjectIsSorted defs.structs lies.region lies.value
  sorted =
      sorted_among defs.structs lies.before lies.behind lies.region lies.value
      (subst (AllByRecursion (PartIsSorted defs.structs)) lies.parts_are (parts_are_sorted defs specs scope run.source fits.source))

  type_is : sorted.nested ≡ lies.type
  type_is = same_Some sorted.nested lies.type (sym sorted.at ∙ lies.nested)

  has_sizes : HasSizes lies.type
  has_sizes = sizes_at defs.structs lies.region.ty lies.type lies.region.path sorted.sizes lies.nested

  sizes : AllByRecursion (TermIn (value_defs defs) scope Z) lies.type.sizes
  sizes =
      type_sized (value_defs defs) scope lies.region.ty lies.type lies.region.path
      (among (PartIsSized (value_defs defs) scope) lies.before (FieldAt lies.region lies.value) lies.behind
      (subst (AllByRecursion (PartIsSized (value_defs defs) scope)) lies.parts_are fit.parts)) lies.nested

  steps : AllByRecursion (StepIn (value_defs defs) scope) lies.rest
  steps = steps_behind (value_defs defs) scope lies.region.path lies.rest (subst (AllByRecursion (StepIn (value_defs defs) scope)) lies.path location.path)

  -- the value of a scalar is a value, each node of which is allowed
  pub item_good : (v : Plain) → value_sort defs.structs (sized_type (type_of p)).shape ≡ Some ValSort → project defs.structs lies.type lies.rest lies.value ≡ Ok v → TermIn (value_defs defs) scope ValSort v
  item_good v has made = record {
    sorted = answered ValSort (project defs.structs lies.type lies.rest lies.value) v
        (projects_have_sorts defs.structs lies.type (sized_type (type_of p)) lies.rest lies.value sorted.sort ValSort has_sizes (is_path (value_defs defs) scope lies.rest steps) lies.typed
        (subst (λ (u : SizedType). value_sort defs.structs u.shape ≡ Some sorted.sort) type_is sorted.has) has sorted.sorted) made;
    allowed = item_fits (value_defs defs) scope lies.type lies.rest lies.value v sizes steps object.term.fits.allowed made;
  }

  -- a part with another value for the object, which is a scalar, is well formed
  pub updated_fits : (new whole : Plain) → value_sort defs.structs (sized_type (type_of p)).shape ≡ Some ValSort → sort_of new ≡ Some ValSort → update defs.structs lies.type lies.rest lies.value new ≡ Ok whole →
      EachAllowed defs.structs scope (CallsOf (value_defs defs).funs) whole → GlobalsKnown defs whole → ObjectFits defs scope lies.region whole
  updated_fits new whole has sort made allowed known = record {
    region = object.region;
    sort = sorted.sort;
    is = subst (λ (u : SizedType). value_sort defs.structs u.shape ≡ Some sorted.sort) (same_Some sorted.nested object.region.nested (sym sorted.at ∙ object.region.at)) sorted.has;
    term = record {
      fits = record {
        sorted = answered sorted.sort (update defs.structs lies.type lies.rest lies.value new) whole
            (updates_have_sorts defs.structs lies.type (sized_type (type_of p)) lies.rest lies.value new sorted.sort ValSort has_sizes (is_path (value_defs defs) scope lies.rest steps) lies.typed
            (subst (λ (u : SizedType). value_sort defs.structs u.shape ≡ Some sorted.sort) type_is sorted.has) has sorted.sorted sort) made;
        allowed = allowed;
      };
      known = known;
    };
  }
