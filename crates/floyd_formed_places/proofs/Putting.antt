-- Goals with other parts in the place of one are well formed.
use Rattle.std.proofs.Common.{◌≡◌, ℕ, zero, suc, ◌-◌, List, [], ◌∷◌, ◌++◌, take, drop, Some, Result, Ok, refl, sym, subst, ◌∙◌}
use Rattle.std.specs.List.{AllByRecursion}
use Rattle.floyd_text.specs.declared.refusal.No.{No}
use Rattle.floyd_tree.specs.Types.{SizedType}
use Rattle.floyd_tree_values.specs.Defaults.{value_sort}
use Rattle.floyd_tree_values.specs.Rules.{Scope}
use Rattle.floyd_assert_trees.specs.declared.assertion.Assertion.{Assertion}
use Rattle.floyd_assert_trees.specs.declared.items.Defs.{Defs}
use Rattle.floyd_assert_trees.specs.declared.sep.Sep.{Sep}
use Rattle.floyd_assert_trees.specs.declared.sep.Sep.TheVariants.{FieldAt, Padding, Valid, Anything, Predicate}
use Rattle.floyd_assert_trees.specs.declared.spec.SpecTable.{SpecTable}
use Rattle.floyd_fieldpath.specs.Addresses.{address}
use Rattle.floyd_fieldpath.specs.Nested.{nested_type}
use Rattle.floyd_fieldpath.specs.Projections.{default_of}
use Rattle.floyd_goal_trees.specs.Contexts.{after_command, context_of, scope_of}
use Rattle.floyd_goal_trees.specs.declared.args.Args.{Args}
use Rattle.floyd_goal_trees.specs.declared.context.Context.{Context}
use Rattle.floyd_goal_trees.specs.declared.goal.Goal.{Goal}
use Rattle.floyd_goal_trees.specs.declared.goal.Goal.TheVariants.{Run, Entail, Pure}
use Rattle.floyd_goal_forms.specs.Assertions.{AssertionFits, PartFits, PartsFit, PredicatesOf}
use Rattle.floyd_goal_forms.specs.Goals.{ContextFits, ExitsFit, IsWellFormed}
use Rattle.floyd_goal_forms.specs.Terms.{FormulaFits, scope_with}
use Rattle.floyd_goal_parts.specs.Rows.{InPlace, IsPut, Puts}
use Rattle.floyd_goal_parts.specs.Sources.{from_source, in_place, part_number, part_of, source_of, with_parts}
use Rattle.floyd_entail.specs.Reroot as reroot
use Rattle.floyd_entail.specs.Weaken as weaken
use Rattle.floyd_entail_soundness.proofs.InPlace.{typed_at}
use Rattle.floyd_entail_soundness.proofs.Placing.{of_number, same_Ok}
use Rattle.floyd_entail_soundness.proofs.Sources.{no_existentials, of_result, part_found, parts_fit, source_fits}
use Rattle.floyd_fieldpath_laws.proofs.Meanings.{on_ok_is}
use Rattle.floyd_formed_pure.specs.Rows.{AreWellFormed}
use Rattle.floyd_formed_pure.proofs.Contexts.{after_formed, both_all, context_formed}
use Rattle.floyd_formed_places.proofs.Places.{address_formed, default_formed, nested_at, type_formed}

taken : {A : Type 0} (P : A → Type 0) (n : ℕ) (xs : List A) → AllByRecursion P xs → AllByRecursion P (take n xs)
taken P zero xs h = tt
taken P (suc n) [] h = tt
taken P (suc n) (x ∷ xs) h = (h.0, taken P n xs h.1)

dropped : {A : Type 0} (P : A → Type 0) (n : ℕ) (xs : List A) → AllByRecursion P xs → AllByRecursion P (drop n xs)
dropped P zero xs h = h
dropped P (suc n) [] h = tt
dropped P (suc n) (x ∷ xs) h = dropped P n xs h.1

module _ (defs : Defs) (specs : SpecTable) where
  -- a source with other parts
  parts_put : (scope : Scope) (source : Assertion) (parts : List Sep) → source.existentials ≡ [] → AssertionFits defs specs scope source → PartsFit defs scope (PredicatesOf defs scope) parts → AssertionFits defs specs scope (with_parts source parts)
  parts_put scope source parts none h k = record {
    existentials = h.existentials;
    props = h.props;
    temporaries = h.temporaries;
    locals = h.locals;
    parts = subst (λ bs. PartsFit defs (scope_with bs ++ scope) (PredicatesOf defs (scope_with bs ++ scope)) parts) (sym none) k;
  }

  -- the goal from another source, in a context with the same variables
  pub source_formed : (goal : Goal) (context : Context) (source : Assertion) → scope_of context ≡ scope_of (context_of goal) → IsWellFormed defs specs goal → ContextFits defs specs (from_source goal context source) context → AssertionFits defs specs (scope_of (context_of goal)) source →
      IsWellFormed defs specs (from_source goal context source)
  source_formed (Run run) context source same h k f = record {
    context = k;
    source = subst (λ c. AssertionFits defs specs c source) (sym same) f;
    statements = h.statements;
    exits = subst (λ c. ExitsFit defs specs c run.exits) (sym same) h.exits;
  }
  source_formed (Entail entail) context source same h k f = record {
    context = k;
    source = subst (λ c. AssertionFits defs specs c source) (sym same) f;
    target = subst (λ c. AssertionFits defs specs c entail.target) (sym same) h.target;
  }
  source_formed (Pure pure) context source same h k f = record {
    context = k;
    target = subst (λ c. FormulaFits defs specs c pure.target) (sym same) h.target;
  }

  pub put_fits : (goal : Goal) (k : ℕ) (source : Assertion) (new : List Sep) → IsWellFormed defs specs goal → source_of goal ≡ Ok source → PartsFit defs (scope_of (context_of goal)) (PredicatesOf defs (scope_of (context_of goal))) new →
      AssertionFits defs specs (scope_of (context_of goal)) (with_parts source (in_place k new source.parts))
  put_fits goal k source new formed is fits =
      let scope = scope_of (context_of goal) in
      let P = PartFits defs scope (PredicatesOf defs scope) in
      let all = parts_fit defs specs goal source is formed in
      parts_put scope source (in_place k new source.parts) (no_existentials goal source is) (source_fits defs specs goal source is formed)
      (both_all P (take (k - 1) source.parts ++ new) (drop k source.parts) (both_all P (take (k - 1) source.parts) new (taken P (k - 1) source.parts all) fits) (dropped P k source.parts all))

-- what is put in place of a well-formed part is well formed
abbrev pub KeepsParts : Defs → (Sep → Result (List Sep) No) → Type 0
KeepsParts defs changed =
    (scope : Scope) (p : Sep) (new : List Sep) → PartFits defs scope (PredicatesOf defs scope) p → changed p ≡ Ok new → PartsFit defs scope (PredicatesOf defs scope) new

pub in_place_formed : (defs : Defs) (specs : SpecTable) (goal : Goal) (k : ℕ) (changed : Sep → Result (List Sep) No) (goals : List Goal) → IsWellFormed defs specs goal → KeepsParts defs changed → InPlace goal k changed (Ok goals) → AreWellFormed defs specs goals
in_place_formed defs specs goal k changed goals formed keeps row =
    let found = of_result (part_of goal k) (Puts goal k changed) goals row in
    let source = found.0.0 in
    let part = found.0.1 in
    let is = part_found goal k source part found.1 in
    let made = of_result (changed part) (IsPut goal k source) goals found.2 in
    let scope = scope_of (context_of goal) in
    let fits = of_number (PartFits defs scope (PredicatesOf defs scope)) k source.parts part is.part_is (parts_fit defs specs goal source is.source_is formed) in
    let new = with_parts source (in_place k made.0 source.parts) in
    let after = from_source goal (after_command (context_of goal)) new in
    let same : goals ≡ after ∷ [] = same_Ok {A = List Goal} goals (after ∷ []) made.2 in
    let one = source_formed defs specs goal (after_command (context_of goal)) new refl formed (after_formed defs specs goal after (context_of goal) (context_formed defs specs goal formed))
    (put_fits defs specs goal k source made.0 formed is.source_is (keeps scope part made.0 fits made.1)) in
    subst (AreWellFormed defs specs) (sym same) (one, tt)

-- ---- weaken and reroot

weaken_parts : (defs : Defs) → KeepsParts defs (weaken.weakened defs.structs)
weaken_parts defs scope (FieldAt r v) new fits made =
    let a = on_ok_is (weaken.default_at defs.structs r) (weaken.with_value r) new made in
    let b = on_ok_is (nested_type defs.structs r.ty r.path) (default_of defs.structs) a.0 a.1 in
    let e = typed_at defs.structs r.ty b.0 r.path b.1 in
    let f = fits.region in
    let n = nested_at defs scope r b.0 f e in
    let one : PartFits defs scope (PredicatesOf defs scope) (FieldAt r a.0) = record {
      region = record { share = f.share; type = f.type; steps = f.steps; nested = b.0; at = e; root = f.root };
      sort = n.sort;
      is = n.has;
      term = default_formed defs scope r b.0 a.0 f e b.2;
    } in
    subst (PartsFit defs scope (PredicatesOf defs scope)) (same_Ok {A = List Sep} (FieldAt r a.0 ∷ []) new a.2) (one, tt)
weaken_parts defs scope (Padding r) new fits made = absurd cc
weaken_parts defs scope (Valid t) new fits made = absurd cc
weaken_parts defs scope Anything new fits made = absurd cc
weaken_parts defs scope (Predicate name terms) new fits made = absurd cc

reroot_parts : (defs : Defs) → KeepsParts defs (reroot.rerooted defs.structs)
reroot_parts defs scope (FieldAt r v) new fits made =
    let a = on_ok_is (nested_type defs.structs r.ty r.path) (reroot.of_type defs.structs r v) new made in
    let b = on_ok_is (address defs.structs r.ty r.path r.root) (reroot.moved_to r a.0 v) new a.2 in
    let e = typed_at defs.structs r.ty a.0 r.path a.1 in
    let f = fits.region in
    let same : f.nested ≡ a.0 = (let both = sym f.at ∙ e in cc) in
    let part = FieldAt (reroot.object_at r.share a.0 b.0) v in
    let one : PartFits defs scope (PredicatesOf defs scope) part = record {
      region = record { share = f.share; type = type_formed defs scope r a.0 f e; steps = tt; nested = a.0; at = refl; root = address_formed defs scope r a.0 b.0 f e b.1 };
      sort = fits.sort;
      is = subst (λ (u : SizedType). value_sort defs.structs u.shape ≡ Some fits.sort) same fits.is;
      term = fits.term;
    } in
    subst (PartsFit defs scope (PredicatesOf defs scope)) (same_Ok {A = List Sep} (part ∷ []) new b.2) (one, tt)
reroot_parts defs scope (Padding r) new fits made = absurd cc
reroot_parts defs scope (Valid t) new fits made = absurd cc
reroot_parts defs scope Anything new fits made = absurd cc
reroot_parts defs scope (Predicate name terms) new fits made = absurd cc

pub weaken_forms : (defs : Defs) (specs : SpecTable) (goal : Goal) (args : Args) (goals : List Goal) → IsWellFormed defs specs goal → weaken.Row defs.structs goal args (Ok goals) → AreWellFormed defs specs goals
weaken_forms defs specs goal args goals formed row = in_place_formed defs specs goal (part_number args.target) (weaken.weakened defs.structs) goals formed (weaken_parts defs) row

pub reroot_forms : (defs : Defs) (specs : SpecTable) (goal : Goal) (args : Args) (goals : List Goal) → IsWellFormed defs specs goal → reroot.Row defs.structs goal args (Ok goals) → AreWellFormed defs specs goals
reroot_forms defs specs goal args goals formed row = in_place_formed defs specs goal (part_number args.target) (reroot.rerooted defs.structs) goals formed (reroot_parts defs) row
