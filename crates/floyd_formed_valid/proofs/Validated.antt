-- The goals of `valid` are well formed.
use Rattle.std.proofs.Common.{◌≡◌, ℕ, Bool, true, false, List, [], ◌∷◌, ◌++◌, length, Option, Some, None, Ok, refl, sym, ap, subst, ◌∙◌, true≢false}
use Rattle.std.specs.Prelude.{if◌then◌else◌, pos, slice_get, nat_eq}
use Rattle.floyd_tree_sorts.specs.declared.connectives.FormulaHead.TheVariants.{True, False, Implies, Or, And, Forall, Exists, Equal, AtMost, IsPtr, Defined, Hasty, Compatible, FuncPtr}
use Rattle.floyd_tree_sorts.specs.declared.heads.Head.TheVariants as h
use Rattle.floyd_tree_sorts.specs.declared.operators.Operator.TheVariants as o
use Rattle.floyd_tree_sorts.specs.declared.sorts.Sort.{Sort, Val}
use Rattle.floyd_tree_sorts.specs.Operators.{row}
use Rattle.floyd_tree_sorts.specs.Rows.{takes}
use Rattle.floyd_tree_sorts.specs.Sorts.{is_val}
use Rattle.floyd_tree_sorts.proofs.RowLemmas.{row_taken}
use Rattle.floyd_tree_sorts.proofs.SortLemmas.{both_true}
use Rattle.floyd_tree.specs.Formulas.{PlainFormula, PlainFormulas, Says, form_of, listed_formulas, terms_of}
use Rattle.floyd_tree.specs.Plain.{Plain, Plains, At, Done, More, head_of, listed}
use Rattle.floyd_tree.specs.WellSorted.{sort_of, sorts_of}
use Rattle.floyd_tree_values.specs.Rules.{Scope}
use Rattle.floyd_assert_trees.specs.declared.items.Defs.{Defs}
use Rattle.floyd_assert_trees.specs.declared.sep.Sep.{Sep}
use Rattle.floyd_assert_trees.specs.declared.sep.Sep.TheVariants.{FieldAt, Padding, Valid, Anything, Predicate}
use Rattle.floyd_assert_trees.specs.declared.spec.SpecTable.{SpecTable}
use Rattle.floyd_fieldpath.specs.Addresses.{address, size_term}
use Rattle.floyd_fieldpath.specs.Nested.{literal, nested_type}
use Rattle.floyd_fieldpath_laws.proofs.Meanings.{on_ok_is}
use Rattle.floyd_goal.specs.Goals.{enriched, hypothesis_at, intros_first, some_left}
use Rattle.floyd_goal_forms.specs.Assertions.{PartFits, PartsFit, PredicatesOf}
use Rattle.floyd_goal_forms.specs.Goals.{IsWellFormed}
use Rattle.floyd_goal_forms.specs.Terms.{FormulaFits, FormulasFit, TermFits, scope_with}
use Rattle.floyd_goal_formulas.proofs.Values.{first_some, is_val_is, sorted}
use Rattle.floyd_goal_parts.specs.declared.placing.Plan.{Plan}
use Rattle.floyd_goal_parts.specs.Rows.{InPlaceUnder, IsPutUnder, PutsUnder, put_under}
use Rattle.floyd_goal_parts.specs.Sources.{from_source, in_place, part_of, with_parts}
use Rattle.floyd_goal_parts.specs.Writing.{at_most}
use Rattle.floyd_goal_trees.specs.Contexts.{scope_of}
use Rattle.floyd_goal_trees.specs.declared.args.Args.{Args}
use Rattle.floyd_goal_trees.specs.declared.args.Target as t
use Rattle.floyd_goal_trees.specs.declared.goal.Entail as e
use Rattle.floyd_goal_trees.specs.declared.goal.Goal.{Goal}
use Rattle.floyd_goal_trees.specs.declared.goal.Goal.TheVariants.{Run, Entail, Pure}
use Rattle.floyd_entail.specs.Valid.{ByTarget, ByValue, OfHypothesis, Row, is_null, null_value, one_at_least, only_valid, some_byte, valid_at, valid_in, valid_plan, valid_value, value_by, with_valid}
use Rattle.floyd_entail_soundness.proofs.InPlace.{typed_at}
use Rattle.floyd_entail_soundness.proofs.Placing.{of_number, same_Ok}
use Rattle.floyd_entail_soundness.proofs.Sources.{of_result, part_found, parts_fit}
use Rattle.floyd_entail_soundness.proofs.Validating.{no_more, passed}
use Rattle.floyd_pure_quantifiers.proofs.Equating.{kid_sorts, sides_sorted}
use Rattle.floyd_formed_pure.specs.Rows.{AreWellFormed}
use Rattle.floyd_formed_pure.proofs.Contexts.{after_formed, both_all, enriched_formed, hypothesis_formed}
use Rattle.floyd_formed_entail.proofs.Sided.{sided_formed}
use Rattle.floyd_formed_places.proofs.Places.{Fine, address_formed, literal_fine, path_fine, size_fine, sizes_fine}
use Rattle.floyd_formed_places.proofs.Putting.{put_fits, source_formed}
use Rattle.floyd_formed_facts.proofs.Writing.{says_formed, written_formed}

-- ---- a part of which only the address is left

module _ (defs : Defs) (specs : SpecTable) (scope : Scope) where
  record IsPlanned (plan : Plan) : Type 0 where
    pub sides : FormulasFit defs specs scope plan.sides
    pub parts : PartsFit defs scope (PredicatesOf defs scope) plan.new

  plan_formed : (p : Sep) (plan : Plan) → PartFits defs scope (PredicatesOf defs scope) p → valid_plan defs.structs p ≡ Ok plan → IsPlanned plan
  plan_formed (FieldAt r v) plan fits made =
      let f = fits.region in
      let a = on_ok_is (nested_type defs.structs r.ty r.path) (valid_in defs.structs r) plan made in
      let b = on_ok_is (address defs.structs r.ty r.path r.root) (valid_at defs.structs a.0) plan a.2 in
      let c = on_ok_is (some_byte defs.structs a.0) (only_valid b.0) plan b.2 in
      let d = on_ok_is (size_term defs.structs a.0.shape a.0.sizes) one_at_least c.0 c.1 in
      let typed = typed_at defs.structs r.ty a.0 r.path a.1 in
      let sizes = path_fine defs scope r.path r.ty a.0 (sizes_fine defs scope r.ty.sizes f.type.sizes.sizes) typed in
      let bytes = size_fine defs scope a.0.shape a.0.sizes d.0 sizes d.1 in
      let sides = written_formed defs specs scope (at_most (literal (pos 1)) d.0 ∷ []) c.0 (says_formed defs specs scope AtMost (literal (pos 1) ∷ d.0 ∷ []) tt (literal_fine defs scope (pos 1), (bytes, tt)), tt) d.2 in
      let same : ◌≡◌ {A = Plan} (record { sides = c.0; new = Valid b.0 ∷ [] }) plan = same_Ok {A = Plan} (record { sides = c.0; new = Valid b.0 ∷ [] }) plan c.2 in
      subst IsPlanned same (record { sides = sides; parts = (address_formed defs scope r a.0 b.0 f typed b.1, tt) })
  plan_formed (Padding r) plan fits made = absurd cc
  plan_formed (Valid u) plan fits made = absurd cc
  plan_formed Anything plan fits made = absurd cc
  plan_formed (Predicate name terms) plan fits made = absurd cc

  -- ---- a value that is valid by a hypothesis

  null_sort : (b : Plain) (s : Sort) → is_null (head_of b) ≡ true → sort_of b ≡ Some s → s ≡ Val
  null_sort (At (h.Operator o.Nullval) kids) s n e =
      let k = kid_sorts (h.Operator o.Nullval) kids s e in
      sym (row_taken (row o.Nullval) k.0 s k.2).3
  null_sort (At head kids) s n e = absurd cc

  value_fits : (v : Plain) → sort_of v ≡ Some Val → Fine defs scope v → TermFits defs scope Val v
  value_fits v e k = record { fits = record { sorted = e; allowed = k.0 }; known = k.1 }

  equal_value : (terms : Plains) (kids : PlainFormulas) (v : Plain) → null_value (listed terms) ≡ Some v → FormulaFits defs specs scope (Says Equal terms kids) → TermFits defs scope Val v
  equal_value Done kids v i f = absurd cc
  equal_value (More a Done) kids v i f = absurd cc
  equal_value (More a (More b Done)) kids v i f = by (is_null (head_of b)) refl i
    where
      by : (q : Bool) → is_null (head_of b) ≡ q → (if q then Some a else None) ≡ Some v → TermFits defs scope Val v
      by true n j =
          let s = sides_sorted a b kids f.fits.sorted in
          let same : a ≡ v = cc in
          subst (TermFits defs scope Val) same (value_fits a (s.1 ∙ ap (λ q. Some q) (null_sort b s.0 n s.2)) (f.fits.allowed.0.0, f.known.1.0))
      by false n j = absurd cc
  equal_value (More a (More b (More c rest))) kids v i f =
      let s = sorted Equal (More a (More b (More c rest))) kids f.fits.sorted in
      let p = first_some (sort_of a) (sorts_of (More b (More c rest))) s.sorts s.are in
      let q = first_some (sort_of b) (sorts_of (More c rest)) p.1 p.3 in
      let r = first_some (sort_of c) (sorts_of rest) q.1 q.3 in
      let are : s.sorts ≡ p.0 ∷ q.0 ∷ r.0 ∷ r.1 = p.4 ∙ ap (λ x. p.0 ∷ x) (q.4 ∙ ap (λ x. q.0 ∷ x) r.4) in
      absurd (too_many p.0 q.0 r.0 r.1 (length (listed_formulas kids)) (subst (λ x. takes Equal x (length (listed_formulas kids)) ≡ true) are s.taken))
    where
      too_many : (x y z : Sort) (more : List Sort) (n : ℕ) → takes Equal (x ∷ y ∷ z ∷ more) n ≡ true → ⊥
      too_many x y z more n e = cc

  pointer_value : (name : List ℕ) (terms : Plains) (kids : PlainFormulas) (v : Plain) → slice_get (listed terms) 0 ≡ Some v → FormulaFits defs specs scope (Says (FuncPtr name) terms kids) → TermFits defs scope Val v
  pointer_value name Done kids v i f = absurd cc
  pointer_value name (More a rest) kids v i f =
      let s = sorted (FuncPtr name) (More a rest) kids f.fits.sorted in
      let p = first_some (sort_of a) (sorts_of rest) s.sorts s.are in
      let same : a ≡ v = cc in
      let own = taken_val name p.0 p.1 (length (listed_formulas kids)) (subst (λ x. takes (FuncPtr name) x (length (listed_formulas kids)) ≡ true) p.4 s.taken) in
      subst (TermFits defs scope Val) same (value_fits a (p.2 ∙ ap (λ q. Some q) own) (f.fits.allowed.0.0, f.known.1.0))
    where
      taken_val : (name : List ℕ) (x : Sort) (more : List Sort) (n : ℕ) → takes (FuncPtr name) (x ∷ more) n ≡ true → x ≡ Val
      taken_val name x [] n e = is_val_is x (both_true (nat_eq n 0) (is_val x) e).1
      taken_val name x (y ∷ []) n e = absurd (true≢false (sym (both_true (nat_eq n 0) false e).1))
      taken_val name x (y ∷ z ∷ more) n e = absurd cc

  formula_value : (f : PlainFormula) (v : Plain) → valid_value (form_of f) (terms_of f) ≡ Some v → FormulaFits defs specs scope f → TermFits defs scope Val v
  formula_value (Says Equal terms kids) v i k = equal_value terms kids v i k
  formula_value (Says (FuncPtr name) terms kids) v i k = pointer_value name terms kids v i k
  formula_value (Says True terms kids) v i k = absurd cc
  formula_value (Says False terms kids) v i k = absurd cc
  formula_value (Says Implies terms kids) v i k = absurd cc
  formula_value (Says Or terms kids) v i k = absurd cc
  formula_value (Says And terms kids) v i k = absurd cc
  formula_value (Says (Forall x s) terms kids) v i k = absurd cc
  formula_value (Says (Exists x s) terms kids) v i k = absurd cc
  formula_value (Says AtMost terms kids) v i k = absurd cc
  formula_value (Says IsPtr terms kids) v i k = absurd cc
  formula_value (Says Defined terms kids) v i k = absurd cc
  formula_value (Says (Hasty shape) terms kids) v i k = absurd cc
  formula_value (Says (Compatible shape steps) terms kids) v i k = absurd cc

  hypothesis_value : (f : Option PlainFormula) (v : Plain) → value_by f ≡ Some v → ((a : PlainFormula) → f ≡ Some a → FormulaFits defs specs scope a) → TermFits defs scope Val v
  hypothesis_value None v i k = absurd cc
  hypothesis_value (Some a) v i k = formula_value a v i (k a refl)

-- ---- the command

module _ (defs : Defs) (specs : SpecTable) (entail : e.Entail) (formed : IsWellFormed defs specs (Entail entail)) (goals : List Goal) where
  abbrev goal : Goal
  goal = Entail entail

  abbrev scope : Scope
  scope = scope_of entail.context

  by_part : (k : ℕ) → InPlaceUnder (Entail entail) k (valid_plan defs.structs) (Ok goals) → AreWellFormed defs specs goals
  by_part k row =
      let found = of_result (part_of goal k) (PutsUnder goal k (valid_plan defs.structs)) goals row in
      let source = found.0.0 in
      let part = found.0.1 in
      let is = part_found goal k source part found.1 in
      let made = of_result (valid_plan defs.structs part) (IsPutUnder goal k source) goals found.2 in
      let fits = of_number (PartFits defs scope (PredicatesOf defs scope)) k source.parts part is.part_is (parts_fit defs specs goal source is.source_is formed) in
      let plan = plan_formed defs specs scope part made.0 fits made.1 in
      let target = put_fits defs specs goal k source made.0.new formed is.source_is plan.parts in
      let behind : (kept : List PlainFormula) → FormulasFit defs specs scope kept → AreWellFormed defs specs (put_under goal k source made.0.new kept) =
      λ kept h. (
        source_formed defs specs goal (enriched entail.context kept) (with_parts source (in_place k made.0.new source.parts)) refl formed
            (enriched_formed defs specs goal (from_source goal (enriched entail.context kept) (with_parts source (in_place k made.0.new source.parts))) entail.context kept formed.context h) target,
        tt,
      ) in
      sided_formed defs specs goal formed (put_under goal k source made.0.new) goals made.0.sides plan.sides behind made.2

  with_value : (v : Plain) → entail.source.existentials ≡ [] → TermFits defs scope Val v → IsWellFormed defs specs (with_valid entail v)
  with_value v none k =
      let old = subst (λ bs. PartsFit defs (scope_with bs ++ scope) (PredicatesOf defs (scope_with bs ++ scope)) entail.source.parts) none formed.source.parts in
      let all = both_all (PartFits defs scope (PredicatesOf defs scope)) entail.source.parts (Valid v ∷ []) old (k, tt) in
      record {
        context = after_formed defs specs goal (with_valid entail v) entail.context formed.context;
        source = record {
          existentials = formed.source.existentials;
          props = formed.source.props;
          temporaries = formed.source.temporaries;
          locals = formed.source.locals;
          parts = subst (λ bs. PartsFit defs (scope_with bs ++ scope) (PredicatesOf defs (scope_with bs ++ scope)) (entail.source.parts ++ Valid v ∷ [])) (sym none) all;
        };
        target = formed.target;
      }

  by_value : (k : ℕ) (o : Option Plain) → value_by (hypothesis_at entail.context.hypotheses k) ≡ o → entail.source.existentials ≡ [] → ByValue entail k o (Ok goals) → AreWellFormed defs specs goals
  by_value k None i none row = absurd cc
  by_value k (Some v) i none row =
      let fits = hypothesis_value defs specs scope (hypothesis_at entail.context.hypotheses k) v i (λ a j. hypothesis_formed defs specs scope entail.context.hypotheses k a j formed.context.hypotheses) in
      let same : goals ≡ with_valid entail v ∷ [] = same_Ok {A = List Goal} goals (with_valid entail v ∷ []) row in
      subst (AreWellFormed defs specs) (sym same) (with_value v none fits, tt)

  by_target : (target : t.Target) → ByTarget defs.structs entail target (Ok goals) → AreWellFormed defs specs goals
  by_target t.TheVariants.Nothing row = absurd cc
  by_target (t.TheVariants.Part k) row = by_part k row
  by_target (t.TheVariants.Hypothesis k) row =
      let p = passed (some_left entail.source.existentials) intros_first (OfHypothesis entail k) goals row in
      by_value k (value_by (hypothesis_at entail.context.hypotheses k)) refl (no_more entail.source p.0) p.1

pub valid_forms : (defs : Defs) (specs : SpecTable) (goal : Goal) (args : Args) (goals : List Goal) → IsWellFormed defs specs goal → Row defs.structs goal args (Ok goals) → AreWellFormed defs specs goals
valid_forms defs specs (Run run) args goals formed row = absurd cc
valid_forms defs specs (Pure pure) args goals formed row = absurd cc
valid_forms defs specs (Entail entail) args goals formed row = by_target defs specs entail formed goals args.target row
