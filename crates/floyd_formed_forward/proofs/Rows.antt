-- A set, also from memory, and an assignment keep goals well formed.
use Rattle.std.proofs.Common.{◌≡◌, ℕ, pos, List, [], ◌∷◌, ◌++◌, Some, Ok, append_assoc, refl, sym, ap, subst, ◌∙◌}
use Rattle.std.specs.List.{AllByRecursion}
use Rattle.floyd_ctypes.specs.declared.ctype.CType.{CType}
use Rattle.floyd_clight.specs.declared.syntax.Expr.{Expr}
use Rattle.floyd_clight.specs.declared.syntax.Stmt.{Stmt, Assign, Set}
use Rattle.floyd_clight.specs.Types.{type_of}
use Rattle.floyd_clight_typing.specs.Bodies.{names_in}
use Rattle.floyd_clight_typing.specs.Expressions.{IsTyped, Names}
use Rattle.floyd_clight_typing.specs.Statements.{AreExpressionsTyped}
use Rattle.floyd_tree_sorts.specs.declared.sorts.Sort.{Val, Z}
use Rattle.floyd_tree.specs.declared.paths.PathStep.{PathStep}
use Rattle.floyd_tree.specs.declared.paths.PathStep.TheVariants.{Field, Subscript}
use Rattle.floyd_tree.specs.Formulas.{PlainFormula}
use Rattle.floyd_tree.specs.Plain.{Plain}
use Rattle.floyd_tree_values.specs.Rules.{Scope}
use Rattle.floyd_assert_cells.specs.Scalars.{Scalar, scalar_of}
use Rattle.floyd_assert_cells.specs.Types.{sizes_of}
use Rattle.floyd_assert_trees.specs.declared.assertion.Local.{Local}
use Rattle.floyd_assert_trees.specs.declared.items.Defs.{Defs}
use Rattle.floyd_assert_trees.specs.declared.sep.Region.{Region}
use Rattle.floyd_assert_trees.specs.declared.sep.Sep.{Sep}
use Rattle.floyd_assert_trees.specs.declared.sep.Sep.TheVariants.{FieldAt, Padding, Valid, Anything, Predicate}
use Rattle.floyd_assert_trees.specs.declared.spec.SpecTable.{SpecTable}
use Rattle.floyd_assert_trees.specs.Meanings.{value_defs}
use Rattle.floyd_fieldpath.specs.Nested.{literal, sized_type}
use Rattle.floyd_fieldpath.specs.Updates.{update}
use Rattle.floyd_fieldpath_laws.proofs.Meanings.{on_ok_is}
use Rattle.floyd_fieldpath_laws.proofs.TypeSorts.{field_sizes}
use Rattle.floyd_goal.specs.Goals.{enriched}
use Rattle.floyd_goal_formulas.specs.Fits as f
use Rattle.floyd_goal_formulas.specs.Keeping.{Kept}
use Rattle.floyd_goal_parts.specs.Sources.{in_place, source_of, with_parts}
use Rattle.floyd_goal_trees.specs.Contexts.{scope_of, unmarked, with_hypotheses}
use Rattle.floyd_goal_trees.specs.declared.goal.Goal.{Goal}
use Rattle.floyd_goal_trees.specs.declared.goal.Goal.TheVariants.{Run}
use Rattle.floyd_goal_trees.specs.declared.goal.Run as r
use Rattle.floyd_goal_forms.specs.Assertions.{AssertionFits, ObjectFits, PartFits, PartsFit, Predicates, PredicatesOf, inner_scope}
use Rattle.floyd_goal_forms.specs.Goals.{ContextFits, RunFits}
use Rattle.floyd_goal_forms.specs.Terms.{FormulaFits, FormulasFit, GlobalsKnown, HeadsFit, TermFits}
use Rattle.floyd_symexpr_rows.specs.declared.needs.Needs.{Needs}
use Rattle.floyd_symexpr_rows.specs.Formulas.{of_type, saying}
use Rattle.floyd_symexpr_laws.proofs.SideTruths.{saying_is}
use Rattle.floyd_symexpr_paths.specs.declared.location.Located.{Located}
use Rattle.floyd_symexpr.specs.declared.evaluation.Evaluated.{Evaluated}
use Rattle.floyd_symexpr.specs.Expressions.{evaluate}
use Rattle.floyd_symexpr.specs.Locate.{locate}
use Rattle.floyd_symexpr_forms.specs.Laws.{StepIn, TermIn}
use Rattle.floyd_symexpr_forms.proofs.Answers.{equal_fits, literal_good}
use Rattle.floyd_symexpr_forms.proofs.Pointers.{literals_good, of_type_fits}
use Rattle.floyd_symexpr_forms.proofs.Readings.{evaluation_fits}
use Rattle.floyd_symexpr_known.specs.Laws.{LocationIsKnown, PartIsKnown, SourceIsKnown, StepIsKnown}
use Rattle.floyd_symexpr_known.proofs.Answers.{equal_known, literal_known}
use Rattle.floyd_symexpr_known.proofs.Locations.{location_known}
use Rattle.floyd_symexpr_known.proofs.Pointers.{literals_known, of_type_known}
use Rattle.floyd_symexpr_known.proofs.Readings.{evaluation_known}
use Rattle.floyd_symexpr_soundness.specs.Laws.{LiesIn}
use Rattle.floyd_symexpr_soundness.proofs.Locating.{scalar_sort}
use Rattle.floyd_state_laws.proofs.Statements.{AreTyped, flat_typed, part_typed}
use Rattle.floyd_forward.specs.declared.assigning.Stored.{Stored}
use Rattle.floyd_forward.specs.Assign.{AssignsTo, assigned, may_store, part_set}
use Rattle.floyd_forward.specs.Objects.{part_with}
use Rattle.floyd_forward.specs.Set.{SetsTerm, SetsWith, is_defined, needs_of, read_from, runs_on, set_to, with_temp}
use Rattle.floyd_forward_soundness.proofs.Setting.{source_fits}
use Rattle.floyd_read_soundness.proofs.Objects.{defined_fits, item_good, lies, location, object, updated_fits}
use Rattle.floyd_read_soundness.proofs.Parts.{region_there, updated_is}
use Rattle.floyd_read_soundness.proofs.Reading.{IsRead, item_of, same_answer, scalar_shaped, what_is_read}
use Rattle.floyd_assign_soundness.proofs.Storing.{IsStored, what_is_stored}
use Rattle.floyd_formed_pure.specs.Rows.{AreWellFormed}
use Rattle.floyd_formed_pure.proofs.Contexts.{both_all}
use Rattle.floyd_formed_pure.proofs.Premises.{kept_formed}
use Rattle.floyd_formed_places.proofs.Places.{AreFine, Fine, path_fine, sizes_fine, term_fine}
use Rattle.floyd_formed_places.proofs.Putting.{put_fits}
use Rattle.floyd_formed_forward.proofs.Items.{StepFine, projected_fine, updated_fine}
use Rattle.floyd_formed_forward.proofs.Locals.{with_temp_formed}
use Rattle.floyd_formed_forward.proofs.Running.{context_with, left_formed, needing_formed}

-- ---- both at once: each node is allowed, and each name is known

module _ (defs : Defs) (specs : SpecTable) (scope : Scope) where
  formulas_both : (fs : List PlainFormula) → AllByRecursion (f.Fits (value_defs defs) scope) fs → AllByRecursion (HeadsFit defs specs) fs → FormulasFit defs specs scope fs
  formulas_both [] h k = tt
  formulas_both (a ∷ fs) h k = (record { fits = h.0; known = k.0 }, formulas_both fs h.1 k.1)

  terms_both : (ts : List Plain) → AllByRecursion (TermIn (value_defs defs) scope Val) ts → AllByRecursion (GlobalsKnown defs) ts → AllByRecursion (TermFits defs scope Val) ts
  terms_both [] h k = tt
  terms_both (t ∷ ts) h k = (record { fits = h.0; known = k.0 }, terms_both ts h.1 k.1)

  steps_both : (path : List PathStep) → AllByRecursion (StepIn (value_defs defs) scope) path → AllByRecursion (StepIsKnown defs) path → AllByRecursion (StepFine defs scope) path
  steps_both [] h k = tt
  steps_both (Field x ∷ path) h k = (tt, steps_both path h.1 k.1)
  steps_both (Subscript i ∷ path) h k = ((h.0.allowed, k.0), steps_both path h.1 k.1)

  steps_behind : (own rest : List PathStep) → AllByRecursion (StepFine defs scope) (own ++ rest) → AllByRecursion (StepFine defs scope) rest
  steps_behind [] rest h = h
  steps_behind (step ∷ own) rest h = steps_behind own rest h.1

module _ (defs : Defs) (scope : Scope) where
  sizes_known : (ts : List Plain) → AllByRecursion (TermFits defs scope Z) ts → AllByRecursion (GlobalsKnown defs) ts
  sizes_known [] h = tt
  sizes_known (t ∷ ts) h = (h.0.known, sizes_known ts h.1)

  locals_known : (ls : List Local) → AllByRecursion (λ (l : Local). TermFits defs scope Val l.term) ls → AllByRecursion (λ (l : Local). GlobalsKnown defs l.term) ls
  locals_known [] h = tt
  locals_known (l ∷ ls) h = (h.0.known, locals_known ls h.1)

  part_known : (preds : Predicates) (p : Sep) → PartFits defs scope preds p → PartIsKnown defs p
  part_known preds (FieldAt region value) h = sizes_known region.ty.sizes h.region.type.sizes.sizes
  part_known preds (Padding region) h = tt
  part_known preds (Valid v) h = tt
  part_known preds Anything h = tt
  part_known preds (Predicate name terms) h = tt

  parts_known : (preds : Predicates) (ps : List Sep) → PartsFit defs scope preds ps → AllByRecursion (PartIsKnown defs) ps
  parts_known preds [] h = tt
  parts_known preds (p ∷ ps) h = (part_known preds p h.0, parts_known preds ps h.1)

-- ---- a goal, and its expressions

module _ (defs : Defs) (specs : SpecTable) (run : r.Run) (formed : RunFits defs specs run) (bare : run.source.existentials ≡ []) where
  abbrev scope : Scope
  scope = scope_of run.context

  abbrev names : Names
  names = names_in formed.statements.file formed.statements.function

  pub of_statement : (s : Stmt) (rest : List Stmt) → run.rest ≡ s ∷ rest → AreExpressionsTyped defs.structs names formed.statements.function.result s
  of_statement s rest next =
      let result = formed.statements.function.result in
      (subst (AreTyped defs.structs names result) next (part_typed defs.structs names result formed.statements.part (flat_typed defs.structs names result formed.statements.function.body formed.statements.body.typed))).0

  known : SourceIsKnown defs run.source
  known = record {
    locals = locals_known defs (inner_scope run.source scope) run.source.locals formed.source.locals;
    parts = parts_known defs (inner_scope run.source scope) (PredicatesOf defs (inner_scope run.source scope)) run.source.parts formed.source.parts;
  }

  pub record ValueFits (v : Evaluated) : Type 0 where
    pub term : TermFits defs scope Val v.term
    pub sides : FormulasFit defs specs scope v.sides
    pub valid : AllByRecursion (TermFits defs scope Val) v.valid

  pub value_fits : (e : Expr) (v : Evaluated) → IsTyped defs.structs names e → evaluate run.source defs.structs e ≡ Ok v → ValueFits v
  value_fits e v typed is =
      let fits = evaluation_fits (value_defs defs) scope run.source (source_fits defs specs run formed bare) e v is in
      let names' = evaluation_known defs specs names formed.statements.known run.source known e v typed is in
      record { term = record { fits = fits.0; known = names'.0 }; sides = formulas_both defs specs scope v.sides fits.1.sides names'.1.sides; valid = terms_both defs specs scope v.valid fits.1.valid names'.1.valid }

  -- that a term has a type
  pub claim_fits : (t : CType) (s : Scalar) (v : Plain) → scalar_of t ≡ Some s → TermFits defs scope Val v → FormulasFit defs specs scope (of_type (sized_type t) v ∷ [])
  claim_fits t s v is k = (
    record {
      fits = of_type_fits (value_defs defs) scope (sized_type t) v (scalar_shaped t s is) (field_sizes t).count (literals_good (value_defs defs) scope (sizes_of t)) k.fits;
      known = of_type_known defs specs (sized_type t) v (literals_known defs specs (sizes_of t)) k.known;
    },
    tt,
  )

  -- ---- a set to a term

  pub set_forms : (y : List ℕ) (ex : Expr) (rest : List Stmt) (v : Evaluated) (goals : List Goal) → run.rest ≡ Set y ex ∷ rest → IsTyped defs.structs names ex → evaluate run.source defs.structs ex ≡ Ok v → SetsTerm run y v (Ok goals) → AreWellFormed defs specs goals
  set_forms y ex rest v goals next typed is row =
      let k = value_fits ex v typed is in
      let source = with_temp y v.term run.source in
      needing_formed defs specs run formed (needs_of v) (set_to run y v.term) (λ kept. runs_on run (enriched run.context kept) source ∷ []) goals k.sides k.valid (λ kept. refl)
      (λ kept h. (left_formed defs specs run formed (Set y ex) rest next (enriched run.context kept) source refl (context_with defs specs run formed kept h) (with_temp_formed y v.term defs specs scope run.source bare k.term formed.source), tt)) row

  -- ---- objects

  module _ (p : Expr) (l : Located) (found : locate run.source defs.structs p ≡ Ok l) (typed : IsTyped defs.structs names p) (s : Scalar) (scalar : scalar_of (type_of p) ≡ Some s) where
    abbrev L : LiesIn defs.structs run.source.parts l (type_of p)
    L = lies defs specs run formed bare p l found

    there : LocationIsKnown defs specs l
    there = location_known defs specs names formed.statements.known run.source known p l typed found

    object' : ObjectFits defs scope L.region L.value
    object' = object defs specs run formed bare p l found

    sides_fit : FormulasFit defs specs scope l.sides
    sides_fit = formulas_both defs specs scope l.sides (location defs specs run formed bare p l found).needs.sides there.needs.sides

    valid_fit : AllByRecursion (TermFits defs scope Val) l.valid
    valid_fit = terms_both defs specs scope l.valid (location defs specs run formed bare p l found).needs.valid there.needs.valid

    sizes : AreFine defs scope L.type.sizes
    sizes = path_fine defs scope L.region.path L.region.ty L.type (sizes_fine defs scope L.region.ty.sizes object'.region.type.sizes.sizes) L.nested

    steps : AllByRecursion (StepFine defs scope) L.rest
    steps = steps_behind defs specs scope L.region.path L.rest (subst (AllByRecursion (StepFine defs scope)) L.path (steps_both defs specs scope l.path (location defs specs run formed bare p l found).path there.path))

    value : Fine defs scope L.value
    value = term_fine defs scope object'.sort L.value object'.term

  -- ---- a set from memory

  module _ (y : List ℕ) (ex : Expr) (rest : List Stmt) (next : run.rest ≡ Set y ex ∷ rest) (typed : IsTyped defs.structs names ex) (s : Scalar) (scalar : scalar_of (type_of ex) ≡ Some s)
      (v : Plain × Needs) (from : read_from run.source defs.structs ex ≡ Ok v) (claims more : List PlainFormula) (said : saying [] (of_type (sized_type (type_of ex)) v.0 ∷ []) ≡ Ok claims) (kept' : Kept run.context.hypotheses claims more) where
    read : IsRead defs.structs run.source ex v
    read = what_is_read defs.structs run.source ex v from

    item_fits : TermFits defs scope Val v.0
    item_fits =
        let L' = lies defs specs run formed bare ex read.l read.found in
        let made = item_of defs.structs defs.structs run.source ex v read refl L' in
        record {
          fits = item_good defs specs run formed bare ex read.l read.found v.0 (scalar_sort defs.structs (type_of ex) s scalar) made;
          known = (projected_fine defs scope L'.type L'.rest L'.value v.0 (sizes ex read.l read.found typed s scalar) (steps ex read.l read.found typed s scalar) (value ex read.l read.found typed s scalar) made).1;
        }

    needs_fit : FormulasFit defs specs scope v.1.sides
    needs_fit =
        subst (FormulasFit defs specs scope) (sym read.sides)
        (both_all (FormulaFits defs specs scope) read.l.sides (is_defined v.0 ∷ []) (sides_fit ex read.l read.found typed s scalar) (record { fits = defined_fits (value_defs defs) scope v.0 item_fits.fits; known = (tt, (item_fits.known, tt), tt) }, tt))

    more_fit : FormulasFit defs specs scope more
    more_fit =
        kept_formed defs specs scope run.context.hypotheses claims more kept'
        (subst (FormulasFit defs specs scope) (sym (saying_is [] (of_type (sized_type (type_of ex)) v.0 ∷ []) claims said)) (claim_fits (type_of ex) s v.0 scalar item_fits))

    same_context : (kept : List PlainFormula) → enriched run.context (kept ++ more) ≡ with_hypotheses (enriched run.context kept) more
    same_context kept = ap (λ (hs : List PlainFormula). record { variables = run.context.variables; hypotheses = hs; mark = unmarked run.context.mark }) (sym (append_assoc run.context.hypotheses kept more))

    context_fits : (kept : List PlainFormula) → FormulasFit defs specs scope kept → (goal : Goal) → ContextFits defs specs goal (with_hypotheses (enriched run.context kept) more)
    context_fits kept h goal = subst (ContextFits defs specs goal) (same_context kept) (context_with defs specs run formed (kept ++ more) (both_all (FormulaFits defs specs scope) kept more h more_fit) goal)

    pub read_forms : (goals : List Goal) → SetsWith run y v more (Ok goals) → AreWellFormed defs specs goals
    read_forms goals row =
        let source = with_temp y v.0 run.source in
        needing_formed defs specs run formed v.1 (λ context. set_to run y v.0 (with_hypotheses context more)) (λ kept. runs_on run (with_hypotheses (enriched run.context kept) more) source ∷ []) goals needs_fit
        (subst (AllByRecursion (TermFits defs scope Val)) (sym read.valid) (valid_fit ex read.l read.found typed s scalar)) (λ kept. refl)
        (λ kept h. (left_formed defs specs run formed (Set y ex) rest next (with_hypotheses (enriched run.context kept) more) source refl (context_fits kept h) (with_temp_formed y v.0 defs specs scope run.source bare item_fits formed.source), tt)) row

  -- ---- an assignment

  module _ (p e : Expr) (rest : List Stmt) (next : run.rest ≡ Assign p e ∷ rest) (typed : IsTyped defs.structs names p) (value_typed : IsTyped defs.structs names e) (s : Scalar) (scalar : scalar_of (type_of p) ≡ Some s)
      (stored : Stored) (from : assigned run.source defs.structs p e ≡ Ok stored) (named : source_of (Run run) ≡ Ok run.source) where
    is : IsStored defs.structs run.source p e stored
    is = what_is_stored defs.structs run.source p e stored from

    abbrev O : LiesIn defs.structs run.source.parts is.l (type_of p)
    O = lies defs specs run formed bare p is.l is.found

    new : ValueFits is.v
    new = value_fits e is.v value_typed is.evaluated

    part_is : is.part ≡ (O.region, O.value)
    part_is = same_answer {A = Region × Plain} is.part (O.region, O.value) (sym is.region ∙ region_there defs.structs run.source.parts is.l (type_of p) O)

    part_fits : PartFits defs scope (PredicatesOf defs scope) stored.part
    part_fits =
        let made = subst (λ (q : Region × Plain). part_with defs.structs is.l.path is.v.term q ≡ Ok stored.part) part_is is.made in
        let u = on_ok_is {B = Sep} (update defs.structs O.type O.rest O.value is.v.term) (λ (whole : Plain). Ok (FieldAt O.region whole)) stored.part (sym (updated_is defs.structs run.source.parts is.l (type_of p) O is.v.term) ∙ made) in
        let fine = updated_fine defs scope O.type O.rest O.value is.v.term u.0 (sizes p is.l is.found typed s scalar) (steps p is.l is.found typed s scalar) (value p is.l is.found typed s scalar) (term_fine defs scope Val is.v.term new.term) u.1 in
        subst (PartFits defs scope (PredicatesOf defs scope)) (same_answer {A = Sep} (FieldAt O.region u.0) stored.part u.2)
        (updated_fits defs specs run formed bare p is.l is.found is.v.term u.0 (scalar_sort defs.structs (type_of p) s scalar) new.term.fits.sorted u.1 fine.0 fine.1)

    share_fits : TermFits defs scope Z is.part.0.share
    share_fits = subst (λ (q : Region × Plain). TermFits defs scope Z q.0.share) (sym part_is) (object' p is.l is.found typed s scalar).region.share

    may_fit : FormulasFit defs specs scope (may_store (type_of p) is.v.term is.part.0)
    may_fit = (
      (claim_fits (type_of p) s is.v.term scalar new.term).0,
      (
        record {
          fits = equal_fits (value_defs defs) scope is.part.0.share (literal (pos 16)) share_fits.fits (literal_good (value_defs defs) scope (pos 16));
          known = equal_known defs specs is.part.0.share (literal (pos 16)) share_fits.known (literal_known defs specs (pos 16));
        },
        tt,
      ),
    )

    all_fit : FormulasFit defs specs scope stored.needs.sides
    all_fit =
        subst (FormulasFit defs specs scope) (sym is.sides)
        (both_all (FormulaFits defs specs scope) (is.l.sides ++ is.v.sides) (may_store (type_of p) is.v.term is.part.0) (both_all (FormulaFits defs specs scope) is.l.sides is.v.sides (sides_fit p is.l is.found typed s scalar) new.sides) may_fit)

    all_valid : AllByRecursion (TermFits defs scope Val) stored.needs.valid
    all_valid = subst (AllByRecursion (TermFits defs scope Val)) (sym is.valid) (both_all (TermFits defs scope Val) is.l.valid is.v.valid (valid_fit p is.l is.found typed s scalar) new.valid)

    source_with : AssertionFits defs specs scope (with_parts run.source (in_place stored.number (stored.part ∷ []) run.source.parts))
    source_with = put_fits defs specs (Run run) stored.number run.source (stored.part ∷ []) formed named (part_fits, tt)

    pub assign_forms : (goals : List Goal) → AssignsTo run stored (Ok goals) → AreWellFormed defs specs goals
    assign_forms goals row =
        let source = with_parts run.source (in_place stored.number (stored.part ∷ []) run.source.parts) in
        needing_formed defs specs run formed stored.needs (part_set run stored.number stored.part) (λ kept. runs_on run (enriched run.context kept) source ∷ []) goals all_fit all_valid (λ kept. refl)
        (λ kept h. (left_formed defs specs run formed (Assign p e) rest next (enriched run.context kept) source refl (context_with defs specs run formed kept h) source_with, tt)) row
