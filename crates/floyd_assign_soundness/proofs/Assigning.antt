-- `forward` on an assignment to memory is sound.
use Rattle.std.proofs.Common.{◌≡◌, ℕ, true, pos, List, [], ◌∷◌, ◌++◌, Some, Ok, slice_get, sym, ap, ap₂, subst, ◌∙◌}
use Rattle.std.specs.List.{AllByRecursion}
use Rattle.floyd_ctypes.specs.declared.ctype.CType.{CType}
use Rattle.floyd_ctypes.specs.Has.{has}
use Rattle.floyd_ctypes.specs.Structs.{Structs}
use Rattle.floyd_memval.specs.Chunks.{chunk_size}
use Rattle.floyd_memval.specs.Encoding.{encoding}
use Rattle.floyd_memval.proofs.RoundTrips.{length-encoding}
use Rattle.floyd_clight.specs.declared.syntax.Expr.{Expr}
use Rattle.floyd_clight.specs.declared.syntax.Stmt.{Stmt, Assign}
use Rattle.floyd_clight.specs.Types.{type_of}
use Rattle.floyd_clight_heap.specs.Heaplet.{Heaplet, OwnsFrom, laid}
use Rattle.floyd_clight_machine.specs.Machine.{Act}
use Rattle.floyd_clight_runs.specs.Calls.{KeepsBelow, SafeAll, with_normal}
use Rattle.floyd_clight_runs.specs.Seen.{seen}
use Rattle.floyd_clight_runs.proofs.Rows.{assign_safe}
use Rattle.floyd_clight_typing.specs.Bodies.{names_in}
use Rattle.floyd_clight_typing.specs.Expressions.{IsTyped, Names}
use Rattle.floyd_clight_typing.specs.Statements.{IsAssigned}
use Rattle.floyd_tree_sorts.specs.declared.sorts.Sort.{Val as ValSort, Z}
use Rattle.floyd_tree.specs.Plain.{Plain}
use Rattle.floyd_tree_values.specs.BuiltIns.{Env}
use Rattle.floyd_tree_values.specs.Rules.{Scope}
use Rattle.floyd_truth.specs.Truth.{AllTrue, Truth}
use Rattle.floyd_assert_cells.specs.Scalars.{Scalar, chunk, scalar_of}
use Rattle.floyd_assert_cells.specs.Types.{sizes_of}
use Rattle.floyd_assert_trees.specs.declared.items.Defs.{Defs}
use Rattle.floyd_assert_trees.specs.declared.sep.Region.{Region}
use Rattle.floyd_assert_trees.specs.declared.sep.Sep.{Sep}
use Rattle.floyd_assert_trees.specs.declared.sep.Sep.TheVariants.{FieldAt}
use Rattle.floyd_assert_trees.specs.declared.spec.SpecTable.{SpecTable}
use Rattle.floyd_assert_trees.specs.Meanings.{value_defs}
use Rattle.floyd_assert_meaning.specs.Parts.{ObjectHolds, PartsHold, object}
use Rattle.floyd_assert_meaning.specs.Settings.{Setting, with_data}
use Rattle.floyd_assert_meaning.proofs.Inversions.{object_of}
use Rattle.floyd_fieldpath.specs.Nested.{literal, sized_type}
use Rattle.floyd_fieldpath.specs.Updates.{update}
use Rattle.floyd_fieldpath_laws.proofs.Meanings.{on_ok_is}
use Rattle.floyd_fieldpath_laws.proofs.TypeSorts.{field_sizes}
use Rattle.floyd_goal.specs.Goals.{enriched, intros_first, some_left}
use Rattle.floyd_goal.specs.Rows.{Answer}
use Rattle.floyd_goal_formulas.specs.Fits.{Fits}
use Rattle.floyd_goal_parts.specs.Sources.{in_place, with_parts}
use Rattle.floyd_goal_truth.specs.Scopes.{AllFit}
use Rattle.floyd_goal_trees.specs.Contexts.{scope_of}
use Rattle.floyd_goal_trees.specs.declared.context.Context.{Context}
use Rattle.floyd_goal_trees.specs.declared.goal.Goal.{Goal}
use Rattle.floyd_goal_trees.specs.declared.goal.Goal.TheVariants.{Run}
use Rattle.floyd_goal_trees.specs.declared.goal.Run as r
use Rattle.floyd_goal_forms.specs.Goals.{RunFits}
use Rattle.floyd_goal_meaning.specs.declared.linked.Linked.{Linked}
use Rattle.floyd_goal_meaning.specs.GoalHolds.{Given, HoldsFor, LemmasAreTrue, Stands, goal_exits}
use Rattle.floyd_goal_meaning.specs.Links.{AreApart, Has}
use Rattle.floyd_goal_meaning.specs.Programs.{Further, Places, program, setting}
use Rattle.floyd_goal_meaning.specs.Worlds.{sight, world}
use Rattle.floyd_symexpr_rows.specs.Formulas.{equal}
use Rattle.floyd_symexpr_laws.proofs.SideTruths.{all_true_first, all_true_second}
use Rattle.floyd_symexpr_pointer_laws.specs.Laws.{AllValid, IsMet}
use Rattle.floyd_symexpr.specs.Expressions.{evaluate}
use Rattle.floyd_symexpr.specs.Locate.{locate}
use Rattle.floyd_symexpr_forms.specs.Laws.{NeedsFit, TermIn}
use Rattle.floyd_symexpr_forms.proofs.Answers.{both, equal_fits, literal_good}
use Rattle.floyd_symexpr_forms.proofs.Pointers.{literals_good, of_type_fits}
use Rattle.floyd_symexpr_forms.proofs.Readings.{evaluation_fits}
use Rattle.floyd_symexpr_soundness.specs.Laws.{AreLaidOut, IsEvaluated, IsLocated, LiesIn, PartIsSorted}
use Rattle.floyd_symexpr_soundness.proofs.Evaluating.{expressions_agree}
use Rattle.floyd_symexpr_soundness.proofs.Locating.{chunk_is, objects_lie_in_parts}
use Rattle.floyd_state_laws.proofs.Forms.{parts_are_sorted}
use Rattle.floyd_state_laws.proofs.States.{run_meets}
use Rattle.floyd_state_laws.proofs.Statements.{AreTyped, flat_typed, part_typed}
use Rattle.floyd_forward.specs.declared.assigning.Stored.{Stored}
use Rattle.floyd_forward.specs.Assign.{Assigns, AssignsTo, assigned, may_store, part_set}
use Rattle.floyd_forward.specs.Forward.{OfNext, Row}
use Rattle.floyd_forward.specs.Objects.{part_with}
use Rattle.floyd_forward.specs.Set.{runs_on}
use Rattle.floyd_forward_soundness.specs.Laws.{IsSoundOn}
use Rattle.floyd_forward_soundness.proofs.Needs.{Needed, all_of, needed_of, needs_met}
use Rattle.floyd_forward_soundness.proofs.Setting.{goes_on, no_more, of_result, passed, same_goals, source_fits}
use Rattle.floyd_forward_soundness.proofs.Typed.{has_type}
use Rattle.floyd_read_soundness.proofs.Objects.{lies, location, object as object_fits}
use Rattle.floyd_read_soundness.proofs.Parts.{in_place_is, one_part, region_there, updated_is}
use Rattle.floyd_read_soundness.proofs.Reading.{same_answer, scalar_from, scalar_shaped}
use Rattle.floyd_assign_soundness.specs.Laws.{IsAssignment}
use Rattle.floyd_assign_soundness.proofs.Storing.{IsStored, full_share, laid_in_part, owns_more, valid_apart, what_is_stored}

module _ (defs : Defs) (specs : SpecTable) (n : ℕ) (run : r.Run) (p e : Expr) (rest : List Stmt) (laid' : AreLaidOut defs.structs) (fits : RunFits defs specs run) (next : run.rest ≡ Assign p e ∷ rest) (bare : run.source.existentials ≡ [])
    (s : Stored) (from : assigned run.source defs.structs p e ≡ Ok s) where
  abbrev scope : Scope
  scope = scope_of run.context

  abbrev names : Names
  names = names_in fits.statements.file fits.statements.function

  abbrev t : CType
  t = type_of p

  is : IsStored defs.structs run.source p e s
  is = what_is_stored defs.structs run.source p e s from

  types : IsAssigned defs.structs names p e
  types =
      let result = fits.statements.function.result in
      (subst (AreTyped defs.structs names result) next (part_typed defs.structs names result fits.statements.part (flat_typed defs.structs names result fits.statements.function.body fits.statements.body.typed))).0

  scalar : (k : Scalar) × (scalar_of t ≡ Some k)
  scalar = scalar_from t types.scalar

  part_is : (structs : Structs) (lies' : LiesIn structs run.source.parts is.l t) → is.part ≡ (lies'.region, lies'.value)
  part_is structs lies' = same_answer {A = Region × Plain} is.part (lies'.region, lies'.value) (sym is.region ∙ region_there structs run.source.parts is.l t lies')

  -- ---- forms

  value_good : TermIn (value_defs defs) scope ValSort is.v.term × NeedsFit (value_defs defs) scope (record { sides = is.v.sides; valid = is.v.valid })
  value_good = evaluation_fits (value_defs defs) scope run.source (source_fits defs specs run fits bare) e is.v is.evaluated

  share_good : TermIn (value_defs defs) scope Z is.part.0.share
  share_good =
      subst (λ (q : Region × Plain). TermIn (value_defs defs) scope Z q.0.share) (sym (part_is defs.structs (lies defs specs run fits bare p is.l is.found)))
      (object_fits defs specs run fits bare p is.l is.found).region.share.fits

  sides_fit : AllFit (value_defs defs) run.context s.needs.sides
  sides_fit =
      let F = Fits (value_defs defs) scope in
      all_of F s.needs.sides
      (subst (AllByRecursion F) (sym is.sides)
      (both F (is.l.sides ++ is.v.sides) (may_store t is.v.term is.part.0) (both F is.l.sides is.v.sides (location defs specs run fits bare p is.l is.found).needs.sides value_good.1.sides) (
        of_type_fits (value_defs defs) scope (sized_type t) is.v.term (scalar_shaped t scalar.0 scalar.1) (field_sizes t).count (literals_good (value_defs defs) scope (sizes_of t)) value_good.0,
        (equal_fits (value_defs defs) scope is.part.0.share (literal (pos 16)) share_good (literal_good (value_defs defs) scope (pos 16)), tt),
      )))

  -- ---- what holds behind it

  abbrev behind : Context → Answer
  behind = part_set run s.number s.part

  module _ (goals : List Goal) (w : Needed run.context run.source s.needs behind goals) (hold : AllByRecursion (HoldsFor defs specs n) goals)
      (L : Linked) (more : List Further) (place : Places) (has' : Has L defs specs) (apart : AreApart L more place) (lemmas : LemmasAreTrue (setting L more place) defs) (env : Env) (given : Given (setting L more place) defs run.context env)
      (keeps : KeepsBelow (world L more place) (sight L more place specs) n) (act : Act) (h : Heaplet) (stands : Stands (setting L more place) env run.exits.ret run.source act h) where
    abbrev T : Setting
    T = setting L more place

    -- the part with the value, in the program's own structs
    updated : (lies' : LiesIn T.defs.structs run.source.parts is.l t) → (whole : Plain) × (update T.defs.structs lies'.type lies'.rest lies'.value is.v.term ≡ Ok whole) × (FieldAt lies'.region whole ≡ s.part)
    updated lies' =
        let structs = T.defs.structs in
        let made : part_with structs is.l.path is.v.term (lies'.region, lies'.value) ≡ Ok s.part =
        subst (λ (q : Region × Plain). part_with structs is.l.path is.v.term q ≡ Ok s.part) (part_is structs lies') (subst (λ z. part_with z is.l.path is.v.term is.part ≡ Ok s.part) (sym has'.structs) is.made) in
        let u = on_ok_is {B = Sep} (update structs lies'.type lies'.rest lies'.value is.v.term) (λ (whole : Plain). Ok (FieldAt lies'.region whole)) s.part (sym (updated_is structs run.source.parts is.l t lies' is.v.term) ∙ made) in
        (u.0, u.1, same_answer {A = Sep} (FieldAt lies'.region u.0) s.part u.2)

    pub safe : SafeAll (world L more place) n (Assign p e ∷ rest) (goal_exits T env run.exits) act h
    safe =
        let structs = T.defs.structs in
        let look = seen (program L more place) act.blocks h in
        let met = needs_met defs specs n L more place has' apart lemmas env run.context run.source s.needs behind goals act.blocks act.temps h sides_fit w hold given stands.holds in
        let all : AllTrue T.defs T.has_spec env ((is.l.sides ++ is.v.sides) ++ may_store t is.v.term is.part.0) = subst (AllTrue T.defs T.has_spec env) is.sides met.0.sides in
        let own = all_true_first T.defs T.has_spec env (is.l.sides ++ is.v.sides) (may_store t is.v.term is.part.0) all in
        let may = all_true_second T.defs T.has_spec env (is.l.sides ++ is.v.sides) (may_store t is.v.term is.part.0) all in
        let valid = valid_apart T env look is.l.valid is.v.valid (subst (AllValid T.defs env look) is.valid met.0.valid) in
        let place_met : IsMet T env look (record { sides = is.l.sides; valid = is.l.valid }) = record { sides = all_true_first T.defs T.has_spec env is.l.sides is.v.sides own; valid = valid.0 } in
        let value_met : IsMet T env look (record { sides = is.v.sides; valid = is.v.valid }) = record { sides = all_true_second T.defs T.has_spec env is.l.sides is.v.sides own; valid = valid.1 } in
        let meets = run_meets L more place defs specs run env act h has' (subst AreLaidOut (sym has'.structs) laid') given fits bare stands in
        let located : IsLocated T env look act.temps run.source.parts p is.l =
        objects_lie_in_parts T env look act.temps run.source h names meets p is.l (subst (λ z. IsTyped z names p) (sym has'.structs) types.place)
        (subst (λ z. AllByRecursion (PartIsSorted z) run.source.parts) (sym has'.structs) (parts_are_sorted defs specs scope run.source fits.source))
        (subst (λ z. locate run.source z p ≡ Ok is.l) (sym has'.structs) is.found) place_met in
        let given' : IsEvaluated T env look act.temps e is.v.term =
        expressions_agree T env look act.temps run.source h names meets e is.v (subst (λ z. IsTyped z names e) (sym has'.structs) types.value.typed) (subst (λ z. evaluate run.source z e ≡ Ok is.v) (sym has'.structs) is.evaluated) value_met in
        let value = given'.agrees.value in
        let lies' = located.lies in
        let k = scalar.0 in
        let one = one_part T env lies'.before (FieldAt lies'.region lies'.value) lies'.behind h (subst (λ ps. PartsHold T env ps h) lies'.parts_are meets.parts) in
        let there = located.stands one.here (object_of one.holds) in
        let typed : has t value ≡ true = has_type T env t is.v.term value may.0 given'.agrees.means in
        let full : Truth T.defs T.has_spec env (equal lies'.region.share (literal (pos 16))) = subst (λ (q : Region × Plain). Truth T.defs T.has_spec env (equal q.0.share (literal (pos 16)))) (part_is structs lies') may.1.0 in
        let share = full_share T env lies'.region.share there.at.means.share full there.at.means.of_share in
        let u = updated lies' in
        let block = there.spot.block in
        let offset = there.spot.offset in
        let bytes = encoding (chunk k) value in
        let owned = there.owned k scalar.1 share in
        let object' : ObjectHolds T env lies'.region u.0 (laid bytes block offset one.here) = there.laid_down k value is.v.term u.0 scalar.1 typed value_good.0.sorted given'.agrees.means u.1 share in
        let joins = laid_in_part bytes one.here one.others h block offset one.joins (subst (λ i. OwnsFrom i one.here block offset) (sym (length-encoding (chunk k) value)) owned.places) in
        let after = laid bytes block offset h in
        let parts = in_place s.number (s.part ∷ []) run.source.parts in
        let same_parts : lies'.before ++ FieldAt lies'.region u.0 ∷ lies'.behind ≡ parts =
        sym (in_place_is structs run.source.parts is.l t lies' (FieldAt lies'.region u.0)) ∙ ap₂ (λ (i : ℕ) (q : Sep). in_place i (q ∷ []) run.source.parts) (sym is.number) u.2 in
        let parts_after : PartsHold T env parts after = subst (λ ps. PartsHold T env ps after) same_parts (one.back (FieldAt lies'.region u.0) (laid bytes block offset one.here) after joins (object object')) in
        let same_env : with_data env run.source.existentials stands.holds.witnesses ≡ env = ap (λ bs. with_data env bs stands.holds.witnesses) bare in
        let source = with_parts run.source parts in
        let later : Stands T env run.exits.ret source act after = record {
          result = stands.result;
          blocks = stands.blocks;
          distinct = stands.distinct;
          places = stands.places;
          holds = record {
            witnesses = stands.holds.witnesses;
            sorted = stands.holds.sorted;
            props = stands.holds.props;
            locals = stands.holds.locals;
            parts = subst (λ o. PartsHold T o parts after) (sym same_env) parts_after;
          };
        } in
        let context = enriched run.context w.sides.kept in
        let next_goal = runs_on run context source in
        let left : HoldsFor defs specs n next_goal = (subst (AllByRecursion (HoldsFor defs specs n)) (sym (same_goals (next_goal ∷ []) w.rest w.behind_is)) met.2).0 in
        assign_safe (world L more place) n p e act h (with_normal (SafeAll (world L more place) n rest (goal_exits T env run.exits)) (goal_exits T env run.exits))
        (record {
          spot = there.spot;
          value = value;
          chunk = chunk k;
          locates = there.place;
          evaluates = given'.agrees.is;
          typed = typed;
          chunked = chunk_is t k scalar.1;
          aligned = owned.aligned;
          owned = owns_more (chunk_size (chunk k)) one.here one.others h block offset one.joins owned.places;
          after = goes_on defs specs n run (Assign p e) rest next context source left L more place has' apart lemmas env met.1 keeps act after later;
        })

pub assign_sound : (defs : Defs) (specs : SpecTable) (n : ℕ) (run : r.Run) (p e : Expr) (rest : List Stmt) (goals : List Goal) → AreLaidOut defs.structs → RunFits defs specs run → run.rest ≡ Assign p e ∷ rest → Row defs.structs (Run run) (Ok goals) →
    AllByRecursion (HoldsFor defs specs n) goals → HoldsFor defs specs n (Run run)
assign_sound defs specs n run p e rest goals laid' fits next row hold =
    let structs = defs.structs in
    let named = passed (some_left run.source.existentials) intros_first (Assigns structs run p e) goals (subst (λ ss. OfNext structs run (slice_get ss 0) (Ok goals)) next row) in
    let bare = no_more run.source.existentials named.0 in
    let found = of_result (assigned run.source structs p e) (AssignsTo run) goals named.1 in
    let s = found.0 in
    let w = needed_of run.context run.source s.needs (part_set run s.number s.part) goals found.2 in
    record {
      in_each = λ L more place has' apart lemmas env given keeps act h stands.
          subst (λ ss. SafeAll (world L more place) n ss (goal_exits (setting L more place) env run.exits) act h) (sym next)
          (safe defs specs n run p e rest laid' fits next bare s found.1 goals w hold L more place has' apart lemmas env given keeps act h stands);
    }

pub of_assign : IsSoundOn IsAssignment
of_assign defs specs n run (Assign p e) rest goals laid' fits next w row hold = assign_sound defs specs n run p e rest goals laid' fits next row hold
of_assign defs specs n run s rest goals laid' fits next w row hold = absurd w
