-- `forward` on a return and at a function's end is sound.
use Rattle.std.proofs.Common.{◌≡◌, ℕ, ◌+◌, ◌<◌, ◌^◌, true, List, [], ◌∷◌, ◌++◌, Option, Some, None, Result, Ok, refl, sym, ap, subst, ◌∙◌, slice_get}
use Rattle.std.specs.List.{AllByRecursion}
use Rattle.std.proofs.lemmas.List.Elements.{All-nil}
use Rattle.floyd_text.specs.declared.refusal.No.{No}
use Rattle.floyd_int.specs.declared.kinds.Value.{Value}
use Rattle.floyd_int.specs.declared.kinds.Value.TheVariants.{Vundef}
use Rattle.floyd_ctypes.specs.declared.ctype.CType.{CType, Void, Int, Pointer', Array', Struct, Function', more_of-CType, end_of-CType}
use Rattle.floyd_ctypes.specs.Has.{has}
use Rattle.floyd_clight.specs.declared.syntax.Expr.{Expr}
use Rattle.floyd_clight.specs.declared.syntax.Stmt.{Stmt, Return}
use Rattle.floyd_clight_heap.specs.Heaplet.{Heaplet}
use Rattle.floyd_clight_machine.specs.Exits.{Returned}
use Rattle.floyd_clight_machine.specs.Machine.{Act}
use Rattle.floyd_clight_machine.specs.Types.{same_type}
use Rattle.floyd_clight_runs.specs.Calls.{ReturnOf, SafeAll, with_normal}
use Rattle.floyd_clight_runs.specs.Safe.{Exits}
use Rattle.floyd_clight_runs.specs.Seen.{seen}
use Rattle.floyd_clight_runs.proofs.Returns.{return_nothing_safe, return_safe}
use Rattle.floyd_clight_typing.specs.Bodies.{names_in}
use Rattle.floyd_clight_typing.specs.Expressions.{IsTyped}
use Rattle.floyd_clight_typing.specs.Statements.{AreExpressionsTyped}
use Rattle.floyd_tree_sorts.specs.declared.sorts.Sort.{Val as ValSort}
use Rattle.floyd_tree_sorts.specs.Rows.{is_scalar}
use Rattle.floyd_tree.specs.Formulas.{PlainFormula}
use Rattle.floyd_tree.specs.Plain.{Plain, size}
use Rattle.floyd_tree_values.specs.BuiltIns.{Env}
use Rattle.floyd_tree_values.specs.Data.{Val}
use Rattle.floyd_tree_values.specs.Means.{Means}
use Rattle.floyd_tree_values.specs.Rules.{Scope}
use Rattle.floyd_truth.specs.Truth.{AllTrue}
use Rattle.floyd_assert_cells.specs.Types.{shape_of, sizes_of}
use Rattle.floyd_assert_trees.specs.declared.assertion.Assertion.{Assertion}
use Rattle.floyd_assert_trees.specs.declared.items.Defs.{Defs}
use Rattle.floyd_assert_trees.specs.declared.sep.Sep.{Sep}
use Rattle.floyd_assert_trees.specs.declared.spec.SpecTable.{SpecTable}
use Rattle.floyd_assert_trees.specs.Meanings.{value_defs}
use Rattle.floyd_assert_meaning.specs.Assertions.{Holds}
use Rattle.floyd_assert_meaning.specs.Parts.{PartsHold}
use Rattle.floyd_assert_meaning.specs.Settings.{Setting, with_data}
use Rattle.floyd_assert_meaning.specs.Specifications.{PostHolds}
use Rattle.floyd_assert_laws.specs.InChanged.{body_nodes}
use Rattle.floyd_fieldpath.specs.Nested.{sized_type}
use Rattle.floyd_fieldpath.specs.Written.{on_ok}
use Rattle.floyd_fieldpath_laws.proofs.Meanings.{on_ok_is}
use Rattle.floyd_fieldpath_laws.proofs.TypeSorts.{field_sizes}
use Rattle.floyd_goal.specs.Goals.{enriched, intros_first, some_left}
use Rattle.floyd_goal.specs.Rows.{Answer}
use Rattle.floyd_goal_changes.specs.Changed.{covering}
use Rattle.floyd_goal_formulas.specs.Fits.{Fits}
use Rattle.floyd_goal_parts.specs.Sources.{with_parts}
use Rattle.floyd_goal_truth.specs.Scopes.{AllFit}
use Rattle.floyd_goal_trees.specs.Contexts.{scope_of}
use Rattle.floyd_goal_trees.specs.declared.context.Context.{Context}
use Rattle.floyd_goal_trees.specs.declared.exits.Exit as e
use Rattle.floyd_goal_trees.specs.declared.exits.Exit.TheVariants as x
use Rattle.floyd_goal_trees.specs.declared.goal.Goal.{Goal}
use Rattle.floyd_goal_trees.specs.declared.goal.Goal.TheVariants.{Entail, Run}
use Rattle.floyd_goal_trees.specs.declared.goal.Run as r
use Rattle.floyd_goal_forms.specs.Assertions.{AssertionFits, inner_scope}
use Rattle.floyd_goal_forms.specs.Goals.{IsNormal, ResultFits, RunFits}
use Rattle.floyd_goal_forms.specs.Terms.{TermFits}
use Rattle.floyd_goal_meaning.specs.declared.linked.Linked.{Linked}
use Rattle.floyd_goal_meaning.specs.GoalHolds.{Given, HoldsFor, Leaves, LemmasAreTrue, MayReturn, Stands, goal_exits, postcondition, return_exits}
use Rattle.floyd_goal_meaning.specs.Links.{AreApart, Has}
use Rattle.floyd_goal_meaning.specs.Programs.{Further, Places, program, setting}
use Rattle.floyd_goal_meaning.specs.Worlds.{world}
use Rattle.floyd_import_laws.proofs.Sorted.{formed_sorted}
use Rattle.floyd_import_laws.proofs.Values.{true_apart}
use Rattle.floyd_symexpr_laws.proofs.SideTruths.{saying_is}
use Rattle.floyd_symexpr.specs.declared.evaluation.Evaluated.{Evaluated}
use Rattle.floyd_symexpr.specs.Expressions.{evaluate}
use Rattle.floyd_symexpr_rows.specs.declared.needs.Needs.{Needs}
use Rattle.floyd_symexpr_rows.specs.Formulas.{of_type, saying}
use Rattle.floyd_symexpr_rows.specs.Rows.{nothing_needed}
use Rattle.floyd_symexpr_forms.proofs.Pointers.{literals_good, of_type_fits}
use Rattle.floyd_symexpr_forms.proofs.Readings.{evaluation_fits}
use Rattle.floyd_symexpr_pointer_laws.specs.Laws.{IsMet}
use Rattle.floyd_symexpr_soundness.specs.Laws.{AreLaidOut}
use Rattle.floyd_symexpr_soundness.proofs.Evaluating.{expressions_agree}
use Rattle.floyd_state_laws.proofs.States.{run_meets}
use Rattle.floyd_state_laws.proofs.Statements.{AreTyped, flat_typed, part_typed}
use Rattle.floyd_forward.specs.Forward.{AtEnd, OfNext, Row}
use Rattle.floyd_forward.specs.Return.{GivesBack, ReturnsTerm, given_back, result_needs, result_of, returned, without_blocks}
use Rattle.floyd_forward.specs.Return as row
use Rattle.floyd_forward_soundness.proofs.Needs.{all_of, needed_of, needs_met}
use Rattle.floyd_forward_soundness.proofs.Typed.{has_type}
use Rattle.floyd_forward_soundness.proofs.Setting.{no_more, of_result, passed, same_goals, source_fits}
use Rattle.floyd_return_soundness.specs.Laws.{IsPlain, IsPlainIfAny}
use Rattle.floyd_return_soundness.proofs.Blocks.{GivenBack, blocks_back}
use Rattle.floyd_return_soundness.proofs.Posts.{plain_post, post_met}

-- ---- forms of results

is_void : (t : CType) → same_type t Void ≡ true → t ≡ Void
is_void Void e = refl
is_void (Int k) e = absurd cc
is_void (Pointer' p to) e = absurd cc
is_void (Array' p to n) e = absurd cc
is_void (Struct tag) e = absurd cc
is_void (Function' shape ps p result) e = absurd cc

no_term : (defs : Defs) (scope : Scope) (o : Option Plain) → ResultFits defs scope Void o → o ≡ None
no_term defs scope None f = refl
no_term defs scope (Some t) f = absurd f

value_fits : (defs : Defs) (scope : Scope) (result : CType) (t : Plain) → is_scalar (shape_of result) ≡ true → ResultFits defs scope result (Some t) → TermFits defs scope ValSort t
value_fits defs scope Void t e f = absurd f
value_fits defs scope (Int k) t e f = f
value_fits defs scope (Pointer' p (more_of-CType to end_of-CType)) t e f = f
value_fits defs scope (Array' p (more_of-CType to end_of-CType) n) t e f = absurd cc
value_fits defs scope (Struct tag) t e f = absurd cc
value_fits defs scope (Function' shape ps p (more_of-CType result end_of-CType)) t e f = absurd cc

fits_both : {A : Type 0} (P : A → Type 0) (xs ys : List A) → AllByRecursion P xs → AllByRecursion P ys → AllByRecursion P (xs ++ ys)
fits_both P [] ys h k = k
fits_both P (x ∷ xs) ys h k = (h.0, fits_both P xs ys h.1 k)

-- ---- blocks given back, and the target

same_target : (a b : Assertion) → ◌≡◌ {A = Result Assertion No} (Ok a) (Ok b) → a ≡ b
same_target a b e = cc

module _ (defs : Defs) (specs : SpecTable) (n : ℕ) (run : r.Run) (v : Option Plain) (needs : Needs) (sides_fit : AllFit (value_defs defs) run.context needs.sides) (goals : List Goal) (gives : GivesBack run v needs (Ok goals)) (bare : run.source.existentials ≡ []) (hold : AllByRecursion (HoldsFor defs specs n) goals)
    (L : Linked) (more' : List Further) (place : Places) (has' : Has L defs specs) (apart : AreApart L more' place) (lemmas : LemmasAreTrue (setting L more' place) defs) (env : Env) (given : Given (setting L more' place) defs run.context env) (act : Act) (h : Heaplet) (stands : Stands (setting L more' place) env run.exits.ret run.source act h) where
  abbrev T : Setting
  T = setting L more' place

  abbrev left : Context → List Sep → Assertion → Goal
  left context parts target = Entail (record { context = context; source = with_parts run.source parts; target = target })

  abbrev behind : Context → List Sep → Answer
  behind context parts = on_ok (returned v run.exits.ret.post run.exits.ret.value) (λ target. Ok (left context parts target ∷ []))

  -- what was needed is so, the blocks are given back, and the goal's target holds of the rest
  pub record Ready : Type 0 where
    pub met : IsMet T env (seen (program L more' place) act.blocks h) needs
    pub target : Assertion
    pub is : returned v run.exits.ret.post run.exits.ret.value ≡ Ok target
    pub parts : List Sep
    pub back : GivenBack T env act.blocks parts h
    pub holds : Holds T env target act.temps back.others

  pub ready : Ready
  ready =
      let w = needed_of run.context run.source needs (given_back run v) goals gives in
      let met = needs_met defs specs n L more' place has' apart lemmas env run.context run.source needs (given_back run v) goals act.blocks act.temps h sides_fit w hold given stands.holds in
      let context = enriched run.context w.sides.kept in
      let p = on_ok_is (without_blocks run.exits.ret.blocks run.source.parts) (behind context) w.rest w.behind_is in
      let q = on_ok_is (returned v run.exits.ret.post run.exits.ret.value) (λ target. Ok (left context p.0 target ∷ [])) w.rest p.2 in
      let one : HoldsFor defs specs n (left context p.0 q.0) = (subst (AllByRecursion (HoldsFor defs specs n)) (sym (same_goals (left context p.0 q.0 ∷ []) w.rest q.2)) met.2).0 in
      let same_env : with_data env run.source.existentials stands.holds.witnesses ≡ env = ap (λ bs. with_data env bs stands.holds.witnesses) bare in
      let back : GivenBack T env act.blocks p.0 h = blocks_back T env run.exits.ret.blocks act.blocks run.source.parts p.0 h stands.blocks stands.places p.1 (subst (λ o. PartsHold T o run.source.parts h) same_env stands.holds.parts) in
      let source : Holds T env (with_parts run.source p.0) act.temps back.others = record {
        witnesses = stands.holds.witnesses;
        sorted = stands.holds.sorted;
        props = stands.holds.props;
        locals = stands.holds.locals;
        parts = subst (λ o. PartsHold T o p.0 back.others) (sym same_env) back.parts;
      } in
      record {
        met = met.0;
        target = q.0;
        is = q.1;
        parts = p.0;
        back = back;
        holds = one.in_each L more' place has' apart lemmas env met.1 act.temps back.others source;
      }

  -- so the value may be returned
  pub returns : (s : Ready) (y : Value) (E : Exits) → has act.result y ≡ true → E (Returned y) s.back.others → ReturnOf act h E y
  returns s y E typed after = record { locals = s.back.locals; rest = s.back.others; joins = s.back.joins; owned = s.back.owned; typed = typed; after = after }

-- ---- a return without a value

module _ (defs : Defs) (specs : SpecTable) (n : ℕ) (run : r.Run) (fits : RunFits defs specs run) (goals : List Goal) (gives : GivesBack run None nothing_needed (Ok goals)) (bare : run.source.existentials ≡ []) (void : run.exits.ret.result ≡ Void) (hold : AllByRecursion (HoldsFor defs specs n) goals)
    (L : Linked) (more' : List Further) (place : Places) (has' : Has L defs specs) (apart : AreApart L more' place) (lemmas : LemmasAreTrue (setting L more' place) defs) (env : Env) (given : Given (setting L more' place) defs run.context env) (act : Act) (h : Heaplet) (stands : Stands (setting L more' place) env run.exits.ret run.source act h) where
  pub nothing_returned : (E : Exits) → ((k : Heaplet) → MayReturn (setting L more' place) env run.exits.ret Vundef k → E (Returned Vundef) k) → ReturnOf act h E Vundef
  nothing_returned E f =
      let S = setting L more' place in
      let s = ready defs specs n run None nothing_needed (All-nil (Fits (value_defs defs) (scope_of run.context))) goals gives bare hold L more' place has' apart lemmas env given act h stands in
      let no_value : run.exits.ret.value ≡ None = no_term defs (inner_scope run.exits.ret.post (scope_of run.context)) run.exits.ret.value
      (subst (λ t. ResultFits defs (inner_scope run.exits.ret.post (scope_of run.context)) t run.exits.ret.value) void fits.exits.ret.value) in
      let post : Holds S env run.exits.ret.post act.temps s.back.others = subst (λ a. Holds S env a act.temps s.back.others) (sym (same_target run.exits.ret.post s.target s.is)) s.holds in
      let typed : has run.exits.ret.result Vundef ≡ true = ap (λ t. has t Vundef) void in
      returns defs specs n run None nothing_needed (All-nil (Fits (value_defs defs) (scope_of run.context))) goals gives bare hold L more' place has' apart lemmas env given act h stands s Vundef E
      (subst (λ t. has t Vundef ≡ true) (sym stands.result) typed)
      (f s.back.others (typed, plain_post S env run.exits.ret act.temps Vundef s.back.others no_value post))

-- ---- a return of a value

module _ (defs : Defs) (specs : SpecTable) (n : ℕ) (run : r.Run) (ex : Expr) (laid : AreLaidOut defs.structs) (fits : RunFits defs specs run) (bare : run.source.existentials ≡ []) (typed : IsTyped defs.structs (names_in fits.statements.file fits.statements.function) ex) (plain : IsPlain defs.structs run ex)
    (v : Evaluated) (found : evaluate run.source defs.structs ex ≡ Ok v) (sides : List PlainFormula) (are : sides ≡ v.sides ++ of_type (sized_type run.exits.ret.result) v.term ∷ []) where
  abbrev scope : Scope
  scope = scope_of run.context

  abbrev claim' : PlainFormula
  claim' = of_type (sized_type run.exits.ret.result) v.term

  sides_fit : AllFit (value_defs defs) run.context sides
  sides_fit =
      let good = evaluation_fits (value_defs defs) scope run.source (source_fits defs specs run fits bare) ex v found in
      let result = run.exits.ret.result in
      let claim_fits : Fits (value_defs defs) scope claim' = of_type_fits (value_defs defs) scope (sized_type result) v.term plain.scalar (field_sizes result).count (literals_good (value_defs defs) scope (sizes_of result)) good.0 in
      all_of (Fits (value_defs defs) scope) sides
      (subst (AllByRecursion (Fits (value_defs defs) scope)) (sym are) (fits_both (Fits (value_defs defs) scope) v.sides (claim' ∷ []) good.1.sides (claim_fits, tt)))

  module _ (goals : List Goal) (gives : GivesBack run (Some v.term) (record { sides = sides; valid = v.valid }) (Ok goals)) (hold : AllByRecursion (HoldsFor defs specs n) goals)
      (L : Linked) (more' : List Further) (place : Places) (has' : Has L defs specs) (apart : AreApart L more' place) (lemmas : LemmasAreTrue (setting L more' place) defs) (env : Env) (given : Given (setting L more' place) defs run.context env) (act : Act) (h : Heaplet) (stands : Stands (setting L more' place) env run.exits.ret run.source act h) where
    abbrev U : Setting
    U = setting L more' place

    abbrev needs : Needs
    needs = record { sides = sides; valid = v.valid }

    s : Ready defs specs n run (Some v.term) needs sides_fit goals gives bare hold L more' place has' apart lemmas env given act h stands
    s = ready defs specs n run (Some v.term) needs sides_fit goals gives bare hold L more' place has' apart lemmas env given act h stands

    -- the postcondition holds of the value
    post_of_value : (y : Value) → Means U.defs env v.term (Val y) → PostHolds U env (postcondition run.exits.ret) y s.back.others
    post_of_value y mean = by run.exits.ret.value refl s.is
      where
        by : (o : Option Plain) → run.exits.ret.value ≡ o → returned (Some v.term) run.exits.ret.post o ≡ Ok s.target → PostHolds U env (postcondition run.exits.ret) y s.back.others
        by None e g = plain_post U env run.exits.ret act.temps y s.back.others e (subst (λ a. Holds U env a act.temps s.back.others) (sym (same_target run.exits.ret.post s.target g)) s.holds)
        by (Some t) e g =
            let inner = inner_scope run.exits.ret.post scope in
            let term : TermFits defs inner ValSort t = value_fits defs inner run.exits.ret.result t plain.scalar (subst (ResultFits defs inner run.exits.ret.result) e fits.exits.ret.value) in
            let post = fits.exits.ret.post in
            let whole : AssertionFits defs specs scope (covering run.exits.ret.post (Some t)) = record {
              existentials = post.existentials;
              props = post.props;
              temporaries = post.temporaries;
              locals = post.locals;
              parts = (term, post.parts);
            } in
            let few : size v.term + body_nodes (covering run.exits.ret.post (Some t)) < 2 ^ 63 = subst (λ o. size v.term + body_nodes (covering run.exits.ret.post o) < 2 ^ 63) e (plain.few v found) in
            subst (λ o. PostHolds U env (record { existentials = run.exits.ret.post.existentials; props = run.exits.ret.post.props; value = o; parts = run.exits.ret.post.parts }) y s.back.others) (sym e)
            (post_met U env v.term t run.exits.ret.post y few (formed_sorted defs specs scope (covering run.exits.ret.post (Some t)) whole) s.target act.temps s.back.others g mean s.holds)

    pub value_safe : (rest : List Stmt) → SafeAll (world L more' place) n (Return (Some ex) ∷ rest) (goal_exits U env run.exits) act h
    value_safe rest =
        let all = true_apart U.defs env U.has_spec v.sides (claim' ∷ []) (subst (AllTrue U.defs U.has_spec env) are s.met.sides) in
        let names = names_in fits.statements.file fits.statements.function in
        let meets = run_meets L more' place defs specs run env act h has' (subst AreLaidOut (sym has'.structs) laid) given fits bare stands in
        let own = expressions_agree U env (seen (program L more' place) act.blocks h) act.temps run.source h names meets ex v (subst (λ s. IsTyped s names ex) (sym has'.structs) typed)
        (subst (λ s. evaluate run.source s ex ≡ Ok v) (sym has'.structs) found) (record { sides = all.0; valid = s.met.valid }) in
        let value = own.agrees.value in
        let held : has run.exits.ret.result value ≡ true = has_type U env run.exits.ret.result v.term value all.1.0 own.agrees.means in
        let E = with_normal (SafeAll (world L more' place) n rest (goal_exits U env run.exits)) (goal_exits U env run.exits) in
        return_safe (world L more' place) n ex act h E
        (record {
          value = value;
          evaluates = own.agrees.is;
          returns = returns defs specs n run (Some v.term) needs sides_fit goals gives bare hold L more' place has' apart lemmas env given act h stands s value E
              (subst (λ t. has t value ≡ true) (sym stands.result) held) (held, post_of_value value own.agrees.means);
        })

-- ---- the rows

module _ (defs : Defs) (specs : SpecTable) (n : ℕ) (run : r.Run) where
  of_return : (e : Option Expr) (rest : List Stmt) (fits : RunFits defs specs run) → run.rest ≡ Return e ∷ rest → AreExpressionsTyped defs.structs (names_in fits.statements.file fits.statements.function) fits.statements.function.result (Return e)
  of_return e rest fits next =
      let names = names_in fits.statements.file fits.statements.function in
      let result = fits.statements.function.result in
      (subst (AreTyped defs.structs names result) next (part_typed defs.structs names result fits.statements.part (flat_typed defs.structs names result fits.statements.function.body fits.statements.body.typed))).0

  pub return_sound : (e : Option Expr) (rest : List Stmt) (goals : List Goal) → AreLaidOut defs.structs → RunFits defs specs run → run.rest ≡ Return e ∷ rest → IsPlainIfAny defs.structs run e → Row defs.structs (Run run) (Ok goals) → AllByRecursion (HoldsFor defs specs n) goals → HoldsFor defs specs n (Run run)
  return_sound None rest goals laid fits next plain row' hold =
      let named = passed (some_left run.source.existentials) intros_first (row.Returns defs.structs run None) goals (subst (λ ss. OfNext defs.structs run (slice_get ss 0) (Ok goals)) next row') in
      let void : run.exits.ret.result ≡ Void = fits.statements.result ∙ is_void fits.statements.function.result (of_return None rest fits next) in
      record {
        in_each = λ L more' place has' apart lemmas env given keeps act h stands.
            let E = goal_exits (setting L more' place) env run.exits in
            let F = with_normal (SafeAll (world L more' place) n rest E) E in
            subst (λ ss. SafeAll (world L more' place) n ss E act h) (sym next)
            (return_nothing_safe (world L more' place) n act h F
            (nothing_returned defs specs n run fits goals named.1 (no_more run.source.existentials named.0) void hold L more' place has' apart lemmas env given act h stands F (λ k m. m)));
      }
  return_sound (Some ex) rest goals laid fits next plain row' hold =
      let named = passed (some_left run.source.existentials) intros_first (row.Returns defs.structs run (Some ex)) goals (subst (λ ss. OfNext defs.structs run (slice_get ss 0) (Ok goals)) next row') in
      let bare = no_more run.source.existentials named.0 in
      let result = of_result (result_of defs.structs run ex) (ReturnsTerm run) goals named.1 in
      let a = on_ok_is (evaluate run.source defs.structs ex) (result_needs run.exits.ret.result) result.0 result.1 in
      let v = a.0 in
      let b = on_ok_is (saying v.sides (of_type (sized_type run.exits.ret.result) v.term ∷ [])) (λ sides. Ok (v.term, record { sides = sides; valid = v.valid })) result.0 a.2 in
      let are = saying_is v.sides (of_type (sized_type run.exits.ret.result) v.term ∷ []) b.0 b.1 in
      let gives : GivesBack run (Some v.term) (record { sides = b.0; valid = v.valid }) (Ok goals) = subst (λ (w : Plain × Needs). ReturnsTerm run w (Ok goals)) (sym (same_pair (v.term, record { sides = b.0; valid = v.valid }) result.0 b.2)) result.2 in
      let typed = (of_return (Some ex) rest fits next).1.typed in
      record {
        in_each = λ L more' place has' apart lemmas env given keeps act h stands.
            subst (λ ss. SafeAll (world L more' place) n ss (goal_exits (setting L more' place) env run.exits) act h) (sym next)
            (value_safe defs specs n run ex laid fits bare typed plain v a.1 b.0 are goals gives hold L more' place has' apart lemmas env given act h stands rest);
      }
    where
      same_pair : (p q : Plain × Needs) → ◌≡◌ {A = Result (Plain × Needs) No} (Ok p) (Ok q) → p ≡ q
      same_pair p q e = cc

  -- no statement is left
  ends : (fits : RunFits defs specs run) (goals : List Goal) (exit : e.Exit) → run.exits.normal ≡ exit → AtEnd defs.structs run exit (Ok goals) → run.rest ≡ [] → AllByRecursion (HoldsFor defs specs n) goals → HoldsFor defs specs n (Run run)
  ends fits goals x.None e row' next hold = absurd cc
  ends fits goals (x.To a) e row' next hold = absurd cc
  ends fits goals x.End e row' next hold =
      let named = passed (some_left run.source.existentials) intros_first (row.Returns defs.structs run None) goals row' in
      let void : run.exits.ret.result ≡ Void = subst (IsNormal run.exits.ret.result) e fits.exits.is_normal in
      record {
        in_each = λ L more' place has' apart lemmas env given keeps act h stands.
            let S = setting L more' place in
            subst (λ ss. SafeAll (world L more' place) n ss (goal_exits S env run.exits) act h) (sym next)
            (subst (λ exit. Leaves S env run.exits.ret exit act h) (sym e)
            (nothing_returned defs specs n run fits goals named.1 (no_more run.source.existentials named.0) void hold L more' place has' apart lemmas env given act h stands (return_exits S env run.exits.ret) (λ k m. m)));
      }

  pub end_sound : (goals : List Goal) → RunFits defs specs run → run.rest ≡ [] → Row defs.structs (Run run) (Ok goals) → AllByRecursion (HoldsFor defs specs n) goals → HoldsFor defs specs n (Run run)
  end_sound goals fits next row' hold = ends fits goals run.exits.normal refl (subst (λ ss. OfNext defs.structs run (slice_get ss 0) (Ok goals)) next row') next hold
