-- `forward_switch` is sound.
use Rattle.std.proofs.Common.{◌≡◌, ℕ, Bool, true, false, List, [], ◌∷◌, ◌++◌, drop, Option, Some, None, Result, Ok, All, refl, sym, ap, subst, ◌∙◌, slice_get}
use Rattle.std.specs.List.{AllByRecursion}
use mathlib.Core.Former.{arity, this}
use Rattle.sqlite_items.specs.formers.items.Items.{the_former}
use Rattle.floyd_text.specs.declared.refusal.No.{No}
use Rattle.floyd_ctypes.specs.declared.ctype.CType.{CType, Int}
use Rattle.floyd_clight.specs.declared.syntax.Case.{Case}
use Rattle.floyd_clight.specs.declared.syntax.Expr.{Expr}
use Rattle.floyd_clight.specs.declared.syntax.Stmt.{Stmt, Switch', Row_of-Case, items-the_row-Case}
use Rattle.floyd_clight.specs.Flat.{flat}
use Rattle.floyd_clight.specs.Types.{type_of}
use Rattle.floyd_clight_heap.specs.Heaplet.{Heaplet}
use Rattle.floyd_clight_machine.specs.Exits.{Exit, Normal, Broke, Continued, Returned}
use Rattle.floyd_clight_machine.specs.Machine as m
use Rattle.floyd_clight_machine.specs.Switching.{chosen, first_of, from_case, has_label, is_default}
use Rattle.floyd_clight_runs.specs.Calls.{KeepsBelow, SafeAll, with_normal}
use Rattle.floyd_clight_runs.specs.Needs.{switch_exits}
use Rattle.floyd_clight_runs.specs.Safe.{Exits}
use Rattle.floyd_clight_runs.specs.Seen.{seen}
use Rattle.floyd_clight_runs.specs.World.{World}
use Rattle.floyd_clight_runs.proofs.Flats.{flat_safe}
use Rattle.floyd_clight_runs.proofs.Rows.{switch_safe}
use Rattle.floyd_clight_typing.specs.Bodies.{names_in}
use Rattle.floyd_clight_typing.specs.Expressions.{IsTyped, Names}
use Rattle.floyd_clight_typing.specs.Statements.{AreExpressionsTyped, labels}
use Rattle.floyd_tree_sorts.specs.declared.sorts.Sort.{Z}
use Rattle.floyd_tree.specs.Formulas.{PlainFormula}
use Rattle.floyd_tree_values.specs.BuiltIns.{Env}
use Rattle.floyd_tree_values.specs.Rules.{Scope}
use Rattle.floyd_truth.specs.Truth.{AllTrue}
use Rattle.floyd_assert_trees.specs.declared.assertion.Assertion.{Assertion}
use Rattle.floyd_assert_trees.specs.declared.items.Defs.{Defs}
use Rattle.floyd_assert_trees.specs.declared.spec.SpecTable.{SpecTable}
use Rattle.floyd_assert_trees.specs.Meanings.{value_defs}
use Rattle.floyd_assert_meaning.specs.Settings.{Setting}
use Rattle.floyd_fieldpath.specs.Written.{on_ok}
use Rattle.floyd_int.specs.declared.kinds.Value.{Value}
use Rattle.floyd_goal.specs.Goals.{enriched, intros_first, some_left}
use Rattle.floyd_goal_formulas.specs.Fits.{Fits}
use Rattle.floyd_goal_trees.specs.Contexts.{scope_of, with_hypotheses}
use Rattle.floyd_goal_trees.specs.declared.args.Args.{Args}
use Rattle.floyd_goal_trees.specs.declared.context.Context.{Context}
use Rattle.floyd_goal_trees.specs.declared.exits.Exits as g
use Rattle.floyd_goal_trees.specs.declared.goal.Goal.{Goal}
use Rattle.floyd_goal_trees.specs.declared.goal.Goal.TheVariants.{Entail, Pure, Run}
use Rattle.floyd_goal_trees.specs.declared.goal.Run as r
use Rattle.floyd_goal_forms.specs.Goals.{IsWellFormed, RunFits}
use Rattle.floyd_goal_meaning.specs.declared.linked.Linked.{Linked}
use Rattle.floyd_goal_meaning.specs.GoalHolds.{Given, HoldsFor, LemmasAreTrue, Stands, goal_exits}
use Rattle.floyd_goal_meaning.specs.Links.{AreApart, Has}
use Rattle.floyd_goal_meaning.specs.Programs.{Further, Places, program, setting}
use Rattle.floyd_goal_meaning.specs.Worlds.{sight, world}
use Rattle.floyd_goal_laws.proofs.Consequences.{safe_all_follows}
use Rattle.floyd_symexpr_rows.specs.declared.needs.Needs.{Needs}
use Rattle.floyd_symexpr_rows.specs.declared.needs.Number.{Number}
use Rattle.floyd_symexpr_rows.specs.Formulas.{saying}
use Rattle.floyd_symexpr_rows.specs.Rows.{range}
use Rattle.floyd_symexpr.specs.Expressions.{evaluate}
use Rattle.floyd_symexpr_forms.specs.Laws.{TermIn}
use Rattle.floyd_symexpr_forms.proofs.Answers.{Gives, both}
use Rattle.floyd_symexpr_forms.proofs.Readings.{evaluation_fits}
use Rattle.floyd_symexpr_forms.proofs.Rows.{GoodNumber, number_good, range_fits}
use Rattle.floyd_symexpr_laws.proofs.SideTruths.{all_true_first, all_true_second, saying_is}
use Rattle.floyd_symexpr_laws.proofs.TermMeanings.{ok_parts}
use Rattle.floyd_symexpr_pointer_laws.specs.Laws.{AllValid}
use Rattle.floyd_symexpr_soundness.specs.Laws.{AreLaidOut, IsEvaluated}
use Rattle.floyd_symexpr_soundness.proofs.Evaluating.{expressions_agree}
use Rattle.floyd_state_laws.proofs.States.{run_meets}
use Rattle.floyd_state_laws.proofs.Statements.{AreTyped, flat_typed, part_typed}
use Rattle.floyd_forward_soundness.proofs.Needs.{Needed, all_of, needed_of, needs_met}
use Rattle.floyd_forward_soundness.proofs.Setting.{no_more, of_result, passed, same_goals, source_fits}
use Rattle.floyd_control.specs.ForwardLoop.{entered}
use Rattle.floyd_control.specs.ForwardSwitch.{OfNext, OfStatement, Row, Switches, SwitchesBy, SwitchesWith, case_exits, case_formulas, case_goal, case_goals, choice, has_default, labels_of, no_labels, number_of, otherwise, switched, under_more}
use Rattle.floyd_control.specs.Parts.{behind, runs_from}
use Rattle.floyd_loop_soundness.proofs.Assertions.{from_safe, given_with, goal_safe}
use Rattle.floyd_branch_soundness.proofs.Branching.{divided_all}
use Rattle.floyd_switch_soundness.proofs.Cases.{case_on, labels_are, no_default, none_found}
use Rattle.floyd_switch_soundness.proofs.Choosing.{ChoiceIs, Chosen, bits_chosen, choice_is, label_equal, none_equal}

ok_goal : (a b : Goal) → ◌≡◌ {A = Result Goal No} (Ok a) (Ok b) → a ≡ b
ok_goal a b e = cc

-- a goal under formulas more
pub record Under (context : Context) (fs : List PlainFormula) (made : Context → Goal) (goal : Goal) : Type 0 where
  pub is : made (with_hypotheses context fs) ≡ goal

pub under_is : (context : Context) (fs : List PlainFormula) (made : Context → Goal) (goal : Goal) → under_more context fs made ≡ Ok goal → Under context fs made goal
under_is context fs made goal e =
    let p = ok_parts (saying [] fs) (λ added. Ok (made (with_hypotheses context added))) goal e in
    record { is = ap (λ added. made (with_hypotheses context added)) (sym (saying_is [] fs p.0 p.1)) ∙ ok_goal (made (with_hypotheses context p.0)) goal p.2 }

module _ (defs : Defs) (specs : SpecTable) (n : ℕ) (run : r.Run) (e : Expr) (shape : List (Unit {0})) (cases : Row_of-Case (arity (the_former (this {0})) shape)) (rest : List Stmt) (laid : AreLaidOut defs.structs) (fits : RunFits defs specs run) (next : run.rest ≡ Switch' e shape cases ∷ rest) (bare : run.source.existentials ≡ []) where
  abbrev names : Names
  names = names_in fits.statements.file fits.statements.function

  abbrev scope : Scope
  scope = scope_of run.context

  abbrev items : List Case
  items = items-the_row-Case _ cases

  abbrev all : List (Option ℕ)
  all = labels_of items

  typed : AreExpressionsTyped defs.structs names fits.statements.function.result (Switch' e shape cases)
  typed =
      let result = fits.statements.function.result in
      (subst (AreTyped defs.structs names result) next (part_typed defs.structs names result fits.statements.part (flat_typed defs.structs names result fits.statements.function.body fits.statements.body.typed))).0

  module _ (to : Assertion) (c : Number × Needs) (chose : ChoiceIs run.source defs.structs e c) (goals : List Goal) (w : Needed run.context run.source c.1 (switched run to items c.0) goals) (hold : AllByRecursion (HoldsFor defs specs n) goals) where
    abbrev a : Number
    a = c.0

    number_fits : (t : CType) → number_of t chose.v.term ≡ Ok a → TermIn (value_defs defs) scope Z a.term
    number_fits (Int k) i =
        let term = (evaluation_fits (value_defs defs) scope run.source (source_fits defs specs run fits bare) e chose.v chose.found).0 in
        subst (Gives (GoodNumber (value_defs defs) scope)) i (number_good (value_defs defs) scope k chose.v.term term)
    number_fits t i = absurd cc

    fit : All (Fits (value_defs defs) scope) c.1.sides
    fit =
        let own = (evaluation_fits (value_defs defs) scope run.source (source_fits defs specs run fits bare) e chose.v chose.found).1.sides in
        subst (All (Fits (value_defs defs) scope)) (sym chose.sides)
        (all_of (Fits (value_defs defs) scope) (chose.v.sides ++ range a.kind a.term)
        (both (Fits (value_defs defs) scope) chose.v.sides (range a.kind a.term) own (range_fits (value_defs defs) scope a.kind a.term (number_fits (type_of e) chose.number))))

    module _ (L : Linked) (more : List Further) (place : Places) (has : Has L defs specs) (apart : AreApart L more place) (lemmas : LemmasAreTrue (setting L more place) defs) (env : Env) (given : Given (setting L more place) defs run.context env)
        (keeps : KeepsBelow (world L more place) (sight L more place specs) n) where
      abbrev S : Setting
      S = setting L more place

      abbrev W : World
      W = world L more place

      abbrev context : Context
      context = enriched run.context w.sides.kept

      abbrev H : Goal → Type 0
      H goal = HoldsFor defs specs n goal

      -- the ways out of the statement and what follows, and those of its bodies
      abbrev G : Exits
      G = goal_exits S env run.exits

      abbrev E : Exits
      E = with_normal (SafeAll W n rest G) G

      abbrev exits : g.Exits
      exits = case_exits run.exits to

      abbrev B : Exits
      B = goal_exits S env exits

      abbrev last : Goal
      last = runs_from context to (behind run) run.exits

      leaves : Given S defs context env → H last → (act : m.Act) (h : Heaplet) → Stands S env run.exits.ret to act h → SafeAll W n rest G act h
      leaves there one act h stands =
          subst (λ ss. SafeAll W n ss G act h) (ap (drop 1) next) (from_safe defs specs n L more place has apart lemmas env keeps context to (behind run) run.exits one there act h stands)

      ways_on : Given S defs context env → H last → (x : Exit) (h : Heaplet) → B x h → switch_exits E x h
      ways_on there one (Normal act) h k = leaves there one act h k
      ways_on there one (Broke act) h k = leaves there one act h k
      ways_on there one (Continued act) h k = k
      ways_on there one (Returned v) h k = k

      module _ (act : m.Act) (h : Heaplet) (stands : Stands S env run.exits.ret run.source act h) where
        abbrev True : List PlainFormula → Type 0
        True fs = AllTrue S.defs S.has_spec env fs

        -- the statements of a case, under its formulas
        goal_on : Given S defs context env → (fs : List PlainFormula) (ss : List Stmt) (goal : Goal) → under_more context fs (case_goal run exits ss) ≡ Ok goal → H goal → True fs → SafeAll W n ss B act h
        goal_on there fs ss goal e one holds =
            goal_safe defs specs n L more place has apart lemmas env keeps (record { context = with_hypotheses context fs; source = run.source; rest = ss; exits = exits })
            (subst H (sym (under_is context fs (case_goal run exits ss) goal e).is) one) (given_with S defs env context fs there holds) act h stands

        -- where no case is taken
        skipped : Given S defs context env → (gs : List Goal) (b : Bool) → b ≡ false → otherwise run a all context to b ≡ Ok gs → AllByRecursion H gs → True (no_labels a all) → Stands S env run.exits.ret to act h
        skipped there gs true f e hold' holds = absurd cc
        skipped there gs false f e hold' holds =
            let p = ok_parts (under_more context (no_labels a all) (λ inner. entered run inner to)) (λ goal. Ok (goal ∷ [])) gs e in
            let held = subst (AllByRecursion H) (sym (same_goals (p.0 ∷ []) gs p.2)) hold' in
            let one : H (entered run (with_hypotheses context (no_labels a all)) to) = subst H (sym (under_is context (no_labels a all) (λ inner. entered run inner to) p.0 p.1).is) held.0 in
            record {
              result = stands.result;
              blocks = stands.blocks;
              distinct = stands.distinct;
              places = stands.places;
              holds = one.in_each L more place has apart lemmas env (given_with S defs env context (no_labels a all) there holds) act.temps h stands.holds;
            }

        module _ (there : Given S defs context env) (v : Value) (d : Chosen S env (type_of e) v a (labels cases)) (own others : List Goal) (own_are : case_goals run a all context exits items ≡ Ok own) (others_are : otherwise run a all context to (has_default all) ≡ Ok others)
            (hold_own : AllByRecursion H own) (hold_others : AllByRecursion H others) where
          none_is : from_case (has_label d.bits) shape cases ≡ None → True (no_labels a all)
          none_is none = subst (λ ls. True (no_labels a ls)) (sym (labels_are cases)) (none_equal S env a d.bits d.has (labels cases) d.fit (none_found d.bits shape cases none))

          at_label : (label : Option ℕ) → has_label d.bits label ≡ true → True (case_formulas a all label)
          at_label None f = absurd cc
          at_label (Some l) f = (label_equal S env a d.bits l d.has f, tt)

          at_default : from_case (has_label d.bits) shape cases ≡ None → (label : Option ℕ) → is_default label ≡ true → True (case_formulas a all label)
          at_default none None f = none_is none
          at_default none (Some l) f = absurd cc

          taken : (o p : Option Stmt) → from_case (has_label d.bits) shape cases ≡ o → from_case is_default shape cases ≡ p → SafeAll W n (flat (first_of o p)) B act h
          taken (Some t) p i j = case_on run a all context exits H True (λ ss. SafeAll W n ss B act h) (goal_on there) (has_label d.bits) at_label shape cases own own_are hold_own t i
          taken None (Some t) i j = case_on run a all context exits H True (λ ss. SafeAll W n ss B act h) (goal_on there) is_default (at_default i) shape cases own own_are hold_own t j
          taken None None i j = skipped there others (has_default all) (ap has_default (labels_are cases) ∙ no_default shape cases j) others_are hold_others (none_is i)

        switches : SafeAll W n (Switch' e shape cases ∷ rest) G act h
        switches =
            let met = needs_met defs specs n L more place has apart lemmas env run.context run.source c.1 (switched run to items a) goals act.blocks act.temps h fit w hold given stands.holds in
            let meets = run_meets L more place defs specs run env act h has (subst AreLaidOut (sym has.structs) laid) given fits bare stands in
            let look = seen (program L more place) act.blocks h in
            let sides = subst True chose.sides met.0.sides in
            let own : IsEvaluated S env look act.temps e chose.v.term = expressions_agree S env look act.temps run.source h names meets e chose.v (subst (λ structs. IsTyped structs names e) (sym has.structs) typed.0)
            (subst (λ structs. evaluate run.source structs e ≡ Ok chose.v) (sym has.structs) chose.found)
            (record { sides = all_true_first S.defs S.has_spec env chose.v.sides (range a.kind a.term) sides; valid = subst (AllValid S.defs env look) chose.valid met.0.valid }) in
            let d = bits_chosen S env (type_of e) chose.v.term own.agrees.value a (labels cases) typed.1 chose.number own.agrees.means (all_true_second S.defs S.has_spec env chose.v.sides (range a.kind a.term) sides) in
            let p = ok_parts (case_goals run a all context exits items) (λ gs. on_ok (otherwise run a all context to (has_default all)) (λ others. Ok (gs ++ others ++ last ∷ []))) w.rest w.behind_is in
            let q = ok_parts (otherwise run a all context to (has_default all)) (λ others. Ok (p.0 ++ others ++ last ∷ [])) w.rest p.2 in
            let parts' = divided_all H (p.0 ++ q.0) (last ∷ []) (subst (AllByRecursion H) (sym (same_goals (p.0 ++ q.0 ++ last ∷ []) w.rest q.2)) met.2) in
            let held = divided_all H p.0 q.0 parts'.0 in
            let safe = taken met.1 own.agrees.value d p.0 q.0 p.1 q.1 held.0 held.1 (from_case (has_label d.bits) shape cases) (from_case is_default shape cases) refl refl in
            switch_safe W n e shape cases act h E d.bits (record { value = own.agrees.value; evaluates = own.agrees.is; bits = d.is })
            (flat_safe W n (chosen shape cases d.bits) (switch_exits E) act h (safe_all_follows W n (flat (chosen shape cases d.bits)) B (switch_exits E) (ways_on met.1 parts'.1.0) act h safe))

-- ---- the row

module _ (defs : Defs) (specs : SpecTable) (n : ℕ) (run : r.Run) (laid : AreLaidOut defs.structs) (fits : RunFits defs specs run) (goals : List Goal) (hold : AllByRecursion (HoldsFor defs specs n) goals) where
  of_given : (e : Expr) (shape : List (Unit {0})) (cases : Row_of-Case (arity (the_former (this {0})) shape)) (rest : List Stmt) → run.rest ≡ Switch' e shape cases ∷ rest → (as' : List Assertion) → SwitchesWith defs.structs run as' e (items-the_row-Case _ cases) (Ok goals) → HoldsFor defs specs n (Run run)
  of_given e shape cases rest next [] row' = absurd cc
  of_given e shape cases rest next (to ∷ []) row' =
      let items = items-the_row-Case _ cases in
      let named = passed (some_left run.source.existentials) intros_first (Switches defs.structs run to e items) goals row' in
      let bare = no_more run.source.existentials named.0 in
      let c = of_result (choice run.source defs.structs e) (SwitchesBy run to items) goals named.1 in
      let w = needed_of run.context run.source c.0.1 (switched run to items c.0.0) goals c.2 in
      record {
        in_each = λ L more place has apart lemmas env given keeps act h stands.
            subst (λ ss. SafeAll (world L more place) n ss (goal_exits (setting L more place) env run.exits) act h) (sym next)
            (switches defs specs n run e shape cases rest laid fits next bare to c.0 (choice_is run.source defs.structs e c.0 c.1) goals w hold L more place has apart lemmas env given keeps act h stands);
      }
  of_given e shape cases rest next (a ∷ b ∷ more) row' = absurd cc

  of_statement : (as' : List Assertion) (s : Stmt) (rest : List Stmt) → run.rest ≡ s ∷ rest → OfStatement defs.structs run as' s (Ok goals) → HoldsFor defs specs n (Run run)
  of_statement as' (Switch' e shape cases) rest next row' = of_given e shape cases rest next as' row'
  of_statement as' s rest next row' = absurd cc

  of_next : (as' : List Assertion) (ss : List Stmt) → run.rest ≡ ss → OfNext defs.structs run as' (slice_get ss 0) (Ok goals) → HoldsFor defs specs n (Run run)
  of_next as' [] next row' = absurd cc
  of_next as' (s ∷ rest) next row' = of_statement as' s rest next row'

pub switch_sound : (defs : Defs) (specs : SpecTable) (n : ℕ) (goal : Goal) (args : Args) (goals : List Goal) → AreLaidOut defs.structs → IsWellFormed defs specs goal → Row defs.structs goal args (Ok goals) → AllByRecursion (HoldsFor defs specs n) goals → HoldsFor defs specs n goal
switch_sound defs specs n (Run run) args goals laid fits row' hold = of_next defs specs n run laid fits goals hold args.assertions run.rest refl row'
switch_sound defs specs n (Entail entail) args goals laid fits row' hold = absurd cc
switch_sound defs specs n (Pure pure) args goals laid fits row' hold = absurd cc
