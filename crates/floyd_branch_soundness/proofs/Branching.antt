-- `forward_if` is sound.
use Rattle.std.proofs.Common.{◌≡◌, ℕ, Bool, true, false, cond, List, [], ◌∷◌, ◌++◌, drop, Option, Some, None, Ok, All, refl, sym, ap, subst, ◌∙◌, slice_get, if◌then◌else◌}
use Rattle.std.specs.List.{AllByRecursion}
use Rattle.floyd_clight.specs.declared.syntax.Expr.{Expr}
use Rattle.floyd_clight.specs.declared.syntax.Stmt.{Stmt, If', end_of-Stmt, more_of-Stmt}
use Rattle.floyd_clight.specs.Flat.{flat}
use Rattle.floyd_clight_heap.specs.Heaplet.{Heaplet}
use Rattle.floyd_clight_machine.specs.Exits.{Exit, Normal, Broke, Continued, Returned, Part}
use Rattle.floyd_clight_machine.specs.Machine as m
use Rattle.floyd_clight_runs.specs.Calls.{KeepsBelow, SafeAll, with_normal}
use Rattle.floyd_clight_runs.specs.Safe.{Exits, Safe}
use Rattle.floyd_clight_runs.specs.Seen.{seen}
use Rattle.floyd_clight_runs.specs.World.{World}
use Rattle.floyd_clight_runs.proofs.Flats.{flat_safe}
use Rattle.floyd_clight_runs.proofs.Rows.{branch_safe}
use Rattle.floyd_clight_typing.specs.Bodies.{names_in}
use Rattle.floyd_clight_typing.specs.Expressions.{Names}
use Rattle.floyd_clight_typing.specs.Statements.{IsCondition}
use Rattle.floyd_tree_values.specs.BuiltIns.{Env}
use Rattle.floyd_truth.specs.Truth.{Truth}
use Rattle.floyd_assert_trees.specs.declared.assertion.Assertion.{Assertion}
use Rattle.floyd_assert_trees.specs.declared.items.Defs.{Defs}
use Rattle.floyd_assert_trees.specs.declared.spec.SpecTable.{SpecTable}
use Rattle.floyd_assert_trees.specs.Meanings.{value_defs}
use Rattle.floyd_assert_meaning.specs.Settings.{Setting}
use Rattle.floyd_goal.specs.Goals.{enriched, intros_first, some_left, wrong_goal}
use Rattle.floyd_goal_formulas.specs.Fits.{Fits}
use Rattle.floyd_goal_trees.specs.Contexts.{scope_of}
use Rattle.floyd_goal_trees.specs.declared.args.Args.{Args}
use Rattle.floyd_goal_trees.specs.declared.context.Context.{Context}
use Rattle.floyd_goal_trees.specs.declared.goal.Goal.{Goal}
use Rattle.floyd_goal_trees.specs.declared.goal.Goal.TheVariants.{Entail, Pure, Run}
use Rattle.floyd_goal_trees.specs.declared.goal.Run as r
use Rattle.floyd_goal_forms.specs.Goals.{IsWellFormed, RunFits}
use Rattle.floyd_goal_meaning.specs.declared.linked.Linked.{Linked}
use Rattle.floyd_goal_meaning.specs.GoalHolds.{Given, HoldsFor, Leaves, LemmasAreTrue, Stands, goal_exits}
use Rattle.floyd_goal_meaning.specs.Links.{AreApart, Has}
use Rattle.floyd_goal_meaning.specs.Programs.{Further, Places, program, setting}
use Rattle.floyd_goal_meaning.specs.Worlds.{sight, world}
use Rattle.floyd_goal_laws.proofs.Consequences.{safe_all_follows}
use Rattle.floyd_symexpr_soundness.specs.Laws.{AreLaidOut}
use Rattle.floyd_state_laws.proofs.States.{run_meets}
use Rattle.floyd_state_laws.proofs.Statements.{AreTyped, flat_typed, part_typed}
use Rattle.floyd_forward_soundness.proofs.Needs.{Needed, needed_of, needs_met}
use Rattle.floyd_forward_soundness.proofs.Setting.{no_more, of_result, passed, same_goals}
use Rattle.floyd_conditions.specs.declared.branches.Condition.{Condition}
use Rattle.floyd_conditions.specs.Conditions.{condition}
use Rattle.floyd_condition_laws.proofs.Deciding.{decided}
use Rattle.floyd_control.specs.ForwardIf as row
use Rattle.floyd_control.specs.ForwardIf.{Divides, DividesBy, Ifs, OfNext, OfStatement, Row, divided, is_followed}
use Rattle.floyd_control.specs.Parts.{Named, behind}
use Rattle.floyd_loop_soundness.proofs.Assertions.{from_safe, part_safe}
use Rattle.floyd_branch_soundness.proofs.Asking.{sides_fit}

not_followed : (ss : List Stmt) → is_followed ss ≡ false → ss ≡ []
not_followed [] e = refl
not_followed (s ∷ ss) e = absurd cc

pub divided_all : {A : Type 0} (P : A → Type 0) (xs ys : List A) → AllByRecursion P (xs ++ ys) → AllByRecursion P xs × AllByRecursion P ys
divided_all P [] ys h = (tt, h)
divided_all P (x ∷ xs) ys h =
    let q = divided_all P xs ys h.1 in
    ((h.0, q.0), q.1)

module _ (defs : Defs) (specs : SpecTable) (n : ℕ) (run : r.Run) (e : Expr) (p q : Unit {0}) (s t : Stmt) (rest : List Stmt) (laid : AreLaidOut defs.structs) (fits : RunFits defs specs run) (next : run.rest ≡ If' e p (more_of-Stmt s end_of-Stmt) q (more_of-Stmt t end_of-Stmt) ∷ rest) (bare : run.source.existentials ≡ []) where
  abbrev names : Names
  names = names_in fits.statements.file fits.statements.function

  typed : IsCondition defs.structs names e
  typed =
      let result = fits.statements.function.result in
      (subst (AreTyped defs.structs names result) next (part_typed defs.structs names result fits.statements.part (flat_typed defs.structs names result fits.statements.function.body fits.statements.body.typed))).0.0

  module _ (a : Option Assertion) (ends : a ≡ None → rest ≡ []) (c : Condition) (found : condition run.source defs.structs e ≡ Ok c) (goals : List Goal) (w : Needed run.context run.source c.needs (divided run a c.branches s t) goals) (hold : AllByRecursion (HoldsFor defs specs n) goals) where
    fit : All (Fits (value_defs defs) (scope_of run.context)) c.needs.sides
    fit = sides_fit defs specs (scope_of run.context) run.source e c fits.source bare typed.test found

    module _ (L : Linked) (more : List Further) (place : Places) (has : Has L defs specs) (apart : AreApart L more place) (lemmas : LemmasAreTrue (setting L more place) defs) (env : Env) (given : Given (setting L more place) defs run.context env)
        (keeps : KeepsBelow (world L more place) (sight L more place specs) n) where
      abbrev S : Setting
      S = setting L more place

      abbrev W : World
      W = world L more place

      abbrev context : Context
      context = enriched run.context w.sides.kept

      -- the ways out of the statement, and those of its branches
      abbrev E : Exits
      E = with_normal (SafeAll W n rest (goal_exits S env run.exits)) (goal_exits S env run.exits)

      abbrev B : Exits
      B = goal_exits S env (row.with_normal run.exits (row.exit_to run a))

      -- what follows the branches
      goes_on : (b : Option Assertion) → (b ≡ None → rest ≡ []) → AllByRecursion (HoldsFor defs specs n) (row.last run b context) → Given S defs context env → (act : m.Act) (h : Heaplet) → Leaves S env run.exits.ret (row.exit_to run b) act h → SafeAll W n rest (goal_exits S env run.exits) act h
      goes_on None none held there act h k = subst (λ ss. SafeAll W n ss (goal_exits S env run.exits) act h) (sym (none refl)) k
      goes_on (Some b) none held there act h k =
          subst (λ ss. SafeAll W n ss (goal_exits S env run.exits) act h) (ap (drop 1) next)
          (from_safe defs specs n L more place has apart lemmas env keeps context b (behind run) run.exits held.0 there act h k)

      ways_on : AllByRecursion (HoldsFor defs specs n) (row.last run a context) → Given S defs context env → (x : Exit) (h : Heaplet) → B x h → E x h
      ways_on held there (Normal act) h k = goes_on a ends held there act h k
      ways_on held there (Broke act) h k = k
      ways_on held there (Continued act) h k = k
      ways_on held there (Returned v) h k = k

      module _ (act : m.Act) (h : Heaplet) (stands : Stands S env run.exits.ret run.source act h) where
        -- a branch, under the formula that is true there
        branch : (u : Stmt) → SafeAll W n (flat u) B act h → AllByRecursion (HoldsFor defs specs n) (row.last run a context) → Given S defs context env → Safe W Part n (m.Run u [] act) h E
        branch u safe held there = flat_safe W n u E act h (safe_all_follows W n (flat u) B E (ways_on held there) act h safe)

        taken : (b : Bool) → Truth S.defs S.has_spec env (if b then c.branches.met else c.branches.unmet) → Given S defs context env → AllByRecursion (HoldsFor defs specs n) (row.both run (row.exit_to run a) c.branches s t context) → AllByRecursion (HoldsFor defs specs n) (row.last run a context) →
            Safe W Part n (m.Run (cond b s t) [] act) h E
        taken true is there two held =
            branch s (part_safe defs specs n L more place has apart lemmas env keeps context run.source (row.with_normal run.exits (row.exit_to run a)) c.branches.met (flat s) two.0 there (is, tt) act h stands) held there
        taken false is there two held =
            branch t (part_safe defs specs n L more place has apart lemmas env keeps context run.source (row.with_normal run.exits (row.exit_to run a)) c.branches.unmet (flat t) two.1.0 there (is, tt) act h stands) held there

        divides : SafeAll W n (If' e p (more_of-Stmt s end_of-Stmt) q (more_of-Stmt t end_of-Stmt) ∷ rest) (goal_exits S env run.exits) act h
        divides =
            let met = needs_met defs specs n L more place has apart lemmas env run.context run.source c.needs (divided run a c.branches s t) goals act.blocks act.temps h fit w hold given stands.holds in
            let meets = run_meets L more place defs specs run env act h has (subst AreLaidOut (sym has.structs) laid) given fits bare stands in
            let d = decided S env (seen (program L more place) act.blocks h) act.temps run.source h names meets e c (subst (λ structs. IsCondition structs names e) (sym has.structs) typed)
            (subst (λ structs. condition run.source structs e ≡ Ok c) (sym has.structs) found) met.0 in
            let two = row.both run (row.exit_to run a) c.branches s t context in
            let are : two ++ row.last run a context ≡ w.rest = same_goals (two ++ row.last run a context) w.rest w.behind_is in
            let held = divided_all (HoldsFor defs specs n) two (row.last run a context) (subst (AllByRecursion (HoldsFor defs specs n)) (sym are) met.2) in
            branch_safe W n e s t act h E d.met (record { value = d.value; evaluates = d.is; truth = d.tested }) (taken d.met d.holds met.1 held.0 held.1)

module _ (defs : Defs) (specs : SpecTable) (n : ℕ) (run : r.Run) (laid : AreLaidOut defs.structs) (fits : RunFits defs specs run) (goals : List Goal) (hold : AllByRecursion (HoldsFor defs specs n) goals) where
  module _ (e : Expr) (p q : Unit {0}) (s t : Stmt) (rest : List Stmt) (next : run.rest ≡ If' e p (more_of-Stmt s end_of-Stmt) q (more_of-Stmt t end_of-Stmt) ∷ rest) where
    of_named : (a : Option Assertion) → (a ≡ None → rest ≡ []) → Named run (Divides defs.structs run a e s t) (Ok goals) → HoldsFor defs specs n (Run run)
    of_named a ends row' =
        let named = passed (some_left run.source.existentials) intros_first (Divides defs.structs run a e s t) goals row' in
        let bare = no_more run.source.existentials named.0 in
        let c = of_result (condition run.source defs.structs e) (DividesBy run a s t) goals named.1 in
        let w = needed_of run.context run.source c.0.needs (divided run a c.0.branches s t) goals c.2 in
        record {
          in_each = λ L more place has apart lemmas env given keeps act h stands.
              subst (λ ss. SafeAll (world L more place) n ss (goal_exits (setting L more place) env run.exits) act h) (sym next)
              (divides defs specs n run e p q s t rest laid fits next bare a ends c.0 c.1 goals w hold L more place has apart lemmas env given keeps act h stands);
        }

    of_given : (as' : List Assertion) → Ifs defs.structs run as' e s t (Ok goals) → HoldsFor defs specs n (Run run)
    of_given [] row' =
        let followed = passed (is_followed (behind run)) wrong_goal (Named run (Divides defs.structs run None e s t)) goals row' in
        of_named None (λ i. sym (ap (drop 1) next) ∙ not_followed (behind run) followed.0) followed.1
    of_given (a ∷ []) row' = of_named (Some a) (λ i. absurd cc) row'
    of_given (a ∷ b ∷ more) row' = absurd cc

  of_statement : (as' : List Assertion) (s : Stmt) (rest : List Stmt) → run.rest ≡ s ∷ rest → OfStatement defs.structs run as' s (Ok goals) → HoldsFor defs specs n (Run run)
  of_statement as' (If' e p (more_of-Stmt s end_of-Stmt) q (more_of-Stmt t end_of-Stmt)) rest next row' = of_given e p q s t rest next as' row'
  of_statement as' s rest next row' = absurd cc

  of_next : (as' : List Assertion) (ss : List Stmt) → run.rest ≡ ss → OfNext defs.structs run as' (slice_get ss 0) (Ok goals) → HoldsFor defs specs n (Run run)
  of_next as' [] next row' = absurd cc
  of_next as' (s ∷ rest) next row' = of_statement as' s rest next row'

pub if_sound : (defs : Defs) (specs : SpecTable) (n : ℕ) (goal : Goal) (args : Args) (goals : List Goal) → AreLaidOut defs.structs → IsWellFormed defs specs goal → Row defs.structs goal args (Ok goals) → AllByRecursion (HoldsFor defs specs n) goals → HoldsFor defs specs n goal
if_sound defs specs n (Run run) args goals laid fits row' hold = of_next defs specs n run laid fits goals hold args.assertions run.rest refl row'
if_sound defs specs n (Entail entail) args goals laid fits row' hold = absurd cc
if_sound defs specs n (Pure pure) args goals laid fits row' hold = absurd cc
