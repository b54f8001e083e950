-- `forward_while` is sound.
use Rattle.std.proofs.Common.{◌≡◌, ℕ, ◌+◌, ◌<◌, ◌^◌, suc, Bool, true, false, cond, ◌||◌, List, [], ◌∷◌, drop, length, Option, Some, None, Ok, Err, All, refl, sym, ap, subst, ◌∙◌, slice_get, if◌then◌else◌}
use Rattle.std.specs.Prelude.{bytes_eq}
use Rattle.std.specs.List.{AllByRecursion, list_any}
use Rattle.floyd_clight.specs.declared.syntax.Expr.{Expr}
use Rattle.floyd_clight.specs.declared.syntax.Stmt.{Stmt}
use Rattle.floyd_clight_heap.specs.Heaplet.{Heaplet}
use Rattle.floyd_clight_machine.specs.Exits.{Exit, Normal, Broke, Continued, Returned, Part}
use Rattle.floyd_clight_machine.specs.Machine as m
use Rattle.floyd_clight_runs.specs.Calls.{KeepsBelow, SafeAll, with_normal}
use Rattle.floyd_clight_runs.specs.Needs.{first_exits, second_exits}
use Rattle.floyd_clight_runs.specs.Safe.{Exits, Safe}
use Rattle.floyd_clight_runs.specs.Seen.{seen}
use Rattle.floyd_clight_runs.specs.World.{World}
use Rattle.floyd_clight_runs.proofs.Flats.{flat_safe}
use Rattle.floyd_clight_runs.proofs.Rows.{branch_safe, loop_safe}
use Rattle.floyd_clight_runs.proofs.Safety.{broke}
use Rattle.floyd_clight_typing.specs.Bodies.{names_in}
use Rattle.floyd_clight_typing.specs.Expressions.{Names}
use Rattle.floyd_clight_typing.specs.Statements.{IsCondition}
use Rattle.floyd_tree_values.specs.BuiltIns.{Env}
use Rattle.floyd_tree_values.specs.Data.{Datum}
use Rattle.floyd_truth.specs.Truth.{AllTrue, Truth}
use Rattle.floyd_truth.proofs.OneTruth.{giving}
use Rattle.floyd_assert_trees.specs.declared.assertion.Assertion.{Assertion}
use Rattle.floyd_assert_trees.specs.declared.binder.Binder.{Binder}
use Rattle.floyd_assert_trees.specs.declared.items.Defs.{Defs}
use Rattle.floyd_assert_trees.specs.declared.spec.SpecTable.{SpecTable}
use Rattle.floyd_assert_trees.specs.Meanings.{value_defs}
use Rattle.floyd_assert_changes.specs.Apart.{apart, set_apart}
use Rattle.floyd_assert_changes.specs.Changed.{assertion_fits, has_name}
use Rattle.floyd_assert_meaning.specs.Alike.{Alike}
use Rattle.floyd_assert_meaning.specs.Assertions.{Holds, LocalsHold}
use Rattle.floyd_assert_meaning.specs.Parts.{PartsHold}
use Rattle.floyd_assert_meaning.specs.Settings.{Setting, with_data, with_each}
use Rattle.floyd_assert_meaning.proofs.AlikeLaws.{alike_holds}
use Rattle.floyd_assert_meaning.proofs.Sames.{with_data_is}
use Rattle.floyd_assert_laws.specs.InChanged.{IsSorted, body_nodes}
use Rattle.floyd_formed_return.proofs.Apart.{apart_formed}
use Rattle.floyd_import_laws.proofs.Freed.{freed_alike, freed_allowed}
use Rattle.floyd_goal.specs.Goals.{enriched, intros_first, some_left}
use Rattle.floyd_goal_formulas.specs.Fits.{Fits}
use Rattle.floyd_goal_parts.specs.Rows.{Answer}
use Rattle.floyd_goal_trees.specs.Contexts.{after_command, context_of, scope_of}
use Rattle.floyd_goal_trees.specs.declared.args.Args.{Args}
use Rattle.floyd_goal_trees.specs.declared.context.Context.{Context}
use Rattle.floyd_goal_trees.specs.declared.goal.Goal.{Goal}
use Rattle.floyd_goal_trees.specs.declared.goal.Goal.TheVariants.{Entail, Pure, Run}
use Rattle.floyd_goal_trees.specs.declared.goal.Run as r
use Rattle.floyd_goal_forms.specs.Assertions.{AssertionFits}
use Rattle.floyd_goal_forms.specs.Goals.{IsWellFormed, RunFits}
use Rattle.floyd_goal_forms.specs.Terms.{names_with}
use Rattle.floyd_goal_meaning.specs.declared.linked.Linked.{Linked}
use Rattle.floyd_goal_meaning.specs.GoalHolds.{Given, HoldsFor, LemmasAreTrue, StandAt, Stands, goal_exits}
use Rattle.floyd_goal_meaning.specs.Links.{AreApart, Has}
use Rattle.floyd_goal_meaning.specs.Programs.{Further, Places, program, setting}
use Rattle.floyd_goal_meaning.specs.Worlds.{sight, world}
use Rattle.floyd_goal_laws.proofs.Consequences.{safe_all_follows}
use Rattle.floyd_goal_laws.proofs.Givens.{given_after}
use Rattle.floyd_goal_names.specs.Free.{AreNew}
use Rattle.floyd_goal_names.proofs.NewNames.{follows_names, given_names}
use Rattle.floyd_goal_scopes.proofs.Goals.{other_names}
use Rattle.floyd_entail_soundness.proofs.Putting.{made_is}
use Rattle.floyd_entail_soundness.proofs.Sorted.{assertion_sorted}
use Rattle.floyd_symexpr_soundness.specs.Laws.{AreLaidOut}
use Rattle.floyd_state_laws.proofs.States.{run_meets}
use Rattle.floyd_state_laws.proofs.Statements.{AreTyped, flat_typed, part_typed}
use Rattle.floyd_forward_soundness.proofs.Needs.{Needed, needed_of, needs_met}
use Rattle.floyd_forward_soundness.proofs.Setting.{of_result, passed, same_goals}
use Rattle.floyd_conditions.specs.declared.branches.Condition.{Condition}
use Rattle.floyd_conditions.specs.Conditions.{condition}
use Rattle.floyd_condition_laws.proofs.Deciding.{decided}
use Rattle.floyd_control.specs.ForwardLoop.{entered}
use Rattle.floyd_control.specs.ForwardWhile.{Inside, OfLoop, OfNext, Row, Turns, TurnsBy, TurnsFrom, body_exits, entering, inside, memory_of, turned, while_of}
use Rattle.floyd_control.specs.Parts.{behind, part_goal}
use Rattle.floyd_loop_soundness.proofs.Assertions.{part_safe}
use Rattle.floyd_branch_soundness.proofs.Asking.{sides_fit}
use Rattle.floyd_while_soundness.specs.Laws.{IsInvariant}
use Rattle.floyd_while_soundness.proofs.Beginning.{IsWhile, is_while}
use Rattle.floyd_while_soundness.proofs.Opening.{body_fits, memory_fits, opened_fits}

-- ---- names

pub named_is : (bs : List Binder) (y : List ℕ) → has_name y bs ≡ list_any (bytes_eq y) (names_with bs)
named_is [] y = refl
named_is (b ∷ bs) y = ap (λ t. bytes_eq y b.name || t) (named_is bs y)

pub named_count : (bs : List Binder) → length (names_with bs) ≡ length bs
named_count [] = refl
named_count (b ∷ bs) = ap suc (named_count bs)

stand_there : (env : Env) (f : List ℕ → Datum) (blocks : List m.LocalBlock) → StandAt env blocks → StandAt (giving env f) blocks
stand_there env f [] s = tt
stand_there env f (b ∷ blocks) s = (s.0, stand_there env f blocks s.1)

-- ---- the loop

module _ (defs : Defs) (specs : SpecTable) (n : ℕ) (run : r.Run) (laid : AreLaidOut defs.structs) (fits : RunFits defs specs run) (invariant : Assertion) (known : IsInvariant defs specs run.context invariant) where
  abbrev avoid : List ℕ → Bool
  avoid y = has_name y run.context.variables

  -- with its existentials apart from the variables
  abbrev a : Assertion
  a = apart avoid invariant

  abbrev names : Names
  names = names_in fits.statements.file fits.statements.function

  sorted : IsSorted invariant
  sorted = assertion_sorted defs specs (scope_of run.context) invariant known.fits

  among : (y : List ℕ) → avoid y ≡ true → list_any (bytes_eq y) (names_with run.context.variables) ≡ true
  among y e = sym (named_is run.context.variables y) ∙ e

  few : length (names_with run.context.variables) + body_nodes invariant < 2 ^ 63
  few = subst (λ k. k + body_nodes invariant < 2 ^ 63) (sym (named_count run.context.variables)) known.few

  apart_fits : AssertionFits defs specs (scope_of run.context) a
  apart_fits = apart_formed defs specs (scope_of run.context) avoid (names_with run.context.variables) among invariant few known.fits

  module _ (s : Stmt) (rest : List Stmt) (next : run.rest ≡ s ∷ rest) (e : Expr) (body : List Stmt) (w : IsWhile s e body) where
    loops : run.rest ≡ m.loop w.first w.second ∷ rest
    loops = next ∙ ap (λ t. t ∷ rest) w.is

    typed : IsCondition defs.structs names e
    typed =
        let result = fits.statements.function.result in
        let all = part_typed defs.structs names result fits.statements.part (flat_typed defs.structs names result fits.statements.function.body fits.statements.body.typed) in
        let whole = (subst (AreTyped defs.structs names result) loops all).0 in
        (subst (AreTyped defs.structs names result) w.begins.is (flat_typed defs.structs names result w.first whole.0)).0.0

    module _ (c : Condition) (found : condition (memory_of a) defs.structs e ≡ Ok c) (goals : List Goal) (needed : Needed (inside run.context a) (memory_of a) c.needs (turned run invariant (memory_of a) c body) goals) (enter : HoldsFor defs specs n (entered run (after_command run.context) invariant)) (hold : AllByRecursion (HoldsFor defs specs n) goals) where
      module _ (L : Linked) (more : List Further) (place : Places) (has : Has L defs specs) (separate : AreApart L more place) (lemmas : LemmasAreTrue (setting L more place) defs) (env : Env) (given : Given (setting L more place) defs run.context env)
          (keeps : KeepsBelow (world L more place) (sight L more place specs) n) where
        abbrev S : Setting
        S = setting L more place

        abbrev W : World
        W = world L more place

        -- the ways out of the loop and what follows
        abbrev G : Exits
        G = goal_exits S env run.exits

        abbrev E : Exits
        E = with_normal (SafeAll W n rest G) G

        -- before each test, and behind the loop
        abbrev I : m.Act → Heaplet → Type 0
        I act h = Stands S env run.exits.ret invariant act h

        abbrev Q : m.Act → Heaplet → Type 0
        Q act h = SafeAll W n rest G act h

        -- the ways out of the first part, and of its statement with the test
        abbrev X : Exits
        X = first_exits I Q E

        abbrev Y : Exits
        Y = with_normal (SafeAll W n body X) X

        alike : Alike S env env.variables env.variables a invariant
        alike = freed_alike S env avoid (names_with run.context.variables) among invariant sorted few

        differ : (x : List ℕ) → has_name x a.existentials ≡ true → has_name x run.context.variables ≡ false
        differ x h = freed_allowed S env avoid (names_with run.context.variables) among invariant sorted few x h

        -- the goals with the ways out of the body, and with their own
        abbrev of_body : Goal
        of_body = Run (record run { exits = body_exits run.exits invariant })

        new_in_body : AreNew a.existentials of_body
        new_in_body = other_names defs specs of_body a.existentials (body_fits defs specs run fits invariant known.fits) apart_fits.existentials differ

        new : AreNew a.existentials (Run run)
        new = other_names defs specs (Run run) a.existentials fits apart_fits.existentials differ

        module _ (act : m.Act) (h : Heaplet) (i : I act h) where
          x : Holds S env a act.temps h
          x = (alike_holds S env env.variables env.variables a invariant alike act.temps h).1 i.holds

          abbrev other : Env
          other = giving env (with_each env.variables a.existentials x.witnesses)

          same : with_data env a.existentials x.witnesses ≡ other
          same = with_data_is env env.variables a.existentials x.witnesses

          there : Given S defs (inside run.context a) other
          there = given_names S defs env (Run run) a.existentials new x.witnesses x.sorted a.props given (subst (λ o. AllTrue S.defs S.has_spec o a.props) same x.props)

          here : Stands S other run.exits.ret (memory_of a) act h
          here = record {
            result = i.result;
            blocks = i.blocks;
            distinct = i.distinct;
            places = stand_there env (with_each env.variables a.existentials x.witnesses) act.blocks i.places;
            holds = record {
              witnesses = [];
              sorted = tt;
              props = tt;
              locals = subst (λ o. LocalsHold S.defs o act.temps a.locals) same x.locals;
              parts = subst (λ o. PartsHold S o a.parts h) same x.parts;
            };
          }

          -- the ways out of the body, and of what follows
          body_on : (y : Exit) (k : Heaplet) → goal_exits S other (body_exits run.exits invariant) y k → goal_exits S env (body_exits run.exits invariant) y k
          body_on y k q = (follows_names S defs env of_body a.existentials new_in_body x.witnesses x.sorted run.context).exits y k q

          ways_on : (y : Exit) (k : Heaplet) → goal_exits S env (body_exits run.exits invariant) y k → X y k
          ways_on (Normal b) k q = q
          ways_on (Broke b) k q = absurd q
          ways_on (Continued b) k q = q
          ways_on (Returned v) k q = q

          rest_on : (y : Exit) (k : Heaplet) → goal_exits S other run.exits y k → G y k
          rest_on y k q = (follows_names S defs env (Run run) a.existentials new x.witnesses x.sorted run.context).exits y k q

          abbrev context : Context
          context = enriched (inside run.context a) needed.sides.kept

          abbrev two : List Goal
          two = part_goal context (memory_of a) (body_exits run.exits invariant) c.branches.met body ∷ part_goal context (memory_of a) run.exits c.branches.unmet (behind run) ∷ []

          body_safe : Given S defs context other → AllByRecursion (HoldsFor defs specs n) two → Truth S.defs S.has_spec other c.branches.met → SafeAll W n body X act h
          body_safe met held is =
              safe_all_follows W n body (goal_exits S other (body_exits run.exits invariant)) X (λ y k q. ways_on y k (body_on y k q)) act h
              (part_safe defs specs n L more place has separate lemmas other keeps context (memory_of a) (body_exits run.exits invariant) c.branches.met body held.0 met (is, tt) act h here)

          rest_safe : Given S defs context other → AllByRecursion (HoldsFor defs specs n) two → Truth S.defs S.has_spec other c.branches.unmet → Q act h
          rest_safe met held is =
              subst (λ ss. SafeAll W n ss G act h) (ap (drop 1) next)
              (safe_all_follows W n (behind run) (goal_exits S other run.exits) G rest_on act h
              (part_safe defs specs n L more place has separate lemmas other keeps context (memory_of a) run.exits c.branches.unmet (behind run) held.1.0 met (is, tt) act h here))

          taken : (b : Bool) → Truth S.defs S.has_spec other (if b then c.branches.met else c.branches.unmet) → Given S defs context other → AllByRecursion (HoldsFor defs specs n) two → Safe W Part n (m.Run (cond b w.begins.met w.begins.unmet) [] act) h Y
          taken true is met held = flat_safe W n w.begins.met Y act h (subst (λ ss. SafeAll W n ss Y act h) (sym w.begins.passes') (body_safe met held is))
          taken false is met held =
              flat_safe W n w.begins.unmet Y act h
              (subst (λ ss. SafeAll W n ss Y act h) (sym w.begins.breaks) (broke W n act h (with_normal (SafeAll W n [] Y) Y) (rest_safe met held is)))

          fit : All (Fits (value_defs defs) (scope_of (inside run.context a))) c.needs.sides
          fit = sides_fit defs specs (scope_of (inside run.context a)) (memory_of a) e c (memory_fits defs specs run fits a apart_fits differ) refl typed.test found

          first_safe : Safe W Part n (m.Run w.first [] act) h X
          first_safe =
              let met = needs_met defs specs n L more place has separate lemmas other (inside run.context a) (memory_of a) c.needs (turned run invariant (memory_of a) c body) goals act.blocks act.temps h fit needed hold there here.holds in
              let opened : r.Run = record run { context = inside run.context a; source = memory_of a } in
              let all = opened_fits defs specs run fits a apart_fits differ in
              let formed : RunFits defs specs opened = record { context = all.context; source = all.source; statements = fits.statements; exits = all.exits } in
              let meets = run_meets L more place defs specs opened other act h has (subst AreLaidOut (sym has.structs) laid) there formed refl here in
              let d = decided S other (seen (program L more place) act.blocks h) act.temps (memory_of a) h names meets e c (subst (λ structs. IsCondition structs names e) (sym has.structs) typed)
              (subst (λ structs. condition (memory_of a) structs e ≡ Ok c) (sym has.structs) found) met.0 in
              let held = subst (AllByRecursion (HoldsFor defs specs n)) (sym (same_goals two needed.rest needed.behind_is)) met.2 in
              flat_safe W n w.first X act h
              (subst (λ ss. SafeAll W n ss X act h) (sym w.begins.is)
              (branch_safe W n e w.begins.met w.begins.unmet act h Y d.met (record { value = d.value; evaluates = d.is; truth = d.tested }) (taken d.met d.holds met.1 held)))

        second_safe : (act : m.Act) (h : Heaplet) → I act h → Safe W Part n (m.Run w.second [] act) h (second_exits I Q E)
        second_safe act h i = flat_safe W n w.second (second_exits I Q E) act h (subst (λ ss. SafeAll W n ss (second_exits I Q E) act h) (sym w.ends) i)

        enters : (act : m.Act) (h : Heaplet) → Stands S env run.exits.ret run.source act h → I act h
        enters act h stands = record {
          result = stands.result;
          blocks = stands.blocks;
          distinct = stands.distinct;
          places = stands.places;
          holds = enter.in_each L more place has separate lemmas env (given_after S defs env run.context given) act.temps h stands.holds;
        }

        pub runs_on : (act : m.Act) (h : Heaplet) → Stands S env run.exits.ret run.source act h → SafeAll W n (m.loop w.first w.second ∷ rest) G act h
        runs_on act h stands = loop_safe W w.first w.second I I Q E (λ b k q. q) n first_safe second_safe act h (enters act h stands)

      pub turning : HoldsFor defs specs n (Run run)
      turning = record {
        in_each = λ L more place has separate lemmas env given keeps act h stands.
            subst (λ ss. SafeAll (world L more place) n ss (goal_exits (setting L more place) env run.exits) act h) (sym loops)
            (runs_on L more place has separate lemmas env given keeps act h stands);
      }

-- ---- the row

-- the goals behind the first one
pub record Entered (P : Answer → Type 0) (first : Goal) (goals : List Goal) : Type 0 where
  pub others : List Goal
  pub is : P (Ok others)
  pub goals_are : goals ≡ first ∷ others

pub entered_by : (P : Answer → Type 0) (first : Goal) (goals : List Goal) (inner : Answer) → P inner → ◌≡◌ {A = Answer} (Ok goals) (entering first inner) → Entered P first goals
entered_by P first goals (Ok gs) p e = record { others = gs; is = p; goals_are = same_goals goals (first ∷ gs) e }
entered_by P first goals (Err why) p e = absurd cc

module _ (defs : Defs) (specs : SpecTable) (n : ℕ) (run : r.Run) (laid : AreLaidOut defs.structs) (fits : RunFits defs specs run) (goals : List Goal) (hold : AllByRecursion (HoldsFor defs specs n) goals) (s : Stmt) (rest : List Stmt) (next : run.rest ≡ s ∷ rest) where
  of_turns : (invariant : Assertion) → IsInvariant defs specs run.context invariant → (loop : Expr × List Stmt) → while_of s ≡ Some loop → Turns defs.structs run invariant loop (Ok goals) → HoldsFor defs specs n (Run run)
  of_turns invariant known loop found row' =
      let avoid : List ℕ → Bool = λ y. has_name y run.context.variables in
      let b = of_result (set_apart avoid invariant) (TurnsFrom defs.structs run invariant loop.0 loop.1) goals row' in
      let is : apart avoid invariant ≡ b.0 = made_is assertion_fits (apart avoid invariant) b.0 b.1 in
      let a = apart avoid invariant in
      let turns = subst (λ t. TurnsFrom defs.structs run invariant loop.0 loop.1 t (Ok goals)) {y = a} (sym is) b.2 in
      let c = of_result (condition (memory_of a) defs.structs loop.0) (TurnsBy run invariant a loop.1) goals turns in
      let first = entered run (after_command run.context) invariant in
      let made = entered_by (Inside run invariant a loop.1 c.0) first goals c.2.0 c.2.1 c.2.2 in
      let needed = needed_of (inside run.context a) (memory_of a) c.0.needs (turned run invariant (memory_of a) c.0 loop.1) made.others made.is in
      let all = subst (AllByRecursion (HoldsFor defs specs n)) made.goals_are hold in
      turning defs specs n run laid fits invariant known s rest next loop.0 loop.1 (is_while s loop.0 loop.1 found) c.0 c.1 made.others needed all.0 all.1

  of_loop : (as' : List Assertion) → AllByRecursion (IsInvariant defs specs run.context) as' → (o : Option (Expr × List Stmt)) → while_of s ≡ o → OfLoop defs.structs run as' o (Ok goals) → HoldsFor defs specs n (Run run)
  of_loop [] known None found row' = absurd cc
  of_loop [] known (Some loop) found row' = absurd cc
  of_loop (a ∷ []) known None found row' = absurd cc
  of_loop (a ∷ []) known (Some loop) found row' =
      of_turns a known.0 loop found (passed (some_left run.source.existentials) intros_first (Turns defs.structs run a loop) goals row').1
  of_loop (a ∷ b ∷ more) known None found row' = absurd cc
  of_loop (a ∷ b ∷ more) known (Some loop) found row' = absurd cc

of_next : (defs : Defs) (specs : SpecTable) (n : ℕ) (run : r.Run) → AreLaidOut defs.structs → RunFits defs specs run → (goals : List Goal) → AllByRecursion (HoldsFor defs specs n) goals → (as' : List Assertion) → AllByRecursion (IsInvariant defs specs run.context) as' → (ss : List Stmt) → run.rest ≡ ss →
    OfNext defs.structs run as' (slice_get ss 0) (Ok goals) → HoldsFor defs specs n (Run run)
of_next defs specs n run laid fits goals hold as' known [] next row' = absurd cc
of_next defs specs n run laid fits goals hold as' known (s ∷ rest) next row' = of_loop defs specs n run laid fits goals hold s rest next as' known (while_of s) refl row'

pub while_sound : (defs : Defs) (specs : SpecTable) (n : ℕ) (goal : Goal) (args : Args) (goals : List Goal) → AreLaidOut defs.structs → IsWellFormed defs specs goal → AllByRecursion (IsInvariant defs specs (context_of goal)) args.assertions → Row defs.structs goal args (Ok goals) →
    AllByRecursion (HoldsFor defs specs n) goals → HoldsFor defs specs n goal
while_sound defs specs n (Run run) args goals laid fits known row' hold = of_next defs specs n run laid fits goals hold args.assertions known run.rest refl row'
while_sound defs specs n (Entail entail) args goals laid fits known row' hold = absurd cc
while_sound defs specs n (Pure pure) args goals laid fits known row' hold = absurd cc
