-- `forward_loop` is sound.
use Rattle.std.proofs.Common.{◌≡◌, ℕ, List, [], ◌∷◌, drop, Ok, refl, sym, ap, subst, slice_get}
use Rattle.std.specs.List.{AllByRecursion}
use Rattle.floyd_clight.specs.declared.syntax.Stmt.{Stmt, Loop', end_of-Stmt, more_of-Stmt}
use Rattle.floyd_clight.specs.Flat.{flat}
use Rattle.floyd_clight_heap.specs.Heaplet.{Heaplet}
use Rattle.floyd_clight_machine.specs.Exits.{Exit, Normal, Broke, Continued, Returned, Part}
use Rattle.floyd_clight_machine.specs.Machine as m
use Rattle.floyd_clight_runs.specs.Calls.{KeepsBelow, SafeAll, with_normal}
use Rattle.floyd_clight_runs.specs.Needs.{first_exits, second_exits}
use Rattle.floyd_clight_runs.specs.Safe.{Exits, Safe}
use Rattle.floyd_clight_runs.specs.World.{World}
use Rattle.floyd_clight_runs.proofs.Flats.{flat_safe}
use Rattle.floyd_clight_runs.proofs.Rows.{loop_safe}
use Rattle.floyd_clight_runs.proofs.Safety.{conseq}
use Rattle.floyd_tree_values.specs.BuiltIns.{Env}
use Rattle.floyd_assert_trees.specs.declared.assertion.Assertion.{Assertion}
use Rattle.floyd_assert_trees.specs.declared.items.Defs.{Defs}
use Rattle.floyd_assert_trees.specs.declared.spec.SpecTable.{SpecTable}
use Rattle.floyd_assert_meaning.specs.Settings.{Setting}
use Rattle.floyd_goal.specs.Goals.{intros_first, some_left, wrong_goal}
use Rattle.floyd_goal_trees.specs.Contexts.{after_command}
use Rattle.floyd_goal_trees.specs.declared.args.Args.{Args}
use Rattle.floyd_goal_trees.specs.declared.context.Context.{Context}
use Rattle.floyd_goal_trees.specs.declared.goal.Goal.{Goal}
use Rattle.floyd_goal_trees.specs.declared.goal.Goal.TheVariants.{Entail, Pure, Run}
use Rattle.floyd_goal_trees.specs.declared.goal.Run as r
use Rattle.floyd_goal_meaning.specs.declared.linked.Linked.{Linked}
use Rattle.floyd_goal_meaning.specs.GoalHolds.{Given, HoldsFor, LemmasAreTrue, Stands, goal_exits}
use Rattle.floyd_goal_meaning.specs.Links.{AreApart, Has}
use Rattle.floyd_goal_meaning.specs.Programs.{Further, Places, setting}
use Rattle.floyd_goal_meaning.specs.Worlds.{sight, world}
use Rattle.floyd_goal_laws.proofs.Givens.{given_after}
use Rattle.floyd_forward_soundness.proofs.Setting.{passed, same_goals}
use Rattle.floyd_control.specs.ForwardIf.{is_followed}
use Rattle.floyd_control.specs.ForwardLoop as row
use Rattle.floyd_control.specs.ForwardLoop.{Given as Asked, Loops, LoopsWith, OfNext, OfStatement, Row, looped}
use Rattle.floyd_control.specs.Parts.{Named, behind}
use Rattle.floyd_loop_soundness.proofs.Assertions.{from_safe}

module _ (defs : Defs) (specs : SpecTable) (n : ℕ) (run : r.Run) (asked : Asked) (first second : Stmt) (rest : List Stmt) (next : run.rest ≡ m.loop first second ∷ rest)
    (hold : AllByRecursion (HoldsFor defs specs n) (looped run (after_command run.context) asked first second)) where
  module _ (L : Linked) (more : List Further) (place : Places) (has : Has L defs specs) (apart : AreApart L more place) (lemmas : LemmasAreTrue (setting L more place) defs) (env : Env) (given : Given (setting L more place) defs run.context env)
      (keeps : KeepsBelow (world L more place) (sight L more place specs) n) where
    abbrev S : Setting
    S = setting L more place

    abbrev W : World
    W = world L more place

    abbrev context : Context
    context = after_command run.context

    -- the ways out of the loop, and those of its parts
    abbrev E : Exits
    E = with_normal (SafeAll W n rest (goal_exits S env run.exits)) (goal_exits S env run.exits)

    abbrev E1 : Exits
    E1 = goal_exits S env (row.first_exits run.exits asked)

    abbrev E2 : Exits
    E2 = goal_exits S env (row.second_exits run.exits asked)

    -- before the loop, between its parts, and behind it
    abbrev I : m.Act → Heaplet → Type 0
    I act h = Stands S env run.exits.ret asked.invariant act h

    abbrev C : m.Act → Heaplet → Type 0
    C act h = Stands S env run.exits.ret asked.between act h

    abbrev Q : m.Act → Heaplet → Type 0
    Q act h = Stands S env run.exits.ret asked.left act h

    there : Given S defs context env
    there = given_after S defs env run.context given

    first_on : (x : Exit) (h : Heaplet) → E1 x h → first_exits C Q E x h
    first_on (Normal act) h p = p
    first_on (Broke act) h p = p
    first_on (Continued act) h p = p
    first_on (Returned v) h p = p

    second_on : (x : Exit) (h : Heaplet) → E2 x h → second_exits I Q E x h
    second_on (Normal act) h p = p
    second_on (Broke act) h p = p
    second_on (Continued act) h p = p
    second_on (Returned v) h p = p

    first_safe : (act : m.Act) (h : Heaplet) → I act h → Safe W Part n (m.Run first [] act) h (first_exits C Q E)
    first_safe act h i =
        conseq W Part n (m.Run first [] act) h E1 (first_exits C Q E) first_on
        (flat_safe W n first E1 act h (from_safe defs specs n L more place has apart lemmas env keeps context asked.invariant (flat first) (row.first_exits run.exits asked) hold.1.0 there act h i))

    second_safe : (act : m.Act) (h : Heaplet) → C act h → Safe W Part n (m.Run second [] act) h (second_exits I Q E)
    second_safe act h c =
        conseq W Part n (m.Run second [] act) h E2 (second_exits I Q E) second_on
        (flat_safe W n second E2 act h (from_safe defs specs n L more place has apart lemmas env keeps context asked.between (flat second) (row.second_exits run.exits asked) hold.1.1.0 there act h c))

    left_safe : (act : m.Act) (h : Heaplet) → Q act h → E (Normal act) h
    left_safe act h q =
        subst (λ ss. SafeAll W n ss (goal_exits S env run.exits) act h) (ap (drop 1) next)
        (from_safe defs specs n L more place has apart lemmas env keeps context asked.left (behind run) run.exits hold.1.1.1.0 there act h q)

    entered : (act : m.Act) (h : Heaplet) → Stands S env run.exits.ret run.source act h → I act h
    entered act h stands = record {
      result = stands.result;
      blocks = stands.blocks;
      distinct = stands.distinct;
      places = stands.places;
      holds = hold.0.in_each L more place has apart lemmas env there act.temps h stands.holds;
    }

    pub runs_on : (act : m.Act) (h : Heaplet) → Stands S env run.exits.ret run.source act h → SafeAll W n (m.loop first second ∷ rest) (goal_exits S env run.exits) act h
    runs_on act h stands = loop_safe W first second I C Q E left_safe n first_safe second_safe act h (entered act h stands)

  pub looping : HoldsFor defs specs n (Run run)
  looping = record {
    in_each = λ L more place has apart lemmas env given keeps act h stands.
        subst (λ ss. SafeAll (world L more place) n ss (goal_exits (setting L more place) env run.exits) act h) (sym next)
        (runs_on L more place has apart lemmas env given keeps act h stands);
  }

module _ (defs : Defs) (specs : SpecTable) (n : ℕ) (run : r.Run) (goals : List Goal) (hold : AllByRecursion (HoldsFor defs specs n) goals) where
  of_named : (asked : Asked) (first second : Stmt) (rest : List Stmt) → run.rest ≡ m.loop first second ∷ rest → Named run (Loops run asked first second) (Ok goals) → HoldsFor defs specs n (Run run)
  of_named asked first second rest next row' =
      let made = passed (some_left run.source.existentials) intros_first (Loops run asked first second) goals row' in
      looping defs specs n run asked first second rest next
      (subst (AllByRecursion (HoldsFor defs specs n)) (same_goals goals (looped run (after_command run.context) asked first second) made.1) hold)

  of_given : (as' : List Assertion) (first second : Stmt) (rest : List Stmt) → run.rest ≡ m.loop first second ∷ rest → LoopsWith run as' first second (Ok goals) → HoldsFor defs specs n (Run run)
  of_given [] first second rest next row' = absurd cc
  of_given (a ∷ []) first second rest next row' = absurd cc
  of_given (a ∷ q ∷ []) first second rest next row' =
      let asked : Asked = record { invariant = a; between = a; left = q } in
      of_named asked first second rest next (passed (is_followed (flat second)) wrong_goal (Named run (Loops run asked first second)) goals row').1
  of_given (a ∷ c ∷ q ∷ []) first second rest next row' = of_named (record { invariant = a; between = c; left = q }) first second rest next row'
  of_given (a ∷ c ∷ q ∷ b ∷ bs) first second rest next row' = absurd cc

  of_statement : (as' : List Assertion) (s : Stmt) (rest : List Stmt) → run.rest ≡ s ∷ rest → OfStatement run as' s (Ok goals) → HoldsFor defs specs n (Run run)
  of_statement as' (Loop' p (more_of-Stmt first end_of-Stmt) q (more_of-Stmt second end_of-Stmt)) rest next row' = of_given as' first second rest next row'
  of_statement as' s rest next row' = absurd cc

  of_next : (as' : List Assertion) (ss : List Stmt) → run.rest ≡ ss → OfNext run as' (slice_get ss 0) (Ok goals) → HoldsFor defs specs n (Run run)
  of_next as' [] next row' = absurd cc
  of_next as' (s ∷ rest) next row' = of_statement as' s rest next row'

pub loop_sound : (defs : Defs) (specs : SpecTable) (n : ℕ) (goal : Goal) (args : Args) (goals : List Goal) → Row goal args (Ok goals) → AllByRecursion (HoldsFor defs specs n) goals → HoldsFor defs specs n goal
loop_sound defs specs n (Run run) args goals row' hold = of_next defs specs n run goals hold args.assertions run.rest refl row'
loop_sound defs specs n (Entail entail) args goals row' hold = absurd cc
loop_sound defs specs n (Pure pure) args goals row' hold = absurd cc
