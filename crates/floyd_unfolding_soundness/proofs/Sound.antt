-- A goal of any kind holds where it does with what calls mean in their place.
use Rattle.std.proofs.Common.{◌≡◌, ◌↔◌, inl, ℕ, Bool, true, false, cond, List, [], ◌∷◌, map, Option, Some, None, Result, Ok, Err, refl, sym, ap₂, subst}
use Rattle.std.specs.Prelude.{bytes_eq}
use Rattle.std.specs.List.{AllByRecursion}
use Rattle.std.specs.Map.{lookup}
use Rattle.std.specs.Option.{unwrap_or}
use Rattle.std.proofs.lemmas.Slice.Eq.{bytes_eq-Decides}
use Rattle.floyd_int.specs.declared.kinds.Value.{Value}
use Rattle.floyd_text.specs.declared.refusal.No.{No}
use Rattle.floyd_clight_heap.specs.Heaplet.{Heaplet}
use Rattle.floyd_tree.specs.Formulas.{PlainFormula}
use Rattle.floyd_tree_values.specs.BuiltIns.{Env}
use Rattle.floyd_tree_values.specs.Funs as f
use Rattle.floyd_tree_values.specs.Rules.{Scope, Suits}
use Rattle.floyd_assert_trees.specs.declared.assertion.Assertion.{Assertion}
use Rattle.floyd_assert_trees.specs.declared.items.Defs.{Defs}
use Rattle.floyd_assert_trees.specs.declared.items.Fun.{Fun}
use Rattle.floyd_assert_trees.specs.declared.spec.SpecTable.{SpecTable}
use Rattle.floyd_assert_trees.specs.Meanings.{fun_of}
use Rattle.floyd_assert_meaning.specs.Assertions.{Holds}
use Rattle.floyd_assert_meaning.specs.Settings.{Setting}
use Rattle.floyd_goal.specs.Goals.{intros_first, is_pending}
use Rattle.floyd_goal_trees.specs.Contexts.{after_command, scope_of}
use Rattle.floyd_goal_trees.specs.declared.args.Args.{Args}
use Rattle.floyd_goal_trees.specs.declared.goal.Entail.{Entail}
use Rattle.floyd_goal_trees.specs.declared.goal.Goal.{Goal}
use Rattle.floyd_goal_trees.specs.declared.goal.Goal.TheVariants as g
use Rattle.floyd_goal_trees.specs.declared.goal.Pure.{Pure}
use Rattle.floyd_goal_trees.specs.declared.goal.Run.{Run}
use Rattle.floyd_goal_forms.specs.Assertions.{AssertionFits}
use Rattle.floyd_goal_forms.specs.Goals.{IsWellFormed}
use Rattle.floyd_goal_forms.specs.Items.{ItemsFit}
use Rattle.floyd_goal_forms.specs.Terms.{FormulaFits}
use Rattle.floyd_goal_meaning.specs.declared.linked.Linked.{Linked}
use Rattle.floyd_goal_meaning.specs.GoalHolds.{HoldsFor}
use Rattle.floyd_goal_meaning.specs.Links.{Has}
use Rattle.floyd_goal_meaning.specs.Programs.{Further, Places, setting}
use Rattle.floyd_goal_laws.specs.Following.{Follows}
use Rattle.floyd_goal_laws.proofs.Consequences.{all_in, from_one}
use Rattle.floyd_goal_laws.proofs.Givens.{given_after}
use Rattle.floyd_goal_laws.proofs.Growing.{fits_program}
use Rattle.floyd_pure_formulas.specs.Rows.{Answer}
use Rattle.floyd_pure_formulas.proofs.Rowing.{goals_are, no_goals, passed}
use Rattle.floyd_pure_rewriting.specs.Changing.{entail_by, no_occurrence, pure_by, run_by}
use Rattle.floyd_pure_unfolding.specs.Row.{Row, unfolded_by, unfolded_goal}
use Rattle.floyd_simplifying_laws.proofs.Formed.{fit_there}
use Rattle.floyd_unfolding.specs.Assertions.{assertion_unfolded}
use Rattle.floyd_unfolding.specs.Calls.{TakesTerms}
use Rattle.floyd_unfolding.specs.Unfolded.{formula_unfolded}
use Rattle.floyd_unfolding_laws.proofs.Taking.{takes}
use Rattle.floyd_unfolding_soundness.proofs.AssertionsUnfolded.{assertion_kept}
use Rattle.floyd_unfolding_soundness.proofs.FormulasUnfolded.{formula_kept}

-- ---- the FUN of the name in the program

pub fun_there : (all : List (List ℕ × Fun)) (name : List ℕ) (own : Fun) → lookup (bytes_eq name) all ≡ Some own → f.fun_of (map fun_of all) name ≡ Some (fun_of (name, own))
fun_there [] name own e = absurd cc
fun_there (x ∷ all) name own e = by (fun_there all name own) (bytes_eq name x.0) refl e
  where
    by : (lookup (bytes_eq name) all ≡ Some own → f.fun_of (map fun_of all) name ≡ Some (fun_of (name, own))) → (c : Bool) → bytes_eq name x.0 ≡ c → cond c (Some x.1) (lookup (bytes_eq name) all) ≡ Some own → cond c (Some (fun_of x)) (f.fun_of (map fun_of all) name) ≡ Some (fun_of (name, own))
    by go true i q = let same : x.1 ≡ own = cc in ap₂ (λ (n : List ℕ) (y : Fun). Some (fun_of (n, y))) (sym ((bytes_eq-Decides name x.0).0 i)) same
    by go false i q = go q

-- ---- the goals of the row

abbrev run_after : Run → Assertion → Goal
run_after run source = g.Run (record run { context = after_command run.context; source = source })

abbrev entail_after : Entail → Option Assertion → Option Assertion → Goal
entail_after entail source target =
    g.Entail (record { context = after_command entail.context; source = unwrap_or source entail.source; target = unwrap_or target entail.target })

abbrev pure_after : Pure → PlainFormula → Goal
pure_after pure target = g.Pure (record { context = after_command pure.context; target = target })

run_goals : (run : Run) (x : Result (Option Assertion) No) (goals : List Goal) → Ok goals ≡ run_by run x → (made : Assertion) × (x ≡ Ok (Some made)) × (goals ≡ run_after run made ∷ [])
run_goals run (Ok (Some made)) goals e = (made, refl, goals_are goals (run_after run made ∷ []) e)
run_goals run (Ok None) goals e = absurd (no_goals goals no_occurrence e)
run_goals run (Err refusal) goals e = absurd (no_goals goals refusal e)

entail_goals : (entail : Entail) (x y : Result (Option Assertion) No) (goals : List Goal) → Ok goals ≡ entail_by entail x y → (p : Option Assertion) × (q : Option Assertion) × (x ≡ Ok p) × (y ≡ Ok q) × (goals ≡ entail_after entail p q ∷ [])
entail_goals entail (Err refusal) y goals e = absurd (no_goals goals refusal e)
entail_goals entail (Ok None) (Err refusal) goals e = absurd (no_goals goals refusal e)
entail_goals entail (Ok (Some a)) (Err refusal) goals e = absurd (no_goals goals refusal e)
entail_goals entail (Ok None) (Ok None) goals e = absurd (no_goals goals no_occurrence e)
entail_goals entail (Ok None) (Ok (Some b)) goals e = (None, Some b, refl, refl, goals_are goals (entail_after entail None (Some b) ∷ []) e)
entail_goals entail (Ok (Some a)) (Ok q) goals e = (Some a, q, refl, refl, goals_are goals (entail_after entail (Some a) q ∷ []) e)

pure_goals : (pure : Pure) (x : Result (Option PlainFormula) No) (goals : List Goal) → Ok goals ≡ pure_by pure x → (made : PlainFormula) × (x ≡ Ok (Some made)) × (goals ≡ pure_after pure made ∷ [])
pure_goals pure (Ok (Some made)) goals e = (made, refl, goals_are goals (pure_after pure made ∷ []) e)
pure_goals pure (Ok None) goals e = absurd (no_goals goals no_occurrence e)
pure_goals pure (Err refusal) goals e = absurd (no_goals goals refusal e)

-- ---- what follows

module _ (L : Linked) (more : List Further) (place : Places) (defs : Defs) (specs : SpecTable) (has : Has L defs specs) (env : Env) (name : List ℕ) (own : Fun) (takes_terms : TakesTerms own) (is : lookup (bytes_eq name) defs.funs ≡ Some own) where
  abbrev S : Setting
  S = setting L more place

  there : f.fun_of S.defs.funs name ≡ Some (fun_of (name, own))
  there = has.funs name (fun_of (name, own)) (fun_there defs.funs name own is)

  kept : (scope : Scope) (a made : Assertion) (temps : List ℕ → Value) (h : Heaplet) → Suits scope env → AssertionFits defs specs scope a → assertion_unfolded name own a ≡ Ok (Some made) → Holds S env made temps h ↔ Holds S env a temps h
  kept scope a made temps h suits fits e = assertion_kept S env has.rules name own takes_terms there scope a made temps h suits (fit_there L defs specs has scope a fits) e

  kept_or : (scope : Scope) (a : Assertion) (made : Option Assertion) (temps : List ℕ → Value) (h : Heaplet) → Suits scope env → AssertionFits defs specs scope a → assertion_unfolded name own a ≡ Ok made → Holds S env (unwrap_or made a) temps h ↔ Holds S env a temps h
  kept_or scope a None temps h suits fits e = (λ p. p, λ p. p)
  kept_or scope a (Some made) temps h suits fits e = kept scope a made temps h suits fits e

  run_follows : (run : Run) (made : Assertion) → Suits (scope_of run.context) env → AssertionFits defs specs (scope_of run.context) run.source → assertion_unfolded name own run.source ≡ Ok (Some made) → Follows S env env (g.Run run) (run_after run made)
  run_follows run made suits fits e = record {
    rest = refl;
    source = λ act h s. record {
      result = s.result;
      blocks = s.blocks;
      distinct = s.distinct;
      places = s.places;
      holds = (kept (scope_of run.context) run.source made act.temps h suits fits e).1 s.holds;
    };
    exits = λ x h p. p;
  }

  entail_follows : (entail : Entail) (p q : Option Assertion) → Suits (scope_of entail.context) env → AssertionFits defs specs (scope_of entail.context) entail.source → AssertionFits defs specs (scope_of entail.context) entail.target →
      assertion_unfolded name own entail.source ≡ Ok p → assertion_unfolded name own entail.target ≡ Ok q → Follows S env env (g.Entail entail) (entail_after entail p q)
  entail_follows entail p q suits source target e i = record {
    source = λ temps h s. (kept_or (scope_of entail.context) entail.source p temps h suits source e).1 s;
    target = λ temps h t. (kept_or (scope_of entail.context) entail.target q temps h suits target i).0 t;
  }

  pure_follows : (pure : Pure) (made : PlainFormula) → Suits (scope_of pure.context) env → FormulaFits defs specs (scope_of pure.context) pure.target → formula_unfolded name own pure.target ≡ Ok (Some made) → Follows S env env (g.Pure pure) (pure_after pure made)
  pure_follows pure made suits fits e =
      let fit = fits_program L defs specs has (scope_of pure.context) pure.target fits.fits in
      λ t. (formula_kept S.defs S.has_spec env has.rules name own takes_terms there (scope_of pure.context) env.variables suits pure.target fit.sorted fit.allowed (Some made) e).0 t

-- ---- the command

module _ (defs : Defs) (specs : SpecTable) (n : ℕ) (name : List ℕ) (own : Fun) (items : ItemsFit defs specs) (is : lookup (bytes_eq name) defs.funs ≡ Some own) (goals : List Goal) where
  own_takes : TakesTerms own
  own_takes = takes defs items.funs name own is

  goal_sound : (goal : Goal) → IsWellFormed defs specs goal → Ok goals ≡ unfolded_goal name own goal → AllByRecursion (HoldsFor defs specs n) goals → HoldsFor defs specs n goal
  goal_sound (g.Run run) formed row h =
      let p = run_goals run (assertion_unfolded name own run.source) goals row in
      record {
        in_each = λ L more place has apart lemmas env given.
            from_one L more place defs specs n env (g.Run run) (run_after run p.0 ∷ [])
            (inl (env, given_after (setting L more place) defs env run.context given, run_follows L more place defs specs has env name own own_takes is run p.0 given.suits formed.source p.1))
            (all_in L more place defs specs n (run_after run p.0 ∷ []) has apart lemmas (subst (AllByRecursion (HoldsFor defs specs n)) p.2 h));
      }
  goal_sound (g.Entail entail) formed row h =
      let p = entail_goals entail (assertion_unfolded name own entail.source) (assertion_unfolded name own entail.target) goals row in
      record {
        in_each = λ L more place has apart lemmas env given.
            from_one L more place defs specs n env (g.Entail entail) (entail_after entail p.0 p.1 ∷ [])
            (inl (env, given_after (setting L more place) defs env entail.context given, entail_follows L more place defs specs has env name own own_takes is entail p.0 p.1 given.suits formed.source formed.target p.2 p.3))
            (all_in L more place defs specs n (entail_after entail p.0 p.1 ∷ []) has apart lemmas (subst (AllByRecursion (HoldsFor defs specs n)) p.4 h));
      }
  goal_sound (g.Pure pure) formed row h =
      let p = pure_goals pure (formula_unfolded name own pure.target) goals row in
      record {
        in_each = λ L more place has apart lemmas env given.
            from_one L more place defs specs n env (g.Pure pure) (pure_after pure p.0 ∷ [])
            (inl (env, given_after (setting L more place) defs env pure.context given, pure_follows L more place defs specs has env name own own_takes is pure p.0 given.suits formed.target p.1))
            (all_in L more place defs specs n (pure_after pure p.0 ∷ []) has apart lemmas (subst (AllByRecursion (HoldsFor defs specs n)) p.2 h));
      }

pub unfold_fun_sound : (defs : Defs) (specs : SpecTable) (n : ℕ) (goal : Goal) (args : Args) (goals : List Goal) → ItemsFit defs specs → IsWellFormed defs specs goal → Row defs goal args (Ok goals) → AllByRecursion (HoldsFor defs specs n) goals → HoldsFor defs specs n goal
unfold_fun_sound defs specs n goal args goals items formed row h =
    by (lookup (bytes_eq args.name) defs.funs) refl (passed (is_pending goal) intros_first (λ given. given ≡ unfolded_by args.name (lookup (bytes_eq args.name) defs.funs) goal) goals row)
  where
    by : (o : Option Fun) → lookup (bytes_eq args.name) defs.funs ≡ o → ◌≡◌ {A = Answer} (Ok goals) (unfolded_by args.name o goal) → HoldsFor defs specs n goal
    by None i e = absurd (no_goals goals no_occurrence e)
    by (Some own) i e = goal_sound defs specs n args.name own items i goals goal formed e h
