-- `forward` on a set to the term of an expression is sound.
use Rattle.std.proofs.Common.{◌≡◌, ℕ, Bool, true, false, List, [], ◌∷◌, ◌++◌, drop, Some, Result, Ok, Err, slice_get, refl, sym, ap, subst, All}
use Rattle.std.specs.List.{AllByRecursion}
use Rattle.floyd_text.specs.declared.refusal.No.{No}
use Rattle.floyd_int.specs.declared.kinds.Value.{Value}
use Rattle.floyd_clight.specs.declared.syntax.Expr.{Expr}
use Rattle.floyd_clight.specs.declared.syntax.Stmt.{Stmt, Set}
use Rattle.floyd_clight_heap.specs.Heaplet.{Heaplet}
use Rattle.floyd_clight_machine.specs.Machine.{Act, set_in}
use Rattle.floyd_clight_runs.specs.Calls.{KeepsBelow, SafeAll, with_normal}
use Rattle.floyd_clight_runs.specs.Needs.{value_in}
use Rattle.floyd_clight_runs.specs.Seen.{seen}
use Rattle.floyd_clight_runs.proofs.Rows.{set_safe}
use Rattle.floyd_clight_typing.specs.Bodies.{names_in}
use Rattle.floyd_clight_typing.specs.Expressions.{IsTyped}
use Rattle.floyd_tree_sorts.specs.declared.sorts.Sort.{Val as ValSort, Z}
use Rattle.floyd_tree.specs.Plain.{Plain}
use Rattle.floyd_tree_values.specs.BuiltIns.{Env}
use Rattle.floyd_tree_values.specs.Data.{Val}
use Rattle.floyd_tree_values.specs.Means.{Means}
use Rattle.floyd_tree_values.specs.Rules.{AreDistinct, Scope}
use Rattle.floyd_assert_trees.specs.declared.assertion.Assertion.{Assertion}
use Rattle.floyd_assert_trees.specs.declared.assertion.Local.{Local}
use Rattle.floyd_assert_trees.specs.declared.binder.Binder.{Binder}
use Rattle.floyd_assert_trees.specs.declared.items.Defs.{Defs}
use Rattle.floyd_assert_trees.specs.declared.sep.Sep.{Sep}
use Rattle.floyd_assert_trees.specs.declared.sep.Sep.TheVariants.{FieldAt, Padding, Valid, Anything, Predicate}
use Rattle.floyd_assert_trees.specs.declared.spec.SpecTable.{SpecTable}
use Rattle.floyd_assert_trees.specs.Meanings.{value_defs}
use Rattle.floyd_assert_meaning.specs.Settings.{Setting, with_data}
use Rattle.floyd_goal.specs.Goals.{enriched, intros_first, some_left}
use Rattle.floyd_goal.specs.Rows.{Answer}
use Rattle.floyd_goal_parts.specs.Rows.{OfResult, Unless}
use Rattle.floyd_goal_trees.specs.Contexts.{context_of, scope_of}
use Rattle.floyd_goal_trees.specs.declared.context.Context.{Context}
use Rattle.floyd_goal_trees.specs.declared.exits.Exit as e
use Rattle.floyd_goal_trees.specs.declared.exits.Exit.TheVariants as x
use Rattle.floyd_goal_trees.specs.declared.goal.Goal.{Goal}
use Rattle.floyd_goal_trees.specs.declared.goal.Goal.TheVariants.{Run}
use Rattle.floyd_goal_trees.specs.declared.goal.Run as r
use Rattle.floyd_goal_forms.specs.Assertions.{PartFits, PartsFit, Predicates, PredicatesOf, inner_scope, locals_of}
use Rattle.floyd_goal_forms.specs.Goals.{RunFits}
use Rattle.floyd_goal_forms.specs.Starts.{by_rest, run_goal}
use Rattle.floyd_goal_forms.specs.Terms.{TermFits, scope_with}
use Rattle.floyd_goal_meaning.specs.declared.linked.Linked.{Linked}
use Rattle.floyd_goal_meaning.specs.GoalHolds.{Given, HoldsFor, HoldsUnder, Leaves, LemmasAreTrue, Stands, goal_exits}
use Rattle.floyd_goal_meaning.specs.Links.{AreApart, Has}
use Rattle.floyd_goal_meaning.specs.Programs.{Further, Places, program, setting}
use Rattle.floyd_goal_meaning.specs.Worlds.{sight, world}
use Rattle.floyd_symexpr.specs.declared.evaluation.Evaluated.{Evaluated}
use Rattle.floyd_symexpr.specs.Expressions.{evaluate}
use Rattle.floyd_symexpr_forms.specs.Laws.{PartIsSized, SourceFits, TermIn}
use Rattle.floyd_symexpr_forms.proofs.Readings.{evaluation_fits}
use Rattle.floyd_symexpr_soundness.specs.Laws.{AreLaidOut}
use Rattle.floyd_symexpr_soundness.proofs.Evaluating.{expressions_agree}
use Rattle.floyd_state_laws.proofs.States.{run_meets}
use Rattle.floyd_state_laws.proofs.Statements.{AreTyped, flat_typed, part_typed}
use Rattle.floyd_goal_formulas.specs.Fits.{Fits}
use Rattle.floyd_forward.specs.Forward.{OfNext, Row}
use Rattle.floyd_forward.specs.Set.{SetsBy, SetsTerm, Sets, is_read, needs_of, runs_on, set_to, with_temp}
use Rattle.floyd_forward_soundness.specs.Laws.{IsSetToTerm, IsSoundOn}
use Rattle.floyd_forward_soundness.proofs.Locals.{set_locals}
use Rattle.floyd_forward_soundness.proofs.Needs.{Needed, all_of, needed_of, needs_met}

-- ---- rows

pub passed : (b : Bool) (why : No) (Next : Answer → Type 0) (goals : List Goal) → Unless b why Next (Ok goals) → (b ≡ false) × Next (Ok goals)
passed true why Next goals h = absurd cc
passed false why Next goals h = (refl, h)

pub of_result : {A : Type 0} (d : Result A No) (Next : A → Answer → Type 0) (goals : List Goal) → OfResult d Next (Ok goals) → (a : A) × (d ≡ Ok a) × Next a (Ok goals)
of_result (Ok a) Next goals h = (a, refl, h)
of_result (Err why) Next goals h = absurd cc

pub no_more : (bs : List Binder) → some_left bs ≡ false → bs ≡ []
no_more [] e = refl
no_more (b ∷ bs) e = absurd cc

pub same_goals : (gs hs : List Goal) → ◌≡◌ {A = Answer} (Ok gs) (Ok hs) → gs ≡ hs
same_goals gs hs e = cc

-- ---- forms

module _ (defs : Defs) (scope : Scope) where
  numbers_in : (ts : List Plain) → AllByRecursion (TermFits defs scope Z) ts → AllByRecursion (TermIn (value_defs defs) scope Z) ts
  numbers_in [] h = tt
  numbers_in (t ∷ ts) h = (h.0.fits, numbers_in ts h.1)

  pub locals_in : (ls : List Local) → AllByRecursion (λ (l : Local). TermFits defs scope ValSort l.term) ls → AllByRecursion (λ (l : Local). TermIn (value_defs defs) scope ValSort l.term) ls
  locals_in [] h = tt
  locals_in (l ∷ ls) h = (h.0.fits, locals_in ls h.1)

  part_sized : (preds : Predicates) (p : Sep) → PartFits defs scope preds p → PartIsSized (value_defs defs) scope p
  part_sized preds (FieldAt region value) h = numbers_in region.ty.sizes h.region.type.sizes.sizes
  part_sized preds (Padding region) h = tt
  part_sized preds (Valid v) h = tt
  part_sized preds Anything h = tt
  part_sized preds (Predicate name terms) h = tt

  pub parts_sized : (preds : Predicates) (ps : List Sep) → PartsFit defs scope preds ps → AllByRecursion (PartIsSized (value_defs defs) scope) ps
  parts_sized preds [] h = tt
  parts_sized preds (p ∷ ps) h = (part_sized preds p h.0, parts_sized preds ps h.1)

-- a source without existentials is well formed in the scope of the context
module _ (defs : Defs) (specs : SpecTable) (run : r.Run) (fits : RunFits defs specs run) (bare : run.source.existentials ≡ []) where
  pub same_scope : inner_scope run.source (scope_of run.context) ≡ scope_of run.context
  same_scope = ap (λ bs. scope_with bs ++ scope_of run.context) bare

  pub source_fits : SourceFits (value_defs defs) (scope_of run.context) run.source
  source_fits = subst (λ s. SourceFits (value_defs defs) s run.source) same_scope (record {
    locals = locals_in defs (inner_scope run.source (scope_of run.context)) run.source.locals fits.source.locals;
    parts = parts_sized defs (inner_scope run.source (scope_of run.context)) (PredicatesOf defs (inner_scope run.source (scope_of run.context))) run.source.parts fits.source.parts;
  })

-- ---- what is left runs on

rest_context : (run : r.Run) (ss : List Stmt) (exit : e.Exit) → run.context ≡ context_of (by_rest run ss exit)
rest_context run [] x.None = refl
rest_context run [] (x.To a) = refl
rest_context run [] x.End = refl
rest_context run (s ∷ ss) exit = refl

module _ (L : Linked) (more : List Further) (place : Places) (specs : SpecTable) (n : ℕ) (env : Env) where
  abbrev S : Setting
  S = setting L more place

  pub runs_safe : (run : r.Run) → HoldsUnder L more place specs n env (run_goal run) → KeepsBelow (world L more place) (sight L more place specs) n → (act : Act) (h : Heaplet) → Stands S env run.exits.ret run.source act h →
      SafeAll (world L more place) n run.rest (goal_exits S env run.exits) act h
  runs_safe run holds keeps act h stands = by run.rest run.exits.normal refl refl holds
    where
      by : (ss : List Stmt) (exit : e.Exit) → run.rest ≡ ss → run.exits.normal ≡ exit → HoldsUnder L more place specs n env (by_rest run ss exit) → SafeAll (world L more place) n ss (goal_exits S env run.exits) act h
      by [] (x.To a) e f g =
          subst (λ exit. Leaves S env run.exits.ret exit act h) (sym f) (record { result = stands.result; blocks = stands.blocks; distinct = stands.distinct; places = stands.places; holds = g act.temps h stands.holds })
      by [] x.None e f g = subst (λ ss. SafeAll (world L more place) n ss (goal_exits S env run.exits) act h) e (g keeps act h stands)
      by [] x.End e f g = subst (λ ss. SafeAll (world L more place) n ss (goal_exits S env run.exits) act h) e (g keeps act h stands)
      by (s ∷ ss) exit e f g = subst (λ ts. SafeAll (world L more place) n ts (goal_exits S env run.exits) act h) e (g keeps act h stands)

-- behind a statement, what is left is safe from a source from which its goal holds
module _ (defs : Defs) (specs : SpecTable) (n : ℕ) (run : r.Run) (s : Stmt) (rest : List Stmt) (next : run.rest ≡ s ∷ rest) (context : Context) (source : Assertion) (one : HoldsFor defs specs n (runs_on run context source))
    (L : Linked) (more : List Further) (place : Places) (has : Has L defs specs) (apart : AreApart L more place) (lemmas : LemmasAreTrue (setting L more place) defs) (env : Env) (there : Given (setting L more place) defs context env)
    (keeps : KeepsBelow (world L more place) (sight L more place specs) n) where
  pub goes_on : (act : Act) (h : Heaplet) → Stands (setting L more place) env run.exits.ret source act h → SafeAll (world L more place) n rest (goal_exits (setting L more place) env run.exits) act h
  goes_on act h stands =
      let made : r.Run = record run { context = context; source = source; rest = drop 1 run.rest } in
      let holds = one.in_each L more place has apart lemmas env (subst (λ c. Given (setting L more place) defs c env) (rest_context made made.rest made.exits.normal) there) in
      subst (λ ss. SafeAll (world L more place) n ss (goal_exits (setting L more place) env run.exits) act h) (ap (drop 1) next) (runs_safe L more place specs n env made holds keeps act h stands)

-- ---- the set

-- where what is left holds from the source in which the temporary has a term, and the expression has the term's value
module _ (defs : Defs) (specs : SpecTable) (n : ℕ) (run : r.Run) (y : List ℕ) (ex : Expr) (rest : List Stmt) (next : run.rest ≡ Set y ex ∷ rest) (bare : run.source.existentials ≡ []) (distinct : AreDistinct (locals_of run.source)) (t : Plain) (context : Context)
    (one : HoldsFor defs specs n (runs_on run context (with_temp y t run.source)))
    (L : Linked) (more : List Further) (place : Places) (has : Has L defs specs) (apart : AreApart L more place) (lemmas : LemmasAreTrue (setting L more place) defs) (env : Env) (there : Given (setting L more place) defs context env)
    (keeps : KeepsBelow (world L more place) (sight L more place specs) n) (act : Act) (h : Heaplet) (stands : Stands (setting L more place) env run.exits.ret run.source act h)
    (value : Value) (means : Means (setting L more place).defs env t (Val value)) (evaluates : value_in (program L more place) act h ex ≡ Some value) where
  abbrev U : Setting
  U = setting L more place

  pub set_on : SafeAll (world L more place) n (Set y ex ∷ rest) (goal_exits U env run.exits) act h
  set_on =
      let inner = with_data env run.source.existentials stands.holds.witnesses in
      let same_env : inner ≡ env = ap (λ bs. with_data env bs stands.holds.witnesses) bare in
      let later : Stands U env run.exits.ret (with_temp y t run.source) (set_in (Some y) value act) h = record {
        result = stands.result;
        blocks = stands.blocks;
        distinct = stands.distinct;
        places = stands.places;
        holds = record {
          witnesses = stands.holds.witnesses;
          sorted = stands.holds.sorted;
          props = stands.holds.props;
          locals = set_locals U.defs inner act.temps y t value (subst (λ o. Means U.defs o t (Val value)) (sym same_env) means) run.source.locals distinct stands.holds.locals;
          parts = stands.holds.parts;
        };
      } in
      set_safe (world L more place) n y ex act h (with_normal (SafeAll (world L more place) n rest (goal_exits U env run.exits)) (goal_exits U env run.exits))
      (record {
        value = value;
        evaluates = evaluates;
        after = goes_on defs specs n run (Set y ex) rest next context (with_temp y t run.source) one L more place has apart lemmas env there keeps (set_in (Some y) value act) h later;
      })

module _ (defs : Defs) (specs : SpecTable) (n : ℕ) (run : r.Run) (y : List ℕ) (ex : Expr) (rest : List Stmt) (laid : AreLaidOut defs.structs) (fits : RunFits defs specs run) (next : run.rest ≡ Set y ex ∷ rest) (bare : run.source.existentials ≡ []) where
  typed : IsTyped defs.structs (names_in fits.statements.file fits.statements.function) ex
  typed =
      let names = names_in fits.statements.file fits.statements.function in
      let result = fits.statements.function.result in
      (subst (AreTyped defs.structs names result) next (part_typed defs.structs names result fits.statements.part (flat_typed defs.structs names result fits.statements.function.body fits.statements.body.typed))).0.value.typed

  -- the goals behind the needs of a term
  module _ (v : Evaluated) (found : evaluate run.source defs.structs ex ≡ Ok v) (goals : List Goal) (w : Needed run.context run.source (needs_of v) (set_to run y v.term) goals) (hold : AllByRecursion (HoldsFor defs specs n) goals) where
    sides_fit : All (Fits (value_defs defs) (scope_of run.context)) v.sides
    sides_fit = all_of (Fits (value_defs defs) (scope_of run.context)) v.sides (evaluation_fits (value_defs defs) (scope_of run.context) run.source (source_fits defs specs run fits bare) ex v found).1.sides

    module _ (L : Linked) (more : List Further) (place : Places) (has : Has L defs specs) (apart : AreApart L more place) (lemmas : LemmasAreTrue (setting L more place) defs) (env : Env) (given : Given (setting L more place) defs run.context env)
        (keeps : KeepsBelow (world L more place) (sight L more place specs) n) (act : Act) (h : Heaplet) (stands : Stands (setting L more place) env run.exits.ret run.source act h) where
      abbrev T : Setting
      T = setting L more place

      safe : SafeAll (world L more place) n (Set y ex ∷ rest) (goal_exits T env run.exits) act h
      safe =
          let met = needs_met defs specs n L more place has apart lemmas env run.context run.source (needs_of v) (set_to run y v.term) goals act.blocks act.temps h sides_fit w hold given stands.holds in
          let names = names_in fits.statements.file fits.statements.function in
          let meets = run_meets L more place defs specs run env act h has (subst AreLaidOut (sym has.structs) laid) given fits bare stands in
          let own = expressions_agree T env (seen (program L more place) act.blocks h) act.temps run.source h names meets ex v (subst (λ s. IsTyped s names ex) (sym has.structs) typed) (subst (λ s. evaluate run.source s ex ≡ Ok v) (sym has.structs) found) met.0 in
          let context = enriched run.context w.sides.kept in
          let goals_are : runs_on run context (with_temp y v.term run.source) ∷ [] ≡ w.rest = same_goals (runs_on run context (with_temp y v.term run.source) ∷ []) w.rest w.behind_is in
          let one : HoldsFor defs specs n (runs_on run context (with_temp y v.term run.source)) = (subst (AllByRecursion (HoldsFor defs specs n)) (sym goals_are) met.2).0 in
          set_on defs specs n run y ex rest next bare fits.source.temporaries v.term context one L more place has apart lemmas env met.1 keeps act h stands own.agrees.value own.agrees.means own.agrees.is

pub set_sound : (defs : Defs) (specs : SpecTable) (n : ℕ) (run : r.Run) (y : List ℕ) (ex : Expr) (rest : List Stmt) (goals : List Goal) → AreLaidOut defs.structs → RunFits defs specs run → run.rest ≡ Set y ex ∷ rest → is_read ex ≡ false → Row defs.structs (Run run) (Ok goals) →
    AllByRecursion (HoldsFor defs specs n) goals → HoldsFor defs specs n (Run run)
set_sound defs specs n run y ex rest goals laid fits next plain row hold =
    let structs = defs.structs in
    let of_set = passed (some_left run.source.existentials) intros_first (Sets structs run y ex) goals (subst (λ ss. OfNext structs run (slice_get ss 0) (Ok goals)) next row) in
    let bare = no_more run.source.existentials of_set.0 in
    let to_term = of_result (evaluate run.source structs ex) (SetsTerm run y) goals (subst (λ b. SetsBy b structs run y ex (Ok goals)) plain of_set.1) in
    let v = to_term.0 in
    let w = needed_of run.context run.source (needs_of v) (set_to run y v.term) goals to_term.2 in
    record {
      in_each = λ L more place has apart lemmas env given keeps act h stands.
          subst (λ ss. SafeAll (world L more place) n ss (goal_exits (setting L more place) env run.exits) act h) (sym next)
          (safe defs specs n run y ex rest laid fits next bare v to_term.1 goals w hold L more place has apart lemmas env given keeps act h stands);
    }

pub of_set : IsSoundOn IsSetToTerm
of_set defs specs n run (Set x e) rest goals laid fits next is row hold = set_sound defs specs n run x e rest goals laid fits next is row hold
of_set defs specs n run s rest goals laid fits next is row hold = absurd is
