-- A body meets its specification where its start goal holds.
use Rattle.std.proofs.Common.{◌≡◌, ℕ, Bool, true, false, List, [], ◌∷◌, ◌++◌, map, length, refl, sym, ◌∙◌, subst}
use Rattle.std.specs.Prelude.{◌||◌, IsSome, if◌then◌else◌}
use Rattle.std.specs.List.{AllByRecursion, flat_map}
use Rattle.std.proofs.lemmas.Bool.{or_from, or_parts}
use Rattle.std.proofs.lemmas.Option.{same_Some}
use Rattle.floyd_int.specs.declared.kinds.Value.{Value}
use Rattle.floyd_int.specs.declared.kinds.Value.TheVariants.{Vundef}
use Rattle.floyd_ctypes.specs.declared.ctype.CType.{Void}
use Rattle.floyd_ctypes.specs.Has.{has}
use Rattle.floyd_ctypes.specs.Layout.{size}
use Rattle.floyd_ctypes.specs.Structs.{Structs}
use Rattle.floyd_clight.specs.declared.syntax.Stmt.{Stmt}
use Rattle.floyd_clight.specs.declared.unit.Defined.{Defined}
use Rattle.floyd_clight.specs.declared.unit.Local as l
use Rattle.floyd_clight.specs.Flat.{flat}
use Rattle.floyd_clight_heap.specs.Heaplet.{Heaplet}
use Rattle.floyd_clight_heap.proofs.Sums.{comm}
use Rattle.floyd_clight_machine.specs.Evaluation.{unset}
use Rattle.floyd_clight_machine.specs.Exits.{Exit, Normal, Broke, Continued, Returned}
use Rattle.floyd_clight_machine.specs.Machine.{Act, Fun}
use Rattle.floyd_clight_machine.specs.Types.{same_type}
use Rattle.floyd_clight_runs.specs.Calls.{KeepsBelow, ReturnOf, SafeAll, StartsWith, body_exits, start_act}
use Rattle.floyd_clight_runs.specs.Safe.{Exits}
use Rattle.floyd_clight_typing.specs.Bodies.{IsObject, local_names}
use Rattle.floyd_tree.specs.Formulas.{formulas}
use Rattle.floyd_tree.specs.Locals.{formulas_have_local, has_local, have_local}
use Rattle.floyd_tree.specs.Plain.{Plain, plains}
use Rattle.floyd_tree_values.specs.BuiltIns.{Env}
use Rattle.floyd_tree_values.specs.Data.{Datum}
use Rattle.floyd_tree_values.specs.Rules.{AreDistinct}
use Rattle.floyd_assert_trees.specs.declared.assertion.Assertion.{Assertion}
use Rattle.floyd_assert_trees.specs.declared.items.Defs.{Defs}
use Rattle.floyd_assert_trees.specs.declared.spec.Funspec.{Funspec}
use Rattle.floyd_assert_trees.specs.declared.spec.SpecTable.{SpecTable}
use Rattle.floyd_assert_changes.specs.Changed.{part_terms}
use Rattle.floyd_assert_laws.specs.Bare.{IsBare, post_has_local, with_local}
use Rattle.floyd_assert_laws.proofs.BareLaws.{all_bare, parts_bare, post_bare, props_bare}
use Rattle.floyd_assert_meaning.specs.Assertions.{LocalsHold}
use Rattle.floyd_assert_meaning.specs.Settings.{Setting, item_env}
use Rattle.floyd_assert_meaning.specs.Specifications.{Post, PostHolds, Pre}
use Rattle.floyd_assert_meaning.proofs.Orders.{together}
use Rattle.floyd_goal_forms.specs.Items.{spec_has_local}
use Rattle.floyd_goal_forms.specs.Starts.{as_assertion, block_part, by_rest, end_of, function_start, never, parameters_are}
use Rattle.floyd_goal_forms.specs.Terms.{names_with}
use Rattle.floyd_goal_laws.proofs.Consequences.{safe_all_follows}
use Rattle.floyd_goal_meaning.specs.declared.linked.Linked.{Linked}
use Rattle.floyd_goal_meaning.specs.GoalHolds.{Given, HoldsFor, HoldsIn, Leaves, LemmasAreTrue, Stands, goal_exits}
use Rattle.floyd_goal_meaning.specs.Links.{AreApart, Has}
use Rattle.floyd_goal_meaning.specs.Programs.{Further, Places, setting}
use Rattle.floyd_goal_meaning.specs.Worlds.{sight, world}
use Rattle.floyd_goal_trees.specs.declared.context.Mark.TheVariants as m
use Rattle.floyd_goal_trees.specs.declared.exits.Exit as e
use Rattle.floyd_goal_trees.specs.declared.exits.Exit.TheVariants as x
use Rattle.floyd_goal_trees.specs.declared.exits.Return as r
use Rattle.floyd_goal_trees.specs.declared.goal.Goal.TheVariants.{Run}
use Rattle.floyd_goal_trees.specs.declared.goal.Run as run
use Rattle.floyd_start_laws.specs.Laws.{BodyMeets, Enters, ends}
use Rattle.floyd_start_laws.proofs.Entering.{blocks_hold, bound, local_of, same_names, stand}
use Rattle.floyd_start_laws.proofs.ItemEnvs.{item_global, item_suits}

sized_objects : (structs : Structs) (ls : List l.Local) → AllByRecursion (λ (b : l.Local). IsObject structs b.ctype) ls → AllByRecursion (λ (b : l.Local). IsSome (size structs b.ctype)) ls
sized_objects structs [] h = tt
sized_objects structs (b ∷ ls) h = (h.0.0, sized_objects structs ls h.1)

-- what occurs nowhere in a specification
pub record NoLocal (spec : Funspec) : Type 0 where
  pub props : formulas_have_local (formulas spec.pre.props) ≡ false
  pub params : have_local (plains spec.pre.params) ≡ false
  pub parts : have_local (plains (flat_map part_terms spec.pre.parts)) ≡ false
  pub post : post_has_local spec.post ≡ false

front_bare : (ts us : List Plain) → have_local (plains (ts ++ us)) ≡ false → (have_local (plains ts) ≡ false) × (have_local (plains us) ≡ false)
front_bare [] us e = (refl, e)
front_bare (t ∷ ts) us e =
    let p = or_parts (has_local t) (have_local (plains (ts ++ us))) e in
    let q = front_bare ts us p.1 in
    (or_from (has_local t) (have_local (plains ts)) p.0 q.0, q.1)

pub no_local : (spec : Funspec) → spec_has_local spec ≡ false → NoLocal spec
no_local spec e =
    let props = formulas_have_local (formulas spec.pre.props) in
    let terms = have_local (plains (spec.pre.params ++ flat_map part_terms spec.pre.parts)) in
    let p = or_parts (props || terms) (post_has_local spec.post) e in
    let q = or_parts props terms p.0 in
    let t = front_bare spec.pre.params (flat_map part_terms spec.pre.parts) q.1 in
    record { props = q.0; params = t.0; parts = t.1; post = p.1 }

-- the start goal of a body, as a run
abbrev returning : Funspec → Defined → r.Return
returning spec d = record { post = as_assertion spec.post; value = spec.post.value; result = d.result; blocks = d.blocks }

abbrev start_source : Structs → Funspec → Defined → Assertion
start_source structs spec d = record { existentials = []; props = []; locals = parameters_are d.parameters spec.pre.params; parts = spec.pre.parts ++ map (block_part structs) d.blocks }

abbrev start_run : Structs → Funspec → Defined → run.Run
start_run structs spec d = record {
  context = record { variables = spec.with; hypotheses = spec.pre.props; mark = m.Plain };
  source = start_source structs spec d;
  rest = flat d.body;
  exits = record { normal = end_of d.result; brk = x.None; cont = x.None; ret = returning spec d };
}

module _ (L : Linked) (more : List Further) (place : Places) (specs : SpecTable) (n : ℕ) where
  abbrev S : Setting
  S = setting L more place

  -- a run of no statements is the goal that its exit follows
  as_run : (defs : Defs) (a : run.Run) (ss : List Stmt) (exit : e.Exit) → a.rest ≡ ss → a.exits.normal ≡ exit → HoldsIn L more place defs specs n (by_rest a ss exit) → HoldsIn L more place defs specs n (Run a)
  as_run defs a [] (x.To t) rest normal h = λ env given keeps act k s.
      let met : Leaves S env a.exits.ret (x.To t) act k = record {
        result = s.result;
        blocks = s.blocks;
        distinct = s.distinct;
        places = s.places;
        holds = h env given act.temps k s.holds;
      } in
      subst (λ ss. SafeAll (world L more place) n ss (goal_exits S env a.exits) act k) (sym rest)
      (subst (λ y. Leaves S env a.exits.ret y act k) (sym normal) met)
  as_run defs a [] x.None rest normal h = h
  as_run defs a [] x.End rest normal h = h
  as_run defs a (s ∷ ss) x.None rest normal h = h
  as_run defs a (s ∷ ss) (x.To t) rest normal h = h
  as_run defs a (s ∷ ss) x.End rest normal h = h

  module _ (spec : Funspec) (d : Defined) (bare : IsBare S) (none : NoLocal spec) (ds : List Datum) where
    abbrev item : Env
    item = item_env S spec.with ds

    abbrev ret : r.Return
    ret = returning spec d

    -- the ways out of the start goal are those of the body
    module _ (env : Env) (back : with_local env item.local ≡ item) (E : Exits) (after : (v : Value) (k : Heaplet) → has d.result v ≡ true → Post S spec ds v k → E (Returned v) k) where
      given_back : (v : Value) (k : Heaplet) → has d.result v ≡ true → PostHolds S env spec.post v k → E (Returned v) k
      given_back v k t p = after v k t (subst (λ y. PostHolds S y spec.post v k) back (post_bare S bare env item.local spec.post v k none.post p))

      at_end : (act : Act) (k : Heaplet) (void : Bool) → Leaves S env ret (if void then x.End else x.To never) act k → ReturnOf act k E Vundef
      at_end act k true p = record { locals = p.locals; rest = p.rest; joins = p.joins; owned = p.owned; typed = p.typed; after = given_back Vundef p.rest p.after.0 p.after.1 }
      at_end act k false p = absurd p.holds.props.0

      ways_out : (exit : Exit) (k : Heaplet) → goal_exits S env (record { normal = end_of d.result; brk = x.None; cont = x.None; ret = ret }) exit k → body_exits E exit k
      ways_out (Normal act) k p = at_end act k (same_type d.result Void) p
      ways_out (Broke act) k p = absurd p
      ways_out (Continued act) k p = absurd p
      ways_out (Returned v) k p = given_back v k p.0 p.1

    abbrev function : Fun
    function = record { params = d.parameters; result = d.result; locals = d.blocks; body = d.body }

    pub body_starts : (defs : Defs) → Has L defs specs → AreApart L more place → LemmasAreTrue S defs → AreDistinct (names_with spec.with) → AreDistinct (local_names d.parameters) → AreDistinct (local_names d.blocks) → length d.parameters ≡ length spec.pre.params → AllByRecursion (λ (b : l.Local). IsObject L.structs b.ctype) d.blocks → HoldsFor defs specs n (function_start L.structs spec d) → KeepsBelow (world L more place) (sight L more place specs) n →
        (args : List Value) (h : Heaplet) → Pre S spec ds args h → (E : Exits) → ((v : Value) (k : Heaplet) → has d.result v ≡ true → Post S spec ds v k → E (Returned v) k) → StartsWith (world L more place) function args h E n
    body_starts defs has' apart lemmas withs parameters blocks count sized holds keeps args h pre E after =
        let own = bound S.defs item d.parameters spec.pre.params args unset parameters count pre.params in
        record {
          temps = own.temps;
          binds = own.is;
          sized = sized_objects L.structs d.blocks sized;
          runs = λ bs locals whole are distinct fresh joins.
              let env = with_local item (local_of bs) in
              let again = bound S.defs env d.parameters spec.pre.params args unset parameters count (all_bare S bare pre.params (local_of bs) none.params) in
              let same : again.temps ≡ own.temps = same_Some again.temps own.temps (sym again.is ∙ own.is) in
              let places = stand item bs (subst AreDistinct (sym (same_names L.structs d.blocks bs are)) blocks) in
              let given : Given S defs (record { variables = spec.with; hypotheses = spec.pre.props; mark = m.Plain }) env = record {
                suits = record { each = (item_suits S spec.with ds pre.sorted withs).each };
                global = item_global S spec.with ds;
                hypotheses = props_bare S bare item (local_of bs) spec.pre.props none.props pre.props;
                mark = tt;
              } in
              let source : Stands S env ret (start_source L.structs spec d) (start_act function own.temps bs) whole = record {
                result = refl;
                blocks = are;
                distinct = distinct;
                places = places;
                holds = record {
                  witnesses = [];
                  sorted = tt;
                  props = tt;
                  locals = subst (λ t. LocalsHold S.defs env t (parameters_are d.parameters spec.pre.params)) same again.holds;
                  parts = together S env spec.pre.parts (map (block_part L.structs) d.blocks) h locals whole (comm joins) (parts_bare S bare pre.parts (local_of bs) none.parts) (blocks_hold S env d.blocks bs locals are sized places fresh);
                };
              } in
              let goal = as_run defs (start_run L.structs spec d) (flat d.body) (end_of d.result) refl refl (holds.in_each L more place has' apart lemmas) in
              safe_all_follows (world L more place) n (flat d.body) (goal_exits S env (start_run L.structs spec d).exits) (body_exits E) (ways_out env refl E after) (start_act function own.temps bs) whole
              (goal env given keeps (start_act function own.temps bs) whole source);
        }

-- the body meets its specification
pub body_meets : (L : Linked) (more : List Further) (place : Places) (defs : Defs) (specs : SpecTable) (n : ℕ) (spec : Funspec) (d : Defined) → Has L defs specs → AreApart L more place → LemmasAreTrue (setting L more place) defs → IsBare (setting L more place) → Enters defs.structs spec d → HoldsFor defs specs n (function_start defs.structs spec d) → BodyMeets L more place specs n spec d
body_meets L more place defs specs n spec d has' apart lemmas bare enters holds keeps ds args h pre =
    let same : defs.structs ≡ L.structs = sym has'.structs in
    body_starts L more place specs n spec d bare (no_local spec enters.no_local) ds defs has' apart lemmas enters.withs enters.parameters enters.blocks enters.count
    (subst (λ structs. AllByRecursion (λ (b : l.Local). IsObject structs b.ctype) d.blocks) same enters.sized)
    (subst (λ structs. HoldsFor defs specs n (function_start structs spec d)) same holds) keeps args h pre (ends (setting L more place) spec d ds) (λ v k t p. (t, p))
