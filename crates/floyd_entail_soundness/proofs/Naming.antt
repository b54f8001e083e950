-- `Intros`: the goal with names for the existentials of its source.
use Rattle.std.proofs.Common.{◌≡◌, ◌⊎◌, inl, inr, ℕ, ◌+◌, ◌<◌, ◌≤◌, ◌^◌, Bool, true, false, not, ◌&&◌, ◌||◌, List, [], ◌∷◌, ◌++◌, length, map, Option, Some, None, Ok, refl, sym, ap, ap₂, subst, ◌∙◌, arith, cond, eqb-true, true≢false}
use Rattle.std.specs.Prelude.{if◌then◌else◌, bytes_eq, nat_eq}
use Rattle.std.specs.List.{AllByRecursion, list_all, list_any}
use Rattle.std.specs.Map.{lookup}
use Rattle.std.proofs.lemmas.Bool.{and_parts, or_cases, or_left, or_parts, or_right}
use Rattle.std.proofs.lemmas.List.Folds.{list_any-append}
use Rattle.std.proofs.lemmas.Slice.Eq.{bytes_eq-Decides}
use Rattle.floyd_int.specs.declared.kinds.Value.{Value}
use Rattle.floyd_clight_heap.specs.Heaplet.{Heaplet}
use Rattle.floyd_clight_machine.specs.Machine.{LocalBlock}
use Rattle.floyd_tree_sorts.specs.declared.heads.Head.TheVariants.{Variable}
use Rattle.floyd_tree.specs.Formulas.{PlainFormula, all_well_sorted, formula_sizes, formulas, well_sorted}
use Rattle.floyd_tree.specs.MadeFormulas.{formula_fits}
use Rattle.floyd_tree.specs.Plain.{Plain, At, Done}
use Rattle.floyd_tree_values.specs.BuiltIns.{Env}
use Rattle.floyd_tree_values.specs.Data.{Datum}
use Rattle.floyd_tree_values.specs.Means.{Defs as Values, Means, built_in, none}
use Rattle.floyd_tree_values.specs.Rules.{AreDistinct, IsOneOf}
use Rattle.floyd_truth.specs.Laws.{Changed, IsAfter, nodes}
use Rattle.floyd_truth.specs.Replace.{FormulasSortsAgree, puts, replaced_formula}
use Rattle.floyd_truth.specs.Truth.{AllTrue}
use Rattle.floyd_truth.proofs.Fresh.{not_true}
use Rattle.floyd_truth.proofs.InChanged.{true_in_changed}
use Rattle.floyd_truth.proofs.OneTruth.{giving}
use Rattle.floyd_assert_trees.specs.declared.assertion.Assertion.{Assertion}
use Rattle.floyd_assert_trees.specs.declared.binder.Binder.{Binder}
use Rattle.floyd_assert_trees.specs.declared.items.Defs.{Defs}
use Rattle.floyd_assert_trees.specs.declared.spec.SpecTable.{SpecTable}
use Rattle.floyd_assert_changes.specs.Changed.{assertion_after, assertion_fits, assertion_with, body_mentions, has_name}
use Rattle.floyd_assert_changes.specs.Substituted.{formulas_with}
use Rattle.floyd_assert_meaning.specs.Assertions.{Holds, LocalsHold}
use Rattle.floyd_assert_meaning.specs.Laws.{AgreeWhere}
use Rattle.floyd_assert_meaning.specs.Parts.{PartsHold}
use Rattle.floyd_assert_meaning.specs.Settings.{AreFor, Setting, binder_sorts, with_data, with_each}
use Rattle.floyd_assert_meaning.proofs.AlikeLaws.{alike_holds}
use Rattle.floyd_assert_meaning.proofs.Sames.{other_sorts, with_data_is}
use Rattle.floyd_assert_laws.specs.Free.{assertion_mentions}
use Rattle.floyd_assert_laws.specs.InChanged.{IsSorted, body_nodes}
use Rattle.floyd_assert_laws.proofs.FreeLaws.{agree_each, free_alike}
use Rattle.floyd_assert_laws.proofs.Replaced.{assertion_changed}
use Rattle.floyd_goal_trees.specs.Contexts.{context_of, scope_of}
use Rattle.floyd_goal_trees.specs.declared.args.Args.{Args}
use Rattle.floyd_goal_trees.specs.declared.goal.Entail as e
use Rattle.floyd_goal_trees.specs.declared.goal.Goal.{Goal}
use Rattle.floyd_goal_trees.specs.declared.goal.Goal.TheVariants.{Run, Entail, Pure}
use Rattle.floyd_goal_trees.specs.declared.goal.Run as r
use Rattle.floyd_goal_forms.specs.Goals.{IsWellFormed}
use Rattle.floyd_goal_meaning.specs.GoalHolds.{HoldsFor, StandAt, goal_exits}
use Rattle.floyd_goal_meaning.specs.Programs.{setting}
use Rattle.floyd_goal_meaning.specs.Worlds.{world}
use Rattle.floyd_goal_laws.proofs.Consequences.{safe_all_follows}
use Rattle.floyd_goal_names.specs.Free.{AreNew, exits_mention, goal_mentions}
use Rattle.floyd_goal_names.specs.Names.{with_names}
use Rattle.floyd_goal_names.proofs.NewNames.{each_other, follows_names, given_names}
use Rattle.floyd_goal_scopes.proofs.Goals.{other_names}
use Rattle.floyd_goal_fits.proofs.Goals.{names_agree}
use Rattle.floyd_goal_parts.specs.Rows.{Answer}
use Rattle.floyd_goal_parts.specs.Sources.{from_source}
use Rattle.floyd_entail.specs.Intros.{ByNames, IsOpened, Opens, PairsSortsAgree, Row, UnlessTaken, WithMemory, bare, by_names, first_taken, is_taken, new_variables, opened_context, wrong_names}
use Rattle.floyd_entail_soundness.specs.Rows.{HasFewNodes}
use Rattle.floyd_entail_soundness.proofs.Placing.{same_Ok}
use Rattle.floyd_entail_soundness.proofs.Putting.{made_is}
use Rattle.floyd_entail_soundness.proofs.Sorted.{assertion_sorted}
use Rattle.floyd_entail_soundness.proofs.Sources.{of_result}
use Rattle.floyd_entail_soundness.proofs.Validating.{passed}

-- ---- names that are not taken

abbrev name_of : Binder → List ℕ
name_of b = b.name

one_of_has : (vs : List Binder) (v : List ℕ) → IsOneOf (map name_of vs) v → has_name v vs ≡ true
one_of_has [] v h = absurd h
one_of_has (b ∷ vs) v (inl e) = or_left (bytes_eq v b.name) (has_name v vs) ((bytes_eq-Decides v b.name).1 e)
one_of_has (b ∷ vs) v (inr h) = or_right (bytes_eq v b.name) (has_name v vs) (one_of_has vs v h)

-- the names are distinct, and each is none of the variables and none of those before
record AreFree (vars : List Binder) (before : List (List ℕ)) (vs : List Binder) : Type 0 where
  pub distinct : AreDistinct (map name_of vs)
  pub free : (v : List ℕ) → has_name v vs ≡ true → (has_name v vars ≡ false) × (list_any (bytes_eq v) before ≡ false)

-- what is not among names and one more is not among these names, nor is it that one
apart_from : (before : List (List ℕ)) (x v : List ℕ) → list_any (bytes_eq v) (before ++ x ∷ []) ≡ false → (list_any (bytes_eq v) before ≡ false) × (bytes_eq v x ≡ false)
apart_from before x v e =
    let p = or_parts (list_any (bytes_eq v) before) (list_any (bytes_eq v) (x ∷ [])) (sym (list_any-append (bytes_eq v) before (x ∷ [])) ∙ e) in
    (p.0, (or_parts (bytes_eq v x) false p.1).0)

one_more : (vars : List Binder) (before : List (List ℕ)) (b : Binder) (x : List ℕ) (vs : List Binder) → is_taken vars before x ≡ false → AreFree vars (before ++ x ∷ []) vs → AreFree vars before (record { name = x; sort = b.sort } ∷ vs)
one_more vars before b x vs e f =
    let p = or_parts (has_name x vars) (list_any (bytes_eq x) before) e in
    record {
      distinct = (λ h. true≢false (sym ((bytes_eq-Decides x x).1 refl) ∙ (apart_from before x x (f.free x (one_of_has vs x h)).1).1), f.distinct);
      free = λ v h. by v p (or_cases (bytes_eq v x) (has_name v vs) h);
    }
  where
    by : (v : List ℕ) → (has_name x vars ≡ false) × (list_any (bytes_eq x) before ≡ false) → (bytes_eq v x ≡ true) ⊎ (has_name v vs ≡ true) → (has_name v vars ≡ false) × (list_any (bytes_eq v) before ≡ false)
    by v p (inl i) = subst (λ y. (has_name y vars ≡ false) × (list_any (bytes_eq y) before ≡ false)) (sym ((bytes_eq-Decides v x).0 i)) p
    by v p (inr i) =
        let q = f.free v i in
        (q.0, (apart_from before x v q.1).0)

names_free : (vars : List Binder) (before : List (List ℕ)) (bs : List Binder) (names : List (List ℕ)) → first_taken vars before names ≡ None → AreFree vars before (new_variables bs names)
names_free vars before [] names e = record { distinct = tt; free = λ v h. absurd (true≢false (sym h)) }
names_free vars before (b ∷ bs) [] e = record { distinct = tt; free = λ v h. absurd (true≢false (sym h)) }
names_free vars before (b ∷ bs) (x ∷ names) e = by (names_free vars (before ++ x ∷ []) bs names) (is_taken vars before x) refl e
  where
    by : (first_taken vars (before ++ x ∷ []) names ≡ None → AreFree vars (before ++ x ∷ []) (new_variables bs names)) → (t : Bool) → is_taken vars before x ≡ t → (if t then Some x else first_taken vars (before ++ x ∷ []) names) ≡ None →
        AreFree vars before (new_variables (b ∷ bs) (x ∷ names))
    by next true f g = absurd cc
    by next false f g = one_more vars before b x (new_variables bs names) f (next g)

-- ---- data for the names

same_sorts : (bs : List Binder) (names : List (List ℕ)) → length names ≡ length bs → binder_sorts bs ≡ binder_sorts (new_variables bs names)
same_sorts [] names e = refl
same_sorts (b ∷ bs) [] e = absurd (omega (arith, e))
same_sorts (b ∷ bs) (x ∷ names) e = ap (λ ss. b.sort ∷ ss) (same_sorts bs names (omega (arith, e)))

-- these data, one by one
abbrev HaveData : (List ℕ → Datum) → List Binder → List Datum → Type 0
HaveData f [] ds = Unit {0}
HaveData f (b ∷ bs) [] = Unit {0}
HaveData f (b ∷ bs) (d ∷ ds) = (f b.name ≡ d) × HaveData f bs ds

not_there : (vs : List Binder) (v : List ℕ) → ¬ IsOneOf (map name_of vs) v → has_name v vs ≡ false
not_there [] v h = refl
not_there (b ∷ vs) v h = by (bytes_eq v b.name) refl (not_there vs v (λ i. h (inr i)))
  where
    by : (t : Bool) → bytes_eq v b.name ≡ t → has_name v vs ≡ false → (t || has_name v vs) ≡ false
    by true f g = absurd (h (inl ((bytes_eq-Decides v b.name).0 f)))
    by false f g = g

abbrev put_one : (List ℕ → Datum) → List ℕ → Datum → List ℕ → Datum
put_one f x d = λ y. if bytes_eq y x then d else f y

first_data : (f : List ℕ → Datum) (x : List ℕ) (d : Datum) → put_one f x d x ≡ d
first_data f x d = ap (λ t. if t then d else f x) ((bytes_eq-Decides x x).1 refl)

each_has : (vs : List Binder) (f : List ℕ → Datum) (ds : List Datum) → AreDistinct (map name_of vs) → HaveData (with_each f vs ds) vs ds
each_has [] f ds u = tt
each_has (b ∷ vs) f [] u = tt
each_has (b ∷ vs) f (d ∷ ds) u =
    (each_other vs (put_one f b.name d) ds b.name (not_there vs b.name u.0) ∙ first_data f b.name d, each_has vs (put_one f b.name d) ds u.1)

-- each existential means what its name means
names_changed : (defs : Values) (env : Env) (bs : List Binder) (names : List (List ℕ)) (ds : List Datum) (g : List ℕ → Datum) → length names ≡ length bs → AreFor bs ds → AreDistinct (map name_of bs) → HaveData env.variables (new_variables bs names) ds →
    (x : List ℕ) → IsAfter defs env (lookup (bytes_eq x) (by_names bs names)) (g x) (with_each g bs ds x)
names_changed defs env [] names ds g l s u h x = refl
names_changed defs env (b ∷ bs) [] ds g l s u h x = absurd (omega (arith, l))
names_changed defs env (b ∷ bs) (y ∷ names) [] g l s u h x = absurd s
names_changed defs env (b ∷ bs) (y ∷ names) (d ∷ ds) g l s u h x =
    by (bytes_eq x b.name) refl (names_changed defs env bs names ds (put_one g b.name d) (omega (arith, l)) s.1 u.1 h.1 x)
  where
    by : (t : Bool) → bytes_eq x b.name ≡ t → IsAfter defs env (lookup (bytes_eq x) (by_names bs names)) (put_one g b.name d x) (with_each (put_one g b.name d) bs ds x) →
        IsAfter defs env (cond t (Some (At (Variable y b.sort) Done)) (lookup (bytes_eq x) (by_names bs names))) (g x) (with_each (put_one g b.name d) bs ds x)
    by true f k =
        let same : x ≡ b.name = (bytes_eq-Decides x b.name).0 f in
        let alone : has_name x bs ≡ false = subst (λ z. has_name z bs ≡ false) (sym same) (not_there bs b.name u.0) in
        let is : with_each (put_one g b.name d) bs ds x ≡ d = each_other bs (put_one g b.name d) ds x alone ∙ ap (λ c. if c then d else g x) f in
        subst (Means defs env (At (Variable y b.sort) Done)) (h.0 ∙ sym is) (built_in {head = Variable y b.sort} {s = b.sort} {ds = []} refl refl none)
    by false f k = subst (λ z. IsAfter defs env (lookup (bytes_eq x) (by_names bs names)) z (with_each (put_one g b.name d) bs ds x)) (ap (λ c. if c then d else g x) f) k

-- ---- how many nodes

pairs_small : (bs : List Binder) (names : List (List ℕ)) → nodes (by_names bs names) ≤ length bs
pairs_small [] names = omega arith
pairs_small (b ∷ bs) [] = omega arith
pairs_small (b ∷ bs) (x ∷ names) = omega (arith, pairs_small bs names)

-- ---- the source

-- without its existentials
abbrev opened : Assertion → Assertion
opened a = record a { existentials = [] }

and_true : (b : Bool) → (b && not false) ≡ true → b ≡ true
and_true true e = refl
and_true false e = absurd cc

and_both : (b c : Bool) → b ≡ true → c ≡ false → (b && not c) ≡ true
and_both true false e f = refl
and_both true true e f = absurd cc
and_both false c e f = absurd cc

module _ (S : Setting) (env : Env) (goal : Goal) (source : Assertion) (names : List (List ℕ)) (ds : List Datum) where
  abbrev bs : List Binder
  bs = source.existentials

  abbrev vs : List Binder
  vs = new_variables source.existentials names

  abbrev pairs : List (List ℕ × Plain)
  pairs = by_names source.existentials names

  -- data for the names
  abbrev given : List ℕ → Datum
  given = with_each env.variables vs ds

  -- and besides for the existentials
  abbrev all_data : List ℕ → Datum
  all_data = with_each given bs ds

  module _ (count : length names ≡ length source.existentials) (sorted : AreFor source.existentials ds) (new : AreNew (new_variables source.existentials names) goal) (mentioned : (v : List ℕ) → assertion_mentions source v ≡ true → goal_mentions goal v ≡ true) (distinct : AreDistinct (map name_of source.existentials)) where
    -- what is free in the source has no new datum
    agree : AgreeWhere (assertion_mentions source) env.variables given
    agree v i = sym (each_other vs env.variables ds v (not_true (has_name v vs) (λ h. true≢false (sym (mentioned v i) ∙ new.in_goal v h))))

    agree_below : AgreeWhere (assertion_mentions (opened source)) (with_each env.variables bs ds) all_data
    agree_below v i = agree_each (body_mentions source) bs env.variables given agree ds sorted v (and_true (body_mentions source v) i)

    -- it holds with data for the existentials
    opened_holds : (temps : List ℕ → Value) (h : Heaplet) (x : Holds S env source temps h) → x.witnesses ≡ ds → Holds S (giving env all_data) (opened source) temps h
    opened_holds temps h x same =
        let here : Holds S (giving env (with_each env.variables bs ds)) (opened source) temps h = record {
          witnesses = [];
          sorted = tt;
          props = subst (λ v. AllTrue S.defs S.has_spec v source.props) (with_data_is env env.variables bs ds) (subst (λ ws. AllTrue S.defs S.has_spec (with_data env bs ws) source.props) same x.props);
          locals = subst (λ v. LocalsHold S.defs v temps source.locals) (with_data_is env env.variables bs ds) (subst (λ ws. LocalsHold S.defs (with_data env bs ws) temps source.locals) same x.locals);
          parts = subst (λ v. PartsHold S v source.parts h) (with_data_is env env.variables bs ds) (subst (λ ws. PartsHold S (with_data env bs ws) source.parts h) same x.parts);
        } in
        (alike_holds S env (with_each env.variables bs ds) all_data (opened source) (opened source) (free_alike S env (with_each env.variables bs ds) all_data (opened source) agree_below) temps h).0 here

    changed : Changed S.defs (giving env given) pairs all_data
    changed x = names_changed S.defs (giving env given) bs names ds given count sorted distinct (each_has vs env.variables ds new.distinct) x

    module _ (small : body_nodes source < 2 ^ 63) (fine : IsSorted source) (agrees : PairsSortsAgree source (by_names source.existentials names)) where
      props_after : (fs : List PlainFormula) → all_well_sorted (formulas fs) ≡ true → formula_sizes (formulas fs) + length bs < 2 ^ 63 → FormulasSortsAgree (puts pairs) (formulas fs) → AllTrue S.defs S.has_spec (giving env all_data) fs → AllTrue S.defs S.has_spec (giving env given) (map (replaced_formula (puts pairs)) fs)
      props_after [] w l k t = tt
      props_after (f ∷ fs) w l k t =
          let few = pairs_small bs names in
          let p = and_parts (well_sorted f) (all_well_sorted (formulas fs)) w in (
            (true_in_changed S.defs (giving env given) pairs all_data changed S.has_spec f p.0 (omega (arith, l, few)) k.0).1 t.0,
            props_after fs p.1 (omega (arith, l)) k.1 t.1,
          )

      bare_sorted : IsSorted (bare source)
      bare_sorted = record { props = refl; terms = fine.terms }

      bare_small : nodes pairs + body_nodes (bare source) < 2 ^ 63
      bare_small =
          let few = pairs_small bs names in
          omega (arith, small, few)

      -- PROP, and LOCAL and SEP, hold with the names
      pub named_props : (temps : List ℕ → Value) (h : Heaplet) (x : Holds S env source temps h) → x.witnesses ≡ ds → AllTrue S.defs S.has_spec (giving env given) (map (replaced_formula (puts pairs)) source.props)
      named_props temps h x same = props_after source.props fine.props (omega (arith, small)) agrees.0 (opened_holds temps h x same).props

      pub named_memory : (temps : List ℕ → Value) (h : Heaplet) (x : Holds S env source temps h) → x.witnesses ≡ ds → Holds S (giving env given) (assertion_after (puts pairs) (bare source)) temps h
      named_memory temps h x same =
          let o = opened_holds temps h x same in
          let here : Holds S (giving env all_data) (bare source) temps h = record { witnesses = []; sorted = tt; props = tt; locals = o.locals; parts = o.parts } in
          let alike = assertion_changed S (giving env given) pairs all_data changed (bare source) bare_sorted bare_small agrees.1 in
          (alike_holds S (giving env given) given all_data (assertion_after (puts pairs) (bare source)) (bare source) alike temps h).1 here

-- ---- the command

stand_there : (env : Env) (f : List ℕ → Datum) (blocks : List LocalBlock) → StandAt env blocks → StandAt (giving env f) blocks
stand_there env f [] s = tt
stand_there env f (b ∷ blocks) s = (s.0, stand_there env f blocks s.1)

-- what the row made of a goal with a source
record Made (goal : Goal) (source : Assertion) (names : List (List ℕ)) (goals : List Goal) : Type 0 where
  pub count : length names ≡ length source.existentials
  pub free : first_taken (context_of goal).variables [] names ≡ None
  pub goals_are : goals ≡ from_source goal (opened_context (context_of goal) (new_variables source.existentials names) (map (replaced_formula (puts (by_names source.existentials names))) source.props)) (assertion_after (puts (by_names source.existentials names)) (bare source)) ∷ []

not_false : (b : Bool) → not b ≡ false → b ≡ true
not_false true e = refl
not_false false e = absurd cc

none_taken : (o : Option (List ℕ)) (Next : Answer → Type 0) (goals : List Goal) → UnlessTaken o Next (Ok goals) → (o ≡ None) × Next (Ok goals)
none_taken None Next goals h = (refl, h)
none_taken (Some x) Next goals h = absurd cc

made : (goal : Goal) (source : Assertion) (names : List (List ℕ)) (goals : List Goal) → ByNames goal source names (Ok goals) → Made goal source names goals
made goal source names goals row =
    let pairs = by_names source.existentials names in
    let vs = new_variables source.existentials names in
    let taken = first_taken (context_of goal).variables [] names in
    let p = passed (not (nat_eq (length names) (length source.existentials))) wrong_names (UnlessTaken taken (Opens goal source names)) goals row in
    let q = none_taken taken (Opens goal source names) goals p.1 in
    let r = of_result (formulas_with pairs source.props) (WithMemory goal source names pairs) goals q.1 in
    let s = of_result (assertion_with pairs (bare source)) (IsOpened goal source names r.0) goals r.2 in
    let props : map (replaced_formula (puts pairs)) source.props ≡ r.0 = made_is (list_all formula_fits) (map (replaced_formula (puts pairs)) source.props) r.0 r.1 in
    let memory : assertion_after (puts pairs) (bare source) ≡ s.0 = made_is assertion_fits (assertion_after (puts pairs) (bare source)) s.0 s.1 in
    record {
      count = eqb-true (length names) (length source.existentials) (not_false (nat_eq (length names) (length source.existentials)) p.0);
      free = q.0;
      goals_are = same_Ok {A = List Goal} goals (from_source goal (opened_context (context_of goal) vs r.0) s.0 ∷ []) s.2
          ∙ ap₂ (λ fs a. from_source goal (opened_context (context_of goal) vs fs) a ∷ []) (sym props) (sym memory);
    }

-- the names are new in a well-formed goal
names_new : (defs : Defs) (specs : SpecTable) (goal : Goal) (bs : List Binder) (names : List (List ℕ)) → IsWellFormed defs specs goal → first_taken (context_of goal).variables [] names ≡ None → AreNew (new_variables bs names) goal
names_new defs specs goal bs names formed e =
    let f = names_free (context_of goal).variables [] bs names e in
    other_names defs specs goal (new_variables bs names) formed f.distinct (λ v h. (f.free v h).0)

run_sound : (defs : Defs) (specs : SpecTable) (n : ℕ) (run : r.Run) (names : List (List ℕ)) (goals : List Goal) → IsWellFormed defs specs (Run run) → body_nodes run.source < 2 ^ 63 → Made (Run run) run.source names goals → AllByRecursion (HoldsFor defs specs n) goals → HoldsFor defs specs n (Run run)
run_sound defs specs n run names goals formed small m h =
    let goal = Run run in
    let source = run.source in
    let vs = new_variables source.existentials names in
    let pairs = by_names source.existentials names in
    let props = map (replaced_formula (puts pairs)) source.props in
    let memory = assertion_after (puts pairs) (bare source) in
    let after = from_source goal (opened_context run.context vs props) memory in
    let one : HoldsFor defs specs n after = (subst (AllByRecursion (HoldsFor defs specs n)) m.goals_are h).0 in
    let new = names_new defs specs goal source.existentials names formed m.free in
    let fine = assertion_sorted defs specs (scope_of run.context) source formed.source in
    let agrees = names_agree defs specs goal formed names in
    let mentioned : (v : List ℕ) → assertion_mentions source v ≡ true → goal_mentions goal v ≡ true = λ v i. or_left (assertion_mentions source v) (exits_mention run.exits v) i in
    record {
      in_each = λ L more place has apart lemmas env given keeps act k st.
          let S = setting L more place in
          let x = st.holds in
          let ds = x.witnesses in
          let other = giving env (with_each env.variables vs ds) in
          let t = named_props S env goal source names ds m.count x.sorted new mentioned formed.source.existentials small fine agrees act.temps k x refl in
          let y = named_memory S env goal source names ds m.count x.sorted new mentioned formed.source.existentials small fine agrees act.temps k x refl in
          let sorted = other_sorts source.existentials vs ds (same_sorts source.existentials names m.count) x.sorted in
          let there = given_names S defs env goal vs new ds sorted props given t in
          let follows = follows_names S defs env goal vs new ds sorted (with_names run.context vs props) in
          safe_all_follows (world L more place) n run.rest (goal_exits S other run.exits) (goal_exits S env run.exits) follows.exits act k
          (one.in_each L more place has apart lemmas other there keeps act k (record { result = st.result; blocks = st.blocks; distinct = st.distinct; places = stand_there env (with_each env.variables vs ds) act.blocks st.places; holds = y }));
    }

entail_sound : (defs : Defs) (specs : SpecTable) (n : ℕ) (entail : e.Entail) (names : List (List ℕ)) (goals : List Goal) → IsWellFormed defs specs (Entail entail) → body_nodes entail.source < 2 ^ 63 → Made (Entail entail) entail.source names goals → AllByRecursion (HoldsFor defs specs n) goals → HoldsFor defs specs n (Entail entail)
entail_sound defs specs n entail names goals formed small m h =
    let goal = Entail entail in
    let source = entail.source in
    let vs = new_variables source.existentials names in
    let pairs = by_names source.existentials names in
    let props = map (replaced_formula (puts pairs)) source.props in
    let memory = assertion_after (puts pairs) (bare source) in
    let after = from_source goal (opened_context entail.context vs props) memory in
    let one : HoldsFor defs specs n after = (subst (AllByRecursion (HoldsFor defs specs n)) m.goals_are h).0 in
    let new = names_new defs specs goal source.existentials names formed m.free in
    let fine = assertion_sorted defs specs (scope_of entail.context) source formed.source in
    let agrees = names_agree defs specs goal formed names in
    let mentioned : (v : List ℕ) → assertion_mentions source v ≡ true → goal_mentions goal v ≡ true = λ v i. or_left (assertion_mentions source v) (assertion_mentions entail.target v) i in
    record {
      in_each = λ L more place has apart lemmas env given temps k x.
          let S = setting L more place in
          let ds = x.witnesses in
          let other = giving env (with_each env.variables vs ds) in
          let t = named_props S env goal source names ds m.count x.sorted new mentioned formed.source.existentials small fine agrees temps k x refl in
          let y = named_memory S env goal source names ds m.count x.sorted new mentioned formed.source.existentials small fine agrees temps k x refl in
          let sorted = other_sorts source.existentials vs ds (same_sorts source.existentials names m.count) x.sorted in
          let there = given_names S defs env goal vs new ds sorted props given t in
          let follows = follows_names S defs env goal vs new ds sorted (with_names entail.context vs props) in
          follows.target temps k (one.in_each L more place has apart lemmas other there temps k y);
    }

pub intros_sound : (defs : Defs) (specs : SpecTable) (n : ℕ) (goal : Goal) (args : Args) (goals : List Goal) → IsWellFormed defs specs goal → HasFewNodes defs goal args → Row goal args (Ok goals) → AllByRecursion (HoldsFor defs specs n) goals → HoldsFor defs specs n goal
intros_sound defs specs n (Run run) args goals formed small row h = run_sound defs specs n run args.names goals formed small (made (Run run) run.source args.names goals row) h
intros_sound defs specs n (Entail entail) args goals formed small row h = entail_sound defs specs n entail args.names goals formed small (made (Entail entail) entail.source args.names goals row) h
intros_sound defs specs n (Pure pure) args goals formed small row h = absurd cc
