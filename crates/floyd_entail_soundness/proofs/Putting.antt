-- `Exists`: the target holds where it does with a term for its first existential.
use Rattle.std.proofs.Common.{◌≡◌, ℕ, ◌+◌, ◌<◌, ◌^◌, Bool, true, false, List, [], ◌∷◌, length, Some, None, Result, Ok, Err, refl, sym, ap, subst, arith, cond}
use Rattle.std.specs.Prelude.{if◌then◌else◌, bytes_eq}
use Rattle.std.specs.List.{AllByRecursion}
use Rattle.floyd_text.specs.declared.code.Code.TheVariants.{TermTooLarge}
use Rattle.floyd_text.specs.declared.refusal.No.{No}
use Rattle.floyd_text.specs.declared.refusal.Shown.TheVariants.{Nothing}
use Rattle.floyd_int.specs.declared.kinds.Value.{Value}
use Rattle.floyd_clight_heap.specs.Heaplet.{Heaplet}
use Rattle.floyd_tree.specs.Plain.{Plain, plains, sizes}
use Rattle.floyd_tree_values.specs.BuiltIns.{Env}
use Rattle.floyd_tree_values.specs.Data.{Datum, HasSort}
use Rattle.floyd_tree_values.specs.Means.{Defs as Values, Means}
use Rattle.floyd_tree_values.proofs.AllFuns.{a_value}
use Rattle.floyd_truth.specs.Laws.{Changed, IsAfter, nodes}
use Rattle.floyd_truth.specs.Replace.{puts}
use Rattle.floyd_truth.specs.Truth.{AllTrue}
use Rattle.floyd_assert_trees.specs.declared.assertion.Assertion.{Assertion}
use Rattle.floyd_assert_trees.specs.declared.binder.Binder.{Binder}
use Rattle.floyd_assert_trees.specs.declared.items.Defs.{Defs}
use Rattle.floyd_assert_trees.specs.declared.spec.SpecTable.{SpecTable}
use Rattle.floyd_assert_changes.specs.Changed.{AssertionSortsAgree, assertion_after, assertion_fits, assertion_with}
use Rattle.floyd_assert_changes.specs.Substituted.{within_limits}
use Rattle.floyd_assert_meaning.specs.Assertions.{Holds, LocalsHold}
use Rattle.floyd_assert_meaning.specs.Laws.{with_variables}
use Rattle.floyd_assert_meaning.specs.Parts.{PartsHold}
use Rattle.floyd_assert_meaning.specs.Settings.{AreFor, Setting, with_data}
use Rattle.floyd_assert_meaning.proofs.AlikeLaws.{alike_holds}
use Rattle.floyd_assert_laws.specs.InChanged.{IsSorted, body_nodes}
use Rattle.floyd_assert_laws.proofs.Replaced.{assertion_changed}
use Rattle.floyd_goal.specs.Goals.{intros_first, some_left}
use Rattle.floyd_goal_trees.specs.Contexts.{scope_of}
use Rattle.floyd_goal_trees.specs.declared.args.Args.{Args}
use Rattle.floyd_goal_trees.specs.declared.goal.Entail as e
use Rattle.floyd_goal_trees.specs.declared.goal.Goal.{Goal}
use Rattle.floyd_goal_trees.specs.declared.goal.Goal.TheVariants.{Run, Entail, Pure}
use Rattle.floyd_goal_forms.specs.Goals.{IsWellFormed}
use Rattle.floyd_goal_meaning.specs.GoalHolds.{HoldsFor}
use Rattle.floyd_goal_meaning.specs.Programs.{setting}
use Rattle.floyd_goal_laws.proofs.Givens.{given_after}
use Rattle.floyd_goal_laws.proofs.Growing.{term_fits_program}
use Rattle.floyd_goal_fits.specs.Laws as fits
use Rattle.floyd_goal_fits.proofs.Goals.{witness_agrees}
use Rattle.floyd_entail.specs.Exists as exists
use Rattle.floyd_entail_soundness.specs.Rows.{IsOfFirst, IsWitness}
use Rattle.floyd_entail_soundness.proofs.Placing.{same_Ok}
use Rattle.floyd_entail_soundness.proofs.Sorted.{assertion_sorted}
use Rattle.floyd_entail_soundness.proofs.Sources.{of_result}
use Rattle.floyd_entail_soundness.proofs.Validating.{passed}

-- what was made within the limits is what was to be made
pub made_is : {T : Type 0} (within : T → Bool) (x y : T) → within_limits within x ≡ Ok y → x ≡ y
made_is {T} within x y h = by (within x) h
  where
    by : (b : Bool) → ◌≡◌ {A = Result T No} (if b then Ok x else Err (record { code = TermTooLarge; shown = Nothing })) (Ok y) → x ≡ y
    by true f = same_Ok {A = T} x y f
    by false f = absurd cc

-- ---- one variable

abbrev one_pair : Binder → Plain → List (List ℕ × Plain)
one_pair b t = (b.name, t) ∷ []

abbrev changed_one : Env → Binder → Datum → List ℕ → Datum
changed_one env b d = λ y. if bytes_eq y b.name then d else env.variables y

one_changed : (defs : Values) (env : Env) (b : Binder) (t : Plain) (d : Datum) → Means defs env t d → Changed defs env (one_pair b t) (changed_one env b d)
one_changed defs env b t d m x = by (bytes_eq x b.name)
  where
    by : (c : Bool) → IsAfter defs env (cond c (Some t) None) (env.variables x) (if c then d else env.variables x)
    by true = m
    by false = refl

-- ---- the target

module _ (S : Setting) (env : Env) (target : Assertion) (b : Binder) (more : List Binder) (e : target.existentials ≡ b ∷ more) (t : Plain) (d : Datum) where
  -- the datum of the term is one for the existential
  with_witness : (temps : List ℕ → Value) (h : Heaplet) → HasSort b.sort d → Holds S (with_variables env (changed_one env b d)) (exists.under target more) temps h → Holds S env target temps h
  with_witness temps h s x = record {
    witnesses = d ∷ x.witnesses;
    sorted = subst (λ bs. AreFor bs (d ∷ x.witnesses)) (sym e) (s, x.sorted);
    props = subst (λ bs. AllTrue S.defs S.has_spec (with_data env bs (d ∷ x.witnesses)) target.props) (sym e) x.props;
    locals = subst (λ bs. LocalsHold S.defs (with_data env bs (d ∷ x.witnesses)) temps target.locals) (sym e) x.locals;
    parts = subst (λ bs. PartsHold S (with_data env bs (d ∷ x.witnesses)) target.parts h) (sym e) x.parts;
  }

  few : (ts : List Plain) → sizes (plains (t ∷ ts)) + body_nodes target < 2 ^ 63 → nodes (one_pair b t) + body_nodes (exists.under target more) < 2 ^ 63
  few ts l =
      let count : length target.existentials ≡ length (b ∷ more) = ap length e in
      omega (arith, l, count)

  pub target_holds : IsSorted target → (ts : List Plain) → sizes (plains (t ∷ ts)) + body_nodes target < 2 ^ 63 → Means S.defs env t d → HasSort b.sort d → AssertionSortsAgree (puts (one_pair b t)) (exists.under target more) →
      (temps : List ℕ → Value) (h : Heaplet) → Holds S env (assertion_after (puts (one_pair b t)) (exists.under target more)) temps h → Holds S env target temps h
  target_holds sorted ts l m s agree temps h x =
      let under = exists.under target more in
      let variables = changed_one env b d in
      let under_sorted : IsSorted under = record { props = sorted.props; terms = sorted.terms } in
      let alike = assertion_changed S env (one_pair b t) variables (one_changed S.defs env b t d m) under under_sorted (few ts l) agree in
      with_witness temps h s ((alike_holds S env env.variables variables (assertion_after (puts (one_pair b t)) under) under alike temps h).0 x)

-- ---- the command

first_term : (defs : Defs) (specs : SpecTable) (n : ℕ) (entail : e.Entail) (goals : List Goal) (b : Binder) (more : List Binder) (t : Plain) (ts : List Plain) → IsWellFormed defs specs (Entail entail) → entail.target.existentials ≡ b ∷ more →
    IsOfFirst defs entail.context entail.target (b ∷ more) (t ∷ ts) → exists.FirstSortsAgree entail.target (b ∷ more) (t ∷ ts) → exists.PutsTerm entail b more t (Ok goals) → AllByRecursion (HoldsFor defs specs n) goals → HoldsFor defs specs n (Entail entail)
first_term defs specs n entail goals b more t ts formed is fit agree row h =
    let under = exists.under entail.target more in
    let a = of_result (assertion_with (one_pair b t) under) (exists.IsToward entail) goals row in
    let made = made_is assertion_fits (assertion_after (puts (one_pair b t)) under) a.0 a.1 in
    let after = exists.toward entail a.0 in
    let same : goals ≡ after ∷ [] = same_Ok {A = List Goal} goals (after ∷ []) a.2 in
    let one : HoldsFor defs specs n after = (subst (AllByRecursion (HoldsFor defs specs n)) same h).0 in
    let scope = scope_of entail.context in
    record {
      in_each = λ L more' place has apart lemmas env given temps m x.
          let S = setting L more' place in
          let v = a_value S.defs scope env b.sort t has.rules given.suits (term_fits_program L defs specs has scope b.sort t fit.0.fits) in
          let y = one.in_each L more' place has apart lemmas env (given_after S defs env entail.context given) temps m x in
          target_holds S env entail.target b more is t v.0 (assertion_sorted defs specs scope entail.target formed.target) ts fit.1 v.1 v.2 agree temps m (subst (λ q. Holds S env q temps m) (sym made) y);
    }

-- the first term may stand in the place of the existential
terms_agree : (defs : Defs) (specs : SpecTable) (entail : e.Entail) (bs : List Binder) (ts terms : List Plain) → IsWellFormed defs specs (Entail entail) → entail.target.existentials ≡ bs → terms ≡ ts → fits.IsOfFirst bs ts → exists.FirstSortsAgree entail.target bs ts
terms_agree defs specs entail bs ts terms formed is same w =
    let there : fits.IsOfFirst entail.target.existentials terms = subst (λ us. fits.IsOfFirst entail.target.existentials us) (sym same) (subst (λ cs. fits.IsOfFirst cs ts) (sym is) w) in
    subst (λ us. exists.FirstSortsAgree entail.target bs us) same (subst (λ cs. exists.FirstSortsAgree entail.target cs terms) is (witness_agrees defs specs (Entail entail) formed terms there))

pub exists_sound : (defs : Defs) (specs : SpecTable) (n : ℕ) (goal : Goal) (args : Args) (goals : List Goal) → IsWellFormed defs specs goal → IsWitness defs goal args → exists.Row goal args (Ok goals) → AllByRecursion (HoldsFor defs specs n) goals → HoldsFor defs specs n goal
exists_sound defs specs n (Run run) args goals formed w row h = absurd cc
exists_sound defs specs n (Pure pure) args goals formed w row h = absurd cc
exists_sound defs specs n (Entail entail) args goals formed w row h = by entail.target.existentials args.terms refl refl w row
  where
    by : (bs : List Binder) (ts : List Plain) → entail.target.existentials ≡ bs → args.terms ≡ ts → IsOfFirst defs entail.context entail.target bs ts → exists.ForFirst entail bs ts (Ok goals) → HoldsFor defs specs n (Entail entail)
    by [] ts is same q r = absurd cc
    by (b ∷ more) [] is same q r =
        let p = passed (some_left entail.source.existentials) intros_first (exists.Puts entail b more []) goals r in
        let wrong = p.1 in
        absurd cc
    by (b ∷ more) (t ∷ ts) is same q r =
        let p = passed (some_left entail.source.existentials) intros_first (exists.Puts entail b more (t ∷ ts)) goals r in
        first_term defs specs n entail goals b more t ts formed is q (terms_agree defs specs entail (b ∷ more) (t ∷ ts) args.terms formed is same q.0.fits.sorted) p.1 h
