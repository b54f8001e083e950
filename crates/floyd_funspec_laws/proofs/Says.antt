-- What an instance says, from what its specification says.
use Rattle.std.proofs.Common.{◌≡◌, ◌↔◌, ℕ, ◌+◌, ◌<◌, ◌^◌, true, false, ◌||◌, List, [], ◌∷◌, ◌++◌, map, Option, Some, None, Ok, refl, sym, ◌∙◌, ap, subst}
use Rattle.std.specs.List.{flat_map}
use Rattle.std.proofs.lemmas.Bool.{or_from}
use Rattle.floyd_int.specs.declared.kinds.Value.{Value}
use Rattle.floyd_int.specs.declared.kinds.Value.TheVariants.{Vundef}
use Rattle.floyd_clight_heap.specs.Heaplet.{Heaplet}
use Rattle.floyd_tree_sorts.specs.declared.sorts.Sort as sort
use Rattle.floyd_tree.specs.Formulas.{formulas}
use Rattle.floyd_tree.specs.Locals.{have_local, formulas_have_local}
use Rattle.floyd_tree.specs.Plain.{Plain, mentions_in, plains}
use Rattle.floyd_tree_values.specs.BuiltIns.{Env}
use Rattle.floyd_tree_values.specs.Data.{Datum, Val}
use Rattle.floyd_tree_values.specs.Means as values
use Rattle.floyd_tree_values.specs.Means.{AllMean}
use Rattle.floyd_tree_values.proofs.OneValue.{no_data, split}
use Rattle.floyd_truth.specs.Capture.{Changes}
use Rattle.floyd_truth.specs.Laws.{Changed, nodes}
use Rattle.floyd_truth.specs.Replace.{puts, replaced}
use Rattle.floyd_truth.proofs.InChanged.{all_after, ready_puts}
use Rattle.floyd_truth.proofs.OneTruth.{giving}
use Rattle.floyd_assert_trees.specs.declared.assertion.Assertion.{Assertion}
use Rattle.floyd_assert_trees.specs.declared.binder.Binder.{Binder}
use Rattle.floyd_assert_trees.specs.declared.items.Defs.{Defs}
use Rattle.floyd_assert_trees.specs.declared.spec.Funspec.{Funspec}
use Rattle.floyd_assert_trees.specs.declared.spec.SpecTable.{SpecTable}
use Rattle.floyd_assert_changes.specs.Changed.{assertion_after, has_name, inside, local_after, local_terms, part_terms}
use Rattle.floyd_assert_changes.proofs.Replacing.{replaced_all}
use Rattle.floyd_assert_meaning.specs.Assertions.{Holds, LocalsHold}
use Rattle.floyd_assert_meaning.specs.Settings.{Setting, AreFor, bare_env, item_env, with_data, with_each}
use Rattle.floyd_assert_meaning.specs.Specifications.{Post, PostHolds, Pre, Returns}
use Rattle.floyd_assert_meaning.proofs.AlikeLaws.{alike_holds}
use Rattle.floyd_assert_meaning.proofs.Sames.{with_data_is}
use Rattle.floyd_assert_laws.specs.Bare.{IsBare, assertion_has_local, option_terms, with_local}
use Rattle.floyd_assert_laws.specs.Free.{assertion_mentions}
use Rattle.floyd_assert_laws.specs.InChanged.{body_nodes}
use Rattle.floyd_assert_laws.proofs.BareLaws.{all_bare, holds_bare}
use Rattle.floyd_assert_laws.proofs.FreeLaws.{free_alike}
use Rattle.floyd_assert_laws.proofs.Replaced.{assertion_changed}
use Rattle.floyd_assert_instances.specs.declared.instance.Instance.{Instance}
use Rattle.floyd_assert_instances.specs.Instances.{have_sorts, pairs}
use Rattle.floyd_assert_instances.specs.Specifications.{asked, given, instantiated, returned, value_in}
use Rattle.floyd_goal_forms.specs.Assertions.{AssertionFits}
use Rattle.floyd_goal_forms.specs.Terms.{scope_with}
use Rattle.floyd_goal_scopes.proofs.Parts.{assertion_known}
use Rattle.floyd_goal_scopes.proofs.Terms.{all_known, is_name, list_known}
use Rattle.floyd_links.specs.Imports.{with_terms}
use Rattle.floyd_start_laws.proofs.BodyStarts.{NoLocal, no_local}
use Rattle.floyd_import_laws.proofs.Sorted.{Suiting, all_good, formed_agrees, formed_sorted, list_agrees, list_sorted}
use Rattle.floyd_import_laws.proofs.Values.{MeanEach, agree_inside, all_like, changed_each}
use Rattle.floyd_funspec_laws.specs.Laws.{Asks, InstanceFits, SaysFor, post_of}
use Rattle.floyd_funspec_laws.proofs.Made.{asked_fits, given_fits, instance_at, made, suiting}

same_pairs : (bs : List Binder) (ts : List Plain) → with_terms bs ts ≡ pairs bs ts
same_pairs [] ts = refl
same_pairs (b ∷ bs) [] = refl
same_pairs (b ∷ bs) (t ∷ ts) = ap (λ more. (b.name, t) ∷ more) (same_pairs bs ts)

each_mean : (defs : values.Defs) (env : Env) (ts : List Plain) (ds : List Datum) → AllMean defs env (plains ts) ds → MeanEach defs env ts ds
each_mean defs env [] ds m = subst (MeanEach defs env []) (sym (no_data m)) tt
each_mean defs env (t ∷ ts) ds m = let p = split m in subst (MeanEach defs env (t ∷ ts)) (sym p.is) (p.first, each_mean defs env ts p.data' p.rest)

-- ---- the term of RETURN

module _ (defs : values.Defs) (env : Env) (v : Value) where
  value_locals : (o : Option Plain) → Returns defs env o v ↔ LocalsHold defs env (λ x. v) (returned o)
  value_locals None = ((λ h. tt), λ h. tt)
  value_locals (Some t) = ((λ h. (h, tt)), λ h. h.0)

  -- after changes
  locals_value : (ch : Changes) (o : Option Plain) → LocalsHold defs env (λ x. v) (map (local_after ch) (returned o)) ↔ Returns defs env (value_in (map (local_after ch) (returned o))) v
  locals_value ch None = ((λ h. tt), λ h. tt)
  locals_value ch (Some t) = ((λ h. h.0), λ h. (h, tt))

value_terms : (o : Option Plain) → local_terms (returned o) ≡ option_terms o
value_terms None = refl
value_terms (Some t) = refl

-- ---- an instance

module _ (defs : Defs) (specs : SpecTable) (spec : Funspec) (terms : List Plain) (fit : InstanceFits defs specs spec terms) (sorts : have_sorts spec.with terms ≡ true) (S : Setting) (env : Env) (ds : List Datum) (bare : IsBare S) (global : env.global ≡ S.block_of) (are : AreFor spec.with ds) (mean : AllMean S.defs env (plains terms) ds) where
  abbrev by : List (List ℕ × Plain)
  by = pairs spec.with terms

  abbrev base : Env
  base = with_local (bare_env S) env.local

  -- the environment, as one of the file's items
  abbrev E : Env
  E = giving base env.variables

  is_env : E ≡ env
  is_env = ap (λ g. record env { global = g }) (sym global)

  abbrev put_data : List ℕ → Datum
  put_data = with_each env.variables spec.with ds

  abbrev own_data : List ℕ → Datum
  own_data = with_each base.variables spec.with ds

  own_is : item_env S spec.with ds ≡ giving (bare_env S) own_data
  own_is = with_data_is (bare_env S) base.variables spec.with ds

  changed : Changed S.defs E by put_data
  changed =
      subst (λ all. Changed S.defs E all put_data) (same_pairs spec.with terms)
      (λ x. changed_each S.defs E spec.with terms ds are (each_mean S.defs E terms ds (subst (λ e. AllMean S.defs e (plains terms) ds) (sym is_env) mean)) fit.fits.with env.variables x)

  suits : Suiting (puts by) (scope_with spec.with)
  suits = suiting spec.with terms sorts

  none : NoLocal spec
  none = no_local spec fit.fits.no_local

  named : (a : Assertion) → AssertionFits defs specs (scope_with spec.with) a → (x : List ℕ) → assertion_mentions a x ≡ true → has_name x spec.with ≡ true
  named a k x e = is_name x spec.with (assertion_known x defs specs (scope_with spec.with) a k e)

  -- what the specification says is what it says at the terms
  module _ (a : Assertion) (fits : AssertionFits defs specs (scope_with spec.with) a) (few : nodes by + body_nodes a < 2 ^ 63) (no : assertion_has_local a ≡ false) (temps : List ℕ → Value) (k : Heaplet) where
    at_base : Holds S (item_env S spec.with ds) a temps k ↔ Holds S (giving base own_data) a temps k
    at_base = (
      λ q. holds_bare S bare (giving (bare_env S) own_data) env.local a temps k no (subst (λ e. Holds S e a temps k) own_is q),
      λ q. subst (λ e. Holds S e a temps k) (sym own_is) (holds_bare S bare (giving base own_data) (λ x. 0) a temps k no q),
    )

    own_put : Holds S (giving base own_data) a temps k ↔ Holds S (giving base put_data) a temps k
    own_put = alike_holds S base own_data put_data a a (free_alike S base own_data put_data a (agree_inside (assertion_mentions a) spec.with ds are (named a fits) base.variables env.variables)) temps k

    put_terms : Holds S E (assertion_after (puts by) a) temps k ↔ Holds S (giving base put_data) a temps k
    put_terms =
        alike_holds S E env.variables put_data (assertion_after (puts by) a) a
        (assertion_changed S E by put_data changed a (formed_sorted defs specs (scope_with spec.with) a fits) few (formed_agrees defs specs (scope_with spec.with) a fits (puts by) suits))
        temps k

    to_terms : Holds S (item_env S spec.with ds) a temps k → Holds S env (assertion_after (puts by) a) temps k
    to_terms q = subst (λ e. Holds S e (assertion_after (puts by) a) temps k) is_env (put_terms.1 (own_put.0 (at_base.0 q)))

    from_terms : Holds S env (assertion_after (puts by) a) temps k → Holds S (item_env S spec.with ds) a temps k
    from_terms q = at_base.1 (own_put.1 (put_terms.0 (subst (λ e. Holds S e (assertion_after (puts by) a) temps k) (sym is_env) q)))

  -- ---- the precondition

  abbrev params : List Plain
  params = spec.pre.params

  param_named : (x : List ℕ) → mentions_in x (plains params) ≡ true → has_name x spec.with ≡ true
  param_named x e =
      is_name x spec.with
      (list_known x defs (scope_with spec.with) params (all_known x defs (scope_with spec.with) (map (λ t. sort.Val) spec.params) params fit.fits.pre.terms) e)

  params_put : (vs : List Datum) → AllMean S.defs E (plains (map (replaced (puts by)) params)) vs ↔ AllMean S.defs (giving base put_data) (plains params) vs
  params_put vs =
      let good = all_good defs (scope_with spec.with) (map (λ t. sort.Val) spec.params) params fit.fits.pre.terms in
      let ss = list_sorted defs (scope_with spec.with) params good in
      let ready = ready_puts S.defs E by put_data changed (λ v. true) (λ v. false) in
      subst (λ ts. AllMean S.defs E ts vs ↔ AllMean S.defs (giving base put_data) (plains params) vs) (sym (replaced_all (puts by) params))
      (all_after S.defs E (puts by) env.variables put_data (plains params) ss.0 ss.1 (list_agrees defs (scope_with spec.with) (puts by) suits params good) (λ v i. ready.tracks v refl) vs)

  params_to : (vs : List Datum) → AllMean S.defs (item_env S spec.with ds) (plains params) vs → AllMean S.defs env (plains (map (replaced (puts by)) params)) vs
  params_to vs q =
      let there : AllMean S.defs (giving base own_data) (plains params) vs = all_bare S bare (subst (λ e. AllMean S.defs e (plains params) vs) own_is q) env.local none.params in
      subst (λ e. AllMean S.defs e (plains (map (replaced (puts by)) params)) vs) is_env
      ((params_put vs).1 (all_like S.defs base own_data put_data params (agree_inside (λ x. mentions_in x (plains params)) spec.with ds are param_named base.variables env.variables) vs there))

  params_from : (vs : List Datum) → AllMean S.defs env (plains (map (replaced (puts by)) params)) vs → AllMean S.defs (item_env S spec.with ds) (plains params) vs
  params_from vs q =
      let put = (params_put vs).0 (subst (λ e. AllMean S.defs e (plains (map (replaced (puts by)) params)) vs) (sym is_env) q) in
      let there = all_like S.defs base put_data own_data params (agree_inside (λ x. mentions_in x (plains params)) spec.with ds are param_named env.variables base.variables) vs put in
      let here : AllMean S.defs (giving (bare_env S) own_data) (plains params) vs = all_bare S bare there (λ x. 0) none.params in
      subst (λ e. AllMean S.defs e (plains params) vs) (sym own_is) here

  none_asked : assertion_has_local (asked spec.pre) ≡ false
  none_asked = or_from (formulas_have_local (formulas spec.pre.props)) (have_local (plains (flat_map part_terms spec.pre.parts))) none.props none.parts

  none_given : assertion_has_local (given spec.post) ≡ false
  none_given = ap (λ ts. formulas_have_local (formulas spec.post.props) || have_local (plains (ts ++ flat_map part_terms spec.post.parts))) (value_terms spec.post.value) ∙ none.post

  abbrev at_terms : Instance
  at_terms = instance_at (puts by) spec

  asks : (args : List Value) (h : Heaplet) → Pre S spec ds args h → Asks S env at_terms args h
  asks args h p = record {
    params = params_to (map Val args) p.params;
    holds = λ temps.
        to_terms (asked spec.pre) (asked_fits defs specs spec fit.fits) fit.asked none_asked temps h
        (record { witnesses = []; sorted = tt; props = p.props; locals = tt; parts = p.parts });
  }

  is_asked : (args : List Value) (h : Heaplet) → Asks S env at_terms args h → Pre S spec ds args h
  is_asked args h q =
      let x = from_terms (asked spec.pre) (asked_fits defs specs spec fit.fits) fit.asked none_asked (λ x. Vundef) h (q.holds (λ x. Vundef)) in
      record { sorted = are; props = x.props; params = params_from (map Val args) q.params; parts = x.parts }

  -- ---- the postcondition

  abbrev end : Assertion
  end = given spec.post

  abbrev below : Changes
  below = inside (puts by) end

  gives : (v : Value) (h : Heaplet) → Post S spec ds v h → PostHolds S env (post_of at_terms) v h
  gives v h p =
      let x = to_terms end (given_fits defs specs spec fit.fits) fit.given none_given (λ x. v) h
      (record {
        witnesses = p.witnesses;
        sorted = p.sorted;
        props = p.props;
        locals = (value_locals S.defs (with_data (item_env S spec.with ds) spec.post.existentials p.witnesses) v spec.post.value).0 p.returned;
        parts = p.parts;
      }) in
      record {
        witnesses = x.witnesses;
        sorted = x.sorted;
        props = x.props;
        returned = (locals_value S.defs (with_data env at_terms.post.existentials x.witnesses) v below spec.post.value).0 x.locals;
        parts = x.parts;
      }

  is_given : (v : Value) (h : Heaplet) → PostHolds S env (post_of at_terms) v h → Post S spec ds v h
  is_given v h p =
      let x = from_terms end (given_fits defs specs spec fit.fits) fit.given none_given (λ x. v) h
      (record {
        witnesses = p.witnesses;
        sorted = p.sorted;
        props = p.props;
        locals = (locals_value S.defs (with_data env at_terms.post.existentials p.witnesses) v below spec.post.value).1 p.returned;
        parts = p.parts;
      }) in
      record {
        witnesses = x.witnesses;
        sorted = x.sorted;
        props = x.props;
        returned = (value_locals S.defs (with_data (item_env S spec.with ds) spec.post.existentials x.witnesses) v spec.post.value).1 x.locals;
        parts = x.parts;
      }

  says : SaysFor S env spec ds at_terms
  says = record {
    pre = λ args h. (asks args h, is_asked args h);
    post = λ v h. (gives v h, is_given v h);
  }

pub instance_says : (defs : Defs) (specs : SpecTable) (spec : Funspec) (terms : List Plain) (i : Instance) → InstanceFits defs specs spec terms → instantiated spec terms ≡ Ok i → (S : Setting) (env : Env) (ds : List Datum) → IsBare S → env.global ≡ S.block_of → AreFor spec.with ds → AllMean S.defs env (plains terms) ds → SaysFor S env spec ds i
instance_says defs specs spec terms i fit e S env ds bare global are mean =
    let m = made spec terms i e in
    subst (SaysFor S env spec ds) (sym m.is) (says defs specs spec terms fit m.sorts S env ds bare global are mean)
