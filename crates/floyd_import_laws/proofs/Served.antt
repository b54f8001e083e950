-- An import's specification follows from the function's own where both start goals of its proof hold.
use Rattle.std.proofs.Common.{◌≡◌, ◌↔◌, ◌⊎◌, inl, inr, ⊎_elim, ℕ, ◌+◌, ◌<◌, ◌≤◌, ◌^◌, Bool, true, false, ◌||◌, cond, List, [], ◌∷◌, ◌++◌, length, map, Option, Some, None, refl, sym, ◌∙◌, ap, subst, arith, true≢false}
use Rattle.std.specs.Prelude.{bytes_eq, is_some}
use Rattle.std.specs.List.{AllByRecursion, list_any}
use Rattle.std.specs.Map.{lookup}
use Rattle.std.proofs.lemmas.Bool.{or_cases, or_left}
use Rattle.std.proofs.lemmas.List.{length-append, length-map}
use Rattle.floyd_int.specs.declared.kinds.Value.{Value}
use Rattle.floyd_int.specs.declared.kinds.Value.TheVariants.{Vundef}
use Rattle.floyd_clight_heap.specs.Heaplet.{Heaplet, Joins}
use Rattle.floyd_tree_sorts.specs.declared.shape.Shape.{Shape, Void}
use Rattle.floyd_tree_sorts.specs.declared.sorts.Sort.{Val}
use Rattle.floyd_tree.specs.Formulas.{PlainFormula, formulas, formulas_mention}
use Rattle.floyd_tree.specs.Plain.{Plain, mentions, mentions_in, plains, size}
use Rattle.floyd_tree_values.specs.BuiltIns.{Env}
use Rattle.floyd_tree_values.specs.Data as datums
use Rattle.floyd_tree_values.specs.Data.{Datum}
use Rattle.floyd_tree_values.specs.Means as values'
use Rattle.floyd_tree_values.specs.Means.{Means, AllMean}
use Rattle.floyd_tree_values.specs.Rules.{AreDistinct, Scope, Suits}
use Rattle.floyd_tree_values.proofs.AllFuns.{a_value}
use Rattle.floyd_truth.specs.Capture.{Changes, Put}
use Rattle.floyd_truth.specs.Laws.{Changed, nodes}
use Rattle.floyd_truth.specs.Replace.{HasSortOf, puts, replaced, replaced_formula}
use Rattle.floyd_truth.specs.Truth.{AllTrue}
use Rattle.floyd_truth.proofs.Fresh.{not_true, weight}
use Rattle.floyd_truth.proofs.InChanged.{all_after, ready_puts}
use Rattle.floyd_truth.proofs.OneTruth.{giving}
use Rattle.floyd_truth.proofs.Tracks.{means_like}
use Rattle.floyd_assert_trees.specs.declared.assertion.Assertion.{Assertion}
use Rattle.floyd_assert_trees.specs.declared.assertion.Local.{Local}
use Rattle.floyd_assert_trees.specs.declared.binder.Binder.{Binder}
use Rattle.floyd_assert_trees.specs.declared.items.Defs.{Defs}
use Rattle.floyd_assert_trees.specs.declared.sep.Sep.{Sep}
use Rattle.floyd_assert_trees.specs.declared.spec.Funspec.{Funspec}
use Rattle.floyd_assert_trees.specs.declared.spec.SpecTable.{SpecTable}
use Rattle.floyd_assert_changes.specs.Changed.{assertion_after, below_existentials, existential_name, has_name, inside, local_after, part_after}
use Rattle.floyd_assert_changes.specs.NamesClauses.{term_names}
use Rattle.floyd_assert_changes.proofs.Naming.{has_term}
use Rattle.floyd_assert_changes.proofs.Replacing.{replaced_all}
use Rattle.floyd_assert_meaning.specs.Assertions.{Holds, LocalsHold}
use Rattle.floyd_assert_meaning.specs.Parts.{PartsHold}
use Rattle.floyd_assert_meaning.specs.Settings.{Setting, AreFor, bare_env, item_env, with_data, with_each}
use Rattle.floyd_assert_meaning.specs.Specifications.{Post, PostHolds, Pre, Returns}
use Rattle.floyd_assert_meaning.proofs.AlikeLaws.{alike_holds}
use Rattle.floyd_assert_meaning.proofs.Orders.{apart, together}
use Rattle.floyd_assert_cells.specs.Laws.{Sum}
use Rattle.floyd_assert_meaning.proofs.Sames.{with_data_is}
use Rattle.floyd_assert_laws.specs.Free.{assertion_mentions, option_mentions}
use Rattle.floyd_assert_laws.specs.InChanged.{IsSorted, body_nodes}
use Rattle.floyd_assert_laws.proofs.FreeLaws.{free_alike}
use Rattle.floyd_assert_laws.proofs.NewNames.{IsNewName, is_new_name}
use Rattle.floyd_assert_laws.proofs.Renamed as renamed
use Rattle.floyd_assert_laws.proofs.Replaced.{assertion_changed}
use Rattle.floyd_goal_forms.specs.Assertions.{AssertionFits, PartsFit, PredicatesOf}
use Rattle.floyd_goal_forms.specs.Items.{FunspecFits, ValueFits, post_scope}
use Rattle.floyd_goal_forms.specs.Terms.{TermFits, TermsFit, names_with, scope_with}
use Rattle.floyd_goal_laws.proofs.Growing.{term_fits_program}
use Rattle.floyd_goal_meaning.specs.declared.linked.Linked.{Linked}
use Rattle.floyd_goal_meaning.specs.GoalHolds.{Given, HoldsFor, LemmasAreTrue}
use Rattle.floyd_goal_meaning.specs.Links.{AreApart, Has}
use Rattle.floyd_goal_meaning.specs.Programs.{Further, Places, defs_of, setting}
use Rattle.floyd_goal_names.specs.Free.{AreNew, context_mentions}
use Rattle.floyd_goal_names.proofs.NewNames.{given_names}
use Rattle.floyd_goal_scopes.proofs.Parts.{assertion_known}
use Rattle.floyd_goal_scopes.proofs.Terms.{all_known, is_name, list_known, props_known}
use Rattle.floyd_goal_trees.specs.declared.context.Context.{Context}
use Rattle.floyd_goal_trees.specs.declared.context.Mark.TheVariants as m
use Rattle.floyd_goal_trees.specs.declared.goal.Goal.{Goal}
use Rattle.floyd_goal_trees.specs.declared.goal.Goal.TheVariants.{Entail}
use Rattle.floyd_links.specs.Imports.{equations, first_goal, fresh_from, import_post, is_among, own_post, plain_assertion, second_goal, value_equation, value_in, value_local, with_terms, with_value}
use Rattle.floyd_start_laws.proofs.ItemEnvs.{item_global, item_suits}
use Rattle.floyd_import_laws.specs.Laws.{ImportFits, IsServed, value_nodes}
use Rattle.floyd_import_laws.proofs.Collected.{has_listed, listed_length, listed_names, name_append, named, term_few}
use Rattle.floyd_import_laws.proofs.Distinct.{AreApart as Distinct, renamed_by, stay_apart}
use Rattle.floyd_import_laws.proofs.Freed.{freed_allowed, freed_alike, freed_apart}
use Rattle.floyd_import_laws.proofs.Sorted.{Suiting, all_good, formed_agrees, formed_sorted, list_agrees, list_sorted}
use Rattle.floyd_import_laws.proofs.Values.{MeanEach, after_sorted, agree_inside, agree_outside, all_like, changed_each, equal_means, equations_mean, true_apart}

-- ---- the values of terms, one by one

record Values (S : Setting) (env : Env) (bs : List Binder) (ts : List Plain) : Type 0 where
  pub data' : List Datum
  pub sorted : AreFor bs data'
  pub mean : MeanEach S.defs env ts data'

module _ (L : Linked) (more : List Further) (place : Places) (defs : Defs) (specs : SpecTable) (has : Has L defs specs) (scope : Scope) (env : Env) (suits : Suits scope env) where
  values : (bs : List Binder) (ts : List Plain) → TermsFit defs scope (map (λ (b : Binder). b.sort) bs) ts → Values (setting L more place) env bs ts
  values [] [] h = record { data' = []; sorted = tt; mean = tt }
  values [] (t ∷ ts) h = absurd h
  values (b ∷ bs) [] h = absurd h
  values (b ∷ bs) (t ∷ ts) h =
      let v = a_value (defs_of L) scope env b.sort t has.rules suits (term_fits_program L defs specs has scope b.sort t h.0.fits) in
      let rest = values bs ts h.1 in
      record { data' = v.0 ∷ rest.data'; sorted = (v.2, rest.sorted); mean = (v.1, rest.mean) }

-- ---- specifications as assertions

pre_fits : (defs : Defs) (specs : SpecTable) (spec : Funspec) → FunspecFits defs specs spec → AssertionFits defs specs (scope_with spec.with) (plain_assertion spec.pre.props spec.pre.parts)
pre_fits defs specs spec h = record { existentials = tt; props = h.pre.props; temporaries = tt; locals = tt; parts = h.pre.parts }

frame_fits : (defs : Defs) (specs : SpecTable) (scope : Scope) (frame : List Sep) → PartsFit defs scope (PredicatesOf defs scope) frame → AssertionFits defs specs scope (plain_assertion [] frame)
frame_fits defs specs scope frame h = record { existentials = tt; props = tt; temporaries = tt; locals = tt; parts = h }

value_fits : (defs : Defs) (scope : Scope) (shape : Shape) (o : Option Plain) → ValueFits defs scope shape o → AllByRecursion (λ (l : Local). TermFits defs scope Val l.term) (value_local o)
value_fits defs scope shape None h = tt
value_fits defs scope Void (Some t) h = absurd h
value_fits defs scope shape (Some t) h = (h, tt)

one_local : (o : Option Plain) → AreDistinct (map (λ (l : Local). l.name) (value_local o))
one_local None = tt
one_local (Some t) = ((λ k. k), tt)

post_fits : (defs : Defs) (specs : SpecTable) (spec : Funspec) → FunspecFits defs specs spec → AssertionFits defs specs (scope_with spec.with) (with_value spec.post)
post_fits defs specs spec h = record {
  existentials = h.post.existentials;
  props = h.post.props;
  temporaries = one_local spec.post.value;
  locals = value_fits defs (post_scope spec.post (scope_with spec.with)) spec.result.shape spec.post.value h.post.value;
  parts = h.post.parts;
}

-- there is a term of RETURN in both or in none
both_values : (defs their : Defs) (scope inner : Scope) (shape : Shape) (o p : Option Plain) → ValueFits defs scope shape o → ValueFits their inner shape p → is_some o ≡ is_some p
both_values defs their scope inner shape None None h k = refl
both_values defs their scope inner shape (Some t) (Some u) h k = refl
both_values defs their scope inner Void None (Some u) h k = absurd k
both_values defs their scope inner shape None (Some u) h k = absurd h
both_values defs their scope inner Void (Some t) None h k = absurd h
both_values defs their scope inner shape (Some t) None h k = absurd k

-- ---- the term of RETURN

module _ (defs : values'.Defs) (env : Env) (v : Value) where
  value_locals : (o : Option Plain) → Returns defs env o v → LocalsHold defs env (λ x. v) (value_local o)
  value_locals None h = tt
  value_locals (Some t) h = (h, tt)

  locals_value : (o : Option Plain) → LocalsHold defs env (λ x. v) (value_local o) → Returns defs env o v
  locals_value None h = tt
  locals_value (Some t) h = h.0

  value_of : (ls : List Local) (t : Plain) → LocalsHold defs env (λ x. v) ls → value_in ls ≡ Some t → Means defs env t (datums.Val v)
  value_of [] t h e = absurd cc
  value_of (l ∷ ls) t h e = let same : l.term ≡ t = cc in subst (λ u. Means defs env u (datums.Val v)) same h.0

  -- after changes
  locals_from : (ch : Changes) (o : Option Plain) → ((t : Plain) → value_in (map (local_after ch) (value_local o)) ≡ Some t → Means defs env t (datums.Val v)) → LocalsHold defs env (λ x. v) (map (local_after ch) (value_local o))
  locals_from ch None h = tt
  locals_from ch (Some t) h = (h (replaced ch t) refl, tt)

some_after : (ch : Changes) (o : Option Plain) → is_some (value_in (map (local_after ch) (value_local o))) ≡ is_some o
some_after ch None = refl
some_after ch (Some t) = refl

some_twice : (ch next : Changes) (o : Option Plain) → is_some (value_in (map (local_after next) (map (local_after ch) (value_local o)))) ≡ is_some o
some_twice ch next None = refl
some_twice ch next (Some t) = refl

there : (o : Option Plain) → is_some o ≡ true → (t : Plain) × (o ≡ Some t)
there (Some t) e = (t, refl)
there None e = absurd cc

-- the variables of a term of RETURN
value_names : Option Plain → List (List ℕ)
value_names None = []
value_names (Some t) = listed_names (term_names t [])

value_among : (o : Option Plain) (y : List ℕ) → option_mentions o y ≡ true → list_any (bytes_eq y) (value_names o) ≡ true
unfolding value_names
value_among None y e = absurd cc
value_among (Some t) y e = sym (has_listed (term_names t []) y) ∙ has_term y t [] ∙ e

value_few : (o : Option Plain) → length (value_names o) ≤ value_nodes o
unfolding value_names
value_few None = omega arith
value_few (Some t) = omega (arith, term_few t [], listed_length (term_names t []))

-- ---- names

among_both : (v : List ℕ) (bs cs : List Binder) → is_among (names_with (bs ++ cs)) v ≡ (has_name v bs || has_name v cs)
among_both v bs cs = sym (named v (bs ++ cs)) ∙ name_append v bs cs

weight_puts : (by : List (List ℕ × Plain)) → weight (puts by) ≡ nodes by
weight_puts [] = refl
weight_puts (p ∷ by) = ap (λ n. size p.1 + n) (weight_puts by)

-- existentials stay distinct where terms are put
same_names : (ch : Changes) (a : Assertion) (done more : List Binder) → renamed.names_from ch a done more ≡ renamed_by (existential_name ch a) done more
same_names ch a done [] = refl
same_names ch a done (b ∷ more) =
    ap (λ bs. record { name = existential_name ch a (done ++ more) b.name; sort = b.sort } ∷ bs) (same_names ch a (done ++ record { name = existential_name ch a (done ++ more) b.name; sort = b.sort } ∷ []) more)

new_or_other : (ch : Changes) (a : Assertion) (others : List Binder) (x y : List ℕ) → IsNewName ch a others x y → (y ≡ x) ⊎ (has_name y others ≡ false)
new_or_other ch a others x y (inl p) = inl p.0
new_or_other ch a others x y (inr p) = inr p.other

put_apart : (by : List (List ℕ × Plain)) (a : Assertion) → nodes by + body_nodes a < 2 ^ 63 → Distinct a.existentials → Distinct (assertion_after (puts by) a).existentials
put_apart by a l h =
    subst Distinct (sym (renamed.new_is (puts by) a ∙ same_names (puts by) a [] a.existentials))
    (stay_apart (existential_name (puts by) a) (length a.existentials)
    (λ others x k. new_or_other (puts by) a others x (existential_name (puts by) a others x) (is_new_name (puts by) a others x (omega (arith, l, k, weight_puts by))))
    [] a.existentials (omega arith) h)

-- the terms have the sorts of the variables
with_sorts : (defs : Defs) (scope : Scope) (bs : List Binder) (ts : List Plain) → TermsFit defs scope (map (λ (b : Binder). b.sort) bs) ts → Suiting (puts (with_terms bs ts)) (scope_with bs)
with_sorts defs scope [] ts h v s e = absurd cc
with_sorts defs scope (b ∷ bs) [] h v s e = absurd h
with_sorts defs scope (b ∷ bs) (t ∷ ts) h v s e = by (with_sorts defs scope bs ts h.1 v s) (bytes_eq v b.name) e
  where
    by : (lookup (bytes_eq v) (scope_with bs) ≡ Some s → HasSortOf (lookup (bytes_eq v) (puts (with_terms bs ts))) s) → (c : Bool) → cond c (Some b.sort) (lookup (bytes_eq v) (scope_with bs)) ≡ Some s → HasSortOf (cond c (Some (Put t)) (lookup (bytes_eq v) (puts (with_terms bs ts)))) s
    by go true i = h.0.fits.sorted ∙ i
    by go false i = go i

-- ---- the import

module _ (L : Linked) (more : List Further) (place : Places) (defs : Defs) (specs : SpecTable) (proved : List (List ℕ × Unit {0})) (n : ℕ) (import own : Funspec) (terms : List Plain) (frame : List Sep) (fit : ImportFits defs specs import own terms frame) (first : HoldsFor (record defs { proved = proved }) specs n (Entail (first_goal import own terms frame))) (second : HoldsFor (record defs { proved = proved }) specs n (Entail (second_goal import own terms frame))) (has : Has L (record defs { proved = proved }) specs) (blocks : AreApart L more place) (lemmas : LemmasAreTrue (setting L more place) (record defs { proved = proved })) (ds : List Datum) (args : List Value) (h : Heaplet) (pre : Pre (setting L more place) import ds args h) where
  abbrev all : Defs
  all = record defs { proved = proved }

  -- lemmas that are proved are no part of what a program must have
  has_alone : Has L defs specs
  has_alone = record {
    rules = has.rules;
    structs = has.structs;
    globals = has.globals;
    funs = has.funs;
    preds = has.preds;
    functions = has.functions;
    declared = has.declared;
    items = has.items;
  }

  abbrev S : Setting
  S = setting L more place

  abbrev base : Env
  base = bare_env S

  abbrev given_data : List ℕ → Datum
  given_data = with_each base.variables import.with ds

  -- the data of the import's variables
  abbrev E : Env
  E = giving base given_data

  import_is : item_env S import.with ds ≡ E
  import_is = with_data_is base base.variables import.with ds

  suits : Suits (scope_with import.with) E
  suits = subst (Suits (scope_with import.with)) import_is (item_suits S import.with ds pre.sorted fit.import_fits.with)

  -- and those of the own ones
  own_values : Values S E own.with terms
  own_values = values L more place defs specs has_alone (scope_with import.with) E suits own.with terms fit.terms_fit

  abbrev es : List Datum
  es = own_values.data'

  abbrev by : List (List ℕ × Plain)
  by = with_terms own.with terms

  abbrev put_data : List ℕ → Datum
  put_data = with_each given_data own.with es

  abbrev own_data : List ℕ → Datum
  own_data = with_each base.variables own.with es

  own_is : item_env S own.with es ≡ giving base own_data
  own_is = with_data_is base base.variables own.with es

  changed : Changed S.defs E by put_data
  changed = λ x. changed_each S.defs E own.with terms es own_values.sorted own_values.mean fit.own_fits.with given_data x

  suiting : Suiting (puts by) (scope_with own.with)
  suiting = with_sorts defs (scope_with import.with) own.with terms fit.terms_fit

  own_named : (a : Assertion) → AssertionFits fit.their fit.their_specs (scope_with own.with) a → (x : List ℕ) → assertion_mentions a x ≡ true → has_name x own.with ≡ true
  own_named a k x e = is_name x own.with (assertion_known x fit.their fit.their_specs (scope_with own.with) a k e)

  import_named : (a : Assertion) → AssertionFits defs specs (scope_with import.with) a → (x : List ℕ) → assertion_mentions a x ≡ true → has_name x import.with ≡ true
  import_named a k x e = is_name x import.with (assertion_known x defs specs (scope_with import.with) a k e)

  -- what the own specification says is what it says at the terms
  module _ (a : Assertion) (fits : AssertionFits fit.their fit.their_specs (scope_with own.with) a) (few : nodes by + body_nodes a < 2 ^ 63) (temps : List ℕ → Value) (k : Heaplet) where
    own_put : Holds S (giving base own_data) a temps k ↔ Holds S (giving base put_data) a temps k
    own_put = alike_holds S base own_data put_data a a (free_alike S base own_data put_data a (agree_inside (assertion_mentions a) own.with es own_values.sorted (own_named a fits) base.variables given_data)) temps k

    put_terms : Holds S E (assertion_after (puts by) a) temps k ↔ Holds S (giving base put_data) a temps k
    put_terms =
        alike_holds S E given_data put_data (assertion_after (puts by) a) a
        (assertion_changed S E by put_data changed a (formed_sorted fit.their fit.their_specs (scope_with own.with) a fits) few (formed_agrees fit.their fit.their_specs (scope_with own.with) a fits (puts by) suiting))
        temps k

    to_terms : Holds S (item_env S own.with es) a temps k → Holds S E (assertion_after (puts by) a) temps k
    to_terms q = put_terms.1 (own_put.0 (subst (λ e. Holds S e a temps k) own_is q))

    from_terms : Holds S E (assertion_after (puts by) a) temps k → Holds S (item_env S own.with es) a temps k
    from_terms q = subst (λ e. Holds S e a temps k) (sym own_is) (own_put.1 (put_terms.0 q))

  -- ---- the precondition

  abbrev context : Context
  context = record { variables = import.with; hypotheses = import.pre.props; mark = m.Plain }

  given : Given S all context E
  given =
      subst (Given S all context) import_is
      (record { suits = item_suits S import.with ds pre.sorted fit.import_fits.with; global = item_global S import.with ds; hypotheses = pre.props; mark = tt })

  abbrev equal_params : List PlainFormula
  equal_params = equations import.pre.params (map (replaced (puts by)) own.pre.params)

  asked : Holds S E (plain_assertion (equal_params ++ map (replaced_formula (puts by)) own.pre.props) (map (part_after (puts by)) own.pre.parts ++ frame)) (λ x. Vundef) h
  asked =
      first.in_each L more place has blocks lemmas E given (λ x. Vundef) h
      (record { witnesses = []; sorted = tt; props = tt; locals = tt; parts = subst (λ e. PartsHold S e import.pre.parts h) import_is pre.parts })

  both_true : AllTrue S.defs S.has_spec E equal_params × AllTrue S.defs S.has_spec E (map (replaced_formula (puts by)) own.pre.props)
  both_true = true_apart S.defs E S.has_spec equal_params (map (replaced_formula (puts by)) own.pre.props) asked.props

  both_parts : Sum (PartsHold S E (map (part_after (puts by)) own.pre.parts)) (PartsHold S E frame) h
  both_parts = apart S E (map (part_after (puts by)) own.pre.parts) frame h asked.parts

  abbrev here : Heaplet
  here = both_parts.0

  abbrev rest : Heaplet
  rest = both_parts.1

  abbrev own_asks : Assertion
  own_asks = plain_assertion own.pre.props own.pre.parts

  own_asked : Holds S (item_env S own.with es) own_asks (λ x. Vundef) here
  own_asked =
      from_terms own_asks (pre_fits fit.their fit.their_specs own fit.own_fits) fit.small.pre (λ x. Vundef) here
      (record { witnesses = []; sorted = tt; props = both_true.1; locals = tt; parts = both_parts.3 })

  param_named : (x : List ℕ) → mentions_in x (plains own.pre.params) ≡ true → has_name x own.with ≡ true
  param_named x e =
      is_name x own.with
      (list_known x fit.their (scope_with own.with) own.pre.params (all_known x fit.their (scope_with own.with) (map (λ t. Val) own.params) own.pre.params fit.own_fits.pre.terms) e)

  own_params : AllMean S.defs (item_env S own.with es) (plains own.pre.params) (map datums.Val args)
  own_params =
      let vs = map datums.Val args in
      let good = all_good fit.their (scope_with own.with) (map (λ t. Val) own.params) own.pre.params fit.own_fits.pre.terms in
      let ss = list_sorted fit.their (scope_with own.with) own.pre.params good in
      let ready = ready_puts S.defs E by put_data changed (λ v. true) (λ v. false) in
      let theirs = subst (λ e. AllMean S.defs e (plains import.pre.params) vs) import_is pre.params in
      let same = equations_mean S.defs E S.has_spec import.pre.params (map (replaced (puts by)) own.pre.params) (fit.params ∙ sym (length-map own.pre.params (replaced (puts by)))) both_true.0 vs theirs in
      let there' =
      (all_after S.defs E (puts by) given_data put_data (plains own.pre.params) ss.0 ss.1 (list_agrees fit.their (scope_with own.with) (puts by) suiting own.pre.params good) (λ v i. ready.tracks v refl) vs).0
      (subst (λ ts. AllMean S.defs E ts vs) (replaced_all (puts by) own.pre.params) same) in
      subst (λ e. AllMean S.defs e (plains own.pre.params) vs) (sym own_is)
      (all_like S.defs base put_data own_data own.pre.params (agree_inside (λ x. mentions_in x (plains own.pre.params)) own.with es own_values.sorted param_named given_data base.variables) vs there')

  own_pre : Pre S own es args here
  own_pre = record { sorted = own_values.sorted; props = own_asked.props; params = own_params; parts = own_asked.parts }

  -- ---- the postcondition

  abbrev own_end : Assertion
  own_end = with_value own.post

  abbrev at_terms : Assertion
  at_terms = assertion_after (puts by) own_end

  abbrev names : List (List ℕ)
  names = names_with (import.with ++ import.post.existentials)

  abbrev end_at : Assertion
  end_at = own_post import own terms

  -- what becomes of variables below the existentials of both
  abbrev term_changes : Changes
  term_changes = inside (puts by) own_end

  abbrev end_changes : Changes
  end_changes = below_existentials [] at_terms.existentials (fresh_from (is_among names) at_terms [] at_terms.existentials)

  end_fits : AssertionFits fit.their fit.their_specs (scope_with own.with) own_end
  end_fits = post_fits fit.their fit.their_specs own fit.own_fits

  terms_sorted : IsSorted at_terms
  terms_sorted = after_sorted (puts by) own_end (formed_sorted fit.their fit.their_specs (scope_with own.with) own_end end_fits) (formed_agrees fit.their fit.their_specs (scope_with own.with) own_end end_fits (puts by) suiting)

  few_names : length names + body_nodes at_terms < 2 ^ 63
  few_names = omega (arith, fit.small.named, length-map (import.with ++ import.post.existentials) (λ (b : Binder). b.name), length-append import.with import.post.existentials)

  end_free : (v : List ℕ) → has_name v end_at.existentials ≡ true → (has_name v import.with || has_name v import.post.existentials) ≡ false
  end_free v e = sym (among_both v import.with import.post.existentials) ∙ freed_allowed S E (is_among names) names (λ y i. i) at_terms terms_sorted few_names v e

  import_apart : (v : List ℕ) → has_name v import.with ≡ true → has_name v end_at.existentials ≡ false
  import_apart v e = not_true (has_name v end_at.existentials) (λ i. true≢false (sym (or_left (has_name v import.with) (has_name v import.post.existentials) e) ∙ end_free v i))

  abbrev nothing : Goal
  nothing = Entail (record { context = context; source = plain_assertion [] []; target = plain_assertion [] [] })

  not_variable : (v : List ℕ) → has_name v end_at.existentials ≡ true → has_name v import.with ≡ false
  not_variable v e = not_true (has_name v import.with) (λ i. true≢false (sym e ∙ import_apart v i))

  end_new : AreNew end_at.existentials nothing
  end_new = record {
    distinct = freed_apart S E (is_among names) names (λ y i. i) at_terms terms_sorted few_names (put_apart by own_end fit.small.post fit.own_fits.post.existentials);
    variables = not_variable;
    in_context = λ v e. not_true (context_mentions context v) (λ i. ⊎_elim
        (λ k. true≢false (sym (is_name v import.with (props_known v defs (scope_with import.with) specs import.pre.props fit.import_fits.pre.props k)) ∙ not_variable v e))
        (λ k. true≢false (sym k))
        (or_cases (formulas_mention v (formulas import.pre.props)) false i));
    in_goal = λ v e. refl;
  }

  -- where it returned
  module _ (w : Value) (g k : Heaplet) (post : Post S own es w g) (joins : Joins g rest k) where
    own_met : Holds S E at_terms (λ x. w) g
    own_met =
        to_terms own_end end_fits fit.small.post (λ x. w) g
        (record {
          witnesses = post.witnesses;
          sorted = post.sorted;
          props = post.props;
          locals = value_locals S.defs (with_data (item_env S own.with es) own.post.existentials post.witnesses) w own.post.value post.returned;
          parts = post.parts;
        })

    end_met : Holds S E end_at (λ x. w) g
    end_met = (alike_holds S E given_data given_data end_at at_terms (freed_alike S E (is_among names) names (λ y i. i) at_terms terms_sorted few_names) (λ x. w) g).1 own_met

    abbrev ws : List Datum
    ws = end_met.witnesses

    abbrev next_data : List ℕ → Datum
    next_data = with_each given_data end_at.existentials ws

    abbrev F : Env
    F = giving base next_data

    end_is : with_data E end_at.existentials ws ≡ F
    end_is = with_data_is base given_data end_at.existentials ws

    -- what speaks of the import's variables alone says the same
    import_stays : (a : Assertion) → AssertionFits defs specs (scope_with import.with) a → (temps : List ℕ → Value) (x : Heaplet) → Holds S E a temps x ↔ Holds S F a temps x
    import_stays a fits temps x =
        alike_holds S base given_data next_data a a
        (free_alike S base given_data next_data a (agree_outside (assertion_mentions a) end_at.existentials ws (λ y e. import_apart y (import_named a fits y e)) given_data)) temps x

    abbrev frame_alone : Assertion
    frame_alone = plain_assertion [] frame

    frame_stays : Holds S F frame_alone (λ x. Vundef) rest
    frame_stays =
        (import_stays frame_alone (frame_fits defs specs (scope_with import.with) frame fit.frame_fit) (λ x. Vundef) rest).0
        (record { witnesses = []; sorted = tt; props = tt; locals = tt; parts = both_parts.4 })

    abbrev value : Option Plain
    value = value_in end_at.locals

    abbrev target : Assertion
    target = import_post import value

    given_end : Given S all (record { variables = import.with ++ end_at.existentials; hypotheses = import.pre.props ++ end_at.props; mark = m.Plain }) F
    given_end =
        given_names S all E nothing end_at.existentials end_new ws end_met.sorted end_at.props given
        (subst (λ e. AllTrue S.defs S.has_spec e end_at.props) end_is end_met.props)

    met : Holds S F (record { existentials = target.existentials; props = target.props ++ value_equation value (value_in target.locals); locals = []; parts = target.parts }) (λ x. Vundef) k
    met =
        second.in_each L more place has blocks lemmas F given_end (λ x. Vundef) k
        (record {
          witnesses = [];
          sorted = tt;
          props = tt;
          locals = tt;
          parts = together S F end_at.parts frame g rest k joins (subst (λ e. PartsHold S e end_at.parts g) end_is end_met.parts) frame_stays.parts;
        })

    abbrev us : List Datum
    us = met.witnesses

    abbrev last_data : List ℕ → Datum
    last_data = with_each next_data target.existentials us

    abbrev G : Env
    G = with_data F target.existentials us

    last_is : G ≡ giving base last_data
    last_is = with_data_is base next_data target.existentials us

    props_met : AllTrue S.defs S.has_spec G target.props × AllTrue S.defs S.has_spec G (value_equation value (value_in target.locals))
    props_met = true_apart S.defs G S.has_spec target.props (value_equation value (value_in target.locals)) met.props

    abbrev import_end : Assertion
    import_end = with_value import.post

    abbrev target_changes : Changes
    target_changes = below_existentials [] import_end.existentials (fresh_from (option_mentions value) import_end [] import_end.existentials)

    import_end_fits : AssertionFits defs specs (scope_with import.with) import_end
    import_end_fits = post_fits defs specs import fit.import_fits

    import_sorted : IsSorted import_end
    import_sorted = formed_sorted defs specs (scope_with import.with) import_end import_end_fits

    few_values : length (value_names value) + body_nodes import_end < 2 ^ 63
    few_values = omega (arith, fit.small.returned, value_few value)

    target_free : (v : List ℕ) → has_name v target.existentials ≡ true → option_mentions value v ≡ false
    target_free = freed_allowed S F (option_mentions value) (value_names value) (value_among value) import_end import_sorted few_values

    -- the own term of RETURN is the result
    value_is : (t : Plain) → value ≡ Some t → Means S.defs G t (datums.Val w)
    value_is t e =
        let before = subst (λ x. Means S.defs x t (datums.Val w)) end_is (value_of S.defs (with_data E end_at.existentials ws) w end_at.locals t end_met.locals e) in
        let agree = agree_outside (λ x. mentions x t) target.existentials us (λ x i. not_true (has_name x target.existentials) (λ q. true≢false (sym i ∙ ap (λ o. option_mentions o x) (sym e) ∙ target_free x q))) next_data in
        subst (λ x. Means S.defs x t (datums.Val w)) (sym last_is) (means_like S.defs base next_data last_data t agree (datums.Val w) before)

    has_value : is_some (value_in target.locals) ≡ is_some value
    has_value =
        some_after target_changes import.post.value
        ∙ both_values defs fit.their (post_scope import.post (scope_with import.with)) (post_scope own.post (scope_with own.with)) import.result.shape import.post.value own.post.value fit.import_fits.post.value
        (subst (λ shape. ValueFits fit.their (post_scope own.post (scope_with own.with)) shape own.post.value) (sym fit.result) fit.own_fits.post.value)
        ∙ sym (some_twice term_changes end_changes own.post.value)

    -- so is the import's
    target_is : (t : Plain) → value_in target.locals ≡ Some t → Means S.defs G t (datums.Val w)
    target_is t e =
        let a = there value (sym has_value ∙ ap is_some e) in
        let equal = subst (λ o. AllTrue S.defs S.has_spec G (value_equation o (Some t))) a.1 (subst (λ o. AllTrue S.defs S.has_spec G (value_equation value o)) e props_met.1) in
        equal_means S.defs G S.has_spec a.0 t equal.0 (datums.Val w) (value_is a.0 a.1)

    import_met : Holds S E import_end (λ x. w) k
    import_met =
        (import_stays import_end import_end_fits (λ x. w) k).1
        ((alike_holds S F next_data next_data target import_end (freed_alike S F (option_mentions value) (value_names value) (value_among value) import_end import_sorted few_values) (λ x. w) k).0
        (record {
          witnesses = us;
          sorted = met.sorted;
          props = props_met.0;
          locals = locals_from S.defs G w target_changes import.post.value target_is;
          parts = met.parts;
        }))

    import_post_met : Post S import ds w k
    import_post_met =
        subst (λ e. PostHolds S e import.post w k) (sym import_is)
        (record {
          witnesses = import_met.witnesses;
          sorted = import_met.sorted;
          props = import_met.props;
          returned = locals_value S.defs (with_data E import.post.existentials import_met.witnesses) w import.post.value import_met.locals;
          parts = import_met.parts;
        })

  pub import_follows : IsServed S import own ds args h
  import_follows = record {
    data' = es;
    here = here;
    rest = rest;
    joins = both_parts.2;
    pre = own_pre;
    post = λ w g k post joins. import_post_met w g k post joins;
  }
