-- `unfold`: the clause of a predicate in its place.
use Rattle.std.proofs.Common.{◌≡◌, ℕ, ◌+◌, ◌<◌, ◌-◌, ◌^◌, Bool, true, false, List, [], ◌∷◌, ◌++◌, drop, take, length, Result, Ok, refl, sym, ap, subst, ◌∙◌, true≢false}
use Rattle.std.specs.Prelude.{bytes_eq}
use Rattle.std.specs.List.{AllByRecursion, list_any}
use Rattle.std.proofs.lemmas.List.{length-map}
use Rattle.floyd_text.specs.declared.refusal.No.{No}
use Rattle.floyd_clight_heap.specs.Heaplet.{Heaplet}
use Rattle.floyd_clight_machine.specs.Evaluation.{Temps}
use Rattle.floyd_tree.specs.Plain.{Plain}
use Rattle.floyd_tree_values.specs.BuiltIns.{Env}
use Rattle.floyd_tree_values.specs.Data.{Datum}
use Rattle.floyd_truth.specs.Truth.{AllTrue}
use Rattle.floyd_truth.proofs.Fresh.{not_true}
use Rattle.floyd_truth.proofs.OneTruth.{giving}
use Rattle.floyd_assert_trees.specs.declared.assertion.Assertion.{Assertion}
use Rattle.floyd_assert_trees.specs.declared.binder.Binder.{Binder}
use Rattle.floyd_assert_trees.specs.declared.items.Defs.{Defs}
use Rattle.floyd_assert_trees.specs.declared.sep.Sep.{Sep}
use Rattle.floyd_assert_trees.specs.declared.sep.Sep.TheVariants.{FieldAt, Padding, Valid, Anything, Predicate}
use Rattle.floyd_assert_trees.specs.declared.spec.SpecTable.{SpecTable}
use Rattle.floyd_assert_changes.specs.Apart.{apart, set_apart}
use Rattle.floyd_assert_changes.specs.Changed.{assertion_fits, has_name}
use Rattle.floyd_assert_laws.specs.Free.{assertion_mentions}
use Rattle.floyd_assert_laws.specs.InChanged.{body_nodes}
use Rattle.floyd_assert_laws.proofs.FreeLaws.{free_alike}
use Rattle.floyd_assert_meaning.specs.Assertions.{Holds, LocalsHold}
use Rattle.floyd_assert_meaning.specs.Laws.{AgreeWhere}
use Rattle.floyd_assert_meaning.specs.Parts.{BodyHolds, PartHolds, PartsHold}
use Rattle.floyd_assert_meaning.specs.Settings.{Setting, with_data, with_each}
use Rattle.floyd_assert_meaning.proofs.AlikeLaws.{alike_holds, alike_parts}
use Rattle.floyd_assert_meaning.proofs.Inversions.{body_of}
use Rattle.floyd_assert_meaning.proofs.Sames.{into, out_of}
use Rattle.floyd_clauses.specs.Clauses.{clause_of, unfolded}
use Rattle.floyd_goal_forms.specs.Assertions.{AssertionFits, PartFits, PartsFit, PredicatesOf}
use Rattle.floyd_goal_forms.specs.Goals.{IsWellFormed}
use Rattle.floyd_goal_forms.specs.Items.{ItemsFit}
use Rattle.floyd_goal_forms.specs.Terms.{names_with, scope_with}
use Rattle.floyd_goal_meaning.specs.GoalHolds.{HoldsFor}
use Rattle.floyd_goal_meaning.specs.Programs.{setting}
use Rattle.floyd_goal_names.proofs.NewNames.{each_other}
use Rattle.floyd_goal_scopes.proofs.Parts.{assertion_known}
use Rattle.floyd_goal_scopes.proofs.Terms.{is_name}
use Rattle.floyd_goal_trees.specs.Contexts.{context_of, scope_of}
use Rattle.floyd_goal_trees.specs.declared.args.Args.{Args}
use Rattle.floyd_goal_trees.specs.declared.goal.Goal.{Goal}
use Rattle.floyd_goal_parts.specs.Sources.{part_at, part_number, part_of}
use Rattle.floyd_import_laws.proofs.Collected.{named}
use Rattle.floyd_import_laws.proofs.Freed.{freed_allowed}
use Rattle.floyd_import_laws.proofs.Sorted.{formed_sorted}
use Rattle.floyd_entail_predicates.specs.Settling.{settled}
use Rattle.floyd_entail_predicates.specs.Unfold.{IsOpened, Opens, OpensPart, Row, opened_source}
use Rattle.floyd_entail_soundness.proofs.Placing.{of_number, same_Ok}
use Rattle.floyd_entail_soundness.proofs.Putting.{made_is}
use Rattle.floyd_entail_soundness.proofs.Sources.{no_existentials, of_result, part_found, parts_alone, source_fits}
use Rattle.floyd_entail_soundness.proofs.Written.{both_true}
use Rattle.floyd_clause_forms.proofs.Forming.{call_fits, clause_formed, found}
use Rattle.floyd_predicate_soundness.specs.Rows.{UnfoldIsGiven}
use Rattle.floyd_predicate_soundness.proofs.Clauses.{apart_holds, stands_for}
use Rattle.floyd_predicate_soundness.proofs.Placing.{all_others, others_than, part_out, put_between}
use Rattle.floyd_predicate_soundness.proofs.Settling.{settled_holds}

abbrev same_pair : Assertion → Sep → Result (Assertion × Sep) No
same_pair source p = Ok (source, p)

-- with data for existentials
into_there : (S : Setting) (env : Env) (bs : List Binder) (ds : List Datum) (P : Env → Type 0) → P (with_data env bs ds) → P (giving env (with_each env.variables bs ds))
into_there S env bs ds P x = into env env.variables bs ds P x

-- ---- a source with an assertion in place of a part

module _ (S : Setting) (env : Env) (defs : Defs) (specs : SpecTable) (vars bs : List Binder) (ds : List Datum) (free : (v : List ℕ) → has_name v bs ≡ true → has_name v vars ≡ false) where
  abbrev pub data_there : List ℕ → Datum
  data_there = with_each env.variables bs ds

  -- what is well formed among the variables mentions no other name
  pub agree_there : (a : Assertion) → AssertionFits defs specs (scope_with vars) a → AgreeWhere (assertion_mentions a) env.variables data_there
  agree_there a fits v i =
      sym (each_other bs env.variables ds v (not_true (has_name v bs) (λ q. true≢false (sym (is_name v vars (assertion_known v defs specs (scope_with vars) a fits i)) ∙ free v q))))

  abbrev plain : List Sep → Assertion
  plain parts = record { existentials = []; props = []; locals = []; parts = parts }

  pub parts_there : (parts : List Sep) (h : Heaplet) → PartsFit defs (scope_with vars) (PredicatesOf defs (scope_with vars)) parts → PartsHold S env parts h → PartsHold S (giving env data_there) parts h
  parts_there parts h fits m =
      let alike = free_alike S env env.variables data_there (plain parts) (agree_there (plain parts) (record { existentials = tt; props = tt; temporaries = tt; locals = tt; parts = fits })) in
      let bodies = alike.bodies [] tt in
      (alike_parts S env env.variables data_there parts parts h bodies.parts).0 m

pub opened_holds : (S : Setting) (env : Env) (defs : Defs) (specs : SpecTable) (vars : List Binder) (source clause : Assertion) (k : ℕ) (p : Sep) → source.existentials ≡ [] → AssertionFits defs specs (scope_with vars) source → part_at source.parts k ≡ Ok p →
    ((v : List ℕ) → has_name v clause.existentials ≡ true → has_name v vars ≡ false) → ((g : Heaplet) → PartHolds S env p g → BodyHolds S env clause g) → (temps : Temps) (h : Heaplet) → Holds S env source temps h → Holds S env (opened_source k source clause) temps h
opened_holds S env defs specs vars source clause k p none fits is free gives temps h x =
    let out = part_out S env k source.parts p h is (parts_alone S env source temps h none x) in
    let w = body_of (gives out.here out.first) in
    let bs = clause.existentials in
    let ds = w.witnesses in
    let data' = data_there S env defs specs vars bs ds free in
    let there = giving env data' in
    let y = (alike_holds S env env.variables data' source source (free_alike S env env.variables data' source (agree_there S env defs specs vars bs ds free source fits)) temps h).0 x in
    let own = subst (λ cs. PartsFit defs (scope_with cs ++ scope_with vars) (PredicatesOf defs (scope_with cs ++ scope_with vars)) source.parts) none fits.parts in
    let rest = parts_there S env defs specs vars bs ds free (others_than k source.parts) out.others (all_others (PartFits defs (scope_with vars) (PredicatesOf defs (scope_with vars))) k source.parts p is own) out.rest in
    let source_props = subst (λ cs. AllTrue S.defs S.has_spec (with_data there cs y.witnesses) source.props) none y.props in
    let source_locals = subst (λ cs. LocalsHold S.defs (with_data there cs y.witnesses) temps source.locals) none y.locals in
    let clause_props = into_there S env bs ds (λ v. AllTrue S.defs S.has_spec v clause.props) w.props in
    let clause_parts = into_there S env bs ds (λ v. PartsHold S v clause.parts out.here) w.parts in
    record {
      witnesses = ds;
      sorted = w.sorted;
      props = out_of env env.variables bs ds (λ v. AllTrue S.defs S.has_spec v (source.props ++ clause.props)) (both_true S.defs there S.has_spec source.props clause.props source_props clause_props);
      locals = out_of env env.variables bs ds (λ v. LocalsHold S.defs v temps source.locals) source_locals;
      parts = out_of env env.variables bs ds (λ v. PartsHold S v (opened_source k source clause).parts h) (put_between S there (take (k - 1) source.parts) (drop k source.parts) clause.parts out.here out.others h out.joins clause_parts rest);
    }

-- ---- the command

-- a part that is unfolded is a predicate
pub record Called (defs : Defs) (part : Sep) (clause : Assertion) : Type 0 where
  pub name : List ℕ
  pub terms : List Plain
  pub is : part ≡ Predicate name terms
  pub clause_is : clause_of defs name terms ≡ Ok clause

pub called : (defs : Defs) (part : Sep) (clause : Assertion) → unfolded defs part ≡ Ok clause → Called defs part clause
called defs (FieldAt r v) clause e = absurd cc
called defs (Padding r) clause e = absurd cc
called defs (Valid t) clause e = absurd cc
called defs Anything clause e = absurd cc
called defs (Predicate name terms) clause e = record { name = name; terms = terms; is = refl; clause_is = e }

pub unfold_sound : (defs : Defs) (specs : SpecTable) (n : ℕ) (goal : Goal) (args : Args) (goals : List Goal) → ItemsFit defs specs → IsWellFormed defs specs goal → UnfoldIsGiven defs goal args → Row defs goal args (Ok goals) → AllByRecursion (HoldsFor defs specs n) goals → HoldsFor defs specs n goal
unfold_sound defs specs n goal args goals items formed given_few row h =
    let k = part_number args.target in
    let vars = (context_of goal).variables in
    let avoided : List ℕ → Bool = λ x. has_name x vars in
    let avoid = names_with vars in
    let scope = scope_of (context_of goal) in
    let found' = of_result (part_of goal k) (OpensPart defs goal k) goals row in
    let source = found'.0.0 in
    let part = found'.0.1 in
    let is = part_found goal k source part found'.1 in
    let u = of_result (unfolded defs part) (Opens goal k source) goals found'.2 in
    let clause = u.0 in
    let a = of_result (set_apart avoided clause) (IsOpened goal k source) goals u.2 in
    let made : apart avoided clause ≡ a.0 = made_is assertion_fits (apart avoided clause) a.0 a.1 in
    let after = settled goal [] (opened_source k source a.0) in
    let same : goals ≡ after ∷ [] = same_Ok {A = List Goal} goals (after ∷ []) a.2 in
    let one : HoldsFor defs specs n after = (subst (AllByRecursion (HoldsFor defs specs n)) same h).0 in
    let none = no_existentials goal source is.source_is in
    let fits = source_fits defs specs goal source is.source_is formed in
    let own = subst (λ bs. PartsFit defs (scope_with bs ++ scope) (PredicatesOf defs (scope_with bs ++ scope)) source.parts) none fits.parts in
    let part_fits = of_number (PartFits defs scope (PredicatesOf defs scope)) k source.parts part is.part_is own in
    let c = called defs part clause u.1 in
    let few = given_few source c.name c.terms (found'.1 ∙ ap (λ (p : Sep). same_pair source p) c.is) in
    let call = subst (PartFits defs scope (PredicatesOf defs scope)) c.is part_fits in
    let f = found defs c.name c.terms clause c.clause_is in
    let clause_fits = clause_formed defs specs scope c.name c.terms (length vars) clause items.preds call few c.clause_is in
    let terms_fit = call_fits defs specs scope c.name c.terms (length vars) clause items.preds few f call in
    let among : (y : List ℕ) → has_name y vars ≡ true → list_any (bytes_eq y) (names_with vars) ≡ true = λ y e. sym (named y vars) ∙ e in
    let small = subst (λ m. m + body_nodes clause < 2 ^ 63) (sym (length-map vars (λ (b : Binder). b.name))) (few.clause clause c.clause_is) in
    record {
      in_each = λ L more place has apart' lemmas env given.
          let S = setting L more place in
          let gives : (g : Heaplet) → PartHolds S env part g → BodyHolds S env a.0 g = λ g m.
          subst (λ q. BodyHolds S env q g) made
          (apart_holds S env defs specs scope avoided avoid among clause clause_fits small g
          ((stands_for L more place defs specs has scope env given.suits c.name c.terms (length vars) clause items.preds few f terms_fit g).0 (subst (λ q. PartHolds S env q g) c.is m))) in
          let free : (v : List ℕ) → has_name v a.0.existentials ≡ true → has_name v vars ≡ false = λ v q. freed_allowed S env avoided avoid among clause (formed_sorted defs specs scope clause clause_fits) small v (ap (λ (b : Assertion). has_name v b.existentials) made ∙ q) in
          settled_holds L more place defs specs n goal source (opened_source k source a.0) [] env is.source_is
          (λ temps g x. opened_holds S env defs specs vars source a.0 k part none fits is.part_is free gives temps g x)
          given tt (one.in_each L more place has apart' lemmas);
    }
