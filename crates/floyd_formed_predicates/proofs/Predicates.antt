-- Goals behind `unfold` and `fold` are well formed.
use Rattle.std.proofs.Common.{◌≡◌, ℕ, zero, suc, ◌+◌, ◌<◌, ◌-◌, ◌^◌, Bool, true, false, List, [], ◌∷◌, ◌++◌, drop, take, length, Result, Ok, sym, ap, subst, ◌∙◌}
use Rattle.std.specs.Prelude.{bytes_eq}
use Rattle.std.specs.List.{AllByRecursion, list_any}
use Rattle.std.proofs.lemmas.List.{length-map}
use Rattle.floyd_text.specs.declared.refusal.No.{No}
use Rattle.floyd_tree.specs.Formulas.{PlainFormula}
use Rattle.floyd_tree.specs.Plain.{plains, sizes}
use Rattle.floyd_truth.specs.Replace.{puts}
use Rattle.floyd_assert_trees.specs.declared.assertion.Assertion.{Assertion}
use Rattle.floyd_assert_trees.specs.declared.binder.Binder.{Binder}
use Rattle.floyd_assert_trees.specs.declared.items.Defs.{Defs}
use Rattle.floyd_assert_trees.specs.declared.sep.Sep.{Sep}
use Rattle.floyd_assert_trees.specs.declared.sep.Sep.TheVariants.{Predicate}
use Rattle.floyd_assert_trees.specs.declared.spec.SpecTable.{SpecTable}
use Rattle.floyd_assert_changes.specs.Apart.{apart, set_apart}
use Rattle.floyd_assert_changes.specs.Changed.{assertion_after, assertion_fits, has_name}
use Rattle.floyd_assert_laws.specs.InChanged.{body_nodes}
use Rattle.floyd_clauses.specs.Clauses.{unfolded}
use Rattle.floyd_goal.specs.Goals.{enriched}
use Rattle.floyd_goal_trees.specs.Contexts.{context_of, scope_of}
use Rattle.floyd_goal_trees.specs.declared.args.Args.{Args}
use Rattle.floyd_goal_trees.specs.declared.goal.Goal.{Goal}
use Rattle.floyd_goal_forms.specs.Assertions.{AssertionFits, PartFits, PartsFit, PredicatesOf}
use Rattle.floyd_goal_forms.specs.Goals.{IsWellFormed}
use Rattle.floyd_goal_forms.specs.Items.{ItemsFit}
use Rattle.floyd_goal_forms.specs.Terms.{names_with, scope_with}
use Rattle.floyd_goal_parts.specs.Rows.{Answer, Sided}
use Rattle.floyd_goal_parts.specs.Sources.{from_source, in_place, part_number, part_of}
use Rattle.floyd_import_laws.proofs.Collected.{named}
use Rattle.floyd_entail_predicates.specs.Fold as folding
use Rattle.floyd_entail_predicates.specs.Fold.{below, folded_source}
use Rattle.floyd_entail_predicates.specs.Settling.{settled}
use Rattle.floyd_entail_predicates.specs.Unfold as unfolding_row
use Rattle.floyd_entail_predicates.specs.Unfold.{IsOpened, Opens, OpensPart, opened_source}
use Rattle.floyd_entail_soundness.proofs.Placing.{of_number, same_Ok}
use Rattle.floyd_entail_soundness.proofs.Putting.{made_is}
use Rattle.floyd_entail_soundness.proofs.Sources.{no_existentials, of_result, part_found, parts_fit, source_fits}
use Rattle.floyd_clause_forms.proofs.Folding.{arguments_fit, instance_formed}
use Rattle.floyd_clause_forms.proofs.Forming.{clause_formed, found, found_formed}
use Rattle.floyd_formed_entail.proofs.Sided.{sided_formed}
use Rattle.floyd_formed_pure.specs.Rows.{AreWellFormed}
use Rattle.floyd_formed_pure.proofs.Contexts.{both_all}
use Rattle.floyd_predicate_soundness.specs.Rows.{FoldIsGiven, UnfoldIsGiven}
use Rattle.floyd_predicate_soundness.proofs.Folding.{found_by}
use Rattle.floyd_predicate_soundness.proofs.Placing.{all_left}
use Rattle.floyd_predicate_soundness.proofs.Unfolding.{called}
use Rattle.floyd_formed_predicates.proofs.Apart.{apart_allowed, apart_formed}
use Rattle.floyd_formed_predicates.proofs.Settled.{from_formed, over_formed, parts_below, settled_formed}

taken : {A : Type 0} (P : A → Type 0) (n : ℕ) (xs : List A) → AllByRecursion P xs → AllByRecursion P (take n xs)
taken P zero xs h = tt
taken P (suc n) [] h = tt
taken P (suc n) (x ∷ xs) h = (h.0, taken P n xs h.1)

dropped : {A : Type 0} (P : A → Type 0) (n : ℕ) (xs : List A) → AllByRecursion P xs → AllByRecursion P (drop n xs)
dropped P zero xs h = h
dropped P (suc n) [] h = tt
dropped P (suc n) (x ∷ xs) h = dropped P n xs h.1

put_parts : (P : Sep → Type 0) (k : ℕ) (new parts : List Sep) → AllByRecursion P new → AllByRecursion P parts → AllByRecursion P (in_place k new parts)
put_parts P k new parts h all =
    both_all P (take (k - 1) parts ++ new) (drop k parts) (both_all P (take (k - 1) parts) new (taken P (k - 1) parts all) h) (dropped P k parts all)

abbrev ok_goals : List Goal → Answer
ok_goals goals = Ok goals

abbrev found_pair : Assertion → Sep → Result (Assertion × Sep) No
found_pair source p = Ok (source, p)

pub unfold_forms : (defs : Defs) (specs : SpecTable) (goal : Goal) (args : Args) (goals : List Goal) → ItemsFit defs specs → IsWellFormed defs specs goal → UnfoldIsGiven defs goal args → unfolding_row.Row defs goal args (Ok goals) → AreWellFormed defs specs goals
unfold_forms defs specs goal args goals items formed asks row =
    let k = part_number args.target in
    let vars = (context_of goal).variables in
    let avoided : List ℕ → Bool = λ x. has_name x vars in
    let scope = scope_of (context_of goal) in
    let found' = of_result (part_of goal k) (OpensPart defs goal k) goals row in
    let source = found'.0.0 in
    let part = found'.0.1 in
    let is = part_found goal k source part found'.1 in
    let u = of_result (unfolded defs part) (Opens goal k source) goals found'.2 in
    let clause = u.0 in
    let a = of_result (set_apart avoided clause) (IsOpened goal k source) goals u.2 in
    let made : apart avoided clause ≡ a.0 = made_is assertion_fits (apart avoided clause) a.0 a.1 in
    let after = settled goal [] (opened_source k source a.0) in
    let same : goals ≡ after ∷ [] = same_Ok {A = List Goal} goals (after ∷ []) a.2 in
    let none = no_existentials goal source is.source_is in
    let fits = source_fits defs specs goal source is.source_is formed in
    let own = parts_fit defs specs goal source is.source_is formed in
    let part_fits = of_number (PartFits defs scope (PredicatesOf defs scope)) k source.parts part is.part_is own in
    let c = called defs part clause u.1 in
    let few = asks source c.name c.terms (found'.1 ∙ ap (λ (p : Sep). found_pair source p) c.is) in
    let call = subst (PartFits defs scope (PredicatesOf defs scope)) c.is part_fits in
    let clause_fits = clause_formed defs specs scope c.name c.terms (length vars) clause items.preds call few c.clause_is in
    let among : (y : List ℕ) → has_name y vars ≡ true → list_any (bytes_eq y) (names_with vars) ≡ true = λ y e. sym (named y vars) ∙ e in
    let small = subst (λ m. m + body_nodes clause < 2 ^ 63) (sym (length-map vars (λ (b : Binder). b.name))) (few.clause clause c.clause_is) in
    let apart_fits = subst (AssertionFits defs specs scope) made (apart_formed defs specs scope avoided (names_with vars) among clause small clause_fits) in
    let free : (v : List ℕ) → has_name v a.0.existentials ≡ true → has_name v vars ≡ false = λ v q. apart_allowed avoided (names_with vars) among clause small v (ap (λ (b : Assertion). has_name v b.existentials) made ∙ q) in
    let bs = a.0.existentials in
    let P = PartFits defs (scope_with bs ++ scope_with vars) (PredicatesOf defs (scope_with bs ++ scope_with vars)) in
    let others = parts_below defs specs vars bs source.parts free own in
    let new = over_formed defs specs vars source a.0 (in_place k a.0.parts source.parts) none fits apart_fits free (put_parts P k a.0.parts source.parts apart_fits.parts others) in
    subst (AreWellFormed defs specs) (sym same) (settled_formed defs specs goal formed [] (opened_source k source a.0) tt new, tt)

pub fold_forms : (defs : Defs) (specs : SpecTable) (goal : Goal) (args : Args) (goals : List Goal) → ItemsFit defs specs → IsWellFormed defs specs goal → FoldIsGiven defs goal args → folding.Row defs goal args (Ok goals) → AreWellFormed defs specs goals
fold_forms defs specs goal args goals items formed asks row =
    let scope = scope_of (context_of goal) in
    let d = found_by defs goal args goals row in
    let source = d.source in
    let clause = d.clause in
    let instance = assertion_after (puts d.by) (below clause) in
    let f = found defs args.name args.terms clause d.clause_is in
    let terms_fit = arguments_fit defs scope args.name args.terms clause f asks.terms in
    let fits = found_formed defs specs scope args.name args.terms (sizes (plains args.more)) clause items.preds asks.few f terms_fit in
    let instance_fits = instance_formed defs specs scope clause fits args.more asks.more d.by d.taken_by (asks.few.clause clause d.clause_is) in
    let none = no_existentials goal source d.source_is in
    let own = source_fits defs specs goal source d.source_is formed in
    let P = PartFits defs scope (PredicatesOf defs scope) in
    let left = all_left P instance.parts source.parts d.done.rest 1 d.done.difference (parts_fit defs specs goal source d.source_is formed) in
    let one : P (Predicate args.name args.terms) = (f.pred, f.there, terms_fit) in
    let new = folded_source args source d.done.rest in
    let new_fits : AssertionFits defs specs scope new = record {
      existentials = own.existentials;
      props = own.props;
      temporaries = own.temporaries;
      locals = own.locals;
      parts = subst (λ bs. PartsFit defs (scope_with bs ++ scope) (PredicatesOf defs (scope_with bs ++ scope)) new.parts) (sym none) (both_all P d.done.rest (Predicate args.name args.terms ∷ []) left (one, tt));
    } in
    let behind : List PlainFormula → List Goal = λ kept. from_source goal (enriched (context_of goal) kept) new ∷ [] in
    let sided : Sided (context_of goal) instance.props behind (Ok goals) = (Ok d.done.sides, d.done.side, ap ok_goals d.done.goals_are) in
    sided_formed defs specs goal formed behind goals instance.props instance_fits.props (λ kept k. (from_formed defs specs goal formed kept new k new_fits, tt)) sided
