-- A predicate holds where its clause does.
use Rattle.std.proofs.Common.{◌≡◌, ◌↔◌, ℕ, List, [], ◌∷◌, map, Some, Ok, sym, ◌∙◌, ap, subst}
use Rattle.std.specs.Prelude.{option_and_then}
use Rattle.floyd_int.specs.declared.kinds.Value.{Value}
use Rattle.floyd_int.specs.declared.kinds.Value.TheVariants.{Vundef}
use Rattle.floyd_clight_heap.specs.Heaplet.{Heaplet}
use Rattle.floyd_tree.specs.Plain.{Plain}
use Rattle.floyd_tree_values.specs.BuiltIns.{Env}
use Rattle.floyd_tree_values.specs.Data.{Datum}
use Rattle.floyd_tree_values.specs.Funs.{Bindings}
use Rattle.floyd_tree_values.specs.Means as values
use Rattle.floyd_tree_values.specs.Means.{datum_of}
use Rattle.floyd_tree_values.specs.Rules.{Scope}
use Rattle.floyd_tree_values.proofs.OneValue.{one_list}
use Rattle.floyd_truth.specs.Capture.{Changes}
use Rattle.floyd_truth.specs.Laws.{Changed}
use Rattle.floyd_truth.specs.Replace.{puts}
use Rattle.floyd_truth.proofs.OneTruth.{giving}
use Rattle.floyd_assert_trees.specs.declared.assertion.Assertion.{Assertion}
use Rattle.floyd_assert_trees.specs.declared.assertion.Local.{Local}
use Rattle.floyd_assert_trees.specs.declared.items.Pred.{Pred}
use Rattle.floyd_assert_trees.specs.declared.sep.Sep.TheVariants.{Predicate}
use Rattle.floyd_assert_changes.specs.Changed.{assertion_after, assertion_fits, inside, local_after}
use Rattle.floyd_assert_meaning.specs.Assertions.{Holds, LocalsHold}
use Rattle.floyd_assert_meaning.specs.Parts.{BodyHolds, PartHolds, body, predicate}
use Rattle.floyd_assert_meaning.specs.Predicates.{Opened, called}
use Rattle.floyd_assert_meaning.specs.Predicates as meaning
use Rattle.floyd_assert_meaning.specs.Settings.{Setting, with_data}
use Rattle.floyd_assert_meaning.proofs.AlikeLaws.{alike_holds}
use Rattle.floyd_assert_meaning.proofs.Inversions.{predicate_of}
use Rattle.floyd_assert_laws.proofs.FreeLaws.{free_alike}
use Rattle.floyd_assert_laws.proofs.Replaced.{assertion_changed}
use Rattle.floyd_clauses.specs.Clauses.{Opening, clause_in, opened, opened_by, with_terms}
use Rattle.floyd_assert_instances.specs.Instances.{taken}
use Rattle.floyd_goal_forms.specs.Assertions.{AssertionFits}
use Rattle.floyd_goal_scopes.proofs.Parts.{assertion_known}
use Rattle.floyd_import_laws.proofs.Sorted.{formed_sorted}
use Rattle.floyd_funspec_laws.proofs.Made.{goes, taken_is, within}
use Rattle.floyd_clause_laws.specs.Laws.{ClauseFits}
use Rattle.floyd_clause_laws.proofs.Entries.{Arguments, after, arguments, data_of, known, put_data, scope_of}
use Rattle.floyd_clause_laws.proofs.Finding.{Placed, body_known, placed}
use Rattle.floyd_clause_laws.proofs.Opening.{Opens, opens}
use Rattle.floyd_clause_laws.proofs.Sorting.{opens_well}

-- ---- an assertion without LOCAL

no_locals : (defs : values.Defs) (env : Env) (temps : List ℕ → Value) (ch : Changes) (ls : List Local) → ls ≡ [] → LocalsHold defs env temps (map (local_after ch) ls)
no_locals defs env temps ch [] e = tt
no_locals defs env temps ch (l ∷ ls) e = absurd cc

bare_locals : (defs : values.Defs) (env : Env) (temps : List ℕ → Value) (ls : List Local) → ls ≡ [] → LocalsHold defs env temps ls
bare_locals defs env temps [] e = tt
bare_locals defs env temps (l ∷ ls) e = absurd cc

module _ (S : Setting) where
  to_body : {env : Env} {a : Assertion} {temps : List ℕ → Value} {h : Heaplet} → Holds S env a temps h → BodyHolds S env a h
  to_body x = body x.witnesses x.sorted x.props x.parts

  from_body : {env : Env} {a : Assertion} {h : Heaplet} (temps : List ℕ → Value) → ((e : Env) → LocalsHold S.defs e temps a.locals) → BodyHolds S env a h → Holds S env a temps h
  from_body temps k (body {env = env} {a = a} ds s t q) = record { witnesses = ds; sorted = s; props = t; locals = k (with_data env a.existentials ds); parts = q }

module _ (S : Setting) (env : Env) (name : List ℕ) (p : Pred) (terms : List Plain) (fit : ClauseFits S env name p terms) (h : Heaplet) where
  abbrev at : Placed fit.defs fit.specs name p
  at = placed fit.defs fit.specs name p fit.preds fit.own

  abbrev args : Arguments S.defs env p.arguments terms
  args = arguments S.defs env fit.scope fit.suits fit.keeps p.arguments terms fit.terms_fit

  abbrev OpensTo : Opening → Type 0
  OpensTo o = Opens S.defs env fit.scope fit.suits fit.keeps fit.defs fit.specs at.before name p terms args (meaning.opened p args.data') o

  module _ (o : Opening) (x : OpensTo o) (opened_is : opened p terms ≡ Ok o) where
    abbrev bindings : Bindings
    bindings = data_of S.defs env x.entries

    abbrev scope : Scope
    scope = scope_of S.defs env x.entries

    fits : AssertionFits fit.defs fit.specs scope o.1
    fits = body_known fit.defs fit.specs name p at fit.own x.parts scope o.1 x.fits.fits

    abbrev data' : List ℕ → Datum
    data' = put_data S.defs env bindings

    temps : List ℕ → Value
    temps y = Vundef

    own_put : Holds S (giving env (datum_of bindings)) o.1 temps h ↔ Holds S (giving env data') o.1 temps h
    own_put =
        alike_holds S env (datum_of bindings) data' o.1 o.1
        (free_alike S env (datum_of bindings) data' o.1 (λ y e. known S.defs env x.entries y (assertion_known y fit.defs fit.specs scope o.1 fits e)))
        temps h

    changed : Changed S.defs env o.0 data'
    changed = subst (λ by. Changed S.defs env by data') (sym x.terms_are) (after S.defs env x.entries)

    put_terms : Holds S env (assertion_after (puts o.0) o.1) temps h ↔ Holds S (giving env data') o.1 temps h
    put_terms =
        alike_holds S env env.variables data' (assertion_after (puts o.0) o.1) o.1
        (assertion_changed S env o.0 data' changed o.1 (formed_sorted fit.defs fit.specs scope o.1 fits) (fit.small o opened_is)
        (opens_well fit.defs fit.specs name p terms fit.preds fit.own o opened_is))
        temps h

    to_clause : BodyHolds S (giving env (datum_of bindings)) o.1 h → BodyHolds S env (assertion_after (puts o.0) o.1) h
    to_clause q = to_body S (put_terms.1 (own_put.0 (from_body S temps (λ e. bare_locals S.defs e temps o.1.locals x.fits.item.locals) q)))

    from_clause : BodyHolds S env (assertion_after (puts o.0) o.1) h → BodyHolds S (giving env (datum_of bindings)) o.1 h
    from_clause q = to_body S (own_put.1 (put_terms.0 (from_body S temps (λ e. no_locals S.defs e temps (inside (puts o.0) o.1) o.1.locals x.fits.item.locals) q)))

    called_is : called S.preds name args.data' ≡ Some (record { bindings = bindings; body = o.1 })
    called_is = ap (option_and_then (λ q. meaning.opened q args.data')) fit.there ∙ x.stands_for

    opens_out : PartHolds S env (Predicate name terms) h → BodyHolds S env (assertion_after (puts o.0) o.1) h
    opens_out q =
        let s = predicate_of q in
        let same = one_list S.defs args.mean s.arguments s.mean in
        let is : s.opened ≡ record { bindings = bindings; body = o.1 } = one (sym s.is ∙ ap (called S.preds name) (sym same) ∙ called_is) in
        to_clause (subst (λ w. BodyHolds S (values.inside env w.bindings) w.body h) is s.holds)
      where
        one : {a b : Opened} → Some a ≡ Some b → a ≡ b
        one e = cc

    closes : BodyHolds S env (assertion_after (puts o.0) o.1) h → PartHolds S env (Predicate name terms) h
    closes q = predicate {o = record { bindings = bindings; body = o.1 }} args.mean called_is (from_clause q)

  pub meets : (a : Assertion) → clause_in p terms ≡ Ok a → PartHolds S env (Predicate name terms) h ↔ BodyHolds S env a h
  meets a e =
      let o = goes (opened p terms) with_terms a e in
      let by = goes (taken p.arguments terms) (opened_by p.body terms) o.value o.first in
      let t = taken_is p.arguments terms by.value by.first in
      let x = opens S.defs env fit.scope fit.suits fit.keeps fit.defs fit.specs at.before name p terms args at.fits.body fit.terms_fit by.value (t.is ∙ args.terms) o.value by.then' in
      let is = within assertion_fits (assertion_after (puts o.value.0) o.value.1) a o.then' in
      subst (λ c. PartHolds S env (Predicate name terms) h ↔ BodyHolds S env c h) (sym is)
      (opens_out o.value x o.first, closes o.value x o.first)
