-- What a clause is made of is what a call stands for: one body, with terms and with the data of these terms.
use Rattle.std.proofs.Common.{◌≡◌, ℕ, Bool, true, false, cond, List, [], ◌∷◌, ◌++◌, Option, Some, None, Ok, refl, sym, ◌∙◌, ap, subst}
use Rattle.std.specs.Prelude.{is_some, option_map}
use Rattle.std.specs.List.{AllByRecursion}
use Rattle.std.specs.Option.{option_or}
use Rattle.std.proofs.lemmas.List.{map-append}
use Rattle.floyd_tree_sorts.specs.declared.sorts.Sort.{Sort, ListOf', TreeOf', more_of-Sort, end_of-Sort}
use Rattle.floyd_tree_sorts.specs.Sorts.{list_sort, tree_sort}
use Rattle.floyd_tree.specs.Plain.{Plain, head_of, plains}
use Rattle.floyd_tree_values.specs.BuiltIns.{Env}
use Rattle.floyd_tree_values.specs.Data.{Datum}
use Rattle.floyd_tree_values.specs.Funs.{Bindings, parts}
use Rattle.floyd_tree_values.specs.Means.{AllMean, Means}
use Rattle.floyd_tree_values.specs.Means as values
use Rattle.floyd_tree_values.specs.Rules.{DefsKeep, Scope, Suits, pattern_scope}
use Rattle.floyd_tree_values.specs.Rules as rules
use Rattle.floyd_tree_values.proofs.OneValue.{split}
use Rattle.floyd_assert_trees.specs.declared.assertion.Assertion.{Assertion}
use Rattle.floyd_assert_trees.specs.declared.binder.Binder.{Binder}
use Rattle.floyd_assert_trees.specs.declared.items.Defs.{Defs}
use Rattle.floyd_assert_trees.specs.declared.items.Pred.{Pred}
use Rattle.floyd_assert_trees.specs.declared.items.PredBody.{PredBody}
use Rattle.floyd_assert_trees.specs.declared.items.PredBody.TheVariants.{Whole, Cases}
use Rattle.floyd_assert_trees.specs.declared.items.PredCase.{PredCase}
use Rattle.floyd_assert_trees.specs.declared.spec.SpecTable.{SpecTable}
use Rattle.floyd_assert_trees.specs.Meanings.{pattern_of}
use Rattle.floyd_assert_meaning.specs.Predicates.{Opened, chosen}
use Rattle.floyd_assert_meaning.specs.Predicates as meaning
use Rattle.floyd_clauses.specs.Clauses.{Opening, case_for, opened_by, opened_case, opened_terms}
use Rattle.floyd_clauses.specs.Patterns.{is_of}
use Rattle.floyd_goal_forms.specs.Items.{BodyFits, CaseFits, CasesFit, FirstFits, PredBodyFits, sorts_with}
use Rattle.floyd_goal_forms.specs.Terms.{scope_with}
use Rattle.floyd_clause_laws.specs.Laws.{AllFit}
use Rattle.floyd_clause_laws.proofs.Entries.{Arguments, Entry, data_of, scope_of, terms_of}
use Rattle.floyd_clause_laws.proofs.Parting.{Good, Parted, list_parted, tree_parted}

-- ---- the case that is found

pub record Found (P : PredCase → Type 0) (cases : List PredCase) (t : Plain) (c : PredCase) : Type 0 where
  pub fits : P c
  pub of' : is_of c.pattern (head_of t) ≡ true

pub found_in : (P : PredCase → Type 0) (cases : List PredCase) (t : Plain) (c : PredCase) → case_for cases t ≡ Some c → AllByRecursion P cases → Found P cases t c
found_in P [] t c e h = absurd cc
found_in P (k ∷ cases) t c e h = by (λ i. let r = found_in P cases t c i h.1 in (r.fits, r.of')) (is_of k.pattern (head_of t)) refl e
  where
    by : (case_for cases t ≡ Some c → P c × (is_of c.pattern (head_of t) ≡ true)) → (b : Bool) → is_of k.pattern (head_of t) ≡ b → cond b (Some k) (case_for cases t) ≡ Some c → Found P (k ∷ cases) t c
    by go true q i =
        let same : k ≡ c = cc in
        record { fits = subst P same h.0; of' = subst (λ x. is_of x.pattern (head_of t) ≡ true) same q }
    by go false q i = let r = go i in record { fits = r.0; of' = r.1 }

-- it is the one that is chosen for the value
chosen_is : (cases : List PredCase) (t : Plain) (v : Datum) (c : PredCase) (own arguments : Bindings) → ((q : _) → is_of q (head_of t) ≡ is_some (parts (pattern_of q) v)) → parts (pattern_of c.pattern) v ≡ Some own → case_for cases t ≡ Some c → chosen cases v arguments ≡ Some (record { bindings = own ++ arguments; body = c.body })
chosen_is [] t v c own arguments agree data_is e = absurd cc
chosen_is (k ∷ cases) t v c own arguments agree data_is e = by (chosen_is cases t v c own arguments agree data_is) (is_of k.pattern (head_of t)) refl e
  where
    none : (o : Option Bindings) → false ≡ is_some o → o ≡ None
    none None i = refl
    none (Some b) i = absurd cc

    opens : PredCase → Option Bindings → Option Opened
    opens x o = option_map (λ own. record { bindings = own ++ arguments; body = x.body }) o

    by : (case_for cases t ≡ Some c → chosen cases v arguments ≡ Some (record { bindings = own ++ arguments; body = c.body })) → (b : Bool) → is_of k.pattern (head_of t) ≡ b → cond b (Some k) (case_for cases t) ≡ Some c → chosen (k ∷ cases) v arguments ≡ Some (record { bindings = own ++ arguments; body = c.body })
    by go true q i =
        let same : k ≡ c = cc in
        ap (λ x. option_or (option_map (λ own. record { bindings = own ++ arguments; body = x.body }) (parts (pattern_of x.pattern) v)) (chosen cases v arguments)) same
        ∙ ap (λ o. option_or (option_map (λ own. record { bindings = own ++ arguments; body = c.body }) o) (chosen cases v arguments)) data_is
    by go false q i =
        ap (λ o. option_or (option_map (λ own. record { bindings = own ++ arguments; body = k.body }) o) (chosen cases v arguments)) (none (parts (pattern_of k.pattern) v) (sym q ∙ agree k.pattern))
        ∙ go i

pub record TheCase (put : List (List ℕ × Plain)) (cases : List PredCase) (t : Plain) (o : Opening) : Type 0 where
  pub case : PredCase
  pub found : case_for cases t ≡ Some case
  pub is : (opened_terms case t put, case.body) ≡ o

pub the_case : (put : List (List ℕ × Plain)) (cases : List PredCase) (t : Plain) (o : Opening) → opened_case (case_for cases t) t put ≡ Ok o → TheCase put cases t o
the_case put cases t o e = by (case_for cases t) refl e
  where
    by : (x : Option PredCase) → case_for cases t ≡ x → opened_case x t put ≡ Ok o → TheCase put cases t o
    by None i e = absurd cc
    by (Some c) i e = record { case = c; found = i; is = cc }

-- ---- the opening of a clause

module _ (S_defs : values.Defs) (env : Env) (scope : Scope) (suits : Suits scope env) (keeps : DefsKeep S_defs) (defs : Defs) (specs : SpecTable) (before : List (List ℕ × Pred)) (name : List ℕ) (p : Pred) (terms : List Plain) (args : Arguments S_defs env p.arguments terms) where
  -- a body with terms, which is what a call stands for
  pub record Opens (stands : Option Opened) (o : Opening) : Type 0 where
    pub entries : List (Entry S_defs env)
    pub terms_are : o.0 ≡ terms_of S_defs env entries
    pub stands_for : stands ≡ Some (record { bindings = data_of S_defs env entries; body = o.1 })
    pub parts : List (List ℕ)
    pub fits : BodyFits defs specs before name p parts (scope_of S_defs env entries) o.1

  abbrev given : Bindings
  given = data_of S_defs env args.entries

  abbrev put : List (List ℕ × Plain)
  put = terms_of S_defs env args.entries

  whole_opens : (a : Assertion) → BodyFits defs specs before name p [] (scope_with p.arguments) a → (o : Opening) → (put, a) ≡ o → Opens (Some (record { bindings = given; body = a })) o
  whole_opens a h o e =
      subst (Opens (Some (record { bindings = given; body = a }))) e
      (record {
        entries = args.entries;
        terms_are = refl;
        stands_for = refl;
        parts = [];
        fits = subst (λ s. BodyFits defs specs before name p [] s a) args.scope_is h;
      })

  case_opens : (s item : Sort) (cases : List PredCase) (t : Plain) (v : Datum) (c : PredCase) → case_for cases t ≡ Some c → Parted S_defs env c.pattern t v s item → CaseFits defs specs before name p s item c → (o : Opening) → (opened_terms c t put, c.body) ≡ o → Opens (chosen cases v given) o
  case_opens s item cases t v c i q h o e =
      subst (Opens (chosen cases v given)) e
      (record {
        entries = q.entries ++ args.entries;
        terms_are = ap (λ l. l ++ put) q.terms ∙ sym (map-append (λ (x : Entry S_defs env). (x.name, x.term)) q.entries args.entries);
        stands_for =
            chosen_is cases t v c (data_of S_defs env q.entries) given q.agree q.data_is i
            ∙ ap (λ b. Some (record { bindings = b; body = c.body })) (sym (map-append (λ (x : Entry S_defs env). (x.name, x.datum)) q.entries args.entries));
        parts = rules.smaller (pattern_of c.pattern);
        fits =
            subst (λ x. BodyFits defs specs before name p (rules.smaller (pattern_of c.pattern)) x c.body)
            (ap (λ l. l ++ scope_with p.arguments) q.scope_is ∙ ap (λ l. scope_of S_defs env q.entries ++ l) args.scope_is ∙ sym (map-append (λ (x : Entry S_defs env). (x.name, x.sort)) q.entries args.entries))
            h.body;
      })

  cases_open : (s : Sort) (cases : List PredCase) → CasesFit defs specs before name p s cases → (t : Plain) → Good S_defs env scope suits keeps s t → (v : Datum) → Means S_defs env t v → (o : Opening) → opened_case (case_for cases t) t put ≡ Ok o → Opens (chosen cases v given) o
  cases_open (ListOf' q (more_of-Sort item end_of-Sort)) cases h t g v m o e =
      let c = the_case put cases t o e in
      let f = found_in (CaseFits defs specs before name p (list_sort item) item) cases t c.case c.found h.1 in
      case_opens (list_sort item) item cases t v c.case c.found (list_parted S_defs env scope suits keeps item c.case.pattern t v f.of' g m) f.fits o c.is
  cases_open (TreeOf' q (more_of-Sort item end_of-Sort)) cases h t g v m o e =
      let c = the_case put cases t o e in
      let f = found_in (CaseFits defs specs before name p (tree_sort item) item) cases t c.case c.found h.1 in
      case_opens (tree_sort item) item cases t v c.case c.found (tree_parted S_defs env scope suits keeps item c.case.pattern t v f.of' g m) f.fits o c.is
  cases_open s cases h t g v m o e = absurd h

  first_opens : (bs : List Binder) (ts : List Plain) (cases : List PredCase) → FirstFits defs specs before name p bs cases → AllFit S_defs scope (sorts_with bs) ts → (ds : List Datum) → AllMean S_defs env (plains ts) ds → (o : Opening) → opened_by (Cases cases) ts put ≡ Ok o → Opens (meaning.opened_by (Cases cases) ds given) o
  first_opens [] ts cases h f ds m o e = absurd h
  first_opens (b ∷ bs) [] cases h f ds m o e = absurd f
  first_opens (b ∷ bs) (t ∷ ts) cases h f ds m o e =
      let x = split m in
      subst (λ l. Opens (meaning.opened_by (Cases cases) l given) o) (sym x.is)
      (cases_open b.sort cases h t f.0 x.datum x.first o e)

  body_opens : (b : PredBody) → PredBodyFits defs specs before name p b → AllFit S_defs scope (sorts_with p.arguments) terms → (o : Opening) → opened_by b terms put ≡ Ok o → Opens (meaning.opened_by b args.data' given) o
  body_opens (Whole a) h f o e = whole_opens a h o (same (put, a) o e)
    where
      same : (x y : Opening) → opened_by (Whole x.1) terms x.0 ≡ Ok y → x ≡ y
      same x y i = cc
  body_opens (Cases cases) h f o e = first_opens p.arguments terms cases h f args.data' args.mean o e

  -- where the terms are taken
  pub opens : PredBodyFits defs specs before name p p.body → AllFit S_defs scope (sorts_with p.arguments) terms → (by : List (List ℕ × Plain)) → by ≡ put → (o : Opening) → opened_by p.body terms by ≡ Ok o → Opens (meaning.opened p args.data') o
  opens h f by is o e =
      subst (λ b. Opens (meaning.opened_by p.body args.data' b) o) (sym args.bound_is)
      (body_opens p.body h f o (subst (λ l. opened_by p.body terms l ≡ Ok o) is e))
