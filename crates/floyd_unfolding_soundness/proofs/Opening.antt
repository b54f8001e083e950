-- What a call of a FUN means is what it stands for: one term, with terms and with the data of these terms.
use Rattle.std.proofs.Common.{◌≡◌, ℕ, Bool, true, false, cond, List, [], ◌∷◌, ◌++◌, map, All, Option, Some, None, refl, sym, ◌∙◌, ap, subst}
use Rattle.std.specs.Prelude.{is_some, option_map}
use Rattle.std.proofs.lemmas.List.{map-append}
use Rattle.std.proofs.lemmas.List.Elements.{All-head, All-tail}
use Rattle.floyd_tree_sorts.specs.declared.sorts.Sort.{Sort, ListOf', TreeOf', more_of-Sort, end_of-Sort}
use Rattle.floyd_tree_sorts.specs.Sorts.{list_sort, tree_sort}
use Rattle.floyd_tree.specs.Plain.{Plain, head_of, plains}
use Rattle.floyd_tree_values.specs.BuiltIns.{Env}
use Rattle.floyd_tree_values.specs.Data.{Datum}
use Rattle.floyd_tree_values.specs.Funs as f
use Rattle.floyd_tree_values.specs.Funs.{Bindings, first_of, parts}
use Rattle.floyd_tree_values.specs.Means.{AllMean, Defs, Means}
use Rattle.floyd_tree_values.specs.Rules.{BodyKeeps, CallsFrom, CaseKeeps, CasesKeep, DefsKeep, FirstKeeps, Scope, Suits, TermKeeps, smaller}
use Rattle.floyd_tree_values.proofs.OneValue.{split}
use Rattle.floyd_assert_trees.specs.declared.binder.Binder.{Binder}
use Rattle.floyd_assert_trees.specs.declared.items.Fun.{Fun}
use Rattle.floyd_assert_trees.specs.declared.items.FunBody.{FunBody}
use Rattle.floyd_assert_trees.specs.declared.items.FunBody.TheVariants.{Whole, Cases}
use Rattle.floyd_assert_trees.specs.declared.items.FunCase.{FunCase}
use Rattle.floyd_assert_trees.specs.Meanings.{body_of, case_of, fun_of, pattern_of}
use Rattle.floyd_clauses.specs.Patterns.{is_of}
use Rattle.floyd_goal_forms.specs.Items.{sorts_with}
use Rattle.floyd_goal_forms.specs.Terms.{scope_with}
use Rattle.floyd_clause_laws.specs.Laws.{AllFit}
use Rattle.floyd_clause_laws.proofs.Entries.{Arguments, Entry, data_of, scope_of, terms_of}
use Rattle.floyd_clause_laws.proofs.Parting.{Good, Parted, list_parted, tree_parted}
use Rattle.floyd_unfolding.specs.Calls.{Opening, case_for, opened_by, opened_case, opened_terms}

-- ---- the case that is found

pub record Found (P : f.Case → Type 0) (t : Plain) (c : FunCase) : Type 0 where
  pub fits : P (case_of c)
  pub of' : is_of c.pattern (head_of t) ≡ true

found_in : (P : f.Case → Type 0) (cases : List FunCase) (t : Plain) (c : FunCase) → case_for cases t ≡ Some c → All P (map case_of cases) → Found P t c
found_in P [] t c e h = absurd cc
found_in P (k ∷ cases) t c e h = by (λ i. found_in P cases t c i (All-tail P (case_of k) (map case_of cases) h)) (is_of k.pattern (head_of t)) refl e
  where
    by : (case_for cases t ≡ Some c → Found P t c) → (b : Bool) → is_of k.pattern (head_of t) ≡ b → cond b (Some k) (case_for cases t) ≡ Some c → Found P t c
    by go true q i =
        let same : k ≡ c = cc in
        subst (Found P t) same (record { fits = All-head P (case_of k) (map case_of cases) h; of' = q })
    by go false q i = go i

-- it is the one that is chosen for the value
chosen_is : (cases : List FunCase) (t : Plain) (v : Datum) (c : FunCase) (own arguments : Bindings) → ((q : _) → is_of q (head_of t) ≡ is_some (parts (pattern_of q) v)) → parts (pattern_of c.pattern) v ≡ Some own → case_for cases t ≡ Some c →
    f.chosen (map case_of cases) v arguments ≡ Some (record { bindings = own ++ arguments; term = c.term })
chosen_is [] t v c own arguments agree data_is e = absurd cc
chosen_is (k ∷ cases) t v c own arguments agree data_is e = by (chosen_is cases t v c own arguments agree data_is) (is_of k.pattern (head_of t)) refl e
  where
    none : (o : Option Bindings) → false ≡ is_some o → o ≡ None
    none None i = refl
    none (Some b) i = absurd cc

    by : (case_for cases t ≡ Some c → f.chosen (map case_of cases) v arguments ≡ Some (record { bindings = own ++ arguments; term = c.term })) → (b : Bool) → is_of k.pattern (head_of t) ≡ b → cond b (Some k) (case_for cases t) ≡ Some c →
        f.chosen (map case_of (k ∷ cases)) v arguments ≡ Some (record { bindings = own ++ arguments; term = c.term })
    by go true q i =
        let same : k ≡ c = cc in
        ap (λ (x : FunCase). first_of (option_map (λ own. record { bindings = own ++ arguments; term = x.term }) (parts (pattern_of x.pattern) v)) (f.chosen (map case_of cases) v arguments)) same
        ∙ ap (λ o. first_of (option_map (λ own. record { bindings = own ++ arguments; term = c.term }) o) (f.chosen (map case_of cases) v arguments)) data_is
    by go false q i =
        ap (λ o. first_of (option_map (λ own. record { bindings = own ++ arguments; term = k.term }) o) (f.chosen (map case_of cases) v arguments)) (none (parts (pattern_of k.pattern) v) (sym q ∙ agree k.pattern))
        ∙ go i

pub record TheCase (put : List (List ℕ × Plain)) (cases : List FunCase) (t : Plain) (o : Opening) : Type 0 where
  pub case : FunCase
  pub found : case_for cases t ≡ Some case
  pub is : (opened_terms case t put, case.term) ≡ o

pub the_case : (put : List (List ℕ × Plain)) (cases : List FunCase) (t : Plain) (o : Opening) → opened_case (case_for cases t) t put ≡ Some o → TheCase put cases t o
the_case put cases t o e = by (case_for cases t) refl e
  where
    by : (x : Option FunCase) → case_for cases t ≡ x → opened_case x t put ≡ Some o → TheCase put cases t o
    by None i e = absurd cc
    by (Some c) i e = record { case = c; found = i; is = cc }

-- ---- the opening of a call

module _ (defs : Defs) (env : Env) (scope : Scope) (suits : Suits scope env) (keeps : DefsKeep defs) (before : List f.Fun) (name : List ℕ) (own : Fun) (terms : List Plain) (args : Arguments defs env own.arguments terms) where
  abbrev it : f.Fun
  it = fun_of (name, own)

  -- a term with terms, which is what a call stands for
  pub record Opens (stands : Option f.Opened) (o : Opening) : Type 0 where
    pub entries : List (Entry defs env)
    pub terms_are : o.0 ≡ terms_of defs env entries
    pub stands_for : stands ≡ Some (record { bindings = data_of defs env entries; term = o.1 })
    pub parts : List (List ℕ)
    pub fits : TermKeeps defs.structs (scope_of defs env entries) (CallsFrom before (fun_of (name, own)) parts) own.result o.1

  abbrev given : Bindings
  given = data_of defs env args.entries

  abbrev put : List (List ℕ × Plain)
  put = terms_of defs env args.entries

  whole_opens : (t : Plain) → TermKeeps defs.structs (scope_with own.arguments) (CallsFrom before it []) own.result t → (o : Opening) → (put, t) ≡ o → Opens (Some (record { bindings = given; term = t })) o
  whole_opens t h o e =
      subst (Opens (Some (record { bindings = given; term = t }))) e
      (record {
        entries = args.entries;
        terms_are = refl;
        stands_for = refl;
        parts = [];
        fits = subst (λ s. TermKeeps defs.structs s (CallsFrom before it []) own.result t) args.scope_is h;
      })

  case_opens : (s item : Sort) (cases : List FunCase) (t : Plain) (v : Datum) (c : FunCase) → case_for cases t ≡ Some c → Parted defs env c.pattern t v s item → CaseKeeps defs.structs before it s item (case_of c) → (o : Opening) → (opened_terms c t put, c.term) ≡ o → Opens (f.chosen (map case_of cases) v given) o
  case_opens s item cases t v c i q h o e =
      subst (Opens (f.chosen (map case_of cases) v given)) e
      (record {
        entries = q.entries ++ args.entries;
        terms_are = ap (λ l. l ++ put) q.terms ∙ sym (map-append (λ (x : Entry defs env). (x.name, x.term)) q.entries args.entries);
        stands_for =
            chosen_is cases t v c (data_of defs env q.entries) given q.agree q.data_is i
            ∙ ap (λ b. Some (record { bindings = b; term = c.term })) (sym (map-append (λ (x : Entry defs env). (x.name, x.datum)) q.entries args.entries));
        parts = smaller (pattern_of c.pattern);
        fits =
            subst (λ x. TermKeeps defs.structs x (CallsFrom before it (smaller (pattern_of c.pattern))) own.result c.term)
            (ap (λ l. l ++ scope_with own.arguments) q.scope_is ∙ ap (λ l. scope_of defs env q.entries ++ l) args.scope_is ∙ sym (map-append (λ (x : Entry defs env). (x.name, x.sort)) q.entries args.entries))
            h.term;
      })

  cases_open : (s : Sort) (cases : List FunCase) → CasesKeep defs.structs before it s (map case_of cases) → (t : Plain) → Good defs env scope suits keeps s t → (v : Datum) → Means defs env t v → (o : Opening) → opened_case (case_for cases t) t put ≡ Some o → Opens (f.chosen (map case_of cases) v given) o
  cases_open (ListOf' q (more_of-Sort item end_of-Sort)) cases h t g v m o e =
      let c = the_case put cases t o e in
      let k = found_in (CaseKeeps defs.structs before it (list_sort item) item) cases t c.case c.found h.1 in
      case_opens (list_sort item) item cases t v c.case c.found (list_parted defs env scope suits keeps item c.case.pattern t v k.of' g m) k.fits o c.is
  cases_open (TreeOf' q (more_of-Sort item end_of-Sort)) cases h t g v m o e =
      let c = the_case put cases t o e in
      let k = found_in (CaseKeeps defs.structs before it (tree_sort item) item) cases t c.case c.found h.1 in
      case_opens (tree_sort item) item cases t v c.case c.found (tree_parted defs env scope suits keeps item c.case.pattern t v k.of' g m) k.fits o c.is
  cases_open s cases h t g v m o e = absurd h

  first_opens : (bs : List Binder) (ts : List Plain) (cases : List FunCase) → FirstKeeps defs.structs before it (scope_with bs) (map case_of cases) → AllFit defs scope (sorts_with bs) ts → (ds : List Datum) → AllMean defs env (plains ts) ds → (o : Opening) → opened_by (Cases cases) ts put ≡ Some o →
      Opens (f.opened_by (body_of (Cases cases)) ds given) o
  first_opens [] ts cases h k ds m o e = absurd h
  first_opens (b ∷ bs) [] cases h k ds m o e = absurd k
  first_opens (b ∷ bs) (t ∷ ts) cases h k ds m o e =
      let x = split m in
      subst (λ l. Opens (f.opened_by (body_of (Cases cases)) l given) o) (sym x.is)
      (cases_open b.sort cases h t k.0 x.datum x.first o e)

  body_opens : (b : FunBody) → BodyKeeps defs.structs before it (body_of b) → AllFit defs scope (sorts_with own.arguments) terms → (o : Opening) → opened_by b terms put ≡ Some o → Opens (f.opened_by (body_of b) args.data' given) o
  body_opens (Whole t) h k o e = whole_opens t h o (same (put, t) o e)
    where
      same : (x y : Opening) → opened_by (Whole x.1) terms x.0 ≡ Some y → x ≡ y
      same x y i = cc
  body_opens (Cases cases) h k o e = first_opens own.arguments terms cases h k args.data' args.mean o e

  -- where the terms are taken
  pub opens : BodyKeeps defs.structs before it it.body → AllFit defs scope (sorts_with own.arguments) terms → (by : List (List ℕ × Plain)) → by ≡ put → (o : Opening) → opened_by own.body terms by ≡ Some o → Opens (f.opened it args.data') o
  opens h k by is o e =
      subst (λ b. Opens (f.opened_by it.body args.data' b) o) (sym args.bound_is)
      (body_opens own.body h k o (subst (λ l. opened_by own.body terms l ≡ Some o) is e))
