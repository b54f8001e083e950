-- In the term that a call stands for each variable has the sort of the term in its place.
use Rattle.std.proofs.Common.{◌≡◌, ℕ, Bool, true, false, cond, List, [], ◌∷◌, ◌++◌, map, Some, All, refl, sym, subst}
use Rattle.std.specs.Prelude.{bytes_eq}
use Rattle.std.specs.Map.{lookup}
use Rattle.std.proofs.lemmas.Bool.{and_parts}
use Rattle.std.proofs.lemmas.List.Elements.{All-head, All-tail}
use Rattle.floyd_ctypes.specs.Structs.{Structs}
use Rattle.floyd_tree_sorts.specs.declared.heads.Head.TheVariants.{Variable}
use Rattle.floyd_tree_sorts.specs.declared.sorts.Sort.{Sort, ListOf', TreeOf', more_of-Sort, end_of-Sort}
use Rattle.floyd_tree_sorts.specs.Sorts.{list_sort, tree_sort}
use Rattle.floyd_tree.specs.Plain.{At, Done, More, Plain, Plains, head_of}
use Rattle.floyd_tree.specs.WellSorted.{sort_of}
use Rattle.floyd_tree_values.specs.Funs as f
use Rattle.floyd_tree_values.specs.Rules.{AllAllowed, AllKeep, BodyKeeps, Calls, CallsFrom, CaseKeeps, CasesKeep, DefsKeep, EachAllowed, FirstKeeps, KeepsRules, Scope, TermKeeps, pattern_scope}
use Rattle.floyd_tree_values.specs.Rules as rules
use Rattle.floyd_truth.specs.Capture.{Changes}
use Rattle.floyd_truth.specs.Replace.{AllSortsAgree, SortsAgree, puts}
use Rattle.floyd_assert_trees.specs.declared.binder.Binder.{Binder}
use Rattle.floyd_assert_trees.specs.declared.items.Defs.{Defs}
use Rattle.floyd_assert_trees.specs.declared.items.Fun.{Fun}
use Rattle.floyd_assert_trees.specs.declared.items.FunBody.{FunBody}
use Rattle.floyd_assert_trees.specs.declared.items.FunBody.TheVariants.{Whole, Cases}
use Rattle.floyd_assert_trees.specs.declared.items.FunCase.{FunCase}
use Rattle.floyd_assert_trees.specs.Meanings.{body_of, case_of, fun_of, pattern_of, value_defs}
use Rattle.floyd_assert_instances.specs.Instances.{have_sorts, is_sort}
use Rattle.floyd_clauses.specs.Patterns.{is_of}
use Rattle.floyd_goal_forms.specs.Terms.{scope_with}
use Rattle.floyd_import_laws.proofs.Sorted.{Suiting}
use Rattle.floyd_funspec_laws.proofs.Made.{sort_is, suiting, taken_is}
use Rattle.floyd_clause_laws.proofs.Sorting.{Parts, list_parts, scope_of, suits_behind, tree_parts}
use Rattle.floyd_unfolding.specs.Calls.{Opening, OpensWell, TakesTerms, case_for, opened_by, opened_case, opened_terms}

-- ---- terms

module _ (structs : Structs) (calls : Calls) (changes : Changes) (scope : Scope) (h : Suiting changes scope) where
  mutual
    term_agrees : (t : Plain) → EachAllowed structs scope calls t → SortsAgree changes t
    term_agrees (At (Variable x s) ts) a = (h x s a.0, terms_agree ts a.1)
    term_agrees (At head ts) a = (tt, terms_agree ts a.1)

    terms_agree : (ts : Plains) → AllAllowed structs scope calls ts → AllSortsAgree changes ts
    terms_agree Done a = tt
    terms_agree (More t ts) a = (term_agrees t a.0, terms_agree ts a.1)

-- ---- the FUN of a name

record Kept (structs : Structs) (own : Fun) : Type 0 where
  name : List ℕ
  before : List f.Fun
  keeps : KeepsRules structs before (fun_of (name, own))

kept : (structs : Structs) (name : List ℕ) (own : Fun) (before : List f.Fun) (funs : List (List ℕ × Fun)) → AllKeep structs before (map fun_of funs) → lookup (bytes_eq name) funs ≡ Some own → Kept structs own
kept structs name own before [] k e = absurd cc
kept structs name own before (g ∷ funs) k e = by (kept structs name own (before ++ fun_of g ∷ []) funs k.1) (bytes_eq name g.0) e
  where
    by : (lookup (bytes_eq name) funs ≡ Some own → Kept structs own) → (c : Bool) → cond c (Some g.1) (lookup (bytes_eq name) funs) ≡ Some own → Kept structs own
    by go true i =
        let same : g.1 ≡ own = cc in
        record { name = g.0; before = before; keeps = subst (λ y. KeepsRules structs before (fun_of (g.0, y))) same k.0 }
    by go false i = go i

-- ---- its term

module _ (structs : Structs) (before : List f.Fun) (name : List ℕ) (own : Fun) (by : List (List ℕ × Plain)) (suits : Suiting (puts by) (scope_with own.arguments)) where
  abbrev it : f.Fun
  it = fun_of (name, own)

  record Case (P : f.Case → Type 0) (cases : List FunCase) (t : Plain) (o : Opening) : Type 0 where
    case : FunCase
    fits : P (case_of case)
    of' : is_of case.pattern (head_of t) ≡ true
    is : (opened_terms case t by, case.term) ≡ o

  the_case : (P : f.Case → Type 0) (cases : List FunCase) (t : Plain) (o : Opening) → All P (map case_of cases) → opened_case (case_for cases t) t by ≡ Some o → Case P cases t o
  the_case P [] t o k e = absurd cc
  the_case P (c ∷ cases) t o k e = step (λ i. let r = the_case P cases t o (All-tail P (case_of c) (map case_of cases) k) i in record { case = r.case; fits = r.fits; of' = r.of'; is = r.is }) (is_of c.pattern (head_of t)) refl e
    where
      step : (opened_case (case_for cases t) t by ≡ Some o → Case P (c ∷ cases) t o) → (b : Bool) → is_of c.pattern (head_of t) ≡ b → opened_case (cond b (Some c) (case_for cases t)) t by ≡ Some o → Case P (c ∷ cases) t o
      step go true q i = record { case = c; fits = All-head P (case_of c) (map case_of cases) k; of' = q; is = cc }
      step go false q i = go i

  case_agrees : (s item : Sort) (t : Plain) (c : FunCase) → Parts c.pattern t s item → CaseKeeps structs before it s item (case_of c) → SortsAgree (puts (opened_terms c t by)) c.term
  case_agrees s item t c q k =
      let scope = pattern_scope (pattern_of c.pattern) s item ++ scope_with own.arguments in
      let both : Suiting (puts (opened_terms c t by)) scope =
      subst (λ names. Suiting (puts (opened_terms c t by)) (names ++ scope_with own.arguments)) (sym q.scope_is)
      (subst (λ all. Suiting (puts (all ++ by)) (scope_of q.entries ++ scope_with own.arguments)) (sym q.terms) (suits_behind q.entries by (scope_with own.arguments) suits)) in
      term_agrees structs (CallsFrom before it (rules.smaller (pattern_of c.pattern))) (puts (opened_terms c t by)) scope both c.term k.term.fits.allowed

  cases_agree : (s : Sort) (cases : List FunCase) → CasesKeep structs before it s (map case_of cases) → (t : Plain) → sort_of t ≡ Some s → (o : Opening) → opened_case (case_for cases t) t by ≡ Some o → SortsAgree (puts o.0) o.1
  cases_agree (ListOf' q (more_of-Sort item end_of-Sort)) cases k t g o e =
      let c = the_case (CaseKeeps structs before it (list_sort item) item) cases t o k.1 e in
      subst (λ x. SortsAgree (puts x.0) x.1) c.is (case_agrees (list_sort item) item t c.case (list_parts item c.case.pattern t c.of' g) c.fits)
  cases_agree (TreeOf' q (more_of-Sort item end_of-Sort)) cases k t g o e =
      let c = the_case (CaseKeeps structs before it (tree_sort item) item) cases t o k.1 e in
      subst (λ x. SortsAgree (puts x.0) x.1) c.is (case_agrees (tree_sort item) item t c.case (tree_parts item c.case.pattern t c.of' g) c.fits)
  cases_agree s cases k t g o e = absurd k

  first_agrees : (bs : List Binder) (ts : List Plain) (cases : List FunCase) → FirstKeeps structs before it (scope_with bs) (map case_of cases) → have_sorts bs ts ≡ true → OpensWell (Cases cases) ts by
  first_agrees [] ts cases k s o e = absurd k
  first_agrees (b ∷ bs) [] cases k s o e = absurd cc
  first_agrees (b ∷ bs) (t ∷ ts) cases k s o e =
      let q = and_parts (is_sort b.sort (sort_of t)) (have_sorts bs ts) s in
      cases_agree b.sort cases k t (sort_is b.sort (sort_of t) q.0) o e

  body_agrees : (b : FunBody) (ts : List Plain) → BodyKeeps structs before it (body_of b) → have_sorts own.arguments ts ≡ true → OpensWell b ts by
  body_agrees (Whole t) ts k s = λ o e. subst (λ x. SortsAgree (puts x.0) x.1) (same (by, t) o e) (term_agrees structs (CallsFrom before it []) (puts by) (scope_with own.arguments) suits t k.fits.allowed)
    where
      same : (x y : Opening) → opened_by (Whole x.1) ts x.0 ≡ Some y → x ≡ y
      same x y i = cc
  body_agrees (Cases cases) ts k s = λ o e. first_agrees own.arguments ts cases k s o e

pub takes : (defs : Defs) → DefsKeep (value_defs defs) → (name : List ℕ) (own : Fun) → lookup (bytes_eq name) defs.funs ≡ Some own → TakesTerms own
takes defs keeps name own e = λ terms arguments i.
    let k = kept defs.structs name own [] defs.funs keeps e in
    let t = taken_is own.arguments terms arguments i in
    let suits : Suiting (puts arguments) (scope_with own.arguments) = subst (λ all. Suiting (puts all) (scope_with own.arguments)) (sym t.is) (suiting own.arguments terms t.sorts) in
    body_agrees defs.structs k.before k.name own arguments suits own.body terms k.keeps.body t.sorts
