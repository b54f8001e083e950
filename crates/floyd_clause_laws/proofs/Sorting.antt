-- The terms of a clause have the sorts of the names in whose place they are put.
use Rattle.std.proofs.Common.{◌≡◌, ℕ, Bool, true, false, cond, List, [], ◌∷◌, ◌++◌, map, Option, Some, Ok, refl, sym, ◌∙◌, ap, subst}
use Rattle.std.specs.Prelude.{bytes_eq}
use Rattle.std.specs.Map.{lookup}
use Rattle.std.proofs.lemmas.Bool.{and_parts}
use Rattle.floyd_tree_sorts.specs.declared.heads.Head.TheVariants as h
use Rattle.floyd_tree_sorts.specs.declared.operators.Operator.TheVariants as o
use Rattle.floyd_tree_sorts.specs.declared.sorts.Sort.{Sort, ListOf', TreeOf', more_of-Sort, end_of-Sort}
use Rattle.floyd_tree_sorts.specs.Sorts.{list_sort, tree_sort}
use Rattle.floyd_tree_sorts.specs.Table.{sort_at}
use Rattle.floyd_tree.specs.Plain.{At, Done, More, Plain, Plains, head_of, kids_of}
use Rattle.floyd_tree.specs.Plain as t
use Rattle.floyd_tree.specs.WellSorted.{sort_of, sorts_of}
use Rattle.floyd_tree_values.specs.Rules.{Scope, pattern_scope}
use Rattle.floyd_tree_values.specs.Rules as rules
use Rattle.floyd_truth.specs.Capture.{Put}
use Rattle.floyd_truth.specs.Replace.{HasSortOf, puts}
use Rattle.floyd_assert_trees.specs.declared.binder.Binder.{Binder}
use Rattle.floyd_assert_trees.specs.declared.items.Defs.{Defs}
use Rattle.floyd_assert_trees.specs.declared.items.Pred.{Pred}
use Rattle.floyd_assert_trees.specs.declared.items.PredBody.{PredBody}
use Rattle.floyd_assert_trees.specs.declared.items.PredBody.TheVariants.{Whole, Cases}
use Rattle.floyd_assert_trees.specs.declared.items.PredCase.{PredCase}
use Rattle.floyd_assert_trees.specs.declared.pattern.Pattern.{Pattern}
use Rattle.floyd_assert_trees.specs.declared.pattern.Pattern.TheVariants.{Nil, Cons, Leaf, Node}
use Rattle.floyd_assert_trees.specs.declared.spec.SpecTable.{SpecTable}
use Rattle.floyd_assert_trees.specs.Meanings.{pattern_of}
use Rattle.floyd_assert_instances.specs.Instances.{have_sorts, is_sort, taken}
use Rattle.floyd_clauses.specs.Clauses.{Opening, OpensWell, case_for, opened_by, opened_case, opened_terms}
use Rattle.floyd_clauses.specs.Patterns.{is_of, named_parts}
use Rattle.floyd_goal_forms.specs.Items.{BodyFits, CaseFits, CasesFit, FirstFits, PredBodyFits, PredsFit}
use Rattle.floyd_goal_forms.specs.Terms.{scope_with}
use Rattle.floyd_import_laws.proofs.Sorted.{Suiting, formed_agrees}
use Rattle.floyd_funspec_laws.proofs.Made.{goes, sort_is, suiting, taken_is}
use Rattle.floyd_clause_laws.proofs.Finding.{body_known, placed}
use Rattle.floyd_clause_laws.proofs.Opening.{found_in, the_case}
use Rattle.floyd_clause_laws.proofs.Parting.{and_then_some, cons_row, kids_some, list_item, no_more, node_row, tree_item}

pub record Named : Type 0 where
  pub name : List ℕ
  pub term : Plain
  pub sort : Sort
  pub sorted : sort_of term ≡ Some sort

abbrev pub terms_of : List Named → List (List ℕ × Plain)
terms_of es = map (λ (e : Named). (e.name, e.term)) es

abbrev pub scope_of : List Named → Scope
scope_of es = map (λ (e : Named). (e.name, e.sort)) es

pub suits_behind : (es : List Named) (by : List (List ℕ × Plain)) (scope : Scope) → Suiting (puts by) scope → Suiting (puts (terms_of es ++ by)) (scope_of es ++ scope)
suits_behind [] by scope k = k
suits_behind (x ∷ es) by scope k = λ v s e. step v s (suits_behind es by scope k v s) (bytes_eq v x.name) e
  where
    step : (v : List ℕ) (s : Sort) → (lookup (bytes_eq v) (scope_of es ++ scope) ≡ Some s → HasSortOf (lookup (bytes_eq v) (puts (terms_of es ++ by))) s) → (c : Bool) → cond c (Some x.sort) (lookup (bytes_eq v) (scope_of es ++ scope)) ≡ Some s → HasSortOf (cond c (Some (Put x.term)) (lookup (bytes_eq v) (puts (terms_of es ++ by)))) s
    step v s go true i = x.sorted ∙ i
    step v s go false i = go i

-- ---- the parts of a constructor

pub record Parts (q : Pattern) (t : Plain) (s item : Sort) : Type 0 where
  pub entries : List Named
  pub terms : named_parts q (kids_of t) ≡ terms_of entries
  pub scope_is : pattern_scope (pattern_of q) s item ≡ scope_of entries

cons_parts : (item : Sort) (x r : List ℕ) (kids : Plains) → sort_of (At (h.Operator o.Cons) kids) ≡ Some (list_sort item) → Parts (Cons x r) (At (h.Operator o.Cons) kids) (list_sort item) item
cons_parts item x r kids e =
    let s = and_then_some (sort_at (h.Operator o.Cons)) (sorts_of kids) (list_sort item) e in
    let c = cons_row s.0 (list_sort item) s.2 in
    let same : c.0 ≡ item = list_item c.0 item c.2 in
    let sorts : sorts_of kids ≡ Some (item ∷ list_sort item ∷ []) = s.1 ∙ ap Option.Some c.1 ∙ ap (λ a. Some (a ∷ list_sort a ∷ [])) same in
    let one = kids_some kids item (list_sort item ∷ []) sorts in
    let two = kids_some one.rest (list_sort item) [] one.others in
    let are : kids ≡ More one.first (More two.first Done) = one.are ∙ ap (More one.first) (two.are ∙ ap (More two.first) (no_more two.rest two.others)) in
    record {
      entries = record { name = x; term = one.first; sort = item; sorted = one.sorted } ∷ record { name = r; term = two.first; sort = list_sort item; sorted = two.sorted } ∷ [];
      terms = ap (λ k. named_parts (Cons x r) (t.listed k)) are;
      scope_is = refl;
    }

node_parts : (item : Sort) (l x r : List ℕ) (kids : Plains) → sort_of (At (h.Operator o.Node) kids) ≡ Some (tree_sort item) → Parts (Node l x r) (At (h.Operator o.Node) kids) (tree_sort item) item
node_parts item l x r kids e =
    let s = and_then_some (sort_at (h.Operator o.Node)) (sorts_of kids) (tree_sort item) e in
    let c = node_row s.0 (tree_sort item) s.2 in
    let same : c.0 ≡ item = tree_item c.0 item c.2 in
    let sorts : sorts_of kids ≡ Some (tree_sort item ∷ item ∷ tree_sort item ∷ []) = s.1 ∙ ap Option.Some c.1 ∙ ap (λ a. Some (tree_sort a ∷ a ∷ tree_sort a ∷ [])) same in
    let one = kids_some kids (tree_sort item) (item ∷ tree_sort item ∷ []) sorts in
    let two = kids_some one.rest item (tree_sort item ∷ []) one.others in
    let three = kids_some two.rest (tree_sort item) [] two.others in
    let are : kids ≡ More one.first (More two.first (More three.first Done)) = one.are ∙ ap (More one.first) (two.are ∙ ap (More two.first) (three.are ∙ ap (More three.first) (no_more three.rest three.others))) in
    record {
      entries = record { name = l; term = one.first; sort = tree_sort item; sorted = one.sorted } ∷ record { name = x; term = two.first; sort = item; sorted = two.sorted } ∷ record { name = r; term = three.first; sort = tree_sort item; sorted = three.sorted } ∷ [];
      terms = ap (λ k. named_parts (Node l x r) (t.listed k)) are;
      scope_is = refl;
    }

no_node : (item : Sort) (kids : Plains) → sort_of (At (h.Operator o.Node) kids) ≡ Some (list_sort item) → ⊥
no_node item kids e =
    let s = and_then_some (sort_at (h.Operator o.Node)) (sorts_of kids) (list_sort item) e in
    let c = node_row s.0 (list_sort item) s.2 in
    differ c.0 item c.2
  where
    differ : (a b : Sort) → tree_sort a ≡ list_sort b → ⊥
    differ a b e = cc

no_cons : (item : Sort) (kids : Plains) → sort_of (At (h.Operator o.Cons) kids) ≡ Some (tree_sort item) → ⊥
no_cons item kids e =
    let s = and_then_some (sort_at (h.Operator o.Cons)) (sorts_of kids) (tree_sort item) e in
    let c = cons_row s.0 (tree_sort item) s.2 in
    differ c.0 item c.2
  where
    differ : (a b : Sort) → list_sort a ≡ tree_sort b → ⊥
    differ a b e = cc

pub list_parts : (item : Sort) (q : Pattern) (t : Plain) → is_of q (head_of t) ≡ true → sort_of t ≡ Some (list_sort item) → Parts q t (list_sort item) item
list_parts item Nil t e f = record { entries = []; terms = refl; scope_is = refl }
list_parts item (Cons x r) (At (h.Operator o.Cons) kids) e f = cons_parts item x r kids f
list_parts item (Cons x r) (At head kids) e f = absurd cc
list_parts item Leaf t e f = record { entries = []; terms = refl; scope_is = refl }
list_parts item (Node l x r) (At (h.Operator o.Node) kids) e f = absurd (no_node item kids f)
list_parts item (Node l x r) (At head kids) e f = absurd cc

pub tree_parts : (item : Sort) (q : Pattern) (t : Plain) → is_of q (head_of t) ≡ true → sort_of t ≡ Some (tree_sort item) → Parts q t (tree_sort item) item
tree_parts item Nil t e f = record { entries = []; terms = refl; scope_is = refl }
tree_parts item (Cons x r) (At (h.Operator o.Cons) kids) e f = absurd (no_cons item kids f)
tree_parts item (Cons x r) (At head kids) e f = absurd cc
tree_parts item Leaf t e f = record { entries = []; terms = refl; scope_is = refl }
tree_parts item (Node l x r) (At (h.Operator o.Node) kids) e f = node_parts item l x r kids f
tree_parts item (Node l x r) (At head kids) e f = absurd cc

-- ---- a clause

module _ (defs : Defs) (specs : SpecTable) (before : List (List ℕ × Pred)) (name : List ℕ) (p : Pred) (by : List (List ℕ × Plain)) (suits : Suiting (puts by) (scope_with p.arguments)) where
  record Fitting (o : Opening) : Type 0 where
    pub scope : Scope
    pub parts : List (List ℕ)
    pub fits : BodyFits defs specs before name p parts scope o.1
    pub terms_suit : Suiting (puts o.0) scope

  case_fits : (s item : Sort) (t : Plain) (c : PredCase) → Parts c.pattern t s item → CaseFits defs specs before name p s item c → (o : Opening) → (opened_terms c t by, c.body) ≡ o → Fitting o
  case_fits s item t c q k o e =
      subst Fitting e
      (record {
        scope = pattern_scope (pattern_of c.pattern) s item ++ scope_with p.arguments;
        parts = rules.smaller (pattern_of c.pattern);
        fits = k.body;
        terms_suit =
            subst (λ scope. Suiting (puts (opened_terms c t by)) (scope ++ scope_with p.arguments)) (sym q.scope_is)
            (subst (λ own. Suiting (puts (own ++ by)) (scope_of q.entries ++ scope_with p.arguments)) (sym q.terms) (suits_behind q.entries by (scope_with p.arguments) suits));
      })

  cases_fit : (s : Sort) (cases : List PredCase) → CasesFit defs specs before name p s cases → (t : Plain) → sort_of t ≡ Some s → (o : Opening) → opened_case (case_for cases t) t by ≡ Ok o → Fitting o
  cases_fit (ListOf' q (more_of-Sort item end_of-Sort)) cases k t g o e =
      let c = the_case by cases t o e in
      let f = found_in (CaseFits defs specs before name p (list_sort item) item) cases t c.case c.found k.1 in
      case_fits (list_sort item) item t c.case (list_parts item c.case.pattern t f.of' g) f.fits o c.is
  cases_fit (TreeOf' q (more_of-Sort item end_of-Sort)) cases k t g o e =
      let c = the_case by cases t o e in
      let f = found_in (CaseFits defs specs before name p (tree_sort item) item) cases t c.case c.found k.1 in
      case_fits (tree_sort item) item t c.case (tree_parts item c.case.pattern t f.of' g) f.fits o c.is
  cases_fit s cases k t g o e = absurd k

  first_fits : (bs : List Binder) (ts : List Plain) (cases : List PredCase) → FirstFits defs specs before name p bs cases → have_sorts bs ts ≡ true → (o : Opening) → opened_by (Cases cases) ts by ≡ Ok o → Fitting o
  first_fits [] ts cases k s o e = absurd k
  first_fits (b ∷ bs) [] cases k s o e = absurd cc
  first_fits (b ∷ bs) (t ∷ ts) cases k s o e =
      let q = and_parts (is_sort b.sort (sort_of t)) (have_sorts bs ts) s in
      cases_fit b.sort cases k t (sort_is b.sort (sort_of t) q.0) o e

  body_fits : (b : PredBody) (ts : List Plain) → PredBodyFits defs specs before name p b → have_sorts p.arguments ts ≡ true → (o : Opening) → opened_by b ts by ≡ Ok o → Fitting o
  body_fits (Whole a) ts k s o e = subst Fitting (same (by, a) o e) (record { scope = scope_with p.arguments; parts = []; fits = k; terms_suit = suits })
    where
      same : (x y : Opening) → opened_by (Whole x.1) ts x.0 ≡ Ok y → x ≡ y
      same x y i = cc
  body_fits (Cases cases) ts k s o e = first_fits p.arguments ts cases k s o e

pub opens_well : (defs : Defs) (specs : SpecTable) (name : List ℕ) (p : Pred) (terms : List Plain) → PredsFit defs specs [] defs.preds → lookup (bytes_eq name) defs.preds ≡ Some p → OpensWell p terms
opens_well defs specs name p terms preds own = λ o e.
    let at = placed defs specs name p preds own in
    let by = goes (taken p.arguments terms) (opened_by p.body terms) o e in
    let t = taken_is p.arguments terms by.value by.first in
    let suits : Suiting (puts by.value) (scope_with p.arguments) = subst (λ all. Suiting (puts all) (scope_with p.arguments)) (sym t.is) (suiting p.arguments terms t.sorts) in
    let f = body_fits defs specs at.before name p by.value suits p.body terms at.fits.body t.sorts o by.then' in
    formed_agrees defs specs f.scope o.1 (body_known defs specs name p at own f.parts f.scope o.1 f.fits.fits) (puts o.0) f.terms_suit
