-- What the items of a module say looks at the PREDs of the module alone, and speaks of no local variable.
use Rattle.std.proofs.Common.{◌≡◌, ℕ, true, false, List, [], ◌∷◌, ◌++◌, Option, Some, None, refl, sym, ◌∙◌, ap, subst}
use Rattle.std.specs.Prelude.{bytes_eq, is_some, option_and_then, option_map}
use Rattle.std.specs.List.{AllByRecursion}
use Rattle.std.specs.Map.{lookup}
use Rattle.std.specs.Option.{option_or}
use Rattle.std.proofs.lemmas.Option.{same_Some}
use Rattle.floyd_clight_heap.specs.Heaplet.{Heaplet}
use Rattle.floyd_tree_sorts.specs.declared.sorts.Sort.{Sort, ListOf', TreeOf', more_of-Sort, end_of-Sort}
use Rattle.floyd_tree_sorts.specs.Sorts.{list_sort, tree_sort}
use Rattle.floyd_tree_values.specs.BuiltIns.{Env}
use Rattle.floyd_tree_values.specs.Data.{Datum}
use Rattle.floyd_tree_values.specs.Funs.{Bindings, parts}
use Rattle.floyd_tree_values.specs.Rules.{DefsKeep, Scope, pattern_scope, smaller}
use Rattle.floyd_assert_trees.specs.declared.assertion.Assertion.{Assertion}
use Rattle.floyd_assert_trees.specs.declared.binder.Binder.{Binder}
use Rattle.floyd_assert_trees.specs.declared.items.Defs.{Defs}
use Rattle.floyd_assert_trees.specs.declared.items.Pred.{Pred}
use Rattle.floyd_assert_trees.specs.declared.items.PredBody.{PredBody}
use Rattle.floyd_assert_trees.specs.declared.items.PredBody.TheVariants.{Whole, Cases}
use Rattle.floyd_assert_trees.specs.declared.items.PredCase.{PredCase}
use Rattle.floyd_assert_trees.specs.declared.sep.Sep.{Sep}
use Rattle.floyd_assert_trees.specs.declared.sep.Sep.TheVariants.{FieldAt, Padding, Valid, Anything, Predicate}
use Rattle.floyd_assert_trees.specs.declared.spec.SpecTable.{SpecTable}
use Rattle.floyd_assert_trees.specs.Meanings.{pattern_of}
use Rattle.floyd_assert_laws.specs.Bare.{IsBare, assertion_has_local, with_local}
use Rattle.floyd_assert_laws.proofs.BareLaws.{body_bare}
use Rattle.floyd_assert_meaning.specs.Parts as part
use Rattle.floyd_assert_meaning.specs.Parts.{BodyHolds, PartHolds, PartsHold}
use Rattle.floyd_assert_meaning.specs.Predicates.{Opened, arguments_of, called, chosen, opened, opened_by}
use Rattle.floyd_assert_meaning.specs.Settings.{Setting}
use Rattle.floyd_goal_forms.specs.Assertions.{PartFits, PartsFit, PredicatesOf, inner_scope}
use Rattle.floyd_goal_forms.specs.Items.{CaseFits, CasesFit, FirstFits, PredBodyFits, PredsFit}
use Rattle.floyd_goal_forms.specs.Terms.{scope_with}
use Rattle.floyd_links.proofs.FunsBare.{funs_bare}
use Rattle.floyd_links.proofs.PredsBare.{pred_bare}
use Rattle.floyd_clause_laws.proofs.Finding.{Placed, body_known, placed}

-- ---- parts that call the PREDs of a module

module _ (defs : Defs) where
  abbrev pub IsKnown : Sep → Type 0
  IsKnown (FieldAt r value) = Unit {0}
  IsKnown (Padding r) = Unit {0}
  IsKnown (Valid t) = Unit {0}
  IsKnown Anything = Unit {0}
  IsKnown (Predicate name terms) = is_some (lookup (bytes_eq name) defs.preds) ≡ true

  abbrev pub AreKnown : List Sep → Type 0
  AreKnown ps = AllByRecursion IsKnown ps

  part_known : (scope : Scope) (p : Sep) → PartFits defs scope (PredicatesOf defs scope) p → IsKnown p
  part_known scope (FieldAt r value) h = tt
  part_known scope (Padding r) h = tt
  part_known scope (Valid t) h = tt
  part_known scope Anything h = tt
  part_known scope (Predicate name terms) h = ap is_some h.1

  pub parts_known : (scope : Scope) (ps : List Sep) → PartsFit defs scope (PredicatesOf defs scope) ps → AreKnown ps
  parts_known scope [] h = tt
  parts_known scope (p ∷ ps) h = (part_known scope p h.0, parts_known scope ps h.1)

-- ---- what a PRED stands for calls them too

abbrev opening : Bindings → PredCase → Bindings → Opened
opening arguments c own = record { bindings = own ++ arguments; body = c.body }

weaker : {A : Type 0} (P Q : A → Type 0) → ((a : A) → P a → Q a) → (xs : List A) → AllByRecursion P xs → AllByRecursion Q xs
weaker P Q k [] h = tt
weaker P Q k (x ∷ xs) h = (k x h.0, weaker P Q k xs h.1)

module _ (defs : Defs) where
  abbrev CaseKnown : PredCase → Type 0
  CaseKnown c = AreKnown defs c.body.parts

  chosen_known : (cases : List PredCase) (d : Datum) (arguments : Bindings) (o : Opened) → AllByRecursion CaseKnown cases → chosen cases d arguments ≡ Some o → AreKnown defs o.body.parts
  chosen_known [] d arguments o h e = absurd cc
  chosen_known (c ∷ cases) d arguments o h e = by (chosen_known cases d arguments o h.1) (parts (pattern_of c.pattern) d) e
    where
      by : (chosen cases d arguments ≡ Some o → AreKnown defs o.body.parts) → (p : Option Bindings) → option_or (option_map (opening arguments c) p) (chosen cases d arguments) ≡ Some o → AreKnown defs o.body.parts
      by go None q = go q
      by go (Some own) q = subst (λ (x : Opened). AreKnown defs x.body.parts) (same_Some (opening arguments c own) o q) h.0

  module _ (specs : SpecTable) (name : List ℕ) (p : Pred) (at : Placed defs specs name p) (own : lookup (bytes_eq name) defs.preds ≡ Some p) where
    case_known : (s item : Sort) (c : PredCase) → CaseFits defs specs at.before name p s item c → CaseKnown c
    case_known s item c k =
        let scope = pattern_scope (pattern_of c.pattern) s item ++ scope_with p.arguments in
        parts_known defs (inner_scope c.body scope) c.body.parts (body_known defs specs name p at own (smaller (pattern_of c.pattern)) scope c.body k.body.fits).parts

    cases_known : (s : Sort) (cases : List PredCase) → CasesFit defs specs at.before name p s cases → AllByRecursion CaseKnown cases
    cases_known (ListOf' q (more_of-Sort item end_of-Sort)) cases h = weaker (CaseFits defs specs at.before name p (list_sort item) item) CaseKnown (case_known (list_sort item) item) cases h.1
    cases_known (TreeOf' q (more_of-Sort item end_of-Sort)) cases h = weaker (CaseFits defs specs at.before name p (tree_sort item) item) CaseKnown (case_known (tree_sort item) item) cases h.1
    cases_known s cases h = absurd h

    first_known : (bs : List Binder) (cases : List PredCase) → FirstFits defs specs at.before name p bs cases → AllByRecursion CaseKnown cases
    first_known [] cases h = absurd h
    first_known (b ∷ bs) cases h = cases_known b.sort cases h

    opened_known : (b : PredBody) (ds : List Datum) (arguments : Bindings) (o : Opened) → PredBodyFits defs specs at.before name p b → opened_by b ds arguments ≡ Some o → AreKnown defs o.body.parts
    opened_known (Whole a) ds arguments o h e =
        subst (λ (x : Opened). AreKnown defs x.body.parts) (same_Some (record { bindings = arguments; body = a }) o e)
        (parts_known defs (inner_scope a (scope_with p.arguments)) a.parts (body_known defs specs name p at own [] (scope_with p.arguments) a h.fits).parts)
    opened_known (Cases cases) [] arguments o h e = absurd cc
    opened_known (Cases cases) (d ∷ ds) arguments o h e = chosen_known cases d arguments o (first_known p.arguments cases h) e

-- ---- with the PREDs of the module alone

-- the PREDs of a module are among those of the setting
abbrev pub AreThere : Setting → Defs → Type 0
AreThere S defs = (x : List ℕ) (p : Pred) → lookup (bytes_eq x) defs.preds ≡ Some p → lookup (bytes_eq x) S.preds ≡ Some p

-- a call of a PRED
record Call (defs : Defs) (name : List ℕ) (ds : List Datum) (o : Opened) : Type 0 where
  pub pred : Pred
  pub is : lookup (bytes_eq name) defs.preds ≡ Some pred
  pub opens : opened pred ds ≡ Some o

call_of : (defs : Defs) (name : List ℕ) (ds : List Datum) (o : Opened) → called defs.preds name ds ≡ Some o → Call defs name ds o
call_of defs name ds o e = by (lookup (bytes_eq name) defs.preds) refl e
  where
    by : (q : Option Pred) → lookup (bytes_eq name) defs.preds ≡ q → option_and_then (λ (p : Pred). opened p ds) q ≡ Some o → Call defs name ds o
    by None k i = absurd cc
    by (Some p) k i = record { pred = p; is = k; opens = i }

module _ (S : Setting) (defs : Defs) (specs : SpecTable) (preds : PredsFit defs specs [] defs.preds) (there : AreThere S defs) where
  abbrev few : Setting
  few = record S { preds = defs.preds }

  called_out : (name : List ℕ) (ds : List Datum) (o : Opened) → called defs.preds name ds ≡ Some o → called S.preds name ds ≡ Some o
  called_out name ds o e =
      let c = call_of defs name ds o e in
      ap (option_and_then (λ (p : Pred). opened p ds)) (there name c.pred c.is) ∙ c.opens

  called_in : (name : List ℕ) (ds : List Datum) (o : Opened) → is_some (lookup (bytes_eq name) defs.preds) ≡ true → called S.preds name ds ≡ Some o → called defs.preds name ds ≡ Some o
  called_in name ds o k e = by (lookup (bytes_eq name) defs.preds) refl k
    where
      by : (q : Option Pred) → lookup (bytes_eq name) defs.preds ≡ q → is_some q ≡ true → called defs.preds name ds ≡ Some o
      by None i k = absurd cc
      by (Some p) i k = ap (option_and_then (λ (p : Pred). opened p ds)) i ∙ sym (ap (option_and_then (λ (p : Pred). opened p ds)) (there name p i)) ∙ e

  call_known : (name : List ℕ) (ds : List Datum) (o : Opened) → called defs.preds name ds ≡ Some o → AreKnown defs o.body.parts
  call_known name ds o e =
      let c = call_of defs name ds o e in
      let at = placed defs specs name c.pred preds c.is in
      opened_known defs specs name c.pred at c.is c.pred.body ds (arguments_of c.pred ds) o at.fits.body c.opens

  mutual
    part_out : {env : Env} {p : Sep} {h : Heaplet} → PartHolds few env p h → PartHolds S env p h
    part_out (part.object x) = part.object x
    part_out (part.gap x) = part.gap x
    part_out (part.address x) = part.address x
    part_out part.anything = part.anything
    part_out (part.predicate {name = name} {ds = ds} {o = o} m e b) = part.predicate {ds = ds} {o = o} m (called_out name ds o e) (body_out b)

    body_out : {env : Env} {a : Assertion} {h : Heaplet} → BodyHolds few env a h → BodyHolds S env a h
    body_out (part.body ds s t q) = part.body ds s t (parts_out q)

    parts_out : {env : Env} {ps : List Sep} {h : Heaplet} → PartsHold few env ps h → PartsHold S env ps h
    parts_out (part.none e) = part.none e
    parts_out (part.more j m n) = part.more j (part_out m) (parts_out n)

  mutual
    part_in : {env : Env} {p : Sep} {h : Heaplet} → PartHolds S env p h → IsKnown defs p → PartHolds few env p h
    part_in (part.object x) k = part.object x
    part_in (part.gap x) k = part.gap x
    part_in (part.address x) k = part.address x
    part_in part.anything k = part.anything
    part_in (part.predicate {name = name} {ds = ds} {o = o} m e b) k =
        let c = called_in name ds o k e in
        part.predicate {ds = ds} {o = o} m c (body_in b (call_known name ds o c))

    body_in : {env : Env} {a : Assertion} {h : Heaplet} → BodyHolds S env a h → AreKnown defs a.parts → BodyHolds few env a h
    body_in (part.body ds s t q) k = part.body ds s t (parts_in q k)

    parts_in : {env : Env} {ps : List Sep} {h : Heaplet} → PartsHold S env ps h → AreKnown defs ps → PartsHold few env ps h
    parts_in (part.none e) k = part.none e
    parts_in (part.more j m n) k = part.more j (part_in m k.0) (parts_in n k.1)

  few_bare : DefsKeep S.defs → IsBare few
  few_bare keeps = record {
    funs = λ name ds o e. funs_bare S.defs.structs S.defs.funs name ds o keeps e;
    preds = λ name ds o e.
        let c = call_of defs name ds o e in
        let at = placed defs specs name c.pred preds c.is in
        pred_bare defs specs at.before name c.pred at.fits ds o c.opens;
  }

  -- what calls them and speaks of no local variable means the same wherever these lie
  pub body_anywhere : DefsKeep S.defs → (env : Env) (local : List ℕ → ℕ) (a : Assertion) (h : Heaplet) → AreKnown defs a.parts → assertion_has_local a ≡ false → BodyHolds S env a h → BodyHolds S (with_local env local) a h
  body_anywhere keeps env local a h k none b = body_out (body_bare few (few_bare keeps) (body_in b k) local none)
