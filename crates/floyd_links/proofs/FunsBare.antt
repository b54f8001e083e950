-- FUNs that keep the rules speak of no local variable.
use Rattle.std.proofs.Common.{◌≡◌, ℕ, Bool, true, false, cond, List, [], ◌∷◌, ◌++◌, Option, Some, None, All, refl, subst}
use Rattle.std.specs.Prelude.{bytes_eq, option_map, option_and_then}
use Rattle.std.specs.List.{AllByRecursion}
use Rattle.std.proofs.lemmas.List.Elements.{All-head, All-tail}
use Rattle.std.proofs.lemmas.Option.{same_Some}
use Rattle.floyd_ctypes.specs.Structs.{Structs}
use Rattle.floyd_tree_sorts.specs.declared.sorts.Sort.{Sort, ListOf', TreeOf', more_of-Sort, end_of-Sort}
use Rattle.floyd_tree_sorts.specs.Sorts.{list_sort, tree_sort}
use Rattle.floyd_tree.specs.Locals.{has_local}
use Rattle.floyd_tree_values.specs.Data.{Datum}
use Rattle.floyd_tree_values.specs.Funs.{Bindings, Body, ByCases, Case, Fun, Opened, Whole, bound, called, chosen, first_of, fun_of, opened, opened_by, parts}
use Rattle.floyd_tree_values.specs.Rules.{AllKeep, BodyKeeps, CaseKeeps, CasesKeep, FirstKeeps, Scope}

abbrev CaseBare : Case → Type 0
CaseBare c = has_local c.term ≡ false

each_bare : (P : Case → Type 0) → ((c : Case) → P c → CaseBare c) → (cases : List Case) → All P cases → AllByRecursion CaseBare cases
each_bare P k [] h = tt
each_bare P k (c ∷ cases) h = (k c (All-head P c cases h), each_bare P k cases (All-tail P c cases h))

-- the case that is chosen
abbrev opening : Bindings → Case → Bindings → Opened
opening arguments c own = record { bindings = own ++ arguments; term = c.term }

chosen_bare : (cases : List Case) (d : Datum) (arguments : Bindings) (o : Opened) → AllByRecursion CaseBare cases → chosen cases d arguments ≡ Some o → has_local o.term ≡ false
chosen_bare [] d arguments o h e = absurd cc
chosen_bare (c ∷ cases) d arguments o h e = by (chosen_bare cases d arguments o h.1) (parts c.pattern d) e
  where
    by : (chosen cases d arguments ≡ Some o → has_local o.term ≡ false) → (p : Option Bindings) → first_of (option_map (opening arguments c) p) (chosen cases d arguments) ≡ Some o → has_local o.term ≡ false
    by go None q = go q
    by go (Some own) q = subst (λ (x : Opened). has_local x.term ≡ false) (same_Some (opening arguments c own) o q) h.0

module _ (structs : Structs) where
  cases_bare : (before : List Fun) (f : Fun) (s : Sort) (cases : List Case) → CasesKeep structs before f s cases → AllByRecursion CaseBare cases
  cases_bare before f (ListOf' p (more_of-Sort item end_of-Sort)) cases h = each_bare (CaseKeeps structs before f (list_sort item) item) (λ c k. k.term.no_local) cases h.1
  cases_bare before f (TreeOf' p (more_of-Sort item end_of-Sort)) cases h = each_bare (CaseKeeps structs before f (tree_sort item) item) (λ c k. k.term.no_local) cases h.1
  cases_bare before f s cases h = absurd h

  first_bare : (before : List Fun) (f : Fun) (arguments : Scope) (cases : List Case) → FirstKeeps structs before f arguments cases → AllByRecursion CaseBare cases
  first_bare before f [] cases h = absurd h
  first_bare before f (a ∷ arguments) cases h = cases_bare before f a.1 cases h

  body_bare : (before : List Fun) (f : Fun) (body : Body) (ds : List Datum) (arguments : Bindings) (o : Opened) → BodyKeeps structs before f body → opened_by body ds arguments ≡ Some o → has_local o.term ≡ false
  body_bare before f (Whole t) ds arguments o h e = subst (λ (x : Opened). has_local x.term ≡ false) (same_Some (record { bindings = arguments; term = t }) o e) h.no_local
  body_bare before f (ByCases cases) [] arguments o h e = absurd cc
  body_bare before f (ByCases cases) (d ∷ ds) arguments o h e = chosen_bare cases d arguments o (first_bare before f f.arguments cases h) e

  keeps_bare : (before funs : List Fun) (name : List ℕ) (ds : List Datum) (f : Fun) (o : Opened) → AllKeep structs before funs → fun_of funs name ≡ Some f → opened f ds ≡ Some o → has_local o.term ≡ false
  keeps_bare before [] name ds f o h e q = absurd cc
  keeps_bare before (g ∷ funs) name ds f o h e q = by (keeps_bare (before ++ g ∷ []) funs name ds f o h.1) (bytes_eq name g.name) e
    where
      by : (fun_of funs name ≡ Some f → opened f ds ≡ Some o → has_local o.term ≡ false) → (t : Bool) → cond t (Some g) (fun_of funs name) ≡ Some f → has_local o.term ≡ false
      by go true k = let same : g ≡ f = same_Some g f k in body_bare before f f.body ds (bound f.arguments ds) o (subst (λ (x : Fun). BodyKeeps structs before x x.body) same h.0.body) q
      by go false k = go k q

  pub funs_bare : (funs : List Fun) (name : List ℕ) (ds : List Datum) (o : Opened) → AllKeep structs [] funs → called funs name ds ≡ Some o → has_local o.term ≡ false
  funs_bare funs name ds o h e = by (fun_of funs name) refl e
    where
      by : (f : Option Fun) → fun_of funs name ≡ f → option_and_then (λ f. opened f ds) f ≡ Some o → has_local o.term ≡ false
      by None k q = absurd cc
      by (Some f) k q = keeps_bare [] funs name ds f o h k q
