-- A FUN that keeps the rules behind some FUNs keeps them behind more.
use Rattle.std.proofs.Common.{◌≡◌, inl, inr, ℕ, List, [], ◌∷◌, None}
use Rattle.std.proofs.lemmas.List.Elements.{All-weaker}
use Rattle.floyd_ctypes.specs.Structs.{Structs}
use Rattle.floyd_tree_sorts.specs.declared.sorts.Sort.{Sort, ListOf', TreeOf', more_of-Sort, end_of-Sort}
use Rattle.floyd_tree_sorts.specs.Sorts.{list_sort, tree_sort}
use Rattle.floyd_tree.specs.Plain.{Plain, Plains}
use Rattle.floyd_tree_values.specs.Funs.{Body, ByCases, Case, Fun, Whole, fun_of}
use Rattle.floyd_tree_values.specs.Rules.{BodyKeeps, CallsFrom, CaseKeeps, CasesKeep, FirstKeeps, KeepsRules, Scope, TermKeeps}
use Rattle.floyd_goal_laws.proofs.Growing.{AreAmong, each_more}

module _ (structs : Structs) (before all : List Fun) (k : AreAmong before all) (f : Fun) where
  calls_more : (parts : List (List ℕ)) (name : List ℕ) (arguments : List Sort) (s : Sort) (kids : Plains) → CallsFrom before f parts name arguments s kids → CallsFrom all f parts name arguments s kids
  calls_more parts name arguments s kids (inl c) = inl (c.0, k name c.0 c.1, c.2, c.3)
  calls_more parts name arguments s kids (inr c) = inr c

  term_more : (scope : Scope) (parts : List (List ℕ)) (s : Sort) (t : Plain) → TermKeeps structs scope (CallsFrom before f parts) s t → TermKeeps structs scope (CallsFrom all f parts) s t
  term_more scope parts s t h = record {
    fits = record { sorted = h.fits.sorted; allowed = each_more structs scope (CallsFrom before f parts) (CallsFrom all f parts) (calls_more parts) t h.fits.allowed };
    no_local = h.no_local;
  }

  case_more : (s item : Sort) (c : Case) → CaseKeeps structs before f s item c → CaseKeeps structs all f s item c
  case_more s item c h = record { names = h.names; term = term_more _ _ f.result c.term h.term }

  cases_more : (s : Sort) (cases : List Case) → CasesKeep structs before f s cases → CasesKeep structs all f s cases
  cases_more (ListOf' p (more_of-Sort item end_of-Sort)) cases h =
      (h.0, All-weaker (CaseKeeps structs before f (list_sort item) item) (CaseKeeps structs all f (list_sort item) item) (case_more (list_sort item) item) cases h.1)
  cases_more (TreeOf' p (more_of-Sort item end_of-Sort)) cases h =
      (h.0, All-weaker (CaseKeeps structs before f (tree_sort item) item) (CaseKeeps structs all f (tree_sort item) item) (case_more (tree_sort item) item) cases h.1)
  cases_more s cases h = absurd h

  first_more : (scope : Scope) (cases : List Case) → FirstKeeps structs before f scope cases → FirstKeeps structs all f scope cases
  first_more [] cases h = absurd h
  first_more (a ∷ scope) cases h = cases_more a.1 cases h

  body_more : (body : Body) → BodyKeeps structs before f body → BodyKeeps structs all f body
  body_more (Whole t) h = term_more f.arguments [] f.result t h
  body_more (ByCases cases) h = first_more f.arguments cases h

  pub keeps_more : fun_of all f.name ≡ None → KeepsRules structs before f → KeepsRules structs all f
  keeps_more e h = record { name = e; arguments = h.arguments; body = body_more f.body h.body }
