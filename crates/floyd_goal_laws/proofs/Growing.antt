-- What is well formed over some FUNs is so over more, and terms keep their values.
use Rattle.std.proofs.Common.{◌≡◌, ℕ, List, [], ◌∷◌, Option, Some, None, All, refl, sym, ap, subst, ◌∙◌}
use Rattle.std.proofs.lemmas.List.Elements.{All-weaker}
use Rattle.std.specs.Prelude.{option_and_then}
use Rattle.floyd_ctypes.specs.Structs.{Structs}
use Rattle.floyd_tree_sorts.specs.declared.heads.Head.{Head}
use Rattle.floyd_tree_sorts.specs.declared.heads.Head.TheVariants.{Variable, Default, Fun as FunHead}
use Rattle.floyd_tree_sorts.specs.declared.sorts.Sort.{Sort}
use Rattle.floyd_tree.specs.Formulas.{PlainFormula, PlainFormulas, Says, NoFormula, MoreFormulas}
use Rattle.floyd_tree.specs.Plain.{Plain, Plains, At, Done, More}
use Rattle.floyd_tree_values.specs.BuiltIns.{Env}
use Rattle.floyd_tree_values.specs.Data.{Datum}
use Rattle.floyd_tree_values.specs.Funs.{Fun, Opened, called, fun_of, opened}
use Rattle.floyd_tree_values.specs.Means.{Defs, Means, AllMean, built_in, call, none, more}
use Rattle.floyd_tree_values.specs.Rules.{Scope, Calls, IsAllowed, EachAllowed, AllAllowed, CallsOf}
use Rattle.floyd_tree_values.specs.Rules as rules
use Rattle.floyd_goal_formulas.specs.Fits.{Fits, AreAllowed, scope_below}
use Rattle.floyd_goal_formulas.specs.Fits as formula
use Rattle.floyd_assert_trees.specs.declared.items.Defs as items
use Rattle.floyd_assert_trees.specs.declared.spec.SpecTable.{SpecTable}
use Rattle.floyd_assert_trees.specs.Meanings.{value_defs}
use Rattle.floyd_goal_meaning.specs.declared.linked.Linked.{Linked}
use Rattle.floyd_goal_meaning.specs.Links.{Has}
use Rattle.floyd_goal_meaning.specs.Programs.{defs_of, funs_of}

-- all of some FUNs are among others
abbrev pub AreAmong : List Fun → List Fun → Type 0
AreAmong funs all = (x : List ℕ) (f : Fun) → fun_of funs x ≡ Some f → fun_of all x ≡ Some f

module _ (structs : Structs) (scope : Scope) (P Q : Calls) (k : (name : List ℕ) (arguments : List Sort) (s : Sort) (kids : Plains) → P name arguments s kids → Q name arguments s kids) where
  allowed_more : (head : Head) (kids : Plains) → IsAllowed structs scope P head kids → IsAllowed structs scope Q head kids
  allowed_more (Variable x s) kids h = h
  allowed_more (Default shape s) kids h = h
  allowed_more (FunHead name arguments s) kids h = k name arguments s kids h
  allowed_more head kids h = tt

  mutual
    pub each_more : (t : Plain) → EachAllowed structs scope P t → EachAllowed structs scope Q t
    each_more (At head kids) h = (allowed_more head kids h.0, terms_more kids h.1)

    pub terms_more : (ts : Plains) → AllAllowed structs scope P ts → AllAllowed structs scope Q ts
    terms_more Done h = tt
    terms_more (More t ts) h = (each_more t h.0, terms_more ts h.1)

calls_more : (funs all : List Fun) → AreAmong funs all → (name : List ℕ) (arguments : List Sort) (s : Sort) (kids : Plains) → CallsOf funs name arguments s kids → CallsOf all name arguments s kids
calls_more funs all k name arguments s kids c = (c.0, k name c.0 c.1, c.2, c.3)

module _ (structs : Structs) (funs all : List Fun) (k : AreAmong funs all) where
  abbrev few : Defs
  few = record { structs = structs; funs = funs }

  abbrev many : Defs
  many = record { structs = structs; funs = all }

  mutual
    formula_more : (scope : Scope) (f : PlainFormula) → formula.IsAllowed few scope f → formula.IsAllowed many scope f
    formula_more scope (Says head ts fs) h = (terms_more structs scope (CallsOf funs) (CallsOf all) (calls_more funs all k) ts h.0, formulas_more (scope_below head scope) fs h.1)

    formulas_more : (scope : Scope) (fs : PlainFormulas) → AreAllowed few scope fs → AreAllowed many scope fs
    formulas_more scope NoFormula h = tt
    formulas_more scope (MoreFormulas f fs) h = (formula_more scope f h.0, formulas_more scope fs h.1)

  fits_many : (scope : Scope) (f : PlainFormula) → Fits few scope f → Fits many scope f
  fits_many scope f h = record { sorted = h.sorted; allowed = formula_more scope f h.allowed }

  called_more : (name : List ℕ) (ds : List Datum) (o : Opened) → called funs name ds ≡ Some o → called all name ds ≡ Some o
  called_more name ds o e = by (fun_of funs name) refl e
    where
      by : (f : Option Fun) → fun_of funs name ≡ f → option_and_then (λ f. opened f ds) f ≡ Some o → called all name ds ≡ Some o
      by None l q = absurd cc
      by (Some f) l q = ap (option_and_then (λ f. opened f ds)) (k name f l) ∙ q

  mutual
    means_many : {env : Env} {t : Plain} {d : Datum} → Means few env t d → Means many env t d
    means_many (built_in {head = head} {s = s} f e m) = built_in {head = head} {s = s} f e (all_mean_many m)
    means_many (call {name = name} {ds = ds} {bindings = bindings} {term = term} m e n) =
        call {bindings = bindings} {term = term} (all_mean_many m) (called_more name ds (record { bindings = bindings; term = term }) e) (means_many n)

    all_mean_many : {env : Env} {ts : Plains} {ds : List Datum} → AllMean few env ts ds → AllMean many env ts ds
    all_mean_many none = none
    all_mean_many (more m n) = more (means_many m) (all_mean_many n)

module _ (L : Linked) (defs : items.Defs) (specs : SpecTable) (has : Has L defs specs) where
  in_program : (P : Defs → Type 0) → P (record { structs = defs.structs; funs = funs_of L }) → P (defs_of L)
  in_program P p = subst (λ structs. P (record { structs = structs; funs = funs_of L })) (sym has.structs) p

  pub term_fits_program : (scope : Scope) (s : Sort) (t : Plain) → rules.Fits defs.structs scope (CallsOf (value_defs defs).funs) s t → rules.Fits L.structs scope (CallsOf (funs_of L)) s t
  term_fits_program scope s t h = in_program (λ d. rules.Fits d.structs scope (CallsOf d.funs) s t) (record {
    sorted = h.sorted;
    allowed = each_more defs.structs scope (CallsOf (value_defs defs).funs) (CallsOf (funs_of L)) (calls_more (value_defs defs).funs (funs_of L) has.funs) t h.allowed;
  })

  pub fits_program : (scope : Scope) (f : PlainFormula) → Fits (value_defs defs) scope f → Fits (defs_of L) scope f
  fits_program scope f h = in_program (λ d. Fits d scope f) (fits_many defs.structs (value_defs defs).funs (funs_of L) has.funs scope f h)

  pub all_fit_program : (scope : Scope) (fs : List PlainFormula) → All (Fits (value_defs defs) scope) fs → All (Fits (defs_of L) scope) fs
  all_fit_program scope fs h = All-weaker (Fits (value_defs defs) scope) (Fits (defs_of L) scope) (fits_program scope) fs h

  pub means_program : (env : Env) (t : Plain) (d : Datum) → Means (value_defs defs) env t d → Means (defs_of L) env t d
  means_program env t d m = in_program (λ e. Means e env t d) (means_many defs.structs (value_defs defs).funs (funs_of L) has.funs m)
