-- A term has at most one value.
use Rattle.std.proofs.Common.{◌≡◌, ℕ, false, List, [], ◌∷◌, Some, refl, sym, ap, subst, ◌∙◌}
use Rattle.floyd_tree_sorts.specs.declared.sorts.Sort.{Sort}
use Rattle.floyd_tree_sorts.specs.declared.heads.Head.{Head}
use Rattle.floyd_tree_sorts.specs.declared.heads.Head.TheVariants.{Fun as FunHead}
use Rattle.floyd_tree.specs.Plain.{Plain, Plains, At, Done, More}
use Rattle.floyd_tree.specs.WellSorted.{sort_of}
use Rattle.floyd_tree_values.specs.Data.{Datum}
use Rattle.floyd_tree_values.specs.Funs.{Opened, called}
use Rattle.floyd_tree_values.specs.BuiltIns.{Env, applied}
use Rattle.floyd_tree_values.specs.Means.{Defs, Means, AllMean, built_in, call, none, more, is_fun, inside}

-- what a value of a node comes from
pub record Applies (defs : Defs) (env : Env) (head : Head) (kids : Plains) (d : Datum) : Type 0 where
  pub sort : Sort
  pub data' : List Datum
  pub sorted : sort_of (At head kids) ≡ Some sort
  pub mean : AllMean defs env kids data'
  pub is : d ≡ applied defs.structs env head sort data'

pub applies : {defs : Defs} {env : Env} {head : Head} {kids : Plains} {d : Datum} → is_fun head ≡ false → Means defs env (At head kids) d → Applies defs env head kids d
applies f (built_in {s = s} {ds = ds} g e k) = record { sort = s; data' = ds; sorted = e; mean = k; is = refl }
applies f (call k e m) = absurd cc

pub record Calls (defs : Defs) (env : Env) (name : List ℕ) (kids : Plains) (d : Datum) : Type 0 where
  pub data' : List Datum
  pub mean : AllMean defs env kids data'
  pub opened : Opened
  pub is : called defs.funs name data' ≡ Some opened
  pub term : Means defs (inside env opened.bindings) opened.term d

pub calls : {defs : Defs} {env : Env} {name : List ℕ} {arguments : List Sort} {s : Sort} {kids : Plains} {d : Datum} → Means defs env (At (FunHead name arguments s) kids) d → Calls defs env name kids d
calls (built_in f e k) = absurd cc
calls (call {ds = ds} {bindings = bindings} {term = term} k e m) =
    record { data' = ds; mean = k; opened = record { bindings = bindings; term = term }; is = e; term = m }

pub no_data : {defs : Defs} {env : Env} {ds : List Datum} → AllMean defs env Done ds → ds ≡ []
no_data none = refl

pub record Split (defs : Defs) (env : Env) (t : Plain) (ts : Plains) (all : List Datum) : Type 0 where
  pub datum : Datum
  pub data' : List Datum
  pub first : Means defs env t datum
  pub rest : AllMean defs env ts data'
  pub is : all ≡ datum ∷ data'

pub split : {defs : Defs} {env : Env} {t : Plain} {ts : Plains} {all : List Datum} → AllMean defs env (More t ts) all → Split defs env t ts all
split (more {d = d} {ds = ds} m k) = record { datum = d; data' = ds; first = m; rest = k; is = refl }

mutual
  pub one_value : (defs : Defs) {env : Env} {t : Plain} {a : Datum} → Means defs env t a → (b : Datum) → Means defs env t b → a ≡ b
  one_value defs (built_in {env = env} {head = head} {kids = kids} {s = s} {ds = ds} f e k) b n =
      let p = applies f n in
      let same_data : ds ≡ p.data' = one_list defs k p.data' p.mean in
      let same_sort : s ≡ p.sort = cc (e, p.sorted) in
      ap (λ x. applied defs.structs env head x ds) same_sort ∙ ap (applied defs.structs env head p.sort) same_data ∙ sym p.is
  one_value defs (call {env = env} {name = name} {ds = ds} {bindings = bindings} {term = term} k e m) b n =
      let p = calls n in
      let same_data : ds ≡ p.data' = one_list defs k p.data' p.mean in
      let here : Opened = record { bindings = bindings; term = term } in
      let again : called defs.funs name ds ≡ Some p.opened = ap (called defs.funs name) same_data ∙ p.is in
      let same_open : p.opened ≡ here = cc (e, again) in
      one_value defs m b (subst (λ (o : Opened). Means defs (inside env o.bindings) o.term b) same_open p.term)

  pub one_list : (defs : Defs) {env : Env} {ts : Plains} {ds : List Datum} → AllMean defs env ts ds → (es : List Datum) → AllMean defs env ts es → ds ≡ es
  one_list defs none es n = sym (no_data n)
  one_list defs (more {d = d} {ds = ds} m k) es n =
      let p = split n in
      ap (λ x. x ∷ ds) (one_value defs m p.datum p.first) ∙ ap (λ xs. p.datum ∷ xs) (one_list defs k p.data' p.rest) ∙ sym p.is
