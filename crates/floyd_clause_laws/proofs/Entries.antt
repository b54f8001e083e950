-- Names with terms, their data and their sorts.
use Rattle.std.proofs.Common.{◌≡◌, ℕ, Bool, true, false, cond, List, [], ◌∷◌, map, Some, refl, ap}
use Rattle.std.specs.Prelude.{bytes_eq, is_some}
use Rattle.std.specs.Map.{lookup}
use Rattle.std.specs.Option.{unwrap_or}
use Rattle.floyd_tree_sorts.specs.declared.sorts.Sort.{Sort}
use Rattle.floyd_tree.specs.Plain.{Plain, plains}
use Rattle.floyd_tree_values.specs.BuiltIns.{Env}
use Rattle.floyd_tree_values.specs.Data.{Datum}
use Rattle.floyd_tree_values.specs.Funs.{Bindings, bound}
use Rattle.floyd_tree_values.specs.Means.{AllMean, Defs, Means, datum_of, more, none}
use Rattle.floyd_tree_values.specs.Rules.{DefsKeep, Scope, Suits}
use Rattle.floyd_tree_values.proofs.AllFuns.{a_value}
use Rattle.floyd_truth.specs.Laws.{IsAfter}
use Rattle.floyd_assert_trees.specs.declared.binder.Binder.{Binder}
use Rattle.floyd_assert_instances.specs.Instances.{pairs}
use Rattle.floyd_goal_forms.specs.Items.{sorts_with}
use Rattle.floyd_goal_forms.specs.Terms.{scope_with}
use Rattle.floyd_goal_scopes.proofs.Terms.{Known}
use Rattle.floyd_clause_laws.specs.Laws.{AllFit}

pub record Entry (defs : Defs) (env : Env) : Type 0 where
  pub name : List ℕ
  pub term : Plain
  pub datum : Datum
  pub sort : Sort
  pub mean : Means defs env term datum

module _ (defs : Defs) (env : Env) where
  abbrev pub terms_of : List (Entry defs env) → List (List ℕ × Plain)
  terms_of es = map (λ (e : Entry defs env). (e.name, e.term)) es

  abbrev pub data_of : List (Entry defs env) → Bindings
  data_of es = map (λ (e : Entry defs env). (e.name, e.datum)) es

  abbrev pub scope_of : List (Entry defs env) → Scope
  scope_of es = map (λ (e : Entry defs env). (e.name, e.sort)) es

  -- the data of the names, and of other names what they were
  abbrev pub put_data : Bindings → List ℕ → Datum
  put_data bindings x = unwrap_or (lookup (bytes_eq x) bindings) (env.variables x)

  pub after : (es : List (Entry defs env)) (x : List ℕ) → IsAfter defs env (lookup (bytes_eq x) (terms_of es)) (env.variables x) (put_data (data_of es) x)
  after [] x = refl
  after (e ∷ es) x = by (after es x) (bytes_eq x e.name)
    where
      by : IsAfter defs env (lookup (bytes_eq x) (terms_of es)) (env.variables x) (put_data (data_of es) x) → (c : Bool) → IsAfter defs env (cond c (Some e.term) (lookup (bytes_eq x) (terms_of es))) (env.variables x) (unwrap_or (cond c (Some e.datum) (lookup (bytes_eq x) (data_of es))) (env.variables x))
      by go true = e.mean
      by go false = go

  -- a name of the scope has a datum
  pub known : (es : List (Entry defs env)) (x : List ℕ) → Known (scope_of es) x → datum_of (data_of es) x ≡ put_data (data_of es) x
  known [] x k = absurd cc
  known (e ∷ es) x k = by (known es x) (bytes_eq x e.name) k
    where
      by : (Known (scope_of es) x → datum_of (data_of es) x ≡ put_data (data_of es) x) → (c : Bool) → is_some (cond c (Some e.sort) (lookup (bytes_eq x) (scope_of es))) ≡ true → unwrap_or (cond c (Some e.datum) (lookup (bytes_eq x) (data_of es))) (datum_of [] x) ≡ unwrap_or (cond c (Some e.datum) (lookup (bytes_eq x) (data_of es))) (env.variables x)
      by go true q = refl
      by go false q = go q

  pub record Arguments (bs : List Binder) (ts : List Plain) : Type 0 where
    pub data' : List Datum
    pub mean : AllMean defs env (plains ts) data'
    pub entries : List (Entry defs env)
    pub terms : pairs bs ts ≡ terms_of entries
    pub bound_is : bound (map (λ (b : Binder). (b.name, b.sort)) bs) data' ≡ data_of entries
    pub scope_is : scope_with bs ≡ scope_of entries

  pub arguments : (scope : Scope) → Suits scope env → DefsKeep defs → (bs : List Binder) (ts : List Plain) → AllFit defs scope (sorts_with bs) ts → Arguments bs ts
  arguments scope suits keeps [] [] h = record { data' = []; mean = none; entries = []; terms = refl; bound_is = refl; scope_is = refl }
  arguments scope suits keeps [] (t ∷ ts) h = absurd h
  arguments scope suits keeps (b ∷ bs) [] h = absurd h
  arguments scope suits keeps (b ∷ bs) (t ∷ ts) h =
      let v = a_value defs scope env b.sort t keeps suits h.0 in
      let rest = arguments scope suits keeps bs ts h.1 in
      record {
        data' = v.0 ∷ rest.data';
        mean = more v.1 rest.mean;
        entries = record { name = b.name; term = t; datum = v.0; sort = b.sort; mean = v.1 } ∷ rest.entries;
        terms = ap (λ l. (b.name, t) ∷ l) rest.terms;
        bound_is = ap (λ l. (b.name, v.0) ∷ l) rest.bound_is;
        scope_is = ap (λ l. (b.name, b.sort) ∷ l) rest.scope_is;
      }
