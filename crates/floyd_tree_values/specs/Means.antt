-- The value of a term under an environment.
use Rattle.std.specs.Prelude.{◌≡◌, ℕ, Bool, true, false, List, [], ◌∷◌, Some, bytes_eq, pos}
use Rattle.std.specs.Map.{lookup}
use Rattle.std.specs.Option.{unwrap_or}
use Rattle.floyd_ctypes.specs.Structs.{Structs}
use Rattle.floyd_tree_sorts.specs.declared.sorts.Sort.{Sort}
use Rattle.floyd_tree_sorts.specs.declared.heads.Head.{Head}
use Rattle.floyd_tree_sorts.specs.declared.heads.Head.TheVariants.{Fun as FunHead}
use Rattle.floyd_tree.specs.Plain.{Plain, Plains, At, Done, More}
use Rattle.floyd_tree.specs.WellSorted.{sort_of}
use Rattle.floyd_tree_values.specs.Data.{Datum, Number}
use Rattle.floyd_tree_values.specs.BuiltIns.{Env, applied}
use Rattle.floyd_tree_values.specs.Funs.{Fun, Bindings, called}

-- the structs and the FUNs of a program, in their order
pub record Defs : Type 0 where
  pub structs : Structs
  pub funs : List Fun

abbrev pub is_fun : Head → Bool
is_fun (FunHead name arguments s) = true
is_fun head = false

-- the datum of a name; a name that is not bound, which no term of a FUN has, counts as 0
abbrev pub datum_of : Bindings → List ℕ → Datum
datum_of bindings x = unwrap_or (lookup (bytes_eq x) bindings) (Number (pos 0))

-- inside a FUN the variables are its own
abbrev pub inside : Env → Bindings → Env
inside env bindings = record env { variables = datum_of bindings }

mutual
  -- the term has that value
  pub data Means (defs : Defs) : Env → Plain → Datum → Type 0 where
    built_in : {env : Env} {head : Head} {kids : Plains} {s : Sort} {ds : List Datum} →
        is_fun head ≡ false → sort_of (At head kids) ≡ Some s → AllMean defs env kids ds →
        Means defs env (At head kids) (applied defs.structs env head s ds)
    call : {env : Env} {name : List ℕ} {arguments : List Sort} {s : Sort} {kids : Plains} {ds : List Datum} {bindings : Bindings} {term : Plain} {d : Datum} →
        AllMean defs env kids ds → called defs.funs name ds ≡ Some (record { bindings = bindings; term = term }) → Means defs (inside env bindings) term d →
        Means defs env (At (FunHead name arguments s) kids) d

  pub data AllMean (defs : Defs) : Env → Plains → List Datum → Type 0 where
    none : {env : Env} → AllMean defs env Done []
    more : {env : Env} {t : Plain} {ts : Plains} {d : Datum} {ds : List Datum} →
        Means defs env t d → AllMean defs env ts ds → AllMean defs env (More t ts) (d ∷ ds)
