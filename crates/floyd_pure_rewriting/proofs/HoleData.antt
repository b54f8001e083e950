-- Data for the name of holes, which nothing else has: the value of what stands in their places.
use Rattle.std.proofs.Common.{◌≡◌, ℕ, Bool, true, false, ◌||◌, cond, List, Some, None, refl, sym, ap, subst, ◌∙◌, true≢false}
use Rattle.std.specs.Prelude.{bytes_eq}
use Rattle.std.proofs.lemmas.Slice.Eq.{bytes_eq-Decides}
use Rattle.floyd_tree_sorts.specs.declared.heads.Head.TheVariants.{Variable}
use Rattle.floyd_tree_sorts.specs.declared.sorts.Sort.{Sort}
use Rattle.floyd_tree.specs.Plain.{Plain, At, Done, mentions}
use Rattle.floyd_tree_values.specs.BuiltIns.{Env}
use Rattle.floyd_tree_values.specs.Data.{Datum}
use Rattle.floyd_tree_values.specs.Means.{Defs, Means}
use Rattle.floyd_truth.specs.Laws.{Changed, IsAfter}
use Rattle.floyd_truth.proofs.OneTruth.{put}
use Rattle.floyd_rewriting.specs.Rewritten.{into_holes}

-- the hole is a variable of that name
pub own_name : (name v : List ℕ) (s : Sort) → mentions v (At (Variable name s) Done) ≡ true → v ≡ name
own_name name v s e = by (bytes_eq v name) refl e
  where
    by : (b : Bool) → bytes_eq v name ≡ b → (b || false) ≡ true → v ≡ name
    by true i e = (bytes_eq-Decides v name).0 i
    by false i e = absurd cc

-- what is free where the name is not is another name
pub other_than : (name v : List ℕ) (free : List ℕ → Bool) → free name ≡ false → free v ≡ true → bytes_eq v name ≡ false
other_than name v free a m = by (bytes_eq v name) refl
  where
    by : (b : Bool) → bytes_eq v name ≡ b → bytes_eq v name ≡ false
    by false i = i
    by true i = absurd (true≢false (sym (subst (λ n. free n ≡ true) ((bytes_eq-Decides v name).0 i) m) ∙ a))

-- data for other names stay
pub stays : (f : List ℕ → Datum) (name : List ℕ) (d : Datum) (v : List ℕ) → bytes_eq v name ≡ false → f v ≡ put f name d v
stays f name d v i = sym (ap (λ b. cond b d (f v)) i)

pub own_datum : (f : List ℕ → Datum) (name : List ℕ) (d : Datum) → put f name d name ≡ d
own_datum f name d = ap (λ b. cond b d (f name)) ((bytes_eq-Decides name name).1 refl)

pub into_changed : (defs : Defs) (env : Env) (name : List ℕ) (from to : Plain) (d : Datum) → Means defs env to d → Changed defs env (into_holes name from to) (put env.variables name d)
into_changed defs env name from to d m v = by (bytes_eq v name)
  where
    by : (b : Bool) → IsAfter defs env (cond b (Some to) (cond b (Some from) None)) (env.variables v) (cond b d (env.variables v))
    by true = m
    by false = refl
