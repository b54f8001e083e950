-- Tables into which an item is put.
use Rattle.std.proofs.Common.{◌≡◌, ℕ, Bool, true, false, ◌||◌, cond, List, [], ◌∷◌, ◌++◌, Option, Some, None, refl, sym, ap, subst, ◌∙◌, is_some, bytes_eq}
use Rattle.std.specs.Map.{lookup}
use Rattle.std.specs.Option.{option_or}
use Rattle.std.proofs.lemmas.Slice.Eq.{bytes_eq-Decides}
use Rattle.floyd_specread_sources.specs.Tables.{put_new}
use Rattle.floyd_termread_scope.specs.Scopes.{Named, is_among}

pub or_of_or : {A : Type 0} (a b c : Option A) → option_or (option_or a b) c ≡ option_or a (option_or b c)
or_of_or (Some x) b c = refl
or_of_or None b c = refl

pub none_behind : {A : Type 0} (a : Option A) → option_or a None ≡ a
none_behind (Some x) = refl
none_behind None = refl

pub lookup_behind : {A : Type 0} (x : List ℕ) (table more : Named A) → lookup (bytes_eq x) (table ++ more) ≡ option_or (lookup (bytes_eq x) table) (lookup (bytes_eq x) more)
lookup_behind x [] more = refl
lookup_behind {A} x (p ∷ table) more = by (bytes_eq x p.0) (lookup_behind x table more)
  where
    by : (b : Bool) → lookup (bytes_eq x) (table ++ more) ≡ option_or (lookup (bytes_eq x) table) (lookup (bytes_eq x) more)
        → cond b (Some p.1) (lookup (bytes_eq x) (table ++ more)) ≡ option_or (cond b (Some p.1) (lookup (bytes_eq x) table)) (lookup (bytes_eq x) more)
    by true e = refl
    by false e = e

-- what is there is found, whatever is behind it
there : {A : Type 0} (o : Option A) (b : Bool) (a : A) → is_some o ≡ true → o ≡ option_or o (cond b (Some a) None)
there (Some x) b a e = refl
there None b a e = absurd cc

pub lookup_put : {A : Type 0} (x name : List ℕ) (a : A) (table : Named A) → lookup (bytes_eq x) (put_new name a table) ≡ option_or (lookup (bytes_eq x) table) (cond (bytes_eq x name) (Some a) None)
lookup_put {A} x name a table = by (is_among table name) refl
  where
    found : (b : Bool) → bytes_eq x name ≡ b → is_among table name ≡ true → lookup (bytes_eq x) table ≡ option_or (lookup (bytes_eq x) table) (cond b (Some a) None)
    found true same e = there (lookup (bytes_eq x) table) true a (subst (λ n. is_some (lookup (bytes_eq n) table) ≡ true) (sym ((bytes_eq-Decides x name).0 same)) e)
    found false same e = sym (none_behind (lookup (bytes_eq x) table))

    by : (b : Bool) → is_among table name ≡ b → lookup (bytes_eq x) (cond b table (table ++ (name, a) ∷ [])) ≡ option_or (lookup (bytes_eq x) table) (cond (bytes_eq x name) (Some a) None)
    by true e = found (bytes_eq x name) refl e
    by false e = lookup_behind x table ((name, a) ∷ [])

pub is_either : {A : Type 0} (a b : Option A) → is_some (option_or a b) ≡ is_some a || is_some b
is_either (Some x) b = refl
is_either None b = refl

pub some_if : {A : Type 0} (b : Bool) (a : A) → is_some (cond b (Some a) None) ≡ b
some_if true a = refl
some_if false a = refl

pub or_false : (b : Bool) → b || false ≡ b
or_false true = refl
or_false false = refl

pub or_assoc : (a b c : Bool) → (a || b) || c ≡ a || (b || c)
or_assoc true b c = refl
or_assoc false b c = refl

-- the names in a table behind one that was put in
pub among_put : (y name : List ℕ) (names : Named (Unit {0})) → is_among (put_new name tt names) y ≡ is_among names y || bytes_eq y name
among_put y name names =
    ap is_some (lookup_put y name tt names)
    ∙ is_either (lookup (bytes_eq y) names) (cond (bytes_eq y name) (Some tt) None)
    ∙ ap (λ b. is_among names y || b) (some_if (bytes_eq y name) tt)
