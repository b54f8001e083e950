-- What tables say of names is what the lists of entries say.
use Rattle.std.proofs.Common.{◌≡◌, ℕ, Bool, true, false, ◌&&◌, ◌||◌, cond, List, [], ◌∷◌, ◌++◌, map, filter, Option, Some, None, find, refl, sym, ap, ap₂, subst, ◌∙◌, is_some, bytes_eq}
use Rattle.std.specs.List.{flat_map}
use Rattle.std.specs.Map.{lookup}
use Rattle.std.specs.Option.{option_or}
use Rattle.std.specs.Prelude.{option_map}
use Rattle.std.proofs.lemmas.Slice.Eq.{bytes_eq-Decides}
use Rattle.std.proofs.lemmas.List.{append_assoc}
use Rattle.floyd_text.specs.declared.refusal.Refusal.{Refusal}
use Rattle.floyd_ctypes.specs.declared.ctype.CType.{CType}
use Rattle.floyd_clight.specs.declared.unit.ClightUnit.{ClightUnit}
use Rattle.floyd_predicates.specs.WellFormed.{sooner}
use Rattle.floyd_specread_sources.specs.Tables.{put_new}
use Rattle.floyd_specread_trees.specs.declared.declarations.Declaration.{Declaration}
use Rattle.floyd_specread_trees.specs.declared.modules.ModuleSpec.{ModuleSpec}
use Rattle.floyd_termread_scope.specs.Scopes.{Named, is_among}
use Rattle.floyd_link_names.specs.declared.entries.Entry.{Entry}
use Rattle.floyd_link_names.specs.Duplicates.{again, declared_at, duplicate, duplicate_at, extern_in, first_from, is_extern, is_extern_of, of_sources, otherwise}
use Rattle.floyd_link_names.specs.DuplicateClauses.{Names, again_by, all_names, differs_by, externs_by, is_extern_by, is_in, modules_by, otherwise_by, source_by, sources_by}
use Rattle.floyd_link_names.specs.Names.{declared_in, defined_in, differs, has, is_named, is_other, type_in}
use Rattle.floyd_link_names.specs.Tables.{with_names, with_types}

-- ---- refusals

-- refusals in two parts
pub in_parts : (first : Option Refusal) (rs qs : List Refusal) → first_from first (rs ++ qs) ≡ first_from (first_from first rs) qs
in_parts first [] qs = refl
in_parts first (r ∷ rs) qs = in_parts (sooner first (Some r)) rs qs

-- tests that say the same leave the same
pub filter_alike : {A : Type 0} (p q : A → Bool) → ((a : A) → p a ≡ q a) → (xs : List A) → filter p xs ≡ filter q xs
filter_alike p q e [] = refl
filter_alike {A} p q e (a ∷ xs) = ap (λ b. cond b (a ∷ filter p xs) (filter p xs)) (e a) ∙ ap (λ (ys : List A). cond (q a) (a ∷ ys) ys) (filter_alike p q e xs)

-- ---- what is found

pub or_of_or : {A : Type 0} (a b c : Option A) → option_or (option_or a b) c ≡ option_or a (option_or b c)
or_of_or (Some x) b c = refl
or_of_or None b c = refl

pub none_behind : {A : Type 0} (a : Option A) → option_or a None ≡ a
none_behind (Some x) = refl
none_behind None = refl

lookup_behind : {A : Type 0} (x : List ℕ) (table more : Named A) → lookup (bytes_eq x) (table ++ more) ≡ option_or (lookup (bytes_eq x) table) (lookup (bytes_eq x) more)
lookup_behind x [] more = refl
lookup_behind {A} x (p ∷ table) more = by (bytes_eq x p.0) (lookup_behind x table more)
  where
    by : (b : Bool) → lookup (bytes_eq x) (table ++ more) ≡ option_or (lookup (bytes_eq x) table) (lookup (bytes_eq x) more)
        → cond b (Some p.1) (lookup (bytes_eq x) (table ++ more)) ≡ option_or (cond b (Some p.1) (lookup (bytes_eq x) table)) (lookup (bytes_eq x) more)
    by true e = refl
    by false e = e

-- what is there is found, whatever is behind it
there : {A : Type 0} (o : Option A) (b : Bool) (a : A) → is_some o ≡ true → o ≡ option_or o (cond b (Some a) None)
there (Some x) b a e = refl
there None b a e = absurd cc

pub lookup_put : {A : Type 0} (x name : List ℕ) (a : A) (table : Named A) → lookup (bytes_eq x) (put_new name a table) ≡ option_or (lookup (bytes_eq x) table) (cond (bytes_eq x name) (Some a) None)
lookup_put {A} x name a table = by (is_among table name) refl
  where
    found : (b : Bool) → bytes_eq x name ≡ b → is_among table name ≡ true → lookup (bytes_eq x) table ≡ option_or (lookup (bytes_eq x) table) (cond b (Some a) None)
    found true same e = there (lookup (bytes_eq x) table) true a (subst (λ n. is_some (lookup (bytes_eq n) table) ≡ true) (sym ((bytes_eq-Decides x name).0 same)) e)
    found false same e = sym (none_behind (lookup (bytes_eq x) table))

    by : (b : Bool) → is_among table name ≡ b → lookup (bytes_eq x) (cond b table (table ++ (name, a) ∷ [])) ≡ option_or (lookup (bytes_eq x) table) (cond (bytes_eq x name) (Some a) None)
    by true e = found (bytes_eq x name) refl e
    by false e = lookup_behind x table ((name, a) ∷ [])

-- ---- types

first_type : (x : List ℕ) (e : Entry) (es : List Entry) → type_in (e ∷ es) x ≡ option_or (cond (bytes_eq x e.name) (Some e.ctype) None) (type_in es x)
first_type x e es = by (bytes_eq x e.name)
  where
    by : (b : Bool) → option_map (λ (d : Entry). d.ctype) (cond b (Some e) (find (is_named x) es)) ≡ option_or (cond b (Some e.ctype) None) (type_in es x)
    by true = refl
    by false = refl

types_found : (x : List ℕ) (es : List Entry) (table : Named CType) → lookup (bytes_eq x) (with_types es table) ≡ option_or (lookup (bytes_eq x) table) (type_in es x)
types_found x [] table = sym (none_behind (lookup (bytes_eq x) table))
types_found x (e ∷ es) table =
    types_found x es (put_new e.name e.ctype table)
    ∙ ap (λ (o : Option CType). option_or o (type_in es x)) (lookup_put x e.name e.ctype table)
    ∙ or_of_or (lookup (bytes_eq x) table) (cond (bytes_eq x e.name) (Some e.ctype) None) (type_in es x)
    ∙ ap (option_or (lookup (bytes_eq x) table)) (sym (first_type x e es))

differs_alike : (es : List Entry) (d : Entry) → differs_by (with_types es []) d ≡ differs es d
differs_alike es d = ap (is_other d.ctype) (types_found d.name es [])

-- ---- names

is_either : {A : Type 0} (a b : Option A) → is_some (option_or a b) ≡ is_some a || is_some b
is_either (Some x) b = refl
is_either None b = refl

some_if : {A : Type 0} (b : Bool) (a : A) → is_some (cond b (Some a) None) ≡ b
some_if true a = refl
some_if false a = refl

or_false : (b : Bool) → b || false ≡ b
or_false true = refl
or_false false = refl

or_assoc : (a b c : Bool) → (a || b) || c ≡ a || (b || c)
or_assoc true b c = refl
or_assoc false b c = refl

names_found : (x : List ℕ) (es : List Entry) (table : Names) → is_in (with_names es table) x ≡ is_in table x || has es x
names_found x [] table = sym (or_false (is_in table x))
names_found x (e ∷ es) table =
    names_found x es (put_new e.name tt table)
    ∙ ap (λ b. b || has es x) (ap is_some (lookup_put x e.name tt table) ∙ is_either (lookup (bytes_eq x) table) (cond (bytes_eq x e.name) (Some tt) None) ∙ ap (λ b. is_in table x || b) (some_if (bytes_eq x e.name) tt))
    ∙ or_assoc (is_in table x) (bytes_eq x e.name) (has es x)

pub names_alike : (es : List Entry) (x : List ℕ) → is_in (with_names es []) x ≡ has es x
names_alike es x = names_found x es []

again_alike : (defined es : List Entry) → again_by (with_names defined []) es ≡ again defined es
again_alike defined es = ap (map duplicate_at) (filter_alike (λ (e : Entry). is_in (with_names defined []) e.name) (λ (e : Entry). has defined e.name) (λ e. names_alike defined e.name) es)

otherwise_alike : (declared es : List Entry) → otherwise_by (with_types declared []) es ≡ otherwise declared es
otherwise_alike declared es = ap (map duplicate_at) (filter_alike (differs_by (with_types declared [])) (differs declared) (differs_alike declared) es)

-- ---- several sources

types_in_parts : (es fs : List Entry) (table : Named CType) → with_types (es ++ fs) table ≡ with_types fs (with_types es table)
types_in_parts [] fs table = refl
types_in_parts (e ∷ es) fs table = types_in_parts es fs (put_new e.name e.ctype table)

names_in_parts : (es fs : List Entry) (table : Names) → with_names (es ++ fs) table ≡ with_names fs (with_names es table)
names_in_parts [] fs table = refl
names_in_parts (e ∷ es) fs table = names_in_parts es fs (put_new e.name tt table)

source_alike : (first : Option Refusal) (declared defined : List Entry) (u : ClightUnit)
    → source_by first (with_types declared []) (with_names defined []) u ≡ first_from first (again defined (defined_in u) ++ otherwise declared (declared_in u))
source_alike first declared defined u =
    ap₂ (λ (rs qs : List Refusal). first_from (first_from first rs) qs) (again_alike defined (defined_in u)) (otherwise_alike declared (declared_in u))
    ∙ sym (in_parts first (again defined (defined_in u)) (otherwise declared (declared_in u)))

sources_alike : (first : Option Refusal) (declared defined : List Entry) (us : List ClightUnit)
    → sources_by first (with_types declared []) (with_names defined []) us ≡ first_from first (of_sources declared defined us)
sources_alike first declared defined [] = refl
sources_alike first declared defined (u ∷ us) =
    let here : List Refusal = again defined (defined_in u) ++ otherwise declared (declared_in u) in
    ap (λ (f : Option Refusal). sources_by f (with_types (declared_in u) (with_types declared [])) (with_names (defined_in u) (with_names defined [])) us) (source_alike first declared defined u)
    ∙ ap₂ (λ (t : Named CType) (n : Names). sources_by (first_from first here) t n us) (sym (types_in_parts declared (declared_in u) [])) (sym (names_in_parts defined (defined_in u) []))
    ∙ sources_alike (first_from first here) (declared ++ declared_in u) (defined ++ defined_in u) us
    ∙ sym (in_parts first here (of_sources (declared ++ declared_in u) (defined ++ defined_in u) us))

pub all_alike : (defined : List Entry) (us : List ClightUnit) → all_names (with_names defined []) us ≡ with_names (defined ++ flat_map defined_in us) []
all_alike defined [] = ap (λ (es : List Entry). with_names es []) (sym (append_nil defined))
  where
    append_nil : (es : List Entry) → es ++ [] ≡ es
    append_nil [] = refl
    append_nil (e ∷ es) = ap (λ (fs : List Entry). e ∷ fs) (append_nil es)
all_alike defined (u ∷ us) =
    ap (λ (n : Names). all_names n us) (sym (names_in_parts defined (defined_in u) []))
    ∙ all_alike (defined ++ defined_in u) us
    ∙ ap (λ (es : List Entry). with_names es []) (append_assoc defined (defined_in u) (flat_map defined_in us))

-- ---- modules

externs_alike : (defined : List Entry) (ds : List Declaration) → externs_by (with_names defined []) ds ≡ map declared_at (filter (is_extern_of defined) ds)
externs_alike defined ds =
    ap (map declared_at) (filter_alike (is_extern_by (with_names defined [])) (is_extern_of defined) (λ (d : Declaration). ap (λ b. is_extern d.kind && b) (names_alike defined d.name)) ds)

modules_alike : (first : Option Refusal) (defined : List Entry) (ms : List ModuleSpec) → modules_by first (with_names defined []) ms ≡ first_from first (flat_map (extern_in defined) ms)
modules_alike first defined [] = refl
modules_alike first defined (m ∷ ms) =
    ap (λ (rs : List Refusal). modules_by (first_from first rs) (with_names defined []) ms) (externs_alike defined m.declarations)
    ∙ modules_alike (first_from first (extern_in defined m)) defined ms
    ∙ sym (in_parts first (extern_in defined m) (flat_map (extern_in defined) ms))

pub found_with_tables : (units : List ClightUnit) (modules : List ModuleSpec)
    → modules_by (sources_by None [] [] units) (all_names [] units) modules ≡ duplicate units modules
found_with_tables units modules =
    ap₂ (λ (f : Option Refusal) (n : Names). modules_by f n modules) (sources_alike None [] [] units) (all_alike [] units)
    ∙ modules_alike (first_from None (of_sources [] [] units)) (flat_map defined_in units) modules
