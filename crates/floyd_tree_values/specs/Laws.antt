-- What holds of the values of terms.
use Rattle.std.specs.Prelude.{◌≡◌, ℕ, ◌+◌, ◌-◌, ◌%◌, ◌^◌, min, max, ◌&&◌, if◌then◌else◌, ℤ, pos, int_le, int_lt, List, [], ◌∷◌, Some, is_some}
use Rattle.floyd_int.specs.Kind.{modulo}
use Rattle.floyd_int.specs.Operation.{floor_div}
use Rattle.floyd_ctypes.specs.declared.ctype.CType.{CType}
use Rattle.floyd_ctypes.specs.declared.field.Field.{Field}
use Rattle.floyd_ctypes.specs.Layout.{layout}
use Rattle.floyd_ctypes.specs.Structs.{Structs, fields_of}
use Rattle.floyd_tree_sorts.specs.declared.sorts.Sort.{Sort}
use Rattle.floyd_tree.specs.Plain.{Plain}
use Rattle.floyd_tree_values.specs.Data.{Datum, HasSort}
use Rattle.floyd_tree_values.specs.Numbers.{band, bor, bxor, bnot}
use Rattle.floyd_tree_values.specs.Lists.{sublist}
use Rattle.floyd_tree_values.specs.Defaults.{ctype_sort}
use Rattle.floyd_tree_values.specs.BuiltIns.{Env}
use Rattle.floyd_tree_values.specs.Means.{Defs, Means}
use Rattle.floyd_tree_values.specs.Rules.{Scope, Suits, Fits, CallsOf, DefsKeep}

-- A term has at most one value.
abbrev pub HasOneValue : Type 0
HasOneValue = (defs : Defs) (env : Env) (t : Plain) (a b : Datum) → Means defs env t a → Means defs env t b → a ≡ b

-- A term of a sort has a value of that sort, where the FUNs keep the rules, the term's variables are in the scope, its
-- calls are of these FUNs, its types have value sorts, and the environment gives each variable a datum of its sort.
abbrev pub HasAValue : Type 0
HasAValue = (defs : Defs) (scope : Scope) (env : Env) (s : Sort) (t : Plain) → DefsKeep defs → Suits scope env → Fits defs.structs scope (CallsOf defs.funs) s t → (d : Datum) × Means defs env t d × HasSort s d

-- A type of C has a value sort exactly where it has a size, if no complete struct is without fields.
abbrev pub HasSortWhereSized : Type 0
HasSortWhereSized = (structs : Structs) → ((tag : List ℕ) (fields : List Field) → fields_of structs tag ≡ Some fields → ¬ (fields ≡ [])) → (t : CType) → is_some (ctype_sort structs t) ≡ is_some (layout structs t)

-- the bit of z at the place k, in two's complement without end: z divided by 2 ^ k, rounded down, is odd
abbrev pub bit : ℤ → ℕ → ℕ
bit z k = modulo (floor_div z (2 ^ k)) 2

-- The operators on bits act at each place by itself.
abbrev pub ActOnBits : Type 0
ActOnBits =
    (x y : ℤ) (k : ℕ) → (bit (band x y) k ≡ min (bit x k) (bit y k)) × (bit (bor x y) k ≡ max (bit x k) (bit y k)) × (bit (bxor x y) k ≡ (bit x k + bit y k) % 2) × (bit (bnot x) k ≡ 1 - bit x k)

-- of items that stand from the place `at` on, those at the places p with lo <= p < hi
abbrev pub between : ℤ → ℤ → ℕ → List Datum → List Datum
between lo hi at [] = []
between lo hi at (d ∷ ds) =
    let more = between lo hi (at + 1) ds in
    if int_le lo (pos at) && int_lt (pos at) hi then d ∷ more else more

-- A sublist has the items at the places p with lo <= p < hi.
abbrev pub SublistIsBetween : Type 0
SublistIsBetween = (lo hi : ℤ) (ds : List Datum) → sublist lo hi ds ≡ between lo hi 0 ds
