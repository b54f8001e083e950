-- The terms of initial contents, as a precondition of main writes them.
use Rattle.std.specs.Prelude.{ℕ, zero, suc, ◌+◌, ◌-◌, List, [], ◌∷◌, ◌++◌, length, map, take, drop, Option, Some, None, unwrap_or, ℤ, pos}
use Rattle.std.specs.Option.{option_map_or}
use Rattle.floyd_int.specs.declared.kinds.IntKind.{IntKind}
use Rattle.floyd_int.specs.declared.kinds.IntKind.TheVariants.{I64, U64}
use Rattle.floyd_int.specs.Kind.{value_of}
use Rattle.floyd_ctypes.specs.declared.ctype.CType.{CType, Int, Pointer', Array', Struct, more_of-CType, end_of-CType}
use Rattle.floyd_ctypes.specs.declared.field.Field.{Field}
use Rattle.floyd_ctypes.specs.Structs.{Structs, completes, fields_of}
use Rattle.floyd_clight.specs.declared.initial.Initial.{Initial, Absent, Null, Address, Element, Parts', Row_of-Initial, end_of-Initial, more_of-Initial}
use Rattle.floyd_clight.specs.declared.initial.Initial as i
use Rattle.floyd_clight_typing.specs.Contents.{part_at}
use Rattle.floyd_tree_sorts.specs.declared.heads.Head.TheVariants as h
use Rattle.floyd_tree_sorts.specs.declared.operators.Operator.{Operator}
use Rattle.floyd_tree_sorts.specs.declared.operators.Operator.TheVariants.{Append, Cons, Nullval, Pair, PtrAdd, Repeat, Vint, Vints, Vlong, Vlongs, Vundef}
use Rattle.floyd_tree_sorts.specs.declared.sorts.Sort.{Sort, Z, Val}
use Rattle.floyd_tree.specs.Plain.{Plain, At, Done}
use Rattle.floyd_tree_values.specs.Defaults.{ctype_sort}
use Rattle.floyd_fieldpath.specs.Nested.{literal}
use Rattle.floyd_fieldpath.specs.Projections.{one}
use Rattle.floyd_fieldpath.specs.Sums.{two}

abbrev pub undefined : Plain
undefined = At (h.Operator Vundef) Done

abbrev pub null : Plain
null = At (h.Operator Nullval) Done

abbrev pub address_of : List ℕ → Plain
address_of x = At (h.Gv x) Done

-- a number of a kind as a value, and a list of them
abbrev pub value_operator : IntKind → Operator
value_operator I64 = Vlong
value_operator U64 = Vlong
value_operator k = Vint

abbrev pub values_operator : IntKind → Operator
values_operator I64 = Vlongs
values_operator U64 = Vlongs
values_operator k = Vints

abbrev pub number_value : IntKind → ℤ → Plain
number_value k z = one (value_operator k) (literal z)

-- ---- lists

-- a literal list
abbrev pub list_from : Sort → List Plain → Plain
list_from s [] = At (h.Nil s) Done
list_from s (t ∷ ts) = two Cons t (list_from s ts)

-- the first 64, the next 64, and so on
abbrev pub pieces : ℕ → List Plain → List (List Plain)
pieces zero ts = []
pieces (suc n) [] = []
pieces (suc n) (t ∷ ts) = take 64 (t ∷ ts) ∷ pieces n (drop 64 (t ∷ ts))

abbrev pub joined : Plain → List Plain → Plain
joined first [] = first
joined first (t ∷ ts) = joined (two Append first t) ts

abbrev pub joined_pieces : Sort → List (List Plain) → Plain
joined_pieces s [] = list_from s []
joined_pieces s (p ∷ ps) = joined (list_from s p) (map (list_from s) ps)

-- what is missing behind them
abbrev pub filled : Plain → Plain → ℕ → Plain
filled written item zero = written
filled written item (suc n) = two Append written (two Repeat item (literal (pos (suc n))))

-- n elements, of which these are written and the others are `item`
abbrev pub elements : Sort → Plain → List Plain → ℕ → Plain
elements s item [] n = two Repeat item (literal (pos n))
elements s item (t ∷ ts) n = filled (joined_pieces s (pieces (length (t ∷ ts)) (t ∷ ts))) item (n - length (t ∷ ts))

-- the array of n elements of a type: of integers a list of their numbers
abbrev pub array_term : Structs → CType → Plain → List Plain → ℕ → Plain
array_term structs (Int k) item ts n = one (values_operator k) (elements Z (literal (pos 0)) ts n)
array_term structs t item ts n = elements (unwrap_or (ctype_sort structs t) Val) item ts n

-- ---- where nothing is written

-- pairs, nested to the right
abbrev pub paired : List Plain → Plain
paired [] = undefined
paired (t ∷ []) = t
paired (t ∷ u ∷ more) = two Pair t (paired (u ∷ more))

module _ (structs : Structs) (of : List ℕ → Plain) where
  abbrev pub zero_by : CType → Plain
  zero_by (Int k) = number_value k (pos 0)
  zero_by (Pointer' p t) = null
  zero_by (Array' p (more_of-CType t end_of-CType) n) = array_term structs t (zero_by t) [] n
  zero_by (Struct tag) = of tag
  zero_by t = undefined

  abbrev pub zeros_by : List Field → List Plain
  zeros_by fields = map (λ (f : Field). zero_by f.ty) fields

abbrev pub struct_zero : ℕ → Structs → List ℕ → Plain
struct_zero zero structs tag = undefined
struct_zero (suc depth) structs tag = option_map_or (λ fields. paired (zeros_by structs (struct_zero depth structs) fields)) (fields_of structs tag) undefined

-- 0, null, and so for each part
abbrev pub zero_term : Structs → CType → Plain
zero_term structs t = zero_by structs (struct_zero (completes structs) structs) t

abbrev pub zero_fields : Structs → List ℕ → List Plain
zero_fields structs tag = zeros_by structs (struct_zero (completes structs) structs) (unwrap_or (fields_of structs tag) [])

-- ---- what is written

abbrev pub number_in : Initial → ℤ
number_in (i.Int k bits) = value_of k bits
number_in contents = pos 0

-- an integer in an array is its number, and every other part has its own term
abbrev pub part_term : CType → Option CType → Initial → (CType → Plain) → Plain
part_term t None part own = undefined
part_term (Array' p t n) (Some (Int k)) part own = literal (number_in part)
part_term t (Some u) part own = own u

-- an array of these elements, or a struct of these fields; behind them nothing is written
abbrev pub whole_term : Structs → CType → List Plain → Plain
whole_term structs (Array' p (more_of-CType t end_of-CType) n) ts = array_term structs t (zero_term structs t) ts n
whole_term structs (Struct tag) ts = paired (ts ++ drop (length ts) (zero_fields structs tag))
whole_term structs t ts = undefined

module _ (structs : Structs) where
  abbrev mutual
    pub initial_term : CType → Initial → Plain
    initial_term t Absent = zero_term structs t
    initial_term t (i.Int k bits) = number_value k (value_of k bits)
    initial_term t Null = null
    initial_term t (Address x) = address_of x
    initial_term t (Element x offset) = two PtrAdd (address_of x) (literal (pos offset))
    initial_term t (Parts' shape rows) = whole_term structs t (part_terms t 0 rows)

    pub part_terms : {n : _} → CType → ℕ → Row_of-Initial n → List Plain
    part_terms t at end_of-Initial = []
    part_terms t at (more_of-Initial part rest) = part_term t (part_at structs t at) part (λ u. initial_term u part) ∷ part_terms t (at + 1) rest
