-- What evaluation and the step ask of types.
use Rattle.std.specs.Prelude.{ℕ, ◌==◌, ◌&&◌, Bool, true, false, List, [], ◌∷◌, Option, Some, None, bytes_eq}
use Rattle.floyd_int.specs.declared.kinds.IntKind.{IntKind}
use Rattle.floyd_int.specs.declared.kinds.IntKind.TheVariants.{I8, U8, I16, U16, I32, U32, I64, U64}
use Rattle.floyd_ctypes.specs.declared.ctype.CType.{CType, Void, Int, Pointer', Array', Struct, Function', Row_of-CType, end_of-CType, more_of-CType}

-- kinds by numbers of their own
abbrev pub kind_number : IntKind → ℕ
kind_number I8 = 0
kind_number U8 = 1
kind_number I16 = 2
kind_number U16 = 3
kind_number I32 = 4
kind_number U32 = 5
kind_number I64 = 6
kind_number U64 = 7

abbrev mutual
  -- whether two types are one, a struct being known by its tag
  pub same_type : CType → CType → Bool
  same_type Void Void = true
  same_type (Int j) (Int k) = kind_number j == kind_number k
  same_type (Pointer' p t) (Pointer' q u) = same_types t u
  same_type (Array' p t m) (Array' q u n) = m == n && same_types t u
  same_type (Struct tag) (Struct other) = bytes_eq tag other
  same_type (Function' shape ps p t) (Function' other qs q u) = same_types t u && same_types ps qs
  same_type t u = false

  pub same_types : {m n : _} → Row_of-CType m → Row_of-CType n → Bool
  same_types end_of-CType end_of-CType = true
  same_types (more_of-CType t ts) (more_of-CType u us) = same_type t u && same_types ts us
  same_types ts us = false

-- what an operand of the type leads to, where it is an address: a pointer's, an array's or a function's
abbrev pub pointee : CType → Option CType
pointee Void = None
pointee (Int k) = None
pointee (Pointer' p (more_of-CType t end_of-CType)) = Some t
pointee (Array' p (more_of-CType t end_of-CType) n) = Some t
pointee (Struct tag) = None
pointee (Function' shape ps p r) = Some (Function' shape ps p r)

abbrev pub is_pointer : CType → Bool
is_pointer (Pointer' p t) = true
is_pointer t = false

-- the types of a function's parameters and of its result
pub record Signature : Type 0 where
  pub params : List CType
  pub result : CType

abbrev pub types_in : {n : _} → Row_of-CType n → List CType
types_in end_of-CType = []
types_in (more_of-CType t ts) = t ∷ types_in ts

abbrev pub signature_of : CType → Option Signature
signature_of (Function' shape ps p (more_of-CType r end_of-CType)) = Some (record { params = types_in ps; result = r })
signature_of t = None

-- the type of what a callee's type leads to
abbrev pub called_type : CType → Option Signature
called_type (Pointer' p (more_of-CType t end_of-CType)) = signature_of t
called_type t = signature_of t

abbrev pub all_same : List CType → List CType → Bool
all_same [] [] = true
all_same [] (u ∷ us) = false
all_same (t ∷ ts) [] = false
all_same (t ∷ ts) (u ∷ us) = same_type t u && all_same ts us

abbrev pub same_signature : Signature → Signature → Bool
same_signature a b = same_type a.result b.result && all_same a.params b.params
