-- Types whose array sizes are numbers, as types of C, and the values of scalar types.
use Rattle.std.specs.Prelude.{List, [], ◌∷◌, Bool, false, Option, Some, None, option_map, option_and_then, ℤ, pos, negsuc}
use Rattle.floyd_int.specs.declared.kinds.Value.{Value}
use Rattle.floyd_ctypes.specs.declared.ctype.CType.{CType, more_of-CType, end_of-CType}
use Rattle.floyd_ctypes.specs.declared.ctype.CType as c
use Rattle.floyd_ctypes.specs.Has.{has_kind, has_pointer}
use Rattle.floyd_tree_sorts.specs.declared.shape.Shape.{Shape, Void, Int, Pointer', Array', Struct, Function', Row_of-Shape, more_of-Shape, end_of-Shape}

-- whether v is a value of the scalar type of that shape: of a pointer's, a pointer or null
abbrev pub has_shape : Shape → Value → Bool
has_shape (Int kind) v = has_kind kind v
has_shape (Pointer' p target) v = has_pointer v
has_shape shape v = false

-- A type of C, or types, and the sizes that are left behind them.
abbrev pub ReadType : Type 0
ReadType = CType × List ℤ

abbrev pub ReadTypes : Type 0
ReadTypes = List CType × List ℤ

abbrev pub pointer_to : ReadType → ReadType
pointer_to r = (c.Pointer' tt (more_of-CType r.0 end_of-CType), r.1)

-- no array has a negative size
abbrev pub array_of : ℤ → ReadType → Option ReadType
array_of (pos n) r = Some (c.Array' tt (more_of-CType r.0 end_of-CType) n, r.1)
array_of (negsuc n) r = None

abbrev pub function_of : List CType → ReadType → ReadType
function_of parameters r = (c.Function parameters r.0, r.1)

abbrev pub first_size : List ℤ → Option (ℤ × List ℤ)
first_size [] = None
first_size (n ∷ ns) = Some (n, ns)

-- the type of a shape whose arrays take their sizes from the front of the numbers: the outermost first, those of the
-- parameters of a function before those of its result
abbrev mutual
  pub read_type : Shape → List ℤ → Option ReadType
  read_type Void ns = Some (c.Void, ns)
  read_type (Int kind) ns = Some (c.Int kind, ns)
  read_type (Pointer' p (more_of-Shape target end_of-Shape)) ns = option_map pointer_to (read_type target ns)
  read_type (Array' p (more_of-Shape item end_of-Shape)) ns = option_and_then (λ r. option_and_then (array_of r.0) (read_type item r.1)) (first_size ns)
  read_type (Struct tag) ns = Some (c.Struct tag, ns)
  read_type (Function' p parameters q (more_of-Shape result end_of-Shape)) ns =
      option_and_then (λ r. option_map (function_of r.0) (read_type result r.1)) (read_types parameters ns)

  pub read_types : {m : _} → Row_of-Shape m → List ℤ → Option ReadTypes
  read_types end_of-Shape ns = Some ([], ns)
  read_types (more_of-Shape shape rest) ns =
      option_and_then (λ r. option_map (λ more. (r.0 ∷ more.0, more.1)) (read_types rest r.1)) (read_type shape ns)

abbrev pub wholly : ReadType → Option CType
wholly (t, []) = Some t
wholly (t, n ∷ ns) = None

-- the type of a shape whose arrays have these sizes; there is none where a size is negative, or they are not as many
abbrev pub typed : Shape → List ℤ → Option CType
typed shape ns = option_and_then wholly (read_type shape ns)
