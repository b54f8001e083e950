-- Scalar types: the integers of a kind, and pointers, to whatever they point.
use Rattle.std.specs.Prelude.{ℕ, Bool, Option, None, Some}
use Rattle.floyd_int.specs.declared.kinds.IntKind.{IntKind}
use Rattle.floyd_int.specs.declared.kinds.Value.{Value}
use Rattle.floyd_ctypes.specs.declared.ctype.CType.{CType, Int, Pointer'}
use Rattle.floyd_ctypes.specs.Has.{has_kind, has_pointer}
use Rattle.floyd_ctypes.specs.Layout.{kind_size}
use Rattle.floyd_memval.specs.declared.bytes.Chunk.{Chunk}
use Rattle.floyd_memval.specs.declared.bytes.Chunk.TheVariants.{Ptr}
use Rattle.floyd_memval.specs.Chunks.{kind_chunk}
use Rattle.floyd_tree_sorts.specs.declared.shape.Shape.{Shape}
use Rattle.floyd_tree_sorts.specs.declared.shape.Shape as s

pub data Scalar : Type 0 where
  Integer : (kind : IntKind) → Scalar
  Address : Scalar

-- how it is laid down
abbrev pub chunk : Scalar → Chunk
chunk (Integer k) = kind_chunk k
chunk Address = Ptr

-- its size, and its alignment too
abbrev pub scalar_size : Scalar → ℕ
scalar_size (Integer k) = kind_size k
scalar_size Address = 8

-- whether an object of the type may hold the value
abbrev pub holds : Scalar → Value → Bool
holds (Integer k) v = has_kind k v
holds Address v = has_pointer v

-- the scalar that a type is, if it is one
abbrev pub scalar_of : CType → Option Scalar
scalar_of (Int k) = Some (Integer k)
scalar_of (Pointer' p to) = Some Address
scalar_of t = None

abbrev pub shape_scalar : Shape → Option Scalar
shape_scalar (s.Int k) = Some (Integer k)
shape_scalar (s.Pointer' p to) = Some Address
shape_scalar t = None
