-- What an evaluation looks at: the places that it loads, and those whose validity it asks for.
use Rattle.std.specs.Prelude.{ℕ, zero, suc, ◌+◌, ◌==◌, List, [], ◌∷◌, ◌++◌, Option, Some, None, option_map, option_and_then, if◌then◌else◌}
use Rattle.floyd_int.specs.declared.kinds.IntOp.{IntOp}
use Rattle.floyd_int.specs.declared.kinds.IntOp.TheVariants.{Add, Sub, Mul, Div, Rem, And, Or, Xor, Shl, Shr, Eq, Ne, Lt, Le, Gt, Ge}
use Rattle.floyd_int.specs.declared.kinds.Value.{Value}
use Rattle.floyd_int.specs.declared.kinds.Value.TheVariants.{Vlong, Vptr}
use Rattle.floyd_memval.specs.declared.bytes.Chunk.{Chunk}
use Rattle.floyd_memval.specs.Chunks.{chunk_size, chunk_of}
use Rattle.floyd_ctypes.specs.declared.ctype.CType.{CType}
use Rattle.floyd_ctypes.specs.Structs.{Structs}
use Rattle.floyd_clight.specs.declared.syntax.UnaryOp.{UnaryOp}
use Rattle.floyd_clight.specs.declared.syntax.UnaryOp.TheVariants.{Not}
use Rattle.floyd_clight.specs.declared.syntax.Expr.{Expr, Const, Temp, Var, Deref', AddrOf', Unary', Binary', Cast', Field', SizeOf, end_of-Expr, more_of-Expr}
use Rattle.floyd_clight.specs.Types.{type_of}
use Rattle.floyd_clight_machine.specs.Types.{pointee}
use Rattle.floyd_clight_machine.specs.Evaluation.{Spot, Look, Temps, led, start_of, field_of, eval_by, place_by}

-- that many places from an offset on
abbrev pub spots : ℕ → ℕ → ℕ → List Spot
spots zero block offset = []
spots (suc n) block offset = record { block = block; offset = offset } ∷ spots n block (offset + 1)

abbrev pub chunk_spots : Option Chunk → Option Spot → List Spot
chunk_spots None s = []
chunk_spots (Some c) None = []
chunk_spots (Some c) (Some s) = spots (chunk_size c) s.block s.offset

-- a number or a pointer is loaded from its place, and nothing else is
abbrev pub loads_at : CType → Option Spot → List Spot
loads_at t s = chunk_spots (chunk_of t) s

abbrev mutual
  -- the places that are loaded for the value of an expression
  pub value_loads : Structs → Look → Temps → Expr → List Spot
  value_loads structs look temps (Const v t) = []
  value_loads structs look temps (Temp x t) = []
  value_loads structs look temps (Var binding x t) = loads_at t (option_map start_of (look.block_of binding x))
  value_loads structs look temps (Deref' p (more_of-Expr e end_of-Expr) t) =
      value_loads structs look temps e ++ loads_at t (option_and_then led (eval_by structs look temps e))
  value_loads structs look temps (AddrOf' p (more_of-Expr e end_of-Expr) t) = place_loads structs look temps e
  value_loads structs look temps (Unary' op p (more_of-Expr e end_of-Expr) t) = value_loads structs look temps e
  value_loads structs look temps (Binary' op p (more_of-Expr a end_of-Expr) q (more_of-Expr b end_of-Expr) t) =
      value_loads structs look temps a ++ value_loads structs look temps b
  value_loads structs look temps (Cast' p (more_of-Expr e end_of-Expr) t) = value_loads structs look temps e
  value_loads structs look temps (Field' p (more_of-Expr e end_of-Expr) x t) =
      place_loads structs look temps e ++ loads_at t (option_and_then (field_of structs (type_of e) x) (place_by structs look temps e))
  value_loads structs look temps (SizeOf of t) = []

  -- those that are loaded to find the place that it stands for
  pub place_loads : Structs → Look → Temps → Expr → List Spot
  place_loads structs look temps (Const v t) = []
  place_loads structs look temps (Temp x t) = []
  place_loads structs look temps (Var binding x t) = []
  place_loads structs look temps (Deref' p (more_of-Expr e end_of-Expr) t) = value_loads structs look temps e
  place_loads structs look temps (AddrOf' p (more_of-Expr e end_of-Expr) t) = []
  place_loads structs look temps (Unary' op p (more_of-Expr e end_of-Expr) t) = []
  place_loads structs look temps (Binary' op p (more_of-Expr a end_of-Expr) q (more_of-Expr b end_of-Expr) t) = []
  place_loads structs look temps (Cast' p (more_of-Expr e end_of-Expr) t) = []
  place_loads structs look temps (Field' p (more_of-Expr e end_of-Expr) x t) = place_loads structs look temps e
  place_loads structs look temps (SizeOf of t) = []

abbrev pub all_value_loads : Structs → Look → Temps → List Expr → List Spot
all_value_loads structs look temps [] = []
all_value_loads structs look temps (e ∷ es) = value_loads structs look temps e ++ all_value_loads structs look temps es

-- whether a place is weakly valid depends on it and on the one below it
abbrev pub weak_spots : ℕ → ℕ → List Spot
weak_spots block zero = record { block = block; offset = 0 } ∷ []
weak_spots block (suc offset) = record { block = block; offset = suc offset } ∷ record { block = block; offset = offset } ∷ []

abbrev pub equality_asks : Value → Value → List Spot
equality_asks (Vlong n) (Vptr c q) = weak_spots c q
equality_asks (Vptr b o) (Vlong n) = weak_spots b o
equality_asks (Vptr b o) (Vptr c q) =
    if b == c then weak_spots b o ++ weak_spots c q else record { block = b; offset = o } ∷ record { block = c; offset = q } ∷ []
equality_asks v w = []

abbrev pub order_asks : Value → Value → List Spot
order_asks (Vptr b o) (Vptr c q) = if b == c then weak_spots b o ++ weak_spots c q else []
order_asks v w = []

abbrev pub comparison_asks : IntOp → Value → Value → List Spot
comparison_asks Add v w = []
comparison_asks Sub v w = []
comparison_asks Mul v w = []
comparison_asks Div v w = []
comparison_asks Rem v w = []
comparison_asks And v w = []
comparison_asks Or v w = []
comparison_asks Xor v w = []
comparison_asks Shl v w = []
comparison_asks Shr v w = []
comparison_asks Eq v w = equality_asks v w
comparison_asks Ne v w = equality_asks v w
comparison_asks Lt v w = order_asks v w
comparison_asks Le v w = order_asks v w
comparison_asks Gt v w = order_asks v w
comparison_asks Ge v w = order_asks v w

-- of two addresses that are compared
abbrev pub binary_asks : IntOp → Option CType → Option CType → Option Value → Option Value → List Spot
binary_asks op (Some t) (Some u) (Some v) (Some w) = comparison_asks op v w
binary_asks op t u v w = []

abbrev pub unary_asks : UnaryOp → Option CType → Option Value → List Spot
unary_asks Not (Some t) (Some v) = equality_asks v (Vlong 0)
unary_asks op t v = []

abbrev mutual
  -- the places whose validity is asked for, for the value of an expression
  pub value_asks : Structs → Look → Temps → Expr → List Spot
  value_asks structs look temps (Const v t) = []
  value_asks structs look temps (Temp x t) = []
  value_asks structs look temps (Var binding x t) = []
  value_asks structs look temps (Deref' p (more_of-Expr e end_of-Expr) t) = value_asks structs look temps e
  value_asks structs look temps (AddrOf' p (more_of-Expr e end_of-Expr) t) = place_asks structs look temps e
  value_asks structs look temps (Unary' op p (more_of-Expr e end_of-Expr) t) =
      value_asks structs look temps e ++ unary_asks op (pointee (type_of e)) (eval_by structs look temps e)
  value_asks structs look temps (Binary' op p (more_of-Expr a end_of-Expr) q (more_of-Expr b end_of-Expr) t) =
      value_asks structs look temps a ++ value_asks structs look temps b
      ++ binary_asks op (pointee (type_of a)) (pointee (type_of b)) (eval_by structs look temps a) (eval_by structs look temps b)
  value_asks structs look temps (Cast' p (more_of-Expr e end_of-Expr) t) = value_asks structs look temps e
  value_asks structs look temps (Field' p (more_of-Expr e end_of-Expr) x t) = place_asks structs look temps e
  value_asks structs look temps (SizeOf of t) = []

  -- and to find the place that it stands for
  pub place_asks : Structs → Look → Temps → Expr → List Spot
  place_asks structs look temps (Const v t) = []
  place_asks structs look temps (Temp x t) = []
  place_asks structs look temps (Var binding x t) = []
  place_asks structs look temps (Deref' p (more_of-Expr e end_of-Expr) t) = value_asks structs look temps e
  place_asks structs look temps (AddrOf' p (more_of-Expr e end_of-Expr) t) = []
  place_asks structs look temps (Unary' op p (more_of-Expr e end_of-Expr) t) = []
  place_asks structs look temps (Binary' op p (more_of-Expr a end_of-Expr) q (more_of-Expr b end_of-Expr) t) = []
  place_asks structs look temps (Cast' p (more_of-Expr e end_of-Expr) t) = []
  place_asks structs look temps (Field' p (more_of-Expr e end_of-Expr) x t) = place_asks structs look temps e
  place_asks structs look temps (SizeOf of t) = []
