-- Expressions that stand for objects: their values and what is loaded for them, by their places.
use Rattle.std.proofs.Common.{◌≡◌, ℕ, true, ◌++◌, Option, Some, None, Ok, refl}
use Rattle.std.specs.Prelude.{option_and_then, option_map}
use denote.Hole.Carrier.{hidden}
use Rattle.floyd_ctypes.specs.declared.ctype.CType.{CType, Array, Void, Int, Pointer', Array', Struct, Function', more_of-CType, end_of-CType}
use Rattle.floyd_ctypes.specs.declared.ctype.CType.TheBlock.{shape-the_row-CType-0, hidden-the_row-CType-0}
use Rattle.floyd_ctypes.specs.Structs.{Structs}
use Rattle.floyd_memval.specs.Chunks.{chunk_of}
use Rattle.floyd_clight.specs.declared.syntax.Expr.{Expr, Const, Temp, Var, Deref', AddrOf', Unary', Binary', Cast', Field', SizeOf, end_of-Expr, more_of-Expr}
use Rattle.floyd_clight.specs.Types.{type_of}
use Rattle.floyd_clight_machine.specs.Evaluation.{Look, Spot, Temps, address, eval_by, place_by, start_of, value_at}
use Rattle.floyd_clight_machine.specs.Footprint.{loads_at, place_loads, value_loads}
use Rattle.floyd_clight_typing.specs.Expressions.{is_place}
use Rattle.floyd_tree.specs.Plain.{Plain}
use Rattle.floyd_assert_trees.specs.declared.assertion.Assertion.{Assertion}
use Rattle.floyd_symexpr_rows.specs.declared.needs.Needs.{Needs}
use Rattle.floyd_symexpr_paths.specs.declared.lvalue.Lvalue.{Lvalue}
use Rattle.floyd_symexpr_paths.specs.Places.{address_row, object_value}
use Rattle.floyd_symexpr.specs.Expressions.{read}

pub array_is : (t : CType) (n : ℕ) → Array t n ≡ Array' tt (more_of-CType t end_of-CType) n
unfolding shape-the_row-CType-0 hidden-the_row-CType-0 hidden
array_is t n = refl

-- the value at the start of a block
at_start : (look : Look) (t : CType) (o : Option ℕ) → option_and_then (λ b. value_at look t (start_of b)) o ≡ option_and_then (value_at look t) (option_map start_of o)
at_start look t None = refl
at_start look t (Some b) = refl

module _ (structs : Structs) (look : Look) (temps : Temps) where
  -- the value of an object is the one at its place
  pub value_of_object : (e : Expr) → is_place e ≡ true → eval_by structs look temps e ≡ option_and_then (value_at look (type_of e)) (place_by structs look temps e)
  value_of_object (Var binding x t) h = at_start look t (look.block_of binding x)
  value_of_object (Deref' p (more_of-Expr e end_of-Expr) t) h = refl
  value_of_object (Field' p (more_of-Expr e end_of-Expr) x t) h = refl
  value_of_object (Const v t) h = absurd cc
  value_of_object (Temp x t) h = absurd cc
  value_of_object (AddrOf' p e t) h = absurd cc
  value_of_object (Unary' op p e t) h = absurd cc
  value_of_object (Binary' op p a q b t) h = absurd cc
  value_of_object (Cast' p e t) h = absurd cc
  value_of_object (SizeOf of t) h = absurd cc

  -- what is loaded for its value is what is loaded for its place, and what stands there
  pub loads_of_object : (e : Expr) → is_place e ≡ true → value_loads structs look temps e ≡ place_loads structs look temps e ++ loads_at (type_of e) (place_by structs look temps e)
  loads_of_object (Var binding x t) h = refl
  loads_of_object (Deref' p (more_of-Expr e end_of-Expr) t) h = refl
  loads_of_object (Field' p (more_of-Expr e end_of-Expr) x t) h = refl
  loads_of_object (Const v t) h = absurd cc
  loads_of_object (Temp x t) h = absurd cc
  loads_of_object (AddrOf' p e t) h = absurd cc
  loads_of_object (Unary' op p e t) h = absurd cc
  loads_of_object (Binary' op p a q b t) h = absurd cc
  loads_of_object (Cast' p e t) h = absurd cc
  loads_of_object (SizeOf of t) h = absurd cc

-- what stands for an object is one of these expressions
pub is_object : (source : Assertion) (structs : Structs) (e : Expr) (l : Lvalue) (needs more : Needs) → (read source structs e).place needs ≡ Ok (l, more) → is_place e ≡ true
is_object source structs (Var binding x t) l needs more f = refl
is_object source structs (Deref' p (more_of-Expr e end_of-Expr) t) l needs more f = refl
is_object source structs (Field' p (more_of-Expr e end_of-Expr) x t) l needs more f = refl
is_object source structs (Const v t) l needs more f = absurd cc
is_object source structs (Temp x t) l needs more f = absurd cc
is_object source structs (AddrOf' p (more_of-Expr e end_of-Expr) t) l needs more f = absurd cc
is_object source structs (Unary' op p (more_of-Expr e end_of-Expr) t) l needs more f = absurd cc
is_object source structs (Binary' op p (more_of-Expr a end_of-Expr) q (more_of-Expr b end_of-Expr) t) l needs more f = absurd cc
is_object source structs (Cast' p (more_of-Expr e end_of-Expr) t) l needs more f = absurd cc
is_object source structs (SizeOf of t) l needs more f = absurd cc

-- an object with a term gives its address, and is not loaded
pub record GivesAddress (structs : Structs) (look : Look) (t : CType) (l : Lvalue) (needs more : Needs) (u : Plain) : Type 0 where
  pub row : address_row structs l needs ≡ Ok (u, more)
  pub value : (s : Spot) → value_at look t s ≡ Some (address s)
  pub chunk : chunk_of t ≡ None

pub gives_address : (structs : Structs) (look : Look) (t : CType) (l : Lvalue) (needs more : Needs) (u : Plain) → object_value structs t l needs ≡ Ok (u, more) → GivesAddress structs look t l needs more u
gives_address structs look (Array' p t n) l needs more u e = record { row = e; value = λ s. refl; chunk = refl }
gives_address structs look (Struct tag) l needs more u e = record { row = e; value = λ s. refl; chunk = refl }
gives_address structs look (Function' shape ps p r) l needs more u e = record { row = e; value = λ s. refl; chunk = refl }
gives_address structs look Void l needs more u e = absurd cc
gives_address structs look (Int k) l needs more u e = absurd cc
gives_address structs look (Pointer' p t) l needs more u e = absurd cc
