-- What the terms of operators and casts mean, on numbers and pointers: where the formulas that a row needs are true, the
-- terms that must be valid are, and the parts of memory hold of what an evaluation sees, the machine's operator gives a value
-- of the values of the operands, and the term has that value.
use Rattle.std.specs.Prelude.{◌≡◌, ℕ, true, List, [], ◌∷◌, ◌++◌, Some, Ok, IfSome, IsSome}
use Rattle.floyd_int.specs.declared.kinds.IntOp.{IntOp}
use Rattle.floyd_int.specs.declared.kinds.Value.{Value}
use Rattle.floyd_int.specs.declared.kinds.Value.TheVariants.{Vundef, Vint, Vlong, Vptr}
use Rattle.floyd_ctypes.specs.declared.ctype.CType.{CType, Int}
use Rattle.floyd_ctypes.specs.Layout.{size}
use Rattle.floyd_ctypes.specs.Structs.{Structs}
use Rattle.floyd_clight.specs.declared.syntax.UnaryOp.{UnaryOp}
use Rattle.floyd_clight_machine.specs.Evaluation.{Look, binary_value, cast_value, unary_value}
use Rattle.floyd_clight_machine.specs.Types.{pointee}
use Rattle.floyd_clight_heap.specs.Heaplet.{Cell, Heaplet}
use Rattle.floyd_tree.specs.Formulas.{PlainFormula}
use Rattle.floyd_tree.specs.Plain.{Plain}
use Rattle.floyd_tree_values.specs.BuiltIns.{Env}
use Rattle.floyd_tree_values.specs.Data.{IsValue, Val}
use Rattle.floyd_tree_values.specs.Means.{Defs, Means}
use Rattle.floyd_truth.specs.Truth.{AllTrue}
use Rattle.floyd_assert_trees.specs.declared.sep.Sep.{Sep}
use Rattle.floyd_assert_meaning.specs.Parts.{PartsHold}
use Rattle.floyd_assert_meaning.specs.Settings.{Setting}
use Rattle.floyd_symexpr_rows.specs.declared.needs.Needs.{Needs}
use Rattle.floyd_symexpr_rows.specs.declared.needs.Operand.{Operand}
use Rattle.floyd_symexpr_pointers.specs.Operators.{binary, cast, operand, unary}
use Rattle.floyd_symexpr_laws.specs.Laws.{Agrees}

-- null, or a valid place
abbrev pub IsValidIn : Look → Value → Type 0
IsValidIn look Vundef = ⊥
IsValidIn look (Vint bits) = ⊥
IsValidIn look (Vlong bits) = bits ≡ 0
IsValidIn look (Vptr block offset) = look.is_valid block offset ≡ true

-- each of the terms has a value that is null or a valid place
abbrev pub AllValid : Defs → Env → Look → List Plain → Type 0
AllValid defs env look [] = Unit {0}
AllValid defs env look (t ∷ ts) = ((v : Value) × Means defs env t (Val v) × IsValidIn look v) × AllValid defs env look ts

-- each place of a heaplet is valid
pub record Sees (look : Look) (h : Heaplet) : Type 0 where
  pub valid : (block offset : ℕ) (c : Cell) → h block offset ≡ Some c → look.is_valid block offset ≡ true

-- what the row needs is so
pub record IsMet (S : Setting) (env : Env) (look : Look) (needs : Needs) : Type 0 where
  pub sides : AllTrue S.defs S.has_spec env needs.sides
  pub valid : AllValid S.defs env look needs.valid

-- a number may be added to a pointer to what has a size
abbrev pub LeadsToSized : Structs → CType → Type 0
LeadsToSized structs t = IfSome (pointee t) (λ e. IsSome (size structs e))

abbrev pub IsMovable : Structs → CType → CType → Type 0
IsMovable structs (Int j) u = LeadsToSized structs u
IsMovable structs t (Int k) = LeadsToSized structs t
IsMovable structs t u = Unit {0}

-- an operator on two operands of these types
abbrev pub BinaryAgrees : Type 0
BinaryAgrees =
    (S : Setting) (env : Env) (look : Look) (h : Heaplet) (parts : List Sep) (op : IntOp) (T U : CType) (t u r : Plain) (v w : Value) (a b : Operand) (needs more : Needs) →
    Sees look h → PartsHold S env parts h → IsMovable S.defs.structs T U → IsValue v → IsValue w →
    Means S.defs env t (Val v) → Means S.defs env u (Val w) → operand T t ≡ Ok a → operand U u ≡ Ok b →
    binary S.defs.structs parts op a b needs ≡ Ok (r, more) → IsMet S env look more →
    Agrees S.defs env r (binary_value S.defs.structs look op T U v w)

-- an operator on one operand
abbrev pub UnaryAgrees : Type 0
UnaryAgrees =
    (S : Setting) (env : Env) (look : Look) (op : UnaryOp) (T : CType) (t r : Plain) (v : Value) (a : Operand) (needs more : Needs) →
    Means S.defs env t (Val v) → operand T t ≡ Ok a → unary op a needs ≡ Ok (r, more) → IsMet S env look more →
    Agrees S.defs env r (unary_value look op T v)

-- a cast
abbrev pub CastAgrees : Type 0
CastAgrees =
    (S : Setting) (env : Env) (look : Look) (from to : CType) (t r : Plain) (v : Value) (a : Operand) (needs more : Needs) →
    Means S.defs env t (Val v) → operand from t ≡ Ok a → cast to a needs ≡ Ok (r, more) → IsMet S env look more →
    Agrees S.defs env r (cast_value from to v)

-- what was needed before stands in front of what is needed
pub record Begins (before after : Needs) : Type 0 where
  pub sides : List PlainFormula
  pub valid : List Plain
  pub all_sides : after.sides ≡ before.sides ++ sides
  pub all_valid : after.valid ≡ before.valid ++ valid

abbrev pub BinaryGrows : Type 0
BinaryGrows =
    (structs : Structs) (parts : List Sep) (op : IntOp) (a b : Operand) (needs more : Needs) (r : Plain) → binary structs parts op a b needs ≡ Ok (r, more) → Begins needs more

abbrev pub UnaryGrows : Type 0
UnaryGrows = (op : UnaryOp) (a : Operand) (needs more : Needs) (r : Plain) → unary op a needs ≡ Ok (r, more) → Begins needs more

abbrev pub CastGrows : Type 0
CastGrows = (to : CType) (a : Operand) (needs more : Needs) (r : Plain) → cast to a needs ≡ Ok (r, more) → Begins needs more
