-- What an integer expression of C means: its kind and its value, in the words of the C standard.
use Rattle.std.specs.Prelude.{ℕ, ◌^◌, Bool, true, false, ◌&&◌, nat_lt, ℤ, pos, List, [], ◌∷◌, Option, Some, None, option_map, option_and_then, if◌then◌else◌}
use Rattle.floyd_int.specs.declared.kinds.IntKind.{IntKind}
use Rattle.floyd_int.specs.declared.kinds.IntKind.TheVariants.{I8, U8, I16, U16, I32, U32, I64, U64}
use Rattle.floyd_int.specs.Operation.{is_in_range}
use Rattle.floyd_ctypes.specs.declared.ctype.CType.{Int}
use Rattle.floyd_ctypes.specs.Structs.{Structs}
use Rattle.floyd_ctypes.specs.Layout.{size}
use Rattle.floyd_cparse_trees.specs.declared.types.Literal.{Literal}
use Rattle.floyd_cparse_trees.specs.declared.expressions.CExpr as e
use Rattle.floyd_cparse_trees.specs.declared.expressions.BinaryOp.{BinaryOp}
use Rattle.floyd_cparse_trees.specs.declared.expressions.BinaryOp.TheVariants as binary
use Rattle.floyd_cparse_trees.specs.declared.expressions.Prefix.{Prefix}
use Rattle.floyd_cparse_trees.specs.declared.expressions.Prefix.TheVariants as before
use Rattle.floyd_cparse_trees.specs.declared.expressions.PrefixOp.{PrefixOp}
use Rattle.floyd_cparse_trees.specs.declared.expressions.PrefixOp.TheVariants.{Minus, Plus, Complement, Not, Dereference, Address}
use Rattle.floyd_elab_names.specs.declared.meaning.Meaning.{Meaning}
use Rattle.floyd_elab_names.specs.declared.meaning.Meaning.TheVariants as m
use Rattle.floyd_elab_names.specs.declared.meaning.Storage.{Storage}
use Rattle.floyd_elab_names.specs.declared.meaning.Storage.TheVariants as kept
use Rattle.floyd_elab_names.specs.Scopes.{Scopes, meaning_of}
use Rattle.floyd_elab_names.specs.Types.{kind_of}
use Rattle.floyd_elab_laws.specs.Numbers.{Number, converted_to, promote, on_promoted, negation, complement, opposite, both_true, one_true, chosen}
use Rattle.floyd_elab_laws.specs.Numbers as numbers
use Rattle.floyd_elab_laws.specs.TypeNames.{type_named}

-- Below, None stands where an expression is no integer, or reads memory.

-- a variable that lies in no memory
abbrev pub is_kept_apart : Storage → Bool
is_kept_apart kept.Global = false
is_kept_apart kept.Block = false
is_kept_apart kept.Temporary = true
is_kept_apart kept.Parameter = true

-- the kind of an integer variable that lies in no memory
abbrev pub variable_kind : Option Meaning → Option IntKind
variable_kind (Some (m.Variable called (Int k) storage)) = if is_kept_apart storage then Some k else None
variable_kind meaning = None

-- a variable of that value
abbrev pub variable : ℤ → IntKind → Number
variable z k = record { kind = k; value = Some z }

-- A constant has a kind from int on, which represents its value.
abbrev pub is_constant_kind : IntKind → Bool
is_constant_kind I8 = false
is_constant_kind U8 = false
is_constant_kind I16 = false
is_constant_kind U16 = false
is_constant_kind I32 = true
is_constant_kind U32 = true
is_constant_kind I64 = true
is_constant_kind U64 = true

abbrev pub constant : Literal → Option Number
constant l =
    if is_constant_kind l.kind && is_in_range l.kind (pos l.value) then Some (record { kind = l.kind; value = Some (pos l.value) }) else None

-- A size is a number of the kind of sizes, unsigned long, which represents it.
abbrev pub size_number : ℕ → Option Number
size_number n = if nat_lt n (2 ^ 64) then Some (record { kind = U64; value = Some (pos n) }) else None

-- an operator before an operand
abbrev pub prefix_operator : PrefixOp → Number → Option Number
prefix_operator Minus a = Some (on_promoted negation a)
prefix_operator Plus a = Some (promote a)
prefix_operator Complement a = Some (on_promoted complement a)
prefix_operator Not a = Some (opposite a)
prefix_operator Dereference a = None
prefix_operator Address a = None

-- an operator between two operands
abbrev pub joined : BinaryOp → Number → Number → Number
joined (binary.Int op) a b = numbers.binary op a b
joined binary.And a b = both_true a b
joined binary.Or a b = one_true a b

-- `structs` are those of the program, and `variables` what each name in sight holds
module _ (structs : Structs) (scopes : Scopes) (variables : List ℕ → ℤ) where
  -- the last of the prefixes binds first
  abbrev pub with_prefixes : List Prefix → Option Number → Option Number
  with_prefixes [] operand = operand
  with_prefixes (before.Op op place ∷ rest) operand = option_and_then (prefix_operator op) (with_prefixes rest operand)
  with_prefixes (before.Step op place ∷ rest) operand = None
  with_prefixes (before.Cast n place ∷ rest) operand =
      option_and_then (λ k. option_map (converted_to k) (with_prefixes rest operand)) (option_and_then kind_of (type_named scopes n))

  abbrev pub number : e.CExpr → Option Number
  number (e.Name i) = option_map (variable (variables i.name)) (variable_kind (meaning_of scopes i.name))
  number (e.Literal l) = constant l
  number (e.Parenthesised' p (e.more_of-CExpr inner e.end_of-CExpr)) = number inner
  number (e.Prefixed' prefixes p (e.more_of-CExpr operand e.end_of-CExpr)) = with_prefixes prefixes (number operand)
  number (e.SizeOf place n) = option_and_then size_number (option_and_then (size structs) (type_named scopes n))
  number (e.PostfixStep' p operand op place) = None
  number (e.Index' p array place q index) = None
  number (e.Call' p function place shape arguments) = None
  number (e.Member' p operand op place field) = None
  number (e.Binary' p (e.more_of-CExpr left e.end_of-CExpr) op place q (e.more_of-CExpr right e.end_of-CExpr)) =
      option_and_then (λ a. option_map (joined op a) (number right)) (number left)
  number (e.Conditional' p (e.more_of-CExpr test e.end_of-CExpr) place q (e.more_of-CExpr then_part e.end_of-CExpr) r (e.more_of-CExpr else_part e.end_of-CExpr)) =
      option_and_then (λ c. option_and_then (λ a. option_map (chosen c a) (number else_part)) (number then_part)) (number test)
  number (e.Assign' p target op place q value) = None
