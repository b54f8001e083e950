-- The types of expressions. The text is walked from left to right: an operator is judged behind its operands, but a test
-- directly behind it, what is assigned to before what is assigned, and a callee with the number of its arguments before
-- them. An assignment, a step or a call inside an expression is judged as far as its operator, and then refused.
use Rattle.std.specs.Prelude.{ℕ, ◌==◌, not, List, [], ◌∷◌, length, Option, Some, Result, Ok, Err, is_some, if◌then◌else◌}
use Rattle.floyd_text.specs.declared.place.Place.{Place}
use Rattle.floyd_text.specs.declared.refusal.Refusal.{Refusal}
use Rattle.floyd_ctypes.specs.declared.ctype.CType.{CType, Int}
use Rattle.floyd_ctypes.specs.Structs.{Structs, field_of}
use Rattle.floyd_cparse_trees.specs.declared.types.Identifier.{Identifier}
use Rattle.floyd_cparse_trees.specs.declared.types.Literal.{Literal}
use Rattle.floyd_cparse_trees.specs.declared.types.TypeName.{TypeName}
use Rattle.floyd_cparse_trees.specs.declared.expressions.CExpr as e
use Rattle.floyd_cparse_trees.specs.declared.expressions.BinaryOp.{BinaryOp}
use Rattle.floyd_cparse_trees.specs.declared.expressions.BinaryOp.TheVariants as binary
use Rattle.floyd_cparse_trees.specs.declared.expressions.MemberOp.{MemberOp}
use Rattle.floyd_cparse_trees.specs.declared.expressions.Prefix.{Prefix}
use Rattle.floyd_cparse_trees.specs.declared.expressions.Prefix.TheVariants as before
use Rattle.floyd_cparse_trees.specs.declared.expressions.PrefixOp.{PrefixOp}
use Rattle.floyd_cparse_trees.specs.declared.expressions.PrefixOp.TheVariants.{Minus, Plus, Complement, Not, Dereference, Address}
use Rattle.floyd_elab_names.specs.declared.meaning.Meaning.{Meaning}
use Rattle.floyd_elab_names.specs.declared.meaning.Meaning.TheVariants as m
use Rattle.floyd_elab_names.specs.declared.meaning.Storage.{Storage}
use Rattle.floyd_elab_names.specs.declared.meaning.Storage.TheVariants as kept
use Rattle.floyd_ctyping.specs.declared.operand.Operand.{Operand}
use Rattle.floyd_ctyping.specs.declared.operand.Standing.{Standing}
use Rattle.floyd_ctyping.specs.declared.operand.Standing.TheVariants.{Value, Zero, Object, Parameter}
use Rattle.floyd_elab_names.specs.Refusals.{left_out, ill_typed, undeclared, nested_effect, bad_cast}
use Rattle.floyd_elab_names.specs.declared.tags.Tags.{Tags}
use Rattle.floyd_elab_names.specs.Refusing.{◌>>=◌, ◌>>◌, pure, refuse, unless, or_refuse}
use Rattle.floyd_elab_names.specs.Typing.{Typing, the_structs}
use Rattle.floyd_elab_names.specs.Scopes.{Scopes, meaning_of}
use Rattle.floyd_elab_names.specs.Types.{int_type, size_type, has_size}
use Rattle.floyd_ctyping.specs.Operators.{value_of_type, object_of_type, is_parameter, is_test, sign_type, not_type, dereference_type, address_type, common_type, binary_type, element_type, struct_before, is_target, is_cast, callee_signature, is_stepped}
use Rattle.floyd_elab_names.specs.Declarators.{parenthesis, ampersand, sizeof_site, type_named}

-- Names and literals.

abbrev pub standing_in : Storage → Standing
standing_in kept.Global = Object
standing_in kept.Block = Object
standing_in kept.Temporary = Object
standing_in kept.Parameter = Parameter

abbrev pub name_operand : Identifier → Option Meaning → Typing Operand
name_operand i (Some (m.Variable clight t storage)) = pure (record { ctype = t; standing = standing_in storage })
name_operand i (Some (m.Function t)) = pure (value_of_type t)
name_operand i meaning = refuse (undeclared i)

-- the constant 0 is a literal of that value
abbrev pub standing_of : ℕ → Standing
standing_of n = if n == 0 then Zero else Value

abbrev pub literal_operand : Literal → Operand
literal_operand l = record { ctype = Int l.kind; standing = standing_of l.value }

-- Operators, behind their operands.

-- the operator's result is a value of this type; without one its operands do not fit
abbrev pub gives_value : Place → Option CType → Typing Operand
gives_value place result = do
  t ← or_refuse (ill_typed place) result
  pure (value_of_type t)

-- it is an object of this type
abbrev pub gives_object : Place → Option CType → Typing Operand
gives_object place result = do
  t ← or_refuse (ill_typed place) result
  pure (object_of_type t)

-- the address of a parameter is left out
abbrev pub address_of : Place → Operand → Typing Operand
address_of place a = do
  unless (left_out (ampersand place)) (not (is_parameter a.standing))
  gives_value place (address_type a)

abbrev pub prefix_operator : PrefixOp → Place → Operand → Typing Operand
prefix_operator Minus place a = gives_value place (sign_type a)
prefix_operator Plus place a = gives_value place (sign_type a)
prefix_operator Complement place a = gives_value place (sign_type a)
prefix_operator Not place a = gives_value place (not_type a)
prefix_operator Dereference place a = gives_object place (dereference_type a)
prefix_operator Address place a = address_of place a

abbrev pub cast_to : Place → CType → Operand → Typing Operand
cast_to place t a = do
  unless (bad_cast place) (is_cast t a)
  pure (value_of_type t)

-- a step inside an expression: `++` or `--`
abbrev pub nested_step : Place → Operand → Typing Operand
nested_step place a = do
  structs ← the_structs
  unless (ill_typed place) (is_stepped structs a)
  refuse (nested_effect place)

-- an assignment inside one, as far as its operator
abbrev pub nested_assignment : Place → Operand → Typing Operand
nested_assignment place a = do
  unless (ill_typed place) (is_target a)
  refuse (nested_effect place)

-- a call inside one, as far as its parenthesis
abbrev pub nested_call : Place → ℕ → Operand → Typing Operand
nested_call place count a = do
  unless (ill_typed place) (is_some (callee_signature count a))
  refuse (nested_effect place)

-- a test, directly behind it
abbrev pub check_test : Place → Operand → Typing (Unit {0})
check_test place a = unless (ill_typed place) (is_test a)

-- a field, where the struct before it is complete and has it
abbrev pub member : MemberOp → Place → Identifier → Operand → Typing Operand
member op place field a = do
  tag ← or_refuse (ill_typed place) (struct_before op a)
  structs ← the_structs
  f ← or_refuse (undeclared field) (field_of structs tag field.name)
  pure (object_of_type f.ty)

module _ (scopes : Scopes) where
  -- the size of a type that has one
  abbrev pub sized_type : Place → TypeName → Typing CType
  sized_type place n = do
    t ← type_named scopes (sizeof_site place) n
    structs ← the_structs
    unless (ill_typed place) (has_size structs t)
    pure t

  -- prefixes before an operand, the last of which binds first; the types in casts come before the operand
  abbrev pub prefixed_operand : List Prefix → Typing Operand → Typing Operand
  prefixed_operand [] operand = operand
  prefixed_operand (before.Op op place ∷ rest) operand = do
    a ← prefixed_operand rest operand
    prefix_operator op place a
  prefixed_operand (before.Step op place ∷ rest) operand = do
    a ← prefixed_operand rest operand
    nested_step place a
  prefixed_operand (before.Cast n place ∷ rest) operand = do
    t ← type_named scopes (parenthesis place) n
    a ← prefixed_operand rest operand
    cast_to place t a

  -- an operator between two operands
  abbrev pub binary_operand : BinaryOp → Place → Typing Operand → Typing Operand → Typing Operand
  binary_operand (binary.Int op) place left right = do
    a ← left
    b ← right
    structs ← the_structs
    gives_value place (binary_type structs op a b)
  binary_operand binary.And place left right = do
    a ← left
    check_test place a
    b ← right
    check_test place b
    pure (value_of_type int_type)
  binary_operand binary.Or place left right = do
    a ← left
    check_test place a
    b ← right
    check_test place b
    pure (value_of_type int_type)

  -- an element of an array
  abbrev pub element_operand : Place → Typing Operand → Typing Operand → Typing Operand
  element_operand place array index = do
    a ← array
    i ← index
    structs ← the_structs
    gives_object place (element_type structs a i)

  -- one of two values, as a test has it
  abbrev pub conditional_operand : Place → Typing Operand → Typing Operand → Typing Operand → Typing Operand
  conditional_operand place test then_part else_part = do
    c ← test
    check_test place c
    a ← then_part
    b ← else_part
    gives_value place (common_type a b)

  -- an expression
  abbrev pub operand_of : e.CExpr → Typing Operand
  operand_of (e.Name i) = name_operand i (meaning_of scopes i.name)
  operand_of (e.Literal l) = pure (literal_operand l)
  operand_of (e.Parenthesised' p (e.more_of-CExpr inner e.end_of-CExpr)) = operand_of inner
  operand_of (e.Prefixed' prefixes p (e.more_of-CExpr operand e.end_of-CExpr)) = prefixed_operand prefixes (operand_of operand)
  operand_of (e.SizeOf place n) = sized_type place n >> pure (value_of_type size_type)
  operand_of (e.PostfixStep' p (e.more_of-CExpr operand e.end_of-CExpr) op place) = operand_of operand >>= nested_step place
  operand_of (e.Index' p (e.more_of-CExpr array e.end_of-CExpr) place q (e.more_of-CExpr index e.end_of-CExpr)) = element_operand place (operand_of array) (operand_of index)
  operand_of (e.Call' p (e.more_of-CExpr function e.end_of-CExpr) place shape arguments) = operand_of function >>= nested_call place (length shape)
  operand_of (e.Member' p (e.more_of-CExpr operand e.end_of-CExpr) op place field) = operand_of operand >>= member op place field
  operand_of (e.Binary' p (e.more_of-CExpr left e.end_of-CExpr) op place q (e.more_of-CExpr right e.end_of-CExpr)) = binary_operand op place (operand_of left) (operand_of right)
  operand_of (e.Conditional' p (e.more_of-CExpr test e.end_of-CExpr) place q (e.more_of-CExpr then_part e.end_of-CExpr) r (e.more_of-CExpr else_part e.end_of-CExpr)) =
      conditional_operand place (operand_of test) (operand_of then_part) (operand_of else_part)
  operand_of (e.Assign' p (e.more_of-CExpr target e.end_of-CExpr) op place q value) = operand_of target >>= nested_assignment place

-- the type of an expression, by what was found
abbrev pub type_in : Result (Operand × Tags) Refusal → Result CType Refusal
type_in (Ok r) = Ok r.0.ctype
type_in (Err refusal) = Err refusal

abbrev pub type_of : Scopes → Tags → e.CExpr → Result CType Refusal
type_of scopes tags e = type_in (operand_of scopes e tags)

-- the same among structs, without what was completed where
abbrev pub type_among : Scopes → Structs → e.CExpr → Result CType Refusal
type_among scopes structs e = type_of scopes (record { structs = structs; completed = [] }) e
