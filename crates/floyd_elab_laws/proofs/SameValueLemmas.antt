-- An operator but `&` sees of an operand the type of its value, and whether it is the constant 0. So reading an object before
-- an operator changes nothing of what typing gives.
use Rattle.std.proofs.Common.{◌≡◌, false, Option, option_and_then, refl, ap, sym, ◌∙◌}
use Rattle.floyd_text.specs.declared.place.Place.{Place}
use Rattle.floyd_int.specs.declared.kinds.IntOp.{IntOp}
use Rattle.floyd_int.specs.declared.kinds.IntOp.TheVariants.{Add, Sub, Mul, Div, Rem, And, Or, Xor, Shl, Shr, Eq, Ne, Lt, Le, Gt, Ge}
use Rattle.floyd_ctypes.specs.declared.ctype.CType.{CType}
use Rattle.floyd_ctypes.specs.Structs.{Structs}
use Rattle.floyd_cparse_trees.specs.declared.expressions.MemberOp.TheVariants.{Arrow}
use Rattle.floyd_cparse_trees.specs.declared.expressions.PrefixOp.TheVariants.{Minus, Plus, Complement, Not, Dereference}
use Rattle.floyd_elab_names.specs.Refusals.{ill_typed}
use Rattle.floyd_elab_names.specs.Refusing.{unless}
use Rattle.floyd_elab_names.specs.Types.{int_type, is_scalar, pointee, tag_of}
use Rattle.floyd_ctyping.specs.declared.operand.Operand.{Operand}
use Rattle.floyd_ctyping.specs.Operators.{value_type, value_of_type, is_zero, is_cast, fits_into, sign_type, not_type, dereference_type, common_type, common_of, order_type, with_order, comparison_type, binary_type, sum_of, difference_of, number_of, shift_of, element_type, struct_before, converts_to, casts_to, promoted_type, unless_void, when}
use Rattle.floyd_ctyping.specs.Expressions.{check_test, gives_value, gives_object, prefix_operator}

abbrev pub SameValue : Operand → Operand → Type 0
SameValue a b = (value_type a ≡ value_type b) × (is_zero a.standing ≡ is_zero b.standing)

-- an object that is read
pub read_same : (a : Operand) → is_zero a.standing ≡ false → SameValue (value_of_type a.ctype) a
read_same a h = (refl, sym h)

module _ (a b : Operand) (same : SameValue a b) where
  pub same_test : (place : Place) → check_test place a ≡ check_test place b
  same_test place = ap (λ t. unless (ill_typed place) (is_scalar t)) same.0

  same_sign : sign_type a ≡ sign_type b
  same_sign = ap promoted_type same.0

  same_not : not_type a ≡ not_type b
  same_not = ap (λ t. when (is_scalar t) int_type) same.0

  same_dereference : dereference_type a ≡ dereference_type b
  same_dereference = ap (λ t. option_and_then unless_void (pointee t)) same.0

  pub same_minus : (place : Place) → prefix_operator Minus place a ≡ prefix_operator Minus place b
  same_minus place = ap (gives_value place) same_sign

  pub same_plus : (place : Place) → prefix_operator Plus place a ≡ prefix_operator Plus place b
  same_plus place = ap (gives_value place) same_sign

  pub same_complement : (place : Place) → prefix_operator Complement place a ≡ prefix_operator Complement place b
  same_complement place = ap (gives_value place) same_sign

  pub same_negation : (place : Place) → prefix_operator Not place a ≡ prefix_operator Not place b
  same_negation place = ap (gives_value place) same_not

  pub same_star : (place : Place) → prefix_operator Dereference place a ≡ prefix_operator Dereference place b
  same_star place = ap (gives_object place) same_dereference

  pub same_arrow : struct_before Arrow a ≡ struct_before Arrow b
  same_arrow = ap (λ t. option_and_then tag_of (pointee t)) same.0

  pub same_cast : (t : CType) → is_cast t a ≡ is_cast t b
  same_cast t = ap (λ z. casts_to t z (value_type a)) same.1 ∙ ap (casts_to t (is_zero b.standing)) same.0

  pub same_fit : (t : CType) → fits_into t a ≡ fits_into t b
  same_fit t = ap (λ z. converts_to t z (value_type a)) same.1 ∙ ap (converts_to t (is_zero b.standing)) same.0

  module _ (c d : Operand) (other : SameValue c d) where
    pub same_common : common_type a c ≡ common_type b d
    same_common =
        ap (λ z. common_of z (is_zero c.standing) (value_type a) (value_type c)) same.1
        ∙ ap (λ z. common_of (is_zero b.standing) z (value_type a) (value_type c)) other.1
        ∙ ap (λ t. common_of (is_zero b.standing) (is_zero d.standing) t (value_type c)) same.0
        ∙ ap (common_of (is_zero b.standing) (is_zero d.standing) (value_type b)) other.0

    both_types : (f : CType → CType → Option CType) → f (value_type a) (value_type c) ≡ f (value_type b) (value_type d)
    both_types f = ap (λ t. f t (value_type c)) same.0 ∙ ap (f (value_type b)) other.0

    same_order : comparison_type (order_type a c) ≡ comparison_type (order_type b d)
    same_order = ap (λ (o : Option CType). comparison_type (option_and_then with_order o)) same_common

    pub same_binary : (structs : Structs) (op : IntOp) → binary_type structs op a c ≡ binary_type structs op b d
    same_binary structs Add = both_types (sum_of structs)
    same_binary structs Sub = both_types (difference_of structs)
    same_binary structs Mul = both_types number_of
    same_binary structs Div = both_types number_of
    same_binary structs Rem = both_types number_of
    same_binary structs And = both_types number_of
    same_binary structs Or = both_types number_of
    same_binary structs Xor = both_types number_of
    same_binary structs Shl = both_types shift_of
    same_binary structs Shr = both_types shift_of
    same_binary structs Eq = ap comparison_type same_common
    same_binary structs Ne = ap comparison_type same_common
    same_binary structs Lt = same_order
    same_binary structs Le = same_order
    same_binary structs Gt = same_order
    same_binary structs Ge = same_order

    pub same_element : (structs : Structs) → element_type structs a c ≡ element_type structs b d
    same_element structs = ap (option_and_then pointee) (both_types (sum_of structs))
