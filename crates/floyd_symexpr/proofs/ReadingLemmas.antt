-- What expressions stand for, as the program takes them apart.
use Rattle.std.proofs.Common.{◌≡◌, ℕ, List, Bool, true, false, Result, Ok, Err, refl, ap, sym, subst, ◌∙◌, if◌then◌else◌}
use denote.Hole.Carrier.{hidden}
use Rattle.floyd_text.specs.declared.refusal.No.{No}
use Rattle.floyd_int.specs.declared.kinds.IntOp.{IntOp}
use Rattle.floyd_int.specs.declared.kinds.IntOp.TheVariants.{Add}
use Rattle.floyd_ctypes.specs.declared.ctype.CType.{CType}
use Rattle.floyd_ctypes.specs.Structs.{Structs}
use Rattle.floyd_clight.specs.declared.syntax.Binding.{Binding}
use Rattle.floyd_clight.specs.declared.syntax.UnaryOp.{UnaryOp}
use Rattle.floyd_clight.specs.declared.syntax.Expr.{Expr, Const, Temp, Var, Deref, Deref', AddrOf, AddrOf', Unary, Unary', Binary, Binary', Cast, Cast', Field, Field', SizeOf, end_of-Expr, more_of-Expr}
use Rattle.floyd_clight.specs.declared.syntax.Expr.TheBlock.{shape-the_row-Expr-0, hidden-the_row-Expr-0}
use Rattle.floyd_clight.specs.Types.{type_of}
use Rattle.floyd_tree.specs.Plain.{Plain}
use Rattle.floyd_assert_trees.specs.declared.assertion.Assertion.{Assertion}
use Rattle.floyd_fieldpath.specs.Written.{on_ok}
use Rattle.floyd_symexpr_rows.specs.declared.needs.Needs.{Needs}
use Rattle.floyd_symexpr_rows.specs.Rows.{null}
use Rattle.floyd_symexpr.specs.Expressions.{behind_type, cast_value, operated_cast, operated_one, operated_two, read, sum_behind}
use Rattle.floyd_symexpr.specs.ReadingClauses.{is_add, is_null_cast}
use Rattle.floyd_symexpr_paths.specs.declared.lvalue.Lvalue.{Lvalue}
use Rattle.floyd_symexpr_paths.specs.Places.{address_row, field, no_part, object_value}

module _ (source : Assertion) (structs : Structs) where
  -- what follows once a part of an expression is there

  abbrev pub after_object : CType → Lvalue × Needs → Result (Plain × Needs) No
  after_object t l = object_value structs t l.0 l.1

  abbrev pub after_place : Lvalue × Needs → Result (Plain × Needs) No
  after_place l = address_row structs l.0 l.1

  abbrev pub after_field : CType → List ℕ → Lvalue × Needs → Result (Lvalue × Needs) No
  after_field t x l = Ok (field t x l.0, l.1)

  abbrev pub after_operand : UnaryOp → CType → Plain × Needs → Result (Plain × Needs) No
  after_operand op t v = operated_one op t v.0 v.1

  abbrev pub after_cast : CType → CType → Plain × Needs → Result (Plain × Needs) No
  after_cast from to v = operated_cast from to v.0 v.1

  -- the second operand, and then the operator
  abbrev pub second : Expr → Plain × Needs → Result (Plain × Needs) No
  second b v = (read source structs b).value v.1

  abbrev pub after_both : IntOp → CType → CType → Plain × Needs → Plain × Needs → Result (Plain × Needs) No
  after_both op t u v w = operated_two structs source.parts op t v.0 u w.0 w.1

  -- the value of what stands for an object

  pub value_at_var : (e : Expr) (binding : Binding) (x : List ℕ) (t : CType) (n : Needs) → e ≡ Var binding x t → (read source structs e).value n ≡ on_ok ((read source structs e).place n) (after_object (type_of e))
  value_at_var e binding x t n is =
      subst (λ (z : Expr). (read source structs z).value n ≡ on_ok ((read source structs z).place n) (after_object (type_of z))) (sym is) refl

  deref_value : (a : Expr) (t : CType) (n : Needs) → (read source structs (Deref a t)).value n ≡ on_ok ((read source structs (Deref a t)).place n) (after_object (type_of (Deref a t)))
  unfolding shape-the_row-Expr-0 hidden-the_row-Expr-0 hidden
  deref_value a t n = refl

  pub value_at_deref : (e a : Expr) (t : CType) (n : Needs) → e ≡ Deref a t → (read source structs e).value n ≡ on_ok ((read source structs e).place n) (after_object (type_of e))
  value_at_deref e a t n is =
      subst (λ (z : Expr). (read source structs z).value n ≡ on_ok ((read source structs z).place n) (after_object (type_of z))) (sym is) (deref_value a t n)

  field_value : (a : Expr) (x : List ℕ) (t : CType) (n : Needs) → (read source structs (Field a x t)).value n ≡ on_ok ((read source structs (Field a x t)).place n) (after_object (type_of (Field a x t)))
  unfolding shape-the_row-Expr-0 hidden-the_row-Expr-0 hidden
  field_value a x t n = refl

  pub value_at_field : (e a : Expr) (x : List ℕ) (t : CType) (n : Needs) → e ≡ Field a x t → (read source structs e).value n ≡ on_ok ((read source structs e).place n) (after_object (type_of e))
  value_at_field e a x t n is =
      subst (λ (z : Expr). (read source structs z).value n ≡ on_ok ((read source structs z).place n) (after_object (type_of z))) (sym is) (field_value a x t n)

  -- the value of what stands for none

  address_value : (a : Expr) (t : CType) (n : Needs) → (read source structs (AddrOf a t)).value n ≡ on_ok ((read source structs a).place n) after_place
  unfolding shape-the_row-Expr-0 hidden-the_row-Expr-0 hidden
  address_value a t n = refl

  pub value_at_address : (e a x_a : Expr) (t : CType) (n : Needs) → e ≡ AddrOf a t → x_a ≡ a → (read source structs e).value n ≡ on_ok ((read source structs x_a).place n) after_place
  value_at_address e a x_a t n is same =
      ap (λ (z : Expr). (read source structs z).value n) is ∙ address_value a t n ∙ ap (λ (z : Expr). on_ok ((read source structs z).place n) after_place) (sym same)

  unary_value : (op : UnaryOp) (a : Expr) (t : CType) (n : Needs) → (read source structs (Unary op a t)).value n ≡ on_ok ((read source structs a).value n) (after_operand op (type_of a))
  unfolding shape-the_row-Expr-0 hidden-the_row-Expr-0 hidden
  unary_value op a t n = refl

  pub value_at_unary : (e : Expr) (op : UnaryOp) (a x_a : Expr) (t : CType) (n : Needs) → e ≡ Unary op a t → x_a ≡ a → (read source structs e).value n ≡ on_ok ((read source structs x_a).value n) (after_operand op (type_of x_a))
  value_at_unary e op a x_a t n is same =
      ap (λ (z : Expr). (read source structs z).value n) is ∙ unary_value op a t n
      ∙ ap (λ (z : Expr). on_ok ((read source structs z).value n) (after_operand op (type_of z))) (sym same)

  binary_value : (op : IntOp) (a b : Expr) (t : CType) (n : Needs) → (read source structs (Binary op a b t)).value n ≡ on_ok ((read source structs a).value n) (λ v. on_ok (second b v) (after_both op (type_of a) (type_of b) v))
  unfolding shape-the_row-Expr-0 hidden-the_row-Expr-0 hidden
  binary_value op a b t n = refl

  pub value_at_binary : (e : Expr) (op : IntOp) (a x_a b x_b : Expr) (t : CType) (n : Needs) → e ≡ Binary op a b t → x_a ≡ a → x_b ≡ b → (read source structs e).value n ≡ on_ok ((read source structs x_a).value n) (λ v. on_ok (second x_b v) (after_both op (type_of x_a) (type_of x_b) v))
  value_at_binary e op a x_a b x_b t n is same others =
      ap (λ (z : Expr). (read source structs z).value n) is ∙ binary_value op a b t n
      ∙ ap (λ (z : Expr). on_ok ((read source structs z).value n) (λ v. on_ok (second b v) (after_both op (type_of z) (type_of b) v))) (sym same)
      ∙ ap (λ (z : Expr). on_ok ((read source structs x_a).value n) (λ v. on_ok (second z v) (after_both op (type_of x_a) (type_of z) v))) (sym others)

  cast_at : (a : Expr) (t : CType) (n : Needs) → (read source structs (Cast a t)).value n ≡ cast_value source structs t a (read source structs a).value n
  unfolding shape-the_row-Expr-0 hidden-the_row-Expr-0 hidden
  cast_at a t n = refl

  value_at_cast : (e a x_a : Expr) (t : CType) (n : Needs) → e ≡ Cast a t → x_a ≡ a → (read source structs e).value n ≡ cast_value source structs t x_a (read source structs x_a).value n
  value_at_cast e a x_a t n is same =
      ap (λ (z : Expr). (read source structs z).value n) is ∙ cast_at a t n ∙ ap (λ (z : Expr). cast_value source structs t z (read source structs z).value n) (sym same)

  abbrev cast_by : Bool → CType → Expr → Needs → Result (Plain × Needs) No
  cast_by test t x_a n = if test then Ok (null, n) else on_ok ((read source structs x_a).value n) (after_cast (type_of x_a) t)

  pub value_at_null_cast : (e a x_a : Expr) (t : CType) (n : Needs) (test : Bool) → e ≡ Cast a t → x_a ≡ a → test ≡ is_null_cast t x_a → test ≡ true → (read source structs e).value n ≡ Ok (null, n)
  value_at_null_cast e a x_a t n test is same judged yes_null =
      value_at_cast e a x_a t n is same ∙ ap (λ (b : Bool). cast_by b t x_a n) (sym judged ∙ yes_null)

  pub value_at_other_cast : (e a x_a : Expr) (t : CType) (n : Needs) (test : Bool) → e ≡ Cast a t → x_a ≡ a → test ≡ is_null_cast t x_a → test ≡ false → (read source structs e).value n ≡ on_ok ((read source structs x_a).value n) (after_cast (type_of x_a) t)
  value_at_other_cast e a x_a t n test is same judged not_null =
      value_at_cast e a x_a t n is same ∙ ap (λ (b : Bool). cast_by b t x_a n) (sym judged ∙ not_null)

  -- the object that an expression stands for

  deref_place : (a : Expr) (t : CType) (n : Needs) → (read source structs (Deref a t)).place n ≡ (read source structs a).behind t n
  unfolding shape-the_row-Expr-0 hidden-the_row-Expr-0 hidden
  deref_place a t n = refl

  pub place_at_deref : (e a x_a : Expr) (t : CType) (n : Needs) → e ≡ Deref a t → x_a ≡ a → (read source structs e).place n ≡ (read source structs x_a).behind t n
  place_at_deref e a x_a t n is same =
      ap (λ (z : Expr). (read source structs z).place n) is ∙ deref_place a t n ∙ ap (λ (z : Expr). (read source structs z).behind t n) (sym same)

  field_place : (a : Expr) (x : List ℕ) (t : CType) (n : Needs) → (read source structs (Field a x t)).place n ≡ on_ok ((read source structs a).place n) (after_field (type_of a) x)
  unfolding shape-the_row-Expr-0 hidden-the_row-Expr-0 hidden
  field_place a x t n = refl

  pub place_at_field : (e a x_a : Expr) (x : List ℕ) (t : CType) (n : Needs) → e ≡ Field a x t → x_a ≡ a → (read source structs e).place n ≡ on_ok ((read source structs x_a).place n) (after_field (type_of x_a) x)
  place_at_field e a x_a x t n is same =
      ap (λ (z : Expr). (read source structs z).place n) is ∙ field_place a x t n
      ∙ ap (λ (z : Expr). on_ok ((read source structs z).place n) (after_field (type_of z) x)) (sym same)

  deref_is : (p : Unit {0}) (a : Expr) (t : CType) → Deref' p (more_of-Expr a end_of-Expr) t ≡ Deref a t
  unfolding shape-the_row-Expr-0 hidden-the_row-Expr-0 hidden
  deref_is p a t = refl

  field_is : (p : Unit {0}) (a : Expr) (x : List ℕ) (t : CType) → Field' p (more_of-Expr a end_of-Expr) x t ≡ Field a x t
  unfolding shape-the_row-Expr-0 hidden-the_row-Expr-0 hidden
  field_is p a x t = refl

  -- what is neither a variable nor reached from one stands for no object
  pub no_object : (e : Expr) (n : Needs) → ((binding : Binding) (x : List ℕ) (t : CType) → e ≡ Var binding x t → ⊥) → ((a : Expr) (t : CType) → e ≡ Deref a t → ⊥) → ((a : Expr) (x : List ℕ) (t : CType) → e ≡ Field a x t → ⊥) → (read source structs e).place n ≡ Err no_part
  no_object (Const v t) n not_var not_deref not_field = refl
  no_object (Temp x t) n not_var not_deref not_field = refl
  no_object (Var binding x t) n not_var not_deref not_field = absurd (not_var binding x t refl)
  no_object (Deref' p (more_of-Expr a end_of-Expr) t) n not_var not_deref not_field = absurd (not_deref a t (deref_is p a t))
  no_object (AddrOf' p (more_of-Expr a end_of-Expr) t) n not_var not_deref not_field = refl
  no_object (Unary' op p (more_of-Expr a end_of-Expr) t) n not_var not_deref not_field = refl
  no_object (Binary' op p (more_of-Expr a end_of-Expr) q (more_of-Expr b end_of-Expr) t) n not_var not_deref not_field = refl
  no_object (Cast' p (more_of-Expr a end_of-Expr) t) n not_var not_deref not_field = refl
  no_object (Field' p (more_of-Expr a end_of-Expr) x t) n not_var not_deref not_field = absurd (not_field a x t (field_is p a x t))
  no_object (SizeOf of t) n not_var not_deref not_field = refl

  -- the object to which a value leads

  abbrev by_type : Expr → CType → Needs → Result (Lvalue × Needs) No
  by_type e to n = behind_type (type_of e) (read source structs e).place (read source structs e).value to n

  binary_is : (op : IntOp) (p q : Unit {0}) (a b : Expr) (t : CType) → Binary' op p (more_of-Expr a end_of-Expr) q (more_of-Expr b end_of-Expr) t ≡ Binary op a b t
  unfolding shape-the_row-Expr-0 hidden-the_row-Expr-0 hidden
  binary_is op p q a b t = refl

  pub behind_no_binary : (e : Expr) (to : CType) (n : Needs) → ((op : IntOp) (a b : Expr) (t : CType) → e ≡ Binary op a b t → ⊥) → (read source structs e).behind to n ≡ by_type e to n
  behind_no_binary (Const v t) to n not_binary = refl
  behind_no_binary (Temp x t) to n not_binary = refl
  behind_no_binary (Var binding x t) to n not_binary = refl
  behind_no_binary (Deref' p (more_of-Expr a end_of-Expr) t) to n not_binary = refl
  behind_no_binary (AddrOf' p (more_of-Expr a end_of-Expr) t) to n not_binary = refl
  behind_no_binary (Unary' op p (more_of-Expr a end_of-Expr) t) to n not_binary = refl
  behind_no_binary (Binary' op p (more_of-Expr a end_of-Expr) q (more_of-Expr b end_of-Expr) t) to n not_binary = absurd (not_binary op a b t (binary_is op p q a b t))
  behind_no_binary (Cast' p (more_of-Expr a end_of-Expr) t) to n not_binary = refl
  behind_no_binary (Field' p (more_of-Expr a end_of-Expr) x t) to n not_binary = refl
  behind_no_binary (SizeOf of t) to n not_binary = refl

  add_behind : (op : IntOp) (a b : Expr) (t to : CType) (n : Needs) → is_add op ≡ true → (read source structs (Binary op a b t)).behind to n ≡ sum_behind source structs (type_of a) (type_of b) (read source structs a) (read source structs b) to n
  unfolding shape-the_row-Expr-0 hidden-the_row-Expr-0 hidden
  add_behind Add a b t to n sum = refl
  add_behind op a b t to n sum = absurd cc

  pub behind_sum : (e : Expr) (op : IntOp) (a x_a b x_b : Expr) (t to : CType) (n : Needs) (test : Bool) → e ≡ Binary op a b t → x_a ≡ a → x_b ≡ b → test ≡ is_add op → test ≡ true → (read source structs e).behind to n ≡ sum_behind source structs (type_of x_a) (type_of x_b) (read source structs x_a) (read source structs x_b) to n
  behind_sum e op a x_a b x_b t to n test is same others judged sum =
      ap (λ (z : Expr). (read source structs z).behind to n) is ∙ add_behind op a b t to n (sym judged ∙ sum)
      ∙ ap (λ (z : Expr). sum_behind source structs (type_of z) (type_of b) (read source structs z) (read source structs b) to n) (sym same)
      ∙ ap (λ (z : Expr). sum_behind source structs (type_of x_a) (type_of z) (read source structs x_a) (read source structs z) to n) (sym others)

  other_behind : (op : IntOp) (a b : Expr) (t to : CType) (n : Needs) → is_add op ≡ false → (read source structs (Binary op a b t)).behind to n ≡ by_type (Binary op a b t) to n
  unfolding shape-the_row-Expr-0 hidden-the_row-Expr-0 hidden
  other_behind Add a b t to n other = absurd cc
  other_behind op a b t to n other = refl

  pub behind_other : (e : Expr) (op : IntOp) (a b : Expr) (t to : CType) (n : Needs) (test : Bool) → e ≡ Binary op a b t → test ≡ is_add op → test ≡ false → (read source structs e).behind to n ≡ by_type e to n
  behind_other e op a b t to n test is judged other =
      subst (λ (z : Expr). (read source structs z).behind to n ≡ by_type z to n) (sym is) (other_behind op a b t to n (sym judged ∙ other))
