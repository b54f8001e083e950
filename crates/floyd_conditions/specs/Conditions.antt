-- What holds in each of the branches of a test. The formula of a comparison is that of its operands; in the other branch the
-- sides of an order are exchanged, and an equation is negated.
use Rattle.std.specs.Prelude.{Bool, true, false, pos, if◌then◌else◌, Option, Some, None, Result, Ok, Err}
use Rattle.floyd_text.specs.declared.refusal.No.{No}
use Rattle.floyd_int.specs.declared.kinds.IntOp.{IntOp}
use Rattle.floyd_int.specs.declared.kinds.IntOp.TheVariants as c
use Rattle.floyd_int.specs.Operation.{is_comparison}
use Rattle.floyd_ctypes.specs.Structs.{Structs}
use Rattle.floyd_clight.specs.declared.syntax.Expr.{Expr, Unary', Binary', end_of-Expr, more_of-Expr}
use Rattle.floyd_clight.specs.declared.syntax.UnaryOp.{UnaryOp}
use Rattle.floyd_clight.specs.declared.syntax.UnaryOp.TheVariants.{Neg, Complement, Not}
use Rattle.floyd_clight.specs.Types.{type_of}
use Rattle.floyd_tree.specs.Formulas.{PlainFormula}
use Rattle.floyd_tree.specs.Plain.{Plain}
use Rattle.floyd_assert_trees.specs.declared.assertion.Assertion.{Assertion}
use Rattle.floyd_fieldpath.specs.Nested.{literal}
use Rattle.floyd_fieldpath.specs.Sums.{plus}
use Rattle.floyd_fieldpath.specs.Written.{on_ok}
use Rattle.floyd_symexpr_rows.specs.declared.needs.Needs.{Needs}
use Rattle.floyd_symexpr_rows.specs.declared.needs.Operand.{Operand}
use Rattle.floyd_symexpr_rows.specs.declared.needs.Operand.TheVariants.{OfKind, Address}
use Rattle.floyd_symexpr_rows.specs.Formulas.{at_most, different, equal, said}
use Rattle.floyd_symexpr_rows.specs.Rows.{not_number, null}
use Rattle.floyd_symexpr_pointers.specs.Operators.{operand, unary}
use Rattle.floyd_symexpr_pointers.specs.PointerRows.{offset}
use Rattle.floyd_symexpr.specs.declared.evaluation.Evaluated.{Evaluated}
use Rattle.floyd_symexpr.specs.Expressions.{evaluate}
use Rattle.floyd_conditions.specs.declared.branches.Branches.{Branches}
use Rattle.floyd_conditions.specs.declared.branches.Condition.{Condition}

-- the formula where the test is met, and the one where it is not
abbrev pub both_branches : PlainFormula → PlainFormula → Result Branches No
both_branches f g = on_ok (said f) (λ met. on_ok (said g) (λ unmet. Ok (record { met = met; unmet = unmet })))

abbrev pub exchanged : Branches → Branches
exchanged b = record { met = b.unmet; unmet = b.met }

-- a = b
abbrev pub equality : Plain → Plain → Result Branches No
equality a b = both_branches (equal a b) (different a b)

-- a + 1 <= b, and b <= a
abbrev pub less : Plain → Plain → Result Branches No
less a b = on_ok (plus a (literal (pos 1))) (λ more. both_branches (at_most more b) (at_most b a))

abbrev pub swapped : Result Branches No → Result Branches No
swapped d = on_ok d (λ b. Ok (exchanged b))

-- a comparison of two numbers; `a <= b` is met where `b < a` is not
abbrev pub of_numbers : IntOp → Plain → Plain → Result Branches No
of_numbers c.Eq a b = equality a b
of_numbers c.Ne a b = swapped (equality a b)
of_numbers c.Lt a b = less a b
of_numbers c.Le a b = swapped (less b a)
of_numbers c.Gt a b = less b a
of_numbers c.Ge a b = swapped (less a b)
of_numbers op a b = Err not_number

-- of two pointers: an order is that of their offsets
abbrev pub of_pointers : IntOp → Plain → Plain → Result Branches No
of_pointers c.Eq v w = equality v w
of_pointers c.Ne v w = swapped (equality v w)
of_pointers op v w = of_numbers op (offset v) (offset w)

abbrev pub of_operands : IntOp → Operand → Operand → Result Branches No
of_operands op (OfKind a) (OfKind b) = of_numbers op a.term b.term
of_operands op (OfKind a) (Address t w) = Err not_number
of_operands op (Address t v) (OfKind b) = Err not_number
of_operands op (Address t v) (Address u w) = of_pointers op v w

-- `e != 0`
abbrev pub not_zero : Operand → Result Branches No
not_zero (OfKind a) = swapped (equality a.term (literal (pos 0)))
not_zero (Address t v) = swapped (equality v null)

-- the operator and the operands of a comparison
abbrev pub comparison_of : Expr → Option (IntOp × Expr × Expr)
comparison_of (Binary' op p (more_of-Expr a end_of-Expr) q (more_of-Expr b end_of-Expr) t) = if is_comparison op then Some (op, a, b) else None
comparison_of e = None

abbrev pub is_not : UnaryOp → Bool
is_not Neg = false
is_not Complement = false
is_not Not = true

-- a comparison or `!`
abbrev pub is_test : Expr → Bool
is_test (Unary' op p e t) = is_not op
is_test (Binary' op p a q b t) = is_comparison op
is_test e = false

-- what the test needs; what is no test needs what `e != 0` needs, and that is what `!e` needs
abbrev pub zero_needs : Expr → Evaluated → Result Needs No
zero_needs e v =
    on_ok (operand (type_of e) v.term) (λ a. on_ok (unary Not a (record { sides = v.sides; valid = v.valid })) (λ t. Ok t.1))

abbrev pub test_needs : Expr → Evaluated → Result Needs No
test_needs e v = if is_test e then Ok (record { sides = v.sides; valid = v.valid }) else zero_needs e v

module _ (source : Assertion) (structs : Structs) where
  abbrev pub operand_of : Expr → Result Operand No
  operand_of e = on_ok (evaluate source structs e) (λ v. operand (type_of e) v.term)

  abbrev pub compared : IntOp → Expr → Expr → Result Branches No
  compared op a b = on_ok (operand_of a) (λ x. on_ok (operand_of b) (of_operands op x))

  abbrev pub nonzero : Expr → Result Branches No
  nonzero e = on_ok (operand_of e) not_zero

  -- what is no comparison is `e != 0`
  abbrev pub branches_by : Option (IntOp × Expr × Expr) → Expr → Result Branches No
  branches_by (Some c) e = compared c.0 c.1 c.2
  branches_by None e = nonzero e

  abbrev pub plain_branches : Expr → Result Branches No
  plain_branches e = branches_by (comparison_of e) e

  -- `!e` exchanges the branches of e
  abbrev pub branches_of : Expr → Result Branches No
  branches_of (Unary' op p (more_of-Expr e end_of-Expr) t) =
      if is_not op then swapped (branches_of e) else plain_branches (Unary' op p (more_of-Expr e end_of-Expr) t)
  branches_of e = plain_branches e

  abbrev pub needs_of : Expr → Result Needs No
  needs_of e = on_ok (evaluate source structs e) (test_needs e)

  abbrev pub condition : Expr → Result Condition No
  condition e = on_ok (needs_of e) (λ needs. on_ok (branches_of e) (λ b. Ok (record { branches = b; needs = needs })))
