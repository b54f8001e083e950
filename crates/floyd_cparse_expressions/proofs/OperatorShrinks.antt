-- Readers of operators put no tokens back.
use Rattle.std.proofs.Common.{◌≡◌, ℕ, zero, suc, ◌+◌, ◌-◌, pred, length, refl, sub-one}
use Rattle.floyd_lex.specs.declared.kinds.Punctuator.TheVariants as p
use Rattle.floyd_grammar.specs.ParseClauses.{Parser, one, pure, folded, ◌>>=◌}
use Rattle.floyd_cparse_expressions.specs.declared.values.Chain.{Chain}
use Rattle.floyd_cparse_expressions.specs.declared.values.Comma.{Comma}
use Rattle.floyd_cparse_expressions.specs.declared.values.Comma.TheVariants as comma
use Rattle.floyd_cparse_expressions.specs.declared.values.Infix.{Infix}
use Rattle.floyd_cparse_expressions.specs.declared.values.Operand.{Operand}
use Rattle.floyd_cparse_expressions.specs.declared.values.OperandStart.{OperandStart}
use Rattle.floyd_cparse_expressions.specs.declared.values.OperandStart.TheVariants as start
use Rattle.floyd_cparse_tokens.specs.Tokens.{Sight, Types, is_mark}
use Rattle.floyd_cparse_expressions.specs.Expressions.{Whole, Conditional, inside, operand_token, infix_token, question_token, colon_token, assign_token, inner_end, open_token, plus_prefix, no_prefixes}
use Rattle.floyd_cparse_expressions.specs.ExpressionClauses.{nested, assignment, conditional, after_condition, choice, otherwise, operators, unary, operand, after_operand_start, size, inner_expr, prefixes, one_prefix, begins_prefix, is_infix, join}
use Rattle.floyd_cparse_tokens.proofs.Shrinks.{Shrinks, Eats, shrinks, one_eats, pure_shrinks, then_shrinks, then_eats, either_shrinks, folded_shrinks}
use Rattle.floyd_cparse_expressions.proofs.PrefixShrinks.{nested_shrinks, typename_shrinks, one_prefix_eats}
use Rattle.floyd_cparse_expressions.proofs.PostfixShrinks.{postfixes_shrinks}

module _ (types : Types) (room : ℕ) where
  after_operand_start_shrinks : (count : ℕ) (z : OperandStart) → Shrinks (after_operand_start types room (nested types room) count z)
  unfolding after_operand_start inner_expr size
  after_operand_start_shrinks count (start.Name name) = postfixes_shrinks types room _
  after_operand_start_shrinks count (start.Literal literal) = postfixes_shrinks types room _
  after_operand_start_shrinks count (start.Open place) =
      then_shrinks
      (then_shrinks (nested_shrinks types room Whole comma.LeftOut count) (λ x. then_shrinks (shrinks (one_eats (inner_end types (pred room) x))) (λ _. pure_shrinks _)))
      (postfixes_shrinks types room)
  after_operand_start_shrinks count (start.SizeOf place) = then_shrinks (shrinks (one_eats (open_token types room count))) (λ _. then_shrinks (typename_shrinks types room count) (λ type. pure_shrinks _))

  unary_shrinks : (count : ℕ) → Shrinks (unary types room (nested types room) count)
  unfolding unary prefixes operand
  unary_shrinks count =
      then_shrinks (folded_shrinks (begins_prefix types room) plus_prefix (one_prefix types room (nested types room)) (λ all. shrinks (one_prefix_eats types room all)) (no_prefixes count))
      (λ all. then_shrinks (then_shrinks (shrinks (one_eats (operand_token types all.cast room (all.count + length all.items)))) (after_operand_start_shrinks all.count)) (λ x. pure_shrinks _))

  -- an operator of a level, and the operand behind it, of the operators of the level below
  abbrev pub next_operand : ℕ → ℕ → Operand → Parser Sight (Infix × Operand)
  next_operand level below left = one (infix_token room level left) >>= λ op. operators types room (nested types room) below (left.end.count + 1) >>= λ right. pure (op, right)

  operators_shrinks : (level count : ℕ) → Shrinks (operators types room (nested types room) level count)
  unfolding operators
  operators_shrinks zero count = unary_shrinks count
  operators_shrinks (suc level) count =
      then_shrinks (operators_shrinks level count)
      (λ first. folded_shrinks (λ _. is_infix (suc level)) join (next_operand (suc level) level)
      (λ left. then_shrinks (shrinks (one_eats (infix_token room (suc level) left))) (λ op. then_shrinks (operators_shrinks level (left.end.count + 1)) (λ right. pure_shrinks _))) first)

  pub next_operand_eats : (level below : ℕ) (left : Operand) → Eats (next_operand level below left)
  next_operand_eats level below left = then_eats (one_eats (infix_token room level left)) (λ op. then_shrinks (operators_shrinks below (left.end.count + 1)) (λ right. pure_shrinks _))

  conditional_shrinks : (c : Comma) (count : ℕ) → Shrinks (conditional types room (nested types room) c count)
  unfolding conditional after_condition choice otherwise
  conditional_shrinks c count =
      then_shrinks (operators_shrinks 10 count)
      (λ condition. either_shrinks (is_mark p.Question)
      (then_shrinks (shrinks (one_eats (question_token room condition)))
      (λ place. then_shrinks (nested_shrinks types room Whole (inside c) condition.end.count)
      (λ middle. then_shrinks (shrinks (one_eats (colon_token types c (pred room) middle)))
      (λ _. then_shrinks (nested_shrinks types room Conditional c middle.end.count) (λ last. pure_shrinks _)))))
      (pure_shrinks condition))

  pub assignment_eats : (c : Comma) (all : Chain) → Eats (assignment types room (nested types room) c all)
  unfolding assignment
  assignment_eats c all = then_eats (one_eats (assign_token room all)) (λ by. then_shrinks (conditional_shrinks c (all.last.end.count + 1)) (λ value. pure_shrinks _))

  -- operators of no level, and of one
  pub operators_none : (level count : ℕ) → level ≡ 0 → operators types room (nested types room) level count ≡ unary types room (nested types room) count
  unfolding operators
  operators_none level count e = rw e refl

  pub operators_some : (level count : ℕ) → (level ≡ 0 → ⊥) → operators types room (nested types room) level count ≡ (operators types room (nested types room) (level - 1) count >>= folded (λ _. is_infix level) join (next_operand level (level - 1)))
  unfolding operators
  operators_some zero count some = absurd (some refl)
  operators_some (suc level) count some = rw sub-one refl
