-- Readers of type names and of prefixes put no tokens back.
use Rattle.std.proofs.Common.{ℕ, ◌+◌, pred, length}
use Rattle.floyd_cparse_expressions.specs.declared.values.Comma.{Comma}
use Rattle.floyd_cparse_types.specs.declared.values.Declared.TheVariants as of
use Rattle.floyd_cparse_expressions.specs.declared.values.Prefixes.{Prefixes}
use Rattle.floyd_cparse_expressions.specs.declared.values.PrefixStart.{PrefixStart}
use Rattle.floyd_cparse_expressions.specs.declared.values.PrefixStart.TheVariants as prefix_start
use Rattle.floyd_cparse_tokens.specs.Tokens.{Types}
use Rattle.floyd_cparse_expressions.specs.Expressions.{Level, prefix_token, typename_end}
use Rattle.floyd_cparse_expressions.specs.ExpressionClauses.{nested, one_prefix, after_prefix_start, typename, typename_declarator}
use Rattle.floyd_cparse_expressions.proofs.ExpressionExact.{nested_exact}
use Rattle.floyd_cparse_tokens.proofs.Shrinks.{Shrinks, Eats, shrinks, one_eats, pure_shrinks, then_shrinks, then_eats, exact_shrinks}
use Rattle.floyd_cparse_types.proofs.TypeShrinks.{specs_eats, dtor_shrinks}

module _ (types : Types) (room : ℕ) where
  pub nested_shrinks : (level : Level) (c : Comma) (count : ℕ) → Shrinks (nested types room level c count)
  nested_shrinks level c count = exact_shrinks ((nested_exact types room).exact level c count)

  pub typename_shrinks : (count : ℕ) → Shrinks (typename types room (nested types room) count)
  unfolding typename typename_declarator
  typename_shrinks count =
      then_shrinks (shrinks (specs_eats types room count))
      (λ specifiers. then_shrinks (dtor_shrinks types room of.Nothing count)
      (λ declarator. then_shrinks (shrinks (one_eats (typename_end types (pred room) declarator))) (λ _. pure_shrinks _)))

  after_prefix_start_shrinks : (count : ℕ) (z : PrefixStart) → Shrinks (after_prefix_start types room (nested types room) count z)
  unfolding after_prefix_start
  after_prefix_start_shrinks count (prefix_start.Op op place) = pure_shrinks _
  after_prefix_start_shrinks count (prefix_start.Step op place) = pure_shrinks _
  after_prefix_start_shrinks count (prefix_start.Cast place) = then_shrinks (typename_shrinks count) (λ type. pure_shrinks _)

  pub one_prefix_eats : (all : Prefixes) → Eats (one_prefix types room (nested types room) all)
  unfolding one_prefix
  one_prefix_eats all = then_eats (one_eats (prefix_token types room (all.count + length all.items))) (after_prefix_start_shrinks all.count)
