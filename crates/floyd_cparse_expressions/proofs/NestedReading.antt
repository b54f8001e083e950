-- Readers of expressions one bracket further out.
use Rattle.std.proofs.Common.{◌≡◌, ℕ, zero, suc, ◌-◌, Err, refl, sub-one}
use Rattle.floyd_grammar.specs.ParseClauses.{one, pure, ◌>>=◌}
use Rattle.floyd_cparse_expressions.specs.declared.values.Comma.{Comma}
use Rattle.floyd_cparse_tokens.specs.Tokens.{Types, without_room}
use Rattle.floyd_cparse_expressions.specs.Expressions.{Level, Whole, Conditional, chain_operand}
use Rattle.floyd_cparse_expressions.specs.ExpressionClauses.{nested, at_level, expr, chain, conditional}

-- expressions one bracket further out, where nothing is left and where something is
pub nested_none : (types : Types) (n : ℕ) (level : Level) (c : Comma) (count : ℕ) → n ≡ 0 → nested types n level c count ≡ one (λ s. Err (without_room count s))
unfolding nested
nested_none types n level c count e = rw e refl

pub nested_whole : (types : Types) (n : ℕ) (c : Comma) (count : ℕ) → (n ≡ 0 → ⊥) → nested types n Whole c count ≡ (chain types (n - 1) (nested types (n - 1)) c count >>= λ all. pure (chain_operand all))
unfolding nested at_level expr
nested_whole types zero c count some = absurd (some refl)
nested_whole types (suc n) c count some = rw sub-one refl

pub nested_conditional : (types : Types) (n : ℕ) (c : Comma) (count : ℕ) → (n ≡ 0 → ⊥) → nested types n Conditional c count ≡ conditional types (n - 1) (nested types (n - 1)) c count
unfolding nested at_level
nested_conditional types zero c count some = absurd (some refl)
nested_conditional types (suc n) c count some = rw sub-one refl
