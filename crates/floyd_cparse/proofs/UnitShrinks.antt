-- Readers of the items of a source take tokens, and the loops that read them begin.
use Rattle.std.proofs.Common.{ℕ, suc}
use Rattle.floyd_cparse_types.specs.declared.values.Declared.TheVariants as of
use Rattle.floyd_cparse_statements.specs.Statements.{comma_token}
use Rattle.floyd_cparse_tokens.specs.Tokens.{Types}
use Rattle.floyd_cparse.specs.Units.{limit, separator_token}
use Rattle.floyd_cparse.specs.UnitClauses.{inits, next_value, next_typedef, next_global, external}
use Rattle.floyd_cparse_tokens.proofs.Shrinks.{Eats, one_eats, then_eats, exact_shrinks, exact_eats}
use Rattle.floyd_cparse_types.proofs.TypeShrinks.{dtor_shrinks}
use Rattle.floyd_cparse.proofs.UnitExact.{inits_exact, next_global_exact, next_global_solid, external_exact, external_solid}

module _ (types : Types) where
  pub next_value_eats : (room : ℕ) → Eats (next_value types room (inits types room))
  next_value_eats room = then_eats (one_eats separator_token) (λ _. exact_shrinks (inits_exact types room).exact)

  pub next_typedef_eats : Eats (next_typedef types)
  next_typedef_eats = then_eats (one_eats comma_token) (λ _. dtor_shrinks types (suc limit) of.Type 0)

  pub next_global_eats : Eats (next_global types)
  next_global_eats = exact_eats (next_global_exact types) (next_global_solid types)

  pub external_eats : Eats (external types)
  external_eats = exact_eats (external_exact types) (external_solid types)
