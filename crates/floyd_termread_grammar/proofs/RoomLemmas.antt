-- What is read by the room that is left.
use Rattle.std.proofs.Common.{◌≡◌, ℕ, zero, suc, ◌-◌, Err, refl, sub-one}
use Rattle.floyd_grammar.specs.ParseClauses.{one}
use Rattle.floyd_termread_tokens.specs.Tokens.{without_room}
use Rattle.floyd_termread_grammar.specs.declared.values.Operand.{Operand}
use Rattle.floyd_termread_tables.specs.declared.values.Want.{Want}
use Rattle.floyd_termread_grammar.specs.TermClauses.{nested, reading}

pub nested_none : (room : ℕ) (wanted : Want) (count : ℕ) → room ≡ 0 → nested room wanted count ≡ one {A = Operand} (λ t. Err (without_room count t))
unfolding nested
nested_none room wanted count e = rw e refl

pub nested_some : (room : ℕ) (wanted : Want) (count : ℕ) → (room ≡ 0 → ⊥) → nested room wanted count ≡ reading (room - 1) (nested (room - 1)) wanted count
unfolding nested
nested_some zero wanted count some = absurd (some refl)
nested_some (suc room) wanted count some = rw sub-one refl
