-- Sorts by the room that is left.
use Rattle.std.proofs.Common.{◌≡◌, ℕ, zero, suc, ◌-◌, Err, List, refl, sub-one}
use Rattle.floyd_lex.specs.Token.{Token}
use Rattle.floyd_grammar.specs.ParseClauses.{one}
use Rattle.floyd_termread_trees.specs.declared.written.SortItem.{SortItem}
use Rattle.floyd_termread_tokens.specs.Tokens.{without_room}
use Rattle.floyd_termread_sorts.specs.SortClauses.{sorts, sort}

pub sorts_none : (room count : ℕ) → room ≡ 0 → sorts room count ≡ one {A = List SortItem} (λ t. Err (without_room count t))
unfolding sorts
sorts_none room count e = rw e refl

pub sorts_some : (room count : ℕ) → (room ≡ 0 → ⊥) → sorts room count ≡ sort (room - 1) (sorts (room - 1)) count
unfolding sorts
sorts_some zero count e = absurd (e refl)
sorts_some (suc room) count e = rw sub-one refl
