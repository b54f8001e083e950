-- The brackets that are open before the next token.
use Rattle.std.proofs.Common.{◌≡◌, ℕ, ◌+◌, option_map, refl, add-one}
use Rattle.std.specs.Prelude.{slice_get}
use Rattle.floyd_lex.specs.Token.{Lexeme, TokenList}
use Rattle.floyd_termread.specs.Brackets.{open_after, open_before}

pub one_more : (list : TokenList) (i : ℕ) → open_before list (i + 1) ≡ open_after (open_before list i) (option_map (λ (x : Lexeme). x.kind) (slice_get list.items i))
one_more list i = rw add-one refl
