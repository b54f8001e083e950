-- The calls among so many tokens, with one more.
use Rattle.std.proofs.Common.{◌≡◌, ℕ, ◌+◌, List, ◌++◌, refl, add-one}
use Rattle.floyd_lex.specs.Token.{TokenList}
use Rattle.floyd_specread_words.specs.Calls.{call_at, calls_from}

pub one_more : (bytes : List ℕ) (list : TokenList) (name : List ℕ) (from n : ℕ) → calls_from bytes list name from (n + 1) ≡ calls_from bytes list name from n ++ call_at bytes list name (from + n)
one_more bytes list name from n = rw add-one refl
