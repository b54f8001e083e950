-- The names among so many tokens, with one more.
use Rattle.std.proofs.Common.{◌≡◌, ℕ, ◌+◌, List, ap, add-one}
use Rattle.floyd_lex.specs.Token.{TokenList}
use Rattle.floyd_specread_mentions.specs.Mentioned.{name_at, names_among, with_name}

pub one_more : (bytes : List ℕ) (list : TokenList) (word : List ℕ) (n : ℕ) → names_among bytes list word (n + 1) ≡ with_name (name_at bytes list word n) (names_among bytes list word n)
one_more bytes list word n = ap (names_among bytes list word) (add-one n)
