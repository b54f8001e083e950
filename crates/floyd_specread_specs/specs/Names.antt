-- Names of the source, which may be words.
use Rattle.std.specs.Prelude.{ℕ, if◌then◌else◌, List, Option, Some, None}
use Rattle.floyd_lex.specs.Token.{Token}
use Rattle.floyd_termread_tokens.specs.Tokens.{is_name}

abbrev pub any_name : Token → Option (List ℕ)
any_name t = if is_name t then Some t.text else None
