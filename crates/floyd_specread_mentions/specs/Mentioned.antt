-- The names that a specification file mentions under `gv`, by its tokens alone.
use Rattle.std.specs.Prelude.{ℕ, zero, suc, ◌+◌, if◌then◌else◌, List, [], Option, Some, None, length, codes}
use Rattle.floyd_cparse_trees.specs.declared.types.Identifier.{Identifier}
use Rattle.floyd_lex.specs.Token.{TokenList}
use Rattle.floyd_specread_sources.specs.Tables.{put_new}
use Rattle.floyd_specread_words.specs.Calls.{is_call}
use Rattle.floyd_termread_marks.specs.Marks.{found_in, tokens_at}
use Rattle.floyd_termread_scope.specs.Scopes.{Named}
use Rattle.floyd_termread_tokens.specs.Tokens.{given_name}

abbrev pub Names : Type 0
Names = Named (Unit {0})

abbrev pub with_name : Option Identifier → Names → Names
with_name None names = names
with_name (Some x) names = put_new x.name tt names

module _ (bytes : List ℕ) (list : TokenList) where
  -- the name behind a word and an opening parenthesis, where these stand from the token of a number on
  abbrev pub name_at : List ℕ → ℕ → Option Identifier
  name_at word at = if is_call bytes list word at then found_in given_name (tokens_at bytes list (at + 2)) else None

  -- the names that a word takes so among the first so many tokens, each once
  abbrev pub names_among : List ℕ → ℕ → Names
  names_among word zero = []
  names_among word (suc n) = with_name (name_at word n) (names_among word n)

  abbrev pub mentioned : Names
  mentioned = names_among (codes "gv") (length list.items)
