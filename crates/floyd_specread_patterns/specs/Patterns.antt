-- Patterns, from the token of a number on, where no bracket is open before it.
--
--   pat = "nil" | name "::" name | "Leaf" | "Node" "(" name "," name "," name ")"
--
-- The names are no words, and no two of one pattern are equal.
use Rattle.std.specs.Prelude.{ℕ, ◌+◌, Bool, false, ◌&&◌, ◌||◌, if◌then◌else◌, List, [], ◌∷◌, Option, Some, None, bytes_eq}
use Rattle.floyd_lex.specs.declared.kinds.Punctuator.TheVariants as p
use Rattle.floyd_lex.specs.Token.{Token, TokenList}
use Rattle.floyd_cparse_trees.specs.declared.types.Identifier.{Identifier}
use Rattle.floyd_assert_trees.specs.declared.pattern.Pattern.{Pattern}
use Rattle.floyd_assert_trees.specs.declared.pattern.Pattern.TheVariants.{Nil, Cons, Leaf, Node}
use Rattle.floyd_termread_tokens.specs.Tokens.{free_name, is_mark, is_name}
use Rattle.floyd_termread_phrases.specs.Reads.{Reads, pure, ◌>>=◌, ◌>>◌}
use Rattle.floyd_termread_marks.specs.Marks.{if_next, is_next, mark, one}
use Rattle.floyd_specread_words.specs.declared.words.SpecWord.{SpecWord}
use Rattle.floyd_specread_words.specs.declared.words.SpecWord.TheVariants as w
use Rattle.floyd_specread_words.specs.Words.{is_word, word}

abbrev pub is_taken : List (List ℕ) → List ℕ → Bool
is_taken [] x = false
is_taken (y ∷ ys) x = bytes_eq y x || is_taken ys x

abbrev pub unless_taken : List (List ℕ) → Option Identifier → Option (List ℕ)
unless_taken names None = None
unless_taken names (Some i) = if is_taken names i.name then None else Some i.name

-- a name that is none of these
abbrev pub new_name : List (List ℕ) → Token → Option (List ℕ)
new_name names t = unless_taken names (free_name t)

module _ (bytes : List ℕ) (list : TokenList) where
  abbrev pub fresh : ℕ → List (List ℕ) → Reads (List ℕ)
  fresh depth names = one bytes list depth (new_name names)

  abbrev pub bare : SpecWord → Pattern → Reads Pattern
  bare which pattern = word bytes list 0 which >> pure pattern

  -- name "::" name
  abbrev pub cons : Reads Pattern
  cons = do
    item ← fresh 0 []
    _ ← mark bytes list 0 p.ColonColon
    rest ← fresh 0 (item ∷ [])
    pure (Cons item rest)

  -- "Node" "(" name
  abbrev pub node_front : Reads (List ℕ)
  node_front = do
    _ ← word bytes list 0 w.Node
    _ ← mark bytes list 0 p.OpenParen
    left ← fresh 1 []
    pure left

  -- "," name
  abbrev pub next_name : List (List ℕ) → Reads (List ℕ)
  next_name names = mark bytes list 1 p.Comma >> fresh 1 names

  abbrev pub node : Reads Pattern
  node = do
    left ← node_front
    item ← next_name (left ∷ [])
    right ← next_name (left ∷ item ∷ [])
    _ ← mark bytes list 1 p.CloseParen
    pure (Node left item right)

  abbrev pub pattern : Reads Pattern
  pattern =
      if_next bytes list (is_word w.Nil) (bare w.Nil Nil)
      (if_next bytes list (is_word w.Leaf) (bare w.Leaf Leaf)
      (if_next bytes list (is_word w.Node) node cons))

  -- ---- What has the form of a pattern up to "=>", also with words as names.
  abbrev pub is_arrow : ℕ → Bool
  is_arrow at = is_next bytes list (is_mark p.FatArrow) at

  abbrev pub is_bare : ℕ → Bool
  is_bare at = (is_next bytes list (is_word w.Nil) at || is_next bytes list (is_word w.Leaf) at) && is_arrow (at + 1)

  abbrev pub is_cons : ℕ → Bool
  is_cons at = is_next bytes list is_name at && (is_next bytes list (is_mark p.ColonColon) (at + 1) && (is_next bytes list is_name (at + 2) && is_arrow (at + 3)))

  -- name ","
  abbrev pub is_item : ℕ → Bool
  is_item at = is_next bytes list is_name at && is_next bytes list (is_mark p.Comma) (at + 1)

  -- name ")" "=>"
  abbrev pub is_last : ℕ → Bool
  is_last at = is_next bytes list is_name at && (is_next bytes list (is_mark p.CloseParen) (at + 1) && is_arrow (at + 2))

  abbrev pub is_node : ℕ → Bool
  is_node at = is_next bytes list (is_word w.Node) at && (is_next bytes list (is_mark p.OpenParen) (at + 1) && (is_item (at + 2) && (is_item (at + 4) && is_last (at + 6))))

  abbrev pub is_pattern : ℕ → Bool
  is_pattern at = is_bare at || (is_cons at || is_node at)
