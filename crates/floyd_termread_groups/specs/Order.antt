-- Laws of grouping. What a grouped tree shows of its text is what the written tree shows, in the order of the text. Each
-- row has operators of its strength alone, and each of its operands, and what stands behind operators before a formula,
-- is stronger. No other tree shows the same and has such rows.
use Rattle.std.specs.Prelude.{◌≡◌, ℕ, List, [], ◌∷◌, ◌++◌, map, Option, Some, None}
use Rattle.floyd_text.specs.declared.place.Place.{Place}
use Rattle.floyd_cparse_trees.specs.declared.types.Identifier.{Identifier}
use Rattle.floyd_termread_trees.specs.declared.words.Word.{Word}
use Rattle.floyd_termread_trees.specs.declared.written.Infix.{Infix}
use Rattle.floyd_termread_trees.specs.declared.written.Opening.{Opening}
use Rattle.floyd_termread_trees.specs.declared.written.Prefix.{Prefix}
use Rattle.floyd_termread_trees.specs.declared.written.Prefix.TheVariants as prefix
use Rattle.floyd_termread_trees.specs.declared.written.Written as w
use Rattle.floyd_termread_groups.specs.declared.grouped.Grouped as g
use Rattle.floyd_termread_groups.specs.Groups.{grouped}

-- what a tree shows of its text
pub data Piece : Type 0 where
  Number : ℕ → Place → Piece
  Named : Identifier → Piece
  Worded : Word → Place → Piece
  Tagged : Place → Identifier → Piece
  Field : Place → Identifier → Piece
  Opens : Opening → Place → Piece
  Closes : Option Place → Piece
  Before : Prefix → Piece
  Between : Infix → Place → Piece

abbrev mutual
  pub text_of : w.Written → List Piece
  text_of w.Missing = []
  text_of (w.Literal value place) = Number value place ∷ []
  text_of (w.Name name) = Named name ∷ []
  text_of (w.Word word place) = Worded word place ∷ []
  text_of (w.Struct place tag) = Tagged place tag ∷ []
  text_of (w.Field place name) = Field place name ∷ []
  text_of (w.Bracket' opening place shape items close) = Opens opening place ∷ (texts_of items ++ Closes close ∷ [])
  text_of (w.Prefixed' prefixes p (w.more_of-Written x w.end_of-Written)) = map Before prefixes ++ text_of x
  text_of (w.Chain' p (w.more_of-Written x w.end_of-Written) shape links) = text_of x ++ text_of_links links

  pub texts_of : {m : _} → w.Row_of-Written m → List Piece
  texts_of w.end_of-Written = []
  texts_of (w.more_of-Written x xs) = text_of x ++ texts_of xs

  pub text_of_links : {m : _} → w.Row_of-Link m → List Piece
  text_of_links w.end_of-Link = []
  text_of_links (w.more_of-Link op place x rest) = Between op place ∷ (text_of x ++ text_of_links rest)

-- a "-" that is part of a number
abbrev pub sign_piece : Option Place → List Piece
sign_piece None = []
sign_piece (Some at) = Before (prefix.Minus at) ∷ []

abbrev mutual
  pub shown : g.Grouped → List Piece
  shown g.Missing = []
  shown (g.Literal minus value place) = sign_piece minus ++ Number value place ∷ []
  shown (g.Name name) = Named name ∷ []
  shown (g.Word word place) = Worded word place ∷ []
  shown (g.Struct place tag) = Tagged place tag ∷ []
  shown (g.Field place name) = Field place name ∷ []
  shown (g.Bracket' opening place shape items close) = Opens opening place ∷ (all_shown items ++ Closes close ∷ [])
  shown (g.Prefixed' prefixes p (g.more_of-Grouped x g.end_of-Grouped)) = map Before prefixes ++ shown x
  shown (g.Row' strength p (g.more_of-Grouped x g.end_of-Grouped) shape links) = shown x ++ links_shown links

  pub all_shown : {m : _} → g.Row_of-Grouped m → List Piece
  all_shown g.end_of-Grouped = []
  all_shown (g.more_of-Grouped x xs) = shown x ++ all_shown xs

  pub links_shown : {m : _} → g.Row_of-GroupedLink m → List Piece
  links_shown g.end_of-GroupedLink = []
  links_shown (g.more_of-GroupedLink op place x rest) = Between op place ∷ (shown x ++ links_shown rest)

-- A law. Grouping keeps the order of the text.
abbrev pub KeepsOrder : Type 0
KeepsOrder = (tree : w.Written) → shown (grouped tree) ≡ text_of tree
