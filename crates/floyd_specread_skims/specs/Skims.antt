-- Phrases, parts and lists by the grammar alone, from the token of a number on, where so many brackets are open before it. What
-- they say is not kept, no name is looked up, and no sort is judged.
use Rattle.std.specs.Prelude.{ℕ, ◌+◌, Bool, true, false, List, [], Option, Some, None}
use Rattle.floyd_lex.specs.declared.kinds.Punctuator.{Punctuator}
use Rattle.floyd_lex.specs.declared.kinds.Punctuator.TheVariants as p
use Rattle.floyd_lex.specs.Token.{TokenList}
use Rattle.floyd_termread_trees.specs.declared.written.Written.{Written}
use Rattle.floyd_termread_tables.specs.declared.values.Want.{Want}
use Rattle.floyd_termread_tables.specs.declared.values.Want.TheVariants as want
use Rattle.floyd_termread_tokens.specs.Tokens.{free_name, given_name}
use Rattle.floyd_termread_passages.specs.Passages.{End, up_to}
use Rattle.floyd_termread_phrases.specs.Phrases.{passage}
use Rattle.floyd_termread_phrases.specs.Reads.{Answer, Reads, pure, ◌>>◌}
use Rattle.floyd_termread_marks.specs.declared.words.AssertionWord.{AssertionWord}
use Rattle.floyd_termread_marks.specs.declared.words.AssertionWord.TheVariants as word
use Rattle.floyd_termread_marks.specs.Lists.{before_item, Listed}
use Rattle.floyd_termread_marks.specs.Marks as marks
use Rattle.floyd_specread_skims.specs.declared.lists.Skimmed.{Skimmed}
use Rattle.floyd_specread_skims.specs.declared.lists.Skimmed.TheVariants as s

abbrev pub Skims : Type 1
Skims = Reads (Unit {0})

-- where it ends
abbrev pub ended : Written → End → Answer (Unit {0})
ended tree end = up_to end tt

module _ (bytes : List ℕ) (list : TokenList) (depth : ℕ) where
  abbrev pub phrase : Want → Skims
  phrase wanted = passage bytes list depth wanted ended

  -- "," and what is wanted
  abbrev pub behind : Want → Skims
  behind wanted = marks.mark bytes list depth p.Comma >> phrase wanted

  -- [share ","]
  abbrev pub share : Skims
  share = marks.if_next bytes list marks.begins_type (pure tt) (phrase want.Term >> (marks.mark bytes list depth p.Comma >> pure tt))

  -- [share ","] type
  abbrev pub object : Skims
  object = share >> phrase want.Type

  -- an argument behind so many, with the comma before it
  abbrev pub argument_by : ℕ → Skims
  argument_by n = before_item bytes list depth p.Comma n >> phrase want.Term

  abbrev pub argument_behind : List (Unit {0}) → Skims
  argument_behind xs = phrase want.Term

  abbrev pub more_arguments : Reads (List (Unit {0}))
  more_arguments = Listed bytes list depth p.Comma argument_behind []

  -- "," term ")"
  abbrev pub last : Skims
  last = behind want.Term >> (marks.mark bytes list depth p.CloseParen >> pure tt)

  -- "," term "," term ")"
  abbrev pub last_two : Skims
  last_two = behind want.Term >> last

  -- "," path "," term ["," term] ")"
  abbrev pub path_last : Bool → Skims
  path_last has_value = behind want.Path >> marks.chosen has_value last_two last

  -- behind the type of a part with that word
  abbrev pub behind_type : AssertionWord → Skims
  behind_type word.DataAt = last_two
  behind_type word.DataAtDefault = last
  behind_type word.FieldAt = path_last true
  behind_type other = path_last false

  abbrev pub inside : AssertionWord → Skims
  inside which = object >> behind_type which

-- "(" term ")"
abbrev pub address : List ℕ → TokenList → ℕ → Skims
address bytes list depth = marks.mark bytes list depth p.OpenParen >> (phrase bytes list (depth + 1) want.Term >> (marks.mark bytes list (depth + 1) p.CloseParen >> pure tt))

abbrev pub opened : List ℕ → TokenList → ℕ → AssertionWord → Skims
opened bytes list depth which = marks.mark bytes list depth p.OpenParen >> inside bytes list (depth + 1) which

module _ (bytes : List ℕ) (list : TokenList) (depth : ℕ) where
  -- name "(" [term {"," term}] ")"
  abbrev pub predicate : Skims
  predicate = marks.one bytes list depth free_name >> (marks.mark bytes list depth p.OpenParen >> (more_arguments bytes list (depth + 1) >> pure tt))

  -- a part behind its word; the last word is `TT`
  abbrev pub behind_word : AssertionWord → Skims
  behind_word word.DataAt = opened bytes list depth word.DataAt
  behind_word word.DataAtDefault = opened bytes list depth word.DataAtDefault
  behind_word word.FieldAt = opened bytes list depth word.FieldAt
  behind_word word.Padding = opened bytes list depth word.Padding
  behind_word word.Valid = address bytes list depth
  behind_word other = pure tt

  abbrev pub worded : AssertionWord → Skims
  worded which = marks.word bytes list depth which >> behind_word which

  abbrev pub part_by : Option AssertionWord → Skims
  part_by None = predicate
  part_by (Some which) = worded which

  abbrev pub part : Skims
  part at = part_by (marks.found_in marks.part_word (marks.tokens_at bytes list at)) at

  abbrev pub name : Skims
  name = marks.one bytes list depth given_name >> pure tt

  -- ---- lists

  abbrev pub item : Skimmed → Skims
  item s.Term = phrase bytes list depth want.Term
  item s.Formula = phrase bytes list depth want.Formula
  item s.Name = name
  item s.Part = part

  abbrev pub item_by : Punctuator → Skimmed → ℕ → Skims
  item_by between what n = before_item bytes list depth between n >> item what

  abbrev pub item_behind : Skimmed → List (Unit {0}) → Skims
  item_behind what xs = item what

  abbrev pub more : Punctuator → Skimmed → Reads (List (Unit {0}))
  more between what = Listed bytes list depth between (item_behind what) []

-- in parentheses, with a mark between them
abbrev pub list_of : List ℕ → TokenList → ℕ → Punctuator → Skimmed → Skims
list_of bytes list depth between what = marks.mark bytes list depth p.OpenParen >> (more bytes list (depth + 1) between what >> pure tt)
