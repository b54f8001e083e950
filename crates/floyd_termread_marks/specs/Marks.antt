-- Tokens between terms and formulas, from the token of a number on, where so many brackets are open before it. What must stand
-- next is taken, and everything else is refused there; a token that stands deeper than 200 is too deep, and goes nowhere.
use Rattle.std.specs.Prelude.{◌≡◌, ℕ, ◌+◌, Bool, true, false, ◌&&◌, if◌then◌else◌, List, [], ◌∷◌, Option, Some, None, Result, Ok, Err, bytes_eq, codes}
use Rattle.floyd_text.specs.declared.place.Place.{Place}
use Rattle.floyd_lex.specs.declared.kinds.Punctuator.{Punctuator}
use Rattle.floyd_lex.specs.Token.{Token, TokenList}
use Rattle.floyd_grammar.specs.ParseClauses.{leads}
use Rattle.floyd_termread_trees.specs.declared.words.Word.{Word}
use Rattle.floyd_termread_trees.specs.declared.words.Word.TheVariants as w
use Rattle.floyd_termread_tokens.specs.SeenClauses.{tokens_from, token_at}
use Rattle.floyd_termread_tokens.specs.Tokens.{unexpected, is_mark, is_name, place_if, word_at, demand}
use Rattle.floyd_termread_grammar.specs.Reading.{refusal_before}
use Rattle.floyd_termread_marks.specs.declared.words.AssertionWord.{AssertionWord}
use Rattle.floyd_termread_marks.specs.declared.words.AssertionWord.TheVariants as a
use Rattle.floyd_termread_phrases.specs.Reads.{Answer, Reads}

-- the words of assertions
abbrev pub text_of : AssertionWord → List ℕ
text_of a.Exists = codes "EX"
text_of a.Prop = codes "PROP"
text_of a.Local = codes "LOCAL"
text_of a.Sep = codes "SEP"
text_of a.Temp = codes "temp"
text_of a.DataAt = codes "data_at"
text_of a.DataAtDefault = codes "data_at_"
text_of a.FieldAt = codes "field_at"
text_of a.Padding = codes "padding"
text_of a.Valid = codes "valid"
text_of a.Anything = codes "TT"

abbrev pub is_word : AssertionWord → Token → Bool
is_word which t = is_name t && bytes_eq t.text (text_of which)

abbrev pub word_place : AssertionWord → Token → Option Place
word_place which t = place_if (is_word which t) t

abbrev pub mark_place : Punctuator → Token → Option Place
mark_place which t = place_if (is_mark which t) t

-- a word with which a type begins
abbrev pub is_type_word : Option Word → Bool
is_type_word (Some (w.Type x)) = true
is_type_word rest = false

abbrev pub begins_type : Token → Bool
begins_type t = is_type_word (word_at t)

-- the word of a part
abbrev pub part_word : Token → Option AssertionWord
part_word t =
    if is_word a.DataAt t then Some a.DataAt
    else if is_word a.DataAtDefault t then Some a.DataAtDefault
    else if is_word a.FieldAt t then Some a.FieldAt
    else if is_word a.Padding t then Some a.Padding
    else if is_word a.Valid t then Some a.Valid
    else if is_word a.Anything t then Some a.Anything
    else None

-- what is found in the next token
abbrev pub found_in : {A : Type 0} → (Token → Option A) → List Token → Option A
found_in find [] = None
found_in find (t ∷ ts) = find t

-- the one or the other
abbrev pub chosen : {A : Type 0} → Bool → Reads A → Reads A → Reads A
chosen true first second = first
chosen false first second = second

module _ (bytes : List ℕ) (list : TokenList) where
  abbrev pub tokens_at : ℕ → List Token
  tokens_at at = tokens_from bytes list at

  abbrev pub taken_or : {A : Type 0} → ℕ → List Token → Result A ℕ → Answer A
  taken_or at left (Ok x) = Ok (x, at + 1)
  taken_or at left (Err cause) = Err (refusal_before list.file bytes left cause)

  abbrev pub taken : {A : Type 0} → ℕ → Option A → ℕ → List Token → Answer A
  taken depth found at [] = Err (refusal_before list.file bytes [] unexpected)
  taken depth found at (t ∷ ts) = taken_or at (t ∷ ts) (demand 200 depth t found)

  -- the next token is taken for what was found in it
  abbrev pub taking : {A : Type 0} → ℕ → Option A → Reads A
  taking depth found at answer = answer ≡ taken depth found at (tokens_at at)

  -- a token in which something is found
  abbrev pub one : {A : Type 0} → ℕ → (Token → Option A) → Reads A
  one depth find at = taking depth (found_in find (tokens_at at)) at

  abbrev pub mark : ℕ → Punctuator → Reads Place
  mark depth which = one depth (mark_place which)

  abbrev pub word : ℕ → AssertionWord → Reads Place
  word depth which = one depth (word_place which)

  -- the next token is so
  abbrev pub is_next : (Token → Bool) → ℕ → Bool
  is_next test at = leads test (tokens_at at)

  -- by the next token the one or the other
  abbrev pub if_next : {A : Type 0} → (Token → Bool) → Reads A → Reads A → Reads A
  if_next test first second at = chosen (is_next test at) first second at

  -- where the token of that number stands
  abbrev pub place_at : ℕ → Place
  place_at at = (token_at bytes list at).place
