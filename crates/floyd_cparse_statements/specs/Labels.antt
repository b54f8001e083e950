-- The grammar of the labels of a switch. `room` is left where they stand.
--
--   label = "case" ["-"] literal ":" | "default" ":"
use Rattle.std.specs.Prelude.{ℕ, Bool, true, false, ◌||◌, if◌then◌else◌, Option, Some, None, Result, List}
use Rattle.floyd_text.specs.declared.place.Place.{Place}
use Rattle.floyd_lex.specs.declared.kinds.Punctuator.TheVariants as p
use Rattle.floyd_lex.specs.declared.kinds.Keyword.TheVariants as w
use Rattle.floyd_grammar.specs.Phrase.{Phrase, one, pure, ◌>>=◌, ◌>>◌}
use Rattle.floyd_cparse_trees.specs.declared.statements.SwitchLabel.{SwitchLabel}
use Rattle.floyd_cparse_trees.specs.declared.statements.SwitchLabel.TheVariants as switch
use Rattle.floyd_cparse_trees.specs.declared.types.Literal.{Literal}
use Rattle.floyd_cparse_statements.specs.declared.values.CaseStart.{CaseStart}
use Rattle.floyd_cparse_statements.specs.declared.values.CaseStart.TheVariants as case
use Rattle.floyd_cparse_statements.specs.declared.values.LabelLiteral.{LabelLiteral}
use Rattle.floyd_cparse_statements.specs.declared.values.LabelStart.{LabelStart}
use Rattle.floyd_cparse_statements.specs.declared.values.LabelStart.TheVariants as word
use Rattle.floyd_cparse_tokens.specs.Tokens.{Sight, Types, is_mark, is_word, literal_of, unexpected, blame, demand, found_or, place_if}

-- the words with which a label of a switch begins
abbrev pub start_of_label : Sight → Option LabelStart
start_of_label s =
    if is_word w.Case s then Some word.Case
    else if is_word w.Default s then Some (word.Default s.token.place)
    else None

abbrev pub is_label_word : Sight → Bool
is_label_word s = is_word w.Case s || is_word w.Default s

-- what may stand behind `case`: `-`, or a literal
abbrev pub literal_with : List ℕ → Option Literal → Option LabelLiteral
literal_with text None = None
literal_with text (Some literal) = Some record { literal = literal; text = text }

abbrev pub label_literal : Sight → Option LabelLiteral
label_literal s = literal_with s.token.text (literal_of s)

abbrev pub case_literal : Option LabelLiteral → Option CaseStart
case_literal None = None
case_literal (Some literal) = Some (case.Literal literal)

abbrev pub start_of_case : Sight → Option CaseStart
start_of_case s = if is_mark p.Minus s then Some case.Minus else case_literal (label_literal s)

-- The first label must stand behind `{`, and a further one may stand behind a statement.
abbrev pub label_token : Types → ℕ → Bool → Sight → Result LabelStart ℕ
label_token types room first s = found_or (if first then blame types room 0 unexpected s else unexpected) (start_of_label s)

abbrev pub case_token : Types → ℕ → Sight → Result CaseStart ℕ
case_token types room s = demand types room 0 unexpected s (start_of_case s)

-- behind `-`, which counts
abbrev pub literal_token : Types → ℕ → Sight → Result LabelLiteral ℕ
literal_token types room s = demand types room 1 unexpected s (label_literal s)

abbrev pub colon_token : Types → ℕ → Sight → Result Place ℕ
colon_token types room s = demand types room 0 unexpected s (place_if (is_mark p.Colon s) s)

-- What is built.
abbrev pub case_label : Bool → LabelLiteral → SwitchLabel
case_label negative x = switch.Case negative x.literal x.text

module _ (types : Types) where
  -- "case" ["-"] literal ":" | "default" ":"
  abbrev pub after_case : ℕ → CaseStart → Phrase Sight SwitchLabel
  after_case room case.Minus = one (literal_token types room) >>= λ x. pure (case_label true x)
  after_case room (case.Literal x) = pure (case_label false x)

  abbrev pub after_label_word : ℕ → LabelStart → Phrase Sight SwitchLabel
  after_label_word room word.Case = one (case_token types room) >>= after_case room
  after_label_word room (word.Default place) = pure (switch.Default place)

  abbrev pub label_name : ℕ → Bool → Phrase Sight SwitchLabel
  label_name room first = one (label_token types room first) >>= after_label_word room

  abbrev pub switch_label : ℕ → Bool → Phrase Sight SwitchLabel
  switch_label room first = do
    label ← label_name room first
    _ ← one (colon_token types room)
    pure label
