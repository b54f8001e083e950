-- What one token of a script is read as, or for what cause it is refused.
use Rattle.std.specs.Prelude.{ℕ, ◌+◌, Bool, true, false, not, ◌&&◌, ◌||◌, if◌then◌else◌, codes, Option, Some, None, Result, Ok, Err}
use Rattle.floyd_text.specs.declared.place.Place.{Place}
use Rattle.floyd_text.specs.declared.rule.Rule.{Rule}
use Rattle.floyd_lex.specs.declared.kinds.Punctuator.TheVariants as p
use Rattle.floyd_cparse_trees.specs.declared.types.Identifier.{Identifier}
use Rattle.floyd_script_trees.specs.Words.{rule_of}
use Rattle.floyd_script_tokens.specs.Sights.{Sight, is_mark, is_name, is_word, names_hypothesis, names_other, unexpected, unknown, too_deep}
use Rattle.floyd_script_tokens.specs.declared.heads.Head.{Head}
use Rattle.floyd_script_tokens.specs.declared.heads.Opening.{Opening}
use Rattle.floyd_script_tokens.specs.declared.heads.Opening.TheVariants.{Plain, Round, Square}

-- Items of terms, formulas and assertions, which are lists of tokens here. `inside` says that brackets are open around them,
-- and `room` that one more may be.
abbrev pub is_closing : Sight → Bool
is_closing s = is_mark p.CloseParen s || is_mark p.CloseBracket s

abbrev pub ends_phrase : Bool → Sight → Bool
ends_phrase inside s = is_closing s || (not inside && is_mark p.Semicolon s)

abbrev pub opening_of : Bool → Opening → Result Opening ℕ
opening_of true o = Ok o
opening_of false o = Err too_deep

abbrev pub item_of : Bool → Bool → Sight → Result Opening ℕ
item_of inside room s =
    if is_mark p.OpenParen s then opening_of room Round
    else if is_mark p.OpenBracket s then opening_of room Square
    else if ends_phrase inside s then Err unexpected
    else Ok Plain

-- whether a hypothesis is named, or something else that is taken apart
abbrev pub destructed_of : Sight → Result Bool ℕ
destructed_of s = if names_hypothesis s then Ok true else if names_other s then Ok false else Err unexpected

-- The word of a command. Another name is no command, but `PROOF` and `QED` are only not wanted there.
abbrev pub head_by : Sight → Option Rule → Result Head ℕ
head_by s (Some rule) = Ok record { place = s.token.place; rule = rule; at = s.at }
head_by s None = if is_word (codes "PROOF") s || is_word (codes "QED") s then Err unexpected else Err unknown

abbrev pub head_of : Sight → Result Head ℕ
head_of s = if is_name s then head_by s (rule_of s.token.text) else Err unexpected

-- the `;` of a command, with the number of the token behind it
abbrev pub end_of : Sight → Result ℕ ℕ
end_of s = if is_mark p.Semicolon s then Ok (s.at + 1) else Err unexpected

abbrev pub place_of : Bool → Sight → Result Place ℕ
place_of true s = Ok s.token.place
place_of false s = Err unexpected

abbrev pub named_of : Sight → Result Identifier ℕ
named_of s = if is_name s then Ok record { name = s.token.text; place = s.token.place } else Err unexpected
