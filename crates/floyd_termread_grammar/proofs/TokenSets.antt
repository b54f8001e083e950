-- Which tokens go on with what was read, and with which a reading begins.
use Rattle.std.proofs.Common.{◌≡◌, ℕ, ◌+◌, length, Bool, true, false, ◌&&◌, ◌||◌, if◌then◌else◌, Result, Err, refl, sym, ◌∙◌, ap, true≢false}
use Rattle.std.specs.Prelude.{Option, Some, None}
use Rattle.floyd_text.specs.declared.place.Place.{Place}
use Rattle.floyd_lex.specs.declared.kinds.Punctuator.{Punctuator}
use Rattle.floyd_lex.specs.declared.kinds.Punctuator.TheVariants as p
use Rattle.floyd_lex.specs.declared.kinds.TokenKind.{TokenKind}
use Rattle.floyd_lex.specs.declared.kinds.TokenKind.TheVariants as k
use Rattle.floyd_lex.specs.Token.{Token}
use Rattle.floyd_grammar.specs.ParseClauses.{is_taken, is_blamed, is_meant}
use Rattle.floyd_cparse_tokens.specs.Tokens.{is_there, is_mark_kind}
use Rattle.floyd_cparse_tokens.proofs.TokenLemmas.{or_cases, or_fails, and_right, and-false_right, mark_kind, closing_meant, closing_taken, closing_unless}
use Rattle.floyd_termread_trees.specs.declared.written.Infix.{Infix}
use Rattle.floyd_grammar.proofs.Either.{or_left, or_right}
use Rattle.floyd_cparse_tokens.specs.Tokens.{found_or}
use Rattle.floyd_termread_trees.specs.declared.written.Written.TheVariants as written
use Rattle.floyd_termread_tokens.specs.Tokens.{is_mark, is_cut, is_cut_kind, unless_cut, place_if, blame, demand}
use Rattle.floyd_termread_tokens.proofs.TakeLemmas.{there_place, mark_apart, cut_no_mark, cut_cases, cut_taken, offered_meant, demanded_taken}
use Rattle.floyd_termread_grammar.specs.declared.values.Chain.{Chain}
use Rattle.floyd_termread_grammar.specs.declared.values.Contents.{Contents}
use Rattle.floyd_termread_tables.specs.declared.values.Class.TheVariants as class
use Rattle.floyd_termread_tables.specs.declared.values.End.{End}
use Rattle.floyd_termread_tables.specs.declared.values.Form.{Form}
use Rattle.floyd_termread_tables.specs.declared.values.Form.TheVariants as form
use Rattle.floyd_termread_tables.specs.declared.values.Kind.{Kind}
use Rattle.floyd_termread_grammar.specs.declared.values.Operand.{Operand}
use Rattle.floyd_termread_grammar.specs.declared.values.Prefixes.{Prefixes}
use Rattle.floyd_termread_tables.specs.declared.values.Start.{Start}
use Rattle.floyd_termread_tables.specs.declared.values.Start.TheVariants as start
use Rattle.floyd_termread_tables.specs.declared.values.Want.{Want}
use Rattle.floyd_termread_tables.specs.declared.values.Want.TheVariants as want
use Rattle.floyd_termread_tables.specs.Operators.{mark_infix, or_else, infix_of, allowed, infix_for}
use Rattle.floyd_termread_tables.specs.Tables.{prefix_of, start_of}
use Rattle.floyd_termread_tables.specs.Brackets.{separator, closing_mark, next_want, first_want, is_enough}
use Rattle.floyd_termread_grammar.specs.Terms as g
use Rattle.floyd_termread_tables.specs.Operators.{goes_on, link_at}
use Rattle.floyd_termread_grammar.specs.Terms.{more_items, is_empty_end}
use Rattle.floyd_termread_grammar.specs.TermClauses.{begins_link}

-- with which a reading begins
abbrev pub opens : Want → Token → Bool
opens wanted t = is_there (prefix_of wanted false t) || (is_there (start_of wanted false t) || is_cut t)

abbrev pub begins : Want → Token → Bool
begins (want.Steps place) t = true
begins other t = opens other t

-- what goes on with an operand, with what is read
abbrev pub more_operand : Operand → Token → Bool
more_operand x t = x.end.bare && is_mark p.OpenParen t

abbrev pub more_chain : Operand → Token → Bool
more_chain x t = goes_on x.end t

abbrev pub more_nested : Want → Operand → Token → Bool
more_nested (want.Steps place) x t = false
more_nested other x t = goes_on x.end t

-- a token that is taken, or refused, only where a test fails
pub guarded : {A : Type 0} (b : Bool) (o : Result A ℕ) → is_meant (if b then Err 0 else o) ≡ true → b ≡ false
guarded true o e = absurd (true≢false (sym e))
guarded false o e = refl

pub guarded_taken : {A : Type 0} (b : Bool) (o : Result A ℕ) → is_taken (if b then Err 0 else o) ≡ true → is_taken o ≡ true
guarded_taken true o e = absurd (true≢false (sym e))
guarded_taken false o e = e

pub blamed_unless : (A : Type 0) (b : Bool) (cause : ℕ) → is_blamed {O = A} (Err (if b then 0 else cause)) ≡ true → b ≡ false
blamed_unless A true cause e = absurd (true≢false (sym e))
blamed_unless A false cause e = refl

-- no mark but those of operators goes on
no_infix : (so_far : Kind) (t : Token) (mark : Punctuator) → t.kind ≡ k.Punctuator mark → mark_infix (k.Punctuator mark) ≡ None → is_there (infix_for so_far t) ≡ false
no_infix so_far t mark kind none = ap (λ (o : Option Infix). is_there (allowed so_far o)) (nothing t.kind kind)
  where
    nothing : (z : TokenKind) → z ≡ k.Punctuator mark → infix_of record t { kind = z } ≡ None
    nothing (k.Punctuator other) e =
        let same : other ≡ mark = cc in
        ap (λ (z : Punctuator). infix_of record t { kind = k.Punctuator z }) same ∙ ap (λ (o : Option Infix). or_else o None) none
    nothing k.Name e = absurd cc
    nothing (k.Keyword word) e = absurd cc
    nothing (k.Literal type value) e = absurd cc
    nothing k.StringLiteral e = absurd cc

pub mark_stops : (mark : Punctuator) (end : End) (t : Token) → mark_infix (k.Punctuator mark) ≡ None → is_mark_kind p.OpenParen (k.Punctuator mark) ≡ false → is_mark mark t ≡ true → goes_on end t ≡ false
mark_stops mark end t none apart e =
    or_fails (end.bare && is_mark p.OpenParen t) (is_there (infix_for end.kind t))
    (ap (λ (b : Bool). end.bare && b) (mark_apart mark p.OpenParen t apart e) ∙ and-false_right end.bare)
    (no_infix end.kind t mark (mark_kind mark t.kind e) none)

-- the end of a text that is cut off does not go on
pub cut_stops : (end : End) (t : Token) → is_cut t ≡ true → goes_on end t ≡ false
cut_stops end t e =
    or_fails (end.bare && is_mark p.OpenParen t) (is_there (infix_for end.kind t))
    (ap (λ (b : Bool). end.bare && b) (cut_no_mark p.OpenParen t e) ∙ and-false_right end.bare)
    (ap (λ (o : Option Infix). is_there (allowed end.kind o)) (none t.kind e))
  where
    none : (z : TokenKind) → is_cut_kind z ≡ true → infix_of record t { kind = z } ≡ None
    none (k.Keyword word) h = refl
    none (k.Punctuator other) h = absurd (true≢false (sym h))
    none k.Name h = absurd (true≢false (sym h))
    none (k.Literal type value) h = absurd (true≢false (sym h))
    none k.StringLiteral h = absurd (true≢false (sym h))

-- an operator is no opening parenthesis
pub infix_apart : (so_far : Kind) (t : Token) → is_there (infix_for so_far t) ≡ true → is_mark p.OpenParen t ≡ false
infix_apart so_far t e = go (is_mark p.OpenParen t) refl
  where
    go : (b : Bool) → is_mark p.OpenParen t ≡ b → b ≡ false
    go true h = absurd (true≢false (sym e ∙ no_infix so_far t p.OpenParen (mark_kind p.OpenParen t.kind h) refl))
    go false h = refl

pub link_stops : (end : End) (so_far : Kind) (t : Token) → is_there (infix_for so_far t) ≡ true → (end.bare && is_mark p.OpenParen t) ≡ false
link_stops end so_far t e = ap (λ (b : Bool). end.bare && b) (infix_apart so_far t e) ∙ and-false_right end.bare

-- an operator behind a chain
link_there : (place : Place) (o : Option Infix) → is_there (link_at place o) ≡ true → is_there o ≡ true
link_there place None e = absurd (true≢false (sym e))
link_there place (Some op) e = refl

pub link_meant : (room : ℕ) (chain : Chain) (t : Token) → is_meant (g.link_token room chain t) ≡ true → begins_link chain t ≡ true
link_meant room chain t e = link_there t.place (infix_for chain.end.kind t) (offered_meant room chain.end.count t (link_at t.place (infix_for chain.end.kind t)) e)

-- separators and closing brackets
pub separator_stops : (of : Form) (end : End) (t : Token) → is_mark (separator of) t ≡ true → goes_on end t ≡ false
separator_stops form.Types end t e = mark_stops p.Semicolon end t refl refl e
separator_stops other end t e = mark_stops p.Comma end t refl refl e

pub closing_stops : (of : Form) (end : End) (t : Token) → is_mark (closing_mark of) t ≡ true → goes_on end t ≡ false
closing_stops form.List end t e = mark_stops p.CloseBracket end t refl refl e
closing_stops form.Subscript end t e = mark_stops p.CloseBracket end t refl refl e
closing_stops other end t e = mark_stops p.CloseParen end t refl refl e

pub closing_apart : (of : Form) (t : Token) → is_mark (closing_mark of) t ≡ true → is_mark (separator of) t ≡ false
closing_apart form.List t e = mark_apart p.CloseBracket p.Comma t refl e
closing_apart form.Subscript t e = mark_apart p.CloseBracket p.Comma t refl e
closing_apart form.Types t e = mark_apart p.CloseParen p.Semicolon t refl e
closing_apart other t e = mark_apart p.CloseParen p.Comma t refl e

pub separator_meant : (of : Form) (all : Contents) (t : Token) → is_meant (g.separator_token of all t) ≡ true → more_items of all t ≡ true
separator_meant of all t e = there_place (more_items of all t) t (closing_meant (place_if (more_items of all t) t) e)

pub more_items_stop : (of : Form) (all : Contents) (end : End) (t : Token) → more_items of all t ≡ true → goes_on end t ≡ false
more_items_stop of all end t e = separator_stops of end t (and_right (is_there (next_want of (length all.items) all.end.kind)) (is_mark (separator of) t) e)

known_there : (o : Option Place) → is_there (g.known_place o) ≡ true → is_there o ≡ true
known_there None e = absurd (true≢false (sym e))
known_there (Some place) e = refl

no_separator : (of : Form) (t : Token) → is_cut t ≡ true → is_mark (separator of) t ≡ false
no_separator of t e = cut_no_mark (separator of) t e

abbrev closing_of : ℕ → Form → Contents → Token → Result (Option Place) ℕ
closing_of room of all t = found_or (if more_items of all t || goes_on all.end t then 0 else blame room all.end.count t) (g.closing_place of all t)

closing_meant_there : (room : ℕ) (of : Form) (all : Contents) (t : Token) → is_meant (closing_of room of all t) ≡ true → (more_items of all t || goes_on all.end t) ≡ false
closing_meant_there room of all t e =
    or_cases (is_taken (closing_of room of all t)) (is_blamed (closing_of room of all t)) e
    (λ h.
    let closes = and_right (is_enough of (length all.items)) (is_mark (closing_mark of) t) (there_place _ t (known_there _ (closing_taken _ (g.closing_place of all t) h))) in
    or_fails (more_items of all t) (goes_on all.end t)
    (ap (λ (b : Bool). is_there (next_want of (length all.items) all.end.kind) && b) (closing_apart of t closes) ∙ and-false_right _)
    (closing_stops of all.end t closes))
    (λ h. closing_unless (more_items of all t || goes_on all.end t) _ (g.closing_place of all t) h)

pub bracket_end_meant : (room : ℕ) (of : Form) (all : Contents) (t : Token) → is_meant (g.bracket_end room of all t) ≡ true → (more_items of all t || goes_on all.end t) ≡ false
bracket_end_meant room of all t e =
    cut_cases t None (closing_of room of all t) e
    (λ h.
    or_fails (more_items of all t) (goes_on all.end t)
    (ap (λ (b : Bool). is_there (next_want of (length all.items) all.end.kind) && b) (no_separator of t h) ∙ and-false_right _) (cut_stops all.end t h))
    (λ h. closing_meant_there room of all t h)

-- a closing parenthesis begins nothing
pub closing_begins_nothing : (t : Token) → opens want.Term t ≡ true → is_mark p.CloseParen t ≡ false
closing_begins_nothing t e = go t.kind refl
  where
    nothing : (z : TokenKind) → z ≡ k.Punctuator p.CloseParen → opens want.Term record t { kind = z } ≡ false
    nothing (k.Punctuator other) q = let same : other ≡ p.CloseParen = cc in rw same refl
    nothing k.Name q = absurd cc
    nothing (k.Keyword word) q = absurd cc
    nothing (k.Literal type value) q = absurd cc
    nothing k.StringLiteral q = absurd cc

    go : (z : TokenKind) → t.kind ≡ z → is_mark_kind p.CloseParen z ≡ false
    go z q = decide (is_mark_kind p.CloseParen z) refl
      where
        decide : (b : Bool) → is_mark_kind p.CloseParen z ≡ b → b ≡ false
        decide true h = absurd (true≢false (sym e ∙ nothing t.kind (q ∙ mark_kind p.CloseParen z h)))
        decide false h = refl

pub empty_apart : (of : Form) (t : Token) → begins (first_want of) t ≡ true → is_empty_end of t ≡ false
empty_apart form.Terms t e = closing_begins_nothing t e
empty_apart other t e = refl

-- operators before an operand, and what they stand before
pub prefix_meant : (room : ℕ) (all : Prefixes) (t : Token) → is_meant (g.prefix_token room all t) ≡ true → g.begins_prefix all t ≡ true
prefix_meant room all t e = offered_meant room (all.count + all.run) t (prefix_of all.want all.minus t) e

-- what may stand there, or what is missing
abbrev operand_of : ℕ → Prefixes → Token → Result Start ℕ
operand_of room all t = demand room (all.count + all.run) t (start_of all.want all.minus t)

pub operand_meant : (room : ℕ) (all : Prefixes) (t : Token) → is_meant (g.operand_token room all t) ≡ true → g.begins_prefix all t ≡ false
operand_meant room all t e = guarded (g.begins_prefix all t) (unless_cut t (start.Alone written.Missing class.Other) (operand_of room all t)) e

pub operand_taken : (room : ℕ) (all : Prefixes) (t : Token) → is_taken (g.operand_token room all t) ≡ true → (is_there (start_of all.want all.minus t) || is_cut t) ≡ true
operand_taken room all t e =
    cut_taken t (start.Alone written.Missing class.Other) (operand_of room all t)
    (guarded_taken (g.begins_prefix all t) (unless_cut t (start.Alone written.Missing class.Other) (operand_of room all t)) e)
    (λ h. or_right (is_there (start_of all.want all.minus t)) (is_cut t) h)
    (λ h. or_left (is_there (start_of all.want all.minus t)) (is_cut t) (demanded_taken room (all.count + all.run) t (start_of all.want all.minus t) h))

-- steps of a path
pub step_meant : (room : ℕ) (all : Contents) (t : Token) → is_meant (g.step_token room all t) ≡ true → is_there (g.step_at t) ≡ true
step_meant room all t e = offered_meant room all.end.count t (g.step_at t) e

no_step : (t : Token) → is_mark p.CloseBracket t ≡ true → is_there (g.step_at t) ≡ false
no_step t e = rw (mark_apart p.CloseBracket p.Dot t refl e, mark_apart p.CloseBracket p.OpenBracket t refl e) refl

abbrev steps_of : ℕ → Contents → Token → Result (Option Place) ℕ
steps_of room all t = found_or (if is_there (g.step_at t) then 0 else blame room all.end.count t) (g.known_place (place_if (is_mark p.CloseBracket t) t))

cut_no_step : (t : Token) → is_cut t ≡ true → is_there (g.step_at t) ≡ false
cut_no_step t e = rw (cut_no_mark p.Dot t e, cut_no_mark p.OpenBracket t e) refl

steps_found : (room : ℕ) (all : Contents) (t : Token) → is_meant (steps_of room all t) ≡ true → is_there (g.step_at t) ≡ false
steps_found room all t e =
    or_cases (is_taken (steps_of room all t)) (is_blamed (steps_of room all t)) e
    (λ h. no_step t (there_place (is_mark p.CloseBracket t) t (known_there _ (closing_taken _ (g.known_place (place_if (is_mark p.CloseBracket t) t)) h))))
    (λ h. closing_unless (is_there (g.step_at t)) _ (g.known_place (place_if (is_mark p.CloseBracket t) t)) h)

pub steps_end_meant : (room : ℕ) (all : Contents) (t : Token) → is_meant (g.steps_end room all t) ≡ true → is_there (g.step_at t) ≡ false
steps_end_meant room all t e = cut_cases t None (steps_of room all t) e (λ h. cut_no_step t h) (λ h. steps_found room all t h)
