-- What a token of a script is not that is something else, and which tokens a phrase goes on with.
use Rattle.std.proofs.Common.{◌≡◌, ℕ, Bool, true, false, not, ◌&&◌, ◌||◌, if◌then◌else◌, List, Result, Ok, Err, refl, sym, ◌∙◌, ap, true≢false}
use Rattle.std.specs.Str.{bytes_eq}
use Rattle.std.proofs.lemmas.Slice.Eq.{bytes_eq-Decides}
use Rattle.floyd_lex.specs.declared.kinds.TokenKind.{TokenKind}
use Rattle.floyd_lex.specs.declared.kinds.TokenKind.TheVariants as k
use Rattle.floyd_lex.specs.declared.kinds.Punctuator.{Punctuator}
use Rattle.floyd_lex.specs.declared.kinds.Punctuator.TheVariants as p
use Rattle.floyd_grammar.specs.ParseClauses.{is_taken, is_blamed, is_meant}
use Rattle.floyd_grammar.proofs.Either.{or_left, or_right}
use Rattle.floyd_cparse_tokens.specs.Tokens.{is_mark_kind}
use Rattle.floyd_cparse_tokens.proofs.TokenLemmas.{and_right, and-false_right, mark_kind, name_kind}
use Rattle.floyd_script_tokens.specs.Heads.{is_closing, ends_phrase, opening_of, item_of}
use Rattle.floyd_script_tokens.specs.Sights.{Sight, is_mark, is_name, is_word, is_number, is_number_kind, names_hypothesis, unexpected, wants}
use Rattle.floyd_script_tokens.specs.SightClauses.{goes_on}
use Rattle.floyd_script_tokens.specs.declared.heads.Opening.{Opening}
use Rattle.floyd_script_tokens.specs.declared.heads.Opening.TheVariants.{Plain, Round, Square}
use Rattle.floyd_script_arguments.specs.ArgumentClauses.{is_no_close}

-- a token that is wanted is so, and another is refused for no more than that
pub wants_taken : (b : Bool) → is_taken (wants b) ≡ true → b ≡ true
wants_taken true e = refl
wants_taken false e = absurd (true≢false (sym e))

pub wants_mild : {P : Type 0} (b : Bool) → is_blamed (wants b) ≡ true → P
wants_mild true e = absurd (true≢false (sym e))
wants_mild false e = absurd (true≢false (sym e))

-- no mark is another, and none is a name or a number
pub mark_apart : (mark other : Punctuator) (s : Sight) → is_mark_kind other (k.Punctuator mark) ≡ false → is_mark mark s ≡ true → is_mark other s ≡ false
mark_apart mark other s apart e = ap (is_mark_kind other) (mark_kind mark s.token.kind e) ∙ apart

pub name_apart : (mark : Punctuator) (s : Sight) → is_name s ≡ true → is_mark mark s ≡ false
name_apart mark s e = ap (is_mark_kind mark) (name_kind s.token.kind e)

pub number_apart : (mark : Punctuator) (s : Sight) → is_number s ≡ true → is_mark mark s ≡ false
number_apart mark s e = go s.token.kind e
  where
    go : (kind : TokenKind) → is_number_kind kind ≡ true → is_mark_kind mark kind ≡ false
    go (k.Literal of value) h = refl
    go kind h = absurd (true≢false (sym h))

pub hypothesis_name : (s : Sight) → names_hypothesis s ≡ true → is_name s ≡ true
hypothesis_name s e = go (is_name s) refl
  where
    go : (b : Bool) → is_name s ≡ b → is_name s ≡ true
    go true h = h
    go false h = absurd (true≢false (sym e ∙ rw h refl))

-- one word is no other
pub words_apart : (word other : List ℕ) (s : Sight) → bytes_eq word other ≡ false → is_word word s ≡ true → is_word other s ≡ false
words_apart word other s apart e =
    ap (λ (z : List ℕ). is_name s && bytes_eq z other) ((bytes_eq-Decides s.token.text word).0 (and_right (is_name s) (bytes_eq s.token.text word) e))
    ∙ ap (λ (z : Bool). is_name s && z) apart ∙ and-false_right (is_name s)

-- what ends a phrase
pub close_ends : (inside : Bool) (s : Sight) → is_mark p.CloseParen s ≡ true → goes_on inside s ≡ false
close_ends inside s e = ap (λ (z : Bool). not (z || (not inside && is_mark p.Semicolon s))) (or_left (is_mark p.CloseParen s) (is_mark p.CloseBracket s) e)

pub bracket_ends : (inside : Bool) (s : Sight) → is_mark p.CloseBracket s ≡ true → goes_on inside s ≡ false
bracket_ends inside s e = ap (λ (z : Bool). not (z || (not inside && is_mark p.Semicolon s))) (or_right (is_mark p.CloseParen s) (is_mark p.CloseBracket s) e)

pub semicolon_ends : (s : Sight) → is_mark p.Semicolon s ≡ true → goes_on false s ≡ false
semicolon_ends s e = ap not (or_right (is_closing s) (is_mark p.Semicolon s) e)

-- what a phrase goes on with is no closing parenthesis, and outside brackets no `;`
not_when : (b c : Bool) → (b ≡ true → c ≡ false) → c ≡ true → not b ≡ true
not_when true c h e = absurd (true≢false (sym e ∙ h refl))
not_when false c h e = refl

pub goes_no_close : (inside : Bool) (s : Sight) → goes_on inside s ≡ true → is_no_close s ≡ true
goes_no_close inside s e = not_when (is_mark p.CloseParen s) (goes_on inside s) (close_ends inside s) e

pub goes_no_end : (s : Sight) → goes_on false s ≡ true → not (is_mark p.Semicolon s) ≡ true
goes_no_end s e = not_when (is_mark p.Semicolon s) (goes_on false s) (semicolon_ends s) e

-- what is not one mark where it is another, or a name, or a number
pub no_mark : (mark : Punctuator) (s : Sight) → is_mark mark s ≡ false → not (is_mark mark s) ≡ true
no_mark mark s e = ap not e

-- Items.
opens_goes : (inside : Bool) (mark : Punctuator) (s : Sight) → is_mark_kind p.CloseParen (k.Punctuator mark) ≡ false → is_mark_kind p.CloseBracket (k.Punctuator mark) ≡ false → is_mark_kind p.Semicolon (k.Punctuator mark) ≡ false
    → is_mark mark s ≡ true → goes_on inside s ≡ true
opens_goes inside mark s a b c e =
    ap (λ (z : Bool). not ((z || is_mark p.CloseBracket s) || (not inside && is_mark p.Semicolon s))) (mark_apart mark p.CloseParen s a e)
    ∙ ap (λ (z : Bool). not (z || (not inside && is_mark p.Semicolon s))) (mark_apart mark p.CloseBracket s b e)
    ∙ ap (λ (z : Bool). not (not inside && z)) (mark_apart mark p.Semicolon s c e) ∙ ap not (and-false_right (not inside))

abbrev chosen : Bool → Bool → Bool → Bool → Result Opening ℕ
chosen room a b c = if a then opening_of room Round else if b then opening_of room Square else if c then Err unexpected else Ok Plain

chosen_meant : {P : Type 0} (room a b c : Bool) → is_meant (chosen room a b c) ≡ true → (a ≡ true → P) → (b ≡ true → P) → (c ≡ false → P) → P
chosen_meant room true b c e f g h = f refl
chosen_meant room false true c e f g h = g refl
chosen_meant room false false true e f g h = absurd (true≢false (sym e))
chosen_meant room false false false e f g h = h refl

chosen_mild : {P : Type 0} (a b c : Bool) → is_blamed (chosen true a b c) ≡ true → P
chosen_mild true b c e = absurd (true≢false (sym e))
chosen_mild false true c e = absurd (true≢false (sym e))
chosen_mild false false true e = absurd (true≢false (sym e))
chosen_mild false false false e = absurd (true≢false (sym e))

item_meant : (inside room : Bool) (s : Sight) → is_meant (item_of inside room s) ≡ true → goes_on inside s ≡ true
item_meant inside room s e =
    chosen_meant room (is_mark p.OpenParen s) (is_mark p.OpenBracket s) (ends_phrase inside s) e
    (opens_goes inside p.OpenParen s refl refl refl) (opens_goes inside p.OpenBracket s refl refl refl) (λ h. ap not h)

pub item_taken : (inside room : Bool) (s : Sight) → is_taken (item_of inside room s) ≡ true → goes_on inside s ≡ true
item_taken inside room s e = item_meant inside room s (or_left (is_taken (item_of inside room s)) (is_blamed (item_of inside room s)) e)

pub item_blamed : (inside room : Bool) (s : Sight) → is_blamed (item_of inside room s) ≡ true → goes_on inside s ≡ true
item_blamed inside room s e = item_meant inside room s (or_right (is_taken (item_of inside room s)) (is_blamed (item_of inside room s)) e)

-- where one more bracket may be open, no token is too deep
pub item_mild : {P : Type 0} (inside : Bool) (s : Sight) → is_blamed (item_of inside true s) ≡ true → P
item_mild inside s e = chosen_mild (is_mark p.OpenParen s) (is_mark p.OpenBracket s) (ends_phrase inside s) e
