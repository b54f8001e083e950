-- Kinds of tokens: what a mark, a word or a name is not.
use Rattle.std.proofs.Common.{◌≡◌, ℕ, Bool, true, false, not, ◌&&◌, ◌||◌, if◌then◌else◌, Result, Err, refl, sym, ◌∙◌, ap, subst, true≢false}
use Rattle.std.specs.Prelude.{Option, Some, None}
use Rattle.floyd_lex.specs.declared.kinds.TokenKind.{TokenKind}
use Rattle.floyd_lex.specs.declared.kinds.TokenKind.TheVariants as k
use Rattle.floyd_lex.specs.declared.kinds.Punctuator.{Punctuator}
use Rattle.floyd_lex.specs.declared.kinds.Keyword.{Keyword}
use Rattle.floyd_lex.specs.contracts.kinds.Punctuator.{the_type as marks}
use Rattle.floyd_lex.specs.contracts.kinds.Keyword.{the_type as words}
use Rattle.floyd_grammar.specs.ParseClauses.{is_taken, is_blamed, is_meant}
use Rattle.floyd_cparse_tokens.specs.Tokens.{is_there, Sight, Types, is_mark_kind, is_word_kind, is_name_kind, offer, demand, found_or, place_if}
use denote.Enum.Bare.{same_true}

-- Of two tests one fails or both hold.
pub and_left : (a b : Bool) → (a && b) ≡ true → a ≡ true
and_left true b e = refl
and_left false b e = absurd (true≢false (sym e))

pub and_right : (a b : Bool) → (a && b) ≡ true → b ≡ true
and_right true b e = e
and_right false b e = absurd (true≢false (sym e))

pub and_both : (a b : Bool) → a ≡ true → b ≡ true → (a && b) ≡ true
and_both a b e f = rw (e, f) refl

pub and-false_right : (a : Bool) → (a && false) ≡ false
and-false_right true = refl
and-false_right false = refl

-- where not both hold and the one does, the other fails
pub apart : (a b : Bool) → (a && b) ≡ false → a ≡ true → b ≡ false
apart a b e f = subst (λ (z : Bool). (z && b) ≡ false) f e

pub or_cases : {P : Type 0} (a b : Bool) → (a || b) ≡ true → (a ≡ true → P) → (b ≡ true → P) → P
or_cases true b e f g = f refl
or_cases false b e f g = g e

pub or_fails_left : (a b : Bool) → (a || b) ≡ false → a ≡ false
or_fails_left true b e = absurd (true≢false e)
or_fails_left false b e = refl

pub or_fails_right : (a b : Bool) → (a || b) ≡ false → b ≡ false
or_fails_right true b e = absurd (true≢false e)
or_fails_right false b e = e

pub or_fails : (a b : Bool) → a ≡ false → b ≡ false → (a || b) ≡ false
or_fails a b e f = rw (e, f) refl

pub not_true : (b : Bool) → not b ≡ true → b ≡ false
not_true true e = absurd (true≢false (sym e))
not_true false e = refl

pub not_false : (b : Bool) → b ≡ false → not b ≡ true
not_false b e = rw e refl

-- what a token is of which a test holds
pub mark_kind : (mark : Punctuator) (kind : TokenKind) → is_mark_kind mark kind ≡ true → kind ≡ k.Punctuator mark
mark_kind mark (k.Punctuator other) e = ap (λ (m : Punctuator). k.Punctuator m) (same_true marks tt other mark e)
mark_kind mark kind e = absurd (true≢false (sym e))

pub word_kind : (word : Keyword) (kind : TokenKind) → is_word_kind word kind ≡ true → kind ≡ k.Keyword word
word_kind word (k.Keyword other) e = ap (λ (m : Keyword). k.Keyword m) (same_true words tt other word e)
word_kind word kind e = absurd (true≢false (sym e))

pub name_kind : (kind : TokenKind) → is_name_kind kind ≡ true → kind ≡ k.Name
name_kind k.Name e = refl
name_kind kind e = absurd (true≢false (sym e))

-- what a token function takes or blames
pub there_place : (b : Bool) (s : Sight) → is_there (place_if b s) ≡ true → b ≡ true
there_place true s e = refl
there_place false s e = absurd (true≢false (sym e))

pub closing_meant : {A : Type 0} (o : Option A) → is_meant (found_or 0 o) ≡ true → is_there o ≡ true
closing_meant None e = absurd (true≢false (sym e))
closing_meant (Some x) e = refl

pub closing_taken : {A : Type 0} (cause : ℕ) (o : Option A) → is_taken (found_or cause o) ≡ true → is_there o ≡ true
closing_taken cause None e = absurd (true≢false (sym e))
closing_taken cause (Some x) e = refl

pub closing_blamed : {A : Type 0} (cause : ℕ) (o : Option A) → is_blamed (found_or cause o) ≡ true → (cause ≡ 0) → ⊥
closing_blamed cause None e z = true≢false (sym e ∙ ap (λ (n : ℕ). is_blamed (let r : Result Bool ℕ = Err n in r)) z)
closing_blamed cause (Some x) e z = true≢false (sym e)

pub offered_meant : {A : Type 0} (room count : ℕ) (s : Sight) (o : Option A) → is_meant (offer room count s o) ≡ true → is_there o ≡ true
offered_meant room count s None e = absurd (true≢false (sym e))
offered_meant room count s (Some x) e = refl

pub wanted_taken : {A : Type 0} (types : Types) (room count special : ℕ) (s : Sight) (o : Option A) → is_taken (demand types room count special s o) ≡ true → is_there o ≡ true
wanted_taken types room count special s None e = absurd (true≢false (sym e))
wanted_taken types room count special s (Some x) e = refl

-- a cause that is 0 where one of two tests holds
pub closing_unless : {A : Type 0} (test : Bool) (cause : ℕ) (o : Option A) → is_blamed (found_or (if test then 0 else cause) o) ≡ true → test ≡ false
closing_unless true cause o e = absurd (closing_blamed 0 o e refl)
closing_unless false cause o e = refl

pub closing_unless_either : {A : Type 0} (first second : Bool) (cause : ℕ) (o : Option A) → is_blamed (found_or (if first then 0 else if second then 0 else cause) o) ≡ true → (first ≡ false) × (second ≡ false)
closing_unless_either true second cause o e = absurd (closing_blamed 0 o e refl)
closing_unless_either false second cause o e = (refl, closing_unless second cause o e)
