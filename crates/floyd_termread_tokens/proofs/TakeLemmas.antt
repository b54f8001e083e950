-- A token that the code looks at and takes, and what it is then.
use Rattle.std.proofs.Common.{◌≡◌, ℕ, Bool, true, false, if◌then◌else◌, List, [], ◌∷◌, drop, Result, Ok, Err, refl, sym, ◌∙◌, ap, subst, true≢false}
use Rattle.std.specs.Prelude.{Option, Some, None}
use Rattle.floyd_lex.specs.declared.kinds.Punctuator.{Punctuator}
use Rattle.floyd_lex.specs.declared.kinds.TokenKind.{TokenKind}
use Rattle.floyd_lex.specs.declared.kinds.TokenKind.TheVariants as k
use Rattle.floyd_lex.specs.Token.{Token}
use Rattle.floyd_grammar.specs.declared.stop.Stop.{Stop}
use Rattle.floyd_grammar.specs.declared.stop.Stop.TheVariants as stop
use Rattle.floyd_grammar.specs.ParseClauses.{Read, one, is_taken, is_meant}
use Rattle.floyd_grammar.specs.GivesClauses.{Gives}
use Rattle.floyd_cparse_tokens.specs.Tokens.{is_there, is_mark_kind}
use Rattle.floyd_cparse_tokens.proofs.TokenLemmas.{mark_kind}
use Rattle.floyd_termread_tokens.specs.SeenClauses.{take_as}
use Rattle.floyd_termread_tokens.specs.Tokens.{is_mark, is_cut, is_cut_kind, unless_cut, place_if, offer, demand}

module _ {A : Type 0} (f : Token → Result A ℕ) where
  one_seen : (ts : List Token) (t : Token) → ts ≡ t ∷ drop 1 ts → take_as (f t) ts ≡ one f ts
  one_seen ts t e = subst (λ (z : List Token). take_as (f t) z ≡ one f z) (sym e) refl

  -- the next token was looked at, and taken for what is found in it
  pub takes_seen : (t : Token) (found : Result A ℕ) (old new : List Token) (result : Result A Stop) → old ≡ t ∷ drop 1 old → found ≡ f t → Gives result new (take_as found old) → Gives result new (one f old)
  takes_seen t found old new result e q g =
      subst (λ (z : Read Token A). Gives result new z) (ap (λ (z : Result A ℕ). take_as z old) q ∙ one_seen old t e) g

  -- no token is left
  pub ends_seen : (old : List Token) (e : Stop) → (old ≡ []) × (e ≡ stop.Fault record { left = 0; cause = 0 }) → Gives {A = A} (Err e) old (one f old)
  ends_seen old e h = rw (h.1, h.0) refl

-- what a token is of which a test holds
pub there_place : (b : Bool) (t : Token) → is_there (place_if b t) ≡ true → b ≡ true
there_place true t e = refl
there_place false t e = absurd (true≢false (sym e))

-- one mark is no other
pub mark_apart : (mark other : Punctuator) (t : Token) → is_mark_kind other (k.Punctuator mark) ≡ false → is_mark mark t ≡ true → is_mark other t ≡ false
mark_apart mark other t apart e = ap (is_mark_kind other) (mark_kind mark t.kind e) ∙ apart

-- what may stand or must stand somewhere is there, if it is taken, or refused where it may stand
pub offered_meant : {A : Type 0} (room count : ℕ) (t : Token) (o : Option A) → is_meant (offer room count t o) ≡ true → is_there o ≡ true
offered_meant room count t None e = absurd (true≢false (sym e))
offered_meant room count t (Some x) e = refl

pub demanded_taken : {A : Type 0} (room count : ℕ) (t : Token) (o : Option A) → is_taken (demand room count t o) ≡ true → is_there o ≡ true
demanded_taken room count t None e = absurd (true≢false (sym e))
demanded_taken room count t (Some x) e = refl

-- the end of a text that is cut off is no mark
pub cut_no_mark : (mark : Punctuator) (t : Token) → is_cut t ≡ true → is_mark mark t ≡ false
cut_no_mark mark t e = none t.kind e
  where
    none : (z : TokenKind) → is_cut_kind z ≡ true → is_mark_kind mark z ≡ false
    none (k.Keyword word) h = refl
    none (k.Punctuator other) h = absurd (true≢false (sym h))
    none k.Name h = refl
    none (k.Literal type value) h = refl
    none k.StringLiteral h = refl

-- what is taken or refused where the text may be cut off: the text is cut off there, or it is what else may stand there
pub cut_cases : {A P : Type 0} (t : Token) (missing : A) (found : Result A ℕ) → is_meant (unless_cut t missing found) ≡ true → (is_cut t ≡ true → P) → (is_meant found ≡ true → P) → P
cut_cases {A} {P} t missing found e missed else_there = go (is_cut t) refl e
  where
    go : (b : Bool) → is_cut t ≡ b → is_meant (if b then Ok missing else found) ≡ true → P
    go true h m = missed h
    go false h m = else_there m

pub cut_taken : {A P : Type 0} (t : Token) (missing : A) (found : Result A ℕ) → is_taken (unless_cut t missing found) ≡ true → (is_cut t ≡ true → P) → (is_taken found ≡ true → P) → P
cut_taken {A} {P} t missing found e missed else_there = go (is_cut t) refl e
  where
    go : (b : Bool) → is_cut t ≡ b → is_taken (if b then Ok missing else found) ≡ true → P
    go true h m = missed h
    go false h m = else_there m
