-- The tokens with which specifiers and declarators begin and go on.
use Rattle.std.proofs.Common.{◌≡◌, ℕ, ◌+◌, Bool, true, false, not, ◌&&◌, ◌||◌, if◌then◌else◌, Err, refl, sym, ◌∙◌, ap, subst, true≢false, zero-le, le-ltb}
use Rattle.std.specs.Prelude.{Option, Some, None, nat_lt}
use Rattle.floyd_lex.specs.declared.kinds.TokenKind.{TokenKind}
use Rattle.floyd_lex.specs.declared.kinds.TokenKind.TheVariants as k
use Rattle.floyd_lex.specs.declared.kinds.Punctuator.{Punctuator}
use Rattle.floyd_lex.specs.declared.kinds.Punctuator.TheVariants as p
use Rattle.floyd_lex.specs.declared.kinds.Keyword.TheVariants as w
use Rattle.floyd_grammar.specs.ParseClauses.{is_taken, is_blamed, is_meant}
use Rattle.floyd_cparse_types.specs.declared.values.BaseStart.TheVariants as start
use Rattle.floyd_cparse_types.specs.declared.values.CoreStart.TheVariants as core_start
use Rattle.floyd_cparse_types.specs.declared.values.Declared.{Declared}
use Rattle.floyd_cparse_types.specs.declared.values.Declared.TheVariants as of
use Rattle.floyd_cparse_types.specs.declared.values.DeclaratorEnd.{DeclaratorEnd}
use Rattle.floyd_cparse_types.specs.declared.values.IntWords.{IntWords}
use Rattle.floyd_cparse_types.specs.declared.values.ReadDeclarator.{ReadDeclarator}
use Rattle.floyd_cparse_types.specs.declared.values.ReadSpecifiers.{ReadSpecifiers}
use Rattle.floyd_cparse_tokens.specs.Tokens.{is_there, Sight, Types, is_mark, is_word, is_name, is_mark_kind, is_word_kind, is_name_kind, is_integer_word, is_type, is_type_text, is_plain, begins_type, identifier_of, is_deep, blame, offer, demand}
use Rattle.floyd_cparse_types.specs.declared.values.SuffixStart.TheVariants as suffix_start
use Rattle.floyd_cparse_types.specs.Types.{suffix_token, has_size, core_token, shadow_cause, absent, extends, with_word, no_words, start_of_base, start_of_word, goes_on_declarator, may_precede, is_parameter, start_of_core, name_declared, core_name, is_named, is_shadowed, opens_parameters, base_token}
use Rattle.floyd_cparse_types.specs.TypeClauses.{begins_core, begins_suffix}
use Rattle.floyd_cparse_tokens.proofs.TokenLemmas.{and_left, and_right, apart, or_cases, or_fails_left, or_fails_right, or_fails, mark_kind, and-false_right, wanted_taken, offered_meant}
use Rattle.floyd_grammar.proofs.Either.{or_left, or_right}

-- a word of specifiers that may be followed by more of them
abbrev pub is_specifier_kind : TokenKind → Bool
is_specifier_kind kind = is_word_kind w.Const kind || is_integer_word kind

abbrev pub is_specifier : Sight → Bool
is_specifier s = is_specifier_kind s.token.kind

abbrev pub begins_specs : Types → Sight → Bool
begins_specs types s = begins_type types s.token

abbrev pub more_specs : ReadSpecifiers → Sight → Bool
more_specs x s = is_word w.Const s || extends x.words s.token.kind

abbrev pub begins_dtor_kind : TokenKind → Bool
begins_dtor_kind kind = is_mark_kind p.Star kind || is_name_kind kind || is_mark_kind p.OpenParen kind || is_mark_kind p.OpenBracket kind

abbrev pub begins_dtor : Sight → Bool
begins_dtor s = begins_dtor_kind s.token.kind

abbrev pub more_dtor : Declared → ReadDeclarator → Sight → Bool
more_dtor declared x s = goes_on_declarator declared x.end s

-- what goes on with a core
abbrev pub more_core : Types → Declared → ReadDeclarator → Sight → Bool
more_core types declared x s =
    x.end.bare && (may_precede x.end.stars s || (is_parameter declared && is_name s) || (is_mark p.OpenParen s && not (opens_parameters types s.behind)))

-- what stands beside what
specifier_dtor_kinds : (kind : TokenKind) → (begins_dtor_kind kind && is_specifier_kind kind) ≡ false
specifier_dtor_kinds (k.Punctuator p.Star) = refl
specifier_dtor_kinds (k.Keyword w.Const) = refl
specifier_dtor_kinds kind = refl

pub specifier_dtor : (s : Sight) → begins_dtor s ≡ true → is_specifier s ≡ false
specifier_dtor s e = apart (begins_dtor s) (is_specifier s) (specifier_dtor_kinds s.token.kind) e

word_integer : (kind : TokenKind) (words : IntWords) → (is_there (with_word kind words) && not (is_integer_word kind)) ≡ false
word_integer (k.Keyword w.Char) words = and-false_right (is_there (with_word (k.Keyword w.Char) words))
word_integer (k.Keyword w.Short) words = and-false_right (is_there (with_word (k.Keyword w.Short) words))
word_integer (k.Keyword w.Int) words = and-false_right (is_there (with_word (k.Keyword w.Int) words))
word_integer (k.Keyword w.Long) words = and-false_right (is_there (with_word (k.Keyword w.Long) words))
word_integer (k.Keyword w.Signed) words = and-false_right (is_there (with_word (k.Keyword w.Signed) words))
word_integer (k.Keyword w.Unsigned) words = and-false_right (is_there (with_word (k.Keyword w.Unsigned) words))
word_integer kind words = refl

not_not : (b : Bool) → not b ≡ false → b ≡ true
not_not true e = refl
not_not false e = sym e

pub extends_integer : (words : Option IntWords) (kind : TokenKind) → extends words kind ≡ true → is_integer_word kind ≡ true
extends_integer None kind e = absurd (true≢false (sym e))
extends_integer (Some words) kind e = not_not (is_integer_word kind) (apart (is_there (with_word kind words)) (not (is_integer_word kind)) (word_integer kind words) e)

-- more specifiers are specifiers
pub more_specifier : (x : ReadSpecifiers) (s : Sight) → is_specifier s ≡ false → more_specs x s ≡ false
more_specifier x s e = or_fails (is_word w.Const s) (extends x.words s.token.kind) (or_fails_left (is_word w.Const s) (is_integer_word s.token.kind) e) (go (extends x.words s.token.kind) refl)
  where
    go : (b : Bool) → extends x.words s.token.kind ≡ b → b ≡ false
    go true f = absurd (true≢false (sym (extends_integer x.words s.token.kind f) ∙ or_fails_right (is_word w.Const s) (is_integer_word s.token.kind) e))
    go false f = refl

-- what may go on with a declarator, by its kind alone
abbrev pub goes_on_kind : TokenKind → Bool
goes_on_kind kind = begins_dtor_kind kind || is_specifier_kind kind

part_fails : (end : DeclaratorEnd) (kind : TokenKind) → goes_on_kind kind ≡ false → (is_mark_kind p.Star kind || is_word_kind w.Const kind || (nat_lt end.stars 1 && is_integer_word kind)) ≡ false
part_fails end kind e =
    let dtor = or_fails_left (begins_dtor_kind kind) (is_specifier_kind kind) e in
    let specifier = or_fails_right (begins_dtor_kind kind) (is_specifier_kind kind) e in
    let bracket = or_fails_left (is_mark_kind p.Star kind || is_name_kind kind || is_mark_kind p.OpenParen kind) (is_mark_kind p.OpenBracket kind) dtor in
    let paren = or_fails_left (is_mark_kind p.Star kind || is_name_kind kind) (is_mark_kind p.OpenParen kind) bracket in
    or_fails (is_mark_kind p.Star kind || is_word_kind w.Const kind) (nat_lt end.stars 1 && is_integer_word kind)
    (or_fails (is_mark_kind p.Star kind) (is_word_kind w.Const kind) (or_fails_left (is_mark_kind p.Star kind) (is_name_kind kind) paren) (or_fails_left (is_word_kind w.Const kind) (is_integer_word kind) specifier))
    (rw (or_fails_right (is_word_kind w.Const kind) (is_integer_word kind) specifier) (and-false_right (nat_lt end.stars 1)))

-- a token that may not go on with a declarator does not
pub declarator_ends : (declared : Declared) (end : DeclaratorEnd) (s : Sight) → goes_on_kind s.token.kind ≡ false → goes_on_declarator declared end s ≡ false
declarator_ends declared end s e =
    let kind = s.token.kind in
    let dtor = or_fails_left (begins_dtor_kind kind) (is_specifier_kind kind) e in
    let bracket = or_fails_left (is_mark_kind p.Star kind || is_name_kind kind || is_mark_kind p.OpenParen kind) (is_mark_kind p.OpenBracket kind) dtor in
    let paren = or_fails_left (is_mark_kind p.Star kind || is_name_kind kind) (is_mark_kind p.OpenParen kind) bracket in
    let name : (is_parameter declared && is_name s) ≡ false = rw (or_fails_right (is_mark_kind p.Star kind) (is_name_kind kind) paren) (and-false_right (is_parameter declared)) in
    or_fails (is_mark_kind p.OpenBracket kind || is_mark_kind p.OpenParen kind) (end.bare && (may_precede end.stars s || (is_parameter declared && is_name s)))
    (or_fails (is_mark_kind p.OpenBracket kind) (is_mark_kind p.OpenParen kind) (or_fails_right (is_mark_kind p.Star kind || is_name_kind kind || is_mark_kind p.OpenParen kind) (is_mark_kind p.OpenBracket kind) dtor) (or_fails_right (is_mark_kind p.Star kind || is_name_kind kind) (is_mark_kind p.OpenParen kind) bracket))
    (rw (or_fails (may_precede end.stars s) (is_parameter declared && is_name s) (part_fails end kind e) name) (and-false_right end.bare))

pub mark_ends : (mark : Punctuator) (declared : Declared) (end : DeclaratorEnd) (s : Sight) → goes_on_kind (k.Punctuator mark) ≡ false → is_mark mark s ≡ true → goes_on_declarator declared end s ≡ false
mark_ends mark declared end s e h = declarator_ends declared end s (ap goes_on_kind (mark_kind mark s.token.kind h) ∙ e)

-- a token with which a type begins, by its kind alone
abbrev pub begins_type_kind : TokenKind → Bool
begins_type_kind kind = is_word_kind w.Const kind || is_word_kind w.Void kind || is_integer_word kind || is_word_kind w.Struct kind || is_name_kind kind

pub begins_by_kind : (types : Types) (s : Sight) → begins_specs types s ≡ true → begins_type_kind s.token.kind ≡ true
begins_by_kind types s e = go (is_word_kind w.Const s.token.kind) (is_word_kind w.Void s.token.kind) (is_integer_word s.token.kind) (is_word_kind w.Struct s.token.kind) (is_name_kind s.token.kind) e
  where
    go : (a b c d f : Bool) → (a || (b || c || d || (f && is_type_text types s.token.text))) ≡ true → (a || b || c || d || f) ≡ true
    go true b c d f h = refl
    go false true c d f h = refl
    go false false true d f h = refl
    go false false false true f h = refl
    go false false false false true h = refl
    go false false false false false h = h

type_brace_kinds : (kind : TokenKind) → (begins_type_kind kind && is_mark_kind p.CloseBrace kind) ≡ false
type_brace_kinds (k.Punctuator p.CloseBrace) = refl
type_brace_kinds (k.Keyword w.Const) = refl
type_brace_kinds kind = refl

pub specs_brace : (types : Types) (s : Sight) → begins_specs types s ≡ true → is_mark p.CloseBrace s ≡ false
specs_brace types s e = apart (begins_type_kind s.token.kind) (is_mark p.CloseBrace s) (type_brace_kinds s.token.kind) (begins_by_kind types s e)

-- a base begins a type, and no base begins with "const"
start_begins : (types : Types) (s : Sight) → is_there (start_of_base types s) ≡ true → begins_specs types s ≡ true
start_begins types s e = go (is_word w.Void s) (is_word w.Struct s) (is_type types s) refl e
  where
    word : (a b c : Bool) → is_there (start_of_word (with_word s.token.kind no_words)) ≡ true → (a || (b || is_integer_word s.token.kind || c || is_type types s)) ≡ true
    word a b c h = rw (extends_integer (Some no_words) s.token.kind (there (with_word s.token.kind no_words) h)) (integer a b c)
      where
        there : (o : Option IntWords) → is_there (start_of_word o) ≡ true → is_there o ≡ true
        there None h = h
        there (Some x) h = refl

        integer : (a b c : Bool) → (a || (b || true || c || is_type types s)) ≡ true
        integer true b c = refl
        integer false true c = refl
        integer false false c = refl

    go : (a b c : Bool) → c ≡ is_type types s → is_there (if a then Some start.Void else if b then Some start.Struct else if c then Some (start.Typedef (identifier_of s)) else start_of_word (with_word s.token.kind no_words)) ≡ true
        → (is_word w.Const s || (a || is_integer_word s.token.kind || b || is_type types s)) ≡ true
    go true b c f h = any_void (is_word w.Const s)
      where
        any_void : (x : Bool) → (x || true) ≡ true
        any_void true = refl
        any_void false = refl
    go false true c f h = any_struct (is_word w.Const s) (is_integer_word s.token.kind)
      where
        any_struct : (x y : Bool) → (x || (y || true || is_type types s)) ≡ true
        any_struct true y = refl
        any_struct false true = refl
        any_struct false false = refl
    go false false true f h = rw (← f) (any_type (is_word w.Const s) (is_integer_word s.token.kind))
      where
        any_type : (x y : Bool) → (x || (y || false || true)) ≡ true
        any_type true y = refl
        any_type false true = refl
        any_type false false = refl
    go false false false f h = word (is_word w.Const s) false false h

pub base_begins : (types : Types) (room count : ℕ) (s : Sight) → is_taken (base_token types room count s) ≡ true → begins_specs types s ≡ true
base_begins types room count s e = go (is_word w.Const s) refl e
  where
    go : (c : Bool) → is_word w.Const s ≡ c → is_taken (if c then Err 0 else demand types room count 0 s (start_of_base types s)) ≡ true → begins_specs types s ≡ true
    go true f h = absurd (true≢false (sym h))
    go false f h = start_begins types s (wanted_taken types room count 0 s (start_of_base types s) h)

pub base_const : (types : Types) (room count : ℕ) (s : Sight) → is_meant (base_token types room count s) ≡ true → is_word w.Const s ≡ false
base_const types room count s e = go (is_word w.Const s) e
  where
    go : (c : Bool) → is_meant (if c then Err 0 else demand types room count 0 s (start_of_base types s)) ≡ true → c ≡ false
    go true h = absurd (true≢false (sym h))
    go false h = refl

-- nothing but a closing bracket is less deep than what stands before it
pub base_brace : (types : Types) (room : ℕ) (s : Sight) → is_blamed (base_token types room 0 s) ≡ true → is_mark p.CloseBrace s ≡ false
base_brace types room s e = go (is_mark p.CloseBrace s) refl
  where
    unblamed : s.token.kind ≡ k.Punctuator p.CloseBrace → is_blamed (base_token types room 0 s) ≡ false
    unblamed h = rw (h, le-ltb (room + 1) 0 zero-le) refl

    go : (c : Bool) → is_mark p.CloseBrace s ≡ c → c ≡ false
    go true f = absurd (true≢false (sym e ∙ unblamed (mark_kind p.CloseBrace s.token.kind f)))
    go false f = refl

-- where a declarator is bare and has no stars, specifiers may go on
pub bare_specifier : (declared : Declared) (end : DeclaratorEnd) (s : Sight) → end.bare ≡ true → end.stars ≡ 0 → goes_on_declarator declared end s ≡ false → is_specifier s ≡ false
bare_specifier declared end s b n e =
    let part = or_fails_right (is_mark p.OpenBracket s || is_mark p.OpenParen s) (end.bare && (may_precede end.stars s || (is_parameter declared && is_name s))) e in
    let part' : (may_precede end.stars s || (is_parameter declared && is_name s)) ≡ false = apart end.bare (may_precede end.stars s || (is_parameter declared && is_name s)) part b in
    let before = or_fails_left (may_precede end.stars s) (is_parameter declared && is_name s) part' in
    let before' : (is_mark p.Star s || is_word w.Const s || (nat_lt 0 1 && is_integer_word s.token.kind)) ≡ false = subst (λ (z : ℕ). may_precede z s ≡ false) n before in
    or_fails (is_word w.Const s) (is_integer_word s.token.kind)
    (or_fails_right (is_mark p.Star s) (is_word w.Const s) (or_fails_left (is_mark p.Star s || is_word w.Const s) (is_integer_word s.token.kind) before'))
    (or_fails_right (is_mark p.Star s || is_word w.Const s) (is_integer_word s.token.kind) before')

-- where it is bare, what may stand before a core may go on
pub bare_precedes : (declared : Declared) (end : DeclaratorEnd) (s : Sight) → end.bare ≡ true → goes_on_declarator declared end s ≡ false → (is_mark p.Star s ≡ false) × (is_word w.Const s ≡ false)
bare_precedes declared end s b e =
    let part = or_fails_right (is_mark p.OpenBracket s || is_mark p.OpenParen s) (end.bare && (may_precede end.stars s || (is_parameter declared && is_name s))) e in
    let part' : (may_precede end.stars s || (is_parameter declared && is_name s)) ≡ false = apart end.bare (may_precede end.stars s || (is_parameter declared && is_name s)) part b in
    let before = or_fails_left (may_precede end.stars s) (is_parameter declared && is_name s) part' in
    let words = or_fails_left (is_mark p.Star s || is_word w.Const s) (nat_lt end.stars 1 && is_integer_word s.token.kind) before in
    (or_fails_left (is_mark p.Star s) (is_word w.Const s) words, or_fails_right (is_mark p.Star s) (is_word w.Const s) words)

-- cores
core_start_there : (types : Types) (declared : Declared) (s : Sight) → is_there (core_name (name_declared types declared s)) ≡ true → is_name s ≡ true
core_start_there types of.Object s e = plain (is_plain types s) refl e
  where
    plain : (c : Bool) → is_plain types s ≡ c → is_there (core_name (if c then Some (identifier_of s) else None)) ≡ true → is_name s ≡ true
    plain true f h = and_left (is_name s) (not (is_type types s)) f
    plain false f h = absurd (true≢false (sym h))
core_start_there types of.Type s e = named (is_name s) e
  where
    named : (c : Bool) → is_there (core_name (if c then Some (identifier_of s) else None)) ≡ true → c ≡ true
    named true h = refl
    named false h = absurd (true≢false (sym h))
core_start_there types of.Field s e = named (is_name s) e
  where
    named : (c : Bool) → is_there (core_name (if c then Some (identifier_of s) else None)) ≡ true → c ≡ true
    named true h = refl
    named false h = absurd (true≢false (sym h))
core_start_there types of.Parameter s e = plain (is_plain types s) refl e
  where
    plain : (c : Bool) → is_plain types s ≡ c → is_there (core_name (if c then Some (identifier_of s) else None)) ≡ true → is_name s ≡ true
    plain true f h = and_left (is_name s) (not (is_type types s)) f
    plain false f h = absurd (true≢false (sym h))
core_start_there types of.Nothing s e = absurd (true≢false (sym e))

-- a core begins with "(" or a name
pub core_begins : (types : Types) (declared : Declared) (s : Sight) → is_there (start_of_core types declared s) ≡ true → (is_mark p.OpenParen s || is_name s) ≡ true
core_begins types declared s e = go (is_mark p.OpenParen s && (is_named declared || not (opens_parameters types s.behind))) refl e
  where
    go : (c : Bool) → (is_mark p.OpenParen s && (is_named declared || not (opens_parameters types s.behind))) ≡ c → is_there (if c then Some (core_start.Open s.token.place) else core_name (name_declared types declared s)) ≡ true → (is_mark p.OpenParen s || is_name s) ≡ true
    go true f h = or_left (is_mark p.OpenParen s) (is_name s) (and_left (is_mark p.OpenParen s) (is_named declared || not (opens_parameters types s.behind)) f)
    go false f h = or_right (is_mark p.OpenParen s) (is_name s) (core_start_there types declared s h)

pub core_taken : (types : Types) (declared : Declared) (room count run : ℕ) (s : Sight) → is_taken (core_token types declared room count run s) ≡ true → is_there (start_of_core types declared s) ≡ true
core_taken types declared room count run s e = go (may_precede run s) (is_named declared) (is_shadowed types declared s) e
  where
    go : (a b c : Bool)
        → is_taken (if a then Err 0 else if b then demand types room (count + run) (shadow_cause types declared s) s (start_of_core types declared s) else if c then Err (blame types room (count + run) 1 s) else offer room (count + run) s (start_of_core types declared s)) ≡ true
        → is_there (start_of_core types declared s) ≡ true
    go true b c h = absurd (true≢false (sym h))
    go false true c h = wanted_taken types room (count + run) (shadow_cause types declared s) s (start_of_core types declared s) h
    go false false true h = absurd (true≢false (sym h))
    go false false false h = offered_meant room (count + run) s (start_of_core types declared s) (or_left (is_taken (offer room (count + run) s (start_of_core types declared s))) (is_blamed (offer room (count + run) s (start_of_core types declared s))) h)

-- what must not stand before a core is refused elsewhere
pub core_unprecedes : (types : Types) (declared : Declared) (room count run : ℕ) (s : Sight) → is_meant (core_token types declared room count run s) ≡ true → may_precede run s ≡ false
core_unprecedes types declared room count run s e = go (may_precede run s) e
  where
    go : (a : Bool)
        → is_meant (if a then Err 0 else if is_named declared then demand types room (count + run) (shadow_cause types declared s) s (start_of_core types declared s) else if is_shadowed types declared s then Err (blame types room (count + run) 1 s) else offer room (count + run) s (start_of_core types declared s)) ≡ true
        → a ≡ false
    go true h = absurd (true≢false (sym h))
    go false h = refl

-- where none need stand there, it begins one or is a shadowed name
pub core_blamed : (types : Types) (declared : Declared) (room count run : ℕ) (s : Sight) → is_named declared ≡ false → is_meant (core_token types declared room count run s) ≡ true → begins_core types declared s ≡ true
core_blamed types declared room count run s n e = go (may_precede run s) (is_named declared) n (is_shadowed types declared s) e
  where
    go : (a b : Bool) → b ≡ false → (c : Bool)
        → is_meant (if a then Err 0 else if b then demand types room (count + run) (shadow_cause types declared s) s (start_of_core types declared s) else if c then Err (blame types room (count + run) 1 s) else offer room (count + run) s (start_of_core types declared s)) ≡ true
        → (is_there (start_of_core types declared s) || c) ≡ true
    go true b n c h = absurd (true≢false (sym h))
    go false true n c h = absurd (true≢false n)
    go false false n true h = or_right (is_there (start_of_core types declared s)) true refl
    go false false n false h = or_left (is_there (start_of_core types declared s)) false (offered_meant room (count + run) s (start_of_core types declared s) h)

shadowed_name : (types : Types) (declared : Declared) (s : Sight) → is_shadowed types declared s ≡ true → is_name s ≡ true
shadowed_name types of.Object s e = and_left (is_name s) (is_type_text types s.token.text) e
shadowed_name types of.Type s e = absurd (true≢false (sym e))
shadowed_name types of.Field s e = absurd (true≢false (sym e))
shadowed_name types of.Parameter s e = and_left (is_name s) (is_type_text types s.token.text) e
shadowed_name types of.Nothing s e = absurd (true≢false (sym e))

-- what begins a core that need not stand there
abbrev begins_rest : Types → Declared → Sight → Bool
begins_rest types declared s = (is_parameter declared && is_name s) || (is_mark p.OpenParen s && not (opens_parameters types s.behind))

begun : (types : Types) (declared : Declared) (s : Sight) → is_named declared ≡ false → is_there (start_of_core types declared s) ≡ true → begins_rest types declared s ≡ true
begun types of.Object s n e = absurd (true≢false n)
begun types of.Type s n e = absurd (true≢false n)
begun types of.Field s n e = absurd (true≢false n)
begun types of.Parameter s n e = go (is_mark p.OpenParen s && not (opens_parameters types s.behind)) e
  where
    go : (c : Bool) → is_there (if c then Some (core_start.Open s.token.place) else core_name (name_declared types of.Parameter s)) ≡ true → (is_name s || c) ≡ true
    go true h = or_right (is_name s) true refl
    go false h = or_left (is_name s) false (core_start_there types of.Parameter s h)
begun types of.Nothing s n e = go (is_mark p.OpenParen s && not (opens_parameters types s.behind)) e
  where
    go : (c : Bool) → is_there (if c then Some (core_start.Open s.token.place) else None) ≡ true → c ≡ true
    go true h = refl
    go false h = absurd (true≢false (sym h))

begun_shadowed : (types : Types) (declared : Declared) (s : Sight) → is_named declared ≡ false → is_shadowed types declared s ≡ true → begins_rest types declared s ≡ true
begun_shadowed types of.Object s n e = absurd (true≢false n)
begun_shadowed types of.Type s n e = absurd (true≢false n)
begun_shadowed types of.Field s n e = absurd (true≢false n)
begun_shadowed types of.Parameter s n e = or_left (is_name s) (is_mark p.OpenParen s && not (opens_parameters types s.behind)) (shadowed_name types of.Parameter s e)
begun_shadowed types of.Nothing s n e = absurd (true≢false (sym e))

-- what goes on with no core at all is what begins one
pub absent_ends : (types : Types) (declared : Declared) (count run : ℕ) (s : Sight) → is_named declared ≡ false → more_core types declared (absent count run) s ≡ false → begins_core types declared s ≡ false
absent_ends types declared count run s n e = go (begins_core types declared s) refl
  where
    fails : begins_rest types declared s ≡ false
    fails =
        or_fails (is_parameter declared && is_name s) (is_mark p.OpenParen s && not (opens_parameters types s.behind))
        (or_fails_right (may_precede run s) (is_parameter declared && is_name s) (or_fails_left (may_precede run s || (is_parameter declared && is_name s)) (is_mark p.OpenParen s && not (opens_parameters types s.behind)) e))
        (or_fails_right (may_precede run s || (is_parameter declared && is_name s)) (is_mark p.OpenParen s && not (opens_parameters types s.behind)) e)

    go : (c : Bool) → begins_core types declared s ≡ c → c ≡ false
    go true f =
        or_cases (is_there (start_of_core types declared s)) (is_shadowed types declared s) f
        (λ h. absurd (true≢false (sym (begun types declared s n h) ∙ fails)))
        (λ h. absurd (true≢false (sym (begun_shadowed types declared s n h) ∙ fails)))
    go false f = refl

-- a part behind a declarator is no part of a core
pub suffix_core : (types : Types) (declared : Declared) (x : ReadDeclarator) (s : Sight) → begins_suffix types x s ≡ true → more_core types declared x s ≡ false
suffix_core types declared x s e =
    or_cases (is_mark p.OpenBracket s) (is_mark p.OpenParen s && not (x.end.bare && not (opens_parameters types s.behind))) e
    (λ h. bracket (mark_kind p.OpenBracket s.token.kind h))
    (λ h. paren x.end.bare (opens_parameters types s.behind) refl refl (mark_kind p.OpenParen s.token.kind (and_left (is_mark p.OpenParen s) _ h)) (and_right (is_mark p.OpenParen s) _ h))
  where
    bracket : s.token.kind ≡ k.Punctuator p.OpenBracket → more_core types declared x s ≡ false
    bracket h = rw h (three x.end.bare (nat_lt x.end.stars 1) (is_parameter declared))
      where
        three : (a b c : Bool) → (a && ((b && false) || (c && false) || false)) ≡ false
        three true true true = refl
        three true true false = refl
        three true false true = refl
        three true false false = refl
        three false b c = refl

    paren : (bare opens : Bool) → bare ≡ x.end.bare → opens ≡ opens_parameters types s.behind → s.token.kind ≡ k.Punctuator p.OpenParen → not (bare && not opens) ≡ true → more_core types declared x s ≡ false
    paren true true b o h n = rw (h, ← b, ← o) (two (nat_lt x.end.stars 1) (is_parameter declared))
      where
        two : (b c : Bool) → ((b && false) || (c && false) || false) ≡ false
        two true true = refl
        two true false = refl
        two false true = refl
        two false false = refl
    paren true false b o h n = absurd (true≢false (sym n))
    paren false opens b o h n = rw (← b) refl

-- it goes on with a declarator
pub suffix_goes_on : (types : Types) (declared : Declared) (x : ReadDeclarator) (s : Sight) → goes_on_declarator declared x.end s ≡ false → begins_suffix types x s ≡ false
suffix_goes_on types declared x s e =
    let marks = or_fails_left (is_mark p.OpenBracket s || is_mark p.OpenParen s) (x.end.bare && (may_precede x.end.stars s || (is_parameter declared && is_name s))) e in
    rw (or_fails_left (is_mark p.OpenBracket s) (is_mark p.OpenParen s) marks, or_fails_right (is_mark p.OpenBracket s) (is_mark p.OpenParen s) marks) refl

-- so does what goes on with a core
pub core_goes_on : (types : Types) (declared : Declared) (x : ReadDeclarator) (s : Sight) → goes_on_declarator declared x.end s ≡ false → more_core types declared x s ≡ false
core_goes_on types declared x s e =
    let marks = or_fails_left (is_mark p.OpenBracket s || is_mark p.OpenParen s) (x.end.bare && (may_precede x.end.stars s || (is_parameter declared && is_name s))) e in
    let part = or_fails_right (is_mark p.OpenBracket s || is_mark p.OpenParen s) (x.end.bare && (may_precede x.end.stars s || (is_parameter declared && is_name s))) e in
    go x.end.bare (may_precede x.end.stars s || (is_parameter declared && is_name s)) (is_mark p.OpenParen s) (not (opens_parameters types s.behind)) part (or_fails_right (is_mark p.OpenBracket s) (is_mark p.OpenParen s) marks)
  where
    go : (a b c d : Bool) → (a && b) ≡ false → c ≡ false → (a && (b || (c && d))) ≡ false
    go true true c d f h = absurd (true≢false f)
    go true false true d f h = absurd (true≢false h)
    go true false false d f h = refl
    go false b c d f h = refl

-- tokens of parts behind a declarator
pub suffix_meant : (types : Types) (declared : Declared) (room : ℕ) (x : ReadDeclarator) (s : Sight) → is_meant (suffix_token types declared room x.end s) ≡ true → begins_suffix types x s ≡ true
suffix_meant types declared room x s e = go (is_mark p.OpenParen s && not (x.end.bare && not (opens_parameters types s.behind))) (is_mark p.OpenBracket s) e
  where
    go : (a b : Bool)
        → is_meant (if a then offer room (x.end.count + x.end.stars) s (Some (suffix_start.Function s.token.place)) else if b then (if has_size declared s.behind || is_deep room (x.end.count + x.end.stars) s then offer room (x.end.count + x.end.stars) s (Some (suffix_start.Array s.token.place)) else Err 2) else Err 0) ≡ true
        → (b || a) ≡ true
    go true b h = or_right b true refl
    go false true h = refl
    go false false h = absurd (true≢false (sym h))

pub unpreceded : (stars : ℕ) (s : Sight) → may_precede stars s ≡ false → (is_mark p.Star s || is_word w.Const s) ≡ false
unpreceded stars s e = or_fails_left (is_mark p.Star s || is_word w.Const s) (nat_lt stars 1 && is_integer_word s.token.kind) e

pub unspecified : (stars : ℕ) (s : Sight) → stars ≡ 0 → may_precede stars s ≡ false → is_specifier s ≡ false
unspecified stars s n e =
    let before : (is_mark p.Star s || is_word w.Const s || (nat_lt 0 1 && is_integer_word s.token.kind)) ≡ false = subst (λ (z : ℕ). may_precede z s ≡ false) n e in
    or_fails (is_word w.Const s) (is_integer_word s.token.kind)
    (or_fails_right (is_mark p.Star s) (is_word w.Const s) (or_fails_left (is_mark p.Star s || is_word w.Const s) (is_integer_word s.token.kind) before))
    (or_fails_right (is_mark p.Star s || is_word w.Const s) (is_integer_word s.token.kind) before)
