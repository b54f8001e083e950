-- The tokens with which statements and declarations in a block begin and go on.
use Rattle.std.proofs.Common.{◌≡◌, ℕ, ◌+◌, ◌≤◌, Bool, true, false, not, ◌&&◌, ◌||◌, if◌then◌else◌, inl, inr, Result, Ok, Err, List, [], ◌∷◌, refl, sym, ◌∙◌, ap, subst, true≢false, zero-le, le-ltb, arith}
use Rattle.std.specs.Prelude.{Option, Some, None}
use Rattle.floyd_text.specs.declared.place.Place.{Place}
use Rattle.floyd_lex.specs.declared.kinds.TokenKind.{TokenKind}
use Rattle.floyd_lex.specs.declared.kinds.TokenKind.TheVariants as k
use Rattle.floyd_lex.specs.declared.kinds.Punctuator.{Punctuator}
use Rattle.floyd_lex.specs.declared.kinds.Punctuator.TheVariants as p
use Rattle.floyd_lex.specs.declared.kinds.Keyword.TheVariants as w
use Rattle.floyd_lex.specs.Token.{Token}
use Rattle.floyd_grammar.specs.Phrase.{none}
use Rattle.floyd_grammar.specs.ParseClauses.{is_taken, is_blamed, is_meant, passes_and, blamed_or}
use Rattle.floyd_cparse_expressions.specs.declared.values.Assigning.{Assigning}
use Rattle.floyd_cparse_types.specs.declared.values.BaseStart.{BaseStart}
use Rattle.floyd_cparse_types.specs.declared.values.BaseStart.TheVariants as base_start
use Rattle.floyd_cparse_expressions.specs.declared.values.Comma.{Comma}
use Rattle.floyd_cparse_types.specs.declared.values.Declared.TheVariants as of
use Rattle.floyd_cparse_expressions.specs.declared.values.EffectNext.TheVariants as next
use Rattle.floyd_cparse_statements.specs.declared.values.LocalEnd.{LocalEnd}
use Rattle.floyd_cparse_statements.specs.declared.values.LocalEnd.TheVariants as end
use Rattle.floyd_cparse_statements.specs.declared.values.Locals.{Locals}
use Rattle.floyd_cparse_expressions.specs.declared.values.Operand.{Operand}
use Rattle.floyd_cparse_statements.specs.declared.values.ReadLocal.{ReadLocal}
use Rattle.floyd_cparse_statements.specs.declared.values.ReadStatement.{ReadStatement}
use Rattle.floyd_cparse_statements.specs.declared.values.StatementStart.TheVariants as start
use Rattle.floyd_cparse_tokens.specs.Tokens.{identifier_of, number, is_closing, opens_type, is_there, Sight, Types, is_mark, is_word, is_name, is_type, is_type_text, is_mark_kind, is_word_kind, is_name_kind, is_integer_word, is_deep}
use Rattle.floyd_cparse_types.specs.Types as tg
use Rattle.floyd_cparse_types.specs.Types.{goes_on_declarator, base_token, const_token, start_of_base, start_of_word, with_word, no_words}
use Rattle.floyd_cparse_expressions.specs.Expressions.{goes_on, goes_on_unary, assigning_of, effect_by, effect_token, after_unary, is_effect}
use Rattle.floyd_cparse_statements.specs.Statements.{is_label, begins_declaration, no_declaration, start_of_statement, is_taken_else, while_token, locals_end, semicolon}
use Rattle.floyd_cparse_tokens.proofs.TokenLemmas.{and_left, and_both, apart, or_cases, or_fails_left, or_fails_right, or_fails, not_false, mark_kind, word_kind, name_kind, and-false_right, there_place, closing_taken, closing_unless, closing_unless_either}
use Rattle.floyd_cparse_types.proofs.TypeSets.{begins_specs, begins_type_kind, begins_by_kind, mark_ends, goes_on_kind}
use Rattle.floyd_cparse_expressions.proofs.ExpressionSets.{begins_unary, is_unary_kind, unary_by_kind, is_postfix_kind, is_infix_kind, ends_unary, infix_unary, assign_infix, mark_ends_expression}

-- what is there is something
pub there_some : {A : Type 0} (o : Option A) → is_there o ≡ true → (x : A) × (o ≡ Some x)
there_some None e = absurd (true≢false (sym e))
there_some (Some x) e = (x, refl)

abbrev pub begins_statement : Types → Sight → Bool
begins_statement types s = is_there (start_of_statement s) || begins_unary types s

abbrev pub more_statement : ReadStatement → Sight → Bool
more_statement x s = is_taken_else x.takes_else s

-- the first tokens of statements that are no effects, by their kind alone
abbrev pub is_start_kind : TokenKind → Bool
is_start_kind kind =
    is_mark_kind p.OpenBrace kind || is_mark_kind p.Semicolon kind || is_word_kind w.If kind || is_word_kind w.While kind || is_word_kind w.Do kind || is_word_kind w.For kind || is_word_kind w.Switch kind || is_word_kind w.Break kind || is_word_kind w.Continue kind || is_word_kind w.Return kind

pub start_by_kind : (s : Sight) → is_there (start_of_statement s) ≡ true → is_start_kind s.token.kind ≡ true
start_by_kind s e = go (is_mark p.OpenBrace s) (is_mark p.Semicolon s) (is_word w.If s) (is_word w.While s) (is_word w.Do s) (is_word w.For s) (is_word w.Switch s) (is_word w.Break s) (is_word w.Continue s) (is_word w.Return s) e
  where
    leaving : (h i j : Bool) → is_there (if h then Some start.Break else if i then Some start.Continue else if j then Some (start.Return s.token.place) else None) ≡ true → (h || i || j) ≡ true
    leaving true i j q = refl
    leaving false true j q = refl
    leaving false false true q = refl
    leaving false false false q = absurd (true≢false (sym q))

    go : (a b c d f g m h i j : Bool)
        → is_there (if a then Some start.Block else if b then Some start.Empty else if c then Some (start.If s.token.place) else if d then Some (start.While s.token.place) else if f then Some start.Do else if g then Some (start.For s.token.place) else if m then Some (start.Switch s.token.place) else if h then Some start.Break else if i then Some start.Continue else if j then Some (start.Return s.token.place) else None) ≡ true
        → (a || b || c || d || f || g || m || h || i || j) ≡ true
    go true b c d f g m h i j q = refl
    go false true c d f g m h i j q = refl
    go false false true d f g m h i j q = refl
    go false false false true f g m h i j q = refl
    go false false false false true g m h i j q = refl
    go false false false false false true m h i j q = refl
    go false false false false false false true h i j q = refl
    go false false false false false false false h i j q = leaving h i j q

start_unary_kinds : (kind : TokenKind) → (is_unary_kind kind && is_start_kind kind) ≡ false
start_unary_kinds (k.Punctuator p.Semicolon) = refl
start_unary_kinds (k.Keyword w.If) = refl
start_unary_kinds (k.Literal type value) = refl
start_unary_kinds kind = refl

pub unary_start : (types : Types) (s : Sight) → begins_unary types s ≡ true → is_there (start_of_statement s) ≡ false
unary_start types s e = go (is_there (start_of_statement s)) refl
  where
    go : (a : Bool) → is_there (start_of_statement s) ≡ a → a ≡ false
    go true f = absurd (true≢false (sym (start_by_kind s f) ∙ apart (is_unary_kind s.token.kind) (is_start_kind s.token.kind) (start_unary_kinds s.token.kind) (unary_by_kind types s e)))
    go false f = refl

-- what begins a declaration begins no statement
type_statement_kinds : (kind : TokenKind) → (begins_type_kind kind && (is_start_kind kind || (is_unary_kind kind && not (is_name_kind kind)))) ≡ false
type_statement_kinds (k.Punctuator p.Semicolon) = refl
type_statement_kinds (k.Keyword w.If) = refl
type_statement_kinds (k.Literal type value) = refl
type_statement_kinds k.Name = refl
type_statement_kinds kind = refl

pub closed_paren : (types : Types) (t : Token) (ts : List Token) → is_mark_kind p.OpenParen t.kind ≡ false → opens_type types (t ∷ ts) ≡ false
closed_paren types t [] e = refl
closed_paren types t (u ∷ ts) e = rw e refl

-- a name that begins an unary expression is no type's
plain_unary : (types : Types) (s : Sight) → s.token.kind ≡ k.Name → is_type_text types s.token.text ≡ true → begins_unary types s ≡ false
plain_unary types s n e = rw (closed_paren types s.token s.behind (ap (is_mark_kind p.OpenParen) n), n, e) refl

name_type : (types : Types) (s : Sight) → s.token.kind ≡ k.Name → begins_specs types s ≡ true → is_type_text types s.token.text ≡ true
name_type types s n e = go (is_type_text types s.token.text) refl
  where
    go : (a : Bool) → is_type_text types s.token.text ≡ a → a ≡ true
    go true f = refl
    go false f = absurd (true≢false (sym e ∙ rw (n, f) refl))

pub statement_declares : (types : Types) (s : Sight) → begins_statement types s ≡ true → begins_declaration types s ≡ false
statement_declares types s e = go (begins_declaration types s) refl
  where
    no_name : begins_specs types s ≡ true → is_name s ≡ false → ⊥
    no_name b n =
        let others = apart (begins_type_kind s.token.kind) (is_start_kind s.token.kind || (is_unary_kind s.token.kind && not (is_name_kind s.token.kind))) (type_statement_kinds s.token.kind) (begins_by_kind types s b) in
        or_cases (is_there (start_of_statement s)) (begins_unary types s) e
        (λ h. true≢false (sym (start_by_kind s h) ∙ or_fails_left (is_start_kind s.token.kind) _ others))
        (λ h. true≢false (sym (and_both (is_unary_kind s.token.kind) (not (is_name s)) (unary_by_kind types s h) (not_false (is_name s) n)) ∙ or_fails_right (is_start_kind s.token.kind) _ others))

    named : begins_specs types s ≡ true → s.token.kind ≡ k.Name → ⊥
    named b n =
        or_cases (is_there (start_of_statement s)) (begins_unary types s) e
        (λ h. true≢false (sym (start_by_kind s h) ∙ ap is_start_kind n))
        (λ h. true≢false (sym h ∙ plain_unary types s n (name_type types s n b)))

    cases : (a : Bool) → is_name s ≡ a → begins_specs types s ≡ true → ⊥
    cases true n b = named b (name_kind s.token.kind n)
    cases false n b = no_name b n

    go : (a : Bool) → begins_declaration types s ≡ a → a ≡ false
    go true f = absurd (cases (is_name s) refl (and_left (begins_specs types s) (not (is_label s)) f))
    go false f = refl

-- declarations pass where they begin
pub declaration_passes : (types : Types) (s : Sight) (b : Bool) → passes_and (no_declaration types s) b ≡ true → begins_declaration types s ≡ true
declaration_passes types s b e = go (begins_declaration types s) e
  where
    go : (a : Bool) → passes_and (if a then None else Some 0) b ≡ true → a ≡ true
    go true h = refl
    go false h = absurd (true≢false (sym h))

pub declaration_blamed : (types : Types) (s : Sight) (b : Bool) → blamed_or (no_declaration types s) b ≡ true → begins_declaration types s ≡ true
declaration_blamed types s b e = go (begins_declaration types s) e
  where
    go : (a : Bool) → blamed_or (if a then None else Some 0) b ≡ true → a ≡ true
    go true h = refl
    go false h = absurd (true≢false (sym h))

pub declaration_none : (types : Types) (s : Sight) → begins_declaration types s ≡ true → no_declaration types s ≡ None
declaration_none types s e = rw e refl

pub passes_begins : (o : Option ℕ) (b : Bool) → passes_and o b ≡ true → b ≡ true
passes_begins None b e = e
passes_begins (Some k) b e = absurd (true≢false (sym e))

-- the first token of a declaration is taken where no room is lost
shallow : (room : ℕ) (s : Sight) → begins_type_kind s.token.kind ≡ true → is_deep room 0 s ≡ false
shallow room s e = go (is_mark p.OpenParen s) (is_mark p.OpenBracket s) (is_mark p.OpenBrace s) refl refl refl
  where
    opening_kinds : (kind : TokenKind) → (begins_type_kind kind && (is_mark_kind p.OpenParen kind || is_mark_kind p.OpenBracket kind || is_mark_kind p.OpenBrace kind)) ≡ false
    opening_kinds (k.Punctuator p.OpenParen) = refl
    opening_kinds (k.Keyword w.Const) = refl
    opening_kinds kind = refl

    closed : (is_mark p.OpenParen s || is_mark p.OpenBracket s || is_mark p.OpenBrace s) ≡ false
    closed = apart (begins_type_kind s.token.kind) _ (opening_kinds s.token.kind) e

    go : (a b c : Bool) → a ≡ is_mark p.OpenParen s → b ≡ is_mark p.OpenBracket s → c ≡ is_mark p.OpenBrace s → is_deep room 0 s ≡ false
    go a b c f g h = rw closed (le-ltb (room + number (is_closing s)) 0 zero-le)

integer_start_kinds : (kind : TokenKind) → (is_integer_word kind && not (is_there (start_of_word (with_word kind no_words)))) ≡ false
integer_start_kinds (k.Keyword w.Char) = refl
integer_start_kinds kind = refl

pub double_not : (b : Bool) → not b ≡ false → b ≡ true
double_not true e = refl
double_not false e = sym e

base_there : (types : Types) (s : Sight) → begins_specs types s ≡ true → is_word w.Const s ≡ false → is_there (start_of_base types s) ≡ true
base_there types s e c = go (is_word w.Void s) (is_word w.Struct s) (is_type types s) (is_integer_word s.token.kind) refl (subst (λ (z : Bool). (z || (is_word w.Void s || is_integer_word s.token.kind || is_word w.Struct s || is_type types s)) ≡ true) c e)
  where
    go : (v t n i : Bool) → i ≡ is_integer_word s.token.kind → (v || i || t || n) ≡ true
        → is_there (if v then Some base_start.Void else if t then Some base_start.Struct else if n then Some (base_start.Typedef (identifier_of s)) else start_of_word (with_word s.token.kind no_words)) ≡ true
    go true t n i q h = refl
    go false true n i q h = refl
    go false false true i q h = refl
    go false false false true q h = double_not _ (apart (is_integer_word s.token.kind) _ (integer_start_kinds s.token.kind) (sym q))
    go false false false false q h = absurd (true≢false (sym h))

pub specs_front : (types : Types) (room : ℕ) (gi : tg.TypePhrases) (s : Sight) → begins_specs types s ≡ true → (tg.specs types room gi 0).front (s ∷ [])
specs_front types room gi s e = go (is_word w.Const s) refl
  where
    deep : is_deep room 0 s ≡ false
    deep = shallow room s (begins_by_kind types s e)

    const_taken : is_word w.Const s ≡ true → const_token room 0 s ≡ Ok s.token.place
    const_taken c = rw (c, deep) refl

    base_taken : is_word w.Const s ≡ false → (x : BaseStart) → start_of_base types s ≡ Some x → base_token types room 0 s ≡ Ok x
    base_taken c x f = rw (c, f, deep) refl

    go : (a : Bool) → is_word w.Const s ≡ a → (tg.specs types room gi 0).front (s ∷ [])
    go true c = inl ([], s ∷ [], None, refl, none, inr (s, s.token.place, refl, const_taken c))
    go false c =
        let x = there_some (start_of_base types s) (base_there types s e c) in
        inr ([], s ∷ [], None, refl, none, inl (inl (inr (s, x.0, refl, base_taken c x.0 x.1))))

-- effects
effect_by_meant : (types : Types) (c : Comma) (room : ℕ) (ending : Sight → Option Place) (x : Operand) (s : Sight) → (is_there (ending s) ≡ true → is_postfix_kind s.token.kind ≡ false) → (o : Option Assigning) → assigning_of s ≡ o → is_meant (effect_by types c room ending x s o) ≡ true → goes_on_unary x.end s ≡ false
effect_by_meant types c room ending x s closes (Some by) f e = infix_unary x.end s (assign_infix s (rw f refl))
effect_by_meant types c room ending x s closes None f e = go (is_there (ending s)) (is_effect x.end.form) refl e
  where
    blamed : (a : Bool) (cause : ℕ) → is_meant (let z : Result next.the_data ℕ = Err (if a then 0 else cause) in z) ≡ true → a ≡ false
    blamed true cause h = absurd (true≢false (sym h))
    blamed false cause h = refl

    go : (a b : Bool) → is_there (ending s) ≡ a → is_meant (if a && b then Ok next.End else Err (after_unary types c room x.end s)) ≡ true → goes_on_unary x.end s ≡ false
    go true true q h = ends_unary x.end s (closes q)
    go true false q h = blamed (goes_on_unary x.end s) _ h
    go false b q h = blamed (goes_on_unary x.end s) _ h

pub effect_meant : (types : Types) (c : Comma) (room : ℕ) (ending : Sight → Option Place) (x : Operand) (s : Sight) → (is_there (ending s) ≡ true → is_postfix_kind s.token.kind ≡ false) → is_meant (effect_token types c room ending x s) ≡ true → goes_on_unary x.end s ≡ false
effect_meant types c room ending x s closes e = effect_by_meant types c room ending x s closes (assigning_of s) refl e

-- where a statement stood inside a word before, room was left, and no `else` is blamed
pub while_meant : (types : Types) (room : ℕ) (x : ReadStatement) (s : Sight) → 1 ≤ room → is_meant (while_token types room 1 s) ≡ true → more_statement x s ≡ false
while_meant types room x s left e = go (is_word w.Else s) refl
  where
    unmeant : s.token.kind ≡ k.Keyword w.Else → is_meant (while_token types room 1 s) ≡ false
    unmeant h = rw (h, le-ltb (room + 0) (1 + 0) (omega arith)) refl

    go : (a : Bool) → is_word w.Else s ≡ a → (x.takes_else && a) ≡ false
    go true f = absurd (true≢false (sym e ∙ unmeant (word_kind w.Else s.token.kind f)))
    go false f = and-false_right x.takes_else

-- local declarators
abbrev pub more_end : LocalEnd → Sight → Bool
more_end (end.Declarator d) s = is_mark p.Equal s || goes_on_declarator of.Object d s
more_end (end.Value x) s = goes_on x s

abbrev pub more_local : ReadLocal → Sight → Bool
more_local x s = more_end x.end s

abbrev pub more_locals : Locals → Sight → Bool
more_locals xs s = is_mark p.Comma s || more_end xs.end s

pub mark_ends_local : (mark : Punctuator) (x : LocalEnd) (s : Sight) → is_mark_kind p.Equal (k.Punctuator mark) ≡ false → goes_on_kind (k.Punctuator mark) ≡ false → (is_postfix_kind (k.Punctuator mark) || is_infix_kind (k.Punctuator mark)) ≡ false → is_mark mark s ≡ true → more_end x s ≡ false
mark_ends_local mark (end.Declarator d) s a b c e = or_fails (is_mark p.Equal s) (goes_on_declarator of.Object d s) (ap (is_mark_kind p.Equal) (mark_kind mark s.token.kind e) ∙ a) (mark_ends mark of.Object d s b e)
mark_ends_local mark (end.Value x) s a b c e = mark_ends_expression mark x s c e

pub locals_end_meant : (types : Types) (room : ℕ) (xs : Locals) (s : Sight) → is_meant (locals_end types room xs.end s) ≡ true → more_locals xs s ≡ false
locals_end_meant types room xs s e = go xs.end e
  where
    go : (x : LocalEnd) → is_meant (locals_end types room x s) ≡ true → (is_mark p.Comma s || more_end x s) ≡ false
    go (end.Declarator d) h =
        or_cases (is_taken (locals_end types room (end.Declarator d) s)) (is_blamed (locals_end types room (end.Declarator d) s)) h
        (λ t. let close = there_place (is_mark p.Semicolon s) s (closing_taken _ (semicolon s) t) in
        or_fails (is_mark p.Comma s) (is_mark p.Equal s || goes_on_declarator of.Object d s) (ap (is_mark_kind p.Comma) (mark_kind p.Semicolon s.token.kind close)) (mark_ends_local p.Semicolon (end.Declarator d) s refl refl refl close))
        (λ b. let f = closing_unless_either (is_mark p.Comma s || is_mark p.Equal s) (goes_on_declarator of.Object d s) _ (semicolon s) b in
        or_fails (is_mark p.Comma s) (is_mark p.Equal s || goes_on_declarator of.Object d s) (or_fails_left (is_mark p.Comma s) (is_mark p.Equal s) f.0)
        (or_fails (is_mark p.Equal s) (goes_on_declarator of.Object d s) (or_fails_right (is_mark p.Comma s) (is_mark p.Equal s) f.0) f.1))
    go (end.Value x) h =
        or_cases (is_taken (locals_end types room (end.Value x) s)) (is_blamed (locals_end types room (end.Value x) s)) h
        (λ t. let close = there_place (is_mark p.Semicolon s) s (closing_taken _ (semicolon s) t) in
        or_fails (is_mark p.Comma s) (goes_on x s) (ap (is_mark_kind p.Comma) (mark_kind p.Semicolon s.token.kind close)) (mark_ends_expression p.Semicolon x s refl close))
        (λ b. let f = closing_unless (goes_on x s || is_mark p.Comma s) _ (semicolon s) b in
        or_fails (is_mark p.Comma s) (goes_on x s) (or_fails_right (goes_on x s) (is_mark p.Comma s) f) (or_fails_left (goes_on x s) (is_mark p.Comma s) f))
