-- The tokens with which the declarations of a file and initial data begin and go on.
use Rattle.std.proofs.Common.{◌≡◌, ℕ, Bool, true, false, not, ◌&&◌, ◌||◌, refl, ◌∙◌, ap}
use Rattle.floyd_lex.specs.declared.kinds.TokenKind.{TokenKind}
use Rattle.floyd_lex.specs.declared.kinds.TokenKind.TheVariants as k
use Rattle.floyd_lex.specs.declared.kinds.Punctuator.{Punctuator}
use Rattle.floyd_lex.specs.declared.kinds.Punctuator.TheVariants as p
use Rattle.floyd_lex.specs.declared.kinds.Keyword.TheVariants as w
use Rattle.floyd_grammar.specs.ParseClauses.{is_taken, is_blamed, is_meant}
use Rattle.floyd_cparse_types.specs.declared.values.Declared.TheVariants as of
use Rattle.floyd_cparse.specs.declared.values.GlobalEnd.{GlobalEnd}
use Rattle.floyd_cparse.specs.declared.values.GlobalEnd.TheVariants as end
use Rattle.floyd_cparse.specs.declared.values.Globals.{Globals}
use Rattle.floyd_cparse.specs.declared.values.Initialisers.{Initialisers}
use Rattle.floyd_cparse.specs.declared.values.ReadGlobal.{ReadGlobal}
use Rattle.floyd_cparse.specs.declared.values.ReadInitialiser.{ReadInitialiser}
use Rattle.floyd_cparse.specs.declared.values.ValueEnd.{ValueEnd}
use Rattle.floyd_cparse_tokens.specs.Tokens.{Sight, Types, is_mark, is_word, is_mark_kind, is_word_kind, next_is, place_if}
use Rattle.floyd_cparse_types.specs.Types.{goes_on_declarator}
use Rattle.floyd_cparse_statements.specs.Statements.{semicolon}
use Rattle.floyd_cparse.specs.Units.{is_last_comma, is_separator, values_end, Typedefs, typedefs_end, globals_end}
use Rattle.floyd_cparse_tokens.proofs.TokenLemmas.{and_left, and_right, apart, or_cases, or_fails_left, or_fails_right, or_fails, mark_kind, and-false_right, there_place, closing_taken, closing_unless, closing_unless_either}
use Rattle.floyd_cparse_types.proofs.TypeSets.{begins_specs, begins_type_kind, begins_by_kind, mark_ends}

-- what goes on with initial data
abbrev pub more_value_end : ValueEnd → Sight → Bool
more_value_end x s = x.address && is_mark p.OpenBracket s

abbrev pub more_init : ReadInitialiser → Sight → Bool
more_init x s = more_value_end x.end s

abbrev pub more_values : Initialisers → Sight → Bool
more_values xs s = is_separator s || more_value_end xs.end s

-- a mark that is no bracket goes on with none
pub mark_ends_value : (mark : Punctuator) (x : ValueEnd) (s : Sight) → is_mark_kind p.OpenBracket (k.Punctuator mark) ≡ false → is_mark mark s ≡ true → more_value_end x s ≡ false
mark_ends_value mark x s n e = rw (ap (is_mark_kind p.OpenBracket) (mark_kind mark s.token.kind e) ∙ n) (and-false_right x.address)

pub separator_ends : (x : ValueEnd) (s : Sight) → is_separator s ≡ true → more_value_end x s ≡ false
separator_ends x s e = mark_ends_value p.Comma x s refl (and_left (is_mark p.Comma s) (not (next_is p.CloseBrace s.behind)) e)

pub last_comma_ends : (xs : Initialisers) (s : Sight) → is_last_comma s ≡ true → more_values xs s ≡ false
last_comma_ends xs s e =
    or_fails (is_separator s) (more_value_end xs.end s)
    (rw (and_left (is_mark p.Comma s) (next_is p.CloseBrace s.behind) e, and_right (is_mark p.Comma s) (next_is p.CloseBrace s.behind) e) refl)
    (mark_ends_value p.Comma xs.end s refl (and_left (is_mark p.Comma s) (next_is p.CloseBrace s.behind) e))

-- "}" behind a list
pub values_end_taken : (types : Types) (room : ℕ) (x : ValueEnd) (s : Sight) → is_taken (values_end types room x s) ≡ true → is_mark p.CloseBrace s ≡ true
values_end_taken types room x s e = there_place (is_mark p.CloseBrace s) s (closing_taken _ (place_if (is_mark p.CloseBrace s) s) e)

pub values_end_blamed : (types : Types) (room : ℕ) (x : ValueEnd) (s : Sight) → is_blamed (values_end types room x s) ≡ true → (is_mark p.Comma s || more_value_end x s) ≡ false
values_end_blamed types room x s e = closing_unless (is_mark p.Comma s || more_value_end x s) _ (place_if (is_mark p.CloseBrace s) s) e

no_comma : (s : Sight) → is_mark p.Comma s ≡ false → is_last_comma s ≡ false
no_comma s e = rw e refl

pub values_end_last : (types : Types) (room : ℕ) (x : ValueEnd) (s : Sight) → is_taken (values_end types room x s) ≡ true → is_last_comma s ≡ false
values_end_last types room x s e = no_comma s (ap (is_mark_kind p.Comma) (mark_kind p.CloseBrace s.token.kind (values_end_taken types room x s e)))

pub values_end_last_blamed : (types : Types) (room : ℕ) (x : ValueEnd) (s : Sight) → is_blamed (values_end types room x s) ≡ true → is_last_comma s ≡ false
values_end_last_blamed types room x s e = no_comma s (or_fails_left (is_mark p.Comma s) (more_value_end x s) (values_end_blamed types room x s e))

pub values_end_meant : (types : Types) (room : ℕ) (xs : Initialisers) (s : Sight) → is_meant (values_end types room xs.end s) ≡ true → more_values xs s ≡ false
values_end_meant types room xs s e =
    or_cases (is_taken (values_end types room xs.end s)) (is_blamed (values_end types room xs.end s)) e
    (λ t. let close = values_end_taken types room xs.end s t in
    or_fails (is_separator s) (more_value_end xs.end s) (rw (ap (is_mark_kind p.Comma) (mark_kind p.CloseBrace s.token.kind close)) refl) (mark_ends_value p.CloseBrace xs.end s refl close))
    (λ b. let f = values_end_blamed types room xs.end s b in
    or_fails (is_separator s) (more_value_end xs.end s) (rw (or_fails_left (is_mark p.Comma s) (more_value_end xs.end s) f) refl) (or_fails_right (is_mark p.Comma s) (more_value_end xs.end s) f))

-- typedefs
abbrev pub more_typedefs : Typedefs → Sight → Bool
more_typedefs xs s = is_mark p.Comma s || goes_on_declarator of.Type xs.end s

pub typedefs_end_meant : (xs : Typedefs) (s : Sight) → is_meant (typedefs_end xs s) ≡ true → more_typedefs xs s ≡ false
typedefs_end_meant xs s e =
    or_cases (is_taken (typedefs_end xs s)) (is_blamed (typedefs_end xs s)) e
    (λ t. let close = there_place (is_mark p.Semicolon s) s (closing_taken _ (semicolon s) t) in
    or_fails (is_mark p.Comma s) (goes_on_declarator of.Type xs.end s) (ap (is_mark_kind p.Comma) (mark_kind p.Semicolon s.token.kind close)) (mark_ends p.Semicolon of.Type xs.end s refl close))
    (λ b. let f = closing_unless_either (is_mark p.Comma s) (goes_on_declarator of.Type xs.end s) _ (semicolon s) b in or_fails (is_mark p.Comma s) (goes_on_declarator of.Type xs.end s) f.0 f.1)

-- global declarators
abbrev pub more_global_end : GlobalEnd → Sight → Bool
more_global_end (end.Declarator d) s = is_mark p.Equal s || goes_on_declarator of.Object d s
more_global_end (end.Value x) s = more_value_end x s

abbrev pub more_global : ReadGlobal → Sight → Bool
more_global x s = more_global_end x.end s

abbrev pub more_globals : Globals → Sight → Bool
more_globals xs s = is_mark p.Comma s || more_global_end xs.end s

pub comma_ends_global : (x : GlobalEnd) (s : Sight) → is_mark p.Comma s ≡ true → more_global_end x s ≡ false
comma_ends_global (end.Declarator d) s e = or_fails (is_mark p.Equal s) (goes_on_declarator of.Object d s) (ap (is_mark_kind p.Equal) (mark_kind p.Comma s.token.kind e)) (mark_ends p.Comma of.Object d s refl e)
comma_ends_global (end.Value x) s e = mark_ends_value p.Comma x s refl e

pub globals_end_taken : (types : Types) (x : GlobalEnd) (s : Sight) → is_taken (globals_end types x s) ≡ true → is_mark p.Semicolon s ≡ true
globals_end_taken types x s t = there_place (is_mark p.Semicolon s) s (closing_taken _ (semicolon s) t)

pub globals_end_meant : (types : Types) (xs : Globals) (s : Sight) → is_meant (globals_end types xs.end s) ≡ true → more_globals xs s ≡ false
globals_end_meant types xs s e = go xs.end e
  where
    go : (x : GlobalEnd) → is_meant (globals_end types x s) ≡ true → (is_mark p.Comma s || more_global_end x s) ≡ false
    go (end.Declarator d) h =
        or_cases (is_taken (globals_end types (end.Declarator d) s)) (is_blamed (globals_end types (end.Declarator d) s)) h
        (λ t. let close = globals_end_taken types (end.Declarator d) s t in
        or_fails (is_mark p.Comma s) (is_mark p.Equal s || goes_on_declarator of.Object d s) (ap (is_mark_kind p.Comma) (mark_kind p.Semicolon s.token.kind close))
        (or_fails (is_mark p.Equal s) (goes_on_declarator of.Object d s) (ap (is_mark_kind p.Equal) (mark_kind p.Semicolon s.token.kind close)) (mark_ends p.Semicolon of.Object d s refl close)))
        (λ b. let f = closing_unless_either (is_mark p.Comma s || is_mark p.Equal s) (goes_on_declarator of.Object d s) _ (semicolon s) b in
        or_fails (is_mark p.Comma s) (is_mark p.Equal s || goes_on_declarator of.Object d s) (or_fails_left (is_mark p.Comma s) (is_mark p.Equal s) f.0)
        (or_fails (is_mark p.Equal s) (goes_on_declarator of.Object d s) (or_fails_right (is_mark p.Comma s) (is_mark p.Equal s) f.0) f.1))
    go (end.Value x) h =
        or_cases (is_taken (globals_end types (end.Value x) s)) (is_blamed (globals_end types (end.Value x) s)) h
        (λ t. let close = globals_end_taken types (end.Value x) s t in
        or_fails (is_mark p.Comma s) (more_value_end x s) (ap (is_mark_kind p.Comma) (mark_kind p.Semicolon s.token.kind close)) (mark_ends_value p.Semicolon x s refl close))
        (λ b. closing_unless (is_mark p.Comma s || more_value_end x s) _ (semicolon s) b)

-- what begins a type is neither "typedef" nor "extern"
type_word_kinds : (kind : TokenKind) → (begins_type_kind kind && (is_word_kind w.Typedef kind || is_word_kind w.Extern kind)) ≡ false
type_word_kinds (k.Keyword w.Typedef) = refl
type_word_kinds (k.Punctuator p.Comma) = refl
type_word_kinds kind = refl

pub specs_words : (types : Types) (s : Sight) → begins_specs types s ≡ true → (is_word w.Typedef s || is_word w.Extern s) ≡ false
specs_words types s e = apart (begins_type_kind s.token.kind) (is_word w.Typedef s || is_word w.Extern s) (type_word_kinds s.token.kind) (begins_by_kind types s e)
