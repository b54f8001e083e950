-- Readers of types, of the shape of their grammar. They decide by the next token.
use Rattle.std.specs.Prelude.{ℕ, zero, suc, ◌+◌, pred, Bool, true, false, not, ◌&&◌, ◌||◌, Option, Some, None, Err, List, [], ◌∷◌, length}
use Rattle.floyd_text.specs.declared.place.Place.{Place}
use Rattle.floyd_lex.specs.declared.kinds.Punctuator.TheVariants as p
use Rattle.floyd_lex.specs.declared.kinds.Keyword.TheVariants as w
use Rattle.floyd_cparse_trees.specs.declared.types.Base.{Base}
use Rattle.floyd_cparse_trees.specs.declared.types.Base.TheVariants as b
use Rattle.floyd_cparse_trees.specs.declared.types.Declarator.TheVariants as d
use Rattle.floyd_cparse_trees.specs.declared.types.FieldDeclaration.{FieldDeclaration}
use Rattle.floyd_cparse_types.specs.declared.values.BaseStart.{BaseStart}
use Rattle.floyd_cparse_types.specs.declared.values.BaseStart.TheVariants as start
use Rattle.floyd_cparse_types.specs.declared.values.CoreStart.{CoreStart}
use Rattle.floyd_cparse_types.specs.declared.values.CoreStart.TheVariants as core_start
use Rattle.floyd_cparse_types.specs.declared.values.Declared.{Declared}
use Rattle.floyd_cparse_types.specs.declared.values.Declared.TheVariants as of
use Rattle.floyd_cparse_types.specs.declared.values.Declarators.{Declarators}
use Rattle.floyd_cparse_types.specs.declared.values.IntWords.{IntWords}
use Rattle.floyd_cparse_types.specs.declared.values.Parameters.{Parameters}
use Rattle.floyd_cparse_types.specs.declared.values.ReadBase.{ReadBase}
use Rattle.floyd_cparse_types.specs.declared.values.ReadDeclarator.{ReadDeclarator}
use Rattle.floyd_cparse_types.specs.declared.values.ReadSpecifiers.{ReadSpecifiers}
use Rattle.floyd_cparse_types.specs.declared.values.SizeStart.{SizeStart}
use Rattle.floyd_cparse_types.specs.declared.values.SizeStart.TheVariants as size_start
use Rattle.floyd_cparse_trees.specs.declared.types.Star.{Star}
use Rattle.floyd_cparse_types.specs.declared.values.SuffixStart.{SuffixStart}
use Rattle.floyd_cparse_types.specs.declared.values.SuffixStart.TheVariants as suffix_start
use Rattle.floyd_cparse_types.specs.declared.values.Tag.{Tag}
use Rattle.floyd_cparse_types.specs.declared.values.Tag.TheVariants as tag
use Rattle.floyd_cparse_tokens.specs.Tokens.{without_room, Sight, Types, is_mark, is_word}
use Rattle.floyd_grammar.specs.ParseClauses.{Parser, one, pure, either, folded, ◌>>=◌, ◌>>◌}
use Rattle.floyd_cparse_types.specs.Types.{keep_first, const_token, with_word, word_token, kind_of_words, plus_declarator, comma_token, brace_end, field_end, fields_token, tag_token, base_token, star_token, parameter_comma, parameters_end, no_parameters_end, inner_end, size_end, size_token, core_token, suffix_token, start_of_core, is_shadowed, is_named, opens_parameters, plus_field, plus_star, first_declarator, specifiers_of, one_parameter, plus_parameter, no_parameters, named, absent, latest, with_suffix, with_stars, without_void}
use Rattle.floyd_cparse_tokens.specs.Tokens.{is_there}

unfoldable pub consts : ℕ → ℕ → Option Place → Parser Sight (Option Place)
consts room count first = folded (λ _. is_word w.Const) keep_first (λ _. one (const_token room count)) first

unfoldable pub int_words : ℕ → ℕ → IntWords → Parser Sight IntWords
int_words room count words = folded (λ words s. is_there (with_word s.token.kind words)) latest (λ words. one (word_token room count words)) words

-- {"*" {"const"}}
unfoldable pub star : ℕ → ℕ → Parser Sight Star
star room count = do
  place ← one (star_token room count)
  constant ← consts room (count + 1) None
  pure (record { place = place; constant = constant })

unfoldable pub stars : ℕ → ℕ → Parser Sight (List Star)
stars room count = folded (λ _. is_mark p.Star) plus_star (λ all. star room (count + length all)) []

-- a token with which a core begins that need not stand there
abbrev pub begins_core : Types → Declared → Sight → Bool
begins_core types declared s = is_there (start_of_core types declared s) || is_shadowed types declared s

-- a token with which a part behind a declarator begins
abbrev pub begins_suffix : Types → ReadDeclarator → Sight → Bool
begins_suffix types declarator s =
    is_mark p.OpenBracket s || (is_mark p.OpenParen s && not (declarator.end.bare && not (opens_parameters types s.behind)))

-- The readers of types at one depth, by the operators before them.
pub record TypeReaders : Type 0 where
  pub specs : ℕ → Parser Sight ReadSpecifiers
  pub dtor : Declared → ℕ → Parser Sight ReadDeclarator

-- `room` is left here, and `inner` has the readers one bracket further in.
module _ (types : Types) (room : ℕ) (inner : TypeReaders) where
  -- dtor {"," dtor}
  unfoldable pub field_declarators : Parser Sight Declarators
  field_declarators = do
    first ← inner.dtor of.Field 0
    folded (λ _. is_mark p.Comma) plus_declarator (λ _. one comma_token >> inner.dtor of.Field 0) (first_declarator first)

  -- specs dtor {"," dtor} ";"
  unfoldable pub field : Parser Sight FieldDeclaration
  field = do
    specifiers ← inner.specs 0
    all ← field_declarators
    _ ← one (field_end types (pred room) all.end)
    pure (record { specifiers = specifiers.tree; declarators = all.items })

  -- one or more of them, and "}"
  unfoldable pub field_list : Parser Sight (List FieldDeclaration)
  field_list = do
    first ← field
    folded (λ _ s. not (is_mark p.CloseBrace s)) plus_field (λ _. field) (first ∷ [])

  unfoldable pub fields : Parser Sight (List FieldDeclaration)
  fields = do
    all ← field_list
    _ ← one brace_end
    pure all

  -- "struct" name, and its fields where "{" is next
  unfoldable pub after_tag : ℕ → Tag → Parser Sight Base
  after_tag count (tag.Alone name) = pure (b.Struct name)
  after_tag count (tag.WithFields name) = do
    _ ← one (fields_token types room count)
    all ← fields
    pure (b.StructWith name all)

  unfoldable pub after_base_start : ℕ → BaseStart → Parser Sight ReadBase
  after_base_start count start.Void = pure (record { tree = b.Void; words = None })
  after_base_start count (start.Typedef name) = pure (record { tree = b.Typedef name; words = None })
  after_base_start count (start.Word first) = do
    words ← int_words room count first
    pure (record { tree = b.Int (kind_of_words words); words = Some words })
  after_base_start count start.Struct = do
    tag ← one (tag_token types room count)
    tree ← after_tag count tag
    pure (record { tree = tree; words = None })

  -- base
  unfoldable pub base : ℕ → Parser Sight ReadBase
  base count = one (base_token types room count) >>= after_base_start count

  -- {"const"} base {"const"}
  unfoldable pub specs : ℕ → Parser Sight ReadSpecifiers
  specs count = do
    before ← consts room count None
    read ← base count
    behind ← consts room count None
    pure (specifiers_of read before behind)

  -- specs pdtor
  unfoldable pub parameter : ℕ → Parser Sight Parameters
  parameter count = do
    specifiers ← inner.specs count
    declarator ← inner.dtor of.Parameter count
    pure (one_parameter specifiers declarator)

  -- specs pdtor {"," specs pdtor} ")"
  unfoldable pub parameters : ℕ → Parser Sight Parameters
  parameters count = do
    first ← parameter count
    folded (λ _. is_mark p.Comma) plus_parameter (λ all. one (parameter_comma (pred room) all.end) >> parameter all.end.count) first

  unfoldable pub parameter_list : ℕ → Parser Sight Parameters
  parameter_list count = do
    all ← parameters count
    _ ← one (parameters_end types (pred room) all.end)
    pure (record all { items = without_void all.items })

  unfoldable pub empty_parameters : ℕ → Parser Sight Parameters
  empty_parameters count = one no_parameters_end >> pure (no_parameters count)

  -- [params] ")"
  unfoldable pub params : ℕ → Parser Sight Parameters
  params count = either (is_mark p.CloseParen) (empty_parameters count) (parameter_list count)

  -- core, of a name or a dtor in parentheses, where there is one
  unfoldable pub after_core : Declared → ℕ → CoreStart → Parser Sight ReadDeclarator
  after_core declared count (core_start.Name name) = pure (named name count)
  after_core declared count (core_start.Open place) = do
    declarator ← inner.dtor declared count
    _ ← one (inner_end types declared (pred room) declarator.end)
    pure (with_suffix declarator (d.Parenthesised place declarator.tree) declarator.end.count)

  unfoldable pub present : Declared → ℕ → ℕ → Parser Sight ReadDeclarator
  present declared count run = one (core_token types declared room count run) >>= after_core declared count

  unfoldable pub core_by : Bool → Declared → ℕ → ℕ → Parser Sight ReadDeclarator
  core_by true declared count run = present declared count run
  core_by false declared count run = either (begins_core types declared) (present declared count run) (pure (absent count run))

  unfoldable pub core : Declared → ℕ → ℕ → Parser Sight ReadDeclarator
  core declared count run = core_by (is_named declared) declared count run

  -- "[" [literal] "]" and "(" [params] ")" behind it
  unfoldable pub after_size : ReadDeclarator → Place → SizeStart → Parser Sight ReadDeclarator
  after_size declarator place size_start.End = pure (with_suffix declarator (d.Array declarator.tree place None) (declarator.end.count + 1))
  after_size declarator place (size_start.Size literal) = do
    _ ← one (size_end types (pred room) (declarator.end.count + 1))
    pure (with_suffix declarator (d.Array declarator.tree place (Some literal)) (declarator.end.count + 1))

  unfoldable pub after_suffix : ReadDeclarator → SuffixStart → Parser Sight ReadDeclarator
  after_suffix declarator (suffix_start.Array place) = one (size_token types (pred room) (declarator.end.count + 1)) >>= after_size declarator place
  after_suffix declarator (suffix_start.Function place) = do
    all ← params (declarator.end.count + 1)
    pure (with_suffix declarator (d.Function declarator.tree place all.items) all.end.count)

  unfoldable pub suffix : Declared → ReadDeclarator → Parser Sight ReadDeclarator
  suffix declared declarator = one (suffix_token types declared room declarator.end) >>= after_suffix declarator

  abbrev pub suffixes : Declared → ReadDeclarator → Parser Sight ReadDeclarator
  suffixes declared first = folded (begins_suffix types) latest (suffix declared) first

  -- {"*" {"const"}} core
  unfoldable pub dtor : Declared → ℕ → Parser Sight ReadDeclarator
  dtor declared count = do
    before ← stars room count
    first ← core declared count (length before)
    all ← suffixes declared first
    pure (record all { tree = with_stars before all.tree })

-- The readers where `n` less one is left: none where nothing is.
unfoldable pub nothing_left : TypeReaders
nothing_left = record { specs = λ count. one (λ s. Err (without_room count s)); dtor = λ declared count. one (λ s. Err (without_room count s)) }

unfoldable pub within : Types → ℕ → TypeReaders
within types zero = nothing_left
within types (suc room) = record { specs = specs types room (within types room); dtor = dtor types room (within types room) }
