-- Readers of a source, of the shape of its grammar. They decide by the next token.
use Rattle.std.specs.Prelude.{ℕ, zero, suc, pred, Bool, true, false, not, ◌&&◌, Err, List, []}
use Rattle.floyd_text.specs.declared.place.Place.{Place}
use Rattle.floyd_lex.specs.declared.kinds.Punctuator.TheVariants as p
use Rattle.floyd_lex.specs.declared.kinds.Keyword.TheVariants as w
use Rattle.floyd_cparse_trees.specs.declared.declarations.CUnit.{CUnit}
use Rattle.floyd_cparse_trees.specs.declared.declarations.External.{External}
use Rattle.floyd_cparse_trees.specs.declared.declarations.Initialiser.{Initialiser}
use Rattle.floyd_cparse_trees.specs.declared.types.Identifier.{Identifier}
use Rattle.floyd_cparse_types.specs.declared.values.Declared.TheVariants as of
use Rattle.floyd_cparse.specs.declared.values.Globals.{Globals}
use Rattle.floyd_cparse.specs.declared.values.InitialiserStart.{InitialiserStart}
use Rattle.floyd_cparse.specs.declared.values.InitialiserStart.TheVariants as start
use Rattle.floyd_cparse.specs.declared.values.Initialisers.{Initialisers}
use Rattle.floyd_cparse_types.specs.declared.values.ReadDeclarator.{ReadDeclarator}
use Rattle.floyd_cparse.specs.declared.values.ReadGlobal.{ReadGlobal}
use Rattle.floyd_cparse.specs.declared.values.ReadInitialiser.{ReadInitialiser}
use Rattle.floyd_cparse_types.specs.declared.values.ReadSpecifiers.{ReadSpecifiers}
use Rattle.floyd_cparse.specs.declared.values.ValueEnd.{ValueEnd}
use Rattle.floyd_cparse_tokens.specs.Tokens.{without_room, Sight, Types, is_mark, is_word}
use Rattle.floyd_grammar.specs.ParseClauses.{Parser, one, pure, either, folded, ◌>>=◌, ◌>>◌}
use Rattle.floyd_cparse_types.specs.TypeClauses.{within}
use Rattle.floyd_cparse_statements.specs.Statements.{comma_token, equal_token, brace_end}
use Rattle.floyd_cparse_statements.specs.StatementClauses.{statements, block_items}
use Rattle.floyd_cparse.specs.Units.{limit, is_last_comma, is_separator, init_token, element_token, literal_token, element_end, name_token, last_comma_token, separator_token, values_end, typedef_token, extern_token, semicolon_end, body_token, ReadExternal, ReadUnit, Typedefs, element_of, address_of, list_of, literal_read, name_read, first_value, plus_value, first_typedef, plus_typedef, typedef_of, global_with, global_alone, first_global, plus_global, declaration_of, declaration_alone, function_of, read_external, no_externals, plus_external, unit_of, typedefs_end, globals_end}

abbrev pub begins_body : Bool → Sight → Bool
begins_body external s = is_mark p.OpenBrace s && not external

-- `room` is left here, and `inner` is initial data one brace further in.
module _ (types : Types) (room : ℕ) (inner : Parser Sight ReadInitialiser) where
  -- "&" name "[" literal "]"
  unfoldable pub element : Identifier → Parser Sight ReadInitialiser
  element name = do
    place ← one (element_token room)
    index ← one (literal_token types (pred room))
    _ ← one (element_end types (pred room))
    pure (element_of name place index)

  unfoldable pub address : Identifier → Parser Sight ReadInitialiser
  address name = either (is_mark p.OpenBracket) (element name) (pure (address_of name))

  abbrev pub next_value : Parser Sight ReadInitialiser
  next_value = one separator_token >> inner

  -- init {"," init} [","] "}"
  unfoldable pub value_list : Parser Sight Initialisers
  value_list = do
    first ← inner
    folded (λ _. is_separator) plus_value (λ _. next_value) (first_value first)

  unfoldable pub last_comma : Parser Sight Place
  last_comma = one last_comma_token >> one brace_end

  unfoldable pub close_list : ValueEnd → Parser Sight Place
  close_list end = either is_last_comma last_comma (one (values_end types (pred room) end))

  unfoldable pub values : Parser Sight (List Initialiser)
  values = value_list >>= λ all. close_list all.end >>= λ _. pure all.items

  unfoldable pub after_init_start : InitialiserStart → Parser Sight ReadInitialiser
  after_init_start (start.List place) = values >>= λ items. pure (list_of place items)
  after_init_start start.Minus = one (literal_token types room) >>= λ literal. pure (literal_read true literal)
  after_init_start start.Address = one (name_token types room) >>= address
  after_init_start (start.Literal literal) = pure (literal_read false literal)
  after_init_start (start.Name name) = pure (name_read name)

  -- init
  unfoldable pub init : Parser Sight ReadInitialiser
  init = one (init_token types room) >>= after_init_start

-- Initial data where `n` less one is left: none where nothing is.
unfoldable pub inits : Types → ℕ → Parser Sight ReadInitialiser
inits types zero = one (λ s. Err (without_room 0 s))
inits types (suc room) = init types room (inits types room)

abbrev pub next_typedef : Types → Parser Sight ReadDeclarator
next_typedef types = one comma_token >> (within types (suc limit)).dtor of.Type 0

module _ (types : Types) where
  -- dtor {"," dtor}, whose names are in scope behind them
  unfoldable pub typedefs : Parser Sight Typedefs
  typedefs = do
    first ← (within types (suc limit)).dtor of.Type 0
    folded (λ _. is_mark p.Comma) plus_typedef (λ all. next_typedef all.types) (first_typedef types first)

  unfoldable pub typedefs_of : ReadSpecifiers → Parser Sight ReadExternal
  typedefs_of specifiers = do
    all ← typedefs
    _ ← one (typedefs_end all)
    pure (typedef_of specifiers all)

  -- "typedef" specs dtor {"," dtor} ";"
  unfoldable pub typedef : Parser Sight ReadExternal
  typedef = one typedef_token >> ((within types (suc limit)).specs 0 >>= typedefs_of)

  -- dtor ["=" init]
  unfoldable pub global_value : ReadDeclarator → Parser Sight ReadGlobal
  global_value declarator = one equal_token >>= λ place. inits types (suc limit) >>= λ x. pure (global_with declarator place x)

  unfoldable pub global_rest : ReadDeclarator → Parser Sight ReadGlobal
  global_rest declarator = either (is_mark p.Equal) (global_value declarator) (pure (global_alone declarator))

  unfoldable pub global : Parser Sight ReadGlobal
  global = (within types (suc limit)).dtor of.Object 0 >>= global_rest

  abbrev pub next_global : Parser Sight ReadGlobal
  next_global = one comma_token >> global

  -- ["=" init] {"," dtor ["=" init]} behind the first declarator
  unfoldable pub globals : ReadDeclarator → Parser Sight Globals
  globals declarator = do
    first ← global_rest declarator
    folded (λ _. is_mark p.Comma) plus_global (λ _. next_global) (first_global first)

  unfoldable pub declaration : Bool → ReadSpecifiers → ReadDeclarator → Parser Sight External
  declaration external specifiers declarator = do
    all ← globals declarator
    _ ← one (globals_end types all.end)
    pure (declaration_of external specifiers all)

  -- block behind the declarator, where `extern` does not stand before it
  unfoldable pub function : Bool → ReadSpecifiers → ReadDeclarator → Parser Sight External
  function external specifiers declarator = one (body_token external) >> (block_items types (pred limit) (statements types limit) >>= λ items. pure (function_of specifiers declarator items))

  unfoldable pub declared_rest : Bool → ReadSpecifiers → ReadDeclarator → Parser Sight External
  declared_rest external specifiers declarator = either (begins_body external) (function external specifiers declarator) (declaration external specifiers declarator)

  unfoldable pub some_declared : Bool → ReadSpecifiers → Parser Sight External
  some_declared external specifiers = (within types (suc limit)).dtor of.Object 0 >>= declared_rest external specifiers

  unfoldable pub none_declared : Bool → ReadSpecifiers → Parser Sight External
  none_declared external specifiers = one semicolon_end >> pure (declaration_alone external specifiers)

  -- [dtor ..] ";" and dtor block
  unfoldable pub declared : Bool → ReadSpecifiers → Parser Sight ReadExternal
  declared external specifiers = either (is_mark p.Semicolon) (none_declared external specifiers) (some_declared external specifiers) >>= λ tree. pure (read_external types tree)

  -- specs [..] ";" and specs dtor block
  unfoldable pub specified : Bool → Parser Sight ReadExternal
  specified external = (within types (suc limit)).specs 0 >>= declared external

  abbrev pub extern : Parser Sight ReadExternal
  extern = one extern_token >> specified true

  unfoldable pub external : Parser Sight ReadExternal
  external = either (is_word w.Typedef) typedef (either (is_word w.Extern) extern (specified false))

-- { decl | typedef | function }, where the names of types are in scope
unfoldable pub externals : Types → Parser Sight ReadUnit
externals types = folded (λ _ _. true) plus_external (λ all. external all.types) (no_externals types)

unfoldable pub unit : Parser Sight CUnit
unit = externals [] >>= λ all. pure (unit_of all)
