-- The grammar of a source.
--
--   unit     = { decl | typedef | function }
--   typedef  = "typedef" specs dtor {"," dtor} ";"
--   decl     = ["extern"] specs [ dtor ["=" init] {"," dtor ["=" init]} ] ";"
--   function = specs dtor block
--   init     = const | "{" init {"," init} [","] "}"
--   const    = ["-"] literal | name | "&" name | "&" name "[" literal "]"
--
-- The names of types in scope grow by each declarator of a typedef, and hold directly behind it.
use Rattle.std.specs.Prelude.{ℕ, zero, suc, pred, Bool, true, false, not, ◌&&◌, ◌||◌, if◌then◌else◌, Option, Some, None, Result, Err, List, [], ◌∷◌, ◌++◌}
use Rattle.floyd_text.specs.declared.place.Place.{Place}
use Rattle.floyd_lex.specs.declared.kinds.Punctuator.TheVariants as p
use Rattle.floyd_lex.specs.declared.kinds.Keyword.TheVariants as w
use Rattle.floyd_grammar.specs.Phrase.{Phrase, one, pure, ◌>>=◌, ◌>>◌, ◌or◌, folded}
use Rattle.floyd_cparse_trees.specs.declared.declarations.CUnit.{CUnit}
use Rattle.floyd_cparse_trees.specs.declared.declarations.Constant.{Constant}
use Rattle.floyd_cparse_trees.specs.declared.declarations.Constant.TheVariants as constant
use Rattle.floyd_cparse_trees.specs.declared.declarations.External.{External}
use Rattle.floyd_cparse_trees.specs.declared.declarations.External.TheVariants as e
use Rattle.floyd_cparse_trees.specs.declared.declarations.Initialiser.{Initialiser}
use Rattle.floyd_cparse_trees.specs.declared.declarations.Initialiser.TheVariants as i
use Rattle.floyd_cparse_trees.specs.declared.statements.BlockItem.{BlockItem}
use Rattle.floyd_cparse_trees.specs.declared.types.Declarator.{Declarator}
use Rattle.floyd_cparse_trees.specs.declared.types.Identifier.{Identifier}
use Rattle.floyd_cparse_trees.specs.declared.types.Literal.{Literal}
use Rattle.floyd_cparse_types.specs.declared.values.Declared.TheVariants as of
use Rattle.floyd_cparse_types.specs.declared.values.DeclaratorEnd.{DeclaratorEnd}
use Rattle.floyd_cparse.specs.declared.values.GlobalEnd.{GlobalEnd}
use Rattle.floyd_cparse.specs.declared.values.GlobalEnd.TheVariants as end
use Rattle.floyd_cparse.specs.declared.values.Globals.{Globals}
use Rattle.floyd_cparse.specs.declared.values.InitialiserStart.{InitialiserStart}
use Rattle.floyd_cparse.specs.declared.values.InitialiserStart.TheVariants as start
use Rattle.floyd_cparse.specs.declared.values.Initialisers.{Initialisers}
use Rattle.floyd_cparse_types.specs.declared.values.ReadDeclarator.{ReadDeclarator}
use Rattle.floyd_cparse.specs.declared.values.ReadGlobal.{ReadGlobal}
use Rattle.floyd_cparse.specs.declared.values.ReadInitialiser.{ReadInitialiser}
use Rattle.floyd_cparse_types.specs.declared.values.ReadSpecifiers.{ReadSpecifiers}
use Rattle.floyd_cparse.specs.declared.values.ValueEnd.{ValueEnd}
use Rattle.floyd_cparse_tokens.specs.Tokens.{without_room, Sight, Types, is_mark, is_word, is_plain, identifier_of, literal_of, next_is, unexpected, blame, offer, demand, found_or, place_if, with_name}
use Rattle.floyd_cparse_types.specs.Types.{within, after_declarator}
use Rattle.floyd_cparse_expressions.specs.Expressions.{close_bracket}
use Rattle.floyd_cparse_statements.specs.Statements.{statements, block_items, semicolon, comma_token, equal_token, brace_end}

-- how deep a token may stand
unfoldable pub limit : ℕ
limit = 200

abbrev pub value_end : ℕ → ValueEnd
value_end count = record { count = count; address = false }

abbrev pub start_of_literal : Option Literal → Option InitialiserStart
start_of_literal None = None
start_of_literal (Some literal) = Some (start.Literal literal)

abbrev pub start_of_init : Types → Sight → Option InitialiserStart
start_of_init types s =
    if is_mark p.OpenBrace s then Some (start.List s.token.place)
    else if is_mark p.Minus s then Some start.Minus
    else if is_mark p.Ampersand s then Some start.Address
    else if is_plain types s then Some (start.Name (identifier_of s))
    else start_of_literal (literal_of s)

abbrev pub plain_name : Types → Sight → Option Identifier
plain_name types s = if is_plain types s then Some (identifier_of s) else None

-- A `,` before "}" ends a list, and separates no further item.
abbrev pub is_last_comma : Sight → Bool
is_last_comma s = is_mark p.Comma s && next_is p.CloseBrace s.behind

abbrev pub is_separator : Sight → Bool
is_separator s = is_mark p.Comma s && not (next_is p.CloseBrace s.behind)

-- for what a token is refused directly behind initial data
abbrev pub after_value : Types → ℕ → ValueEnd → Sight → ℕ
after_value types room end s =
    if is_mark p.Comma s || (end.address && is_mark p.OpenBracket s) then unexpected else blame types room end.count unexpected s

-- Tokens.
abbrev pub init_token : Types → ℕ → Sight → Result InitialiserStart ℕ
init_token types room s = demand types room 0 unexpected s (start_of_init types s)

abbrev pub element_token : ℕ → Sight → Result Place ℕ
element_token room s = offer room 0 s (place_if (is_mark p.OpenBracket s) s)

abbrev pub literal_token : Types → ℕ → Sight → Result Literal ℕ
literal_token types room s = demand types room 1 unexpected s (literal_of s)

abbrev pub element_end : Types → ℕ → Sight → Result Place ℕ
element_end types room s = found_or (blame types room 1 unexpected s) (close_bracket s)

abbrev pub name_token : Types → ℕ → Sight → Result Identifier ℕ
name_token types room s = demand types room 1 unexpected s (plain_name types s)

abbrev pub last_comma_token : Sight → Result Place ℕ
last_comma_token s = found_or unexpected (place_if (is_last_comma s) s)

abbrev pub separator_token : Sight → Result Place ℕ
separator_token s = found_or unexpected (place_if (is_separator s) s)

abbrev pub values_end : Types → ℕ → ValueEnd → Sight → Result Place ℕ
values_end types room end s = found_or (after_value types room end s) (place_if (is_mark p.CloseBrace s) s)

abbrev pub typedef_token : Sight → Result Place ℕ
typedef_token s = found_or unexpected (place_if (is_word w.Typedef s) s)

abbrev pub extern_token : Sight → Result Place ℕ
extern_token s = found_or unexpected (place_if (is_word w.Extern s) s)

abbrev pub semicolon_end : Sight → Result Place ℕ
semicolon_end s = found_or unexpected (semicolon s)

abbrev pub body_token : Bool → Sight → Result Place ℕ
body_token external s = found_or unexpected (place_if (is_mark p.OpenBrace s && not external) s)

-- What is built.
pub record ReadExternal : Type 0 where
  pub tree : External
  pub types : Types

pub record ReadUnit : Type 0 where
  pub externals : List External
  pub types : Types

pub record Typedefs : Type 0 where
  pub items : List Declarator
  pub types : Types
  pub end : DeclaratorEnd

abbrev pub constant_read : Constant → ValueEnd → ReadInitialiser
constant_read tree end = record { tree = i.Constant tree; end = end }

abbrev pub element_of : Identifier → Place → Literal → ReadInitialiser
element_of name place index = constant_read (constant.Element name place index) (value_end 1)

abbrev pub address_of : Identifier → ReadInitialiser
address_of name = constant_read (constant.Address name) (record { count = 0; address = true })

abbrev pub list_of : Place → List Initialiser → ReadInitialiser
list_of place items = record { tree = i.List place items; end = value_end 0 }

abbrev pub literal_read : Bool → Literal → ReadInitialiser
literal_read negative literal = constant_read (constant.Literal negative literal) (value_end 0)

abbrev pub name_read : Identifier → ReadInitialiser
name_read name = constant_read (constant.Name name) (value_end 0)

abbrev pub first_value : ReadInitialiser → Initialisers
first_value first = record { items = first.tree ∷ []; end = first.end }

abbrev pub plus_value : Initialisers → ReadInitialiser → Initialisers
plus_value all next = record { items = all.items ++ next.tree ∷ []; end = next.end }

abbrev pub first_typedef : Types → ReadDeclarator → Typedefs
first_typedef types first = record { items = first.tree ∷ []; types = with_name first.name types; end = first.end }

abbrev pub plus_typedef : Typedefs → ReadDeclarator → Typedefs
plus_typedef all next = record { items = all.items ++ next.tree ∷ []; types = with_name next.name all.types; end = next.end }

abbrev pub typedef_of : ReadSpecifiers → Typedefs → ReadExternal
typedef_of specifiers all = record { tree = e.Typedef (record { specifiers = specifiers.tree; declarators = all.items }); types = all.types }

abbrev pub global_with : ReadDeclarator → Place → ReadInitialiser → ReadGlobal
global_with declarator place x = record { item = record { declarator = declarator.tree; initialiser = Some (place, x.tree) }; end = end.Value x.end }

abbrev pub global_alone : ReadDeclarator → ReadGlobal
global_alone declarator = record { item = record { declarator = declarator.tree; initialiser = None }; end = end.Declarator declarator.end }

abbrev pub first_global : ReadGlobal → Globals
first_global first = record { items = first.item ∷ []; end = first.end }

abbrev pub plus_global : Globals → ReadGlobal → Globals
plus_global all next = record { items = all.items ++ next.item ∷ []; end = next.end }

abbrev pub declaration_of : Bool → ReadSpecifiers → Globals → External
declaration_of external specifiers all = e.Declaration (record { external = external; specifiers = specifiers.tree; declarators = all.items })

abbrev pub declaration_alone : Bool → ReadSpecifiers → External
declaration_alone external specifiers = e.Declaration (record { external = external; specifiers = specifiers.tree; declarators = [] })

abbrev pub function_of : ReadSpecifiers → ReadDeclarator → List BlockItem → External
function_of specifiers declarator items = e.Function (record { specifiers = specifiers.tree; declarator = declarator.tree; body = items })

abbrev pub read_external : Types → External → ReadExternal
read_external types tree = record { tree = tree; types = types }

abbrev pub no_externals : Types → ReadUnit
no_externals types = record { externals = []; types = types }

abbrev pub plus_external : ReadUnit → ReadExternal → ReadUnit
plus_external all next = record { externals = all.externals ++ next.tree ∷ []; types = next.types }

abbrev pub unit_of : ReadUnit → CUnit
unit_of all = record { externals = all.externals }

-- for what a token is refused directly behind a declarator of a list
abbrev pub typedefs_end : Typedefs → Sight → Result Place ℕ
typedefs_end all s = found_or (if is_mark p.Comma s then unexpected else after_declarator all.types of.Type limit all.end unexpected s) (semicolon s)

abbrev pub after_global : Types → GlobalEnd → Sight → ℕ
after_global types (end.Declarator declarator) s =
    if is_mark p.Comma s || is_mark p.Equal s then unexpected else after_declarator types of.Object limit declarator unexpected s
after_global types (end.Value x) s = after_value types limit x s

abbrev pub globals_end : Types → GlobalEnd → Sight → Result Place ℕ
globals_end types end s = found_or (after_global types end s) (semicolon s)

-- `room` is left here, and `inner` is initial data one brace further in.
module _ (types : Types) (room : ℕ) (inner : Phrase Sight ReadInitialiser) where
  -- "&" name "[" literal "]"
  abbrev pub element : Identifier → Phrase Sight ReadInitialiser
  element name = do
    place ← one (element_token room)
    index ← one (literal_token types (pred room))
    _ ← one (element_end types (pred room))
    pure (element_of name place index)

  abbrev pub address : Identifier → Phrase Sight ReadInitialiser
  address name = element name or pure (address_of name)

  -- init {"," init} [","] "}"
  abbrev pub value_list : Phrase Sight Initialisers
  value_list = do
    first ← inner
    folded plus_value (λ _. one separator_token >> inner) (first_value first)

  abbrev pub last_comma : Phrase Sight Place
  last_comma = one last_comma_token >> one brace_end

  abbrev pub close_list : ValueEnd → Phrase Sight Place
  close_list end = last_comma or one (values_end types (pred room) end)

  abbrev pub values : Phrase Sight (List Initialiser)
  values = value_list >>= λ all. close_list all.end >>= λ _. pure all.items

  abbrev pub after_init_start : InitialiserStart → Phrase Sight ReadInitialiser
  after_init_start (start.List place) = values >>= λ items. pure (list_of place items)
  after_init_start start.Minus = one (literal_token types room) >>= λ literal. pure (literal_read true literal)
  after_init_start start.Address = one (name_token types room) >>= address
  after_init_start (start.Literal literal) = pure (literal_read false literal)
  after_init_start (start.Name name) = pure (name_read name)

  -- init
  abbrev pub init : Phrase Sight ReadInitialiser
  init = one (init_token types room) >>= after_init_start

-- Initial data where `n` less one is left: none where nothing is.
unfoldable pub inits : Types → ℕ → Phrase Sight ReadInitialiser
inits types zero = one (λ s. Err (without_room 0 s))
inits types (suc room) = init types room (inits types room)

module _ (types : Types) where
  -- dtor {"," dtor}, whose names are in scope behind them
  abbrev pub typedefs : Phrase Sight Typedefs
  typedefs = do
    first ← (within types (suc limit)).dtor of.Type 0
    folded plus_typedef (λ all. one comma_token >> (within all.types (suc limit)).dtor of.Type 0) (first_typedef types first)

  abbrev pub typedefs_of : ReadSpecifiers → Phrase Sight ReadExternal
  typedefs_of specifiers = do
    all ← typedefs
    _ ← one (typedefs_end all)
    pure (typedef_of specifiers all)

  -- "typedef" specs dtor {"," dtor} ";"
  abbrev pub typedef : Phrase Sight ReadExternal
  typedef = one typedef_token >> ((within types (suc limit)).specs 0 >>= typedefs_of)

  -- dtor ["=" init]
  abbrev pub global_value : ReadDeclarator → Phrase Sight ReadGlobal
  global_value declarator = one equal_token >>= λ place. inits types (suc limit) >>= λ x. pure (global_with declarator place x)

  abbrev pub global_rest : ReadDeclarator → Phrase Sight ReadGlobal
  global_rest declarator = global_value declarator or pure (global_alone declarator)

  abbrev pub global : Phrase Sight ReadGlobal
  global = (within types (suc limit)).dtor of.Object 0 >>= global_rest

  -- ["=" init] {"," dtor ["=" init]} behind the first declarator
  abbrev pub globals : ReadDeclarator → Phrase Sight Globals
  globals declarator = do
    first ← global_rest declarator
    folded plus_global (λ _. one comma_token >> global) (first_global first)

  abbrev pub declaration : Bool → ReadSpecifiers → ReadDeclarator → Phrase Sight External
  declaration external specifiers declarator = do
    all ← globals declarator
    _ ← one (globals_end types all.end)
    pure (declaration_of external specifiers all)

  -- block behind the declarator, where `extern` does not stand before it
  abbrev pub function : Bool → ReadSpecifiers → ReadDeclarator → Phrase Sight External
  function external specifiers declarator = one (body_token external) >> (block_items types (pred limit) (statements types limit) >>= λ items. pure (function_of specifiers declarator items))

  abbrev pub declared_rest : Bool → ReadSpecifiers → ReadDeclarator → Phrase Sight External
  declared_rest external specifiers declarator = function external specifiers declarator or declaration external specifiers declarator

  abbrev pub some_declared : Bool → ReadSpecifiers → Phrase Sight External
  some_declared external specifiers = (within types (suc limit)).dtor of.Object 0 >>= declared_rest external specifiers

  abbrev pub none_declared : Bool → ReadSpecifiers → Phrase Sight External
  none_declared external specifiers = one semicolon_end >> pure (declaration_alone external specifiers)

  -- [dtor ..] ";" and dtor block
  abbrev pub declared : Bool → ReadSpecifiers → Phrase Sight ReadExternal
  declared external specifiers = (none_declared external specifiers or some_declared external specifiers) >>= λ tree. pure (read_external types tree)

  -- specs [..] ";" and specs dtor block
  abbrev pub specified : Bool → Phrase Sight ReadExternal
  specified external = (within types (suc limit)).specs 0 >>= declared external

  abbrev pub extern : Phrase Sight ReadExternal
  extern = one extern_token >> specified true

  abbrev pub external : Phrase Sight ReadExternal
  external = typedef or (extern or specified false)

-- { decl | typedef | function }, where the names of types are in scope
abbrev pub externals : Types → Phrase Sight ReadUnit
externals types = folded plus_external (λ all. external all.types) (no_externals types)

unfoldable pub unit : Phrase Sight CUnit
unit = externals [] >>= λ all. pure (unit_of all)
