-- The grammar of types: specifiers, declarators and type names. The names of types in scope are an argument of each
-- production, `room` and `count` are the depth at which its first token stands.
--
--   specs    = {"const"} base {"const"}
--   base     = "void" | an integer type's words in any order | "struct" name
--            | "struct" name "{" specs dtor {"," dtor} ";" {specs dtor {"," dtor} ";"} "}" | typedef-name
--   dtor     = {"*" {"const"}} core
--   core     = name | "(" dtor ")" | core "[" [literal] "]" | core "(" [params] ")"
--   params   = "void" | specs pdtor {"," specs pdtor}   (pdtor: a dtor, its name may be absent)
--   typename = specs dtor-without-name
use Rattle.std.specs.Prelude.{ℕ, zero, suc, ◌+◌, nat_lt, pred, Bool, true, false, not, ◌&&◌, ◌||◌, if◌then◌else◌, Option, Some, None, option_map, Result, Ok, Err, List, [], ◌∷◌, ◌++◌, length}
use Rattle.floyd_int.specs.declared.kinds.IntKind.{IntKind}
use Rattle.floyd_int.specs.declared.kinds.IntKind.TheVariants.{I8, U8, I16, U16, I32, U32, I64, U64}
use Rattle.floyd_text.specs.declared.place.Place.{Place}
use Rattle.floyd_lex.specs.declared.kinds.TokenKind.{TokenKind}
use Rattle.floyd_lex.specs.declared.kinds.TokenKind.TheVariants as k
use Rattle.floyd_lex.specs.declared.kinds.Punctuator.TheVariants as p
use Rattle.floyd_lex.specs.declared.kinds.Keyword.TheVariants as w
use Rattle.floyd_lex.specs.Token.{Token}
use Rattle.floyd_grammar.specs.Phrase.{Phrase, one, pure, ◌>>=◌, ◌>>◌, ◌or◌, folded}
use Rattle.floyd_cparse_trees.specs.declared.types.Base.{Base}
use Rattle.floyd_cparse_trees.specs.declared.types.Base.TheVariants as b
use Rattle.floyd_cparse_trees.specs.declared.types.Declarator.{Declarator}
use Rattle.floyd_cparse_trees.specs.declared.types.Declarator.TheVariants as d
use Rattle.floyd_cparse_trees.specs.declared.types.Identifier.{Identifier}
use Rattle.floyd_cparse_trees.specs.declared.types.Parameter.{Parameter}
use Rattle.floyd_cparse_trees.specs.declared.types.FieldDeclaration.{FieldDeclaration}
use Rattle.floyd_cparse_types.specs.declared.values.BaseStart.{BaseStart}
use Rattle.floyd_cparse_types.specs.declared.values.BaseStart.TheVariants as start
use Rattle.floyd_cparse_types.specs.declared.values.CoreStart.{CoreStart}
use Rattle.floyd_cparse_types.specs.declared.values.CoreStart.TheVariants as core_start
use Rattle.floyd_cparse_types.specs.declared.values.Declared.{Declared}
use Rattle.floyd_cparse_types.specs.declared.values.Declared.TheVariants as of
use Rattle.floyd_cparse_types.specs.declared.values.DeclaratorEnd.{DeclaratorEnd}
use Rattle.floyd_cparse_types.specs.declared.values.Declarators.{Declarators}
use Rattle.floyd_cparse_types.specs.declared.values.IntWords.{IntWords}
use Rattle.floyd_cparse_types.specs.declared.values.Parameters.{Parameters}
use Rattle.floyd_cparse_types.specs.declared.values.ReadBase.{ReadBase}
use Rattle.floyd_cparse_types.specs.declared.values.ReadDeclarator.{ReadDeclarator}
use Rattle.floyd_cparse_types.specs.declared.values.ReadSpecifiers.{ReadSpecifiers}
use Rattle.floyd_cparse_types.specs.declared.values.Sign.{Sign}
use Rattle.floyd_cparse_types.specs.declared.values.Sign.TheVariants as sign
use Rattle.floyd_cparse_types.specs.declared.values.Size.{Size}
use Rattle.floyd_cparse_types.specs.declared.values.Size.TheVariants as size
use Rattle.floyd_cparse_types.specs.declared.values.SizeStart.{SizeStart}
use Rattle.floyd_cparse_types.specs.declared.values.SizeStart.TheVariants as size_start
use Rattle.floyd_cparse_trees.specs.declared.types.Star.{Star}
use Rattle.floyd_cparse_types.specs.declared.values.SuffixStart.{SuffixStart}
use Rattle.floyd_cparse_types.specs.declared.values.SuffixStart.TheVariants as suffix_start
use Rattle.floyd_cparse_types.specs.declared.values.Tag.{Tag}
use Rattle.floyd_cparse_types.specs.declared.values.Tag.TheVariants as tag
use Rattle.floyd_cparse_tokens.specs.Tokens.{is_there, without_room, Sight, Types, is_mark, is_word, is_name, is_type, is_plain, identifier_of, literal_of, is_literal_token, next_is, is_mark_kind, is_integer_word, begins_type, unexpected, shadowed, left_out, is_deep, blame, offer, demand, found_or, place_if}

-- The words of an integer type: what one more word makes of them, where it may stand beside them.
abbrev pub no_words : IntWords
no_words = record { sign = sign.Default; size = size.Default; int = false }

abbrev pub with_sign : Sign → IntWords → Option IntWords
with_sign s words = elim words.sign [ sign.Default ↦ Some record words { sign = s } | sign.Signed ↦ None | sign.Unsigned ↦ None ]

abbrev pub with_long : Size → IntWords → Option IntWords
with_long size.Default words = Some record words { size = size.Long }
with_long size.Long words = Some record words { size = size.LongLong }
with_long other words = None

abbrev pub with_size : Size → Size → IntWords → Option IntWords
with_size s size.Default words = Some record words { size = s }
with_size s other words = None

abbrev pub with_int : Size → IntWords → Option IntWords
with_int size.Char words = None
with_int other words = if words.int then None else Some record words { int = true }

abbrev pub with_word : TokenKind → IntWords → Option IntWords
with_word (k.Keyword w.Signed) words = with_sign sign.Signed words
with_word (k.Keyword w.Unsigned) words = with_sign sign.Unsigned words
with_word (k.Keyword w.Char) words = if words.int then None else with_size size.Char words.size words
with_word (k.Keyword w.Short) words = with_size size.Short words.size words
with_word (k.Keyword w.Int) words = with_int words.size words
with_word (k.Keyword w.Long) words = with_long words.size words
with_word kind words = None

-- the kind that they say; char, short and long are signed, and `long long` is `long`
abbrev pub signed_kind : Size → IntKind
signed_kind size.Default = I32
signed_kind size.Char = I8
signed_kind size.Short = I16
signed_kind size.Long = I64
signed_kind size.LongLong = I64

abbrev pub unsigned_kind : Size → IntKind
unsigned_kind size.Default = U32
unsigned_kind size.Char = U8
unsigned_kind size.Short = U16
unsigned_kind size.Long = U64
unsigned_kind size.LongLong = U64

abbrev pub kind_of_words : IntWords → IntKind
kind_of_words words = elim words.sign [ sign.Default ↦ signed_kind words.size | sign.Signed ↦ signed_kind words.size | sign.Unsigned ↦ unsigned_kind words.size ]

-- one more of these words may follow
abbrev pub extends : Option IntWords → TokenKind → Bool
extends None kind = false
extends (Some words) kind = is_there (with_word kind words)

-- "const"
abbrev pub const_token : ℕ → ℕ → Sight → Result Place ℕ
const_token room count s = offer room count s (place_if (is_word w.Const s) s)

abbrev pub keep_first : Option Place → Place → Option Place
keep_first None place = Some place
keep_first (Some first) place = Some first

-- {"const"}: the first place of all, where there is one
abbrev pub consts : ℕ → ℕ → Option Place → Phrase Sight (Option Place)
consts room count first = folded keep_first (λ _. one (const_token room count)) first

-- the latest of what was read
abbrev pub latest : {A : Type 0} → A → A → A
latest old new = new

-- one word more of an integer type
abbrev pub word_token : ℕ → ℕ → IntWords → Sight → Result IntWords ℕ
word_token room count words s = offer room count s (with_word s.token.kind words)

abbrev pub int_words : ℕ → ℕ → IntWords → Phrase Sight IntWords
int_words room count words = folded latest (λ words. one (word_token room count words)) words

-- the first token of a base
abbrev pub start_of_word : Option IntWords → Option BaseStart
start_of_word None = None
start_of_word (Some words) = Some (start.Word words)

abbrev pub start_of_base : Types → Sight → Option BaseStart
start_of_base types s =
    if is_word w.Void s then Some start.Void
    else if is_word w.Struct s then Some start.Struct
    else if is_type types s then Some (start.Typedef (identifier_of s))
    else start_of_word (with_word s.token.kind no_words)

-- A tag. It is known by the next token whether fields follow.
abbrev pub tag_of : Sight → Option Tag
tag_of s = if is_name s then Some (if next_is p.OpenBrace s.behind then tag.WithFields (identifier_of s) else tag.Alone (identifier_of s)) else None

-- Where an array's size is sought, "]" or a literal and "]" stand next, or the file ends there. Only a parameter's may be
-- absent.
abbrev pub is_parameter : Declared → Bool
is_parameter of.Parameter = true
is_parameter declared = false

abbrev pub has_size : Declared → List Token → Bool
has_size declared [] = is_parameter declared
has_size declared (t ∷ []) = is_literal_token t || (is_parameter declared && is_mark_kind p.CloseBracket t.kind)
has_size declared (t ∷ u ∷ ts) =
    (is_literal_token t && is_mark_kind p.CloseBracket u.kind) || (is_parameter declared && is_mark_kind p.CloseBracket t.kind)

-- "(" opens a parameter list where no name stands before it
abbrev pub opens_parameters : Types → List Token → Bool
opens_parameters types [] = false
opens_parameters types (t ∷ ts) = is_mark_kind p.CloseParen t.kind || begins_type types t

-- What may go on with a declarator: a part behind it, and, where it has neither a name nor such a part, what may stand
-- before them.
abbrev pub may_precede : ℕ → Sight → Bool
may_precede stars s = is_mark p.Star s || is_word w.Const s || (nat_lt stars 1 && is_integer_word s.token.kind)

abbrev pub goes_on_declarator : Declared → DeclaratorEnd → Sight → Bool
goes_on_declarator declared end s =
    is_mark p.OpenBracket s || is_mark p.OpenParen s || (end.bare && (may_precede end.stars s || (is_parameter declared && is_name s)))

-- for what a token is refused directly behind a declarator; what may go on with it is refused, if at all, there
abbrev pub after_declarator : Types → Declared → ℕ → DeclaratorEnd → ℕ → Sight → ℕ
after_declarator types declared room end special s =
    if goes_on_declarator declared end s then unexpected else blame types room (end.count + end.stars) special s

-- a name that may be declared
abbrev pub name_declared : Types → Declared → Sight → Option Identifier
name_declared types of.Object s = if is_plain types s then Some (identifier_of s) else None
name_declared types of.Type s = if is_name s then Some (identifier_of s) else None
name_declared types of.Field s = if is_name s then Some (identifier_of s) else None
name_declared types of.Parameter s = if is_plain types s then Some (identifier_of s) else None
name_declared types of.Nothing s = None

-- what is declared must have a name
abbrev pub is_named : Declared → Bool
is_named of.Object = true
is_named of.Type = true
is_named of.Field = true
is_named of.Parameter = false
is_named of.Nothing = false

-- a name of a type is declared as something else
abbrev pub is_shadowed : Types → Declared → Sight → Bool
is_shadowed types of.Object s = is_type types s
is_shadowed types of.Type s = false
is_shadowed types of.Field s = false
is_shadowed types of.Parameter s = is_type types s
is_shadowed types of.Nothing s = false

abbrev pub core_name : Option Identifier → Option CoreStart
core_name None = None
core_name (Some name) = Some (core_start.Name name)

-- the first token of what stands behind the stars
abbrev pub start_of_core : Types → Declared → Sight → Option CoreStart
start_of_core types declared s =
    if is_mark p.OpenParen s && (is_named declared || not (opens_parameters types s.behind)) then Some (core_start.Open s.token.place)
    else core_name (name_declared types declared s)

abbrev pub shadow_cause : Types → Declared → Sight → ℕ
shadow_cause types declared s = if is_shadowed types declared s then shadowed else unexpected

-- it must stand there for what has a name, and may for what has none
abbrev pub core_token : Types → Declared → ℕ → ℕ → ℕ → Sight → Result CoreStart ℕ
core_token types declared room count stars s =
    if may_precede stars s then Err unexpected
    else if is_named declared then demand types room (count + stars) (shadow_cause types declared s) s (start_of_core types declared s)
    else if is_shadowed types declared s then Err (blame types room (count + stars) shadowed s)
    else offer room (count + stars) s (start_of_core types declared s)

-- a part behind a declarator
abbrev pub suffix_token : Types → Declared → ℕ → DeclaratorEnd → Sight → Result SuffixStart ℕ
suffix_token types declared room end s =
    if is_mark p.OpenParen s && not (end.bare && not (opens_parameters types s.behind)) then offer room (end.count + end.stars) s (Some (suffix_start.Function s.token.place))
    else if is_mark p.OpenBracket s then (if has_size declared s.behind || is_deep room (end.count + end.stars) s then offer room (end.count + end.stars) s (Some (suffix_start.Array s.token.place)) else Err left_out)
    else Err unexpected

-- "]" is not as deep as what stands in the brackets
abbrev pub size_token : Types → ℕ → ℕ → Sight → Result SizeStart ℕ
size_token types room count s =
    if is_mark p.CloseBracket s then Ok size_start.End else demand types room count unexpected s (option_map size_start.Size (literal_of s))

-- with a part behind it
abbrev pub with_suffix : ReadDeclarator → Declarator → ℕ → ReadDeclarator
with_suffix declarator tree count = record { tree = tree; name = declarator.name; end = record { count = count; stars = 0; bare = false } }

-- with its stars, the first of which stands outermost
abbrev pub with_stars : List Star → Declarator → Declarator
with_stars [] core = core
with_stars (star ∷ stars) core = d.Pointer (star ∷ stars) core

-- "void" alone is no parameter
abbrev pub is_void : Base → Bool
is_void b.Void = true
is_void base = false

abbrev pub is_absent : Declarator → Bool
is_absent d.Absent = true
is_absent declarator = false

abbrev pub is_absent_place : Option Place → Bool
is_absent_place None = true
is_absent_place (Some place) = false

abbrev pub is_void_alone : Parameter → Bool
is_void_alone parameter = is_void parameter.specifiers.base && is_absent_place parameter.specifiers.constant && is_absent parameter.declarator

abbrev pub without_void : List Parameter → List Parameter
without_void [] = []
without_void (parameter ∷ []) = if is_void_alone parameter then [] else parameter ∷ []
without_void (parameter ∷ next ∷ more) = parameter ∷ next ∷ more

abbrev pub plus_declarator : Declarators → ReadDeclarator → Declarators
plus_declarator all next = record { items = all.items ++ next.tree ∷ []; end = next.end }

-- Tokens of the productions.
abbrev pub comma_token : Sight → Result Place ℕ
comma_token s = found_or unexpected (place_if (is_mark p.Comma s) s)

abbrev pub close_token : Sight → Option Place
close_token s = place_if (is_mark p.CloseParen s) s

abbrev pub brace_end : Sight → Result Place ℕ
brace_end s = found_or unexpected (place_if (is_mark p.CloseBrace s) s)

-- `:` behind a field begins a bit-field
abbrev pub bit_field : Sight → ℕ
bit_field s = if is_mark p.Colon s then left_out else unexpected

abbrev pub field_end : Types → ℕ → DeclaratorEnd → Sight → Result Place ℕ
field_end types room end s = found_or (if is_mark p.Comma s then unexpected else after_declarator types of.Field room end (bit_field s) s) (place_if (is_mark p.Semicolon s) s)

abbrev pub fields_token : Types → ℕ → ℕ → Sight → Result Place ℕ
fields_token types room count s = demand types room count unexpected s (place_if (is_mark p.OpenBrace s) s)

abbrev pub tag_token : Types → ℕ → ℕ → Sight → Result Tag ℕ
tag_token types room count s = demand types room count unexpected s (tag_of s)

abbrev pub base_token : Types → ℕ → ℕ → Sight → Result BaseStart ℕ
base_token types room count s = if is_word w.Const s then Err unexpected else demand types room count unexpected s (start_of_base types s)

abbrev pub star_token : ℕ → ℕ → Sight → Result Place ℕ
star_token room count s = offer room count s (place_if (is_mark p.Star s) s)

abbrev pub parameter_comma : ℕ → DeclaratorEnd → Sight → Result Place ℕ
parameter_comma room end s = offer room (end.count + end.stars) s (place_if (is_mark p.Comma s) s)

abbrev pub parameters_end : Types → ℕ → DeclaratorEnd → Sight → Result Place ℕ
parameters_end types room end s =
    found_or (if is_mark p.Comma s then unexpected else after_declarator types of.Parameter room end unexpected s) (close_token s)

abbrev pub no_parameters_end : Sight → Result Place ℕ
no_parameters_end s = found_or unexpected (close_token s)

abbrev pub inner_end : Types → Declared → ℕ → DeclaratorEnd → Sight → Result Place ℕ
inner_end types declared room end s = found_or (after_declarator types declared room end unexpected s) (close_token s)

abbrev pub size_end : Types → ℕ → ℕ → Sight → Result Place ℕ
size_end types room count s = found_or (blame types room count unexpected s) (place_if (is_mark p.CloseBracket s) s)

-- What is built.
abbrev pub plus_field : List FieldDeclaration → FieldDeclaration → List FieldDeclaration
plus_field all next = all ++ next ∷ []

abbrev pub plus_star : List Star → Star → List Star
plus_star all next = all ++ next ∷ []

abbrev pub first_declarator : ReadDeclarator → Declarators
first_declarator first = record { items = first.tree ∷ []; end = first.end }

abbrev pub specifiers_of : ReadBase → Option Place → Option Place → ReadSpecifiers
specifiers_of base None None = record { tree = record { constant = None; base = base.tree }; words = base.words }
specifiers_of base None (Some behind) = record { tree = record { constant = Some behind; base = base.tree }; words = None }
specifiers_of base (Some before) None = record { tree = record { constant = Some before; base = base.tree }; words = base.words }
specifiers_of base (Some before) (Some behind) = record { tree = record { constant = Some before; base = base.tree }; words = None }

abbrev pub one_parameter : ReadSpecifiers → ReadDeclarator → Parameters
one_parameter specifiers declarator = record { items = record { specifiers = specifiers.tree; declarator = declarator.tree } ∷ []; end = declarator.end }

abbrev pub plus_parameter : Parameters → Parameters → Parameters
plus_parameter all next = record { items = all.items ++ next.items; end = next.end }

abbrev pub no_parameters : ℕ → Parameters
no_parameters count = record { items = []; end = record { count = count; stars = 0; bare = false } }

abbrev pub named : Identifier → ℕ → ReadDeclarator
named name count = record { tree = d.Name name; name = Some name.name; end = record { count = count; stars = 0; bare = false } }

abbrev pub absent : ℕ → ℕ → ReadDeclarator
absent count run = record { tree = d.Absent; name = None; end = record { count = count; stars = run; bare = true } }

-- The productions of types at one depth, by the operators before them.
pub record TypePhrases : Type 1 where
  pub specs : ℕ → Phrase Sight ReadSpecifiers
  pub dtor : Declared → ℕ → Phrase Sight ReadDeclarator

-- `room` is left here, and `inner` has the productions one bracket further in.
module _ (types : Types) (room : ℕ) (inner : TypePhrases) where
  -- dtor {"," dtor}
  abbrev pub field_declarators : Phrase Sight Declarators
  field_declarators = do
    first ← inner.dtor of.Field 0
    folded plus_declarator (λ _. one comma_token >> inner.dtor of.Field 0) (first_declarator first)

  -- specs dtor {"," dtor} ";"
  abbrev pub field : Phrase Sight FieldDeclaration
  field = do
    specifiers ← inner.specs 0
    all ← field_declarators
    _ ← one (field_end types (pred room) all.end)
    pure (record { specifiers = specifiers.tree; declarators = all.items })

  -- one or more of them, and "}"
  abbrev pub field_list : Phrase Sight (List FieldDeclaration)
  field_list = do
    first ← field
    folded plus_field (λ _. field) (first ∷ [])

  abbrev pub fields : Phrase Sight (List FieldDeclaration)
  fields = do
    all ← field_list
    _ ← one brace_end
    pure all

  -- "struct" name, and its fields where "{" is next
  abbrev pub after_tag : ℕ → Tag → Phrase Sight Base
  after_tag count (tag.Alone name) = pure (b.Struct name)
  after_tag count (tag.WithFields name) = do
    _ ← one (fields_token types room count)
    all ← fields
    pure (b.StructWith name all)

  abbrev pub after_base_start : ℕ → BaseStart → Phrase Sight ReadBase
  after_base_start count start.Void = pure (record { tree = b.Void; words = None })
  after_base_start count (start.Typedef name) = pure (record { tree = b.Typedef name; words = None })
  after_base_start count (start.Word first) = do
    words ← int_words room count first
    pure (record { tree = b.Int (kind_of_words words); words = Some words })
  after_base_start count start.Struct = do
    tag ← one (tag_token types room count)
    tree ← after_tag count tag
    pure (record { tree = tree; words = None })

  -- base
  abbrev pub base : ℕ → Phrase Sight ReadBase
  base count = one (base_token types room count) >>= after_base_start count

  -- {"const"} base {"const"}
  abbrev pub specs : ℕ → Phrase Sight ReadSpecifiers
  specs count = do
    before ← consts room count None
    read ← base count
    behind ← consts room count None
    pure (specifiers_of read before behind)

  -- {"*" {"const"}}
  abbrev pub star : ℕ → Phrase Sight Star
  star count = do
    place ← one (star_token room count)
    constant ← consts room (count + 1) None
    pure (record { place = place; constant = constant })

  abbrev pub stars : ℕ → Phrase Sight (List Star)
  stars count = folded plus_star (λ all. star (count + length all)) []

  -- specs pdtor
  abbrev pub parameter : ℕ → Phrase Sight Parameters
  parameter count = do
    specifiers ← inner.specs count
    declarator ← inner.dtor of.Parameter count
    pure (one_parameter specifiers declarator)

  -- specs pdtor {"," specs pdtor} ")"
  abbrev pub parameters : ℕ → Phrase Sight Parameters
  parameters count = do
    first ← parameter count
    folded plus_parameter (λ all. one (parameter_comma (pred room) all.end) >> parameter all.end.count) first

  abbrev pub parameter_list : ℕ → Phrase Sight Parameters
  parameter_list count = do
    all ← parameters count
    _ ← one (parameters_end types (pred room) all.end)
    pure (record all { items = without_void all.items })

  abbrev pub empty_parameters : ℕ → Phrase Sight Parameters
  empty_parameters count = one no_parameters_end >> pure (no_parameters count)

  -- [params] ")"
  abbrev pub params : ℕ → Phrase Sight Parameters
  params count = empty_parameters count or parameter_list count

  -- core, of a name or a dtor in parentheses, where there is one
  abbrev pub after_core : Declared → ℕ → CoreStart → Phrase Sight ReadDeclarator
  after_core declared count (core_start.Name name) = pure (named name count)
  after_core declared count (core_start.Open place) = do
    declarator ← inner.dtor declared count
    _ ← one (inner_end types declared (pred room) declarator.end)
    pure (with_suffix declarator (d.Parenthesised place declarator.tree) declarator.end.count)

  abbrev pub present : Declared → ℕ → ℕ → Phrase Sight ReadDeclarator
  present declared count run = one (core_token types declared room count run) >>= after_core declared count

  abbrev pub core_by : Bool → Declared → ℕ → ℕ → Phrase Sight ReadDeclarator
  core_by true declared count run = present declared count run
  core_by false declared count run = present declared count run or pure (absent count run)

  abbrev pub core : Declared → ℕ → ℕ → Phrase Sight ReadDeclarator
  core declared count run = core_by (is_named declared) declared count run

  -- "[" [literal] "]" and "(" [params] ")" behind it
  abbrev pub after_size : ReadDeclarator → Place → SizeStart → Phrase Sight ReadDeclarator
  after_size declarator place size_start.End = pure (with_suffix declarator (d.Array declarator.tree place None) (declarator.end.count + 1))
  after_size declarator place (size_start.Size literal) = do
    _ ← one (size_end types (pred room) (declarator.end.count + 1))
    pure (with_suffix declarator (d.Array declarator.tree place (Some literal)) (declarator.end.count + 1))

  abbrev pub after_suffix : ReadDeclarator → SuffixStart → Phrase Sight ReadDeclarator
  after_suffix declarator (suffix_start.Array place) = one (size_token types (pred room) (declarator.end.count + 1)) >>= after_size declarator place
  after_suffix declarator (suffix_start.Function place) = do
    all ← params (declarator.end.count + 1)
    pure (with_suffix declarator (d.Function declarator.tree place all.items) all.end.count)

  abbrev pub suffix : Declared → ReadDeclarator → Phrase Sight ReadDeclarator
  suffix declared declarator = one (suffix_token types declared room declarator.end) >>= after_suffix declarator

  -- {"*" {"const"}} core
  abbrev pub dtor : Declared → ℕ → Phrase Sight ReadDeclarator
  dtor declared count = do
    before ← stars count
    first ← core declared count (length before)
    all ← folded latest (suffix declared) first
    pure (record all { tree = with_stars before all.tree })

-- The productions where `n` less one is left: none where nothing is.
abbrev pub nothing_left : TypePhrases
nothing_left = record { specs = λ count. one (λ s. Err (without_room count s)); dtor = λ declared count. one (λ s. Err (without_room count s)) }

unfoldable pub within : Types → ℕ → TypePhrases
within types zero = nothing_left
within types (suc room) = record { specs = specs types room (within types room); dtor = dtor types room (within types room) }
