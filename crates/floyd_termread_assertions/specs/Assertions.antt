-- Assertions, from the token of a number on, where so many brackets are open before it.
--
--   assertion = existentials "PROP" fs ["LOCAL" locals] "SEP" parts
--   fs        = "(" [formula {";" formula}] ")"
--   locals    = "(" [local {";" local}] ")"
--   local     = "temp" name "=" term
--   parts     = "(" [part {";" part}] ")"
--
-- The existentials hide variables of their names. No two temporaries have one name, and each has a value.
use Rattle.std.specs.Prelude.{ℕ, ◌+◌, Bool, ◌||◌, false, if◌then◌else◌, List, [], ◌∷◌, Option, Some, None, bytes_eq}
use Rattle.floyd_lex.specs.declared.kinds.Punctuator.TheVariants as p
use Rattle.floyd_lex.specs.Token.{Token, TokenList}
use Rattle.floyd_cparse_trees.specs.declared.types.Identifier.{Identifier}
use Rattle.floyd_tree_sorts.specs.declared.sorts.Sort.{Val}
use Rattle.floyd_tree.specs.Formulas.{PlainFormula}
use Rattle.floyd_tree.specs.Plain.{Plain}
use Rattle.floyd_assert_trees.specs.declared.assertion.Assertion.{Assertion}
use Rattle.floyd_assert_trees.specs.declared.assertion.Local.{Local}
use Rattle.floyd_assert_trees.specs.declared.binder.Binder.{Binder}
use Rattle.floyd_assert_trees.specs.declared.sep.Sep.{Sep}
use Rattle.floyd_termread_tokens.specs.Tokens.{given_name}
use Rattle.floyd_termread_scope.specs.Scopes.{Env, with_variable}
use Rattle.floyd_termread_phrases.specs.Reads.{Reads, pure, ◌>>=◌, ◌>>◌}
use Rattle.floyd_termread_phrases.specs.Phrases as phrase
use Rattle.floyd_termread_marks.specs.declared.words.AssertionWord.TheVariants as a
use Rattle.floyd_termread_marks.specs.Lists.{before_item, listed}
use Rattle.floyd_termread_marks.specs.Marks.{if_next, is_word, mark, word, one}
use Rattle.floyd_termread_parts.specs.Parts as parts
use Rattle.floyd_termread_assertions.specs.Existentials.{existentials}

-- among binders, the later of which hide the earlier
abbrev pub under : List Binder → Env → Env
under [] env = env
under (b ∷ bs) env = under bs (with_variable b.name b.sort env)

abbrev pub has_local : List ℕ → List Local → Bool
has_local x [] = false
has_local x (l ∷ ls) = bytes_eq l.name x || has_local x ls

abbrev pub unless_there : List Local → Option Identifier → Option Identifier
unless_there ls None = None
unless_there ls (Some i) = if has_local i.name ls then None else Some i

-- a name of the source that no temporary before it has
abbrev pub new_name : List Local → Token → Option Identifier
new_name ls t = unless_there ls (given_name t)

abbrev pub local_of : Identifier → Plain → Local
local_of i t = record { name = i.name; term = t }

module _ (bytes : List ℕ) (list : TokenList) (depth : ℕ) where
  -- "temp" name "="
  abbrev pub local_name : List Local → Reads Identifier
  local_name ls = do
    _ ← word bytes list depth a.Temp
    i ← one bytes list depth (new_name ls)
    _ ← mark bytes list depth p.Equal
    pure i

  module _ (env : Env) where
    abbrev pub formula_behind : List PlainFormula → Reads PlainFormula
    formula_behind fs = phrase.formula bytes list depth env

    abbrev pub local_behind : List Local → Reads Local
    local_behind ls = local_name ls >>= λ i. phrase.term bytes list depth env (Some Val) >>= λ t. pure (local_of i t)

    abbrev pub part_behind : List Sep → Reads Sep
    part_behind ps = parts.part bytes list depth env

-- an item of that number, from 0, with the mark before it
abbrev pub item_by : {A : Type 0} → List ℕ → TokenList → ℕ → ℕ → Reads A → Reads A
item_by bytes list depth n item = before_item bytes list depth p.Semicolon n >> item

module _ (bytes : List ℕ) (list : TokenList) (depth : ℕ) where
  abbrev pub formulas : Env → Reads (List PlainFormula)
  formulas env = listed bytes list depth p.Semicolon (formula_behind bytes list (depth + 1) env)

  abbrev pub local_list : Env → Reads (List Local)
  local_list env = listed bytes list depth p.Semicolon (local_behind bytes list (depth + 1) env)

  abbrev pub part_list : Env → Reads (List Sep)
  part_list env = listed bytes list depth p.Semicolon (part_behind bytes list (depth + 1) env)

  abbrev pub props : Env → Reads (List PlainFormula)
  props env = word bytes list depth a.Prop >> formulas env

  abbrev pub locals : Env → Reads (List Local)
  locals env = if_next bytes list (is_word a.Local) (word bytes list depth a.Local >> local_list env) (pure [])

  abbrev pub seps : Env → Reads (List Sep)
  seps env = word bytes list depth a.Sep >> part_list env

  -- behind the existentials
  abbrev pub body : List Binder → Env → Reads Assertion
  body xs env = do
    fs ← props env
    ls ← locals env
    ps ← seps env
    pure (record { existentials = xs; props = fs; locals = ls; parts = ps })

  abbrev pub assertion : Env → Reads Assertion
  assertion env = existentials bytes list depth >>= λ xs. body xs (under xs env)
