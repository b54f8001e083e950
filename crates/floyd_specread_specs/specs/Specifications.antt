-- The text of a function's specification, from the token of a number on, where no bracket is open before it.
--
--   spec  = ["WITH" binders] "PRE" types ( "MAIN_PRE" | pre ) "POST" "[" type "]" post
--   types = "[" [type {"," type}] "]"
--   pre   = "PROP" fs "PARAMS" ts "GLOBALS" names "SEP" parts
--   post  = ["EX" binders "."] "PROP" fs "RETURN" ts "SEP" parts
--   ts    = "(" [term {";" term}] ")"
--   names = "(" [name {";" name}] ")"
--
-- Everything is read among the variables of WITH, and what follows EX among those of EX besides, which hide others. PARAMS
-- has a value for each type of PRE, and RETURN one, unless the result is void; another number is ill sorted where the list
-- closes. MAIN_PRE stands only where it may. The names of GLOBALS are any names.
use Rattle.std.specs.Prelude.{ℕ, Bool, ◌&&◌, List, [], ◌∷◌, length, Option, Some, None}
use Rattle.floyd_lex.specs.declared.kinds.Punctuator.TheVariants as p
use Rattle.floyd_lex.specs.Token.{Token, TokenList}
use Rattle.floyd_tree_sorts.specs.declared.shape.Shape.{Shape, Void}
use Rattle.floyd_tree_sorts.specs.declared.sorts.Sort.{Val}
use Rattle.floyd_tree.specs.Formulas.{PlainFormula}
use Rattle.floyd_tree.specs.Plain.{Plain}
use Rattle.floyd_tree.specs.Types.{SizedType}
use Rattle.floyd_assert_trees.specs.declared.binder.Binder.{Binder}
use Rattle.floyd_assert_trees.specs.declared.sep.Sep.{Sep}
use Rattle.floyd_assert_trees.specs.declared.spec.Postcondition.{Postcondition}
use Rattle.floyd_assert_trees.specs.declared.spec.Precondition.{Precondition}
use Rattle.floyd_termread_scope.specs.Scopes.{Env}
use Rattle.floyd_termread_phrases.specs.Reads.{Reads, pure, ◌>>=◌, ◌>>◌}
use Rattle.floyd_termread_phrases.specs.Phrases as phrase
use Rattle.floyd_termread_marks.specs.Lists.{before_item, listed}
use Rattle.floyd_termread_marks.specs.Marks.{if_next, mark, one}
use Rattle.floyd_termread_parts.specs.Parts.{so_many}
use Rattle.floyd_termread_assertions.specs.Assertions.{under, props, seps}
use Rattle.floyd_termread_assertions.specs.Existentials.{binders, existentials}
use Rattle.floyd_specread_words.specs.declared.words.SpecWord.TheVariants as w
use Rattle.floyd_specread_words.specs.Many.{Many}
use Rattle.floyd_specread_words.specs.Words.{is_other, is_word, word}
use Rattle.floyd_specread_specs.specs.Names.{any_name}
use Rattle.floyd_specread_specs.specs.declared.text.PreText.{PreText}
use Rattle.floyd_specread_specs.specs.declared.text.PreText.TheVariants.{Main, Written}
use Rattle.floyd_specread_specs.specs.declared.text.SpecText.{SpecText}

-- how many values a function gives back
abbrev pub results_of : Shape → ℕ
results_of Void = 0
results_of shape = 1

abbrev pub first_of : List Plain → Option Plain
first_of [] = None
first_of (t ∷ ts) = Some t

-- MAIN_PRE, where it may stand
abbrev pub is_main_pre : Bool → Token → Bool
is_main_pre takes_main t = takes_main && is_word w.MainPre t

abbrev pub pre_of : List PlainFormula → List Plain → List (List ℕ) → List Sep → Precondition
pre_of fs ts xs ps = record { props = fs; params = ts; globals = xs; parts = ps }

abbrev pub post_of : List Binder → List PlainFormula → Option Plain × List Sep → Postcondition
post_of xs fs ending = record { existentials = xs; props = fs; value = ending.0; parts = ending.1 }

abbrev pub spec_of : List Binder → List SizedType × PreText → SizedType × Postcondition → SpecText
spec_of xs asked given = record { with = xs; params = asked.0; pre = asked.1; result = given.0; post = given.1 }

module _ (bytes : List ℕ) (list : TokenList) where
  -- ["WITH" binders]
  abbrev pub with_binders : Reads (List Binder)
  with_binders = if_next bytes list (is_word w.With) (word bytes list 0 w.With >> binders bytes list 0) (pure [])

  -- a name behind others
  abbrev pub global_behind : List (List ℕ) → Reads (List ℕ)
  global_behind xs = one bytes list 1 any_name

  abbrev pub global_names : Reads (List (List ℕ))
  global_names = listed bytes list 0 p.Semicolon global_behind

  abbrev pub globals : Reads (List (List ℕ))
  globals = word bytes list 0 w.Globals >> global_names

  module _ (env : Env) where
    -- a type behind others
    abbrev pub type_behind : List SizedType → Reads SizedType
    type_behind ts = before_item bytes list 1 p.Comma (length ts) >> phrase.type_name bytes list 1 env

    abbrev pub more_types : Reads (List SizedType)
    more_types = Many bytes list (is_other p.CloseBracket) type_behind []

    abbrev pub types : Reads (List SizedType)
    types = do
      _ ← mark bytes list 0 p.OpenBracket
      ts ← more_types
      _ ← mark bytes list 1 p.CloseBracket
      pure ts

    abbrev pub result_type : Reads SizedType
    result_type = do
      _ ← mark bytes list 0 p.OpenBracket
      t ← phrase.type_name bytes list 1 env
      _ ← mark bytes list 1 p.CloseBracket
      pure t

    -- a value behind others
    abbrev pub value_behind : List Plain → Reads Plain
    value_behind ts = phrase.term bytes list 1 env (Some Val)

    abbrev pub values : Reads (List Plain)
    values = listed bytes list 0 p.Semicolon value_behind

    -- behind a word so many values
    abbrev pub counted_values : ℕ → Reads (List Plain)
    counted_values n = values >>= so_many bytes list 0 env n

    abbrev pub params : ℕ → Reads (List Plain)
    params n = word bytes list 0 w.Params >> counted_values n

    abbrev pub returned : SizedType → Reads (List Plain)
    returned t = word bytes list 0 w.Return >> counted_values (results_of t.shape)

    -- for so many types
    abbrev pub pre : ℕ → Reads Precondition
    pre n = do
      fs ← props bytes list 0 env
      ts ← params n
      xs ← globals
      ps ← seps bytes list 0 env
      pure (pre_of fs ts xs ps)

    abbrev pub written_pre : ℕ → Reads PreText
    written_pre n = pre n >>= λ asked. pure (Written asked)

    abbrev pub main_pre : Reads PreText
    main_pre = word bytes list 0 w.MainPre >> pure Main

    abbrev pub pre_text : Bool → ℕ → Reads PreText
    pre_text takes_main n = if_next bytes list (is_main_pre takes_main) main_pre (written_pre n)

    -- "PRE" types ( "MAIN_PRE" | pre )
    abbrev pub asked : Bool → Reads (List SizedType × PreText)
    asked takes_main = do
      _ ← word bytes list 0 w.Pre
      ts ← types
      before ← pre_text takes_main (length ts)
      pure (ts, before)

    -- "RETURN" ts "SEP" parts
    abbrev pub ending : SizedType → Reads (Option Plain × List Sep)
    ending t = do
      ts ← returned t
      ps ← seps bytes list 0 env
      pure (first_of ts, ps)

    -- behind the existentials
    abbrev pub post_body : SizedType → List Binder → Reads Postcondition
    post_body t xs = do
      fs ← props bytes list 0 env
      rest ← ending t
      pure (post_of xs fs rest)

  abbrev pub post : Env → SizedType → Reads Postcondition
  post env t = existentials bytes list 0 >>= λ xs. post_body (under xs env) t xs

  -- "POST" "[" type "]" post
  abbrev pub given : Env → Reads (SizedType × Postcondition)
  given env = do
    _ ← word bytes list 0 w.Post
    t ← result_type env
    behind ← post env t
    pure (t, behind)

  -- behind the variables of WITH
  abbrev pub spec_body : Bool → List Binder → Env → Reads SpecText
  spec_body takes_main xs env = do
    before ← asked env takes_main
    behind ← given env
    pure (spec_of xs before behind)

  abbrev pub spec : Bool → Env → Reads SpecText
  spec takes_main env = with_binders >>= λ xs. spec_body takes_main xs (under xs env)
