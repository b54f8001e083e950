-- Which declarations are refused at their names: those whose types are unlike the function's, and those of a function that is not
-- as the declaration says. The types are those that are read, also where something between them, or behind them, is refused. The
-- first of these refusals goes before the second, and both before what stands behind the name.
use Rattle.std.specs.Prelude.{◌≡◌, ℕ, Bool, true, false, not, ◌&&◌, List, Option, Some, None, Ok, Err, bytes_eq}
use Rattle.std.specs.Map.{lookup}
use Rattle.floyd_text.specs.declared.code.Code.{Code}
use Rattle.floyd_text.specs.declared.code.Code.TheVariants as c
use Rattle.floyd_text.specs.declared.refusal.Refusal.{Refusal}
use Rattle.floyd_text.specs.declared.refusal.Shown.TheVariants.{Name}
use Rattle.floyd_text.specs.Refusals.{refusal_at}
use Rattle.floyd_lex.specs.declared.kinds.Punctuator.TheVariants as p
use Rattle.floyd_lex.specs.Token.{TokenList}
use Rattle.floyd_cparse_trees.specs.declared.types.Identifier.{Identifier}
use Rattle.floyd_tree.specs.Types.{SizedType}
use Rattle.floyd_assert_trees.specs.declared.spec.Funspec.{Funspec}
use Rattle.floyd_termread_tokens.specs.Tokens.{given_name}
use Rattle.floyd_termread_scope.specs.Scopes.{Env, Named, is_among}
use Rattle.floyd_termread_phrases.specs.Reads.{Answer, Reads, pure, ◌>>=◌, ◌>>◌}
use Rattle.floyd_termread_marks.specs.declared.words.AssertionWord.TheVariants as a
use Rattle.floyd_termread_marks.specs.Marks.{if_next, one}
use Rattle.floyd_termread_assertions.specs.Assertions.{under}
use Rattle.floyd_specread_words.specs.declared.words.SpecWord.{SpecWord}
use Rattle.floyd_specread_words.specs.declared.words.SpecWord.TheVariants as w
use Rattle.floyd_specread_words.specs.Words.{is_word, word}
use Rattle.floyd_specread_skims.specs.declared.lists.Skimmed.TheVariants as s
use Rattle.floyd_specread_skims.specs.declared.lists.Skimmed.{Skimmed}
use Rattle.floyd_specread_skims.specs.Skims.{Skims, list_of}
use Rattle.floyd_specread_cases.specs.Cases.{worded_list}
use Rattle.floyd_specread_specs.specs.Specifications.{is_main_pre, result_type, types, with_binders}
use Rattle.floyd_specread_trees.specs.declared.declarations.Declaration.{Declaration}
use Rattle.floyd_specread_sources.specs.declared.functions.Prototype.{Prototype}
use Rattle.floyd_specread_declarations.specs.Declarations.{behind_name, main, named_spec, standing, written_by}
use Rattle.floyd_specread_declarations.specs.declared.standing.Standing.{Standing}
use Rattle.floyd_specread_declarations.specs.declared.standing.Standing.TheVariants as stands

abbrev pub refused_name : Code → Identifier → Refusal
refused_name code i = refusal_at code i.place (Name i.name)

abbrev pub type_differs : Identifier → Refusal
type_differs i = refused_name c.TypeDiffers i

abbrev pub body_differs : Identifier → Refusal
body_differs i = refused_name c.BodyDiffers i

abbrev pub prototype_with : List SizedType → SizedType → Prototype
prototype_with ts t = record { params = ts; result = t }

abbrev pub types_of : Funspec → Prototype
types_of f = prototype_with f.params f.result

-- ---- the types of what is refused

module _ (bytes : List ℕ) (list : TokenList) where
  -- a word with a list behind it
  abbrev pub spec_list : SpecWord → Skimmed → Skims
  spec_list which what = word bytes list 0 which >> list_of bytes list 0 p.Semicolon what

  -- a precondition, by the grammar alone
  abbrev pub written_pre : Skims
  written_pre = worded_list bytes list a.Prop s.Formula >> (spec_list w.Params s.Term >> (spec_list w.Globals s.Name >> worded_list bytes list a.Sep s.Part))

  abbrev pub written_pre_text : Bool → Skims
  written_pre_text takes_main = if_next bytes list (is_main_pre takes_main) (word bytes list 0 w.MainPre >> pure tt) written_pre

  -- "PRE" types .. "POST" "[" type "]"
  abbrev pub typed : Bool → Env → Reads Prototype
  typed takes_main env = do
    _ ← word bytes list 0 w.Pre
    ts ← types bytes list env
    _ ← written_pre_text takes_main
    _ ← word bytes list 0 w.Post
    t ← result_type bytes list env
    pure (prototype_with ts t)

  abbrev pub typed_spec : Bool → Env → Reads Prototype
  typed_spec takes_main env = with_binders bytes list >>= λ xs. typed takes_main (under xs env)

  abbrev pub typed_named : Named Funspec → Reads Prototype
  typed_named specs = named_spec bytes list specs >>= λ f. pure (types_of f)

  abbrev pub typed_given : Bool → Env → Named Funspec → Reads Prototype
  typed_given takes_main env specs = if_next bytes list (is_word w.Spec) (typed_named specs) (typed_spec takes_main env)

  abbrev pub import_by : Skims
  import_by = if_next bytes list (is_word w.By) (written_by bytes list) (pure tt)

  abbrev pub by_before : Standing → Skims
  by_before stands.Plain = pure tt
  by_before stands.Import = import_by
  by_before stands.Extern = pure tt

  abbrev pub typed_behind : Standing → Identifier → Env → Named Funspec → Reads Prototype
  typed_behind stand name env specs = by_before stand >> typed_given (bytes_eq name.name main) env specs

  -- ---- judging

  -- the types of what was read, or those that are read all the same
  abbrev pub TypesAre : Standing → Identifier → Env → Named Funspec → ℕ → Answer Declaration → Option Prototype → Type 0
  TypesAre stand name env specs at (Ok d) t = t ≡ Some (types_of d.0.spec)
  TypesAre stand name env specs at (Err refusal) (Some t) = (next : ℕ) × typed_behind stand name env specs at (Ok (t, next))
  TypesAre stand name env specs at (Err refusal) None = (other : Refusal) × typed_behind stand name env specs at (Err other)

module _ (functions : Named Prototype) where
  -- the types are unlike those of the function, if there is one
  abbrev pub Differs : List ℕ → Option Prototype → Type 0
  Differs x t = (read declared : Prototype) × (t ≡ Some read) × (lookup (bytes_eq x) functions ≡ Some declared) × ¬ (read ≡ declared)

  -- a function with a body here, or one that is declared alone
  abbrev pub is_as_written : Named (Unit {0}) → Standing → List ℕ → Bool
  is_as_written bodies stands.Plain x = is_among bodies x
  is_as_written bodies stands.Import x = is_among functions x && not (is_among bodies x)
  is_as_written bodies stands.Extern x = is_among functions x && not (is_among bodies x)

  pub data Judged (bodies : Named (Unit {0})) (stand : Standing) (name : Identifier) (t : Option Prototype) (read : Answer Declaration) : Answer Declaration → Type 0 where
    unlike : Differs name.name t → Judged bodies stand name t read (Err (type_differs name))
    not_so : ¬ (Differs name.name t) → is_as_written bodies stand name.name ≡ false → Judged bodies stand name t read (Err (body_differs name))
    as_read : ¬ (Differs name.name t) → is_as_written bodies stand name.name ≡ true → Judged bodies stand name t read read

-- the declaration behind its name
abbrev pub judged_behind : List ℕ → TokenList → Named Prototype → Named (Unit {0}) → Standing → Identifier → Env → Named Funspec → Reads Declaration
judged_behind bytes list functions bodies stand name env specs at answer =
    (read : Answer Declaration) × (t : Option Prototype) × behind_name bytes list stand name env specs at read × TypesAre bytes list stand name env specs at read t × Judged functions bodies stand name t read answer

abbrev pub declaration : List ℕ → TokenList → Named Prototype → Named (Unit {0}) → Env → Named Funspec → Reads Declaration
declaration bytes list functions bodies env specs =
    standing bytes list >>= λ stand. one bytes list 0 given_name >>= λ name. judged_behind bytes list functions bodies stand name env specs
