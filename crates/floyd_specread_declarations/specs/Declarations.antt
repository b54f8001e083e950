-- Declarations of functions, from the token behind DECLARE on.
--
--   declaration = ["IMPORT" | "EXTERN"] name [by] given ";"
--   by          = "BY" "(" [term {"," term}] ")" "FRAME" parts
--   given       = spec | "SPEC" name
--
-- IMPORT and EXTERN are such words where a name follows behind which a specification begins, for IMPORT also BY; else they are
-- the function's name. BY stands behind IMPORT alone. Its terms and parts are read among the variables of WITH of the
-- specification behind them, and without an expected sort, so they are judged once those are read.
use Rattle.std.specs.Prelude.{◌≡◌, ℕ, ◌+◌, Bool, true, false, ◌&&◌, ◌||◌, if◌then◌else◌, List, None, Ok, Err, bytes_eq, codes}
use Rattle.std.specs.Map.{lookup}
use Rattle.floyd_lex.specs.declared.kinds.Punctuator.TheVariants as p
use Rattle.floyd_lex.specs.Token.{Token, TokenList}
use Rattle.floyd_cparse_trees.specs.declared.types.Identifier.{Identifier}
use Rattle.floyd_tree.specs.Plain.{Plain}
use Rattle.floyd_assert_trees.specs.declared.binder.Binder.{Binder}
use Rattle.floyd_assert_trees.specs.declared.sep.Sep.{Sep}
use Rattle.floyd_assert_trees.specs.declared.spec.Funspec.{Funspec}
use Rattle.floyd_termread_tokens.specs.Tokens.{free_name, is_name}
use Rattle.floyd_termread_scope.specs.Scopes.{Env, Named}
use Rattle.floyd_termread_wants.specs.Refusals.{unknown}
use Rattle.floyd_termread_phrases.specs.Phrases as phrase
use Rattle.floyd_termread_phrases.specs.Reads.{Answer, Reads, pure, ◌>>=◌, ◌>>◌}
use Rattle.floyd_termread_marks.specs.Lists.{listed}
use Rattle.floyd_termread_marks.specs.Marks.{if_next, is_next, mark, one}
use Rattle.floyd_termread_parts.specs.Objects as objects
use Rattle.floyd_termread_assertions.specs.Assertions.{part_list, under}
use Rattle.floyd_specread_words.specs.declared.words.SpecWord.{SpecWord}
use Rattle.floyd_specread_words.specs.declared.words.SpecWord.TheVariants as w
use Rattle.floyd_specread_words.specs.Words.{is_word, word}
use Rattle.floyd_specread_skims.specs.declared.lists.Skimmed.TheVariants as s
use Rattle.floyd_specread_skims.specs.Skims as skims
use Rattle.floyd_specread_specs.specs.Specifications.{spec, with_binders}
use Rattle.floyd_specread_specs.specs.Texts.{funspec_of}
use Rattle.floyd_specread_trees.specs.declared.declarations.By.{By}
use Rattle.floyd_specread_trees.specs.declared.declarations.Declaration.{Declaration}
use Rattle.floyd_specread_trees.specs.declared.declarations.DeclarationKind.{DeclarationKind}
use Rattle.floyd_specread_trees.specs.declared.declarations.DeclarationKind.TheVariants as k
use Rattle.floyd_specread_declarations.specs.declared.standing.Standing.{Standing}
use Rattle.floyd_specread_declarations.specs.declared.standing.Standing.TheVariants as stands

abbrev pub main : List ℕ
main = codes "main"

-- a token with which a specification begins, or BY, where that may stand
abbrev pub begins_given : Bool → Token → Bool
begins_given by t = is_word w.With t || (is_word w.Pre t || (is_word w.Spec t || (by && is_word w.By t)))

-- the words before the name
abbrev pub words_of : Standing → ℕ
words_of stands.Plain = 0
words_of stands.Import = 1
words_of stands.Extern = 1

abbrev pub by_of : List Plain → List Sep → By
by_of ts ps = record { terms = ts; frame = ps }

abbrev pub declaration_of : DeclarationKind → Identifier → Funspec × Bool → Declaration
declaration_of kind name given = record { kind = kind; name = name.name; place = name.place; spec = given.0; main_pre = given.1 }

module _ (bytes : List ℕ) (list : TokenList) where
  -- ---- how a declaration is written to stand to its function

  abbrev pub is_standing : SpecWord → Bool → ℕ → Bool
  is_standing which by at = is_next bytes list (is_word which) at && (is_next bytes list is_name (at + 1) && is_next bytes list (begins_given by) (at + 2))

  abbrev pub standing_at : ℕ → Standing
  standing_at at = if is_standing w.Import true at then stands.Import else if is_standing w.Extern false at then stands.Extern else stands.Plain

  abbrev pub standing : Reads Standing
  standing at answer = answer ≡ Ok (standing_at at, at + words_of (standing_at at))

  -- "SPEC" name
  abbrev pub named_spec : Named Funspec → Reads Funspec
  named_spec specs = do
    _ ← word bytes list 0 w.Spec
    i ← one bytes list 0 free_name
    objects.given (unknown i) (lookup (bytes_eq i.name) specs)

  -- ---- BY, by the grammar alone

  abbrev pub written_by : Reads (Unit {0})
  written_by = do
    _ ← word bytes list 0 w.By
    _ ← skims.list_of bytes list 0 p.Comma s.Term
    _ ← word bytes list 0 w.Frame
    skims.list_of bytes list 0 p.Semicolon s.Part

  abbrev pub with_named : Named Funspec → Reads (List Binder)
  with_named specs = named_spec specs >>= λ f. pure f.with

  -- the variables of WITH of the specification that stands next
  abbrev pub with_behind : Named Funspec → Reads (List Binder)
  with_behind specs = if_next bytes list (is_word w.Spec) (with_named specs) (with_binders bytes list)

  -- those of the one behind BY
  abbrev pub by_variables : Named Funspec → Reads (List Binder)
  by_variables specs = written_by >> with_behind specs

  -- ---- BY, judged

  abbrev pub term_behind : Env → List Plain → Reads Plain
  term_behind env ts = phrase.term bytes list 1 env None

  abbrev pub by_terms : Env → Reads (List Plain)
  by_terms env = listed bytes list 0 p.Comma (term_behind env)

  abbrev pub judged_by : Env → Reads By
  judged_by env = do
    _ ← word bytes list 0 w.By
    ts ← by_terms env
    _ ← word bytes list 0 w.Frame
    ps ← part_list bytes list 0 env
    pure (by_of ts ps)

  -- among these variables, from that token on
  abbrev pub judged_among : Env → ℕ → Answer (List Binder) → Answer By → Type 0
  judged_among env at (Ok xs) answer = judged_by (under xs.0 env) at answer
  judged_among env at (Err refusal) answer = answer ≡ Err refusal

  abbrev pub by : Env → Named Funspec → Reads By
  by env specs at answer = (variables : Answer (List Binder)) × by_variables specs at variables × judged_among env at variables answer

  -- ---- the whole behind the name

  abbrev pub judged_import : Env → Named Funspec → Reads DeclarationKind
  judged_import env specs = by env specs >>= λ b. pure (k.ImportBy b)

  abbrev pub import_kind : Env → Named Funspec → Reads DeclarationKind
  import_kind env specs = if_next bytes list (is_word w.By) (judged_import env specs) (pure k.Import)

  abbrev pub kind : Standing → Env → Named Funspec → Reads DeclarationKind
  kind stands.Plain env specs = pure k.Plain
  kind stands.Import env specs = import_kind env specs
  kind stands.Extern env specs = pure k.Extern

  abbrev pub named_given : Named Funspec → Reads (Funspec × Bool)
  named_given specs = named_spec specs >>= λ f. pure (f, false)

  abbrev pub written_given : Bool → Env → Reads (Funspec × Bool)
  written_given takes_main env = spec bytes list takes_main env >>= λ t. pure (funspec_of None t)

  -- and whether its precondition is MAIN_PRE
  abbrev pub given : Bool → Env → Named Funspec → Reads (Funspec × Bool)
  given takes_main env specs = if_next bytes list (is_word w.Spec) (named_given specs) (written_given takes_main env)

  abbrev pub behind_name : Standing → Identifier → Env → Named Funspec → Reads Declaration
  behind_name stand name env specs = do
    which ← kind stand env specs
    f ← given (bytes_eq name.name main) env specs
    _ ← mark bytes list 0 p.Semicolon
    pure (declaration_of which name f)
