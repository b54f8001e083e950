-- Terms, formulas, types and paths from the token of a number on, where so many brackets are open before it. Each is a passage
-- of the text, which is judged.
use Rattle.std.specs.Prelude.{◌≡◌, ℕ, List, Option}
use Rattle.floyd_lex.specs.Token.{TokenList}
use Rattle.floyd_tree_sorts.specs.declared.sorts.Sort.{Sort}
use Rattle.floyd_tree.specs.declared.paths.PathStep.{PathStep}
use Rattle.floyd_tree.specs.Formulas.{PlainFormula}
use Rattle.floyd_tree.specs.Plain.{Plain}
use Rattle.floyd_tree.specs.Types.{SizedType}
use Rattle.floyd_termread_trees.specs.declared.written.Written.{Written}
use Rattle.floyd_termread_tables.specs.declared.values.Want.{Want}
use Rattle.floyd_termread_tables.specs.declared.values.Want.TheVariants as want
use Rattle.floyd_termread_grammar.specs.Reading.{IsRead}
use Rattle.floyd_termread_scope.specs.Scopes.{Env}
use Rattle.floyd_termread_passages.specs.Passages.{End, term_passage, formula_passage, type_passage, path_passage}
use Rattle.floyd_termread_phrases.specs.Reads.{Answer, Reads}

module _ (bytes : List ℕ) (list : TokenList) (depth : ℕ) where
  -- what the passage is, by its tree and its end
  abbrev pub passage : {A : Type 0} → Want → (Written → End → Answer A) → Reads A
  passage wanted read at answer = (tree : Written) × (end : End) × IsRead bytes list at depth wanted tree end × (answer ≡ read tree end)

  abbrev pub term : Env → Option Sort → Reads Plain
  term env expected = passage want.Term (term_passage env expected)

  abbrev pub formula : Env → Reads PlainFormula
  formula env = passage want.Formula (formula_passage env)

  abbrev pub type_name : Env → Reads SizedType
  type_name env = passage want.Type (type_passage env)

  abbrev pub path : Env → Reads (List PathStep)
  path env = passage want.Path (path_passage env)
