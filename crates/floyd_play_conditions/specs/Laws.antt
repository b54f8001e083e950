-- What calls of commands ask for follows from that goals and items are well formed and that arguments were read.
use Rattle.std.specs.Prelude.{◌≡◌, ℕ, List, Some, Ok}
use Rattle.floyd_text.specs.declared.rule.Rule.TheVariants.{Fold}
use Rattle.floyd_lex.specs.Token.{TokenList}
use Rattle.floyd_clight.specs.declared.unit.Local.{Local}
use Rattle.floyd_tree_sorts.specs.declared.sorts.Sort.{Sort}
use Rattle.floyd_tree.specs.Plain.{Plain}
use Rattle.floyd_tree.specs.WellSorted.{sort_of}
use Rattle.floyd_assert_trees.specs.declared.assertion.Assertion.{Assertion}
use Rattle.floyd_assert_trees.specs.declared.items.Defs.{Defs}
use Rattle.floyd_assert_trees.specs.declared.spec.SpecTable.{SpecTable}
use Rattle.floyd_clauses.specs.Clauses.{clause_of}
use Rattle.floyd_goal_trees.specs.declared.args.Args.{Args}
use Rattle.floyd_goal_trees.specs.declared.goal.Goal.{Goal}
use Rattle.floyd_goal_forms.specs.Goals.{IsWellFormed}
use Rattle.floyd_goal_forms.specs.Items.{ItemsFit}
use Rattle.floyd_entail_predicates.specs.Fold.{ExistentialsAgree}
use Rattle.floyd_termread_scope.specs.Scopes.{Env}
use Rattle.floyd_termread_phrases.specs.Phrases.{term}
use Rattle.floyd_play_reading.specs.Arguments.{AreRead}
use Rattle.floyd_play_steps.specs.Forms.{ArgumentsMeet}

-- a term that is read with an expected sort has it
abbrev pub TermsHaveSorts : Type 0
TermsHaveSorts =
    (bytes : List ℕ) (list : TokenList) (depth : ℕ) (env : Env) (s : Sort) (at : ℕ) (t : Plain) (next : ℕ) →
    term bytes list depth env (Some s) at (Ok (t, next)) → sort_of t ≡ Some s

-- in the clause at the terms of `fold` each free occurrence of an existential has the sort of its term
abbrev pub ClausesTakeTerms : Type 0
ClausesTakeTerms =
    (defs : Defs) (specs : SpecTable) (blocks : List Local) (goal : Goal) (bytes : List ℕ) (list : TokenList) (args : Args) →
    ItemsFit defs specs → IsWellFormed defs specs goal → AreRead bytes list defs specs blocks goal Fold (Ok args) →
    (clause : Assertion) → clause_of defs args.name args.terms ≡ Ok clause → ExistentialsAgree clause args.more

-- the laws of readers and of clauses on which the law of commands stands
pub record ReadingLaws : Type 0 where
  pub sorts : TermsHaveSorts
  pub clauses : ClausesTakeTerms

abbrev pub CommandsMeet : Type 0
CommandsMeet = ReadingLaws → (defs : Defs) (specs : SpecTable) → ItemsFit defs specs → ArgumentsMeet defs specs
