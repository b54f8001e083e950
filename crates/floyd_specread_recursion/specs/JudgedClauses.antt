-- Words of the clauses of calls: what becomes of what was read.
use Rattle.std.specs.Prelude.{◌≡◌, ℕ, List, Option, Some, None, Result, Ok, Err}
use Rattle.floyd_text.specs.declared.refusal.Halt.{Halt}
use Rattle.floyd_text.specs.declared.refusal.Halt.TheVariants.{Refused, Memory}
use Rattle.floyd_text.specs.declared.refusal.Refusal.{Refusal}
use Rattle.floyd_lex.specs.Token.{TokenList}
use Rattle.floyd_cparse_trees.specs.declared.types.Identifier.{Identifier}
use Rattle.floyd_predicates.specs.WellFormed.{not_structural}
use Rattle.floyd_termread_marks.specs.Marks.{place_at}
use Rattle.floyd_termread_phrases.specs.Reads.{Answers}
use Rattle.floyd_text.specs.Gives.{Gives}
use Rattle.floyd_specread_recursion.specs.Structural.{end_of, judged, wrong_from}

module _ (bytes : List ℕ) (list : TokenList) where
  -- the refusal of a wrong call
  abbrev pub refused_call : Identifier → Option ℕ → Result (Unit {0}) Refusal
  refused_call own None = Ok tt
  refused_call own (Some at) = Err (not_structural (place_at bytes list at) own.name)

  -- the first wrong call in what was read is refused
  abbrev pub CallsJudged : {A : Type 0} → Identifier → List (List ℕ) → ℕ → Result (A × ℕ) Halt → Result (Unit {0}) Halt → Type 0
  CallsJudged {A} own parts start (Ok read) result = Gives (λ (u : Unit {0}). u) result (refused_call own (wrong_from bytes list own.name parts (end_of bytes list {A = A} start (Ok read)) start))
  CallsJudged {A} own parts start (Err (Refused refusal)) result = Gives (λ (u : Unit {0}). u) result (refused_call own (wrong_from bytes list own.name parts (end_of bytes list {A = A} start (Err refusal)) start))
  CallsJudged own parts start (Err Memory) result = result ≡ Ok tt

  -- what was read is judged, unless memory ran out
  abbrev pub IsJudged : {A : Type 0} → Identifier → List (List ℕ) → ℕ → Result (A × ℕ) Halt → Result (A × ℕ) Halt → Type 0
  IsJudged {A} own parts start (Ok read) result = Answers (λ (x : A × ℕ). x) (λ answer. answer ≡ judged bytes list own parts start (Ok read)) result
  IsJudged {A} own parts start (Err (Refused refusal)) result = Answers (λ (x : A × ℕ). x) (λ answer. answer ≡ judged bytes list own parts start (Err refusal)) result
  IsJudged own parts start (Err Memory) result = result ≡ Err Memory
