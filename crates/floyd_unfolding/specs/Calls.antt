-- What a call of a FUN means: its term, or the term of the case for the constructor of its first argument, with the terms in
-- place of its arguments.
use Rattle.std.specs.Prelude.{◌≡◌, ℕ, List, [], ◌∷◌, ◌++◌, find, Option, Some, None, Result, Ok}
use Rattle.floyd_text.specs.declared.refusal.No.{No}
use Rattle.floyd_tree.specs.Made.{fits}
use Rattle.floyd_tree.specs.Plain.{Plain, head_of, kids_of}
use Rattle.floyd_truth.specs.Replace.{SortsAgree, puts, replaced}
use Rattle.floyd_assert_trees.specs.declared.items.Fun.{Fun}
use Rattle.floyd_assert_trees.specs.declared.items.FunBody.{FunBody}
use Rattle.floyd_assert_trees.specs.declared.items.FunBody.TheVariants.{Whole, Cases}
use Rattle.floyd_assert_trees.specs.declared.items.FunCase.{FunCase}
use Rattle.floyd_assert_changes.specs.Substituted.{within_limits}
use Rattle.floyd_assert_instances.specs.Instances.{taken}
use Rattle.floyd_clauses.specs.Patterns.{is_of, named_parts}
use Rattle.floyd_fieldpath.specs.Written.{on_ok}
use Rattle.floyd_simplifying.specs.Simplified.{Step, some_of}

-- a term, and the terms for its variables; the first one of a name counts
abbrev pub Opening : Type 0
Opening = List (List ℕ × Plain) × Plain

-- the case for the constructor at the head of a term
abbrev pub case_for : List FunCase → Plain → Option FunCase
case_for cases t = find (λ (c : FunCase). is_of c.pattern (head_of t)) cases

abbrev pub opened_terms : FunCase → Plain → List (List ℕ × Plain) → List (List ℕ × Plain)
opened_terms c t arguments = named_parts c.pattern (kids_of t) ++ arguments

abbrev pub opened_case : Option FunCase → Plain → List (List ℕ × Plain) → Option Opening
opened_case None t arguments = None
opened_case (Some c) t arguments = Some (opened_terms c t arguments, c.term)

-- there is nothing where the FUN has cases, and the first argument no constructor at its head
abbrev pub opened_by : FunBody → List Plain → List (List ℕ × Plain) → Option Opening
opened_by (Whole t) terms arguments = Some (arguments, t)
opened_by (Cases cases) [] arguments = None
opened_by (Cases cases) (t ∷ terms) arguments = opened_case (case_for cases t) t arguments

abbrev pub term_with : List (List ℕ × Plain) → Plain → Result Plain No
term_with by t = within_limits fits (replaced (puts by) t)

abbrev pub meaning_at : Option Opening → Step
meaning_at None = Ok None
meaning_at (Some o) = some_of (term_with o.0 o.1)

abbrev pub meaning_by : FunBody → List Plain → List (List ℕ × Plain) → Step
meaning_by body terms arguments = meaning_at (opened_by body terms arguments)

-- the terms are as many as the arguments and of their sorts
abbrev pub meaning : Fun → List Plain → Step
meaning own terms = on_ok (taken own.arguments terms) (meaning_by own.body terms)

abbrev pub OpensWell : FunBody → List Plain → List (List ℕ × Plain) → Type 0
OpensWell body terms arguments = (o : Opening) → opened_by body terms arguments ≡ Some o → SortsAgree (puts o.0) o.1

-- in the term that a call stands for each variable has the sort of the term in its place
abbrev pub TakesTerms : Fun → Type 0
TakesTerms own = (terms : List Plain) (arguments : List (List ℕ × Plain)) → taken own.arguments terms ≡ Ok arguments → OpensWell own.body terms arguments
