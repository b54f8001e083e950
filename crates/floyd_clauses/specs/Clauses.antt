-- The clause of a PRED at terms: its body, or the body of the case for the constructor of its first argument, with the terms
-- in place of its arguments.
use Rattle.std.specs.Prelude.{◌≡◌, ℕ, not, nat_eq, ◌&&◌, Bool, List, [], ◌∷◌, ◌++◌, find, if◌then◌else◌, Option, Some, None, Result, Ok, Err, bytes_eq}
use Rattle.std.specs.Map.{lookup}
use Rattle.floyd_text.specs.declared.code.Code.TheVariants as c
use Rattle.floyd_text.specs.declared.refusal.No.{No}
use Rattle.floyd_text.specs.declared.refusal.Shown.TheVariants.{Name, Nothing}
use Rattle.floyd_tree.specs.Plain.{Plain, head_of, kids_of}
use Rattle.floyd_truth.specs.Replace.{puts}
use Rattle.floyd_assert_trees.specs.declared.assertion.Assertion.{Assertion}
use Rattle.floyd_assert_trees.specs.declared.items.Defs.{Defs}
use Rattle.floyd_assert_trees.specs.declared.items.Pred.{Pred}
use Rattle.floyd_assert_trees.specs.declared.items.PredBody.{PredBody}
use Rattle.floyd_assert_trees.specs.declared.items.PredBody.TheVariants.{Whole, Cases}
use Rattle.floyd_assert_trees.specs.declared.items.PredCase.{PredCase}
use Rattle.floyd_assert_trees.specs.declared.sep.Sep.{Sep}
use Rattle.floyd_assert_trees.specs.declared.sep.Sep.TheVariants.{FieldAt, Padding, Valid, Anything, Predicate}
use Rattle.floyd_assert_changes.specs.Changed.{AssertionSortsAgree, assertion_with}
use Rattle.floyd_assert_instances.specs.Instances.{taken}
use Rattle.floyd_fieldpath.specs.Written.{on_ok}
use Rattle.floyd_clauses.specs.Patterns.{is_of, named_parts}

-- it is no predicate
abbrev pub no_predicate : No
no_predicate = record { code = c.WrongGoal; shown = Nothing }

-- it is an opaque one of another module
abbrev pub hidden : List ℕ → No
hidden name = record { code = c.Opaque; shown = Name name }

-- it has cases, and the first argument has no constructor at its head
abbrev pub no_constructor : No
no_constructor = record { code = c.NoConstructor; shown = Nothing }

abbrev pub is_hidden : ℕ → Pred → Bool
is_hidden home p = p.opaque && not (nat_eq p.«module» home)

-- an assertion, and the terms for its variables; the first one of a name counts
abbrev pub Opening : Type 0
Opening = List (List ℕ × Plain) × Assertion

-- the case for the constructor at the head of a term
abbrev pub case_for : List PredCase → Plain → Option PredCase
case_for cases t = find (λ (c : PredCase). is_of c.pattern (head_of t)) cases

-- the terms for the pattern's names, and then those for the arguments
abbrev pub opened_terms : PredCase → Plain → List (List ℕ × Plain) → List (List ℕ × Plain)
opened_terms c t arguments = named_parts c.pattern (kids_of t) ++ arguments

abbrev pub opened_case : Option PredCase → Plain → List (List ℕ × Plain) → Result Opening No
opened_case None t arguments = Err no_constructor
opened_case (Some c) t arguments = Ok (opened_terms c t arguments, c.body)

abbrev pub opened_by : PredBody → List Plain → List (List ℕ × Plain) → Result Opening No
opened_by (Whole a) terms arguments = Ok (arguments, a)
opened_by (Cases cases) [] arguments = Err no_constructor
opened_by (Cases cases) (t ∷ terms) arguments = opened_case (case_for cases t) t arguments

-- the terms are as many as the arguments and of their sorts
abbrev pub opened : Pred → List Plain → Result Opening No
opened p terms = on_ok (taken p.arguments terms) (opened_by p.body terms)

abbrev pub with_terms : Opening → Result Assertion No
with_terms o = assertion_with o.0 o.1

abbrev pub clause_in : Pred → List Plain → Result Assertion No
clause_in p terms = on_ok (opened p terms) with_terms

-- of a PRED of that name
abbrev pub clause_by : ℕ → List ℕ → Option Pred → List Plain → Result Assertion No
clause_by home name None terms = Err no_predicate
clause_by home name (Some p) terms = if is_hidden home p then Err (hidden name) else clause_in p terms

abbrev pub clause_of : Defs → List ℕ → List Plain → Result Assertion No
clause_of defs name terms = clause_by defs.home name (lookup (bytes_eq name) defs.preds) terms

-- a predicate as a part
abbrev pub unfolded : Defs → Sep → Result Assertion No
unfolded defs (FieldAt region value) = Err no_predicate
unfolded defs (Padding region) = Err no_predicate
unfolded defs (Valid address) = Err no_predicate
unfolded defs Anything = Err no_predicate
unfolded defs (Predicate name terms) = clause_of defs name terms

-- in the assertion that stands for a PRED each free occurrence of a variable has the sort of its term
abbrev pub OpensWell : Pred → List Plain → Type 0
OpensWell p terms = (o : Opening) → opened p terms ≡ Ok o → AssertionSortsAgree (puts o.0) o.1

abbrev pub TakesTerms : Defs → List ℕ → List Plain → Type 0
TakesTerms defs name terms = (p : Pred) → lookup (bytes_eq name) defs.preds ≡ Some p → OpensWell p terms

abbrev pub Unfolds : Defs → Sep → Type 0
Unfolds defs (FieldAt region value) = Unit {0}
Unfolds defs (Padding region) = Unit {0}
Unfolds defs (Valid address) = Unit {0}
Unfolds defs Anything = Unit {0}
Unfolds defs (Predicate name terms) = TakesTerms defs name terms
