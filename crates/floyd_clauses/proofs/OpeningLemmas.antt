-- What a PRED stands for, where the case is found.
use Rattle.std.proofs.Common.{◌≡◌, ℕ, ◌≤◌, ◌++◌, List, [], ◌∷◌, length, get_or, Option, Some, Ok, sym, ap, ◌∙◌, arith}
use Rattle.floyd_tree.specs.Plain.{Plain, kids_of}
use Rattle.floyd_assert_trees.specs.declared.items.PredBody.TheVariants.{Cases}
use Rattle.floyd_assert_trees.specs.declared.items.PredCase.{PredCase}
use Rattle.floyd_clauses.specs.Clauses.{case_for, opened_by, opened_case, opened_terms}
use Rattle.floyd_clauses.specs.Patterns.{named_parts}

pub terms_are : (c : PredCase) (t : Plain) (arguments own by seen : List (List ℕ × Plain)) (kids shown : List Plain) → shown ≡ kids → kids ≡ kids_of t → own ≡ named_parts c.pattern shown → by ≡ own ++ arguments → seen ≡ by → seen ≡ opened_terms c t arguments
terms_are c t arguments own by seen kids shown e f g h k = k ∙ h ∙ ap (λ o. o ++ arguments) (g ∙ ap (named_parts c.pattern) (e ∙ f))

-- the case for the first term
pub case_opened : (cases : List PredCase) (terms : List Plain) (arguments : List (List ℕ × Plain)) (t : Plain) (c : PredCase) → 1 ≤ length terms → t ≡ get_or terms 0 t → Some c ≡ case_for cases t → opened_by (Cases cases) terms arguments ≡ Ok (opened_terms c t arguments, c.body)
case_opened cases [] arguments t c some is found = absurd (omega (arith, some))
case_opened cases (u ∷ terms) arguments t c some is found =
    ap (λ v. opened_case (case_for cases v) v arguments) (sym is) ∙ ap (λ (o : Option PredCase). opened_case o t arguments) (sym found)
