-- What a FUN stands for, where the case is found, and one term with terms in place of variables.
use Rattle.std.proofs.Common.{◌≡◌, ℕ, ◌≤◌, ◌&&◌, Bool, true, false, ◌++◌, List, [], ◌∷◌, length, get_or, Option, Some, Ok, Err, refl, sym, ap, ◌∙◌, arith}
use Rattle.std.specs.Prelude.{if◌then◌else◌}
use Rattle.floyd_text.specs.declared.code.Code.TheVariants.{TermTooLarge}
use Rattle.floyd_text.specs.declared.refusal.No.{No}
use Rattle.floyd_text.specs.declared.refusal.RuleStop.{RuleStop}
use Rattle.floyd_text.specs.declared.refusal.RuleStop.TheVariants as r
use Rattle.floyd_text.specs.declared.refusal.Shown.TheVariants.{Nothing}
use Rattle.floyd_text.specs.Gives.{RuleStops}
use Rattle.floyd_tree.specs.Made.{fits}
use Rattle.floyd_tree.specs.Plain.{Plain, kids_of}
use Rattle.floyd_truth.specs.Replace.{puts, replaced}
use Rattle.floyd_assert_trees.specs.declared.items.FunBody.TheVariants.{Cases}
use Rattle.floyd_assert_trees.specs.declared.items.FunCase.{FunCase}
use Rattle.floyd_assert_changes.specs.Substituted.{terms_with}
use Rattle.floyd_clauses.specs.Patterns.{named_parts}
use Rattle.floyd_unfolding.specs.Calls.{case_for, opened_by, opened_case, opened_terms, term_with}

pub terms_are : (c : FunCase) (t : Plain) (arguments own by seen : List (List ℕ × Plain)) (kids shown : List Plain) → shown ≡ kids → kids ≡ kids_of t → own ≡ named_parts c.pattern shown → by ≡ own ++ arguments → seen ≡ by → seen ≡ opened_terms c t arguments
terms_are c t arguments own by seen kids shown e f g h k = k ∙ h ∙ ap (λ o. o ++ arguments) (g ∙ ap (named_parts c.pattern) (e ∙ f))

-- the case for the first term
pub case_opened : (cases : List FunCase) (terms : List Plain) (arguments : List (List ℕ × Plain)) (t : Plain) (c : FunCase) → 1 ≤ length terms → t ≡ get_or terms 0 t → Some c ≡ case_for cases t → opened_by (Cases cases) terms arguments ≡ Some (opened_terms c t arguments, c.term)
case_opened cases [] arguments t c some is found = absurd (omega (arith, some))
case_opened cases (u ∷ terms) arguments t c some is found =
    ap (λ v. opened_case (case_for cases v) v arguments) (sym is) ∙ ap (λ (o : Option FunCase). opened_case o t arguments) (sym found)

-- ---- one term

abbrev too_large : No
too_large = record { code = TermTooLarge; shown = Nothing }

one_by : (b : Bool) (x : Plain) (made : List Plain) → (if b && true then Ok (x ∷ []) else Err too_large) ≡ Ok made → ((if b then Ok x else Err too_large) ≡ Ok x) × (made ≡ x ∷ [])
one_by true x made e = (refl, cc)
one_by false x made e = absurd cc

pub one_made : (by : List (List ℕ × Plain)) (t : Plain) (made : List Plain) → terms_with by (t ∷ []) ≡ Ok made → (term_with by t ≡ Ok (replaced (puts by) t)) × (made ≡ replaced (puts by) t ∷ [])
one_made by t made e = one_by (fits (replaced (puts by) t)) (replaced (puts by) t) made e

stops_by : (b : Bool) (x : Plain) (refusal : No) → (if b && true then Ok (x ∷ []) else Err too_large) ≡ Err refusal → (if b then Ok x else Err too_large) ≡ Err refusal
stops_by true x refusal e = absurd cc
stops_by false x refusal e = let same : too_large ≡ refusal = cc in ap (λ (n : No). Err n) same

pub one_stops : (stop : RuleStop) (by : List (List ℕ × Plain)) (t : Plain) → RuleStops stop (terms_with by (t ∷ [])) → RuleStops stop (term_with by t)
one_stops (r.No refusal) by t e = stops_by (fits (replaced (puts by) t)) (replaced (puts by) t) refusal e
one_stops r.Memory by t e = tt
