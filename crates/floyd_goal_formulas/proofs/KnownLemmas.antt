-- What is known of a formula, by the number of formulas in it.
use Rattle.std.proofs.Common.{◌≡◌, ◌+◌, ◌<◌, ◌≤◌, List, [], ◌∷◌, length, get_or, None, refl, ap, sym, ◌∙◌, subst, arith}
use Rattle.floyd_tree_sorts.specs.declared.connectives.FormulaHead.TheVariants as f
use Rattle.floyd_tree.specs.Formulas.{PlainFormula, PlainFormulas, Says, NoFormula, MoreFormulas, form_of, terms_of, formulas_of, formulas, formula_height, formula_heights}
use Rattle.floyd_tree.specs.Plain.{Plains, Done, More}
use Rattle.floyd_tree.proofs.FormulaLemmas.{formulas_below}
use Rattle.floyd_goal_formulas.specs.Known.{known}
use Rattle.floyd_goal_formulas.specs.KnownClauses.{known_of_terms, known_of_both}
use Rattle.floyd_goal_formulas.specs.Said.{pair_of}

pub of_none : (a : PlainFormula) → formulas_of a ≡ [] → known a ≡ known_of_terms (form_of a) (pair_of (terms_of a))
of_none (Says f.Equal Done NoFormula) e = refl
of_none (Says f.Equal (More t Done) NoFormula) e = refl
of_none (Says f.Equal (More t (More u Done)) NoFormula) e = refl
of_none (Says f.Equal (More t (More u (More v ts))) NoFormula) e = refl
of_none (Says f.AtMost Done NoFormula) e = refl
of_none (Says f.AtMost (More t Done) NoFormula) e = refl
of_none (Says f.AtMost (More t (More u Done)) NoFormula) e = refl
of_none (Says f.AtMost (More t (More u (More v ts))) NoFormula) e = refl
of_none (Says head terms NoFormula) e = refl
of_none (Says head terms (MoreFormulas g gs)) e = absurd cc

-- an equation or inequality with a formula in it is none
equal_kids : (terms : Plains) (g : PlainFormula) (gs : PlainFormulas) → known (Says f.Equal terms (MoreFormulas g gs)) ≡ None
equal_kids Done g gs = refl
equal_kids (More t Done) g gs = refl
equal_kids (More t (More u Done)) g gs = refl
equal_kids (More t (More u (More v ts))) g gs = refl

order_kids : (terms : Plains) (g : PlainFormula) (gs : PlainFormulas) → known (Says f.AtMost terms (MoreFormulas g gs)) ≡ None
order_kids Done g gs = refl
order_kids (More t Done) g gs = refl
order_kids (More t (More u Done)) g gs = refl
order_kids (More t (More u (More v ts))) g gs = refl

pub of_two : (a b c : PlainFormula) → formulas_of a ≡ b ∷ c ∷ [] → known a ≡ known_of_both (form_of a) c (known b) (known c)
of_two (Says head terms NoFormula) b c e = absurd cc
of_two (Says head terms (MoreFormulas g NoFormula)) b c e = absurd cc
of_two (Says f.And terms (MoreFormulas g (MoreFormulas h NoFormula))) b c e = cc
of_two (Says f.Or terms (MoreFormulas g (MoreFormulas h NoFormula))) b c e = cc
of_two (Says f.Implies terms (MoreFormulas g (MoreFormulas h NoFormula))) b c e = cc
of_two (Says f.Equal terms (MoreFormulas g (MoreFormulas h NoFormula))) b c e = equal_kids terms g (MoreFormulas h NoFormula)
of_two (Says f.AtMost terms (MoreFormulas g (MoreFormulas h NoFormula))) b c e = order_kids terms g (MoreFormulas h NoFormula)
of_two (Says head terms (MoreFormulas g (MoreFormulas h NoFormula))) b c e = refl
of_two (Says head terms (MoreFormulas g (MoreFormulas h (MoreFormulas i gs)))) b c e = absurd cc

pub of_many : (a : PlainFormula) → ¬ (length (formulas_of a) ≡ 0) → ¬ (length (formulas_of a) ≡ 2) → known a ≡ None
of_many (Says head terms NoFormula) n m = absurd (n refl)
of_many (Says f.Equal terms (MoreFormulas g gs)) n m = equal_kids terms g gs
of_many (Says f.AtMost terms (MoreFormulas g gs)) n m = order_kids terms g gs
of_many (Says head terms (MoreFormulas g (MoreFormulas h NoFormula))) n m = absurd (m refl)
of_many (Says head terms (MoreFormulas g NoFormula)) n m = refl
of_many (Says head terms (MoreFormulas g (MoreFormulas h (MoreFormulas i gs)))) n m = refl

pub kids_lower : (a b c : PlainFormula) → formulas_of a ≡ b ∷ c ∷ [] → (formula_height b < formula_height a) × (formula_height c < formula_height a)
kids_lower a b c e =
    let below : formula_heights (formulas (b ∷ c ∷ [])) + 1 ≤ formula_height a = subst (λ fs. formula_heights (formulas fs) + 1 ≤ formula_height a) e (formulas_below a) in
    (omega (arith, below), omega (arith, below))

pub two_of : (ks : List PlainFormula) (a b : PlainFormula) → 2 ≤ length ks → length ks < 3 → a ≡ get_or ks 0 a → b ≡ get_or ks 1 b → ks ≡ a ∷ b ∷ []
two_of [] a b h k e g = absurd (omega (arith, h))
two_of (x ∷ []) a b h k e g = absurd (omega (arith, h))
two_of (x ∷ y ∷ []) a b h k e g = ap (λ z. z ∷ y ∷ []) (sym e) ∙ ap (λ z. a ∷ z ∷ []) (sym g)
two_of (x ∷ y ∷ z ∷ ks) a b h k e g = absurd (omega (arith, k))
