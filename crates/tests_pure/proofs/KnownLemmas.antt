-- Formulas that need no definitions are well formed over all of them.
use Rattle.std.proofs.Common.{◌≡◌, ℕ, true, ◌&&◌, cond, List, [], ◌∷◌, ◌++◌, All, Some, refl, sym, ap, subst, ◌∙◌}
use Rattle.std.specs.Prelude.{bytes_eq}
use Rattle.std.specs.Map.{lookup}
use Rattle.std.proofs.lemmas.List.Elements.{All-cons, All-nil}
use Rattle.floyd_ctypes.specs.Structs.{Structs}
use Rattle.floyd_tree_sorts.specs.declared.connectives.FormulaHead.{FormulaHead}
use Rattle.floyd_tree_sorts.specs.declared.connectives.FormulaHead.TheVariants.{Forall, Exists}
use Rattle.floyd_tree_sorts.specs.declared.heads.Head.{Head}
use Rattle.floyd_tree_sorts.specs.declared.heads.Head.TheVariants.{Variable, Default, Fun}
use Rattle.floyd_tree_sorts.proofs.SortLemmas.{both_true}
use Rattle.floyd_tree.specs.Formulas.{PlainFormula, PlainFormulas, Says, NoFormula, MoreFormulas, form_of, terms_of, formulas_of, formulas, well_sorted}
use Rattle.floyd_tree.specs.Plain.{Plain, Plains, At, Done, More, head_of, kids_of, plains, listed}
use Rattle.floyd_tree_values.specs.Means.{Defs}
use Rattle.floyd_tree_values.specs.Rules.{Calls, CallsOf, EachAllowed, AllAllowed}
use Rattle.floyd_tree_values.specs.Rules as ru
use Rattle.floyd_goal_formulas.specs.Fits.{Fits, IsAllowed, AreAllowed, scope_below}
use Rattle.floyd_assert_trees.specs.declared.binder.Binder.{Binder}
use Rattle.floyd_tree.specs.Code.{plains-listed}
use Rattle.floyd_tree.specs.FormulaCode.{formulas-listed}
use Rattle.floyd_pure_formulas.specs.VariableCases.{sort_named}
use Rattle.floyd_pure_formulas.proofs.Substituting.{is_sort_is}
use Rattle.tests_pure.specs.Known.{all_known, binders_of, formula_known, formulas_known, head_known, known, scope_of, term_known, terms_known}

-- the first of a name
pub found_is : (x : List ℕ) (bs : List Binder) → lookup (bytes_eq x) (scope_of bs) ≡ sort_named x bs
found_is x [] = refl
found_is x (b ∷ bs) = ap (cond (bytes_eq x b.name) (Some b.sort)) (found_is x bs)

module _ (structs : Structs) (calls : Calls) (bs : List Binder) where
  head_allowed : (head : Head) (kids : Plains) → head_known bs head ≡ true → ru.IsAllowed structs (scope_of bs) calls head kids
  head_allowed (Variable x s) kids h = found_is x bs ∙ is_sort_is s (sort_named x bs) h
  head_allowed (Default shape s) kids h = absurd cc
  head_allowed (Fun name arguments s) kids h = absurd cc
  head_allowed head kids h = tt

  mutual
    term_allowed : (t : Plain) → term_known bs t ≡ true → EachAllowed structs (scope_of bs) calls t
    term_allowed (At head kids) h =
        let p = both_true (head_known bs head) (terms_known bs kids) h in
        (head_allowed head kids p.0, terms_allowed kids p.1)

    terms_allowed : (ts : Plains) → terms_known bs ts ≡ true → AllAllowed structs (scope_of bs) calls ts
    terms_allowed Done h = tt
    terms_allowed (More t ts) h =
        let p = both_true (term_known bs t) (terms_known bs ts) h in
        (term_allowed t p.0, terms_allowed ts p.1)

scope_is : (head : FormulaHead) (bs : List Binder) → scope_of (binders_of head ++ bs) ≡ scope_below head (scope_of bs)
scope_is (Forall x s) bs = refl
scope_is (Exists x s) bs = refl
scope_is head bs = refl

module _ (defs : Defs) where
  mutual
    formula_allowed : (bs : List Binder) (f : PlainFormula) → formula_known bs f ≡ true → IsAllowed defs (scope_of bs) f
    formula_allowed bs (Says head terms kids) h =
        let p = both_true (terms_known bs terms) (formulas_known (binders_of head ++ bs) kids) h in
        (terms_allowed defs.structs (CallsOf defs.funs) bs terms p.0, subst (λ scope. AreAllowed defs scope kids) (scope_is head bs) (formulas_allowed (binders_of head ++ bs) kids p.1))

    formulas_allowed : (bs : List Binder) (fs : PlainFormulas) → formulas_known bs fs ≡ true → AreAllowed defs (scope_of bs) fs
    formulas_allowed bs NoFormula h = tt
    formulas_allowed bs (MoreFormulas f fs) h =
        let p = both_true (formula_known bs f) (formulas_known bs fs) h in
        (formula_allowed bs f p.0, formulas_allowed bs fs p.1)

pub known_fits : (bs : List Binder) (f : PlainFormula) → known bs f ≡ true → (defs : Defs) → Fits defs (scope_of bs) f
known_fits bs f h defs =
    let p = both_true (well_sorted f) (formula_known bs f) h in
    record { sorted = p.0; allowed = formula_allowed defs bs f p.1 }

pub all_fit : (bs : List Binder) (fs : List PlainFormula) → all_known bs fs ≡ true → (defs : Defs) → All (Fits defs (scope_of bs)) fs
all_fit bs [] h defs = All-nil (Fits defs (scope_of bs))
all_fit bs (f ∷ fs) h defs =
    let p = both_true (known bs f) (all_known bs fs) h in
    All-cons (Fits defs (scope_of bs)) f fs (known_fits bs f p.0 defs) (all_fit bs fs p.1 defs)

-- the code looks at heads and kids
pub term_parts : (bs : List Binder) (t : Plain) → term_known bs t ≡ (head_known bs (head_of t) && terms_known bs (plains (kids_of t)))
term_parts bs (At head kids) = ap (λ ts. head_known bs head && terms_known bs ts) (sym (plains-listed kids))

pub formula_parts : (bs : List Binder) (f : PlainFormula) → formula_known bs f ≡ (terms_known bs (plains (terms_of f)) && formulas_known (binders_of (form_of f) ++ bs) (formulas (formulas_of f)))
formula_parts bs (Says head terms kids) =
    ap (λ ts. terms_known bs ts && formulas_known (binders_of head ++ bs) kids) (sym (plains-listed terms))
    ∙ ap (λ fs. terms_known bs (plains (listed terms)) && formulas_known (binders_of head ++ bs) fs) (sym (formulas-listed kids))
