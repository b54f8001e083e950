-- Formulas as plain trees over terms, their size and height, the variables that are free in them, and whether they are well sorted.
use Rattle.std.specs.Prelude.{ℕ, ◌+◌, max, Bool, true, false, not, ◌||◌, ◌&&◌, List, [], ◌∷◌, length, Option, Some, None}
use Rattle.floyd_tree_sorts.specs.declared.connectives.FormulaHead.{FormulaHead}
use Rattle.floyd_tree_sorts.specs.declared.sorts.Sort.{Sort}
use Rattle.floyd_tree_sorts.specs.Heads.{binds}
use Rattle.floyd_tree_sorts.specs.Rows.{takes}
use Rattle.floyd_tree.specs.Plain.{Plain, Plains, listed, mentions_in, sizes, heights}
use Rattle.floyd_tree.specs.WellSorted.{sorts_of}

mutual
  pub data PlainFormula : Type 0 where
    Says : (head : FormulaHead) → (terms : Plains) → (kids : PlainFormulas) → PlainFormula

  pub data PlainFormulas : Type 0 where
    NoFormula : PlainFormulas
    MoreFormulas : (first : PlainFormula) → (rest : PlainFormulas) → PlainFormulas

abbrev pub formulas : List PlainFormula → PlainFormulas
formulas [] = NoFormula
formulas (f ∷ fs) = MoreFormulas f (formulas fs)

abbrev pub listed_formulas : PlainFormulas → List PlainFormula
listed_formulas NoFormula = []
listed_formulas (MoreFormulas f fs) = f ∷ listed_formulas fs

abbrev pub form_of : PlainFormula → FormulaHead
form_of (Says head terms kids) = head

abbrev pub terms_of : PlainFormula → List Plain
terms_of (Says head terms kids) = listed terms

abbrev pub formulas_of : PlainFormula → List PlainFormula
formulas_of (Says head terms kids) = listed_formulas kids

-- the number of nodes, those of terms among them
abbrev mutual
  pub formula_size : PlainFormula → ℕ
  formula_size (Says head terms kids) = sizes terms + formula_sizes kids + 1

  pub formula_sizes : PlainFormulas → ℕ
  formula_sizes NoFormula = 0
  formula_sizes (MoreFormulas f fs) = formula_size f + formula_sizes fs

-- the number of nodes on the longest way down
abbrev mutual
  pub formula_height : PlainFormula → ℕ
  formula_height (Says head terms kids) = max (heights terms) (formula_heights kids) + 1

  pub formula_heights : PlainFormulas → ℕ
  formula_heights NoFormula = 0
  formula_heights (MoreFormulas f fs) = max (formula_height f) (formula_heights fs)

-- whether the variable is free
abbrev mutual
  pub formula_mentions : List ℕ → PlainFormula → Bool
  formula_mentions x (Says head terms kids) = mentions_in x terms || (not (binds x head) && formulas_mention x kids)

  pub formulas_mention : List ℕ → PlainFormulas → Bool
  formulas_mention x NoFormula = false
  formulas_mention x (MoreFormulas f fs) = formula_mentions x f || formulas_mention x fs

abbrev pub takes_all : FormulaHead → Option (List Sort) → ℕ → Bool
takes_all head (Some sorts) n = takes head sorts n
takes_all head None n = false

abbrev mutual
  pub well_sorted : PlainFormula → Bool
  well_sorted (Says head terms kids) = takes_all head (sorts_of terms) (length (listed_formulas kids)) && all_well_sorted kids

  pub all_well_sorted : PlainFormulas → Bool
  all_well_sorted NoFormula = true
  all_well_sorted (MoreFormulas f fs) = well_sorted f && all_well_sorted fs
