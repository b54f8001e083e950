-- The sort table of formulas: which terms and how many formulas a head takes.
use Rattle.std.specs.Prelude.{ℕ, ◌+◌, Bool, true, false, ◌&&◌, nat_eq, List, [], ◌∷◌, length}
use Rattle.floyd_tree_sorts.specs.declared.connectives.FormulaHead.{FormulaHead}
use Rattle.floyd_tree_sorts.specs.declared.connectives.FormulaHead.TheVariants.{True, False, Implies, Or, And, Forall, Exists, Equal, AtMost, IsPtr, Defined, Hasty, Compatible, FuncPtr}
use Rattle.floyd_tree_sorts.specs.declared.connectives.StepShape.{StepShape}
use Rattle.floyd_tree_sorts.specs.declared.connectives.StepShape.TheVariants.{Subscript, Field}
use Rattle.floyd_tree_sorts.specs.declared.shape.Shape.{Shape, Int, Pointer'}
use Rattle.floyd_tree_sorts.specs.declared.sorts.Sort.{Sort}
use Rattle.floyd_tree_sorts.specs.Sorts.{is_val, is_z, same_sort}
use Rattle.floyd_tree_sorts.specs.Table.{arrays}

-- an integer or a pointer
abbrev pub is_scalar : Shape → Bool
is_scalar (Int kind) = true
is_scalar (Pointer' p target) = true
is_scalar shape = false

abbrev pub subscripts : List StepShape → ℕ
subscripts [] = 0
subscripts (Subscript ∷ steps) = subscripts steps + 1
subscripts (Field name ∷ steps) = subscripts steps

-- sizes or subscripts, and then a value
abbrev pub numbers_then_val : List Sort → Bool
numbers_then_val [] = false
numbers_then_val (a ∷ []) = is_val a
numbers_then_val (a ∷ b ∷ more) = is_z a && numbers_then_val (b ∷ more)

-- whether a head takes one term, or two
abbrev pub takes_one : FormulaHead → Sort → Bool
takes_one IsPtr a = is_val a
takes_one Defined a = is_val a
takes_one (FuncPtr name) a = is_val a
takes_one head a = false

abbrev pub takes_two : FormulaHead → Sort → Sort → Bool
takes_two Equal a b = same_sort a b
takes_two AtMost a b = is_z a && is_z b
takes_two head a b = false

-- whether a head takes no terms and this number of formulas
abbrev pub takes_formulas : FormulaHead → ℕ → Bool
takes_formulas True n = nat_eq n 0
takes_formulas False n = nat_eq n 0
takes_formulas Implies n = nat_eq n 2
takes_formulas Or n = nat_eq n 2
takes_formulas And n = nat_eq n 2
takes_formulas (Forall x s) n = nat_eq n 1
takes_formulas (Exists x s) n = nat_eq n 1
takes_formulas head n = false

abbrev pub takes_row : FormulaHead → List Sort → ℕ → Bool
takes_row head [] n = takes_formulas head n
takes_row head (a ∷ []) n = nat_eq n 0 && takes_one head a
takes_row head (a ∷ b ∷ []) n = nat_eq n 0 && takes_two head a b
takes_row head (a ∷ b ∷ c ∷ more) n = false

-- whether a head takes terms of these sorts and this number of formulas
abbrev pub takes : FormulaHead → List Sort → ℕ → Bool
takes (Hasty shape) sorts n =
    is_scalar shape && (nat_eq n 0 && (nat_eq (length sorts) (arrays shape + 1) && numbers_then_val sorts))
takes (Compatible shape path) sorts n = nat_eq n 0 && (nat_eq (length sorts) (arrays shape + subscripts path + 1) && numbers_then_val sorts)
takes head sorts n = takes_row head sorts n
