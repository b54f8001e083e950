-- The calls that FUNs and PREDs make of themselves, in the order of the text, and for each whether it is on a part of the
-- first argument.
use Rattle.std.specs.Prelude.{ℕ, not, Bool, false, List, [], ◌∷◌, ◌++◌, filter, if◌then◌else◌, bytes_eq}
use Rattle.std.specs.List.{flat_map, list_any}
use Rattle.floyd_tree_sorts.specs.declared.heads.Head.{Head}
use Rattle.floyd_tree_sorts.specs.declared.heads.Head.TheVariants.{Fun, Variable}
use Rattle.floyd_tree.specs.Plain.{Plain, Plains, At, Done, More, head_of, listed}
use Rattle.floyd_tree_values.specs.Rules.{smaller}
use Rattle.floyd_assert_trees.specs.declared.assertion.Assertion.{Assertion}
use Rattle.floyd_assert_trees.specs.declared.binder.Binder.{Binder}
use Rattle.floyd_assert_trees.specs.declared.items.FunBody.{FunBody}
use Rattle.floyd_assert_trees.specs.declared.items.FunBody.TheVariants as f
use Rattle.floyd_assert_trees.specs.declared.items.FunCase.{FunCase}
use Rattle.floyd_assert_trees.specs.declared.items.PredBody.{PredBody}
use Rattle.floyd_assert_trees.specs.declared.items.PredBody.TheVariants as p
use Rattle.floyd_assert_trees.specs.declared.items.PredCase.{PredCase}
use Rattle.floyd_assert_trees.specs.declared.pattern.Pattern.{Pattern}
use Rattle.floyd_assert_trees.specs.declared.sep.Sep.{Sep}
use Rattle.floyd_assert_trees.specs.declared.sep.Sep.TheVariants.{FieldAt, Padding, Valid, Anything, Predicate}
use Rattle.floyd_assert_trees.specs.Meanings.{pattern_of}
use Rattle.floyd_assert_changes.specs.Changed.{has_name}

abbrev pub is_part : List (List ℕ) → Head → Bool
is_part parts (Variable x s) = list_any (bytes_eq x) parts
is_part parts head = false

-- the first of the terms is one of these variables
abbrev pub recurs : List (List ℕ) → List Plain → Bool
recurs parts [] = false
recurs parts (t ∷ terms) = is_part parts (head_of t)

-- a call, where that is the item's own name
abbrev pub call : List ℕ → List (List ℕ) → List ℕ → List Plain → List Bool
call own parts name terms = if bytes_eq own name then recurs parts terms ∷ [] else []

-- the sublist or the subtrees of a pattern
abbrev pub parts_of : Pattern → List (List ℕ)
parts_of pattern = smaller (pattern_of pattern)

-- ---- of a FUN

abbrev pub call_at : List ℕ → List (List ℕ) → Head → List Plain → List Bool
call_at own parts (Fun name sorts s) terms = call own parts name terms
call_at own parts head terms = []

abbrev mutual
  pub calls_in : List ℕ → List (List ℕ) → Plain → List Bool
  calls_in own parts (At head kids) = call_at own parts head (listed kids) ++ all_calls own parts kids

  pub all_calls : List ℕ → List (List ℕ) → Plains → List Bool
  all_calls own parts Done = []
  all_calls own parts (More t ts) = calls_in own parts t ++ all_calls own parts ts

abbrev pub fun_case_calls : List ℕ → FunCase → List Bool
fun_case_calls own c = calls_in own (parts_of c.pattern) c.term

-- one without cases has no parts to recur on
abbrev pub fun_calls : List ℕ → FunBody → List Bool
fun_calls own (f.Whole t) = calls_in own [] t
fun_calls own (f.Cases cases) = flat_map (fun_case_calls own) cases

-- ---- of a PRED

abbrev pub part_calls : List ℕ → List (List ℕ) → Sep → List Bool
part_calls own parts (FieldAt region value) = []
part_calls own parts (Padding region) = []
part_calls own parts (Valid address) = []
part_calls own parts Anything = []
part_calls own parts (Predicate name terms) = call own parts name terms

-- an existential of a part's name hides it
abbrev pub unhidden : List Binder → List (List ℕ) → List (List ℕ)
unhidden existentials parts = filter (λ x. not (has_name x existentials)) parts

abbrev pub body_calls : List ℕ → List (List ℕ) → Assertion → List Bool
body_calls own parts a = flat_map (part_calls own (unhidden a.existentials parts)) a.parts

abbrev pub pred_case_calls : List ℕ → PredCase → List Bool
pred_case_calls own c = body_calls own (parts_of c.pattern) c.body

abbrev pub pred_calls : List ℕ → PredBody → List Bool
pred_calls own (p.Whole a) = body_calls own [] a
pred_calls own (p.Cases cases) = flat_map (pred_case_calls own) cases
