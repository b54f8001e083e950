-- The sizes of assertions as trees: the nodes of all their terms and formulas, and one for each temporary and each part.
use Rattle.std.specs.Prelude.{ℕ, ◌+◌, Bool, false, if◌then◌else◌, List, [], ◌∷◌, pos, nat_eq}
use Rattle.floyd_tree_sorts.specs.declared.heads.Head.{Head}
use Rattle.floyd_tree_sorts.specs.declared.heads.Head.TheVariants.{Literal}
use Rattle.floyd_tree.specs.declared.paths.PathStep.{PathStep}
use Rattle.floyd_tree.specs.declared.paths.PathStep.TheVariants.{Field, Subscript}
use Rattle.floyd_tree.specs.Formulas.{formula_size}
use Rattle.floyd_tree.specs.Plain.{Plain, size, head_of}
use Rattle.floyd_assert_trees.specs.declared.assertion.Assertion.{Assertion}
use Rattle.floyd_assert_trees.specs.declared.assertion.Local.{Local}
use Rattle.floyd_assert_trees.specs.declared.sep.Region.{Region}
use Rattle.floyd_assert_trees.specs.declared.sep.Sep.{Sep}
use Rattle.floyd_assert_trees.specs.declared.sep.Sep.TheVariants.{FieldAt, Padding, Valid, Anything, Predicate}

abbrev pub sum_of : {X : Type 0} → (X → ℕ) → List X → ℕ
sum_of f [] = 0
sum_of f (x ∷ xs) = f x + sum_of f xs

abbrev pub is_sixteen : Head → Bool
is_sixteen (Literal (pos n)) = nat_eq n 16
is_sixteen head = false

-- the whole share, 16, which a part has that is written without one, counts nothing
abbrev pub share_size : Plain → ℕ
share_size t = if is_sixteen (head_of t) then 0 else size t

abbrev pub step_size : PathStep → ℕ
step_size (Field name) = 0
step_size (Subscript t) = size t

abbrev pub region_size : Region → ℕ
region_size r = share_size r.share + sum_of size r.ty.sizes + sum_of step_size r.path + size r.root

abbrev pub part_size : Sep → ℕ
part_size (FieldAt region value) = region_size region + size value + 1
part_size (Padding region) = region_size region + 1
part_size (Valid address) = size address + 1
part_size Anything = 1
part_size (Predicate name terms) = sum_of size terms + 1

abbrev pub local_size : Local → ℕ
local_size l = size l.term + 1

-- existentials count nothing
abbrev pub assertion_size : Assertion → ℕ
assertion_size a = sum_of formula_size a.props + sum_of local_size a.locals + sum_of part_size a.parts
