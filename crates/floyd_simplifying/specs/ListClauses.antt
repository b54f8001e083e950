-- Words of the clauses of private functions: the parts of a list, and items that are added.
use Rattle.std.specs.Prelude.{Bool, true, false, List, [], ◌∷◌, Option, Some, None}
use Rattle.floyd_tree_sorts.specs.declared.heads.Head.{Head}
use Rattle.floyd_tree_sorts.specs.declared.heads.Head.TheVariants as h
use Rattle.floyd_tree_sorts.specs.declared.operators.Operator.TheVariants.{Cons}
use Rattle.floyd_tree.specs.Plain.{Plain, head_of, kids_of}
use Rattle.floyd_goal_formulas.specs.Said.{pair_of}

-- the first item and the rest, where the list begins with `::`
abbrev pub parts_by : Head → List Plain → Option (Plain × Plain)
parts_by (h.Operator Cons) ts = pair_of ts
parts_by head ts = None

abbrev pub parts : Plain → Option (Plain × Plain)
parts t = parts_by (head_of t) (kids_of t)

abbrev pub no_terms : List Plain → Bool
no_terms [] = true
no_terms (t ∷ ts) = false

abbrev pub nil_by : Head → List Plain → Bool
nil_by (h.Nil s) ts = no_terms ts
nil_by head ts = false

abbrev pub is_nil : Plain → Bool
is_nil t = nil_by (head_of t) (kids_of t)

-- what was added, where all could be
abbrev pub pushed : {T : Type 0} → Bool → List T → Option (List T)
pushed true all = Some all
pushed false all = None
