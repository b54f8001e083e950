-- The cases of a variable of a list or of a tree: a goal for each constructor, where the variable is replaced everywhere.
use Rattle.std.specs.Prelude.{ℕ, ◌||◌, if◌then◌else◌, List, [], ◌∷◌, ◌++◌, map, length, nat_eq, Option, Some, None, option_and_then, bytes_eq, Result, Err}
use Rattle.floyd_text.specs.declared.refusal.No.{No}
use Rattle.floyd_tree_sorts.specs.declared.heads.Head.TheVariants.{Leaf, Nil, Operator}
use Rattle.floyd_tree_sorts.specs.declared.operators.Operator.TheVariants.{Cons, Node}
use Rattle.floyd_tree_sorts.specs.declared.sorts.Sort.{Sort}
use Rattle.floyd_tree_sorts.specs.Sorts.{item_sort, list_sort, node_sort, tree_sort}
use Rattle.floyd_tree.specs.Plain.{Plain, At, Done, plains}
use Rattle.floyd_assert_trees.specs.declared.binder.Binder.{Binder}
use Rattle.floyd_assert_changes.specs.Changed.{has_name}
use Rattle.floyd_goal_changes.specs.Changed.{goal_with, of_one, of_two}
use Rattle.floyd_goal_trees.specs.declared.args.Args.{Args}
use Rattle.floyd_goal_trees.specs.declared.context.Context.{Context}
use Rattle.floyd_goal_trees.specs.declared.context.Mark.{Mark}
use Rattle.floyd_goal_trees.specs.declared.context.Mark.TheVariants.{Plain as NoMark, Start, Induction}
use Rattle.floyd_goal_trees.specs.declared.goal.Goal.{Goal}
use Rattle.floyd_goal.specs.Goals.{in_context, wrong_goal}
use Rattle.floyd_goal.specs.Sides.{context_of}
use Rattle.floyd_pure_formulas.specs.declared.constructors.Constructors.{Constructors}
use Rattle.floyd_pure_formulas.specs.HypothesisCases.{wrong_names}
use Rattle.floyd_pure_formulas.specs.Naming.{taken, variable}
use Rattle.floyd_pure_formulas.specs.Rows.{Answer}

-- a list is nil or an item before a list
abbrev pub of_list : Sort → Constructors
of_list s = record { empty = At (Nil s) Done; head = Operator Cons; sorts = s ∷ list_sort s ∷ [] }

-- a tree is a leaf or a node of a tree, an item and a tree
abbrev pub of_tree : Sort → Constructors
of_tree s = record { empty = At (Leaf s) Done; head = Operator Node; sorts = tree_sort s ∷ s ∷ tree_sort s ∷ [] }

-- of lists or trees of these items
abbrev pub of_either : Option Sort → Option Sort → Option Constructors
of_either (Some s) tree = Some (of_list s)
of_either None (Some s) = Some (of_tree s)
of_either None None = None

abbrev pub constructors_of : Sort → Option Constructors
constructors_of sort = of_either (item_sort sort) (node_sort sort)

abbrev pub sort_named : List ℕ → List Binder → Option Sort
sort_named x [] = None
sort_named x (b ∷ variables) = if bytes_eq x b.name then Some b.sort else sort_named x variables

-- these names for variables of these sorts
abbrev pub zipped : List (List ℕ) → List Sort → List Binder
zipped [] sorts = []
zipped (x ∷ names) [] = []
zipped (x ∷ names) (s ∷ sorts) = record { name = x; sort = s } ∷ zipped names sorts

-- there are none where they are not as many
abbrev pub binders : List (List ℕ) → List Sort → Option (List Binder)
binders names sorts = if nat_eq (length names) (length sorts) then Some (zipped names sorts) else None

-- the first new variable whose name a variable of the context has, or an earlier new one
abbrev pub first_taken : List Binder → List Binder → List Binder → Option (List ℕ)
first_taken variables earlier [] = None
first_taken variables earlier (b ∷ new) =
    if has_name b.name variables || has_name b.name earlier then Some b.name else first_taken variables (earlier ++ b ∷ []) new

-- without the variable, and without its name
abbrev pub without : List ℕ → List Binder → List Binder
without x [] = []
without x (b ∷ variables) = if bytes_eq x b.name then without x variables else b ∷ without x variables

abbrev pub names_without : List ℕ → List (List ℕ) → List (List ℕ)
names_without x [] = []
names_without x (y ∷ names) = if bytes_eq x y then names_without x names else y ∷ names_without x names

abbrev pub mark_without : List ℕ → Mark → Mark
mark_without x NoMark = NoMark
mark_without x (Start name) = Start name
mark_without x (Induction name place names) = Induction name place (names_without x names)

-- these variables in place of x, last
abbrev pub exchanged : List ℕ → List Binder → Context → Context
exchanged x new context = record context { variables = without x context.variables ++ new; mark = mark_without x context.mark }

abbrev pub with_exchanged : List ℕ → List Binder → Goal → Goal
with_exchanged x new goal = in_context goal (exchanged x new (context_of goal))

-- the goal with this term, of these variables, in place of x
abbrev pub case_with : Goal → List ℕ → Plain → List Binder → Result Goal No
case_with goal x t new = of_one (with_exchanged x new) (goal_with ((x, t) ∷ []) goal)

abbrev pub as_term : Binder → Plain
as_term b = variable b.name b.sort

abbrev pub built : Constructors → List Binder → Plain
built c new = At c.head (plains (map as_term new))

abbrev pub both_cases : Goal → List ℕ → Constructors → List Binder → Answer
both_cases goal x c new = of_two (λ a b. a ∷ b ∷ []) (case_with goal x c.empty []) (case_with goal x (built c new) new)

abbrev pub unless_taken : Goal → List ℕ → Constructors → List Binder → Option (List ℕ) → Answer
unless_taken goal x c new (Some y) = Err (taken y)
unless_taken goal x c new None = both_cases goal x c new

abbrev pub of_binders : Goal → List ℕ → Constructors → Option (List Binder) → Answer
of_binders goal x c None = Err wrong_names
of_binders goal x c (Some new) = unless_taken goal x c new (first_taken (context_of goal).variables [] new)

abbrev pub of_constructors : Goal → List ℕ → List (List ℕ) → Option Constructors → Answer
of_constructors goal x names None = Err wrong_goal
of_constructors goal x names (Some c) = of_binders goal x c (binders names c.sorts)

-- x is a variable of a list or of a tree; there is a name for each argument of `::` or Node, and each name is new
abbrev pub variable_cases : Goal → Args → Answer
variable_cases goal args =
    of_constructors goal args.name args.names (option_and_then constructors_of (sort_named args.name (context_of goal).variables))
