-- `discriminate` closes a goal by a hypothesis that is an equation of unequal literals, or of unequal constructors.
use Rattle.std.specs.Prelude.{◌≡◌, Bool, true, false, not, if◌then◌else◌, [], Ok, Err}
use Rattle.std.specs.Ordering.{int_eq}
use Rattle.floyd_tree_sorts.specs.declared.heads.Head.{Head}
use Rattle.floyd_tree_sorts.specs.declared.heads.Head.TheVariants.{Literal, Nil, Leaf, Operator}
use Rattle.floyd_tree_sorts.specs.declared.operators.Operator.TheVariants.{Cons, Node}
use Rattle.floyd_tree.specs.Formulas.{PlainFormula}
use Rattle.floyd_tree.specs.Plain.{head_of}
use Rattle.floyd_goal_trees.specs.declared.args.Args.{Args}
use Rattle.floyd_goal_formulas.specs.Said.{Saying, Equation, said}
use Rattle.floyd_pure_formulas.specs.Rows.{Answer, Row, OfHypothesis, WhenNamed, no_such}

-- no term with the first head equals one with the second
abbrev pub differ : Head → Head → Bool
differ (Literal m) (Literal n) = not (int_eq m n)
differ (Nil s) (Operator Cons) = true
differ (Operator Cons) (Nil s) = true
differ (Leaf s) (Operator Node) = true
differ (Operator Node) (Leaf s) = true
differ a b = false

abbrev pub is_refuted : Saying → Bool
is_refuted (Equation a b) = differ (head_of a) (head_of b)
is_refuted saying = false

abbrev pub ClosesRefuted : Args → PlainFormula → Answer → Type 0
ClosesRefuted args h answer = answer ≡ (if is_refuted (said h) then Ok [] else Err (no_such args))

abbrev pub DiscriminateRow : Row
DiscriminateRow goal args answer = WhenNamed goal (OfHypothesis goal args (ClosesRefuted args)) answer
