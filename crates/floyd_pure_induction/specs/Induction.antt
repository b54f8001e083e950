-- `induction x (y; z)` goes through the cases of a variable at the start of a lemma's proof, and gives the lemma for the
-- parts of what the variable stood for.
use Rattle.std.specs.Prelude.{◌≡◌, ◌<◌, ◌^◌, ℕ, List, [], ◌∷◌, length, map, position, bytes_eq, Ok, Err}
use Rattle.std.specs.Option.{unwrap_or}
use Rattle.floyd_text.specs.declared.code.Code.TheVariants as c
use Rattle.floyd_text.specs.declared.refusal.No.{No}
use Rattle.floyd_assert_trees.specs.declared.binder.Binder.{Binder}
use Rattle.floyd_goal_trees.specs.declared.args.Args.{Args}
use Rattle.floyd_goal_trees.specs.declared.context.Mark.{Mark}
use Rattle.floyd_goal_trees.specs.declared.context.Mark.TheVariants as m
use Rattle.floyd_goal_trees.specs.declared.goal.Goal.{Goal}
use Rattle.floyd_goal.specs.Goals.{in_context, refusal}
use Rattle.floyd_goal.specs.Sides.{context_of}
use Rattle.floyd_pure_formulas.specs.Destruct.{DestructRow}
use Rattle.floyd_pure_formulas.specs.Rows.{Answer, Row, WhenNamed}

-- it is not the first command of a lemma
abbrev pub not_first : No
not_first = refusal c.NotFirst

-- the place of a variable among those of WITH, from 0: at the start these are the variables of the goal
abbrev pub place_of : List ℕ → List Binder → ℕ
place_of x variables = unwrap_or (position (bytes_eq x) (map (λ (b : Binder). b.name) variables)) 0

-- the sublist, of the names of an item and a list, and the subtrees, of those of a tree, an item and a tree
abbrev pub parts_among : List (List ℕ) → List (List ℕ)
parts_among (item ∷ rest ∷ []) = rest ∷ []
parts_among (left ∷ item ∷ right ∷ []) = left ∷ right ∷ []
parts_among names = []

abbrev pub with_mark : Mark → Goal → Goal
with_mark mark goal = in_context goal (record (context_of goal) { mark = mark })

-- the goal for `nil` or Leaf, where there are no parts, and the one for `::` or Node
abbrev pub marked : List ℕ → ℕ → List (List ℕ) → Answer → Answer
marked lemma place parts (Err why) = Err why
marked lemma place parts (Ok (a ∷ b ∷ [])) = Ok (with_mark (m.Induction lemma place []) a ∷ with_mark (m.Induction lemma place parts) b ∷ [])
marked lemma place parts (Ok goals) = Ok goals

-- at the start of that lemma's proof, as `destruct`
abbrev pub OfLemma : Goal → Args → List ℕ → Answer → Type 0
OfLemma goal args lemma answer =
    (made : Answer) × DestructRow goal args made × (answer ≡ marked lemma (place_of args.name (context_of goal).variables) (parts_among args.names) made)

abbrev pub OfMark : Goal → Args → Mark → Answer → Type 0
OfMark goal args m.Plain answer = answer ≡ Err not_first
OfMark goal args (m.Start lemma) answer = OfLemma goal args lemma answer
OfMark goal args (m.Induction lemma place names) answer = answer ≡ Err not_first

abbrev pub InductionRow : Row
InductionRow goal args answer = WhenNamed goal (OfMark goal args (context_of goal).mark) answer

-- the variables of the goal can be numbered
abbrev pub AreFew : Goal → Type 0
AreFew goal = length (context_of goal).variables < 2 ^ 32
