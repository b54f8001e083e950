-- How goals are written: lines, each with a line feed at its end.
use Rattle.std.specs.Prelude.{ℕ, ◌+◌, List, [], ◌∷◌, ◌++◌, codes, Option, Some, None}
use Rattle.std.specs.Fmt.{decimal}
use Rattle.floyd_tree.specs.Formulas.{PlainFormula}
use Rattle.floyd_assert_trees.specs.declared.assertion.Assertion.{Assertion}
use Rattle.floyd_assert_trees.specs.declared.assertion.Local.{Local}
use Rattle.floyd_assert_trees.specs.declared.binder.Binder.{Binder}
use Rattle.floyd_assert_trees.specs.declared.sep.Sep.{Sep}
use Rattle.floyd_goal_trees.specs.declared.context.Context.{Context}
use Rattle.floyd_goal_trees.specs.declared.goal.Goal.{Goal}
use Rattle.floyd_goal_trees.specs.declared.goal.Goal.TheVariants.{Run, Entail, Pure}
use Rattle.floyd_clight.specs.Words.{Shown, SetTo, Store, Calls, Branches, Loops, Switches, Breaks, Continues, Returns, Ends, next_word}
use Rattle.floyd_show_terms.specs.Formulas.{formula_text}
use Rattle.floyd_show_terms.specs.Terms.{term_text}
use Rattle.floyd_show_terms.specs.Words.{sort_text}
use Rattle.floyd_show.specs.Parts.{part_text}

abbrev pub line : List ℕ → List ℕ
line text = text ++ 10 ∷ []

-- a formula behind a word
abbrev pub formula_line : List ℕ → PlainFormula → List ℕ
formula_line word f = line (word ++ formula_text f)

-- a variable with its sort, behind the word
abbrev pub binder_line : List ℕ → Binder → List ℕ
binder_line word b = line (word ++ b.name ++ codes ": " ++ sort_text b.sort)

abbrev pub binder_lines : List ℕ → List Binder → List ℕ
binder_lines word [] = []
binder_lines word (b ∷ bs) = binder_line word b ++ binder_lines word bs

abbrev pub hypothesis_line : ℕ → PlainFormula → List ℕ
hypothesis_line k f = line (codes "H" ++ decimal k ++ codes ": " ++ formula_text f)

-- hypotheses, numbered from k on
abbrev pub hypothesis_lines : ℕ → List PlainFormula → List ℕ
hypothesis_lines k [] = []
hypothesis_lines k (f ∷ fs) = hypothesis_line k f ++ hypothesis_lines (k + 1) fs

abbrev pub context_lines : Context → List ℕ
context_lines c = binder_lines (codes "VAR ") c.variables ++ hypothesis_lines 1 c.hypotheses

abbrev pub prop_lines : List PlainFormula → List ℕ
prop_lines [] = []
prop_lines (f ∷ fs) = formula_line (codes "PROP ") f ++ prop_lines fs

-- a temporary with its value
abbrev pub local_line : Local → List ℕ
local_line l = line (codes "LOCAL temp " ++ l.name ++ codes " = " ++ term_text l.term)

abbrev pub local_lines : List Local → List ℕ
local_lines [] = []
local_lines (l ∷ ls) = local_line l ++ local_lines ls

abbrev pub part_line : ℕ → Sep → List ℕ
part_line k p = line (codes "SEP" ++ decimal k ++ codes ": " ++ part_text p)

-- parts, numbered from k on
abbrev pub part_lines : ℕ → List Sep → List ℕ
part_lines k [] = []
part_lines k (p ∷ ps) = part_line k p ++ part_lines (k + 1) ps

abbrev pub assertion_lines : Assertion → List ℕ
assertion_lines a = binder_lines (codes "EX ") a.existentials ++ prop_lines a.props ++ local_lines a.locals ++ part_lines 1 a.parts

-- what a goal says of its next statement
abbrev pub next_text : Shown → List ℕ
next_text (SetTo x) = codes "set " ++ x
next_text Store = codes "store"
next_text Calls = codes "call"
next_text Branches = codes "if"
next_text Loops = codes "loop"
next_text Switches = codes "switch"
next_text Breaks = codes "break"
next_text Continues = codes "continue"
next_text Returns = codes "return"
next_text Ends = codes "end"

abbrev pub goal_lines : Goal → List ℕ
goal_lines (Run r) = context_lines r.context ++ assertion_lines r.source ++ line (codes "NEXT " ++ next_text (next_word r.rest))
goal_lines (Entail e) = context_lines e.context ++ assertion_lines e.source ++ line (codes "GIVES") ++ assertion_lines e.target
goal_lines (Pure p) = context_lines p.context ++ formula_line (codes "GOAL ") p.target

abbrev pub title : ℕ → ℕ → List ℕ
title number left = line (codes "goal " ++ decimal number ++ codes " open " ++ decimal left)

-- the first goal that is left, with its number and the number of goals that are left
abbrev pub goal_text : Option Goal → ℕ → ℕ → List ℕ
goal_text None number left = line (codes "no goal")
goal_text (Some goal) number left = title number left ++ goal_lines goal
