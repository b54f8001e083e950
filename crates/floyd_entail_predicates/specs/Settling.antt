-- The goal from a source that a row has written.
use Rattle.std.specs.Prelude.{List, [], ◌++◌, if◌then◌else◌}
use Rattle.floyd_tree.specs.Formulas.{PlainFormula}
use Rattle.floyd_assert_trees.specs.declared.assertion.Assertion.{Assertion}
use Rattle.floyd_goal_trees.specs.declared.goal.Goal.{Goal}
use Rattle.floyd_goal.specs.Goals.{enriched, some_left}
use Rattle.floyd_goal.specs.Sides.{context_of}
use Rattle.floyd_goal_parts.specs.Sources.{from_source}

abbrev pub without_props : Assertion → Assertion
without_props source = record source { props = [] }

-- Behind a command, with these hypotheses more. The PROP of a source without existentials is among the hypotheses, behind
-- them.
abbrev pub settled : Goal → List PlainFormula → Assertion → Goal
settled goal kept source =
    if some_left source.existentials then from_source goal (enriched (context_of goal) kept) source
    else from_source goal (enriched (context_of goal) (kept ++ source.props)) (without_props source)
