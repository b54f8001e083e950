use Rattle.std.proofs.Common.{◌≡◌, ◌≤◌, ◌+◌, ◌*◌, max, map, length}
use Rattle.floyd_termread_scope.specs.Scopes.{env, sort_of}
use Rattle.floyd_termread_wants.specs.Judging.{◌>>=◌}
use Rattle.floyd_termread_terms.proofs.Heights.{height, highest, highest_link}
use Rattle.floyd_termread_forms.specs.FrameClauses.{behind}
use Rattle.floyd_termread_forms.specs.Joining.{joined_sides}
use Rattle.floyd_termread_formulas.specs.Formulas.{reading_of, link_reading, sides_of, joined}
use Rattle.floyd_termread_formulas.proofs.formulas.+walk.Given as goal

abbrev pub decreases-judge_formula : goal.decreases-judge_formula
decreases-judge_formula l = 10 * height l.tree.now

abbrev pub decreases-bracket_formula : goal.decreases-bracket_formula
decreases-bracket_formula l = 10 * highest l.items.now + 2

abbrev pub decreases-parenthesised : goal.decreases-parenthesised
decreases-parenthesised l = 10 * highest l.items.now + 1

abbrev pub decreases-prefixed_formula : goal.decreases-prefixed_formula
decreases-prefixed_formula l = 10 * height l.operand.now + 2

abbrev pub decreases-prefixed : goal.decreases-prefixed
decreases-prefixed l = 10 * height l.operand.now + 1

abbrev pub decreases-row_formula : goal.decreases-row_formula
decreases-row_formula l = 10 * max (height l.first.now) (highest_link l.links.now) + 2

abbrev pub decreases-connective_row : goal.decreases-connective_row
decreases-connective_row l = 10 * max (height l.first.now) (highest_link l.links.now) + 1

abbrev pub decreases-connective_row-links : goal.decreases-connective_row-links
decreases-connective_row-links l = length l.rest

abbrev pub invariant-connective_row-links : goal.invariant-connective_row-links
invariant-connective_row-links l = record {
  kept : sort_of l.bound ≡ sort_of l.fn.bound;
  done : (behind l.sides (sides_of (env l.scope l.fn.bound) (map link_reading l.rest)) >>= joined_sides l.head) ≡ joined l.head (env l.scope l.fn.bound) (reading_of l.first) (map link_reading l.links);
  low : highest_link l.rest ≤ highest_link l.links;
}
