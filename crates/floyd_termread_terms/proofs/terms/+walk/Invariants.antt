use Rattle.std.proofs.Common.{◌≡◌, ◌≤◌, ◌+◌, ◌*◌, max, map, length}
use Rattle.floyd_termread_scope.specs.Scopes.{env}
use Rattle.floyd_termread_wants.specs.Wants.{nothing_known}
use Rattle.floyd_termread_wants.proofs.JudgedLists.{after}
use Rattle.floyd_termread_terms.specs.Brackets.{parts_of}
use Rattle.floyd_termread_terms.specs.Rows.{row_from}
use Rattle.floyd_termread_terms.specs.Terms.{sense_of, link_of}
use Rattle.floyd_termread_terms.proofs.Heights.{height, highest, highest_link}
use Rattle.floyd_termread_terms.proofs.terms.+walk.Given as goal

abbrev pub decreases-judge_term : goal.decreases-judge_term
decreases-judge_term l = 10 * height l.tree.now

abbrev pub decreases-judge_type : goal.decreases-judge_type
decreases-judge_type l = 10 * height l.tree.now

abbrev pub decreases-judge_part : goal.decreases-judge_part
decreases-judge_part l = 10 * height l.tree.now + 1

abbrev pub decreases-parts : goal.decreases-parts
decreases-parts l = 10 * highest l.items.now + 2

abbrev pub decreases-bracket : goal.decreases-bracket
decreases-bracket l = 10 * highest l.items.now + 3

abbrev pub decreases-rest_of_row : goal.decreases-rest_of_row
decreases-rest_of_row l = 10 * highest_link l.links.now + 1

abbrev pub decreases-row : goal.decreases-row
decreases-row l = 10 * max (height l.first.now) (highest_link l.links.now) + 2

abbrev pub decreases-parts-items : goal.decreases-parts-items
decreases-parts-items l = length l.rest

abbrev pub invariant-parts-items : goal.invariant-parts-items
invariant-parts-items l = record {
  done : after l.all (parts_of (env l.scope l.bound) l.slots (length l.all) l.known (map sense_of l.rest)) ≡ parts_of (env l.scope l.bound) l.slots 0 nothing_known (map sense_of l.items);
  low : highest l.rest ≤ highest l.items;
}

abbrev pub decreases-rest_of_row-links : goal.decreases-rest_of_row-links
decreases-rest_of_row-links l = length l.rest

abbrev pub invariant-rest_of_row-links : goal.invariant-rest_of_row-links
invariant-rest_of_row-links l = record {
  done : row_from (env l.scope l.bound) l.wanted l.row (map link_of l.rest) ≡ row_from (env l.scope l.bound) l.wanted l.fn.so_far (map link_of l.links);
  low : highest_link l.rest ≤ highest_link l.links;
}
