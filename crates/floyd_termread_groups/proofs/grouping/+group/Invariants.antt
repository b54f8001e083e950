use Rattle.std.proofs.Common.{◌≡◌, ◌≤◌, ◌+◌, ◌*◌, ◌++◌, max, map, length}
use Rattle.floyd_termread_groups.specs.Groups.{grouped, link, row, parts}
use Rattle.floyd_termread_groups.specs.RowClauses.{step_at}
use Rattle.floyd_termread_groups.specs.HeightClauses.{height, highest, highest_link}
use Rattle.floyd_termread_groups.proofs.grouping.+group.Given as goal

abbrev pub decreases-group : goal.decreases-group
decreases-group l = 40 * height l.tree.now

abbrev pub decreases-group_all : goal.decreases-group_all
decreases-group_all l = 40 * highest l.items.now + 1

abbrev pub decreases-group_row : goal.decreases-group_row
decreases-group_row l = 40 * max (height l.atom.now) (highest_link l.links.now) + 4 * length l.levels.now + 1

abbrev pub decreases-group_operand : goal.decreases-group_operand
decreases-group_operand l = 40 * max (height l.operand.now) (highest_link l.links.now) + 4 * length l.levels.now + 2

abbrev pub decreases-group_link : goal.decreases-group_link
decreases-group_link l = 40 * max (height l.link.now.operand) (highest_link l.behind.now) + 4 * length l.stronger.now + 3

abbrev pub decreases-group_links : goal.decreases-group_links
decreases-group_links l = 40 * highest_link l.links.now + 4 * length l.stronger.now + 4

abbrev pub decreases-group_all-each : goal.decreases-group_all-each
decreases-group_all-each l = length l.rest

abbrev pub invariant-group_all-each : goal.invariant-group_all-each
invariant-group_all-each l = record {
  done : l.all ++ map grouped l.rest ≡ map grouped l.items;
  low : highest l.rest ≤ highest l.items;
}

abbrev pub decreases-group_links-each : goal.decreases-group_links-each
decreases-group_links-each l = length l.rest

abbrev pub invariant-group_links-each : goal.invariant-group_links-each
invariant-group_links-each l = record {
  done : l.all ++ map (link (row l.stronger)) (parts l.strength (map step_at l.rest)) ≡ map (link (row l.stronger)) (parts l.strength (map step_at l.links));
  low : highest_link l.rest ≤ highest_link l.links;
}
