use Rattle.std.proofs.Common.{◌≡◌, ◌+◌, ◌-◌, ◌≤◌, length, drop}
use Rattle.std.specs.List.{prefix_len}
use Rattle.floyd_text.specs.Place.{is_other}
use Rattle.floyd_check_project.proofs.line.line_end.Given as goal

abbrev pub invariant-line : goal.invariant-line
invariant-line l = record {
  forward : l.at ≤ l.end;
  within : l.end ≤ length l.bytes;
  rest : l.end + prefix_len is_other (drop l.end l.bytes) ≡ l.at + prefix_len is_other (drop l.at l.bytes);
}

abbrev pub decreases-line : goal.decreases-line
decreases-line l = length l.bytes - l.end
