use Rattle.std.proofs.Common.{length, ◌+◌, ◌-◌, ◌≡◌, ◌≤◌, []}
use Rattle.floyd_check_project.specs.declared.draft.Expected.TheVariants.{AModule}
use Rattle.floyd_check_project.specs.Lines.{lines_from}
use Rattle.floyd_check_project.specs.Project.{read_lines}
use Rattle.floyd_check_project.proofs.Lines.{lines_left}
use Rattle.floyd_check_project.proofs.reading.read_project.Given as goal

-- what is left, read from here on, gives what the whole gives
abbrev pub invariant-lines : goal.invariant-lines
invariant-lines l = record {
  within : l.at ≤ length l.bytes + 1;
  rest : read_lines (length l.bytes) (lines_left l.at l.bytes) l.expected l.modules ≡ read_lines (length l.bytes) (lines_from 0 l.bytes) AModule [];
}

abbrev pub decreases-lines : goal.decreases-lines
decreases-lines l = length l.bytes + 1 - l.at
