use Rattle.std.proofs.Common.{◌≤◌, ◌-◌, length, take}
use Rattle.floyd_text.specs.Outside.{Appends}
use Rattle.floyd_text.proofs.writing.put_all.Given as goal

-- what stands before `at` was put
abbrev pub invariant-piece : goal.invariant-piece
invariant-piece g l = record {
  within : l.at ≤ length l.text;
  put : Appends (g.K.Sink.written l.fn.out) (g.K.Sink.written l.out) (take l.at l.text);
  later : g.K.Sink.faults l.fn.out ≤ g.K.Sink.faults l.out;
}

abbrev pub decreases-piece : goal.decreases-piece
decreases-piece g l = length l.text - l.at
