use Rattle.std.proofs.Common.{sym, ap, ◌∙◌, arith}
use Rattle.floyd_check_project.specs.Project.{bad_project}
use Rattle.floyd_check_project.proofs.Lines.{go_on}
use Rattle.floyd_check_project.proofs.reading.read_project.Goals as goal

-- what is left gives what its first line gives
pub lines-preserved : goal.lines-preserved
lines-preserved c =
    let on = go_on c.lines.at c.line_end-end.result c.args.bytes.now c.lines.expected c.lines.modules _ c.lines-test.true c.line_end-end.ensures.value (rw c.in-Some.is at c.in_ok-next.ensures) in
    record { within = omega arith; rest = sym on ∙ c.lines.invariant.rest }

pub returns-in-None : goal.returns-in-None
returns-in-None c =
    let on = go_on c.lines.at c.line_end-end.result c.args.bytes.now c.lines.expected c.lines.modules _ c.lines-test.true c.line_end-end.ensures.value (rw c.in-None.is at c.in_ok-next.ensures) in
    record { exact = ap (bad_project c.args.bytes.now) (sym c.lines.invariant.rest ∙ on) ∙ c.bad_project.ensures }
