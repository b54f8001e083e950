-- `law` uses a law: its premises are side formulas, and its conclusion is a new hypothesis.
use Rattle.std.specs.Prelude.{◌≡◌, Result, Ok, Err}
use Rattle.floyd_text.specs.declared.refusal.No.{No}
use Rattle.floyd_goal_trees.specs.declared.goal.Goal.{Goal}
use Rattle.floyd_listlaw.specs.declared.instance.Law.{Law}
use Rattle.floyd_listlaw.specs.Instances.{instance}
use Rattle.floyd_pure_formulas.specs.Rows.{Answer, Row, Concludes, WhenNamed}

abbrev pub ByLaw : Goal → Result Law No → Answer → Type 0
ByLaw goal (Err refusal) answer = answer ≡ Err refusal
ByLaw goal (Ok law) answer = Concludes goal law.premises law.conclusion answer

abbrev pub LawRow : Row
LawRow goal args answer = WhenNamed goal (ByLaw goal (instance args.name args.terms)) answer
