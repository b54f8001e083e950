use Rattle.floyd_assert_meaning.proofs.AlikeLaws.{alike_holds, alike_parts}
use Rattle.floyd_assert_laws.proofs.Replaced.{assertion_changed, parts_changed}
use Rattle.std.proofs.Common.{map}
use Rattle.floyd_truth.specs.Replace.{puts}
use Rattle.floyd_assert_changes.specs.Changed.{assertion_after, part_after}
use Rattle.floyd_assert_laws.proofs.laws.hold_in_changed.Goals as goal

pub returns-clause-parts : goal.returns-clause-parts
returns-clause-parts c = λ S env by variables ps h s k a. alike_parts S env env.variables variables (map (part_after (puts by)) ps) ps h (parts_changed S env by variables k ps s a)

pub returns-clause-assertions : goal.returns-clause-assertions
returns-clause-assertions c = λ S env by variables a temps h s l k g. alike_holds S env env.variables variables (assertion_after (puts by) a) a (assertion_changed S env by variables k a s l g) temps h
