-- The refusal of a rule, at its command and goal.
use Rattle.std.specs.Prelude.{ℕ}
use Rattle.floyd_text.specs.declared.refusal.Halt.{Halt}
use Rattle.floyd_text.specs.declared.refusal.Halt.TheVariants.{Refused, Memory}
use Rattle.floyd_text.specs.declared.refusal.RuleStop as r
use Rattle.floyd_text.specs.Refusals.{refusal_in}
use Rattle.floyd_script_trees.specs.declared.trees.Command.{Command}

abbrev pub halt_of : Command → ℕ → r.RuleStop → Halt
halt_of c number (r.TheVariants.No why) = Refused (refusal_in c.rule c.place number why)
halt_of c number r.TheVariants.Memory = Memory
