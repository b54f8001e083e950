-- How a law that cannot be made is refused.
use Rattle.floyd_text.specs.declared.refusal.RuleStop.{RuleStop}
use Rattle.floyd_text.specs.declared.refusal.RuleStop.TheVariants as r
use Rattle.floyd_text.specs.declared.refusal.Shown.TheVariants.{Nothing}
use Rattle.floyd_tree.specs.declared.stop.MakeStop.{MakeStop}
use Rattle.floyd_tree.specs.declared.stop.MakeStop.TheVariants.{IllSorted, TooLarge, Memory}
use Rattle.floyd_listlaw.specs.Instances.{stop_code}

abbrev of_code : MakeStop → RuleStop
of_code stop = r.No (record { code = stop_code stop; shown = Nothing })

abbrev pub refusal : MakeStop → RuleStop
refusal IllSorted = of_code IllSorted
refusal TooLarge = of_code TooLarge
refusal Memory = r.Memory
