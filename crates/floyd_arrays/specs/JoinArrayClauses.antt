-- Why a term was not written.
use Rattle.floyd_text.specs.declared.refusal.RuleStop.{RuleStop}
use Rattle.floyd_text.specs.declared.refusal.RuleStop.TheVariants as r

-- it was refused: memory did not run out
abbrev pub HasRefused : RuleStop → Type 0
HasRefused (r.No why) = Unit {0}
HasRefused r.Memory = ⊥
