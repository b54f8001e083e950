-- What a call of a rule answers, where its definition says of each answer whether it is right. Want of memory is free: no
-- clause ties it to anything.
use Rattle.std.specs.Prelude.{Result, Ok, Err}
use Rattle.floyd_text.specs.declared.refusal.No.{No}
use Rattle.floyd_text.specs.declared.refusal.RuleStop.{RuleStop}
use Rattle.floyd_text.specs.declared.refusal.RuleStop.TheVariants as r

abbrev pub IsAnswer : {X : Type 0} → (Result X No → Type 0) → Result X RuleStop → Type 0
IsAnswer Right (Ok x) = Right (Ok x)
IsAnswer Right (Err (r.No refusal)) = Right (Err refusal)
IsAnswer Right (Err r.Memory) = Unit {0}
