-- What a call answers, beside what its definition gives. Want of memory is free: no clause ties it to anything.
use Rattle.std.specs.Prelude.{◌≡◌, Result, Ok, Err}
use Rattle.floyd_text.specs.declared.refusal.Refusal.{Refusal}
use Rattle.floyd_text.specs.declared.refusal.Halt.{Halt}
use Rattle.floyd_text.specs.declared.refusal.Halt.TheVariants.{Refused, Memory}
use Rattle.floyd_text.specs.declared.refusal.No.{No}
use Rattle.floyd_text.specs.declared.refusal.RuleStop as r

-- what stopped a call is what the definition refuses, unless memory ran out
abbrev pub Stops : {Y : Type 0} → Halt → Result Y Refusal → Type 0
Stops (Refused refusal) wanted = wanted ≡ Err refusal
Stops Memory wanted = Unit {0}

-- what a call answers, seen by `view`, is what the definition gives, unless memory ran out
abbrev pub Gives : {X Y : Type 0} → (X → Y) → Result X Halt → Result Y Refusal → Type 0
Gives view (Ok x) wanted = wanted ≡ Ok (view x)
Gives view (Err halt) wanted = Stops halt wanted

-- the same of a rule, which has no place of its own
abbrev pub RuleStops : {Y : Type 0} → r.RuleStop → Result Y No → Type 0
RuleStops (r.TheVariants.No refusal) wanted = wanted ≡ Err refusal
RuleStops r.TheVariants.Memory wanted = Unit {0}

abbrev pub RuleGives : {X Y : Type 0} → (X → Y) → Result X r.RuleStop → Result Y No → Type 0
RuleGives view (Ok x) wanted = wanted ≡ Ok (view x)
RuleGives view (Err stop) wanted = RuleStops stop wanted
