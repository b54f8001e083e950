-- How refusals are made: while files are read and joined, and by a command of a script.
use Rattle.std.specs.Prelude.{ℕ}
use Rattle.floyd_text.specs.declared.code.Code.{Code}
use Rattle.floyd_text.specs.declared.place.Place.{Place}
use Rattle.floyd_text.specs.declared.refusal.No.{No}
use Rattle.floyd_text.specs.declared.refusal.Refusal.{Refusal}
use Rattle.floyd_text.specs.declared.refusal.Shown.{Shown}
use Rattle.floyd_text.specs.declared.rule.Rule.{Rule}
use Rattle.floyd_text.specs.declared.rule.Rule.TheVariants.{Reading}

-- of what is read at that place
abbrev pub refusal_at : Code → Place → Shown → Refusal
refusal_at code place shown = record { code = code; rule = Reading; place = place; goal = 0; shown = shown }

-- of a command at that place, on the goal of that number
abbrev pub refusal_in : Rule → Place → ℕ → No → Refusal
refusal_in rule place goal why = record { code = why.code; rule = rule; place = place; goal = goal; shown = why.shown }
