-- What the parts of a substitution answer.
use Rattle.std.specs.Prelude.{◌≡◌, Bool, true, false, Option, Some, None, Result, Ok, Err, List}
use Rattle.floyd_tree.specs.declared.stop.MakeStop.{MakeStop}
use Rattle.floyd_tree.specs.Plain.{Plain, Plains, plains}
use Rattle.floyd_tree.specs.Made.{IsFault, fault, faults}

-- a changed term, where there is something to change
abbrev pub Changes : Result (Option Plain) MakeStop → Bool → Plain → Type 0
Changes (Ok None) occurs should = occurs ≡ false
Changes (Ok (Some t)) occurs should = (occurs ≡ true) × (t ≡ should) × (fault should ≡ None)
Changes (Err stop) occurs should = IsFault stop (fault should)

abbrev pub ChangesAll : Result (Option (List Plain)) MakeStop → Bool → Plains → Type 0
ChangesAll (Ok None) occurs should = occurs ≡ false
ChangesAll (Ok (Some ts)) occurs should = (occurs ≡ true) × (plains ts ≡ should) × (faults should ≡ None)
ChangesAll (Err stop) occurs should = IsFault stop (faults should)
