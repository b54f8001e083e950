-- What stops a call that makes terms or formulas.
use Rattle.std.specs.Prelude.{◌≡◌, Bool, false, List, map}
use Rattle.std.specs.List.{list_all}
use Rattle.floyd_tree.specs.declared.stop.MakeStop.{MakeStop}
use Rattle.floyd_tree.specs.declared.stop.MakeStop.TheVariants.{IllSorted, TooLarge, Memory}
use Rattle.floyd_tree.specs.Made.{fits}
use Rattle.floyd_tree.specs.Plain.{Plain}
use Rattle.floyd_truth.specs.Capture.{Changes}
use Rattle.floyd_truth.specs.Replace.{replaced}

-- what stopped a call is that not all fit, unless memory ran out
abbrev pub StopsWhere : MakeStop → Bool → Type 0
StopsWhere IllSorted fit = ⊥
StopsWhere TooLarge fit = fit ≡ false
StopsWhere Memory fit = Unit {0}

-- whether all of these terms fit after the changes
abbrev pub fit_after : Changes → List Plain → Bool
fit_after changes ts = list_all fits (map (replaced changes) ts)
