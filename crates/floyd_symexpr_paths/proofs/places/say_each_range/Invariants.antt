use Rattle.std.proofs.Common.{◌≡◌, drop}
use Rattle.floyd_symexpr_rows.specs.Formulas.{saying}
use Rattle.floyd_symexpr_paths.specs.Places.{subscript_ranges}
use Rattle.floyd_symexpr_paths.proofs.places.say_each_range.Given as goal

abbrev pub invariant-numbers : goal.invariant-numbers
invariant-numbers g l = saying l.all (subscript_ranges (drop l.i-index l.numbers)) ≡ saying l.initial.all (subscript_ranges l.numbers)
