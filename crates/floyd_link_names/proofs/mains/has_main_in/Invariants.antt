use Rattle.std.proofs.Common.{◌≡◌, length}
use Rattle.std.specs.List.{list_any}
use Rattle.floyd_link_names.specs.Main.{is_main}
use Rattle.floyd_link_names.proofs.mains.has_main_in.Given as goal

abbrev pub decreases-functions : goal.decreases-functions
decreases-functions l = length l.rest

abbrev pub invariant-functions : goal.invariant-functions
invariant-functions l = list_any is_main l.rest ≡ list_any is_main l.functions
