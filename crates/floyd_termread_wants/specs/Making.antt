-- Terms that are made of terms that were read. What does not fit its place is ill sorted at the place where it begins; what
-- fits and is beyond the limits is too large there.
use Rattle.std.specs.Prelude.{if◌then◌else◌, Ok}
use Rattle.floyd_text.specs.declared.place.Place.{Place}
use Rattle.floyd_tree_sorts.specs.declared.heads.Head.{Head}
use Rattle.floyd_tree_sorts.specs.declared.heads.Head.TheVariants as h
use Rattle.floyd_tree_sorts.specs.declared.operators.Operator.{Operator}
use Rattle.floyd_tree.specs.Plain.{Plain, At, Done, More}
use Rattle.floyd_tree.specs.Made.{fits}
use Rattle.floyd_termread_wants.specs.declared.wants.Wanted.{Wanted}
use Rattle.floyd_termread_wants.specs.Judging.{Judged, refuse}
use Rattle.floyd_termread_wants.specs.Refusals.{ill_sorted, too_large}
use Rattle.floyd_termread_wants.specs.Wants.{takes}

-- a term that was read, in a phrase that begins here
abbrev pub taken : Wanted → Place → Plain → Judged Plain
taken wanted place t = if takes wanted t then Ok t else refuse (ill_sorted place)

-- a term that is made of terms that were read
abbrev pub placed : Wanted → Place → Plain → Judged Plain
placed wanted place t =
    if takes wanted t then (if fits t then Ok t else refuse (too_large place)) else refuse (ill_sorted place)

abbrev pub leaf : Head → Plain
leaf head = At head Done

abbrev pub two : Operator → Plain → Plain → Plain
two operator a b = At (h.Operator operator) (More a (More b Done))
