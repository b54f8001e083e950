use Rattle.std.proofs.Common.{◌≡◌, map, take}
use Rattle.floyd_termread_brackets.specs.Slots.{argument_slot}
use Rattle.floyd_termread_brackets.proofs.slots.argument_slots.Given as goal

abbrev pub invariant-arguments : goal.invariant-arguments
invariant-arguments l = l.first ≡ map argument_slot (take l.argument-index l.arguments)
