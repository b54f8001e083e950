use Rattle.std.proofs.Common.{◌≡◌, take}
use Rattle.floyd_specread_state.proofs.sharing.share_places.Given as goal

abbrev pub invariant-places : goal.invariant-places
invariant-places l = l.all ≡ take l.place-index l.places
