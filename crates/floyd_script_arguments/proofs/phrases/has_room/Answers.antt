use Rattle.std.proofs.Common.{sym, ap}
use Rattle.floyd_script_arguments.specs.ArgumentClauses as r
use Rattle.floyd_script_arguments.proofs.RoomLemmas.{room_some}
use Rattle.floyd_script_arguments.proofs.phrases.has_room.Goals as goal

pub returns-then-room-eq0 : goal.returns-then-room-eq0
returns-then-room-eq0 c = sym (ap r.has_room c.if-room-eq0.true)

pub returns : goal.returns
returns c = sym (room_some c.args.room c.if-room-eq0.false)
