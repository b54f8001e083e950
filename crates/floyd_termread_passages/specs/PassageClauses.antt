-- A word of a private clause: why a passage is not read whose judgement stopped so.
use Rattle.floyd_text.specs.declared.place.Place.{Place}
use Rattle.floyd_text.specs.declared.refusal.Halt.{Halt}
use Rattle.floyd_text.specs.declared.refusal.Halt.TheVariants as halt
use Rattle.floyd_termread_wants.specs.declared.stop.JudgeStop.{JudgeStop}
use Rattle.floyd_termread_wants.specs.declared.stop.JudgeStop.TheVariants.{Refused, CutOff, Memory}
use Rattle.floyd_termread_passages.specs.Passages.{End, cut_short}

abbrev pub halt_of : Place → JudgeStop → End → Halt
halt_of place (Refused refusal) end = halt.Refused refusal
halt_of place CutOff end = halt.Refused (cut_short place end)
halt_of place Memory end = halt.Memory
