use Rattle.std.proofs.Common.{◌-◌, ◌∙◌, ap, sym}
use Rattle.floyd_termread_grammar.specs.TermClauses as r
use Rattle.floyd_termread_grammar.proofs.ReadingLemmas.{front_ok, front_fault}
use Rattle.floyd_termread_grammar.proofs.reading.read_front.Goals as goal

pub returns-in-Ok : goal.returns-in-Ok
returns-in-Ok c = record { exact = front_ok c.args.depth c.args.want c.args.reader.now c.read_nested.new.reader c.in-Ok.read (ap (λ n. r.nested n c.args.want 0 c.args.reader.now) (sym c.room_at.ensures) ∙ c.in-Ok.ensures) }

pub returns-in-Err-Fault : goal.returns-in-Err-Fault
returns-in-Err-Fault c = record { exact = front_fault c.args.depth c.args.want c.args.reader.now c.read_nested.new.reader c.in-Err-Fault.field-0 c.room_at.result c.room_at.ensures c.in-Err-Fault.field-0-is c.in-Err-Fault.ensures }
