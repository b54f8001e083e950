use Rattle.floyd_cparse.proofs.SourceLemmas.{reads_all, refuses_all}
use Rattle.floyd_cparse.specs.Source.{tokens_of}
use Rattle.floyd_cparse.proofs.source.parse.Goals as goal

pub returns-in-Ok : goal.returns-in-Ok
returns-in-Ok c = record { exact = reads_all (tokens_of c.args.bytes.now c.args.tokens.now) c.in-Ok.unit c.in-Ok.ensures }

pub returns-in_ok-refusal_of-in-Err-Fault : goal.returns-in_ok-refusal_of-in-Err-Fault
returns-in_ok-refusal_of-in-Err-Fault c = record { exact = (c.in-Err-Fault.fault, refuses_all (tokens_of c.args.bytes.now c.args.tokens.now) c.in-Err-Fault.fault (rw c.in-Err-Fault.field-0-is at c.in-Err-Fault.ensures), c.in_ok-refusal_of-in-Err-Fault.ensures) }
