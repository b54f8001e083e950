use Rattle.std.proofs.Common.{sym, ◌∙◌, ap}
use Rattle.floyd_script.specs.ScriptClauses as r
use Rattle.floyd_script.proofs.ReadingLemmas.{read_ok, read_err}
use Rattle.floyd_script.proofs.reading.read_script.Goals as goal

pub returns-in-Ok : goal.returns-in-Ok
returns-in-Ok c =
    let shared = c.in_ok-shared.ensures ∙ c.in_ok-from_slice.ensures in
    let same = ap (λ b. r.script b c.args.tokens.now c.new-reader.result) shared ∙ ap (r.script c.args.bytes.now c.args.tokens.now) c.new-reader.ensures in
    record { exact = read_ok c.args.file c.args.bytes.now c.args.tokens.now c.in-Ok.script c.read_proofs.new.reader (sym same ∙ c.in-Ok.ensures.gives) c.in-Ok.ensures.all }

pub returns-in-Err-Fault : goal.returns-in-Err-Fault
returns-in-Err-Fault c =
    let shared = c.in_ok-shared.ensures ∙ c.in_ok-from_slice.ensures in
    let same = ap (λ b. r.script b c.args.tokens.now c.new-reader.result) shared ∙ ap (r.script c.args.bytes.now c.args.tokens.now) c.new-reader.ensures in
    record {
      exact =
          read_err c.args.file c.args.bytes.now c.args.tokens.now c.in-Err-Fault.fault c.in_ok-refusal-in-Err-Fault.refusal
          (sym same ∙ rw c.in-Err-Fault.field-0-is at c.in-Err-Fault.ensures.gives) c.in_ok-refusal-in-Err-Fault.ensures;
    }
