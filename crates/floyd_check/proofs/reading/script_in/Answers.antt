use Rattle.std.proofs.Common.{Err, sym, subst}
use Rattle.std.proofs.lemmas.Result.{err_from_is_err_and}
use Rattle.floyd_lex.specs.declared.kinds.FileKind.TheVariants as kind
use Rattle.floyd_text.specs.declared.refusal.Refusal.{Refusal}
use Rattle.floyd_check_stub.specs.Forms.{IsScript}
use Rattle.floyd_check.specs.FileReading.{ReadsFile}
use Rattle.floyd_check.proofs.Readings.{not_cut, reads_some, reads_none}
use Rattle.floyd_check.proofs.reading.script_in.Goals as goal

pub returns-in_err-list : goal.returns-in_err-list
returns-in_err-list c =
    let p = err_from_is_err_and c.from_residual.result c.from_residual.ensures.1 in
    rw (p.1, p.2) (not_cut IsScript kind.Script 3 c.args.bytes.now c.in_err-list.field-0.0 c.in_err-list.ensures)

pub returns-in-Some : goal.returns-in-Some
returns-in-Some c =
    reads_some IsScript kind.Script 3 c.args.bytes.now c.in_ok-list.list c.in_ok-proof.field-0 c.in-Some.proof c.in_ok-list.ensures c.in_ok-proof.ensures c.in-Some.is

pub returns : goal.returns
returns c =
    subst (λ (r : Refusal). ReadsFile IsScript kind.Script 3 c.args.bytes.now (Err r)) (sym c.not_built.ensures)
    (reads_none IsScript kind.Script 3 c.args.bytes.now c.in_ok-list.list c.in_ok-proof.field-0 c.in_ok-list.ensures c.in_ok-proof.ensures c.in-None.is)
