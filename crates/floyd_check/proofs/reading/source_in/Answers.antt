use Rattle.std.proofs.Common.{List, Option, Err, sym, subst}
use Rattle.std.proofs.lemmas.Result.{err_from_is_err_and}
use Rattle.floyd_text.specs.declared.refusal.Refusal.{Refusal}
use Rattle.floyd_clight.specs.declared.syntax.Stmt.{Stmt}
use Rattle.floyd_check.specs.FileReading.{ReadsSource, built}
use Rattle.floyd_check.proofs.Readings.{source_not_cut, source_not_read, source_not_elaborated, source_judged}
use Rattle.floyd_check.proofs.reading.source_in.Goals as goal

pub returns-in_err-list : goal.returns-in_err-list
returns-in_err-list c =
    let p = err_from_is_err_and c.from_residual.result c.from_residual.ensures.1 in
    rw (p.1, p.2) (source_not_cut c.args.bytes.now c.in_err-list.field-0.0 c.in_err-list.ensures)

pub returns-in_err-tree : goal.returns-in_err-tree
returns-in_err-tree c =
    let p = err_from_is_err_and c.from_residual-in_err-tree.result c.from_residual-in_err-tree.ensures.1 in
    rw (p.1, p.2) (source_not_read c.args.bytes.now c.in_ok-list.list c.in_ok-list.ensures c.in_err-tree.field-0.0 c.in_err-tree.ensures.exact)

pub returns-in_err-unit : goal.returns-in_err-unit
returns-in_err-unit c =
    let p = err_from_is_err_and c.from_residual-in_err-unit.result c.from_residual-in_err-unit.ensures.1 in
    rw (p.1, p.2) (source_not_elaborated c.args.bytes.now c.in_ok-list.list c.in_ok-list.ensures c.in_ok-tree.tree c.in_ok-tree.ensures.exact c.in_err-unit.field-0.0 c.in_err-unit.ensures.exact)

pub returns-in-Some : goal.returns-in-Some
returns-in-Some c =
    subst (λ (o : Option (List Stmt)). ReadsSource c.args.bytes.now (built o)) c.in-Some.is
    (source_judged c.args.bytes.now c.in_ok-list.list c.in_ok-list.ensures c.in_ok-tree.tree c.in_ok-tree.ensures.exact c.in_ok-unit.unit c.in_ok-statements.field-0
    c.in_ok-unit.ensures.exact c.in_ok-statements.ensures)

pub returns : goal.returns
returns c =
    subst (λ (r : Refusal). ReadsSource c.args.bytes.now (Err r)) (sym c.not_built.ensures)
    (subst (λ (o : Option (List Stmt)). ReadsSource c.args.bytes.now (built o)) c.in-None.is
    (source_judged c.args.bytes.now c.in_ok-list.list c.in_ok-list.ensures c.in_ok-tree.tree c.in_ok-tree.ensures.exact c.in_ok-unit.unit c.in_ok-statements.field-0
    c.in_ok-unit.ensures.exact c.in_ok-statements.ensures))
