use Rattle.std.proofs.Common.{subst, sym}
use Rattle.std.proofs.lemmas.Result.{err_from_is_err_and}
use Rattle.floyd_text.specs.Gives.{Gives}
use Rattle.floyd_elab_expressions.specs.Behind.{behind}
use Rattle.floyd_elab_expressions.specs.Expressions.{rvalue}
use Rattle.floyd_elab_effects.proofs.Leading.{updated_goes, updated_stops, updated_stops_later}
use Rattle.floyd_elab_effects.proofs.effects.update.Goals as goal

pub returns-in_err-a : goal.returns-in_err-a
returns-in_err-a c =
    let r = err_from_is_err_and c.from_residual.result c.from_residual.ensures.1 in
    record { exact = rw (r.1, r.2) (updated_stops c.args.operation.op c.args.operation.to.place (behind c.args.out.now c.args.operation.to.target.now) (rvalue c.args.names.now c.args.r.now) c.args.progress.now c.in_err-a.field-0.0 c.in_err-a.ensures.exact) }

pub returns-in_err-b : goal.returns-in_err-b
returns-in_err-b c =
    let r = err_from_is_err_and c.from_residual-in_err-b.result c.from_residual-in_err-b.ensures.1 in
    record { exact = rw (r.1, r.2) (updated_stops_later c.args.operation.op c.args.operation.to.place (behind c.args.out.now c.args.operation.to.target.now) (behind c.read.new.out c.in_ok-a.a) (rvalue c.args.names.now c.args.r.now) c.args.progress.now c.read.new.progress c.in_err-b.field-0.0 c.in_ok-a.ensures.exact c.in_err-b.ensures.exact) }

pub returns : goal.returns
returns c =
    let value = rvalue c.args.names.now c.args.r.now in
    record {
      exact = subst (Gives _ c.send_operation.result)
          (sym (updated_goes c.args.operation.op c.args.operation.to.place (behind c.args.out.now c.args.operation.to.target.now) (behind c.read.new.out c.in_ok-a.a) (behind c.rvalue.new.out c.in_ok-b.b) value c.args.progress.now c.read.new.progress c.rvalue.new.progress
          c.in_ok-a.ensures.exact
          c.in_ok-b.ensures.exact))
          c.send_operation.ensures.exact;
    }
