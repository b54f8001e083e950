use Rattle.std.proofs.Common.{◌≡◌, false, sym, ◌∙◌}
use Rattle.floyd_elab_names.specs.Types.{is_void}
use Rattle.floyd_elab_expressions.specs.Behind.{behind}
use Rattle.floyd_elab_statements.proofs.Steps.{gives_as, gives_err}
use Rattle.floyd_elab_statements.proofs.ConditionLemmas.{return_stops, return_read}
use Rattle.floyd_elab_statements.proofs.returns.return_value.Goals as goal

pub returns-in_err-a : goal.returns-in_err-a
returns-in_err-a c =
    let h = c.in_err-a.field-0.0 in
    let some : is_void c.args.function.result_type.now ≡ false = sym c.is_void.ensures ∙ c.if-is_void.false in
    record {
      exact = gives_err _ c.from_residual.result h _ c.from_residual.ensures.1
          (return_stops c.args.names.now c.args.function.result_type.now c.args.place c.args.e.now c.args.out.now c.args.progress.now some h c.in_err-a.ensures.exact);
    }

pub returns : goal.returns
returns c =
    let some : is_void c.args.function.result_type.now ≡ false = sym c.is_void.ensures ∙ c.if-is_void.false in
    let q = c.right_side.new.progress in
    let out = c.right_side.new.out in
    let a = c.in_ok-a.a in
    record {
      exact = gives_as _ c.send_back.result _ _
          (return_read c.args.names.now c.args.function.result_type.now c.args.place c.args.e.now c.args.out.now c.args.progress.now some (behind out a) q
          c.in_ok-a.ensures.exact)
          (c.send_back.ensures.exact q);
    }
