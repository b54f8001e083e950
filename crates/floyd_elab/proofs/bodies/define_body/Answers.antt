use Rattle.floyd_cparse_trees.specs.declared.statements.CStatement.{Block}
use Rattle.floyd_elab.proofs.BodyLemmas.{bodied_stops, bodied_gives}
use Rattle.floyd_elab.proofs.FollowLemmas.{stopped_with}
use Rattle.floyd_elab.proofs.bodies.define_body.Goals as goal

pub returns-in_err-done : goal.returns-in_err-done
returns-in_err-done c =
    stopped_with c.from_residual.result c.in_err-done.field-0.0 _ _ _ c.from_residual.ensures.1
    (bodied_stops c.args.i c.args.result_type c.args.parameters c.as_slice.result.now c.as_slice.ensures (Block c.args.items.now) c.args.file.now c.in_err-done.field-0.0 c.in_err-done.ensures.exact)

pub returns : goal.returns
returns c =
    bodied_gives c.args.i c.args.result_type c.args.parameters c.as_slice.result.now c.as_slice.ensures (Block c.args.items.now) c.args.file.now
    c.in_ok-done.done.0 c.in_ok-done.done.1 c.body_in.new.file c.define.new.file c.in_ok-done.ensures.exact c.in_ok-done.ensures.file c.in_ok-define.ensures
