use Rattle.std.proofs.Common.{[]}
use Rattle.floyd_elab_statements.specs.Statements.{loop_test}
use Rattle.floyd_elab_statements.proofs.Steps.{gives_err}
use Rattle.floyd_elab_statements.proofs.Walking.{in_empty, empty_stops, sequenced_stops, sequenced_goes}
use Rattle.floyd_elab_expressions.specs.Behind.{put_behind}
use Rattle.floyd_elab_statements.proofs.statements.test_behind.Goals as goal

pub returns-in_err-loop_test : goal.returns-in_err-loop_test
returns-in_err-loop_test c =
    let h = c.in_err-loop_test.field-0.0 in
    let r = loop_test c.args.names.now c.args.place c.args.condition.now c.args.progress.now in
    record {
      exact = gives_err _ c.from_residual.result h _ c.from_residual.ensures.1
          (sequenced_stops h [] r (empty_stops (λ l. put_behind l r) c.new-behind.result h c.new-behind.ensures c.in_err-loop_test.ensures.exact));
    }

pub returns : goal.returns
returns c =
    let r = loop_test c.args.names.now c.args.place c.args.condition.now c.args.progress.now in
    record {
      exact = sequenced_goes [] c.loop_test.new.out r c.loop_test.new.progress _ (in_empty (λ l. put_behind l r) c.new-behind.result _ c.new-behind.ensures c.in_ok-loop_test.ensures.exact) c.in_ok-one_statement.ensures;
    }
