use Rattle.std.proofs.Common.{[]}
use Rattle.floyd_elab_statements.specs.Statements.{optional_effect}
use Rattle.floyd_elab_statements.proofs.Steps.{gives_err}
use Rattle.floyd_elab_statements.proofs.Walking.{in_empty, empty_stops, sequenced_stops, sequenced_goes}
use Rattle.floyd_elab_expressions.specs.Behind.{put_behind}
use Rattle.floyd_elab_statements.proofs.statements.effect_behind.Goals as goal

pub returns-in_err-optional_effect : goal.returns-in_err-optional_effect
returns-in_err-optional_effect c =
    let h = c.in_err-optional_effect.field-0.0 in
    let r = optional_effect c.args.names.now c.args.e.now c.args.progress.now in
    record {
      exact = gives_err _ c.from_residual.result h _ c.from_residual.ensures.1
          (sequenced_stops h [] r (empty_stops (λ l. put_behind l r) c.new-behind.result h c.new-behind.ensures c.in_err-optional_effect.ensures.exact));
    }

pub returns : goal.returns
returns c =
    let r = optional_effect c.args.names.now c.args.e.now c.args.progress.now in
    record {
      exact = sequenced_goes [] c.optional_effect.new.out r c.optional_effect.new.progress _ (in_empty (λ l. put_behind l r) c.new-behind.result _ c.new-behind.ensures c.in_ok-optional_effect.ensures.exact) c.in_ok-one_statement.ensures;
    }
