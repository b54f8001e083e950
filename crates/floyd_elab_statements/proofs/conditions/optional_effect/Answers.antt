use Rattle.std.proofs.Common.{ap, ◌∙◌}
use Rattle.floyd_elab_expressions.specs.Behind.{put_behind}
use Rattle.floyd_elab_statements.specs.Statements.{optional_effect}
use Rattle.floyd_elab_statements.proofs.Steps.{gives_as, appended_none}
use Rattle.floyd_elab_statements.proofs.conditions.optional_effect.Goals as goal

pub returns-in-Some : goal.returns-in-Some
returns-in-Some c =
    record {
      exact = gives_as _ c.effect.result _ _ (ap (λ e. put_behind c.args.out.now (optional_effect c.args.names.now e c.args.progress.now)) c.in-Some.is) c.effect.ensures.exact;
    }

pub returns-in-None : goal.returns-in-None
returns-in-None c =
    let out = c.args.out.now in
    let p = c.args.progress.now in
    record { exact = ap (λ e. put_behind out (optional_effect c.args.names.now e p)) c.in-None.is ∙ appended_none out p }
