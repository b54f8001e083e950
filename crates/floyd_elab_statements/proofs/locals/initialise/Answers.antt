use Rattle.std.proofs.Common.{◌∙◌}
use Rattle.floyd_elab_expressions.specs.Behind.{put_behind}
use Rattle.floyd_elab_statements.specs.Locals.{initialise}
use Rattle.floyd_elab_statements.specs.LocalClauses.{targets}
use Rattle.floyd_elab_statements.proofs.Steps.{gives_as, appended_none}
use Rattle.floyd_elab_statements.proofs.locals.initialise.Goals as goal

pub returns-in-Some-right : goal.returns-in-Some-right
returns-in-Some-right c =
    let names = c.args.names.now in
    let p = c.args.progress.now in
    let some = c.in-Some.is in
    let right = c.in-Some-right.is in
    record {
      exact = gives_as _ c.assign_first.result _ _ (λ j. put_behind c.args.out.now (initialise names (targets (some j)) (right j) p)) c.assign_first.ensures.exact;
    }

pub returns-in-None-right : goal.returns-in-None-right
returns-in-None-right c =
    let names = c.args.names.now in
    let p = c.args.progress.now in
    let out = c.args.out.now in
    let some = c.in-Some.is in
    let none = c.in-None-right.is in
    record { exact = (λ j. put_behind out (initialise names (targets (some j)) (none j) p)) ∙ appended_none out p }

pub returns-in-None : goal.returns-in-None
returns-in-None c =
    let names = c.args.names.now in
    let p = c.args.progress.now in
    let out = c.args.out.now in
    let none = c.in-None.is in
    record { exact = (λ j. put_behind out (initialise names (targets (none j)) c.args.right.now p)) ∙ appended_none out p }
