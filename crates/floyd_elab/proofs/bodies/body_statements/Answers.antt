use Rattle.std.proofs.Common.{◌≡◌, List, Ok, subst}
use Rattle.floyd_cparse_trees.specs.declared.statements.CStatement.{Block}
use Rattle.floyd_clight.specs.declared.syntax.Stmt.{Stmt}
use Rattle.floyd_elab_names.specs.Scopes.{Scopes}
use Rattle.floyd_elab_expressions.specs.Behind.{put_behind}
use Rattle.floyd_elab_statements.specs.Statements.{body as body_lem}
use Rattle.floyd_elab.proofs.BodyLemmas.{behind_none}
use Rattle.floyd_elab.proofs.bodies.body_statements.Goals as goal

pub returns-clause-exact : goal.returns-clause-exact
returns-clause-exact c =
    subst (λ (scopes : Scopes). body_lem c.args.result_type.now scopes (Block c.args.items.now) c.args.progress.now ≡ Ok (c.body.new.out, c.body.new.progress)) c.in_ok-enter.ensures
    (behind_none (body_lem c.args.result_type.now c.enter.new.names (Block c.args.items.now) c.args.progress.now) _
    (subst (λ (out : List Stmt). put_behind out (body_lem c.args.result_type.now c.enter.new.names (Block c.args.items.now) c.args.progress.now) ≡ Ok (c.body.new.out, c.body.new.progress))
    c.new-statements.ensures c.in_ok-body.ensures.exact))
