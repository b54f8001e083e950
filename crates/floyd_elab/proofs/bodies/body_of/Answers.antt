use Rattle.std.proofs.Common.{◌≡◌, ◌∷◌, Ok, subst}
use Rattle.floyd_text.specs.Gives.{Stops}
use Rattle.floyd_cparse_trees.specs.declared.statements.CStatement.{Block}
use Rattle.floyd_elab_statements.specs.Statements.{body as body_lem}
use Rattle.floyd_elab_expressions.specs.declared.progress.Progress.{Progress}
use Rattle.floyd_elab.specs.Units.{parameter_scope}
use Rattle.floyd_elab.proofs.FollowLemmas.{stopped_by}
use Rattle.floyd_elab.proofs.bodies.body_of.Goals as goal

pub returns-in_err-statements-clause-exact : goal.returns-in_err-statements-clause-exact
returns-in_err-statements-clause-exact c =
    stopped_by c.from_residual-in_err-statements.result c.in_err-statements.field-0.0 _ _ c.from_residual-in_err-statements.ensures.1
    (subst (λ (p : Progress). Stops c.in_err-statements.field-0.0 (body_lem c.args.result_type.now (parameter_scope c.args.parameters.now ∷ c.args.names.now) (Block c.args.items.now) p))
    c.in_ok-progress.ensures c.in_err-statements.ensures.exact)

pub returns-clause-exact : goal.returns-clause-exact
returns-clause-exact c =
    subst (λ (p : Progress). body_lem c.args.result_type.now (parameter_scope c.args.parameters.now ∷ c.args.names.now) (Block c.args.items.now) p ≡ Ok (c.in_ok-statements.statements, c.body_statements.new.progress))
    c.in_ok-progress.ensures c.in_ok-statements.ensures.exact
