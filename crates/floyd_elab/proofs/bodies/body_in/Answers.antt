use Rattle.std.proofs.Common.{sym, ◌∙◌}
use Rattle.floyd_cparse_trees.specs.declared.statements.CStatement.{Block}
use Rattle.floyd_elab.proofs.BodyLemmas.{one_again, scope_again, body_is, body_stops}
use Rattle.floyd_elab.proofs.FollowLemmas.{stopped_by}
use Rattle.floyd_elab.proofs.bodies.body_in.Goals as goal

pub returns-in_err-done-clause-exact : goal.returns-in_err-done-clause-exact
returns-in_err-done-clause-exact c =
    stopped_by c.from_residual-in_err-done.result c.in_err-done.field-0.0 _ _ c.from_residual-in_err-done.ensures.1
    (body_stops c.args.result_type.now c.args.parameters.now (Block c.args.items.now) c.args.file.now c.take_names.new.self c.in_ok-names.names c.take_tags-tags.result
    c.in_ok-names.ensures.names c.in_ok-names.ensures.file c.take_tags-tags.ensures.tags c.in_err-done.field-0.0 c.in_err-done.ensures.exact)

pub of-requires : goal.of-requires
of-requires c = one_again c.in_ok-names.names c.body_of.new.names c.args.file.now.scope c.in_ok-names.ensures.names c.in_ok-done.ensures.scopes

pub returns-clause-exact : goal.returns-clause-exact
returns-clause-exact c =
    sym (body_is c.args.result_type.now c.args.parameters.now (Block c.args.items.now) c.args.file.now c.take_names.new.self c.in_ok-names.names c.take_tags-tags.result
    c.in_ok-names.ensures.names c.in_ok-names.ensures.file c.take_tags-tags.ensures.tags)
    ∙ c.in_ok-done.ensures.exact

pub returns-clause-file : goal.returns-clause-file
returns-clause-file c =
    scope_again c.args.file.now c.take_names.new.self c.take_tags-tags.new.self c.in_ok-names.names c.body_of.new.names c.in_ok-names.ensures.names c.in_ok-done.ensures.scopes
    c.of.result c.in_ok-names.ensures.file c.take_tags-tags.ensures.file c.of.ensures
