use Rattle.std.proofs.Common.{ℕ, subst, ◌∙◌}
use Rattle.floyd_goal_trees.specs.declared.args.Args.{Args}
use Rattle.floyd_termread_scope.specs.Scopes.{Env, sort_of}
use Rattle.floyd_termread_phrases.specs.Reads.{Answers}
use Rattle.floyd_play_reading.specs.Arguments as reading
use Rattle.floyd_play_reading.specs.Names.{local_names}
use Rattle.floyd_play_reading.proofs.ReadingLemmas.{env_as}
use Rattle.floyd_play_reading.proofs.arguments.spoken_at.Goals as goal

pub returns-clause-exact : goal.returns-clause-exact
returns-clause-exact c =
    subst (λ (e : Env). Answers (λ (x : Args × ℕ). x) (reading.shaped c.args.text.bytes.now c.args.text.tokens.now c.args.around.defs.now c.args.around.specs.now e c.args.around.goal.now c.args.around.rule c.args.shape c.args.at) c.shaped_at.result)
    (c.scope_of-scope.ensures ∙ env_as c.args.around.goal.now c.args.around.defs.now c.args.around.specs.now (sort_of c.in_ok-variables.variables) c.in_ok-locals.locals (local_names c.args.around.local_blocks.now) (rw (c.as_slice.ensures, c.get.ensures, c.context_of.ensures) at c.in_ok-variables.ensures) c.in_ok-locals.ensures)
    c.shaped_at.ensures.exact
