use Rattle.std.proofs.Common.{◌≡◌, ◌++◌, ◌∷◌, [], ap, ◌∙◌}
use Rattle.floyd_goal_trees.specs.declared.goal.Goal.TheVariants.{Entail}
use Rattle.floyd_links.specs.Imports.{first_goal, second_goal}
use Rattle.floyd_import_starts.proofs.ImportLemmas.{first_is, second_is}
use Rattle.floyd_import_starts.proofs.starting.starts_from.Goals as goal

pub returns : goal.returns
returns g c =
    let import = c.args.import.now in
    let own = c.args.own.now in
    let terms = c.args.terms.now in
    let frame = c.args.frame.now in
    let first = c.in_ok-first_goal.field-0 in
    let second = c.in_ok-second_goal.field-0 in
    let first_are : first ≡ first_goal import own terms frame =
    c.in_ok-first_goal.ensures ∙ first_is import own terms frame c.in_ok-instance.instance c.in_ok-instance.ensures in
    let second_are : second ≡ second_goal import own terms frame =
    c.in_ok-second_goal.ensures ∙ second_is import own terms frame c.in_ok-instance.instance c.in_ok-instance.ensures in
    c.in_ok-push-2.ensures.ok
    ∙ ap (λ gs. gs ++ Entail second ∷ []) (c.in_ok-push.ensures.ok ∙ ap (λ gs. gs ++ Entail first ∷ []) c.new-goals.ensures)
    ∙ ap (λ a. Entail a ∷ Entail second ∷ []) first_are
    ∙ ap (λ a. Entail (first_goal import own terms frame) ∷ Entail a ∷ []) second_are
