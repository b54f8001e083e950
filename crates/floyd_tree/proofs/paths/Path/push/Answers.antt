use Rattle.std.proofs.Common.{sym, ◌∙◌, ap, subst, ◌++◌, ◌∷◌, []}
use Rattle.floyd_tree.specs.Paths.{steps_in, AllHold}
use Rattle.floyd_tree.proofs.PathLemmas.{steps_in-push, AllHold-push}
use Rattle.floyd_tree.proofs.paths.Path.push.Goals as goal

pub invariant_of-self-2 : goal.invariant_of-self-2
invariant_of-self-2 c = subst AllHold (sym c.in_ok-push.ensures.ok) (AllHold-push c.self.inside.steps.items c.args.step c.self.invariant)

pub returns-clause-ok : goal.returns-clause-ok
returns-clause-ok c =
    ap steps_in c.in_ok-push.ensures.ok
    ∙ steps_in-push c.self.inside.steps.items c.args.step
    ∙ ap (λ xs. xs ++ c.args.step ∷ []) c.self.view_is
