use Rattle.floyd_termread_scope.specs.Scopes.{env}
use Rattle.floyd_termread_wants.proofs.JudgedLists.{judges_as}
use Rattle.floyd_termread_formulas.proofs.ItemLemmas.{path_some, path_none}
use Rattle.floyd_termread_formulas.proofs.words.path_at.Goals as goal

pub returns-in-Some : goal.returns-in-Some
returns-in-Some c = record { exact = judges_as _ _ _ _ (path_some c.args.number c.args.items.now (env c.args.scope.now c.args.bound.now) c.in-Some.item.now c.in-Some.ensures) c.judge_path.ensures.exact }

pub returns-in-None : goal.returns-in-None
returns-in-None c = record { exact = path_none c.args.number c.args.items.now (env c.args.scope.now c.args.bound.now) c.in-None.ensures }
