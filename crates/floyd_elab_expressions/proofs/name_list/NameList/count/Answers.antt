use Rattle.std.proofs.Common.{ap, ◌∙◌, count_by, bytes_eq}
use Rattle.floyd_elab_expressions.specs.CountClauses.{number_in}
use Rattle.floyd_elab_expressions.proofs.name_list.NameList.count.Goals as goal

pub returns-in-Some : goal.returns-in-Some
returns-in-Some c = ap number_in c.in-Some.ensures.value ∙ c.self.invariant c.args.x.now ∙ ap (count_by (bytes_eq c.args.x.now)) c.self.view_is

pub returns-in-None : goal.returns-in-None
returns-in-None c = ap number_in c.in-None.ensures.value ∙ c.self.invariant c.args.x.now ∙ ap (count_by (bytes_eq c.args.x.now)) c.self.view_is
