use Rattle.floyd_links.proofs.FunsBare.{funs_bare}
use Rattle.floyd_links.proofs.Having.{rules_keep}
use Rattle.floyd_links.proofs.PredsBare.{preds_bare}
use Rattle.floyd_goal_meaning.specs.Programs.{funs_of}
use Rattle.floyd_links.proofs.laws.links_are_bare.Goals as goal

pub returns : goal.returns
returns c = λ L more place links. record {
  funs = λ name ds o e. funs_bare L.structs (funs_of L) name ds o (rules_keep L links) e;
  preds = λ name ds o e. preds_bare L links name ds o e;
}
