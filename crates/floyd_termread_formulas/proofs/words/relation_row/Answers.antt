use Rattle.std.proofs.Common.{◌≡◌, length, arith}
use Rattle.floyd_termread_scope.specs.Scopes.{env}
use Rattle.floyd_termread_wants.proofs.JudgedLists.{judges_as}
use Rattle.floyd_termread_formulas.proofs.ItemLemmas.{one_item, row_is}
use Rattle.floyd_termread_formulas.proofs.words.relation_row.Goals as goal

pub returns-in-len1 : goal.returns-in-len1
returns-in-len1 c =
    let one : length c.args.links.now ≡ 1 = omega (arith, c.in-len1.len_at_least, c.in-len1.len_below) in
    record {
      exact = judges_as _ _ _ _ (row_is (env c.args.scope.now c.args.bound.now) c.args.first.now c.args.links.now c.link-item.result (one_item c.args.links.now c.link-item.result one c.link-item.is)) c.relation.ensures.exact;
    }
