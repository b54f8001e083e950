use Rattle.std.proofs.Common.{rules, ◌≡◌, []}
use Rattle.floyd_elab.proofs.UnitLemmas.{back_next, back_end}
use Rattle.floyd_elab.proofs.units.put_back.Goals as goal

pub more-preserved : goal.more-preserved
more-preserved c =
    back_next c.more.variables c.push.new.self c.more.more c.pop.new.self _ c.in-Some.variable c.in-Some.ensures c.in_ok-push.ensures.ok c.more.invariant

pub returns : goal.returns
returns c =
    let gone : c.more.more ≡ [] = search rules in
    back_end c.more.variables c.more.more _ gone c.more.invariant
