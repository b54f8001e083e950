use Rattle.std.proofs.Common.{rules, ◌≡◌, []}
use Rattle.floyd_elab.proofs.UnitLemmas.{next_kept, none_left}
use Rattle.floyd_elab.proofs.units.only_declared.Goals as goal

pub mentioned-preserved : goal.mentioned-preserved
mentioned-preserved c =
    next_kept c.args.defined.now c.mentioned.mentioned c.pop.new.self c.in-Some.variable c.in-Some.ensures c.mentioned.only c.keep.new.only _ c.in_ok-keep.ensures c.mentioned.invariant

pub returns : goal.returns
returns c =
    let gone : c.mentioned.mentioned ≡ [] = search rules in
    none_left c.args.defined.now c.mentioned.mentioned c.mentioned.only _ gone c.mentioned.invariant
