use Rattle.std.proofs.Common.{rules, ◌≡◌, ◌+◌, [], ◌∷◌, ◌++◌, sym, subst, count_by, bytes_eq}
use Rattle.floyd_elab_expressions.specs.CountClauses.{AreCounted, PutsCount}
use Rattle.floyd_elab_expressions.proofs.Counts.{one_counted}
use Rattle.floyd_elab_expressions.proofs.name_list.NameList.add.Goals as goal

pub invariant_of-self-2 : goal.invariant_of-self-2
invariant_of-self-2 c =
    let puts : PutsCount c.self.inside.counts.entries c.args.x.now c.in-Some.count c.put.new.counts.entries = search rules in
    let is : c.in-Some.count ≡ count_by (bytes_eq c.args.x.now) c.self.inside.names + 1 = search rules in
    let names : c.push.new.self ≡ c.self.inside.names ++ c.args.x.now ∷ [] = search rules in
    subst (AreCounted c.put.new.counts.entries) (sym names) (one_counted c.self.inside.counts.entries c.put.new.counts.entries c.self.inside.names c.args.x.now c.in-Some.count c.self.invariant puts is)
