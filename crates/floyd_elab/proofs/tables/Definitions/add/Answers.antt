use Rattle.std.proofs.Common.{rules, ◌≡◌, ◌++◌, ◌∷◌, []}
use Rattle.floyd_elab.specs.TableClauses.{AddsName}
use Rattle.floyd_elab.proofs.TableLemmas.{item_added}
use Rattle.floyd_elab.proofs.tables.Definitions.add.Goals as goal

pub invariant_of-self-2 : goal.invariant_of-self-2
invariant_of-self-2 g c =
    let adds : AddsName c.in_ok-name.name c.self.inside.names.keys c.put.new.names.keys = search rules in
    let is : c.in_ok-name.name ≡ g.T.Define.name_of c.args.item = search rules in
    let all : c.push.new.self ≡ c.self.inside.items ++ c.args.item ∷ [] = search rules in
    item_added g.T.Define.name_of c.self.inside.names.keys c.put.new.names.keys c.self.inside.items c.push.new.self c.args.item c.in_ok-name.name c.self.invariant adds is all
