use Rattle.std.proofs.Common.{◌≡◌, ◌+◌, None, ◌∷◌, map, drop, to_z, of_z, sym, ap, ◌∙◌}
use Rattle.std.proofs.lemmas.Int.{to_z-of_z}
use mir.Syntax.{w128}
use Rattle.floyd_arith.specs.Linear.{times, with_unknown, with_unknowns}
use Rattle.floyd_arith.specs.LinearClauses.{kept, small_unknowns}
use Rattle.floyd_arith.proofs.UnknownLemmas.{spoils, drop_is}
use Rattle.floyd_arith.proofs.unknowns.add_unknowns.Goals as goal

pub returns-then-not-branch : goal.returns-then-not-branch
returns-then-not-branch c =
    let us = c.args.unknowns.now in
    let all = c.args.more.now in
    let i = c.more.unknown-index in
    let u = c.unknown-item.result in
    let k = to_z w128 (of_z w128 c.args.k) in
    let k_is : k ≡ c.args.k = to_z-of_z w128 c.args.k c.ranges.k in
    let here : drop i all ≡ u ∷ drop (i + 1) all = drop_is all i u c.more-test.true c.unknown-item.is in
    let none : small_unknowns (with_unknown c.more.unknowns (times k u)) ≡ None =
    sym c.in_ok-add_unknown.ensures ∙ ap (λ b. kept b c.add_unknown.new.unknowns) c.if-not-branch.true in
    sym (spoils c.more.unknowns (drop i all) (with_unknowns us (map (times k) all)) k u (drop (i + 1) all) here c.more.invariant.sum c.more.invariant.small c.more.invariant.apart none)
    ∙ ap (λ z. small_unknowns (with_unknowns us (map (times z) all))) k_is
