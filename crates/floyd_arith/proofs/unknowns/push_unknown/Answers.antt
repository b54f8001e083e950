use Rattle.std.proofs.Common.{◌≡◌, Some, None, [], ◌∷◌, ◌++◌, sym, ap, ◌∙◌}
use Rattle.std.specs.Prelude.{option_map}
use Rattle.std.proofs.lemmas.Int.{to_z-of_z}
use mir.Syntax.{w128}
use Rattle.floyd_arith.specs.Linear.{times}
use Rattle.floyd_arith.specs.LinearClauses.{small_unknown}
use Rattle.floyd_arith.proofs.UnknownLemmas.{push_is}
use Rattle.floyd_arith.proofs.unknowns.push_unknown.Goals as goal

pub returns-in_default : goal.returns-in_default
returns-in_default c =
    let us = c.args.unknowns.now in
    let u = times c.args.k c.args.u.now in
    let none : small_unknown u ≡ None =
    ap (λ z. small_unknown (times z c.args.u.now)) (sym (to_z-of_z w128 c.args.k c.ranges.k)) ∙ sym c.in_ok-unknown.ensures ∙ c.in_default.is in
    sym (push_is us u c.requires.small c.requires.new ∙ ap (option_map (λ x. us ++ x ∷ [])) none)

pub returns : goal.returns
returns c =
    let us = c.args.unknowns.now in
    let u = times c.args.k c.args.u.now in
    let some : small_unknown u ≡ Some c.in-Some.unknown =
    ap (λ z. small_unknown (times z c.args.u.now)) (sym (to_z-of_z w128 c.args.k c.ranges.k)) ∙ sym c.in_ok-unknown.ensures ∙ c.in-Some.is in
    ap Some c.in_ok-push.ensures.ok ∙ sym (push_is us u c.requires.small c.requires.new ∙ ap (option_map (λ x. us ++ x ∷ [])) some)
