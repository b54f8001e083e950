use Rattle.std.proofs.Common.{◌≡◌, Some, None, get_or, set, sym, ap, ◌∙◌}
use Rattle.std.specs.Prelude.{option_map}
use Rattle.std.proofs.lemmas.Int.{to_z-of_z}
use mir.Syntax.{w128}
use Rattle.floyd_arith.specs.Linear.{times, more}
use Rattle.floyd_arith.specs.LinearClauses.{small_unknown}
use Rattle.floyd_arith.proofs.UnknownLemmas.{small_at, set_is}
use Rattle.floyd_arith.proofs.unknowns.add_at.Goals as goal

pub total-requires : goal.total-requires
total-requires c =
    let own = c.index-as_slice-i.result in
    let small = small_at c.args.unknowns.now c.args.i own c.requires.within c.requires.small in
    let same : get_or c.args.unknowns.now c.args.i own ≡ own = cc in
    rw same at small

pub returns-in_default : goal.returns-in_default
returns-in_default c =
    let us = c.args.unknowns.now in
    let u = times c.args.k c.args.u.now in
    let own = c.index-as_slice-i.result in
    let same : get_or us c.args.i own ≡ own = cc in
    let none : small_unknown (more u.coefficient (get_or us c.args.i own)) ≡ None =
    ap (λ v. small_unknown (more u.coefficient v)) same ∙ ap (λ z. small_unknown (more (times z c.args.u.now).coefficient own)) (sym (to_z-of_z w128 c.args.k c.ranges.k)) ∙ sym c.in_ok-unknown.ensures ∙ c.in_default.is in
    sym (set_is us u own c.args.i c.requires.small c.requires.there c.requires.within ∙ ap (option_map (λ x. set us c.args.i x)) none)

pub returns : goal.returns
returns c =
    let us = c.args.unknowns.now in
    let u = times c.args.k c.args.u.now in
    let own = c.index-as_slice-i.result in
    let same : get_or us c.args.i own ≡ own = cc in
    let some : small_unknown (more u.coefficient (get_or us c.args.i own)) ≡ Some c.in-Some.unknown =
    ap (λ v. small_unknown (more u.coefficient v)) same ∙ ap (λ z. small_unknown (more (times z c.args.u.now).coefficient own)) (sym (to_z-of_z w128 c.args.k c.ranges.k)) ∙ sym c.in_ok-unknown.ensures ∙ c.in-Some.is in
    ap Some c.set.ensures ∙ sym (set_is us u own c.args.i c.requires.small c.requires.there c.requires.within ∙ ap (option_map (λ x. set us c.args.i x)) some)
