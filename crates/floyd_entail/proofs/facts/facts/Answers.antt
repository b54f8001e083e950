use Rattle.std.proofs.lemmas.Result.{err_from_is_err_and}
use Rattle.floyd_entail.specs.Facts.{address_facts, value_facts}
use Rattle.floyd_entail.proofs.FactsLemmas.{turn_stops_first, turn_stops_second, turn_goes}
use Rattle.floyd_entail.proofs.facts.facts.Goals as goal

pub returns-in_err-front : goal.returns-in_err-front
returns-in_err-front g c =
    let p = err_from_is_err_and c.from_residual.result c.from_residual.ensures.1 in
    let back = value_facts c.args.region.now c.args.value.now c.args.t.now in
    record { exact = rw (p.1, p.2) (turn_stops_first c.in_err-front.field-0.0 (address_facts c.args.region.now) back c.in_err-front.ensures.exact) }

pub returns-in_err-back : goal.returns-in_err-back
returns-in_err-back g c =
    let p = err_from_is_err_and c.from_residual-in_err-back.result c.from_residual-in_err-back.ensures.1 in
    let back = value_facts c.args.region.now c.args.value.now c.args.t.now in
    record {
      exact = rw (p.1, p.2) (turn_stops_second c.in_err-back.field-0.0 (address_facts c.args.region.now) back c.in_ok-front.front c.in_ok-front.ensures.exact c.in_err-back.ensures.exact);
    }

pub returns : goal.returns
returns g c =
    let back = value_facts c.args.region.now c.args.value.now c.args.t.now in
    record {
      exact = turn_goes (address_facts c.args.region.now) back c.in_ok-front.front c.in_ok-back.back c.in_ok-in_turn.field-0 c.in_ok-front.ensures.exact c.in_ok-back.ensures.exact
          c.in_ok-in_turn.ensures;
    }
