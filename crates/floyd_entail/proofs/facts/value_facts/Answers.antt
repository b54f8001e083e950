use Rattle.std.proofs.Common.{◌≡◌, Option, rules, subst, Result, List, Ok}
use Rattle.std.specs.Option.{option_copied}
use Rattle.std.proofs.lemmas.Result.{err_from_is_err_and}
use Rattle.floyd_text.specs.Gives.{RuleStops}
use Rattle.floyd_tree.specs.Plain.{Plain}
use Rattle.floyd_goal_plans.specs.Counts.{count_of}
use Rattle.floyd_entail.specs.Facts.{length_facts, share_facts}
use Rattle.floyd_entail.proofs.FactsLemmas.{turn_stops_first, turn_stops_second, turn_goes}
use Rattle.floyd_entail.proofs.facts.value_facts.Goals as goal

pub returns-in_err-front : goal.returns-in_err-front
returns-in_err-front g c =
    let p = err_from_is_err_and c.from_residual.result c.from_residual.ensures.1 in
    let front = length_facts c.args.value.now (count_of c.args.t.now) in
    let stops = subst (λ (n : Option Plain). RuleStops c.in_err-front.field-0.0 (length_facts c.args.value.now n)) c.count_of.ensures c.in_err-front.ensures.exact in
    record { exact = rw (p.1, p.2) (turn_stops_first c.in_err-front.field-0.0 front (share_facts c.args.region.now.share) stops) }

pub returns-in_err-back : goal.returns-in_err-back
returns-in_err-back g c =
    let p = err_from_is_err_and c.from_residual-in_err-back.result c.from_residual-in_err-back.ensures.1 in
    let front = length_facts c.args.value.now (count_of c.args.t.now) in
    let goes = subst (λ (n : Option Plain). length_facts c.args.value.now n ≡ Ok c.in_ok-front.front) c.count_of.ensures c.in_ok-front.ensures.exact in
    record { exact = rw (p.1, p.2) (turn_stops_second c.in_err-back.field-0.0 front (share_facts c.args.region.now.share) c.in_ok-front.front goes c.in_err-back.ensures.exact) }

pub returns : goal.returns
returns g c =
    let front = length_facts c.args.value.now (count_of c.args.t.now) in
    let goes = subst (λ (n : Option Plain). length_facts c.args.value.now n ≡ Ok c.in_ok-front.front) c.count_of.ensures c.in_ok-front.ensures.exact in
    record {
      exact = turn_goes front (share_facts c.args.region.now.share) c.in_ok-front.front c.in_ok-back.back c.in_ok-in_turn.field-0 goes c.in_ok-back.ensures.exact c.in_ok-in_turn.ensures;
    }
