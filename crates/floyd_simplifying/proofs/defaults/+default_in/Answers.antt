use Rattle.std.proofs.Common.{rules, ◌≡◌, Ok, sym, ap, subst, ◌∙◌}
use Rattle.floyd_text.specs.Gives.{RuleStops}
use Rattle.floyd_simplifying.specs.WrittenLists.{default_in}
use Rattle.floyd_simplifying.proofs.DefaultTerms.{prod_stops_first, prod_stops_second}
use Rattle.floyd_simplifying.proofs.defaults.+default_in.Goals as goal

pub returns-in_err-x-in-Prod : goal.returns-in_err-x-in-Prod
returns-in_err-x-in-Prod g t c =
    let stop = c.in_err-x-in-Prod.field-0.0 in
    let first : RuleStops stop (default_in c.in-Prod.first) = subst (λ s. RuleStops stop (default_in s)) c.get-in-Prod.ensures c.in_err-x-in-Prod.ensures.exact in
    let stops : RuleStops stop (default_in c.args.sort.now) = prod_stops_first c.args.sort.now c.in-Prod.first c.in-Prod.second c.in-Prod.is stop first in
    search (rules, stops)

pub returns-in_err-y-in-Prod : goal.returns-in_err-y-in-Prod
returns-in_err-y-in-Prod g t c =
    let stop = c.in_err-y-in-Prod.field-0.0 in
    let first : default_in c.in-Prod.first ≡ Ok c.in_ok-x-in-Prod.x = ap default_in (sym c.get-in-Prod.ensures) ∙ c.in_ok-x-in-Prod.ensures.exact in
    let second : RuleStops stop (default_in c.in-Prod.second) = subst (λ s. RuleStops stop (default_in s)) c.get-in-Prod-2.ensures c.in_err-y-in-Prod.ensures.exact in
    let stops : RuleStops stop (default_in c.args.sort.now) = prod_stops_second c.args.sort.now c.in-Prod.first c.in-Prod.second c.in-Prod.is c.in_ok-x-in-Prod.x stop first second in
    search (rules, stops)
