use Rattle.std.proofs.Common.{◌≡◌, Ok, subst}
use Rattle.floyd_text.specs.Gives.{RuleGives, RuleStops}
use Rattle.floyd_assert_trees.specs.declared.assertion.Assertion.{Assertion}
use Rattle.floyd_goal_trees.specs.declared.exits.Exits.{Exits}
use Rattle.floyd_symexpr_rows.proofs.SayingLemmas.{goes_on, stopped, stops}
use Rattle.floyd_symexpr.specs.Expressions.{evaluate}
use Rattle.floyd_forward.specs.Return.{result_needs, result_of}
use Rattle.floyd_forward.proofs.returning.result_of.Goals as goal

pub returns-in_err-v : goal.returns-in_err-v
returns-in_err-v g c =
    let run = c.args.at.run.now in
    let structs = c.args.at.defs.now.structs in
    record {
      exact = stopped (λ n. n) c.from_residual.result c.in_err-v.field-0.0 (result_of structs run c.args.e.now) c.from_residual.ensures.1
          (stops c.in_err-v.field-0.0 (evaluate run.source structs c.args.e.now) (result_needs run.exits.ret.result)
          (subst (λ (s : Assertion). RuleStops c.in_err-v.field-0.0 (evaluate s structs c.args.e.now)) c.source.ensures c.in_err-v.ensures.exact));
    }

pub returns : goal.returns
returns g c =
    let run = c.args.at.run.now in
    let structs = c.args.at.defs.now.structs in
    record {
      exact = goes_on (λ n. n) (evaluate run.source structs c.args.e.now) (result_needs run.exits.ret.result) c.in_ok-v.v c.result_needs.result
          (subst (λ (s : Assertion). evaluate s structs c.args.e.now ≡ Ok c.in_ok-v.v) c.source.ensures c.in_ok-v.ensures.exact) (subst (λ (x : Exits). RuleGives (λ n. n) c.result_needs.result (result_needs x.ret.result c.in_ok-v.v)) c.get.ensures c.result_needs.ensures.exact);
    }
