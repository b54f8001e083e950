use Rattle.std.proofs.Common.{◌≡◌, Ok, subst}
use Rattle.floyd_text.specs.Gives.{RuleStops}
use Rattle.floyd_assert_trees.specs.declared.assertion.Assertion.{Assertion}
use Rattle.floyd_symexpr_rows.proofs.SayingLemmas.{goes_on, stopped, stops}
use Rattle.floyd_symexpr.specs.Locate.{locate}
use Rattle.floyd_forward.specs.Set.{read_at, read_from}
use Rattle.floyd_forward.proofs.reading.read_from.Goals as goal

pub returns-in_err-l : goal.returns-in_err-l
returns-in_err-l g c =
    let source = c.args.at.run.now.source in
    let structs = c.args.at.defs.now.structs in
    record {
      exact = stopped (λ v. v) c.from_residual.result c.in_err-l.field-0.0 (read_from source structs c.args.e.now) c.from_residual.ensures.1
          (stops c.in_err-l.field-0.0 (locate source structs c.args.e.now) (read_at source structs)
          (subst (λ (s : Assertion). RuleStops c.in_err-l.field-0.0 (locate s structs c.args.e.now)) c.source.ensures c.in_err-l.ensures.exact));
    }

pub returns : goal.returns
returns g c =
    let source = c.args.at.run.now.source in
    let structs = c.args.at.defs.now.structs in
    record {
      exact = goes_on (λ v. v) (locate source structs c.args.e.now) (read_at source structs) c.in_ok-l.l c.read_at.result
          (subst (λ (s : Assertion). locate s structs c.args.e.now ≡ Ok c.in_ok-l.l) c.source.ensures c.in_ok-l.ensures.exact) c.read_at.ensures.exact;
    }
