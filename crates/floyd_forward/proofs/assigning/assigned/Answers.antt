use Rattle.std.proofs.Common.{◌≡◌, Ok, subst}
use Rattle.floyd_text.specs.Gives.{RuleGives, RuleStops}
use Rattle.floyd_ctypes.specs.declared.ctype.CType.{CType}
use Rattle.floyd_clight.specs.Types.{type_of}
use Rattle.floyd_assert_trees.specs.declared.assertion.Assertion.{Assertion}
use Rattle.floyd_fieldpath.specs.Written.{on_ok}
use Rattle.floyd_symexpr_rows.proofs.SayingLemmas.{goes_on, stopped, stops}
use Rattle.floyd_symexpr.specs.Expressions.{evaluate}
use Rattle.floyd_symexpr.specs.Locate.{locate}
use Rattle.floyd_forward.specs.Assign.{assigned, stored}
use Rattle.floyd_forward.proofs.RowAnswers.{stops_behind}
use Rattle.floyd_forward.proofs.assigning.assigned.Goals as goal

pub returns-in_err-l : goal.returns-in_err-l
returns-in_err-l g c =
    let source = c.args.at.run.now.source in
    let structs = c.args.at.defs.now.structs in
    record {
      exact = stopped (λ s. s) c.from_residual.result c.in_err-l.field-0.0 (assigned source structs c.args.p.now c.args.e.now) c.from_residual.ensures.1
          (stops c.in_err-l.field-0.0 (locate source structs c.args.p.now) (λ l. on_ok (evaluate source structs c.args.e.now) (stored source structs (type_of c.args.p.now) l))
          (subst (λ (s : Assertion). RuleStops c.in_err-l.field-0.0 (locate s structs c.args.p.now)) c.source.ensures c.in_err-l.ensures.exact));
    }

pub returns-in_err-v : goal.returns-in_err-v
returns-in_err-v g c =
    let source = c.args.at.run.now.source in
    let structs = c.args.at.defs.now.structs in
    record {
      exact = stopped (λ s. s) c.from_residual-in_err-v.result c.in_err-v.field-0.0 (assigned source structs c.args.p.now c.args.e.now) c.from_residual-in_err-v.ensures.1
          (stops_behind c.in_err-v.field-0.0 (locate source structs c.args.p.now) (λ l. on_ok (evaluate source structs c.args.e.now) (stored source structs (type_of c.args.p.now) l)) c.in_ok-l.l
          (subst (λ (s : Assertion). locate s structs c.args.p.now ≡ Ok c.in_ok-l.l) c.source.ensures c.in_ok-l.ensures.exact)
          (stops c.in_err-v.field-0.0 (evaluate source structs c.args.e.now) (stored source structs (type_of c.args.p.now) c.in_ok-l.l)
          (subst (λ (s : Assertion). RuleStops c.in_err-v.field-0.0 (evaluate s structs c.args.e.now)) c.source-2.ensures c.in_err-v.ensures.exact)));
    }

pub returns : goal.returns
returns g c =
    let source = c.args.at.run.now.source in
    let structs = c.args.at.defs.now.structs in
    record {
      exact = goes_on (λ s. s) (locate source structs c.args.p.now) (λ l. on_ok (evaluate source structs c.args.e.now) (stored source structs (type_of c.args.p.now) l)) c.in_ok-l.l c.store_value.result
          (subst (λ (s : Assertion). locate s structs c.args.p.now ≡ Ok c.in_ok-l.l) c.source.ensures c.in_ok-l.ensures.exact)
          (goes_on (λ s. s) (evaluate source structs c.args.e.now) (stored source structs (type_of c.args.p.now) c.in_ok-l.l) c.in_ok-v.v c.store_value.result
          (subst (λ (s : Assertion). evaluate s structs c.args.e.now ≡ Ok c.in_ok-v.v) c.source-2.ensures c.in_ok-v.ensures.exact)
          (subst (λ (t : CType). RuleGives (λ s. s) c.store_value.result (stored source structs t c.in_ok-l.l c.in_ok-v.v)) c.ctype.ensures c.store_value.ensures.exact));
    }
