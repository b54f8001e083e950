use Rattle.std.proofs.Common.{sym, ◌∙◌}
use Rattle.floyd_symexpr_rows.proofs.SayingLemmas.{stopped}
use Rattle.floyd_conditions.specs.Conditions.{branches_of}
use Rattle.floyd_conditions.proofs.BranchLemmas.{not_gives, not_stops, other_is}
use Rattle.floyd_conditions.proofs.testing.+branches_of.Goals as goal

pub returns-in_err-branches-in-Unary : goal.returns-in_err-branches-in-Unary
returns-in_err-branches-in-Unary g t c =
    let source = c.args.at.source.now in
    let structs = c.args.at.defs.now.structs in
    record {
      exact = stopped (λ x. x) c.from_residual.result c.in_err-branches-in-Unary.field-0.0 (branches_of source structs c.args.e.now) c.from_residual.ensures.1
          (not_stops source structs c.args.e.now c.in-Unary.op c.in-Unary.negated c.get.result.now c.in-Unary.field-2 c.in_err-branches-in-Unary.field-0.0 c.in-Unary.is (sym c.is_not.ensures ∙ c.if-is_not.true) c.get.ensures
          c.in_err-branches-in-Unary.ensures.exact);
    }

pub returns-in_ok-branches-in-Unary : goal.returns-in_ok-branches-in-Unary
returns-in_ok-branches-in-Unary g t c =
    record {
      exact = not_gives c.args.at.source.now c.args.at.defs.now.structs c.args.e.now c.in-Unary.op c.in-Unary.negated c.get.result.now c.in-Unary.field-2 c.in_ok-branches-in-Unary.branches c.exchanged.result c.in-Unary.is
          (sym c.is_not.ensures ∙ c.if-is_not.true) c.get.ensures c.in_ok-branches-in-Unary.ensures.exact c.exchanged.ensures;
    }

pub returns-else-is_not : goal.returns-else-is_not
returns-else-is_not g t c =
    record {
      exact = other_is c.args.at.source.now c.args.at.defs.now.structs c.args.e.now c.in-Unary.op c.in-Unary.negated c.in-Unary.field-2 c.branches_at.result c.in-Unary.is (sym c.is_not.ensures ∙ c.if-is_not.false)
          c.branches_at.ensures.exact;
    }
