use Rattle.std.proofs.Common.{◌≡◌, false, pos, subst}
use Rattle.std.proofs.lemmas.Result.{err_from_is_err_and}
use Rattle.floyd_tree.specs.Plain.{Plain}
use Rattle.floyd_fieldpath.specs.Nested.{literal}
use Rattle.floyd_goal_parts.specs.Writing.{StopsAs, at_most, equation, is_faulty}
use Rattle.floyd_goal_plans.proofs.WritingLemmas.{two_first, two_second, two_fine}
use Rattle.floyd_entail.proofs.facts.count_facts.Goals as goal

pub returns-in_err-same : goal.returns-in_err-same
returns-in_err-same g c =
    let p = err_from_is_err_and c.from_residual-in_err-same.result c.from_residual-in_err-same.ensures.1 in
    record {
      exact = rw (p.1, p.2)
          (two_first c.in_err-same.field-0.0 (equation c.args.length.now c.args.n.now) (at_most (literal (pos 0)) c.args.n.now) c.in_err-same.ensures.err);
    }

pub returns-in_err-least : goal.returns-in_err-least
returns-in_err-least g c =
    let p = err_from_is_err_and c.from_residual-in_err-least.result c.from_residual-in_err-least.ensures.1 in
    let stops = subst (λ (z : Plain). StopsAs c.in_err-least.field-0.0 (is_faulty (at_most z c.args.n.now))) c.in_ok-zero.ensures c.in_err-least.ensures.err in
    record {
      exact = rw (p.1, p.2)
          (two_second c.in_err-least.field-0.0 (equation c.args.length.now c.args.n.now) (at_most (literal (pos 0)) c.args.n.now) c.in_ok-same.ensures.fine stops);
    }

pub returns : goal.returns
returns g c =
    let fine = subst (λ (z : Plain). is_faulty (at_most z c.args.n.now) ≡ false) c.in_ok-zero.ensures c.in_ok-least.ensures.fine in
    let same = c.in_ok-two_formulas.ensures in
    record {
      exact = two_fine (equation c.args.length.now c.args.n.now) (at_most (literal (pos 0)) c.args.n.now) c.in_ok-two_formulas.field-0 c.in_ok-same.ensures.fine fine
          (rw (c.in_ok-same.ensures.ok, c.in_ok-least.ensures.ok, c.in_ok-zero.ensures) at same);
    }
