use Rattle.std.proofs.Common.{◌∙◌, sym, ap}
use Rattle.floyd_tree.specs.Made.{fits}
use Rattle.floyd_tree.specs.Plain.{head_of}
use Rattle.floyd_truth.specs.Replace.{replaced}
use Rattle.floyd_assert_changes.specs.ChangesClauses.{changes}
use Rattle.floyd_assert_changes.specs.FittingClauses.{fit_after}
use Rattle.floyd_assert_changes.proofs.Replacing.{no_variable, unfit_node}
use Rattle.floyd_assert_changes.proofs.Stopping.{stopped}
use Rattle.floyd_assert_changes.proofs.replace.+terms.Goals as goal

pub term_after-returns-in_err-kids-in_default : goal.term_after-returns-in_err-kids-in_default
term_after-returns-in_err-kids-in_default g t c =
    let ch = changes c.args.changing.now in
    let here = c.args.t.now in
    let same = ap (fit_after ch) (c.as_slice.ensures ∙ c.kids.ensures.value) in
    let told =
    stopped c.from_residual.result (replaced ch here) c.in_err-kids-in_default.field-0.0 (fit_after ch c.as_slice.result.now) (fits (replaced ch here)) c.from_residual.ensures.1
    (λ e. unfit_node ch here (no_variable c.head.result.now (head_of here) c.head.ensures c.in_default.not-Variable) (sym same ∙ e)) c.in_err-kids-in_default.ensures.err in
    record { ok = told.0; fits = told.1; err = told.2 }
