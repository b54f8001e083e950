use Rattle.std.proofs.Common.{ℕ, List, Ok, Err, refl, ap, sym, ◌∙◌}
use Rattle.floyd_assert_trees.specs.declared.binder.Binder.{Binder}
use Rattle.floyd_termread_marks.specs.Marks as marks
use Rattle.floyd_termread_assertions.specs.Existentials as specs
use Rattle.floyd_termread_parts.proofs.Chains.{stopped, given_some, given_none}
use Rattle.floyd_termread_assertions.proofs.existentials.binders_at.Goals as goal

pub returns-in_err-rows-clause-exact : goal.returns-in_err-rows-clause-exact
returns-in_err-rows-clause-exact c =
    stopped (λ (x : List Binder × ℕ). x) (specs.binders c.args.text.bytes.now c.args.text.tokens.now c.args.spot.depth c.args.spot.at) c.from_residual.result c.in_err-rows.field-0.0 c.from_residual.ensures.1 (λ refusal e. (Err refusal, rw e at c.in_err-rows.ensures.exact, refl))

pub returns-in-Some-clause-exact : goal.returns-in-Some-clause-exact
returns-in-Some-clause-exact c =
    (Ok (c.in_ok-rows.rows, c.in_ok-rows.behind), c.in_ok-rows.ensures.exact, given_some (specs.unreadable (marks.place_at c.args.text.bytes.now c.args.text.tokens.now c.args.spot.at)) (specs.with_sorts c.in_ok-rows.rows) c.in-Some.binders c.in_ok-rows.behind (ap specs.with_sorts (sym c.as_slice.ensures) ∙ sym c.in_ok-binders.ensures ∙ c.in-Some.is))

pub returns-clause-exact : goal.returns-clause-exact
returns-clause-exact c =
    (Ok (c.in_ok-rows.rows, c.in_ok-rows.behind), c.in_ok-rows.ensures.exact, given_none (specs.unreadable (marks.place_at c.args.text.bytes.now c.args.text.tokens.now c.args.spot.at)) c.unreadable.result (specs.with_sorts c.in_ok-rows.rows) c.in_ok-rows.behind (ap specs.with_sorts (sym c.as_slice.ensures) ∙ sym c.in_ok-binders.ensures ∙ c.in-None.is) (c.unreadable.ensures ∙ ap specs.unreadable c.first_place.ensures))
