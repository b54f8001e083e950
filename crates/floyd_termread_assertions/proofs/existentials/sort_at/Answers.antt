use Rattle.std.proofs.Common.{ℕ, Ok, Err, refl, ap, sym, ◌∙◌}
use Rattle.floyd_tree_sorts.specs.declared.sorts.Sort.{Sort}
use Rattle.floyd_termread_marks.specs.Marks as marks
use Rattle.floyd_termread_scope.specs.WrittenSorts.{written_sort}
use Rattle.floyd_termread_assertions.specs.Existentials as specs
use Rattle.floyd_termread_parts.proofs.Chains.{stopped, given_some, given_none}
use Rattle.floyd_termread_assertions.proofs.existentials.sort_at.Goals as goal

pub returns-in_err-row-clause-exact : goal.returns-in_err-row-clause-exact
returns-in_err-row-clause-exact c =
    stopped (λ (x : Sort × ℕ). x) (specs.sort c.args.text.bytes.now c.args.text.tokens.now c.args.spot.depth c.args.spot.at) c.from_residual.result c.in_err-row.field-0.0 c.from_residual.ensures.1 (λ refusal e. (Err refusal, rw e at c.in_err-row.ensures.exact, refl))

pub returns-in-Some-clause-exact : goal.returns-in-Some-clause-exact
returns-in-Some-clause-exact c =
    (Ok (c.in_ok-row.row, c.in_ok-row.behind), c.in_ok-row.ensures.exact, given_some (specs.unreadable (marks.place_at c.args.text.bytes.now c.args.text.tokens.now c.args.spot.at)) (written_sort c.in_ok-row.row) c.in-Some.sort c.in_ok-row.behind (ap written_sort (sym c.as_slice.ensures) ∙ sym c.in_ok-sort.ensures ∙ c.in-Some.is))

pub returns-clause-exact : goal.returns-clause-exact
returns-clause-exact c =
    (Ok (c.in_ok-row.row, c.in_ok-row.behind), c.in_ok-row.ensures.exact, given_none (specs.unreadable (marks.place_at c.args.text.bytes.now c.args.text.tokens.now c.args.spot.at)) c.unreadable.result (written_sort c.in_ok-row.row) c.in_ok-row.behind (ap written_sort (sym c.as_slice.ensures) ∙ sym c.in_ok-sort.ensures ∙ c.in-None.is) (c.unreadable.ensures ∙ ap specs.unreadable c.first_place.ensures))
