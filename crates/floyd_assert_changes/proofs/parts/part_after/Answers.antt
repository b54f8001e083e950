use Rattle.std.proofs.Common.{[], ◌∷◌, false, subst, ap, ◌∙◌}
use Rattle.floyd_tree.specs.Made.{fits}
use Rattle.floyd_tree.specs.Plain.{plains}
use Rattle.floyd_truth.specs.Replace.{AllSortsAgree, replaced}
use Rattle.floyd_assert_changes.specs.Changed.{part_after, part_terms, region_terms}
use Rattle.floyd_assert_changes.specs.ChangesClauses.{changes}
use Rattle.floyd_assert_changes.specs.FittingClauses.{fit_after}
use Rattle.floyd_assert_changes.proofs.Parting.{agree_append, one_fit, rest_unfit}
use Rattle.floyd_assert_changes.proofs.Stopping.{stopped}
use Rattle.floyd_assert_changes.proofs.parts.part_after.Goals as goal

pub region_after-requires-clause-sorts : goal.region_after-requires-clause-sorts
region_after-requires-clause-sorts g c =
    let ch = changes c.args.changing.now in
    let sorts = subst (λ p. AllSortsAgree ch (plains (part_terms p))) c.in-FieldAt.is c.requires.sorts in
    (agree_append ch (region_terms c.in-FieldAt.region) (c.in-FieldAt.value ∷ []) sorts).0

pub term_after-requires-clause-sorts : goal.term_after-requires-clause-sorts
term_after-requires-clause-sorts g c =
    let ch = changes c.args.changing.now in
    let sorts = subst (λ p. AllSortsAgree ch (plains (part_terms p))) c.in-FieldAt.is c.requires.sorts in
    (agree_append ch (region_terms c.in-FieldAt.region) (c.in-FieldAt.value ∷ []) sorts).1.0

pub returns-in_err-value-in-FieldAt-clause-err : goal.returns-in_err-value-in-FieldAt-clause-err
returns-in_err-value-in-FieldAt-clause-err g c =
    let ch = changes c.args.changing.now in
    let part = c.args.part.now in
    let value = c.in-FieldAt.value in
    let told =
    stopped c.from_residual-in_err-value-in-FieldAt.result (part_after ch part) c.in_err-value-in-FieldAt.field-0.0 (fits (replaced ch value)) (fit_after ch (part_terms part))
    c.from_residual-in_err-value-in-FieldAt.ensures.1
    (λ e. ap (λ p. fit_after ch (part_terms p)) c.in-FieldAt.is ∙ rest_unfit ch (region_terms c.in-FieldAt.region) (value ∷ []) (one_fit ch value false e))
    c.in_err-value-in-FieldAt.ensures.err in
    told.2
