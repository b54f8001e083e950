use Rattle.std.proofs.Common.{sym, ◌∙◌}
use Rattle.floyd_assert_changes.specs.ChangesClauses.{changes_of}
use Rattle.floyd_assert_changes.proofs.Existentials.{existential_told}
use Rattle.floyd_assert_changes.proofs.body.existential_name.Goals as goal

pub returns : goal.returns
returns c =
    existential_told c.unmarked.result (changes_of c.args.changes.now) c.args.a.now c.args.done.now c.args.more.now c.args.x.now
    c.new-names.result c.add_changes.new.names c.add_formulas.new.names c.add_terms.new.names c.add_binders.new.names c.add_binders-2.new.names c.as_slice-2.result.now c.as_slice-3.result.now
    c.new-names.ensures c.in_ok-add_changes.ensures c.as_slice-2.ensures c.in_ok-add_formulas.ensures (c.as_slice-3.ensures.value ∙ c.in_ok-terms.ensures) c.in_ok-add_terms.ensures c.in_ok-add_binders.ensures c.in_ok-add_binders-2.ensures
    (sym c.if-not-body_captures.ensures) c.unmarked.ensures
