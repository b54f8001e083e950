use Rattle.std.proofs.Common.{ap, ◌∙◌}
use Rattle.floyd_assert_trees.specs.declared.assertion.Assertion.{Assertion}
use Rattle.floyd_assert_trees.specs.declared.binder.Binder.{Binder}
use Rattle.std.specs.Prelude.{List}
use Rattle.floyd_assert_terms.specs.FillClauses.{fill_all, fill_local, fill_part}
use Rattle.floyd_assert_terms.proofs.Filled.{filled_is}
use Rattle.floyd_assert_terms.proofs.filling.with_terms.Goals as goal

pub returns : goal.returns
returns c = λ f e.
    let a = c.args.a.now in
    ap (λ (bs : List Binder). record { existentials = bs; props = c.args.props; locals = c.in_ok-locals.locals; parts = c.in_ok-parts.parts }) (c.in_ok-existentials.ensures ∙ c.as_slice.ensures)
    ∙ filled_is a c.args.props c.args.terms.now c.in_ok-locals.left.now c.in_ok-locals.locals c.in_ok-parts.parts
    (c.in_ok-locals.ensures ∙ ap (λ ls. fill_all fill_local ls c.args.terms.now) c.as_slice-2.ensures)
    (c.in_ok-parts.ensures ∙ ap (λ ps. (fill_all fill_part ps c.in_ok-locals.left.now).0) c.as_slice-3.ensures)
    f e
