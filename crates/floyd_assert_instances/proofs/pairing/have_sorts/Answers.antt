use Rattle.std.proofs.Common.{◌<◌, length, ap, sym, ◌∙◌, arith}
use Rattle.floyd_tree.specs.WellSorted.{sort_of}
use Rattle.floyd_assert_instances.proofs.PairLemmas.{sort_there}
use Rattle.floyd_assert_instances.proofs.pairing.have_sorts.Goals as goal

pub returns-then-not-matches : goal.returns-then-not-matches
returns-then-not-matches c =
    let in_ts : c.terms.i < length c.args.terms.now = omega (arith, c.terms-test.true) in
    let in_bs : c.terms.i < length c.args.binders.now = omega (arith, c.terms-test.true, c.requires) in
    sym (sort_there c.args.binders.now c.args.terms.now c.terms.i c.index-binders-i.result c.index-terms-i.result in_bs in_ts c.sort.result.now _ (ap sort_of (sym c.index-terms-i.is) ∙ c.sort.ensures) (sym c.matches.ensures ∙ c.if-not-matches.true))
    ∙ c.terms.invariant.1

pub terms-preserved : goal.terms-preserved
terms-preserved c =
    let in_ts : c.terms.i < length c.args.terms.now = omega (arith, c.terms-test.true) in
    let in_bs : c.terms.i < length c.args.binders.now = omega (arith, c.terms-test.true, c.requires) in (
      c.terms.invariant.0,
      sym (sort_there c.args.binders.now c.args.terms.now c.terms.i c.index-binders-i.result c.index-terms-i.result in_bs in_ts c.sort.result.now _ (ap sort_of (sym c.index-terms-i.is) ∙ c.sort.ensures) (sym c.matches.ensures ∙ c.if-not-matches.false))
          ∙ c.terms.invariant.1,
    )
