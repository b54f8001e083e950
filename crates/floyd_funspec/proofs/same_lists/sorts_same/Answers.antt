use Rattle.std.proofs.Common.{◌≡◌, ◌<◌, length, get_or, refl, sym, ◌∙◌, ap, arith}
use Rattle.floyd_assert_meaning.specs.Settings.{binder_sorts}
use Rattle.floyd_funspec.proofs.Pairs.{SortsSame, as_many, next, none_left, one_more, sorts_are}
use Rattle.floyd_funspec.proofs.same_lists.sorts_same.Goals as goal

pub returns-then-a-b : goal.returns-then-a-b
returns-then-a-b c = (
  λ w. absurd cc,
  λ h. absurd (c.if-a-b.true (as_many SortsSame c.args.a.now c.args.b.now ((sorts_are c.args.a.now c.args.b.now).1 h))),
)

pub binders-init : goal.binders-init
binders-init c = record { same = c.if-a-b.false; rest = sorts_are c.args.a.now c.args.b.now }

pub binders-preserved : goal.binders-preserved
binders-preserved c =
    let in_a : c.binders.i < length c.args.a.now = c.binders-test.true in
    let in_b : c.binders.i < length c.args.b.now = omega (arith, c.binders-test.true, c.binders.invariant.same) in
    record {
      same = c.binders.invariant.same;
      rest = one_more SortsSame c.args.a.now c.args.b.now c.binders.i (get_or c.args.a.now c.binders.i c.index-a-i.result) (get_or c.args.b.now c.binders.i c.index-b-i.result) in_a in_b (ap (get_or c.args.a.now c.binders.i) c.index-a-i.is) (ap (get_or c.args.b.now c.binders.i) c.index-b-i.is) (binder_sorts c.args.a.now ≡ binder_sorts c.args.b.now) (c.same.ensures.0 c.if-not-same.false) c.binders.invariant.rest;
    }

pub returns-then-not-same : goal.returns-then-not-same
returns-then-not-same c =
    let in_a : c.binders.i < length c.args.a.now = c.binders-test.true in
    let in_b : c.binders.i < length c.args.b.now = omega (arith, c.binders-test.true, c.binders.invariant.same) in (
      λ w. absurd cc,
      λ p. sym c.if-not-same.true ∙ c.same.ensures.1 (next SortsSame c.args.a.now c.args.b.now c.binders.i (get_or c.args.a.now c.binders.i c.index-a-i.result) (get_or c.args.b.now c.binders.i c.index-b-i.result) in_a in_b (ap (get_or c.args.a.now c.binders.i) c.index-a-i.is) (ap (get_or c.args.b.now c.binders.i) c.index-b-i.is) (binder_sorts c.args.a.now ≡ binder_sorts c.args.b.now) c.binders.invariant.rest p),
    )

pub returns : goal.returns
returns c = (
  λ w. none_left SortsSame c.args.a.now c.args.b.now c.binders.i (binder_sorts c.args.a.now ≡ binder_sorts c.args.b.now) c.binders-test.false c.binders.invariant.same c.binders.invariant.rest,
  λ p. refl,
)
