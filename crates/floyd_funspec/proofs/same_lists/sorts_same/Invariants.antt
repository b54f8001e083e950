use Rattle.std.proofs.Common.{◌≡◌, ◌↔◌, drop, length}
use Rattle.floyd_assert_meaning.specs.Same.{Pairwise}
use Rattle.floyd_assert_meaning.specs.Settings.{binder_sorts}
use Rattle.floyd_funspec.proofs.Pairs.{SortsSame}
use Rattle.floyd_funspec.proofs.same_lists.sorts_same.Given as goal

abbrev pub invariant-binders : goal.invariant-binders
invariant-binders l = record {
  same : length l.a ≡ length l.b;
  rest : Pairwise SortsSame (drop l.i l.a) (drop l.i l.b) ↔ (binder_sorts l.a ≡ binder_sorts l.b);
}
