use Rattle.std.proofs.Common.{◌≡◌, ◌++◌, drop, length}
use Rattle.floyd_assert_changes.specs.ApartClauses.{named_from}
use Rattle.floyd_assert_changes.proofs.apart.apart_existentials.Given as goal

abbrev pub invariant-existentials : goal.invariant-existentials
invariant-existentials l = record {
  names : l.done.items ++ named_from l.avoid l.taken (drop l.binder-index l.existentials) ≡ named_from l.avoid l.fn.names l.existentials;
  count : length l.done.items ≡ l.binder-index;
}
