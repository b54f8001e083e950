-- Tables into which others are joined, item by item.
use Rattle.std.proofs.Common.{◌≡◌, ℕ, zero, suc, ◌+◌, ◌<◌, List, [], ◌∷◌, length, drop, Option, Some, None, refl, ap, arith}
use Rattle.std.specs.Prelude.{slice_get}
use Rattle.floyd_assert_changes.proofs.Parting.{left_at}
use Rattle.floyd_termread_scope.specs.Scopes.{Named}
use Rattle.floyd_specread_sources.specs.Tables.{joined, put_new}

-- one item more is put in
pub next_joined : {A : Type 0} (more table : Named A) (i : ℕ) (p : List ℕ × A) → slice_get more i ≡ Some p → joined (drop i more) table ≡ joined (drop (i + 1) more) (put_new p.0 p.1 table)
next_joined {A} more table i p e = ap (λ (xs : Named A). joined xs table) (left_at more i (i + 1) p refl e)
