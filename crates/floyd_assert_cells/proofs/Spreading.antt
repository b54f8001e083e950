-- Bytes spread one behind the other.
use Rattle.std.proofs.Common.{◌≡◌, ℕ, ◌+◌, ◌<◌, List, [], ◌∷◌, ◌++◌, length, Option, None, subst, arith}
use Rattle.floyd_memval.specs.declared.bytes.MemByte.{MemByte}
use Rattle.floyd_clight_heap.specs.Heaplet.{Cell, Joins, spread}
use Rattle.floyd_clight_heap.proofs.Spreads.{SpreadAt, nothing, one_of, spread_at}
use Rattle.floyd_clight_heap.proofs.Stores.{with_new}
use Rattle.floyd_clight_heap.proofs.Sums.{left_empty}

nothing_at : (less : ℕ) (bytes : List MemByte) (b o p : ℕ) (k : Option Cell) → p < o → SpreadAt less bytes b o b p k → k ≡ None
nothing_at less bytes b o p k l (nothing none e) = e
nothing_at less bytes b o p k l (one_of i byte x y n e) = absurd (omega (arith, l, y))

pub nothing_before : (less : ℕ) (bytes : List MemByte) (b o p : ℕ) → p < o → spread less bytes b o b p ≡ None
nothing_before less bytes b o p l = nothing_at less bytes b o p (spread less bytes b o b p) l (spread_at less bytes b o b p)

-- some bytes and those behind them
pub spreads_behind : (less : ℕ) (xs ys : List MemByte) (b o : ℕ) → Joins (spread less xs b o) (spread less ys b (o + length xs)) (spread less (xs ++ ys) b o)
spreads_behind less [] ys b o =
    let place : o ≡ o + 0 = omega arith in
    subst (λ n. Joins (λ x y. None) (spread less ys b n) (spread less ys b o)) place (left_empty (spread less ys b o))
spreads_behind less (x ∷ xs) ys b o =
    let place : (o + 1) + length xs ≡ o + length (x ∷ xs) = omega arith in
    subst (λ n. Joins (spread less (x ∷ xs) b o) (spread less ys b n) (spread less (x ∷ xs ++ ys) b o)) place
    (with_new (spread less xs b (o + 1)) (spread less ys b ((o + 1) + length xs)) (spread less (xs ++ ys) b (o + 1)) b o (record { byte = x; less = less })
    (spreads_behind less xs ys b (o + 1)) (nothing_before less ys b ((o + 1) + length xs) o (omega arith)))
