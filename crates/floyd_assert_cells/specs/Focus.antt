-- A focus: a part of a heaplet, and how the whole goes on when something else is put there.
use Rattle.floyd_clight_heap.specs.Heaplet.{Heaplet, Joins}
use Rattle.floyd_tree_values.specs.Data.{Datum}

-- P holds of a part with d; and where P holds of another part with e beside the same others, D holds of the sum with e
pub record Focus (P : Datum → Heaplet → Type 0) (d : Datum) (D : Datum → Heaplet → Type 0) (h : Heaplet) : Type 0 where
  pub here : Heaplet
  pub others : Heaplet
  pub joins : Joins here others h
  pub holds : P d here
  pub back : (e : Datum) (g k : Heaplet) → Joins g others k → P e g → D e k
