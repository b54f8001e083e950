-- Blocks of local variables are made at a function's start and freed at its end, beside any frame.
use Rattle.std.proofs.Common.{◌≡◌, ℕ, zero, suc, ◌≤◌, ◌+◌, List, [], ◌∷◌, ◌++◌, length, Option, Some, None, refl, sym, ◌∙◌, subst, ap, arith}
use Rattle.std.specs.Prelude.{IsSome, option_and_then}
use Rattle.std.specs.List.{AllByRecursion}
use Rattle.std.proofs.lemmas.List.{length-append}
use Rattle.floyd_clight_memory.specs.Memory.{Mem, nth, next, alloc, and_then, free}
use Rattle.floyd_clight_memory.proofs.Places.{free_other}
use Rattle.floyd_ctypes.specs.Structs.{Structs}
use Rattle.floyd_ctypes.specs.Layout.{size}
use Rattle.floyd_clight.specs.declared.unit.Local.{Local}
use Rattle.floyd_clight_machine.specs.Looking.{Spot}
use Rattle.floyd_clight_machine.specs.Footprint.{spots}
use Rattle.floyd_clight_machine.specs.Touched.{block_spots, freed_spots}
use Rattle.floyd_clight_machine.specs.Machine.{LocalBlock, Placed, and_first, alloc_all, free_all}
use Rattle.floyd_clight_machine.specs.Bounds.{IsApart, AllLocal}
use Rattle.floyd_clight_heap.specs.Heaplet.{Heaplet, empty, Joins, Fits, OwnsFrom}
use Rattle.floyd_clight_heap.proofs.Sums.{comm, assoc, assoc_back, part, left_empty}
use Rattle.floyd_clight_heap.proofs.Blocks.{new_block, owners_free}
use Rattle.floyd_clight_runs.specs.Safe.{AllOwned}
use Rattle.floyd_clight_runs.specs.Calls.{AreBlocksOf, AreDistinct, AreFresh, AreOwned}
use Rattle.floyd_clight_runs.proofs.Safety.{all_owned_more}

-- New blocks.

-- their numbers are n or more
abbrev AreLater : ℕ → List LocalBlock → Type 0
AreLater n [] = Unit {0}
AreLater n (b ∷ bs) = (n ≤ b.block) × AreLater n bs

later_apart : (n : ℕ) (bs : List LocalBlock) → AreLater (suc n) bs → IsApart n bs
later_apart n [] l = tt
later_apart n (b ∷ bs) l = ((λ e. absurd (omega (arith, e, l.0))), later_apart n bs l.1)

later_more : (m n : ℕ) (bs : List LocalBlock) → m ≤ n → AreLater n bs → AreLater m bs
later_more m n [] h l = tt
later_more m n (b ∷ bs) h l = (omega (arith, h, l.0), later_more m n bs h l.1)

next_after : (m : Mem) (n : ℕ) → next (alloc m n) ≡ suc (next m)
next_after m n =
    let h = length-append m (record { kind = _; slots = _ } ∷ []) in
    h ∙ omega arith

-- the blocks for local variables, and a heaplet that has them and can be added to what fitted before
pub record Alloced (structs : Structs) (ls : List Local) (F : Heaplet) (m : Mem) : Type 0 where
  pub placed : Placed
  pub is : alloc_all structs ls m ≡ Some placed
  pub blocks : AreBlocksOf structs ls placed.blocks
  pub distinct : AreDistinct placed.blocks
  pub later : AreLater (next m) placed.blocks
  pub locals : Heaplet
  pub fresh : AreFresh placed.blocks locals
  pub sum : Heaplet
  pub joins : Joins locals F sum
  pub fits : Fits sum placed.mem

alloced_first : (S : Structs) (l : Local) (ls : List Local) (F : Heaplet) (m : Mem) (n : ℕ) → size S l.ctype ≡ Some n → ((G : Heaplet) → Fits G (alloc m n) → Alloced S ls G (alloc m n)) → Fits F m → Alloced S (l ∷ ls) F m
alloced_first S l ls F m n e f t =
    let b : LocalBlock = record { name = l.name; block = next m; size = n } in
    let one = new_block F m n t in
    let r = f one.sum one.fits in
    let two = assoc_back one.joins r.joins in
    let later : AreLater (suc (next m)) r.placed.blocks = subst (λ i. AreLater i r.placed.blocks) (next_after m n) r.later in
    record {
      placed = record { blocks = b ∷ r.placed.blocks; mem = r.placed.mem };
      is = ap (option_and_then (λ i. and_first (record { name = l.name; block = next m; size = i }) (alloc_all S ls (alloc m i)))) e ∙ ap (and_first b) r.is;
      blocks = (refl, e, r.blocks);
      distinct = (later_apart (next m) r.placed.blocks later, r.distinct);
      later = (omega arith, later_more (next m) (suc (next m)) r.placed.blocks (omega arith) later);
      locals = two.0;
      fresh = (r.locals, comm two.1, r.fresh);
      sum = r.sum;
      joins = two.2;
      fits = r.fits;
    }

sized_is : (o : Option ℕ) → IsSome o → (n : ℕ) × (o ≡ Some n)
sized_is None s = cc
sized_is (Some n) s = (n, refl)

pub alloced_all : (S : Structs) (ls : List Local) (F : Heaplet) (m : Mem) → AllByRecursion (λ (l : Local). IsSome (size S l.ctype)) ls → Fits F m → Alloced S ls F m
alloced_all S [] F m s t =
    record {
      placed = record { blocks = []; mem = m };
      is = refl;
      blocks = tt;
      distinct = tt;
      later = tt;
      locals = empty;
      fresh = refl;
      sum = F;
      joins = left_empty F;
      fits = t;
    }
alloced_all S (l ∷ ls) F m s t =
    let n = sized_is (size S l.ctype) s.0 in
    alloced_first S l ls F m n.0 n.1 (λ G u. alloced_all S ls G (alloc m n.0) s.1 u) t

-- Frees.

locals_after_free : (ls : List LocalBlock) (m n : Mem) (b : ℕ) → IsApart b ls → free m b ≡ Some n → AllLocal ls m → AllLocal ls n
locals_after_free [] m n b a e i = tt
locals_after_free (l ∷ ls) m n b a e i =
    (record { there = i.0.there; is = free_other m n b l.block e a.0 ∙ i.0.is; kind = i.0.kind; size = i.0.size; whole = i.0.whole }, i.1, locals_after_free ls m n b a.1 e i.2)

-- what stands beside the blocks fits once they are freed
pub record FreedAll (bs : List LocalBlock) (m : Mem) (G : Heaplet) : Type 0 where
  pub mem : Mem
  pub is : free_all bs m ≡ Some mem
  pub fits : Fits G mem

free_then : (bs : List LocalBlock) (o : Option Mem) (q n : Mem) → o ≡ Some q → free_all bs q ≡ Some n → and_then o (λ i. free_all bs i) ≡ Some n
free_then bs o q n e f = ap (λ x. and_then x (λ i. free_all bs i)) e ∙ f

pub freed_all : (bs : List LocalBlock) (m : Mem) (a G k : Heaplet) → AllLocal bs m → AreOwned bs a → Joins a G k → Fits k m → FreedAll bs m G
freed_all [] m a G k l o j t = record { mem = m; is = refl; fits = part (comm j) t }
freed_all (b ∷ bs) m a G k l o j t =
    let i = l.0 in
    let r = assoc o.2 j in
    let owns = subst (λ n. OwnsFrom n o.0 b.block 0) (sym i.size) o.3 in
    let f = owners_free o.0 r.0 k m b.block i.there r.2 t i.is i.whole owns in
    let more = freed_all bs f.mem o.1 G r.0 (locals_after_free bs m f.mem b.block l.1 f.is l.2) o.4 r.1 f.fits in
    record { mem = more.mem; is = free_then bs (free m b.block) f.mem more.mem f.is more.is; fits = more.fits }

pub owned_spots : (n : ℕ) (h : Heaplet) (b o : ℕ) → OwnsFrom n h b o → AllOwned h (spots n b o)
owned_spots zero h b o w = tt
owned_spots (suc n) h b o w = (w.0, owned_spots n h b (o + 1) w.1)

all_owned_both : (h : Heaplet) (xs ys : List Spot) → AllOwned h xs → AllOwned h ys → AllOwned h (xs ++ ys)
all_owned_both h [] ys a b = b
all_owned_both h (x ∷ xs) ys a b = (a.0, all_owned_both h xs ys a.1 b)

-- all places that are freed are owned
pub owned_freed : (bs : List LocalBlock) (m : Mem) (a : Heaplet) → AllLocal bs m → AreOwned bs a → AllOwned a (freed_spots bs m)
owned_freed [] m a l o = tt
owned_freed (b ∷ bs) m a l o =
    let i = l.0 in
    let owns = subst (λ n. OwnsFrom n o.0 b.block 0) (sym i.size) o.3 in
    let here : AllOwned o.0 (block_spots b.block (nth m b.block)) = subst (λ x. AllOwned o.0 (block_spots b.block x)) (sym i.is) (owned_spots (length i.there.slots) o.0 b.block 0 owns) in
    all_owned_both a (block_spots b.block (nth m b.block)) (freed_spots bs m) (all_owned_more o.2 (block_spots b.block (nth m b.block)) here)
    (all_owned_more (comm o.2) (freed_spots bs m) (owned_freed bs m o.1 l.2 o.4))
