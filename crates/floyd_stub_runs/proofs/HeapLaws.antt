-- Laws of heaplets: sums, and what a greater heaplet keeps.
use Rattle.std.proofs.Common.{◌≡◌, ℕ, List, [], ◌∷◌, Option, Some, None, refl, sym, ◌∙◌, subst}
use Rattle.floyd_clight_memory.specs.Memory.{Mem, Slot, slot}
use Rattle.floyd_stub_machine.specs.Machine.{Spot}
use Rattle.floyd_stub_assert.specs.Heaplet.{Cell, Heaplet, empty, JoinsAt, Joins, FitsAt, Fits, Within, Owned}
use Rattle.floyd_stub_runs.specs.Safe.{AllWithin, AllOwned}

abbrev sum_at : Option Cell → Option Cell → Option Cell
sum_at None b = b
sum_at (Some c) b = Some c

abbrev pub join : Heaplet → Heaplet → Heaplet
join a b = λ x y. sum_at (a x y) (b x y)

comm_at : (h g k : Option Cell) → JoinsAt h g k → JoinsAt g h k
comm_at None None k e = e
comm_at None (Some d) k e = e
comm_at (Some c) None k e = e
comm_at (Some c) (Some d) k e = absurd e

pub comm : {h g k : Heaplet} → Joins h g k → Joins g h k
comm {h} {g} {k} j = record { at = λ x y. comm_at (h x y) (g x y) (k x y) (j.at x y) }

joined_at : (b c k : Option Cell) → JoinsAt b c k → JoinsAt b c (sum_at b c)
joined_at None c k e = refl
joined_at (Some d) None k e = refl
joined_at (Some d) (Some f) k e = e

sum_is_at : (b c k : Option Cell) → JoinsAt b c k → k ≡ sum_at b c
sum_is_at None c k e = e
sum_is_at (Some d) None k e = e
sum_is_at (Some d) (Some f) k e = absurd e

abbrev Right : Option Cell → Option Cell → Option Cell → Option Cell → Type 0
Right a b c abc = JoinsAt b c (sum_at b c) × JoinsAt a (sum_at b c) abc

assoc_at : (a b c ab abc : Option Cell) → JoinsAt a b ab → JoinsAt ab c abc → Right a b c abc
assoc_at None b c ab abc e f =
    let g : JoinsAt b c abc = subst (λ x. JoinsAt x c abc) e f in
    (joined_at b c abc g, sum_is_at b c abc g)
assoc_at (Some v) None None ab abc e f = (refl, subst (λ x. JoinsAt x None abc) e f)
assoc_at (Some v) None (Some w) ab abc e f = absurd (subst (λ x. JoinsAt x (Some w) abc) e f)
assoc_at (Some v) (Some w) c ab abc e f = absurd e

-- (a + b) + c is a + (b + c)
pub assoc : {a b c ab abc : Heaplet} → Joins a b ab → Joins ab c abc → (bc : Heaplet) × Joins b c bc × Joins a bc abc
assoc {a} {b} {c} {ab} {abc} j i =
    let at : (x y : ℕ) → Right (a x y) (b x y) (c x y) (abc x y) = λ x y. assoc_at (a x y) (b x y) (c x y) (ab x y) (abc x y) (j.at x y) (i.at x y) in
    (join b c, record { at = λ x y. (at x y).0 }, record { at = λ x y. (at x y).1 })

-- a + (b + c) is (a + b) + c
pub assoc_back : {a b c bc abc : Heaplet} → Joins b c bc → Joins a bc abc → (ab : Heaplet) × Joins a b ab × Joins ab c abc
assoc_back j i =
    let r = assoc (comm j) (comm i) in
    (r.0, comm r.1, comm r.2)

part_at : (h F k : Option Cell) (s : Option Slot) → JoinsAt h F k → FitsAt k s → FitsAt h s
part_at None F k s j f = tt
part_at (Some c) None k s j f = subst (λ x. FitsAt x s) j f
part_at (Some c) (Some d) k s j f = absurd j

-- a part of what fits fits
pub part : {h F k : Heaplet} {m : Mem} → Joins h F k → Fits k m → Fits h m
part {h} {F} {k} {m} j f = record { at = λ x y. part_at (h x y) (F x y) (k x y) (slot m x y) (j.at x y) (f.at x y) }

right_empty_at : (h : Option Cell) → JoinsAt h None h
right_empty_at None = refl
right_empty_at (Some c) = refl

pub right_empty : (h : Heaplet) → Joins h empty h
right_empty h = record { at = λ x y. right_empty_at (h x y) }

pub left_empty : (h : Heaplet) → Joins empty h h
left_empty h = record { at = λ x y. refl }

whole_has : (a b k : Option Cell) (c : Cell) → JoinsAt a b k → a ≡ Some c → k ≡ Some c
whole_has None b k c j e = cc
whole_has (Some d) None k c j e = j ∙ e
whole_has (Some d) (Some f) k c j e = absurd j

none_of_sum : (b g k : Option Cell) → JoinsAt b g k → k ≡ None → g ≡ None
none_of_sum None g k j e = sym j ∙ e
none_of_sum (Some c) None k j e = refl
none_of_sum (Some c) (Some d) k j e = absurd j

pub within_more : {a b k : Heaplet} {x y : ℕ} → Joins a b k → Within a x y → Within k x y
within_more {a} {b} {k} {x} {y} j w = record { cell = w.cell; has = whole_has (a x y) (b x y) (k x y) w.cell (j.at x y) w.has }

pub owned_more : {a b k : Heaplet} {x y : ℕ} → Joins a b k → Owned a x y → Owned k x y
owned_more {a} {b} {k} {x} {y} j w =
    record {
      cell = w.cell;
      has = whole_has (a x y) (b x y) (k x y) w.cell (j.at x y) w.has;
      alone = λ g l i.
          let r = assoc j i in
          none_of_sum (b x y) (g x y) (r.0 x y) (r.1.at x y) (w.alone r.0 l r.2);
    }

pub all_within_more : {a b k : Heaplet} → Joins a b k → (ss : List Spot) → AllWithin a ss → AllWithin k ss
all_within_more j [] w = tt
all_within_more j (s ∷ ss) w = (within_more j w.0, all_within_more j ss w.1)

pub all_owned_more : {a b k : Heaplet} → Joins a b k → (ss : List Spot) → AllOwned a ss → AllOwned k ss
all_owned_more j [] w = tt
all_owned_more j (s ∷ ss) w = (owned_more j w.0, all_owned_more j ss w.1)
