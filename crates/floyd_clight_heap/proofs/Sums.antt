-- Laws of sums of heaplets, and what a greater heaplet keeps.
use Rattle.std.proofs.Common.{◌≡◌, ℕ, ◌≤◌, Option, Some, None, refl, sym, ◌∙◌, ap, subst, arith}
use Rattle.floyd_clight_memory.specs.Memory.{Mem, Slot, slot}
use Rattle.floyd_clight_heap.specs.Heaplet.{Cell, Heaplet, empty, both, JoinsAt, Joins, FitsAt, Fits, Within, Owned}

abbrev pub sum_at : Option Cell → Option Cell → Option Cell
sum_at None b = b
sum_at (Some c) None = Some c
sum_at (Some c) (Some d) = Some (both c d)

-- the sum of two heaplets, where they have one
abbrev pub join : Heaplet → Heaplet → Heaplet
join a b = λ x y. sum_at (a x y) (b x y)

-- cells of one byte and one share are one
pub same_cell : (c d : Cell) → c.byte ≡ d.byte → c.less ≡ d.less → c ≡ d
same_cell c d p q = λ i. record { byte = p i; less = q i }

comm_at : (h g k : Option Cell) → JoinsAt h g k → JoinsAt g h k
comm_at None None k e = e
comm_at None (Some d) k e = e
comm_at (Some c) None k e = e
comm_at (Some c) (Some d) k e = (sym e.0, omega (arith, e.1), e.2 ∙ ap Some (same_cell (both c d) (both d c) e.0 (omega arith)))

pub comm : {h g k : Heaplet} → Joins h g k → Joins g h k
comm {h} {g} {k} j = record { at = λ x y. comm_at (h x y) (g x y) (k x y) (j.at x y) }

pub joined_at : (b c k : Option Cell) → JoinsAt b c k → JoinsAt b c (sum_at b c)
joined_at None c k e = refl
joined_at (Some d) None k e = refl
joined_at (Some d) (Some f) k e = (e.0, e.1, refl)

sum_is_at : (b c k : Option Cell) → JoinsAt b c k → k ≡ sum_at b c
sum_is_at None c k e = e
sum_is_at (Some d) None k e = e
sum_is_at (Some d) (Some f) k e = e.2

-- a sum is the one of its parts
pub sum_is : {a b k : Heaplet} → Joins a b k → k ≡ join a b
sum_is {a} {b} {k} j = λ i x y. sum_is_at (a x y) (b x y) (k x y) (j.at x y) i

pub one_sum : {a b k l : Heaplet} → Joins a b k → Joins a b l → k ≡ l
one_sum j i = sum_is j ∙ sym (sum_is i)

abbrev Right : Option Cell → Option Cell → Option Cell → Option Cell → Type 0
Right a b c abc = JoinsAt b c (sum_at b c) × JoinsAt a (sum_at b c) abc

assoc_at : (a b c ab abc : Option Cell) → JoinsAt a b ab → JoinsAt ab c abc → Right a b c abc
assoc_at None b c ab abc e f =
    let g : JoinsAt b c abc = subst (λ x. JoinsAt x c abc) e f in
    (joined_at b c abc g, sum_is_at b c abc g)
assoc_at (Some v) None None ab abc e f = (refl, subst (λ x. JoinsAt x None abc) e f)
assoc_at (Some v) None (Some w) ab abc e f = (refl, subst (λ x. JoinsAt x (Some w) abc) e f)
assoc_at (Some u) (Some v) None ab abc e f =
    let g : abc ≡ Some (both u v) = subst (λ x. JoinsAt x None abc) e.2 f in
    (refl, (e.0, e.1, g))
assoc_at (Some u) (Some v) (Some w) ab abc e f =
    let g : JoinsAt (Some (both u v)) (Some w) abc = subst (λ x. JoinsAt x (Some w) abc) e.2 f in
    ((sym e.0 ∙ g.0, omega (arith, g.1), refl), (e.0, omega (arith, g.1), g.2 ∙ ap Some (same_cell (both (both u v) w) (both u (both v w)) refl (omega arith))))

-- (a + b) + c is a + (b + c)
pub assoc : {a b c ab abc : Heaplet} → Joins a b ab → Joins ab c abc → (bc : Heaplet) × Joins b c bc × Joins a bc abc
assoc {a} {b} {c} {ab} {abc} j i =
    let at : (x y : ℕ) → Right (a x y) (b x y) (c x y) (abc x y) = λ x y. assoc_at (a x y) (b x y) (c x y) (ab x y) (abc x y) (j.at x y) (i.at x y) in
    (join b c, record { at = λ x y. (at x y).0 }, record { at = λ x y. (at x y).1 })

-- a + (b + c) is (a + b) + c
pub assoc_back : {a b c bc abc : Heaplet} → Joins b c bc → Joins a bc abc → (ab : Heaplet) × Joins a b ab × Joins ab c abc
assoc_back j i =
    let r = assoc (comm j) (comm i) in
    (r.0, comm r.1, comm r.2)

part_at : (h F k : Option Cell) (s : Option Slot) → JoinsAt h F k → FitsAt k s → FitsAt h s
part_at None F k s j f = tt
part_at (Some c) None k s j f = subst (λ x. FitsAt x s) j f
part_at (Some c) (Some d) k None j f = absurd (subst (λ x. FitsAt x None) j.2 f)
part_at (Some c) (Some d) k (Some s) j f =
    let g : FitsAt (Some (both c d)) (Some s) = subst (λ x. FitsAt x (Some s)) j.2 f in
    (omega (arith, g.0), g.1, g.2, λ e. absurd (omega (arith, e, j.1)))

-- a part of what fits fits
pub part : {h F k : Heaplet} {m : Mem} → Joins h F k → Fits k m → Fits h m
part {h} {F} {k} {m} j f = record { at = λ x y. part_at (h x y) (F x y) (k x y) (slot m x y) (j.at x y) (f.at x y) }

right_empty_at : (h : Option Cell) → JoinsAt h None h
right_empty_at None = refl
right_empty_at (Some c) = refl

pub right_empty : (h : Heaplet) → Joins h empty h
right_empty h = record { at = λ x y. right_empty_at (h x y) }

pub left_empty : (h : Heaplet) → Joins empty h h
left_empty h = record { at = λ x y. refl }

-- what the whole has where a part has a cell: the same byte, and a share that is no less
pub record Grown (c : Cell) (k : Option Cell) : Type 0 where
  pub cell : Cell
  pub has : k ≡ Some cell
  pub byte : cell.byte ≡ c.byte
  pub less : c.less ≤ cell.less

grown_at : (c : Cell) (b k : Option Cell) → JoinsAt (Some c) b k → Grown c k
grown_at c None k j = record { cell = c; has = j; byte = refl; less = omega arith }
grown_at c (Some d) k j = record { cell = both c d; has = j.2; byte = refl; less = omega arith }

pub grown : {a b k : Heaplet} (x y : ℕ) (c : Cell) → Joins a b k → a x y ≡ Some c → Grown c (k x y)
grown {a} {b} {k} x y c j e = grown_at c (b x y) (k x y) (subst (λ o. JoinsAt o (b x y) (k x y)) e (j.at x y))

none_of_sum : (b g k : Option Cell) → JoinsAt b g k → k ≡ None → g ≡ None
none_of_sum None g k j e = sym j ∙ e
none_of_sum (Some c) None k j e = refl
none_of_sum (Some c) (Some d) k j e = cc

pub within_more : {a b k : Heaplet} {x y : ℕ} → Joins a b k → Within a x y → Within k x y
within_more {a} {b} {k} {x} {y} j w =
    let g = grown x y w.cell j w.has in
    record { cell = g.cell; has = g.has }

pub owned_more : {a b k : Heaplet} {x y : ℕ} → Joins a b k → Owned a x y → Owned k x y
owned_more {a} {b} {k} {x} {y} j w =
    let more = grown x y w.cell j w.has in
    record {
      cell = more.cell;
      has = more.has;
      alone = λ g l i.
          let r = assoc j i in
          none_of_sum (b x y) (g x y) (r.0 x y) (r.1.at x y) (w.alone r.0 l r.2);
    }

-- (a + b) + (c + d) is (a + c) + (b + d)
pub exchange : {a b c d ab cd h : Heaplet} → Joins a b ab → Joins c d cd → Joins ab cd h → (ac : Heaplet) × (bd : Heaplet) × Joins a c ac × Joins b d bd × Joins ac bd h
exchange j i l =
    let bcd = assoc j l in
    let bc = assoc_back i bcd.1 in
    let bd = assoc (comm bc.1) bc.2 in
    let ac = assoc_back bd.2 bcd.2 in
    (ac.0, bd.0, ac.1, bd.1, ac.2)
