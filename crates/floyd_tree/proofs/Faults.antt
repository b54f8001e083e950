-- A term that is well sorted and within the limits has no fault.
use Rattle.std.proofs.Common.{◌≡◌, ℕ, ◌≤◌, true, ◌&&◌, List, Option, Some, None, refl, ap, sym, ◌∙◌, arith}
use Rattle.std.specs.Prelude.{option_and_then, is_some, nat_le, if◌then◌else◌}
use Rattle.std.specs.Option.{option_or}
use Rattle.std.proofs.lemmas.Bool.Decides.{nat_tests}
use Rattle.floyd_tree_sorts.specs.declared.sorts.Sort.{Sort}
use Rattle.floyd_tree.specs.declared.stop.MakeStop.TheVariants.{IllSorted, TooLarge}
use Rattle.floyd_tree.specs.declared.stop.MakeStop.{MakeStop}
use Rattle.floyd_tree.specs.declared.term.TermNode.{TermNode}
use Rattle.floyd_tree.specs.Stored.{IsStored, plain}
use Rattle.floyd_tree.specs.Made.{fits, fault, faults, fault_at}
use Rattle.floyd_tree.specs.Plain.{Plain, Plains, At, Done, More, plains, size, sizes, height, heights}
use Rattle.floyd_tree_sorts.specs.Table.{sort_at}
use Rattle.floyd_tree.specs.WellSorted.{sort_of, sorts_of, with_first}

some_when : {A B : Type 0} (f : A → Option B) (o : Option A) (b : B) → option_and_then f o ≡ Some b → (a : A) × (o ≡ Some a)
some_when f (Some a) b e = (a, refl)
some_when f None b e = absurd cc

first_when : (first : Option Sort) (more : Option (List Sort)) (ss : List Sort) → with_first first more ≡ Some ss → ((a : Sort) × (first ≡ Some a)) × ((rest : List Sort) × (more ≡ Some rest))
first_when (Some a) (Some rest) ss e = ((a, refl), (rest, refl))
first_when (Some a) None ss e = absurd cc
first_when None more ss e = absurd cc

-- within the limits
pub within : (m n : ℕ) → m ≤ 65536 → n ≤ 256 → (nat_le m 65536 && nat_le n 256) ≡ true
within m n small low = grind (arith, nat_tests)

no_fault_at : (t : Plain) (s : Sort) → sort_of t ≡ Some s → size t ≤ 65536 → height t ≤ 256 → fault_at t ≡ None
no_fault_at t s e small low =
    ap (λ o. if is_some o then (if fits t then None else Some TooLarge) else Some IllSorted) e
    ∙ ap (λ b. if b then None else Some TooLarge) (within (size t) (height t) small low)

mutual
  pub sound : (t : Plain) (s : Sort) → sort_of t ≡ Some s → size t ≤ 65536 → height t ≤ 256 → fault t ≡ None
  sound (At head kids) s e small low =
      let ss = some_when (sort_at head) (sorts_of kids) s e in
      ap (λ o. option_or o (fault_at (At head kids))) (sounds kids ss.0 ss.1 (omega arith) (omega arith))
      ∙ no_fault_at (At head kids) s e small low

  pub sounds : (ts : Plains) (ss : List Sort) → sorts_of ts ≡ Some ss → sizes ts ≤ 65536 → heights ts ≤ 256 → faults ts ≡ None
  sounds Done ss e small low = refl
  sounds (More t ts) ss e small low =
      let p = first_when (sort_of t) (sorts_of ts) ss e in
      ap (λ o. option_or o (faults ts)) (sound t p.0.0 p.0.1 (omega arith) (omega arith))
      ∙ sounds ts p.1.0 p.1.1 (omega arith) (omega arith)

-- so a term that was made has none
pub stored_sound : (a : TermNode) (t : Plain) → IsStored a → plain a ≡ t → fault t ≡ None
stored_sound a t h e = ap fault (sym e) ∙ sound (plain a) a.sort h.sort (omega arith) (omega arith)

none_first : (a b : Option MakeStop) → option_or a b ≡ None → a ≡ None
none_first None b e = refl
none_first (Some stop) b e = absurd cc

pub stored_kids_sound : (a b : TermNode) → IsStored a → a ≡ b → faults (plains b.kids) ≡ None
stored_kids_sound a b h e =
    ap (λ (n : TermNode). faults (plains n.kids)) (sym e)
    ∙ none_first (faults (plains a.kids)) (fault_at (plain a)) (stored_sound a (plain a) h refl)
