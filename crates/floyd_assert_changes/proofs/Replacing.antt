-- Terms after changes, by their parts.
use Rattle.std.proofs.Common.{◌≡◌, ℕ, zero, suc, ◌*◌, ◌<◌, ◌≤◌, ◌^◌, min, Bool, true, false, ◌&&◌, ◌||◌, List, [], ◌∷◌, length, get_or, map, Option, Some, None, Ok, Err, refl, sym, ◌∙◌, ap, subst, arith, true≢false}
use Rattle.std.specs.Prelude.{if◌then◌else◌, bytes_eq, bit_and, is_some, nat_le, option_and_then, Result}
use Rattle.std.specs.Int.{bit_at}
use Rattle.std.specs.List.{list_all}
use Rattle.std.specs.Map.{lookup}
use Rattle.std.specs.Option.{option_or}
use Rattle.std.proofs.lemmas.Bool.Decides.{nat_tests}
use Rattle.std.proofs.lemmas.Nat.Bits.{bit_at_and, bit_at-lt, bit_at-zero, and_pow}
use Rattle.std.proofs.lemmas.Slice.Eq.{bytes_eq-Decides}
use Rattle.floyd_tree_sorts.specs.declared.heads.Head.{Head}
use Rattle.floyd_tree_sorts.specs.declared.heads.Head.TheVariants.{Variable}
use Rattle.floyd_tree_sorts.specs.declared.sorts.Sort.{Sort}
use Rattle.floyd_tree_sorts.specs.Heads.{is_variable}
use Rattle.floyd_tree_sorts.specs.Prints.{slot}
use Rattle.floyd_tree_sorts.specs.Table.{alone}
use Rattle.floyd_tree.specs.declared.stop.MakeStop.{MakeStop}
use Rattle.floyd_tree.specs.declared.stop.MakeStop.TheVariants.{IllSorted, TooLarge, Memory}
use Rattle.floyd_tree.specs.Code.{plains-listed}
use Rattle.floyd_tree.specs.Made.{Gives, fits, fault, faults, fault_at, made, unless}
use Rattle.floyd_tree.specs.Plain.{Plain, Plains, At, Done, More, plains, listed, head_of, kids_of, mentions, mentions_in, size, sizes, height, heights}
use Rattle.floyd_tree.specs.Prints.{summary}
use Rattle.floyd_tree.specs.WellSorted.{sort_of, sorts_of}
use Rattle.floyd_tree.proofs.Faults.{within}
use Rattle.floyd_tree.proofs.Summaries.{not_mentioned}
use Rattle.floyd_tree.proofs.TermLemmas.{alone_some}
use Rattle.floyd_truth.specs.Capture.{Becomes, Put, Called, Changes}
use Rattle.floyd_truth.specs.Replace.{AllSortsAgree, SortsAgree, replaced, replaced_in, variable_as}
use Rattle.floyd_truth.proofs.InChanged.{sort_after}
use Rattle.floyd_assert_changes.specs.ChangesClauses.{IsNode, IsStill, Stays}
use Rattle.floyd_assert_changes.proofs.Stopping.{Tells}

pub replaced_all : (ch : Changes) (ts : List Plain) → plains (map (replaced ch) ts) ≡ replaced_in ch (plains ts)
replaced_all ch [] = refl
replaced_all ch (t ∷ ts) = ap (More (replaced ch t)) (replaced_all ch ts)

pub agree_at : (ch : Changes) (ts : List Plain) (i : ℕ) (d : Plain) → i < length ts → AllSortsAgree ch (plains ts) → SortsAgree ch (get_or ts i d)
agree_at ch [] i d l h = absurd (omega arith)
agree_at ch (t ∷ ts) zero d l h = h.0
agree_at ch (t ∷ ts) (suc i) d l h = agree_at ch ts i d (omega arith) h.1

pub agree_kids : (ch : Changes) (t : Plain) → SortsAgree ch t → AllSortsAgree ch (plains (kids_of t))
agree_kids ch (At head kids) h = subst (AllSortsAgree ch) (sym (plains-listed kids)) h.1

-- a term without a fault fits
second_none : (a b : Option MakeStop) → option_or a b ≡ None → b ≡ None
second_none None b e = e
second_none (Some stop) b e = absurd cc

no_fault : (a b : Bool) → (if a then (if b then None else Some TooLarge) else Some IllSorted) ≡ None → b ≡ true
no_fault true true e = refl
no_fault true false e = absurd cc
no_fault false b e = absurd cc

pub sound_fits : (t : Plain) → fault t ≡ None → fits t ≡ true
sound_fits (At head kids) e = no_fault (is_some (sort_of (At head kids))) (fits (At head kids)) (second_none (faults kids) (fault_at (At head kids)) e)

-- what is made of a node that is well sorted
made_by : (a b : Bool) (t : Plain) → a ≡ true → unless (if a then (if b then None else Some TooLarge) else Some IllSorted) t ≡ (if b then Ok t else Err TooLarge)
made_by true true t h = refl
made_by true false t h = refl
made_by false b t h = absurd cc

made_is : (t : Plain) (s : Sort) → sort_of t ≡ Some s → unless (fault_at t) t ≡ (if fits t then Ok t else Err TooLarge)
made_is t s e = made_by (is_some (sort_of t)) (fits t) t (ap is_some e)

ok_by : (b : Bool) (t u : Plain) → (if b then Ok t else Err TooLarge) ≡ Ok u → (u ≡ t) × (b ≡ true)
ok_by true t u e = (cc, refl)
ok_by false t u e = absurd cc

large_by : (b : Bool) (t : Plain) → (if b then Ok t else Err TooLarge) ≡ Err TooLarge → b ≡ false
large_by true t e = absurd cc
large_by false t e = refl

ill_by : (b : Bool) (t : Plain) → (if b then Ok t else Err TooLarge) ≡ Err IllSorted → ⊥
ill_by true t e = absurd cc
ill_by false t e = absurd cc

-- what a call answers of a term
abbrev pub Told : Result Plain MakeStop → Plain → Type 0
Told r t = Tells r t (fits t)

made_told : (r : Result Plain MakeStop) (t : Plain) (s : Sort) → sort_of t ≡ Some s → Gives r (unless (fault_at t) t) → Told r t
made_told (Ok u) t s e g = let p = ok_by (fits t) t u (sym (made_is t s e) ∙ g) in (p.0, p.1, tt)
made_told (Err IllSorted) t s e g = (tt, tt, ill_by (fits t) t (sym (made_is t s e) ∙ g))
made_told (Err TooLarge) t s e g = (tt, tt, large_by (fits t) t (sym (made_is t s e) ∙ g))
made_told (Err Memory) t s e g = (tt, tt, tt)

-- kids of a term that fits fit
bounds : (m n : ℕ) → (nat_le m 65536 && nat_le n 256) ≡ true → (m ≤ 65536) × (n ≤ 256)
bounds m n h = grind (arith, nat_tests)

pub kids_fit : (ts : List Plain) → sizes (plains ts) ≤ 65536 → heights (plains ts) ≤ 256 → list_all fits ts ≡ true
kids_fit [] l h = refl
kids_fit (t ∷ ts) l h =
    ap (λ b. b && list_all fits ts) (within (size t) (height t) (omega (arith, l)) (omega (arith, h))) ∙ kids_fit ts (omega (arith, l)) (omega (arith, h))

not_true : (b : Bool) → (b ≡ true → ⊥) → b ≡ false
not_true true h = absurd (h refl)
not_true false h = refl

unfit_kids : (head : Head) (ts : List Plain) → list_all fits ts ≡ false → fits (At head (plains ts)) ≡ false
unfit_kids head ts h =
    not_true (fits (At head (plains ts)))
    (λ e.
    let p = bounds (size (At head (plains ts))) (height (At head (plains ts))) e in
    true≢false (sym (kids_fit ts (omega (arith, p.0)) (omega (arith, p.1))) ∙ h))

-- by head and kids
node_is : (ch : Changes) (t : Plain) → IsNode (head_of t) → At (head_of t) (plains (map (replaced ch) (kids_of t))) ≡ replaced ch t
node_is ch (At (Variable x s) ts) h = absurd h
node_is ch (At head ts) h = ap (At head) (replaced_all ch (listed ts)) ∙ ap (λ ks. At head (replaced_in ch ks)) (plains-listed ts)

pub node_told : (r : Result Plain MakeStop) (ch : Changes) (t : Plain) (s : Sort) (head : Head) (kids : List Plain) → IsNode (head_of t) → head ≡ head_of t → kids ≡ map (replaced ch) (kids_of t) → sort_of t ≡ Some s → SortsAgree ch t → Gives r (made head kids) → Told r (replaced ch t)
node_told r ch t s head kids n h k e a g =
    let same : At head (plains kids) ≡ replaced ch t = ap (λ d. At d (plains kids)) h ∙ ap (λ ts. At (head_of t) (plains ts)) k ∙ node_is ch t n in
    subst (Told r) same (made_told r (At head (plains kids)) s (ap sort_of same ∙ sort_after ch t s e a) g)

pub unfit_node : (ch : Changes) (t : Plain) → IsNode (head_of t) → list_all fits (map (replaced ch) (kids_of t)) ≡ false → fits (replaced ch t) ≡ false
unfit_node ch t n h = ap fits (sym (node_is ch t n)) ∙ unfit_kids (head_of t) (map (replaced ch) (kids_of t)) h

-- a head that was seen to be no variable's
pub no_variable : (h d : Head) → h ≡ d → ((x : List ℕ) (s : Sort) → h ≡ Variable x s → ⊥) → IsNode d
no_variable h (Variable x s) e n = n x s e
no_variable h d e n = tt

-- a variable has no kids
no_kids : (x : List ℕ) (s r : Sort) (kids : Plains) → sort_of (At (Variable x s) kids) ≡ Some r → kids ≡ Done
no_kids x s r Done e = refl
no_kids x s r (More t ts) e =
    let none : sort_of (At (Variable x s) (More t ts)) ≡ None = ap (λ ks. option_and_then (alone s) (sorts_of ks)) (sym (plains-listed (More t ts))) ∙ alone_some s (t ∷ listed ts) (omega arith) in
    absurd cc

whole_variable : (t : Plain) (x : List ℕ) (s r : Sort) → head_of t ≡ Variable x s → sort_of t ≡ Some r → At (Variable x s) Done ≡ t
whole_variable (At head kids) x s r e h =
    ap (At (Variable x s)) (sym (no_kids x s r kids (ap (λ d. sort_of (At d kids)) (sym e) ∙ h)))
    ∙ ap (λ d. At d kids) (sym e)

pub replaced_variable : (ch : Changes) (t : Plain) (x : List ℕ) (s r : Sort) (o : Option Becomes) → head_of t ≡ Variable x s → sort_of t ≡ Some r → o ≡ lookup (bytes_eq x) ch → variable_as o x s Done ≡ replaced ch t
replaced_variable ch t x s r o e h k = ap (λ c. variable_as c x s Done) k ∙ ap (replaced ch) (whole_variable t x s r e h)

pub stays_whole : (ch : Changes) (t : Plain) (x : List ℕ) (s r : Sort) → head_of t ≡ Variable x s → sort_of t ≡ Some r → None ≡ lookup (bytes_eq x) ch → t ≡ replaced ch t
stays_whole ch t x s r e h k = sym (whole_variable t x s r e h) ∙ replaced_variable ch t x s r None e h k

pub called_told : (r : Result Plain MakeStop) (ch : Changes) (t : Plain) (x y z : List ℕ) (s p q : Sort) → head_of t ≡ Variable x s → sort_of t ≡ Some q → Some (Called y) ≡ lookup (bytes_eq x) ch → z ≡ y → p ≡ s → Gives r (made (Variable z p) []) → Told r (replaced ch t)
called_told r ch t x y z s p q e h k n m g =
    let same : At (Variable z p) Done ≡ replaced ch t =
    ap (λ w. At (Variable w p) Done) n ∙ ap (λ w. At (Variable y w) Done) m ∙ replaced_variable ch t x s q (Some (Called y)) e h k in
    subst (Told r) same (made_told r (At (Variable z p) Done) p refl g)

pub sound_there : (u t : Plain) → u ≡ t → fault u ≡ None → fits t ≡ true
sound_there u t e h = ap fits (sym e) ∙ sound_fits u h

-- a variable that stays
stays_as : (o : Option Becomes) (x : List ℕ) (s : Sort) (ts : Plains) → Stays o x → variable_as o x s ts ≡ At (Variable x s) ts
stays_as (Some (Put t)) x s ts h = absurd h
stays_as (Some (Called y)) x s ts h = ap (λ z. At (Variable z s) ts) h
stays_as None x s ts h = refl

or_left : (a b : Bool) → a ≡ true → (a || b) ≡ true
or_left true b h = refl
or_left false b h = absurd cc

or_right : (a b : Bool) → b ≡ true → (a || b) ≡ true
or_right true b h = refl
or_right false b h = h

abbrev AllStay : Changes → (List ℕ → Bool) → Type 0
AllStay ch occurs = (v : List ℕ) → occurs v ≡ true → Stays (lookup (bytes_eq v) ch) v

mutual
  pub stay : (ch : Changes) (t : Plain) → ((v : List ℕ) → mentions v t ≡ true → Stays (lookup (bytes_eq v) ch) v) → replaced ch t ≡ t
  stay ch (At (Variable x s) ts) h =
      stays_as (lookup (bytes_eq x) ch) x s (replaced_in ch ts) (h x (or_left (bytes_eq x x) (mentions_in x ts) ((bytes_eq-Decides x x).1 refl)))
      ∙ ap (At (Variable x s)) (stay_in ch ts (λ v e. h v (or_right (bytes_eq v x) (mentions_in v ts) e)))
  stay ch (At head ts) h = ap (At head) (stay_in ch ts (λ v e. h v (or_right (is_variable v head) (mentions_in v ts) e)))

  pub stay_in : (ch : Changes) (ts : Plains) → ((v : List ℕ) → mentions_in v ts ≡ true → Stays (lookup (bytes_eq v) ch) v) → replaced_in ch ts ≡ ts
  stay_in ch Done h = refl
  stay_in ch (More t ts) h =
      ap (λ u. More u (replaced_in ch ts)) (stay ch t (λ v e. h v (or_left (mentions v t) (mentions_in v ts) e)))
      ∙ ap (More t) (stay_in ch ts (λ v e. h v (or_right (mentions v t) (mentions_in v ts) e)))

pub no_times : (n : ℕ) → 0 * n ≡ 0
no_times n = omega arith

-- a variable that occurs has its bit in the summary, so that it has none among bits that the summary has none of
pub no_common : (all bits i : ℕ) (occurs : Bool) → bit_and all bits ≡ 0 → (bit_and all (2 ^ i) ≡ 0 → occurs ≡ false) → occurs ≡ true → bit_and bits (2 ^ i) ≡ 0
no_common all bits i occurs h k e = by (bit_at all i) refl (bit_at-lt all i)
  where
    by : (b : ℕ) → bit_at all i ≡ b → bit_at all i < 2 → bit_and bits (2 ^ i) ≡ 0
    by zero q l = absurd (true≢false (sym e ∙ k (and_pow all i ∙ ap (λ n. n * 2 ^ i) q ∙ no_times (2 ^ i))))
    by (suc b) q l =
        let low : min (bit_at all i) (bit_at bits i) ≡ 0 = sym (bit_at_and all bits i) ∙ ap (λ n. bit_at n i) h ∙ bit_at-zero i in
        let none : bit_at bits i ≡ 0 = omega (arith, low, q) in
        and_pow bits i ∙ ap (λ n. n * 2 ^ i) none ∙ no_times (2 ^ i)

pub still_is : (bits : ℕ) (ch : Changes) (t : Plain) → IsStill bits ch → bit_and (summary t) bits ≡ 0 → replaced ch t ≡ t
still_is bits ch t still h =
    stay ch t (λ v e. still v (no_common (summary t) bits (slot v) (mentions v t) h (not_mentioned v t) e))
