-- Equations and inequalities that may be made of the terms of an equation, and of their arguments.
use Rattle.std.proofs.Common.{◌≡◌, ℕ, zero, suc, ◌+◌, ◌<◌, ◌≤◌, ◌++◌, min, drop, get_or, add-one, append-nil, true, ◌&&◌, cond, List, [], ◌∷◌, length, Option, Some, None, refl, sym, ap, ap₂, subst, ◌∙◌, arith}
use Rattle.std.specs.Prelude.{option_and_then, nat_eq}
use Rattle.std.proofs.lemmas.List.Elements.{All-cons, All-head, All-nil, All-tail}
use Rattle.floyd_tree_sorts.specs.declared.connectives.FormulaHead.{FormulaHead}
use Rattle.floyd_tree_sorts.specs.declared.connectives.FormulaHead.TheVariants as f
use Rattle.floyd_tree_sorts.specs.declared.heads.Head.{Head}
use Rattle.floyd_tree_sorts.specs.declared.heads.Head.TheVariants as h
use Rattle.floyd_tree_sorts.specs.declared.operators.Operator.TheVariants as o
use Rattle.floyd_tree_sorts.specs.declared.sorts.Sort.{Sort, Z}
use Rattle.floyd_tree_sorts.specs.Operators.{row}
use Rattle.floyd_tree_sorts.specs.Rows.{takes}
use Rattle.floyd_tree_sorts.specs.Sorts.{same_sort, list_sort, tree_sort, item_sort, node_sort, first_sort, second_sort}
use Rattle.floyd_tree_sorts.specs.Table.{alone, sort_at}
use Rattle.floyd_tree_sorts.proofs.RowLemmas.{row_taken}
use Rattle.floyd_tree_sorts.proofs.SortLemmas.{both_true, same_sort_self, same_sort_true}
use Rattle.floyd_tree.specs.Formulas.{PlainFormula, PlainFormulas, Says, formula_height, formula_size, listed_formulas, takes_all, well_sorted}
use Rattle.floyd_tree.specs.declared.stop.MakeStop.TheVariants.{IllSorted, TooLarge}
use Rattle.floyd_tree.specs.MadeFormulas.{formula_fault_at, formula_fits}
use Rattle.floyd_tree.specs.Plain.{Plain, Plains, At, Done, More, head_of, height, heights, kids_of, listed, size, sizes}
use Rattle.floyd_tree.specs.WellSorted.{sort_of, sorts_of, with_first}
use Rattle.floyd_tree.proofs.Faults.{within}
use Rattle.floyd_goal_formulas.specs.Said.{Equation, said}
use Rattle.floyd_goal_formulas.proofs.Values.{first_some, sorted}
use Rattle.floyd_pure_quantifiers.specs.EquationsClauses.{AreMade, two}
use Rattle.floyd_pure_quantifiers.specs.Inject.{are_alike, equal, equations}
use Rattle.floyd_pure_formulas.specs.Instances.{is_sort}
use Rattle.floyd_pure_formulas.proofs.Shapes.{equation}
use Rattle.floyd_pure_formulas.proofs.Substituting.{is_sort_is}

-- the terms of an equation: of one sort, and smaller than it
pub record Equated (a b : Plain) : Type 0 where
  pub sort : Sort
  pub left : sort_of a ≡ Some sort
  pub right : sort_of b ≡ Some sort
  pub small : size a + size b < 65536
  pub first_low : height a < 256
  pub second_low : height b < 256

pub sides_sorted : (u v : Plain) (fs : PlainFormulas) → well_sorted (Says f.Equal (More u (More v Done)) fs) ≡ true → (s : Sort) × (sort_of u ≡ Some s) × (sort_of v ≡ Some s)
sides_sorted u v fs w =
    let s = sorted f.Equal (More u (More v Done)) fs w in
    let p = first_some (sort_of u) (sorts_of (More v Done)) s.sorts s.are in
    let q = first_some (sort_of v) (sorts_of Done) p.1 p.3 in
    let none' : q.1 ≡ [] = cc (q.3) in
    let are : s.sorts ≡ p.0 ∷ q.0 ∷ [] = p.4 ∙ ap (λ x. p.0 ∷ x) (q.4 ∙ ap (λ x. q.0 ∷ x) none') in
    let n = length (listed_formulas fs) in
    let h : takes f.Equal (p.0 ∷ q.0 ∷ []) n ≡ true = subst (λ x. takes f.Equal x n ≡ true) are s.taken in
    let same : p.0 ≡ q.0 = same_sort_true p.0 q.0 (both_true (nat_eq n 0) (same_sort p.0 q.0) h).1 in
    (p.0, p.2, q.2 ∙ ap (λ x. Some x) (sym same))

pub equated : (a : PlainFormula) (u v : Plain) → said a ≡ Equation u v → well_sorted a ≡ true → formula_size a ≤ 65536 → formula_height a ≤ 256 → Equated u v
equated a u v e w small low =
    let i = equation u v a e in
    from i.kids (subst (λ b. well_sorted b ≡ true) i.is w) (subst (λ b. formula_size b ≤ 65536) i.is small) (subst (λ b. formula_height b ≤ 256) i.is low)
  where
    from : (fs : PlainFormulas) → well_sorted (Says f.Equal (More u (More v Done)) fs) ≡ true → formula_size (Says f.Equal (More u (More v Done)) fs) ≤ 65536 → formula_height (Says f.Equal (More u (More v Done)) fs) ≤ 256 → Equated u v
    from fs w small low =
        let s = sides_sorted u v fs w in
        record { sort = s.0; left = s.1; right = s.2; small = omega (arith, small); first_low = omega (arith, low); second_low = omega (arith, low) }

-- a formula of two terms of these sorts may be made
two_sound : (head : FormulaHead) (u v : Plain) (s r : Sort) → sort_of u ≡ Some s → sort_of v ≡ Some r → takes_all head (Some (s ∷ r ∷ [])) 0 ≡ true → size u + size v < 65536 → height u < 256 → height v < 256 → formula_fault_at (two head u v) ≡ None
two_sound head u v s r e g h small low lower =
    let sorts : sorts_of (More u (More v Done)) ≡ Some (s ∷ r ∷ []) = ap₂ (λ p q. with_first p (with_first q (Some []))) e g in
    let taken : takes_all head (sorts_of (More u (More v Done))) 0 ≡ true = ap (λ o. takes_all head o 0) sorts ∙ h in
    let w : well_sorted (two head u v) ≡ true = ap (λ b. b && true) taken in
    let fits : formula_fits (two head u v) ≡ true = within (formula_size (two head u v)) (formula_height (two head u v)) (omega (arith, small)) (omega (arith, low, lower)) in
    ap₂ (λ p q. cond p (cond q None (Some TooLarge)) (Some IllSorted)) w fits

-- an equation of numbers, as both inequalities
pub at_most_made : (u v : Plain) → Equated u v → sort_of u ≡ Some Z → (formula_fault_at (two f.AtMost u v) ≡ None) × (formula_fault_at (two f.AtMost v u) ≡ None)
at_most_made u v e z =
    let same : e.sort ≡ Z = cc (e.left, z) in
    let right : sort_of v ≡ Some Z = e.right ∙ ap (λ s. Some s) same in (
      two_sound f.AtMost u v Z Z z right refl e.small e.first_low e.second_low,
      two_sound f.AtMost v u Z Z right z refl (omega (arith, e.small)) e.second_low e.first_low,
    )

-- what `split` needs: an equation of numbers gives both inequalities
halves : (a : PlainFormula) (u v : Plain) → Equation u v ≡ said a → well_sorted a ≡ true → formula_size a ≤ 65536 → formula_height a ≤ 256 → is_sort Z (sort_of u) ≡ true → (formula_fault_at (two f.AtMost u v) ≡ None) × (formula_fault_at (two f.AtMost v u) ≡ None)
halves a u v e w small low z = at_most_made u v (equated a u v (sym e) w small low) (is_sort_is Z (sort_of u) z)

pub left_half : (a : PlainFormula) (u v : Plain) → Equation u v ≡ said a → well_sorted a ≡ true → formula_size a ≤ 65536 → formula_height a ≤ 256 → is_sort Z (sort_of u) ≡ true → formula_fault_at (two f.AtMost u v) ≡ None
left_half a u v e w small low z = (halves a u v e w small low z).0

pub right_half : (a : PlainFormula) (u v : Plain) → Equation u v ≡ said a → well_sorted a ≡ true → formula_size a ≤ 65536 → formula_height a ≤ 256 → is_sort Z (sort_of u) ≡ true → formula_fault_at (two f.AtMost v u) ≡ None
right_half a u v e w small low z = (halves a u v e w small low z).1

none_alone : (s r : Sort) (sorts : List Sort) → alone s sorts ≡ Some r → sorts ≡ []
none_alone s r [] e = refl
none_alone s r (a ∷ sorts) e = absurd cc

-- heads that are the same constructor
pub data Alike : Head → Head → Type 0 where
  nils : {s r : Sort} → Alike (h.Nil s) (h.Nil r)
  leaves : {s r : Sort} → Alike (h.Leaf s) (h.Leaf r)
  conses : Alike (h.Operator o.Cons) (h.Operator o.Cons)
  nodes : Alike (h.Operator o.Node) (h.Operator o.Node)
  pairs : Alike (h.Operator o.Pair) (h.Operator o.Pair)

pub alike : (a b : Head) → are_alike a b ≡ true → Alike a b
alike (h.Nil s) (h.Nil r) e = nils
alike (h.Leaf s) (h.Leaf r) e = leaves
alike (h.Operator o.Cons) (h.Operator o.Cons) e = conses
alike (h.Operator o.Node) (h.Operator o.Node) e = nodes
alike (h.Operator o.Pair) (h.Operator o.Pair) e = pairs
alike a b e = absurd cc

-- the same constructor takes arguments of the same sorts to one sort
pub alike_sorts : {a b : Head} → Alike a b → (ss rs : List Sort) (t : Sort) → sort_at a ss ≡ Some t → sort_at b rs ≡ Some t → ss ≡ rs
alike_sorts (nils {s = s} {r = r}) ss rs t p q = none_alone (list_sort s) t ss p ∙ sym (none_alone (list_sort r) t rs q)
alike_sorts (leaves {s = s} {r = r}) ss rs t p q = none_alone (tree_sort s) t ss p ∙ sym (none_alone (tree_sort r) t rs q)
alike_sorts conses ss rs t p q =
    let k = row_taken (row o.Cons) ss t p in
    let l = row_taken (row o.Cons) rs t q in
    let items : Some k.0 ≡ Some l.0 = ap item_sort (k.3 ∙ sym l.3) in
    let same : k.0 ≡ l.0 = cc (items) in
    sym k.2 ∙ ap (λ s. s ∷ list_sort s ∷ []) same ∙ l.2
alike_sorts nodes ss rs t p q =
    let k = row_taken (row o.Node) ss t p in
    let l = row_taken (row o.Node) rs t q in
    let items : Some k.0 ≡ Some l.0 = ap node_sort (k.3 ∙ sym l.3) in
    let same : k.0 ≡ l.0 = cc (items) in
    sym k.2 ∙ ap (λ s. tree_sort s ∷ s ∷ tree_sort s ∷ []) same ∙ l.2
alike_sorts pairs ss rs t p q =
    let k = row_taken (row o.Pair) ss t p in
    let l = row_taken (row o.Pair) rs t q in
    let firsts : Some k.0 ≡ Some l.0 = ap first_sort (k.3 ∙ sym l.3) in
    let seconds : Some k.1 ≡ Some l.1 = ap second_sort (k.3 ∙ sym l.3) in
    let first : k.0 ≡ l.0 = cc (firsts) in
    let second : k.1 ≡ l.1 = cc (seconds) in
    sym k.2 ∙ ap₂ (λ s r. s ∷ r ∷ []) first second ∙ l.2

pub kid_sorts : (a : Head) (ts : Plains) (s : Sort) → sort_of (At a ts) ≡ Some s → (ss : List Sort) × (sorts_of ts ≡ Some ss) × (sort_at a ss ≡ Some s)
kid_sorts a ts s e = by (sorts_of ts) refl e
  where
    by : (o : Option (List Sort)) → sorts_of ts ≡ o → option_and_then (sort_at a) o ≡ Some s → (ss : List Sort) × (sorts_of ts ≡ Some ss) × (sort_at a ss ≡ Some s)
    by (Some ss) i e = (ss, i, e)
    by None i e = absurd cc

-- equations of terms of the same sorts, one by one
equations_made : (ts us : Plains) (ss : List Sort) → sorts_of ts ≡ Some ss → sorts_of us ≡ Some ss → sizes ts + sizes us < 65536 → heights ts < 256 → heights us < 256 → AreMade (equations (listed ts) (listed us))
equations_made Done us ss p q small low lower = All-nil (λ a. formula_fault_at a ≡ None)
equations_made (More t ts) Done ss p q small low lower = All-nil (λ a. formula_fault_at a ≡ None)
equations_made (More t ts) (More u us) ss p q small low lower =
    let k = first_some (sort_of t) (sorts_of ts) ss p in
    let l = first_some (sort_of u) (sorts_of us) ss q in
    let both : k.0 ∷ k.1 ≡ l.0 ∷ l.1 = sym k.4 ∙ l.4 in
    let first : l.0 ≡ k.0 = cc in
    let rest : l.1 ≡ k.1 = cc in
    All-cons (λ a. formula_fault_at a ≡ None) (two f.Equal t u) (equations (listed ts) (listed us))
    (two_sound f.Equal t u k.0 k.0 k.2 (l.2 ∙ ap (λ s. Some s) first) (same_sort_self k.0) (omega (arith, small)) (omega (arith, low)) (omega (arith, lower)))
    (equations_made ts us k.1 k.3 (l.3 ∙ ap (λ s. Some s) rest) (omega (arith, small)) (omega (arith, low)) (omega (arith, lower)))

-- the arguments of the sides of an equation that have the same constructor
pub arguments_made : (u v : Plain) → Equated u v → Alike (head_of u) (head_of v) → AreMade (equations (kids_of u) (kids_of v))
arguments_made (At a ts) (At b us) e al =
    let k = kid_sorts a ts e.sort e.left in
    let l = kid_sorts b us e.sort e.right in
    let same : l.0 ≡ k.0 = sym (alike_sorts al k.0 l.0 e.sort k.2 l.2) in
    equations_made ts us k.0 k.1 (l.1 ∙ ap (λ s. Some s) same) (omega (arith, e.small)) (omega (arith, e.first_low)) (omega (arith, e.second_low))

equations_nil : (ts : List Plain) → equations ts [] ≡ []
equations_nil [] = refl
equations_nil (t ∷ ts) = refl

drop_nil : (i : ℕ) → ◌≡◌ {A = List Plain} (drop i []) []
drop_nil zero = refl
drop_nil (suc i) = refl

-- none are left behind the shorter list
pub equations_end : (ts us : List Plain) (i : ℕ) → min (length ts) (length us) ≤ i → equations (drop i ts) (drop i us) ≡ []
equations_end [] us i h = ap (λ x. equations x (drop i us)) (drop_nil i)
equations_end (t ∷ ts) [] i h = ap (equations (drop i (t ∷ ts))) (drop_nil i) ∙ equations_nil (drop i (t ∷ ts))
equations_end (t ∷ ts) (u ∷ us) zero h = absurd (omega (arith, h))
equations_end (t ∷ ts) (u ∷ us) (suc i) h = equations_end ts us i (omega (arith, h))

-- the loop is at its end
pub finished : (all : List PlainFormula) (ts us : List Plain) (i : ℕ) → all ++ equations (drop i ts) (drop i us) ≡ equations ts us → min (length ts) (length us) ≤ i → all ≡ equations ts us
finished all ts us i e h = sym (append-nil all) ∙ ap (λ x. all ++ x) (sym (equations_end ts us i h)) ∙ e

equations_at : (ts us : List Plain) (i : ℕ) (t u : Plain) → i < length ts → i < length us → t ≡ get_or ts i t → u ≡ get_or us i u → equations (drop i ts) (drop i us) ≡ equal t u ∷ equations (drop (suc i) ts) (drop (suc i) us)
equations_at [] us i t u h k p q = absurd (omega (arith, h))
equations_at (a ∷ ts) [] i t u h k p q = absurd (omega (arith, k))
equations_at (a ∷ ts) (b ∷ us) zero t u h k p q = ap₂ (λ x y. equal x y ∷ equations ts us) (sym p) (sym q)
equations_at (a ∷ ts) (b ∷ us) (suc i) t u h k p q = equations_at ts us i t u (omega (arith, h)) (omega (arith, k)) p q

-- the next equation may be made, and those behind it
pub next_made : (ts us : List Plain) (i : ℕ) (t u : Plain) → i < length ts → i < length us → t ≡ get_or ts i t → u ≡ get_or us i u → AreMade (equations (drop i ts) (drop i us)) → (formula_fault_at (two f.Equal t u) ≡ None) × AreMade (equations (drop (i + 1) ts) (drop (i + 1) us)) × (equations (drop i ts) (drop i us) ≡ equal t u ∷ equations (drop (i + 1) ts) (drop (i + 1) us))
next_made ts us i t u h k p q made =
    let e : equations (drop i ts) (drop i us) ≡ equal t u ∷ equations (drop (i + 1) ts) (drop (i + 1) us) =
    equations_at ts us i t u h k p q ∙ ap (λ n. equal t u ∷ equations (drop n ts) (drop n us)) (sym (add-one i)) in
    let all : AreMade (equal t u ∷ equations (drop (i + 1) ts) (drop (i + 1) us)) = subst AreMade e made in
    let rest = equations (drop (i + 1) ts) (drop (i + 1) us) in
    (All-head (λ a. formula_fault_at a ≡ None) (equal t u) rest all, All-tail (λ a. formula_fault_at a ≡ None) (equal t u) rest all, e)

seam : (all : List PlainFormula) (x : PlainFormula) (rest : List PlainFormula) → (all ++ x ∷ []) ++ rest ≡ all ++ x ∷ rest
seam [] x rest = refl
seam (a ∷ all) x rest = ap (λ l. a ∷ l) (seam all x rest)

pub one_more : (all : List PlainFormula) (x : PlainFormula) (rest whole goal now : List PlainFormula) → all ++ whole ≡ goal → whole ≡ x ∷ rest → now ≡ all ++ x ∷ [] → now ++ rest ≡ goal
one_more all x rest whole goal now p q r = ap (λ n. n ++ rest) r ∙ seam all x rest ∙ ap (λ w. all ++ w) (sym q) ∙ p

-- what the call needs of the arguments of an equation's sides
pub injectable : (a : PlainFormula) (u v : Plain) (g h : Head) (ts us : List Plain) → Equation u v ≡ said a → well_sorted a ≡ true → formula_size a ≤ 65536 → formula_height a ≤ 256 → g ≡ head_of u → h ≡ head_of v → are_alike g h ≡ true → ts ≡ kids_of u → us ≡ kids_of v → AreMade (equations ts us)
injectable a u v g h ts us e w small low p q al k l =
    let same = sym e in
    let made = arguments_made u v (equated a u v same w small low) (alike (head_of u) (head_of v) (ap₂ (λ x y. are_alike x y) (sym p) (sym q) ∙ al)) in
    subst (λ x. AreMade (equations x us)) (sym k) (subst (λ x. AreMade (equations (kids_of u) x)) (sym l) made)
