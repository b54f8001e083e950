-- What the parts of a linear term keep: numbers below the bound, and no term twice.
use Rattle.std.proofs.Common.{◌≡◌, true, false, ◌&&◌, List, [], ◌∷◌, map, length, get_or, Option, Some, None, ℤ, pos, negsuc, ◌*ℤ◌, refl, sym, ap, subst, ◌∙◌, inl, inr, arith}
use Rattle.std.specs.Prelude.{option_and_then}
use Rattle.std.proofs.lemmas.Bool.{cases_Bool}
use Rattle.std.proofs.lemmas.Option.{cond_some}
use Rattle.std.proofs.Math.IntN.{*ℤ-one, *ℤ_comm}
use Rattle.floyd_tree_sorts.specs.declared.heads.Head.{Head}
use Rattle.floyd_tree_sorts.specs.declared.heads.Head.TheVariants.{Literal, Operator}
use Rattle.floyd_tree_sorts.specs.declared.operators.Operator.TheVariants.{Add, Sub, Mul}
use Rattle.floyd_tree.specs.Code.{plains-listed}
use Rattle.floyd_tree.specs.Plain.{Plain, At, Done, More, plains, head_of, kids_of}
use Rattle.floyd_arith.specs.declared.unknowns.Linear.{Linear}
use Rattle.floyd_arith.specs.declared.unknowns.Unknown.{Unknown}
use Rattle.floyd_arith.specs.Certificates.{onto}
use Rattle.floyd_arith.specs.Linear.{times, more, with_unknown, with_unknowns, constant, alone, scaled, plus, minus, is_small, all_small, within, of_both, literal_of, product, linear_of}
use Rattle.floyd_arith.specs.LinearClauses.{Lacks, AreApart}
use Rattle.floyd_arith.specs.Same.{same_term}
use Rattle.floyd_arith.proofs.SameLemmas.{same_term_self}

-- below the bound
pub within_is : (a l : Linear) → within a ≡ Some l → (a ≡ l) × ((is_small a.constant && all_small a.unknowns) ≡ true)
within_is a l e = let p = cond_some (is_small a.constant && all_small a.unknowns) a l e in (p.1, p.0)

pub within_again : (a l : Linear) → within a ≡ Some l → within l ≡ Some l
within_again a l e = let p = within_is a l e in ap within (sym p.0) ∙ e

pub both_small : (f : Linear → Linear → Linear) (a b : Option Linear) (l : Linear) → of_both f a b ≡ Some l → within l ≡ Some l
both_small f (Some a) (Some b) l e = within_again (f a b) l e
both_small f (Some a) None l e = absurd cc
both_small f None b l e = absurd cc

pub onto_small : (sum next : Linear) (w : ℤ) (o : Option Linear) → option_and_then (onto sum w) o ≡ Some next → within next ≡ Some next
onto_small sum next w (Some d) e = within_again (plus sum (scaled w d)) next e
onto_small sum next w None e = absurd cc

alone_small : (t : Plain) (l : Linear) → Some (alone t) ≡ Some l → within l ≡ Some l
alone_small t l e = let same : alone t ≡ l = cc in ap within (sym same) ∙ e

product_small : (t : Plain) (j k : Option ℤ) (a b : Option Linear) (l : Linear) → product t j k a b ≡ Some l → within l ≡ Some l
product_small t (Some j) k a b l e = both_small (λ x y. scaled j y) a b l e
product_small t None (Some k) a b l e = both_small (λ x y. scaled k y) b a l e
product_small t None None a b l e = alone_small t l e

pub linear_small : (t : Plain) (l : Linear) → linear_of t ≡ Some l → within l ≡ Some l
linear_small (At (Literal z) kids) l e = within_again (constant z) l e
linear_small (At (Operator Add) (More a (More b Done))) l e = both_small plus (linear_of a) (linear_of b) l e
linear_small (At (Operator Sub) (More a (More b Done))) l e = both_small minus (linear_of a) (linear_of b) l e
linear_small (At (Operator Mul) (More a (More b Done))) l e =
    product_small (At (Operator Mul) (More a (More b Done))) (literal_of a) (literal_of b) (linear_of a) (linear_of b) l e
linear_small t l e = alone_small t l e

-- no term twice
lacks_after : (t : Plain) (us : List Unknown) (u : Unknown) → Lacks t us → ¬ (u.term ≡ t) → Lacks t (with_unknown us u)
lacks_after t [] u n h = (h, tt)
lacks_after t (v ∷ us) u n h = elim (cases_Bool (same_term v.term u.term)) [
  | inl s ↦ rw s (n.0, n.1)
  | inr s ↦ rw s (n.0, lacks_after t us u n.1 h)
]

pub apart_after : (us : List Unknown) (u : Unknown) → AreApart us → AreApart (with_unknown us u)
apart_after [] u a = (tt, tt)
apart_after (v ∷ us) u a = elim (cases_Bool (same_term v.term u.term)) [
  | inl s ↦ rw s (a.0, a.1)
  | inr s ↦
      let other : ¬ (u.term ≡ v.term) = λ e. let same = ap (λ x. same_term v.term x) e ∙ same_term_self v.term in let wrong : false ≡ true = sym s ∙ same in cc in
      rw s (lacks_after v.term us u a.0 other, apart_after us u a.1)
]

pub apart_all : (us more : List Unknown) → AreApart us → AreApart (with_unknowns us more)
apart_all us [] a = a
apart_all us (u ∷ more) a = apart_all (with_unknown us u) more (apart_after us u a)

lacks_scaled : (t : Plain) (k : ℤ) (us : List Unknown) → Lacks t us → Lacks t (map (times k) us)
lacks_scaled t k [] n = tt
lacks_scaled t k (u ∷ us) n = (n.0, lacks_scaled t k us n.1)

pub apart_scaled : (k : ℤ) (us : List Unknown) → AreApart us → AreApart (map (times k) us)
apart_scaled k [] a = tt
apart_scaled k (u ∷ us) a = (lacks_scaled u.term k us a.0, apart_scaled k us a.1)

abbrev Apart : Linear → Type 0
Apart l = AreApart l.unknowns

within_apart : (a l : Linear) → Apart a → within a ≡ Some l → Apart l
within_apart a l h e = subst Apart (within_is a l e).0 h

both_apart : (f : Linear → Linear → Linear) → ((x y : Linear) → Apart x → Apart y → Apart (f x y)) → (a b : Option Linear) (l : Linear) → ((x : Linear) → a ≡ Some x → Apart x) → ((y : Linear) → b ≡ Some y → Apart y) → of_both f a b ≡ Some l → Apart l
both_apart f keeps (Some a) (Some b) l p q e = within_apart (f a b) l (keeps a b (p a refl) (q b refl)) e
both_apart f keeps (Some a) None l p q e = absurd cc
both_apart f keeps None b l p q e = absurd cc

alone_apart : (t : Plain) (l : Linear) → Some (alone t) ≡ Some l → Apart l
alone_apart t l e = let same : alone t ≡ l = cc in subst Apart same (tt, tt)

product_apart : (t : Plain) (j k : Option ℤ) (a b : Option Linear) (l : Linear) → ((x : Linear) → a ≡ Some x → Apart x) → ((y : Linear) → b ≡ Some y → Apart y) → product t j k a b ≡ Some l → Apart l
product_apart t (Some j) k a b l p q e = both_apart (λ x y. scaled j y) (λ x y h i. apart_scaled j y.unknowns i) a b l p q e
product_apart t None (Some k) a b l p q e = both_apart (λ x y. scaled k y) (λ x y h i. apart_scaled k y.unknowns i) b a l q p e
product_apart t None None a b l p q e = alone_apart t l e

pub linear_apart : (t : Plain) (l : Linear) → linear_of t ≡ Some l → AreApart l.unknowns
linear_apart (At (Literal z) kids) l e = within_apart (constant z) l tt e
linear_apart (At (Operator Add) (More a (More b Done))) l e =
    both_apart plus (λ x y h i. apart_all x.unknowns y.unknowns h) (linear_of a) (linear_of b) l (linear_apart a) (linear_apart b) e
linear_apart (At (Operator Sub) (More a (More b Done))) l e =
    both_apart minus (λ x y h i. apart_all x.unknowns (map (times (negsuc 0)) y.unknowns) h) (linear_of a) (linear_of b) l (linear_apart a) (linear_apart b) e
linear_apart (At (Operator Mul) (More a (More b Done))) l e =
    product_apart (At (Operator Mul) (More a (More b Done))) (literal_of a) (literal_of b) (linear_of a) (linear_of b) l (linear_apart a) (linear_apart b) e
linear_apart t l e = alone_apart t l e

pub one_times : (z : ℤ) → pos 1 *ℤ z ≡ z
unfolding lib.IntN.one
one_times z = *ℤ_comm (pos 1) z ∙ *ℤ-one z

-- one times a linear term is the term
times_one : (us : List Unknown) → map (times (pos 1)) us ≡ us
times_one [] = refl
times_one (u ∷ us) = ap (λ z. record { term = u.term; coefficient = z } ∷ map (times (pos 1)) us) (one_times u.coefficient) ∙ ap (λ vs. u ∷ vs) (times_one us)

scaled_one : (a : Linear) → scaled (pos 1) a ≡ a
scaled_one a =
    ap (λ z. record { constant = z; unknowns = map (times (pos 1)) a.unknowns }) (one_times a.constant) ∙ ap (λ us. record { constant = a.constant; unknowns = us }) (times_one a.unknowns)

pub plus_once : (a b : Option Linear) → of_both (λ x y. plus x (scaled (pos 1) y)) a b ≡ of_both plus a b
plus_once (Some a) (Some b) = ap (λ y. within (plus a y)) (scaled_one b)
plus_once (Some a) None = refl
plus_once None b = refl

-- how a term is taken apart
pub node_is : (t : Plain) (head : Head) (ks : List Plain) → head_of t ≡ head → kids_of t ≡ ks → t ≡ At head (plains ks)
node_is (At head kids) h ks e f = ap (λ x. At x kids) e ∙ ap (At h) (sym (plains-listed kids) ∙ ap plains f)

pub two_items : (ks : List Plain) (a b : Plain) → length ks ≡ 2 → a ≡ get_or ks 0 a → b ≡ get_or ks 1 b → ks ≡ a ∷ b ∷ []
two_items [] a b n e f = absurd cc
two_items (x ∷ []) a b n e f = absurd (omega arith)
two_items (x ∷ y ∷ []) a b n e f = ap (λ z. z ∷ y ∷ []) (sym e) ∙ ap (λ z. a ∷ z ∷ []) (sym f)
two_items (x ∷ y ∷ z ∷ ks) a b n e f = absurd (omega arith)

literal_linear : (t : Plain) (k : ℤ) → literal_of t ≡ Some k → linear_of t ≡ within (constant k)
literal_linear (At (Literal z) kids) k e = let same : z ≡ k = cc in ap (λ x. within (constant x)) same
literal_linear t k e = absurd cc

-- a literal times the other side
pub product_left : (t a b : Plain) (k : ℤ) (right : Option ℤ) → literal_of a ≡ Some k → of_both (λ x y. scaled k y) (within (constant k)) (linear_of b) ≡ product t (literal_of a) right (linear_of a) (linear_of b)
product_left t a b k right e = rw e (ap (λ x. of_both (λ x y. scaled k y) x (linear_of b)) (sym (literal_linear a k e)))

pub product_right : (t a b : Plain) (k : ℤ) → literal_of a ≡ None → literal_of b ≡ Some k → of_both (λ x y. scaled k y) (within (constant k)) (linear_of a) ≡ product t (literal_of a) (literal_of b) (linear_of a) (linear_of b)
product_right t a b k n e = rw (n, e) (ap (λ x. of_both (λ x y. scaled k y) x (linear_of a)) (sym (literal_linear b k e)))
