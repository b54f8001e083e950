-- Lists that are compared one by one, as far as a loop has come.
use Rattle.std.proofs.Common.{◌≡◌, ℕ, ◌+◌, ◌<◌, ◌≤◌, ◌↔◌, List, [], ◌∷◌, length, get_or, drop, refl, sym, ◌∙◌, ap, subst, arith}
use Rattle.std.proofs.lemmas.List.{drop_more}
use Rattle.std.proofs.Math.ListN.{drop_of_length-le}
use Rattle.floyd_tree.specs.Plain.{Plain, plains}
use Rattle.floyd_truth.specs.Same.{Binders, SameTerm, SameTerms}
use Rattle.floyd_assert.specs.AroundClauses.{inside}
use Rattle.floyd_assert_trees.specs.declared.binder.Binder.{Binder}
use Rattle.floyd_assert_meaning.specs.Same.{Pairwise, with_binders}
use Rattle.floyd_assert_meaning.specs.Settings.{binder_sorts}

pub as_many : {A : Type 0} (R : A → A → Type 0) (xs ys : List A) → Pairwise R xs ys → length xs ≡ length ys
as_many R [] [] h = omega arith
as_many R [] (y ∷ ys) h = absurd h
as_many R (x ∷ xs) [] h = absurd h
as_many R (x ∷ xs) (y ∷ ys) h = omega (arith, as_many R xs ys h.1)

module _ {A : Type 0} (R : A → A → Type 0) (xs ys : List A) (i : ℕ) (x y : A) (in_xs : i < length xs) (in_ys : i < length ys) (is : x ≡ get_or xs i x) (so : y ≡ get_or ys i y) where
  here : drop i xs ≡ x ∷ drop (i + 1) xs
  here = drop_more xs i x in_xs ∙ ap (λ z. z ∷ drop (i + 1) xs) (sym is)

  there : drop i ys ≡ y ∷ drop (i + 1) ys
  there = drop_more ys i y in_ys ∙ ap (λ z. z ∷ drop (i + 1) ys) (sym so)

  fold : R x y → Pairwise R (drop (i + 1) xs) (drop (i + 1) ys) → Pairwise R (drop i xs) (drop i ys)
  fold r h = subst (λ zs. Pairwise R zs (drop i ys)) (sym here) (subst (λ ws. Pairwise R (x ∷ drop (i + 1) xs) ws) (sym there) (r, h))

  apart : Pairwise R (drop i xs) (drop i ys) → R x y × Pairwise R (drop (i + 1) xs) (drop (i + 1) ys)
  apart h = subst (λ ws. Pairwise R (x ∷ drop (i + 1) xs) ws) there (subst (λ zs. Pairwise R zs (drop i ys)) here h)

  -- one pair more is alike
  pub one_more : (P : Type 0) → R x y → (Pairwise R (drop i xs) (drop i ys) ↔ P) → (Pairwise R (drop (i + 1) xs) (drop (i + 1) ys) ↔ P)
  one_more P r so_far = (λ h. so_far.0 (fold r h), λ p. (apart (so_far.1 p)).1)

  -- the next pair is alike where all are
  pub next : (P : Type 0) → (Pairwise R (drop i xs) (drop i ys) ↔ P) → P → R x y
  next P so_far p = (apart (so_far.1 p)).0

pub none_left : {A : Type 0} (R : A → A → Type 0) (xs ys : List A) (i : ℕ) (P : Type 0) → length xs ≤ i → length xs ≡ length ys → (Pairwise R (drop i xs) (drop i ys) ↔ P) → P
none_left R xs ys i P past same so_far =
    so_far.0
    (subst (λ zs. Pairwise R zs (drop i ys)) (sym (drop_of_length-le xs past))
    (subst (λ ws. Pairwise R [] ws) (sym (drop_of_length-le ys (let short : length ys ≤ i = omega (arith, past, same) in short))) tt))

-- ---- other forms of such facts

abbrev pub SortsSame : Binder → Binder → Type 0
SortsSame b c = b.sort ≡ c.sort

pub sorts_are : (bs cs : List Binder) → Pairwise SortsSame bs cs ↔ (binder_sorts bs ≡ binder_sorts cs)
sorts_are [] [] = (λ h. cc, λ e. tt)
sorts_are [] (c ∷ cs) = (λ h. absurd h, λ e. absurd cc)
sorts_are (b ∷ bs) [] = (λ h. absurd h, λ e. absurd cc)
sorts_are (b ∷ bs) (c ∷ cs) = (
  λ h. ap (λ s. s ∷ binder_sorts bs) h.0 ∙ ap (λ ss. c.sort ∷ ss) ((sorts_are bs cs).0 h.1),
  λ e. (let first : b.sort ≡ c.sort = cc in first, (sorts_are bs cs).1 (let rest : binder_sorts bs ≡ binder_sorts cs = cc in rest)),
)

pub terms_are : (around : Binders) (ts us : List Plain) → SameTerms around (plains ts) (plains us) ↔ Pairwise (SameTerm around) ts us
terms_are around [] [] = (λ h. tt, λ h. tt)
terms_are around [] (u ∷ us) = (λ h. absurd h, λ h. absurd h)
terms_are around (t ∷ ts) [] = (λ h. absurd h, λ h. absurd h)
terms_are around (t ∷ ts) (u ∷ us) = (λ h. (h.0, (terms_are around ts us).0 h.1), λ h. (h.0, (terms_are around ts us).1 h.1))

pub inside_is : (bs cs : List Binder) (around : Binders) → inside bs cs around ≡ with_binders around bs cs
inside_is [] cs around = refl
inside_is (b ∷ bs) [] around = refl
inside_is (b ∷ bs) (c ∷ cs) around = inside_is bs cs ((b.name, c.name) ∷ around)

-- what is so of a test and of another fact
pub either_way : (P Q : Type 0) (T : Type 0) → (T ↔ P) → (P ↔ Q) → (T ↔ Q)
either_way P Q T a b = (λ t. b.0 (a.0 t), λ q. a.1 (b.1 q))
