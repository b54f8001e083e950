-- Equality up to bound names by the parts of terms and formulas.
use Rattle.std.proofs.Common.{◌≡◌, ◌↔◌, IsTrue, Bool, ℕ, zero, suc, ◌+◌, ◌<◌, List, [], ◌∷◌, length, take, get_or, refl, sym, ap, subst, ◌∙◌, arith}
use Rattle.floyd_tree_sorts.specs.declared.connectives.FormulaHead.{FormulaHead}
use Rattle.floyd_tree_sorts.specs.declared.heads.Head.{Head}
use Rattle.floyd_tree.specs.Code.{plains-listed}
use Rattle.floyd_tree.specs.FormulaCode.{formulas-listed}
use Rattle.floyd_tree.specs.Formulas.{PlainFormula, Says, listed_formulas, form_of, terms_of, formulas_of, formulas}
use Rattle.floyd_tree.specs.Plain.{Plain, At, plains, listed, head_of, kids_of}
use Rattle.floyd_truth.specs.Same.{Binders, SameHead, SameTerm, SameTerms, SameForm, below, SameUnder, AllSame}

-- a term by its head and kids
pub term_parts : (around : Binders) (t u : Plain) → SameTerm around t u ↔ (SameHead around (head_of t) (head_of u) × SameTerms around (plains (kids_of t)) (plains (kids_of u)))
term_parts around (At a ts) (At b us) =
    subst (λ ks. SameTerm around (At a ts) (At b us) ↔ (SameHead around a b × SameTerms around ks (plains (kids_of (At b us))))) (sym (plains-listed ts))
    (subst (λ ks. SameTerm around (At a ts) (At b us) ↔ (SameHead around a b × SameTerms around ts ks)) (sym (plains-listed us)) (λ h. h, λ h. h))

pub term_by_parts : (around : Binders) (a b : Plain) (h k : Head) (ts us : List Plain) (same : Bool) → h ≡ head_of a → k ≡ head_of b → ts ≡ kids_of a → us ≡ kids_of b → SameHead around h k → (IsTrue same ↔ SameTerms around (plains ts) (plains us)) → IsTrue same ↔ SameTerm around a b
term_by_parts around a b h k ts us same d e f g s p =
    let q = term_parts around a b in
    let heads : SameHead around (head_of a) (head_of b) = subst (λ x. SameHead around x (head_of b)) d (subst (λ y. SameHead around h y) e s) in
    let kids : IsTrue same ↔ SameTerms around (plains (kids_of a)) (plains (kids_of b)) = subst (λ xs. IsTrue same ↔ SameTerms around (plains xs) (plains (kids_of b))) f (subst (λ ys. IsTrue same ↔ SameTerms around (plains ts) (plains ys)) g p) in
    (λ w. q.1 (heads, kids.0 w), λ w. kids.1 (q.0 w).1)

-- a formula by its head, terms and formulas
pub under_parts : (around : Binders) (f g : PlainFormula) → SameUnder around f g ↔ (SameForm (form_of f) (form_of g) × SameTerms around (plains (terms_of f)) (plains (terms_of g)) × AllSame (below (form_of f) (form_of g) around) (formulas (formulas_of f)) (formulas (formulas_of g)))
under_parts around (Says a ts fs) (Says b us gs) =
    subst (λ xs. SameUnder around (Says a ts fs) (Says b us gs) ↔ (SameForm a b × SameTerms around xs (plains (listed us)) × AllSame (below a b around) (formulas (listed_formulas fs)) (formulas (listed_formulas gs)))) (sym (plains-listed ts))
    (subst (λ ys. SameUnder around (Says a ts fs) (Says b us gs) ↔ (SameForm a b × SameTerms around ts ys × AllSame (below a b around) (formulas (listed_formulas fs)) (formulas (listed_formulas gs)))) (sym (plains-listed us))
    (subst (λ xs. SameUnder around (Says a ts fs) (Says b us gs) ↔ (SameForm a b × SameTerms around ts us × AllSame (below a b around) xs (formulas (listed_formulas gs)))) (sym (formulas-listed fs))
    (subst (λ ys. SameUnder around (Says a ts fs) (Says b us gs) ↔ (SameForm a b × SameTerms around ts us × AllSame (below a b around) fs ys)) (sym (formulas-listed gs)) (λ h. h, λ h. h))))

pub forms_same : (around : Binders) (f g : PlainFormula) (h k : FormulaHead) → h ≡ form_of f → k ≡ form_of g → SameUnder around f g → SameForm h k
forms_same around f g h k d e s =
    subst (λ x. SameForm x k) (sym d) (subst (λ y. SameForm (form_of f) y) (sym e) ((under_parts around f g).0 s).0)

pub terms_same : (around : Binders) (f g : PlainFormula) (ts us : List Plain) → ts ≡ terms_of f → us ≡ terms_of g → SameUnder around f g → SameTerms around (plains ts) (plains us)
terms_same around f g ts us d e s =
    subst (λ xs. SameTerms around (plains xs) (plains us)) (sym d) (subst (λ ys. SameTerms around (plains (terms_of f)) (plains ys)) (sym e) ((under_parts around f g).0 s).1)

pub formulas_same : (around inner : Binders) (f g : PlainFormula) (h k : FormulaHead) (fs gs : List PlainFormula) → h ≡ form_of f → k ≡ form_of g → fs ≡ formulas_of f → gs ≡ formulas_of g → inner ≡ below h k around → AllSame inner (formulas fs) (formulas gs) ↔ AllSame (below (form_of f) (form_of g) around) (formulas (formulas_of f)) (formulas (formulas_of g))
formulas_same around inner f g h k fs gs d e m n b =
    let Q : Binders → List PlainFormula → List PlainFormula → Type 0 = λ i xs ys. AllSame i (formulas xs) (formulas ys) in
    let i : inner ≡ below (form_of f) (form_of g) around = b ∙ ap (λ x. below x k around) d ∙ ap (λ y. below (form_of f) y around) e in (
      λ q. subst (λ z. Q z (formulas_of f) (formulas_of g)) i (subst (λ z. Q inner z (formulas_of g)) m (subst (λ z. Q inner fs z) n q)),
      λ q. subst (λ z. Q z fs gs) (sym i) (subst (λ z. Q (below (form_of f) (form_of g) around) z gs) (sym m) (subst (λ z. Q (below (form_of f) (form_of g) around) (formulas_of f) z) (sym n) q)),
    )

pub formula_by_parts : (around inner : Binders) (f g : PlainFormula) (h k : FormulaHead) (ts us : List Plain) (fs gs : List PlainFormula) (same : Bool) → h ≡ form_of f → k ≡ form_of g → ts ≡ terms_of f → us ≡ terms_of g → fs ≡ formulas_of f → gs ≡ formulas_of g → inner ≡ below h k around → SameForm h k → SameTerms around (plains ts) (plains us) → (IsTrue same ↔ AllSame inner (formulas fs) (formulas gs)) → IsTrue same ↔ SameUnder around f g
formula_by_parts around inner f g h k ts us fs gs same d e p q m n b s t r =
    let all = under_parts around f g in
    let kids = formulas_same around inner f g h k fs gs d e m n b in
    let forms : SameForm (form_of f) (form_of g) = subst (λ x. SameForm x (form_of g)) d (subst (λ y. SameForm h y) e s) in
    let terms : SameTerms around (plains (terms_of f)) (plains (terms_of g)) = subst (λ xs. SameTerms around (plains xs) (plains (terms_of g))) p (subst (λ ys. SameTerms around (plains ts) (plains ys)) q t) in
    (λ w. all.1 (forms, terms, kids.0 (r.0 w)), λ w. r.1 (kids.1 (all.0 w).2))

-- lists of terms by their places
pub terms_as_many : (around : Binders) (ts us : List Plain) → SameTerms around (plains ts) (plains us) → length ts ≡ length us
terms_as_many around [] [] h = refl
terms_as_many around [] (u ∷ us) h = absurd h
terms_as_many around (t ∷ ts) [] h = absurd h
terms_as_many around (t ∷ ts) (u ∷ us) h = omega (arith, terms_as_many around ts us h.1)

pub terms_at : (around : Binders) (ts us : List Plain) (i : ℕ) (d e : Plain) → i < length ts → SameTerms around (plains ts) (plains us) → SameTerm around (get_or ts i d) (get_or us i e)
terms_at around [] us i d e l h = absurd (omega arith)
terms_at around (t ∷ ts) [] i d e l h = absurd h
terms_at around (t ∷ ts) (u ∷ us) zero d e l h = h.0
terms_at around (t ∷ ts) (u ∷ us) (suc i) d e l h = terms_at around ts us i d e (omega arith) h.1

pub terms_more : (around : Binders) (ts us : List Plain) (i j : ℕ) (d e : Plain) → j ≡ i + 1 → i < length ts → length ts ≡ length us → SameTerms around (plains (take i ts)) (plains (take i us)) → SameTerm around (get_or ts i d) (get_or us i e) → SameTerms around (plains (take j ts)) (plains (take j us))
terms_more around ts us i zero d e k l n h s = absurd (omega arith)
terms_more around [] us i (suc j) d e k l n h s = absurd (omega arith)
terms_more around (t ∷ ts) [] i (suc j) d e k l n h s = absurd (omega arith)
terms_more around (t ∷ ts) (u ∷ us) zero (suc zero) d e k l n h s = (s, tt)
terms_more around (t ∷ ts) (u ∷ us) zero (suc (suc j)) d e k l n h s = absurd (omega arith)
terms_more around (t ∷ ts) (u ∷ us) (suc i) (suc j) d e k l n h s = (h.0, terms_more around ts us i j d e (omega arith) (omega arith) (omega arith) h.1 s)

pub terms_there : (around : Binders) (ts us : List Plain) (i : ℕ) (x y : Plain) → x ≡ get_or ts i x → y ≡ get_or us i y → i < length ts → SameTerms around (plains ts) (plains us) → SameTerm around x y
terms_there around ts us i x y p q l h =
    subst (λ z. SameTerm around z y) (sym p) (subst (λ z. SameTerm around (get_or ts i x) z) (sym q) (terms_at around ts us i x y l h))

pub terms_next : (around : Binders) (ts us : List Plain) (i : ℕ) (x y : Plain) → x ≡ get_or ts i x → y ≡ get_or us i y → i < length ts → length ts ≡ length us → SameTerms around (plains (take i ts)) (plains (take i us)) → SameTerm around x y → SameTerms around (plains (take (i + 1) ts)) (plains (take (i + 1) us))
terms_next around ts us i x y p q l n h s =
    terms_more around ts us i (i + 1) x y refl l n h (subst (λ z. SameTerm around z (get_or us i y)) p (subst (λ z. SameTerm around x z) q s))

-- and of formulas
pub formulas_as_many : (around : Binders) (fs gs : List PlainFormula) → AllSame around (formulas fs) (formulas gs) → length fs ≡ length gs
formulas_as_many around [] [] h = refl
formulas_as_many around [] (g ∷ gs) h = absurd h
formulas_as_many around (f ∷ fs) [] h = absurd h
formulas_as_many around (f ∷ fs) (g ∷ gs) h = omega (arith, formulas_as_many around fs gs h.1)

pub formulas_at : (around : Binders) (fs gs : List PlainFormula) (i : ℕ) (d e : PlainFormula) → i < length fs → AllSame around (formulas fs) (formulas gs) → SameUnder around (get_or fs i d) (get_or gs i e)
formulas_at around [] gs i d e l h = absurd (omega arith)
formulas_at around (f ∷ fs) [] i d e l h = absurd h
formulas_at around (f ∷ fs) (g ∷ gs) zero d e l h = h.0
formulas_at around (f ∷ fs) (g ∷ gs) (suc i) d e l h = formulas_at around fs gs i d e (omega arith) h.1

pub formulas_more : (around : Binders) (fs gs : List PlainFormula) (i j : ℕ) (d e : PlainFormula) → j ≡ i + 1 → i < length fs → length fs ≡ length gs → AllSame around (formulas (take i fs)) (formulas (take i gs)) → SameUnder around (get_or fs i d) (get_or gs i e) → AllSame around (formulas (take j fs)) (formulas (take j gs))
formulas_more around fs gs i zero d e k l n h s = absurd (omega arith)
formulas_more around [] gs i (suc j) d e k l n h s = absurd (omega arith)
formulas_more around (f ∷ fs) [] i (suc j) d e k l n h s = absurd (omega arith)
formulas_more around (f ∷ fs) (g ∷ gs) zero (suc zero) d e k l n h s = (s, tt)
formulas_more around (f ∷ fs) (g ∷ gs) zero (suc (suc j)) d e k l n h s = absurd (omega arith)
formulas_more around (f ∷ fs) (g ∷ gs) (suc i) (suc j) d e k l n h s = (h.0, formulas_more around fs gs i j d e (omega arith) (omega arith) (omega arith) h.1 s)

pub formulas_there : (around : Binders) (fs gs : List PlainFormula) (i : ℕ) (x y : PlainFormula) → x ≡ get_or fs i x → y ≡ get_or gs i y → i < length fs → AllSame around (formulas fs) (formulas gs) → SameUnder around x y
formulas_there around fs gs i x y p q l h =
    subst (λ z. SameUnder around z y) (sym p) (subst (λ z. SameUnder around (get_or fs i x) z) (sym q) (formulas_at around fs gs i x y l h))

pub formulas_next : (around : Binders) (fs gs : List PlainFormula) (i : ℕ) (x y : PlainFormula) → x ≡ get_or fs i x → y ≡ get_or gs i y → i < length fs → length fs ≡ length gs → AllSame around (formulas (take i fs)) (formulas (take i gs)) → SameUnder around x y → AllSame around (formulas (take (i + 1) fs)) (formulas (take (i + 1) gs))
formulas_next around fs gs i x y p q l n h s =
    formulas_more around fs gs i (i + 1) x y refl l n h (subst (λ z. SameUnder around z (get_or gs i y)) p (subst (λ z. SameUnder around x z) q s))
