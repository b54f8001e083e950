-- The new name of a binder captures nothing and is captured by nothing.
use Rattle.std.proofs.Common.{◌≡◌, ℕ, ◌+◌, ◌<◌, ◌≤◌, ◌^◌, Bool, true, false, not, ◌&&◌, ◌||◌, ◌⊎◌, inl, inr, List, [], ◌∷◌, ◌++◌, length, Option, Some, None, refl, sym, ◌∙◌, ap, subst, arith, true≢false}
use Rattle.std.specs.Prelude.{if◌then◌else◌, bytes_eq, cond}
use Rattle.std.specs.List.{list_any}
use Rattle.std.specs.Map.{lookup}
use Rattle.std.proofs.lemmas.List.{length-append}
use Rattle.std.proofs.lemmas.List.Folds.{list_any-append}
use Rattle.std.proofs.lemmas.Slice.Eq.{bytes_eq-Decides}
use Rattle.floyd_tree_sorts.specs.declared.connectives.FormulaHead.{FormulaHead}
use Rattle.floyd_tree_sorts.specs.declared.connectives.FormulaHead.TheVariants.{Forall, Exists}
use Rattle.floyd_tree_sorts.specs.declared.heads.Head.{Head}
use Rattle.floyd_tree_sorts.specs.declared.heads.Head.TheVariants.{Variable}
use Rattle.floyd_tree_sorts.specs.Heads.{binds, is_variable}
use Rattle.floyd_tree.specs.Formulas.{PlainFormula, PlainFormulas, Says, NoFormula, MoreFormulas, formula_mentions, formulas_mention, formula_size, formula_sizes}
use Rattle.floyd_tree.specs.Plain.{Plain, Plains, At, Done, More, mentions, mentions_in, size, sizes}
use Rattle.floyd_truth.specs.Capture.{Becomes, Put, Called, Changes, brings, captures, marked, most_marks, unmarked_from, in_new_terms, new_name, bound_in, bound_in_some, renamed}
use Rattle.floyd_truth.proofs.Marks.{Has, Found, finds}

pub either : {P : Type 0} (a b : Bool) → (a || b) ≡ true → (a ≡ true → P) → (b ≡ true → P) → P
either true b h p q = p refl
either false b h p q = q h

pub or_left : (a b : Bool) → a ≡ true → (a || b) ≡ true
or_left true b h = refl
or_left false b h = absurd cc

pub or_right : (a b : Bool) → b ≡ true → (a || b) ≡ true
or_right true b h = refl
or_right false b h = h

pub not_true : (b : Bool) → (b ≡ true → ⊥) → b ≡ false
not_true true h = absurd (h refl)
not_true false h = refl

pub second_true : (a b : Bool) → (a && b) ≡ true → b ≡ true
second_true true b h = h
second_true false b h = absurd cc

pub neither : (a b : Bool) → (a || b) ≡ false → (a ≡ false) × (b ≡ false)
neither false b h = (refl, h)
neither true b h = absurd cc

pub both_true : (a b : Bool) → a ≡ true → b ≡ true → (a && b) ≡ true
both_true true b h k = k
both_true false b h k = absurd cc

-- the names that occur in terms and formulas
abbrev head_names : Head → List (List ℕ)
head_names (Variable x s) = x ∷ []
head_names head = []

abbrev mutual
  term_names : Plain → List (List ℕ)
  term_names (At head kids) = head_names head ++ terms_names kids

  terms_names : Plains → List (List ℕ)
  terms_names Done = []
  terms_names (More t ts) = term_names t ++ terms_names ts

abbrev form_names : FormulaHead → List (List ℕ)
form_names (Forall x s) = x ∷ []
form_names (Exists x s) = x ∷ []
form_names head = []

abbrev mutual
  formula_names : PlainFormula → List (List ℕ)
  formula_names (Says head terms kids) = form_names head ++ (terms_names terms ++ formulas_names kids)

  formulas_names : PlainFormulas → List (List ℕ)
  formulas_names NoFormula = []
  formulas_names (MoreFormulas f fs) = formula_names f ++ formulas_names fs

abbrev change_names : Changes → List (List ℕ)
change_names [] = []
change_names ((v, Put t) ∷ changes) = term_names t ++ change_names changes
change_names ((v, Called y) ∷ changes) = change_names changes

-- the nodes of the new terms
abbrev pub weight : Changes → ℕ
weight [] = 0
weight ((v, Put t) ∷ changes) = size t + weight changes
weight ((v, Called y) ∷ changes) = weight changes

has_left : (n : List ℕ) (a b : List (List ℕ)) → Has n a → Has n (a ++ b)
has_left n a b h = list_any-append (bytes_eq n) a b ∙ or_left _ _ h

has_right : (n : List ℕ) (a b : List (List ℕ)) → Has n b → Has n (a ++ b)
has_right n a b h = list_any-append (bytes_eq n) a b ∙ or_right (list_any (bytes_eq n) a) _ h

has_head : (n : List ℕ) (head : Head) → is_variable n head ≡ true → Has n (head_names head)
has_head n (Variable x s) h = or_left _ _ h
has_head n head h = absurd cc

mutual
  has_term : (n : List ℕ) (t : Plain) → mentions n t ≡ true → Has n (term_names t)
  has_term n (At head kids) h =
      either (is_variable n head) (mentions_in n kids) h
      (λ e. has_left n (head_names head) (terms_names kids) (has_head n head e))
      (λ e. has_right n (head_names head) (terms_names kids) (has_terms n kids e))

  has_terms : (n : List ℕ) (ts : Plains) → mentions_in n ts ≡ true → Has n (terms_names ts)
  has_terms n Done h = absurd cc
  has_terms n (More t ts) h =
      either (mentions n t) (mentions_in n ts) h
      (λ e. has_left n (term_names t) (terms_names ts) (has_term n t e))
      (λ e. has_right n (term_names t) (terms_names ts) (has_terms n ts e))

has_form : (n : List ℕ) (head : FormulaHead) → binds n head ≡ true → Has n (form_names head)
has_form n (Forall x s) h = or_left _ _ h
has_form n (Exists x s) h = or_left _ _ h
has_form n head h = absurd cc

mutual
  has_free : (n : List ℕ) (f : PlainFormula) → formula_mentions n f ≡ true → Has n (formula_names f)
  has_free n (Says head terms kids) h =
      has_right n (form_names head) (terms_names terms ++ formulas_names kids)
      (either (mentions_in n terms) (not (binds n head) && formulas_mention n kids) h
      (λ e. has_left n (terms_names terms) (formulas_names kids) (has_terms n terms e))
      (λ e. has_right n (terms_names terms) (formulas_names kids) (has_all_free n kids (second_true (not (binds n head)) (formulas_mention n kids) e))))

  has_all_free : (n : List ℕ) (fs : PlainFormulas) → formulas_mention n fs ≡ true → Has n (formulas_names fs)
  has_all_free n NoFormula h = absurd cc
  has_all_free n (MoreFormulas f fs) h =
      either (formula_mentions n f) (formulas_mention n fs) h
      (λ e. has_left n (formula_names f) (formulas_names fs) (has_free n f e))
      (λ e. has_right n (formula_names f) (formulas_names fs) (has_all_free n fs e))

mutual
  has_bound : (n : List ℕ) (f : PlainFormula) → bound_in n f ≡ true → Has n (formula_names f)
  has_bound n (Says head terms kids) h =
      either (binds n head) (bound_in_some n kids) h
      (λ e. has_left n (form_names head) (terms_names terms ++ formulas_names kids) (has_form n head e))
      (λ e. has_right n (form_names head) (terms_names terms ++ formulas_names kids) (has_right n (terms_names terms) (formulas_names kids) (has_all_bound n kids e)))

  has_all_bound : (n : List ℕ) (fs : PlainFormulas) → bound_in_some n fs ≡ true → Has n (formulas_names fs)
  has_all_bound n NoFormula h = absurd cc
  has_all_bound n (MoreFormulas f fs) h =
      either (bound_in n f) (bound_in_some n fs) h
      (λ e. has_left n (formula_names f) (formulas_names fs) (has_bound n f e))
      (λ e. has_right n (formula_names f) (formulas_names fs) (has_all_bound n fs e))

has_change : (n : List ℕ) (changes : Changes) → in_new_terms changes n ≡ true → Has n (change_names changes)
has_change n [] h = absurd cc
has_change n ((v, Put t) ∷ changes) h =
    either (mentions n t) (in_new_terms changes n) h
    (λ e. has_left n (term_names t) (change_names changes) (has_term n t e))
    (λ e. has_right n (term_names t) (change_names changes) (has_change n changes e))
has_change n ((v, Called y) ∷ changes) h = has_change n changes h

head_few : (head : Head) → length (head_names head) ≤ 1
head_few (Variable x s) = omega arith
head_few head = omega arith

mutual
  term_few : (t : Plain) → length (term_names t) ≤ size t
  term_few (At head kids) = omega (arith, length-append (head_names head) (terms_names kids), head_few head, terms_few kids)

  terms_few : (ts : Plains) → length (terms_names ts) ≤ sizes ts
  terms_few Done = omega arith
  terms_few (More t ts) = omega (arith, length-append (term_names t) (terms_names ts), term_few t, terms_few ts)

form_few : (head : FormulaHead) → length (form_names head) ≤ 1
form_few (Forall x s) = omega arith
form_few (Exists x s) = omega arith
form_few head = omega arith

mutual
  formula_few : (f : PlainFormula) → length (formula_names f) ≤ formula_size f
  formula_few (Says head terms kids) =
      omega (arith, length-append (form_names head) (terms_names terms ++ formulas_names kids), length-append (terms_names terms) (formulas_names kids), form_few head, terms_few terms, formulas_few kids)

  formulas_few : (fs : PlainFormulas) → length (formulas_names fs) ≤ formula_sizes fs
  formulas_few NoFormula = omega arith
  formulas_few (MoreFormulas f fs) = omega (arith, length-append (formula_names f) (formulas_names fs), formula_few f, formulas_few fs)

changes_few : (changes : Changes) → length (change_names changes) ≤ weight changes
changes_few [] = omega arith
changes_few ((v, Put t) ∷ changes) = omega (arith, length-append (term_names t) (change_names changes), term_few t, changes_few changes)
changes_few ((v, Called y) ∷ changes) = changes_few changes

-- a fresh name: marked, in no new term, and neither free nor bound in what the binder covers
pub record IsFresh (changes : Changes) (kids : PlainFormulas) (x y : List ℕ) : Type 0 where
  pub number : ℕ
  pub small : number < 2 ^ 64
  pub is : y ≡ marked x number
  pub terms : in_new_terms changes y ≡ false
  pub free : formulas_mention y kids ≡ false
  pub bound : bound_in_some y kids ≡ false

abbrev pub covers : PlainFormulas → List ℕ → Bool
covers kids v = formulas_mention v kids

-- the name stays where it does not capture, and else is fresh
abbrev pub IsNew : Changes → PlainFormulas → List ℕ → List ℕ → Type 0
IsNew changes kids x y = ((y ≡ x) × (captures changes (covers kids) x ≡ false)) ⊎ IsFresh changes kids x y

abbrev taken : Changes → PlainFormulas → List ℕ → Bool
taken changes kids name = in_new_terms changes name || (formulas_mention name kids || bound_in_some name kids)

names : Changes → PlainFormulas → List (List ℕ)
names changes kids = change_names changes ++ formulas_names kids

has_taken : (changes : Changes) (kids : PlainFormulas) (n : List ℕ) → taken changes kids n ≡ true → Has n (change_names changes ++ formulas_names kids)
has_taken changes kids n h =
    either (in_new_terms changes n) (formulas_mention n kids || bound_in_some n kids) h
    (λ e. has_left n (change_names changes) (formulas_names kids) (has_change n changes e))
    (λ e. has_right n (change_names changes) (formulas_names kids)
    (either (formulas_mention n kids) (bound_in_some n kids) e (λ i. has_all_free n kids i) (λ i. has_all_bound n kids i)))

most_is : most_marks ≡ 2 ^ 63
unfolding most_marks
most_is = refl

fresh_of : (changes : Changes) (kids : PlainFormulas) (x y : List ℕ) → Found (taken changes kids) x y → IsFresh changes kids x y
fresh_of changes kids x y found =
    let p = neither (in_new_terms changes y) (formulas_mention y kids || bound_in_some y kids) found.free in
    let q = neither (formulas_mention y kids) (bound_in_some y kids) p.1 in
    record { number = found.number; small = found.small; is = found.is; terms = p.0; free = q.0; bound = q.1 }

pub is_new : (changes : Changes) (kids : PlainFormulas) (x : List ℕ) → weight changes + formula_sizes kids < 2 ^ 63 → IsNew changes kids x (renamed changes kids x)
is_new changes kids x l = by (captures changes (covers kids) x) refl
  where
    by : (b : Bool) → captures changes (covers kids) x ≡ b → IsNew changes kids x (if b then unmarked_from (taken changes kids) x most_marks 1 else x)
    by true e =
        inr (fresh_of changes kids x _
        (finds (taken changes kids) x most_marks 1 (change_names changes ++ formulas_names kids)
        (omega (arith, most_is, length-append (change_names changes) (formulas_names kids), changes_few changes, formulas_few kids))
        (omega (arith, most_is))
        (λ j low high t. has_taken changes kids (marked x j) t)))
    by false e = inl (refl, e)

-- what holds of no change does not hold of the one that is found
found_by : (test : List ℕ × Becomes → Bool) (c : List ℕ × Becomes) (changes : Changes) (v : List ℕ) (b : Becomes) → test c ≡ false → (lookup (bytes_eq v) changes ≡ Some b → test (v, b) ≡ false) → (s : Bool) → bytes_eq v c.0 ≡ s → cond s (Some c.1) (lookup (bytes_eq v) changes) ≡ Some b → test (v, b) ≡ false
found_by test c changes v b h k true s e =
    let q : c.1 ≡ b = cc in
    ap (λ n. test (n, b)) ((bytes_eq-Decides v c.0).0 s) ∙ ap (λ n. test (c.0, n)) (sym q) ∙ h
found_by test c changes v b h k false s e = k e

pub at_found : (test : List ℕ × Becomes → Bool) (changes : Changes) (v : List ℕ) (b : Becomes) → list_any test changes ≡ false → lookup (bytes_eq v) changes ≡ Some b → test (v, b) ≡ false
at_found test [] v b h e = absurd cc
at_found test (c ∷ changes) v b h e =
    let p = neither (test c) (list_any test changes) h in
    found_by test c changes v b p.0 (at_found test changes v b p.1) (bytes_eq v c.0) refl e
