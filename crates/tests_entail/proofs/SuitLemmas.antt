-- Goals whose variables have the sorts of binders of their names are such as the commands on existentials ask for.
use Rattle.std.proofs.Common.{◌≡◌, ℕ, Bool, true, false, ◌&&◌, cond, List, [], ◌∷◌, Option, Some, None, refl, sym, ap, ◌∙◌}
use Rattle.std.specs.Prelude.{bytes_eq, slice_get}
use Rattle.std.specs.Map.{lookup}
use Rattle.floyd_tree_sorts.specs.declared.connectives.FormulaHead.{FormulaHead}
use Rattle.floyd_tree_sorts.specs.declared.connectives.FormulaHead.TheVariants.{Forall, Exists}
use Rattle.floyd_tree_sorts.specs.declared.heads.Head.TheVariants.{Variable}
use Rattle.floyd_tree_sorts.specs.declared.sorts.Sort.{Sort}
use Rattle.floyd_tree_sorts.proofs.SortLemmas.{both_true, same_sort_true}
use Rattle.floyd_tree.specs.Code.{plains-listed}
use Rattle.floyd_tree.specs.FormulaCode.{formulas-listed}
use Rattle.floyd_tree.specs.Formulas.{PlainFormula, PlainFormulas, Says, NoFormula, MoreFormulas, terms_of, formulas_of, formulas}
use Rattle.floyd_tree.specs.Plain.{Plain, Plains, At, Done, More, head_of, kids_of, plains, listed}
use Rattle.floyd_tree.specs.WellSorted.{sort_of}
use Rattle.floyd_truth.specs.Capture.{Put, Called, Changes}
use Rattle.floyd_truth.specs.Replace.{AllSortsAgree, FormulaSortsAgree, FormulasSortsAgree, HasSortOf, SortsAgree, changes_below, puts}
use Rattle.floyd_assert_changes.specs.Changed.{AssertionSortsAgree, below_existentials, inside, new_existentials, terms_in}
use Rattle.floyd_assert_trees.specs.declared.assertion.Assertion.{Assertion}
use Rattle.floyd_assert_trees.specs.declared.binder.Binder.{Binder}
use Rattle.floyd_goal_trees.specs.declared.goal.Goal.{Goal}
use Rattle.floyd_goal_trees.specs.declared.goal.Goal.TheVariants.{Run, Entail, Pure}
use Rattle.floyd_pure_formulas.specs.VariableCases.{sort_named}
use Rattle.floyd_entail.specs.Exists as ex
use Rattle.floyd_entail.specs.Intros as intro
use Rattle.tests_entail.specs.Suits.{assertion_suits, first_suits, formula_suits, formulas_suit, head_suits, put_suits, sort_suits, source_suits, target_suits, term_suits, terms_suit}

-- the code looks at heads and kids
pub term_parts : (bs : List Binder) (t : Plain) → term_suits bs t ≡ (head_suits bs (head_of t) && terms_suit bs (plains (kids_of t)))
term_parts bs (At head kids) = ap (λ ts. head_suits bs head && terms_suit bs ts) (sym (plains-listed kids))

pub formula_parts : (bs : List Binder) (f : PlainFormula) → formula_suits bs f ≡ (terms_suit bs (plains (terms_of f)) && formulas_suit bs (formulas (formulas_of f)))
formula_parts bs (Says head terms kids) =
    ap (λ ts. terms_suit bs ts && formulas_suit bs kids) (sym (plains-listed terms))
    ∙ ap (λ fs. terms_suit bs (plains (listed terms)) && formulas_suit bs fs) (sym (formulas-listed kids))

-- what is put in a variable's place has its sort, where the variable suits these binders
abbrev Suiting : Changes → List Binder → Type 0
Suiting ch bs = (x : List ℕ) (s : Sort) → sort_suits s (sort_named x bs) ≡ true → HasSortOf (lookup (bytes_eq x) ch) s

called : (ch : Changes) (bs : List Binder) (z y : List ℕ) → Suiting ch bs → Suiting ((z, Called y) ∷ ch) bs
called ch bs z y h x s k = by (bytes_eq x z) (h x s k)
  where
    by : (b : Bool) → HasSortOf (lookup (bytes_eq x) ch) s → HasSortOf (cond b (Some (Called y)) (lookup (bytes_eq x) ch)) s
    by true g = tt
    by false g = g

below : (ch : Changes) (bs old new : List Binder) → Suiting ch bs → Suiting (below_existentials ch old new) bs
below ch bs [] new h = h
below ch bs (b ∷ old) [] h = h
below ch bs (b ∷ old) (c ∷ new) h = below ((b.name, Called c.name) ∷ ch) bs old new (called ch bs b.name c.name h)

mutual
  term_agrees : (ch : Changes) (bs : List Binder) (t : Plain) → Suiting ch bs → term_suits bs t ≡ true → SortsAgree ch t
  term_agrees ch bs (At (Variable x s) ts) h k =
      let p = both_true (head_suits bs (Variable x s)) (terms_suit bs ts) k in
      (h x s p.0, terms_agree ch bs ts h p.1)
  term_agrees ch bs (At head ts) h k = (tt, terms_agree ch bs ts h (both_true (head_suits bs head) (terms_suit bs ts) k).1)

  terms_agree : (ch : Changes) (bs : List Binder) (ts : Plains) → Suiting ch bs → terms_suit bs ts ≡ true → AllSortsAgree ch ts
  terms_agree ch bs Done h k = tt
  terms_agree ch bs (More t ts) h k =
      let p = both_true (term_suits bs t) (terms_suit bs ts) k in
      (term_agrees ch bs t h p.0, terms_agree ch bs ts h p.1)

under : (ch : Changes) (bs : List Binder) (head : FormulaHead) (kids : PlainFormulas) → Suiting ch bs → Suiting (changes_below ch head kids) bs
under ch bs (Forall x s) kids h = called ch bs x _ h
under ch bs (Exists x s) kids h = called ch bs x _ h
under ch bs head kids h = h

mutual
  formula_agrees : (ch : Changes) (bs : List Binder) (f : PlainFormula) → Suiting ch bs → formula_suits bs f ≡ true → FormulaSortsAgree ch f
  formula_agrees ch bs (Says head terms kids) h k =
      let p = both_true (terms_suit bs terms) (formulas_suit bs kids) k in
      (terms_agree ch bs terms h p.0, formulas_agree (changes_below ch head kids) bs kids (under ch bs head kids h) p.1)

  formulas_agree : (ch : Changes) (bs : List Binder) (fs : PlainFormulas) → Suiting ch bs → formulas_suit bs fs ≡ true → FormulasSortsAgree ch fs
  formulas_agree ch bs NoFormula h k = tt
  formulas_agree ch bs (MoreFormulas f fs) h k =
      let p = both_true (formula_suits bs f) (formulas_suit bs fs) k in
      (formula_agrees ch bs f h p.0, formulas_agree ch bs fs h p.1)

assertion_agrees : (ch : Changes) (bs : List Binder) (a : Assertion) → Suiting ch bs → assertion_suits bs a ≡ true → AssertionSortsAgree ch a
assertion_agrees ch bs a h k =
    let p = both_true (formulas_suit bs (formulas a.props)) (terms_suit bs (plains (terms_in a))) k in
    let i : Suiting (inside ch a) bs = below ch bs a.existentials (new_existentials ch a) h in
    (formulas_agree (inside ch a) bs (formulas a.props) i p.0, terms_agree (inside ch a) bs (plains (terms_in a)) i p.1)

-- a term of that sort in the place of a variable, before others
put_here : (ch : Changes) (bs : List Binder) (z : List ℕ) (r : Sort) (t : Plain) → sort_of t ≡ Some r → Suiting ch bs → Suiting ((z, Put t) ∷ ch) (record { name = z; sort = r } ∷ bs)
put_here ch bs z r t e h x s k = by (bytes_eq x z) (h x s) k
  where
    by : (b : Bool) → (sort_suits s (sort_named x bs) ≡ true → HasSortOf (lookup (bytes_eq x) ch) s) → sort_suits s (cond b (Some r) (sort_named x bs)) ≡ true → HasSortOf (cond b (Some (Put t)) (lookup (bytes_eq x) ch)) s
    by true g l = e ∙ ap (λ q. Some q) (same_sort_true r s l)
    by false g l = g l

nothing_put : (bs : List Binder) → Suiting [] bs
nothing_put bs x s k = tt

names_put : (bs : List Binder) (names : List (List ℕ)) → Suiting (puts (intro.by_names bs names)) bs
names_put [] names = nothing_put []
names_put (b ∷ bs) [] = nothing_put (b ∷ bs)
names_put (b ∷ bs) (x ∷ names) = put_here (puts (intro.by_names bs names)) bs b.name b.sort (At (Variable x b.sort) Done) refl (names_put bs names)

-- what `Intros` asks
source_fits : (a : Assertion) (names : List (List ℕ)) → assertion_suits a.existentials a ≡ true → intro.SourceSortsAgree a names
source_fits a names k =
    let bs = a.existentials in
    let ch = puts (intro.by_names bs names) in
    let p = both_true (formulas_suit bs (formulas a.props)) (terms_suit bs (plains (terms_in a))) k in
    let h : Suiting ch bs = names_put bs names in
    (formulas_agree ch bs (formulas a.props) h p.0, (tt, terms_agree ch bs (plains (terms_in a)) h p.1))

pub intros_fit : (goal : Goal) (names : List (List ℕ)) → source_suits goal ≡ true → intro.SortsAgree goal names
intros_fit (Run run) names k = source_fits run.source names k
intros_fit (Entail entail) names k = source_fits entail.source names k
intros_fit (Pure pure) names k = tt

-- what `Exists` asks
put_fits : (a : Assertion) (b : Binder) (more : List Binder) (t : Plain) (o : Option Sort) → sort_of t ≡ o → put_suits a b.name o ≡ true → ex.TermSortAgrees a b more t
put_fits a b more t None e k = absurd cc
put_fits a b more t (Some s) e k =
    assertion_agrees (puts ((b.name, t) ∷ [])) (record { name = b.name; sort = s } ∷ []) (ex.under a more) (put_here [] [] b.name s t e (nothing_put [])) k

first_fits : (a : Assertion) (bs : List Binder) (ts : List Plain) → first_suits a (slice_get bs 0) (slice_get ts 0) ≡ true → ex.FirstSortsAgree a bs ts
first_fits a [] ts k = tt
first_fits a (b ∷ more) [] k = tt
first_fits a (b ∷ more) (t ∷ ts) k = put_fits a b more t (sort_of t) refl k

pub exists_fit : (goal : Goal) (ts : List Plain) → target_suits goal ts ≡ true → ex.SortsAgree goal ts
exists_fit (Run run) ts k = tt
exists_fit (Entail entail) ts k = first_fits entail.target entail.target.existentials ts k
exists_fit (Pure pure) ts k = tt
