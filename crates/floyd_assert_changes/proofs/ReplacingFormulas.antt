-- Formulas after changes, by their parts.
use Rattle.std.proofs.Common.{◌≡◌, ℕ, zero, suc, ◌<◌, ◌≤◌, Bool, true, false, ◌&&◌, List, [], ◌∷◌, length, get_or, map, Option, Some, None, Ok, Err, refl, sym, ◌∙◌, ap, subst, arith, true≢false}
use Rattle.std.specs.Prelude.{if◌then◌else◌, nat_le, Result}
use Rattle.std.specs.Option.{option_or}
use Rattle.std.specs.List.{list_all}
use Rattle.std.proofs.lemmas.Bool.Decides.{nat_tests}
use Rattle.floyd_tree_sorts.specs.declared.connectives.FormulaHead.{FormulaHead}
use Rattle.floyd_tree_sorts.specs.declared.connectives.FormulaHead.TheVariants.{Forall, Exists}
use Rattle.floyd_tree_sorts.specs.declared.sorts.Sort.{Sort}
use Rattle.floyd_tree_sorts.specs.Rows.{takes}
use Rattle.floyd_tree.specs.declared.stop.MakeStop.{MakeStop}
use Rattle.floyd_tree.specs.declared.stop.MakeStop.TheVariants.{IllSorted, TooLarge, Memory}
use Rattle.floyd_tree.specs.Code.{plains-listed}
use Rattle.floyd_tree.specs.FormulaCode.{formulas-listed}
use Rattle.floyd_tree.specs.Formulas.{PlainFormula, PlainFormulas, Says, NoFormula, MoreFormulas, all_well_sorted, form_of, formula_height, formula_heights, formula_size, formula_sizes, formulas, formulas_of, listed_formulas, takes_all, terms_of, well_sorted}
use Rattle.floyd_tree.specs.Made.{Gives, faults, fits, unless}
use Rattle.floyd_tree.specs.MadeFormulas.{formula_fault, formula_faults, formula_fault_at, formula_fits, made_formula}
use Rattle.floyd_tree.specs.Plain.{Plain, Plains, listed, plains}
use Rattle.floyd_tree.specs.WellSorted.{sorts_of}
use Rattle.floyd_tree.proofs.Faults.{within}
use Rattle.floyd_truth.specs.Capture.{Called, Changes, renamed}
use Rattle.floyd_truth.specs.Replace.{AllSortsAgree, FormulaSortsAgree, FormulasSortsAgree, changes_below, head_after, replaced, replaced_formula, replaced_formulas, replaced_in}
use Rattle.floyd_truth.proofs.InChanged.{sorts_after}
use Rattle.floyd_assert_changes.specs.ChangesClauses.{head_named, name_bound}
use Rattle.floyd_assert_changes.proofs.Stopping.{Tells}
use Rattle.floyd_assert_changes.proofs.Replacing.{kids_fit, replaced_all}

pub formulas_replaced : (ch : Changes) (fs : List PlainFormula) → formulas (map (replaced_formula ch) fs) ≡ replaced_formulas ch (formulas fs)
formulas_replaced ch [] = refl
formulas_replaced ch (f ∷ fs) = ap (MoreFormulas (replaced_formula ch f)) (formulas_replaced ch fs)

pub formulas_agree_at : (ch : Changes) (fs : List PlainFormula) (i : ℕ) (d : PlainFormula) → i < length fs → FormulasSortsAgree ch (formulas fs) → FormulaSortsAgree ch (get_or fs i d)
formulas_agree_at ch [] i d l h = absurd (omega arith)
formulas_agree_at ch (f ∷ fs) zero d l h = h.0
formulas_agree_at ch (f ∷ fs) (suc i) d l h = formulas_agree_at ch fs i d (omega arith) h.1

second_none : {E : Type 0} (a b : Option E) → option_or a b ≡ None → b ≡ None
second_none None b e = e
second_none (Some stop) b e = absurd cc

no_fault : (a b : Bool) → (if a then (if b then None else Some TooLarge) else Some IllSorted) ≡ None → b ≡ true
no_fault true true e = refl
no_fault true false e = absurd cc
no_fault false b e = absurd cc

pub sound_formula_fits : (f : PlainFormula) → formula_fault f ≡ None → formula_fits f ≡ true
sound_formula_fits (Says head terms kids) e =
    no_fault (well_sorted (Says head terms kids)) (formula_fits (Says head terms kids))
    (second_none (formula_faults kids) (formula_fault_at (Says head terms kids)) (second_none (faults terms) _ e))

made_by : (a b : Bool) (f : PlainFormula) → a ≡ true → unless (if a then (if b then None else Some TooLarge) else Some IllSorted) f ≡ (if b then Ok f else Err TooLarge)
made_by true true f h = refl
made_by true false f h = refl
made_by false b f h = absurd cc

made_is : (f : PlainFormula) → well_sorted f ≡ true → unless (formula_fault_at f) f ≡ (if formula_fits f then Ok f else Err TooLarge)
made_is f e = made_by (well_sorted f) (formula_fits f) f e

ok_by : (b : Bool) (f g : PlainFormula) → (if b then Ok f else Err TooLarge) ≡ Ok g → (g ≡ f) × (b ≡ true)
ok_by true f g e = (cc, refl)
ok_by false f g e = absurd cc

large_by : (b : Bool) (f : PlainFormula) → (if b then Ok f else Err TooLarge) ≡ Err TooLarge → b ≡ false
large_by true f e = absurd cc
large_by false f e = refl

ill_by : (b : Bool) (f : PlainFormula) → (if b then Ok f else Err TooLarge) ≡ Err IllSorted → ⊥
ill_by true f e = absurd cc
ill_by false f e = absurd cc

-- what a call answers of a formula
abbrev pub FormulaTold : Result PlainFormula MakeStop → PlainFormula → Type 0
FormulaTold r f = Tells r f (formula_fits f)

formula_told : (r : Result PlainFormula MakeStop) (f : PlainFormula) → well_sorted f ≡ true → Gives r (unless (formula_fault_at f) f) → FormulaTold r f
formula_told (Ok g) f e h = let p = ok_by (formula_fits f) f g (sym (made_is f e) ∙ h) in (p.0, p.1, tt)
formula_told (Err IllSorted) f e h = (tt, tt, ill_by (formula_fits f) f (sym (made_is f e) ∙ h))
formula_told (Err TooLarge) f e h = (tt, tt, large_by (formula_fits f) f (sym (made_is f e) ∙ h))
formula_told (Err Memory) f e h = (tt, tt, tt)

-- sorts stay
takes_renamed : (ch : Changes) (head : FormulaHead) (kids : PlainFormulas) (sorts : List Sort) (n : ℕ) → takes (head_after ch head kids) sorts n ≡ takes head sorts n
takes_renamed ch (Forall x s) kids [] n = refl
takes_renamed ch (Forall x s) kids (a ∷ []) n = refl
takes_renamed ch (Forall x s) kids (a ∷ b ∷ []) n = refl
takes_renamed ch (Forall x s) kids (a ∷ b ∷ c ∷ sorts) n = refl
takes_renamed ch (Exists x s) kids [] n = refl
takes_renamed ch (Exists x s) kids (a ∷ []) n = refl
takes_renamed ch (Exists x s) kids (a ∷ b ∷ []) n = refl
takes_renamed ch (Exists x s) kids (a ∷ b ∷ c ∷ sorts) n = refl
takes_renamed ch head kids sorts n = refl

takes_after : (ch : Changes) (head : FormulaHead) (kids : PlainFormulas) (sorts : Option (List Sort)) (n : ℕ) → takes_all (head_after ch head kids) sorts n ≡ takes_all head sorts n
takes_after ch head kids (Some sorts) n = takes_renamed ch head kids sorts n
takes_after ch head kids None n = refl

sorts_there : (head : FormulaHead) (sorts : Option (List Sort)) (n : ℕ) → takes_all head sorts n ≡ true → (ss : List Sort) × (sorts ≡ Some ss)
sorts_there head (Some ss) n h = (ss, refl)
sorts_there head None n h = absurd cc

as_many : (ch : Changes) (fs : PlainFormulas) → length (listed_formulas (replaced_formulas ch fs)) ≡ length (listed_formulas fs)
as_many ch NoFormula = refl
as_many ch (MoreFormulas f fs) = ap suc (as_many ch fs)

both : (a b : Bool) → (a && b) ≡ true → (a ≡ true) × (b ≡ true)
both true b h = (refl, h)
both false b h = absurd cc

and_true : (a b : Bool) → a ≡ true → b ≡ true → (a && b) ≡ true
and_true true b h k = k
and_true false b h k = absurd cc

mutual
  pub well_sorted_after : (ch : Changes) (f : PlainFormula) → well_sorted f ≡ true → FormulaSortsAgree ch f → well_sorted (replaced_formula ch f) ≡ true
  well_sorted_after ch (Says head terms kids) w h =
      let p = both (takes_all head (sorts_of terms) (length (listed_formulas kids))) (all_well_sorted kids) w in
      let ss = sorts_there head (sorts_of terms) (length (listed_formulas kids)) p.0 in
      let same : sorts_of (replaced_in ch terms) ≡ sorts_of terms = sorts_after ch terms ss.0 ss.1 h.0 ∙ sym ss.1 in
      and_true (takes_all (head_after ch head kids) (sorts_of (replaced_in ch terms)) (length (listed_formulas (replaced_formulas (changes_below ch head kids) kids)))) (all_well_sorted (replaced_formulas (changes_below ch head kids) kids))
      (ap (λ s. takes_all (head_after ch head kids) s (length (listed_formulas (replaced_formulas (changes_below ch head kids) kids)))) same
      ∙ ap (takes_all (head_after ch head kids) (sorts_of terms)) (as_many (changes_below ch head kids) kids)
      ∙ takes_after ch head kids (sorts_of terms) (length (listed_formulas kids))
      ∙ p.0)
      (all_well_sorted_after (changes_below ch head kids) kids p.1 h.1)

  all_well_sorted_after : (ch : Changes) (fs : PlainFormulas) → all_well_sorted fs ≡ true → FormulasSortsAgree ch fs → all_well_sorted (replaced_formulas ch fs) ≡ true
  all_well_sorted_after ch NoFormula w h = refl
  all_well_sorted_after ch (MoreFormulas f fs) w h =
      let p = both (well_sorted f) (all_well_sorted fs) w in
      and_true (well_sorted (replaced_formula ch f)) (all_well_sorted (replaced_formulas ch fs)) (well_sorted_after ch f p.0 h.0) (all_well_sorted_after ch fs p.1 h.1)

-- parts of a formula that fits fit
bounds : (m n : ℕ) → (nat_le m 65536 && nat_le n 256) ≡ true → (m ≤ 65536) × (n ≤ 256)
bounds m n h = grind (arith, nat_tests)

formula_kids_fit : (fs : List PlainFormula) → formula_sizes (formulas fs) ≤ 65536 → formula_heights (formulas fs) ≤ 256 → list_all formula_fits fs ≡ true
formula_kids_fit [] l h = refl
formula_kids_fit (f ∷ fs) l h =
    ap (λ b. b && list_all formula_fits fs) (within (formula_size f) (formula_height f) (omega (arith, l)) (omega (arith, h))) ∙ formula_kids_fit fs (omega (arith, l)) (omega (arith, h))

not_true : (b : Bool) → (b ≡ true → ⊥) → b ≡ false
not_true true h = absurd (h refl)
not_true false h = refl

unfit_below : (head : FormulaHead) (terms : Plains) (fs : List PlainFormula) → list_all formula_fits fs ≡ false → formula_fits (Says head terms (formulas fs)) ≡ false
unfit_below head terms fs h =
    not_true (formula_fits (Says head terms (formulas fs)))
    (λ e.
    let p = bounds (formula_size (Says head terms (formulas fs))) (formula_height (Says head terms (formulas fs))) e in
    true≢false (sym (formula_kids_fit fs (omega (arith, p.0)) (omega (arith, p.1))) ∙ h))

unfit_terms : (head : FormulaHead) (ts : List Plain) (fs : PlainFormulas) → list_all fits ts ≡ false → formula_fits (Says head (plains ts) fs) ≡ false
unfit_terms head ts fs h =
    not_true (formula_fits (Says head (plains ts) fs))
    (λ e.
    let p = bounds (formula_size (Says head (plains ts) fs)) (formula_height (Says head (plains ts) fs)) e in
    true≢false (sym (kids_fit ts (omega (arith, p.0)) (omega (arith, p.1))) ∙ h))

-- by head, terms and kids
abbrev pub kids_in : PlainFormula → PlainFormulas
kids_in f = formulas (formulas_of f)

formula_node_is : (ch : Changes) (f : PlainFormula) → Says (head_after ch (form_of f) (kids_in f)) (plains (map (replaced ch) (terms_of f))) (formulas (map (replaced_formula (changes_below ch (form_of f) (kids_in f))) (formulas_of f))) ≡ replaced_formula ch f
formula_node_is ch (Says head terms kids) =
    ap (λ ks. Says (head_after ch head ks) (plains (map (replaced ch) (listed terms))) (formulas (map (replaced_formula (changes_below ch head ks)) (listed_formulas kids)))) (formulas-listed kids)
    ∙ ap (λ ts. Says (head_after ch head kids) ts (formulas (map (replaced_formula (changes_below ch head kids)) (listed_formulas kids)))) (replaced_all ch (listed terms))
    ∙ ap (λ ts. Says (head_after ch head kids) (replaced_in ch ts) (formulas (map (replaced_formula (changes_below ch head kids)) (listed_formulas kids)))) (plains-listed terms)
    ∙ ap (Says (head_after ch head kids) (replaced_in ch terms)) (formulas_replaced (changes_below ch head kids) (listed_formulas kids))
    ∙ ap (λ ks. Says (head_after ch head kids) (replaced_in ch terms) (replaced_formulas (changes_below ch head kids) ks)) (formulas-listed kids)

pub terms_agree : (ch : Changes) (f : PlainFormula) → FormulaSortsAgree ch f → AllSortsAgree ch (plains (terms_of f))
terms_agree ch (Says head terms kids) h = subst (AllSortsAgree ch) (sym (plains-listed terms)) h.0

pub kids_agree : (ch : Changes) (f : PlainFormula) → FormulaSortsAgree ch f → FormulasSortsAgree (changes_below ch (form_of f) (kids_in f)) (kids_in f)
kids_agree ch (Says head terms kids) h = subst (λ ks. FormulasSortsAgree (changes_below ch head ks) ks) (sym (formulas-listed kids)) h.1

pub formula_node_told : (r : Result PlainFormula MakeStop) (ch : Changes) (f : PlainFormula) (head : FormulaHead) (terms : List Plain) (kids : List PlainFormula) → head ≡ head_after ch (form_of f) (formulas (formulas_of f)) → terms ≡ map (replaced ch) (terms_of f) → kids ≡ map (replaced_formula (changes_below ch (form_of f) (formulas (formulas_of f)))) (formulas_of f) → well_sorted f ≡ true → FormulaSortsAgree ch f → Gives r (made_formula head terms kids) → FormulaTold r (replaced_formula ch f)
formula_node_told r ch f head terms kids h t k w a g =
    let same : Says head (plains terms) (formulas kids) ≡ replaced_formula ch f =
    ap (λ d. Says d (plains terms) (formulas kids)) h
    ∙ ap (λ ts. Says (head_after ch (form_of f) (kids_in f)) (plains ts) (formulas kids)) t
    ∙ ap (λ fs. Says (head_after ch (form_of f) (kids_in f)) (plains (map (replaced ch) (terms_of f))) (formulas fs)) k
    ∙ formula_node_is ch f in
    subst (FormulaTold r) same (formula_told r (Says head (plains terms) (formulas kids)) (ap well_sorted same ∙ well_sorted_after ch f w a) g)

pub unfit_terms_after : (ch : Changes) (f : PlainFormula) → list_all fits (map (replaced ch) (terms_of f)) ≡ false → formula_fits (replaced_formula ch f) ≡ false
unfit_terms_after ch f h =
    ap formula_fits (sym (formula_node_is ch f))
    ∙ unfit_terms (head_after ch (form_of f) (kids_in f)) (map (replaced ch) (terms_of f)) (formulas (map (replaced_formula (changes_below ch (form_of f) (kids_in f))) (formulas_of f))) h

pub unfit_kids_after : (ch : Changes) (f : PlainFormula) → list_all formula_fits (map (replaced_formula (changes_below ch (form_of f) (formulas (formulas_of f)))) (formulas_of f)) ≡ false → formula_fits (replaced_formula ch f) ≡ false
unfit_kids_after ch f h =
    ap formula_fits (sym (formula_node_is ch f))
    ∙ unfit_below (head_after ch (form_of f) (kids_in f)) (plains (map (replaced ch) (terms_of f))) (map (replaced_formula (changes_below ch (form_of f) (kids_in f))) (formulas_of f)) h

pub formula_sound_there : (g f : PlainFormula) → g ≡ f → formula_fault g ≡ None → formula_fits f ≡ true
formula_sound_there g f e h = ap formula_fits (sym e) ∙ sound_formula_fits g h

-- below a head that binds a name, and below one that binds none
pub below_named : (ch : Changes) (head : FormulaHead) (kids : PlainFormulas) (x : List ℕ) → name_bound head ≡ Some x → changes_below ch head kids ≡ (x, Called (renamed ch kids x)) ∷ ch
below_named ch (Forall y s) kids x e = let same : y ≡ x = cc in ap (λ z. (z, Called (renamed ch kids z)) ∷ ch) same
below_named ch (Exists y s) kids x e = let same : y ≡ x = cc in ap (λ z. (z, Called (renamed ch kids z)) ∷ ch) same
below_named ch head kids x e = absurd cc

pub head_renamed : (ch : Changes) (head : FormulaHead) (kids : PlainFormulas) (x : List ℕ) → name_bound head ≡ Some x → head_named (renamed ch kids x) head ≡ head_after ch head kids
head_renamed ch (Forall y s) kids x e = let same : x ≡ y = cc in ap (λ z. Forall (renamed ch kids z) s) same
head_renamed ch (Exists y s) kids x e = let same : x ≡ y = cc in ap (λ z. Exists (renamed ch kids z) s) same
head_renamed ch head kids x e = absurd cc

pub below_other : (ch : Changes) (head : FormulaHead) (kids : PlainFormulas) → name_bound head ≡ None → changes_below ch head kids ≡ ch
below_other ch (Forall y s) kids e = absurd cc
below_other ch (Exists y s) kids e = absurd cc
below_other ch head kids e = refl

pub other_head : (ch : Changes) (head : FormulaHead) (kids : PlainFormulas) → name_bound head ≡ None → head ≡ head_after ch head kids
other_head ch (Forall y s) kids e = absurd cc
other_head ch (Exists y s) kids e = absurd cc
other_head ch head kids e = refl

-- what stands below a binder, and below another head, with its sorts and limits
below_as : (ch : Changes) (f : PlainFormula) (x name : List ℕ) (kids : List PlainFormula) → kids ≡ formulas_of f → name_bound (form_of f) ≡ Some x → name ≡ renamed ch (formulas kids) x → changes_below ch (form_of f) (kids_in f) ≡ (x, Called name) ∷ ch
below_as ch f x name kids k b n =
    below_named ch (form_of f) (kids_in f) x b ∙ ap (λ y. (x, Called y) ∷ ch) (ap (λ ks. renamed ch (formulas ks) x) (sym k) ∙ sym n)

pub binder_agree : (ch : Changes) (f : PlainFormula) (x name : List ℕ) (kids : List PlainFormula) → kids ≡ formulas_of f → name_bound (form_of f) ≡ Some x → name ≡ renamed ch (formulas kids) x → FormulaSortsAgree ch f → FormulasSortsAgree ((x, Called name) ∷ ch) (formulas kids)
binder_agree ch f x name kids k b n a =
    subst (λ ks. FormulasSortsAgree ((x, Called name) ∷ ch) (formulas ks)) (sym k)
    (subst (λ c. FormulasSortsAgree c (kids_in f)) (below_as ch f x name kids k b n) (kids_agree ch f a))

pub unfit_binder : (ch : Changes) (f : PlainFormula) (x name : List ℕ) (kids : List PlainFormula) → kids ≡ formulas_of f → name_bound (form_of f) ≡ Some x → name ≡ renamed ch (formulas kids) x → list_all formula_fits (map (replaced_formula ((x, Called name) ∷ ch)) kids) ≡ false → formula_fits (replaced_formula ch f) ≡ false
unfit_binder ch f x name kids k b n h =
    unfit_kids_after ch f
    (ap (λ c. list_all formula_fits (map (replaced_formula c) (formulas_of f))) (below_as ch f x name kids k b n)
    ∙ ap (λ ks. list_all formula_fits (map (replaced_formula ((x, Called name) ∷ ch)) ks)) (sym k)
    ∙ h)

pub other_agree : (ch : Changes) (f : PlainFormula) (kids : List PlainFormula) → kids ≡ formulas_of f → name_bound (form_of f) ≡ None → FormulaSortsAgree ch f → FormulasSortsAgree ch (formulas kids)
other_agree ch f kids k b a =
    subst (λ ks. FormulasSortsAgree ch (formulas ks)) (sym k)
    (subst (λ c. FormulasSortsAgree c (kids_in f)) (below_other ch (form_of f) (kids_in f) b) (kids_agree ch f a))

pub unfit_other : (ch : Changes) (f : PlainFormula) (kids : List PlainFormula) → kids ≡ formulas_of f → name_bound (form_of f) ≡ None → list_all formula_fits (map (replaced_formula ch) kids) ≡ false → formula_fits (replaced_formula ch f) ≡ false
unfit_other ch f kids k b h =
    unfit_kids_after ch f
    (ap (λ c. list_all formula_fits (map (replaced_formula c) (formulas_of f))) (below_other ch (form_of f) (kids_in f) b)
    ∙ ap (λ ks. list_all formula_fits (map (replaced_formula ch) ks)) (sym k)
    ∙ h)
