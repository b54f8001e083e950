-- A formula without the variables of the changes stays as it is.
use Rattle.std.proofs.Common.{◌≡◌, ℕ, Bool, true, false, not, ◌&&◌, ◌||◌, List, [], ◌∷◌, Option, Some, None, refl, sym, ◌∙◌, ap}
use Rattle.std.specs.Prelude.{if◌then◌else◌, bytes_eq, bit_and, bit_or, cond}
use Rattle.std.specs.Int.{bit_at}
use Rattle.std.specs.List.{list_any}
use Rattle.std.specs.Map.{lookup}
use Rattle.std.proofs.lemmas.Slice.Eq.{bytes_eq-Decides}
use Rattle.floyd_tree_sorts.specs.declared.connectives.FormulaHead.TheVariants.{Forall, Exists}
use Rattle.floyd_tree_sorts.specs.Heads.{binds}
use Rattle.floyd_tree_sorts.specs.Prints.{slot}
use Rattle.floyd_tree.specs.FormulaPrints.{formula_summary, formula_summaries_from}
use Rattle.floyd_tree.specs.Formulas.{PlainFormula, PlainFormulas, Says, NoFormula, MoreFormulas, formula_mentions, formulas_mention}
use Rattle.floyd_tree.specs.Plain.{mentions_in}
use Rattle.floyd_tree.specs.Prints.{summaries_from}
use Rattle.floyd_tree.proofs.Summaries.{covers_in, either, no_bit, or_left, or_right}
use Rattle.floyd_truth.specs.Capture.{Becomes, Put, Called, Changes, bound_in_some, brings, in_new_terms, most_marks, renamed, unmarked_from}
use Rattle.floyd_truth.specs.Replace.{replaced_formula, replaced_formulas, replaced_in}
use Rattle.floyd_assert_changes.specs.ChangesClauses.{IsStill, Stays}
use Rattle.floyd_assert_changes.proofs.Replacing.{no_common, stay_in}

-- whether the variable occurs somewhere, bound or free
abbrev mutual
  pub occurs : List ℕ → PlainFormula → Bool
  occurs v (Says head terms kids) = mentions_in v terms || occurs_in v kids

  pub occurs_in : List ℕ → PlainFormulas → Bool
  occurs_in v NoFormula = false
  occurs_in v (MoreFormulas f fs) = occurs v f || occurs_in v fs

left : (a b : Bool) → a ≡ true → (a || b) ≡ true
left true b h = refl
left false b h = absurd cc

right : (a b : Bool) → b ≡ true → (a || b) ≡ true
right true b h = refl
right false b h = h

second_true : (a b : Bool) → (a && b) ≡ true → b ≡ true
second_true true b h = h
second_true false b h = absurd cc

mutual
  free_occurs : (v : List ℕ) (f : PlainFormula) → formula_mentions v f ≡ true → occurs v f ≡ true
  free_occurs v (Says head terms kids) h =
      either (mentions_in v terms) (not (binds v head) && formulas_mention v kids) h
      (λ e. left (mentions_in v terms) (occurs_in v kids) e)
      (λ e. right (mentions_in v terms) (occurs_in v kids) (all_free_occur v kids (second_true (not (binds v head)) (formulas_mention v kids) e)))

  all_free_occur : (v : List ℕ) (fs : PlainFormulas) → formulas_mention v fs ≡ true → occurs_in v fs ≡ true
  all_free_occur v NoFormula h = absurd cc
  all_free_occur v (MoreFormulas f fs) h =
      either (formula_mentions v f) (formulas_mention v fs) h
      (λ e. left (occurs v f) (occurs_in v fs) (free_occurs v f e))
      (λ e. right (occurs v f) (occurs_in v fs) (all_free_occur v fs e))

-- what occurs has its bit in the summary
kept_formulas : (m i : ℕ) (fs : PlainFormulas) → bit_at m i ≡ 1 → bit_at (formula_summaries_from m fs) i ≡ 1
kept_formulas m i NoFormula h = h
kept_formulas m i (MoreFormulas f fs) h = kept_formulas (bit_or m (formula_summary f)) i fs (or_left m (formula_summary f) i h)

mutual
  covered : (v : List ℕ) (f : PlainFormula) → occurs v f ≡ true → bit_at (formula_summary f) (slot v) ≡ 1
  covered v (Says head terms kids) h =
      either (mentions_in v terms) (occurs_in v kids) h
      (λ e. kept_formulas (summaries_from 0 terms) (slot v) kids (covers_in v 0 terms e))
      (λ e. all_covered v (summaries_from 0 terms) kids e)

  all_covered : (v : List ℕ) (m : ℕ) (fs : PlainFormulas) → occurs_in v fs ≡ true → bit_at (formula_summaries_from m fs) (slot v) ≡ 1
  all_covered v m NoFormula h = absurd cc
  all_covered v m (MoreFormulas f fs) h =
      either (occurs v f) (occurs_in v fs) h
      (λ e. kept_formulas (bit_or m (formula_summary f)) (slot v) fs (or_right m (formula_summary f) (slot v) (covered v f e)))
      (λ e. all_covered v (bit_or m (formula_summary f)) fs e)

-- nothing is captured where nothing is replaced
brings_nothing : (x v : List ℕ) (o : Option Becomes) → Stays o v → brings x o ≡ false
brings_nothing x v (Some (Put t)) h = absurd h
brings_nothing x v (Some (Called y)) h = refl
brings_nothing x v None h = refl

first_false : (a b c : Bool) → (c ≡ true → a ≡ false) → (a && (b && c)) ≡ false
first_false a b true h = ap (λ d. d && (b && true)) (h refl)
first_false true true false h = refl
first_false true false false h = refl
first_false false b false h = refl

none_of : (test : List ℕ × Becomes → Bool) (cs : Changes) → ((c : List ℕ × Becomes) → test c ≡ false) → list_any test cs ≡ false
none_of test [] h = refl
none_of test (c ∷ cs) h = ap (λ b. b || list_any test cs) (h c) ∙ none_of test cs h

stays_named : (ch : Changes) (kids : PlainFormulas) (x : List ℕ) → ((v : List ℕ) → occurs_in v kids ≡ true → Stays (lookup (bytes_eq v) ch) v) → renamed ch kids x ≡ x
stays_named ch kids x h =
    ap (λ b. if b then unmarked_from (λ name. in_new_terms ch name || (formulas_mention name kids || bound_in_some name kids)) x most_marks 1 else x)
    (none_of (λ (c : List ℕ × Becomes). brings x (lookup (bytes_eq c.0) ch) && (not (bytes_eq x c.0) && formulas_mention c.0 kids)) ch
    (λ c. first_false (brings x (lookup (bytes_eq c.0) ch)) (not (bytes_eq x c.0)) (formulas_mention c.0 kids)
    (λ e. brings_nothing x c.0 (lookup (bytes_eq c.0) ch) (h c.0 (all_free_occur c.0 kids e)))))

below_by : (x v : List ℕ) (o : Option Becomes) (b : Bool) → bytes_eq v x ≡ b → Stays o v → Stays (cond b (Some (Called x)) o) v
below_by x v o true e h = sym ((bytes_eq-Decides v x).0 e)
below_by x v o false e h = h

mutual
  stay_formula : (ch : Changes) (f : PlainFormula) → ((v : List ℕ) → occurs v f ≡ true → Stays (lookup (bytes_eq v) ch) v) → replaced_formula ch f ≡ f
  stay_formula ch (Says (Forall x s) terms kids) h =
      let inside : (v : List ℕ) → occurs_in v kids ≡ true → Stays (lookup (bytes_eq v) ch) v = λ v e. h v (right (mentions_in v terms) (occurs_in v kids) e) in
      ap (λ y. Says (Forall y s) (replaced_in ch terms) (replaced_formulas ((x, Called y) ∷ ch) kids)) (stays_named ch kids x inside)
      ∙ ap (λ ts. Says (Forall x s) ts (replaced_formulas ((x, Called x) ∷ ch) kids)) (stay_in ch terms (λ v e. h v (left (mentions_in v terms) (occurs_in v kids) e)))
      ∙ ap (Says (Forall x s) terms) (stay_formulas ((x, Called x) ∷ ch) kids (λ v e. below_by x v (lookup (bytes_eq v) ch) (bytes_eq v x) refl (inside v e)))
  stay_formula ch (Says (Exists x s) terms kids) h =
      let inside : (v : List ℕ) → occurs_in v kids ≡ true → Stays (lookup (bytes_eq v) ch) v = λ v e. h v (right (mentions_in v terms) (occurs_in v kids) e) in
      ap (λ y. Says (Exists y s) (replaced_in ch terms) (replaced_formulas ((x, Called y) ∷ ch) kids)) (stays_named ch kids x inside)
      ∙ ap (λ ts. Says (Exists x s) ts (replaced_formulas ((x, Called x) ∷ ch) kids)) (stay_in ch terms (λ v e. h v (left (mentions_in v terms) (occurs_in v kids) e)))
      ∙ ap (Says (Exists x s) terms) (stay_formulas ((x, Called x) ∷ ch) kids (λ v e. below_by x v (lookup (bytes_eq v) ch) (bytes_eq v x) refl (inside v e)))
  stay_formula ch (Says head terms kids) h =
      ap (λ ts. Says head ts (replaced_formulas ch kids)) (stay_in ch terms (λ v e. h v (left (mentions_in v terms) (occurs_in v kids) e)))
      ∙ ap (Says head terms) (stay_formulas ch kids (λ v e. h v (right (mentions_in v terms) (occurs_in v kids) e)))

  stay_formulas : (ch : Changes) (fs : PlainFormulas) → ((v : List ℕ) → occurs_in v fs ≡ true → Stays (lookup (bytes_eq v) ch) v) → replaced_formulas ch fs ≡ fs
  stay_formulas ch NoFormula h = refl
  stay_formulas ch (MoreFormulas f fs) h =
      ap (λ g. MoreFormulas g (replaced_formulas ch fs)) (stay_formula ch f (λ v e. h v (left (occurs v f) (occurs_in v fs) e)))
      ∙ ap (MoreFormulas f) (stay_formulas ch fs (λ v e. h v (right (occurs v f) (occurs_in v fs) e)))

pub formula_still_is : (bits : ℕ) (ch : Changes) (f : PlainFormula) → IsStill bits ch → bit_and (formula_summary f) bits ≡ 0 → replaced_formula ch f ≡ f
formula_still_is bits ch f still h =
    stay_formula ch f
    (λ v e. still v (no_common (formula_summary f) bits (slot v) (occurs v f) h (λ q. no_bit (formula_summary f) (slot v) (occurs v f) q (covered v f)) e))
