-- A variable whose bit is not in a formula's summary is not free in it.
use Rattle.std.proofs.Common.{◌≡◌, ℕ, ◌^◌, Bool, true, false, not, ◌||◌, ◌&&◌, ap, sym, ◌∙◌, List}
use Rattle.std.specs.Prelude.{bit_and, bit_or}
use Rattle.std.specs.Int.{bit_at}
use Rattle.floyd_tree.specs.Code.{plains-listed}
use Rattle.floyd_tree.specs.FormulaCode.{formulas-listed}
use Rattle.floyd_tree.specs.FormulaPrints.{formula_summary, formula_summaries_from}
use Rattle.floyd_tree_sorts.specs.Heads.{binds}
use Rattle.floyd_tree.specs.Formulas.{PlainFormula, PlainFormulas, Says, NoFormula, MoreFormulas, form_of, formula_mentions, formulas, formulas_mention, formulas_of, terms_of}
use Rattle.floyd_tree.specs.Plain.{mentions_in, plains}
use Rattle.floyd_tree_sorts.specs.Prints.{slot}
use Rattle.floyd_tree.specs.Prints.{summaries_from}
use Rattle.floyd_tree.proofs.Summaries.{covers_in, either, no_bit, or_left, or_right}

kept_formulas : (m i : ℕ) (fs : PlainFormulas) → bit_at m i ≡ 1 → bit_at (formula_summaries_from m fs) i ≡ 1
kept_formulas m i NoFormula h = h
kept_formulas m i (MoreFormulas f fs) h = kept_formulas (bit_or m (formula_summary f)) i fs (or_left m (formula_summary f) i h)

second_true : (a b : Bool) → (a && b) ≡ true → b ≡ true
second_true true b h = h
second_true false b h = absurd cc

mutual
  free_covers : (x : List ℕ) (f : PlainFormula) → formula_mentions x f ≡ true → bit_at (formula_summary f) (slot x) ≡ 1
  free_covers x (Says head terms kids) h =
      either (mentions_in x terms) (not (binds x head) && formulas_mention x kids) h
      (λ e. kept_formulas (summaries_from 0 terms) (slot x) kids (covers_in x 0 terms e))
      (λ e. free_covers_in x (summaries_from 0 terms) kids (second_true (not (binds x head)) (formulas_mention x kids) e))

  free_covers_in : (x : List ℕ) (m : ℕ) (fs : PlainFormulas) → formulas_mention x fs ≡ true → bit_at (formula_summaries_from m fs) (slot x) ≡ 1
  free_covers_in x m NoFormula h = absurd cc
  free_covers_in x m (MoreFormulas f fs) h =
      either (formula_mentions x f) (formulas_mention x fs) h
      (λ e. kept_formulas (bit_or m (formula_summary f)) (slot x) fs (or_right m (formula_summary f) (slot x) (free_covers x f e)))
      (λ e. free_covers_in x (bit_or m (formula_summary f)) fs e)

pub not_free : (x : List ℕ) (f : PlainFormula) → bit_and (formula_summary f) (2 ^ slot x) ≡ 0 → formula_mentions x f ≡ false
not_free x f h = no_bit (formula_summary f) (slot x) (formula_mentions x f) h (free_covers x f)

pub formula_mentions_parts : (x : List ℕ) (f : PlainFormula) → formula_mentions x f ≡ (mentions_in x (plains (terms_of f)) || (not (binds x (form_of f)) && formulas_mention x (formulas (formulas_of f))))
formula_mentions_parts x (Says head terms kids) =
    ap (λ ts. mentions_in x ts || (not (binds x head) && formulas_mention x kids)) (sym (plains-listed terms))
    ∙ ap (λ fs. mentions_in x (plains (terms_of (Says head terms kids))) || (not (binds x head) && formulas_mention x fs)) (sym (formulas-listed kids))
