-- Plain formulas as data: a formula is the list of its heads and terms in preorder, each with its number of kids.
use Rattle.std.specs.Prelude.{◌≡◌, ℕ, List, [], ◌∷◌, ◌++◌, length, take, drop, refl}
use Rattle.std.specs.Coded.{Coded, code_by, coded×, coded_ℕ, coded_list}
use Rattle.std.proofs.Common.{sym, ◌∙◌, ap}
use Rattle.std.proofs.Math.Seq.{take-append_seam, drop-append_seam}
use Rattle.std.proofs.lemmas.List.{append-nil, append_assoc}
use Rattle.floyd_tree_sorts.specs.declared.connectives.FormulaHead.{FormulaHead}
use Rattle.floyd_tree_sorts.specs.declared.connectives.FormulaHead.TheVariants.{True}
use Rattle.floyd_tree.specs.Code.{plains-listed}
use Rattle.floyd_tree.specs.Formulas.{PlainFormula, PlainFormulas, Says, NoFormula, MoreFormulas, formulas, listed_formulas}
use Rattle.floyd_tree.specs.Plain.{Plain, Done, listed, plains}

pub formulas-listed : (kids : PlainFormulas) → formulas (listed_formulas kids) ≡ kids
formulas-listed NoFormula = refl
formulas-listed (MoreFormulas f fs) = ap (MoreFormulas f) (formulas-listed fs)

pub listed-formulas : (kids : List PlainFormula) → listed_formulas (formulas kids) ≡ kids
listed-formulas [] = refl
listed-formulas (f ∷ fs) = ap (λ gs. f ∷ gs) (listed-formulas fs)

abbrev pub Entry : Type 0
Entry = FormulaHead × (List Plain × ℕ)

abbrev mutual
  pub written : PlainFormula → List Entry
  written (Says head terms kids) = (head, (listed terms, length (listed_formulas kids))) ∷ written_all kids

  pub written_all : PlainFormulas → List Entry
  written_all NoFormula = []
  written_all (MoreFormulas f fs) = written f ++ written_all fs

-- reads from the end, with the formulas behind on a stack
abbrev pub push : FormulaHead → List Plain → ℕ → List PlainFormula → List PlainFormula
push head terms n stack = Says head (plains terms) (formulas (take n stack)) ∷ drop n stack

abbrev pub run : List Entry → List PlainFormula
run [] = []
run (e ∷ es) = push e.0 e.1.0 e.1.1 (run es)

abbrev pub first_of : List PlainFormula → PlainFormula
first_of [] = Says True Done NoFormula
first_of (f ∷ fs) = f

abbrev pub read : List Entry → PlainFormula
read es = first_of (run es)

mutual
  pub run-written : (f : PlainFormula) (es : List Entry) → run (written f ++ es) ≡ f ∷ run es
  run-written (Says head terms kids) es =
      ap (push head (listed terms) (length (listed_formulas kids))) (run-written_all kids es)
      ∙ ap (λ fs. Says head (plains (listed terms)) (formulas fs) ∷ drop (length (listed_formulas kids)) (listed_formulas kids ++ run es)) (take-append_seam (listed_formulas kids) (run es))
      ∙ ap (λ fs. Says head (plains (listed terms)) (formulas (listed_formulas kids)) ∷ fs) (drop-append_seam (listed_formulas kids) (run es))
      ∙ ap (λ fs. Says head (plains (listed terms)) fs ∷ run es) (formulas-listed kids)
      ∙ ap (λ ts. Says head ts kids ∷ run es) (plains-listed terms)

  pub run-written_all : (kids : PlainFormulas) (es : List Entry) → run (written_all kids ++ es) ≡ listed_formulas kids ++ run es
  run-written_all NoFormula es = refl
  run-written_all (MoreFormulas f fs) es =
      ap run (append_assoc (written f) (written_all fs) es)
      ∙ run-written f (written_all fs ++ es)
      ∙ ap (λ gs. f ∷ gs) (run-written_all fs es)

pub read-written : (f : PlainFormula) → read (written f) ≡ f
read-written f = ap read (sym (append-nil (written f))) ∙ ap first_of (run-written f [])

abbrev pub formula_code : Coded FormulaHead → Coded Plain → Coded PlainFormula
formula_code c d = code_by (List Entry) (coded_list (coded× c (coded× (coded_list d) coded_ℕ))) written read read-written
