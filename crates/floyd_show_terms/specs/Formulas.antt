-- How formulas are written.
use Rattle.std.specs.Prelude.{ℕ, Bool, true, false, if◌then◌else◌, List, [], ◌∷◌, ◌++◌, map, codes, drop}
use Rattle.floyd_tree_sorts.specs.declared.connectives.FormulaHead.{FormulaHead}
use Rattle.floyd_tree_sorts.specs.declared.connectives.FormulaHead.TheVariants.{True, False, Implies, Or, And, Forall, Exists, Equal, AtMost, IsPtr, Defined, Hasty, Compatible, FuncPtr}
use Rattle.floyd_tree_sorts.specs.declared.connectives.StepShape.{StepShape}
use Rattle.floyd_tree_sorts.specs.declared.shape.Shape.{Shape}
use Rattle.floyd_tree_sorts.specs.declared.sorts.Sort.{Sort}
use Rattle.floyd_tree_sorts.specs.Rows.{subscripts}
use Rattle.floyd_tree_sorts.specs.Table.{arrays}
use Rattle.floyd_tree.specs.Formulas.{PlainFormula, PlainFormulas, Says, NoFormula, MoreFormulas}
use Rattle.floyd_show_terms.specs.Paths.{shape_steps_text}
use Rattle.floyd_show_terms.specs.Terms.{separated, term_texts}
use Rattle.floyd_show_terms.specs.Types.{type_text}
use Rattle.floyd_show_terms.specs.Words.{sort_text}

-- a formula in writing: its text, and whether it has parentheses inside another formula
pub record WrittenFormula : Type 0 where
  pub text : List ℕ
  pub joined : Bool

abbrev pub atom : List ℕ → WrittenFormula
atom text = record { text = text; joined = false }

abbrev pub inner : WrittenFormula → List ℕ
inner w = if w.joined then codes "(" ++ w.text ++ codes ")" else w.text

abbrev pub connected : List ℕ → List WrittenFormula → WrittenFormula
connected mark ws = record { text = separated mark (map inner ws); joined = true }

abbrev pub quantified : List ℕ → List ℕ → Sort → List WrittenFormula → WrittenFormula
quantified word x s ws = record { text = word ++ x ++ codes ": " ++ sort_text s ++ codes " . " ++ separated [] (map inner ws); joined = true }

-- a word before terms that are written so
abbrev pub said_of : List ℕ → List (List ℕ) → WrittenFormula
said_of word ts = atom (word ++ separated (codes ", ") ts ++ codes ")")

-- the sizes of the type, and then the value
abbrev pub hasty_text : Shape → List (List ℕ) → List ℕ
hasty_text shape ts = codes "hasty(" ++ type_text shape ts ++ codes ", " ++ separated (codes ", ") (drop (arrays shape) ts) ++ codes ")"

-- the path and the value, behind the type
abbrev pub placed_text : List StepShape → List (List ℕ) → List ℕ
placed_text path ts = codes ", [" ++ shape_steps_text path ts ++ codes "], " ++ separated (codes ", ") (drop (subscripts path) ts) ++ codes ")"

-- the sizes of the type, the subscripts of the path, and then the value
abbrev pub compatible_text : Shape → List StepShape → List (List ℕ) → List ℕ
compatible_text shape path ts = codes "compatible(" ++ type_text shape ts ++ placed_text path (drop (arrays shape) ts)

-- a head with its terms and formulas in writing
abbrev pub formula_at : FormulaHead → List (List ℕ) → List WrittenFormula → WrittenFormula
formula_at True ts ws = atom (codes "True")
formula_at False ts ws = atom (codes "False")
formula_at Implies ts ws = connected (codes " -> ") ws
formula_at Or ts ws = connected (codes " or ") ws
formula_at And ts ws = connected (codes " and ") ws
formula_at (Forall x s) ts ws = quantified (codes "forall ") x s ws
formula_at (Exists x s) ts ws = quantified (codes "exists ") x s ws
formula_at Equal ts ws = atom (separated (codes " = ") ts)
formula_at AtMost ts ws = atom (separated (codes " <= ") ts)
formula_at IsPtr ts ws = said_of (codes "isptr(") ts
formula_at Defined ts ws = said_of (codes "defined(") ts
formula_at (Hasty shape) ts ws = atom (hasty_text shape ts)
formula_at (Compatible shape path) ts ws = atom (compatible_text shape path ts)
formula_at (FuncPtr name) ts ws = said_of (codes "func_ptr(" ++ name ++ codes ", ") ts

abbrev mutual
  pub written_formula : PlainFormula → WrittenFormula
  written_formula (Says head terms kids) = formula_at head (term_texts terms) (written_formulas kids)

  pub written_formulas : PlainFormulas → List WrittenFormula
  written_formulas NoFormula = []
  written_formulas (MoreFormulas f fs) = written_formula f ∷ written_formulas fs

abbrev pub formula_text : PlainFormula → List ℕ
formula_text f = (written_formula f).text
