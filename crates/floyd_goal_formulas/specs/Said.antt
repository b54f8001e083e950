-- What a formula says at its head.
use Rattle.std.specs.Prelude.{ℕ, List, [], ◌∷◌, Option, Some, None}
use Rattle.floyd_tree_sorts.specs.declared.connectives.FormulaHead.{FormulaHead}
use Rattle.floyd_tree_sorts.specs.declared.connectives.FormulaHead.TheVariants as f
use Rattle.floyd_tree_sorts.specs.declared.shape.Shape.{Shape}
use Rattle.floyd_tree_sorts.specs.declared.sorts.Sort.{Sort}
use Rattle.floyd_tree.specs.Formulas.{PlainFormula, form_of, terms_of, formulas_of}
use Rattle.floyd_tree.specs.Plain.{Plain}
use Rattle.floyd_goal_formulas.specs.declared.saying.Said as s

pub data Saying : Type 0 where
  Equation : (left : Plain) → (right : Plain) → Saying
  Inequality : (left : Plain) → (right : Plain) → Saying
  Pointer : (value : Plain) → Saying
  NotUndefined : (value : Plain) → Saying
  OfType : (shape : Shape) → (value : Plain) → Saying
  Absurd : Saying
  Implication : (premise : PlainFormula) → (conclusion : PlainFormula) → Saying
  Either : (left : PlainFormula) → (right : PlainFormula) → Saying
  Both : (left : PlainFormula) → (right : PlainFormula) → Saying
  ForAll : (name : List ℕ) → (sort : Sort) → (body : PlainFormula) → Saying
  ThereIs : (name : List ℕ) → (sort : Sort) → (body : PlainFormula) → Saying
  Else : Saying

abbrev pub pair_of : {T : Type 0} → List T → Option (T × T)
pair_of [] = None
pair_of (a ∷ []) = None
pair_of (a ∷ b ∷ []) = Some (a, b)
pair_of (a ∷ b ∷ c ∷ more) = None

abbrev pub one_of : {T : Type 0} → List T → Option T
one_of [] = None
one_of (a ∷ []) = Some a
one_of (a ∷ b ∷ more) = None

abbrev pub last_of : {T : Type 0} → List T → Option T
last_of [] = None
last_of (a ∷ []) = Some a
last_of (a ∷ b ∷ more) = last_of (b ∷ more)

abbrev pub of_pair : {T : Type 0} → (T → T → Saying) → Option (T × T) → Saying
of_pair says None = Else
of_pair says (Some p) = says p.0 p.1

abbrev pub of_one : {T : Type 0} → (T → Saying) → Option T → Saying
of_one says None = Else
of_one says (Some a) = says a

-- of a head, terms and formulas
abbrev pub saying : FormulaHead → List Plain → List PlainFormula → Saying
saying f.True ts fs = Else
saying f.False ts fs = Absurd
saying f.Implies ts fs = of_pair Implication (pair_of fs)
saying f.Or ts fs = of_pair Either (pair_of fs)
saying f.And ts fs = of_pair Both (pair_of fs)
saying (f.Forall x s) ts fs = of_one (ForAll x s) (one_of fs)
saying (f.Exists x s) ts fs = of_one (ThereIs x s) (one_of fs)
saying f.Equal ts fs = of_pair Equation (pair_of ts)
saying f.AtMost ts fs = of_pair Inequality (pair_of ts)
saying f.IsPtr ts fs = of_one Pointer (one_of ts)
saying f.Defined ts fs = of_one NotUndefined (one_of ts)
saying (f.Hasty shape) ts fs = of_one (OfType shape) (last_of ts)
saying (f.Compatible shape path) ts fs = Else
saying (f.FuncPtr name) ts fs = Else

abbrev pub said : PlainFormula → Saying
said formula = saying (form_of formula) (terms_of formula) (formulas_of formula)

-- what the code sees
abbrev pub seen : s.Said → Saying
seen (s.TheVariants.Equation a b) = Equation a.now b.now
seen (s.TheVariants.Inequality a b) = Inequality a.now b.now
seen (s.TheVariants.Pointer v) = Pointer v.now
seen (s.TheVariants.NotUndefined v) = NotUndefined v.now
seen (s.TheVariants.OfType shape v) = OfType shape.now v.now
seen s.TheVariants.Absurd = Absurd
seen (s.TheVariants.Implication a b) = Implication a.now b.now
seen (s.TheVariants.Either a b) = Either a.now b.now
seen (s.TheVariants.Both a b) = Both a.now b.now
seen (s.TheVariants.ForAll x s a) = ForAll x.now s.now a.now
seen (s.TheVariants.ThereIs x s a) = ThereIs x.now s.now a.now
seen s.TheVariants.Else = Else
