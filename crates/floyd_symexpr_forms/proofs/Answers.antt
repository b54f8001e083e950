-- What is written of well-formed terms is well formed: terms, formulas, and the answers of rows.
use Rattle.std.proofs.Common.{◌≡◌, ℤ, ◌+ℤ◌, ◌*ℤ◌, Bool, true, false, ◌&&◌, List, [], ◌∷◌, ◌++◌, Option, Some, None, Result, Ok, Err, refl, ap, ap₂, is_some, if◌then◌else◌}
use Rattle.std.specs.List.{AllByRecursion}
use Rattle.floyd_text.specs.declared.refusal.No.{No}
use Rattle.floyd_tree_sorts.specs.declared.connectives.FormulaHead.TheVariants.{AtMost, Equal, Implies, Or, IsPtr}
use Rattle.floyd_tree_sorts.specs.declared.heads.Head.{Head}
use Rattle.floyd_tree_sorts.specs.declared.operators.Operator.{Operator}
use Rattle.floyd_tree_sorts.specs.declared.operators.Operator.TheVariants as o
use Rattle.floyd_tree_sorts.specs.declared.sorts.Sort.{Sort, Val, Z}
use Rattle.floyd_tree_sorts.specs.Operators as operators
use Rattle.floyd_tree_sorts.specs.Table.{by_row}
use Rattle.floyd_tree.specs.Formulas.{PlainFormula, takes_all, well_sorted}
use Rattle.floyd_tree.specs.MadeFormulas.{formula_fault_at}
use Rattle.floyd_tree.specs.Made.{fits}
use Rattle.floyd_tree.specs.Plain.{Plain, At, Done, More}
use Rattle.floyd_tree.specs.WellSorted.{sort_of, with_first}
use Rattle.floyd_tree_values.specs.Means.{Defs}
use Rattle.floyd_tree_values.specs.Rules.{Scope}
use Rattle.floyd_goal_formulas.specs.Fits.{Fits}
use Rattle.floyd_fieldpath.specs.Nested.{literal}
use Rattle.floyd_fieldpath.specs.Projections.{one}
use Rattle.floyd_fieldpath.specs.Sums.{literal_in, literal_or, of_both, plus, small, times, two}
use Rattle.floyd_fieldpath.specs.Written.{ill_sorted, on_ok, too_large, written}
use Rattle.floyd_fieldpath_laws.proofs.TermSorts.{one_sort, two_sort}
use Rattle.floyd_folding.specs.Folding.{folded, folded_one, number_of_one, number_of_two, of_literals}
use Rattle.floyd_symexpr_rows.specs.declared.needs.Needs.{Needs}
use Rattle.floyd_symexpr_rows.specs.Formulas.{absurd_formula, at_most, different, either, equal, is_pointer, said, saying}
use Rattle.floyd_symexpr_rows.specs.Rows.{row}
use Rattle.floyd_symexpr_forms.specs.Laws.{NeedsFit, TermIn}
use Rattle.std.specs.Prelude.{option_and_then}

-- what is so of an answer, unless it is a refusal
abbrev pub Gives : {A : Type 0} → (A → Type 0) → Result A No → Type 0
Gives P (Ok a) = P a
Gives P (Err why) = Unit {0}

pub on : {A B : Type 0} (P : A → Type 0) (Q : B → Type 0) (r : Result A No) (f : A → Result B No) → Gives P r → ((a : A) → P a → Gives Q (f a)) → Gives Q (on_ok r f)
on P Q (Ok a) f h k = k a h
on P Q (Err why) f h k = tt

pub chosen : {A : Type 0} (P : A → Type 0) (b : Bool) (r s : Result A No) → Gives P r → Gives P s → Gives P (if b then r else s)
chosen P true r s h k = h
chosen P false r s h k = k

pub both : {A : Type 0} (P : A → Type 0) (xs ys : List A) → AllByRecursion P xs → AllByRecursion P ys → AllByRecursion P (xs ++ ys)
both P [] ys h k = k
both P (x ∷ xs) ys h k = (h.0, both P xs ys h.1 k)

module _ (defs : Defs) (scope : Scope) where
  abbrev pub Good : Sort → Plain → Type 0
  Good s t = TermIn defs scope s t

  abbrev pub Stated : List PlainFormula → Type 0
  Stated fs = AllByRecursion (Fits defs scope) fs

  -- ---- terms

  pub written_good : (s : Sort) (t : Plain) → Good s t → Gives (Good s) (written t)
  written_good s t g = by (is_some (sort_of t)) (fits t)
    where
      by : (a b : Bool) → Gives (Good s) (if a then (if b then Ok t else Err too_large) else Err ill_sorted)
      by true true = g
      by true false = tt
      by false b = tt

  pub literal_good : (z : ℤ) → Good Z (literal z)
  literal_good z = record { sorted = refl; allowed = (tt, tt) }

  pub one_good : (operator : Operator) (a s : Sort) (v : Plain) → Good a v → by_row (operators.row operator) (a ∷ []) ≡ Some s → Good s (one operator v)
  one_good operator a s v g e = record { sorted = one_sort operator s a v g.sorted e; allowed = (tt, (g.allowed, tt)) }

  pub two_good : (operator : Operator) (a b s : Sort) (v w : Plain) → Good a v → Good b w → by_row (operators.row operator) (a ∷ b ∷ []) ≡ Some s → Good s (two operator v w)
  two_good operator a b s v w g h e = record { sorted = two_sort operator s a b v w g.sorted h.sorted e; allowed = (tt, (g.allowed, (h.allowed, tt))) }

  pub folded_or : (o : Option ℤ) (t : Plain) → Good Z t → Gives (Good Z) (literal_or o t)
  folded_or None t g = written_good Z t g
  folded_or (Some z) t g = literal_good z

  pub folded_good : (operator : Operator) (a b : Plain) → by_row (operators.row operator) (Z ∷ Z ∷ []) ≡ Some Z → Good Z a → Good Z b → Gives (Good Z) (folded operator a b)
  folded_good operator a b e g h =
      folded_or (small (of_literals (number_of_two operator) (literal_in a) (literal_in b))) (two operator a b) (two_good operator Z Z Z a b g h e)

  pub folded_one_good : (head : Head) (a : Plain) → Good Z (At head (More a Done)) → Gives (Good Z) (folded_one head a)
  folded_one_good head a g = folded_or (small (option_and_then (number_of_one head) (literal_in a))) (At head (More a Done)) g

  pub plus_good : (a b : Plain) → Good Z a → Good Z b → Gives (Good Z) (plus a b)
  plus_good a b g h = folded_or (small (of_both (λ x y. x +ℤ y) (literal_in a) (literal_in b))) (two o.Add a b) (two_good o.Add Z Z Z a b g h refl)

  pub times_good : (a b : Plain) → Good Z a → Good Z b → Gives (Good Z) (times a b)
  times_good a b g h = folded_or (small (of_both (λ x y. x *ℤ y) (literal_in a) (literal_in b))) (two o.Mul a b) (two_good o.Mul Z Z Z a b g h refl)

  -- ---- formulas

  pub at_most_fits : (a b : Plain) → Good Z a → Good Z b → Fits defs scope (at_most a b)
  at_most_fits a b g h = record {
    sorted = ap₂ (λ s t. takes_all AtMost (with_first s (with_first t (Some []))) 0 && true) g.sorted h.sorted;
    allowed = ((g.allowed, (h.allowed, tt)), tt);
  }

  pub equal_fits : (a b : Plain) → Good Z a → Good Z b → Fits defs scope (equal a b)
  equal_fits a b g h = record {
    sorted = ap₂ (λ s t. takes_all Equal (with_first s (with_first t (Some []))) 0 && true) g.sorted h.sorted;
    allowed = ((g.allowed, (h.allowed, tt)), tt);
  }

  pub different_fits : (a b : Plain) → Good Z a → Good Z b → Fits defs scope (different a b)
  different_fits a b g h =
      let e = equal_fits a b g h in
      record { sorted = ap (λ w. takes_all Implies (Some []) 2 && (w && (well_sorted absurd_formula && true))) e.sorted; allowed = (tt, (e.allowed, ((tt, tt), tt))) }

  pub either_fits : (f g : PlainFormula) → Fits defs scope f → Fits defs scope g → Fits defs scope (either f g)
  either_fits f g h k = record {
    sorted = ap₂ (λ v w. takes_all Or (Some []) 2 && (v && (w && true))) h.sorted k.sorted;
    allowed = (tt, (h.allowed, (k.allowed, tt)));
  }

  pub is_pointer_fits : (v : Plain) → Good Val v → Fits defs scope (is_pointer v)
  is_pointer_fits v g = record { sorted = ap (λ s. takes_all IsPtr (with_first s (Some [])) 0 && true) g.sorted; allowed = ((g.allowed, tt), tt) }

  said_fits : (f : PlainFormula) → Fits defs scope f → Gives (Fits defs scope) (said f)
  said_fits f h = chosen (Fits defs scope) (is_some (formula_fault_at f)) (Err too_large) (Ok f) tt h

  pub saying_fits : (all fs : List PlainFormula) → Stated all → Stated fs → Gives Stated (saying all fs)
  saying_fits all [] h k = h
  saying_fits all (f ∷ fs) h k =
      on (Fits defs scope) Stated (said f) (λ g. saying (all ++ g ∷ []) fs) (said_fits f k.0) (λ g x. saying_fits (all ++ g ∷ []) fs (both (Fits defs scope) all (g ∷ []) h (x, tt)) k.1)

  -- ---- rows

  abbrev pub GoodRow : Plain × Needs → Type 0
  GoodRow v = Good Val v.0 × NeedsFit defs scope v.1

  pub row_good : (term : Result Plain No) (sides : List PlainFormula) (needs : Needs) → Gives (Good Val) term → Stated sides → NeedsFit defs scope needs → Gives GoodRow (row term sides needs)
  row_good term sides needs h k n =
      on (Good Val) GoodRow term (λ t. on_ok (saying needs.sides sides) (λ all. Ok (t, record needs { sides = all }))) h
      (λ t x. on Stated GoodRow (saying needs.sides sides) (λ all. Ok (t, record needs { sides = all })) (saying_fits needs.sides sides n.sides k) (λ all y. (x, record { sides = y; valid = n.valid })))
