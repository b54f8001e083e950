-- What is written of terms with known names has known names: terms, formulas, and the answers of rows.
use Rattle.std.proofs.Common.{ℕ, zero, suc, ℤ, ◌+ℤ◌, ◌*ℤ◌, Bool, true, false, List, [], ◌∷◌, ◌++◌, Option, Some, None, Result, Ok, Err, slice_get, is_some, if◌then◌else◌}
use Rattle.std.specs.Prelude.{option_and_then}
use Rattle.std.specs.List.{AllByRecursion}
use Rattle.floyd_text.specs.declared.refusal.No.{No}
use Rattle.floyd_tree_sorts.specs.declared.heads.Head.{Head}
use Rattle.floyd_tree_sorts.specs.declared.operators.Operator.{Operator}
use Rattle.floyd_tree_sorts.specs.declared.operators.Operator.TheVariants as o
use Rattle.floyd_tree.specs.Formulas.{PlainFormula}
use Rattle.floyd_tree.specs.MadeFormulas.{formula_fault_at}
use Rattle.floyd_tree.specs.Made.{fits}
use Rattle.floyd_tree.specs.Plain.{Plain, Plains, At, Done, More, listed}
use Rattle.floyd_tree.specs.WellSorted.{sort_of}
use Rattle.floyd_assert_trees.specs.declared.items.Defs.{Defs}
use Rattle.floyd_assert_trees.specs.declared.spec.SpecTable.{SpecTable}
use Rattle.floyd_fieldpath.specs.Nested.{literal}
use Rattle.floyd_fieldpath.specs.Projections.{kid_under}
use Rattle.floyd_fieldpath.specs.Sums.{literal_in, literal_or, of_both, plus, small, times, two}
use Rattle.floyd_fieldpath.specs.Written.{ill_sorted, on_ok, too_large, written}
use Rattle.floyd_folding.specs.Folding.{folded, folded_one, number_of_one, number_of_two, of_literals}
use Rattle.floyd_goal_forms.specs.Terms.{AllKnown, GlobalsKnown, HeadsFit, IsKnown}
use Rattle.floyd_symexpr_rows.specs.declared.needs.Needs.{Needs}
use Rattle.floyd_symexpr_rows.specs.Formulas.{at_most, different, either, equal, is_pointer, said, saying}
use Rattle.floyd_symexpr_rows.specs.Rows.{row}
use Rattle.floyd_symexpr_forms.proofs.Answers.{Gives, both, chosen, on}
use Rattle.floyd_symexpr_known.specs.Laws.{NeedsAreKnown}

module _ (defs : Defs) (specs : SpecTable) where
  abbrev pub K : Plain → Type 0
  K t = GlobalsKnown defs t

  abbrev pub Stated : List PlainFormula → Type 0
  Stated fs = AllByRecursion (HeadsFit defs specs) fs

  -- ---- terms

  pub written_known : (t : Plain) → K t → Gives K (written t)
  written_known t g = by (is_some (sort_of t)) (fits t)
    where
      by : (a b : Bool) → Gives K (if a then (if b then Ok t else Err too_large) else Err ill_sorted)
      by true true = g
      by true false = tt
      by false b = tt

  pub literal_known : (z : ℤ) → K (literal z)
  literal_known z = (tt, tt)

  pub two_known : (operator : Operator) (a b : Plain) → K a → K b → K (two operator a b)
  two_known operator a b g h = (tt, (g, (h, tt)))

  literal_or_known : (o : Option ℤ) (t : Plain) → K t → Gives K (literal_or o t)
  literal_or_known None t g = written_known t g
  literal_or_known (Some z) t g = literal_known z

  pub folded_known : (operator : Operator) (a b : Plain) → K a → K b → Gives K (folded operator a b)
  folded_known operator a b g h = literal_or_known (small (of_literals (number_of_two operator) (literal_in a) (literal_in b))) (two operator a b) (two_known operator a b g h)

  pub folded_one_known : (head : Head) (a : Plain) → IsKnown defs head → K a → Gives K (folded_one head a)
  folded_one_known head a i g = literal_or_known (small (option_and_then (number_of_one head) (literal_in a))) (At head (More a Done)) (i, (g, tt))

  pub plus_known : (a b : Plain) → K a → K b → Gives K (plus a b)
  plus_known a b g h = literal_or_known (small (of_both (λ x y. x +ℤ y) (literal_in a) (literal_in b))) (two o.Add a b) (two_known o.Add a b g h)

  pub times_known : (a b : Plain) → K a → K b → Gives K (times a b)
  times_known a b g h = literal_or_known (small (of_both (λ x y. x *ℤ y) (literal_in a) (literal_in b))) (two o.Mul a b) (two_known o.Mul a b g h)

  -- ---- kids

  abbrev pub Maybe : Option Plain → Type 0
  Maybe None = Unit {0}
  Maybe (Some t) = K t

  kid_known : (kids : Plains) (n : ℕ) → AllKnown defs kids → Maybe (slice_get (listed kids) n)
  kid_known Done n g = tt
  kid_known (More t ts) zero g = g.0
  kid_known (More t ts) (suc n) g = kid_known ts n g.1

  pub under_known : (test : Head → Bool) (n : ℕ) (v : Plain) → K v → Maybe (kid_under test n v)
  under_known test n (At head kids) g = by (test head)
    where
      by : (b : Bool) → Maybe (if b then slice_get (listed kids) n else None)
      by true = kid_known kids n g.1
      by false = tt

  -- ---- formulas

  pub at_most_known : (a b : Plain) → K a → K b → HeadsFit defs specs (at_most a b)
  at_most_known a b g h = (tt, (g, (h, tt)), tt)

  pub equal_known : (a b : Plain) → K a → K b → HeadsFit defs specs (equal a b)
  equal_known a b g h = (tt, (g, (h, tt)), tt)

  pub different_known : (a b : Plain) → K a → K b → HeadsFit defs specs (different a b)
  different_known a b g h = (tt, tt, (equal_known a b g h, ((tt, tt, tt), tt)))

  pub either_known : (f g : PlainFormula) → HeadsFit defs specs f → HeadsFit defs specs g → HeadsFit defs specs (either f g)
  either_known f g h k = (tt, tt, (h, (k, tt)))

  pub is_pointer_known : (v : Plain) → K v → HeadsFit defs specs (is_pointer v)
  is_pointer_known v g = (tt, (g, tt), tt)

  said_known : (f : PlainFormula) → HeadsFit defs specs f → Gives (HeadsFit defs specs) (said f)
  said_known f h = chosen (HeadsFit defs specs) (is_some (formula_fault_at f)) (Err too_large) (Ok f) tt h

  pub saying_known : (all fs : List PlainFormula) → Stated all → Stated fs → Gives Stated (saying all fs)
  saying_known all [] h k = h
  saying_known all (f ∷ fs) h k =
      on (HeadsFit defs specs) Stated (said f) (λ g. saying (all ++ g ∷ []) fs) (said_known f k.0) (λ g x. saying_known (all ++ g ∷ []) fs (both (HeadsFit defs specs) all (g ∷ []) h (x, tt)) k.1)

  -- ---- rows

  abbrev pub Row : Plain × Needs → Type 0
  Row v = K v.0 × NeedsAreKnown defs specs v.1

  pub row_known : (term : Result Plain No) (sides : List PlainFormula) (needs : Needs) → Gives K term → Stated sides → NeedsAreKnown defs specs needs → Gives Row (row term sides needs)
  row_known term sides needs h k n =
      on K Row term (λ t. on_ok (saying needs.sides sides) (λ all. Ok (t, record needs { sides = all }))) h
      (λ t x. on Stated Row (saying needs.sides sides) (λ all. Ok (t, record needs { sides = all })) (saying_known needs.sides sides n.sides k) (λ all y. (x, record { sides = y; valid = n.valid })))
