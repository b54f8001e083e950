-- What the rows of operators on numbers and of casts give is well formed.
use Rattle.std.proofs.Common.{◌≡◌, ℤ, pos, negsuc, Bool, true, false, List, [], ◌∷◌, ◌++◌, Option, Some, None, Result, refl, sym, ap, subst, ◌∙◌, if◌then◌else◌}
use Rattle.floyd_text.specs.declared.refusal.No.{No}
use Rattle.floyd_int.specs.declared.kinds.IntKind.{IntKind}
use Rattle.floyd_int.specs.declared.kinds.IntKind.TheVariants.{I8, U8, I16, U16, I32, U32, I64, U64}
use Rattle.floyd_int.specs.declared.kinds.IntOp.{IntOp}
use Rattle.floyd_int.specs.declared.kinds.IntOp.TheVariants as c
use Rattle.floyd_int.specs.Kind.{greatest, is_signed, least, width}
use Rattle.floyd_tree_sorts.specs.declared.heads.Head.{Head}
use Rattle.floyd_tree_sorts.specs.declared.heads.Head.TheVariants.{Signed, Unsigned}
use Rattle.floyd_tree_sorts.specs.declared.heads.Head.TheVariants as h
use Rattle.floyd_tree_sorts.specs.declared.heads.Width.TheVariants.{Bits8, Bits16}
use Rattle.floyd_tree_sorts.specs.declared.operators.Operator.{Operator}
use Rattle.floyd_tree_sorts.specs.declared.operators.Operator.TheVariants.{Vint, Vlong, Bnot, Eqz, Ltz, Lez, Sub}
use Rattle.floyd_tree_sorts.specs.declared.sorts.Sort.{Val, Z}
use Rattle.floyd_tree_sorts.specs.Operators as operators
use Rattle.floyd_tree_sorts.specs.Table.{by_row, sort_at}
use Rattle.floyd_tree.specs.Formulas.{PlainFormula}
use Rattle.floyd_tree.specs.Plain.{Plain, Plains, At, Done, More}
use Rattle.floyd_goal_formulas.specs.Fits.{Fits}
use Rattle.floyd_tree.specs.WellSorted.{with_first}
use Rattle.floyd_tree_values.specs.Means.{Defs}
use Rattle.floyd_tree_values.specs.Rules.{AllAllowed, CallsOf, IsAllowed, Scope}
use Rattle.floyd_fieldpath.specs.Nested.{literal}
use Rattle.floyd_fieldpath.specs.Projections.{kid_under, one}
use Rattle.floyd_fieldpath.specs.Sums.{plus}
use Rattle.floyd_fieldpath.specs.Written.{on_ok, written}
use Rattle.floyd_fieldpath_laws.proofs.TermSorts.{int_alone, long_alone}
use Rattle.floyd_folding.specs.Folding.{folded, folded_one}
use Rattle.floyd_symexpr_rows.specs.declared.needs.Needs.{Needs}
use Rattle.floyd_symexpr_rows.specs.declared.needs.Number.{Number}
use Rattle.floyd_symexpr_rows.specs.Formulas.{different, either}
use Rattle.floyd_symexpr_rows.specs.Rows.{amount_fits, arithmetic, bitwise, compared, comparison, complement, constant, division, is_long, is_vint, is_vlong, is_zero, narrow, negation, no_overflow, number, number_cast, number_under, or_no_number, range, ranges, row, shift, shifted, value_of_kind, vint, wide}
use Rattle.floyd_symexpr_forms.specs.Laws.{NeedsFit}
use Rattle.floyd_symexpr_forms.proofs.Answers.{Gives, Good, GoodRow, Stated, at_most_fits, both, different_fits, either_fits, folded_good, folded_one_good, literal_good, on, one_good, plus_good, row_good, written_good}
use Rattle.floyd_fieldpath_laws.proofs.TermSorts.{OneKid}
use Rattle.std.specs.Prelude.{option_and_then}

module _ (defs : Defs) (scope : Scope) where
  abbrev G : Plain → Type 0
  G t = Good defs scope Z t

  abbrev R : Plain × Needs → Type 0
  R v = GoodRow defs scope v

  abbrev S : List PlainFormula → Type 0
  S fs = Stated defs scope fs

  abbrev pub GoodNumber : Number → Type 0
  GoodNumber a = Good defs scope Z a.term

  abbrev F : PlainFormula → Type 0
  F f = Fits defs scope f

  -- ---- numbers

  alone_good : (kids : Plains) (o : OneKid kids Z) → AllAllowed defs.structs scope (CallsOf defs.funs) kids → G o.kid
  alone_good kids o a = record { sorted = o.sort; allowed = (subst (AllAllowed defs.structs scope (CallsOf defs.funs)) o.is a).0 }

  int_good : (t u : Plain) → kid_under is_vint 0 t ≡ Some u → Good defs scope Val t → G u
  int_good (At (h.Operator Vint) kids) u e g =
      let o = int_alone kids Val g.sorted in
      let same : Some o.kid ≡ Some u = ap (λ ks. kid_under is_vint 0 (At (h.Operator Vint) ks)) (sym o.is) ∙ e in
      let kid : o.kid ≡ u = cc in
      subst G kid (alone_good kids o g.allowed.1)
  int_good (At head kids) u e g = absurd cc

  long_good : (t u : Plain) → kid_under is_vlong 0 t ≡ Some u → Good defs scope Val t → G u
  long_good (At (h.Operator Vlong) kids) u e g =
      let o = long_alone kids Val g.sorted in
      let same : Some o.kid ≡ Some u = ap (λ ks. kid_under is_vlong 0 (At (h.Operator Vlong) ks)) (sym o.is) ∙ e in
      let kid : o.kid ≡ u = cc in
      subst G kid (alone_good kids o g.allowed.1)
  long_good (At head kids) u e g = absurd cc

  pub number_good : (k : IntKind) (t : Plain) → Good defs scope Val t → Gives GoodNumber (number k t)
  number_good k t g = by (number_under k t) refl
    where
      under : (u : Plain) (b : Bool) → (if b then kid_under is_vlong 0 t else kid_under is_vint 0 t) ≡ Some u → G u
      under u true f = long_good t u f g
      under u false f = int_good t u f g

      by : (o : Option Plain) → number_under k t ≡ o → Gives GoodNumber (or_no_number k o)
      by (Some u) f = under u (is_long k) f
      by None f = tt

  pub range_fits : (k : IntKind) (n : Plain) → G n → S (range k n)
  range_fits k n g = (at_most_fits defs scope (literal (least k)) n (literal_good defs scope (least k)) g, (at_most_fits defs scope n (literal (greatest k)) g (literal_good defs scope (greatest k)), tt))

  ranges_fit : (a b : Number) → GoodNumber a → GoodNumber b → S (ranges a b)
  ranges_fit a b g h = both F (range a.kind a.term) (range b.kind b.term) (range_fits a.kind a.term g) (range_fits b.kind b.term h)

  pub value_good : (k : IntKind) (n : Plain) → G n → Gives (Good defs scope Val) (value_of_kind k n)
  value_good k n g = by (is_long k)
    where
      by : (b : Bool) → Gives (Good defs scope Val) (written (one (if b then Vlong else Vint) n))
      by true = written_good defs scope Val (one Vlong n) (one_good defs scope Vlong Z Val n g refl)
      by false = written_good defs scope Val (one Vint n) (one_good defs scope Vint Z Val n g refl)

  pub vint_good : (n : Plain) → G n → Gives (Good defs scope Val) (vint n)
  vint_good n g = written_good defs scope Val (one Vint n) (one_good defs scope Vint Z Val n g refl)

  pub constant_good : (k : IntKind) (z : ℤ) → Gives (Good defs scope Val) (constant k z)
  constant_good k z = value_good k (literal z) (literal_good defs scope z)

  stated_if : (b : Bool) (fs : List PlainFormula) → S fs → S (if b then fs else [])
  stated_if true fs h = h
  stated_if false fs h = tt

  -- ---- operators

  -- a row on the number that an operator gives
  of_number : (r : Result Plain No) (term : Plain → Result Plain No) (sides : Plain → List PlainFormula) (needs : Needs) → Gives G r → NeedsFit defs scope needs → ((n : Plain) → G n → Gives (Good defs scope Val) (term n)) → ((n : Plain) → G n → S (sides n)) →
      Gives R (on_ok r (λ n. row (term n) (sides n) needs))
  of_number r term sides needs g w t s = on G R r (λ n. row (term n) (sides n) needs) g (λ n x. row_good defs scope (term n) (sides n) needs (t n x) (s n x) w)

  pub arithmetic_good : (operator : Operator) (a b : Number) (needs : Needs) → by_row (operators.row operator) (Z ∷ Z ∷ []) ≡ Some Z → GoodNumber a → GoodNumber b → NeedsFit defs scope needs → Gives R (arithmetic operator a b needs)
  arithmetic_good operator a b needs e g h w =
      of_number (folded operator a.term b.term) (value_of_kind a.kind) (λ n. if is_signed a.kind then ranges a b ++ range a.kind n else []) needs (folded_good defs scope operator a.term b.term e g h) w (value_good a.kind)
      (λ n x. stated_if (is_signed a.kind) (ranges a b ++ range a.kind n) (both F (ranges a b) (range a.kind n) (ranges_fit a b g h) (range_fits a.kind n x)))

  pub negation_good : (a : Number) (needs : Needs) → GoodNumber a → NeedsFit defs scope needs → Gives R (negation a needs)
  negation_good a needs g w =
      of_number (folded Sub (literal (pos 0)) a.term) (value_of_kind a.kind) (λ n. if is_signed a.kind then range a.kind a.term ++ range a.kind n else []) needs (folded_good defs scope Sub (literal (pos 0)) a.term refl (literal_good defs scope (pos 0)) g) w (value_good a.kind)
      (λ n x. stated_if (is_signed a.kind) (range a.kind a.term ++ range a.kind n) (both F (range a.kind a.term) (range a.kind n) (range_fits a.kind a.term g) (range_fits a.kind n x)))

  overflow_fits : (a b : Number) → GoodNumber a → GoodNumber b → S (no_overflow a b)
  overflow_fits a b g h =
      let first = different a.term (literal (least a.kind)) in
      let second = different b.term (literal (negsuc 0)) in
      stated_if (is_signed a.kind) (either first second ∷ [])
      (either_fits defs scope first second (different_fits defs scope a.term (literal (least a.kind)) g (literal_good defs scope (least a.kind))) (different_fits defs scope b.term (literal (negsuc 0)) h (literal_good defs scope (negsuc 0))), tt)

  pub division_good : (operator : Operator) (a b : Number) (needs : Needs) → by_row (operators.row operator) (Z ∷ Z ∷ []) ≡ Some Z → GoodNumber a → GoodNumber b → NeedsFit defs scope needs → Gives R (division operator a b needs)
  division_good operator a b needs e g h w =
      let zero = different b.term (literal (pos 0)) in
      of_number (folded operator a.term b.term) (value_of_kind a.kind) (λ n. ranges a b ++ zero ∷ no_overflow a b) needs (folded_good defs scope operator a.term b.term e g h) w (value_good a.kind)
      (λ n x. both F (ranges a b) (zero ∷ no_overflow a b) (ranges_fit a b g h) (different_fits defs scope b.term (literal (pos 0)) h (literal_good defs scope (pos 0)), overflow_fits a b g h))

  pub bitwise_good : (operator : Operator) (a b : Number) (needs : Needs) → by_row (operators.row operator) (Z ∷ Z ∷ []) ≡ Some Z → GoodNumber a → GoodNumber b → NeedsFit defs scope needs → Gives R (bitwise operator a b needs)
  bitwise_good operator a b needs e g h w =
      of_number (folded operator a.term b.term) (value_of_kind a.kind) (λ n. ranges a b) needs (folded_good defs scope operator a.term b.term e g h) w (value_good a.kind) (λ n x. ranges_fit a b g h)

  under_head : (head : Head) (a : Plain) → sort_at head (Z ∷ []) ≡ Some Z → IsAllowed defs.structs scope (CallsOf defs.funs) head (More a Done) → G a → Gives G (folded_one head a)
  under_head head a e i g = folded_one_good defs scope head a (record { sorted = ap (λ o. option_and_then (sort_at head) (with_first o (Some []))) g.sorted ∙ e; allowed = (i, (g.allowed, tt)) })

  pub complement_good : (a : Number) (needs : Needs) → GoodNumber a → NeedsFit defs scope needs → Gives R (complement a needs)
  complement_good a needs g w = of_number (folded_one (h.Operator Bnot) a.term) (value_of_kind a.kind) (λ n. range a.kind a.term) needs (under_head (h.Operator Bnot) a.term refl tt g) w (value_good a.kind) (λ n x. range_fits a.kind a.term g)

  pub shift_good : (operator : Operator) (a b : Number) (needs : Needs) → by_row (operators.row operator) (Z ∷ Z ∷ []) ≡ Some Z → GoodNumber a → GoodNumber b → NeedsFit defs scope needs → Gives R (shift operator a b needs)
  shift_good operator a b needs e g h w =
      on G R (folded operator a.term b.term) (λ n. shifted a b n needs) (folded_good defs scope operator a.term b.term e g h)
      (λ n x. of_number (plus b.term (literal (pos 1))) (λ more. value_of_kind a.kind n) (λ more. ranges a b ++ amount_fits a b more) needs (plus_good defs scope b.term (literal (pos 1)) h (literal_good defs scope (pos 1))) w (λ more y. value_good a.kind n x)
      (λ more y. both F (ranges a b) (amount_fits a b more) (ranges_fit a b g h)
      (at_most_fits defs scope (literal (pos 0)) b.term (literal_good defs scope (pos 0)) h, (at_most_fits defs scope more (literal (pos (width a.kind))) y (literal_good defs scope (pos (width a.kind))), tt))))

  pub compared_good : (op : IntOp) (a b : Plain) → G a → G b → Gives G (compared op a b)
  compared_good c.Eq a b g h = folded_good defs scope Eqz a b refl g h
  compared_good c.Ne a b g h = on G G (folded Eqz a b) (λ n. folded Sub (literal (pos 1)) n) (folded_good defs scope Eqz a b refl g h) (λ n x. folded_good defs scope Sub (literal (pos 1)) n refl (literal_good defs scope (pos 1)) x)
  compared_good c.Lt a b g h = folded_good defs scope Ltz a b refl g h
  compared_good c.Le a b g h = folded_good defs scope Lez a b refl g h
  compared_good c.Gt a b g h = folded_good defs scope Ltz b a refl h g
  compared_good c.Ge a b g h = folded_good defs scope Lez b a refl h g
  compared_good op a b g h = tt

  pub comparison_good : (op : IntOp) (a b : Number) (needs : Needs) → GoodNumber a → GoodNumber b → NeedsFit defs scope needs → Gives R (comparison op a b needs)
  comparison_good op a b needs g h w = of_number (compared op a.term b.term) vint (λ n. ranges a b) needs (compared_good op a.term b.term g h) w vint_good (λ n x. ranges_fit a b g h)

  pub is_zero_good : (a : Number) (needs : Needs) → GoodNumber a → NeedsFit defs scope needs → Gives R (is_zero a needs)
  is_zero_good a needs g w = comparison_good c.Eq a (record { kind = a.kind; term = literal (pos 0) }) needs g (literal_good defs scope (pos 0)) w

  -- ---- casts

  narrow_good : (head : Head) (a : Number) (needs : Needs) → sort_at head (Z ∷ []) ≡ Some Z → IsAllowed defs.structs scope (CallsOf defs.funs) head (More a.term Done) → GoodNumber a → NeedsFit defs scope needs → Gives R (narrow head a needs)
  narrow_good head a needs e i g w = of_number (folded_one head a.term) vint (λ n. []) needs (under_head head a.term e i g) w vint_good (λ n x. tt)

  wide_good : (k : IntKind) (a : Number) (needs : Needs) → GoodNumber a → NeedsFit defs scope needs → Gives R (wide k a needs)
  wide_good k a needs g w = row_good defs scope (value_of_kind k a.term) (if is_long a.kind then [] else range a.kind a.term) needs (value_good k a.term g) (by (is_long a.kind)) w
    where
      by : (b : Bool) → S (if b then [] else range a.kind a.term)
      by true = tt
      by false = range_fits a.kind a.term g

  pub number_cast_good : (k : IntKind) (a : Number) (needs : Needs) → GoodNumber a → NeedsFit defs scope needs → Gives R (number_cast k a needs)
  number_cast_good I8 a needs g w = narrow_good (Signed Bits8) a needs refl tt g w
  number_cast_good U8 a needs g w = narrow_good (Unsigned Bits8) a needs refl tt g w
  number_cast_good I16 a needs g w = narrow_good (Signed Bits16) a needs refl tt g w
  number_cast_good U16 a needs g w = narrow_good (Unsigned Bits16) a needs refl tt g w
  number_cast_good I32 a needs g w = row_good defs scope (value_of_kind I32 a.term) [] needs (value_good I32 a.term g) tt w
  number_cast_good U32 a needs g w = row_good defs scope (value_of_kind U32 a.term) [] needs (value_good U32 a.term g) tt w
  number_cast_good I64 a needs g w = wide_good I64 a needs g w
  number_cast_good U64 a needs g w = wide_good U64 a needs g w
