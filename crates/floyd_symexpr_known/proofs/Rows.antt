-- The names in what the rows of operators on numbers and of casts give are known.
use Rattle.std.proofs.Common.{ℤ, pos, negsuc, Bool, true, false, List, [], ◌∷◌, ◌++◌, Option, Some, None, Result, if◌then◌else◌}
use Rattle.floyd_text.specs.declared.refusal.No.{No}
use Rattle.floyd_int.specs.declared.kinds.IntKind.{IntKind}
use Rattle.floyd_int.specs.declared.kinds.IntKind.TheVariants.{I8, U8, I16, U16, I32, U32, I64, U64}
use Rattle.floyd_int.specs.declared.kinds.IntOp.{IntOp}
use Rattle.floyd_int.specs.declared.kinds.IntOp.TheVariants as c
use Rattle.floyd_int.specs.Kind.{greatest, is_signed, least, width}
use Rattle.floyd_tree_sorts.specs.declared.heads.Head.{Head}
use Rattle.floyd_tree_sorts.specs.declared.heads.Head.TheVariants.{Signed, Unsigned}
use Rattle.floyd_tree_sorts.specs.declared.heads.Head.TheVariants as h
use Rattle.floyd_tree_sorts.specs.declared.heads.Width.TheVariants.{Bits8, Bits16}
use Rattle.floyd_tree_sorts.specs.declared.operators.Operator.{Operator}
use Rattle.floyd_tree_sorts.specs.declared.operators.Operator.TheVariants.{Vint, Vlong, Bnot, Eqz, Ltz, Lez, Sub}
use Rattle.floyd_tree.specs.Formulas.{PlainFormula}
use Rattle.floyd_tree.specs.Plain.{Plain}
use Rattle.floyd_fieldpath.specs.Nested.{literal}
use Rattle.floyd_fieldpath.specs.Projections.{kid_under, one}
use Rattle.floyd_fieldpath.specs.Sums.{plus}
use Rattle.floyd_fieldpath.specs.Written.{on_ok, written}
use Rattle.floyd_folding.specs.Folding.{folded, folded_one}
use Rattle.floyd_symexpr_rows.specs.declared.needs.Needs.{Needs}
use Rattle.floyd_symexpr_rows.specs.declared.needs.Number.{Number}
use Rattle.floyd_symexpr_rows.specs.Formulas.{different, either}
use Rattle.floyd_symexpr_rows.specs.Rows.{amount_fits, arithmetic, bitwise, compared, comparison, complement, constant, division, is_long, is_vint, is_vlong, is_zero, narrow, negation, no_overflow, number, number_cast, number_under, or_no_number, range, ranges, row, shift, shifted, value_of_kind, vint, wide}
use Rattle.floyd_assert_trees.specs.declared.spec.SpecTable.{SpecTable}
use Rattle.floyd_assert_trees.specs.declared.items.Defs.{Defs}
use Rattle.floyd_goal_forms.specs.Terms.{HeadsFit, IsKnown}
use Rattle.floyd_symexpr_forms.proofs.Answers.{Gives, both, on}
use Rattle.floyd_symexpr_known.specs.Laws.{NeedsAreKnown}
use Rattle.floyd_symexpr_known.proofs.Answers.{K, Maybe, Row, Stated, at_most_known, different_known, either_known, folded_known, folded_one_known, literal_known, plus_known, row_known, under_known, written_known}

module _ (defs : Defs) (specs : SpecTable) where
  abbrev G : Plain → Type 0
  G t = K defs specs t

  abbrev R : Plain × Needs → Type 0
  R v = Row defs specs v

  abbrev S : List PlainFormula → Type 0
  S fs = Stated defs specs fs

  abbrev pub GoodNumber : Number → Type 0
  GoodNumber a = K defs specs a.term

  abbrev F : PlainFormula → Type 0
  F f = HeadsFit defs specs f

  -- ---- numbers

  pub number_known : (k : IntKind) (t : Plain) → K defs specs t → Gives GoodNumber (number k t)
  number_known k t g = by (number_under k t) (under (is_long k))
    where
      under : (b : Bool) → Maybe defs specs (if b then kid_under is_vlong 0 t else kid_under is_vint 0 t)
      under true = under_known defs specs is_vlong 0 t g
      under false = under_known defs specs is_vint 0 t g

      by : (o : Option Plain) → Maybe defs specs o → Gives GoodNumber (or_no_number k o)
      by (Some u) f = f
      by None f = tt

  pub range_known : (k : IntKind) (n : Plain) → G n → S (range k n)
  range_known k n g = (at_most_known defs specs (literal (least k)) n (literal_known defs specs (least k)) g, (at_most_known defs specs n (literal (greatest k)) g (literal_known defs specs (greatest k)), tt))

  ranges_known : (a b : Number) → GoodNumber a → GoodNumber b → S (ranges a b)
  ranges_known a b g h = both F (range a.kind a.term) (range b.kind b.term) (range_known a.kind a.term g) (range_known b.kind b.term h)

  pub value_known : (k : IntKind) (n : Plain) → G n → Gives (K defs specs) (value_of_kind k n)
  value_known k n g = by (is_long k)
    where
      by : (b : Bool) → Gives (K defs specs) (written (one (if b then Vlong else Vint) n))
      by true = written_known defs specs (one Vlong n) (tt, (g, tt))
      by false = written_known defs specs (one Vint n) (tt, (g, tt))

  pub vint_known : (n : Plain) → G n → Gives (K defs specs) (vint n)
  vint_known n g = written_known defs specs (one Vint n) (tt, (g, tt))

  pub constant_known : (k : IntKind) (z : ℤ) → Gives (K defs specs) (constant k z)
  constant_known k z = value_known k (literal z) (literal_known defs specs z)

  stated_if : (b : Bool) (fs : List PlainFormula) → S fs → S (if b then fs else [])
  stated_if true fs h = h
  stated_if false fs h = tt

  -- ---- operators

  -- a row on the number that an operator gives
  of_number : (r : Result Plain No) (term : Plain → Result Plain No) (sides : Plain → List PlainFormula) (needs : Needs) → Gives G r → NeedsAreKnown defs specs needs → ((n : Plain) → G n → Gives (K defs specs) (term n)) → ((n : Plain) → G n → S (sides n)) →
      Gives R (on_ok r (λ n. row (term n) (sides n) needs))
  of_number r term sides needs g w t s = on G R r (λ n. row (term n) (sides n) needs) g (λ n x. row_known defs specs (term n) (sides n) needs (t n x) (s n x) w)

  pub arithmetic_known : (operator : Operator) (a b : Number) (needs : Needs) → GoodNumber a → GoodNumber b → NeedsAreKnown defs specs needs → Gives R (arithmetic operator a b needs)
  arithmetic_known operator a b needs g h w =
      of_number (folded operator a.term b.term) (value_of_kind a.kind) (λ n. if is_signed a.kind then ranges a b ++ range a.kind n else []) needs (folded_known defs specs operator a.term b.term g h) w (value_known a.kind)
      (λ n x. stated_if (is_signed a.kind) (ranges a b ++ range a.kind n) (both F (ranges a b) (range a.kind n) (ranges_known a b g h) (range_known a.kind n x)))

  pub negation_known : (a : Number) (needs : Needs) → GoodNumber a → NeedsAreKnown defs specs needs → Gives R (negation a needs)
  negation_known a needs g w =
      of_number (folded Sub (literal (pos 0)) a.term) (value_of_kind a.kind) (λ n. if is_signed a.kind then range a.kind a.term ++ range a.kind n else []) needs (folded_known defs specs Sub (literal (pos 0)) a.term (literal_known defs specs (pos 0)) g) w (value_known a.kind)
      (λ n x. stated_if (is_signed a.kind) (range a.kind a.term ++ range a.kind n) (both F (range a.kind a.term) (range a.kind n) (range_known a.kind a.term g) (range_known a.kind n x)))

  overflow_known : (a b : Number) → GoodNumber a → GoodNumber b → S (no_overflow a b)
  overflow_known a b g h =
      let first = different a.term (literal (least a.kind)) in
      let second = different b.term (literal (negsuc 0)) in
      stated_if (is_signed a.kind) (either first second ∷ [])
      (either_known defs specs first second (different_known defs specs a.term (literal (least a.kind)) g (literal_known defs specs (least a.kind))) (different_known defs specs b.term (literal (negsuc 0)) h (literal_known defs specs (negsuc 0))), tt)

  pub division_known : (operator : Operator) (a b : Number) (needs : Needs) → GoodNumber a → GoodNumber b → NeedsAreKnown defs specs needs → Gives R (division operator a b needs)
  division_known operator a b needs g h w =
      let zero = different b.term (literal (pos 0)) in
      of_number (folded operator a.term b.term) (value_of_kind a.kind) (λ n. ranges a b ++ zero ∷ no_overflow a b) needs (folded_known defs specs operator a.term b.term g h) w (value_known a.kind)
      (λ n x. both F (ranges a b) (zero ∷ no_overflow a b) (ranges_known a b g h) (different_known defs specs b.term (literal (pos 0)) h (literal_known defs specs (pos 0)), overflow_known a b g h))

  pub bitwise_known : (operator : Operator) (a b : Number) (needs : Needs) → GoodNumber a → GoodNumber b → NeedsAreKnown defs specs needs → Gives R (bitwise operator a b needs)
  bitwise_known operator a b needs g h w =
      of_number (folded operator a.term b.term) (value_of_kind a.kind) (λ n. ranges a b) needs (folded_known defs specs operator a.term b.term g h) w (value_known a.kind) (λ n x. ranges_known a b g h)

  pub complement_known : (a : Number) (needs : Needs) → GoodNumber a → NeedsAreKnown defs specs needs → Gives R (complement a needs)
  complement_known a needs g w = of_number (folded_one (h.Operator Bnot) a.term) (value_of_kind a.kind) (λ n. range a.kind a.term) needs (folded_one_known defs specs (h.Operator Bnot) a.term tt g) w (value_known a.kind) (λ n x. range_known a.kind a.term g)

  pub shift_known : (operator : Operator) (a b : Number) (needs : Needs) → GoodNumber a → GoodNumber b → NeedsAreKnown defs specs needs → Gives R (shift operator a b needs)
  shift_known operator a b needs g h w =
      on G R (folded operator a.term b.term) (λ n. shifted a b n needs) (folded_known defs specs operator a.term b.term g h)
      (λ n x. of_number (plus b.term (literal (pos 1))) (λ more. value_of_kind a.kind n) (λ more. ranges a b ++ amount_fits a b more) needs (plus_known defs specs b.term (literal (pos 1)) h (literal_known defs specs (pos 1))) w (λ more y. value_known a.kind n x)
      (λ more y. both F (ranges a b) (amount_fits a b more) (ranges_known a b g h)
      (at_most_known defs specs (literal (pos 0)) b.term (literal_known defs specs (pos 0)) h, (at_most_known defs specs more (literal (pos (width a.kind))) y (literal_known defs specs (pos (width a.kind))), tt))))

  pub compared_known : (op : IntOp) (a b : Plain) → G a → G b → Gives G (compared op a b)
  compared_known c.Eq a b g h = folded_known defs specs Eqz a b g h
  compared_known c.Ne a b g h = on G G (folded Eqz a b) (λ n. folded Sub (literal (pos 1)) n) (folded_known defs specs Eqz a b g h) (λ n x. folded_known defs specs Sub (literal (pos 1)) n (literal_known defs specs (pos 1)) x)
  compared_known c.Lt a b g h = folded_known defs specs Ltz a b g h
  compared_known c.Le a b g h = folded_known defs specs Lez a b g h
  compared_known c.Gt a b g h = folded_known defs specs Ltz b a h g
  compared_known c.Ge a b g h = folded_known defs specs Lez b a h g
  compared_known op a b g h = tt

  pub comparison_known : (op : IntOp) (a b : Number) (needs : Needs) → GoodNumber a → GoodNumber b → NeedsAreKnown defs specs needs → Gives R (comparison op a b needs)
  comparison_known op a b needs g h w = of_number (compared op a.term b.term) vint (λ n. ranges a b) needs (compared_known op a.term b.term g h) w vint_known (λ n x. ranges_known a b g h)

  pub is_zero_known : (a : Number) (needs : Needs) → GoodNumber a → NeedsAreKnown defs specs needs → Gives R (is_zero a needs)
  is_zero_known a needs g w = comparison_known c.Eq a (record { kind = a.kind; term = literal (pos 0) }) needs g (literal_known defs specs (pos 0)) w

  -- ---- casts

  narrow_known : (head : Head) (a : Number) (needs : Needs) → IsKnown defs head → GoodNumber a → NeedsAreKnown defs specs needs → Gives R (narrow head a needs)
  narrow_known head a needs i g w = of_number (folded_one head a.term) vint (λ n. []) needs (folded_one_known defs specs head a.term i g) w vint_known (λ n x. tt)

  wide_known : (k : IntKind) (a : Number) (needs : Needs) → GoodNumber a → NeedsAreKnown defs specs needs → Gives R (wide k a needs)
  wide_known k a needs g w = row_known defs specs (value_of_kind k a.term) (if is_long a.kind then [] else range a.kind a.term) needs (value_known k a.term g) (by (is_long a.kind)) w
    where
      by : (b : Bool) → S (if b then [] else range a.kind a.term)
      by true = tt
      by false = range_known a.kind a.term g

  pub number_cast_known : (k : IntKind) (a : Number) (needs : Needs) → GoodNumber a → NeedsAreKnown defs specs needs → Gives R (number_cast k a needs)
  number_cast_known I8 a needs g w = narrow_known (Signed Bits8) a needs tt g w
  number_cast_known U8 a needs g w = narrow_known (Unsigned Bits8) a needs tt g w
  number_cast_known I16 a needs g w = narrow_known (Signed Bits16) a needs tt g w
  number_cast_known U16 a needs g w = narrow_known (Unsigned Bits16) a needs tt g w
  number_cast_known I32 a needs g w = row_known defs specs (value_of_kind I32 a.term) [] needs (value_known I32 a.term g) tt w
  number_cast_known U32 a needs g w = row_known defs specs (value_of_kind U32 a.term) [] needs (value_known U32 a.term g) tt w
  number_cast_known I64 a needs g w = wide_known I64 a needs g w
  number_cast_known U64 a needs g w = wide_known U64 a needs g w
