-- What follows by the type of an operand.
use Rattle.std.proofs.Common.{◌≡◌, Bool, true, false, Option, Some, None, Result, Ok, Err, refl, ap, sym, ◌∙◌}
use Rattle.floyd_text.specs.declared.refusal.No.{No}
use Rattle.floyd_text.specs.declared.refusal.RuleStop.{RuleStop}
use Rattle.floyd_text.specs.Gives.{RuleGives}
use Rattle.floyd_int.specs.declared.kinds.IntKind.{IntKind}
use Rattle.floyd_ctypes.specs.declared.ctype.CType.{CType, Void, Int, Pointer', Array', Struct, Function'}
use Rattle.floyd_ctypes.specs.Structs.{Structs}
use Rattle.floyd_clight_machine.specs.Types.{is_pointer}
use Rattle.floyd_tree.specs.Plain.{Plain}
use Rattle.floyd_assert_trees.specs.declared.assertion.Assertion.{Assertion}
use Rattle.floyd_fieldpath.specs.Written.{on_ok}
use Rattle.floyd_symexpr_rows.specs.declared.needs.Needs.{Needs}
use Rattle.floyd_symexpr_rows.specs.Rows.{not_number, null}
use Rattle.floyd_symexpr_rows.proofs.SayingLemmas.{stops}
use Rattle.floyd_symexpr_paths.specs.declared.lvalue.Lvalue.{Lvalue}
use Rattle.floyd_symexpr_paths.specs.Places.{element, elements_at, first, pointed}
use Rattle.floyd_symexpr.specs.Expressions.{Placed, Reading, Valued, behind_type, elements, kind_of, sum_behind, sum_of}
use Rattle.floyd_symexpr.specs.ReadingClauses.{is_array}

-- what follows once the place or the value is there

abbrev pub after_array : CType → Lvalue × Needs → Result (Lvalue × Needs) No
after_array t l = Ok (element t first l.0, l.1)

abbrev pub after_pointer : CType → Plain × Needs → Result (Lvalue × Needs) No
after_pointer t v = Ok (pointed v.0 t, v.1)

abbrev pub after_elements : CType → Plain × Needs → Result (Lvalue × Needs) No
after_elements t v = Ok (elements_at v.0 t, v.1)

array_behind : (u : CType) (place : Placed) (value : Valued) (t : CType) (n : Needs) → is_array u ≡ true → behind_type u place value t n ≡ on_ok (place n) (after_array t)
array_behind (Array' p u m) place value t n e = refl
array_behind u place value t n e = absurd cc

pub behind_array : (u : CType) (place : Placed) (value : Valued) (t : CType) (n : Needs) (test : Bool) → test ≡ is_array u → test ≡ true → behind_type u place value t n ≡ on_ok (place n) (after_array t)
behind_array u place value t n test judged array = array_behind u place value t n (sym judged ∙ array)

value_behind : (u : CType) (place : Placed) (value : Valued) (t : CType) (n : Needs) → is_array u ≡ false → behind_type u place value t n ≡ on_ok (value n) (after_pointer t)
value_behind (Array' p u m) place value t n e = absurd cc
value_behind Void place value t n e = refl
value_behind (Int k) place value t n e = refl
value_behind (Pointer' p u) place value t n e = refl
value_behind (Struct tag) place value t n e = refl
value_behind (Function' shape ps p r) place value t n e = refl

pub behind_value : (u : CType) (place : Placed) (value : Valued) (t : CType) (n : Needs) (test : Bool) → test ≡ is_array u → test ≡ false → behind_type u place value t n ≡ on_ok (value n) (after_pointer t)
behind_value u place value t n test judged other = value_behind u place value t n (sym judged ∙ other)

module _ (source : Assertion) (structs : Structs) where
  array_elements : (u t : CType) (a : Reading) (n : Needs) → is_array u ≡ true → elements source structs u t a n ≡ a.place n
  array_elements (Array' p u m) t a n e = refl
  array_elements u t a n e = absurd cc

  pub elements_of_array : (u t : CType) (a : Reading) (n : Needs) (test : Bool) → test ≡ is_array u → test ≡ true → elements source structs u t a n ≡ a.place n
  elements_of_array u t a n test judged array = array_elements u t a n (sym judged ∙ array)

  pointer_elements : (u t : CType) (a : Reading) (n : Needs) → is_pointer u ≡ true → elements source structs u t a n ≡ on_ok (a.value n) (after_elements t)
  pointer_elements (Pointer' p u) t a n e = refl
  pointer_elements u t a n e = absurd cc

  pub elements_of_pointer : (u t : CType) (a : Reading) (n : Needs) (test : Bool) → test ≡ is_pointer u → test ≡ true → elements source structs u t a n ≡ on_ok (a.value n) (after_elements t)
  elements_of_pointer u t a n test judged pointer = pointer_elements u t a n (sym judged ∙ pointer)

  no_elements_by : (u t : CType) (a : Reading) (n : Needs) → is_array u ≡ false → is_pointer u ≡ false → elements source structs u t a n ≡ Err not_number
  no_elements_by (Array' p u m) t a n e f = absurd cc
  no_elements_by (Pointer' p u) t a n e f = absurd cc
  no_elements_by Void t a n e f = refl
  no_elements_by (Int k) t a n e f = refl
  no_elements_by (Struct tag) t a n e f = refl
  no_elements_by (Function' shape ps p r) t a n e f = refl

  pub no_elements : (u t : CType) (a : Reading) (n : Needs) (array pointer : Bool) → array ≡ is_array u → array ≡ false → pointer ≡ is_pointer u → pointer ≡ false → elements source structs u t a n ≡ Err not_number
  no_elements u t a n array pointer judged no_array found no_pointer = no_elements_by u t a n (sym judged ∙ no_array) (sym found ∙ no_pointer)

  -- sums

  pub no_sum : (t u : CType) (a b : Reading) (to : CType) (n : Needs) (kind other : Option IntKind) → kind ≡ kind_of t → kind ≡ None → other ≡ kind_of u → other ≡ None → sum_behind source structs t u a b to n ≡ Err not_number
  no_sum t u a b to n kind other judged none found neither =
      ap (λ (o : Option IntKind). sum_of source structs o (kind_of u) t u a b to n) (sym judged ∙ none)
      ∙ ap (λ (o : Option IntKind). sum_of source structs None o t u a b to n) (sym found ∙ neither)

-- an answer beside which something stands
pub beside : {A B : Type 0} (s : B) (r : Result A RuleStop) (d : Result A No) → RuleGives (λ (a : A). a) r d → RuleGives {Y = A × B} (λ (a : A). (a, s)) r (on_ok {B = A × B} d (λ (a : A). Ok (a, s)))
beside {A = A} {B = B} s (Ok a) d h = ap (λ (z : Result A No). on_ok {B = A × B} z (λ (x : A). Ok (x, s))) h
beside {A = A} {B = B} s (Err stop) d h = stops {B = A × B} stop d (λ (x : A). Ok (x, s)) h

-- null, beside which something stands
pub beside_null : (s : Needs) (r : Result Plain RuleStop) → RuleGives (λ (t : Plain). t) r (Ok null) → RuleGives {Y = Plain × Needs} (λ (t : Plain). (t, s)) r (Ok (null, s))
beside_null s r h = beside s r (Ok null) h

pub is_none : {A : Type 0} (o : Option A) → ((a : A) → o ≡ Some a → ⊥) → o ≡ None
is_none None never = refl
is_none (Some a) never = absurd (never a refl)
