-- Nothing is loaded for an expression that has a term, nor for the place of an object that was found.
use Rattle.std.proofs.Common.{◌≡◌, Bool, true, false, List, [], ◌++◌, Option, Some, None, Result, Ok, refl, ap, ap₂, ◌∙◌, if◌then◌else◌}
use Rattle.std.specs.Prelude.{◌&&◌}
use Rattle.std.proofs.lemmas.Bool.{and_parts}
use Rattle.floyd_text.specs.declared.refusal.No.{No}
use Rattle.floyd_int.specs.declared.kinds.IntKind.{IntKind}
use Rattle.floyd_int.specs.declared.kinds.IntOp.{IntOp}
use Rattle.floyd_int.specs.declared.kinds.IntOp.TheVariants.{Add}
use Rattle.floyd_ctypes.specs.declared.ctype.CType.{CType, Void, Int, Pointer', Array', Struct, Function'}
use Rattle.floyd_ctypes.specs.Structs.{Structs}
use Rattle.floyd_memval.specs.Chunks.{chunk_of}
use Rattle.floyd_clight.specs.declared.syntax.Expr.{Expr, Const, Temp, Var, Deref', AddrOf', Unary', Binary', Cast', Field', SizeOf, end_of-Expr, more_of-Expr}
use Rattle.floyd_clight.specs.Types.{type_of}
use Rattle.floyd_clight_machine.specs.Evaluation.{Look, Spot, Temps, is_zero_constant, place_by}
use Rattle.floyd_clight_machine.specs.Footprint.{chunk_spots, loads_at, place_loads, value_loads}
use Rattle.floyd_clight_machine.specs.Types.{is_pointer}
use Rattle.floyd_clight_typing.specs.Expressions.{is_place}
use Rattle.floyd_tree.specs.Plain.{Plain}
use Rattle.floyd_assert_trees.specs.declared.assertion.Assertion.{Assertion}
use Rattle.floyd_fieldpath.specs.Written.{on_ok}
use Rattle.floyd_symexpr_rows.specs.declared.needs.Needs.{Needs}
use Rattle.floyd_symexpr_rows.specs.Rows.{null}
use Rattle.floyd_symexpr_laws.proofs.TermMeanings.{ok_parts}
use Rattle.floyd_symexpr_paths.specs.declared.lvalue.Lvalue.{Lvalue}
use Rattle.floyd_symexpr_paths.specs.Places.{address_row, element, elements_at, field, first, object_value, pointed}
use Rattle.floyd_symexpr.specs.Expressions.{Placed, Reading, Valued, behind_type, binary_behind, element_at, elements, kind_of, no_place, operated_cast, operated_one, operated_two, read, sum_of}
use Rattle.floyd_symexpr_soundness.proofs.Objects.{gives_address, loads_of_object}

-- what is loaded where no chunk stands
no_chunk : (t : CType) (s : Option Spot) → chunk_of t ≡ None → loads_at t s ≡ []
no_chunk t s e = ap (λ c. chunk_spots c s) e

nothing_both : (a b : List Spot) → a ≡ [] → b ≡ [] → a ++ b ≡ []
nothing_both a b e f = ap₂ (λ x y. x ++ y) e f

-- an answer tells that nothing is loaded
abbrev QuietValue : Valued → List Spot → Type 0
QuietValue value loads = (t : Plain) (needs more : Needs) → value needs ≡ Ok (t, more) → loads ≡ []

abbrev QuietPlace : Placed → List Spot → Type 0
QuietPlace place loads = (l : Lvalue) (needs more : Needs) → place needs ≡ Ok (l, more) → loads ≡ []

-- for the value, for the place, and for the value where it leads to an object; `array` is for the value of an array
pub record Quiet (r : Reading) (T : CType) (values places : List Spot) : Type 0 where
  pub value : QuietValue r.value values
  pub place : QuietPlace r.place places
  pub behind : (to : CType) → QuietPlace (r.behind to) values
  pub array : (l : Lvalue) (needs more : Needs) → r.place needs ≡ Ok (l, more) → chunk_of T ≡ None → values ≡ []

none_quiet : (loads : List Spot) → QuietPlace no_place loads
none_quiet loads l needs more e = absurd cc

-- what a value leads to
led_quiet : (value : Valued) (to : CType) (loads : List Spot) → QuietValue value loads → (l : Lvalue) (needs more : Needs) → on_ok {B = Lvalue × Needs} (value needs) (λ v. Ok (pointed v.0 to, v.1)) ≡ Ok (l, more) → loads ≡ []
led_quiet value to loads g l needs more e =
    let p = ok_parts {B = Lvalue × Needs} (value needs) (λ v. Ok (pointed v.0 to, v.1)) (l, more) e in
    g p.0.0 needs p.0.1 p.1

behind_quiet : (t : CType) (place : Placed) (value : Valued) (values : List Spot) → ((l : Lvalue) (needs more : Needs) → place needs ≡ Ok (l, more) → chunk_of t ≡ None → values ≡ []) → QuietValue value values → (to : CType) → QuietPlace (behind_type t place value to) values
behind_quiet (Array' q u n) place value values g h to l needs more e =
    let p = ok_parts {B = Lvalue × Needs} (place needs) (λ k. Ok (element to first k.0, k.1)) (l, more) e in
    g p.0.0 needs p.0.1 p.1 refl
behind_quiet Void place value values g h to l needs more e = led_quiet value to values h l needs more e
behind_quiet (Int k) place value values g h to l needs more e = led_quiet value to values h l needs more e
behind_quiet (Pointer' q u) place value values g h to l needs more e = led_quiet value to values h l needs more e
behind_quiet (Struct tag) place value values g h to l needs more e = led_quiet value to values h l needs more e
behind_quiet (Function' shape ps q r) place value values g h to l needs more e = led_quiet value to values h l needs more e

no_object : (t : CType) (values : List Spot) (l : Lvalue) (needs more : Needs) → no_place needs ≡ Ok (l, more) → chunk_of t ≡ None → values ≡ []
no_object t values l needs more e f = absurd cc

module _ (source : Assertion) (structs : Structs) (look : Look) (temps : Temps) where
  abbrev QuietAt : Expr → Type 0
  QuietAt e = Quiet (read source structs e) (type_of e) (value_loads structs look temps e) (place_loads structs look temps e)

  -- an object: nothing is loaded for its place, and where it has a term, nothing for its value
  object_quiet : (e : Expr) (t : CType) (place : Placed) → QuietPlace place (place_loads structs look temps e) → is_place e ≡ true → type_of e ≡ t →
      QuietValue (λ needs. on_ok (place needs) (λ l. object_value structs t l.0 l.1)) (value_loads structs look temps e)
      × ((l : Lvalue) (needs more : Needs) → place needs ≡ Ok (l, more) → chunk_of t ≡ None → value_loads structs look temps e ≡ [])
  object_quiet e t place g is ty =
      let array : (l : Lvalue) (needs more : Needs) → place needs ≡ Ok (l, more) → chunk_of t ≡ None → value_loads structs look temps e ≡ [] = λ l needs more f chunk.
      loads_of_object structs look temps e is
      ∙ nothing_both (place_loads structs look temps e) (loads_at (type_of e) (place_by structs look temps e)) (g l needs more f) (no_chunk (type_of e) (place_by structs look temps e) (ap chunk_of ty ∙ chunk)) in (
        λ u needs more f.
            (let p = ok_parts (place needs) (λ l. object_value structs t l.0 l.1) (u, more) f in
            array p.0.0 needs p.0.1 p.1 (gives_address structs look t p.0.0 p.0.1 more u p.2).chunk),
        array,
      )

  object_reading : (e : Expr) (t : CType) (place : Placed) → QuietPlace place (place_loads structs look temps e) → is_place e ≡ true → type_of e ≡ t →
      Quiet (record { value = λ needs. on_ok (place needs) (λ l. object_value structs t l.0 l.1); place = place; behind = behind_type t place (λ needs. on_ok (place needs) (λ l. object_value structs t l.0 l.1)) }) t (value_loads structs look temps e) (place_loads structs look temps e)
  object_reading e t place g is ty =
      let p = object_quiet e t place g is ty in
      record { value = p.0; place = g; behind = behind_quiet t place (λ needs. on_ok (place needs) (λ l. object_value structs t l.0 l.1)) (value_loads structs look temps e) p.1 p.0; array = p.1 }

  rvalue_quiet : (t : CType) (value : Valued) (values places : List Spot) → QuietValue value values → Quiet (record { value = value; place = no_place; behind = behind_type t no_place value }) t values places
  rvalue_quiet t value values places g = record { value = g; place = none_quiet places; behind = behind_quiet t no_place value values (no_object t values) g; array = no_object t values }

  -- ---- sums

  elements_quiet : (T to : CType) (a : Reading) (values places : List Spot) → Quiet a T values places → QuietPlace (elements source structs T to a) values
  elements_quiet (Array' q u n) to a values places g l needs more e = g.array l needs more e refl
  elements_quiet (Pointer' q u) to a values places g l needs more e =
      let p = ok_parts {B = Lvalue × Needs} (a.value needs) (λ v. Ok (elements_at v.0 to, v.1)) (l, more) e in
      g.value p.0.0 needs p.0.1 p.1
  elements_quiet Void to a values places g l needs more e = absurd cc
  elements_quiet (Int k) to a values places g l needs more e = absurd cc
  elements_quiet (Struct tag) to a values places g l needs more e = absurd cc
  elements_quiet (Function' shape ps q r) to a values places g l needs more e = absurd cc

  sum_quiet : (j k : Option IntKind) (T U : CType) (a b : Reading) (u v x y : List Spot) → Quiet a T u x → Quiet b U v y → (to : CType) → QuietPlace (sum_of source structs j k T U a b to) (u ++ v)
  sum_quiet (Some j) k T U a b u v x y g h to l needs more e =
      let p = ok_parts (a.value needs) (λ w. on_ok (elements source structs U to b w.1) (λ m. on_ok (element_at to j w.0 m.0) (λ i. Ok (i, m.1)))) (l, more) e in
      let q = ok_parts (elements source structs U to b p.0.1) (λ m. on_ok (element_at to j p.0.0 m.0) (λ i. Ok (i, m.1))) (l, more) p.2 in
      nothing_both u v (g.value p.0.0 needs p.0.1 p.1) (elements_quiet U to b v y h q.0.0 p.0.1 q.0.1 q.1)
  sum_quiet None (Some k) T U a b u v x y g h to l needs more e =
      let p = ok_parts (elements source structs T to a needs) (λ m. on_ok (b.value m.1) (λ w. on_ok (element_at to k w.0 m.0) (λ i. Ok (i, w.1)))) (l, more) e in
      let q = ok_parts (b.value p.0.1) (λ w. on_ok (element_at to k w.0 p.0.0) (λ i. Ok (i, w.1))) (l, more) p.2 in
      nothing_both u v (elements_quiet T to a u x g p.0.0 needs p.0.1 p.1) (h.value q.0.0 p.0.1 q.0.1 q.1)
  sum_quiet None None T U a b u v x y g h to l needs more e = absurd cc

  binary_behind_quiet : (op : IntOp) (T U own : CType) (a b : Reading) (value : Valued) (u v x y : List Spot) → Quiet a T u x → Quiet b U v y → QuietValue value (u ++ v) → (to : CType) → QuietPlace (binary_behind source structs op T U own a b value to) (u ++ v)
  binary_behind_quiet Add T U own a b value u v x y g h i to = sum_quiet (kind_of T) (kind_of U) T U a b u v x y g h to
  binary_behind_quiet op T U own a b value u v x y g h i to = behind_quiet own no_place value (u ++ v) (no_object own (u ++ v)) i to

  -- ---- expressions

  zero_loads : (e : Expr) → is_zero_constant e ≡ true → value_loads structs look temps e ≡ []
  zero_loads (Const v t) h = refl
  zero_loads (Temp x t) h = refl
  zero_loads (SizeOf of t) h = refl
  zero_loads (Var binding x t) h = absurd cc
  zero_loads (Deref' p e t) h = absurd cc
  zero_loads (AddrOf' p e t) h = absurd cc
  zero_loads (Unary' op p e t) h = absurd cc
  zero_loads (Binary' op p a q b t) h = absurd cc
  zero_loads (Cast' p e t) h = absurd cc
  zero_loads (Field' p e x t) h = absurd cc

  cast_quiet : (b : Bool) (T to : CType) (u : Plain) (needs more : Needs) (value : Result (Plain × Needs) No) (loads : List Spot) → (b ≡ true → loads ≡ []) → ((v : Plain) (middle : Needs) → value ≡ Ok (v, middle) → loads ≡ []) →
      (if b then Ok (null, needs) else on_ok value (λ v. operated_cast T to v.0 v.1)) ≡ Ok (u, more) → loads ≡ []
  cast_quiet true T to u needs more value loads zero inner e = zero refl
  cast_quiet false T to u needs more value loads zero inner e =
      let p = ok_parts value (λ v. operated_cast T to v.0 v.1) (u, more) e in
      inner p.0.0 p.0.1 p.1

  pub quiet : (e : Expr) → QuietAt e
  quiet (Const v t) = rvalue_quiet t (read source structs (Const v t)).value [] [] (λ u needs more f. refl)
  quiet (Temp x t) = rvalue_quiet t (read source structs (Temp x t)).value [] [] (λ u needs more f. refl)
  quiet (SizeOf of t) = rvalue_quiet t (read source structs (SizeOf of t)).value [] [] (λ u needs more f. refl)
  quiet (Var binding x t) = object_reading (Var binding x t) t (read source structs (Var binding x t)).place (λ l needs more f. refl) refl refl
  quiet (Deref' p (more_of-Expr e end_of-Expr) t) = object_reading (Deref' p (more_of-Expr e end_of-Expr) t) t ((read source structs e).behind t) ((quiet e).behind t) refl refl
  quiet (AddrOf' p (more_of-Expr e end_of-Expr) t) =
      rvalue_quiet t (read source structs (AddrOf' p (more_of-Expr e end_of-Expr) t)).value (place_loads structs look temps e) []
      (λ u needs more f.
      (let q = ok_parts ((read source structs e).place needs) (λ l. address_row structs l.0 l.1) (u, more) f in
      (quiet e).place q.0.0 needs q.0.1 q.1))
  quiet (Unary' op p (more_of-Expr e end_of-Expr) t) =
      rvalue_quiet t (read source structs (Unary' op p (more_of-Expr e end_of-Expr) t)).value (value_loads structs look temps e) []
      (λ u needs more f.
      (let q = ok_parts ((read source structs e).value needs) (λ v. operated_one op (type_of e) v.0 v.1) (u, more) f in
      (quiet e).value q.0.0 needs q.0.1 q.1))
  quiet (Binary' op p (more_of-Expr a end_of-Expr) q (more_of-Expr b end_of-Expr) t) =
      let u = value_loads structs look temps a in
      let v = value_loads structs look temps b in
      let x = place_loads structs look temps a in
      let y = place_loads structs look temps b in
      let own : Valued = (read source structs (Binary' op p (more_of-Expr a end_of-Expr) q (more_of-Expr b end_of-Expr) t)).value in
      let value : QuietValue own (u ++ v) = λ w needs more f.
      (let r = ok_parts ((read source structs a).value needs) (λ i. on_ok ((read source structs b).value i.1) (λ j. operated_two structs source.parts op (type_of a) i.0 (type_of b) j.0 j.1)) (w, more) f in
      let s = ok_parts ((read source structs b).value r.0.1) (λ j. operated_two structs source.parts op (type_of a) r.0.0 (type_of b) j.0 j.1) (w, more) r.2 in
      nothing_both u v ((quiet a).value r.0.0 needs r.0.1 r.1) ((quiet b).value s.0.0 r.0.1 s.0.1 s.1)) in
      record {
        value = value;
        place = none_quiet [];
        behind = binary_behind_quiet op (type_of a) (type_of b) t (read source structs a) (read source structs b) own u v x y (quiet a) (quiet b) value;
        array = no_object t (u ++ v);
      }
  quiet (Cast' p (more_of-Expr e end_of-Expr) t) =
      rvalue_quiet t (read source structs (Cast' p (more_of-Expr e end_of-Expr) t)).value (value_loads structs look temps e) []
      (λ u needs more f.
      cast_quiet (is_pointer t && is_zero_constant e) (type_of e) t u needs more ((read source structs e).value needs) (value_loads structs look temps e)
      (λ zero. zero_loads e (and_parts (is_pointer t) (is_zero_constant e) zero).1) (λ v middle g. (quiet e).value v needs middle g) f)
  quiet (Field' p (more_of-Expr e end_of-Expr) x t) =
      object_reading (Field' p (more_of-Expr e end_of-Expr) x t) t (read source structs (Field' p (more_of-Expr e end_of-Expr) x t)).place
      (λ l needs more f.
      (let q = ok_parts {B = Lvalue × Needs} ((read source structs e).place needs) (λ k. Ok (field (type_of e) x k.0, k.1)) (l, more) f in
      (quiet e).place q.0.0 needs q.0.1 q.1)) refl refl
