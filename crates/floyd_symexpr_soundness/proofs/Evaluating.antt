-- The machine evaluates an expression to the value of its term, and finds the place of its object.
use Rattle.std.proofs.Common.{◌≡◌, ℕ, true, Option, Some, None, Ok, is_some, refl, sym, ap, subst, ◌∙◌}
use Rattle.std.specs.Prelude.{◌&&◌, option_and_then, option_map}
use Rattle.std.proofs.lemmas.Option.{same_Some}
use Rattle.floyd_int.specs.declared.kinds.IntKind.{IntKind}
use Rattle.floyd_int.specs.declared.kinds.IntOp.{IntOp}
use Rattle.floyd_int.specs.declared.kinds.IntOp.TheVariants.{Add}
use Rattle.floyd_int.specs.declared.kinds.Value.{Value}
use Rattle.floyd_ctypes.specs.declared.ctype.CType.{CType, Void, Int, Pointer', Array', Struct, Function', more_of-CType, end_of-CType}
use Rattle.floyd_ctypes.specs.Layout.{size}
use Rattle.floyd_clight.specs.declared.syntax.Expr.{Expr, Const, Temp, Var, Deref', AddrOf', Unary', Binary', Cast', Field', SizeOf, end_of-Expr, more_of-Expr}
use Rattle.floyd_clight.specs.Types.{type_of}
use Rattle.floyd_clight_heap.specs.Heaplet.{Heaplet}
use Rattle.floyd_clight_machine.specs.Evaluation.{Look, Spot, Temps, address, binary_value, eval_by, is_zero_constant, led, place_by, start_of, value_at}
use Rattle.floyd_clight_machine.specs.Integers.{number_of}
use Rattle.floyd_clight_machine.specs.Pointers as machine
use Rattle.floyd_clight_machine.specs.Pointers.{bytes_of, moved_up}
use Rattle.floyd_clight_machine.specs.Types.{is_pointer, pointee}
use Rattle.floyd_clight_typing.specs.Expressions.{IsBinary, IsMoved, IsTyped, Names}
use Rattle.floyd_tree.specs.Plain.{Plain}
use Rattle.floyd_tree_values.specs.BuiltIns.{Env}
use Rattle.floyd_assert_trees.specs.declared.assertion.Assertion.{Assertion}
use Rattle.floyd_assert_meaning.specs.Settings.{Setting}
use Rattle.floyd_fieldpath.specs.Nested.{sized_type}
use Rattle.floyd_fieldpath.specs.Written.{on_ok}
use Rattle.floyd_symexpr_rows.specs.declared.needs.Needs.{Needs}
use Rattle.floyd_symexpr_rows.specs.declared.needs.Number.{Number}
use Rattle.floyd_symexpr_rows.specs.Rows.{nothing_needed, number}
use Rattle.floyd_symexpr_laws.proofs.TermMeanings.{ok_parts}
use Rattle.floyd_symexpr_laws.specs.Laws.{Agrees}
use Rattle.floyd_symexpr_pointer_laws.specs.Laws.{IsMet}
use Rattle.floyd_symexpr_paths.specs.declared.lvalue.Lvalue.{Lvalue}
use Rattle.floyd_symexpr_paths.specs.Places.{address_row, element, elements_at, field, first, object_value, pointed, variable}
use Rattle.floyd_symexpr.specs.declared.evaluation.Evaluated.{Evaluated}
use Rattle.floyd_symexpr.specs.Expressions.{Placed, Reading, Valued, behind_type, binary_behind, binary_reading, cast_value, constant_of, element_at, elements, evaluate, given, kind_of, no_place, number_first, object, operated_one, operated_two, pointer_first, read, rvalue, size_of, sum_of, temporary}
use Rattle.floyd_symexpr_soundness.proofs.Evaluations.{Evaluates, constant_evaluates, null_or_cast, operator_evaluates, operators_evaluate, size_evaluates, temporary_evaluates}
use Rattle.floyd_symexpr_soundness.proofs.Growing.{met_before, of_operator, of_operators}
use Rattle.floyd_symexpr_soundness.proofs.Leaves.{low_size}
use Rattle.floyd_symexpr_soundness.specs.Laws.{IsEvaluated, Meets}
use Rattle.floyd_symexpr_soundness.proofs.Addresses.{address_means, led_address, stands_at, stands_first}
use Rattle.floyd_symexpr_soundness.proofs.ReadingGrowth.{Grows, address_grows, elements_grow, grows, object_value_grows, ok_pair}
use Rattle.floyd_symexpr_soundness.proofs.Objects.{array_is, gives_address, value_of_object}
use Rattle.floyd_symexpr_soundness.proofs.Quiet.{quiet}
use Rattle.floyd_symexpr_soundness.proofs.Standing.{Stands, stands_elements, stands_field, stands_pointed, stands_variable}

-- the value of what gives its address
addressed : (f : Spot → Option Value) (o : Option Spot) → ((s : Spot) → f s ≡ Some (address s)) → option_and_then f o ≡ option_map address o
addressed f None g = refl
addressed f (Some s) g = g s

module _ (S : Setting) (env : Env) (look : Look) (temps : Temps) (source : Assertion) (h : Heaplet) (known : Names) (state : Meets S env look temps source h known) where
  abbrev ReadsValue : Valued → Option Value → Type 0
  ReadsValue value found = (t : Plain) (needs more : Needs) → value needs ≡ Ok (t, more) → IsMet S env look more → Evaluates S.defs env t found

  abbrev ReadsPlace : Placed → CType → Option Spot → Type 0
  ReadsPlace place T there = (l : Lvalue) (needs more : Needs) → place needs ≡ Ok (l, more) → IsMet S env look more → Stands S env l T there

  -- A reading of an expression of type T agrees with what the machine finds: its value, its place, and the place to which
  -- its value leads. The value of an object stands at its place.
  record Reads (r : Reading) (T : CType) (found : Option Value) (there : Option Spot) : Type 0 where
    pub value : ReadsValue r.value found
    pub place : ReadsPlace r.place T there
    pub behind : (to : CType) → pointee T ≡ Some to → ReadsPlace (r.behind to) to (option_and_then led found)
    pub object : (l : Lvalue) (needs more : Needs) → r.place needs ≡ Ok (l, more) → found ≡ option_and_then (value_at look T) there

  none_read : (T : CType) (there : Option Spot) → ReadsPlace no_place T there
  none_read T there l needs more e met = absurd cc

  no_object : (T : CType) (found : Option Value) (there : Option Spot) (l : Lvalue) (needs more : Needs) → no_place needs ≡ Ok (l, more) → found ≡ option_and_then (value_at look T) there
  no_object T found there l needs more e = absurd cc

  -- what a pointer leads to
  led_read : (value : Valued) (found : Option Value) (to : CType) → ReadsValue value found → (l : Lvalue) (needs more : Needs) → on_ok {B = Lvalue × Needs} (value needs) (λ v. Ok (pointed v.0 to, v.1)) ≡ Ok (l, more) → IsMet S env look more → Stands S env l to (option_and_then led found)
  led_read value found to g l needs more e met =
      let p = ok_parts {B = Lvalue × Needs} (value needs) (λ v. Ok (pointed v.0 to, v.1)) (l, more) e in
      let same = ok_pair (pointed p.0.0 to) l p.0.1 more p.2 in
      let own = g p.0.0 needs p.0.1 p.1 (subst (IsMet S env look) (sym same.1) met) in
      subst (λ k. Stands S env k to (option_and_then led found)) same.0 (stands_pointed S env p.0.0 found to own)

  -- the first element of an array
  array_read : (place : Placed) (u to : CType) (n : ℕ) (there : Option Spot) → ReadsPlace place (Array' tt (more_of-CType u end_of-CType) n) there → u ≡ to → (l : Lvalue) (needs more : Needs) →
      on_ok {B = Lvalue × Needs} (place needs) (λ k. Ok (element to first k.0, k.1)) ≡ Ok (l, more) → IsMet S env look more → Stands S env l to there
  array_read place u to n there g is l needs more e met =
      let p = ok_parts {B = Lvalue × Needs} (place needs) (λ k. Ok (element to first k.0, k.1)) (l, more) e in
      let same = ok_pair (element to first p.0.0) l p.0.1 more p.2 in
      let own = g p.0.0 needs p.0.1 p.1 (subst (IsMet S env look) (sym same.1) met) in
      let array = subst (λ w. Stands S env p.0.0 (Array' tt (more_of-CType w end_of-CType) n) there) is own in
      subst (λ k. Stands S env k to there) same.0 (stands_first S env to n p.0.0 there array)

  -- where an array's value is its address, it leads to the array
  leads_to_itself : (T : CType) (found : Option Value) (there : Option Spot) → ((s : Spot) → value_at look T s ≡ Some (address s)) → found ≡ option_and_then (value_at look T) there → option_and_then led found ≡ there
  leads_to_itself T found there g e = ap (option_and_then led) (e ∙ addressed (value_at look T) there g) ∙ led_address there

  behind_read : (T : CType) (place : Placed) (value : Valued) (found : Option Value) (there : Option Spot) → ReadsPlace place T there → ReadsValue value found → ((l : Lvalue) (needs more : Needs) → place needs ≡ Ok (l, more) → found ≡ option_and_then (value_at look T) there) →
      (to : CType) → pointee T ≡ Some to → ReadsPlace (behind_type T place value to) to (option_and_then led found)
  behind_read (Array' q (more_of-CType u end_of-CType) n) place value found there g h same to is l needs more e met =
      let p = ok_parts {B = Lvalue × Needs} (place needs) (λ k. Ok (element to first k.0, k.1)) (l, more) e in
      subst (Stands S env l to) (sym (leads_to_itself (Array' q (more_of-CType u end_of-CType) n) found there (λ s. refl) (same p.0.0 needs p.0.1 p.1)))
      (array_read place u to n there g (same_Some u to is) l needs more e met)
  behind_read Void place value found there g h same to is l needs more e met = led_read value found to h l needs more e met
  behind_read (Int k) place value found there g h same to is l needs more e met = led_read value found to h l needs more e met
  behind_read (Pointer' q u) place value found there g h same to is l needs more e met = led_read value found to h l needs more e met
  behind_read (Struct tag) place value found there g h same to is l needs more e met = led_read value found to h l needs more e met
  behind_read (Function' shape ps q r) place value found there g h same to is l needs more e met = led_read value found to h l needs more e met

  rvalue_reads : (T : CType) (value : Valued) (found : Option Value) (there : Option Spot) → ReadsValue value found → Reads (rvalue T value) T found there
  rvalue_reads T value found there g =
      record {
        value = g;
        place = none_read T there;
        behind = behind_read T no_place value found there (none_read T there) g (no_object T found there);
        object = no_object T found there;
      }

  -- ---- objects

  object_reads : (T : CType) (place : Placed) (found : Option Value) (there : Option Spot) → found ≡ option_and_then (value_at look T) there → ReadsPlace place T there → Reads (object source S.defs.structs T place) T found there
  object_reads T place found there same g =
      let value : ReadsValue (object source S.defs.structs T place).value found = λ u needs more e met.
      (let p = ok_parts (place needs) (λ l. object_value S.defs.structs T l.0 l.1) (u, more) e in
      let a = gives_address S.defs.structs look T p.0.0 p.0.1 more u p.2 in
      let own = g p.0.0 needs p.0.1 p.1 (met_before S env look p.0.1 more (object_value_grows S.defs.structs T p.0.0 u p.0.1 more p.2) met) in
      subst (Evaluates S.defs env u) (sym (same ∙ addressed (value_at look T) there a.value)) (address_means S env p.0.0 T there u p.0.1 more own a.row met.sides)) in
      record {
        value = value;
        place = g;
        behind = behind_read T place (object source S.defs.structs T place).value found there g value (λ l needs more e. same);
        object = λ l needs more e. same;
      }

  -- ---- sums

  -- elements of a type, to which the value of an expression of type T leads
  record Leads (place : Placed) (to T : CType) (found : Option Value) : Type 0 where
    pub stands : (l : Lvalue) (needs more : Needs) → place needs ≡ Ok (l, more) → IsMet S env look more → (n : ℕ) × Stands S env l (Array' tt (more_of-CType to end_of-CType) n) (option_and_then led found)
    pub before : (k : IntKind) (x w : Value) → binary_value S.defs.structs look Add T (Int k) x w ≡ machine.pointer_first S.defs.structs Add (Some to) x (number_of k w)
    pub behind : (k : IntKind) (x w : Value) → binary_value S.defs.structs look Add (Int k) T x w ≡ machine.pointer_second S.defs.structs Add (number_of k x) (Some to) w

  elements_read : (T to : CType) (a : Reading) (found : Option Value) (there : Option Spot) (l : Lvalue) (needs more : Needs) → pointee T ≡ Some to → Reads a T found there → elements source S.defs.structs T to a needs ≡ Ok (l, more) → Leads (elements source S.defs.structs T to a) to T found
  elements_read (Array' q (more_of-CType u end_of-CType) n) to a found there l needs more is g e =
      let same = same_Some u to is in
      record {
        stands = λ k i j f met.
            (let itself = leads_to_itself (Array' q (more_of-CType u end_of-CType) n) found there (λ s. refl) (g.object k i j f) in
            (n, subst (Stands S env k (Array' tt (more_of-CType to end_of-CType) n)) (sym itself) (subst (λ w. Stands S env k (Array' tt (more_of-CType w end_of-CType) n) there) same (g.place k i j f met))));
        before = λ k x w. ap (λ t. machine.pointer_first S.defs.structs Add (Some t) x (number_of k w)) same;
        behind = λ k x w. ap (λ t. machine.pointer_second S.defs.structs Add (number_of k x) (Some t) w) same;
      }
  elements_read (Pointer' q (more_of-CType u end_of-CType)) to a found there l needs more is g e =
      let same = same_Some u to is in
      record {
        stands = λ k i j f met.
            (let p = ok_parts {B = Lvalue × Needs} (a.value i) (λ v. Ok (elements_at v.0 to, v.1)) (k, j) f in
            let pair = ok_pair (elements_at p.0.0 to) k p.0.1 j p.2 in
            let own = g.value p.0.0 i p.0.1 p.1 (subst (IsMet S env look) (sym pair.1) met) in
            (0, subst (λ T. Stands S env k T (option_and_then led found)) (array_is to 0) (subst (λ (m : Lvalue). Stands S env m (elements_at p.0.0 to).whole (option_and_then led found)) pair.0 (stands_elements S env p.0.0 found to own))));
        before = λ k x w. ap (λ t. machine.pointer_first S.defs.structs Add (Some t) x (number_of k w)) same;
        behind = λ k x w. ap (λ t. machine.pointer_second S.defs.structs Add (number_of k x) (Some t) w) same;
      }
  elements_read Void to a found there l needs more is g e = absurd cc
  elements_read (Int k) to a found there l needs more is g e = absurd cc
  elements_read (Struct tag) to a found there l needs more is g e = absurd cc
  elements_read (Function' shape ps q r) to a found there l needs more is g e = absurd cc

  -- the element at the number of a term
  element_parts : (t : CType) (k : IntKind) (u : Plain) (l m : Lvalue) (needs more : Needs) → on_ok {B = Lvalue × Needs} (element_at t k u l) (λ i. Ok (i, needs)) ≡ Ok (m, more) → (i : Number) × (number k u ≡ Ok i) × (element t i l ≡ m) × (needs ≡ more)
  element_parts t k u l m needs more e =
      let p = ok_parts {B = Lvalue × Needs} (element_at t k u l) (λ i. Ok (i, needs)) (m, more) e in
      let q = ok_parts {B = Lvalue} (number k u) (λ i. Ok (element t i l)) p.0 p.1 in
      let pair = ok_pair p.0 m needs more p.2 in
      let same : element t q.0 l ≡ p.0 = cc in
      (q.0, q.1, same ∙ pair.0, pair.1)

  -- a count of the elements' bytes
  count_of : (to : CType) → is_some (size S.defs.structs to) ≡ true → (n : ℕ) × (size S.defs.structs to ≡ Some n)
  count_of to e = by (size S.defs.structs to) refl e
    where
      by : (o : Option ℕ) → size S.defs.structs to ≡ o → is_some o ≡ true → (n : ℕ) × (size S.defs.structs to ≡ Some n)
      by (Some n) f g = (n, f)
      by None f g = absurd cc

  -- the sum of a pointer and a number: the element of the pointer at the number
  pointer_read : (T own to : CType) (k : IntKind) (a b : Reading) (left right : Option Value) (x y : Option Spot) → Grows b → IsMoved S.defs.structs T own → pointee own ≡ Some to → Reads a T left x → Reads b (Int k) right y →
      ReadsPlace (pointer_first source S.defs.structs T k a b to) to (option_and_then led (option_and_then (λ i. option_and_then (binary_value S.defs.structs look Add T (Int k) i) right) left))
  pointer_read T own to k a b left right x y grow_b typed is g i l needs more e met =
      let p = ok_parts (elements source S.defs.structs T to a needs) (λ j. on_ok (b.value j.1) (λ w. on_ok (element_at to k w.0 j.0) (λ c. Ok (c, w.1)))) (l, more) e in
      let q = ok_parts (b.value p.0.1) (λ w. on_ok (element_at to k w.0 p.0.0) (λ c. Ok (c, w.1))) (l, more) p.2 in
      let c = element_parts to k q.0.0 p.0.0 l q.0.1 more q.2 in
      let second = subst (IsMet S env look) (sym c.3) met in
      let ahead = met_before S env look p.0.1 q.0.1 (grow_b.value q.0.0 p.0.1 q.0.1 q.1) second in
      let target : typed.target ≡ to = same_Some typed.target to (sym typed.moved.to ∙ is) in
      let leads = elements_read T to a left x p.0.0 needs p.0.1 (typed.to ∙ ap Some target) g p.1 in
      let s = leads.stands p.0.0 needs p.0.1 p.1 ahead in
      let w = i.value q.0.0 p.0.1 q.0.1 q.1 second in
      let n = count_of to (subst (λ t. is_some (size S.defs.structs t) ≡ true) target typed.sized) in
      let sum : Value → Option Value = λ j. option_and_then (binary_value S.defs.structs look Add T (Int k) j) right in
      subst (λ m. Stands S env m to (option_and_then led (option_and_then sum left))) c.2
      (stands_at S env to s.0 n.0 k q.0.0 w.agrees.value c.0 p.0.0 left (option_and_then sum left) n.1 c.1 w.agrees.means s.1
      (λ j z at read.
      ap (option_and_then sum) at ∙ ap (option_and_then (binary_value S.defs.structs look Add T (Int k) j)) w.agrees.is ∙ leads.before k j w.agrees.value
      ∙ ap (machine.pointer_first S.defs.structs Add (Some to) j) read))

  number_read : (U own to : CType) (k : IntKind) (a b : Reading) (left right : Option Value) (x y : Option Spot) → Grows b → IsMoved S.defs.structs U own → pointee own ≡ Some to → Reads a (Int k) left x → Reads b U right y →
      ReadsPlace (number_first source S.defs.structs k U a b to) to (option_and_then led (option_and_then (λ i. option_and_then (binary_value S.defs.structs look Add (Int k) U i) right) left))
  number_read U own to k a b left right x y grow_b typed is g i l needs more e met =
      let p = ok_parts (a.value needs) (λ w. on_ok (elements source S.defs.structs U to b w.1) (λ j. on_ok (element_at to k w.0 j.0) (λ c. Ok (c, j.1)))) (l, more) e in
      let q = ok_parts (elements source S.defs.structs U to b p.0.1) (λ j. on_ok (element_at to k p.0.0 j.0) (λ c. Ok (c, j.1))) (l, more) p.2 in
      let c = element_parts to k p.0.0 q.0.0 l q.0.1 more q.2 in
      let second = subst (IsMet S env look) (sym c.3) met in
      let ahead = met_before S env look p.0.1 q.0.1 (elements_grow source S.defs.structs U to b grow_b q.0.0 p.0.1 q.0.1 q.1) second in
      let target : typed.target ≡ to = same_Some typed.target to (sym typed.moved.to ∙ is) in
      let leads = elements_read U to b right y q.0.0 p.0.1 q.0.1 (typed.to ∙ ap Some target) i q.1 in
      let s = leads.stands q.0.0 p.0.1 q.0.1 q.1 second in
      let w = g.value p.0.0 needs p.0.1 p.1 ahead in
      let n = count_of to (subst (λ t. is_some (size S.defs.structs t) ≡ true) target typed.sized) in
      let sum : Value → Option Value = λ j. option_and_then (binary_value S.defs.structs look Add (Int k) U j) right in
      subst (λ m. Stands S env m to (option_and_then led (option_and_then sum left))) c.2
      (stands_at S env to s.0 n.0 k p.0.0 w.agrees.value c.0 q.0.0 right (option_and_then sum left) n.1 c.1 w.agrees.means s.1
      (λ j z at read.
      ap (option_and_then sum) w.agrees.is ∙ ap (option_and_then (binary_value S.defs.structs look Add (Int k) U w.agrees.value)) at ∙ leads.behind k w.agrees.value j
      ∙ ap (λ o. machine.pointer_second S.defs.structs Add o (Some to) j) read))

  sum_read : (T U own to : CType) (a b : Reading) (left right : Option Value) (x y : Option Spot) → Grows a → Grows b → IsBinary S.defs.structs Add T U own → pointee own ≡ Some to → Reads a T left x → Reads b U right y →
      ReadsPlace (sum_of source S.defs.structs (kind_of T) (kind_of U) T U a b to) to (option_and_then led (option_and_then (λ i. option_and_then (binary_value S.defs.structs look Add T U i) right) left))
  sum_read (Int j) (Int k) own to a b left right x y ga gb typed is g i = λ l needs more e met. (let never : None ≡ Some to = ap pointee (sym typed.2) ∙ is in absurd cc)
  sum_read (Int j) Void own to a b left right x y ga gb typed is g i = number_read Void own to j a b left right x y gb typed is g i
  sum_read (Int j) (Pointer' p t) own to a b left right x y ga gb typed is g i = number_read (Pointer' p t) own to j a b left right x y gb typed is g i
  sum_read (Int j) (Array' p t n) own to a b left right x y ga gb typed is g i = number_read (Array' p t n) own to j a b left right x y gb typed is g i
  sum_read (Int j) (Struct tag) own to a b left right x y ga gb typed is g i = number_read (Struct tag) own to j a b left right x y gb typed is g i
  sum_read (Int j) (Function' shape ps p r) own to a b left right x y ga gb typed is g i = number_read (Function' shape ps p r) own to j a b left right x y gb typed is g i
  sum_read Void (Int k) own to a b left right x y ga gb typed is g i = pointer_read Void own to k a b left right x y gb typed is g i
  sum_read (Pointer' p t) (Int k) own to a b left right x y ga gb typed is g i = pointer_read (Pointer' p t) own to k a b left right x y gb typed is g i
  sum_read (Array' p t n) (Int k) own to a b left right x y ga gb typed is g i = pointer_read (Array' p t n) own to k a b left right x y gb typed is g i
  sum_read (Struct tag) (Int k) own to a b left right x y ga gb typed is g i = pointer_read (Struct tag) own to k a b left right x y gb typed is g i
  sum_read (Function' shape ps p r) (Int k) own to a b left right x y ga gb typed is g i = pointer_read (Function' shape ps p r) own to k a b left right x y gb typed is g i
  sum_read T U own to a b left right x y ga gb typed is g i = λ l needs more e met. absurd cc

  -- ---- operators

  abbrev Both : IntOp → CType → CType → Option Value → Option Value → Option Value
  Both op T U left right = option_and_then (λ i. option_and_then (binary_value S.defs.structs look op T U i) right) left

  binary_behind_read : (op : IntOp) (T U own : CType) (a b : Reading) (value : Valued) (left right : Option Value) (x y there : Option Spot) → Grows a → Grows b → IsBinary S.defs.structs op T U own → Reads a T left x → Reads b U right y → ReadsValue value (Both op T U left right) →
      (to : CType) → pointee own ≡ Some to → ReadsPlace (binary_behind source S.defs.structs op T U own a b value to) to (option_and_then led (Both op T U left right))
  binary_behind_read Add T U own a b value left right x y there ga gb typed g i v to is = sum_read T U own to a b left right x y ga gb typed is g i
  binary_behind_read op T U own a b value left right x y there ga gb typed g i v to is =
      behind_read own no_place value (Both op T U left right) there (none_read own there) v (no_object own (Both op T U left right) there) to is

  binary_reads : (op : IntOp) (T U own : CType) (a b : Reading) (left right : Option Value) (x y : Option Spot) → Grows a → Grows b → IsBinary S.defs.structs op T U own → Reads a T left x → Reads b U right y →
      Reads (binary_reading source S.defs.structs op T U own a b) own (Both op T U left right) None
  binary_reads op T U own a b left right x y ga gb typed g i =
      let value : ReadsValue (binary_reading source S.defs.structs op T U own a b).value (Both op T U left right) = λ t needs more e met.
      (let p = ok_parts (a.value needs) (λ j. on_ok (b.value j.1) (λ w. operated_two S.defs.structs source.parts op T j.0 U w.0 w.1)) (t, more) e in
      let q = ok_parts (b.value p.0.1) (λ w. operated_two S.defs.structs source.parts op T p.0.0 U w.0 w.1) (t, more) p.2 in
      let second = met_before S env look q.0.1 more (of_operators source S.defs.structs source.parts op T U p.0.0 q.0.0 t q.0.1 more q.2) met in
      let ahead = met_before S env look p.0.1 q.0.1 (gb.value q.0.0 p.0.1 q.0.1 q.1) second in
      operators_evaluate S env look h source.parts state.sees state.parts op T U own p.0.0 q.0.0 t left right q.0.1 more typed (g.value p.0.0 needs p.0.1 p.1 ahead) (i.value q.0.0 p.0.1 q.0.1 q.1 second) q.2 met) in
      record {
        value = value;
        place = none_read own None;
        behind = binary_behind_read op T U own a b (binary_reading source S.defs.structs op T U own a b).value left right x y None ga gb typed g i value;
        object = no_object own (Both op T U left right) None;
      }

  -- ---- expressions

  reads : (e : Expr) → IsTyped S.defs.structs known e → Reads (read source S.defs.structs e) (type_of e) (eval_by S.defs.structs look temps e) (place_by S.defs.structs look temps e)
  reads (Const v t) typed = rvalue_reads t (given (constant_of t v)) (Some v) None (λ u needs more f met. constant_evaluates S.defs env v t u needs more typed f)
  reads (Temp x t) typed = rvalue_reads t (given (temporary source.locals x)) (Some (temps x)) None (λ u needs more f met. temporary_evaluates S.defs env temps source.locals x u needs more state.locals state.values f)
  reads (Var binding x t) typed =
      object_reads t (λ needs. Ok (variable binding x t, needs)) (eval_by S.defs.structs look temps (Var binding x t)) (option_map start_of (look.block_of binding x)) (value_of_object S.defs.structs look temps (Var binding x t) refl)
      (λ l needs more f met. subst (λ k. Stands S env k t (option_map start_of (look.block_of binding x))) (ok_pair (variable binding x t) l needs more f).0 (stands_variable S env known look binding x t state.names typed))
  reads (Deref' p (more_of-Expr e end_of-Expr) t) typed =
      object_reads t ((read source S.defs.structs e).behind t) (eval_by S.defs.structs look temps (Deref' p (more_of-Expr e end_of-Expr) t)) (option_and_then led (eval_by S.defs.structs look temps e)) refl ((reads e typed.0).behind t typed.1)
  reads (AddrOf' p (more_of-Expr e end_of-Expr) t) typed =
      rvalue_reads t (λ needs. on_ok ((read source S.defs.structs e).place needs) (λ l. address_row S.defs.structs l.0 l.1)) (option_map address (place_by S.defs.structs look temps e)) None
      (λ u needs more f met.
      (let q = ok_parts ((read source S.defs.structs e).place needs) (λ l. address_row S.defs.structs l.0 l.1) (u, more) f in
      let own = (reads e typed.0).place q.0.0 needs q.0.1 q.1 (met_before S env look q.0.1 more (address_grows S.defs.structs q.0.0 u q.0.1 more q.2) met) in
      address_means S env q.0.0 (type_of e) (place_by S.defs.structs look temps e) u q.0.1 more own q.2 met.sides))
  reads (Unary' op p (more_of-Expr e end_of-Expr) t) typed =
      rvalue_reads t (λ needs. on_ok ((read source S.defs.structs e).value needs) (λ v. operated_one op (type_of e) v.0 v.1)) (eval_by S.defs.structs look temps (Unary' op p (more_of-Expr e end_of-Expr) t)) None
      (λ u needs more f met.
      (let q = ok_parts ((read source S.defs.structs e).value needs) (λ v. operated_one op (type_of e) v.0 v.1) (u, more) f in
      let own = (reads e typed.0).value q.0.0 needs q.0.1 q.1 (met_before S env look q.0.1 more (of_operator source S.defs.structs op (type_of e) q.0.0 u q.0.1 more q.2) met) in
      operator_evaluates S env look op (type_of e) q.0.0 u (eval_by S.defs.structs look temps e) q.0.1 more own q.2 met))
  reads (Binary' op p (more_of-Expr a end_of-Expr) q (more_of-Expr b end_of-Expr) t) typed =
      binary_reads op (type_of a) (type_of b) t (read source S.defs.structs a) (read source S.defs.structs b) (eval_by S.defs.structs look temps a) (eval_by S.defs.structs look temps b) (place_by S.defs.structs look temps a) (place_by S.defs.structs look temps b)
      (grows source S.defs.structs a) (grows source S.defs.structs b) typed.2 (reads a typed.0) (reads b typed.1)
  reads (Cast' p (more_of-Expr e end_of-Expr) t) typed =
      rvalue_reads t (cast_value source S.defs.structs t e (read source S.defs.structs e).value) (eval_by S.defs.structs look temps (Cast' p (more_of-Expr e end_of-Expr) t)) None
      (λ u needs more f met.
      null_or_cast S env look (is_pointer t && is_zero_constant e) (type_of e) t u (eval_by S.defs.structs look temps e) needs more ((read source S.defs.structs e).value needs) (λ v middle g own. (reads e typed.0).value v needs middle g own) f met)
  reads (Field' p (more_of-Expr e end_of-Expr) x t) typed =
      object_reads t (λ needs. on_ok ((read source S.defs.structs e).place needs) (λ l. Ok (field (type_of e) x l.0, l.1))) (eval_by S.defs.structs look temps (Field' p (more_of-Expr e end_of-Expr) x t)) (place_by S.defs.structs look temps (Field' p (more_of-Expr e end_of-Expr) x t)) refl
      (λ l needs more f met.
      (let q = ok_parts {B = Lvalue × Needs} ((read source S.defs.structs e).place needs) (λ k. Ok (field (type_of e) x k.0, k.1)) (l, more) f in
      let same = ok_pair (field (type_of e) x q.0.0) l q.0.1 more q.2 in
      let own = (reads e typed.0).place q.0.0 needs q.0.1 q.1 (subst (IsMet S env look) (sym same.1) met) in
      subst (λ k. Stands S env k t (place_by S.defs.structs look temps (Field' p (more_of-Expr e end_of-Expr) x t))) same.0 (stands_field S env q.0.0 (type_of e) (place_by S.defs.structs look temps e) x t state.structs typed.1 own)))
  reads (SizeOf of t) typed =
      rvalue_reads t (given (size_of S.defs.structs (sized_type of))) (eval_by S.defs.structs look temps (SizeOf of t)) None
      (λ u needs more f met. size_evaluates S.defs env of u needs more (size S.defs.structs of) refl typed.1 (λ n is. low_size S.defs.structs of n typed.2 is) f)

  -- where the object of an expression stands
  pub stands_for : (e : Expr) (l : Lvalue) (needs more : Needs) → IsTyped S.defs.structs known e → (read source S.defs.structs e).place needs ≡ Ok (l, more) → IsMet S env look more → Stands S env l (type_of e) (place_by S.defs.structs look temps e)
  stands_for e l needs more typed f met = (reads e typed).place l needs more f met

  pub expressions_agree : (e : Expr) (given : Evaluated) → IsTyped S.defs.structs known e → evaluate source S.defs.structs e ≡ Ok given → IsMet S env look (record { sides = given.sides; valid = given.valid }) → IsEvaluated S env look temps e given.term
  expressions_agree e g typed f met =
      let p = ok_parts ((read source S.defs.structs e).value nothing_needed) (λ x. Ok (record { term = x.0; sides = x.1.sides; valid = x.1.valid })) g f in
      let same : ◌≡◌ {A = Evaluated} (record { term = p.0.0; sides = p.0.1.sides; valid = p.0.1.valid }) g = cc in
      let own = subst (λ (y : Evaluated). IsMet S env look (record { sides = y.sides; valid = y.valid })) (sym same) met in
      record {
        agrees = subst (λ (y : Evaluated). Agrees S.defs env y.term (eval_by S.defs.structs look temps e)) same ((reads e typed).value p.0.0 nothing_needed p.0.1 p.1 own).agrees;
        loads = (quiet source S.defs.structs look temps e).value p.0.0 nothing_needed p.0.1 p.1;
      }
