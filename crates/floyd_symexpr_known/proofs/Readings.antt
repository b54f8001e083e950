-- The names in what an expression is evaluated to are known.
use Rattle.std.proofs.Common.{◌≡◌, ℕ, ℤ, pos, Bool, true, false, ◌&&◌, List, [], ◌∷◌, Option, Some, None, Result, Ok, Err, is_some, refl, sym, subst, bytes_eq, if◌then◌else◌}
use Rattle.std.specs.List.{AllByRecursion}
use Rattle.std.specs.Map.{lookup}
use Rattle.std.proofs.lemmas.Slice.Eq.{bytes_eq-Decides}
use Rattle.floyd_text.specs.declared.refusal.No.{No}
use Rattle.floyd_int.specs.declared.kinds.IntKind.{IntKind}
use Rattle.floyd_int.specs.declared.kinds.IntOp.{IntOp}
use Rattle.floyd_int.specs.declared.kinds.IntOp.TheVariants.{Add}
use Rattle.floyd_int.specs.declared.kinds.Value.{Value}
use Rattle.floyd_ctypes.specs.declared.ctype.CType.{CType, Int, Pointer', Array'}
use Rattle.floyd_clight.specs.declared.syntax.Binding.{Binding}
use Rattle.floyd_clight.specs.declared.syntax.Binding.TheVariants.{Block, File}
use Rattle.floyd_clight.specs.declared.syntax.Expr.{Expr, Const, Temp, Var, Deref', AddrOf', Unary', Binary', Cast', Field', SizeOf, end_of-Expr, more_of-Expr}
use Rattle.floyd_clight.specs.declared.syntax.UnaryOp.{UnaryOp}
use Rattle.floyd_clight.specs.Types.{type_of}
use Rattle.floyd_clight_typing.specs.Expressions.{IsTyped, Names, type_named}
use Rattle.floyd_clight_machine.specs.Evaluation.{is_zero_constant}
use Rattle.floyd_clight_machine.specs.Integers.{number_of}
use Rattle.floyd_clight_machine.specs.Types.{is_pointer}
use Rattle.floyd_tree_sorts.specs.declared.operators.Operator.TheVariants.{Vlong}
use Rattle.floyd_tree.specs.Plain.{Plain}
use Rattle.floyd_assert_trees.specs.declared.assertion.Assertion.{Assertion}
use Rattle.floyd_assert_trees.specs.declared.assertion.Local.{Local}
use Rattle.floyd_assert_cells.specs.Types.{sizes_of}
use Rattle.floyd_fieldpath.specs.Addresses.{size_term}
use Rattle.floyd_fieldpath.specs.Nested.{sized_type}
use Rattle.floyd_fieldpath.specs.Projections.{one}
use Rattle.floyd_fieldpath.specs.Written.{on_ok, written}
use Rattle.floyd_symexpr_rows.specs.declared.needs.Needs.{Needs}
use Rattle.floyd_symexpr_rows.specs.Rows.{nothing_needed, null, number}
use Rattle.floyd_symexpr_pointers.specs.Operators.{binary, cast, operand, unary}
use Rattle.floyd_symexpr_paths.specs.declared.lvalue.Lvalue.{Lvalue}
use Rattle.floyd_symexpr_paths.specs.Places.{address_row, element, elements_at, field, first, object_value, pointed, variable}
use Rattle.floyd_symexpr.specs.declared.evaluation.Evaluated.{Evaluated}
use Rattle.floyd_symexpr.specs.Expressions.{Placed, Reading, Valued, behind_type, binary_behind, binary_reading, cast_value, constant_of, element_at, elements, evaluate, given, kind_of, led, no_place, number_constant, number_first, object, operated_cast, operated_one, operated_two, pointer_first, read, rvalue, size_of, sum_of, temporary, unary_value, binary_value}
use Rattle.floyd_assert_trees.specs.declared.spec.SpecTable.{SpecTable}
use Rattle.floyd_assert_trees.specs.declared.items.Defs.{Defs}
use Rattle.floyd_goal_forms.specs.Terms.{GlobalsKnown}
use Rattle.floyd_symexpr_forms.proofs.Answers.{Gives, chosen, on}
use Rattle.floyd_symexpr_known.specs.Laws.{FileIsKnown, NeedsAreKnown, SourceIsKnown}
use Rattle.floyd_symexpr_known.proofs.Answers.{K, Row, literal_known, written_known}
use Rattle.floyd_symexpr_known.proofs.Rows.{GoodNumber, constant_known, number_known}
use Rattle.floyd_symexpr_known.proofs.Pointers.{GoodOperand, binary_known, cast_known, literals_known, null_known, operand_known, size_known, unary_known}
use Rattle.floyd_symexpr_known.proofs.Places.{GoodLvalue, address_row_known, field_known, item_known, object_known}

-- a name of the file is known
known_in : (defs : Defs) (file : List (List ℕ × CType)) (x : List ℕ) (t : CType) → FileIsKnown defs file → lookup (bytes_eq x) file ≡ Some t → is_some (lookup (bytes_eq x) defs.globals) ≡ true
known_in defs [] x t k e = absurd cc
known_in defs (y ∷ file) x t k e = by (bytes_eq x y.0) refl e (λ f. known_in defs file x t k.1 f)
  where
    by : (b : Bool) → bytes_eq x y.0 ≡ b → (if b then Some y.1 else lookup (bytes_eq x) file) ≡ Some t → (lookup (bytes_eq x) file ≡ Some t → is_some (lookup (bytes_eq x) defs.globals) ≡ true) → is_some (lookup (bytes_eq x) defs.globals) ≡ true
    by true f g later = subst (λ z. is_some (lookup (bytes_eq z) defs.globals) ≡ true) (sym ((bytes_eq-Decides x y.0).0 f)) k.0
    by false f g later = later g

module _ (defs : Defs) (specs : SpecTable) (names : Names) (file : FileIsKnown defs names.file) (source : Assertion) (known : SourceIsKnown defs source) where
  abbrev G : Plain → Type 0
  G t = K defs specs t

  abbrev V : Plain → Type 0
  V t = K defs specs t

  abbrev W : Needs → Type 0
  W needs = NeedsAreKnown defs specs needs

  abbrev R : Plain × Needs → Type 0
  R v = Row defs specs v

  abbrev L : Lvalue → Type 0
  L l = GoodLvalue defs specs l

  abbrev pub P : Lvalue × Needs → Type 0
  P l = L l.0 × W l.1

  abbrev pub GoodValue : Valued → Type 0
  GoodValue value = (needs : Needs) → W needs → Gives R (value needs)

  abbrev pub GoodPlace : Placed → Type 0
  GoodPlace place = (needs : Needs) → W needs → Gives P (place needs)

  pub record GoodReading (r : Reading) : Type 0 where
    pub value : GoodValue r.value
    pub place : GoodPlace r.place
    pub behind : (t : CType) → GoodPlace (r.behind t)

  -- ---- names and constants

  given_known : (term : Result Plain No) → Gives V term → GoodValue (given term)
  given_known term h needs w = on V R term (λ t. Ok (t, needs)) h (λ t x. (x, w))

  temporary_known : (locals : List Local) (x : List ℕ) → AllByRecursion (λ (l : Local). GlobalsKnown defs l.term) locals → Gives V (temporary locals x)
  temporary_known [] x h = tt
  temporary_known (l ∷ locals) x h = chosen V (bytes_eq x l.name) (Ok l.term) (temporary locals x) h.0 (temporary_known locals x h.1)

  number_of_kind : (k : IntKind) (o : Option ℤ) → Gives V (number_constant k o)
  number_of_kind k None = tt
  number_of_kind k (Some z) = constant_known defs specs k z

  constant_of_known : (t : CType) (v : Value) → Gives V (constant_of t v)
  constant_of_known (Int k) v = number_of_kind k (number_of k v)
  constant_of_known t v = tt

  size_of_known : (t : CType) → Gives V (size_of defs.structs (sized_type t))
  size_of_known t =
      on G V (size_term defs.structs (sized_type t).shape (sized_type t).sizes) (λ n. written (one Vlong n)) (size_known defs specs (sized_type t).shape (sized_type t).sizes (literals_known defs specs (sizes_of t)))
      (λ n x. written_known defs specs (one Vlong n) ((tt, (x, tt))))

  variable_known : (binding : Binding) (x : List ℕ) (t : CType) → type_named names binding x ≡ Some t → L (variable binding x t)
  variable_known Block x t e = record { root = (tt, tt); form = tt; subscripts = tt }
  variable_known File x t e = record { root = (known_in defs names.file x t file e, tt); form = tt; subscripts = tt }

  -- ---- what a value leads to

  at_root : (v : Plain) (t : CType) → V v → L (pointed v t)
  at_root v t g = record { root = g; form = tt; subscripts = tt }

  led_known : (value : Valued) (t : CType) → GoodValue value → GoodPlace (led value t)
  led_known value t h needs w = on R P (value needs) (λ v. Ok (pointed v.0 t, v.1)) (h needs w) (λ v x. (at_root v.0 t x.0, x.1))

  behind_known : (own : CType) (place : Placed) (value : Valued) (t : CType) → GoodPlace place → GoodValue value → GoodPlace (behind_type own place value t)
  behind_known (Array' p u n) place value t g h = λ needs w. on P P (place needs) (λ l. Ok (element t first l.0, l.1)) (g needs w) (λ l x. (item_known defs specs t first l.0 (literal_known defs specs (pos 0)) x.0, x.1))
  behind_known own place value t g h = led_known value t h

  rvalue_known : (t : CType) (value : Valued) → GoodValue value → GoodReading (rvalue t value)
  rvalue_known t value h = record { value = h; place = λ needs w. tt; behind = λ to. behind_known t no_place value to (λ needs w. tt) h }

  of_object : (t : CType) (place : Placed) → GoodPlace place → GoodReading (object source defs.structs t place)
  of_object t place h =
      let value : GoodValue (object source defs.structs t place).value = λ needs w. on P R (place needs) (λ l. object_value defs.structs t l.0 l.1) (h needs w) (λ l x. object_known defs specs t l.0 l.1 x.0 x.1) in
      record { value = value; place = h; behind = λ to. behind_known t place (object source defs.structs t place).value to h value }

  -- ---- operators

  one_operated : (op : UnaryOp) (t : CType) (v : Plain) (needs : Needs) → V v → W needs → Gives R (operated_one op t v needs)
  one_operated op t v needs g w = on (GoodOperand defs specs) R (operand t v) (λ a. unary op a needs) (operand_known defs specs t v g) (λ a x. unary_known defs specs op a needs x w)

  cast_operated : (from to : CType) (v : Plain) (needs : Needs) → V v → W needs → Gives R (operated_cast from to v needs)
  cast_operated from to v needs g w = on (GoodOperand defs specs) R (operand from v) (λ a. cast to a needs) (operand_known defs specs from v g) (λ a x. cast_known defs specs to a needs x w)

  two_operated : (op : IntOp) (t u : CType) (v w : Plain) (needs : Needs) → V v → V w → W needs → Gives R (operated_two defs.structs source.parts op t v u w needs)
  two_operated op t u v w needs g h k =
      on (GoodOperand defs specs) R (operand t v) (λ a. on_ok (operand u w) (λ b. binary defs.structs source.parts op a b needs)) (operand_known defs specs t v g)
      (λ a x. on (GoodOperand defs specs) R (operand u w) (λ b. binary defs.structs source.parts op a b needs) (operand_known defs specs u w h) (λ b y. binary_known defs specs source.parts op a b needs known.parts x y k))

  unary_value_known : (op : UnaryOp) (t : CType) (value : Valued) → GoodValue value → GoodValue (unary_value source defs.structs op t value)
  unary_value_known op t value h needs w = on R R (value needs) (λ v. operated_one op t v.0 v.1) (h needs w) (λ v x. one_operated op t v.0 v.1 x.0 x.1)

  binary_value_known : (op : IntOp) (t u : CType) (left right : Valued) → GoodValue left → GoodValue right → GoodValue (binary_value source defs.structs op t u left right)
  binary_value_known op t u left right g h needs w =
      on R R (left needs) (λ v. on_ok (right v.1) (λ x. operated_two defs.structs source.parts op t v.0 u x.0 x.1)) (g needs w)
      (λ v x. on R R (right v.1) (λ y. operated_two defs.structs source.parts op t v.0 u y.0 y.1) (h v.1 x.1) (λ y z. two_operated op t u v.0 y.0 y.1 x.0 z.0 z.1))

  cast_value_known : (t : CType) (e : Expr) (value : Valued) → GoodValue value → GoodValue (cast_value source defs.structs t e value)
  cast_value_known t e value h needs w = by (is_pointer t && is_zero_constant e)
    where
      by : (b : Bool) → Gives R (if b then Ok (null, needs) else on_ok (value needs) (λ v. operated_cast (type_of e) t v.0 v.1))
      by true = (null_known defs specs, w)
      by false = on R R (value needs) (λ v. operated_cast (type_of e) t v.0 v.1) (h needs w) (λ v x. cast_operated (type_of e) t v.0 v.1 x.0 x.1)

  -- ---- elements

  elements_known : (u t : CType) (a : Reading) → GoodReading a → GoodPlace (elements source defs.structs u t a)
  elements_known (Array' p v n) t a g needs w = g.place needs w
  elements_known (Pointer' p v) t a g needs w = on R P (a.value needs) (λ x. Ok (elements_at x.0 t, x.1)) (g.value needs w) (λ x y. (record { root = y.0; form = tt; subscripts = tt }, y.1))
  elements_known u t a g needs w = tt

  item_at_known : (t : CType) (k : IntKind) (v : Plain) (l : Lvalue) → V v → L l → Gives L (element_at t k v l)
  item_at_known t k v l g h = on (GoodNumber defs specs) L (number k v) (λ i. Ok (element t i l)) (number_known defs specs k v g) (λ i x. item_known defs specs t i l x h)

  pointer_first_known : (u : CType) (k : IntKind) (a b : Reading) (t : CType) → GoodReading a → GoodReading b → GoodPlace (pointer_first source defs.structs u k a b t)
  pointer_first_known u k a b t g h needs w =
      on P P (elements source defs.structs u t a needs) (λ l. on_ok (b.value l.1) (λ v. on_ok (element_at t k v.0 l.0) (λ m. Ok (m, v.1)))) (elements_known u t a g needs w)
      (λ l x. on R P (b.value l.1) (λ v. on_ok (element_at t k v.0 l.0) (λ m. Ok (m, v.1))) (h.value l.1 x.1)
      (λ v y. on L P (element_at t k v.0 l.0) (λ m. Ok (m, v.1)) (item_at_known t k v.0 l.0 y.0 x.0) (λ m z. (z, y.1))))

  number_first_known : (k : IntKind) (u : CType) (a b : Reading) (t : CType) → GoodReading a → GoodReading b → GoodPlace (number_first source defs.structs k u a b t)
  number_first_known k u a b t g h needs w =
      on R P (a.value needs) (λ v. on_ok (elements source defs.structs u t b v.1) (λ l. on_ok (element_at t k v.0 l.0) (λ m. Ok (m, l.1)))) (g.value needs w)
      (λ v x. on P P (elements source defs.structs u t b v.1) (λ l. on_ok (element_at t k v.0 l.0) (λ m. Ok (m, l.1))) (elements_known u t b h v.1 x.1)
      (λ l y. on L P (element_at t k v.0 l.0) (λ m. Ok (m, l.1)) (item_at_known t k v.0 l.0 x.0 y.0) (λ m z. (z, y.1))))

  sum_known : (o p : Option IntKind) (t u : CType) (a b : Reading) (to : CType) → GoodReading a → GoodReading b → GoodPlace (sum_of source defs.structs o p t u a b to)
  sum_known (Some k) p t u a b to g h = number_first_known k u a b to g h
  sum_known None (Some k) t u a b to g h = pointer_first_known t k a b to g h
  sum_known None None t u a b to g h = λ needs w. tt

  binary_behind_known : (op : IntOp) (t u own : CType) (a b : Reading) (value : Valued) (to : CType) → GoodReading a → GoodReading b → GoodValue value → GoodPlace (binary_behind source defs.structs op t u own a b value to)
  binary_behind_known Add t u own a b value to g h k = sum_known (kind_of t) (kind_of u) t u a b to g h
  binary_behind_known op t u own a b value to g h k = behind_known own no_place value to (λ needs w. tt) k

  binary_reading_known : (op : IntOp) (t u own : CType) (a b : Reading) → GoodReading a → GoodReading b → GoodReading (binary_reading source defs.structs op t u own a b)
  binary_reading_known op t u own a b g h =
      let value = binary_value_known op t u a.value b.value g.value h.value in
      record { value = value; place = λ needs w. tt; behind = λ to. binary_behind_known op t u own a b (binary_reading source defs.structs op t u own a b).value to g h value }

  -- ---- expressions

  pub read_known : (e : Expr) → IsTyped defs.structs names e → GoodReading (read source defs.structs e)
  read_known (Const v t) k = rvalue_known t (given (constant_of t v)) (given_known (constant_of t v) (constant_of_known t v))
  read_known (Temp x t) k = rvalue_known t (given (temporary source.locals x)) (given_known (temporary source.locals x) (temporary_known source.locals x known.locals))
  read_known (Var binding x t) k = of_object t (λ needs. Ok (variable binding x t, needs)) (λ needs w. (variable_known binding x t k, w))
  read_known (Deref' p (more_of-Expr e end_of-Expr) t) k = of_object t ((read source defs.structs e).behind t) ((read_known e k.0).behind t)
  read_known (AddrOf' p (more_of-Expr e end_of-Expr) t) k =
      let inner = read_known e k.0 in
      rvalue_known t (λ needs. on_ok ((read source defs.structs e).place needs) (λ l. address_row defs.structs l.0 l.1))
      (λ needs w. on P R ((read source defs.structs e).place needs) (λ l. address_row defs.structs l.0 l.1) (inner.place needs w) (λ l x. address_row_known defs specs l.0 l.1 x.0 x.1))
  read_known (Unary' op p (more_of-Expr e end_of-Expr) t) k = rvalue_known t (unary_value source defs.structs op (type_of e) (read source defs.structs e).value) (unary_value_known op (type_of e) (read source defs.structs e).value (read_known e k.0).value)
  read_known (Binary' op p (more_of-Expr a end_of-Expr) q (more_of-Expr b end_of-Expr) t) k = binary_reading_known op (type_of a) (type_of b) t (read source defs.structs a) (read source defs.structs b) (read_known a k.0) (read_known b k.1)
  read_known (Cast' p (more_of-Expr e end_of-Expr) t) k = rvalue_known t (cast_value source defs.structs t e (read source defs.structs e).value) (cast_value_known t e (read source defs.structs e).value (read_known e k.0).value)
  read_known (Field' p (more_of-Expr e end_of-Expr) x t) k =
      let inner = read_known e k.0 in
      of_object t (λ needs. on_ok ((read source defs.structs e).place needs) (λ l. Ok (field (type_of e) x l.0, l.1)))
      (λ needs w. on P P ((read source defs.structs e).place needs) (λ l. Ok (field (type_of e) x l.0, l.1)) (inner.place needs w) (λ l y. (field_known defs specs (type_of e) x l.0 y.0, y.1)))
  read_known (SizeOf of t) k = rvalue_known t (given (size_of defs.structs (sized_type of))) (given_known (size_of defs.structs (sized_type of)) (size_of_known of))

  abbrev E : Evaluated → Type 0
  E given = GlobalsKnown defs given.term × W (record { sides = given.sides; valid = given.valid })

  evaluated_known : (e : Expr) → IsTyped defs.structs names e → Gives E (evaluate source defs.structs e)
  evaluated_known e k =
      on R E ((read source defs.structs e).value nothing_needed) (λ v. Ok (record { term = v.0; sides = v.1.sides; valid = v.1.valid })) ((read_known e k).value nothing_needed (record { sides = tt; valid = tt }))
      (λ v x. (x.0, record { sides = x.1.sides; valid = x.1.valid }))

  of_answer : (r : Result Evaluated No) (given : Evaluated) → Gives E r → r ≡ Ok given → E given
  of_answer (Ok a) given h e = subst (λ (w : Evaluated). E w) (let x = e in cc) h
  of_answer (Err why) given h e = absurd cc

  pub evaluation_known : (e : Expr) (given : Evaluated) → IsTyped defs.structs names e → evaluate source defs.structs e ≡ Ok given → E given
  evaluation_known e given k f = of_answer (evaluate source defs.structs e) given (evaluated_known e k) f
