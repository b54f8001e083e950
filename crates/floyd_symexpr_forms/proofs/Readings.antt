-- What an expression is evaluated to is well formed.
use Rattle.std.proofs.Common.{◌≡◌, ℕ, ℤ, pos, Bool, true, false, ◌&&◌, List, [], ◌∷◌, Option, Some, None, Result, Ok, Err, refl, subst, bytes_eq, if◌then◌else◌}
use Rattle.std.specs.List.{AllByRecursion}
use Rattle.floyd_text.specs.declared.refusal.No.{No}
use Rattle.floyd_int.specs.declared.kinds.IntKind.{IntKind}
use Rattle.floyd_int.specs.declared.kinds.IntOp.{IntOp}
use Rattle.floyd_int.specs.declared.kinds.IntOp.TheVariants.{Add}
use Rattle.floyd_int.specs.declared.kinds.Value.{Value}
use Rattle.floyd_ctypes.specs.declared.ctype.CType.{CType, Int, Pointer', Array'}
use Rattle.floyd_clight.specs.declared.syntax.Binding.{Binding}
use Rattle.floyd_clight.specs.declared.syntax.Binding.TheVariants.{Block, File}
use Rattle.floyd_clight.specs.declared.syntax.Expr.{Expr, Const, Temp, Var, Deref', AddrOf', Unary', Binary', Cast', Field', SizeOf, end_of-Expr, more_of-Expr}
use Rattle.floyd_clight.specs.declared.syntax.UnaryOp.{UnaryOp}
use Rattle.floyd_clight.specs.Types.{type_of}
use Rattle.floyd_clight_machine.specs.Evaluation.{is_zero_constant}
use Rattle.floyd_clight_machine.specs.Integers.{number_of}
use Rattle.floyd_clight_machine.specs.Types.{is_pointer}
use Rattle.floyd_tree_sorts.specs.declared.operators.Operator.TheVariants.{Vlong}
use Rattle.floyd_tree_sorts.specs.declared.sorts.Sort.{Val, Z}
use Rattle.floyd_tree.specs.Plain.{Plain}
use Rattle.floyd_tree_values.specs.Means.{Defs}
use Rattle.floyd_tree_values.specs.Rules.{Scope}
use Rattle.floyd_assert_trees.specs.declared.assertion.Assertion.{Assertion}
use Rattle.floyd_assert_trees.specs.declared.assertion.Local.{Local}
use Rattle.floyd_assert_cells.specs.Types.{sizes_of}
use Rattle.floyd_fieldpath.specs.Addresses.{size_term}
use Rattle.floyd_fieldpath.specs.Nested.{sized_type}
use Rattle.floyd_fieldpath.specs.Projections.{one}
use Rattle.floyd_fieldpath.specs.Written.{on_ok, written}
use Rattle.floyd_symexpr_rows.specs.declared.needs.Needs.{Needs}
use Rattle.floyd_symexpr_rows.specs.Rows.{nothing_needed, null, number}
use Rattle.floyd_symexpr_pointers.specs.Operators.{binary, cast, operand, unary}
use Rattle.floyd_symexpr_paths.specs.declared.lvalue.Lvalue.{Lvalue}
use Rattle.floyd_symexpr_paths.specs.Places.{address_row, element, elements_at, field, first, object_value, pointed, variable}
use Rattle.floyd_symexpr.specs.declared.evaluation.Evaluated.{Evaluated}
use Rattle.floyd_symexpr.specs.Expressions.{Placed, Reading, Valued, behind_type, binary_behind, binary_reading, cast_value, constant_of, element_at, elements, evaluate, given, kind_of, led, no_place, number_constant, number_first, object, operated_cast, operated_one, operated_two, pointer_first, read, rvalue, size_of, sum_of, temporary, unary_value, binary_value}
use Rattle.floyd_symexpr_forms.specs.Laws.{NeedsFit, SourceFits, TermIn}
use Rattle.floyd_symexpr_forms.proofs.Answers.{Gives, Good, GoodRow, chosen, literal_good, on, one_good, written_good}
use Rattle.floyd_symexpr_forms.proofs.Rows.{GoodNumber, constant_good, number_good}
use Rattle.floyd_symexpr_forms.proofs.Pointers.{GoodOperand, binary_good, cast_good, literals_good, null_good, operand_good, size_good, unary_good}
use Rattle.floyd_symexpr_forms.proofs.Places.{GoodLvalue, address_row_good, field_good, item_good, object_good}

module _ (defs : Defs) (scope : Scope) (source : Assertion) (fits : SourceFits defs scope source) where
  abbrev G : Plain → Type 0
  G t = Good defs scope Z t

  abbrev V : Plain → Type 0
  V t = Good defs scope Val t

  abbrev W : Needs → Type 0
  W needs = NeedsFit defs scope needs

  abbrev R : Plain × Needs → Type 0
  R v = GoodRow defs scope v

  abbrev L : Lvalue → Type 0
  L l = GoodLvalue defs scope l

  abbrev pub P : Lvalue × Needs → Type 0
  P l = L l.0 × W l.1

  abbrev pub GoodValue : Valued → Type 0
  GoodValue value = (needs : Needs) → W needs → Gives R (value needs)

  abbrev pub GoodPlace : Placed → Type 0
  GoodPlace place = (needs : Needs) → W needs → Gives P (place needs)

  pub record GoodReading (r : Reading) : Type 0 where
    pub value : GoodValue r.value
    pub place : GoodPlace r.place
    pub behind : (t : CType) → GoodPlace (r.behind t)

  -- ---- names and constants

  given_good : (term : Result Plain No) → Gives V term → GoodValue (given term)
  given_good term h needs w = on V R term (λ t. Ok (t, needs)) h (λ t x. (x, w))

  temporary_good : (locals : List Local) (x : List ℕ) → AllByRecursion (λ (l : Local). TermIn defs scope Val l.term) locals → Gives V (temporary locals x)
  temporary_good [] x h = tt
  temporary_good (l ∷ locals) x h = chosen V (bytes_eq x l.name) (Ok l.term) (temporary locals x) h.0 (temporary_good locals x h.1)

  number_of_kind : (k : IntKind) (o : Option ℤ) → Gives V (number_constant k o)
  number_of_kind k None = tt
  number_of_kind k (Some z) = constant_good defs scope k z

  constant_of_good : (t : CType) (v : Value) → Gives V (constant_of t v)
  constant_of_good (Int k) v = number_of_kind k (number_of k v)
  constant_of_good t v = tt

  size_of_good : (t : CType) → Gives V (size_of defs.structs (sized_type t))
  size_of_good t =
      on G V (size_term defs.structs (sized_type t).shape (sized_type t).sizes) (λ n. written (one Vlong n)) (size_good defs scope (sized_type t).shape (sized_type t).sizes (literals_good defs scope (sizes_of t)))
      (λ n x. written_good defs scope Val (one Vlong n) (one_good defs scope Vlong Z Val n x refl))

  variable_good : (binding : Binding) (x : List ℕ) (t : CType) → L (variable binding x t)
  variable_good Block x t = record { root = record { sorted = refl; allowed = (tt, tt) }; form = tt; subscripts = tt }
  variable_good File x t = record { root = record { sorted = refl; allowed = (tt, tt) }; form = tt; subscripts = tt }

  -- ---- what a value leads to

  at_root : (v : Plain) (t : CType) → V v → L (pointed v t)
  at_root v t g = record { root = g; form = tt; subscripts = tt }

  led_good : (value : Valued) (t : CType) → GoodValue value → GoodPlace (led value t)
  led_good value t h needs w = on R P (value needs) (λ v. Ok (pointed v.0 t, v.1)) (h needs w) (λ v x. (at_root v.0 t x.0, x.1))

  behind_good : (own : CType) (place : Placed) (value : Valued) (t : CType) → GoodPlace place → GoodValue value → GoodPlace (behind_type own place value t)
  behind_good (Array' p u n) place value t g h = λ needs w. on P P (place needs) (λ l. Ok (element t first l.0, l.1)) (g needs w) (λ l x. (item_good defs scope t first l.0 (literal_good defs scope (pos 0)) x.0, x.1))
  behind_good own place value t g h = led_good value t h

  rvalue_good : (t : CType) (value : Valued) → GoodValue value → GoodReading (rvalue t value)
  rvalue_good t value h = record { value = h; place = λ needs w. tt; behind = λ to. behind_good t no_place value to (λ needs w. tt) h }

  of_object : (t : CType) (place : Placed) → GoodPlace place → GoodReading (object source defs.structs t place)
  of_object t place h =
      let value : GoodValue (object source defs.structs t place).value = λ needs w. on P R (place needs) (λ l. object_value defs.structs t l.0 l.1) (h needs w) (λ l x. object_good defs scope t l.0 l.1 x.0 x.1) in
      record { value = value; place = h; behind = λ to. behind_good t place (object source defs.structs t place).value to h value }

  -- ---- operators

  one_operated : (op : UnaryOp) (t : CType) (v : Plain) (needs : Needs) → V v → W needs → Gives R (operated_one op t v needs)
  one_operated op t v needs g w = on (GoodOperand defs scope) R (operand t v) (λ a. unary op a needs) (operand_good defs scope t v g) (λ a x. unary_good defs scope op a needs x w)

  cast_operated : (from to : CType) (v : Plain) (needs : Needs) → V v → W needs → Gives R (operated_cast from to v needs)
  cast_operated from to v needs g w = on (GoodOperand defs scope) R (operand from v) (λ a. cast to a needs) (operand_good defs scope from v g) (λ a x. cast_good defs scope to a needs x w)

  two_operated : (op : IntOp) (t u : CType) (v w : Plain) (needs : Needs) → V v → V w → W needs → Gives R (operated_two defs.structs source.parts op t v u w needs)
  two_operated op t u v w needs g h k =
      on (GoodOperand defs scope) R (operand t v) (λ a. on_ok (operand u w) (λ b. binary defs.structs source.parts op a b needs)) (operand_good defs scope t v g)
      (λ a x. on (GoodOperand defs scope) R (operand u w) (λ b. binary defs.structs source.parts op a b needs) (operand_good defs scope u w h) (λ b y. binary_good defs scope source.parts op a b needs fits.parts x y k))

  unary_value_good : (op : UnaryOp) (t : CType) (value : Valued) → GoodValue value → GoodValue (unary_value source defs.structs op t value)
  unary_value_good op t value h needs w = on R R (value needs) (λ v. operated_one op t v.0 v.1) (h needs w) (λ v x. one_operated op t v.0 v.1 x.0 x.1)

  binary_value_good : (op : IntOp) (t u : CType) (left right : Valued) → GoodValue left → GoodValue right → GoodValue (binary_value source defs.structs op t u left right)
  binary_value_good op t u left right g h needs w =
      on R R (left needs) (λ v. on_ok (right v.1) (λ x. operated_two defs.structs source.parts op t v.0 u x.0 x.1)) (g needs w)
      (λ v x. on R R (right v.1) (λ y. operated_two defs.structs source.parts op t v.0 u y.0 y.1) (h v.1 x.1) (λ y z. two_operated op t u v.0 y.0 y.1 x.0 z.0 z.1))

  cast_value_good : (t : CType) (e : Expr) (value : Valued) → GoodValue value → GoodValue (cast_value source defs.structs t e value)
  cast_value_good t e value h needs w = by (is_pointer t && is_zero_constant e)
    where
      by : (b : Bool) → Gives R (if b then Ok (null, needs) else on_ok (value needs) (λ v. operated_cast (type_of e) t v.0 v.1))
      by true = (null_good defs scope, w)
      by false = on R R (value needs) (λ v. operated_cast (type_of e) t v.0 v.1) (h needs w) (λ v x. cast_operated (type_of e) t v.0 v.1 x.0 x.1)

  -- ---- elements

  elements_good : (u t : CType) (a : Reading) → GoodReading a → GoodPlace (elements source defs.structs u t a)
  elements_good (Array' p v n) t a g needs w = g.place needs w
  elements_good (Pointer' p v) t a g needs w = on R P (a.value needs) (λ x. Ok (elements_at x.0 t, x.1)) (g.value needs w) (λ x y. (record { root = y.0; form = tt; subscripts = tt }, y.1))
  elements_good u t a g needs w = tt

  item_at_good : (t : CType) (k : IntKind) (v : Plain) (l : Lvalue) → V v → L l → Gives L (element_at t k v l)
  item_at_good t k v l g h = on (GoodNumber defs scope) L (number k v) (λ i. Ok (element t i l)) (number_good defs scope k v g) (λ i x. item_good defs scope t i l x h)

  pointer_first_good : (u : CType) (k : IntKind) (a b : Reading) (t : CType) → GoodReading a → GoodReading b → GoodPlace (pointer_first source defs.structs u k a b t)
  pointer_first_good u k a b t g h needs w =
      on P P (elements source defs.structs u t a needs) (λ l. on_ok (b.value l.1) (λ v. on_ok (element_at t k v.0 l.0) (λ m. Ok (m, v.1)))) (elements_good u t a g needs w)
      (λ l x. on R P (b.value l.1) (λ v. on_ok (element_at t k v.0 l.0) (λ m. Ok (m, v.1))) (h.value l.1 x.1)
      (λ v y. on L P (element_at t k v.0 l.0) (λ m. Ok (m, v.1)) (item_at_good t k v.0 l.0 y.0 x.0) (λ m z. (z, y.1))))

  number_first_good : (k : IntKind) (u : CType) (a b : Reading) (t : CType) → GoodReading a → GoodReading b → GoodPlace (number_first source defs.structs k u a b t)
  number_first_good k u a b t g h needs w =
      on R P (a.value needs) (λ v. on_ok (elements source defs.structs u t b v.1) (λ l. on_ok (element_at t k v.0 l.0) (λ m. Ok (m, l.1)))) (g.value needs w)
      (λ v x. on P P (elements source defs.structs u t b v.1) (λ l. on_ok (element_at t k v.0 l.0) (λ m. Ok (m, l.1))) (elements_good u t b h v.1 x.1)
      (λ l y. on L P (element_at t k v.0 l.0) (λ m. Ok (m, l.1)) (item_at_good t k v.0 l.0 x.0 y.0) (λ m z. (z, y.1))))

  sum_good : (o p : Option IntKind) (t u : CType) (a b : Reading) (to : CType) → GoodReading a → GoodReading b → GoodPlace (sum_of source defs.structs o p t u a b to)
  sum_good (Some k) p t u a b to g h = number_first_good k u a b to g h
  sum_good None (Some k) t u a b to g h = pointer_first_good t k a b to g h
  sum_good None None t u a b to g h = λ needs w. tt

  binary_behind_good : (op : IntOp) (t u own : CType) (a b : Reading) (value : Valued) (to : CType) → GoodReading a → GoodReading b → GoodValue value → GoodPlace (binary_behind source defs.structs op t u own a b value to)
  binary_behind_good Add t u own a b value to g h k = sum_good (kind_of t) (kind_of u) t u a b to g h
  binary_behind_good op t u own a b value to g h k = behind_good own no_place value to (λ needs w. tt) k

  binary_reading_good : (op : IntOp) (t u own : CType) (a b : Reading) → GoodReading a → GoodReading b → GoodReading (binary_reading source defs.structs op t u own a b)
  binary_reading_good op t u own a b g h =
      let value = binary_value_good op t u a.value b.value g.value h.value in
      record { value = value; place = λ needs w. tt; behind = λ to. binary_behind_good op t u own a b (binary_reading source defs.structs op t u own a b).value to g h value }

  -- ---- expressions

  pub read_good : (e : Expr) → GoodReading (read source defs.structs e)
  read_good (Const v t) = rvalue_good t (given (constant_of t v)) (given_good (constant_of t v) (constant_of_good t v))
  read_good (Temp x t) = rvalue_good t (given (temporary source.locals x)) (given_good (temporary source.locals x) (temporary_good source.locals x fits.locals))
  read_good (Var binding x t) = of_object t (λ needs. Ok (variable binding x t, needs)) (λ needs w. (variable_good binding x t, w))
  read_good (Deref' p (more_of-Expr e end_of-Expr) t) = of_object t ((read source defs.structs e).behind t) ((read_good e).behind t)
  read_good (AddrOf' p (more_of-Expr e end_of-Expr) t) =
      let inner = read_good e in
      rvalue_good t (λ needs. on_ok ((read source defs.structs e).place needs) (λ l. address_row defs.structs l.0 l.1))
      (λ needs w. on P R ((read source defs.structs e).place needs) (λ l. address_row defs.structs l.0 l.1) (inner.place needs w) (λ l x. address_row_good defs scope l.0 l.1 x.0 x.1))
  read_good (Unary' op p (more_of-Expr e end_of-Expr) t) = rvalue_good t (unary_value source defs.structs op (type_of e) (read source defs.structs e).value) (unary_value_good op (type_of e) (read source defs.structs e).value (read_good e).value)
  read_good (Binary' op p (more_of-Expr a end_of-Expr) q (more_of-Expr b end_of-Expr) t) = binary_reading_good op (type_of a) (type_of b) t (read source defs.structs a) (read source defs.structs b) (read_good a) (read_good b)
  read_good (Cast' p (more_of-Expr e end_of-Expr) t) = rvalue_good t (cast_value source defs.structs t e (read source defs.structs e).value) (cast_value_good t e (read source defs.structs e).value (read_good e).value)
  read_good (Field' p (more_of-Expr e end_of-Expr) x t) =
      let inner = read_good e in
      of_object t (λ needs. on_ok ((read source defs.structs e).place needs) (λ l. Ok (field (type_of e) x l.0, l.1)))
      (λ needs w. on P P ((read source defs.structs e).place needs) (λ l. Ok (field (type_of e) x l.0, l.1)) (inner.place needs w) (λ l y. (field_good defs scope (type_of e) x l.0 y.0, y.1)))
  read_good (SizeOf of t) = rvalue_good t (given (size_of defs.structs (sized_type of))) (given_good (size_of defs.structs (sized_type of)) (size_of_good of))

  abbrev E : Evaluated → Type 0
  E given = TermIn defs scope Val given.term × W (record { sides = given.sides; valid = given.valid })

  pub evaluated_good : (e : Expr) → Gives E (evaluate source defs.structs e)
  evaluated_good e =
      on R E ((read source defs.structs e).value nothing_needed) (λ v. Ok (record { term = v.0; sides = v.1.sides; valid = v.1.valid })) ((read_good e).value nothing_needed (record { sides = tt; valid = tt }))
      (λ v x. (x.0, record { sides = x.1.sides; valid = x.1.valid }))

  of_answer : (r : Result Evaluated No) (given : Evaluated) → Gives E r → r ≡ Ok given → E given
  of_answer (Ok a) given h e = subst (λ (w : Evaluated). E w) (let x = e in cc) h
  of_answer (Err why) given h e = absurd cc

  pub evaluation_fits : (e : Expr) (given : Evaluated) → evaluate source defs.structs e ≡ Ok given → E given
  evaluation_fits e given f = of_answer (evaluate source defs.structs e) given (evaluated_good e) f
