-- The machine evaluates an operator or a leaf to the value of its term, where it does so for the operands.
use Rattle.std.proofs.Common.{◌≡◌, ℕ, ◌^◌, ◌<◌, Bool, true, false, List, [], Option, Some, None, Result, Ok, is_some, refl, sym, ap, subst, ◌∙◌, if◌then◌else◌, arith}
use Rattle.std.specs.List.{AllByRecursion}
use Rattle.std.specs.Prelude.{IfSome, IsSome, option_and_then, option_map}
use Rattle.floyd_text.specs.declared.refusal.No.{No}
use Rattle.floyd_int.specs.declared.kinds.IntOp.{IntOp}
use Rattle.floyd_int.specs.declared.kinds.IntOp.TheVariants.{Add, Sub}
use Rattle.floyd_int.specs.declared.kinds.Value.{Value}
use Rattle.floyd_int.specs.declared.kinds.Value.TheVariants as v
use Rattle.floyd_ctypes.specs.declared.ctype.CType.{CType, Int}
use Rattle.floyd_ctypes.specs.Layout.{size}
use Rattle.floyd_ctypes.specs.Structs.{Structs}
use Rattle.floyd_clight.specs.declared.syntax.UnaryOp.{UnaryOp}
use Rattle.floyd_clight_heap.specs.Heaplet.{Heaplet}
use Rattle.floyd_clight_machine.specs.Evaluation.{Look, Temps, binary_value, eval_by, is_zero_constant, unary_value}
use Rattle.floyd_clight_machine.specs.Evaluation as m
use Rattle.floyd_clight_machine.specs.Types.{pointee}
use Rattle.floyd_clight_typing.specs.Expressions.{IsBinary, IsConstant}
use Rattle.floyd_tree_sorts.specs.declared.heads.Head.TheVariants as head
use Rattle.floyd_tree_sorts.specs.declared.operators.Operator.TheVariants.{Nullval}
use Rattle.floyd_tree_sorts.specs.declared.sorts.Sort.{Val as ValSort}
use Rattle.floyd_tree.specs.Plain.{Plain, Done}
use Rattle.floyd_tree_values.specs.BuiltIns.{Env}
use Rattle.floyd_tree_values.specs.Data.{IsValue, Val}
use Rattle.floyd_tree_values.specs.Means.{Defs, Means, built_in, none}
use Rattle.floyd_tree_values.proofs.OneValue.{one_value}
use Rattle.floyd_assert_trees.specs.declared.assertion.Local.{Local}
use Rattle.floyd_assert_trees.specs.declared.sep.Sep.{Sep}
use Rattle.floyd_assert_meaning.specs.Assertions.{LocalsHold}
use Rattle.floyd_assert_meaning.specs.Parts.{PartsHold}
use Rattle.floyd_assert_meaning.specs.Settings.{Setting}
use Rattle.floyd_fieldpath.specs.Nested.{sized_type}
use Rattle.floyd_fieldpath.specs.Written.{on_ok}
use Rattle.floyd_symexpr_rows.specs.declared.needs.Needs.{Needs}
use Rattle.floyd_symexpr_rows.specs.Rows.{null}
use Rattle.floyd_symexpr_pointers.specs.Operators.{binary, cast, operand, unary}
use Rattle.floyd_symexpr_laws.specs.Laws.{Agrees}
use Rattle.floyd_symexpr_laws.proofs.TermMeanings.{ok_parts}
use Rattle.floyd_symexpr_pointer_laws.specs.Laws.{IsMet, IsMovable, LeadsToSized, Sees}
use Rattle.floyd_symexpr_pointer_laws.proofs.Growth as growth
use Rattle.floyd_symexpr_pointer_laws.proofs.Operators.{binary_agrees, cast_agrees, unary_agrees}
use Rattle.floyd_symexpr.specs.Expressions.{constant_of, given, operated_cast, operated_one, operated_two, size_of, temporary}
use Rattle.floyd_symexpr_soundness.proofs.Growing.{met_before, same_term}
use Rattle.floyd_symexpr_soundness.proofs.Leaves.{constant_means, size_means, temporary_is_value, temporary_means}
use Rattle.floyd_symexpr_soundness.proofs.RowValues.{IsWhole, of_operand}
use Rattle.floyd_symexpr_soundness.proofs.RowValues as whole

-- ---- a number may be added to a pointer where the types allow it

leads_to_sized : (structs : Structs) (U target : CType) → pointee U ≡ Some target → is_some (size structs target) ≡ true → LeadsToSized structs U
leads_to_sized structs U target to sized =
    subst (λ (o : Option CType). IfSome o (λ e. IsSome (size structs e))) (sym to) sized

movable : (structs : Structs) (op : IntOp) (T U t : CType) → IsBinary structs op T U t → IsMovable structs T U
movable structs op (Int j) (Int k) t b = tt
movable structs Add (Int j) U t b = leads_to_sized structs U b.target b.to b.sized
movable structs op (Int j) U t b = let never : None ≡ Some b.target = b.first in absurd cc
movable structs Add T (Int k) t b = leads_to_sized structs T b.target b.to b.sized
movable structs Sub T (Int k) t b = leads_to_sized structs T b.target b.to b.sized
movable structs op T (Int k) t b = let never : None ≡ Some b.second = b.to in absurd cc
movable structs op T U t b = tt

-- the machine finds a value of its own, and it is the term's
pub record Evaluates (defs : Defs) (env : Env) (t : Plain) (found : Option Value) : Type 0 where
  pub agrees : Agrees defs env t found
  pub value : IsValue agrees.value

module _ (defs : Defs) (env : Env) where
  -- the term has no other value
  pub whole_term : (t : Plain) (found : Option Value) → Evaluates defs env t found → IsWhole defs env t
  whole_term t found e x mean =
      let values : Val e.agrees.value ≡ Val x = one_value defs e.agrees.means (Val x) mean in
      let same : e.agrees.value ≡ x = cc in
      subst IsValue same e.value

  pub at_once : (t : Plain) (x : Value) → Means defs env t (Val x) → IsValue x → Evaluates defs env t (Some x)
  at_once t x mean value = record { agrees = record { value = x; is = refl; means = mean }; value = value }

  pub after : (t u : Plain) (found : Option Value) (f : Value → Option Value) (e : Evaluates defs env u found) (a : Agrees defs env t (f e.agrees.value)) → IsWhole defs env t → Evaluates defs env t (option_and_then f found)
  after t u found f e a value =
      record {
        agrees = record { value = a.value; is = ap (option_and_then f) e.agrees.is ∙ a.is; means = a.means };
        value = value a.value a.means;
      }

  -- ---- leaves

  pub constant_evaluates : (x : Value) (ty : CType) (t : Plain) (needs more : Needs) → IsConstant ty x → given (constant_of ty x) needs ≡ Ok (t, more) → Evaluates defs env t (Some x)
  constant_evaluates x ty t needs more typed e =
      let p = ok_parts (constant_of ty x) (λ u. Ok (u, needs)) (t, more) e in
      let same : p.0 ≡ t = same_term p.0 t needs more p.2 in
      let r = constant_means defs env ty x p.0 typed p.1 in
      subst (λ u. Evaluates defs env u (Some x)) same (at_once p.0 x r.0 r.1)

  pub temporary_evaluates : (temps : Temps) (locals : List Local) (x : List ℕ) (t : Plain) (needs more : Needs) → LocalsHold defs env temps locals → AllByRecursion (λ (l : Local). IsValue (temps l.name)) locals → given (temporary locals x) needs ≡ Ok (t, more) → Evaluates defs env t (Some (temps x))
  temporary_evaluates temps locals x t needs more hold values e =
      let p = ok_parts (temporary locals x) (λ u. Ok (u, needs)) (t, more) e in
      let same : p.0 ≡ t = same_term p.0 t needs more p.2 in
      subst (λ u. Evaluates defs env u (Some (temps x))) same (at_once p.0 (temps x) (temporary_means defs env temps locals x p.0 hold p.1) (temporary_is_value defs env temps locals x p.0 values p.1))

  pub size_evaluates : (of : CType) (t : Plain) (needs more : Needs) (o : Option ℕ) → size defs.structs of ≡ o → is_some o ≡ true → ((n : ℕ) → o ≡ Some n → n < 2 ^ 64) → given (size_of defs.structs (sized_type of)) needs ≡ Ok (t, more) → Evaluates defs env t (option_map v.Vlong o)
  size_evaluates of t needs more None sized is low e = absurd cc
  size_evaluates of t needs more (Some n) sized is low e =
      let p = ok_parts (size_of defs.structs (sized_type of)) (λ u. Ok (u, needs)) (t, more) e in
      let same : p.0 ≡ t = same_term p.0 t needs more p.2 in
      subst (λ u. Evaluates defs env u (Some (v.Vlong n))) same (at_once p.0 (v.Vlong n) (size_means defs env defs.structs of n p.0 sized (low n refl) p.1) (low n refl))

  null_means : Means defs env null (Val (v.Vlong 0))
  null_means = built_in {env = env} {head = head.Operator Nullval} {kids = Done} {s = ValSort} {ds = []} refl refl none

-- ---- operators

module _ (S : Setting) (env : Env) (look : Look) where
  pub operator_evaluates : (op : UnaryOp) (T : CType) (u t : Plain) (found : Option Value) (needs more : Needs) → Evaluates S.defs env u found → operated_one op T u needs ≡ Ok (t, more) → IsMet S env look more → Evaluates S.defs env t (option_and_then (unary_value look op T) found)
  operator_evaluates op T u t found needs more e f met =
      let p = ok_parts (operand T u) (λ a. unary op a needs) (t, more) f in
      after S.defs env t u found (unary_value look op T) e (unary_agrees S env look op T u t e.agrees.value p.0 needs more e.agrees.means p.1 p.2 met) (whole.of_unary S.defs env op p.0 needs more t p.2)

  pub cast_evaluates : (T to : CType) (u t : Plain) (found : Option Value) (needs more : Needs) → Evaluates S.defs env u found → operated_cast T to u needs ≡ Ok (t, more) → IsMet S env look more → Evaluates S.defs env t (option_and_then (m.cast_value T to) found)
  cast_evaluates T to u t found needs more e f met =
      let p = ok_parts (operand T u) (λ a. cast to a needs) (t, more) f in
      let w = of_operand S.defs env T u p.0 (whole_term S.defs env u found e) p.1 in
      after S.defs env t u found (m.cast_value T to) e (cast_agrees S env look T to u t e.agrees.value p.0 needs more e.agrees.means p.1 p.2 met) (whole.of_cast S.defs env to p.0 needs more t w p.2)

  pub null_or_cast : (b : Bool) (T to : CType) (t : Plain) (found : Option Value) (needs more : Needs) (value : Result (Plain × Needs) No) → ((u : Plain) (middle : Needs) → value ≡ Ok (u, middle) → IsMet S env look middle → Evaluates S.defs env u found) → (if b then Ok (null, needs) else on_ok value (λ x. operated_cast T to x.0 x.1)) ≡ Ok (t, more) → IsMet S env look more → Evaluates S.defs env t (if b then Some (v.Vlong 0) else option_and_then (m.cast_value T to) found)
  null_or_cast true T to t found needs more value inner e met =
      let same : null ≡ t = same_term null t needs more e in
      subst (λ u. Evaluates S.defs env u (Some (v.Vlong 0))) same (at_once S.defs env null (v.Vlong 0) (null_means S.defs env) (omega arith))
  null_or_cast false T to t found needs more value inner e met =
      let p = ok_parts value (λ x. operated_cast T to x.0 x.1) (t, more) e in
      let q = ok_parts (operand T p.0.0) (λ a. cast to a p.0.1) (t, more) p.2 in
      cast_evaluates T to p.0.0 t found p.0.1 more (inner p.0.0 p.0.1 p.1 (met_before S env look p.0.1 more (growth.of_cast to q.0 p.0.1 more t q.2) met)) p.2 met

  module _ (h : Heaplet) (parts : List Sep) (sees : Sees look h) (holds : PartsHold S env parts h) where
    pub operators_evaluate : (op : IntOp) (T U own : CType) (u w t : Plain) (left right : Option Value) (needs more : Needs) → IsBinary S.defs.structs op T U own → Evaluates S.defs env u left → Evaluates S.defs env w right → operated_two S.defs.structs parts op T u U w needs ≡ Ok (t, more) → IsMet S env look more → Evaluates S.defs env t (option_and_then (λ x. option_and_then (binary_value S.defs.structs look op T U x) right) left)
    operators_evaluate op T U own u w t left right needs more typed e f g met =
        let p = ok_parts (operand T u) (λ a. on_ok (operand U w) (λ b. binary S.defs.structs parts op a b needs)) (t, more) g in
        let q = ok_parts (operand U w) (λ b. binary S.defs.structs parts op p.0 b needs) (t, more) p.2 in
        let a = of_operand S.defs env T u p.0 (whole_term S.defs env u left e) p.1 in
        let b = of_operand S.defs env U w q.0 (whole_term S.defs env w right f) q.1 in
        let agrees =
        binary_agrees S env look h parts op T U u w t e.agrees.value f.agrees.value p.0 q.0 needs more sees holds (movable S.defs.structs op T U own typed) e.value f.value e.agrees.means f.agrees.means p.1 q.1 q.2 met in
        let own_whole = whole.of_binary S.defs env S.defs.structs parts op p.0 q.0 needs more t a b q.2 in
        after S.defs env t u left (λ x. option_and_then (binary_value S.defs.structs look op T U x) right) e
        (record { value = agrees.value; is = ap (option_and_then (binary_value S.defs.structs look op T U e.agrees.value)) f.agrees.is ∙ agrees.is; means = agrees.means })
        own_whole
