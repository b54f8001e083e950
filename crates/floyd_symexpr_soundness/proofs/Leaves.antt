-- Constants, temporaries and sizes.
use Rattle.std.proofs.Common.{◌≡◌, ℕ, ◌^◌, ◌<◌, Bool, true, false, ℤ, pos, List, [], ◌∷◌, map, Option, Some, None, Result, Ok, refl, sym, ap, subst, ◌∙◌, if◌then◌else◌, bytes_eq, ltb-true, leb-true, arith}
use Rattle.std.specs.List.{AllByRecursion}
use Rattle.std.specs.Prelude.{◌&&◌, option_map}
use Rattle.std.proofs.lemmas.Slice.Eq.{bytes_eq-Decides}
use Rattle.floyd_text.specs.declared.refusal.No.{No}
use Rattle.floyd_int.specs.declared.kinds.IntKind.{IntKind}
use Rattle.floyd_int.specs.declared.kinds.IntKind.TheVariants.{I8, U8, I16, U16, I32, U32, I64, U64}
use Rattle.floyd_int.specs.declared.kinds.Value.{Value}
use Rattle.floyd_int.specs.declared.kinds.Value.TheVariants as v
use Rattle.floyd_int.specs.Kind.{repr_of, value_of}
use Rattle.floyd_int.proofs.KindLaws.{repr-value}
use Rattle.floyd_int.proofs.Modulo.{modulo-small}
use Rattle.floyd_ctypes.specs.declared.ctype.CType.{CType, Void, Int, Pointer', Array', Struct, Function'}
use Rattle.floyd_ctypes.specs.Has.{has_kind}
use Rattle.floyd_ctypes.specs.declared.layout.Layout.{Layout}
use Rattle.floyd_ctypes.specs.Layout.{arrays_fit, layout, max_object, size, type_fits, within_limit}
use Rattle.floyd_ctypes.specs.Structs.{Structs}
use Rattle.floyd_clight_machine.specs.Integers.{number_of}
use Rattle.floyd_clight_typing.specs.Expressions.{IsConstant, IsPromoted}
use Rattle.floyd_tree_sorts.specs.declared.operators.Operator.TheVariants.{Vlong}
use Rattle.floyd_tree.specs.Plain.{Plain}
use Rattle.floyd_tree_values.specs.BuiltIns.{Env}
use Rattle.floyd_tree_values.specs.Data.{IsValue, Val}
use Rattle.floyd_tree_values.specs.Means.{Defs, Means}
use Rattle.floyd_tree_values.specs.Values.{vint, vlong}
use Rattle.floyd_assert_cells.specs.Types.{shape_of, size_by, sizes_of}
use Rattle.floyd_assert_cells.proofs.ObjectLaws.{layouts_agree}
use Rattle.floyd_assert_trees.specs.declared.assertion.Local.{Local}
use Rattle.floyd_assert_meaning.specs.Assertions.{LocalsHold}
use Rattle.floyd_fieldpath.specs.Addresses.{size_term}
use Rattle.floyd_fieldpath.specs.Nested.{literal, sized_type}
use Rattle.floyd_fieldpath.specs.Projections.{one}
use Rattle.floyd_fieldpath.specs.Written.{written}
use Rattle.floyd_symexpr_laws.proofs.MachineOperations.{value_for}
use Rattle.floyd_symexpr_laws.proofs.TermMeanings.{literal_is, ok_parts, value_is}
use Rattle.floyd_symexpr_pointer_laws.proofs.SizeTerms.{AreNumbers, size_is}
use Rattle.floyd_symexpr.specs.Expressions.{constant_of, number_constant, size_of, temporary}

-- ---- sizes within the limit

low_by : (o : Option Layout) (n : ℕ) → within_limit o ≡ true → option_map (λ (l : Layout). l.size) o ≡ Some n → n < 2 ^ 64
low_by None n h e = absurd cc
low_by (Some l) n h e = let same : l.size ≡ n = cc in omega (arith, same, leb-true l.size max_object h)

second_true : (a b : Bool) → a && b ≡ true → b ≡ true
second_true true b e = e
second_true false b e = absurd cc

pub low_size : (structs : Structs) (of : CType) (n : ℕ) → type_fits structs of ≡ true → size structs of ≡ Some n → n < 2 ^ 64
low_size structs of n fits e = low_by (layout structs of) n (second_true (arrays_fit structs of) (within_limit (layout structs of)) fits) e

-- ---- constants

int_back : (b : ℕ) → b < 2 ^ 32 → vint (value_of I32 b) ≡ v.Vint b
unfolding repr_of
int_back b h = ap v.Vint (repr-value I32 b h)

uint_back : (b : ℕ) → b < 2 ^ 32 → vint (value_of U32 b) ≡ v.Vint b
unfolding repr_of
uint_back b h = ap v.Vint (repr-value U32 b h)

long_back : (b : ℕ) → b < 2 ^ 64 → vlong (value_of I64 b) ≡ v.Vlong b
unfolding repr_of
long_back b h = ap v.Vlong (repr-value I64 b h)

ulong_back : (b : ℕ) → b < 2 ^ 64 → vlong (value_of U64 b) ≡ v.Vlong b
unfolding repr_of
ulong_back b h = ap v.Vlong (repr-value U64 b h)

-- the value of the number that a value stands for is that value, which is one of the machine's
pub record IsBack (k : IntKind) (x : Value) (z : ℤ) : Type 0 where
  pub same : value_for k z ≡ x
  pub whole : IsValue x

pub is_back : (k : IntKind) (x : Value) (z : ℤ) → IsPromoted k → has_kind k x ≡ true → number_of k x ≡ Some z → IsBack k x z
is_back I32 (v.Vint b) z p h e =
    let number : value_of I32 b ≡ z = cc in
    record { same = ap vint (sym number) ∙ int_back b (ltb-true b (2 ^ 32) h); whole = ltb-true b (2 ^ 32) h }
is_back U32 (v.Vint b) z p h e =
    let number : value_of U32 b ≡ z = cc in
    record { same = ap vint (sym number) ∙ uint_back b (ltb-true b (2 ^ 32) h); whole = ltb-true b (2 ^ 32) h }
is_back I64 (v.Vlong b) z p h e =
    let number : value_of I64 b ≡ z = cc in
    record { same = ap vlong (sym number) ∙ long_back b (ltb-true b (2 ^ 64) h); whole = ltb-true b (2 ^ 64) h }
is_back U64 (v.Vlong b) z p h e =
    let number : value_of U64 b ≡ z = cc in
    record { same = ap vlong (sym number) ∙ ulong_back b (ltb-true b (2 ^ 64) h); whole = ltb-true b (2 ^ 64) h }
is_back I8 x z p h e = absurd cc
is_back U8 x z p h e = absurd cc
is_back I16 x z p h e = absurd cc
is_back U16 x z p h e = absurd cc
is_back I32 x z p h e = absurd cc
is_back U32 x z p h e = absurd cc
is_back I64 x z p h e = absurd cc
is_back U64 x z p h e = absurd cc

module _ (defs : Defs) (env : Env) where
  number_means : (k : IntKind) (x : Value) (t : Plain) (o : Option ℤ) → IsPromoted k → has_kind k x ≡ true → number_of k x ≡ o → number_constant k o ≡ Ok t → Means defs env t (Val x) × IsValue x
  number_means k x t None p h e f = absurd cc
  number_means k x t (Some z) p h e f =
      let back = is_back k x z p h e in
      (subst (λ y. Means defs env t (Val y)) back.same (value_is defs env k (literal z) t z f (literal_is defs env z)), back.whole)

  pub constant_means : (ty : CType) (x : Value) (t : Plain) → IsConstant ty x → constant_of ty x ≡ Ok t → Means defs env t (Val x) × IsValue x
  constant_means (Int k) x t typed e = number_means k x t (number_of k x) typed.0 typed.1 refl e
  constant_means Void x t typed e = absurd typed
  constant_means (Pointer' p u) x t typed e = absurd typed
  constant_means (Array' p u n) x t typed e = absurd typed
  constant_means (Struct tag) x t typed e = absurd typed
  constant_means (Function' shape ps p r) x t typed e = absurd typed

  -- ---- temporaries

  temporary_by : (temps : List ℕ → Value) (l : Local) (locals : List Local) (x : List ℕ) (t : Plain) (b : Bool) → bytes_eq x l.name ≡ b → Means defs env l.term (Val (temps l.name)) → (temporary locals x ≡ Ok t → Means defs env t (Val (temps x))) → ◌≡◌ {A = Result Plain No} (if b then Ok l.term else temporary locals x) (Ok t) → Means defs env t (Val (temps x))
  temporary_by temps l locals x t true e here rest f =
      let same : l.term ≡ t = cc in
      subst (λ u. Means defs env u (Val (temps x))) same (subst (λ y. Means defs env l.term (Val (temps y))) (sym ((bytes_eq-Decides x l.name).0 e)) here)
  temporary_by temps l locals x t false e here rest f = rest f

  pub temporary_means : (temps : List ℕ → Value) (locals : List Local) (x : List ℕ) (t : Plain) → LocalsHold defs env temps locals → temporary locals x ≡ Ok t → Means defs env t (Val (temps x))
  temporary_means temps [] x t hold e = absurd cc
  temporary_means temps (l ∷ locals) x t hold e = temporary_by temps l locals x t (bytes_eq x l.name) refl hold.0 (temporary_means temps locals x t hold.1) e

  -- it is one of the machine's, as each is
  pub temporary_is_value : (temps : List ℕ → Value) (locals : List Local) (x : List ℕ) (t : Plain) → AllByRecursion (λ (l : Local). IsValue (temps l.name)) locals → temporary locals x ≡ Ok t → IsValue (temps x)
  temporary_is_value temps [] x t all e = absurd cc
  temporary_is_value temps (l ∷ locals) x t all e = by (bytes_eq x l.name) refl e (temporary_is_value temps locals x t all.1)
    where
      by : (b : Bool) → bytes_eq x l.name ≡ b → ◌≡◌ {A = Result Plain No} (if b then Ok l.term else temporary locals x) (Ok t) → (temporary locals x ≡ Ok t → IsValue (temps x)) → IsValue (temps x)
      by true f g later = subst (λ y. IsValue (temps y)) (sym ((bytes_eq-Decides x l.name).0 f)) all.0
      by false f g later = later g

  -- ---- sizes

  literals_are : (ns : List ℤ) → AreNumbers defs env (map literal ns) ns
  literals_are [] = tt
  literals_are (n ∷ ns) = (literal_is defs env n, literals_are ns)

  pub size_means : (structs : Structs) (of : CType) (n : ℕ) (t : Plain) → size structs of ≡ Some n → n < 2 ^ 64 → size_of structs (sized_type of) ≡ Ok t → Means defs env t (Val (v.Vlong n))
  size_means structs of n t sized low e =
      let p = ok_parts (size_term structs (shape_of of) (map literal (sizes_of of))) (λ m. written (one Vlong m)) t e in
      let s : size_by structs (shape_of of) (sizes_of of) ≡ Some (pos n) = (layouts_agree structs of).0 ∙ ap (option_map pos) sized in
      let bytes = size_is defs env structs (shape_of of) (map literal (sizes_of of)) (sizes_of of) (pos n) p.0 (literals_are (sizes_of of)) s p.1 in
      subst (λ m. Means defs env t (Val (v.Vlong m))) (modulo-small n (2 ^ 64) low) (value_is defs env U64 p.0 t (pos n) p.2 bytes)
