-- Rows on numbers.
use Rattle.std.proofs.Common.{◌≡◌, ℕ, Bool, true, false, not, ℤ, pos, negsuc, ◌+ℤ◌, ◌-ℤ◌, ◌*ℤ◌, List, [], ◌∷◌, ◌++◌, Option, Some, None, Result, Ok, Err, refl, sym, ap, subst, ◌∙◌, ⊎_elim, if◌then◌else◌, arith}
use Rattle.std.specs.Prelude.{◌⊎◌, int_le, int_lt}
use Rattle.std.specs.Int.{from_bool}
use Rattle.std.specs.Ordering.{int_eq}
use Rattle.std.proofs.lemmas.Int.{ints}
use Rattle.floyd_text.specs.declared.refusal.No.{No}
use Rattle.floyd_int.specs.declared.kinds.IntKind.{IntKind}
use Rattle.floyd_int.specs.declared.kinds.IntKind.TheVariants.{I8, U8, I16, U16, I32, U32, I64, U64}
use Rattle.floyd_int.specs.declared.kinds.IntOp.{IntOp}
use Rattle.floyd_int.specs.declared.kinds.IntOp.TheVariants as c
use Rattle.floyd_int.specs.declared.kinds.Value.{Value}
use Rattle.floyd_int.specs.declared.kinds.Value.TheVariants as v
use Rattle.floyd_int.specs.Kind.{width, is_signed, least, InRange, repr_of}
use Rattle.floyd_int.specs.Operation.{is_comparison, operation_of}
use Rattle.floyd_clight.specs.declared.syntax.UnaryOp.{UnaryOp}
use Rattle.floyd_clight.specs.declared.syntax.UnaryOp.TheVariants.{Neg, Complement, Not}
use Rattle.floyd_clight_machine.specs.Integers.{read_as, binary, cast, unary}
use Rattle.floyd_tree_sorts.specs.declared.heads.Head.{Head}
use Rattle.floyd_tree_sorts.specs.declared.heads.Head.TheVariants.{Signed, Unsigned}
use Rattle.floyd_tree_sorts.specs.declared.heads.Head.TheVariants as h
use Rattle.floyd_tree_sorts.specs.declared.heads.Width.TheVariants.{Bits8, Bits16}
use Rattle.floyd_tree_sorts.specs.declared.operators.Operator.{Operator}
use Rattle.floyd_tree_sorts.specs.declared.operators.Operator.TheVariants.{Add, Sub, Mul, Quot, Rem, Band, Bor, Bxor, Bnot, Shl, Shr, Eqz, Ltz, Lez}
use Rattle.floyd_tree.specs.Plain.{Plain}
use Rattle.floyd_tree_values.specs.BuiltIns.{Env}
use Rattle.floyd_tree_values.specs.Data.{Val}
use Rattle.floyd_tree_values.specs.Means.{Defs, Means}
use Rattle.floyd_tree_values.specs.Numbers.{quot, rem, band, bor, bxor, bnot, shl, shr, one_if, signed, unsigned}
use Rattle.floyd_tree_values.specs.Values.{vint}
use Rattle.floyd_truth.specs.Truth.{AllTrue}
use Rattle.floyd_fieldpath.specs.Nested.{literal}
use Rattle.floyd_fieldpath.specs.Sums.{literal_in, literal_or, of_both, plus, small, two}
use Rattle.floyd_folding.specs.Folding.{folded, folded_one, number_of_one, number_of_two, of_literals}
use Rattle.floyd_arith.proofs.Values.{Is}
use Rattle.floyd_symexpr_rows.specs.declared.needs.Needs.{Needs}
use Rattle.floyd_symexpr_rows.specs.declared.needs.Number as n
use Rattle.floyd_symexpr_rows.specs.Formulas.{different, either}
use Rattle.floyd_symexpr_rows.specs.Rows.{amount_fits, arithmetic, bitwise, compared, comparison, complement, division, is_long, is_zero, narrow, negation, no_overflow, not_number, number, number_cast, range, ranges, row, shift, shifted, value_of_kind, wide}
use Rattle.floyd_symexpr_rows.specs.Rows as rows
use Rattle.floyd_symexpr_pointers.specs.Operators.{on_number, on_numbers, on_one_kind, same_kind}
use Rattle.floyd_symexpr_laws.specs.Laws.{Agrees}
use Rattle.floyd_symexpr_laws.proofs.BitOperations.{and_is, or_is, xor_is}
use Rattle.floyd_symexpr_laws.proofs.MachineOperations.{Unshifted, gives_complement, gives_i16, gives_i32, gives_i64, gives_i8, gives_left, gives_negation, gives_number, gives_right, gives_truth, gives_u16, gives_u32, gives_u64, gives_u8, gives_zero_test, value_for}
use Rattle.floyd_symexpr_laws.proofs.Operations.{Divides, NoOverflow, Shifts, add_is, div_is, eq_is, ge_is, gt_is, le_is, lt_is, mod_is, mul_is, ne_is, sub_is}
use Rattle.floyd_symexpr_laws.proofs.Ranges.{least_read, range_read, sign_read, width_read}
use Rattle.floyd_symexpr_laws.proofs.SideTruths.{all_true_first, all_true_second, at_most_is, differ, is_row, own_sides, range_is, range_means}
use Rattle.floyd_symexpr_laws.proofs.TermMeanings.{IsOperand, folded_is, folded_one_is, literal_is, literal_means, ok_parts, operand_is, value_is, vint_is}

-- ---- kinds

same_kind_is : (j k : IntKind) → same_kind j k ≡ true → k ≡ j
same_kind_is I8 I8 e = refl
same_kind_is U8 U8 e = refl
same_kind_is I16 I16 e = refl
same_kind_is U16 U16 e = refl
same_kind_is I32 I32 e = refl
same_kind_is U32 U32 e = refl
same_kind_is I64 I64 e = refl
same_kind_is U64 U64 e = refl
same_kind_is j k e = absurd cc

pub where_same : {A : Type 0} (t : Bool) (d : Result A No) (x : A) → (if t then d else Err not_number) ≡ Ok x → (t ≡ true) × (d ≡ Ok x)
where_same true d x e = (refl, e)
where_same false d x e = absurd cc

-- ---- sums of literals

sum_of_both : (o p : Option ℤ) → of_both (λ x y. x +ℤ y) o p ≡ of_literals (number_of_two Add) o p
sum_of_both (Some x) (Some y) = refl
sum_of_both (Some x) None = refl
sum_of_both None (Some y) = refl
sum_of_both None None = refl

pub plus_folds : (a b : Plain) → plus a b ≡ folded Add a b
plus_folds a b = ap (λ o. literal_or (small o) (two Add a b)) (sum_of_both (literal_in a) (literal_in b))

-- ---- truth values

pub truth_value : (t : Bool) → vint (one_if t) ≡ v.Vint (from_bool t)
truth_value true = refl
truth_value false = refl

negated : (t : Bool) → pos 1 -ℤ one_if t ≡ one_if (not t)
negated true = refl
negated false = refl

module _ (defs : Defs) (specs : List ℕ → Value → Bool) (env : Env) where
  -- what a number of a row has for a value, at a kind that is its own
  at_kind : (op : IntOp) (r : Plain) (j k l : IntKind) (x y : ℤ) → l ≡ k → Agrees defs env r (binary op j k (value_for j x) (value_for k y)) → Agrees defs env r (binary op j l (value_for j x) (value_for l y))
  at_kind op r j k l x y e h = subst (λ m. Agrees defs env r (binary op j m (value_for j x) (value_for m y))) (sym e) h

  module _ (a b : n.Number) (x y : ℤ) (i : Is defs env a.term x) (j : Is defs env b.term y) where
    both_ranges : AllTrue defs specs env (ranges a b) → InRange a.kind x × InRange b.kind y
    both_ranges all = (
      range_is defs specs env a.kind a.term x (all_true_first defs specs env (range a.kind a.term) (range b.kind b.term) all) i,
      range_is defs specs env b.kind b.term y (all_true_second defs specs env (range a.kind a.term) (range b.kind b.term) all) j,
    )

    read_ranges : b.kind ≡ a.kind → AllTrue defs specs env (ranges a b) → InRange (read_as a.kind) x × InRange (read_as a.kind) y
    read_ranges same all =
        let p = both_ranges all in
        (range_read a.kind x p.0, range_read a.kind y (subst (λ k. InRange k y) same p.1))

    no_overflow_in : (m : Plain) (z : ℤ) → b.kind ≡ a.kind → Is defs env m z → AllTrue defs specs env (if is_signed a.kind then ranges a b ++ range a.kind m else []) → NoOverflow (read_as a.kind) x y z
    no_overflow_in m z same k all e =
        let signs : is_signed a.kind ≡ true = sym (sign_read a.kind) ∙ e in
        let full : AllTrue defs specs env (ranges a b ++ range a.kind m) = subst (λ (t : Bool). AllTrue defs specs env (if t then ranges a b ++ range a.kind m else [])) signs all in
        let p = read_ranges same (all_true_first defs specs env (ranges a b) (range a.kind m) full) in
        (p.0, p.1, range_read a.kind z (range_is defs specs env a.kind m z (all_true_second defs specs env (ranges a b) (range a.kind m) full) k))

    arithmetic_row : (operator : Operator) (op : IntOp) (z : ℤ) (needs more : Needs) (r : Plain) → number_of_two operator x y ≡ Some z → Unshifted op (read_as a.kind) → is_comparison op ≡ false → (NoOverflow (read_as a.kind) x y z → operation_of op (read_as a.kind) (repr_of (read_as a.kind) x) (repr_of (read_as a.kind) y) ≡ Some (repr_of (read_as a.kind) z)) → b.kind ≡ a.kind → arithmetic operator a b needs ≡ Ok (r, more) → AllTrue defs specs env more.sides → Agrees defs env r (binary op a.kind b.kind (value_for a.kind x) (value_for b.kind y))
    arithmetic_row operator op z needs more r f plain counts law same e all =
        let p = ok_parts (folded operator a.term b.term) (λ m. row (value_of_kind a.kind m) (if is_signed a.kind then ranges a b ++ range a.kind m else []) needs) (r, more) e in
        let k = folded_is defs env operator a.term b.term p.0 x y z p.1 i j f in
        let sides = if is_signed a.kind then ranges a b ++ range a.kind p.0 else [] in
        let w = is_row (value_of_kind a.kind p.0) sides needs r more p.2 in
        let own = own_sides defs specs env (value_of_kind a.kind p.0) sides needs r more w all in
        at_kind op r a.kind a.kind b.kind x y same (record {
          value = value_for a.kind z;
          is = gives_number op a.kind x y z plain counts (law (no_overflow_in p.0 z same k own));
          means = value_is defs env a.kind p.0 r z w.made k;
        })

    divides_in : b.kind ≡ a.kind → AllTrue defs specs env (ranges a b ++ different b.term (literal (pos 0)) ∷ no_overflow a b) → Divides (read_as a.kind) x y
    divides_in same all =
        let r = all_true_first defs specs env (ranges a b) (different b.term (literal (pos 0)) ∷ no_overflow a b) all in
        let d = all_true_second defs specs env (ranges a b) (different b.term (literal (pos 0)) ∷ no_overflow a b) all in
        let ra = all_true_first defs specs env (range a.kind a.term) (range b.kind b.term) r in
        let rb = all_true_second defs specs env (range a.kind a.term) (range b.kind b.term) r in
        let p = read_ranges same r in
        let ma = range_means defs specs env a.kind a.term x ra i in
        let mb = range_means defs specs env b.kind b.term y rb j in
        let some : ¬ (y ≡ pos 0) = differ defs specs env b.term (literal (pos 0)) y (pos 0) d.0 mb (literal_means defs env (pos 0)) in
        let least_kept : is_signed (read_as a.kind) ≡ true → x ≡ least (read_as a.kind) → y ≡ negsuc 0 → ⊥ = λ s e f.
        let signs : is_signed a.kind ≡ true = sym (sign_read a.kind) ∙ s in
        let one_of : AllTrue defs specs env (either (different a.term (literal (least a.kind))) (different b.term (literal (negsuc 0))) ∷ []) =
        subst (λ (t : Bool). AllTrue defs specs env (if t then either (different a.term (literal (least a.kind))) (different b.term (literal (negsuc 0))) ∷ [] else [])) signs d.1 in
        ⊎_elim
        (λ k. differ defs specs env a.term (literal (least a.kind)) x (least a.kind) k ma (literal_means defs env (least a.kind)) (least_read a.kind x signs (both_ranges r).0 e))
        (λ k. differ defs specs env b.term (literal (negsuc 0)) y (negsuc 0) k mb (literal_means defs env (negsuc 0)) f)
        one_of.0 in
        record { left = p.0; right = p.1; some = some; fits = λ bad. ⊎_elim some (λ q. least_kept q.0 q.1 q.2) bad }

    division_row : (operator : Operator) (op : IntOp) (z : ℤ) (needs more : Needs) (r : Plain) → number_of_two operator x y ≡ Some z → Unshifted op (read_as a.kind) → is_comparison op ≡ false → (Divides (read_as a.kind) x y → operation_of op (read_as a.kind) (repr_of (read_as a.kind) x) (repr_of (read_as a.kind) y) ≡ Some (repr_of (read_as a.kind) z)) → b.kind ≡ a.kind → division operator a b needs ≡ Ok (r, more) → AllTrue defs specs env more.sides → Agrees defs env r (binary op a.kind b.kind (value_for a.kind x) (value_for b.kind y))
    division_row operator op z needs more r f plain counts law same e all =
        let sides = ranges a b ++ different b.term (literal (pos 0)) ∷ no_overflow a b in
        let p = ok_parts (folded operator a.term b.term) (λ m. row (value_of_kind a.kind m) sides needs) (r, more) e in
        let k = folded_is defs env operator a.term b.term p.0 x y z p.1 i j f in
        let w = is_row (value_of_kind a.kind p.0) sides needs r more p.2 in
        let own = own_sides defs specs env (value_of_kind a.kind p.0) sides needs r more w all in
        at_kind op r a.kind a.kind b.kind x y same (record {
          value = value_for a.kind z;
          is = gives_number op a.kind x y z plain counts (law (divides_in same own));
          means = value_is defs env a.kind p.0 r z w.made k;
        })

    bitwise_row : (operator : Operator) (op : IntOp) (z : ℤ) (needs more : Needs) (r : Plain) → number_of_two operator x y ≡ Some z → Unshifted op (read_as a.kind) → is_comparison op ≡ false → operation_of op (read_as a.kind) (repr_of (read_as a.kind) x) (repr_of (read_as a.kind) y) ≡ Some (repr_of (read_as a.kind) z) → b.kind ≡ a.kind → bitwise operator a b needs ≡ Ok (r, more) → Agrees defs env r (binary op a.kind b.kind (value_for a.kind x) (value_for b.kind y))
    bitwise_row operator op z needs more r f plain counts law same e =
        let p = ok_parts (folded operator a.term b.term) (λ m. row (value_of_kind a.kind m) (ranges a b) needs) (r, more) e in
        let k = folded_is defs env operator a.term b.term p.0 x y z p.1 i j f in
        let w = is_row (value_of_kind a.kind p.0) (ranges a b) needs r more p.2 in
        at_kind op r a.kind a.kind b.kind x y same (record {
          value = value_for a.kind z;
          is = gives_number op a.kind x y z plain counts law;
          means = value_is defs env a.kind p.0 r z w.made k;
        })

    shifts_in : (m : Plain) → Is defs env m (y +ℤ pos 1) → AllTrue defs specs env (ranges a b ++ amount_fits a b m) → Shifts (read_as a.kind) (read_as b.kind) x y
    shifts_in m k all =
        let p = both_ranges (all_true_first defs specs env (ranges a b) (amount_fits a b m) all) in
        let q = all_true_second defs specs env (ranges a b) (amount_fits a b m) all in
        let low : int_le (pos 0) y ≡ true = at_most_is defs specs env (literal (pos 0)) b.term (pos 0) y q.0 (literal_is defs env (pos 0)) j in
        let high : int_le (y +ℤ pos 1) (pos (width a.kind)) ≡ true = at_most_is defs specs env m (literal (pos (width a.kind))) (y +ℤ pos 1) (pos (width a.kind)) q.1.0 k (literal_is defs env (pos (width a.kind))) in
        record {
          left = range_read a.kind x p.0;
          right = range_read b.kind y p.1;
          some = omega (arith, ints, low);
          fits = omega (arith, ints, high, width_read a.kind);
        }

    shift_row : (operator : Operator) (op : IntOp) (z : ℤ) (needs more : Needs) (r : Plain) → number_of_two operator x y ≡ Some z → (Shifts (read_as a.kind) (read_as b.kind) x y → binary op a.kind b.kind (value_for a.kind x) (value_for b.kind y) ≡ Some (value_for a.kind z)) → shift operator a b needs ≡ Ok (r, more) → AllTrue defs specs env more.sides → Agrees defs env r (binary op a.kind b.kind (value_for a.kind x) (value_for b.kind y))
    shift_row operator op z needs more r f law e all =
        let p = ok_parts (folded operator a.term b.term) (λ m. shifted a b m needs) (r, more) e in
        let k = folded_is defs env operator a.term b.term p.0 x y z p.1 i j f in
        let q = ok_parts (plus b.term (literal (pos 1))) (λ m. row (value_of_kind a.kind p.0) (ranges a b ++ amount_fits a b m) needs) (r, more) p.2 in
        let one_more = folded_is defs env Add b.term (literal (pos 1)) q.0 y (pos 1) (y +ℤ pos 1) (sym (plus_folds b.term (literal (pos 1))) ∙ q.1) j (literal_is defs env (pos 1)) refl in
        let sides = ranges a b ++ amount_fits a b q.0 in
        let w = is_row (value_of_kind a.kind p.0) sides needs r more q.2 in
        let own = own_sides defs specs env (value_of_kind a.kind p.0) sides needs r more w all in
        record {
          value = value_for a.kind z;
          is = law (shifts_in q.0 one_more own);
          means = value_is defs env a.kind p.0 r z w.made k;
        }

    equal_is : (m : Plain) → folded Eqz a.term b.term ≡ Ok m → Is defs env m (one_if (int_eq x y))
    equal_is m e = folded_is defs env Eqz a.term b.term m x y (one_if (int_eq x y)) e i j refl

    unequal_is : (m : Plain) → compared c.Ne a.term b.term ≡ Ok m → Is defs env m (one_if (not (int_eq x y)))
    unequal_is m e =
        let p = ok_parts (folded Eqz a.term b.term) (λ o. folded Sub (literal (pos 1)) o) m e in
        folded_is defs env Sub (literal (pos 1)) p.0 m (pos 1) (one_if (int_eq x y)) (one_if (not (int_eq x y))) p.2 (literal_is defs env (pos 1)) (equal_is p.0 p.1) (ap Some (negated (int_eq x y)))

    -- what a comparison's row says, and its value
    record IsCompared (r : Plain) (t : Bool) : Type 0 where
      left : InRange a.kind x
      right : InRange b.kind y
      means : Means defs env r (Val (v.Vint (from_bool t)))

    comparison_parts : (op : IntOp) (t : Bool) (needs more : Needs) (r : Plain) → ((m : Plain) → compared op a.term b.term ≡ Ok m → Is defs env m (one_if t)) → comparison op a b needs ≡ Ok (r, more) → AllTrue defs specs env more.sides → IsCompared r t
    comparison_parts op t needs more r term e all =
        let p = ok_parts (compared op a.term b.term) (λ m. row (rows.vint m) (ranges a b) needs) (r, more) e in
        let w = is_row (rows.vint p.0) (ranges a b) needs r more p.2 in
        let q = both_ranges (own_sides defs specs env (rows.vint p.0) (ranges a b) needs r more w all) in
        record {
          left = q.0;
          right = q.1;
          means = subst (λ u. Means defs env r (Val u)) (truth_value t) (vint_is defs env p.0 r (one_if t) w.made (term p.0 p.1));
        }

    comparison_row : (op : IntOp) (t : Bool) (needs more : Needs) (r : Plain) → ((m : Plain) → compared op a.term b.term ≡ Ok m → Is defs env m (one_if t)) → Unshifted op (read_as a.kind) → is_comparison op ≡ true → (InRange (read_as a.kind) x → InRange (read_as a.kind) y → operation_of op (read_as a.kind) (repr_of (read_as a.kind) x) (repr_of (read_as a.kind) y) ≡ Some (from_bool t)) → b.kind ≡ a.kind → comparison op a b needs ≡ Ok (r, more) → AllTrue defs specs env more.sides → Agrees defs env r (binary op a.kind b.kind (value_for a.kind x) (value_for b.kind y))
    comparison_row op t needs more r term plain compares law same e all =
        let q = comparison_parts op t needs more r term e all in
        at_kind op r a.kind a.kind b.kind x y same (record {
          value = v.Vint (from_bool t);
          is = gives_truth op a.kind x y t plain compares (law (range_read a.kind x q.left) (range_read a.kind y (subst (λ k. InRange k y) same q.right)));
          means = q.means;
        })

    one_kind_row : (op : IntOp) (needs more : Needs) (r : Plain) → b.kind ≡ a.kind → Unshifted op (read_as a.kind) → on_one_kind op a b needs ≡ Ok (r, more) → AllTrue defs specs env more.sides → Agrees defs env r (binary op a.kind b.kind (value_for a.kind x) (value_for b.kind y))
    one_kind_row c.Add needs more r s p e k = arithmetic_row Add c.Add (x +ℤ y) needs more r refl p refl (add_is (read_as a.kind) x y) s e k
    one_kind_row c.Sub needs more r s p e k = arithmetic_row Sub c.Sub (x -ℤ y) needs more r refl p refl (sub_is (read_as a.kind) x y) s e k
    one_kind_row c.Mul needs more r s p e k = arithmetic_row Mul c.Mul (x *ℤ y) needs more r refl p refl (mul_is (read_as a.kind) x y) s e k
    one_kind_row c.Div needs more r s p e k = division_row Quot c.Div (quot x y) needs more r refl p refl (div_is (read_as a.kind) x y) s e k
    one_kind_row c.Rem needs more r s p e k = division_row Rem c.Rem (rem x y) needs more r refl p refl (mod_is (read_as a.kind) x y) s e k
    one_kind_row c.And needs more r s p e k = bitwise_row Band c.And (band x y) needs more r refl p refl (and_is (read_as a.kind) x y) s e
    one_kind_row c.Or needs more r s p e k = bitwise_row Bor c.Or (bor x y) needs more r refl p refl (or_is (read_as a.kind) x y) s e
    one_kind_row c.Xor needs more r s p e k = bitwise_row Bxor c.Xor (bxor x y) needs more r refl p refl (xor_is (read_as a.kind) x y) s e
    one_kind_row c.Shl needs more r s p e k = absurd cc
    one_kind_row c.Shr needs more r s p e k = absurd cc
    one_kind_row c.Eq needs more r s p e k = comparison_row c.Eq (int_eq x y) needs more r equal_is p refl (eq_is (read_as a.kind) x y) s e k
    one_kind_row c.Ne needs more r s p e k = comparison_row c.Ne (not (int_eq x y)) needs more r unequal_is p refl (ne_is (read_as a.kind) x y) s e k
    one_kind_row c.Lt needs more r s p e k =
        comparison_row c.Lt (int_lt x y) needs more r (λ m f. folded_is defs env Ltz a.term b.term m x y (one_if (int_lt x y)) f i j refl) p refl (lt_is (read_as a.kind) x y) s e k
    one_kind_row c.Le needs more r s p e k =
        comparison_row c.Le (int_le x y) needs more r (λ m f. folded_is defs env Lez a.term b.term m x y (one_if (int_le x y)) f i j refl) p refl (le_is (read_as a.kind) x y) s e k
    one_kind_row c.Gt needs more r s p e k =
        comparison_row c.Gt (int_lt y x) needs more r (λ m f. folded_is defs env Ltz b.term a.term m y x (one_if (int_lt y x)) f j i refl) p refl (gt_is (read_as a.kind) x y) s e k
    one_kind_row c.Ge needs more r s p e k =
        comparison_row c.Ge (int_le y x) needs more r (λ m f. folded_is defs env Lez b.term a.term m y x (one_if (int_le y x)) f j i refl) p refl (ge_is (read_as a.kind) x y) s e k

    same_row : (op : IntOp) (needs more : Needs) (r : Plain) → Unshifted op (read_as a.kind) → (if same_kind a.kind b.kind then on_one_kind op a b needs else Err not_number) ≡ Ok (r, more) → AllTrue defs specs env more.sides → Agrees defs env r (binary op a.kind b.kind (value_for a.kind x) (value_for b.kind y))
    same_row op needs more r p e k =
        let q = where_same (same_kind a.kind b.kind) (on_one_kind op a b needs) (r, more) e in
        one_kind_row op needs more r (same_kind_is a.kind b.kind q.0) p q.1 k

    numbers_row : (op : IntOp) (needs more : Needs) (r : Plain) → on_numbers op a b needs ≡ Ok (r, more) → AllTrue defs specs env more.sides → Agrees defs env r (binary op a.kind b.kind (value_for a.kind x) (value_for b.kind y))
    numbers_row c.Shl needs more r e k = shift_row Shl c.Shl (shl x y) needs more r refl (gives_left a.kind b.kind x y) e k
    numbers_row c.Shr needs more r e k = shift_row Shr c.Shr (shr x y) needs more r refl (gives_right a.kind b.kind x y) e k
    numbers_row c.Add needs more r e k = same_row c.Add needs more r (λ m o. refl) e k
    numbers_row c.Sub needs more r e k = same_row c.Sub needs more r (λ m o. refl) e k
    numbers_row c.Mul needs more r e k = same_row c.Mul needs more r (λ m o. refl) e k
    numbers_row c.Div needs more r e k = same_row c.Div needs more r (λ m o. refl) e k
    numbers_row c.Rem needs more r e k = same_row c.Rem needs more r (λ m o. refl) e k
    numbers_row c.And needs more r e k = same_row c.And needs more r (λ m o. refl) e k
    numbers_row c.Or needs more r e k = same_row c.Or needs more r (λ m o. refl) e k
    numbers_row c.Xor needs more r e k = same_row c.Xor needs more r (λ m o. refl) e k
    numbers_row c.Eq needs more r e k = same_row c.Eq needs more r (λ m o. refl) e k
    numbers_row c.Ne needs more r e k = same_row c.Ne needs more r (λ m o. refl) e k
    numbers_row c.Lt needs more r e k = same_row c.Lt needs more r (λ m o. refl) e k
    numbers_row c.Le needs more r e k = same_row c.Le needs more r (λ m o. refl) e k
    numbers_row c.Gt needs more r e k = same_row c.Gt needs more r (λ m o. refl) e k
    numbers_row c.Ge needs more r e k = same_row c.Ge needs more r (λ m o. refl) e k

  pub two_numbers : (op : IntOp) (j k : IntKind) (t u r : Plain) (v w : Value) (a b : n.Number) (needs more : Needs) → Means defs env t (Val v) → Means defs env u (Val w) → number j t ≡ Ok a → number k u ≡ Ok b → on_numbers op a b needs ≡ Ok (r, more) → AllTrue defs specs env more.sides → Agrees defs env r (binary op j k v w)
  two_numbers op j k t u r v w a b needs more m l f g e all =
      let p = operand_is defs env j t v a f m in
      let q = operand_is defs env k u w b g l in
      placed a b p q (numbers_row a b p.number q.number p.is q.is op needs more r e all)
    where
      placed : (a b : n.Number) (p : IsOperand defs env j v a) (q : IsOperand defs env k w b) → Agrees defs env r (binary op a.kind b.kind (value_for a.kind p.number) (value_for b.kind q.number)) → Agrees defs env r (binary op j k v w)
      placed a b p q h =
          let here : Agrees defs env r (binary op j k (value_for j p.number) (value_for k q.number)) =
          subst (λ i. Agrees defs env r (binary op i k (value_for i p.number) (value_for k q.number))) p.kind
          (subst (λ i. Agrees defs env r (binary op a.kind i (value_for a.kind p.number) (value_for i q.number))) q.kind h) in
          subst (λ o. Agrees defs env r (binary op j k o w)) (sym p.value)
          (subst (λ o. Agrees defs env r (binary op j k (value_for j p.number) o)) (sym q.value) here)

  module _ (a : n.Number) (x : ℤ) (i : Is defs env a.term x) where
    negation_row : (needs more : Needs) (r : Plain) → negation a needs ≡ Ok (r, more) → AllTrue defs specs env more.sides → Agrees defs env r (unary Neg a.kind (value_for a.kind x))
    negation_row needs more r e all =
        let p = ok_parts (folded Sub (literal (pos 0)) a.term) (λ m. row (value_of_kind a.kind m) (if is_signed a.kind then range a.kind a.term ++ range a.kind m else []) needs) (r, more) e in
        let k = folded_is defs env Sub (literal (pos 0)) a.term p.0 (pos 0) x (pos 0 -ℤ x) p.1 (literal_is defs env (pos 0)) i refl in
        let sides = if is_signed a.kind then range a.kind a.term ++ range a.kind p.0 else [] in
        let w = is_row (value_of_kind a.kind p.0) sides needs r more p.2 in
        let own = own_sides defs specs env (value_of_kind a.kind p.0) sides needs r more w all in
        record {
          value = value_for a.kind (pos 0 -ℤ x);
          is = gives_negation a.kind x (fits p.0 k own);
          means = value_is defs env a.kind p.0 r (pos 0 -ℤ x) w.made k;
        }
      where
        fits : (m : Plain) → Is defs env m (pos 0 -ℤ x) → AllTrue defs specs env (if is_signed a.kind then range a.kind a.term ++ range a.kind m else []) → is_signed (read_as a.kind) ≡ true → InRange (read_as a.kind) x × InRange (read_as a.kind) (pos 0 -ℤ x)
        fits m k all s =
            let signs : is_signed a.kind ≡ true = sym (sign_read a.kind) ∙ s in
            let full : AllTrue defs specs env (range a.kind a.term ++ range a.kind m) = subst (λ (t : Bool). AllTrue defs specs env (if t then range a.kind a.term ++ range a.kind m else [])) signs all in (
              range_read a.kind x (range_is defs specs env a.kind a.term x (all_true_first defs specs env (range a.kind a.term) (range a.kind m) full) i),
              range_read a.kind (pos 0 -ℤ x) (range_is defs specs env a.kind m (pos 0 -ℤ x) (all_true_second defs specs env (range a.kind a.term) (range a.kind m) full) k),
            )

    complement_row : (needs more : Needs) (r : Plain) → complement a needs ≡ Ok (r, more) → Agrees defs env r (unary Complement a.kind (value_for a.kind x))
    complement_row needs more r e =
        let p = ok_parts (folded_one (h.Operator Bnot) a.term) (λ m. row (value_of_kind a.kind m) (range a.kind a.term) needs) (r, more) e in
        let k = folded_one_is defs env (h.Operator Bnot) a.term p.0 x (bnot x) p.1 i refl in
        let w = is_row (value_of_kind a.kind p.0) (range a.kind a.term) needs r more p.2 in
        record {
          value = value_for a.kind (bnot x);
          is = gives_complement a.kind x;
          means = value_is defs env a.kind p.0 r (bnot x) w.made k;
        }

    zero_row : (needs more : Needs) (r : Plain) → is_zero a needs ≡ Ok (r, more) → AllTrue defs specs env more.sides → Agrees defs env r (unary Not a.kind (value_for a.kind x))
    zero_row needs more r e all =
        let zero : n.Number = record { kind = a.kind; term = literal (pos 0) } in
        let q = comparison_parts a zero x (pos 0) i (literal_is defs env (pos 0)) c.Eq (int_eq x (pos 0)) needs more r (equal_is a zero x (pos 0) i (literal_is defs env (pos 0))) e all in
        record {
          value = v.Vint (from_bool (int_eq x (pos 0)));
          is = gives_zero_test a.kind x q.left q.right;
          means = q.means;
        }

    number_row : (op : UnaryOp) (needs more : Needs) (r : Plain) → on_number op a needs ≡ Ok (r, more) → AllTrue defs specs env more.sides → Agrees defs env r (unary op a.kind (value_for a.kind x))
    number_row Neg needs more r e all = negation_row needs more r e all
    number_row Complement needs more r e all = complement_row needs more r e
    number_row Not needs more r e all = zero_row needs more r e all

    -- ---- casts

    narrow_row : (head : Head) (z : ℤ) (found : Option Value) (needs more : Needs) (r : Plain) → number_of_one head x ≡ Some z → found ≡ Some (vint z) → narrow head a needs ≡ Ok (r, more) → Agrees defs env r found
    narrow_row head z found needs more r f g e =
        let p = ok_parts (folded_one head a.term) (λ m. row (rows.vint m) [] needs) (r, more) e in
        let k = folded_one_is defs env head a.term p.0 x z p.1 i f in
        let w = is_row (rows.vint p.0) [] needs r more p.2 in
        record { value = vint z; is = g; means = vint_is defs env p.0 r z w.made k }

    same_row_of : (k : IntKind) (found : Option Value) (needs more : Needs) (r : Plain) → found ≡ Some (value_for k x) → row (value_of_kind k a.term) [] needs ≡ Ok (r, more) → Agrees defs env r found
    same_row_of k found needs more r g e =
        let w = is_row (value_of_kind k a.term) [] needs r more e in
        record { value = value_for k x; is = g; means = value_is defs env k a.term r x w.made i }

    wide_row : (k : IntKind) (needs more : Needs) (r : Plain) → ((is_long a.kind ≡ false → InRange a.kind x) → cast a.kind k (value_for a.kind x) ≡ Some (value_for k x)) → wide k a needs ≡ Ok (r, more) → AllTrue defs specs env more.sides → Agrees defs env r (cast a.kind k (value_for a.kind x))
    wide_row k needs more r law e all =
        let sides = if is_long a.kind then [] else range a.kind a.term in
        let w = is_row (value_of_kind k a.term) sides needs r more e in
        let own = own_sides defs specs env (value_of_kind k a.term) sides needs r more w all in
        record {
          value = value_for k x;
          is = law (λ s. range_is defs specs env a.kind a.term x (subst (λ (t : Bool). AllTrue defs specs env (if t then [] else range a.kind a.term)) s own) i);
          means = value_is defs env k a.term r x w.made i;
        }

    cast_row : (to : IntKind) (needs more : Needs) (r : Plain) → number_cast to a needs ≡ Ok (r, more) → AllTrue defs specs env more.sides → Agrees defs env r (cast a.kind to (value_for a.kind x))
    cast_row I8 needs more r e all = narrow_row (Signed Bits8) (signed Bits8 x) (cast a.kind I8 (value_for a.kind x)) needs more r refl (gives_i8 a.kind x) e
    cast_row U8 needs more r e all = narrow_row (Unsigned Bits8) (unsigned Bits8 x) (cast a.kind U8 (value_for a.kind x)) needs more r refl (gives_u8 a.kind x) e
    cast_row I16 needs more r e all = narrow_row (Signed Bits16) (signed Bits16 x) (cast a.kind I16 (value_for a.kind x)) needs more r refl (gives_i16 a.kind x) e
    cast_row U16 needs more r e all = narrow_row (Unsigned Bits16) (unsigned Bits16 x) (cast a.kind U16 (value_for a.kind x)) needs more r refl (gives_u16 a.kind x) e
    cast_row I32 needs more r e all = same_row_of I32 (cast a.kind I32 (value_for a.kind x)) needs more r (gives_i32 a.kind x) e
    cast_row U32 needs more r e all = same_row_of U32 (cast a.kind U32 (value_for a.kind x)) needs more r (gives_u32 a.kind x) e
    cast_row I64 needs more r e all = wide_row I64 needs more r (gives_i64 a.kind x) e all
    cast_row U64 needs more r e all = wide_row U64 needs more r (gives_u64 a.kind x) e all

  pub one_number : (op : UnaryOp) (k : IntKind) (t r : Plain) (v : Value) (a : n.Number) (needs more : Needs) → Means defs env t (Val v) → number k t ≡ Ok a → on_number op a needs ≡ Ok (r, more) → AllTrue defs specs env more.sides → Agrees defs env r (unary op k v)
  one_number op k t r v a needs more m f e all =
      let p = operand_is defs env k t v a f m in
      let h = number_row a p.number p.is op needs more r e all in
      subst (λ o. Agrees defs env r (unary op k o)) (sym p.value) (subst (λ j. Agrees defs env r (unary op j (value_for j p.number))) p.kind h)

  pub cast_number : (from to : IntKind) (t r : Plain) (v : Value) (a : n.Number) (needs more : Needs) → Means defs env t (Val v) → number from t ≡ Ok a → number_cast to a needs ≡ Ok (r, more) → AllTrue defs specs env more.sides → Agrees defs env r (cast from to v)
  cast_number from to t r v a needs more m f e all =
      let p = operand_is defs env from t v a f m in
      let h = cast_row a p.number p.is to needs more r e all in
      subst (λ o. Agrees defs env r (cast from to o)) (sym p.value) (subst (λ j. Agrees defs env r (cast j to (value_for j p.number))) p.kind h)
