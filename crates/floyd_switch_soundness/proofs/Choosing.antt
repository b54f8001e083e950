-- The bits of a switch's expression, and the formulas of the labels.
use Rattle.std.proofs.Common.{◌≡◌, ℕ, ◌<◌, ◌^◌, ℤ, true, false, List, [], ◌∷◌, ◌++◌, Option, Some, None, Ok, refl, sym, ap, subst, ◌∙◌, nat_eq, eqb-true, eq-eqb, true≢false}
use Rattle.std.specs.List.{AllByRecursion}
use Rattle.floyd_int.specs.declared.kinds.IntKind.{IntKind}
use Rattle.floyd_int.specs.declared.kinds.IntKind.TheVariants.{I8, U8, I16, U16, I32, U32, I64, U64}
use Rattle.floyd_int.specs.declared.kinds.Value.{Value}
use Rattle.floyd_int.specs.Kind.{InRange, repr_of, value_of, width}
use Rattle.floyd_int.proofs.KindLaws.{repr-below, repr-value, value-repr}
use Rattle.floyd_ctypes.specs.declared.ctype.CType.{CType, Int}
use Rattle.floyd_ctypes.specs.Structs.{Structs}
use Rattle.floyd_clight.specs.declared.syntax.Expr.{Expr}
use Rattle.floyd_clight.specs.Types.{type_of}
use Rattle.floyd_clight_machine.specs.Integers.{bits_of}
use Rattle.floyd_clight_machine.specs.Machine.{switch_bits}
use Rattle.floyd_clight_machine.specs.Switching.{has_label}
use Rattle.floyd_clight_typing.specs.Expressions.{IsPromoted}
use Rattle.floyd_clight_typing.specs.Statements.{IsChoice, LabelsFit}
use Rattle.floyd_tree.specs.Formulas.{PlainFormula}
use Rattle.floyd_tree.specs.Plain.{Plain, Done, More}
use Rattle.floyd_tree_values.specs.BuiltIns.{Env}
use Rattle.floyd_tree_values.specs.Data.{Datum, Number, Val, number_in}
use Rattle.floyd_tree_values.specs.Means.{AllMean, Means, more, none}
use Rattle.floyd_tree_values.proofs.OneValue.{one_value}
use Rattle.floyd_truth.specs.Truth.{AllTrue, Truth}
use Rattle.floyd_assert_trees.specs.declared.assertion.Assertion.{Assertion}
use Rattle.floyd_assert_meaning.specs.Settings.{Setting}
use Rattle.floyd_fieldpath.specs.Written.{on_ok}
use Rattle.floyd_symexpr_rows.specs.declared.needs.Needs.{Needs}
use Rattle.floyd_symexpr_rows.specs.declared.needs.Number as n
use Rattle.floyd_symexpr_rows.specs.Formulas.{different, equal, saying}
use Rattle.floyd_symexpr_rows.specs.Rows.{number, range}
use Rattle.floyd_symexpr.specs.declared.evaluation.Evaluated.{Evaluated}
use Rattle.floyd_symexpr.specs.Expressions.{evaluate}
use Rattle.floyd_symexpr_laws.proofs.MachineOperations.{value_for}
use Rattle.floyd_symexpr_laws.proofs.SideTruths.{range_is, range_means, saying_is}
use Rattle.floyd_symexpr_laws.proofs.TermMeanings.{literal_means, ok_parts, operand_is}
use Rattle.floyd_control.specs.ForwardSwitch.{choice, choice_needs, label_term, no_labels, number_of}

-- ---- what the expression needs

pub record ChoiceIs (source : Assertion) (structs : Structs) (e : Expr) (c : n.Number × Needs) : Type 0 where
  pub v : Evaluated
  pub found : evaluate source structs e ≡ Ok v
  pub number : number_of (type_of e) v.term ≡ Ok c.0
  pub sides : c.1.sides ≡ v.sides ++ range c.0.kind c.0.term
  pub valid : c.1.valid ≡ v.valid

pub choice_is : (source : Assertion) (structs : Structs) (e : Expr) (c : n.Number × Needs) → choice source structs e ≡ Ok c → ChoiceIs source structs e c
choice_is source structs e c is =
    let p = ok_parts (evaluate source structs e) (λ v. on_ok (number_of (type_of e) v.term) (choice_needs v)) c is in
    let q = ok_parts (number_of (type_of e) p.0.term) (choice_needs p.0) c p.2 in
    let s = ok_parts (saying p.0.sides (range q.0.kind q.0.term)) (λ sides. Ok (q.0, record { sides = sides; valid = p.0.valid })) c q.2 in
    let same : ◌≡◌ {A = n.Number × Needs} (q.0, record { sides = s.0; valid = p.0.valid }) c = let i = s.2 in cc in
    subst (ChoiceIs source structs e) same (record { v = p.0; found = p.1; number = q.1; sides = saying_is p.0.sides (range q.0.kind q.0.term) s.0 s.1; valid = refl })

-- ---- its bits

bits_for : (k : IntKind) (z : ℤ) → IsPromoted k → bits_of k (value_for k z) ≡ Some (repr_of k z)
unfolding repr_of
bits_for I8 z p = absurd cc
bits_for U8 z p = absurd cc
bits_for I16 z p = absurd cc
bits_for U16 z p = absurd cc
bits_for I32 z p = refl
bits_for U32 z p = refl
bits_for I64 z p = refl
bits_for U64 z p = refl

module _ (S : Setting) (env : Env) where
  abbrev T : PlainFormula → Type 0
  T f = Truth S.defs S.has_spec env f

  abbrev All : List PlainFormula → Type 0
  All fs = AllTrue S.defs S.has_spec env fs

  both_data : {a b : Plain} {d e : Datum} → AllMean S.defs env (More a (More b Done)) (d ∷ e ∷ []) → Means S.defs env a d × Means S.defs env b e
  both_data (more m (more k none)) = (m, k)

  -- the number has these bits
  pub record HasBits (a : n.Number) (bits : ℕ) : Type 0 where
    pub number : ℤ
    pub means : Means S.defs env a.term (Number number)
    pub small : bits < 2 ^ width a.kind
    pub is : number ≡ value_of a.kind bits

  pub label_equal : (a : n.Number) (bits l : ℕ) → HasBits a bits → nat_eq bits l ≡ true → T (equal a.term (label_term a l))
  label_equal a bits l c e =
      let same : value_of a.kind l ≡ c.number = ap (value_of a.kind) (sym (eqb-true bits l e)) ∙ sym c.is in
      (Number c.number, more c.means (more (subst (λ z. Means S.defs env (label_term a l) (Number z)) same (literal_means S.defs env (value_of a.kind l))) none))

  label_differs : (a : n.Number) (bits l : ℕ) → HasBits a bits → l < 2 ^ width a.kind → nat_eq bits l ≡ false → T (different a.term (label_term a l))
  label_differs a bits l c small e = λ h.
      let p = both_data h.1 in
      let same : c.number ≡ value_of a.kind l = ap number_in (one_value S.defs c.means h.0 p.0 ∙ sym (one_value S.defs (literal_means S.defs env (value_of a.kind l)) h.0 p.1)) in
      let one : bits ≡ l = sym (repr-value a.kind bits c.small) ∙ ap (repr_of a.kind) (sym c.is ∙ same) ∙ repr-value a.kind l small in
      true≢false (sym (eq-eqb bits l one) ∙ e)

  pub none_equal : (a : n.Number) (bits : ℕ) → HasBits a bits → (ls : List (Option ℕ)) → LabelsFit a.kind ls → AllByRecursion (λ l. has_label bits l ≡ false) ls → All (no_labels a ls)
  none_equal a bits c [] fit e = tt
  none_equal a bits c (None ∷ ls) fit e = none_equal a bits c ls fit.2 e.1
  none_equal a bits c (Some l ∷ ls) fit e = (label_differs a bits l c fit.0 e.0, none_equal a bits c ls fit.2 e.1)

  -- the bits on the machine are those of the number, and the labels are of its kind
  pub record Chosen (t : CType) (v : Value) (a : n.Number) (ls : List (Option ℕ)) : Type 0 where
    pub bits : ℕ
    pub is : switch_bits t v ≡ Some bits
    pub has : HasBits a bits
    pub fit : LabelsFit a.kind ls

  of_kind : (k : IntKind) (t : Plain) (v : Value) (a : n.Number) (ls : List (Option ℕ)) → IsPromoted k → LabelsFit k ls → number k t ≡ Ok a → Means S.defs env t (Val v) → All (range a.kind a.term) → Chosen (Int k) v a ls
  of_kind k t v a ls promoted fit e m all =
      let o = operand_is S.defs env k t v a e m in
      let inside = subst (λ j. InRange j o.number) o.kind (range_is S.defs S.has_spec env a.kind a.term o.number all o.is) in
      record {
        bits = repr_of k o.number;
        is = ap (bits_of k) o.value ∙ bits_for k o.number promoted;
        has = record {
          number = o.number;
          means = range_means S.defs S.has_spec env a.kind a.term o.number all o.is;
          small = subst (λ j. repr_of k o.number < 2 ^ width j) (sym o.kind) (repr-below k o.number);
          is = subst (λ j. o.number ≡ value_of j (repr_of k o.number)) (sym o.kind) (sym (value-repr k o.number inside));
        };
        fit = subst (λ j. LabelsFit j ls) (sym o.kind) fit;
      }

  pub bits_chosen : (c : CType) (t : Plain) (v : Value) (a : n.Number) (ls : List (Option ℕ)) → IsChoice c ls → number_of c t ≡ Ok a → Means S.defs env t (Val v) → All (range a.kind a.term) → Chosen c v a ls
  bits_chosen (Int k) t v a ls choice e m all = of_kind k t v a ls choice.0 choice.1 e m all
  bits_chosen c t v a ls choice e m all = absurd choice
