-- What the formulas say that rows write.
use Rattle.std.proofs.Common.{◌≡◌, ℕ, Bool, true, false, ℤ, List, [], ◌∷◌, ◌++◌, Result, Ok, Err, refl, sym, ap, subst, ◌∙◌}
use Rattle.std.specs.Prelude.{int_le, ◌&&◌}
use Rattle.floyd_text.specs.declared.refusal.No.{No}
use Rattle.floyd_int.specs.declared.kinds.IntKind.{IntKind}
use Rattle.floyd_int.specs.declared.kinds.Value.{Value}
use Rattle.floyd_int.specs.Kind.{least, greatest, InRange}
use Rattle.floyd_int.proofs.OperationLaws.{InRange-true}
use Rattle.floyd_tree.specs.Formulas.{PlainFormula}
use Rattle.floyd_tree.specs.Plain.{Plain, Done, More}
use Rattle.floyd_tree_values.specs.BuiltIns.{Env}
use Rattle.floyd_tree_values.specs.Data.{Datum, Number, number_in}
use Rattle.floyd_tree_values.specs.Means.{Defs, Means, AllMean, none, more}
use Rattle.floyd_tree_values.proofs.OneValue.{one_value}
use Rattle.floyd_truth.specs.Truth.{Truth, AllTrue}
use Rattle.floyd_fieldpath.specs.Nested.{literal}
use Rattle.floyd_fieldpath.specs.Written.{on_ok}
use Rattle.floyd_arith.proofs.Values.{Is}
use Rattle.floyd_symexpr_rows.specs.declared.needs.Needs.{Needs}
use Rattle.floyd_symexpr_rows.specs.Formulas.{at_most, different, said, saying}
use Rattle.floyd_symexpr_rows.specs.Rows.{range, row}
use Rattle.floyd_symexpr_rows.proofs.PartLemmas.{said_same}
use Rattle.floyd_symexpr_laws.proofs.TermMeanings.{literal_is, ok_parts}

nothing_behind : (fs : List PlainFormula) → fs ≡ fs ++ []
nothing_behind [] = refl
nothing_behind (f ∷ fs) = ap (λ gs. f ∷ gs) (nothing_behind fs)

one_behind : (fs : List PlainFormula) (f : PlainFormula) (gs : List PlainFormula) → (fs ++ f ∷ []) ++ gs ≡ fs ++ f ∷ gs
one_behind [] f gs = refl
one_behind (g ∷ fs) f gs = ap (λ hs. g ∷ hs) (one_behind fs f gs)

-- what was said stands behind what was there
pub saying_is : (all fs after : List PlainFormula) → saying all fs ≡ Ok after → after ≡ all ++ fs
saying_is all [] after e = let same : all ≡ after = cc in sym same ∙ nothing_behind all
saying_is all (f ∷ fs) after e =
    let p = ok_parts (said f) (λ g. saying (all ++ g ∷ []) fs) after e in
    saying_is (all ++ p.0 ∷ []) fs after p.2 ∙ one_behind all p.0 fs ∙ ap (λ g. all ++ g ∷ fs) (said_same f p.0 p.1)

pair_parts : {A B : Type 0} (a c : A) (b d : B) → ◌≡◌ {A = Result (A × B) No} (Ok (a, b)) (Ok (c, d)) → (a ≡ c) × (b ≡ d)
pair_parts {A} {B} a c b d e =
    let same : ◌≡◌ {A = A × B} (a, b) (c, d) = cc in
    (ap (λ (p : A × B). p.0) same, ap (λ (p : A × B). p.1) same)

-- the parts of a row
pub record IsRow (term : Result Plain No) (sides : List PlainFormula) (needs : Needs) (t : Plain) (after : Needs) : Type 0 where
  pub made : term ≡ Ok t
  pub all_sides : after.sides ≡ needs.sides ++ sides
  pub all_valid : after.valid ≡ needs.valid

pub is_row : (term : Result Plain No) (sides : List PlainFormula) (needs : Needs) (t : Plain) (after : Needs) → row term sides needs ≡ Ok (t, after) → IsRow term sides needs t after
is_row term sides needs t after e = by term refl (saying needs.sides sides) refl e
  where
    by : (d : Result Plain No) → term ≡ d → (s : Result (List PlainFormula) No) → saying needs.sides sides ≡ s → on_ok {B = Plain × Needs} d (λ u. on_ok {B = Plain × Needs} s (λ all. Ok (u, record needs { sides = all }))) ≡ Ok (t, after) → IsRow term sides needs t after
    by (Ok u) f (Ok all) g h =
        let p = pair_parts u t (record needs { sides = all }) after h in
        record {
          made = f ∙ ap Ok p.0;
          all_sides = sym (ap (λ (x : Needs). x.sides) p.1) ∙ saying_is needs.sides sides all g;
          all_valid = sym (ap (λ (x : Needs). x.valid) p.1);
        }
    by (Ok u) f (Err refusal) g h = absurd cc
    by (Err refusal) f s g h = absurd cc

module _ (defs : Defs) (specs : List ℕ → Value → Bool) (env : Env) where
  pub all_true_first : (fs gs : List PlainFormula) → AllTrue defs specs env (fs ++ gs) → AllTrue defs specs env fs
  all_true_first [] gs k = tt
  all_true_first (f ∷ fs) gs k = (k.0, all_true_first fs gs k.1)

  pub all_true_second : (fs gs : List PlainFormula) → AllTrue defs specs env (fs ++ gs) → AllTrue defs specs env gs
  all_true_second [] gs k = k
  all_true_second (f ∷ fs) gs k = all_true_second fs gs k.1

  -- what a row's own formulas say
  pub own_sides : (term : Result Plain No) (sides : List PlainFormula) (needs : Needs) (t : Plain) (after : Needs) → IsRow term sides needs t after → AllTrue defs specs env after.sides → AllTrue defs specs env sides
  own_sides term sides needs t after r k = all_true_second needs.sides sides (subst (AllTrue defs specs env) r.all_sides k)

  both_data : {a b : Plain} {d e : Datum} → AllMean defs env (More a (More b Done)) (d ∷ e ∷ []) → Means defs env a d × Means defs env b e
  both_data (more m (more k none)) = (m, k)

  same_number : (t : Plain) (x y : ℤ) → Is defs env t x → Means defs env t (Number y) → x ≡ y
  same_number t x y i m = sym i.number ∙ ap number_in (one_value defs i.means (Number y) m)

  pub at_most_is : (a b : Plain) (x y : ℤ) → Truth defs specs env (at_most a b) → Is defs env a x → Is defs env b y → int_le x y ≡ true
  at_most_is a b x y (m, k, both, le) i j =
      let p = both_data both in
      ap (λ z. int_le z y) (same_number a x m i p.0) ∙ ap (int_le m) (same_number b y k j p.1) ∙ le

  -- a number that is bounded is one
  pub bounded_is : (a b : Plain) (y : ℤ) → Truth defs specs env (at_most a b) → Is defs env b y → Means defs env b (Number y)
  bounded_is a b y (m, k, both, le) j =
      let p = both_data both in
      subst (λ z. Means defs env b (Number z)) (sym (same_number b y k j p.1)) p.1

  both_tests : (p q : Bool) → p ≡ true → q ≡ true → p && q ≡ true
  both_tests true q e f = f
  both_tests false q e f = absurd cc

  pub range_is : (k : IntKind) (t : Plain) (z : ℤ) → AllTrue defs specs env (range k t) → Is defs env t z → InRange k z
  range_is k t z all i =
      InRange-true k z (both_tests (int_le (least k) z) (int_le z (greatest k))
      (at_most_is (literal (least k)) t (least k) z all.0 (literal_is defs env (least k)) i)
      (at_most_is t (literal (greatest k)) z (greatest k) all.1.0 i (literal_is defs env (greatest k))))

  pub range_means : (k : IntKind) (t : Plain) (z : ℤ) → AllTrue defs specs env (range k t) → Is defs env t z → Means defs env t (Number z)
  range_means k t z all i = bounded_is (literal (least k)) t z all.0 i

  pub differ : (a b : Plain) (x y : ℤ) → Truth defs specs env (different a b) → Means defs env a (Number x) → Means defs env b (Number y) → ¬ (x ≡ y)
  differ a b x y absent m k e = absent (Number x, more m (more (subst (λ z. Means defs env b (Number z)) (sym e) k) none))
