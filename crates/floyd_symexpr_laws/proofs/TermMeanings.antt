-- The values of terms that rows write, and of the terms in formulas that they write.
use Rattle.std.proofs.Common.{◌≡◌, Bool, true, false, ℤ, [], ◌∷◌, Option, Some, None, Result, Ok, Err, is_some, refl, sym, ap, ap₂, subst, ◌∙◌, if◌then◌else◌}
use Rattle.std.specs.Prelude.{option_and_then}
use Rattle.floyd_text.specs.declared.refusal.No.{No}
use Rattle.floyd_int.specs.declared.kinds.IntKind.{IntKind}
use Rattle.floyd_int.specs.declared.kinds.Value.{Value}
use Rattle.floyd_tree_sorts.specs.declared.sorts.Sort.{Sort, Z}
use Rattle.floyd_tree_sorts.specs.declared.heads.Head.{Head}
use Rattle.floyd_tree_sorts.specs.declared.heads.Head.TheVariants.{Literal, Signed, Unsigned}
use Rattle.floyd_tree_sorts.specs.declared.heads.Head.TheVariants as h
use Rattle.floyd_tree_sorts.specs.declared.operators.Operator.{Operator}
use Rattle.floyd_tree_sorts.specs.declared.operators.Operator.TheVariants.{Add, Sub, Mul, Quot, Rem, Band, Bor, Bxor, Bnot, Shl, Shr, Eqz, Ltz, Lez, Vint, Vlong}
use Rattle.floyd_tree.specs.Made.{fits}
use Rattle.floyd_tree.specs.Plain.{Plain, At, Done, More}
use Rattle.floyd_tree.specs.WellSorted.{sort_of}
use Rattle.floyd_tree_values.specs.BuiltIns.{Env, applied, operator_value}
use Rattle.floyd_tree_values.specs.Data.{Datum, Number, Val, number_in}
use Rattle.floyd_tree_values.specs.Defaults.{undefined}
use Rattle.floyd_tree_values.specs.Means.{Defs, Means, built_in, none, more, is_fun}
use Rattle.floyd_tree_values.specs.Values.{vint, vlong}
use Rattle.floyd_tree_values.proofs.OneValue.{applies, split}
use Rattle.floyd_fieldpath.specs.Nested.{literal}
use Rattle.floyd_fieldpath.specs.Projections.{kid_under, one}
use Rattle.floyd_fieldpath.specs.Sums.{is_small, literal_in, literal_or, small, two}
use Rattle.floyd_fieldpath.specs.Written.{ill_sorted, on_ok, too_large, written}
use Rattle.floyd_folding.specs.Folding.{folded, folded_one, number_of_one, number_of_two, of_literals}
use Rattle.floyd_arith.proofs.Values.{Is}
use Rattle.floyd_symexpr_rows.specs.declared.needs.Number as n
use Rattle.floyd_symexpr_rows.specs.Rows.{is_long, is_vint, is_vlong, number, number_under, or_no_number, value_of_kind}
use Rattle.floyd_symexpr_rows.specs.Rows as rows
use Rattle.floyd_symexpr_laws.proofs.MachineOperations.{value_for}

-- ---- what is written

pub record IsWritten (t u : Plain) : Type 0 where
  pub same : u ≡ t
  pub sort : Sort
  pub sorted : sort_of t ≡ Some sort

pub is_written : (t u : Plain) → written t ≡ Ok u → IsWritten t u
is_written t u e = by (sort_of t) refl (fits t) e
  where
    by : (o : Option Sort) → sort_of t ≡ o → (b : Bool) → ◌≡◌ {A = Result Plain No} (if is_some o then (if b then Ok t else Err too_large) else Err ill_sorted) (Ok u) → IsWritten t u
    by (Some s) f true g = record { same = cc; sort = s; sorted = f }
    by (Some s) f false g = absurd cc
    by None f b g = absurd cc

-- what was there before something followed
pub ok_parts : {A B : Type 0} (d : Result A No) (f : A → Result B No) (b : B) → on_ok d f ≡ Ok b → (a : A) × (d ≡ Ok a) × (f a ≡ Ok b)
ok_parts (Ok a) f b e = (a, refl, e)
ok_parts (Err refusal) f b e = absurd cc

-- ---- what operators make of numbers

number_by : (operator : Operator) (s : Sort) (d e c : Datum) (z : ℤ) → number_of_two operator (number_in d) (number_in e) ≡ Some z → number_in (operator_value operator s d e c) ≡ z
number_by Add s d e c z f = cc
number_by Sub s d e c z f = cc
number_by Mul s d e c z f = cc
number_by Quot s d e c z f = cc
number_by Rem s d e c z f = cc
number_by Band s d e c z f = cc
number_by Bor s d e c z f = cc
number_by Bxor s d e c z f = cc
number_by Shl s d e c z f = cc
number_by Shr s d e c z f = cc
number_by Eqz s d e c z f = cc
number_by Ltz s d e c z f = cc
number_by Lez s d e c z f = cc
number_by operator s d e c z f = absurd cc

module _ (defs : Defs) (env : Env) where
  pub literal_means : (z : ℤ) → Means defs env (literal z) (Number z)
  literal_means z = built_in {env = env} {head = Literal z} {kids = Done} {s = Z} {ds = []} refl refl none

  pub literal_is : (z : ℤ) → Is defs env (literal z) z
  literal_is z = record { datum = Number z; means = literal_means z; number = refl }

  -- a literal is its number
  pub literal_in_is : (t : Plain) (x z : ℤ) → literal_in t ≡ Some x → Is defs env t z → z ≡ x
  literal_in_is (At (Literal w) kids) x z e i =
      let p = applies refl i.means in
      let same : w ≡ x = cc in
      sym i.number ∙ ap number_in p.is ∙ same
  literal_in_is t x z e i = absurd cc

  pub literal_at : (z : ℤ) (n : Plain) → n ≡ literal z → Is defs env n z
  literal_at z n e = subst (λ t. Is defs env t z) (sym e) (literal_is z)

  -- two numbers under an operator
  two_written : (operator : Operator) (a b n : Plain) (x y z : ℤ) → written (two operator a b) ≡ Ok n → Is defs env a x → Is defs env b y → number_of_two operator x y ≡ Some z → Is defs env n z
  two_written operator a b n x y z e i j f =
      let w = is_written (two operator a b) n e in
      let d = operator_value operator w.sort i.datum j.datum undefined in
      let m : Means defs env (two operator a b) d = built_in {env = env} {head = h.Operator operator} {kids = More a (More b Done)} {s = w.sort} {ds = i.datum ∷ j.datum ∷ []} refl w.sorted (more i.means (more j.means none)) in
      record {
        datum = d;
        means = subst (λ t. Means defs env t d) (sym w.same) m;
        number = number_by operator w.sort i.datum j.datum undefined z (ap₂ (number_of_two operator) i.number j.number ∙ f);
      }

  pub folded_is : (operator : Operator) (a b n : Plain) (x y z : ℤ) → folded operator a b ≡ Ok n → Is defs env a x → Is defs env b y → number_of_two operator x y ≡ Some z → Is defs env n z
  folded_is operator a b n x y z e i j f = by (literal_in a) refl (literal_in b) refl e
    where
      as_literal : (t : Bool) → literal_or (if t then Some z else None) (two operator a b) ≡ Ok n → Is defs env n z
      as_literal true k = literal_at z n cc
      as_literal false k = two_written operator a b n x y z k i j f

      by : (o : Option ℤ) → literal_in a ≡ o → (p : Option ℤ) → literal_in b ≡ p → literal_or (small (of_literals (number_of_two operator) o p)) (two operator a b) ≡ Ok n → Is defs env n z
      by (Some u) g (Some v) k m =
          let same : number_of_two operator u v ≡ Some z = ap₂ (number_of_two operator) (sym (literal_in_is a u x g i)) (sym (literal_in_is b v y k j)) ∙ f in
          as_literal (is_small z) (ap (λ o. literal_or (small o) (two operator a b)) (sym same) ∙ m)
      by (Some u) g None k m = two_written operator a b n x y z m i j f
      by None g (Some v) k m = two_written operator a b n x y z m i j f
      by None g None k m = two_written operator a b n x y z m i j f

  -- what a head makes of one number
  head_number : (head : Head) (s : Sort) (d : Datum) (z : ℤ) → number_of_one head (number_in d) ≡ Some z → (is_fun head ≡ false) × (number_in (applied defs.structs env head s (d ∷ [])) ≡ z)
  head_number (h.Operator Bnot) s d z f = (refl, cc)
  head_number (Signed w) s d z f = (refl, cc)
  head_number (Unsigned w) s d z f = (refl, cc)
  head_number head s d z f = absurd cc

  one_written : (head : Head) (a n : Plain) (x z : ℤ) → written (At head (More a Done)) ≡ Ok n → Is defs env a x → number_of_one head x ≡ Some z → Is defs env n z
  one_written head a n x z e i f =
      let w = is_written (At head (More a Done)) n e in
      let p = head_number head w.sort i.datum z (ap (number_of_one head) i.number ∙ f) in
      let d = applied defs.structs env head w.sort (i.datum ∷ []) in
      let m : Means defs env (At head (More a Done)) d = built_in {env = env} {head = head} {kids = More a Done} {s = w.sort} {ds = i.datum ∷ []} p.0 w.sorted (more i.means none) in
      record { datum = d; means = subst (λ t. Means defs env t d) (sym w.same) m; number = p.1 }

  pub folded_one_is : (head : Head) (a n : Plain) (x z : ℤ) → folded_one head a ≡ Ok n → Is defs env a x → number_of_one head x ≡ Some z → Is defs env n z
  folded_one_is head a n x z e i f = by (literal_in a) refl e
    where
      as_literal : (t : Bool) → literal_or (if t then Some z else None) (At head (More a Done)) ≡ Ok n → Is defs env n z
      as_literal true k = literal_at z n cc
      as_literal false k = one_written head a n x z k i f

      by : (o : Option ℤ) → literal_in a ≡ o → literal_or (small (option_and_then (number_of_one head) o)) (At head (More a Done)) ≡ Ok n → Is defs env n z
      by (Some u) g m =
          let same : number_of_one head u ≡ Some z = ap (number_of_one head) (sym (literal_in_is a u x g i)) ∙ f in
          as_literal (is_small z) (ap (λ o. literal_or (small o) (At head (More a Done))) (sym same) ∙ m)
      by None g m = one_written head a n x z m i f

  -- ---- numbers as values

  pub vint_is : (n t : Plain) (z : ℤ) → rows.vint n ≡ Ok t → Is defs env n z → Means defs env t (Val (vint z))
  vint_is n t z e i =
      let w = is_written (one Vint n) t e in
      let m : Means defs env (one Vint n) (Val (vint (number_in i.datum))) = built_in {env = env} {head = h.Operator Vint} {kids = More n Done} {s = w.sort} {ds = i.datum ∷ []} refl w.sorted (more i.means none) in
      subst (λ (u : Plain). Means defs env u (Val (vint z))) (sym w.same) (subst (λ (y : ℤ). Means defs env (one Vint n) (Val (vint y))) i.number m)

  vlong_is : (n t : Plain) (z : ℤ) → written (one Vlong n) ≡ Ok t → Is defs env n z → Means defs env t (Val (vlong z))
  vlong_is n t z e i =
      let w = is_written (one Vlong n) t e in
      let m : Means defs env (one Vlong n) (Val (vlong (number_in i.datum))) = built_in {env = env} {head = h.Operator Vlong} {kids = More n Done} {s = w.sort} {ds = i.datum ∷ []} refl w.sorted (more i.means none) in
      subst (λ (u : Plain). Means defs env u (Val (vlong z))) (sym w.same) (subst (λ (y : ℤ). Means defs env (one Vlong n) (Val (vlong y))) i.number m)

  pub value_is : (k : IntKind) (n t : Plain) (z : ℤ) → value_of_kind k n ≡ Ok t → Is defs env n z → Means defs env t (Val (value_for k z))
  value_is k n t z e i = by (is_long k) e
    where
      by : (b : Bool) → written (one (if b then Vlong else Vint) n) ≡ Ok t → Means defs env t (Val (if b then vlong z else vint z))
      by true f = vlong_is n t z f i
      by false f = vint_is n t z f i

  -- the number of an operand
  pub record IsOperand (k : IntKind) (v : Value) (a : n.Number) : Type 0 where
    pub number : ℤ
    pub is : Is defs env a.term number
    pub kind : a.kind ≡ k
    pub value : v ≡ value_for k number

  vint_operand : (t u : Plain) (v : Value) → kid_under is_vint 0 t ≡ Some u → Means defs env t (Val v) → (z : ℤ) × Is defs env u z × (v ≡ vint z)
  vint_operand (At (h.Operator Vint) (More a ts)) u v e m =
      let p = applies refl m in
      let q = split p.mean in
      let same : a ≡ u = cc in
      let value : Val v ≡ Val (vint (number_in q.datum)) = p.is ∙ ap (λ ds. applied defs.structs env (h.Operator Vint) p.sort ds) q.is in
      (number_in q.datum, subst (λ t. Is defs env t (number_in q.datum)) same (record { datum = q.datum; means = q.first; number = refl }), cc)
  vint_operand t u v e m = absurd cc

  vlong_operand : (t u : Plain) (v : Value) → kid_under is_vlong 0 t ≡ Some u → Means defs env t (Val v) → (z : ℤ) × Is defs env u z × (v ≡ vlong z)
  vlong_operand (At (h.Operator Vlong) (More a ts)) u v e m =
      let p = applies refl m in
      let q = split p.mean in
      let same : a ≡ u = cc in
      let value : Val v ≡ Val (vlong (number_in q.datum)) = p.is ∙ ap (λ ds. applied defs.structs env (h.Operator Vlong) p.sort ds) q.is in
      (number_in q.datum, subst (λ t. Is defs env t (number_in q.datum)) same (record { datum = q.datum; means = q.first; number = refl }), cc)
  vlong_operand t u v e m = absurd cc

  under_operand : (k : IntKind) (t u : Plain) (v : Value) → number_under k t ≡ Some u → Means defs env t (Val v) → (z : ℤ) × Is defs env u z × (v ≡ value_for k z)
  under_operand k t u v e m = by (is_long k) e
    where
      by : (b : Bool) → (if b then kid_under is_vlong 0 t else kid_under is_vint 0 t) ≡ Some u → (z : ℤ) × Is defs env u z × (v ≡ (if b then vlong z else vint z))
      by true f = vlong_operand t u v f m
      by false f = vint_operand t u v f m

  pub operand_is : (k : IntKind) (t : Plain) (v : Value) (a : n.Number) → number k t ≡ Ok a → Means defs env t (Val v) → IsOperand k v a
  operand_is k t v a e m = by (number_under k t) refl e
    where
      by : (o : Option Plain) → number_under k t ≡ o → or_no_number k o ≡ Ok a → IsOperand k v a
      by (Some u) f g =
          let r = under_operand k t u v f m in
          let same : ◌≡◌ {A = n.Number} (record { kind = k; term = u }) a = cc in
          subst (IsOperand k v) same (record { number = r.0; is = r.1; kind = refl; value = r.2 })
      by None f g = absurd cc
