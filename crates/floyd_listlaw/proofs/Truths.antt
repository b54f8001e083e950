-- Each law is true.
use Rattle.std.proofs.Common.{◌≡◌, ℕ, Bool, true, false, ℤ, pos, List, [], ◌∷◌, map, length, refl, sym, ap, subst, inl, inr, ⊎_elim, arith}
use Rattle.std.proofs.lemmas.Bool.{le-leb}
use Rattle.std.proofs.lemmas.List.{append-nil, append_assoc, map-append, reverse-append, reverse-reverse, length-append, length-map, length-reverse}
use mathlib.Core.List.{reverse-cons}
use Rattle.floyd_int.specs.declared.kinds.Value.{Value}
use Rattle.floyd_int.specs.declared.kinds.Value.TheVariants as v
use Rattle.floyd_tree_sorts.specs.declared.connectives.FormulaHead.TheVariants as f
use Rattle.floyd_tree_sorts.specs.declared.heads.Head.TheVariants as h
use Rattle.floyd_tree_sorts.specs.declared.operators.RowSort.TheVariants as r
use Rattle.floyd_tree_sorts.specs.declared.sorts.Sort.{Sort, Z}
use Rattle.floyd_tree.specs.Formulas.{Says, NoFormula}
use Rattle.floyd_tree.specs.Plain.{Plain, At, Done, More}
use Rattle.floyd_tree_values.specs.BuiltIns.{Env, at_place}
use Rattle.floyd_tree_values.specs.Data.{Datum, Number, Val, seq, number_in, default_of}
use Rattle.floyd_tree_values.specs.Means.{Defs, Means, none as no_data, more}
use Rattle.floyd_tree_values.proofs.OneValue.{one_list}
use Rattle.floyd_truth.specs.Truth.{Truth, AllTrue}
use Rattle.floyd_listlaw.specs.declared.list_law.ListLaw.{ListLaw}
use Rattle.floyd_listlaw.specs.declared.list_law.ListLaw.TheVariants as l
use Rattle.floyd_listlaw.specs.Laws.{LawsHold}
use Rattle.floyd_listlaw.specs.Names.{law_named}
use Rattle.floyd_listlaw.specs.Table.{row}
use Rattle.floyd_listlaw.specs.Terms.{formula_with}
use Rattle.floyd_listlaw.proofs.Data.{Le}
use Rattle.floyd_listlaw.proofs.Data as d
use Rattle.floyd_listlaw.proofs.Givens.{HaveValues, a_number, a_val, a_list, comes_from, values}
use Rattle.floyd_listlaw.proofs.Givens as g
use Rattle.floyd_listlaw.proofs.Values as is
use Rattle.floyd_listlaw.proofs.Values.{Is, IsNumber, as_vint}

abbrev is_pointer : Datum → Bool
is_pointer (Val (v.Vptr b o)) = true
is_pointer d = false

module _ (defs : Defs) (specs : List ℕ → Value → Bool) (env : Env) where
  -- formulas from what their terms mean, and back
  equal : {a b : Plain} {s t : Sort} {x y : Datum} → Is defs env a s x → Is defs env b t y → x ≡ y → Truth defs specs env (Says f.Equal (More a (More b Done)) NoFormula)
  equal {a = a} {y = y} i j e = (y, more (subst (Means defs env a) e i.means) (more j.means no_data))

  at_most : {a b : Plain} {x y : ℤ} → IsNumber defs env a x → IsNumber defs env b y → Le x y → Truth defs specs env (Says f.AtMost (More a (More b Done)) NoFormula)
  at_most {x = x} {y = y} i j h = (x, y, more i.means (more j.means no_data), h)

  ordered : {a b : Plain} {x y : ℤ} → IsNumber defs env a x → IsNumber defs env b y → Truth defs specs env (Says f.AtMost (More a (More b Done)) NoFormula) → Le x y
  ordered {x = x} {y = y} i j p =
      let e = one_list defs (more i.means (more j.means no_data)) (Number p.0 ∷ Number p.1 ∷ []) p.2 in
      let first : x ≡ p.0 = ap (λ ds. number_in (at_place 0 ds)) e in
      let second : y ≡ p.1 = ap (λ ds. number_in (at_place 1 ds)) e in
      subst (λ z. Le z y) (sym first) (subst (λ z. Le p.0 z) (sym second) p.3)

  equal_lists : {a b : Plain} {s t : Sort} {xs ys : List Datum} → is.IsList defs env a s xs → is.IsList defs env b t ys → xs ≡ ys → Truth defs specs env (Says f.Equal (More a (More b Done)) NoFormula)
  equal_lists i j e = equal i.is j.is (ap seq e)

  zero : IsNumber defs env (At (h.Literal (pos 0)) Done) (pos 0)
  zero = is.number defs env (pos 0)

  -- what a law says of terms that have values is true
  abbrev Holds : ListLaw → Sort → List Plain → Type 0
  Holds law s ts = AllTrue defs specs env (map (formula_with s ts) (row law).premises) → Truth defs specs env (formula_with s ts (row law).conclusion)

  -- one law each
  abbrev Given : ListLaw → Type 0
  Given law = (s : Sort) (ts : List Plain) → HaveValues defs env s (row law).arguments ts → Holds law s ts

  sublist_none : Given l.SublistNone
  sublist_none s = g.two defs env s r.Z r.ListS (Holds l.SublistNone s) (λ i a vi va p.
      let i' = a_number defs env i vi in
      let a' = a_list defs env a s va in
      equal_lists (is.sublist_of defs env i'.1 i'.1 a'.1) (is.nil defs env s) (d.sublist_none i'.0 a'.0))

  sublist_all : Given l.SublistAll
  sublist_all s = g.one defs env s r.ListS (Holds l.SublistAll s) (λ a va p.
      let a' = a_list defs env a s va in
      equal_lists (is.sublist_of defs env zero (is.len defs env a'.1) a'.1) a'.1 (d.sublist_all a'.0))

  sublist_snoc : Given l.SublistSnoc
  sublist_snoc s = g.two defs env s r.Z r.ListS (Holds l.SublistSnoc s) (λ i a vi va p.
      let i' = a_number defs env i vi in
      let a' = a_list defs env a s va in
      let low = ordered zero i'.1 p.0 in
      let high = ordered (is.next defs env i'.1) (is.len defs env a'.1) p.1.0 in
      equal_lists (is.sublist_of defs env zero (is.next defs env i'.1) a'.1) (is.append defs env (is.sublist_of defs env zero i'.1 a'.1) (is.cons defs env (is.nth_of defs env i'.1 a'.1) (is.nil defs env s))) (d.sublist_snoc i'.0 a'.0 (default_of s) low high))

  sublist_app : Given l.SublistApp
  sublist_app s = g.four defs env s r.Z r.Z r.Z r.ListS (Holds l.SublistApp s) (λ i j k a vi vj vk va p.
      let i' = a_number defs env i vi in
      let j' = a_number defs env j vj in
      let k' = a_number defs env k vk in
      let a' = a_list defs env a s va in
      equal_lists (is.append defs env (is.sublist_of defs env i'.1 j'.1 a'.1) (is.sublist_of defs env j'.1 k'.1 a'.1)) (is.sublist_of defs env i'.1 k'.1 a'.1) (d.sublist_app i'.0 j'.0 k'.0 a'.0 (ordered i'.1 j'.1 p.0) (ordered j'.1 k'.1 p.1.0)))

  sublist_len : Given l.SublistLen
  sublist_len s = g.three defs env s r.Z r.Z r.ListS (Holds l.SublistLen s) (λ i j a vi vj va p.
      let i' = a_number defs env i vi in
      let j' = a_number defs env j vj in
      let a' = a_list defs env a s va in
      equal (is.len defs env (is.sublist_of defs env i'.1 j'.1 a'.1)) (is.minus defs env j'.1 i'.1)
      (ap Number (d.sublist_len i'.0 j'.0 a'.0 (ordered zero i'.1 p.0) (ordered i'.1 j'.1 p.1.0) (ordered j'.1 (is.len defs env a'.1) p.1.1.0))))

  sublist_vints : Given l.SublistVints
  sublist_vints s = g.three defs env s r.Z r.Z r.ListZ (Holds l.SublistVints s) (λ i j a vi vj va p.
      let i' = a_number defs env i vi in
      let j' = a_number defs env j vj in
      let a' = a_list defs env a Z va in
      equal_lists (is.sublist_of defs env i'.1 j'.1 (is.vints defs env a'.1)) (is.vints defs env (is.sublist_of defs env i'.1 j'.1 a'.1)) (d.sublist_map as_vint i'.0 j'.0 a'.0))

  vints_app : Given l.VintsApp
  vints_app s = g.two defs env s r.ListZ r.ListZ (Holds l.VintsApp s) (λ a b va vb p.
      let a' = a_list defs env a Z va in
      let b' = a_list defs env b Z vb in
      equal_lists (is.append defs env (is.vints defs env a'.1) (is.vints defs env b'.1)) (is.vints defs env (is.append defs env a'.1 b'.1)) (sym (map-append as_vint a'.0 b'.0)))

  len_vints : Given l.LenVints
  len_vints s = g.one defs env s r.ListZ (Holds l.LenVints s) (λ a va p.
      let a' = a_list defs env a Z va in
      equal (is.len defs env (is.vints defs env a'.1)) (is.len defs env a'.1) (ap (λ n. Number (pos n)) (length-map a'.0 as_vint)))

  sum_nil : Given l.SumNil
  sum_nil s = g.none defs env s (Holds l.SumNil s) (λ p.
      equal (is.sum_of defs env (is.nil defs env Z)) zero refl)

  sum_app : Given l.SumApp
  sum_app s = g.two defs env s r.ListZ r.ListZ (Holds l.SumApp s) (λ a b va vb p.
      let a' = a_list defs env a Z va in
      let b' = a_list defs env b Z vb in
      equal (is.sum_of defs env (is.append defs env a'.1 b'.1)) (is.plus defs env (is.sum_of defs env a'.1) (is.sum_of defs env b'.1)) (ap Number (d.sum_app a'.0 b'.0)))

  sum_snoc : Given l.SumSnoc
  sum_snoc s = g.two defs env s r.Z r.ListZ (Holds l.SumSnoc s) (λ i a vi va p.
      let i' = a_number defs env i vi in
      let a' = a_list defs env a Z va in
      let low = ordered zero i'.1 p.0 in
      let high = ordered (is.next defs env i'.1) (is.len defs env a'.1) p.1.0 in
      equal (is.sum_of defs env (is.sublist_of defs env zero (is.next defs env i'.1) a'.1)) (is.plus defs env (is.sum_of defs env (is.sublist_of defs env zero i'.1 a'.1)) (is.nth_of defs env i'.1 a'.1)) (ap Number (d.sum_snoc i'.0 a'.0 (default_of Z) low high)))

  len_app : Given l.LenApp
  len_app s = g.two defs env s r.ListS r.ListS (Holds l.LenApp s) (λ a b va vb p.
      let a' = a_list defs env a s va in
      let b' = a_list defs env b s vb in
      equal (is.len defs env (is.append defs env a'.1 b'.1)) (is.plus defs env (is.len defs env a'.1) (is.len defs env b'.1)) (ap (λ n. Number (pos n)) (length-append a'.0 b'.0)))

  len_rev : Given l.LenRev
  len_rev s = g.one defs env s r.ListS (Holds l.LenRev s) (λ a va p.
      let a' = a_list defs env a s va in
      equal (is.len defs env (is.rev defs env a'.1)) (is.len defs env a'.1) (ap (λ n. Number (pos n)) (length-reverse a'.0)))

  len_upd : Given l.LenUpd
  len_upd s = g.three defs env s r.Z r.S r.ListS (Holds l.LenUpd s) (λ i x a vi vx va p.
      let i' = a_number defs env i vi in
      let a' = a_list defs env a s va in
      equal (is.len defs env (is.upd_of defs env i'.1 vx.1 a'.1)) (is.len defs env a'.1) (ap (λ n. Number (pos n)) (d.upd_len i'.0 vx.0 a'.0)))

  len_nonneg : Given l.LenNonneg
  len_nonneg s = g.one defs env s r.ListS (Holds l.LenNonneg s) (λ a va p.
      let a' = a_list defs env a s va in
      at_most zero (is.len defs env a'.1) (le-leb 0 (length a'.0) (omega arith)))

  app_nil : Given l.AppNil
  app_nil s = g.one defs env s r.ListS (Holds l.AppNil s) (λ a va p.
      let a' = a_list defs env a s va in
      equal_lists (is.append defs env a'.1 (is.nil defs env s)) a'.1 (append-nil a'.0))

  app_assoc : Given l.AppAssoc
  app_assoc s = g.three defs env s r.ListS r.ListS r.ListS (Holds l.AppAssoc s) (λ a b c va vb vc p.
      let a' = a_list defs env a s va in
      let b' = a_list defs env b s vb in
      let c' = a_list defs env c s vc in
      equal_lists (is.append defs env (is.append defs env a'.1 b'.1) c'.1) (is.append defs env a'.1 (is.append defs env b'.1 c'.1)) (append_assoc a'.0 b'.0 c'.0))

  rev_cons : Given l.RevCons
  rev_cons s = g.two defs env s r.S r.ListS (Holds l.RevCons s) (λ x a vx va p.
      let a' = a_list defs env a s va in
      equal_lists (is.rev defs env (is.cons defs env vx.1 a'.1)) (is.append defs env (is.rev defs env a'.1) (is.cons defs env vx.1 (is.nil defs env s))) (reverse-cons vx.0 a'.0))

  rev_app : Given l.RevApp
  rev_app s = g.two defs env s r.ListS r.ListS (Holds l.RevApp s) (λ a b va vb p.
      let a' = a_list defs env a s va in
      let b' = a_list defs env b s vb in
      equal_lists (is.rev defs env (is.append defs env a'.1 b'.1)) (is.append defs env (is.rev defs env b'.1) (is.rev defs env a'.1)) (reverse-append a'.0 b'.0))

  rev_rev : Given l.RevRev
  rev_rev s = g.one defs env s r.ListS (Holds l.RevRev s) (λ a va p.
      let a' = a_list defs env a s va in
      equal_lists (is.rev defs env (is.rev defs env a'.1)) a'.1 (reverse-reverse a'.0))

  nth_same : Given l.NthSame
  nth_same s = g.three defs env s r.Z r.S r.ListS (Holds l.NthSame s) (λ i x a vi vx va p.
      let i' = a_number defs env i vi in
      let a' = a_list defs env a s va in
      let low = ordered zero i'.1 p.0 in
      let high = ordered (is.next defs env i'.1) (is.len defs env a'.1) p.1.0 in
      equal (is.nth_of defs env i'.1 (is.upd_of defs env i'.1 vx.1 a'.1)) vx.1 (d.nth_same i'.0 vx.0 a'.0 (default_of s) low high))

  nth_other : Given l.NthOther
  nth_other s = g.four defs env s r.Z r.Z r.S r.ListS (Holds l.NthOther s) (λ i j x a vi vj vx va p.
      let i' = a_number defs env i vi in
      let j' = a_number defs env j vj in
      let a' = a_list defs env a s va in
      equal (is.nth_of defs env j'.1 (is.upd_of defs env i'.1 vx.1 a'.1)) (is.nth_of defs env j'.1 a'.1) (d.nth_other i'.0 j'.0 vx.0 a'.0 (default_of s) (λ e. p.0 (equal i'.1 j'.1 (ap Number e)))))

  lt_or_eq : Given l.LtOrEq
  lt_or_eq s = g.two defs env s r.Z r.Z (Holds l.LtOrEq s) (λ a b va vb p.
      let a' = a_number defs env a va in
      let b' = a_number defs env b vb in
      ⊎_elim (λ e. inl (at_most (is.next defs env a'.1) b'.1 e)) (λ e. inr (equal a'.1 b'.1 (ap Number e))) (d.less_or_same a'.0 b'.0 (ordered a'.1 b'.1 p.0)))

  le_total : Given l.LeTotal
  le_total s = g.two defs env s r.Z r.Z (Holds l.LeTotal s) (λ a b va vb p.
      let a' = a_number defs env a va in
      let b' = a_number defs env b vb in
      ⊎_elim (λ e. inl (at_most a'.1 b'.1 e)) (λ e. inr (at_most (is.next defs env b'.1) a'.1 e)) (d.total a'.0 b'.0))

  vint_unsigned : Given l.VintUnsigned
  vint_unsigned s = g.one defs env s r.Z (Holds l.VintUnsigned s) (λ a va p.
      let a' = a_number defs env a va in
      equal (is.vint_of defs env a'.1) (is.vint_of defs env (is.unsigned32 defs env a'.1)) (ap Val (d.vint_unsigned a'.0)))

  vint_signed : Given l.VintSigned
  vint_signed s = g.one defs env s r.Z (Holds l.VintSigned s) (λ a va p.
      let a' = a_number defs env a va in
      equal (is.vint_of defs env a'.1) (is.vint_of defs env (is.signed32 defs env a'.1)) (ap Val (d.vint_signed a'.0)))

  null_ptr : Given l.NullPtr
  null_ptr s = g.one defs env s r.Val (Holds l.NullPtr s) (λ a va p.
      let a' = a_val defs env a va in
      let here = one_list defs (more a'.1.means no_data) (Val (v.Vptr p.0.0 p.0.1) ∷ []) p.0.2 in
      let both = one_list defs (more a'.1.means (more (is.nullval defs env).means no_data)) (p.1.0.0 ∷ p.1.0.0 ∷ []) p.1.0.1 in
      let pointer : is_pointer (Val a'.0) ≡ true = ap (λ ds. is_pointer (at_place 0 ds)) here in
      let first : is_pointer (Val a'.0) ≡ is_pointer p.1.0.0 = ap (λ ds. is_pointer (at_place 0 ds)) both in
      let second : false ≡ is_pointer p.1.0.0 = ap (λ ds. is_pointer (at_place 1 ds)) both in
      absurd cc)

  each : (law : ListLaw) → Given law
  each l.SublistNone = sublist_none
  each l.SublistAll = sublist_all
  each l.SublistSnoc = sublist_snoc
  each l.SublistApp = sublist_app
  each l.SublistLen = sublist_len
  each l.SublistVints = sublist_vints
  each l.VintsApp = vints_app
  each l.LenVints = len_vints
  each l.SumNil = sum_nil
  each l.SumApp = sum_app
  each l.SumSnoc = sum_snoc
  each l.LenApp = len_app
  each l.LenRev = len_rev
  each l.LenUpd = len_upd
  each l.LenNonneg = len_nonneg
  each l.AppNil = app_nil
  each l.AppAssoc = app_assoc
  each l.RevCons = rev_cons
  each l.RevApp = rev_app
  each l.RevRev = rev_rev
  each l.NthSame = nth_same
  each l.NthOther = nth_other
  each l.LtOrEq = lt_or_eq
  each l.LeTotal = le_total
  each l.VintUnsigned = vint_unsigned
  each l.VintSigned = vint_signed
  each l.NullPtr = null_ptr

pub holds : LawsHold
holds name terms law e defs specs scope env keeps suits a =
    let p = comes_from name terms law (law_named name) e in
    subst (λ w. AllTrue defs specs env w.premises → Truth defs specs env w.conclusion) p.5
    (each defs specs env p.0 p.3 terms (values defs scope env keeps suits p.3 (row p.0).arguments terms p.1 a p.2 p.4))
