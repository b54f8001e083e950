-- The values of the terms that laws are made of.
use Rattle.std.proofs.Common.{◌≡◌, ◌&&◌, ℤ, pos, ◌+ℤ◌, ◌-ℤ◌, List, [], ◌∷◌, ◌++◌, map, length, reverse, Some, refl, ap, ap₂, subst, ◌∙◌}
use Rattle.std.specs.Prelude.{option_and_then}
use Rattle.floyd_int.specs.declared.kinds.Value.{Value}
use Rattle.floyd_int.specs.declared.kinds.Value.TheVariants as v
use Rattle.floyd_tree_sorts.specs.declared.heads.Head.TheVariants as h
use Rattle.floyd_tree_sorts.specs.declared.heads.Width.TheVariants.{Bits32}
use Rattle.floyd_tree_sorts.specs.declared.operators.Operator.{Operator}
use Rattle.floyd_tree_sorts.specs.declared.operators.Operator.TheVariants as o
use Rattle.floyd_tree_sorts.specs.declared.sorts.Sort.{Sort, Z, Val as ValSort}
use Rattle.floyd_tree_sorts.specs.Operators.{row}
use Rattle.floyd_tree_sorts.specs.Sorts.{list_sort, same_sort}
use Rattle.floyd_tree_sorts.specs.Table.{by_row, sort_at, when}
use Rattle.floyd_tree_sorts.proofs.SortLemmas.{same_sort_self}
use Rattle.floyd_tree.specs.Plain.{Plain, At, Done, More}
use Rattle.floyd_tree.specs.WellSorted.{sort_of, with_first}
use Rattle.floyd_tree_values.specs.BuiltIns.{Env, operator_value}
use Rattle.floyd_tree_values.specs.Data.{Datum, Number, Val, seq, data_of, listed, number_in, default_of}
use Rattle.floyd_tree_values.specs.Defaults.{undefined}
use Rattle.floyd_tree_values.specs.Lists.{nth, upd, sublist, sum}
use Rattle.floyd_tree_values.specs.Means.{Defs, Means, built_in, none, more}
use Rattle.floyd_tree_values.specs.Numbers.{signed, unsigned}
use Rattle.floyd_tree_values.specs.Values.{vint}
use Rattle.floyd_tree_values.proofs.Sorted.{listed_data}

-- nodes with one, two or three kids
abbrev pub node1 : Operator → Plain → Plain
node1 operator a = At (h.Operator operator) (More a Done)

abbrev pub node2 : Operator → Plain → Plain → Plain
node2 operator a b = At (h.Operator operator) (More a (More b Done))

abbrev pub node3 : Operator → Plain → Plain → Plain → Plain
node3 operator a b c = At (h.Operator operator) (More a (More b (More c Done)))

abbrev pub as_vint : Datum → Datum
as_vint d = Val (vint (number_in d))

-- what stands for S is the same sort
once : (s r : Sort) → when (same_sort s s) r ≡ Some r
once s r = ap (λ b. when b r) (same_sort_self s)

twice : (s r : Sort) → when (same_sort s s && same_sort s s) r ≡ Some r
twice s r = ap (λ b. when (b && b) r) (same_sort_self s)

module _ (defs : Defs) (env : Env) where
  -- the term is of the sort, and has that value
  pub record Is (t : Plain) (s : Sort) (d : Datum) : Type 0 where
    pub sorted : sort_of t ≡ Some s
    pub means : Means defs env t d

  abbrev pub IsNumber : Plain → ℤ → Type 0
  IsNumber t z = Is t Z (Number z)

  abbrev pub IsVal : Plain → Value → Type 0
  IsVal t v = Is t ValSort (Val v)

  -- a list of these items, each of the sort
  pub record IsList (t : Plain) (s : Sort) (ds : List Datum) : Type 0 where
    pub is : Is t (list_sort s) (seq ds)

  of_one : (operator : Operator) (a : Plain) (p s : Sort) (x : Datum) → Is a p x → by_row (row operator) (p ∷ []) ≡ Some s → Is (node1 operator a) s (operator_value operator s x undefined undefined)
  of_one operator a p s x i e =
      let sorted : sort_of (node1 operator a) ≡ Some s = ap (λ u. option_and_then (by_row (row operator)) (with_first u (Some []))) i.sorted ∙ e in
      record { sorted = sorted; means = built_in refl sorted (more i.means none) }

  of_two : (operator : Operator) (a b : Plain) (p q s : Sort) (x y : Datum) → Is a p x → Is b q y → by_row (row operator) (p ∷ q ∷ []) ≡ Some s → Is (node2 operator a b) s (operator_value operator s x y undefined)
  of_two operator a b p q s x y i j e =
      let sorted : sort_of (node2 operator a b) ≡ Some s =
      ap₂ (λ u w. option_and_then (by_row (row operator)) (with_first u (with_first w (Some [])))) i.sorted j.sorted ∙ e in
      record { sorted = sorted; means = built_in refl sorted (more i.means (more j.means none)) }

  of_three : (operator : Operator) (a b c : Plain) (p q r s : Sort) (x y z : Datum) → Is a p x → Is b q y → Is c r z → by_row (row operator) (p ∷ q ∷ r ∷ []) ≡ Some s → Is (node3 operator a b c) s (operator_value operator s x y z)
  of_three operator a b c p q r s x y z i j k e =
      let sorted : sort_of (node3 operator a b c) ≡ Some s =
      ap₂ (λ u w. option_and_then (by_row (row operator)) (with_first u (with_first w (with_first (sort_of c) (Some []))))) i.sorted j.sorted
      ∙ ap (λ u. option_and_then (by_row (row operator)) (with_first (Some p) (with_first (Some q) (with_first u (Some []))))) k.sorted ∙ e in
      record { sorted = sorted; means = built_in refl sorted (more i.means (more j.means (more k.means none))) }

  -- numbers
  pub number : (z : ℤ) → IsNumber (At (h.Literal z) Done) z
  number z = record { sorted = refl; means = built_in refl refl none }

  pub plus : {a b : Plain} {x y : Datum} → Is a Z x → Is b Z y → IsNumber (node2 o.Add a b) (number_in x +ℤ number_in y)
  plus {a = a} {b = b} {x = x} {y = y} i j = of_two o.Add a b Z Z Z x y i j refl

  pub minus : {a b : Plain} {x y : ℤ} → IsNumber a x → IsNumber b y → IsNumber (node2 o.Sub a b) (x -ℤ y)
  minus {a = a} {b = b} {x = x} {y = y} i j = of_two o.Sub a b Z Z Z (Number x) (Number y) i j refl

  pub next : {a : Plain} {x : ℤ} → IsNumber a x → IsNumber (node2 o.Add a (At (h.Literal (pos 1)) Done)) (x +ℤ pos 1)
  next i = plus i (number (pos 1))

  pub signed32 : {a : Plain} {x : ℤ} → IsNumber a x → IsNumber (At (h.Signed Bits32) (More a Done)) (signed Bits32 x)
  signed32 {a = a} i =
      let sorted : sort_of (At (h.Signed Bits32) (More a Done)) ≡ Some Z = ap (λ u. option_and_then (sort_at (h.Signed Bits32)) (with_first u (Some []))) i.sorted in
      record { sorted = sorted; means = built_in refl sorted (more i.means none) }

  pub unsigned32 : {a : Plain} {x : ℤ} → IsNumber a x → IsNumber (At (h.Unsigned Bits32) (More a Done)) (unsigned Bits32 x)
  unsigned32 {a = a} i =
      let sorted : sort_of (At (h.Unsigned Bits32) (More a Done)) ≡ Some Z = ap (λ u. option_and_then (sort_at (h.Unsigned Bits32)) (with_first u (Some []))) i.sorted in
      record { sorted = sorted; means = built_in refl sorted (more i.means none) }

  -- values
  pub vint_of : {a : Plain} {x : ℤ} → IsNumber a x → IsVal (node1 o.Vint a) (vint x)
  vint_of {a = a} {x = x} i = of_one o.Vint a Z ValSort (Number x) i refl

  pub nullval : IsVal (At (h.Operator o.Nullval) Done) (v.Vlong 0)
  nullval = record { sorted = refl; means = built_in refl refl none }

  -- lists
  pub nil : (s : Sort) → IsList (At (h.Nil s) Done) s []
  nil s = record { is = record { sorted = refl; means = built_in refl refl none } }

  pub len : {s : Sort} {a : Plain} {xs : List Datum} → IsList a s xs → IsNumber (node1 o.Len a) (pos (length xs))
  len {s = s} {a = a} {xs = xs} i = subst (λ ys. IsNumber (node1 o.Len a) (pos (length ys))) (listed_data xs) (of_one o.Len a (list_sort s) Z (seq xs) i.is (once s Z))

  pub rev : {s : Sort} {a : Plain} {xs : List Datum} → IsList a s xs → IsList (node1 o.Rev a) s (reverse xs)
  rev {s = s} {a = a} {xs = xs} i =
      subst (λ ys. IsList (node1 o.Rev a) s (reverse ys)) (listed_data xs) (record { is = of_one o.Rev a (list_sort s) (list_sort s) (seq xs) i.is (once s (list_sort s)) })

  pub sum_of : {a : Plain} {xs : List Datum} → IsList a Z xs → IsNumber (node1 o.Sum a) (sum xs)
  sum_of {a = a} {xs = xs} i = subst (λ ys. IsNumber (node1 o.Sum a) (sum ys)) (listed_data xs) (of_one o.Sum a (list_sort Z) Z (seq xs) i.is refl)

  pub vints : {a : Plain} {xs : List Datum} → IsList a Z xs → IsList (node1 o.Vints a) ValSort (map as_vint xs)
  vints {a = a} {xs = xs} i =
      subst (λ ys. IsList (node1 o.Vints a) ValSort (map as_vint ys)) (listed_data xs) (record { is = of_one o.Vints a (list_sort Z) (list_sort ValSort) (seq xs) i.is refl })

  pub nth_of : {s : Sort} {a b : Plain} {x : ℤ} {ys : List Datum} → IsNumber a x → IsList b s ys → Is (node2 o.Nth a b) s (nth (default_of s) x ys)
  nth_of {s = s} {a = a} {b = b} {x = x} {ys = ys} i j =
      subst (λ zs. Is (node2 o.Nth a b) s (nth (default_of s) x zs)) (listed_data ys) (of_two o.Nth a b Z (list_sort s) s (Number x) (seq ys) i j.is (once s s))

  pub cons : {s : Sort} {a b : Plain} {d : Datum} {ys : List Datum} → Is a s d → IsList b s ys → IsList (node2 o.Cons a b) s (d ∷ ys)
  cons {s = s} {a = a} {b = b} {d = d} {ys = ys} i j =
      subst (λ zs. IsList (node2 o.Cons a b) s (d ∷ zs)) (listed_data ys) (record { is = of_two o.Cons a b s (list_sort s) (list_sort s) d (seq ys) i j.is (twice s (list_sort s)) })

  pub append : {s : Sort} {a b : Plain} {xs ys : List Datum} → IsList a s xs → IsList b s ys → IsList (node2 o.Append a b) s (xs ++ ys)
  append {s = s} {a = a} {b = b} {xs = xs} {ys = ys} i j =
      subst (λ us. IsList (node2 o.Append a b) s (us ++ ys)) (listed_data xs)
      (subst (λ zs. IsList (node2 o.Append a b) s (listed (data_of xs) ++ zs)) (listed_data ys)
      (record { is = of_two o.Append a b (list_sort s) (list_sort s) (list_sort s) (seq xs) (seq ys) i.is j.is (twice s (list_sort s)) }))

  pub upd_of : {s : Sort} {a b c : Plain} {x : ℤ} {d : Datum} {zs : List Datum} → IsNumber a x → Is b s d → IsList c s zs → IsList (node3 o.Upd a b c) s (upd x d zs)
  upd_of {s = s} {a = a} {b = b} {c = c} {x = x} {d = d} {zs = zs} i j k =
      subst (λ us. IsList (node3 o.Upd a b c) s (upd x d us)) (listed_data zs)
      (record { is = of_three o.Upd a b c Z s (list_sort s) (list_sort s) (Number x) d (seq zs) i j k.is (twice s (list_sort s)) })

  pub sublist_of : {s : Sort} {a b c : Plain} {x y : ℤ} {zs : List Datum} → IsNumber a x → IsNumber b y → IsList c s zs → IsList (node3 o.Sublist a b c) s (sublist x y zs)
  sublist_of {s = s} {a = a} {b = b} {c = c} {x = x} {y = y} {zs = zs} i j k =
      subst (λ us. IsList (node3 o.Sublist a b c) s (sublist x y us)) (listed_data zs)
      (record { is = of_three o.Sublist a b c Z Z (list_sort s) (list_sort s) (Number x) (Number y) (seq zs) i j k.is (once s (list_sort s)) })
