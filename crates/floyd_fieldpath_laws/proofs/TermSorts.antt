-- The sorts of the terms that are written along a path, and of the kids of values.
use Rattle.std.proofs.Common.{◌≡◌, Bool, true, false, ◌&&◌, List, [], ◌∷◌, Option, Some, None, Result, Ok, Err, refl, sym, ◌∙◌, ap, ap₂, subst, is_some}
use Rattle.std.specs.Prelude.{option_and_then, if◌then◌else◌}
use Rattle.std.proofs.lemmas.Option.{same_Some}
use Rattle.floyd_text.specs.declared.refusal.No.{No}
use Rattle.floyd_tree_sorts.specs.declared.heads.Head.TheVariants as h
use Rattle.floyd_tree_sorts.specs.declared.operators.Operator.{Operator}
use Rattle.floyd_tree_sorts.specs.declared.operators.Operator.TheVariants.{Fst, Snd, Nth, Pair, Upd, Vint, Vints, Vlong, Vlongs}
use Rattle.floyd_tree_sorts.specs.declared.sorts.Sort.{Sort, Z, Val}
use Rattle.floyd_tree_sorts.specs.Operators.{row}
use Rattle.floyd_tree_sorts.specs.Sorts.{first_sort, list_sort, pair_sort, second_sort}
use Rattle.floyd_tree_sorts.specs.Table.{by_row, when}
use Rattle.floyd_tree_sorts.proofs.SortLemmas.{same_sort_self}
use Rattle.floyd_tree_sorts.proofs.RowLemmas.{row_taken}
use Rattle.floyd_tree.specs.Made.{fits}
use Rattle.floyd_tree.specs.Plain.{Plain, Plains, At, Done, More}
use Rattle.floyd_tree.specs.WellSorted.{sort_of, sorts_of, with_first}
use Rattle.floyd_fieldpath.specs.Projections.{is_ints, is_longs, kid_under, one}
use Rattle.floyd_fieldpath.specs.Sums.{two}
use Rattle.floyd_fieldpath.specs.Updates.{is_int, is_long, three}
use Rattle.floyd_fieldpath.specs.Written.{ill_sorted, on_ok, too_large, written}
use Rattle.floyd_fieldpath_laws.specs.Conditions.{Answers}

-- ---- answers

-- a term of a sort is written, unless it is beyond the limits
pub made : (s : Sort) (t : Plain) → sort_of t ≡ Some s → Answers s (written t)
made s t e = subst (λ o. Answers s (if is_some o then (if fits t then Ok t else Err too_large) else Err ill_sorted)) (sym e) (by (fits t))
  where
    by : (b : Bool) → Answers s (if b then Ok t else Err too_large)
    by true = e
    by false = refl

pub next : (a b : Sort) (d : Result Plain No) (f : Plain → Result Plain No) → Answers a d → ((t : Plain) → sort_of t ≡ Some a → Answers b (f t)) → Answers b (on_ok d f)
next a b (Ok t) f e g = g t e
next a b (Err refusal) f e g = e

-- ---- operators

module _ (operator : Operator) (s : Sort) where
  pub one_sort : (a : Sort) (v : Plain) → sort_of v ≡ Some a → by_row (row operator) (a ∷ []) ≡ Some s → sort_of (one operator v) ≡ Some s
  one_sort a v e r = ap (λ o. option_and_then (by_row (row operator)) (with_first o (Some []))) e ∙ r

  pub two_sort : (a b : Sort) (v w : Plain) → sort_of v ≡ Some a → sort_of w ≡ Some b → by_row (row operator) (a ∷ b ∷ []) ≡ Some s → sort_of (two operator v w) ≡ Some s
  two_sort a b v w e f r = ap₂ (λ o p. option_and_then (by_row (row operator)) (with_first o (with_first p (Some [])))) e f ∙ r

  pub three_sort : (a b c : Sort) (v w x : Plain) → sort_of v ≡ Some a → sort_of w ≡ Some b → sort_of x ≡ Some c → by_row (row operator) (a ∷ b ∷ c ∷ []) ≡ Some s → sort_of (three operator v w x) ≡ Some s
  three_sort a b c v w x e f g r =
      ap₂ (λ o p. option_and_then (by_row (row operator)) (with_first o (with_first p (with_first (sort_of x) (Some []))))) e f
      ∙ ap (λ q. option_and_then (by_row (row operator)) (with_first (Some a) (with_first (Some b) (with_first q (Some []))))) g ∙ r

pub fst_row : (a b : Sort) → by_row (row Fst) (pair_sort a b ∷ []) ≡ Some a
fst_row a b = ap (λ t. when t a) (same_sort_self (pair_sort a b))

pub snd_row : (a b : Sort) → by_row (row Snd) (pair_sort a b ∷ []) ≡ Some b
snd_row a b = ap (λ t. when t b) (same_sort_self (pair_sort a b))

pub pair_row : (a b : Sort) → by_row (row Pair) (a ∷ b ∷ []) ≡ Some (pair_sort a b)
pair_row a b = ap₂ (λ t u. when (t && u) (pair_sort a b)) (same_sort_self a) (same_sort_self b)

pub nth_row : (a : Sort) → by_row (row Nth) (Z ∷ list_sort a ∷ []) ≡ Some a
nth_row a = ap (λ t. when t a) (same_sort_self a)

pub upd_row : (a : Sort) → by_row (row Upd) (Z ∷ a ∷ list_sort a ∷ []) ≡ Some (list_sort a)
upd_row a = ap (λ t. when (t && t) (list_sort a)) (same_sort_self a)

-- ---- kids

and_then_some : (f : List Sort → Option Sort) (o : Option (List Sort)) (s : Sort) → option_and_then f o ≡ Some s → (ss : List Sort) × (o ≡ Some ss) × (f ss ≡ Some s)
and_then_some f (Some ss) s e = (ss, refl, e)
and_then_some f None s e = absurd cc

first_some : (o : Option Sort) (p : Option (List Sort)) (a : Sort) (rest : List Sort) → with_first o p ≡ Some (a ∷ rest) → (o ≡ Some a) × (p ≡ Some rest)
first_some (Some b) (Some more) a rest e = (cc, cc)
first_some (Some b) None a rest e = absurd cc
first_some None p a rest e = absurd cc

no_sorts : (o : Option Sort) (p : Option (List Sort)) → with_first o p ≡ Some [] → ⊥
no_sorts (Some b) (Some more) e = cc
no_sorts (Some b) None e = cc
no_sorts None p e = cc

-- the kids of an operator have the sorts that its row takes
pub taken : (operator : Operator) (kids : Plains) (r : Sort) → sort_of (At (h.Operator operator) kids) ≡ Some r → (sorts : List Sort) × (sorts_of kids ≡ Some sorts) × (by_row (row operator) sorts ≡ Some r)
taken operator kids r e = and_then_some (by_row (row operator)) (sorts_of kids) r e

pub record OneKid (kids : Plains) (a : Sort) : Type 0 where
  pub kid : Plain
  pub is : kids ≡ More kid Done
  pub sort : sort_of kid ≡ Some a

pub one_kid : (kids : Plains) (a : Sort) → sorts_of kids ≡ Some (a ∷ []) → OneKid kids a
one_kid Done a e = absurd cc
one_kid (More x Done) a e = record { kid = x; is = refl; sort = (first_some (sort_of x) (Some []) a [] e).0 }
one_kid (More x (More y rest)) a e = absurd (no_sorts (sort_of y) (sorts_of rest) (first_some (sort_of x) (sorts_of (More y rest)) a [] e).1)

pub record TwoKids (kids : Plains) (a b : Sort) : Type 0 where
  pub first : Plain
  pub second : Plain
  pub is : kids ≡ More first (More second Done)
  pub first_sort : sort_of first ≡ Some a
  pub second_sort : sort_of second ≡ Some b

pub two_kids : (kids : Plains) (a b : Sort) → sorts_of kids ≡ Some (a ∷ b ∷ []) → TwoKids kids a b
two_kids Done a b e = absurd cc
two_kids (More x rest) a b e =
    let p = first_some (sort_of x) (sorts_of rest) a (b ∷ []) e in
    let k = one_kid rest b p.1 in
    record { first = x; second = k.kid; is = ap (More x) k.is; first_sort = p.0; second_sort = k.sort }

-- an operator of one argument has one kid
alone : (operator : Operator) (kids : Plains) (r a : Sort) → ((sorts : List Sort) → by_row (row operator) sorts ≡ Some r → a ∷ [] ≡ sorts) → sort_of (At (h.Operator operator) kids) ≡ Some r → OneKid kids a
alone operator kids r a takes e =
    let t = taken operator kids r e in
    one_kid kids a (t.1 ∙ ap Some (sym (takes t.0 t.2)))

pub ints_alone : (kids : Plains) (r : Sort) → sort_of (At (h.Operator Vints) kids) ≡ Some r → OneKid kids (list_sort Z)
ints_alone kids r e = alone Vints kids r (list_sort Z) (λ sorts f. (row_taken (row Vints) sorts r f).2) e

pub longs_alone : (kids : Plains) (r : Sort) → sort_of (At (h.Operator Vlongs) kids) ≡ Some r → OneKid kids (list_sort Z)
longs_alone kids r e = alone Vlongs kids r (list_sort Z) (λ sorts f. (row_taken (row Vlongs) sorts r f).2) e

pub int_alone : (kids : Plains) (r : Sort) → sort_of (At (h.Operator Vint) kids) ≡ Some r → OneKid kids Z
int_alone kids r e = alone Vint kids r Z (λ sorts f. (row_taken (row Vint) sorts r f).2) e

pub long_alone : (kids : Plains) (r : Sort) → sort_of (At (h.Operator Vlong) kids) ≡ Some r → OneKid kids Z
long_alone kids r e = alone Vlong kids r Z (λ sorts f. (row_taken (row Vlong) sorts r f).2) e

module _ (k : Plain) (s : Sort) where
  pub ints_kid : (v : Plain) → kid_under is_ints 0 v ≡ Some k → sort_of v ≡ Some s → (sort_of k ≡ Some (list_sort Z)) × (s ≡ list_sort Val)
  ints_kid (At (h.Operator Vints) kids) e f =
      let t = taken Vints kids s f in
      let r = row_taken (row Vints) t.0 s t.2 in
      let o = one_kid kids (list_sort Z) (t.1 ∙ ap Some (sym r.2)) in
      let same : Some o.kid ≡ Some k = ap (λ ks. kid_under is_ints 0 (At (h.Operator Vints) ks)) (sym o.is) ∙ e in
      let kid : o.kid ≡ k = cc in
      (ap sort_of (sym kid) ∙ o.sort, sym r.3)
  ints_kid (At head kids) e f = absurd cc

  pub longs_kid : (v : Plain) → kid_under is_longs 0 v ≡ Some k → sort_of v ≡ Some s → (sort_of k ≡ Some (list_sort Z)) × (s ≡ list_sort Val)
  longs_kid (At (h.Operator Vlongs) kids) e f =
      let t = taken Vlongs kids s f in
      let r = row_taken (row Vlongs) t.0 s t.2 in
      let o = one_kid kids (list_sort Z) (t.1 ∙ ap Some (sym r.2)) in
      let same : Some o.kid ≡ Some k = ap (λ ks. kid_under is_longs 0 (At (h.Operator Vlongs) ks)) (sym o.is) ∙ e in
      let kid : o.kid ≡ k = cc in
      (ap sort_of (sym kid) ∙ o.sort, sym r.3)
  longs_kid (At head kids) e f = absurd cc

  pub int_kid : (v : Plain) → kid_under is_int 0 v ≡ Some k → sort_of v ≡ Some s → sort_of k ≡ Some Z
  int_kid (At (h.Operator Vint) kids) e f =
      let t = taken Vint kids s f in
      let r = row_taken (row Vint) t.0 s t.2 in
      let o = one_kid kids Z (t.1 ∙ ap Some (sym r.2)) in
      let same : Some o.kid ≡ Some k = ap (λ ks. kid_under is_int 0 (At (h.Operator Vint) ks)) (sym o.is) ∙ e in
      let kid : o.kid ≡ k = cc in
      ap sort_of (sym kid) ∙ o.sort
  int_kid (At head kids) e f = absurd cc

  pub long_kid : (v : Plain) → kid_under is_long 0 v ≡ Some k → sort_of v ≡ Some s → sort_of k ≡ Some Z
  long_kid (At (h.Operator Vlong) kids) e f =
      let t = taken Vlong kids s f in
      let r = row_taken (row Vlong) t.0 s t.2 in
      let o = one_kid kids Z (t.1 ∙ ap Some (sym r.2)) in
      let same : Some o.kid ≡ Some k = ap (λ ks. kid_under is_long 0 (At (h.Operator Vlong) ks)) (sym o.is) ∙ e in
      let kid : o.kid ≡ k = cc in
      ap sort_of (sym kid) ∙ o.sort
  long_kid (At head kids) e f = absurd cc

-- the sorts of a pair are found again
first_same : (a b c d : Sort) → pair_sort a b ≡ pair_sort c d → (a ≡ c) × (b ≡ d)
first_same a b c d e = (same_Some a c (ap first_sort e), same_Some b d (ap second_sort e))

pub pair_kids : (kids : Plains) (a b : Sort) → sort_of (At (h.Operator Pair) kids) ≡ Some (pair_sort a b) → TwoKids kids a b
pair_kids kids a b e =
    let t = taken Pair kids (pair_sort a b) e in
    let r = row_taken (row Pair) t.0 (pair_sort a b) t.2 in
    let s = first_same r.0 r.1 a b r.3 in
    subst (λ x. TwoKids kids x b) s.0 (subst (λ y. TwoKids kids r.0 y) s.1 (two_kids kids r.0 r.1 (t.1 ∙ ap Some (sym r.2))))
