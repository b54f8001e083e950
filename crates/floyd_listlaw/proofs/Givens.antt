-- The arguments of a law that fit have values of their sorts.
use Rattle.std.proofs.Common.{◌≡◌, ℕ, Bool, true, false, cond, ℤ, List, [], ◌∷◌, Option, Some, None, Result, Ok, Err, All, refl, sym, ap, subst, ◌∙◌}
use Rattle.std.specs.Prelude.{nat_eq, length, option_and_then}
use Rattle.std.proofs.lemmas.List.Elements.{All-head, All-tail}
use Rattle.floyd_int.specs.declared.kinds.Value.{Value}
use Rattle.floyd_text.specs.declared.refusal.No.{No}
use Rattle.floyd_tree_sorts.specs.declared.operators.RowSort.{RowSort}
use Rattle.floyd_tree_sorts.specs.declared.sorts.Sort.{Sort, Z, Val as ValSort}
use Rattle.floyd_tree_sorts.specs.Sorts.{list_sort, same_sort}
use Rattle.floyd_tree_sorts.specs.Table.{found, s_in, written}
use Rattle.floyd_tree_sorts.proofs.SortLemmas.{both_true, same_sort_true}
use Rattle.floyd_tree.specs.declared.stop.MakeStop.{MakeStop}
use Rattle.floyd_tree.specs.Formulas.{formulas}
use Rattle.floyd_tree.specs.MadeFormulas.{formula_faults}
use Rattle.floyd_tree.specs.Plain.{Plain, plains}
use Rattle.floyd_tree.specs.WellSorted.{sort_of, sorts_of, with_first}
use Rattle.floyd_tree_values.specs.BuiltIns.{Env}
use Rattle.floyd_tree_values.specs.Data.{Datum, Data, Number, Val, Seq, Tree, Pair, Empty, Item, data_of, listed, HasSort}
use Rattle.floyd_tree_values.specs.Means.{Defs}
use Rattle.floyd_tree_values.specs.Rules.{Scope, Suits, DefsKeep}
use Rattle.floyd_tree_values.proofs.AllFuns.{a_value}
use Rattle.floyd_listlaw.specs.declared.instance.Law.{Law}
use Rattle.floyd_listlaw.specs.declared.list_law.ListLaw.{ListLaw}
use Rattle.floyd_listlaw.specs.Instances.{within, says, formulas_in, fit_all, fixed_by, in_sort, by_row, by_law}
use Rattle.floyd_listlaw.specs.Laws.{IsTerm}
use Rattle.floyd_listlaw.specs.Table.{Row, row}
use Rattle.floyd_listlaw.proofs.Values.{Is, IsNumber, IsVal, IsList}

data_listed : (items : Data) → data_of (listed items) ≡ items
data_listed Empty = refl
data_listed (Item d items) = ap (λ x. Item d x) (data_listed items)

first_some : (o : Option Sort) (p : Option (List Sort)) (ss : List Sort) → with_first o p ≡ Some ss → (a : Sort) × (rest : List Sort) × (o ≡ Some a) × (p ≡ Some rest) × (a ∷ rest ≡ ss)
first_some (Some a) (Some rest) ss e = (a, rest, refl, refl, cc)
first_some (Some a) None ss e = absurd cc
first_some None p ss e = absurd cc

module _ (defs : Defs) (env : Env) where
  -- a value of the sort
  abbrev pub Valued : Plain → Sort → Type 0
  Valued t s = (d : Datum) × Is defs env t s d × HasSort s d

  pub a_number : (t : Plain) → Valued t Z → (z : ℤ) × IsNumber defs env t z
  a_number t v = from v.0 v.1 v.2
    where
      from : (d : Datum) → Is defs env t Z d → HasSort Z d → (z : ℤ) × IsNumber defs env t z
      from (Number z) i h = (z, i)
      from (Val w) i h = absurd h
      from (Seq items) i h = absurd h
      from (Tree tree) i h = absurd h
      from (Pair a b) i h = absurd h

  pub a_val : (t : Plain) → Valued t ValSort → (w : Value) × IsVal defs env t w
  a_val t v = from v.0 v.1 v.2
    where
      from : (d : Datum) → Is defs env t ValSort d → HasSort ValSort d → (w : Value) × IsVal defs env t w
      from (Val w) i h = (w, i)
      from (Number z) i h = absurd h
      from (Seq items) i h = absurd h
      from (Tree tree) i h = absurd h
      from (Pair a b) i h = absurd h

  pub a_list : (t : Plain) (s : Sort) → Valued t (list_sort s) → (ds : List Datum) × IsList defs env t s ds
  a_list t s v = from v.0 v.1 v.2
    where
      from : (d : Datum) → Is defs env t (list_sort s) d → HasSort (list_sort s) d → (ds : List Datum) × IsList defs env t s ds
      from (Seq items) i h = (listed items, record { is = subst (λ x. Is defs env t (list_sort s) (Seq x)) (sym (data_listed items)) i })
      from (Val w) i h = absurd h
      from (Number z) i h = absurd h
      from (Tree tree) i h = absurd h
      from (Pair a b) i h = absurd h

  -- the terms have values of these sorts
  abbrev pub HaveValues : Sort → List RowSort → List Plain → Type 0
  HaveValues s [] [] = Unit {0}
  HaveValues s [] (t ∷ ts) = ⊥
  HaveValues s (form ∷ forms) [] = ⊥
  HaveValues s (form ∷ forms) (t ∷ ts) = Valued t (written s Z form) × HaveValues s forms ts

  pub none : (s : Sort) (P : List Plain → Type 0) → P [] → (ts : List Plain) → HaveValues s [] ts → P ts
  none s P f [] h = f
  none s P f (t ∷ ts) h = absurd h

  pub one : (s : Sort) (p : RowSort) (P : List Plain → Type 0) → ((a : Plain) → Valued a (written s Z p) → P (a ∷ [])) → (ts : List Plain) → HaveValues s (p ∷ []) ts → P ts
  one s p P f [] h = absurd h
  one s p P f (a ∷ ts) h = none s (λ us. P (a ∷ us)) (f a h.0) ts h.1

  pub two : (s : Sort) (p q : RowSort) (P : List Plain → Type 0) → ((a b : Plain) → Valued a (written s Z p) → Valued b (written s Z q) → P (a ∷ b ∷ [])) → (ts : List Plain) → HaveValues s (p ∷ q ∷ []) ts → P ts
  two s p q P f [] h = absurd h
  two s p q P f (a ∷ ts) h = one s q (λ us. P (a ∷ us)) (λ b v. f a b h.0 v) ts h.1

  pub three : (s : Sort) (p q r : RowSort) (P : List Plain → Type 0) → ((a b c : Plain) → Valued a (written s Z p) → Valued b (written s Z q) → Valued c (written s Z r) → P (a ∷ b ∷ c ∷ [])) → (ts : List Plain) → HaveValues s (p ∷ q ∷ r ∷ []) ts → P ts
  three s p q r P f [] h = absurd h
  three s p q r P f (a ∷ ts) h = two s q r (λ us. P (a ∷ us)) (λ b c v w. f a b c h.0 v w) ts h.1

  pub four : (s : Sort) (p q r o : RowSort) (P : List Plain → Type 0) → ((a b c d : Plain) → Valued a (written s Z p) → Valued b (written s Z q) → Valued c (written s Z r) → Valued d (written s Z o) → P (a ∷ b ∷ c ∷ d ∷ [])) → (ts : List Plain) → HaveValues s (p ∷ q ∷ r ∷ o ∷ []) ts → P ts
  four s p q r o P f [] h = absurd h
  four s p q r o P f (a ∷ ts) h = three s q r o (λ us. P (a ∷ us)) (λ b c d v w x. f a b c d h.0 v w x) ts h.1

module _ (defs : Defs) (scope : Scope) (env : Env) (keeps : DefsKeep defs) (suits : Suits scope env) where
  valued : (t : Plain) (s : Sort) → IsTerm defs scope t → sort_of t ≡ Some s → Valued defs env t s
  valued t s i e =
      let v = a_value defs scope env i.0 t keeps suits i.1 in
      let own : sort_of t ≡ Some i.0 = i.1.sorted in
      let same : i.0 ≡ s = cc (own, e) in
      (v.0, record { sorted = e; means = v.1 }, subst (λ x. HasSort x v.0) same v.2)

  pub values : (s : Sort) (forms : List RowSort) (ts : List Plain) (sorts : List Sort) → All (IsTerm defs scope) ts → sorts_of (plains ts) ≡ Some sorts → fit_all s forms sorts ≡ true → HaveValues defs env s forms ts
  values s [] [] sorts a e f = tt
  values s [] (t ∷ ts) sorts a e f =
      let p = first_some (sort_of t) (sorts_of (plains ts)) sorts e in
      let wrong : fit_all s [] (p.0 ∷ p.1) ≡ true = subst (λ x. fit_all s [] x ≡ true) (sym p.4) f in
      absurd cc
  values s (form ∷ forms) [] sorts a e f =
      let no : [] ≡ sorts = cc in
      let wrong : fit_all s (form ∷ forms) [] ≡ true = subst (λ x. fit_all s (form ∷ forms) x ≡ true) (sym no) f in
      absurd cc
  values s (form ∷ forms) (t ∷ ts) sorts a e f =
      let p = first_some (sort_of t) (sorts_of (plains ts)) sorts e in
      let here : fit_all s (form ∷ forms) (p.0 ∷ p.1) ≡ true = subst (λ x. fit_all s (form ∷ forms) x ≡ true) (sym p.4) f in
      let both = both_true (same_sort (written s Z form) p.0) (fit_all s forms p.1) here in (
        valued t (written s Z form) (All-head (IsTerm defs scope) t ts a) (p.2 ∙ ap (λ x. Some x) (sym (same_sort_true (written s Z form) p.0 both.0))),
        values s forms ts p.1 (All-tail (IsTerm defs scope) t ts a) p.3 both.1,
      )

-- an instance comes from a row whose sorts the terms fit
named : (name : List ℕ) (ts : List Plain) (law : Law) (o : Option ListLaw) → by_law name ts o ≡ Ok law → (l : ListLaw) × (by_row (row l) ts ≡ Ok law)
named name ts law None e = absurd cc
named name ts law (Some l) e = (l, e)

counted : (law : Law) (b : Bool) (x : Result Law No) (refusal : No) → cond b x (Err refusal) ≡ Ok law → x ≡ Ok law
counted law true x refusal e = e
counted law false x refusal e = absurd cc

made : (law w : Law) (o : Option MakeStop) → within o w ≡ Ok law → w ≡ law
made law w None e = cc
made law w (Some stop) e = absurd cc

fixed : (s : Sort) (b : Bool) (found : Sort) → cond b (Some found) None ≡ Some s → (b ≡ true) × (found ≡ s)
fixed s true found e = (refl, cc)
fixed s false found e = absurd cc

fitted : (forms : List RowSort) (s : Sort) (o : Option (List Sort)) → option_and_then (fixed_by forms) o ≡ Some s → (sorts : List Sort) × (o ≡ Some sorts) × (fit_all s forms sorts ≡ true)
fitted forms s None e = absurd cc
fitted forms s (Some sorts) e =
    let p = fixed s (fit_all (found s_in forms sorts) forms sorts) (found s_in forms sorts) e in
    (sorts, refl, subst (λ x. fit_all x forms sorts ≡ true) p.1 p.0)

sorted : (r : Row) (ts : List Plain) (law : Law) (o : Option Sort) → in_sort r ts o ≡ Ok law → (s : Sort) × (o ≡ Some s) × (says r s ts ≡ law)
sorted r ts law None e = absurd cc
sorted r ts law (Some s) e = (s, refl, made law (says r s ts) (formula_faults (formulas (formulas_in (says r s ts)))) e)

pub comes_from : (name : List ℕ) (ts : List Plain) (law : Law) (o : Option ListLaw) → by_law name ts o ≡ Ok law →
    (l : ListLaw) × (sorts : List Sort) × (sorts_of (plains ts) ≡ Some sorts) × (s : Sort) × (fit_all s (row l).arguments sorts ≡ true) × (says (row l) s ts ≡ law)
comes_from name ts law o e =
    let n = named name ts law o e in
    let r = row n.0 in
    let fixing = option_and_then (fixed_by r.arguments) (sorts_of (plains ts)) in
    let p = sorted r ts law fixing (counted law (nat_eq (length ts) (length r.arguments)) (in_sort r ts fixing) _ n.1) in
    let q = fitted r.arguments p.0 (sorts_of (plains ts)) p.1 in
    (n.0, q.0, q.1, p.0, q.2, p.2)
