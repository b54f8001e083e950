-- The values of the terms of a well-formed formula.
use Rattle.std.proofs.Common.{◌≡◌, ℕ, true, List, ◌∷◌, Option, Some, None, ℤ, refl}
use Rattle.floyd_int.specs.declared.kinds.Value.{Value}
use Rattle.floyd_tree_sorts.specs.declared.connectives.FormulaHead.{FormulaHead}
use Rattle.floyd_tree_sorts.specs.declared.sorts.Sort.{Sort, Z, Val as ValSort}
use Rattle.floyd_tree_sorts.specs.Sorts.{is_z, is_val}
use Rattle.floyd_tree_sorts.specs.Rows.{takes}
use Rattle.floyd_tree.specs.Formulas.{PlainFormulas, Says, takes_all, well_sorted, all_well_sorted, listed_formulas}
use Rattle.floyd_tree.specs.Plain.{Plain, Plains, More}
use Rattle.floyd_tree.specs.WellSorted.{sort_of, sorts_of, with_first}
use Rattle.floyd_tree_sorts.proofs.SortLemmas.{both_true}
use Rattle.floyd_tree_values.specs.BuiltIns.{Env}
use Rattle.floyd_tree_values.specs.Data.{Datum, Number, Val, Seq, Tree, Pair, HasSort}
use Rattle.floyd_tree_values.specs.Means.{Defs, Means}
use Rattle.floyd_tree_values.specs.Rules.{Scope, Suits, CallsOf, EachAllowed, DefsKeep}
use Rattle.floyd_tree_values.proofs.AllFuns.{a_value}
use Rattle.floyd_tree_values.proofs.TermValues.{Valued}
use Rattle.std.specs.Prelude.{length}

pub first_some : (o : Option Sort) (p : Option (List Sort)) (ss : List Sort) → with_first o p ≡ Some ss → (a : Sort) × (rest : List Sort) × (o ≡ Some a) × (p ≡ Some rest) × (ss ≡ a ∷ rest)
first_some (Some a) (Some rest) ss e = (a, rest, refl, refl, cc)
first_some (Some a) None ss e = absurd cc
first_some None p ss e = absurd cc

-- the sorts of the terms of a formula, which its head takes
pub record Sorted (head : FormulaHead) (terms : Plains) (n : ℕ) : Type 0 where
  pub sorts : List Sort
  pub are : sorts_of terms ≡ Some sorts
  pub taken : takes head sorts n ≡ true

taken_some : (head : FormulaHead) (terms : Plains) (n : ℕ) (o : Option (List Sort)) → sorts_of terms ≡ o → takes_all head o n ≡ true → Sorted head terms n
taken_some head terms n (Some sorts) e h = record { sorts = sorts; are = e; taken = h }
taken_some head terms n None e h = absurd cc

pub sorted : (head : FormulaHead) (terms : Plains) (kids : PlainFormulas) → well_sorted (Says head terms kids) ≡ true → Sorted head terms (length (listed_formulas kids))
sorted head terms kids h =
    let p = both_true (takes_all head (sorts_of terms) (length (listed_formulas kids))) (all_well_sorted kids) h in
    taken_some head terms (length (listed_formulas kids)) (sorts_of terms) refl p.0

pub is_z_is : (s : Sort) → is_z s ≡ true → s ≡ Z
is_z_is Z h = refl
is_z_is s h = absurd cc

pub is_val_is : (s : Sort) → is_val s ≡ true → s ≡ ValSort
is_val_is ValSort h = refl
is_val_is s h = absurd cc

module _ (defs : Defs) (scope : Scope) (env : Env) (keeps : DefsKeep defs) (suits : Suits scope env) where
  pub valued : (t : Plain) (s : Sort) → EachAllowed defs.structs scope (CallsOf defs.funs) t → sort_of t ≡ Some s → Valued defs env t s
  valued t s a e = a_value defs scope env s t keeps suits (record { sorted = e; allowed = a })

  -- a term of some sort has a value
  pub some_value : (t : Plain) (ts : Plains) (sorts : List Sort) → sorts_of (More t ts) ≡ Some sorts → EachAllowed defs.structs scope (CallsOf defs.funs) t → (d : Datum) × Means defs env t d
  some_value t ts sorts e a =
      let p = first_some (sort_of t) (sorts_of ts) sorts e in
      let v = valued t p.0 a p.2 in
      (v.0, v.1)

  pub a_number : (t : Plain) → EachAllowed defs.structs scope (CallsOf defs.funs) t → sort_of t ≡ Some Z → (z : ℤ) × Means defs env t (Number z)
  a_number t a e = let v = valued t Z a e in from v.0 v.1 v.2
    where
      from : (d : Datum) → Means defs env t d → HasSort Z d → (z : ℤ) × Means defs env t (Number z)
      from (Number z) m h = (z, m)
      from (Val w) m h = absurd h
      from (Seq items) m h = absurd h
      from (Tree tree) m h = absurd h
      from (Pair a b) m h = absurd h

  pub a_val : (t : Plain) → EachAllowed defs.structs scope (CallsOf defs.funs) t → sort_of t ≡ Some ValSort → (w : Value) × Means defs env t (Val w)
  a_val t a e = let v = valued t ValSort a e in from v.0 v.1 v.2
    where
      from : (d : Datum) → Means defs env t d → HasSort ValSort d → (w : Value) × Means defs env t (Val w)
      from (Val w) m h = (w, m)
      from (Number z) m h = absurd h
      from (Seq items) m h = absurd h
      from (Tree tree) m h = absurd h
      from (Pair a b) m h = absurd h
