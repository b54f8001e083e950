-- A term that fits has a value of its sort, where the calls in it have.
use Rattle.std.proofs.Common.{◌≡◌, ℕ, Bool, true, false, List, [], ◌∷◌, map, Option, Some, None, refl, sym, ap, subst, ◌∙◌, arith}
use Rattle.std.specs.Prelude.{option_and_then}
use Rattle.std.proofs.lemmas.List.Elements.{All-nil}
use Rattle.floyd_tree_sorts.specs.declared.sorts.Sort.{Sort, Z, Val as ValSort}
use Rattle.floyd_tree_sorts.specs.declared.heads.Head.{Head}
use Rattle.floyd_tree_sorts.specs.declared.heads.Head.TheVariants.{Literal, Variable, Gv, Lv, Nil, Leaf, Signed, Unsigned, Default, Operator, Fun as FunHead}
use Rattle.floyd_tree_sorts.specs.Sorts.{list_sort, tree_sort, same_sort, same_sorts}
use Rattle.floyd_tree_sorts.specs.Table.{sort_at, when}
use Rattle.floyd_tree_sorts.proofs.SortLemmas.{same_sort_true, both_true}
use Rattle.floyd_tree.specs.Plain.{Plain, Plains, At, Done, More}
use Rattle.floyd_tree.specs.WellSorted.{sort_of, sorts_of, with_first}
use Rattle.floyd_tree_values.specs.Data.{Datum, Number, Tree, seq, number_in, HasSort, HaveSorts}
use Rattle.floyd_tree_values.specs.Data as d
use Rattle.floyd_tree_values.specs.BuiltIns.{Env, applied, start}
use Rattle.floyd_tree_values.specs.Means.{Defs, Means, AllMean, built_in, none, more, is_fun}
use Rattle.floyd_tree_values.specs.Rules.{Scope, Suits, Calls, IsAllowed, EachAllowed, AllAllowed}
use Rattle.floyd_tree_values.proofs.Sorted.{moved_alone, moved_number, operator_sorted}
use Rattle.floyd_tree_values.proofs.DefaultSorts.{default_value_sorted}

same_sorts_true : (a b : List Sort) → same_sorts a b ≡ true → a ≡ b
same_sorts_true [] [] h = refl
same_sorts_true (a ∷ rest) (b ∷ others) h =
    let both = both_true (same_sort a b) (same_sorts rest others) h in
    ap (λ x. x ∷ rest) (same_sort_true a b both.0) ∙ ap (λ x. b ∷ x) (same_sorts_true rest others both.1)
same_sorts_true a b h = absurd cc

when_gives : (test : Bool) (a s : Sort) → when test a ≡ Some s → (test ≡ true) × (a ≡ s)
when_gives true a s e = (refl, cc)
when_gives false a s e = absurd cc

and_then_some : (f : List Sort → Option Sort) (o : Option (List Sort)) (s : Sort) → option_and_then f o ≡ Some s → (ss : List Sort) × (o ≡ Some ss) × (f ss ≡ Some s)
and_then_some f (Some ss) s e = (ss, refl, e)
and_then_some f None s e = absurd cc

first_some : (o : Option Sort) (p : Option (List Sort)) (ss : List Sort) → with_first o p ≡ Some ss → (a : Sort) × (rest : List Sort) × (o ≡ Some a) × (p ≡ Some rest) × (a ∷ rest ≡ ss)
first_some (Some a) (Some rest) ss e = (a, rest, refl, refl, cc)
first_some (Some a) None ss e = absurd cc
first_some None p ss e = absurd cc

-- a value of the sort
abbrev pub Valued : Defs → Env → Plain → Sort → Type 0
Valued defs env t s = (d : Datum) × Means defs env t d × HasSort s d

-- the calls have values
abbrev pub Answers : Defs → Env → Calls → Type 0
Answers defs env calls =
    (name : List ℕ) (arguments : List Sort) (s : Sort) (kids : Plains) (ds : List Datum) → calls name arguments s kids → AllMean defs env kids ds → HaveSorts arguments ds → Valued defs env (At (FunHead name arguments s) kids) s

module _ (defs : Defs) (scope : Scope) (env : Env) (calls : Calls) (suits : Suits scope env) (answers : Answers defs env calls) where
  -- what a head but a FUN makes of data
  applied_sorted : (head : Head) (kids : Plains) (s : Sort) (sorts : List Sort) (ds : List Datum) → is_fun head ≡ false → IsAllowed defs.structs scope calls head kids → sort_at head sorts ≡ Some s → HaveSorts sorts ds → HasSort s (applied defs.structs env head s ds)
  applied_sorted (Literal z) kids s sorts ds f a e h = moved_alone Z s sorts (Number z) e tt
  applied_sorted (Variable x own) kids s sorts ds f a e h = moved_alone own s sorts (env.variables x) e (suits.each x own a)
  applied_sorted (Gv x) kids s sorts ds f a e h = moved_alone ValSort s sorts (start (env.global x)) e (omega arith)
  applied_sorted (Lv x) kids s sorts ds f a e h = moved_alone ValSort s sorts (start (env.local x)) e (omega arith)
  applied_sorted (Nil item) kids s sorts ds f a e h = moved_alone (list_sort item) s sorts (seq []) e (All-nil (HasSort item))
  applied_sorted (Leaf item) kids s sorts ds f a e h = moved_alone (tree_sort item) s sorts (Tree d.Leaf) e tt
  applied_sorted (Signed w) kids s sorts ds f a e h = moved_number s sorts (applied defs.structs env (Signed w) s ds) e tt
  applied_sorted (Unsigned w) kids s sorts ds f a e h = moved_number s sorts (applied defs.structs env (Unsigned w) s ds) e tt
  applied_sorted (Default shape own) kids s sorts ds f a e h =
      subst (λ x. HasSort x (applied defs.structs env (Default shape own) s ds)) (when_gives _ own s e).1
      (default_value_sorted defs.structs shape (map number_in ds) own a)
  applied_sorted (FunHead name arguments own) kids s sorts ds f a e h = absurd cc
  applied_sorted (Operator operator) kids s sorts ds f a e h = operator_sorted operator s sorts ds e h

  node_value : (head : Head) (kids : Plains) (s : Sort) (sorts : List Sort) (ds : List Datum) → IsAllowed defs.structs scope calls head kids → sort_of (At head kids) ≡ Some s → sort_at head sorts ≡ Some s → AllMean defs env kids ds → HaveSorts sorts ds → Valued defs env (At head kids) s
  node_value (FunHead name arguments own) kids s sorts ds a w e m h =
      let g = when_gives (same_sorts arguments sorts) own s e in
      let same : sorts ≡ arguments = sym (same_sorts_true arguments sorts g.0) in
      subst (Valued defs env (At (FunHead name arguments own) kids)) g.1 (answers name arguments own kids ds a m (subst (λ x. HaveSorts x ds) same h))
  node_value head kids s sorts ds a w e m h = (applied defs.structs env head s ds, built_in refl w m, applied_sorted head kids s sorts ds refl a e h)

  mutual
    pub value_of : (t : Plain) → EachAllowed defs.structs scope calls t → (s : Sort) → sort_of t ≡ Some s → Valued defs env t s
    value_of (At head kids) a s e =
        let p = and_then_some (sort_at head) (sorts_of kids) s e in
        let k = values_of kids a.1 p.0 p.1 in
        node_value head kids s p.0 k.0 a.0 e p.2 k.1 k.2

    values_of : (ts : Plains) → AllAllowed defs.structs scope calls ts → (sorts : List Sort) → sorts_of ts ≡ Some sorts → (ds : List Datum) × AllMean defs env ts ds × HaveSorts sorts ds
    values_of Done a sorts e = ([], none, subst (λ x. HaveSorts x []) (let p : [] ≡ sorts = cc in p) tt)
    values_of (More t ts) a sorts e =
        let p = first_some (sort_of t) (sorts_of ts) sorts e in
        let first = value_of t a.0 p.0 p.2 in
        let rest = values_of ts a.1 p.1 p.3 in
        (first.0 ∷ rest.0, more first.1 rest.1, subst (λ x. HaveSorts x (first.0 ∷ rest.0)) p.4 (first.2, rest.2))
