-- Well-formed terms are so with holes, in a scope in which the name of the holes has their sort.
use Rattle.std.proofs.Common.{◌≡◌, ℕ, Bool, true, false, cond, List, [], ◌∷◌, ◌++◌, Some, refl, sym, ap, ◌∙◌, true≢false}
use Rattle.std.specs.Prelude.{bytes_eq}
use Rattle.std.specs.Map.{lookup}
use Rattle.std.proofs.lemmas.Slice.Eq.{bytes_eq-Decides}
use Rattle.floyd_tree_sorts.specs.declared.connectives.FormulaHead.{FormulaHead}
use Rattle.floyd_tree_sorts.specs.declared.connectives.FormulaHead.TheVariants.{Forall, Exists}
use Rattle.floyd_tree_sorts.specs.declared.heads.Head.{Head}
use Rattle.floyd_tree_sorts.specs.declared.heads.Head.TheVariants.{Variable, Default, Fun as FunHead}
use Rattle.floyd_tree_sorts.specs.declared.sorts.Sort.{Sort}
use Rattle.floyd_tree_sorts.specs.Heads.{binds, is_variable}
use Rattle.floyd_tree.specs.Plain.{Plain, Plains, At, Done, More, mentions, mentions_in}
use Rattle.floyd_tree_values.specs.Rules.{AllAllowed, CallsOf, EachAllowed, IsAllowed, Scope}
use Rattle.floyd_truth.proofs.Fresh.{neither}
use Rattle.floyd_arith.specs.Same.{same_term}
use Rattle.floyd_assert_trees.specs.declared.binder.Binder.{Binder}
use Rattle.floyd_assert_trees.specs.declared.items.Defs.{Defs}
use Rattle.floyd_assert_trees.specs.Meanings.{value_defs}
use Rattle.floyd_assert_changes.specs.Changed.{has_name}
use Rattle.floyd_goal_forms.specs.Terms.{AllKnown, GlobalsKnown, scope_with}
use Rattle.floyd_goal_formulas.specs.Fits.{scope_below}
use Rattle.floyd_rewriting.specs.Holes.{opened, opened_in}

other_way : (x y : List ℕ) → bytes_eq x y ≡ false → bytes_eq y x ≡ false
other_way x y h = by (bytes_eq y x) refl
  where
    by : (b : Bool) → bytes_eq y x ≡ b → bytes_eq y x ≡ false
    by false e = e
    by true e = absurd (true≢false (sym ((bytes_eq-Decides x y).1 (sym ((bytes_eq-Decides y x).0 e))) ∙ h))

-- ---- the name of the holes has their sort in the one scope, and each other name has there its sort of the other scope

module _ (name : List ℕ) (s : Sort) where
  pub record Room (small large : Scope) : Type 0 where
    pub own : lookup (bytes_eq name) large ≡ Some s
    pub others : (v : List ℕ) (r : Sort) → bytes_eq v name ≡ false → lookup (bytes_eq v) small ≡ Some r → lookup (bytes_eq v) large ≡ Some r

  one_below : (small large : Scope) (x : List ℕ) (q : Sort) → bytes_eq name x ≡ false → Room small large → Room ((x, q) ∷ small) ((x, q) ∷ large)
  one_below small large x q e k = record {
    own = ap (λ b. cond b (Some q) (lookup (bytes_eq name) large)) e ∙ k.own;
    others = λ v r i j. by v r (k.others v r i) (bytes_eq v x) j;
  }
    where
      by : (v : List ℕ) (r : Sort) → (lookup (bytes_eq v) small ≡ Some r → lookup (bytes_eq v) large ≡ Some r) → (b : Bool) → cond b (Some q) (lookup (bytes_eq v) small) ≡ Some r → cond b (Some q) (lookup (bytes_eq v) large) ≡ Some r
      by v r f true i = i
      by v r f false i = f i

  pub head_below : (small large : Scope) (head : FormulaHead) → binds name head ≡ false → Room small large → Room (scope_below head small) (scope_below head large)
  head_below small large (Forall x q) e k = one_below small large x q e k
  head_below small large (Exists x q) e k = one_below small large x q e k
  head_below small large head e k = k

  pub binders_below : (small large : Scope) (bs : List Binder) → has_name name bs ≡ false → Room small large → Room (scope_with bs ++ small) (scope_with bs ++ large)
  binders_below small large [] e k = k
  binders_below small large (b ∷ bs) e k =
      let p = neither (bytes_eq name b.name) (has_name name bs) e in
      one_below (scope_with bs ++ small) (scope_with bs ++ large) b.name b.sort p.0 (binders_below small large bs p.1 k)

  -- in front of the scope
  pub in_front : (scope : Scope) → Room scope ((name, s) ∷ scope)
  in_front scope = record {
    own = ap (λ b. cond b (Some s) (lookup (bytes_eq name) scope)) ((bytes_eq-Decides name name).1 refl);
    others = λ v r e i. ap (λ b. cond b (Some s) (lookup (bytes_eq v) scope)) e ∙ i;
  }

-- ---- terms

module _ (defs : Defs) (name : List ℕ) (s : Sort) (from : Plain) (small large : Scope) (room : Room name s small large) where
  abbrev hole : Plain
  hole = At (Variable name s) Done

  abbrev Each : Scope → Plain → Type 0
  Each scope t = EachAllowed defs.structs scope (CallsOf (value_defs defs).funs) t

  abbrev All : Scope → Plains → Type 0
  All scope ts = AllAllowed defs.structs scope (CallsOf (value_defs defs).funs) ts

  head_opened : (head : Head) (ts us : Plains) → is_variable name head ≡ false → IsAllowed defs.structs small (CallsOf (value_defs defs).funs) head ts → IsAllowed defs.structs large (CallsOf (value_defs defs).funs) head us
  head_opened (Variable x q) ts us e a = room.others x q (other_way name x e) a
  head_opened (Default shape q) ts us e a = a
  head_opened (FunHead f arguments q) ts us e a = a
  head_opened head ts us e a = tt

  either : (b : Bool) (t : Plain) → Each large t × GlobalsKnown defs t → Each large (cond b hole t) × GlobalsKnown defs (cond b hole t)
  either true t k = ((room.own, tt), (tt, tt))
  either false t k = k

  mutual
    pub term_opened : (t : Plain) → mentions name t ≡ false → Each small t → GlobalsKnown defs t → Each large (opened from hole t) × GlobalsKnown defs (opened from hole t)
    term_opened (At head kids) e a g =
        let p = neither (is_variable name head) (mentions_in name kids) e in
        let k = terms_opened kids p.1 a.1 g.1 in
        either (same_term (At head kids) from) (At head (opened_in from hole kids)) ((head_opened head kids (opened_in from hole kids) p.0 a.0, k.0), (g.0, k.1))

    pub terms_opened : (ts : Plains) → mentions_in name ts ≡ false → All small ts → AllKnown defs ts → All large (opened_in from hole ts) × AllKnown defs (opened_in from hole ts)
    terms_opened Done e a g = (tt, tt)
    terms_opened (More t ts) e a g =
        let p = neither (mentions name t) (mentions_in name ts) e in
        let k = term_opened t p.0 a.0 g.0 in
        let l = terms_opened ts p.1 a.1 g.1 in
        ((k.0, l.0), (k.1, l.1))
