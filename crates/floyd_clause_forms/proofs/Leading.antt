-- Well-formed terms in the place of names lead from the scope of these names to that of the terms.
use Rattle.std.proofs.Common.{◌≡◌, ℕ, ◌+◌, Bool, true, false, cond, List, [], ◌∷◌, ◌++◌, length, Some, Ok, Err, refl, sym, ◌∙◌, ap, subst, arith, eqb-true}
use Rattle.std.specs.Prelude.{◌==◌, bytes_eq, if◌then◌else◌}
use Rattle.std.specs.List.{AllByRecursion}
use Rattle.std.specs.Map.{lookup}
use Rattle.std.proofs.lemmas.Bool.{and_parts}
use Rattle.floyd_tree_sorts.specs.declared.sorts.Sort.{Sort}
use Rattle.floyd_tree.specs.Plain.{At, Done, More, Plain, Plains, kids_of, listed, size}
use Rattle.floyd_tree.specs.WellSorted.{sort_of}
use Rattle.floyd_tree_values.specs.Rules.{AllAllowed, CallsOf, EachAllowed, Scope}
use Rattle.floyd_truth.specs.Capture.{Called, Put}
use Rattle.floyd_truth.specs.Laws.{nodes}
use Rattle.floyd_truth.specs.Replace.{puts}
use Rattle.floyd_truth.proofs.Fresh.{weight}
use Rattle.floyd_assert_trees.specs.declared.binder.Binder.{Binder}
use Rattle.floyd_assert_trees.specs.declared.items.Defs.{Defs}
use Rattle.floyd_assert_trees.specs.declared.pattern.Pattern.{Pattern}
use Rattle.floyd_assert_trees.specs.declared.pattern.Pattern.TheVariants.{Nil, Cons, Leaf, Node}
use Rattle.floyd_assert_trees.specs.Meanings.{value_defs}
use Rattle.floyd_assert_instances.specs.Instances.{have_sorts, ill_sorted, is_sort, pairs, taken, wrong_count}
use Rattle.floyd_clauses.specs.Patterns.{named_parts}
use Rattle.floyd_goal_forms.specs.Items.{sorts_with}
use Rattle.floyd_goal_forms.specs.Terms.{AllKnown, GlobalsKnown, TermFits, TermsFit, scope_with}
use Rattle.floyd_clause_laws.proofs.Sorting.{Named, scope_of, terms_of}
use Rattle.floyd_formed_pure.specs.Rows.{GivenTerm}
use Rattle.floyd_formed_quantifiers.proofs.Leading.{Leads, LeadsBy}
use Rattle.floyd_funspec_laws.proofs.Made.{sort_is}

-- ---- terms in the place of names

pub weight_puts : (by : List (List ℕ × Plain)) → weight (puts by) ≡ nodes by
weight_puts [] = refl
weight_puts (p ∷ by) = ap (λ n. size p.1 + n) (weight_puts by)

pub none_called : (by : List (List ℕ × Plain)) (v z : List ℕ) → lookup (bytes_eq v) (puts by) ≡ Some (Called z) → ⊥
none_called [] v z e = absurd cc
none_called (p ∷ by) v z e = at (bytes_eq v p.0) (none_called by v z) e
  where
    at : (b : Bool) → (lookup (bytes_eq v) (puts by) ≡ Some (Called z) → ⊥) → cond b (Some (Put p.1)) (lookup (bytes_eq v) (puts by)) ≡ Some (Called z) → ⊥
    at true go q = absurd cc
    at false go q = go q

module _ (defs : Defs) (new : Scope) where
  -- each name of the one scope is led to the other
  abbrev pub LeadAll : List (List ℕ × Plain) → Scope → Type 0
  LeadAll by old = (v : List ℕ) → Leads defs (puts by) old new v

  pub lead_none : LeadAll [] []
  lead_none v s e = absurd cc

  pub lead_same : LeadAll [] new
  lead_same v s e = e

  pub lead_one : (x : List ℕ) (s : Sort) (t : Plain) → TermFits defs new s t → (by : List (List ℕ × Plain)) (old : Scope) → LeadAll by old → LeadAll ((x, t) ∷ by) ((x, s) ∷ old)
  lead_one x s t fit by old k v r e = at (k v r) (bytes_eq v x) e
    where
      at : (lookup (bytes_eq v) old ≡ Some r → LeadsBy defs new (lookup (bytes_eq v) (puts by)) v r) → (q : Bool) → cond q (Some s) (lookup (bytes_eq v) old) ≡ Some r → LeadsBy defs new (cond q (Some (Put t)) (lookup (bytes_eq v) (puts by))) v r
      at go true i = let same : s ≡ r = cc in subst (λ z. TermFits defs new z t) same fit
      at go false i = go i

  -- terms for binders
  pub lead_pairs : (bs : List Binder) (ts : List Plain) (old : Scope) → TermsFit defs new (sorts_with bs) ts → LeadAll [] old → LeadAll (pairs bs ts) (scope_with bs ++ old)
  lead_pairs [] [] old h k = k
  lead_pairs [] (t ∷ ts) old h k = absurd h
  lead_pairs (b ∷ bs) [] old h k = absurd h
  lead_pairs (b ∷ bs) (t ∷ ts) old h k = lead_one b.name b.sort t h.0 (pairs bs ts) (scope_with bs ++ old) (lead_pairs bs ts old h.1 k)

  abbrev pub IsFitted : Named → Type 0
  IsFitted e = TermFits defs new e.sort e.term

  pub lead_entries : (es : List Named) → AllByRecursion IsFitted es → (by : List (List ℕ × Plain)) (old : Scope) → LeadAll by old → LeadAll (terms_of es ++ by) (scope_of es ++ old)
  lead_entries [] h by old k = k
  lead_entries (e ∷ es) h by old k = lead_one e.name e.sort e.term h.0 (terms_of es ++ by) (scope_of es ++ old) (lead_entries es h.1 by old k)

  -- ---- the parts of a constructor

  -- what a term is beside its sort
  abbrev pub IsGood : Plain → Type 0
  IsGood t = EachAllowed defs.structs new (CallsOf (value_defs defs).funs) t × GlobalsKnown defs t

  abbrev IsGoodPart : List ℕ × Plain → Type 0
  IsGoodPart p = IsGood p.1

  list_good : (ts : Plains) → AllAllowed defs.structs new (CallsOf (value_defs defs).funs) ts → AllKnown defs ts → AllByRecursion IsGood (listed ts)
  list_good Done a k = tt
  list_good (More t ts) a k = ((a.0, k.0), list_good ts a.1 k.1)

  kids_good : (t : Plain) → IsGood t → AllByRecursion IsGood (kids_of t)
  kids_good (At head kids) h = list_good kids h.0.1 h.1.1

  parts_good : (q : Pattern) (ts : List Plain) → AllByRecursion IsGood ts → AllByRecursion IsGoodPart (named_parts q ts)
  parts_good Nil ts h = tt
  parts_good (Cons x r) [] h = tt
  parts_good (Cons x r) (t ∷ []) h = tt
  parts_good (Cons x r) (t ∷ u ∷ more) h = (h.0, (h.1.0, tt))
  parts_good Leaf ts h = tt
  parts_good (Node l x r) [] h = tt
  parts_good (Node l x r) (t ∷ []) h = tt
  parts_good (Node l x r) (t ∷ u ∷ []) h = tt
  parts_good (Node l x r) (t ∷ u ∷ v ∷ more) h = (h.0, (h.1.0, (h.1.1.0, tt)))

  all_fitted : (es : List Named) → AllByRecursion IsGoodPart (terms_of es) → AllByRecursion IsFitted es
  all_fitted [] h = tt
  all_fitted (e ∷ es) h = (record { fits = record { sorted = e.sorted; allowed = h.0.0 }; known = h.0.1 }, all_fitted es h.1)

  pub entries_fitted : (q : Pattern) (t : Plain) (es : List Named) → named_parts q (kids_of t) ≡ terms_of es → IsGood t → AllByRecursion IsFitted es
  entries_fitted q t es is h = all_fitted es (subst (AllByRecursion IsGoodPart) is (parts_good q (kids_of t) (kids_good t h)))

-- ---- terms that are taken

pub counted : (bs : List Binder) (ts : List Plain) (by : List (List ℕ × Plain)) → taken bs ts ≡ Ok by → length ts ≡ length bs
counted bs ts by e = so (length ts == length bs) refl e
  where
    so : (c : Bool) → (length ts == length bs) ≡ c → (if c then if have_sorts bs ts then Ok (pairs bs ts) else Err ill_sorted else Err (wrong_count (length ts))) ≡ Ok by → length ts ≡ length bs
    so true i f = eqb-true (length ts) (length bs) i
    so false i f = absurd cc

pub given_fit : (defs : Defs) (scope : Scope) (bs : List Binder) (ts : List Plain) → length ts ≡ length bs → have_sorts bs ts ≡ true → AllByRecursion (GivenTerm defs scope) ts → TermsFit defs scope (sorts_with bs) ts
given_fit defs scope [] [] l h k = tt
given_fit defs scope [] (t ∷ ts) l h k = absurd (omega (arith, l))
given_fit defs scope (b ∷ bs) [] l h k = absurd (omega (arith, l))
given_fit defs scope (b ∷ bs) (t ∷ ts) l h k =
    let p = and_parts (is_sort b.sort (sort_of t)) (have_sorts bs ts) h in
    (subst (λ s. TermFits defs scope s t) (one k.0.0.0 (sym k.0.0.1.fits.sorted ∙ sort_is b.sort (sort_of t) p.0)) k.0.0.1, given_fit defs scope bs ts (omega (arith, l)) p.1 k.1)
  where
    one : (s : Sort) → Some s ≡ Some b.sort → s ≡ b.sort
    one s e = cc
