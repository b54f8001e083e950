-- New variables in the place of one: the term of them leads to their scope.
use Rattle.std.proofs.Common.{◌≡◌, inl, inr, ℕ, Bool, true, false, ◌||◌, cond, List, [], ◌∷◌, ◌++◌, map, Option, Some, None, refl, sym, ap, subst, ◌∙◌}
use Rattle.std.specs.Prelude.{bytes_eq}
use Rattle.std.specs.List.{AllByRecursion}
use Rattle.std.specs.Map.{lookup}
use Rattle.std.proofs.lemmas.Bool.{or_left, or_parts, or_right}
use Rattle.std.proofs.lemmas.Slice.Eq.{bytes_eq-Decides}
use Rattle.floyd_tree_sorts.specs.declared.sorts.Sort.{Sort}
use Rattle.floyd_tree.specs.Plain.{Plain, plains}
use Rattle.floyd_tree_values.specs.Rules.{AllAllowed, AreDistinct, CallsOf, IsOneOf, Scope}
use Rattle.floyd_truth.specs.Capture.{Becomes, Called, Put}
use Rattle.floyd_truth.specs.Replace.{puts}
use Rattle.floyd_assert_trees.specs.declared.binder.Binder.{Binder}
use Rattle.floyd_assert_trees.specs.declared.items.Defs.{Defs}
use Rattle.floyd_assert_trees.specs.Meanings.{value_defs}
use Rattle.floyd_assert_changes.specs.Changed.{has_name}
use Rattle.floyd_goal_forms.specs.Terms.{AllKnown, TermFits, names_with, scope_with}
use Rattle.floyd_pure_formulas.specs.VariableCases.{as_term, first_taken, without}
use Rattle.floyd_destruct_soundness.proofs.NewVariables.{are_apart, are_distinct}
use Rattle.floyd_formed_quantifiers.proofs.Leading.{Leads, LeadsBy, itself}
use Rattle.floyd_formed_entail.proofs.NewNames.{distinct_both, more_in}

-- ---- without a variable

found_without : (x v : List ℕ) (vars : List Binder) (r : Sort) → bytes_eq v x ≡ false → lookup (bytes_eq v) (scope_with vars) ≡ Some r → lookup (bytes_eq v) (scope_with (without x vars)) ≡ Some r
found_without x v [] r i e = absurd cc
found_without x v (b ∷ vars) r i e = by (found_without x v vars r i) (bytes_eq x b.name) refl e
  where
    skipped : bytes_eq x b.name ≡ true → bytes_eq v b.name ≡ false
    skipped k = subst (λ y. bytes_eq v y ≡ false) ((bytes_eq-Decides x b.name).0 k) i

    kept : (lookup (bytes_eq v) (scope_with vars) ≡ Some r → lookup (bytes_eq v) (scope_with (without x vars)) ≡ Some r) → (t : Bool) → cond t (Some b.sort) (lookup (bytes_eq v) (scope_with vars)) ≡ Some r → cond t (Some b.sort) (lookup (bytes_eq v) (scope_with (without x vars))) ≡ Some r
    kept next true j = j
    kept next false j = next j

    by : (lookup (bytes_eq v) (scope_with vars) ≡ Some r → lookup (bytes_eq v) (scope_with (without x vars)) ≡ Some r) → (t : Bool) → bytes_eq x b.name ≡ t → cond (bytes_eq v b.name) (Some b.sort) (lookup (bytes_eq v) (scope_with vars)) ≡ Some r →
        lookup (bytes_eq v) (scope_with (cond t (without x vars) (b ∷ without x vars))) ≡ Some r
    by next true k j = next (sym (ap (λ t. cond t (Some b.sort) (lookup (bytes_eq v) (scope_with vars))) (skipped k)) ∙ j)
    by next false k j = kept next (bytes_eq v b.name) j

named_without : (x v : List ℕ) (vars : List Binder) → has_name v vars ≡ false → has_name v (without x vars) ≡ false
named_without x v [] e = refl
named_without x v (b ∷ vars) e = by (or_parts (bytes_eq v b.name) (has_name v vars) e).0 (named_without x v vars (or_parts (bytes_eq v b.name) (has_name v vars) e).1) (bytes_eq x b.name)
  where
    by : bytes_eq v b.name ≡ false → has_name v (without x vars) ≡ false → (t : Bool) → has_name v (cond t (without x vars) (b ∷ without x vars)) ≡ false
    by i k true = k
    by i k false = ap (λ t. t || has_name v (without x vars)) i ∙ k

one_without : (x v : List ℕ) (vars : List Binder) → IsOneOf (names_with (without x vars)) v → IsOneOf (names_with vars) v
one_without x v [] h = h
one_without x v (b ∷ vars) h = by (one_without x v vars) (bytes_eq x b.name) h
  where
    by : (IsOneOf (names_with (without x vars)) v → IsOneOf (names_with vars) v) → (t : Bool) → IsOneOf (names_with (cond t (without x vars) (b ∷ without x vars))) v → IsOneOf (names_with (b ∷ vars)) v
    by next true k = inr (next k)
    by next false (inl e) = inl e
    by next false (inr k) = inr (next k)

distinct_without : (x : List ℕ) (vars : List Binder) → AreDistinct (names_with vars) → AreDistinct (names_with (without x vars))
distinct_without x [] d = tt
distinct_without x (b ∷ vars) d = by (distinct_without x vars d.1) (bytes_eq x b.name)
  where
    by : AreDistinct (names_with (without x vars)) → (t : Bool) → AreDistinct (names_with (cond t (without x vars) (b ∷ without x vars)))
    by k true = k
    by k false = ((λ h. d.0 (one_without x b.name vars h)), k)

-- ---- behind others

behind_found : (vars bs : List Binder) (v : List ℕ) → has_name v vars ≡ false → lookup (bytes_eq v) (scope_with (vars ++ bs)) ≡ lookup (bytes_eq v) (scope_with bs)
behind_found [] bs v e = refl
behind_found (b ∷ vars) bs v e =
    let p = or_parts (bytes_eq v b.name) (has_name v vars) e in
    ap (λ t. cond t (Some b.sort) (lookup (bytes_eq v) (scope_with (vars ++ bs)))) p.0 ∙ behind_found vars bs v p.1

abbrev IsFoundIn : Scope → Binder → Type 0
IsFoundIn scope b = lookup (bytes_eq b.name) scope ≡ Some b.sort

further : (c : Binder) (bs : List Binder) (scope : Scope) → ¬ IsOneOf (names_with bs) c.name → AllByRecursion (IsFoundIn scope) bs → AllByRecursion (IsFoundIn ((c.name, c.sort) ∷ scope)) bs
further c [] scope d h = tt
further c (b ∷ bs) scope d h = (by (bytes_eq b.name c.name) refl, further c bs scope (λ i. d (inr i)) h.1)
  where
    by : (t : Bool) → bytes_eq b.name c.name ≡ t → cond (bytes_eq b.name c.name) (Some c.sort) (lookup (bytes_eq b.name) scope) ≡ Some b.sort
    by true e = absurd (d (inl (sym ((bytes_eq-Decides b.name c.name).0 e))))
    by false e = ap (λ t. cond t (Some c.sort) (lookup (bytes_eq b.name) scope)) e ∙ h.0

own_found : (bs : List Binder) → AreDistinct (names_with bs) → AllByRecursion (IsFoundIn (scope_with bs)) bs
own_found [] d = tt
own_found (b ∷ bs) d = (ap (λ t. cond t (Some b.sort) (lookup (bytes_eq b.name) (scope_with bs))) (itself b.name), further b bs (scope_with bs) d.0 (own_found bs d.1))

all_found : (vars more bs : List Binder) → ((v : List ℕ) → has_name v bs ≡ true → has_name v vars ≡ false) → AllByRecursion (IsFoundIn (scope_with more)) bs → AllByRecursion (IsFoundIn (scope_with (vars ++ more))) bs
all_found vars more [] k h = tt
all_found vars more (b ∷ bs) k h = (
  behind_found vars more b.name (k b.name (or_left (bytes_eq b.name b.name) (has_name b.name bs) (itself b.name))) ∙ h.0,
  all_found vars more bs (λ v i. k v (or_right (bytes_eq v b.name) (has_name v bs) i)) h.1,
)

-- ---- the new scope

module _ (defs : Defs) (vars : List Binder) (x : List ℕ) (new : List Binder) (fresh : first_taken vars [] new ≡ None) where
  abbrev pub scope : Scope
  scope = scope_with (without x vars ++ new)

  apart_new : (v : List ℕ) → has_name v new ≡ true → has_name v (without x vars) ≡ false
  apart_new v h = named_without x v vars (are_apart vars [] new fresh v h)

  pub distinct_new : AreDistinct (names_with vars) → AreDistinct (names_with (without x vars ++ new))
  distinct_new d = distinct_both (without x vars) new (distinct_without x vars d) (are_distinct vars [] new fresh) apart_new

  -- the new variables as terms
  as_terms : (bs : List Binder) → AllByRecursion (IsFoundIn scope) bs → AllAllowed defs.structs scope (CallsOf (value_defs defs).funs) (plains (map as_term bs)) × AllKnown defs (plains (map as_term bs))
  as_terms [] h = (tt, tt)
  as_terms (b ∷ bs) h = let p = as_terms bs h.1 in (((h.0, tt), p.0), ((tt, tt), p.1))

  pub new_terms : AllAllowed defs.structs scope (CallsOf (value_defs defs).funs) (plains (map as_term new)) × AllKnown defs (plains (map as_term new))
  new_terms = as_terms new (all_found (without x vars) new new apart_new (own_found new (are_distinct vars [] new fresh)))

  -- other variables stay
  pub others_stay : (v : List ℕ) (r : Sort) → bytes_eq v x ≡ false → lookup (bytes_eq v) (scope_with vars) ≡ Some r → lookup (bytes_eq v) scope ≡ Some r
  others_stay v r i e = more_in (without x vars) new v r (found_without x v vars r i e)

  pub case_leads : (sort : Sort) (t : Plain) → lookup (bytes_eq x) (scope_with vars) ≡ Some sort → TermFits defs scope sort t → (v : List ℕ) → Leads defs (puts ((x, t) ∷ [])) (scope_with vars) scope v
  case_leads sort t here fit v r e = by (bytes_eq v x) refl
    where
      by : (q : Bool) → bytes_eq v x ≡ q → LeadsBy defs scope (cond q (Some (Put t)) None) v r
      by true i =
          let found : lookup (bytes_eq x) (scope_with vars) ≡ Some r = subst (λ y. lookup (bytes_eq y) (scope_with vars) ≡ Some r) ((bytes_eq-Decides v x).0 i) e in
          let both : Some sort ≡ Some r = sym here ∙ found in
          let same : sort ≡ r = cc in
          subst (λ q. TermFits defs scope q t) same fit
      by false i = others_stay v r i e

pub none_called : (x : List ℕ) (t : Plain) (v z : List ℕ) → lookup (bytes_eq v) (puts ((x, t) ∷ [])) ≡ Some (Called z) → ⊥
none_called x t v z e = by (bytes_eq v x) e
  where
    by : (q : Bool) → ◌≡◌ {A = Option Becomes} (cond q (Some (Put t)) None) (Some (Called z)) → ⊥
    by true i = cc
    by false i = cc
