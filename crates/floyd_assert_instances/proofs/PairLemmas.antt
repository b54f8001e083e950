-- Terms and their variables, one by one.
use Rattle.std.proofs.Common.{◌≡◌, ℕ, ◌+◌, ◌<◌, Bool, ◌&&◌, Some, Result, Ok, subst, List, ◌∷◌, length, get_or, drop, ap, ap₂, sym, ◌∙◌}
use Rattle.std.proofs.lemmas.List.{drop_more}
use Rattle.floyd_text.specs.Gives.{RuleGives}
use Rattle.floyd_text.specs.declared.refusal.RuleStop.{RuleStop}
use Rattle.floyd_tree.specs.Plain.{Plain}
use Rattle.floyd_tree_sorts.specs.declared.sorts.Sort.{Sort}
use Rattle.floyd_tree_sorts.specs.Sorts.{same_sort}
use Rattle.floyd_assert_trees.specs.declared.spec.Funspec.{Funspec}
use Rattle.floyd_fieldpath.proofs.WrittenLemmas.{goes_on}
use Rattle.floyd_tree.specs.WellSorted.{sort_of}
use Rattle.floyd_assert_trees.specs.declared.binder.Binder.{Binder}
use Rattle.floyd_assert_instances.specs.declared.instance.Instance.{Instance}
use Rattle.floyd_assert_instances.specs.Instances.{is_sort, have_sorts, pairs, taken}
use Rattle.floyd_assert_instances.specs.Specifications.{instantiated, spec_with}

module _ (bs : List Binder) (ts : List Plain) (i : ℕ) (b : Binder) (t : Plain) (in_bs : i < length bs) (in_ts : i < length ts) where
  pub sorts_step : have_sorts (drop i bs) (drop i ts) ≡ (is_sort (get_or bs i b).sort (sort_of (get_or ts i t)) && have_sorts (drop (i + 1) bs) (drop (i + 1) ts))
  sorts_step = ap₂ have_sorts (drop_more bs i b in_bs) (drop_more ts i t in_ts)

  pub pairs_step : pairs (drop i bs) (drop i ts) ≡ ((get_or bs i b).name, get_or ts i t) ∷ pairs (drop (i + 1) bs) (drop (i + 1) ts)
  pairs_step = ap₂ pairs (drop_more bs i b in_bs) (drop_more ts i t in_ts)

  -- whether the next term has the sort of its variable
  pub sort_there : (r : Sort) (v : Bool) → sort_of (get_or ts i t) ≡ Some r → same_sort r (get_or bs i b).sort ≡ v → have_sorts (drop i bs) (drop i ts) ≡ (v && have_sorts (drop (i + 1) bs) (drop (i + 1) ts))
  sort_there r v e f =
      sorts_step
      ∙ ap (λ o. is_sort (get_or bs i b).sort o && have_sorts (drop (i + 1) bs) (drop (i + 1) ts)) e
      ∙ ap (λ w. w && have_sorts (drop (i + 1) bs) (drop (i + 1) ts)) f

-- what is answered once the terms are taken
pub put_on : (spec : Funspec) (terms ts : List Plain) (bs : List Binder) (by ys : List (List ℕ × Plain)) (x : Result Instance RuleStop) → bs ≡ spec.with → ts ≡ terms → taken bs ts ≡ Ok by → ys ≡ by → RuleGives (λ (i : Instance). i) x (spec_with ys spec) → RuleGives (λ (i : Instance). i) x (instantiated spec terms)
put_on spec terms ts bs by ys x e f h k told =
    goes_on (taken spec.with terms) (λ b. spec_with b spec) by x (sym (ap (λ b. taken b ts) e ∙ ap (taken spec.with) f) ∙ h)
    (subst (λ b. RuleGives (λ (i : Instance). i) x (spec_with b spec)) k told)
