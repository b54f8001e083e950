-- Default terms, and items at a place, as the program finds them.
use Rattle.std.proofs.Common.{◌≡◌, ℤ, refl, ap, ℕ, pos, List, Some, None, Ok, ◌∙◌, Result, subst, sym}
use Rattle.std.specs.Prelude.{slice_get}
use Rattle.floyd_text.specs.declared.refusal.No.{No}
use Rattle.floyd_text.specs.declared.refusal.RuleStop.{RuleStop}
use Rattle.floyd_text.specs.Gives.{RuleGives, RuleStops}
use Rattle.floyd_tree_sorts.specs.declared.heads.Head.TheVariants as h
use Rattle.floyd_tree_sorts.specs.declared.operators.Operator.TheVariants.{Pair}
use Rattle.floyd_tree_sorts.specs.declared.sorts.Sort.{Sort, ListOf, TreeOf, Prod}
use Rattle.floyd_tree_sorts.proofs.SortLemmas.{list_of_is, prod_is, tree_of_is}
use Rattle.floyd_tree.specs.Plain.{Plain, At, Done, head_of}
use Rattle.floyd_fieldpath.specs.Sums.{two}
use Rattle.floyd_fieldpath.specs.Written.{on_ok, written}
use Rattle.floyd_fieldpath.proofs.WrittenLemmas.{goes_on, stops}
use Rattle.floyd_simplifying.specs.DefaultClauses.{default_by, default_pair}
use Rattle.floyd_simplifying.specs.WrittenLists.{default_in, default_of_end, item_at, or_default}

pub default_list : (s : Sort) → default_in (ListOf s) ≡ written (At (h.Nil s) Done)
default_list s = ap default_in (list_of_is s)

pub default_tree : (s : Sort) → default_in (TreeOf s) ≡ written (At (h.Leaf s) Done)
default_tree s = ap default_in (tree_of_is s)

pub default_prod : (a b : Sort) → default_in (Prod a b) ≡ default_pair a b
default_prod a b = ap default_in (prod_is a b)

pub end_default_is : (t : Plain) → default_by (head_of t) t ≡ default_of_end t
end_default_is (At (h.Nil s) kids) = refl
end_default_is (At head kids) = refl

pub item_within : (z : ℤ) (n : ℕ) (items : List Plain) (end t : Plain) → z ≡ pos n → slice_get items n ≡ Some t → item_at z items end ≡ Ok t
item_within z n items end t e i = ap (λ x. item_at x items end) e ∙ ap (λ o. or_default o end) i

pub item_outside : (z : ℤ) (n : ℕ) (items : List Plain) (end : Plain) → z ≡ pos n → slice_get items n ≡ None → item_at z items end ≡ default_of_end end
item_outside z n items end e i = ap (λ x. item_at x items end) e ∙ ap (λ o. or_default o end) i

module _ (s a b : Sort) (is : s ≡ Prod a b) where
  whole : default_in s ≡ default_pair a b
  whole = ap default_in is ∙ default_prod a b

  abbrev over_first : Plain → Result Plain No
  over_first x = on_ok (default_in b) (λ y. written (two Pair x y))

  pub prod_gives : (x y : Plain) (r : Result Plain RuleStop) → default_in a ≡ Ok x → default_in b ≡ Ok y → RuleGives (λ t. t) r (written (two Pair x y)) → RuleGives (λ t. t) r (default_in s)
  prod_gives x y r i j h =
      subst (RuleGives (λ t. t) r) (sym whole) (goes_on (default_in a) over_first x r i (goes_on (default_in b) (λ u. written (two Pair x u)) y r j h))

  pub prod_stops_first : (stop : RuleStop) → RuleStops stop (default_in a) → RuleStops stop (default_in s)
  prod_stops_first stop h = subst (RuleStops stop) (sym whole) (stops stop (default_in a) over_first h)

  pub prod_stops_second : (x : Plain) (stop : RuleStop) → default_in a ≡ Ok x → RuleStops stop (default_in b) → RuleStops stop (default_in s)
  prod_stops_second x stop i h =
      subst (RuleStops stop) (sym whole) (subst (λ d. RuleStops stop (on_ok d over_first)) (sym i) (stops stop (default_in b) (λ u. written (two Pair x u)) h))
