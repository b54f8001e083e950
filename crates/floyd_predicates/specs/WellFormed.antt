-- Items that are well formed: a FUN or PRED with cases has one for each constructor of its first argument, and calls itself
-- on a part of it alone; one without cases does not call itself; and no earlier item has its name.
use Rattle.std.specs.Prelude.{ℕ, nat_eq, nat_lt, Bool, true, false, not, ◌&&◌, ◌||◌, List, [], ◌∷◌, map, if◌then◌else◌, Option, Some, None, is_some, option_map, position, slice_get, Result, Ok, Err, bytes_eq}
use Rattle.std.specs.Map.{lookup}
use Rattle.std.specs.Option.{unwrap_or}
use Rattle.floyd_text.specs.Refusals.{refusal_at}
use Rattle.floyd_text.specs.declared.code.Code.TheVariants as c
use Rattle.floyd_text.specs.declared.place.Place.{Place}
use Rattle.floyd_text.specs.declared.refusal.Refusal.{Refusal}
use Rattle.floyd_text.specs.declared.refusal.Shown.TheVariants.{Name}
use Rattle.floyd_tree_sorts.specs.declared.sorts.Sort.{Sort}
use Rattle.floyd_tree_sorts.specs.Sorts.{item_sort, node_sort}
use Rattle.floyd_assert_trees.specs.declared.binder.Binder.{Binder}
use Rattle.floyd_assert_trees.specs.declared.items.Defs.{Defs}
use Rattle.floyd_assert_trees.specs.declared.items.Fun.{Fun}
use Rattle.floyd_assert_trees.specs.declared.items.FunBody.{FunBody}
use Rattle.floyd_assert_trees.specs.declared.items.FunBody.TheVariants as f
use Rattle.floyd_assert_trees.specs.declared.items.FunCase.{FunCase}
use Rattle.floyd_assert_trees.specs.declared.items.Lemma.{Lemma}
use Rattle.floyd_assert_trees.specs.declared.items.Pred.{Pred}
use Rattle.floyd_assert_trees.specs.declared.items.PredBody.{PredBody}
use Rattle.floyd_assert_trees.specs.declared.items.PredBody.TheVariants as p
use Rattle.floyd_assert_trees.specs.declared.items.PredCase.{PredCase}
use Rattle.floyd_assert_trees.specs.declared.pattern.Pattern.{Pattern}
use Rattle.floyd_assert_trees.specs.declared.pattern.Pattern.TheVariants.{Nil, Cons, Leaf, Node}
use Rattle.floyd_predicates.specs.Calls.{fun_calls, pred_calls}

-- ---- cases

-- one of each constructor, in either order
abbrev pub are_of_lists : Pattern → Pattern → Bool
are_of_lists Nil (Cons item rest) = true
are_of_lists (Cons item rest) Nil = true
are_of_lists a b = false

abbrev pub are_of_trees : Pattern → Pattern → Bool
are_of_trees Leaf (Node left item right) = true
are_of_trees (Node left item right) Leaf = true
are_of_trees a b = false

abbrev pub are_of : Sort → Pattern → Pattern → Bool
are_of s a b = if is_some (item_sort s) then are_of_lists a b else is_some (node_sort s) && are_of_trees a b

abbrev pub one_each : Sort → List Pattern → Bool
one_each s (a ∷ b ∷ []) = are_of s a b
one_each s patterns = false

-- of the first argument's sort, which is there
abbrev pub of_first : List Binder → List Pattern → Bool
of_first [] patterns = false
of_first (b ∷ arguments) patterns = one_each b.sort patterns

abbrev pub fun_fits : List Binder → FunBody → Bool
fun_fits arguments (f.Whole t) = true
fun_fits arguments (f.Cases cases) = of_first arguments (map (λ (c : FunCase). c.pattern) cases)

abbrev pub pred_fits : List Binder → PredBody → Bool
pred_fits arguments (p.Whole a) = true
pred_fits arguments (p.Cases cases) = of_first arguments (map (λ (c : PredCase). c.pattern) cases)

-- ---- places

-- the first place stands before the second
abbrev pub is_before : Place → Place → Bool
is_before p q = nat_lt p.file q.file || (nat_eq p.file q.file && (nat_lt p.line q.line || (nat_eq p.line q.line && nat_lt p.column q.column)))

abbrev pub stands_before : Option Place → Place → Bool
stands_before None q = false
stands_before (Some p) q = is_before p q

-- whether an item of that name stands before the place
abbrev pub is_clash : Defs → List ℕ → Place → Bool
is_clash defs name q =
    stands_before (option_map (λ (a : Fun). a.place) (lookup (bytes_eq name) defs.funs)) q
    || (stands_before (option_map (λ (a : Pred). a.place) (lookup (bytes_eq name) defs.preds)) q || stands_before (option_map (λ (a : Lemma). a.place) (lookup (bytes_eq name) defs.lemmas)) q)

-- ---- refusals

abbrev pub not_structural : Place → List ℕ → Refusal
not_structural place name = refusal_at c.NotStructural place (Name name)

abbrev pub clash : Place → List ℕ → Refusal
clash place name = refusal_at c.Clash place (Name name)

-- of the first call that is not on a part, at its place: the calls have these places, in order
abbrev pub call_refusal : List ℕ → Place → List Place → List Bool → Option Refusal
call_refusal name place places calls = option_map (λ k. not_structural (unwrap_or (slice_get places k) place) name) (position not calls)

-- Of an item: at its name, where its cases are not one for each constructor, or else where an earlier item has its name;
-- and then at a call of itself.
abbrev pub item_refusal : Defs → List ℕ → Place → Bool → Option Refusal → Option Refusal
item_refusal defs name place fits at_call =
    if not fits then Some (not_structural place name) else if is_clash defs name place then Some (clash place name) else at_call

-- of an item of that file
abbrev pub in_file : ℕ → Place → Option Refusal → Option Refusal
in_file file place r = if nat_eq place.file file then r else None

module _ (defs : Defs) (file : ℕ) where
  abbrev pub fun_refusal : List ℕ × Fun → Option Refusal
  fun_refusal a =
      in_file file a.1.place
      (item_refusal defs a.0 a.1.place (fun_fits a.1.arguments a.1.body) (call_refusal a.0 a.1.place a.1.calls (fun_calls a.0 a.1.body)))

  abbrev pub pred_refusal : List ℕ × Pred → Option Refusal
  pred_refusal a =
      in_file file a.1.place
      (item_refusal defs a.0 a.1.place (pred_fits a.1.arguments a.1.body) (call_refusal a.0 a.1.place a.1.calls (pred_calls a.0 a.1.body)))

  abbrev pub lemma_refusal : List ℕ × Lemma → Option Refusal
  lemma_refusal a = in_file file a.1.place (item_refusal defs a.0 a.1.place true None)

-- the one at the earlier place
abbrev pub sooner : Option Refusal → Option Refusal → Option Refusal
sooner None r = r
sooner (Some q) None = Some q
sooner (Some q) (Some r) = if is_before r.place q.place then Some r else Some q

abbrev pub earliest : Option Refusal → List (Option Refusal) → Option Refusal
earliest first [] = first
earliest first (r ∷ more) = earliest (sooner first r) more

abbrev pub first_refusal : Defs → ℕ → Option Refusal
first_refusal defs file =
    earliest (earliest (earliest None (map (fun_refusal defs file) defs.funs)) (map (pred_refusal defs file) defs.preds)) (map (lemma_refusal defs file) defs.lemmas)

abbrev pub unless : Option Refusal → Result (Unit {0}) Refusal
unless None = Ok tt
unless (Some r) = Err r

-- the items whose places lie in that file are well formed, or the first refusal of one
abbrev pub judged : Defs → ℕ → Result (Unit {0}) Refusal
judged defs file = unless (first_refusal defs file)
