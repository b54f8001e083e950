-- What a module sees is given where each specification that it sees follows from the function's own.
use Rattle.std.proofs.Common.{◌≡◌, ◌⊎◌, ℕ, zero, suc, List, [], ◌∷◌, ◌++◌, Option, Some, None, inl, inr, refl, sym, ap, subst, ◌∙◌}
use Rattle.std.specs.Prelude.{IsSomeAnd, bytes_eq}
use Rattle.std.specs.Map.{lookup}
use Rattle.floyd_int.specs.declared.kinds.Value.{Value}
use Rattle.floyd_clight_heap.specs.Heaplet.{Heaplet, Joins, empty}
use Rattle.floyd_clight_heap.proofs.Sums.{one_sum, right_empty}
use Rattle.floyd_clight_memory.specs.Memory.{nth}
use Rattle.floyd_clight_machine.specs.Looking.{Ident}
use Rattle.floyd_clight_runs.specs.Calls.{Serves}
use Rattle.floyd_assert_trees.specs.declared.spec.Funspec.{Funspec}
use Rattle.floyd_assert_trees.specs.declared.spec.SpecTable.{SpecTable}
use Rattle.floyd_assert_meaning.specs.Settings.{Setting}
use Rattle.floyd_assert_meaning.specs.Specifications.{Pre, Post}
use Rattle.floyd_assert_meaning.specs.Same.{SameFunspec}
use Rattle.floyd_assert_meaning.proofs.Sames.{same_pre, same_post}
use Rattle.floyd_goal_meaning.specs.declared.linked.Linked.{Linked}
use Rattle.floyd_goal_meaning.specs.declared.linked.LinkedFunction.{LinkedFunction}
use Rattle.floyd_goal_meaning.specs.Programs.{Places, linked_function, setting}
use Rattle.floyd_goal_meaning.specs.Worlds.{Use, listed, own_or, own_specs, sight, world}
use Rattle.floyd_import_laws.specs.Laws.{Follows}

-- what stands at a number of two lists
which : {A : Type 0} (xs ys : List A) (i : ℕ) → (nth (xs ++ ys) i ≡ nth xs i) ⊎ ((j : ℕ) × (nth (xs ++ ys) i ≡ nth ys j))
which [] ys i = inr (i, refl)
which (x ∷ xs) ys zero = inl refl
which (x ∷ xs) ys (suc i) = which xs ys i

-- nothing is left beside what has all
only : (g k : Heaplet) → Joins g empty k → k ≡ g
only g k j = one_sum j (right_empty g)

-- one that is equal up to bound names follows
pub same_follows : (S : Setting) (spec own : Funspec) → SameFunspec own spec → Follows S spec own
same_follows S spec own same ds args h pre =
    let asked = (same_pre S own spec ds same args h).1 pre in
    record {
      data' = ds;
      here = h;
      rest = empty;
      joins = right_empty h;
      pre = asked;
      post = λ v g k q j. subst (Post S spec ds v) (sym (only g k j)) ((same_post S own spec ds same v g asked.sorted).0 q);
    }

-- each specification that a module sees follows from the function's own
abbrev pub SeesWhatFollows : Linked → Places → SpecTable → Type 0
SeesWhatFollows L place table =
    (f : Ident) (spec : Funspec) → lookup (bytes_eq f) table.functions ≡ Some spec
    → (g : LinkedFunction) × (own : Funspec) × (linked_function L f ≡ Some g) × (g.own ≡ Some own) × Follows (setting L [] place) spec own

module _ (L : Linked) (place : Places) (table : SpecTable) (seen : SeesWhatFollows L place table) where
  abbrev S : Setting
  S = setting L [] place

  abbrev in_sight : Ident → List Funspec
  in_sight f = own_specs L [] f ++ listed (lookup (bytes_eq f) table.functions)

  abbrev Served : Ident → Use → List Value → Heaplet → Type 0
  Served f x args h = Serves (world L [] place).own (sight L [] place table) f x args h

  -- one of the function's own is used
  by_own : (f : Ident) (x : Use) (args : List Value) (h : Heaplet) → nth (in_sight f) x.way ≡ nth (own_specs L [] f) x.way → (sight L [] place table).pre f x args h → Served f x args h
  by_own f x args h e p = record {
    with = x;
    here = h;
    rest = empty;
    joins = right_empty h;
    pre = subst (λ o. IsSomeAnd o (λ spec. Pre S spec x.data' args h)) e p;
    post = λ v g k q j. subst (λ o. IsSomeAnd o (λ spec. Post S spec x.data' v k)) (sym e) (subst (λ y. IsSomeAnd (nth (own_specs L [] f) x.way) (λ spec. Post S spec x.data' v y)) (sym (only g k j)) q);
  }

  -- the one that the module sees
  by_module : (f : Ident) (x : Use) (args : List Value) (h : Heaplet) (spec : Funspec) → nth (in_sight f) x.way ≡ Some spec → lookup (bytes_eq f) table.functions ≡ Some spec → Pre S spec x.data' args h → Served f x args h
  by_module f x args h spec e l p =
      let s = seen f spec l in
      let r = s.4 x.data' args h p in
      let is : own_specs L [] f ≡ s.1 ∷ [] = ap (λ o. own_or o []) s.2 ∙ ap listed s.3 in
      record {
        with = record { way = 0; data' = r.data' };
        here = r.here;
        rest = r.rest;
        joins = r.joins;
        pre = subst (λ all. IsSomeAnd (nth all 0) (λ a. Pre S a r.data' args r.here)) (sym is) r.pre;
        post = λ v g k q j.
            subst (λ o. IsSomeAnd o (λ a. Post S a x.data' v k)) (sym e)
            (r.post v g k (subst (λ all. IsSomeAnd (nth all 0) (λ a. Post S a r.data' v g)) is q) j);
      }

  by_table : (f : Ident) (x : Use) (args : List Value) (h : Heaplet) (j : ℕ) (o : Option Funspec) → lookup (bytes_eq f) table.functions ≡ o → nth (in_sight f) x.way ≡ nth (listed o) j → (sight L [] place table).pre f x args h → Served f x args h
  by_table f x args h j None l e p = absurd (subst (λ y. IsSomeAnd y (λ spec. Pre S spec x.data' args h)) e p)
  by_table f x args h zero (Some spec) l e p = by_module f x args h spec e l (subst (λ y. IsSomeAnd y (λ a. Pre S a x.data' args h)) e p)
  by_table f x args h (suc j) (Some spec) l e p = absurd (subst (λ y. IsSomeAnd y (λ a. Pre S a x.data' args h)) e p)

  choose : (f : Ident) (x : Use) (args : List Value) (h : Heaplet) → (nth (in_sight f) x.way ≡ nth (own_specs L [] f) x.way) ⊎ ((j : ℕ) × (nth (in_sight f) x.way ≡ nth (listed (lookup (bytes_eq f) table.functions)) j)) → (sight L [] place table).pre f x args h → Served f x args h
  choose f x args h (inl e) p = by_own f x args h e p
  choose f x args h (inr q) p = by_table f x args h q.0 (lookup (bytes_eq f) table.functions) refl q.1 p

  pub given : (f : Ident) (x : Use) (args : List Value) (h : Heaplet) → (sight L [] place table).pre f x args h → Served f x args h
  given f x args h p = choose f x args h (which (own_specs L [] f) (listed (lookup (bytes_eq f) table.functions)) x.way) p
