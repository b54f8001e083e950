-- Changes that suit a scope: where a term stands in the place of a variable, it has the variable's sort.
use Rattle.std.proofs.Common.{◌≡◌, ℕ, ◌+◌, Bool, true, false, cond, List, [], ◌∷◌, ◌++◌, length, Some, None, refl, sym, ap, subst, ◌∙◌, arith}
use Rattle.std.specs.Prelude.{bytes_eq}
use Rattle.std.specs.Map.{lookup}
use Rattle.std.proofs.lemmas.List.{length-append}
use Rattle.std.proofs.lemmas.Slice.Eq.{bytes_eq-Decides}
use Rattle.floyd_tree_sorts.specs.declared.heads.Head.TheVariants.{Variable}
use Rattle.floyd_tree_sorts.specs.declared.sorts.Sort.{Sort}
use Rattle.floyd_tree.specs.Plain.{Plain, At, Done}
use Rattle.floyd_tree.specs.WellSorted.{sort_of}
use Rattle.floyd_tree_values.specs.Rules.{Scope}
use Rattle.floyd_truth.specs.Capture.{Called, Changes, Put}
use Rattle.floyd_truth.specs.Replace.{HasSortOf, puts}
use Rattle.floyd_assert_trees.specs.declared.assertion.Assertion.{Assertion}
use Rattle.floyd_assert_trees.specs.declared.binder.Binder.{Binder}
use Rattle.floyd_assert_changes.specs.Changed.{below_existentials, existential_name, new_existentials, renamed_from}
use Rattle.floyd_goal_forms.specs.Terms.{scope_with}
use Rattle.floyd_pure_formulas.specs.VariableCases.{sort_named}
use Rattle.floyd_pure_formulas.proofs.Substituting.{Suiting}
use Rattle.floyd_entail.specs.Intros.{by_names}

-- ---- existentials

-- there are as many new names
renamed_length : (changes : Changes) (a : Assertion) (done bs : List Binder) → length (renamed_from changes a done bs) ≡ length done + length bs
renamed_length changes a done [] = omega arith
renamed_length changes a done (b ∷ more) =
    let c : Binder = record { name = existential_name changes a (done ++ more) b.name; sort = b.sort } in
    omega (arith, renamed_length changes a (done ++ c ∷ []) more, length-append done (c ∷ []))

new_length : (changes : Changes) (a : Assertion) → length (new_existentials changes a) ≡ length a.existentials
new_length changes a = omega (arith, renamed_length changes a [] a.existentials)

abbrev HasSortAt : Changes → List ℕ → Sort → Type 0
HasSortAt changes v r = HasSortOf (lookup (bytes_eq v) changes) r

called : (changes : Changes) (v : List ℕ) (r : Sort) (x y : List ℕ) → HasSortAt changes v r → HasSortAt ((x, Called y) ∷ changes) v r
called changes v r x y h = by (bytes_eq v x)
  where
    by : (t : Bool) → HasSortOf (cond t (Some (Called y)) (lookup (bytes_eq v) changes)) r
    by true = tt
    by false = h

-- what has its sort has it below existentials too
below : (old new : List Binder) (changes : Changes) (v : List ℕ) (r : Sort) → HasSortAt changes v r → HasSortAt (below_existentials changes old new) v r
below [] new changes v r h = h
below (b ∷ old) [] changes v r h = h
below (b ∷ old) (c ∷ new) changes v r h = below old new ((b.name, Called c.name) ∷ changes) v r (called changes v r b.name c.name h)

at_below : (old new : List Binder) (scope : Scope) (changes : Changes) (v : List ℕ) (r : Sort) → length new ≡ length old → (lookup (bytes_eq v) scope ≡ Some r → HasSortAt changes v r) →
    lookup (bytes_eq v) (scope_with old ++ scope) ≡ Some r → HasSortAt (below_existentials changes old new) v r
at_below [] new scope changes v r e h i = h i
at_below (b ∷ old) [] scope changes v r e h i = absurd cc
at_below (b ∷ old) (c ∷ new) scope changes v r e h i =
    by (λ j. at_below old new scope ((b.name, Called c.name) ∷ changes) v r (omega (arith, e)) (λ k. called changes v r b.name c.name (h k)) j) (bytes_eq v b.name) refl i
  where
    by : (lookup (bytes_eq v) (scope_with old ++ scope) ≡ Some r → HasSortAt (below_existentials ((b.name, Called c.name) ∷ changes) old new) v r) →
        (t : Bool) → bytes_eq v b.name ≡ t → cond t (Some b.sort) (lookup (bytes_eq v) (scope_with old ++ scope)) ≡ Some r →
        HasSortAt (below_existentials ((b.name, Called c.name) ∷ changes) old new) v r
    by go true q j = below old new ((b.name, Called c.name) ∷ changes) v r (subst (λ t. HasSortOf (cond t (Some (Called c.name)) (lookup (bytes_eq v) changes)) r) (sym q) tt)
    by go false q j = go j

-- what suits a scope suits the one below the existentials of an assertion, which have new names there
pub suits_inside : (changes : Changes) (a : Assertion) (scope : Scope) → Suiting changes scope → Suiting (below_existentials changes a.existentials (new_existentials changes a)) (scope_with a.existentials ++ scope)
suits_inside changes a scope h v r i = at_below a.existentials (new_existentials changes a) scope changes v r (new_length changes a) (h v r) i

-- ---- terms for variables

-- the sort of a variable is that of its first binder
pub named_is : (x : List ℕ) (bs : List Binder) → lookup (bytes_eq x) (scope_with bs) ≡ sort_named x bs
named_is x [] = refl
named_is x (b ∷ bs) = ap (cond (bytes_eq x b.name) (Some b.sort)) (named_is x bs)

pub variable_suits : (x : List ℕ) (s : Sort) (bs : List Binder) (t : Plain) → sort_named x bs ≡ Some s → sort_of t ≡ Some s → Suiting (puts ((x, t) ∷ [])) (scope_with bs)
variable_suits x s bs t e i v r h = by (bytes_eq v x) refl
  where
    by : (b : Bool) → bytes_eq v x ≡ b → HasSortOf (cond b (Some (Put t)) None) r
    by true q = i ∙ sym e ∙ sym (named_is x bs) ∙ subst (λ y. lookup (bytes_eq y) (scope_with bs) ≡ Some r) ((bytes_eq-Decides v x).0 q) h
    by false q = tt

-- a variable of its sort for each binder
pub names_suit : (bs : List Binder) (names : List (List ℕ)) (scope : Scope) → Suiting (puts (by_names bs names)) (scope_with bs ++ scope)
names_suit [] names scope v r h = tt
names_suit (b ∷ bs) [] scope v r h = tt
names_suit (b ∷ bs) (x ∷ names) scope v r h = by (λ j. names_suit bs names scope v r j) (bytes_eq v b.name) h
  where
    by : (lookup (bytes_eq v) (scope_with bs ++ scope) ≡ Some r → HasSortOf (lookup (bytes_eq v) (puts (by_names bs names))) r) →
        (t : Bool) → cond t (Some b.sort) (lookup (bytes_eq v) (scope_with bs ++ scope)) ≡ Some r →
        HasSortOf (cond t (Some (Put (At (Variable x b.sort) Done))) (lookup (bytes_eq v) (puts (by_names bs names)))) r
    by go true j = j
    by go false j = go j

-- a term for the first one, where the others have new names
pub first_suits : (b : Binder) (more : List Binder) (scope : Scope) (t : Plain) (a : Assertion) → a.existentials ≡ more → sort_of t ≡ Some b.sort →
    Suiting (below_existentials (puts ((b.name, t) ∷ [])) more (new_existentials (puts ((b.name, t) ∷ [])) a)) (scope_with (b ∷ more) ++ scope)
first_suits b more scope t a is e v r i = by (bytes_eq v b.name) refl i
  where
    new_more : length (new_existentials (puts ((b.name, t) ∷ [])) a) ≡ length more
    new_more = new_length (puts ((b.name, t) ∷ [])) a ∙ ap length is

    here : (u : Bool) → bytes_eq v b.name ≡ u → HasSortOf (cond u (Some (Put t)) None) r → HasSortAt (puts ((b.name, t) ∷ [])) v r
    here u q h = subst (λ w. HasSortOf (cond w (Some (Put t)) None) r) (sym q) h

    by : (u : Bool) → bytes_eq v b.name ≡ u → cond u (Some b.sort) (lookup (bytes_eq v) (scope_with more ++ scope)) ≡ Some r →
        HasSortAt (below_existentials (puts ((b.name, t) ∷ [])) more (new_existentials (puts ((b.name, t) ∷ [])) a)) v r
    by true q j = below more (new_existentials (puts ((b.name, t) ∷ [])) a) (puts ((b.name, t) ∷ [])) v r (here true q (e ∙ j))
    by false q j = at_below more (new_existentials (puts ((b.name, t) ∷ [])) a) scope (puts ((b.name, t) ∷ [])) v r new_more (λ k. here false q tt) j
