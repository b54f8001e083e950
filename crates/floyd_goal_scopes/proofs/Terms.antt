-- What occurs in well-formed terms and formulas is a variable of the scope.
use Rattle.std.proofs.Common.{◌≡◌, ⊎_elim, ℕ, Bool, true, false, not, ◌&&◌, ◌||◌, cond, List, [], ◌∷◌, ◌++◌, Some, refl, sym, ap, ◌∙◌}
use Rattle.std.specs.Prelude.{bytes_eq, is_some}
use Rattle.std.specs.List.{AllByRecursion}
use Rattle.std.specs.Map.{lookup}
use Rattle.std.proofs.lemmas.Bool.{and_parts, not-true, or_cases, or_parts}
use Rattle.std.proofs.lemmas.Slice.Eq.{bytes_eq-Decides}
use Rattle.floyd_ctypes.specs.Structs.{Structs}
use Rattle.floyd_tree_sorts.specs.declared.connectives.FormulaHead.{FormulaHead}
use Rattle.floyd_tree_sorts.specs.declared.connectives.FormulaHead.TheVariants.{Forall, Exists}
use Rattle.floyd_tree_sorts.specs.declared.heads.Head.{Head}
use Rattle.floyd_tree_sorts.specs.declared.heads.Head.TheVariants.{Variable}
use Rattle.floyd_tree_sorts.specs.declared.sorts.Sort.{Sort}
use Rattle.floyd_tree_sorts.specs.Heads.{binds, is_variable}
use Rattle.floyd_tree.specs.Formulas.{PlainFormula, PlainFormulas, Says, NoFormula, MoreFormulas, formula_mentions, formulas, formulas_mention}
use Rattle.floyd_tree.specs.Plain.{Plain, Plains, At, Done, More, mentions, mentions_in, plains}
use Rattle.floyd_tree_values.specs.Means as m
use Rattle.floyd_tree_values.specs.Rules.{AllAllowed, Calls, CallsOf, EachAllowed, IsAllowed, Scope}
use Rattle.floyd_assert_trees.specs.declared.binder.Binder.{Binder}
use Rattle.floyd_assert_trees.specs.declared.items.Defs.{Defs}
use Rattle.floyd_assert_trees.specs.declared.spec.SpecTable.{SpecTable}
use Rattle.floyd_assert_trees.specs.Meanings.{value_defs}
use Rattle.floyd_assert_changes.specs.Changed.{has_name}
use Rattle.floyd_goal_formulas.specs.Fits as f
use Rattle.floyd_goal_formulas.specs.Fits.{scope_below}
use Rattle.floyd_goal_forms.specs.Terms.{FormulasFit, TermFits, TermsFit, scope_with}

-- the name is a variable of the scope
abbrev pub Known : Scope → List ℕ → Type 0
Known scope v = is_some (lookup (bytes_eq v) scope) ≡ true

module _ (v : List ℕ) where
  module _ (structs : Structs) (scope : Scope) (calls : Calls) where
    variable_known : (head : Head) (kids : Plains) → IsAllowed structs scope calls head kids → is_variable v head ≡ true → Known scope v
    variable_known (Variable x s) kids h e = ap (λ y. is_some (lookup (bytes_eq y) scope)) ((bytes_eq-Decides v x).0 e) ∙ ap is_some h
    variable_known head kids h e = absurd cc

    mutual
      pub term_known : (t : Plain) → EachAllowed structs scope calls t → mentions v t ≡ true → Known scope v
      term_known (At head kids) h e = ⊎_elim (variable_known head kids h.0) (terms_known kids h.1) (or_cases (is_variable v head) (mentions_in v kids) e)

      pub terms_known : (ts : Plains) → AllAllowed structs scope calls ts → mentions_in v ts ≡ true → Known scope v
      terms_known Done h e = absurd cc
      terms_known (More t ts) h e = ⊎_elim (term_known t h.0) (terms_known ts h.1) (or_cases (mentions v t) (mentions_in v ts) e)

  -- not below a binder of it
  below : (head : FormulaHead) (scope : Scope) → binds v head ≡ false → Known (scope_below head scope) v → Known scope v
  below (Forall y s) scope e k = sym (ap (λ t. is_some (cond t (Some s) (lookup (bytes_eq v) scope))) e) ∙ k
  below (Exists y s) scope e k = sym (ap (λ t. is_some (cond t (Some s) (lookup (bytes_eq v) scope))) e) ∙ k
  below head scope e k = k

  module _ (defs : m.Defs) where
    mutual
      pub formula_known : (scope : Scope) (a : PlainFormula) → f.IsAllowed defs scope a → formula_mentions v a ≡ true → Known scope v
      formula_known scope (Says head ts fs) h e = ⊎_elim
          (terms_known defs.structs scope (CallsOf defs.funs) ts h.0)
          (λ k. let p = and_parts (not (binds v head)) (formulas_mention v fs) k in
          below head scope (not-true (binds v head) p.0) (formulas_known (scope_below head scope) fs h.1 p.1))
          (or_cases (mentions_in v ts) (not (binds v head) && formulas_mention v fs) e)

      pub formulas_known : (scope : Scope) (fs : PlainFormulas) → f.AreAllowed defs scope fs → formulas_mention v fs ≡ true → Known scope v
      formulas_known scope NoFormula h e = absurd cc
      formulas_known scope (MoreFormulas a fs) h e = ⊎_elim (formula_known scope a h.0) (formulas_known scope fs h.1) (or_cases (formula_mentions v a) (formulas_mention v fs) e)

  -- ---- over what a module's proofs stand on

  module _ (defs : Defs) (scope : Scope) where
    -- where it occurs in the term, it is a variable of the scope
    abbrev pub KnownIn : Plain → Type 0
    KnownIn t = mentions v t ≡ true → Known scope v

    pub fits_known : (s : Sort) (t : Plain) → TermFits defs scope s t → KnownIn t
    fits_known s t h e = term_known defs.structs scope (CallsOf (value_defs defs).funs) t h.fits.allowed e

    pub all_known : (sorts : List Sort) (ts : List Plain) → TermsFit defs scope sorts ts → AllByRecursion KnownIn ts
    all_known [] [] h = tt
    all_known [] (t ∷ ts) h = absurd h
    all_known (s ∷ sorts) [] h = absurd h
    all_known (s ∷ sorts) (t ∷ ts) h = (fits_known s t h.0, all_known sorts ts h.1)

    pub list_known : (ts : List Plain) → AllByRecursion KnownIn ts → mentions_in v (plains ts) ≡ true → Known scope v
    list_known [] h e = absurd cc
    list_known (t ∷ ts) h e = ⊎_elim h.0 (list_known ts h.1) (or_cases (mentions v t) (mentions_in v (plains ts)) e)

    pub props_known : (specs : SpecTable) (fs : List PlainFormula) → FormulasFit defs specs scope fs → formulas_mention v (formulas fs) ≡ true → Known scope v
    props_known specs [] h e = absurd cc
    props_known specs (a ∷ fs) h e =
        ⊎_elim (formula_known (value_defs defs) scope a h.0.fits.allowed) (props_known specs fs h.1) (or_cases (formula_mentions v a) (formulas_mention v (formulas fs)) e)

  -- ---- binders

  -- behind binders of other names
  pub behind : (bs : List Binder) (scope : Scope) → has_name v bs ≡ false → Known (scope_with bs ++ scope) v → Known scope v
  behind [] scope e k = k
  behind (b ∷ bs) scope e k =
      let p = or_parts (bytes_eq v b.name) (has_name v bs) e in
      behind bs scope p.1 (sym (ap (λ t. is_some (cond t (Some b.sort) (lookup (bytes_eq v) (scope_with bs ++ scope)))) p.0) ∙ k)

  -- a variable of binders is one of their names
  pub is_name : (bs : List Binder) → Known (scope_with bs) v → has_name v bs ≡ true
  is_name [] k = absurd cc
  is_name (b ∷ bs) k = by (is_name bs) (bytes_eq v b.name) k
    where
      by : (Known (scope_with bs) v → has_name v bs ≡ true) → (t : Bool) → is_some (cond t (Some b.sort) (lookup (bytes_eq v) (scope_with bs))) ≡ true → (t || has_name v bs) ≡ true
      by go true q = refl
      by go false q = go q
