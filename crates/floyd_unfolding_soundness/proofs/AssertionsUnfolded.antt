-- An assertion holds with what calls mean in their place exactly where it did.
use Rattle.std.proofs.Common.{◌≡◌, ◌↔◌, ℕ, Bool, true, false, ◌||◌, ◌⊎◌, inl, inr, cond, List, [], ◌∷◌, ◌++◌, map, Option, Some, None, Result, Ok, Err, refl, sym, ap, subst, ◌∙◌}
use Rattle.std.specs.Prelude.{bytes_eq}
use Rattle.std.specs.List.{AllByRecursion}
use Rattle.std.specs.Map.{lookup}
use Rattle.floyd_text.specs.declared.refusal.No.{No}
use Rattle.floyd_tree_sorts.specs.declared.sorts.Sort.{Sort}
use Rattle.floyd_tree.specs.Formulas.{PlainFormula, PlainFormulas}
use Rattle.floyd_tree.specs.Plain.{Plain, Plains}
use Rattle.floyd_tree_values.specs.BuiltIns.{Env}
use Rattle.floyd_tree_values.specs.Data.{Datum, HasSort}
use Rattle.floyd_tree_values.specs.Rules.{AreDistinct, DefsKeep, Scope, Suits}
use Rattle.floyd_truth.proofs.OneTruth.{giving}
use Rattle.floyd_assert_trees.specs.declared.assertion.Assertion.{Assertion}
use Rattle.floyd_assert_trees.specs.declared.binder.Binder.{Binder}
use Rattle.floyd_assert_changes.specs.Changed.{has_name, terms_in}
use Rattle.floyd_assert_terms.specs.Mapped.{body_mapped}
use Rattle.floyd_assert_meaning.specs.Alike.{Alike, MeanAlike, SayAlike}
use Rattle.floyd_int.specs.declared.kinds.Value.{Value}
use Rattle.floyd_clight_heap.specs.Heaplet.{Heaplet}
use Rattle.floyd_assert_meaning.specs.Assertions.{Holds}
use Rattle.floyd_assert_meaning.specs.Same.{Pairwise}
use Rattle.floyd_assert_meaning.specs.Settings.{AreFor, Setting, with_each}
use Rattle.floyd_assert_meaning.proofs.AlikeLaws.{alike_holds}
use Rattle.floyd_goal_formulas.specs.Fits.{Fits}
use Rattle.floyd_goal_forms.specs.Assertions.{inner_scope}
use Rattle.floyd_goal_forms.specs.Terms.{names_with, scope_with}
use Rattle.floyd_goal_names.proofs.NewNames.{each_other, sorted_each}
use Rattle.floyd_tree_values.specs.Funs as funs
use Rattle.floyd_tree_values.specs.Means.{Means}
use Rattle.floyd_tree_values.proofs.OneValue.{one_value}
use Rattle.floyd_assert_trees.specs.declared.items.Fun.{Fun}
use Rattle.floyd_assert_trees.specs.Meanings.{fun_of}
use Rattle.floyd_goal_formulas.proofs.Values.{valued}
use Rattle.floyd_simplifying.specs.Assertions.{changed_or}
use Rattle.floyd_unfolding.specs.Assertions.{assertion_unfolded, formula_or, term_or, with_both}
use Rattle.floyd_unfolding.specs.Calls.{TakesTerms}
use Rattle.floyd_unfolding.specs.Unfolded.{formula_unfolded, unfolded}
use Rattle.floyd_rewriting_laws.proofs.Mapping.{mapped_alike}
use Rattle.floyd_simplifying_laws.specs.Laws.{AreFit, IsTerm}
use Rattle.floyd_unfolding_soundness.proofs.FormulasUnfolded.{formula_kept}
use Rattle.floyd_unfolding_soundness.proofs.TermsUnfolded.{term_good}

-- ---- data below existentials

-- a variable is one of the existentials, or of the scope around them
abbrev OneOfBoth : List Binder → Scope → List ℕ → Sort → Type 0
OneOfBoth bs scope v s = (lookup (bytes_eq v) (scope_with bs) ≡ Some s) ⊎ ((has_name v bs ≡ false) × (lookup (bytes_eq v) scope ≡ Some s))

of_both : (bs : List Binder) (scope : Scope) (v : List ℕ) (s : Sort) → lookup (bytes_eq v) (scope_with bs ++ scope) ≡ Some s → OneOfBoth bs scope v s
of_both [] scope v s e = inr (refl, e)
of_both (b ∷ bs) scope v s e = by (of_both bs scope v s) (bytes_eq v b.name) refl e
  where
    grow : bytes_eq v b.name ≡ false → OneOfBoth bs scope v s → OneOfBoth (b ∷ bs) scope v s
    grow i (inl p) = inl (ap (λ t. cond t (Some b.sort) (lookup (bytes_eq v) (scope_with bs))) i ∙ p)
    grow i (inr p) = inr (ap (λ t. t || has_name v bs) i ∙ p.0, p.1)

    by : (lookup (bytes_eq v) (scope_with bs ++ scope) ≡ Some s → OneOfBoth bs scope v s) → (t : Bool) → bytes_eq v b.name ≡ t → cond t (Some b.sort) (lookup (bytes_eq v) (scope_with bs ++ scope)) ≡ Some s → OneOfBoth (b ∷ bs) scope v s
    by go true i q = inl (ap (λ t. cond t (Some b.sort) (lookup (bytes_eq v) (scope_with bs))) i ∙ q)
    by go false i q = grow i (go q)

suits_inside : (env : Env) (bs : List Binder) (scope : Scope) (ds : List Datum) → AreDistinct (names_with bs) → AreFor bs ds → Suits scope env → Suits (scope_with bs ++ scope) (giving env (with_each env.variables bs ds))
suits_inside env bs scope ds distinct sorted suits = record { each = λ v s e. by v s (of_both bs scope v s e) }
  where
    by : (v : List ℕ) (s : Sort) → OneOfBoth bs scope v s → HasSort s (with_each env.variables bs ds v)
    by v s (inl p) = sorted_each bs env.variables ds sorted distinct v s p
    by v s (inr p) = subst (HasSort s) (sym (each_other bs env.variables ds v p.0)) (suits.each v s p.1)

-- ---- what the command gave

made_by : (name : List ℕ) (own : Fun) (a : Assertion) (x : Result (Option PlainFormulas) No) (y : Result (Option Plains) No) (made : Assertion) → with_both name own a x y ≡ Ok (Some made) → body_mapped (term_or name own) (map (formula_or name own) a.props) a ≡ made
made_by name own a (Err refusal) y made e = absurd cc
made_by name own a (Ok None) (Err refusal) made e = absurd cc
made_by name own a (Ok (Some fs)) (Err refusal) made e = absurd cc
made_by name own a (Ok None) (Ok None) made e = absurd cc
made_by name own a (Ok None) (Ok (Some ts)) made e = cc
made_by name own a (Ok (Some fs)) (Ok ts) made e = cc

-- ---- each formula and each term

module _ (S : Setting) (env : Env) (keeps : DefsKeep S.defs) (name : List ℕ) (own : Fun) (takes : TakesTerms own) (there : funs.fun_of S.defs.funs name ≡ Some (fun_of (name, own))) where
  module _ (scope : Scope) (g : List ℕ → Datum) (suits : Suits scope (giving env g)) where
    formula_alike : (f : PlainFormula) → Fits S.defs scope f → SayAlike S env g g (formula_or name own f) f
    formula_alike f fit = by (formula_unfolded name own f) refl
      where
        by : (x : Result (Option PlainFormula) No) → formula_unfolded name own f ≡ x → SayAlike S env g g (changed_or f x) f
        by (Ok None) e = (λ p. p, λ p. p)
        by (Ok (Some made)) e = formula_kept S.defs S.has_spec env keeps name own takes there scope g suits f fit.sorted fit.allowed (Some made) e
        by (Err refusal) e = (λ p. p, λ p. p)

    pub formulas_alike : (fs : List PlainFormula) → AllByRecursion (Fits S.defs scope) fs → Pairwise (SayAlike S env g g) (map (formula_or name own) fs) fs
    formulas_alike [] fit = tt
    formulas_alike (f ∷ fs) fit = (formula_alike f fit.0, formulas_alike fs fit.1)

    term_alike : (t : Plain) → IsTerm S.defs scope t → MeanAlike S env g g (term_or name own t) t
    term_alike t fit = by (unfolded name own t) refl
      where
        by : (x : Result (Option Plain) No) → unfolded name own t ≡ x → MeanAlike S env g g (changed_or t x) t
        by (Ok None) e = λ d. (λ m. m, λ m. m)
        by (Ok (Some made)) e =
            let k = term_good S.defs (giving env g) scope suits keeps name own takes there t fit.0 fit.1.allowed fit.1.sorted (Some made) e in
            let v = valued S.defs scope (giving env g) keeps suits t fit.0 fit.1.allowed fit.1.sorted in
            λ d. (λ m. subst (Means S.defs (giving env g) t) (one_value S.defs (k.kept.means v.0 v.1) d m) v.1, λ m. k.kept.means d m)
        by (Err refusal) e = λ d. (λ m. m, λ m. m)

    pub terms_alike : (ts : List Plain) → AllByRecursion (IsTerm S.defs scope) ts → AllByRecursion (λ t. MeanAlike S env g g (term_or name own t) t) ts
    terms_alike [] fit = tt
    terms_alike (t ∷ ts) fit = (term_alike t fit.0, terms_alike ts fit.1)

  unfolded_alike : (scope : Scope) (a : Assertion) → Suits scope env → AreFit S.defs scope a → Alike S env env.variables env.variables (body_mapped (term_or name own) (map (formula_or name own) a.props) a) a
  unfolded_alike scope a suits fit =
      mapped_alike S env env.variables (term_or name own) (map (formula_or name own) a.props) a
      (λ ds sorted.
      let inner : Suits (inner_scope a scope) (giving env (with_each env.variables a.existentials ds)) = suits_inside env a.existentials scope ds fit.existentials sorted suits in
      (formulas_alike (inner_scope a scope) (with_each env.variables a.existentials ds) inner a.props fit.props, terms_alike (inner_scope a scope) (with_each env.variables a.existentials ds) inner (terms_in a) fit.terms))

  -- where the FUNs keep the rules, and the data suit the scope
  pub assertion_kept : (scope : Scope) (a made : Assertion) (temps : List ℕ → Value) (h : Heaplet) → Suits scope env → AreFit S.defs scope a → assertion_unfolded name own a ≡ Ok (Some made) → Holds S env made temps h ↔ Holds S env a temps h
  assertion_kept scope a made temps h suits fit e =
      let is : body_mapped (term_or name own) (map (formula_or name own) a.props) a ≡ made = made_by name own a _ _ made e in
      subst (λ b. Holds S env b temps h ↔ Holds S env a temps h) is
      (alike_holds S env env.variables env.variables (body_mapped (term_or name own) (map (formula_or name own) a.props) a) a (unfolded_alike scope a suits fit) temps h)
