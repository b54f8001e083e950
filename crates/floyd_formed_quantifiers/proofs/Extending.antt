-- Goals with a variable more are well formed.
use Rattle.std.proofs.Common.{◌≡◌, ◌⊎◌, inl, inr, ⊎_elim, ℕ, Bool, true, false, cond, List, [], ◌∷◌, ◌++◌, Some, None, refl, sym, ap, ◌∙◌, true≢false}
use Rattle.std.specs.Prelude.{bytes_eq}
use Rattle.std.specs.Map.{lookup}
use Rattle.std.proofs.lemmas.Bool.{or_parts}
use Rattle.std.proofs.lemmas.Slice.Eq.{bytes_eq-Decides}
use Rattle.floyd_tree.specs.Formulas.{PlainFormula}
use Rattle.floyd_tree_values.specs.Rules.{AreDistinct, IsOneOf}
use Rattle.floyd_assert_trees.specs.declared.binder.Binder.{Binder}
use Rattle.floyd_assert_trees.specs.declared.items.Defs.{Defs}
use Rattle.floyd_assert_trees.specs.declared.spec.SpecTable.{SpecTable}
use Rattle.floyd_assert_changes.specs.Changed.{has_name}
use Rattle.floyd_goal.specs.Goals.{in_context}
use Rattle.floyd_goal_trees.specs.Contexts.{context_of, scope_of, with_hypotheses}
use Rattle.floyd_goal_trees.specs.declared.context.Context.{Context}
use Rattle.floyd_goal_trees.specs.declared.goal.Goal.{Goal}
use Rattle.floyd_goal_trees.specs.declared.goal.Goal.TheVariants as g
use Rattle.floyd_goal_forms.specs.Goals.{ContextFits, IsWellFormed}
use Rattle.floyd_goal_forms.specs.Terms.{FormulaFits, FormulasFit, TermFits, names_with, scope_with}
use Rattle.floyd_pure_formulas.specs.Naming.{variable}
use Rattle.floyd_pure_formulas.specs.Rows.{extended}
use Rattle.floyd_formed_pure.proofs.Contexts.{AreIn, both_all, mark_after}
use Rattle.floyd_formed_quantifiers.proofs.Growing.{assertion_grows, exits_grow, prop_grows, props_grow}
use Rattle.floyd_formed_quantifiers.proofs.Leading.{itself}

more_in : (vs bs : List Binder) → AreIn (scope_with vs) (scope_with (vs ++ bs))
more_in [] bs x s e = absurd cc
more_in (b ∷ vs) bs x s e = by (λ i. more_in vs bs x s i) (bytes_eq x b.name) e
  where
    by : (lookup (bytes_eq x) (scope_with vs) ≡ Some s → lookup (bytes_eq x) (scope_with (vs ++ bs)) ≡ Some s) → (t : Bool) → cond t (Some b.sort) (lookup (bytes_eq x) (scope_with vs)) ≡ Some s → cond t (Some b.sort) (lookup (bytes_eq x) (scope_with (vs ++ bs))) ≡ Some s
    by further true i = i
    by further false i = further i

new_found : (vs : List Binder) (b : Binder) → has_name b.name vs ≡ false → lookup (bytes_eq b.name) (scope_with (vs ++ b ∷ [])) ≡ Some b.sort
new_found [] b e = ap (λ t. cond t (Some b.sort) None) (itself b.name)
new_found (c ∷ vs) b e =
    let p = or_parts (bytes_eq b.name c.name) (has_name b.name vs) e in
    ap (λ t. cond t (Some c.sort) (lookup (bytes_eq b.name) (scope_with (vs ++ b ∷ [])))) p.0 ∙ new_found vs b p.1

one_of_more : (vs : List Binder) (b : Binder) (x : List ℕ) → IsOneOf (names_with (vs ++ b ∷ [])) x → IsOneOf (names_with vs) x ⊎ (x ≡ b.name)
one_of_more [] b x (inl e) = inr e
one_of_more [] b x (inr k) = absurd k
one_of_more (c ∷ vs) b x (inl e) = inl (inl e)
one_of_more (c ∷ vs) b x (inr k) = ⊎_elim (λ i. inl (inr i)) (λ e. inr e) (one_of_more vs b x k)

distinct_more : (vs : List Binder) (b : Binder) → AreDistinct (names_with vs) → has_name b.name vs ≡ false → AreDistinct (names_with (vs ++ b ∷ []))
distinct_more [] b d e = ((λ h. h), tt)
distinct_more (c ∷ vs) b d e =
    let p = or_parts (bytes_eq b.name c.name) (has_name b.name vs) e in
    let other : c.name ≡ b.name → ⊥ = λ i. true≢false (sym ((bytes_eq-Decides b.name c.name).1 (sym i)) ∙ p.0) in
    ((λ h. ⊎_elim d.0 other (one_of_more vs b c.name h)), distinct_more vs b d.1 p.1)

module _ (defs : Defs) (context : Context) (b : Binder) (new : has_name b.name context.variables ≡ false) where
  abbrev with_one : Context
  with_one = extended context (b ∷ [])

  pub scope_in : AreIn (scope_of context) (scope_of with_one)
  scope_in = more_in context.variables (b ∷ [])

  -- the new variable is a term of its sort
  pub variable_fits : TermFits defs (scope_of with_one) b.sort (variable b.name b.sort)
  variable_fits = record { fits = record { sorted = refl; allowed = (new_found context.variables b new, tt) }; known = (tt, tt) }

  module _ (specs : SpecTable) where
    pub extended_formed : (before after : Goal) → ContextFits defs specs before context → ContextFits defs specs after with_one
    extended_formed before after h = record {
      variables = distinct_more context.variables b h.variables new;
      hypotheses = props_grow defs (scope_of context) (scope_of with_one) scope_in specs context.hypotheses h.hypotheses;
      mark = mark_after defs context with_one scope_in before after context.mark h.mark;
    }

    abbrev with_both : List PlainFormula → Context
    with_both fs = with_hypotheses with_one fs

    both_formed : (fs : List PlainFormula) (before after : Goal) → ContextFits defs specs before context → FormulasFit defs specs (scope_of with_one) fs → ContextFits defs specs after (with_both fs)
    both_formed fs before after h k = record {
      variables = distinct_more context.variables b h.variables new;
      hypotheses = both_all (FormulaFits defs specs (scope_of with_one)) context.hypotheses fs (props_grow defs (scope_of context) (scope_of with_one) scope_in specs context.hypotheses h.hypotheses) k;
      mark = mark_after defs context (with_both fs) scope_in before after context.mark h.mark;
    }

module _ (defs : Defs) (specs : SpecTable) (b : Binder) (fs : List PlainFormula) where
  -- a goal of any kind with the variable and hypotheses for it
  pub opened_formed : (goal : Goal) → has_name b.name (context_of goal).variables ≡ false → IsWellFormed defs specs goal → FormulasFit defs specs (scope_of (extended (context_of goal) (b ∷ []))) fs →
      IsWellFormed defs specs (in_context goal (with_hypotheses (extended (context_of goal) (b ∷ [])) fs))
  opened_formed (g.Run run) new h k =
      let larger = scope_in defs run.context b new in
      let scope = scope_of (extended run.context (b ∷ [])) in
      record {
        context = both_formed defs run.context b new specs fs (g.Run run) (in_context (g.Run run) (with_hypotheses (extended run.context (b ∷ [])) fs)) h.context k;
        source = assertion_grows defs specs (scope_of run.context) scope larger run.source h.source;
        statements = h.statements;
        exits = exits_grow defs specs (scope_of run.context) scope larger run.exits h.exits;
      }
  opened_formed (g.Entail entail) new h k =
      let larger = scope_in defs entail.context b new in
      let scope = scope_of (extended entail.context (b ∷ [])) in
      record {
        context = both_formed defs entail.context b new specs fs (g.Entail entail) (in_context (g.Entail entail) (with_hypotheses (extended entail.context (b ∷ [])) fs)) h.context k;
        source = assertion_grows defs specs (scope_of entail.context) scope larger entail.source h.source;
        target = assertion_grows defs specs (scope_of entail.context) scope larger entail.target h.target;
      }
  opened_formed (g.Pure pure) new h k =
      let larger = scope_in defs pure.context b new in
      let scope = scope_of (extended pure.context (b ∷ [])) in
      record {
        context = both_formed defs pure.context b new specs fs (g.Pure pure) (in_context (g.Pure pure) (with_hypotheses (extended pure.context (b ∷ [])) fs)) h.context k;
        target = prop_grows defs (scope_of pure.context) scope larger specs pure.target h.target;
      }
