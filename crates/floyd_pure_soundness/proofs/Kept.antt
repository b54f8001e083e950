-- A Pure goal holds where the goals of a row do that keeps truth under each environment.
use Rattle.std.proofs.Common.{◌≡◌, inl, inr, ℕ, List, [], ◌∷◌, Some, refl, sym, ap, subst, ◌∙◌}
use Rattle.std.specs.Prelude.{bytes_eq}
use Rattle.std.specs.List.{AllByRecursion}
use Rattle.std.specs.Map.{lookup}
use Rattle.floyd_tree_sorts.specs.declared.sorts.Sort.{Sort}
use Rattle.floyd_tree_values.specs.BuiltIns.{Env}
use Rattle.floyd_tree_values.specs.Rules.{IsOneOf}
use Rattle.floyd_assert_trees.specs.declared.items.Defs.{Defs}
use Rattle.floyd_assert_trees.specs.declared.items.Lemma.{Lemma}
use Rattle.floyd_assert_trees.specs.declared.spec.SpecTable.{SpecTable}
use Rattle.floyd_assert_meaning.specs.Settings.{Setting}
use Rattle.floyd_goal_trees.specs.Contexts.{scope_of}
use Rattle.floyd_goal_trees.specs.declared.context.Context.{Context}
use Rattle.floyd_goal_trees.specs.declared.context.Mark.{Mark}
use Rattle.floyd_goal_trees.specs.declared.context.Mark.TheVariants as m
use Rattle.floyd_goal_trees.specs.declared.goal.Goal.{Goal}
use Rattle.floyd_goal_trees.specs.declared.goal.Goal.TheVariants as g
use Rattle.floyd_goal_meaning.specs.declared.linked.Linked.{Linked}
use Rattle.floyd_goal_meaning.specs.GoalHolds.{Given, HoldsFor, LemmaHoldsAt, LemmaHoldsAtEach, LemmasAreTrue, MarkHolds}
use Rattle.floyd_goal_meaning.specs.Links.{Has, AreApart}
use Rattle.floyd_goal_meaning.specs.Programs.{Further, Places, setting}
use Rattle.floyd_goal_laws.proofs.Growing.{fits_program}
use Rattle.floyd_pure_formulas.specs.Keeps.{AreTrueFrom, IsTrueFrom, KeepsTruth, MarkStays}
use Rattle.floyd_pure_formulas.specs.Rows.{Row}
use Rattle.floyd_pure_soundness.specs.Rows.{IsSoundOnPure, IsVariableOf, MarkFits}
use Rattle.floyd_pure_soundness.proofs.Arguments.{args_stay, hypotheses_stay}

module _ (S : Setting) (defs : Defs) (context : Context) (env other : Env) (agree : (x : List ℕ) (s : Sort) → lookup (bytes_eq x) (scope_of context) ≡ Some s → other.variables x ≡ env.variables x) where
  -- an induction's lemma holds for what a name has, under the other environment too
  at_name : (l : Lemma) (place : ℕ) (x : List ℕ) (names : List (List ℕ)) → AllByRecursion (IsVariableOf context) names → LemmaHoldsAtEach S l place env names → IsOneOf names x → LemmaHoldsAt S l place (other.variables x)
  at_name l place x [] v h k = absurd k
  at_name l place x (y ∷ names) v h (inl e) =
      subst (LemmaHoldsAt S l place) (ap env.variables (sym e) ∙ sym (agree x v.0.0 (ap (λ z. lookup (bytes_eq z) (scope_of context)) e ∙ v.0.1))) h.0
  at_name l place x (y ∷ names) v h (inr k) = at_name l place x names v.1 h.1 k

  at_names : (l : Lemma) (place : ℕ) (names left : List (List ℕ)) → AllByRecursion (IsVariableOf context) names → LemmaHoldsAtEach S l place env names → ((x : List ℕ) → IsOneOf left x → IsOneOf names x) → LemmaHoldsAtEach S l place other left
  at_names l place names [] v h k = tt
  at_names l place names (x ∷ left) v h k = (at_name l place x names v h (k x (inl refl)), at_names l place names left v h (λ y i. k y (inr i)))

  mark_goes_on : (before after : Mark) → MarkFits context before → MarkStays before after → MarkHolds S defs env before → MarkHolds S defs other after
  mark_goes_on before m.Plain v k h = tt
  mark_goes_on before (m.Start name) v k h = tt
  mark_goes_on m.Plain (m.Induction name place left) v k h = absurd k
  mark_goes_on (m.Start lemma) (m.Induction name place left) v k h = absurd k
  mark_goes_on (m.Induction lemma at names) (m.Induction name place left) v k h = λ l e.
      at_names l place names left v
      (subst (λ p. LemmaHoldsAtEach S l p env names) k.1 (h l (ap (λ x. lookup (bytes_eq x) defs.lemmas) k.0 ∙ e))) k.2

module _ (L : Linked) (more : List Further) (place : Places) (defs : Defs) (specs : SpecTable) (n : ℕ) (has : Has L defs specs) (apart : AreApart L more place) (lemmas : LemmasAreTrue (setting L more place) defs) (context : Context) (env : Env) (given : Given (setting L more place) defs context env) (marked : MarkFits context context.mark) where
  abbrev S : Setting
  S = setting L more place

  true_from : (goal : Goal) → HoldsFor defs specs n goal → IsTrueFrom S.defs S.has_spec context env goal
  true_from (g.Run run) h = tt
  true_from (g.Entail entail) h = tt
  true_from (g.Pure pure) h = λ other suits hyps goes.
      h.in_each L more place has apart lemmas other (record {
        suits = suits;
        global = goes.global ∙ given.global;
        hypotheses = hyps;
        mark = mark_goes_on S defs context env other goes.variables context.mark pure.context.mark marked goes.promise given.mark;
      })

  all_true_from : (goals : List Goal) → AllByRecursion (HoldsFor defs specs n) goals → AreTrueFrom S.defs S.has_spec context env goals
  all_true_from [] h = tt
  all_true_from (goal ∷ goals) h = (true_from goal h.0, all_true_from goals h.1)

pub keeping_row : (R : Row) → KeepsTruth R → IsSoundOnPure R
keeping_row R keeps defs specs n pure args goals fit args_fit row h = record {
  in_each = λ L more place has apart lemmas env given.
      keeps (setting L more place).defs (setting L more place).has_spec pure args goals has.rules (hypotheses_stay L defs specs has pure.context fit.hypotheses)
      (fits_program L defs specs has (scope_of pure.context) pure.target fit.target) (args_stay L defs specs has pure.context args args_fit) row env given.suits given.hypotheses
      (all_true_from L more place defs specs n has apart lemmas pure.context env given fit.mark goals h);
}
