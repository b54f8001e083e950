-- The goals of the cases of a variable, or of a hypothesis, are well formed.
use Rattle.std.proofs.Common.{◌≡◌, Bool, true, false, List, [], ◌++◌, map, Ok, refl, sym, subst}
use Rattle.floyd_text.specs.declared.refusal.No.{No}
use Rattle.floyd_tree_sorts.specs.declared.sorts.Sort.{Sort}
use Rattle.floyd_tree.specs.Made.{fits}
use Rattle.floyd_tree.specs.Plain.{Plain, Plains, plains}
use Rattle.floyd_tree_values.specs.Rules.{CallsOf, EachAllowed, IsAllowed, Scope}
use Rattle.floyd_assert_trees.specs.declared.binder.Binder.{Binder}
use Rattle.floyd_assert_trees.specs.declared.items.Defs.{Defs}
use Rattle.floyd_assert_trees.specs.declared.spec.SpecTable.{SpecTable}
use Rattle.floyd_assert_trees.specs.Meanings.{value_defs}
use Rattle.floyd_goal.specs.Goals.{intros_first, is_pending}
use Rattle.floyd_goal_forms.specs.Goals.{IsWellFormed}
use Rattle.floyd_goal_forms.specs.Terms.{GlobalsKnown, IsKnown, TermFits, scope_with}
use Rattle.floyd_goal_trees.specs.Contexts.{context_of}
use Rattle.floyd_goal_trees.specs.declared.args.Args.{Args}
use Rattle.floyd_goal_trees.specs.declared.args.Target.{Target}
use Rattle.floyd_goal_trees.specs.declared.args.Target.TheVariants.{Nothing, Part, Hypothesis}
use Rattle.floyd_goal_trees.specs.declared.goal.Goal.{Goal}
use Rattle.floyd_pure_formulas.specs.declared.constructors.Constructors.{Constructors}
use Rattle.floyd_pure_formulas.specs.Destruct.{DestructRow, OfTarget}
use Rattle.floyd_pure_formulas.specs.HypothesisCases.{HypothesisCases}
use Rattle.floyd_pure_formulas.specs.Rows.{Answer, Unless, WhenNamed}
use Rattle.floyd_pure_formulas.specs.VariableCases.{as_term, built, variable_cases, without, zipped}
use Rattle.floyd_pure_formulas.proofs.Building.{Built, lists, trees, are_of, built_by}
use Rattle.floyd_pure_formulas.proofs.Rowing.{no_goals, passed}
use Rattle.floyd_pure_formulas.proofs.VariableTrue.{sort_found, sorted_by}
use Rattle.floyd_rewriting_soundness.specs.Small.{IsSmallGoal}
use Rattle.floyd_formed_pure.specs.Rows.{AreWellFormed}
use Rattle.floyd_formed_quantifiers.proofs.Quantified.{hypothesis_cases_forms}
use Rattle.floyd_formed_destruct.specs.Rows.{KeepsFormsOfSmall}
use Rattle.floyd_formed_destruct.proofs.Exchanged.{case_formed}
use Rattle.floyd_formed_destruct.proofs.Scopes.{new_terms}

module _ (defs : Defs) (scope : Scope) where
  abbrev Each : Plain → Type 0
  Each t = EachAllowed defs.structs scope (CallsOf (value_defs defs).funs) t × GlobalsKnown defs t

  abbrev Head : Constructors → Plains → Type 0
  Head c kids = IsAllowed defs.structs scope (CallsOf (value_defs defs).funs) c.head kids × IsKnown defs c.head

  empty_fine : (sort : Sort) (c : Constructors) → Built sort c → Each c.empty
  empty_fine sort c (lists s i k) = subst (λ d. Each d.empty) (sym k) ((tt, tt), (tt, tt))
  empty_fine sort c (trees s i k) = subst (λ d. Each d.empty) (sym k) ((tt, tt), (tt, tt))

  head_fine : (sort : Sort) (c : Constructors) (kids : Plains) → Built sort c → Head c kids
  head_fine sort c kids (lists s i k) = subst (λ d. Head d kids) (sym k) (tt, tt)
  head_fine sort c kids (trees s i k) = subst (λ d. Head d kids) (sym k) (tt, tt)

empty_small : (sort : Sort) (c : Constructors) → Built sort c → fits c.empty ≡ true
empty_small sort c (lists s i k) = subst (λ d. fits d.empty ≡ true) (sym k) refl
empty_small sort c (trees s i k) = subst (λ d. fits d.empty ≡ true) (sym k) refl

module _ (defs : Defs) (specs : SpecTable) (goal : Goal) (formed : IsWellFormed defs specs goal) (few : IsSmallGoal goal) (goals : List Goal) where
  abbrev vars : List Binder
  vars = (context_of goal).variables

  variable_formed : (args : Args) → Ok goals ≡ variable_cases goal args → AreWellFormed defs specs goals
  variable_formed args e =
      let x = args.name in
      let s = sorted_by goal args goals e in
      let w = s.went in
      let b = built_by s.sort s.c s.of' in
      let a = are_of s.sort s.c s.of' in
      let new = zipped args.names s.c.sorts in
      let here = sort_found x vars s.sort s.is in
      let none = scope_with (without x vars ++ []) in
      let more = scope_with (without x vars ++ new) in
      let bare = empty_fine defs none s.sort s.c b in
      let top = head_fine defs more s.sort s.c (plains (map as_term new)) b in
      let kids = new_terms defs vars x new w.new in
      let empty : TermFits defs none s.sort s.c.empty = record { fits = record { sorted = a.empty; allowed = bare.0 }; known = bare.1 } in
      let full : TermFits defs more s.sort (built s.c new) = record { fits = record { sorted = a.sorted args.names w.count; allowed = (top.0, kids.0) }; known = (top.1, kids.1) } in
      subst (AreWellFormed defs specs) (sym w.goals') (
        case_formed defs specs x s.sort s.c.empty [] (empty_small s.sort s.c b) goal w.empty here refl empty formed few w.empty_is,
        (case_formed defs specs x s.sort (built s.c new) new (a.fitting args.names w.count) goal w.full here w.new full formed few w.full_is, tt),
      )

-- a row in another row's words
in_words : (test : Bool) (refusal : No) (P Q : Answer → Type 0) (goals : List Goal) → (P (Ok goals) → Q (Ok goals)) → Unless test refusal P (Ok goals) → Unless test refusal Q (Ok goals)
in_words true refusal P Q goals f row = absurd (no_goals goals refusal row)
in_words false refusal P Q goals f row = f row

pub destruct_forms : KeepsFormsOfSmall DestructRow
destruct_forms defs specs goal args goals formed few given row = by args.target row
  where
    by : (target : Target) → WhenNamed goal (OfTarget goal args target) (Ok goals) → AreWellFormed defs specs goals
    by Nothing row = variable_formed defs specs goal formed few goals args (passed (is_pending goal) intros_first (OfTarget goal args Nothing) goals row)
    by (Part k) row = variable_formed defs specs goal formed few goals args (passed (is_pending goal) intros_first (OfTarget goal args (Part k)) goals row)
    by (Hypothesis k) row =
        hypothesis_cases_forms defs specs goal args goals formed given (in_words (is_pending goal) intros_first (OfTarget goal args (Hypothesis k)) (HypothesisCases goal args) goals (λ h. h) row)
