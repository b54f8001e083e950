-- The goal with a term for the first existential of its target is well formed.
use Rattle.std.proofs.Common.{◌≡◌, inl, inr, ℕ, ◌+◌, ◌<◌, ◌^◌, Bool, true, false, cond, List, [], ◌∷◌, ◌++◌, length, Option, Some, None, Ok, refl, sym, ap, subst, ◌∙◌, arith}
use Rattle.std.specs.Prelude.{bytes_eq}
use Rattle.std.specs.List.{AllByRecursion}
use Rattle.std.specs.Map.{lookup}
use Rattle.std.proofs.lemmas.Slice.Eq.{bytes_eq-Decides}
use Rattle.floyd_text.specs.declared.refusal.No.{No}
use Rattle.floyd_tree_sorts.specs.declared.sorts.Sort.{Val}
use Rattle.floyd_tree.specs.Plain.{Plain, size}
use Rattle.floyd_tree_values.specs.Rules.{AreDistinct, IsOneOf, Scope}
use Rattle.floyd_truth.specs.Capture.{Becomes, Called, Put}
use Rattle.floyd_truth.specs.Replace.{puts}
use Rattle.floyd_assert_trees.specs.declared.assertion.Assertion.{Assertion}
use Rattle.floyd_assert_trees.specs.declared.assertion.Local.{Local}
use Rattle.floyd_assert_trees.specs.declared.binder.Binder.{Binder}
use Rattle.floyd_assert_trees.specs.declared.items.Defs.{Defs}
use Rattle.floyd_assert_trees.specs.declared.spec.SpecTable.{SpecTable}
use Rattle.floyd_assert_changes.specs.Changed.{assertion_after, assertion_fits, assertion_with}
use Rattle.floyd_assert_laws.specs.InChanged.{body_nodes}
use Rattle.floyd_goal.specs.Goals.{intros_first, some_left}
use Rattle.floyd_goal_trees.specs.Contexts.{scope_of}
use Rattle.floyd_goal_trees.specs.declared.args.Args.{Args}
use Rattle.floyd_goal_trees.specs.declared.goal.Entail as e
use Rattle.floyd_goal_trees.specs.declared.goal.Goal.{Goal}
use Rattle.floyd_goal_trees.specs.declared.goal.Goal.TheVariants.{Run, Entail, Pure}
use Rattle.floyd_goal_forms.specs.Assertions.{AssertionFits, PartsFit, PredicatesOf}
use Rattle.floyd_goal_forms.specs.Goals.{IsWellFormed}
use Rattle.floyd_goal_forms.specs.Terms.{FormulasFit, TermFits, names_with, scope_with}
use Rattle.floyd_goal_parts.specs.Rows.{Answer, Unless}
use Rattle.floyd_entail.specs.Exists.{ForFirst, IsToward, Puts, Row, toward, under}
use Rattle.floyd_entail_soundness.specs.Rows.{IsOfFirst, IsWitness}
use Rattle.floyd_entail_soundness.proofs.Placing.{same_Ok}
use Rattle.floyd_entail_soundness.proofs.Putting.{made_is}
use Rattle.floyd_entail_soundness.proofs.Sources.{of_result}
use Rattle.floyd_formed_pure.specs.Rows.{AreWellFormed}
use Rattle.floyd_formed_pure.proofs.Contexts.{AreIn, after_formed}
use Rattle.floyd_formed_quantifiers.proofs.Growing.{each_grows, fits_grow, parts_grow, props_grow}
use Rattle.floyd_formed_quantifiers.proofs.Leading.{Leads, LeadsBy}
use Rattle.floyd_formed_renaming.proofs.Assertions.{assertion_formed}

passed : (test : Bool) (refusal : No) (Next : Answer → Type 0) (goals : List Goal) → Unless test refusal Next (Ok goals) → Next (Ok goals)
passed true refusal Next goals row = absurd cc
passed false refusal Next goals row = row

-- ---- the first existential as the nearest variable of the scope

-- an existential of another name than those behind it may stand behind them
moved : (b : Binder) (more : List Binder) (scope : Scope) → ¬ IsOneOf (names_with more) b.name → AreIn (scope_with (b ∷ more) ++ scope) (scope_with more ++ (b.name, b.sort) ∷ scope)
moved b [] scope d v s k = k
moved b (c ∷ more) scope d v s k = by (bytes_eq v b.name) refl (bytes_eq v c.name) refl (moved b more scope (λ i. d (inr i)) v s) k
  where
    by : (t : Bool) → bytes_eq v b.name ≡ t → (u : Bool) → bytes_eq v c.name ≡ u → (cond (bytes_eq v b.name) (Some b.sort) (lookup (bytes_eq v) (scope_with more ++ scope)) ≡ Some s → lookup (bytes_eq v) (scope_with more ++ (b.name, b.sort) ∷ scope) ≡ Some s) →
        cond (bytes_eq v b.name) (Some b.sort) (cond (bytes_eq v c.name) (Some c.sort) (lookup (bytes_eq v) (scope_with more ++ scope))) ≡ Some s →
        cond (bytes_eq v c.name) (Some c.sort) (lookup (bytes_eq v) (scope_with more ++ (b.name, b.sort) ∷ scope)) ≡ Some s
    by true f true h next j = absurd (d (inl (sym ((bytes_eq-Decides v b.name).0 f) ∙ (bytes_eq-Decides v c.name).0 h)))
    by true f false h next j =
        ap (λ x. cond x (Some c.sort) (lookup (bytes_eq v) (scope_with more ++ (b.name, b.sort) ∷ scope))) h
        ∙ next (ap (λ x. cond x (Some b.sort) (lookup (bytes_eq v) (scope_with more ++ scope))) f ∙ sym (ap (λ x. cond x (Some b.sort) (cond (bytes_eq v c.name) (Some c.sort) (lookup (bytes_eq v) (scope_with more ++ scope)))) f) ∙ j)
    by false f true h next j =
        ap (λ x. cond x (Some c.sort) (lookup (bytes_eq v) (scope_with more ++ (b.name, b.sort) ∷ scope))) h
        ∙ sym (ap (λ x. cond x (Some c.sort) (lookup (bytes_eq v) (scope_with more ++ scope))) h)
        ∙ sym (ap (λ x. cond x (Some b.sort) (cond (bytes_eq v c.name) (Some c.sort) (lookup (bytes_eq v) (scope_with more ++ scope)))) f)
        ∙ j
    by false f false h next j =
        ap (λ x. cond x (Some c.sort) (lookup (bytes_eq v) (scope_with more ++ (b.name, b.sort) ∷ scope))) h
        ∙ next (
        ap (λ x. cond x (Some b.sort) (lookup (bytes_eq v) (scope_with more ++ scope))) f
        ∙ sym (ap (λ x. cond x (Some c.sort) (lookup (bytes_eq v) (scope_with more ++ scope))) h)
        ∙ sym (ap (λ x. cond x (Some b.sort) (cond (bytes_eq v c.name) (Some c.sort) (lookup (bytes_eq v) (scope_with more ++ scope)))) f)
        ∙ j)

module _ (defs : Defs) (specs : SpecTable) (scope : Scope) (target : Assertion) (b : Binder) (more : List Binder) (is : target.existentials ≡ b ∷ more) (h : AssertionFits defs specs scope target) where
  abbrev near : Scope
  near = (b.name, b.sort) ∷ scope

  -- the target without its first existential
  under_formed : AssertionFits defs specs near (under target more)
  under_formed =
      let d = subst (λ bs. AreDistinct (names_with bs)) is h.existentials in
      let k = moved b more scope d.0 in
      let small = scope_with (b ∷ more) ++ scope in
      let large = scope_with more ++ near in
      record {
        existentials = d.1;
        props = props_grow defs small large k specs target.props (subst (λ bs. FormulasFit defs specs (scope_with bs ++ scope) target.props) is h.props);
        temporaries = h.temporaries;
        locals = each_grows (λ (l : Local). TermFits defs small Val l.term) (λ (l : Local). TermFits defs large Val l.term) (λ l. fits_grow defs small large k Val l.term) target.locals
            (subst (λ bs. AllByRecursion (λ (l : Local). TermFits defs (scope_with bs ++ scope) Val l.term) target.locals) is h.locals);
        parts = parts_grow defs small large k target.parts (subst (λ bs. PartsFit defs (scope_with bs ++ scope) (PredicatesOf defs (scope_with bs ++ scope)) target.parts) is h.parts);
      }

  module _ (t : Plain) (fit : TermFits defs scope b.sort t) where
    leads : (v : List ℕ) → Leads defs (puts ((b.name, t) ∷ [])) near scope v
    leads v r e = by (bytes_eq v b.name) e
      where
        by : (q : Bool) → cond q (Some b.sort) (lookup (bytes_eq v) scope) ≡ Some r → LeadsBy defs scope (cond q (Some (Put t)) None) v r
        by true i = let same : b.sort ≡ r = cc in subst (λ q. TermFits defs scope q t) same fit
        by false i = i

    none_called : (v z : List ℕ) (q : Bool) → ◌≡◌ {A = Option Becomes} (cond q (Some (Put t)) None) (Some (Called z)) → ⊥
    none_called v z true i = cc
    none_called v z false i = cc

    pub witness_formed : size t + body_nodes target < 2 ^ 63 → AssertionFits defs specs scope (assertion_after (puts ((b.name, t) ∷ [])) (under target more))
    witness_formed l =
        let count : length target.existentials ≡ length more + 1 = ap length is ∙ omega arith in
        assertion_formed defs specs (puts ((b.name, t) ∷ [])) near scope (under target more) (omega (arith, l, count)) leads (λ v z i. none_called v z (bytes_eq v b.name) i) under_formed

-- ---- the command

module _ (defs : Defs) (specs : SpecTable) (entail : e.Entail) (formed : IsWellFormed defs specs (Entail entail)) (goals : List Goal) where
  by_first : (bs : List Binder) → entail.target.existentials ≡ bs → (terms : List Plain) → IsOfFirst defs entail.context entail.target bs terms → ForFirst entail bs terms (Ok goals) → AreWellFormed defs specs goals
  by_first [] is terms w row = absurd cc
  by_first (b ∷ more) is [] w row = (let r = passed (some_left entail.source.existentials) intros_first (Puts entail b more []) goals row in absurd cc)
  by_first (b ∷ more) is (t ∷ ts) w row =
      let r = passed (some_left entail.source.existentials) intros_first (Puts entail b more (t ∷ ts)) goals row in
      let a = of_result (assertion_with ((b.name, t) ∷ []) (under entail.target more)) (IsToward entail) goals r in
      let made = made_is assertion_fits (assertion_after (puts ((b.name, t) ∷ [])) (under entail.target more)) a.0 a.1 in
      let after = toward entail a.0 in
      let same : goals ≡ after ∷ [] = same_Ok {A = List Goal} goals (after ∷ []) a.2 in
      let few = w.1 in
      let target = subst (AssertionFits defs specs (scope_of entail.context)) made (witness_formed defs specs (scope_of entail.context) entail.target b more is formed.target t w.0 (omega (arith, few))) in
      let one : IsWellFormed defs specs after = record { context = after_formed defs specs (Entail entail) after entail.context formed.context; source = formed.source; target = target } in
      subst (AreWellFormed defs specs) (sym same) (one, tt)

pub exists_forms : (defs : Defs) (specs : SpecTable) (goal : Goal) (args : Args) (goals : List Goal) → IsWellFormed defs specs goal → IsWitness defs goal args → Row goal args (Ok goals) → AreWellFormed defs specs goals
exists_forms defs specs (Run run) args goals formed w row = absurd cc
exists_forms defs specs (Pure pure) args goals formed w row = absurd cc
exists_forms defs specs (Entail entail) args goals formed w row = by_first defs specs entail formed goals entail.target.existentials refl args.terms w row
