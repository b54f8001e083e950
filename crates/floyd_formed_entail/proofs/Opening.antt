-- The goal with names for the existentials of its source is well formed.
use Rattle.std.proofs.Common.{◌≡◌, ℕ, ◌+◌, ◌<◌, ◌≤◌, ◌^◌, Bool, true, false, not, List, [], ◌∷◌, ◌++◌, map, length, Option, Some, None, Ok, refl, sym, ap₂, subst, ◌∙◌, arith, eqb-true}
use Rattle.std.specs.Prelude.{bytes_eq, nat_eq}
use Rattle.std.specs.List.{flat_map, list_all}
use Rattle.std.specs.Map.{lookup}
use Rattle.floyd_text.specs.declared.refusal.No.{No}
use Rattle.floyd_tree.specs.Formulas.{PlainFormula, formula_mentions, formula_sizes, formulas}
use Rattle.floyd_tree.specs.MadeFormulas.{formula_fits}
use Rattle.floyd_tree.specs.Plain.{Plain}
use Rattle.floyd_tree_values.specs.Rules.{AreDistinct, Scope}
use Rattle.floyd_truth.specs.Capture.{Changes, bound_in}
use Rattle.floyd_truth.specs.Replace.{puts, replaced_formula}
use Rattle.floyd_truth.proofs.Fresh.{weight}
use Rattle.floyd_assert_trees.specs.declared.assertion.Assertion.{Assertion}
use Rattle.floyd_assert_trees.specs.declared.binder.Binder.{Binder}
use Rattle.floyd_assert_trees.specs.declared.items.Defs.{Defs}
use Rattle.floyd_assert_trees.specs.declared.spec.SpecTable.{SpecTable}
use Rattle.floyd_assert_changes.specs.Changed.{assertion_after, assertion_fits, assertion_with, local_terms, part_terms}
use Rattle.floyd_assert_changes.specs.Substituted.{formulas_with}
use Rattle.floyd_assert_laws.specs.InChanged.{body_nodes}
use Rattle.floyd_goal_trees.specs.Contexts.{context_of, scope_of}
use Rattle.floyd_goal_trees.specs.declared.args.Args.{Args}
use Rattle.floyd_goal_trees.specs.declared.context.Context.{Context}
use Rattle.floyd_goal_trees.specs.declared.goal.Goal.{Goal}
use Rattle.floyd_goal_trees.specs.declared.goal.Goal.TheVariants.{Run, Entail, Pure}
use Rattle.floyd_goal_forms.specs.Assertions.{AssertionFits}
use Rattle.floyd_goal_forms.specs.Goals.{ContextFits, IsWellFormed}
use Rattle.floyd_goal_forms.specs.Terms.{FormulaFits, FormulasFit, scope_with}
use Rattle.floyd_goal_parts.specs.Rows.{Answer, Unless}
use Rattle.floyd_goal_parts.specs.Sources.{from_source}
use Rattle.floyd_entail.specs.Intros.{ByNames, IsOpened, Opens, Row, UnlessTaken, WithMemory, bare, by_names, first_taken, new_variables, opened_context, wrong_names}
use Rattle.floyd_entail_soundness.specs.Rows.{HasFewNodes}
use Rattle.floyd_entail_soundness.proofs.Placing.{same_Ok}
use Rattle.floyd_entail_soundness.proofs.Putting.{made_is}
use Rattle.floyd_entail_soundness.proofs.Sources.{of_result}
use Rattle.floyd_pure_formulas.proofs.Substituting.{Suiting}
use Rattle.floyd_formed_pure.specs.Rows.{AreWellFormed}
use Rattle.floyd_formed_pure.proofs.Contexts.{AreIn, both_all, mark_after}
use Rattle.floyd_formed_quantifiers.proofs.Growing.{assertion_grows, exits_grow, props_grow}
use Rattle.floyd_formed_quantifiers.proofs.Leading.{Leads, Ready}
use Rattle.floyd_formed_quantifiers.proofs.Replacing.{changed_formed}
use Rattle.floyd_formed_entail.proofs.Changing.{AreInside, locals_changed, names_stay, parts_changed, suits_by}
use Rattle.floyd_formed_entail.proofs.NewNames.{AreFree, distinct_both, more_in, names_free, names_lead, none_called}

-- ---- what the row made

refused_or : (test : Bool) (refusal : No) (Next : Answer → Type 0) (goals : List Goal) → Unless test refusal Next (Ok goals) → (test ≡ false) × Next (Ok goals)
refused_or true refusal Next goals row = absurd cc
refused_or false refusal Next goals row = (refl, row)

none_taken : (o : Option (List ℕ)) (Next : Answer → Type 0) (goals : List Goal) → UnlessTaken o Next (Ok goals) → (o ≡ None) × Next (Ok goals)
none_taken None Next goals h = (refl, h)
none_taken (Some x) Next goals h = absurd cc

not_false : (b : Bool) → not b ≡ false → b ≡ true
not_false true e = refl
not_false false e = absurd cc

record Made (goal : Goal) (source : Assertion) (names : List (List ℕ)) (goals : List Goal) : Type 0 where
  pub count : length names ≡ length source.existentials
  pub free : first_taken (context_of goal).variables [] names ≡ None
  pub goals_are : goals ≡ from_source goal (opened_context (context_of goal) (new_variables source.existentials names) (map (replaced_formula (puts (by_names source.existentials names))) source.props)) (assertion_after (puts (by_names source.existentials names)) (bare source)) ∷ []

made : (goal : Goal) (source : Assertion) (names : List (List ℕ)) (goals : List Goal) → ByNames goal source names (Ok goals) → Made goal source names goals
made goal source names goals row =
    let pairs = by_names source.existentials names in
    let vs = new_variables source.existentials names in
    let taken = first_taken (context_of goal).variables [] names in
    let p = refused_or (not (nat_eq (length names) (length source.existentials))) wrong_names (UnlessTaken taken (Opens goal source names)) goals row in
    let q = none_taken taken (Opens goal source names) goals p.1 in
    let r = of_result (formulas_with pairs source.props) (WithMemory goal source names pairs) goals q.1 in
    let s = of_result (assertion_with pairs (bare source)) (IsOpened goal source names r.0) goals r.2 in
    let props : map (replaced_formula (puts pairs)) source.props ≡ r.0 = made_is (list_all formula_fits) (map (replaced_formula (puts pairs)) source.props) r.0 r.1 in
    let memory : assertion_after (puts pairs) (bare source) ≡ s.0 = made_is assertion_fits (assertion_after (puts pairs) (bare source)) s.0 s.1 in
    record {
      count = eqb-true (length names) (length source.existentials) (not_false (nat_eq (length names) (length source.existentials)) p.0);
      free = q.0;
      goals_are = same_Ok {A = List Goal} goals (from_source goal (opened_context (context_of goal) vs r.0) s.0 ∷ []) s.2
          ∙ ap₂ (λ fs a. from_source goal (opened_context (context_of goal) vs fs) a ∷ []) (sym props) (sym memory);
    }

-- ---- what it is made of

pairs_weigh : (bs : List Binder) (names : List (List ℕ)) → weight (puts (by_names bs names)) ≤ length bs
pairs_weigh [] names = omega arith
pairs_weigh (b ∷ bs) [] = omega arith
pairs_weigh (b ∷ bs) (x ∷ names) = omega (arith, pairs_weigh bs names)

inside_all : (defs : Defs) (changes : Changes) (old new : Scope) (leads : (v : List ℕ) → true ≡ true → Leads defs changes old new v) (ts : List Plain) → AreInside defs changes old new (λ v. true) leads ts
inside_all defs changes old new leads [] = tt
inside_all defs changes old new leads (t ∷ ts) = ((λ v i. refl), inside_all defs changes old new leads ts)

module _ (defs : Defs) (specs : SpecTable) (context : Context) (source : Assertion) (names : List (List ℕ)) (count : length names ≡ length source.existentials) (free : AreFree context.variables [] (new_variables source.existentials names)) (small : body_nodes source < 2 ^ 63) (fits : AssertionFits defs specs (scope_of context) source) where
  abbrev bs : List Binder
  bs = source.existentials

  abbrev vs : List Binder
  vs = new_variables source.existentials names

  abbrev changes : Changes
  changes = puts (by_names source.existentials names)

  abbrev old : Scope
  old = scope_with source.existentials ++ scope_with context.variables

  abbrev new : Scope
  new = scope_with (context.variables ++ vs)

  leads : (v : List ℕ) → Leads defs changes old new v
  leads v = names_lead defs context.variables bs names count free v

  suits : Suiting changes old
  suits v r e = suits_by defs changes old new (λ w. true) (λ w i. leads w) (lookup (bytes_eq v) changes) v r (leads v r e)

  ready : (is_free is_bound : List ℕ → Bool) → Ready defs changes old new is_free is_bound
  ready is_free is_bound = record { leads = λ v i. leads v; kept = λ v z e. absurd (none_called bs names v z e) }

  props_formed : (fs : List PlainFormula) → formula_sizes (formulas fs) + length bs < 2 ^ 63 → FormulasFit defs specs old fs → FormulasFit defs specs new (map (replaced_formula changes) fs)
  props_formed [] l h = tt
  props_formed (a ∷ fs) l h = (
    changed_formed defs specs changes old new a suits (omega (arith, l, pairs_weigh bs names)) (ready (λ v. formula_mentions v a) (λ v. bound_in v a)) h.0,
    props_formed fs (omega (arith, l)) h.1,
  )

  pub memory_formed : AssertionFits defs specs new (assertion_after changes (bare source))
  memory_formed = record {
    existentials = tt;
    props = tt;
    temporaries = subst AreDistinct (sym (names_stay changes source.locals)) fits.temporaries;
    locals = locals_changed defs changes old new (λ v. true) (λ v i. leads v) source.locals (inside_all defs changes old new (λ v i. leads v) (local_terms source.locals)) fits.locals;
    parts = parts_changed defs changes old new (λ v. true) (λ v i. leads v) source.parts (inside_all defs changes old new (λ v i. leads v) (flat_map part_terms source.parts)) fits.parts;
  }

  pub larger : AreIn (scope_of context) new
  larger = more_in context.variables vs

  pub opened_formed : (before after : Goal) → ContextFits defs specs before context → ContextFits defs specs after (opened_context context vs (map (replaced_formula changes) source.props))
  opened_formed before after h =
      let opened = opened_context context vs (map (replaced_formula changes) source.props) in
      record {
        variables = distinct_both context.variables vs h.variables free.distinct (λ v i. (free.free v i).0);
        hypotheses = both_all (FormulaFits defs specs new) context.hypotheses (map (replaced_formula changes) source.props) (props_grow defs (scope_of context) new larger specs context.hypotheses h.hypotheses)
            (props_formed source.props (omega (arith, small)) fits.props);
        mark = mark_after defs context opened larger before after context.mark h.mark;
      }

-- ---- the command

pub intros_forms : (defs : Defs) (specs : SpecTable) (goal : Goal) (args : Args) (goals : List Goal) → IsWellFormed defs specs goal → HasFewNodes defs goal args → Row goal args (Ok goals) → AreWellFormed defs specs goals
intros_forms defs specs (Run run) args goals formed small row =
    let m = made (Run run) run.source args.names goals row in
    let free = names_free run.context.variables [] run.source.existentials args.names m.free in
    let memory = memory_formed defs specs run.context run.source args.names m.count free small formed.source in
    let opened = opened_context run.context (new_variables run.source.existentials args.names) (map (replaced_formula (puts (by_names run.source.existentials args.names))) run.source.props) in
    let after = from_source (Run run) opened (assertion_after (puts (by_names run.source.existentials args.names)) (bare run.source)) in
    let one : IsWellFormed defs specs after = record {
      context = opened_formed defs specs run.context run.source args.names m.count free small formed.source (Run run) after formed.context;
      source = memory;
      statements = formed.statements;
      exits = exits_grow defs specs (scope_of run.context) (scope_of opened) (larger defs specs run.context run.source args.names m.count free small formed.source) run.exits formed.exits;
    } in
    subst (AreWellFormed defs specs) (sym m.goals_are) (one, tt)
intros_forms defs specs (Entail entail) args goals formed small row =
    let m = made (Entail entail) entail.source args.names goals row in
    let free = names_free entail.context.variables [] entail.source.existentials args.names m.free in
    let memory = memory_formed defs specs entail.context entail.source args.names m.count free small formed.source in
    let opened = opened_context entail.context (new_variables entail.source.existentials args.names) (map (replaced_formula (puts (by_names entail.source.existentials args.names))) entail.source.props) in
    let after = from_source (Entail entail) opened (assertion_after (puts (by_names entail.source.existentials args.names)) (bare entail.source)) in
    let one : IsWellFormed defs specs after = record {
      context = opened_formed defs specs entail.context entail.source args.names m.count free small formed.source (Entail entail) after formed.context;
      source = memory;
      target = assertion_grows defs specs (scope_of entail.context) (scope_of opened) (larger defs specs entail.context entail.source args.names m.count free small formed.source) entail.target formed.target;
    } in
    subst (AreWellFormed defs specs) (sym m.goals_are) (one, tt)
intros_forms defs specs (Pure pure) args goals formed small row = absurd cc
