-- The goal of what is left of a target whose parts are those of the source is well formed.
use Rattle.std.proofs.Common.{◌≡◌, ℕ, Bool, true, false, cond, List, [], ◌∷◌, ◌++◌, Option, Some, None, Ok, refl, sym, subst, inl, inr}
use Rattle.std.specs.Prelude.{bytes_eq}
use Rattle.std.specs.List.{AllByRecursion}
use Rattle.floyd_text.specs.declared.refusal.No.{No}
use Rattle.floyd_tree_sorts.specs.declared.connectives.FormulaHead.TheVariants.{Equal}
use Rattle.floyd_tree_sorts.specs.declared.sorts.Sort.{Val}
use Rattle.floyd_tree.specs.Plain.{Plain}
use Rattle.floyd_tree_values.specs.Rules.{Scope}
use Rattle.floyd_assert_trees.specs.declared.assertion.Local.{Local}
use Rattle.floyd_assert_trees.specs.declared.binder.Binder.{Binder}
use Rattle.floyd_assert_trees.specs.declared.items.Defs.{Defs}
use Rattle.floyd_assert_trees.specs.declared.spec.SpecTable.{SpecTable}
use Rattle.floyd_goal.specs.Goals.{intros_first, some_left}
use Rattle.floyd_goal_trees.specs.Contexts.{scope_of}
use Rattle.floyd_goal_trees.specs.declared.args.Args.{Args}
use Rattle.floyd_goal_trees.specs.declared.goal.Entail as e
use Rattle.floyd_goal_trees.specs.declared.goal.Goal.{Goal}
use Rattle.floyd_goal_trees.specs.declared.goal.Goal.TheVariants.{Run, Entail, Pure}
use Rattle.floyd_goal_forms.specs.Goals.{IsWellFormed}
use Rattle.floyd_goal_forms.specs.Terms.{FormulaFits, FormulasFit, TermFits, scope_with}
use Rattle.floyd_goal_parts.specs.Rows.{Answer, Unless}
use Rattle.floyd_goal_parts.specs.Writing.{all_written}
use Rattle.floyd_entail_cancel.specs.Cancel.{IsSided, OfTarget, TakesLocals, TakesParts, UnlessMissing, WhenDone, closed, equation_to, equations, exists_first, first_missing, is_done, value_of}
use Rattle.floyd_entail_soundness.specs.Rows.{CancelRow}
use Rattle.floyd_entail_soundness.proofs.Sources.{of_result}
use Rattle.floyd_entail_soundness.proofs.Written.{all_written_is}
use Rattle.floyd_formed_pure.specs.Rows.{AreWellFormed}
use Rattle.floyd_formed_pure.proofs.Contexts.{both_all}
use Rattle.floyd_formed_equations.proofs.Equations.{two_formed}
use Rattle.floyd_formed_entail.proofs.Sided.{sided_formed}

refused_or : (test : Bool) (refusal : No) (Next : Answer → Type 0) (goals : List Goal) → Unless test refusal Next (Ok goals) → (test ≡ false) × Next (Ok goals)
refused_or true refusal Next goals row = absurd cc
refused_or false refusal Next goals row = (refl, row)

no_more : (bs : List Binder) → some_left bs ≡ false → bs ≡ []
no_more [] e = refl
no_more (b ∷ bs) e = absurd cc

no_missing : (o : Option (List ℕ)) (Next : Answer → Type 0) (goals : List Goal) → UnlessMissing o Next (Ok goals) → Next (Ok goals)
no_missing None Next goals h = h
no_missing (Some x) Next goals h = absurd cc

-- ---- the equations of temporaries

module _ (defs : Defs) (specs : SpecTable) (scope : Scope) where
  abbrev IsValue : Local → Type 0
  IsValue l = TermFits defs scope Val l.term

  value_fits : (source : List Local) (x : List ℕ) (v : Plain) → AllByRecursion IsValue source → value_of source x ≡ Some v → TermFits defs scope Val v
  value_fits [] x v h f = absurd cc
  value_fits (l ∷ source) x v h f = by (value_fits source x v h.1) (bytes_eq x l.name) f
    where
      by : (value_of source x ≡ Some v → TermFits defs scope Val v) → (b : Bool) → cond b (Some l.term) (value_of source x) ≡ Some v → TermFits defs scope Val v
      by next true g = let same : l.term ≡ v = cc in subst (TermFits defs scope Val) same h.0
      by next false g = next g

  equations_formed : (source target : List Local) → AllByRecursion IsValue source → AllByRecursion IsValue target → FormulasFit defs specs scope (equations source target)
  equations_formed source [] h k = tt
  equations_formed source (l ∷ target) h k = by (equations_formed source target h k.1) (value_of source l.name) refl
    where
      by : FormulasFit defs specs scope (equations source target) → (o : Option Plain) → value_of source l.name ≡ o → FormulasFit defs specs scope (equation_to o l.term ++ equations source target)
      by rest None f = rest
      by rest (Some v) f =
          let a = value_fits source l.name v h f in
          (two_formed defs specs scope Equal v l.term Val Val tt a.fits.sorted k.0.fits.sorted refl (a.fits.allowed, a.known) (k.0.fits.allowed, k.0.known), rest)

-- ---- the command

module _ (entail : e.Entail) (goals : List Goal) where
  closes_when : (b : Bool) → WhenDone entail b (Ok goals) → IsSided entail.context entail.target.props (equations entail.source.locals entail.target.locals) (Ok goals)
  closes_when true g =
      let w = of_result (all_written (equations entail.source.locals entail.target.locals)) (IsSided entail.context entail.target.props) goals g in
      subst (λ fs. IsSided entail.context entail.target.props fs (Ok goals)) (sym (all_written_is (equations entail.source.locals entail.target.locals) w.0 w.1)) w.2
  closes_when false g =
      let wrong = g.2 in
      absurd cc

  closes : TakesParts entail (Ok goals) → IsSided entail.context entail.target.props (equations entail.source.locals entail.target.locals) (Ok goals)
  closes (inl t) = closes_when (is_done t.0 entail.target.parts) t.2
  closes (inr t) =
      let wrong = t.2 in
      absurd cc

pub cancel_forms : (defs : Defs) (specs : SpecTable) (goal : Goal) (args : Args) (goals : List Goal) → IsWellFormed defs specs goal → CancelRow goal args (Ok goals) → AreWellFormed defs specs goals
cancel_forms defs specs (Run run) args goals formed row = absurd cc
cancel_forms defs specs (Pure pure) args goals formed row = absurd cc
cancel_forms defs specs (Entail entail) args goals formed row =
    let source = entail.source in
    let target = entail.target in
    let scope = scope_of entail.context in
    let p = refused_or (some_left source.existentials) intros_first (OfTarget entail) goals row in
    let q = refused_or (some_left target.existentials) exists_first (TakesLocals entail) goals p.1 in
    let sided = closes entail goals (no_missing (first_missing source.locals target.locals) (TakesParts entail) goals q.1) in
    let none = no_more source.existentials p.0 in
    let no = no_more target.existentials q.0 in
    let own = subst (λ bs. AllByRecursion (λ (l : Local). TermFits defs (scope_with bs ++ scope) Val l.term) source.locals) none formed.source.locals in
    let wanted = subst (λ bs. AllByRecursion (λ (l : Local). TermFits defs (scope_with bs ++ scope) Val l.term) target.locals) no formed.target.locals in
    let props = subst (λ bs. FormulasFit defs specs (scope_with bs ++ scope) target.props) no formed.target.props in
    let eqs = equations source.locals target.locals in
    sided_formed defs specs (Entail entail) formed closed goals (target.props ++ eqs) (both_all (FormulaFits defs specs scope) target.props eqs props (equations_formed defs specs scope source.locals target.locals own wanted)) (λ kept k. tt) sided
