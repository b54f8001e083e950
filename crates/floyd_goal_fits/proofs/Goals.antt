-- Well-formed goals meet what commands ask for.
use Rattle.std.proofs.Common.{ℕ, List, [], ◌∷◌, ◌++◌, All, refl}
use Rattle.std.specs.List.{AllByRecursion}
use Rattle.std.proofs.lemmas.List.Elements.{All-cons, All-nil}
use Rattle.floyd_tree_sorts.specs.declared.sorts.Sort.{Sort, Val}
use Rattle.floyd_tree.specs.Formulas.{PlainFormula}
use Rattle.floyd_tree.specs.Plain.{Plain}
use Rattle.floyd_tree_values.specs.Rules.{Scope}
use Rattle.floyd_truth.specs.Capture.{Changes}
use Rattle.floyd_truth.specs.Replace.{puts}
use Rattle.floyd_assert_trees.specs.declared.assertion.Assertion.{Assertion}
use Rattle.floyd_assert_trees.specs.declared.assertion.Local.{Local}
use Rattle.floyd_assert_trees.specs.declared.binder.Binder.{Binder}
use Rattle.floyd_assert_trees.specs.declared.items.Defs.{Defs}
use Rattle.floyd_assert_trees.specs.declared.spec.SpecTable.{SpecTable}
use Rattle.floyd_assert_trees.specs.Meanings.{value_defs}
use Rattle.floyd_assert_changes.specs.Changed.{below_existentials, new_existentials}
use Rattle.floyd_goal_changes.specs.Changed.{ExitSortsAgree, GoalSortsAgree}
use Rattle.floyd_goal_formulas.specs.Fits.{Fits}
use Rattle.floyd_goal_trees.specs.Contexts.{context_of, scope_of}
use Rattle.floyd_goal_trees.specs.declared.context.Context.{Context}
use Rattle.floyd_goal_trees.specs.declared.context.Mark.{Mark}
use Rattle.floyd_goal_trees.specs.declared.context.Mark.TheVariants as m
use Rattle.floyd_goal_trees.specs.declared.exits.Exit.{Exit}
use Rattle.floyd_goal_trees.specs.declared.exits.Exit.TheVariants as x
use Rattle.floyd_goal_trees.specs.declared.goal.Goal.{Goal}
use Rattle.floyd_goal_trees.specs.declared.goal.Goal.TheVariants.{Run, Entail, Pure}
use Rattle.floyd_goal_forms.specs.Assertions.{AssertionFits, PartsFit, PredicatesOf}
use Rattle.floyd_goal_forms.specs.Goals as f
use Rattle.floyd_goal_forms.specs.Goals.{ExitFits, IsWellFormed}
use Rattle.floyd_goal_forms.specs.Terms.{FormulasFit, TermFits, scope_with}
use Rattle.floyd_pure_formulas.proofs.Substituting.{Suiting}
use Rattle.floyd_pure_soundness.specs.Rows as sound
use Rattle.floyd_entail.specs.Exists as exists
use Rattle.floyd_entail.specs.Intros as intros
use Rattle.floyd_goal_fits.specs.Laws.{IsOfFirst, MeetDestruct, MeetExists, MeetIntro, MeetIntros, MeetSoundness, MeetSpecialize}
use Rattle.floyd_goal_fits.proofs.Parts.{assertion_agrees, memory_agrees, post_agrees, props_agree}
use Rattle.floyd_goal_fits.proofs.Suiting.{first_suits, names_suit, variable_suits}

-- ---- hypotheses and targets

all_fit : (defs : Defs) (specs : SpecTable) (scope : Scope) (fs : List PlainFormula) → FormulasFit defs specs scope fs → All (Fits (value_defs defs) scope) fs
all_fit defs specs scope [] h = All-nil (Fits (value_defs defs) scope)
all_fit defs specs scope (p ∷ fs) h = All-cons (Fits (value_defs defs) scope) p fs h.0.fits (all_fit defs specs scope fs h.1)

pub hypotheses_fit : MeetSpecialize
hypotheses_fit defs specs (Run run) h = all_fit defs specs (scope_of run.context) run.context.hypotheses h.context.hypotheses
hypotheses_fit defs specs (Entail entail) h = all_fit defs specs (scope_of entail.context) entail.context.hypotheses h.context.hypotheses
hypotheses_fit defs specs (Pure pure) h = all_fit defs specs (scope_of pure.context) pure.context.hypotheses h.context.hypotheses

pub target_fits : MeetIntro
target_fits defs specs (Run run) h = tt
target_fits defs specs (Entail entail) h = tt
target_fits defs specs (Pure pure) h = h.target.fits

-- ---- terms in the places of variables

module _ (defs : Defs) (specs : SpecTable) (changes : Changes) where
  exit_agrees : (scope : Scope) → Suiting changes scope → (exit : Exit) → ExitFits defs specs scope exit → ExitSortsAgree changes exit
  exit_agrees scope h x.None k = tt
  exit_agrees scope h (x.To a) k = assertion_agrees defs specs scope changes h a k
  exit_agrees scope h x.End k = tt

  goal_agrees : (goal : Goal) → Suiting changes (scope_of (context_of goal)) → IsWellFormed defs specs goal → GoalSortsAgree changes goal
  goal_agrees (Run run) h k =
      let scope = scope_of run.context in
      record {
        context = props_agree defs scope changes h specs run.context.hypotheses k.context.hypotheses;
        source = assertion_agrees defs specs scope changes h run.source k.source;
        exits = record {
          normal = exit_agrees scope h run.exits.normal k.exits.normal;
          brk = exit_agrees scope h run.exits.brk k.exits.brk;
          cont = exit_agrees scope h run.exits.cont k.exits.cont;
          ret = post_agrees defs specs scope changes h run.exits.ret.post run.exits.ret.result run.exits.ret.value k.exits.ret.post k.exits.ret.value;
        };
      }
  goal_agrees (Entail entail) h k =
      let scope = scope_of entail.context in
      record {
        context = props_agree defs scope changes h specs entail.context.hypotheses k.context.hypotheses;
        source = assertion_agrees defs specs scope changes h entail.source k.source;
        target = assertion_agrees defs specs scope changes h entail.target k.target;
      }
  goal_agrees (Pure pure) h k =
      let scope = scope_of pure.context in
      let target = props_agree defs scope changes h specs (pure.target ∷ []) (k.target, tt) in
      record {
        context = props_agree defs scope changes h specs pure.context.hypotheses k.context.hypotheses;
        target = target.0;
      }

pub is_scoped : MeetDestruct
is_scoped defs specs goal h = record {
  hypotheses = hypotheses_fit defs specs goal h;
  variables = λ x s e t i. goal_agrees defs specs (puts ((x, t) ∷ [])) goal (variable_suits x s (context_of goal).variables t e i) h;
}

-- ---- existentials

module _ (defs : Defs) (specs : SpecTable) (scope : Scope) where
  source_agrees : (a : Assertion) (names : List (List ℕ)) → AssertionFits defs specs scope a → intros.SourceSortsAgree a names
  source_agrees a names h =
      let suits = names_suit a.existentials names scope in
      let changes = puts (intros.by_names a.existentials names) in
      let inner = scope_with a.existentials ++ scope in
      (props_agree defs inner changes suits specs a.props h.props, (tt, memory_agrees defs inner changes suits a.locals a.parts h.locals h.parts))

  first_agrees : (a : Assertion) (bs : List Binder) (terms : List Plain) → FormulasFit defs specs (scope_with bs ++ scope) a.props → AllByRecursion (λ (l : Local). TermFits defs (scope_with bs ++ scope) Val l.term) a.locals →
      PartsFit defs (scope_with bs ++ scope) (PredicatesOf defs (scope_with bs ++ scope)) a.parts → IsOfFirst bs terms → exists.FirstSortsAgree a bs terms
  first_agrees a [] terms p l q w = tt
  first_agrees a (b ∷ more) [] p l q w = tt
  first_agrees a (b ∷ more) (t ∷ terms) p l q w =
      let suits = first_suits b more scope t (exists.under a more) refl w in
      let changes = below_existentials (puts ((b.name, t) ∷ [])) more (new_existentials (puts ((b.name, t) ∷ [])) (exists.under a more)) in
      let inner = scope_with (b ∷ more) ++ scope in
      (props_agree defs inner changes suits specs a.props p, memory_agrees defs inner changes suits a.locals a.parts l q)

pub names_agree : MeetIntros
names_agree defs specs (Run run) h names = source_agrees defs specs (scope_of run.context) run.source names h.source
names_agree defs specs (Entail entail) h names = source_agrees defs specs (scope_of entail.context) entail.source names h.source
names_agree defs specs (Pure pure) h names = tt

pub witness_agrees : MeetExists
witness_agrees defs specs (Run run) h terms w = tt
witness_agrees defs specs (Entail entail) h terms w = first_agrees defs specs (scope_of entail.context) entail.target entail.target.existentials terms h.target.props h.target.locals h.target.parts w
witness_agrees defs specs (Pure pure) h terms w = tt

-- ---- the law of soundness

smaller_are : (context : Context) (s : Sort) (names : List (List ℕ)) → AllByRecursion (f.IsVariableOf context s) names → AllByRecursion (sound.IsVariableOf context) names
smaller_are context s [] h = tt
smaller_are context s (v ∷ names) h = ((s, h.0), smaller_are context s names h.1)

mark_fits : (defs : Defs) (goal : Goal) (context : Context) (mark : Mark) → f.MarkFits defs goal context mark → sound.MarkFits context mark
mark_fits defs goal context m.Plain h = tt
mark_fits defs goal context (m.Start name) h = tt
mark_fits defs goal context (m.Induction name place names) h = smaller_are context h.variable.sort names h.smaller

pub pure_fits : MeetSoundness
pure_fits defs specs pure h = record {
  hypotheses = hypotheses_fit defs specs (Pure pure) h;
  target = h.target.fits;
  mark = mark_fits defs (Pure pure) pure.context pure.context.mark h.context.mark;
}
