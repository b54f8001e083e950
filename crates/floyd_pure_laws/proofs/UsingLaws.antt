-- What a law concludes is true where the goal of its premises is.
use Rattle.std.proofs.Common.{◌≡◌, List, [], ◌∷◌, Result, Ok, Err, All, refl}
use Rattle.std.proofs.lemmas.List.Elements.{All-cons, All-nil, All-head, All-tail}
use Rattle.floyd_text.specs.declared.refusal.No.{No}
use Rattle.floyd_tree.specs.Plain.{Plain}
use Rattle.floyd_tree_values.specs.Means.{Defs}
use Rattle.floyd_tree_values.specs.Rules.{DefsKeep}
use Rattle.floyd_goal.specs.Goals.{intros_first, is_pending}
use Rattle.floyd_goal.specs.Sides.{context_of}
use Rattle.floyd_goal_trees.specs.declared.args.Args.{Args}
use Rattle.floyd_goal_trees.specs.declared.context.Context.{Context}
use Rattle.floyd_goal_trees.specs.declared.goal.Goal.{Goal}
use Rattle.floyd_goal_truth.specs.Scopes.{scope_of}
use Rattle.floyd_listlaw.specs.declared.instance.Law.{Law}
use Rattle.floyd_listlaw.specs.Instances.{instance}
use Rattle.floyd_listlaw.specs.Laws.{IsTerm}
use Rattle.floyd_listlaw.proofs.Truths.{holds}
use Rattle.floyd_pure_laws.specs.ByLaw.{ByLaw, LawRow}
use Rattle.floyd_pure_formulas.specs.Holds.{Adds, AddsTrue, Specs, TermFits}
use Rattle.floyd_pure_formulas.specs.Keeps.{KeepsTruth}
use Rattle.floyd_pure_formulas.proofs.Enriching.{concludes_adds, keeps_by_adding}
use Rattle.floyd_pure_laws.proofs.LawTerms.{premises_fit}
use Rattle.floyd_pure_formulas.proofs.Rowing.{passed}

all_terms : (defs : Defs) (context : Context) (ts : List Plain) → All (TermFits defs context) ts → All (IsTerm defs (scope_of context)) ts
all_terms defs context [] all = All-nil (IsTerm defs (scope_of context))
all_terms defs context (t ∷ ts) all =
    All-cons (IsTerm defs (scope_of context)) t ts (All-head (TermFits defs context) t ts all).0 (all_terms defs context ts (All-tail (TermFits defs context) t ts all))

by_instance : (defs : Defs) (specs : Specs) (goal : Goal) (args : Args) (goals : List Goal) → DefsKeep defs → All (IsTerm defs (scope_of (context_of goal))) args.terms → (answer : Result Law No) → instance args.name args.terms ≡ answer → ByLaw goal answer (Ok goals) → Adds defs specs goal goals
by_instance defs specs goal args goals keeps fit (Err refusal) is row = absurd cc
by_instance defs specs goal args goals keeps fit (Ok law) is row =
    concludes_adds defs specs goal law.premises law.conclusion goals keeps
    (premises_fit defs (scope_of (context_of goal)) args.name args.terms law is fit)
    (λ env suits hyps premises. holds args.name args.terms law is defs specs (scope_of (context_of goal)) env keeps suits fit premises)
    row

pub law_adding : AddsTrue LawRow
law_adding defs specs goal args goals keeps hypotheses fit row =
    by_instance defs specs goal args goals keeps (all_terms defs (context_of goal) args.terms fit.terms) (instance args.name args.terms) refl
    (passed (is_pending goal) intros_first (ByLaw goal (instance args.name args.terms)) goals row)

pub law_true : KeepsTruth LawRow
law_true = keeps_by_adding LawRow law_adding
