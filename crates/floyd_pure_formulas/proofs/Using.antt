-- Rules that add what a hypothesis gives, or what is proved first.
use Rattle.std.proofs.Common.{◌≡◌, List, [], ◌∷◌, Option, Some, None, Ok, refl, subst}
use Rattle.std.proofs.lemmas.List.Elements.{All-cons, All-nil}
use Rattle.floyd_tree.specs.Formulas.{PlainFormula}
use Rattle.floyd_goal_trees.specs.declared.args.Args.{Args}
use Rattle.floyd_goal_trees.specs.declared.goal.Goal.{Goal}
use Rattle.floyd_goal.specs.Goals.{intros_first, is_pending, number_of, pure_goal}
use Rattle.floyd_goal.specs.Sides.{context_of}
use Rattle.floyd_goal_formulas.specs.Fits.{Fits}
use Rattle.floyd_goal_formulas.specs.Said.{Saying, Implication, said}
use Rattle.floyd_goal_formulas.proofs.Sayings.{SaidTrue, truth_said}
use Rattle.floyd_goal_truth.specs.Scopes.{scope_of}
use Rattle.floyd_goal_truth.proofs.Uses.{PartsFit, hypothesis_fits, hypothesis_true, parts_fit}
use Rattle.floyd_pure_formulas.specs.Cut.{CutRow, cut_by}
use Rattle.floyd_pure_formulas.specs.Holds.{AddsTrue}
use Rattle.floyd_pure_formulas.specs.Keeps.{KeepsTruth}
use Rattle.floyd_pure_formulas.specs.Mp.{ByImplication, MpRow}
use Rattle.floyd_pure_formulas.specs.Rows.{Concludes, OfHypothesis, no_such, with_more}
use Rattle.floyd_pure_formulas.proofs.Enriching.{concludes_adds, keeps_by_adding}
use Rattle.floyd_pure_formulas.proofs.Rowing.{found, goals_are, no_goals, passed}

cut_made : (goal : Goal) (o : Option PlainFormula) (goals : List Goal) → Ok goals ≡ cut_by goal o → (a : PlainFormula) × (goals ≡ pure_goal (context_of goal) a ∷ with_more goal (a ∷ []) ∷ [])
cut_made goal None goals e = absurd (no_goals goals _ e)
cut_made goal (Some a) goals e = (a, goals_are goals _ e)

pub cut_adding : AddsTrue CutRow
cut_adding defs specs goal args goals keeps hyps_fit args_fit row =
    let p = cut_made goal args.formula goals (passed (is_pending goal) intros_first (λ a. a ≡ cut_by goal args.formula) goals row) in
    record {
      asked = p.0 ∷ [];
      added = p.0 ∷ [];
      made = p.1;
      hold = λ env suits hyps asked. asked;
    }

pub cut_true : KeepsTruth CutRow
cut_true = keeps_by_adding CutRow cut_adding

record Implied (goal : Goal) (h : PlainFormula) (goals : List Goal) : Type 0 where
  pub premise : PlainFormula
  pub conclusion : PlainFormula
  pub says : said h ≡ Implication premise conclusion
  pub row : Concludes goal (premise ∷ []) conclusion (Ok goals)

implied : (goal : Goal) (args : Args) (h : PlainFormula) (goals : List Goal) (s : Saying) → said h ≡ s → ByImplication goal args s (Ok goals) → Implied goal h goals
implied goal args h goals (Implication a b) e row = record { premise = a; conclusion = b; says = e; row = row }
implied goal args h goals s e row = absurd (no_goals goals _ row)

pub mp_adding : AddsTrue MpRow
mp_adding defs specs goal args goals keeps hyps_fit args_fit row =
    let hs = (context_of goal).hypotheses in
    let scope = scope_of (context_of goal) in
    let n = number_of args.target in
    let p = found _ (no_such args) (λ h. ByImplication goal args (said h)) goals
    (passed (is_pending goal) intros_first (OfHypothesis goal args (λ h. ByImplication goal args (said h))) goals row) in
    let q = implied goal args p.0 goals (said p.0) refl p.2 in
    let fit : PartsFit defs scope (Implication q.premise q.conclusion) = subst (PartsFit defs scope) q.says (parts_fit defs scope p.0 (hypothesis_fits defs scope hs n p.0 p.1 hyps_fit)) in
    concludes_adds defs specs goal (q.premise ∷ []) q.conclusion goals keeps (All-cons (Fits defs scope) q.premise [] fit.0 (All-nil (Fits defs scope)))
    (λ env suits hyps premises.
    let implies : SaidTrue defs specs env (Unit {0}) (Implication q.premise q.conclusion) = subst (SaidTrue defs specs env (Unit {0})) q.says (truth_said defs specs env p.0 (hypothesis_true defs specs env hs n p.0 p.1 hyps)) in
    implies premises.0)
    q.row

pub mp_true : KeepsTruth MpRow
mp_true = keeps_by_adding MpRow mp_adding
