-- `apply_ih`: the lemma of a proof by induction holds for a part of what the variable stood for.
use Rattle.std.proofs.Common.{◌≡◌, ⊎_elim, ℕ, zero, suc, Bool, true, false, List, [], ◌∷◌, Option, Some, None, Ok, Err, refl, sym, ap, subst}
use Rattle.std.specs.Prelude.{bytes_eq, if◌then◌else◌, slice_get}
use Rattle.std.specs.List.{AllByRecursion, list_any}
use Rattle.std.specs.Map.{lookup}
use Rattle.std.proofs.lemmas.Bool.{or_cases}
use Rattle.std.proofs.lemmas.Slice.Eq.{bytes_eq-Decides}
use Rattle.floyd_clight_memory.specs.Memory.{nth}
use Rattle.floyd_tree_sorts.specs.declared.heads.Head.TheVariants.{Variable}
use Rattle.floyd_tree.specs.Plain.{At, Plain, head_of}
use Rattle.floyd_tree_values.specs.BuiltIns.{Env}
use Rattle.floyd_tree_values.specs.Data.{Datum}
use Rattle.floyd_tree_values.specs.Means.{Means}
use Rattle.floyd_tree_values.proofs.OneValue.{applies}
use Rattle.floyd_assert_trees.specs.declared.items.Defs.{Defs}
use Rattle.floyd_assert_trees.specs.declared.items.Lemma.{Lemma}
use Rattle.floyd_assert_trees.specs.declared.spec.SpecTable.{SpecTable}
use Rattle.floyd_assert_meaning.specs.Assertions.{LemmaHoldsFor}
use Rattle.floyd_assert_meaning.specs.Settings.{AreFor, Setting}
use Rattle.floyd_goal.specs.Goals.{intros_first, is_pending}
use Rattle.floyd_goal_forms.specs.Goals.{IsWellFormed}
use Rattle.floyd_goal_forms.specs.Items.{ItemsFit}
use Rattle.floyd_goal_meaning.specs.GoalHolds.{HoldsFor, LemmaHoldsAt, LemmaHoldsAtEach, MarkHolds}
use Rattle.floyd_goal_meaning.specs.Programs.{setting}
use Rattle.floyd_goal_trees.specs.Contexts.{context_of}
use Rattle.floyd_goal_trees.specs.declared.args.Args.{Args}
use Rattle.floyd_goal_trees.specs.declared.context.Mark.{Mark}
use Rattle.floyd_goal_trees.specs.declared.context.Mark.TheVariants as m
use Rattle.floyd_goal_trees.specs.declared.goal.Goal.{Goal}
use Rattle.floyd_import_laws.proofs.Values.{MeanEach}
use Rattle.floyd_entail_lemmas.specs.Apply.{AppliesLemma}
use Rattle.floyd_entail_lemmas.specs.Hypothesis.{AppliesHypothesis, Row, bad_induction, hypothesis, hypothesis_by, is_part, lemma_or, part_at, part_by}
use Rattle.floyd_entail_soundness.proofs.Placing.{same_Ok}
use Rattle.floyd_entail_soundness.proofs.Sources.{of_result}
use Rattle.floyd_entail_soundness.proofs.Validating.{passed}
use Rattle.floyd_lemma_soundness.specs.Rows.{HypothesisIsGiven}
use Rattle.floyd_lemma_soundness.proofs.Applying.{applied_sound}
use Rattle.floyd_predicate_soundness.proofs.Items.{lemma_fits}

-- ---- the variable that is a part

-- the datum of that place is that of one of the variables
record IsOfPart (env : Env) (names : List (List ℕ)) (datum : Option Datum) : Type 0 where
  pub name : List ℕ
  pub part : list_any (bytes_eq name) names ≡ true
  pub is : datum ≡ Some (env.variables name)

module _ (S : Setting) (env : Env) (names : List (List ℕ)) where
  of_variable : (t : Plain) (d : Datum) → Means S.defs env t d → is_part names (head_of t) ≡ true → IsOfPart env names (Some d)
  of_variable (At (Variable x s) kids) d m e = record { name = x; part = e; is = ap Some (applies refl m).is }
  of_variable (At head kids) d m e = absurd cc

  of_place : (terms : List Plain) (ds : List Datum) (place : ℕ) → MeanEach S.defs env terms ds → part_by names (slice_get terms place) ≡ true → IsOfPart env names (nth ds place)
  of_place [] ds place m e = absurd cc
  of_place (t ∷ terms) [] place m e = absurd m
  of_place (t ∷ terms) (d ∷ ds) zero m e = of_variable t d m.0 e
  of_place (t ∷ terms) (d ∷ ds) (suc place) m e = of_place terms ds place m.1 e

  module _ (l : Lemma) (place : ℕ) where
    at_one : (some : List (List ℕ)) (x : List ℕ) → list_any (bytes_eq x) some ≡ true → LemmaHoldsAtEach S l place env some → LemmaHoldsAt S l place (env.variables x)
    at_one [] x e h = absurd cc
    at_one (y ∷ some) x e h = ⊎_elim
        (λ i. subst (λ z. LemmaHoldsAt S l place (env.variables z)) (sym ((bytes_eq-Decides x y).0 i)) h.0)
        (λ i. at_one some x i h.1)
        (or_cases (bytes_eq x y) (list_any (bytes_eq x) some) e)

-- ---- the hypothesis

pub record IsHypothesis (defs : Defs) (mark : Mark) (terms : List Plain) (l : Lemma) : Type 0 where
  pub name : List ℕ
  pub place : ℕ
  pub names : List (List ℕ)
  pub mark_is : mark ≡ m.Induction name place names
  pub part : part_at names terms place ≡ true
  pub there : lookup (bytes_eq name) defs.lemmas ≡ Some l

or_is : (o : Option Lemma) (l : Lemma) → lemma_or o ≡ Ok l → o ≡ Some l
or_is None l e = absurd cc
or_is (Some k) l e = ap Some (same_Ok k l e)

pub is_hypothesis : (defs : Defs) (mark : Mark) (terms : List Plain) (l : Lemma) → hypothesis_by defs mark terms ≡ Ok l → IsHypothesis defs mark terms l
is_hypothesis defs m.Plain terms l e = absurd cc
is_hypothesis defs (m.Start name) terms l e = absurd cc
is_hypothesis defs (m.Induction name place names) terms l e = by (part_at names terms place) refl e
  where
    by : (b : Bool) → part_at names terms place ≡ b → (if b then lemma_or (lookup (bytes_eq name) defs.lemmas) else Err bad_induction) ≡ Ok l → IsHypothesis defs (m.Induction name place names) terms l
    by true i f = record { name = name; place = place; names = names; mark_is = refl; part = i; there = or_is (lookup (bytes_eq name) defs.lemmas) l f }
    by false i f = absurd cc

hypothesis_true : (S : Setting) (defs : Defs) (env : Env) (mark : Mark) (terms : List Plain) (l : Lemma) → IsHypothesis defs mark terms l → MarkHolds S defs env mark → (ds : List Datum) → AreFor l.with ds → MeanEach S.defs env terms ds → LemmaHoldsFor S l ds
hypothesis_true S defs env mark terms l i h ds are mean =
    let each : MarkHolds S defs env (m.Induction i.name i.place i.names) = subst (MarkHolds S defs env) i.mark_is h in
    let p = of_place S env i.names terms ds i.place mean i.part in
    at_one S env i.names l i.place i.names p.name p.part (each l i.there) ds are p.is

pub apply_ih_sound : (defs : Defs) (specs : SpecTable) (n : ℕ) (goal : Goal) (args : Args) (goals : List Goal) → ItemsFit defs specs → IsWellFormed defs specs goal → HypothesisIsGiven defs goal args → Row defs goal args (Ok goals) → AllByRecursion (HoldsFor defs specs n) goals → HoldsFor defs specs n goal
apply_ih_sound defs specs n goal args goals items formed asks row h =
    let w = passed (is_pending goal) intros_first (AppliesHypothesis defs goal args) goals row in
    let r = of_result (hypothesis defs goal args.terms) (AppliesLemma goal args.terms) goals w.1 in
    let i = is_hypothesis defs (context_of goal).mark args.terms r.0 r.1 in
    applied_sound defs specs n goal args.terms r.0 goals items formed (lemma_fits defs specs defs.lemmas i.name r.0 items.lemmas i.there) asks.terms (asks.few r.0 r.1)
    (λ L more place has lemmas env g ds are mean. hypothesis_true (setting L more place) defs env (context_of goal).mark args.terms r.0 i g.mark ds are mean) r.2 h
