-- What a row asks of the expressions that it evaluates is so where its goals hold.
use Rattle.std.proofs.Common.{◌≡◌, ℕ, List, [], ◌∷◌, ◌++◌, map, Option, Some, None, Result, Ok, Err, All, refl, sym, ap, subst, ◌∙◌}
use Rattle.std.specs.List.{AllByRecursion}
use Rattle.std.proofs.lemmas.List.Elements.{All-cons, All-nil}
use Rattle.floyd_text.specs.declared.refusal.No.{No}
use Rattle.floyd_clight_heap.specs.Heaplet.{Heaplet}
use Rattle.floyd_clight_machine.specs.Machine.{LocalBlock}
use Rattle.floyd_clight_runs.specs.Seen.{seen}
use Rattle.floyd_tree.specs.Plain.{Plain}
use Rattle.floyd_tree_values.specs.BuiltIns.{Env}
use Rattle.floyd_int.specs.declared.kinds.Value.{Value}
use Rattle.floyd_assert_trees.specs.declared.assertion.Assertion.{Assertion}
use Rattle.floyd_assert_trees.specs.declared.items.Defs.{Defs}
use Rattle.floyd_assert_trees.specs.declared.spec.SpecTable.{SpecTable}
use Rattle.floyd_assert_trees.specs.Meanings.{value_defs}
use Rattle.floyd_assert_meaning.specs.Assertions.{Holds}
use Rattle.floyd_goal.specs.declared.side_goals.Sides.{Sides}
use Rattle.floyd_goal.specs.Goals.{enriched}
use Rattle.floyd_goal.specs.Rows.{Answer, after_side}
use Rattle.floyd_goal.specs.Sides.{Side}
use Rattle.floyd_goal_truth.specs.Scopes.{AllFit}
use Rattle.floyd_goal_trees.specs.declared.context.Context.{Context}
use Rattle.floyd_goal_trees.specs.declared.goal.Goal.{Goal}
use Rattle.floyd_goal_trees.specs.declared.goal.Pure as p
use Rattle.floyd_goal_meaning.specs.declared.linked.Linked.{Linked}
use Rattle.floyd_goal_meaning.specs.GoalHolds.{Given, HoldsFor, LemmasAreTrue}
use Rattle.floyd_goal_meaning.specs.Links.{AreApart, Has}
use Rattle.floyd_goal_meaning.specs.Programs.{Further, Places, program, setting}
use Rattle.floyd_goal_laws.specs.Sides.{HoldsIfAny}
use Rattle.floyd_goal_laws.proofs.Givens.{given_more}
use Rattle.floyd_goal_laws.proofs.SideGoals.{sides_true}
use Rattle.floyd_goal_runs.specs.Needing.{Needing, needed, needed_by, valid_goal}
use Rattle.floyd_fieldpath.specs.Written.{on_ok}
use Rattle.floyd_symexpr_rows.specs.declared.needs.Needs.{Needs}
use Rattle.floyd_symexpr_pointer_laws.specs.Laws.{AllValid, IsMet}
use Rattle.floyd_state_laws.proofs.States.{valid_parts_seen}

same_ok : {A : Type 0} (x y : A) → ◌≡◌ {A = Result A No} (Ok x) (Ok y) → x ≡ y
same_ok x y e = cc

ok_of : {A B : Type 0} (d : Result A No) (f : A → Result B No) (b : B) → Ok b ≡ on_ok d f → (a : A) × (d ≡ Ok a) × (f a ≡ Ok b)
ok_of (Ok a) f b e = (a, refl, sym e)
ok_of (Err why) f b e = absurd cc

pub all_of : {A : Type 0} (P : A → Type 0) (xs : List A) → AllByRecursion P xs → All P xs
all_of P [] h = All-nil P
all_of P (x ∷ xs) h = All-cons P x xs h.0 (all_of P xs h.1)

-- the goals of a row: of the side formulas, of the terms that must be valid, and those behind them
pub record Needed (context : Context) (source : Assertion) (needs : Needs) (behind : Context → Answer) (goals : List Goal) : Type 0 where
  pub sides : Sides
  pub side : Side context needs.sides (Ok sides)
  pub rest : List Goal
  pub behind_is : behind (enriched context sides.kept) ≡ Ok rest
  pub goals_are : goals ≡ needed source needs.valid (sides.goal, enriched context sides.kept) rest

pub needed_of : (context : Context) (source : Assertion) (needs : Needs) (behind : Context → Answer) (goals : List Goal) → Needing context source needs behind (Ok goals) → Needed context source needs behind goals
needed_of context source needs behind goals (under, (answer, side, made), is) =
    let u = ok_of under (needed_by source needs.valid behind) goals is in
    let s = ok_of answer (λ (s : Sides). Ok (s.goal, enriched context s.kept)) u.0 (sym u.1 ∙ made) in
    let pair : (s.0.goal, enriched context s.0.kept) ≡ u.0 = same_ok {A = Option p.Pure × Context} (s.0.goal, enriched context s.0.kept) u.0 s.2 in
    let b = ok_of (behind u.0.1) (λ gs. Ok (needed source needs.valid u.0 gs)) goals (sym u.2) in
    record {
      sides = s.0;
      side = subst (Side context needs.sides) s.1 side;
      rest = b.0;
      behind_is = ap (λ (w : Option p.Pure × Context). behind w.1) pair ∙ b.1;
      goals_are = sym (ap (λ (w : Option p.Pure × Context). needed source needs.valid w b.0) pair ∙ same_ok {A = List Goal} (needed source needs.valid u.0 b.0) goals b.2);
    }

module _ (defs : Defs) (specs : SpecTable) (n : ℕ) where
  abbrev H : List Goal → Type 0
  H goals = AllByRecursion (HoldsFor defs specs n) goals

  apart : (o : Option p.Pure) (goals : List Goal) → H (after_side o goals) → HoldsIfAny defs specs n o × H goals
  apart None goals h = (tt, h)
  apart (Some pure) goals h = (h.0, h.1)

  divided : (xs ys : List Goal) → H (xs ++ ys) → H xs × H ys
  divided [] ys h = (tt, h)
  divided (x ∷ xs) ys h =
      let q = divided xs ys h.1 in
      ((h.0, q.0), q.1)

  module _ (L : Linked) (more : List Further) (place : Places) (has : Has L defs specs) (apart' : AreApart L more place) (lemmas : LemmasAreTrue (setting L more place) defs) (env : Env) where
    valid_seen : (context : Context) (source : Assertion) (blocks : List LocalBlock) (temps : List ℕ → Value) (h : Heaplet) → Given (setting L more place) defs context env → Holds (setting L more place) env source temps h → (ts : List Plain) → H (map (valid_goal context source) ts) →
        AllValid (setting L more place).defs env (seen (program L more place) blocks h) ts
    valid_seen context source blocks temps h given holds [] g = tt
    valid_seen context source blocks temps h given holds (t ∷ ts) g =
        (valid_parts_seen L more place env blocks t h (g.0.in_each L more place has apart' lemmas env given temps h holds).parts, valid_seen context source blocks temps h given holds ts g.1)

    -- what the row needs is so, its further hypotheses are true, and the goals behind hold
    pub needs_met : (context : Context) (source : Assertion) (needs : Needs) (behind : Context → Answer) (goals : List Goal) (blocks : List LocalBlock) (temps : List ℕ → Value) (h : Heaplet) → AllFit (value_defs defs) context needs.sides → (w : Needed context source needs behind goals) → H goals → Given (setting L more place) defs context env → Holds (setting L more place) env source temps h →
        IsMet (setting L more place) env (seen (program L more place) blocks h) needs × Given (setting L more place) defs (enriched context w.sides.kept) env × H w.rest
    needs_met context source needs behind goals blocks temps h fit w hold given holds =
        let made = enriched context w.sides.kept in
        let first = apart w.sides.goal (map (valid_goal made source) needs.valid ++ w.rest) (subst H w.goals_are hold) in
        let second = divided (map (valid_goal made source) needs.valid) w.rest first.1 in
        let true' = sides_true defs specs n context needs.sides w.sides fit w.side first.0 L more place has apart' lemmas env given in
        let there = given_more (setting L more place) defs env context w.sides.kept given true'.1 in
        (record { sides = true'.0; valid = valid_seen made source blocks temps h there holds needs.valid second.0 }, there, second.1)
