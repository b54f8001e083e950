-- What `unfold` answers, step by step.
use Rattle.std.proofs.Common.{◌≡◌, ℕ, true, List, [], ◌∷◌, Result, Ok, Err, sym, ◌∙◌, ap, subst}
use Rattle.std.specs.Prelude.{if◌then◌else◌, ◌++◌}
use Rattle.floyd_text.specs.declared.refusal.RuleStop.{RuleStop}
use Rattle.floyd_text.specs.Gives.{RuleStops}
use Rattle.floyd_tree.specs.Formulas.{PlainFormula}
use Rattle.floyd_assert_trees.specs.declared.assertion.Assertion.{Assertion}
use Rattle.floyd_assert_trees.specs.declared.binder.Binder.{Binder}
use Rattle.floyd_assert_trees.specs.declared.items.Defs.{Defs}
use Rattle.floyd_assert_trees.specs.declared.sep.Sep.{Sep}
use Rattle.floyd_assert_changes.specs.Apart.{set_apart}
use Rattle.floyd_assert_changes.specs.Changed.{has_name}
use Rattle.floyd_clauses.specs.Clauses.{unfolded}
use Rattle.floyd_goal_trees.specs.declared.context.Context.{Context}
use Rattle.floyd_goal_trees.specs.declared.goal.Goal.{Goal}
use Rattle.floyd_goal.specs.Answers.{IsAnswer}
use Rattle.floyd_goal.specs.Goals.{enriched, some_left}
use Rattle.floyd_goal.specs.Sides.{context_of}
use Rattle.floyd_goal_parts.specs.Sources.{from_source, part_of}
use Rattle.floyd_goal_parts.proofs.RowLemmas.{row_goes, row_stops}
use Rattle.floyd_entail_predicates.specs.Settling.{settled, without_props}
use Rattle.floyd_entail_predicates.specs.Unfold.{IsOpened, Opens, OpensAt, OpensPart}

pub part_stops : (defs : Defs) (goal : Goal) (k : ℕ) (source : Assertion) (part : Sep) (stop : RuleStop) → part_of goal k ≡ Ok (source, part) → RuleStops stop (unfolded defs part) → IsAnswer (OpensAt defs goal k) (Err stop)
part_stops defs goal k source part stop e h = row_goes (part_of goal k) (source, part) (OpensPart defs goal k) (Err stop) e (row_stops (unfolded defs part) (Opens goal k source) stop h)

pub part_goes : (defs : Defs) (goal : Goal) (k : ℕ) (source : Assertion) (part : Sep) (clause : Assertion) (x : Result (List Goal) RuleStop) → part_of goal k ≡ Ok (source, part) → unfolded defs part ≡ Ok clause → IsAnswer (Opens goal k source clause) x → IsAnswer (OpensAt defs goal k) x
part_goes defs goal k source part clause x e f h = row_goes (part_of goal k) (source, part) (OpensPart defs goal k) x e (row_goes (unfolded defs part) clause (Opens goal k source) x f h)

-- the variables of the goal, as the program has them
pub apart_stops : (goal : Goal) (k : ℕ) (source clause : Assertion) (seen : List Binder) (stop : RuleStop) → seen ≡ (context_of goal).variables → RuleStops stop (set_apart (λ x. has_name x seen) clause) → IsAnswer (Opens goal k source clause) (Err stop)
apart_stops goal k source clause seen stop e h =
    row_stops (set_apart (λ x. has_name x (context_of goal).variables) clause) (IsOpened goal k source) stop (subst (λ vs. RuleStops stop (set_apart (λ x. has_name x vs) clause)) e h)

pub apart_goes : (goal : Goal) (k : ℕ) (source clause made : Assertion) (seen : List Binder) (goals : List Goal) → seen ≡ (context_of goal).variables → set_apart (λ x. has_name x seen) clause ≡ Ok made → IsOpened goal k source made (Ok goals) → IsAnswer (Opens goal k source clause) (Ok goals)
apart_goes goal k source clause made seen goals e h told =
    row_goes (set_apart (λ x. has_name x (context_of goal).variables) clause) made (IsOpened goal k source) (Ok goals) (subst (λ vs. set_apart (λ x. has_name x vs) clause ≡ Ok made) e h) told

-- a source with existentials
pub settled_over : (goal : Goal) (kept : List PlainFormula) (source shared : Assertion) (seen context : Context) → some_left source.existentials ≡ true → seen ≡ context_of goal → context ≡ enriched seen kept → shared ≡ source → from_source goal context shared ≡ settled goal kept source
settled_over goal kept source shared seen context some e f h =
    ap (λ c. from_source goal c shared) (f ∙ ap (λ c. enriched c kept) e)
    ∙ ap (from_source goal (enriched (context_of goal) kept)) h
    ∙ sym (ap (λ b. if b then from_source goal (enriched (context_of goal) kept) source else from_source goal (enriched (context_of goal) (kept ++ source.props)) (without_props source)) some)

pub some_are_left : (bs : List Binder) → (bs ≡ [] → ⊥) → some_left bs ≡ true
some_are_left [] h = absurd (h (let same : ◌≡◌ {A = List Binder} [] [] = cc in same))
some_are_left (b ∷ bs) h = cc
