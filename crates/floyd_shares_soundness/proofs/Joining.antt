-- Commands that make one part of two.
use Rattle.std.proofs.Common.{◌≡◌, ℕ, zero, suc, ◌-◌, Bool, true, false, List, [], ◌∷◌, ◌++◌, drop, take, Option, Some, None, Result, Ok, Err, refl, sym, ap, subst, ◌∙◌, arith, eq-eqb, true≢false}
use Rattle.std.specs.Prelude.{if◌then◌else◌, nat_eq, slice_get}
use Rattle.std.specs.List.{AllByRecursion}
use Rattle.std.proofs.lemmas.Option.{same_Some}
use Rattle.floyd_text.specs.declared.refusal.No.{No}
use Rattle.floyd_clight_heap.specs.Heaplet.{Heaplet, Joins}
use Rattle.floyd_clight_heap.proofs.Sums.{assoc, assoc_back, comm}
use Rattle.floyd_clight_machine.specs.Evaluation.{Temps}
use Rattle.floyd_tree.specs.Formulas.{PlainFormula}
use Rattle.floyd_tree_values.specs.BuiltIns.{Env}
use Rattle.floyd_tree_values.specs.Rules.{Scope, Suits}
use Rattle.floyd_truth.specs.Truth.{AllTrue}
use Rattle.floyd_assert_trees.specs.declared.assertion.Assertion.{Assertion}
use Rattle.floyd_assert_trees.specs.declared.items.Defs.{Defs}
use Rattle.floyd_assert_trees.specs.declared.sep.Sep.{Sep}
use Rattle.floyd_assert_trees.specs.declared.spec.SpecTable.{SpecTable}
use Rattle.floyd_assert_trees.specs.Meanings.{value_defs}
use Rattle.floyd_assert_meaning.specs.Assertions.{Holds}
use Rattle.floyd_assert_meaning.specs.Parts.{PartHolds, PartsHold, more}
use Rattle.floyd_assert_meaning.specs.Settings.{Setting, with_data}
use Rattle.floyd_assert_meaning.proofs.Inversions.{more_of}
use Rattle.floyd_goal.specs.Goals.{enriched, wrong_goal}
use Rattle.floyd_goal_truth.specs.Scopes.{AllFit}
use Rattle.floyd_goal_trees.specs.Contexts.{after_command, context_of, scope_of}
use Rattle.floyd_goal_trees.specs.declared.goal.Goal.{Goal}
use Rattle.floyd_goal_meaning.specs.declared.linked.Linked.{Linked}
use Rattle.floyd_goal_meaning.specs.GoalHolds.{HoldsFor}
use Rattle.floyd_goal_meaning.specs.Links.{Has}
use Rattle.floyd_goal_meaning.specs.Programs.{Further, Places, setting}
use Rattle.floyd_goal_laws.proofs.Givens.{given_after, given_more}
use Rattle.floyd_goal_parts.specs.Rows.{Sided}
use Rattle.floyd_goal_parts.specs.Sources.{from_source, in_place, or_missing, part_at, part_of, source_of}
use Rattle.floyd_goal_plans.specs.declared.joining.Pair.{Pair}
use Rattle.floyd_goal_plans.specs.Joining.{IsJoined, joined, joined_under, second_beside, two_of, with_second}
use Rattle.floyd_entail_soundness.proofs.Placing.{same_Ok}
use Rattle.floyd_entail_soundness.proofs.Sources.{from_other, no_existentials, part_found, parts_alone}
use Rattle.floyd_entail_soundness.proofs.UnderSides.{sides_answered, sides_hold}

-- ---- lists of parts

there : (k : ℕ) (o : Option Sep) (p : Sep) → or_missing k o ≡ Ok p → o ≡ Some p
there k None p e = absurd cc
there k (Some q) p e = ap Some (same_Ok {A = Sep} q p e)

module _ (S : Setting) (env : Env) where
  -- a part is replaced by one that holds with more memory
  placed_beside : (k : ℕ) (parts : List Sep) (p x : Sep) (o e h : Heaplet) → slice_get parts k ≡ Some p → ((g k : Heaplet) → Joins g e k → PartHolds S env p g → PartHolds S env x k) → Joins o e h → PartsHold S env parts o →
      PartsHold S env (take k parts ++ (x ∷ []) ++ drop (suc k) parts) h
  placed_beside k [] p x o e h i f j m = absurd cc
  placed_beside zero (q ∷ parts) p x o e h i f j m =
      let y = more_of m in
      let a = assoc y.joins j in
      let b = assoc_back (comm a.1) a.2 in
      more b.2 (f y.here b.0 b.1 (subst (λ r. PartHolds S env r y.here) (same_Some q p i) y.first)) y.rest
  placed_beside (suc k) (q ∷ parts) p x o e h i f j m =
      let y = more_of m in
      let a = assoc y.joins j in
      more a.2 y.first (placed_beside k parts p x y.others e a.0 i f a.1 y.rest)

  -- the part of a place taken out
  record Removed (k : ℕ) (parts : List Sep) (q : Sep) (h : Heaplet) : Type 0 where
    pub here : Heaplet
    pub others : Heaplet
    pub joins : Joins here others h
    pub holds : PartHolds S env q here
    pub rest : PartsHold S env (take k parts ++ [] ++ drop (suc k) parts) others

  removed : (k : ℕ) (parts : List Sep) (q : Sep) (h : Heaplet) → slice_get parts k ≡ Some q → PartsHold S env parts h → Removed k parts q h
  removed k [] q h i m = absurd cc
  removed zero (p ∷ parts) q h i m =
      let y = more_of m in
      record { here = y.here; others = y.others; joins = y.joins; holds = subst (λ r. PartHolds S env r y.here) (same_Some p q i) y.first; rest = y.rest }
  removed (suc k) (p ∷ parts) q h i m =
      let y = more_of m in
      let z = removed k parts q y.others i y.rest in
      let a = assoc_back (comm z.joins) y.joins in
      record { here = z.here; others = a.0; joins = comm a.2; holds = z.holds; rest = more a.1 y.first z.rest }

  joined_at : (k j : ℕ) (parts : List Sep) (p q x : Sep) (h : Heaplet) → slice_get parts k ≡ Some p → slice_get parts j ≡ Some q → ¬ (k ≡ j) → ((a b c : Heaplet) → Joins a b c → PartHolds S env p a → PartHolds S env q b → PartHolds S env x c) → PartsHold S env parts h →
      PartsHold S env (take j (take k parts ++ (x ∷ []) ++ drop (suc k) parts) ++ [] ++ drop (suc j) (take k parts ++ (x ∷ []) ++ drop (suc k) parts)) h
  joined_at k j [] p q x h e i ne f m = absurd cc
  joined_at zero zero (r ∷ parts) p q x h e i ne f m = absurd (ne refl)
  joined_at zero (suc j) (r ∷ parts) p q x h e i ne f m =
      let y = more_of m in
      let z = removed j parts q y.others i y.rest in
      let a = assoc_back z.joins y.joins in
      more a.2 (f y.here z.here a.0 a.1 (subst (λ s. PartHolds S env s y.here) (same_Some r p e) y.first) z.holds) z.rest
  joined_at (suc k) zero (r ∷ parts) p q x h e i ne f m =
      let y = more_of m in
      let here : PartHolds S env q y.here = subst (λ s. PartHolds S env s y.here) (same_Some r q i) y.first in
      placed_beside k parts p x y.others y.here h e (λ g c j holds. f g y.here c j holds here) (comm y.joins) y.rest
  joined_at (suc k) (suc j) (r ∷ parts) p q x h e i ne f m =
      let y = more_of m in
      more y.joins y.first (joined_at k j parts p q x y.others e i (λ s. ne (ap suc s)) f y.rest)

  apart : (k j : ℕ) → nat_eq k j ≡ false → ¬ (k ≡ j)
  apart k j e s = true≢false (sym (eq-eqb k j s) ∙ e)

  fewer : (k j : ℕ) → ¬ (suc k ≡ suc j) → ¬ (k ≡ j)
  fewer k j ne s = ne (ap suc s)

  pub joined_there : (k j : ℕ) (parts : List Sep) (p q x : Sep) (h : Heaplet) → part_at parts k ≡ Ok p → part_at parts j ≡ Ok q → nat_eq k j ≡ false → ((a b c : Heaplet) → Joins a b c → PartHolds S env p a → PartHolds S env q b → PartHolds S env x c) → PartsHold S env parts h →
      PartsHold S env (in_place j [] (in_place k (x ∷ []) parts)) h
  joined_there zero j parts p q x h e i ne f m = absurd cc
  joined_there (suc k) zero parts p q x h e i ne f m = absurd cc
  joined_there (suc k) (suc j) parts p q x h e i ne f m =
      let before : k ≡ suc k - 1 = omega arith in
      let behind : j ≡ suc j - 1 = omega arith in
      let one = joined_at k j parts p q x h (there (suc k) (slice_get parts k) p e) (there (suc j) (slice_get parts j) q i) (fewer k j (apart (suc k) (suc j) ne)) f m in
      subst (λ a. PartsHold S env (take a (take (suc k - 1) parts ++ (x ∷ []) ++ drop (suc k) parts) ++ [] ++ drop (suc j) (take (suc k - 1) parts ++ (x ∷ []) ++ drop (suc k) parts)) h) behind
      (subst (λ a. PartsHold S env (take j (take a parts ++ (x ∷ []) ++ drop (suc k) parts) ++ [] ++ drop (suc j) (take a parts ++ (x ∷ []) ++ drop (suc k) parts)) h) before one)

-- ---- the two parts

pub record Two (goal : Goal) (pair : Pair) (source : Assertion) (p q : Sep) : Type 0 where
  pub source_is : source_of goal ≡ Ok source
  pub first_is : part_at source.parts pair.first ≡ Ok p
  pub second_is : part_at source.parts pair.second ≡ Ok q
  pub differ : nat_eq pair.first pair.second ≡ false

third : (source s : Assertion) (p a q b : Sep) (t : Bool) → ◌≡◌ {A = Result (Assertion × Sep × Sep) No} (if t then Err wrong_goal else Ok (s, a, b)) (Ok (source, p, q)) → (t ≡ false) × (s ≡ source) × (a ≡ p) × (b ≡ q)
third source s p a q b true e = absurd cc
third source s p a q b false e =
    let same = same_Ok {A = Assertion × Sep × Sep} (s, a, b) (source, p, q) e in
    (refl, ap (λ (x : Assertion × Sep × Sep). x.0) same, ap (λ (x : Assertion × Sep × Sep). x.1) same, ap (λ (x : Assertion × Sep × Sep). x.2) same)

second : (goal : Goal) (pair : Pair) (source s : Assertion) (p a q : Sep) → part_of goal pair.first ≡ Ok (s, a) → (r : Result Sep No) → part_at s.parts pair.second ≡ r → with_second pair (s, a) r ≡ Ok (source, p, q) → Two goal pair source p q
second goal pair source s p a q f (Err why) g e = absurd cc
second goal pair source s p a q f (Ok b) g e =
    let t = third source s p a q b (nat_eq pair.first pair.second) e in
    let first = part_found goal pair.first s a f in
    record {
      source_is = first.source_is ∙ ap Ok t.1;
      first_is = subst (λ (x : Assertion). part_at x.parts pair.first ≡ Ok p) t.1 (first.part_is ∙ ap Ok t.2);
      second_is = subst (λ (x : Assertion). part_at x.parts pair.second ≡ Ok q) t.1 (g ∙ ap Ok t.3);
      differ = t.0;
    }

pub two_found : (goal : Goal) (pair : Pair) (source : Assertion) (p q : Sep) → two_of goal pair ≡ Ok (source, p, q) → Two goal pair source p q
two_found goal pair source p q e = by (part_of goal pair.first) refl e
  where
    by : (r : Result (Assertion × Sep) No) → part_of goal pair.first ≡ r → second_beside pair r ≡ Ok (source, p, q) → Two goal pair source p q
    by (Err why) f g = absurd cc
    by (Ok x) f g = second goal pair source x.0 p x.1 q f (part_at x.0.parts pair.second) refl g

-- ---- the commands

-- the source with one part in place of both
source_joined : (S : Setting) (env : Env) (goal : Goal) (pair : Pair) (source : Assertion) (p q x : Sep) → Two goal pair source p q → ((a b c : Heaplet) → Joins a b c → PartHolds S env p a → PartHolds S env q b → PartHolds S env x c) →
    (temps : Temps) (h : Heaplet) → Holds S env source temps h → Holds S env (joined pair (x ∷ []) source) temps h
source_joined S env goal pair source p q x two f temps h y =
    let none = no_existentials goal source two.source_is in
    record {
      witnesses = y.witnesses;
      sorted = y.sorted;
      props = y.props;
      locals = y.locals;
      parts = subst (λ bs. PartsHold S (with_data env bs y.witnesses) (in_place pair.second [] (in_place pair.first (x ∷ []) source.parts)) h) (sym none)
          (joined_there S env pair.first pair.second source.parts p q x h two.first_is two.second_is two.differ f (parts_alone S env source temps h none y));
    }

-- where side formulas are true the part holds of what both hold of
abbrev pub OneOfTwo : Defs → SpecTable → Scope → List PlainFormula → Sep → Sep → Sep → Type 0
OneOfTwo defs specs scope sides p q x =
    (L : Linked) (more : List Further) (place : Places) → Has L defs specs → (env : Env) → Suits scope env → AllTrue (setting L more place).defs (setting L more place).has_spec env sides →
    (a b c : Heaplet) → Joins a b c → PartHolds (setting L more place) env p a → PartHolds (setting L more place) env q b → PartHolds (setting L more place) env x c

pub join_under : (defs : Defs) (specs : SpecTable) (n : ℕ) (goal : Goal) (pair : Pair) (source : Assertion) (p q x : Sep) (sides : List PlainFormula) (goals : List Goal) → Two goal pair source p q → AllFit (value_defs defs) (context_of goal) sides → OneOfTwo defs specs (scope_of (context_of goal)) sides p q x →
    Sided (context_of goal) sides (joined_under goal pair source (x ∷ [])) (Ok goals) → AllByRecursion (HoldsFor defs specs n) goals → HoldsFor defs specs n goal
join_under defs specs n goal pair source p q x sides goals two fit one row h =
    let context = context_of goal in
    let behind = joined_under goal pair source (x ∷ []) in
    let answered = sides_answered context sides behind goals row in
    let hold = sides_hold defs specs n context sides behind goals fit answered h in
    record {
      in_each = λ L more place has apart lemmas env given.
          let S = setting L more place in
          let t = hold.0 L more place has apart lemmas env given in
          from_other L more place defs specs n goal (enriched context answered.sides.kept) source (joined pair (x ∷ []) source) env two.source_is
          (λ temps g y. source_joined S env goal pair source p q x two (one L more place has env given.suits t.0) temps g y)
          (given_more S defs env context answered.sides.kept given t.1)
          (hold.1.0.in_each L more place has apart lemmas);
    }

pub join_plain : (defs : Defs) (specs : SpecTable) (n : ℕ) (goal : Goal) (pair : Pair) (source : Assertion) (p q x : Sep) (goals : List Goal) → Two goal pair source p q → OneOfTwo defs specs (scope_of (context_of goal)) [] p q x → IsJoined goal pair source (x ∷ []) (Ok goals) →
    AllByRecursion (HoldsFor defs specs n) goals → HoldsFor defs specs n goal
join_plain defs specs n goal pair source p q x goals two one row h =
    let context = after_command (context_of goal) in
    let new = joined pair (x ∷ []) source in
    let after = from_source goal context new in
    let same : goals ≡ after ∷ [] = same_Ok {A = List Goal} goals (after ∷ []) row in
    let holds : HoldsFor defs specs n after = (subst (AllByRecursion (HoldsFor defs specs n)) same h).0 in
    record {
      in_each = λ L more place has apart lemmas env given.
          let S = setting L more place in
          from_other L more place defs specs n goal context source new env two.source_is (λ temps g y. source_joined S env goal pair source p q x two (one L more place has env given.suits tt) temps g y)
          (given_after S defs env (context_of goal) given)
          (holds.in_each L more place has apart lemmas);
    }
