-- Goals that are judged so are such as commands ask for.
use Rattle.std.proofs.Common.{◌≡◌, ℕ, Bool, true, false, not, ◌&&◌, cond, List, [], ◌∷◌, ◌++◌, Option, Some, None, refl, sym, subst, ◌∙◌}
use Rattle.std.specs.List.{flat_map}
use Rattle.std.specs.Prelude.{bytes_eq}
use Rattle.std.specs.Map.{lookup}
use Rattle.std.proofs.lemmas.Slice.Eq.{bytes_eq-Decides}
use Rattle.floyd_tree_sorts.specs.declared.heads.Head.TheVariants.{Variable}
use Rattle.floyd_tree_sorts.specs.declared.sorts.Sort.{Sort}
use Rattle.floyd_tree_sorts.proofs.SortLemmas.{both_true}
use Rattle.floyd_tree.specs.Formulas.{PlainFormula, formulas}
use Rattle.floyd_tree.specs.Plain.{Plain, Plains, At, Done, More, plains}
use Rattle.floyd_tree.specs.WellSorted.{sort_of}
use Rattle.floyd_tree_values.specs.Means.{Defs}
use Rattle.floyd_truth.specs.Capture.{Changes, Put}
use Rattle.floyd_truth.specs.Replace.{AllSortsAgree, FormulasSortsAgree, HasSortOf, SortsAgree, puts}
use Rattle.floyd_assert_trees.specs.declared.assertion.Assertion.{Assertion}
use Rattle.floyd_assert_trees.specs.declared.assertion.Local.{Local}
use Rattle.floyd_assert_trees.specs.declared.binder.Binder.{Binder}
use Rattle.floyd_assert_trees.specs.declared.sep.Sep.{Sep}
use Rattle.floyd_assert_trees.specs.declared.sep.Sep.TheVariants.{FieldAt, Padding, Valid, Anything, Predicate}
use Rattle.floyd_assert_changes.specs.Changed.{AssertionSortsAgree, below_existentials, inside, local_terms, new_existentials, part_terms}
use Rattle.floyd_goal_changes.specs.Changed.{ExitSortsAgree, GoalSortsAgree, covering}
use Rattle.floyd_goal_formulas.specs.Fits.{Fits}
use Rattle.floyd_goal_trees.specs.declared.exits.Exit.{Exit}
use Rattle.floyd_goal_trees.specs.declared.exits.Exit.TheVariants as e
use Rattle.floyd_goal_trees.specs.declared.exits.Return.{Return}
use Rattle.floyd_goal_trees.specs.declared.goal.Goal.{Goal}
use Rattle.floyd_goal_trees.specs.declared.goal.Goal.TheVariants.{Run, Entail, Pure}
use Rattle.floyd_goal.specs.Goals.{some_left}
use Rattle.floyd_goal.specs.Sides.{context_of}
use Rattle.floyd_goal_truth.specs.Scopes.{AllFit}
use Rattle.floyd_pure_formulas.specs.Instances.{IsFitIfPure, IsPure}
use Rattle.floyd_pure_formulas.specs.Scoping.{IsScoped}
use Rattle.floyd_pure_formulas.specs.VariableCases.{sort_named}
use Rattle.floyd_pure_formulas.proofs.Substituting.{Suiting, formula_agrees, is_sort_is}
use Rattle.tests_pure.specs.declared.scoped.Found.{Found}
use Rattle.tests_pure.specs.Known.{all_known, head_known, known, scope_of, term_known, terms_known}
use Rattle.tests_pure.specs.Scoped.{IsFound, assertion_known, body_known, exit_known, exits_known, goal_known, has_locals, has_parts, has_props, hypotheses_known, is_pure, locals_known, parts_known, return_known, target_known, value_known}
use Rattle.tests_pure.proofs.KnownLemmas.{all_fit, found_is, known_fits}

-- a term of its sort suits a variable
suits : (x : List ℕ) (s : Sort) (bs : List Binder) → sort_named x bs ≡ Some s → (t : Plain) → sort_of t ≡ Some s → Suiting (puts ((x, t) ∷ [])) (scope_of bs)
suits x s bs e t i v r h = by (bytes_eq v x) refl
  where
    by : (b : Bool) → bytes_eq v x ≡ b → HasSortOf (cond b (Some (Put t)) None) r
    by true q = i ∙ sym e ∙ sym (found_is x bs) ∙ subst (λ y. lookup (bytes_eq y) (scope_of bs) ≡ Some r) ((bytes_eq-Decides v x).0 q) h
    by false q = tt

props_agree : (changes : Changes) (fs : List PlainFormula) → not (has_props fs) ≡ true → FormulasSortsAgree changes (formulas fs)
props_agree changes [] k = tt
props_agree changes (f ∷ fs) k = absurd cc

none_agree : (changes : Changes) (ls : List Local) (ps : List Sep) → (not (has_locals ls) && not (has_parts ps)) ≡ true → AllSortsAgree changes (plains (local_terms ls ++ flat_map part_terms ps))
none_agree changes [] [] k = tt
none_agree changes [] (p ∷ ps) k = absurd cc
none_agree changes (l ∷ ls) ps k = absurd cc

module _ (changes : Changes) (bs : List Binder) (h : Suiting changes (scope_of bs)) where
  mutual
    term_agrees : (t : Plain) → term_known bs t ≡ true → SortsAgree changes t
    term_agrees (At (Variable x s) ts) k =
        let p = both_true (head_known bs (Variable x s)) (terms_known bs ts) k in
        (h x s (found_is x bs ∙ is_sort_is s (sort_named x bs) p.0), terms_agree ts p.1)
    term_agrees (At head ts) k = (tt, terms_agree ts (both_true (head_known bs head) (terms_known bs ts) k).1)

    terms_agree : (ts : Plains) → terms_known bs ts ≡ true → AllSortsAgree changes ts
    terms_agree Done k = tt
    terms_agree (More t ts) k =
        let p = both_true (term_known bs t) (terms_known bs ts) k in
        (term_agrees t p.0, terms_agree ts p.1)

  hypotheses_agree : (defs : Defs) (fs : List PlainFormula) → all_known bs fs ≡ true → FormulasSortsAgree changes (formulas fs)
  hypotheses_agree defs [] k = tt
  hypotheses_agree defs (f ∷ fs) k =
      let p = both_true (known bs f) (all_known bs fs) k in
      let fit : Fits defs (scope_of bs) f = known_fits bs f p.0 defs in
      (formula_agrees defs changes (scope_of bs) h f fit.allowed, hypotheses_agree defs fs p.1)

  parts_agree : (ps : List Sep) → parts_known bs ps ≡ true → AllSortsAgree changes (plains (flat_map part_terms ps))
  parts_agree [] k = tt
  parts_agree (Anything ∷ ps) k = parts_agree ps k
  parts_agree (Valid t ∷ ps) k =
      let p = both_true (term_known bs t) (parts_known bs ps) k in
      (term_agrees t p.0, parts_agree ps p.1)
  parts_agree (FieldAt r v ∷ ps) k = absurd cc
  parts_agree (Padding r ∷ ps) k = absurd cc
  parts_agree (Predicate x ts ∷ ps) k = absurd cc

  locals_agree : (ls : List Local) (rest : List Plain) → locals_known bs ls ≡ true → AllSortsAgree changes (plains rest) → AllSortsAgree changes (plains (local_terms ls ++ rest))
  locals_agree [] rest k r = r
  locals_agree (l ∷ ls) rest k r =
      let p = both_true (term_known bs l.term) (locals_known bs ls) k in
      (term_agrees l.term p.0, locals_agree ls rest p.1 r)

  body_agrees : (a : Assertion) → body_known bs a ≡ true → AllSortsAgree (inside changes a) (plains (local_terms a.locals ++ flat_map part_terms a.parts))
  body_agrees a k = by a.existentials k
    where
      by : (xs : List Binder) → cond (some_left xs) (not (has_locals a.locals) && not (has_parts a.parts)) (locals_known bs a.locals && parts_known bs a.parts) ≡ true →
          AllSortsAgree (below_existentials changes xs (new_existentials changes a)) (plains (local_terms a.locals ++ flat_map part_terms a.parts))
      by [] k =
          let p = both_true (locals_known bs a.locals) (parts_known bs a.parts) k in
          locals_agree a.locals (flat_map part_terms a.parts) p.0 (parts_agree a.parts p.1)
      by (x ∷ xs) k = none_agree (below_existentials changes (x ∷ xs) (new_existentials changes a)) a.locals a.parts k

  assertion_agrees : (a : Assertion) → assertion_known bs a ≡ true → AssertionSortsAgree changes a
  assertion_agrees a k =
      let p = both_true (not (has_props a.props)) (body_known bs a) k in
      (props_agree (inside changes a) a.props p.0, body_agrees a p.1)

  exit_agrees : (exit : Exit) → exit_known bs exit ≡ true → ExitSortsAgree changes exit
  exit_agrees e.None k = tt
  exit_agrees (e.To a) k = assertion_agrees a k
  exit_agrees e.End k = tt

  -- RETURN's term stands before the parts
  value_agrees : (post : Assertion) (t : Plain) → not (some_left post.existentials) ≡ true → term_known bs t ≡ true → body_known bs post ≡ true →
      AllSortsAgree (inside changes (covering post (Some t))) (plains (local_terms post.locals ++ t ∷ flat_map part_terms post.parts))
  value_agrees post t n i k = by post.existentials n k
    where
      by : (xs : List Binder) → not (some_left xs) ≡ true → cond (some_left xs) (not (has_locals post.locals) && not (has_parts post.parts)) (locals_known bs post.locals && parts_known bs post.parts) ≡ true →
          AllSortsAgree (below_existentials changes xs (new_existentials changes (covering post (Some t)))) (plains (local_terms post.locals ++ t ∷ flat_map part_terms post.parts))
      by [] n k =
          let p = both_true (locals_known bs post.locals) (parts_known bs post.parts) k in
          locals_agree post.locals (t ∷ flat_map part_terms post.parts) p.0 (term_agrees t i, parts_agree post.parts p.1)
      by (x ∷ xs) n k = absurd cc

  post_agrees : (post : Assertion) (value : Option Plain) → assertion_known bs post ≡ true → value_known bs post value ≡ true → AssertionSortsAgree changes (covering post value)
  post_agrees post None k i = assertion_agrees post k
  post_agrees post (Some t) k i =
      let p = both_true (not (has_props post.props)) (body_known bs post) k in
      let q = both_true (not (some_left post.existentials)) (term_known bs t) i in
      (props_agree (inside changes (covering post (Some t))) post.props p.0, value_agrees post t q.0 q.1 p.1)

  return_agrees : (r : Return) → return_known bs r ≡ true → AssertionSortsAgree changes (covering r.post r.value)
  return_agrees r k =
      let p = both_true (assertion_known bs r.post) (value_known bs r.post r.value) k in
      post_agrees r.post r.value p.0 p.1

-- each variable has the sort of its binder everywhere in the goal
goal_agrees : (defs : Defs) (changes : Changes) (goal : Goal) → Suiting changes (scope_of (context_of goal).variables) → hypotheses_known goal ≡ true → target_known goal ≡ true → goal_known goal ≡ true →
    GoalSortsAgree changes goal
goal_agrees defs changes (Run run) h i j k =
    let bs = run.context.variables in
    let p = both_true (assertion_known bs run.source) (exits_known bs run.exits) k in
    let q = both_true (exit_known bs run.exits.normal) (exit_known bs run.exits.brk && (exit_known bs run.exits.cont && return_known bs run.exits.ret)) p.1 in
    let r = both_true (exit_known bs run.exits.brk) (exit_known bs run.exits.cont && return_known bs run.exits.ret) q.1 in
    let s = both_true (exit_known bs run.exits.cont) (return_known bs run.exits.ret) r.1 in
    record {
      context = hypotheses_agree changes bs h defs run.context.hypotheses i;
      source = assertion_agrees changes bs h run.source p.0;
      exits = record {
        normal = exit_agrees changes bs h run.exits.normal q.0;
        brk = exit_agrees changes bs h run.exits.brk r.0;
        cont = exit_agrees changes bs h run.exits.cont s.0;
        ret = return_agrees changes bs h run.exits.ret s.1;
      };
    }
goal_agrees defs changes (Entail entail) h i j k =
    let bs = entail.context.variables in
    let p = both_true (assertion_known bs entail.source) (assertion_known bs entail.target) k in
    record {
      context = hypotheses_agree changes bs h defs entail.context.hypotheses i;
      source = assertion_agrees changes bs h entail.source p.0;
      target = assertion_agrees changes bs h entail.target p.1;
    }
goal_agrees defs changes (Pure pure) h i j k =
    let bs = pure.context.variables in
    let fit : Fits defs (scope_of bs) pure.target = known_fits bs pure.target j defs in
    record {
      context = hypotheses_agree changes bs h defs pure.context.hypotheses i;
      target = formula_agrees defs changes (scope_of bs) h pure.target fit.allowed;
    }

pub hypotheses_fit : (goal : Goal) (found : Found) (defs : Defs) → IsFound goal found → found.hypotheses ≡ true → AllFit defs (context_of goal) (context_of goal).hypotheses
hypotheses_fit goal found defs f h = all_fit (context_of goal).variables (context_of goal).hypotheses (sym f.hypotheses ∙ h) defs

fits_if_pure : (goal : Goal) (defs : Defs) → target_known goal ≡ true → IsFitIfPure defs goal
fits_if_pure (Run run) defs h = tt
fits_if_pure (Entail entail) defs h = tt
fits_if_pure (Pure pure) defs h = known_fits pure.context.variables pure.target h defs

pub target_fits : (goal : Goal) (found : Found) (defs : Defs) → IsFound goal found → found.target ≡ true → IsFitIfPure defs goal
target_fits goal found defs f h = fits_if_pure goal defs (sym f.target ∙ h)

pub pure_is : (goal : Goal) → is_pure goal ≡ true → IsPure goal
pure_is (Run run) h = absurd cc
pure_is (Entail entail) h = absurd cc
pure_is (Pure pure) h = tt

pub is_scoped : (goal : Goal) (found : Found) (defs : Defs) → IsFound goal found → found.hypotheses ≡ true → found.target ≡ true → found.rest ≡ true → IsScoped defs goal
is_scoped goal found defs f h i k = record {
  hypotheses = hypotheses_fit goal found defs f h;
  variables = λ x s e t j.
      goal_agrees defs (puts ((x, t) ∷ [])) goal (suits x s (context_of goal).variables e t j) (sym f.hypotheses ∙ h) (sym f.target ∙ i) (sym f.rest ∙ k);
}
