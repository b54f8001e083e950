-- Well-formed items take the terms that they are used with.
use Rattle.std.proofs.Common.{◌≡◌, ℕ, Bool, true, false, cond, List, [], ◌∷◌, Option, Some, None, Ok, Err, ap, subst, bytes_eq}
use Rattle.std.specs.List.{AllByRecursion}
use Rattle.std.specs.Map.{lookup}
use Rattle.std.proofs.lemmas.Option.{same_Some}
use Rattle.floyd_tree.specs.Plain.{Plain}
use Rattle.floyd_assert_trees.specs.declared.items.Defs.{Defs}
use Rattle.floyd_assert_trees.specs.declared.items.Lemma.{Lemma}
use Rattle.floyd_assert_trees.specs.declared.sep.Sep.{Sep}
use Rattle.floyd_assert_trees.specs.declared.sep.Sep.TheVariants.{FieldAt, Padding, Valid, Anything, Predicate}
use Rattle.floyd_assert_trees.specs.declared.spec.SpecTable.{SpecTable}
use Rattle.floyd_clause_laws.proofs.Sorting.{opens_well}
use Rattle.floyd_clauses.specs.Clauses.{TakesTerms, Unfolds}
use Rattle.floyd_entail_lemmas.specs.Apply as apply
use Rattle.floyd_entail_lemmas.specs.Hypothesis as apply_ih
use Rattle.floyd_goal_forms.specs.Items.{ItemsFit, LemmaFits}
use Rattle.floyd_goal_trees.specs.Contexts.{context_of}
use Rattle.floyd_goal_trees.specs.declared.args.Args.{Args}
use Rattle.floyd_goal_trees.specs.declared.context.Mark.{Mark}
use Rattle.floyd_goal_trees.specs.declared.context.Mark.TheVariants as m
use Rattle.floyd_goal_trees.specs.declared.goal.Goal.{Goal}
use Rattle.floyd_lemma_laws.proofs.Taking.{takes}

each_named : {A : Type 0} (P : A → Type 0) (table : List (List ℕ × A)) (name : List ℕ) (a : A) → AllByRecursion (λ q. P q.1) table → lookup (bytes_eq name) table ≡ Some a → P a
each_named P [] name a h e = absurd cc
each_named P (q ∷ table) name a h e = by (each_named P table name a h.1) (bytes_eq name q.0) e
  where
    by : (lookup (bytes_eq name) table ≡ Some a → P a) → (t : Bool) → cond t (Some q.1) (lookup (bytes_eq name) table) ≡ Some a → P a
    by go true k = subst P (same_Some q.1 a k) h.0
    by go false k = go k

module _ (defs : Defs) (specs : SpecTable) (items : ItemsFit defs specs) where
  pub clause_taken : (name : List ℕ) (terms : List Plain) → TakesTerms defs name terms
  clause_taken name terms = λ p own. opens_well defs specs name p terms items.preds own

  pub unfolds : (part : Sep) → Unfolds defs part
  unfolds (FieldAt region value) = tt
  unfolds (Padding region) = tt
  unfolds (Valid address) = tt
  unfolds Anything = tt
  unfolds (Predicate name terms) = clause_taken name terms

  taken : (name : List ℕ) (l : Lemma) (terms : List Plain) → lookup (bytes_eq name) defs.lemmas ≡ Some l → apply.TakesTerms l terms
  taken name l terms e = takes defs specs l terms (each_named (LemmaFits defs specs) defs.lemmas name l items.lemmas e)

  proved_is : (o : Option (Unit {0})) (k : Option Lemma) (name : List ℕ) (l : Lemma) → apply.proved_one o k name ≡ Ok l → k ≡ Some l
  proved_is None k name l e = absurd cc
  proved_is (Some u) None name l e = absurd cc
  proved_is (Some u) (Some a) name l e = let same : a ≡ l = cc in ap (λ (x : Lemma). Some x) same

  pub apply_agrees : (args : Args) → apply.SortsAgree defs args
  apply_agrees args = λ l e. taken args.name l args.terms (proved_is (lookup (bytes_eq args.name) defs.proved) (lookup (bytes_eq args.name) defs.lemmas) args.name l e)

  there : (o : Option Lemma) (l : Lemma) → apply_ih.lemma_or o ≡ Ok l → o ≡ Some l
  there None l e = absurd cc
  there (Some a) l e = let same : a ≡ l = cc in ap (λ (x : Lemma). Some x) same

  by_part : (b : Bool) (name : List ℕ) (l : Lemma) (terms : List Plain) → cond b (apply_ih.lemma_or (lookup (bytes_eq name) defs.lemmas)) (Err apply_ih.bad_induction) ≡ Ok l → apply.TakesTerms l terms
  by_part true name l terms e = taken name l terms (there (lookup (bytes_eq name) defs.lemmas) l e)
  by_part false name l terms e = absurd cc

  by_mark : (mark : Mark) (l : Lemma) (terms : List Plain) → apply_ih.hypothesis_by defs mark terms ≡ Ok l → apply.TakesTerms l terms
  by_mark m.Plain l terms e = absurd cc
  by_mark (m.Start name) l terms e = absurd cc
  by_mark (m.Induction name place parts) l terms e = by_part (apply_ih.part_at parts terms place) name l terms e

  pub hypothesis_agrees : (goal : Goal) (args : Args) → apply_ih.SortsAgree defs goal args
  hypothesis_agrees goal args = λ l e. by_mark (context_of goal).mark l args.terms e
