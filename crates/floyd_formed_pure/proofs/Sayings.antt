-- What stands below the head of a well-formed formula is well formed.
use Rattle.std.proofs.Common.{Option, Some, None}
use Rattle.floyd_tree_sorts.specs.declared.connectives.FormulaHead.TheVariants as f
use Rattle.floyd_tree.specs.Formulas.{PlainFormula, PlainFormulas, Says, NoFormula, MoreFormulas, listed_formulas}
use Rattle.floyd_tree.specs.Plain.{Plain, Plains, Done, More, listed}
use Rattle.floyd_tree_values.specs.Rules.{Scope}
use Rattle.floyd_assert_trees.specs.declared.items.Defs.{Defs}
use Rattle.floyd_assert_trees.specs.declared.spec.SpecTable.{SpecTable}
use Rattle.floyd_assert_trees.specs.Meanings.{value_defs}
use Rattle.floyd_goal_forms.specs.Terms.{AllHeadsFit, AllKnown, FormulaFits, GlobalsKnown, HeadsFit}
use Rattle.floyd_goal_formulas.specs.Said.{Saying, Equation, Inequality, Pointer, NotUndefined, OfType, Implication, Either, Both, ForAll, ThereIs, said, of_pair, of_one, pair_of, one_of, last_of}
use Rattle.floyd_goal_truth.proofs.Uses.{PartsFit, parts_fit}

module _ (defs : Defs) (specs : SpecTable) where
  -- the names in it are known
  abbrev pub PartsKnown : Saying → Type 0
  PartsKnown (Equation a b) = GlobalsKnown defs a × GlobalsKnown defs b
  PartsKnown (Implication a b) = HeadsFit defs specs a × HeadsFit defs specs b
  PartsKnown (Either a b) = HeadsFit defs specs a × HeadsFit defs specs b
  PartsKnown (Both a b) = HeadsFit defs specs a × HeadsFit defs specs b
  PartsKnown (ForAll x s a) = HeadsFit defs specs a
  PartsKnown (ThereIs x s a) = HeadsFit defs specs a
  PartsKnown saying = Unit {0}

  pair_known : (says : PlainFormula → PlainFormula → Saying) → ((a b : PlainFormula) → HeadsFit defs specs a → HeadsFit defs specs b → PartsKnown (says a b)) → (fs : PlainFormulas) → AllHeadsFit defs specs fs → PartsKnown (of_pair says (pair_of (listed_formulas fs)))
  pair_known says h NoFormula k = tt
  pair_known says h (MoreFormulas a NoFormula) k = tt
  pair_known says h (MoreFormulas a (MoreFormulas b NoFormula)) k = h a b k.0 k.1.0
  pair_known says h (MoreFormulas a (MoreFormulas b (MoreFormulas c fs))) k = tt

  one_known : (says : PlainFormula → Saying) → ((a : PlainFormula) → HeadsFit defs specs a → PartsKnown (says a)) → (fs : PlainFormulas) → AllHeadsFit defs specs fs → PartsKnown (of_one says (one_of (listed_formulas fs)))
  one_known says h NoFormula k = tt
  one_known says h (MoreFormulas a NoFormula) k = h a k.0
  one_known says h (MoreFormulas a (MoreFormulas b fs)) k = tt

  terms_known : (ts : Plains) → AllKnown defs ts → PartsKnown (of_pair Equation (pair_of (listed ts)))
  terms_known Done k = tt
  terms_known (More a Done) k = tt
  terms_known (More a (More b Done)) k = (k.0, k.1.0)
  terms_known (More a (More b (More c ts))) k = tt

  any_pair : (says : Plain → Plain → Saying) (o : Option (Plain × Plain)) → ((a b : Plain) → PartsKnown (says a b)) → PartsKnown (of_pair says o)
  any_pair says None h = tt
  any_pair says (Some p) h = h p.0 p.1

  any_one : (says : Plain → Saying) (o : Option Plain) → ((a : Plain) → PartsKnown (says a)) → PartsKnown (of_one says o)
  any_one says None h = tt
  any_one says (Some a) h = h a

  pub parts_known : (a : PlainFormula) → HeadsFit defs specs a → PartsKnown (said a)
  parts_known (Says f.True ts fs) k = tt
  parts_known (Says f.False ts fs) k = tt
  parts_known (Says f.Implies ts fs) k = pair_known Implication (λ a b p q. (p, q)) fs k.2
  parts_known (Says f.Or ts fs) k = pair_known Either (λ a b p q. (p, q)) fs k.2
  parts_known (Says f.And ts fs) k = pair_known Both (λ a b p q. (p, q)) fs k.2
  parts_known (Says (f.Forall x s) ts fs) k = one_known (ForAll x s) (λ a p. p) fs k.2
  parts_known (Says (f.Exists x s) ts fs) k = one_known (ThereIs x s) (λ a p. p) fs k.2
  parts_known (Says f.Equal ts fs) k = terms_known ts k.1
  parts_known (Says f.AtMost ts fs) k = any_pair Inequality (pair_of (listed ts)) (λ a b. tt)
  parts_known (Says f.IsPtr ts fs) k = any_one Pointer (one_of (listed ts)) (λ a. tt)
  parts_known (Says f.Defined ts fs) k = any_one NotUndefined (one_of (listed ts)) (λ a. tt)
  parts_known (Says (f.Hasty shape) ts fs) k = any_one (OfType shape) (last_of (listed ts)) (λ a. tt)
  parts_known (Says (f.Compatible shape path) ts fs) k = tt
  parts_known (Says (f.FuncPtr name) ts fs) k = tt

module _ (defs : Defs) (specs : SpecTable) (scope : Scope) where
  -- both formulas of a connective are well formed
  abbrev pub PartsFormed : Saying → Type 0
  PartsFormed (Implication a b) = FormulaFits defs specs scope a × FormulaFits defs specs scope b
  PartsFormed (Either a b) = FormulaFits defs specs scope a × FormulaFits defs specs scope b
  PartsFormed (Both a b) = FormulaFits defs specs scope a × FormulaFits defs specs scope b
  PartsFormed saying = Unit {0}

  joined : (s : Saying) → PartsFit (value_defs defs) scope s → PartsKnown defs specs s → PartsFormed s
  joined (Implication a b) p k = (record { fits = p.0; known = k.0 }, record { fits = p.1; known = k.1 })
  joined (Either a b) p k = (record { fits = p.0; known = k.0 }, record { fits = p.1; known = k.1 })
  joined (Both a b) p k = (record { fits = p.0; known = k.0 }, record { fits = p.1; known = k.1 })
  joined s p k = tt

  pub parts_formed : (a : PlainFormula) → FormulaFits defs specs scope a → PartsFormed (said a)
  parts_formed a h = joined (said a) (parts_fit (value_defs defs) scope a h.fits) (parts_known defs specs a h.known)
