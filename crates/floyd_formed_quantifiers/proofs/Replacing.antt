-- Terms and formulas that are well formed stay so with what is put in the place of variables.
use Rattle.std.proofs.Common.{◌≡◌, ℕ, ◌+◌, ◌<◌, ◌^◌, Bool, true, false, not, ◌&&◌, ◌||◌, List, ◌∷◌, Option, Some, None, refl, arith}
use Rattle.std.specs.Prelude.{bytes_eq}
use Rattle.std.specs.Map.{lookup}
use Rattle.floyd_tree_sorts.specs.declared.connectives.FormulaHead.{FormulaHead}
use Rattle.floyd_tree_sorts.specs.declared.connectives.FormulaHead.TheVariants.{Forall, Exists}
use Rattle.floyd_tree_sorts.specs.declared.heads.Head.TheVariants.{Variable, Default, Gv, Fun as FunHead}
use Rattle.floyd_tree_sorts.specs.declared.sorts.Sort.{Sort}
use Rattle.floyd_tree_sorts.specs.Heads.{binds, is_variable}
use Rattle.floyd_tree.specs.Formulas.{PlainFormula, PlainFormulas, Says, NoFormula, MoreFormulas, formula_mentions, formula_size, formula_sizes, formulas_mention}
use Rattle.floyd_tree.specs.Plain.{Plain, Plains, At, Done, More, mentions, mentions_in}
use Rattle.floyd_tree_values.specs.Rules.{AllAllowed, CallsOf, EachAllowed, Scope}
use Rattle.floyd_truth.specs.Capture.{Becomes, Put, Called, Changes, bound_in, bound_in_some, renamed}
use Rattle.floyd_truth.specs.Replace.{changes_below, head_after, replaced, replaced_formula, replaced_formulas, replaced_in, variable_as}
use Rattle.floyd_truth.proofs.Fresh.{covers, is_new, or_left, or_right, weight}
use Rattle.floyd_assert_trees.specs.declared.items.Defs.{Defs}
use Rattle.floyd_assert_trees.specs.declared.spec.SpecTable.{SpecTable}
use Rattle.floyd_assert_trees.specs.Meanings.{value_defs}
use Rattle.floyd_assert_changes.proofs.ReplacingFormulas.{well_sorted_after}
use Rattle.floyd_goal_forms.specs.Terms.{AllHeadsFit, AllKnown, FormulaFits, GlobalsKnown, HeadFits, HeadsFit}
use Rattle.floyd_goal_formulas.specs.Fits.{AreAllowed, IsAllowed, scope_below}
use Rattle.floyd_pure_formulas.proofs.Substituting.{Suiting, formula_agrees}
use Rattle.floyd_formed_quantifiers.proofs.Leading.{Leads, LeadsBy, Ready, itself, ready_below, ready_part}

module _ (defs : Defs) (changes : Changes) (old new : Scope) where
  abbrev Each : Scope → Plain → Type 0
  Each scope t = EachAllowed defs.structs scope (CallsOf (value_defs defs).funs) t

  abbrev All : Scope → Plains → Type 0
  All scope ts = AllAllowed defs.structs scope (CallsOf (value_defs defs).funs) ts

  -- allowed, with names that are known
  variable_formed : (o : Option Becomes) (x : List ℕ) (s : Sort) (kids : Plains) → LeadsBy defs new o x s → All new kids × AllKnown defs kids → Each new (variable_as o x s kids) × GlobalsKnown defs (variable_as o x s kids)
  variable_formed (Some (Put t)) x s kids k h = (k.fits.allowed, k.known)
  variable_formed (Some (Called y)) x s kids k h = ((k, h.0), (tt, h.1))
  variable_formed None x s kids k h = ((k, h.0), (tt, h.1))

  mutual
    pub term_formed : (t : Plain) → ((v : List ℕ) → mentions v t ≡ true → Leads defs changes old new v) → Each old t → GlobalsKnown defs t → Each new (replaced changes t) × GlobalsKnown defs (replaced changes t)
    term_formed (At (Variable x s) ts) k a g =
        variable_formed (lookup (bytes_eq x) changes) x s (replaced_in changes ts) (k x (or_left (bytes_eq x x) (mentions_in x ts) (itself x)) s a.0)
        (terms_formed ts (λ v i. k v (or_right (bytes_eq v x) (mentions_in v ts) i)) a.1 g.1)
    term_formed (At (Default shape s) ts) k a g = let p = terms_formed ts (λ v i. k v i) a.1 g.1 in ((a.0, p.0), (tt, p.1))
    term_formed (At (FunHead name arguments s) ts) k a g = let p = terms_formed ts (λ v i. k v i) a.1 g.1 in ((a.0, p.0), (tt, p.1))
    term_formed (At (Gv x) ts) k a g = let p = terms_formed ts (λ v i. k v i) a.1 g.1 in ((tt, p.0), (g.0, p.1))
    term_formed (At head ts) k a g = let p = terms_formed ts (λ v i. k v (or_right (is_variable v head) (mentions_in v ts) i)) a.1 g.1 in ((tt, p.0), (tt, p.1))

    pub terms_formed : (ts : Plains) → ((v : List ℕ) → mentions_in v ts ≡ true → Leads defs changes old new v) → All old ts → AllKnown defs ts → All new (replaced_in changes ts) × AllKnown defs (replaced_in changes ts)
    terms_formed Done k a g = (tt, tt)
    terms_formed (More t ts) k a g =
        let p = term_formed t (λ v i. k v (or_left (mentions v t) (mentions_in v ts) i)) a.0 g.0 in
        let q = terms_formed ts (λ v i. k v (or_right (mentions v t) (mentions_in v ts) i)) a.1 g.1 in
        ((p.0, q.0), (p.1, q.1))

-- ---- formulas

weight_below : (changes : Changes) (head : FormulaHead) (kids : PlainFormulas) → weight (changes_below changes head kids) ≡ weight changes
weight_below changes (Forall x s) kids = refl
weight_below changes (Exists x s) kids = refl
weight_below changes head kids = refl

-- the head over the changed formulas
head_known : (defs : Defs) (specs : SpecTable) (changes : Changes) (head : FormulaHead) (kids : PlainFormulas) → HeadFits defs specs head → HeadFits defs specs (head_after changes head kids)
head_known defs specs changes (Forall x s) kids h = tt
head_known defs specs changes (Exists x s) kids h = tt
head_known defs specs changes head kids h = h

other_and : (a : Bool) (c : Bool) → a ≡ false → c ≡ true → (not a && c) ≡ true
other_and true c h k = absurd cc
other_and false c h k = k

module _ (defs : Defs) where
  abbrev pub ReadyAt : Changes → Scope → Scope → PlainFormula → Type 0
  ReadyAt changes old new a = Ready defs changes old new (λ v. formula_mentions v a) (λ v. bound_in v a)

  abbrev pub ReadyFor : Changes → Scope → Scope → PlainFormulas → Type 0
  ReadyFor changes old new kids = Ready defs changes old new (covers kids) (λ v. bound_in_some v kids)

  below_binder : (changes : Changes) (old new : Scope) (terms : Plains) (kids : PlainFormulas) (x : List ℕ) (s : Sort) → weight changes + formula_sizes kids < 2 ^ 63 →
      Ready defs changes old new (λ v. mentions_in v terms || (not (bytes_eq v x) && formulas_mention v kids)) (λ v. bytes_eq v x || bound_in_some v kids) →
      ReadyFor ((x, Called (renamed changes kids x)) ∷ changes) ((x, s) ∷ old) ((renamed changes kids x, s) ∷ new) kids
  below_binder changes old new terms kids x s l r =
      ready_below defs changes old new (λ v. mentions_in v terms || (not (bytes_eq v x) && formulas_mention v kids)) (λ v. bytes_eq v x || bound_in_some v kids) r kids x (renamed changes kids x) s
      (is_new changes kids x l)
      (λ v m e. or_right (mentions_in v terms) (not (bytes_eq v x) && formulas_mention v kids) (other_and (bytes_eq v x) (formulas_mention v kids) e m))
      (λ v e. or_left (bytes_eq v x) (bound_in_some v kids) e)
      (λ v e. or_right (bytes_eq v x) (bound_in_some v kids) e)

  below_head : (changes : Changes) (old new : Scope) (head : FormulaHead) (terms : Plains) (kids : PlainFormulas) → weight changes + formula_sizes kids < 2 ^ 63 → ReadyAt changes old new (Says head terms kids) →
      ReadyFor (changes_below changes head kids) (scope_below head old) (scope_below (head_after changes head kids) new) kids
  below_head changes old new (Forall x s) terms kids l r = below_binder changes old new terms kids x s l r
  below_head changes old new (Exists x s) terms kids l r = below_binder changes old new terms kids x s l r
  below_head changes old new head terms kids l r =
      ready_part defs changes old new (λ v. mentions_in v terms || formulas_mention v kids) (λ v. bound_in_some v kids) r (covers kids) (λ v. bound_in_some v kids)
      (λ v e. or_right (mentions_in v terms) (formulas_mention v kids) e) (λ v e. e)

  module _ (specs : SpecTable) where
    mutual
      formula_formed : (changes : Changes) (old new : Scope) (a : PlainFormula) → weight changes + formula_size a < 2 ^ 63 → ReadyAt changes old new a → IsAllowed (value_defs defs) old a → HeadsFit defs specs a →
          IsAllowed (value_defs defs) new (replaced_formula changes a) × HeadsFit defs specs (replaced_formula changes a)
      formula_formed changes old new (Says head terms kids) l r k g =
          let p = terms_formed defs changes old new terms (λ v i. r.leads v (or_left (mentions_in v terms) (not (binds v head) && formulas_mention v kids) i)) k.0 g.1 in
          let q = formulas_formed (changes_below changes head kids) (scope_below head old) (scope_below (head_after changes head kids) new) kids
          (omega (arith, l, weight_below changes head kids)) (below_head changes old new head terms kids (omega (arith, l)) r) k.1 g.2 in
          ((p.0, q.0), (head_known defs specs changes head kids g.0, p.1, q.1))

      formulas_formed : (changes : Changes) (old new : Scope) (fs : PlainFormulas) → weight changes + formula_sizes fs < 2 ^ 63 → ReadyFor changes old new fs → AreAllowed (value_defs defs) old fs → AllHeadsFit defs specs fs →
          AreAllowed (value_defs defs) new (replaced_formulas changes fs) × AllHeadsFit defs specs (replaced_formulas changes fs)
      formulas_formed changes old new NoFormula l r k g = (tt, tt)
      formulas_formed changes old new (MoreFormulas a fs) l r k g =
          let free : List ℕ → Bool = λ v. formula_mentions v a || formulas_mention v fs in
          let bound : List ℕ → Bool = λ v. bound_in v a || bound_in_some v fs in
          let p = formula_formed changes old new a (omega (arith, l))
          (ready_part defs changes old new free bound r (λ v. formula_mentions v a) (λ v. bound_in v a) (λ v e. or_left (formula_mentions v a) (formulas_mention v fs) e) (λ v e. or_left (bound_in v a) (bound_in_some v fs) e)) k.0 g.0 in
          let q = formulas_formed changes old new fs (omega (arith, l))
          (ready_part defs changes old new free bound r (λ v. formulas_mention v fs) (λ v. bound_in_some v fs) (λ v e. or_right (formula_mentions v a) (formulas_mention v fs) e) (λ v e. or_right (bound_in v a) (bound_in_some v fs) e)) k.1 g.1 in
          ((p.0, q.0), (p.1, q.1))

    -- a well-formed formula after changes that put terms of the sorts of the old scope
    pub changed_formed : (changes : Changes) (old new : Scope) (a : PlainFormula) → Suiting changes old → weight changes + formula_size a < 2 ^ 63 → ReadyAt changes old new a → FormulaFits defs specs old a → FormulaFits defs specs new (replaced_formula changes a)
    changed_formed changes old new a suits l r h =
        let p = formula_formed changes old new a l r h.fits.allowed h.known in
        record { fits = record { sorted = well_sorted_after changes a h.fits.sorted (formula_agrees (value_defs defs) changes old suits a h.fits.allowed); allowed = p.0 }; known = p.1 }
