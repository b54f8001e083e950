-- Commands that write equations and inequalities make well-formed goals.
use Rattle.std.proofs.Common.{◌≡◌, Bool, true, false, ◌&&◌, cond, List, [], ◌∷◌, map, Some, None, Ok, refl, sym, ap, ap₂, subst, ◌∙◌}
use Rattle.floyd_tree_sorts.specs.declared.connectives.FormulaHead.{FormulaHead}
use Rattle.floyd_tree_sorts.specs.declared.connectives.FormulaHead.TheVariants as f
use Rattle.floyd_tree_sorts.specs.declared.sorts.Sort.{Sort, Z}
use Rattle.floyd_tree_sorts.proofs.SortLemmas.{same_sort_self}
use Rattle.floyd_tree.specs.Formulas.{PlainFormula, Says, NoFormula, MoreFormulas, takes_all}
use Rattle.floyd_tree.specs.Plain.{Plain, Plains, At, Done, More, head_of, kids_of, listed}
use Rattle.floyd_tree.specs.WellSorted.{sort_of, sorts_of, with_first}
use Rattle.floyd_tree_values.specs.Rules.{AllAllowed, CallsOf, EachAllowed, Scope}
use Rattle.floyd_assert_trees.specs.declared.items.Defs.{Defs}
use Rattle.floyd_assert_trees.specs.declared.spec.SpecTable.{SpecTable}
use Rattle.floyd_assert_trees.specs.Meanings.{value_defs}
use Rattle.floyd_goal.specs.Goals.{intros_first, is_pending, number_of, pure_goal}
use Rattle.floyd_goal_formulas.specs.Said.{Saying, Both, Equation, said}
use Rattle.floyd_goal_formulas.proofs.Values.{first_some}
use Rattle.floyd_goal_trees.specs.Contexts.{context_of, scope_of}
use Rattle.floyd_goal_trees.specs.declared.args.Args.{Args}
use Rattle.floyd_goal_trees.specs.declared.goal.Goal.{Goal}
use Rattle.floyd_goal_trees.specs.declared.goal.Goal.TheVariants as g
use Rattle.floyd_goal_trees.specs.declared.goal.Pure.{Pure}
use Rattle.floyd_goal_forms.specs.Goals.{IsWellFormed}
use Rattle.floyd_goal_forms.specs.Terms.{AllKnown, FormulaFits, FormulasFit, GlobalsKnown, HeadFits}
use Rattle.floyd_pure_formulas.specs.Instances.{is_sort}
use Rattle.floyd_pure_formulas.specs.Rows.{OfHypothesis, no_such}
use Rattle.floyd_pure_formulas.proofs.Rowing.{found, goals_are, no_goals, passed}
use Rattle.floyd_pure_formulas.proofs.Shapes.{equation}
use Rattle.floyd_pure_formulas.proofs.Substituting.{is_sort_is}
use Rattle.floyd_pure_quantifiers.specs.Inject.{InjectRow, are_alike, equations, goals_by, injected}
use Rattle.floyd_pure_quantifiers.specs.Split.{SplitRow, at_most, conjuncts, goals_of, parts}
use Rattle.floyd_pure_quantifiers.proofs.Equating.{Alike, alike, alike_sorts, kid_sorts, sides_sorted}
use Rattle.floyd_formed_pure.specs.Rows.{AreWellFormed, KeepsForms}
use Rattle.floyd_formed_pure.proofs.Contexts.{both_all, context_formed, hypothesis_formed, pure_formed, with_more_formed}
use Rattle.floyd_formed_pure.proofs.Sayings.{parts_formed}

module _ (defs : Defs) (specs : SpecTable) (scope : Scope) where
  -- each node of the term is allowed, and its names are known
  abbrev pub IsFine : Plain → Type 0
  IsFine t = EachAllowed defs.structs scope (CallsOf (value_defs defs).funs) t × GlobalsKnown defs t

  abbrev pub AreFine : Plains → Type 0
  AreFine ts = AllAllowed defs.structs scope (CallsOf (value_defs defs).funs) ts × AllKnown defs ts

  -- a formula of two terms
  pub two_formed : (head : FormulaHead) (u v : Plain) (s r : Sort) → HeadFits defs specs head → sort_of u ≡ Some s → sort_of v ≡ Some r → takes_all head (Some (s ∷ r ∷ [])) 0 ≡ true → IsFine u → IsFine v → FormulaFits defs specs scope (Says head (More u (More v Done)) NoFormula)
  two_formed head u v s r k e i taken a b =
      let sorts : sorts_of (More u (More v Done)) ≡ Some (s ∷ r ∷ []) = ap₂ (λ p q. with_first p (with_first q (Some []))) e i in
      record {
        fits = record { sorted = ap (λ b. b && true) (ap (λ o. takes_all head o 0) sorts ∙ taken); allowed = ((a.0, (b.0, tt)), tt) };
        known = (k, (a.1, (b.1, tt)), tt);
      }

  -- equations of terms of the same sorts, one by one
  equations_formed : (ts us : Plains) (ss : List Sort) → sorts_of ts ≡ Some ss → sorts_of us ≡ Some ss → AreFine ts → AreFine us → FormulasFit defs specs scope (equations (listed ts) (listed us))
  equations_formed Done us ss p q a b = tt
  equations_formed (More t ts) Done ss p q a b = tt
  equations_formed (More t ts) (More u us) ss p q a b =
      let k = first_some (sort_of t) (sorts_of ts) ss p in
      let l = first_some (sort_of u) (sorts_of us) ss q in
      let both : k.0 ∷ k.1 ≡ l.0 ∷ l.1 = sym k.4 ∙ l.4 in
      let first : l.0 ≡ k.0 = cc in
      let rest : l.1 ≡ k.1 = cc in (
        two_formed f.Equal t u k.0 k.0 tt k.2 (l.2 ∙ ap (λ s. Some s) first) (same_sort_self k.0) (a.0.0, a.1.0) (b.0.0, b.1.0),
        equations_formed ts us k.1 k.3 (l.3 ∙ ap (λ s. Some s) rest) (a.0.1, a.1.1) (b.0.1, b.1.1),
      )

  -- the sides of a well-formed equation
  pub record Sides (u v : Plain) : Type 0 where
    pub sort : Sort
    pub left_sorted : sort_of u ≡ Some sort
    pub right_sorted : sort_of v ≡ Some sort
    pub left : IsFine u
    pub right : IsFine v

  pub sides_formed : (a : PlainFormula) (u v : Plain) → said a ≡ Equation u v → FormulaFits defs specs scope a → Sides u v
  sides_formed a u v e h =
      let i = equation u v a e in
      let w : FormulaFits defs specs scope (Says f.Equal (More u (More v Done)) i.kids) = subst (FormulaFits defs specs scope) i.is h in
      let s = sides_sorted u v i.kids w.fits.sorted in
      record { sort = s.0; left_sorted = s.1; right_sorted = s.2; left = (w.fits.allowed.0.0, w.known.1.0); right = (w.fits.allowed.0.1.0, w.known.1.1.0) }

  arguments_formed : (u v : Plain) → Sides u v → Alike (head_of u) (head_of v) → FormulasFit defs specs scope (equations (kids_of u) (kids_of v))
  arguments_formed (At a ts) (At b us) s al =
      let k = kid_sorts a ts s.sort s.left_sorted in
      let l = kid_sorts b us s.sort s.right_sorted in
      let same : l.0 ≡ k.0 = sym (alike_sorts al k.0 l.0 s.sort k.2 l.2) in
      equations_formed ts us k.0 k.1 (l.1 ∙ ap (λ x. Some x) same) (s.left.0.1, s.left.1.1) (s.right.0.1, s.right.1.1)

  conjuncts_formed : (a : PlainFormula) → FormulaFits defs specs scope a → FormulasFit defs specs scope (conjuncts a)
  conjuncts_formed (Says f.And ts (MoreFormulas a (MoreFormulas b NoFormula))) h =
      let p = parts_formed defs specs scope (Says f.And ts (MoreFormulas a (MoreFormulas b NoFormula))) h in
      both_all (FormulaFits defs specs scope) (conjuncts a) (conjuncts b) (conjuncts_formed a p.0) (conjuncts_formed b p.1)
  conjuncts_formed (Says f.And ts NoFormula) h = (h, tt)
  conjuncts_formed (Says f.And ts (MoreFormulas a NoFormula)) h = (h, tt)
  conjuncts_formed (Says f.And ts (MoreFormulas a (MoreFormulas b (MoreFormulas c fs)))) h = (h, tt)
  conjuncts_formed (Says head ts fs) h = (h, tt)

-- ---- inject

module _ (defs : Defs) (specs : SpecTable) (goal : Goal) (formed : IsWellFormed defs specs goal) (args : Args) (goals : List Goal) where
  injected_if : (u v : Plain) (b : Bool) → are_alike (head_of u) (head_of v) ≡ b → Sides defs specs (scope_of (context_of goal)) u v → Ok goals ≡ goals_by goal args (cond b (Some (equations (kids_of u) (kids_of v))) None) → AreWellFormed defs specs goals
  injected_if u v true k s e =
      let fs = equations (kids_of u) (kids_of v) in
      subst (AreWellFormed defs specs) (sym (goals_are goals _ e))
      (with_more_formed defs specs goal fs formed (arguments_formed defs specs (scope_of (context_of goal)) u v s (alike (head_of u) (head_of v) k)), tt)
  injected_if u v false k s e = absurd (no_goals goals _ e)

  injected_formed : (a : PlainFormula) → FormulaFits defs specs (scope_of (context_of goal)) a → (s : Saying) → said a ≡ s → Ok goals ≡ goals_by goal args (injected s) → AreWellFormed defs specs goals
  injected_formed a h (Equation u v) i e = injected_if u v (are_alike (head_of u) (head_of v)) refl (sides_formed defs specs (scope_of (context_of goal)) a u v i h) e
  injected_formed a h s i e = absurd (no_goals goals _ e)

pub inject_forms : KeepsForms InjectRow
inject_forms defs specs goal args goals formed given row =
    let p = found _ (no_such args) (λ h a. a ≡ goals_by goal args (injected (said h))) goals
    (passed (is_pending goal) intros_first (OfHypothesis goal args (λ h a. a ≡ goals_by goal args (injected (said h)))) goals row) in
    let fit = hypothesis_formed defs specs (scope_of (context_of goal)) (context_of goal).hypotheses (number_of args.target) p.0 p.1 (context_formed defs specs goal formed).hypotheses in
    injected_formed defs specs goal formed args goals p.0 fit (said p.0) refl p.2

-- ---- split

module _ (defs : Defs) (specs : SpecTable) (pure : Pure) (formed : IsWellFormed defs specs (g.Pure pure)) (goals : List Goal) where
  all_formed : (fs : List PlainFormula) → FormulasFit defs specs (scope_of pure.context) fs → AreWellFormed defs specs (map (pure_goal pure.context) fs)
  all_formed [] h = tt
  all_formed (a ∷ fs) h = (pure_formed defs specs (g.Pure pure) a formed h.0, all_formed fs h.1)

  halves_if : (u v : Plain) (b : Bool) → is_sort Z (sort_of u) ≡ b → Sides defs specs (scope_of pure.context) u v → Ok goals ≡ goals_of pure.context (cond b (Some (at_most u v ∷ at_most v u ∷ [])) None) → AreWellFormed defs specs goals
  halves_if u v true k s e =
      let z = is_sort_is Z (sort_of u) k in
      let same : Some s.sort ≡ Some Z = sym s.left_sorted ∙ z in
      let y = s.right_sorted ∙ same in
      subst (AreWellFormed defs specs) (sym (goals_are goals _ e))
      (all_formed (at_most u v ∷ at_most v u ∷ []) (
        two_formed defs specs (scope_of pure.context) f.AtMost u v Z Z tt z y refl s.left s.right,
        (two_formed defs specs (scope_of pure.context) f.AtMost v u Z Z tt y z refl s.right s.left, tt),
      ))
  halves_if u v false k s e = absurd (no_goals goals _ e)

  split_formed : (s : Saying) → said pure.target ≡ s → Ok goals ≡ goals_of pure.context (parts pure.target s) → AreWellFormed defs specs goals
  split_formed (Both a b) i e =
      subst (AreWellFormed defs specs) (sym (goals_are goals _ e)) (all_formed (conjuncts pure.target) (conjuncts_formed defs specs (scope_of pure.context) pure.target formed.target))
  split_formed (Equation u v) i e = halves_if u v (is_sort Z (sort_of u)) refl (sides_formed defs specs (scope_of pure.context) pure.target u v i formed.target) e
  split_formed s i e = absurd (no_goals goals _ e)

pub split_forms : KeepsForms SplitRow
split_forms defs specs (g.Run run) args goals formed given row = absurd (no_goals goals _ row)
split_forms defs specs (g.Entail entail) args goals formed given row = absurd (no_goals goals _ row)
split_forms defs specs (g.Pure pure) args goals formed given row = split_formed defs specs pure formed goals (said pure.target) refl row
