-- `cancel`: the parts of the target are those of the source, and what is left is in TT.
use Rattle.std.proofs.Common.{◌≡◌, ◌⊎◌, inl, inr, ℕ, ◌+◌, Bool, true, false, ◌&&◌, List, [], ◌∷◌, ◌++◌, Option, Some, None, Ok, All, refl, sym, ap₂, subst, ◌∙◌}
use Rattle.std.specs.Prelude.{if◌then◌else◌, bytes_eq, is_some}
use Rattle.std.specs.List.{AllByRecursion, list_any}
use Rattle.std.proofs.lemmas.List.Elements.{All-cons, All-nil}
use Rattle.std.proofs.lemmas.Option.{same_Some}
use Rattle.std.proofs.lemmas.Slice.Eq.{bytes_eq-Decides}
use Rattle.floyd_int.specs.declared.kinds.Value.{Value}
use Rattle.floyd_clight_heap.specs.Heaplet.{Heaplet, Joins, empty}
use Rattle.floyd_clight_heap.proofs.Sums.{assoc, comm, left_empty, one_sum, right_empty}
use Rattle.floyd_tree_sorts.specs.declared.connectives.FormulaHead.TheVariants.{Equal}
use Rattle.floyd_tree_sorts.specs.declared.sorts.Sort.{Val as ValSort}
use Rattle.floyd_tree.specs.Formulas.{PlainFormula, takes_all}
use Rattle.floyd_tree.specs.Plain.{Plain}
use Rattle.floyd_tree.specs.WellSorted.{with_first}
use Rattle.floyd_tree_values.specs.BuiltIns.{Env}
use Rattle.floyd_tree_values.specs.Data.{Val}
use Rattle.floyd_tree_values.specs.Means.{Means}
use Rattle.floyd_tree_values.specs.Rules.{Scope}
use Rattle.floyd_tree_values.proofs.OneValue.{one_value, split}
use Rattle.floyd_truth.specs.Truth.{AllTrue, Truth}
use Rattle.floyd_assert.specs.Removal.{Difference, Without}
use Rattle.floyd_assert_trees.specs.declared.assertion.Assertion.{Assertion}
use Rattle.floyd_assert_trees.specs.declared.assertion.Local.{Local}
use Rattle.floyd_assert_trees.specs.declared.items.Defs.{Defs}
use Rattle.floyd_assert_trees.specs.declared.sep.Sep.{Sep}
use Rattle.floyd_assert_trees.specs.declared.sep.Sep.TheVariants.{FieldAt, Padding, Valid, Anything, Predicate}
use Rattle.floyd_assert_trees.specs.declared.spec.SpecTable.{SpecTable}
use Rattle.floyd_assert_trees.specs.Meanings.{value_defs}
use Rattle.floyd_assert_meaning.specs.Assertions.{Holds, LocalsHold}
use Rattle.floyd_assert_meaning.specs.Parts.{PartsHold, anything}
use Rattle.floyd_assert_meaning.specs.Parts as part
use Rattle.floyd_assert_meaning.specs.Settings.{AreFor, Setting, with_data}
use Rattle.floyd_assert_meaning.proofs.Inversions.{more_of, none_of}
use Rattle.floyd_assert_meaning.proofs.Orders.{apart, turned}
use Rattle.floyd_goal.specs.Goals.{intros_first, some_left}
use Rattle.floyd_goal_formulas.specs.Fits.{Fits}
use Rattle.floyd_goal_trees.specs.Contexts.{scope_of}
use Rattle.floyd_goal_trees.specs.declared.goal.Entail as e
use Rattle.floyd_goal_trees.specs.declared.goal.Goal.{Goal}
use Rattle.floyd_goal_trees.specs.declared.goal.Goal.TheVariants.{Run, Entail, Pure}
use Rattle.floyd_goal_forms.specs.Assertions.{AssertionFits}
use Rattle.floyd_goal_forms.specs.Goals.{IsWellFormed}
use Rattle.floyd_goal_forms.specs.Terms.{FormulasFit, TermFits, scope_with}
use Rattle.floyd_goal_meaning.specs.GoalHolds.{HoldsFor}
use Rattle.floyd_goal_meaning.specs.Programs.{setting}
use Rattle.floyd_goal_parts.specs.Rows.{Answer}
use Rattle.floyd_goal_parts.specs.Writing.{all_written, equation}
use Rattle.floyd_entail_cancel.specs.Cancel.{IsSided, OfTarget, Row, TakesLocals, TakesParts, UnlessMissing, WhenDone, closed, equation_to, equations, exists_first, first_missing, is_anything, is_done, solid, value_of}
use Rattle.floyd_entail_soundness.proofs.Placing.{same_Ok}
use Rattle.floyd_entail_soundness.proofs.Sources.{of_result}
use Rattle.floyd_entail_soundness.proofs.UnderSides.{sides_answered, sides_hold}
use Rattle.floyd_entail_soundness.proofs.Validating.{no_more, passed}
use Rattle.floyd_entail_soundness.proofs.Written.{all_written_is}

-- ---- parts

module _ (S : Setting) (env : Env) where
  -- a part in front of the others
  taken : (p : Sep) (parts rest : List Sep) (h : Heaplet) → Without p parts rest → PartsHold S env parts h → PartsHold S env (p ∷ rest) h
  taken p [] rest h w m = absurd w
  taken p (q ∷ parts) rest h (inl w) m = subst (λ ps. PartsHold S env ps h) (ap₂ (λ a as'. a ∷ as') w.0 (sym w.1)) m
  taken p (q ∷ parts) rest h (inr w) m =
      let x = more_of m in
      let k = taken p parts w.1.0 x.others w.1.1 x.rest in
      subst (λ ps. PartsHold S env (p ∷ ps) h) (sym w.1.2) (turned S env q p w.1.0 h (part.more x.joins x.first k))

  -- the parts that are to go, before what is left
  gone_first : (gone parts rest : List Sep) (k : ℕ) (h : Heaplet) → Difference parts k gone (Ok rest) → PartsHold S env parts h → PartsHold S env (gone ++ rest) h
  gone_first [] parts rest k h d m = subst (λ ps. PartsHold S env ps h) (sym (same_Ok {A = List Sep} rest parts d)) m
  gone_first (p ∷ gone) parts rest k h (inl d) m =
      let x = more_of (taken p parts d.0 h d.1 m) in
      part.more x.joins x.first (gone_first gone d.0 rest (k + 1) x.others d.2 x.rest)
  gone_first (p ∷ gone) parts rest k h (inr d) m =
      let wrong = d.1 in
      absurd cc

  -- TT takes what there is besides
  absorbed : (ps : List Sep) (g k h : Heaplet) → Joins g k h → (list_any is_anything ps ≡ true) ⊎ (k ≡ empty) → PartsHold S env (solid ps) g → PartsHold S env ps h
  absorbed [] g k h j (inl t) m = absurd cc
  absorbed [] g k h j (inr t) m =
      let sum : Joins empty empty h = subst (λ x. Joins x empty h) (none_of m) (subst (λ x. Joins g x h) t j) in
      part.none (one_sum sum (left_empty empty))
  absorbed (Anything ∷ ps) g k h j t m = part.more (comm j) anything (absorbed ps g empty g (right_empty g) (inr refl) m)
  absorbed (FieldAt r v ∷ ps) g k h j t m =
      let x = more_of m in
      let a = assoc x.joins j in
      part.more a.2 x.first (absorbed ps x.others k a.0 a.1 t x.rest)
  absorbed (Padding r ∷ ps) g k h j t m =
      let x = more_of m in
      let a = assoc x.joins j in
      part.more a.2 x.first (absorbed ps x.others k a.0 a.1 t x.rest)
  absorbed (Valid u ∷ ps) g k h j t m =
      let x = more_of m in
      let a = assoc x.joins j in
      part.more a.2 x.first (absorbed ps x.others k a.0 a.1 t x.rest)
  absorbed (Predicate name terms ∷ ps) g k h j t m =
      let x = more_of m in
      let a = assoc x.joins j in
      part.more a.2 x.first (absorbed ps x.others k a.0 a.1 t x.rest)

  left_in : (rest target : List Sep) (k : Heaplet) → is_done rest target ≡ true → PartsHold S env rest k → (list_any is_anything target ≡ true) ⊎ (k ≡ empty)
  left_in [] target k d m = inr (none_of m)
  left_in (p ∷ rest) target k d m = inl d

  pub cancelled : (source target rest : List Sep) (h : Heaplet) → Difference source 1 (solid target) (Ok rest) → is_done rest target ≡ true → PartsHold S env source h → PartsHold S env target h
  cancelled source target rest h d done m =
      let a = apart S env (solid target) rest h (gone_first (solid target) source rest 1 h d m) in
      absorbed target a.0 a.1 h a.2 (left_in rest target a.1 done a.4) a.3

  -- ---- temporaries

  module _ (temps : List ℕ → Value) where
    value_means : (source : List Local) (x : List ℕ) (v : Plain) → value_of source x ≡ Some v → LocalsHold S.defs env temps source → Means S.defs env v (Val (temps x))
    value_means [] x v f h = absurd cc
    value_means (l ∷ source) x v f h = by (λ g. value_means source x v g h.1) (bytes_eq x l.name) refl f
      where
        by : (value_of source x ≡ Some v → Means S.defs env v (Val (temps x))) → (b : Bool) → bytes_eq x l.name ≡ b → (if b then Some l.term else value_of source x) ≡ Some v → Means S.defs env v (Val (temps x))
        by next true g i =
            let same : x ≡ l.name = (bytes_eq-Decides x l.name).0 g in
            subst (λ t. Means S.defs env t (Val (temps x))) (same_Some {A = Plain} l.term v i) (subst (λ y. Means S.defs env l.term (Val (temps y))) (sym same) h.0)
        by next false g i = next i

    one_local : (v t : Plain) (w : Value) → Means S.defs env v (Val w) → Truth S.defs S.has_spec env (equation v t) → Means S.defs env t (Val w)
    one_local v t w m (d, mean) =
        let a = split mean in
        let b = split a.rest in
        let first : a.datum ≡ d = (let x = a.is in cc) in
        let second : b.datum ≡ d = (let x = a.is in let y = b.is in cc) in
        let same : d ≡ Val w = one_value S.defs (subst (Means S.defs env v) first a.first) (Val w) m in
        subst (Means S.defs env t) (second ∙ same) b.first

    -- the temporaries of the target have its values
    pub locals_go : (source target : List Local) → first_missing source target ≡ None → AllTrue S.defs S.has_spec env (equations source target) → LocalsHold S.defs env temps source → LocalsHold S.defs env temps target
    locals_go source [] f t h = tt
    locals_go source (l ∷ target) f t h = by (λ g k. locals_go source target g k h) (value_of source l.name) refl f t
      where
        by : (first_missing source target ≡ None → AllTrue S.defs S.has_spec env (equations source target) → LocalsHold S.defs env temps target) → (o : Option Plain) → value_of source l.name ≡ o →
            (if is_some o then first_missing source target else Some l.name) ≡ None → AllTrue S.defs S.has_spec env (equation_to o l.term ++ equations source target) → LocalsHold S.defs env temps (l ∷ target)
        by next None g i k = absurd cc
        by next (Some v) g i k = (one_local v l.term (temps l.name) (value_means source l.name v g h) k.0, next i k.1)

  pub parts_of_true : (fs gs : List PlainFormula) → AllTrue S.defs S.has_spec env (fs ++ gs) → AllTrue S.defs S.has_spec env fs × AllTrue S.defs S.has_spec env gs
  parts_of_true [] gs h = (tt, h)
  parts_of_true (f ∷ fs) gs h =
      let p = parts_of_true fs gs h.1 in
      ((h.0, p.0), p.1)

  -- an assertion without existentials holds where its PROP, LOCAL and SEP do
  pub holds_alone : (a : Assertion) (temps : List ℕ → Value) (h : Heaplet) → a.existentials ≡ [] → AllTrue S.defs S.has_spec env a.props → LocalsHold S.defs env temps a.locals → PartsHold S env a.parts h → Holds S env a temps h
  holds_alone a temps h none p l m = record {
    witnesses = [];
    sorted = subst (λ bs. AreFor bs []) (sym none) tt;
    props = subst (λ bs. AllTrue S.defs S.has_spec (with_data env bs []) a.props) (sym none) p;
    locals = subst (λ bs. LocalsHold S.defs (with_data env bs []) temps a.locals) (sym none) l;
    parts = subst (λ bs. PartsHold S (with_data env bs []) a.parts h) (sym none) m;
  }

-- ---- side formulas

module _ (defs : Defs) (scope : Scope) where
  abbrev FitsVal : Local → Type 0
  FitsVal l = TermFits defs scope ValSort l.term

  value_fits : (source : List Local) (x : List ℕ) (v : Plain) → AllByRecursion FitsVal source → value_of source x ≡ Some v → TermFits defs scope ValSort v
  value_fits [] x v h f = absurd cc
  value_fits (l ∷ source) x v h f = by (value_fits source x v h.1) (bytes_eq x l.name) f
    where
      by : (value_of source x ≡ Some v → TermFits defs scope ValSort v) → (b : Bool) → (if b then Some l.term else value_of source x) ≡ Some v → TermFits defs scope ValSort v
      by next true g = subst (TermFits defs scope ValSort) (same_Some {A = Plain} l.term v g) h.0
      by next false g = next g

  equation_fits : (v t : Plain) → TermFits defs scope ValSort v → TermFits defs scope ValSort t → Fits (value_defs defs) scope (equation v t)
  equation_fits v t h k = record {
    sorted = ap₂ (λ a b. takes_all Equal (with_first a (with_first b (Some []))) 0 && true) h.fits.sorted k.fits.sorted;
    allowed = ((h.fits.allowed, (k.fits.allowed, tt)), tt);
  }

  equations_fit : (source target : List Local) → AllByRecursion FitsVal source → AllByRecursion FitsVal target → All (Fits (value_defs defs) scope) (equations source target)
  equations_fit source [] h k = All-nil (Fits (value_defs defs) scope)
  equations_fit source (l ∷ target) h k = by (equations_fit source target h k.1) (value_of source l.name) refl
    where
      by : All (Fits (value_defs defs) scope) (equations source target) → (o : Option Plain) → value_of source l.name ≡ o → All (Fits (value_defs defs) scope) (equation_to o l.term ++ equations source target)
      by rest None f = rest
      by rest (Some v) f = All-cons (Fits (value_defs defs) scope) (equation v l.term) (equations source target) (equation_fits v l.term (value_fits source l.name v h f) k.0) rest

  all_fit : (specs : SpecTable) (fs gs : List PlainFormula) → FormulasFit defs specs scope fs → All (Fits (value_defs defs) scope) gs → All (Fits (value_defs defs) scope) (fs ++ gs)
  all_fit specs [] gs h k = k
  all_fit specs (f ∷ fs) gs h k = All-cons (Fits (value_defs defs) scope) f (fs ++ gs) h.0.fits (all_fit specs fs gs h.1 k)

-- among the variables of the goal
module _ (defs : Defs) (specs : SpecTable) (scope : Scope) (a : Assertion) (none : a.existentials ≡ []) (h : AssertionFits defs specs scope a) where
  locals_fit : AllByRecursion (FitsVal defs scope) a.locals
  locals_fit = subst (λ bs. AllByRecursion (FitsVal defs (scope_with bs ++ scope)) a.locals) none h.locals

  props_fit : FormulasFit defs specs scope a.props
  props_fit = subst (λ bs. FormulasFit defs specs (scope_with bs ++ scope) a.props) none h.props

-- ---- the command

no_missing : (o : Option (List ℕ)) (Next : Answer → Type 0) (goals : List Goal) → UnlessMissing o Next (Ok goals) → (o ≡ None) × Next (Ok goals)
no_missing None Next goals h = (refl, h)
no_missing (Some x) Next goals h = absurd cc

-- what is left where the command closes the goal
record Taken (entail : e.Entail) (goals : List Goal) : Type 0 where
  pub rest : List Sep
  pub difference : Difference entail.source.parts 1 (solid entail.target.parts) (Ok rest)
  pub done : is_done rest entail.target.parts ≡ true
  pub sided : IsSided entail.context entail.target.props (equations entail.source.locals entail.target.locals) (Ok goals)

closes : (entail : e.Entail) (goals : List Goal) → TakesParts entail (Ok goals) → Taken entail goals
closes entail goals (inr t) =
    let wrong = t.2 in
    absurd cc
closes entail goals (inl t) = by (is_done t.0 entail.target.parts) refl t.2
  where
    by : (b : Bool) → is_done t.0 entail.target.parts ≡ b → WhenDone entail b (Ok goals) → Taken entail goals
    by true f g =
        let w = of_result (all_written (equations entail.source.locals entail.target.locals)) (IsSided entail.context entail.target.props) goals g in
        record {
          rest = t.0;
          difference = t.1;
          done = f;
          sided = subst (λ fs. IsSided entail.context entail.target.props fs (Ok goals)) (sym (all_written_is (equations entail.source.locals entail.target.locals) w.0 w.1)) w.2;
        }
    by false f g =
        let wrong = g.2 in
        absurd cc

entail_sound : (defs : Defs) (specs : SpecTable) (n : ℕ) (entail : e.Entail) (goals : List Goal) → IsWellFormed defs specs (Entail entail) → Row (Entail entail) (Ok goals) → AllByRecursion (HoldsFor defs specs n) goals → HoldsFor defs specs n (Entail entail)
entail_sound defs specs n entail goals formed row h =
    let source = entail.source in
    let target = entail.target in
    let scope = scope_of entail.context in
    let p = passed (some_left source.existentials) intros_first (OfTarget entail) goals row in
    let q = passed (some_left target.existentials) exists_first (TakesLocals entail) goals p.1 in
    let r = no_missing (first_missing source.locals target.locals) (TakesParts entail) goals q.1 in
    let t = closes entail goals r.1 in
    let none = no_more source p.0 in
    let no = no_more target q.0 in
    let eqs = equations source.locals target.locals in
    let fit = all_fit defs scope specs target.props eqs (props_fit defs specs scope target no formed.target) (equations_fit defs scope source.locals target.locals (locals_fit defs specs scope source none formed.source) (locals_fit defs specs scope target no formed.target)) in
    let answered = sides_answered entail.context (target.props ++ eqs) closed goals t.sided in
    let hold = sides_hold defs specs n entail.context (target.props ++ eqs) closed goals fit answered h in
    record {
      in_each = λ L more place has apart lemmas env given temps m x.
          let S = setting L more place in
          let sides = parts_of_true S env target.props eqs (hold.0 L more place has apart lemmas env given).0 in
          let locals = subst (λ bs. LocalsHold S.defs (with_data env bs x.witnesses) temps source.locals) none x.locals in
          let parts = subst (λ bs. PartsHold S (with_data env bs x.witnesses) source.parts m) none x.parts in
          holds_alone S env target temps m no sides.0 (locals_go S env temps source.locals target.locals r.0 sides.1 locals) (cancelled S env source.parts target.parts t.rest m t.difference t.done parts);
    }

pub cancel_sound : (defs : Defs) (specs : SpecTable) (n : ℕ) (goal : Goal) (goals : List Goal) → IsWellFormed defs specs goal → Row goal (Ok goals) → AllByRecursion (HoldsFor defs specs n) goals → HoldsFor defs specs n goal
cancel_sound defs specs n (Run run) goals formed row h = absurd cc
cancel_sound defs specs n (Pure pure) goals formed row h = absurd cc
cancel_sound defs specs n (Entail entail) goals formed row h = entail_sound defs specs n entail goals formed row h
