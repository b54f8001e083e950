-- `split_share` and `join_share`.
use Rattle.std.proofs.Common.{◌≡◌, inl, inr, ℕ, true, ℤ, pos, ◌+ℤ◌, ◌-ℤ◌, List, [], ◌∷◌, Result, Ok, Err, All, refl, sym, ap, subst, ◌∙◌}
use Rattle.std.specs.Prelude.{int_le}
use Rattle.std.specs.List.{AllByRecursion}
use Rattle.std.proofs.lemmas.List.Elements.{All-cons, All-nil}
use Rattle.floyd_text.specs.declared.refusal.No.{No}
use Rattle.floyd_clight_heap.specs.Heaplet.{Heaplet, Joins}
use Rattle.floyd_clight_heap.proofs.Sums.{right_empty}
use Rattle.floyd_tree_sorts.specs.declared.operators.Operator.TheVariants.{Sub}
use Rattle.floyd_tree_sorts.specs.declared.sorts.Sort.{Z}
use Rattle.floyd_tree.specs.Formulas.{PlainFormula}
use Rattle.floyd_tree.specs.Plain.{Plain}
use Rattle.floyd_tree_values.specs.BuiltIns.{Env}
use Rattle.floyd_tree_values.specs.Data.{Datum, Number}
use Rattle.floyd_tree_values.specs.Means.{Means}
use Rattle.floyd_tree_values.specs.Rules.{CallsOf, Scope}
use Rattle.floyd_tree_values.proofs.OneValue.{one_value}
use Rattle.floyd_truth.specs.Truth.{AllTrue}
use Rattle.floyd_assert_cells.specs.Cells.{Cells, Padding as PaddingCells}
use Rattle.floyd_assert_cells.specs.Laws.{Sum}
use Rattle.floyd_assert_trees.specs.declared.items.Defs.{Defs}
use Rattle.floyd_assert_trees.specs.declared.sep.Region.{Region}
use Rattle.floyd_assert_trees.specs.declared.sep.Sep.{Sep}
use Rattle.floyd_assert_trees.specs.declared.sep.Sep.TheVariants.{FieldAt, Padding, Valid, Anything, Predicate}
use Rattle.floyd_assert_trees.specs.declared.spec.SpecTable.{SpecTable}
use Rattle.floyd_assert_trees.specs.Meanings.{value_defs}
use Rattle.floyd_assert_meaning.specs.Parts.{PartHolds, PartsHold, gap, object}
use Rattle.floyd_assert_meaning.specs.Parts as part
use Rattle.floyd_assert_meaning.specs.Settings.{Setting}
use Rattle.floyd_assert_meaning.proofs.Inversions.{gap_of, object_of}
use Rattle.floyd_fieldpath.specs.Nested.{literal}
use Rattle.floyd_fieldpath.specs.Sums.{plus}
use Rattle.floyd_fieldpath_laws.proofs.AddressMeanings.{answered}
use Rattle.floyd_fieldpath_laws.proofs.Meanings.{literal_means, on_ok_is, plus_means}
use Rattle.floyd_fieldpath_laws.proofs.SortedAddresses.{plus_sort}
use Rattle.floyd_folding.specs.Folding.{folded}
use Rattle.floyd_goal_formulas.specs.Fits.{Fits}
use Rattle.floyd_goal_trees.specs.Contexts.{context_of, scope_of}
use Rattle.floyd_goal_trees.specs.declared.args.Args.{Args}
use Rattle.floyd_goal_trees.specs.declared.context.Context.{Context}
use Rattle.floyd_goal_trees.specs.declared.goal.Goal.{Goal}
use Rattle.floyd_goal_forms.specs.Assertions.{PartFits, PredicatesOf}
use Rattle.floyd_goal_forms.specs.Goals.{IsWellFormed}
use Rattle.floyd_goal_forms.specs.Terms.{TermFits}
use Rattle.floyd_goal_meaning.specs.GoalHolds.{HoldsFor}
use Rattle.floyd_goal_meaning.specs.Programs.{setting}
use Rattle.floyd_goal_parts.specs.declared.placing.Plan.{Plan}
use Rattle.floyd_goal_parts.specs.Rows.{Sided}
use Rattle.floyd_goal_parts.specs.Sources.{part_number}
use Rattle.floyd_goal_parts.specs.Writing.{at_most}
use Rattle.floyd_goal_plans.specs.Joining.{IsJoinedUnder, joined_under, pair_of, two_of}
use Rattle.floyd_goal_plans.specs.Plans.{planned}
use Rattle.floyd_shares.specs.Chains.{After, Then}
use Rattle.floyd_shares.specs.JoinShare as join
use Rattle.floyd_shares.specs.Shares.{share_of, shared, with_share}
use Rattle.floyd_shares.specs.SplitShare as split
use Rattle.floyd_entail_soundness.proofs.Placing.{of_number, same_Ok}
use Rattle.floyd_entail_soundness.proofs.Sources.{parts_fit}
use Rattle.floyd_entail_soundness.proofs.UnderSides.{KeepsUnder, under_sound}
use Rattle.floyd_entail_soundness.proofs.Written.{all_written_is}
use Rattle.floyd_shares_soundness.specs.Numbers.{FirstIsNumber}
use Rattle.floyd_shares_soundness.proofs.InShares.{AtRegion, join_shares, objects_shared, padding_shared, split_shares}
use Rattle.floyd_shares_soundness.proofs.Joining.{OneOfTwo, join_under, two_found}
use Rattle.floyd_shares_soundness.proofs.Numbers.{at_most_fits, bound_of, bound_says, difference_means, sum_good}

-- ---- parts

-- a part that has a share, and what it is with any share
module _ (S : Setting) (env : Env) where
  abbrev Objects : Datum → Region → Heaplet → Type 0
  Objects d r h = AtRegion (λ s t b o k. Cells S.defs.structs s t d b o k) S.defs env r h

  abbrev Gaps : Region → Heaplet → Type 0
  Gaps r h = AtRegion (λ s t b o k. PaddingCells S.defs.structs s t b o k) S.defs env r h

  object_at : (r : Region) (v : Plain) (d : Datum) (h : Heaplet) → Means S.defs env v d → Objects d r h → PartHolds S env (FieldAt r v) h
  object_at r v d h means (m, part) = object (m, d, means, part)

  two_parts : (p q : Sep) (h : Heaplet) → Sum (PartHolds S env p) (PartHolds S env q) h → PartsHold S env (p ∷ q ∷ []) h
  two_parts p q h (a, b, j, m, n) = part.more j m (part.more (right_empty b) n (part.none refl))

  -- in two shares
  pub in_two : (p : Sep) (share a b : Plain) (n : ℤ) (h : Heaplet) → share_of p ≡ Ok share → Means S.defs env a (Number n) → ((s : ℤ) → Means S.defs env share (Number s) → Means S.defs env b (Number (s -ℤ n)) × (int_le (pos 1) n ≡ true) × (int_le (n +ℤ pos 1) s ≡ true)) →
      PartHolds S env p h → PartsHold S env (with_share p a ∷ with_share p b ∷ []) h
  in_two (FieldAt r v) share a b n h e means f holds =
      let o = object_of holds in
      let same : r.share ≡ share = same_Ok {A = Plain} r.share share e in
      let c = split_shares (λ s t i j k. Cells S.defs.structs s t o.1 i j k) (objects_shared S.defs.structs o.1) S.defs env r a b n h means (λ s m. f s (subst (λ t. Means S.defs env t (Number s)) same m)) (o.0, o.3) in
      two_parts (FieldAt (shared r a) v) (FieldAt (shared r b) v) h (c.0, c.1, c.2, object_at (shared r a) v o.1 c.0 o.2 c.3, object_at (shared r b) v o.1 c.1 o.2 c.4)
  in_two (Padding r) share a b n h e means f holds =
      let o = gap_of holds in
      let same : r.share ≡ share = same_Ok {A = Plain} r.share share e in
      let c = split_shares (λ s t i j k. PaddingCells S.defs.structs s t i j k) (padding_shared S.defs.structs) S.defs env r a b n h means (λ s m. f s (subst (λ t. Means S.defs env t (Number s)) same m)) o in
      two_parts (Padding (shared r a)) (Padding (shared r b)) h (c.0, c.1, c.2, gap c.3, gap c.4)
  in_two (Valid t) share a b n h e means f holds = absurd cc
  in_two Anything share a b n h e means f holds = absurd cc
  in_two (Predicate name terms) share a b n h e means f holds = absurd cc

  -- in one
  pub in_one : (q : Sep) (a b s : Plain) (g e h : Heaplet) → share_of q ≡ Ok b → Joins g e h → ((x y : ℤ) → Means S.defs env a (Number x) → Means S.defs env b (Number y) → Means S.defs env s (Number (x +ℤ y)) × (int_le (x +ℤ y) (pos 16) ≡ true)) →
      PartHolds S env (with_share q a) g → PartHolds S env q e → PartHolds S env (with_share q s) h
  in_one (FieldAt r v) a b s g e h is j f holds more =
      let o = object_of holds in
      let c = object_of more in
      let same : r.share ≡ b = same_Ok {A = Plain} r.share b is in
      let one : c.1 ≡ o.1 = one_value S.defs c.2 o.1 o.2 in
      let here : Objects o.1 r e = subst (λ d. Objects d r e) one (c.0, c.3) in
      object_at (shared r s) v o.1 h o.2 (join_shares (λ z t i k l. Cells S.defs.structs z t o.1 i k l) (objects_shared S.defs.structs o.1) S.defs env r a r.share s g e h j (λ x y m n. f x y m (subst (λ t. Means S.defs env t (Number y)) same n)) (o.0, o.3) here)
  in_one (Padding r) a b s g e h is j f holds more =
      let same : r.share ≡ b = same_Ok {A = Plain} r.share b is in
      gap (join_shares (λ z t i k l. PaddingCells S.defs.structs z t i k l) (padding_shared S.defs.structs) S.defs env r a r.share s g e h j (λ x y m n. f x y m (subst (λ t. Means S.defs env t (Number y)) same n)) (gap_of holds) (gap_of more))
  in_one (Valid t) a b s g e h is j f holds more = absurd cc
  in_one Anything a b s g e h is j f holds more = absurd cc
  in_one (Predicate name terms) a b s g e h is j f holds more = absurd cc

-- the share of a well-formed part is a well-formed number
share_fits : (defs : Defs) (scope : Scope) (p : Sep) (share : Plain) → PartFits defs scope (PredicatesOf defs scope) p → share_of p ≡ Ok share → TermFits defs scope Z share
share_fits defs scope (FieldAt r v) share f e = subst (TermFits defs scope Z) (same_Ok {A = Plain} r.share share e) f.region.share
share_fits defs scope (Padding r) share f e = subst (TermFits defs scope Z) (same_Ok {A = Plain} r.share share e) f.0.share
share_fits defs scope (Valid t) share f e = absurd cc
share_fits defs scope Anything share f e = absurd cc
share_fits defs scope (Predicate name terms) share f e = absurd cc

-- ---- `split_share`

-- what is planned for a part
record Planned (s : Plain) (p : Sep) (plan : Plan) : Type 0 where
  pub share : Plain
  pub share_is : share_of p ≡ Ok share
  pub next : Plain
  pub next_is : plus s (literal (pos 1)) ≡ Ok next
  pub rest : Plain
  pub rest_is : folded Sub share s ≡ Ok rest
  pub sides : at_most (literal (pos 1)) s ∷ at_most next share ∷ [] ≡ plan.sides
  pub new : with_share p s ∷ with_share p rest ∷ [] ≡ plan.new

both_planned : (fs : Result (List PlainFormula) No) (ps : Result (List Sep) No) (plan : Plan) → planned fs ps ≡ Ok plan → (fs ≡ Ok plan.sides) × (ps ≡ Ok plan.new)
both_planned (Err why) ps plan e = absurd cc
both_planned (Ok fs) (Err why) plan e = absurd cc
both_planned (Ok fs) (Ok ps) plan e =
    let same = same_Ok {A = Plan} (record { sides = fs; new = ps }) plan e in
    (ap (λ (x : Plan). Ok x.sides) same, ap (λ (x : Plan). Ok x.new) same)

plan_of : (s : Plain) (p : Sep) (plan : Plan) → split.split_part p s ≡ Ok plan → Planned s p plan
plan_of s p plan made =
    let a = on_ok_is (share_of p) (split.with_shares s p) plan made in
    let b = both_planned (split.bounds s a.0) (split.halves p s a.0) plan a.2 in
    let c = on_ok_is (plus s (literal (pos 1))) (split.between (literal (pos 1)) s a.0) plan.sides b.0 in
    let d = on_ok_is (folded Sub a.0 s) (split.both_shares p s) plan.new b.1 in
    record {
      share = a.0;
      share_is = a.1;
      next = c.0;
      next_is = c.1;
      rest = d.0;
      rest_is = d.1;
      sides = all_written_is (at_most (literal (pos 1)) s ∷ at_most c.0 a.0 ∷ []) plan.sides c.2;
      new = same_Ok {A = List Sep} (with_share p s ∷ with_share p d.0 ∷ []) plan.new d.2;
    }

module _ (defs : Defs) (scope : Scope) (s : Plain) (number : TermFits defs scope Z s) where
  sides_fit : (p : Sep) (plan : Plan) → PartFits defs scope (PredicatesOf defs scope) p → Planned s p plan → All (Fits (value_defs defs) scope) plan.sides
  sides_fit p plan f k =
      let share = share_fits defs scope p k.share f k.share_is in
      let next = answered Z (plus s (literal (pos 1))) k.next (plus_sort s (literal (pos 1)) number.fits.sorted refl) k.next_is in
      let good = sum_good defs.structs scope (CallsOf (value_defs defs).funs) s (literal (pos 1)) k.next number.fits.allowed (tt, tt) k.next_is in
      subst (All (Fits (value_defs defs) scope)) k.sides
      (All-cons (Fits (value_defs defs) scope) (at_most (literal (pos 1)) s) (at_most k.next k.share ∷ []) (at_most_fits (value_defs defs) scope (literal (pos 1)) s refl number.fits.sorted (tt, tt) number.fits.allowed)
      (All-cons (Fits (value_defs defs) scope) (at_most k.next k.share) [] (at_most_fits (value_defs defs) scope k.next k.share next share.fits.sorted good share.fits.allowed) (All-nil (Fits (value_defs defs) scope))))

  split_holds : (S : Setting) (env : Env) (p : Sep) (plan : Plan) (h : Heaplet) → PartFits defs scope (PredicatesOf defs scope) p → Planned s p plan → AllTrue S.defs S.has_spec env plan.sides → PartHolds S env p h → PartsHold S env plan.new h
  split_holds S env p plan h f k sides holds =
      let t : AllTrue S.defs S.has_spec env (at_most (literal (pos 1)) s ∷ at_most k.next k.share ∷ []) = subst (AllTrue S.defs S.has_spec env) (sym k.sides) sides in
      let low = bound_of S.defs env S.has_spec (literal (pos 1)) s t.0 in
      let n = low.1 in
      let some = bound_says S.defs env S.has_spec (literal (pos 1)) s (pos 1) n (literal_means S.defs env (pos 1)) low.3 t.0 in
      let next : Means S.defs env k.next (Number (n +ℤ pos 1)) = plus_means S.defs env s (literal (pos 1)) k.next n (pos 1) number.fits.sorted refl low.3 (literal_means S.defs env (pos 1)) k.next_is in
      let share = share_fits defs scope p k.share f k.share_is in
      subst (λ ps. PartsHold S env ps h) k.new
      (in_two S env p k.share s k.rest n h k.share_is low.3
      (λ z m. (difference_means S.defs env k.share s k.rest z n share.fits.sorted number.fits.sorted m low.3 k.rest_is, some, bound_says S.defs env S.has_spec k.next k.share (n +ℤ pos 1) z next m t.1.0)) holds)

split_keeps : (defs : Defs) (specs : SpecTable) (context : Context) (terms : List Plain) → FirstIsNumber defs (scope_of context) terms → KeepsUnder defs specs context (split.split terms)
split_keeps defs specs context [] number = record {
  fit = λ p plan f made. absurd cc;
  keeps = λ L more place has p plan f made env h sides holds. absurd cc;
}
split_keeps defs specs context (s ∷ terms) number = record {
  fit = λ p plan f made. sides_fit defs (scope_of context) s number p plan f (plan_of s p plan made);
  keeps = λ L more place has p plan f made env h sides holds. split_holds defs (scope_of context) s number (setting L more place) env p plan h f (plan_of s p plan made) sides holds;
}

pub split_sound : (defs : Defs) (specs : SpecTable) (n : ℕ) (goal : Goal) (args : Args) (goals : List Goal) → IsWellFormed defs specs goal → FirstIsNumber defs (scope_of (context_of goal)) args.terms → split.Row goal args (Ok goals) → AllByRecursion (HoldsFor defs specs n) goals → HoldsFor defs specs n goal
split_sound defs specs n goal args goals formed number row h = under_sound defs specs n goal (part_number args.target) (split.split args.terms) goals formed (split_keeps defs specs (context_of goal) args.terms number) row h

-- ---- `join_share`

-- what is behind a step
pub then_is : {A B : Type 0} (r : Result A No) (Next : A → Result B No → Type 0) (b : B) → Then r Next (Ok b) → (a : A) × (r ≡ Ok a) × Next a (Ok b)
then_is (Ok a) Next b h = (a, refl, h)
then_is (Err why) Next b h = absurd cc

pub after_is : {A B : Type 0} (Right : Result A No → Type 0) (Next : A → Result B No → Type 0) (b : B) → After Right Next (Ok b) → (a : A) × Right (Ok a) × Next a (Ok b)
after_is Right Next b (Ok a, right, h) = (a, right, h)
after_is Right Next b (Err why, right, h) = absurd cc

-- the plan for two parts
record Joined (p q : Sep) (plan : Plan) : Type 0 where
  pub a : Plain
  pub a_is : share_of p ≡ Ok a
  pub b : Plain
  pub b_is : share_of q ≡ Ok b
  pub same : with_share q a ≡ p
  pub sum : Plain
  pub sum_is : plus a b ≡ Ok sum
  pub plan_is : record { sides = at_most sum (literal (pos 16)) ∷ []; new = with_share p sum ∷ [] } ≡ plan

joined_plan : (p q : Sep) (plan : Plan) → join.IsPlan p q (Ok plan) → Joined p q plan
joined_plan p q plan h =
    let x = then_is (share_of p) (join.WithShare p q) plan h in
    let y = then_is (share_of q) (join.OfShares p q x.0) plan x.2 in
    by x.0 x.1 y.0 y.1 y.2
  where
    by : (a : Plain) → share_of p ≡ Ok a → (b : Plain) → share_of q ≡ Ok b → join.OfShares p q a b (Ok plan) → Joined p q plan
    by a e b f (inr k) =
        let wrong = k.1 in
        absurd cc
    by a e b f (inl k) =
        let u = on_ok_is (plus a b) (join.of_sum p) plan (sym k.1) in
        let v = on_ok_is (join.at_most_whole u.0) (join.with_sum p u.0) plan u.2 in
        let sides = all_written_is (at_most u.0 (literal (pos 16)) ∷ []) v.0 v.1 in
        record {
          a = a;
          a_is = e;
          b = b;
          b_is = f;
          same = k.0;
          sum = u.0;
          sum_is = u.1;
          plan_is = ap (λ fs. record { sides = fs; new = with_share p u.0 ∷ [] }) sides ∙ same_Ok {A = Plan} (record { sides = v.0; new = with_share p u.0 ∷ [] }) plan v.2;
        }

with_shares : (q : Sep) (a s : Plain) → with_share (with_share q a) s ≡ with_share q s
with_shares (FieldAt r v) a s = refl
with_shares (Padding r) a s = refl
with_shares (Valid t) a s = refl
with_shares Anything a s = refl
with_shares (Predicate name terms) a s = refl

module _ (defs : Defs) (specs : SpecTable) (scope : Scope) (p q : Sep) (f : PartFits defs scope (PredicatesOf defs scope) p) (g : PartFits defs scope (PredicatesOf defs scope) q) (plan : Plan) (k : Joined p q plan) where
  abbrev sides : List PlainFormula
  sides = at_most k.sum (literal (pos 16)) ∷ []

  bound_fit : All (Fits (value_defs defs) scope) (at_most k.sum (literal (pos 16)) ∷ [])
  bound_fit =
      let a = share_fits defs scope p k.a f k.a_is in
      let b = share_fits defs scope q k.b g k.b_is in
      let sorted = answered Z (plus k.a k.b) k.sum (plus_sort k.a k.b a.fits.sorted b.fits.sorted) k.sum_is in
      let good = sum_good defs.structs scope (CallsOf (value_defs defs).funs) k.a k.b k.sum a.fits.allowed b.fits.allowed k.sum_is in
      All-cons (Fits (value_defs defs) scope) (at_most k.sum (literal (pos 16))) [] (at_most_fits (value_defs defs) scope k.sum (literal (pos 16)) sorted refl good (tt, tt)) (All-nil (Fits (value_defs defs) scope))

  one_of_two : OneOfTwo defs specs scope (at_most k.sum (literal (pos 16)) ∷ []) p q (with_share p k.sum)
  one_of_two L more place has env suits t x y h j first second =
      let S = setting L more place in
      let a = share_fits defs scope p k.a f k.a_is in
      let b = share_fits defs scope q k.b g k.b_is in
      let whole : PartHolds S env (with_share q k.sum) h = in_one S env q k.a k.b k.sum x y h k.b_is j
      (λ u v m n.
      let sum = plus_means S.defs env k.a k.b k.sum u v a.fits.sorted b.fits.sorted m n k.sum_is in
      (sum, bound_says S.defs env S.has_spec k.sum (literal (pos 16)) (u +ℤ v) (pos 16) sum (literal_means S.defs env (pos 16)) t.0))
      (subst (λ s. PartHolds S env s x) (sym k.same) first) second in
      subst (λ s. PartHolds S env s h) (sym (with_shares q k.a k.sum) ∙ ap (λ s. with_share s k.sum) k.same) whole

pub join_sound : (defs : Defs) (specs : SpecTable) (n : ℕ) (goal : Goal) (args : Args) (goals : List Goal) → IsWellFormed defs specs goal → join.Row goal args (Ok goals) → AllByRecursion (HoldsFor defs specs n) goals → HoldsFor defs specs n goal
join_sound defs specs n goal args goals formed row h =
    let pair = pair_of args in
    let found = then_is (two_of goal pair) (join.OfTwo goal pair) goals row in
    let source = found.0.0 in
    let p = found.0.1 in
    let q = found.0.2 in
    let made = after_is (join.IsPlan p q) (IsJoinedUnder goal pair source) goals found.2 in
    let k = joined_plan p q made.0 made.1 in
    let two = two_found goal pair source p q found.1 in
    let scope = scope_of (context_of goal) in
    let fits = parts_fit defs specs goal source two.source_is formed in
    let f = of_number (PartFits defs scope (PredicatesOf defs scope)) pair.first source.parts p two.first_is fits in
    let g = of_number (PartFits defs scope (PredicatesOf defs scope)) pair.second source.parts q two.second_is fits in
    let sided : Sided (context_of goal) (at_most k.sum (literal (pos 16)) ∷ []) (joined_under goal pair source (with_share p k.sum ∷ [])) (Ok goals) =
    subst (λ (x : Plan). Sided (context_of goal) x.sides (joined_under goal pair source x.new) (Ok goals)) (sym k.plan_is) made.2 in
    join_under defs specs n goal pair source p q (with_share p k.sum) (at_most k.sum (literal (pos 16)) ∷ []) goals two (bound_fit defs specs scope p q f g made.0 k) (one_of_two defs specs scope p q f g made.0 k) sided h
