-- The goals of `split_share` and of `join_share` are well formed.
use Rattle.std.proofs.Common.{◌≡◌, inl, inr, List, [], ◌∷◌, Result, Ok, Err, refl, sym, ap, subst, pos}
use Rattle.std.specs.List.{AllByRecursion}
use Rattle.floyd_text.specs.declared.refusal.No.{No}
use Rattle.floyd_tree_sorts.specs.declared.operators.Operator.TheVariants.{Sub}
use Rattle.floyd_tree_sorts.specs.declared.sorts.Sort.{Z}
use Rattle.floyd_tree.specs.Formulas.{PlainFormula}
use Rattle.floyd_tree.specs.Plain.{Plain}
use Rattle.floyd_tree_values.specs.Rules.{Scope}
use Rattle.floyd_assert_trees.specs.declared.items.Defs.{Defs}
use Rattle.floyd_assert_trees.specs.declared.sep.Sep.{Sep}
use Rattle.floyd_assert_trees.specs.declared.sep.Sep.TheVariants.{FieldAt, Padding, Valid, Anything, Predicate}
use Rattle.floyd_assert_trees.specs.declared.spec.SpecTable.{SpecTable}
use Rattle.floyd_fieldpath.specs.Nested.{literal}
use Rattle.floyd_fieldpath.specs.Sums.{plus}
use Rattle.floyd_fieldpath_laws.proofs.Meanings.{on_ok_is}
use Rattle.floyd_folding.specs.Folding.{folded}
use Rattle.floyd_goal_trees.specs.Contexts.{context_of, scope_of}
use Rattle.floyd_goal_trees.specs.declared.args.Args.{Args}
use Rattle.floyd_goal_trees.specs.declared.goal.Goal.{Goal}
use Rattle.floyd_goal_forms.specs.Assertions.{PartFits, PartsFit, PredicatesOf}
use Rattle.floyd_goal_forms.specs.Goals.{IsWellFormed}
use Rattle.floyd_goal_forms.specs.Terms.{FormulasFit, TermFits}
use Rattle.floyd_goal_parts.specs.declared.placing.Plan.{Plan}
use Rattle.floyd_goal_parts.specs.Sources.{part_number}
use Rattle.floyd_goal_parts.specs.Writing.{at_most}
use Rattle.floyd_goal_plans.specs.Joining.{IsJoinedUnder, pair_of, two_of}
use Rattle.floyd_goal_plans.specs.Plans.{planned}
use Rattle.floyd_shares.specs.JoinShare as join
use Rattle.floyd_shares.specs.Shares.{share_of, with_share}
use Rattle.floyd_shares.specs.SplitShare as split
use Rattle.floyd_entail_soundness.proofs.Placing.{of_number, same_Ok}
use Rattle.floyd_entail_soundness.proofs.Sources.{parts_fit}
use Rattle.floyd_entail_soundness.proofs.Written.{all_written_is}
use Rattle.floyd_shares_soundness.specs.Numbers.{FirstIsNumber}
use Rattle.floyd_shares_soundness.proofs.Joining.{two_found}
use Rattle.floyd_shares_soundness.proofs.Sharing.{after_is, then_is}
use Rattle.floyd_formed_pure.specs.Rows.{AreWellFormed}
use Rattle.floyd_formed_shares.proofs.Numbers.{at_most_fits, less_fits, literal_fits, plus_fits}
use Rattle.floyd_formed_shares.proofs.Placed.{IsPlanned, join_under_formed, under_formed}

-- what a plan is made of
pub both_planned : (fs : Result (List PlainFormula) No) (ps : Result (List Sep) No) (plan : Plan) → planned fs ps ≡ Ok plan → (fs ≡ Ok plan.sides) × (ps ≡ Ok plan.new)
both_planned (Err why) ps plan e = absurd cc
both_planned (Ok fs) (Err why) plan e = absurd cc
both_planned (Ok fs) (Ok ps) plan e =
    let same = same_Ok {A = Plan} (record { sides = fs; new = ps }) plan e in
    (ap (λ (x : Plan). Ok x.sides) same, ap (λ (x : Plan). Ok x.new) same)

module _ (defs : Defs) (scope : Scope) where
  abbrev P : Sep → Type 0
  P = PartFits defs scope (PredicatesOf defs scope)

  -- the share of a part, and the part with another one
  share_fits : (p : Sep) (share : Plain) → P p → share_of p ≡ Ok share → TermFits defs scope Z share
  share_fits (FieldAt r v) share f e = subst (TermFits defs scope Z) (same_Ok {A = Plain} r.share share e) f.region.share
  share_fits (Padding r) share f e = subst (TermFits defs scope Z) (same_Ok {A = Plain} r.share share e) f.0.share
  share_fits (Valid t) share f e = absurd cc
  share_fits Anything share f e = absurd cc
  share_fits (Predicate name terms) share f e = absurd cc

  shared_fits : (p : Sep) (s : Plain) → P p → TermFits defs scope Z s → P (with_share p s)
  shared_fits (FieldAt r v) s f k = record {
    region = record { share = k; type = f.region.type; steps = f.region.steps; nested = f.region.nested; at = f.region.at; root = f.region.root };
    sort = f.sort;
    is = f.is;
    term = f.term;
  }
  shared_fits (Padding r) s f k = (record { share = k; type = f.0.type; steps = f.0.steps; nested = f.0.nested; at = f.0.at; root = f.0.root }, f.1)
  shared_fits (Valid t) s f k = f
  shared_fits Anything s f k = tt
  shared_fits (Predicate name terms) s f k = f

  module _ (specs : SpecTable) where
    -- in two shares
    split_planned : (s : Plain) (p : Sep) (plan : Plan) → TermFits defs scope Z s → P p → split.split_part p s ≡ Ok plan → IsPlanned defs specs scope plan
    split_planned s p plan number f made =
        let one = literal (pos 1) in
        let a = on_ok_is (share_of p) (split.with_shares s p) plan made in
        let b = both_planned (split.bounds s a.0) (split.halves p s a.0) plan a.2 in
        let c = on_ok_is (plus s one) (split.between one s a.0) plan.sides b.0 in
        let d = on_ok_is (folded Sub a.0 s) (split.both_shares p s) plan.new b.1 in
        let share = share_fits p a.0 f a.1 in
        let next = plus_fits defs scope s one c.0 number (literal_fits defs scope (pos 1)) c.1 in
        let rest = less_fits defs scope a.0 s d.0 share number d.1 in
        record {
          sides = subst (FormulasFit defs specs scope) (all_written_is (at_most one s ∷ at_most c.0 a.0 ∷ []) plan.sides c.2)
              (at_most_fits defs scope specs one s (literal_fits defs scope (pos 1)) number, (at_most_fits defs scope specs c.0 a.0 next share, tt));
          parts = subst (PartsFit defs scope (PredicatesOf defs scope)) (same_Ok {A = List Sep} (with_share p s ∷ with_share p d.0 ∷ []) plan.new d.2)
              (shared_fits p s f number, (shared_fits p d.0 f rest, tt));
        }

    split_any : (terms : List Plain) (p : Sep) (plan : Plan) → FirstIsNumber defs scope terms → P p → split.split terms p ≡ Ok plan → IsPlanned defs specs scope plan
    split_any [] p plan number f made = absurd cc
    split_any (s ∷ terms) p plan number f made = split_planned s p plan number f made

    -- in one share
    joined_planned : (p q : Sep) (plan : Plan) → P p → P q → join.IsPlan p q (Ok plan) → IsPlanned defs specs scope plan
    joined_planned p q plan f g h =
        let x = then_is (share_of p) (join.WithShare p q) plan h in
        let y = then_is (share_of q) (join.OfShares p q x.0) plan x.2 in
        by x.0 (share_fits p x.0 f x.1) y.0 (share_fits q y.0 g y.1) y.2
      where
        by : (a : Plain) → TermFits defs scope Z a → (b : Plain) → TermFits defs scope Z b → join.OfShares p q a b (Ok plan) → IsPlanned defs specs scope plan
        by a i b j (inr k) =
            let wrong = k.1 in
            absurd cc
        by a i b j (inl k) =
            let u = on_ok_is (plus a b) (join.of_sum p) plan (sym k.1) in
            let v = on_ok_is (join.at_most_whole u.0) (join.with_sum p u.0) plan u.2 in
            let sum = plus_fits defs scope a b u.0 i j u.1 in
            let one : IsPlanned defs specs scope (record { sides = v.0; new = with_share p u.0 ∷ [] }) = record {
              sides = subst (FormulasFit defs specs scope) (all_written_is (at_most u.0 (literal (pos 16)) ∷ []) v.0 v.1) (at_most_fits defs scope specs u.0 (literal (pos 16)) sum (literal_fits defs scope (pos 16)), tt);
              parts = (shared_fits p u.0 f sum, tt);
            } in
            subst (IsPlanned defs specs scope) (same_Ok {A = Plan} (record { sides = v.0; new = with_share p u.0 ∷ [] }) plan v.2) one

pub split_forms : (defs : Defs) (specs : SpecTable) (goal : Goal) (args : Args) (goals : List Goal) → IsWellFormed defs specs goal → FirstIsNumber defs (scope_of (context_of goal)) args.terms → split.Row goal args (Ok goals) → AreWellFormed defs specs goals
split_forms defs specs goal args goals formed number row =
    under_formed defs specs goal formed goals (part_number args.target) (split.split args.terms) (λ p plan f made. split_any defs (scope_of (context_of goal)) specs args.terms p plan number f made) row

pub join_forms : (defs : Defs) (specs : SpecTable) (goal : Goal) (args : Args) (goals : List Goal) → IsWellFormed defs specs goal → join.Row goal args (Ok goals) → AreWellFormed defs specs goals
join_forms defs specs goal args goals formed row =
    let pair = pair_of args in
    let found = then_is (two_of goal pair) (join.OfTwo goal pair) goals row in
    let source = found.0.0 in
    let p = found.0.1 in
    let q = found.0.2 in
    let made = after_is (join.IsPlan p q) (IsJoinedUnder goal pair source) goals found.2 in
    let two = two_found goal pair source p q found.1 in
    let scope = scope_of (context_of goal) in
    let fits = parts_fit defs specs goal source two.source_is formed in
    let f = of_number (PartFits defs scope (PredicatesOf defs scope)) pair.first source.parts p two.first_is fits in
    let g = of_number (PartFits defs scope (PredicatesOf defs scope)) pair.second source.parts q two.second_is fits in
    join_under_formed defs specs goal formed goals pair source two.source_is made.0 (joined_planned defs scope specs p q made.0 f g made.1) made.2
