-- The goals of `split_array` and of `join_array` are well formed.
use Rattle.std.proofs.Common.{◌≡◌, inl, inr, List, [], ◌∷◌, Option, Some, None, Result, Ok, refl, sym, subst, pos}
use Rattle.floyd_text.specs.declared.refusal.No.{No}
use Rattle.floyd_tree_sorts.specs.declared.operators.Operator.TheVariants.{Append, Sub}
use Rattle.floyd_tree_sorts.specs.declared.sorts.Sort.{Z}
use Rattle.floyd_tree.specs.Plain.{Plain}
use Rattle.floyd_tree_values.specs.Rules.{Scope}
use Rattle.floyd_assert_trees.specs.declared.items.Defs.{Defs}
use Rattle.floyd_assert_trees.specs.declared.sep.Sep.{Sep}
use Rattle.floyd_assert_trees.specs.declared.spec.SpecTable.{SpecTable}
use Rattle.floyd_fieldpath.specs.Nested.{literal}
use Rattle.floyd_fieldpath.specs.Projections.{kid_under}
use Rattle.floyd_fieldpath.specs.Sums.{two}
use Rattle.floyd_fieldpath.specs.Written.{written}
use Rattle.floyd_fieldpath_laws.proofs.Meanings.{on_ok_is}
use Rattle.floyd_folding.specs.Folding.{folded}
use Rattle.floyd_goal_trees.specs.Contexts.{context_of, scope_of}
use Rattle.floyd_goal_trees.specs.declared.args.Args.{Args}
use Rattle.floyd_goal_trees.specs.declared.goal.Goal.{Goal}
use Rattle.floyd_goal_forms.specs.Assertions.{PartFits, PartsFit, PredicatesOf}
use Rattle.floyd_goal_forms.specs.Goals.{IsWellFormed}
use Rattle.floyd_goal_forms.specs.Terms.{FormulasFit, TermFits}
use Rattle.floyd_goal_parts.specs.declared.placing.Plan.{Plan}
use Rattle.floyd_goal_parts.specs.Sources.{part_number}
use Rattle.floyd_goal_parts.specs.Writing.{at_most}
use Rattle.floyd_goal_plans.specs.Joining.{IsJoined, pair_of, two_of}
use Rattle.floyd_arrays.specs.declared.arrays.ArrayPart.{ArrayPart}
use Rattle.floyd_arrays.specs.Arrays.{array_of, behind, piece, piece_at, slice}
use Rattle.floyd_arrays.specs.JoinArray as join
use Rattle.floyd_arrays.specs.SplitArray as split
use Rattle.floyd_entail_soundness.proofs.Placing.{of_number, same_Ok}
use Rattle.floyd_entail_soundness.proofs.Sources.{parts_fit}
use Rattle.floyd_entail_soundness.proofs.Written.{all_written_is}
use Rattle.floyd_shares_soundness.specs.Numbers.{FirstIsNumber}
use Rattle.floyd_shares_soundness.proofs.Joining.{two_found}
use Rattle.floyd_shares_soundness.proofs.Sharing.{after_is, then_is}
use Rattle.floyd_formed_pure.specs.Rows.{AreWellFormed}
use Rattle.floyd_formed_shares.proofs.Numbers.{at_most_fits, less_fits, literal_fits, plus_fits}
use Rattle.floyd_formed_shares.proofs.Placed.{IsPlanned, join_formed, under_formed}
use Rattle.floyd_formed_shares.proofs.Shared.{both_planned}
use Rattle.floyd_formed_arrays.proofs.Lists.{append_fits, slice_fits, whole_fits}
use Rattle.floyd_formed_arrays.proofs.Pieces.{behind_fits, count, object, piece_fits}

module _ (defs : Defs) (scope : Scope) where
  abbrev P : Sep → Type 0
  P = PartFits defs scope (PredicatesOf defs scope)

  -- ---- in two pieces

  module _ (specs : SpecTable) where
    split_planned : (m : Plain) (p : Sep) (plan : Plan) → TermFits defs scope Z m → P p → split.split_part defs.structs p m ≡ Ok plan → IsPlanned defs specs scope plan
    split_planned m p plan number f made =
        let zero = literal (pos 0) in
        let nought = literal_fits defs scope (pos 0) in
        let a = on_ok_is (array_of p) (split.split_at defs.structs m) plan made in
        let b = both_planned (split.within zero m a.0) (split.two_parts (split.front zero m a.0) (split.back defs.structs m a.0)) plan a.2 in
        let x = on_ok_is (split.front zero m a.0) (λ x. split.two_parts (Ok x) (split.back defs.structs m a.0)) plan.new b.1 in
        let y = on_ok_is (split.back defs.structs m a.0) (λ y. Ok (x.0 ∷ y ∷ [])) plan.new x.2 in
        let first = on_ok_is (slice zero m a.0.value) (piece_at a.0 m a.0.region.root) x.0 x.1 in
        let n = on_ok_is (folded Sub a.0.count m) (split.back_of defs.structs m a.0) y.0 y.1 in
        let root = on_ok_is (behind defs.structs a.0 m) (split.back_at m a.0 n.0) y.0 n.2 in
        let second = on_ok_is (slice m a.0.count a.0.value) (piece_at a.0 n.0 root.0) y.0 root.2 in
        let is = object defs scope p a.0 a.1 f in
        let all = count defs scope p a.0 a.1 f in
        let front : P (piece a.0 m a.0.region.root first.0) = piece_fits defs scope p a.0 a.1 f m a.0.region.root first.0 number is.region.root (slice_fits defs scope is.sort zero m a.0.value first.0 nought number is.term first.1) in
        let back : P (piece a.0 n.0 root.0 second.0) =
        piece_fits defs scope p a.0 a.1 f n.0 root.0 second.0 (less_fits defs scope a.0.count m n.0 all number n.1) (behind_fits defs scope p a.0 a.1 f m root.0 number root.1) (slice_fits defs scope is.sort m a.0.count a.0.value second.0 number all is.term second.1) in
        record {
          sides = subst (FormulasFit defs specs scope) (all_written_is (at_most zero m ∷ at_most m a.0.count ∷ []) plan.sides b.0) (at_most_fits defs scope specs zero m nought number, (at_most_fits defs scope specs m a.0.count number all, tt));
          parts = subst (PartsFit defs scope (PredicatesOf defs scope)) (same_Ok {A = List Sep} (x.0 ∷ y.0 ∷ []) plan.new y.2)
              (subst P (same_Ok {A = Sep} (piece a.0 m a.0.region.root first.0) x.0 first.2) front, (subst P (same_Ok {A = Sep} (piece a.0 n.0 root.0 second.0) y.0 second.2) back, tt));
        }

    split_any : (terms : List Plain) (p : Sep) (plan : Plan) → FirstIsNumber defs scope terms → P p → split.split defs.structs terms p ≡ Ok plan → IsPlanned defs specs scope plan
    split_any [] p plan number f made = absurd cc
    split_any (m ∷ terms) p plan number f made = split_planned m p plan number f made

  -- ---- in one

  sum_fits : (m c n : Plain) (whole less : Option Plain) → kid_under join.is_difference 0 c ≡ whole → TermFits defs scope Z m → TermFits defs scope Z c → join.OfSides m c whole less (Ok n) → TermFits defs scope Z n
  sum_fits m c n (Some whole) (Some less) e a b (inl k) = subst (TermFits defs scope Z) (same_Ok {A = Plain} whole n (sym k.1)) (whole_fits defs scope c whole b e)
  sum_fits m c n (Some whole) (Some less) e a b (inr k) = plus_fits defs scope m c n a b (sym k.1)
  sum_fits m c n (Some whole) None e a b k = plus_fits defs scope m c n a b (sym k)
  sum_fits m c n None less e a b k = plus_fits defs scope m c n a b (sym k)

  joined_new : (p q : Sep) (new : List Sep) → P p → P q → join.IsNew defs.structs p q (Ok new) → PartsFit defs scope (PredicatesOf defs scope) new
  joined_new p q new f g h =
      let x = then_is (array_of p) (join.WithSecond defs.structs q) new h in
      let y = then_is (array_of q) (join.Joins defs.structs q x.0) new x.2 in
      by x.0 x.1 y.0 y.1 y.2
    where
      by : (a : ArrayPart) → array_of p ≡ Ok a → (b : ArrayPart) → array_of q ≡ Ok b → join.Joins defs.structs q a b (Ok new) → PartsFit defs scope (PredicatesOf defs scope) new
      by a e b i (inr k) =
          let wrong = k.1 in
          absurd cc
      by a e b i (inl k) =
          let u = after_is (join.IsSum a.count b.count) (join.IsBoth a b) new k.1 in
          let v = on_ok_is (written (two Append a.value b.value)) (join.both_at a u.0) new (sym u.2) in
          let first = object defs scope p a e f in
          let second = object defs scope q b i g in
          let n = sum_fits a.count b.count u.0 (kid_under join.is_difference 0 b.count) (kid_under join.is_difference 1 b.count) refl (count defs scope p a e f) (count defs scope q b i g) u.1 in
          let value = append_fits defs scope first.sort second.sort a.value b.value v.0 first.term second.term v.1 in
          subst (PartsFit defs scope (PredicatesOf defs scope)) (same_Ok {A = List Sep} (piece a u.0 a.region.root v.0 ∷ []) new v.2) (piece_fits defs scope p a e f u.0 a.region.root v.0 n first.region.root value, tt)

pub split_forms : (defs : Defs) (specs : SpecTable) (goal : Goal) (args : Args) (goals : List Goal) → IsWellFormed defs specs goal → FirstIsNumber defs (scope_of (context_of goal)) args.terms → split.Row defs.structs goal args (Ok goals) → AreWellFormed defs specs goals
split_forms defs specs goal args goals formed number row =
    under_formed defs specs goal formed goals (part_number args.target) (split.split defs.structs args.terms) (λ p plan f made. split_any defs (scope_of (context_of goal)) specs args.terms p plan number f made) row

pub join_forms : (defs : Defs) (specs : SpecTable) (goal : Goal) (args : Args) (goals : List Goal) → IsWellFormed defs specs goal → join.Row defs.structs goal args (Ok goals) → AreWellFormed defs specs goals
join_forms defs specs goal args goals formed row =
    let pair = pair_of args in
    let found = then_is (two_of goal pair) (join.OfTwo defs.structs goal pair) goals row in
    let source = found.0.0 in
    let p = found.0.1 in
    let q = found.0.2 in
    let made = after_is (join.IsNew defs.structs p q) (IsJoined goal pair source) goals found.2 in
    let two = two_found goal pair source p q found.1 in
    let scope = scope_of (context_of goal) in
    let fits = parts_fit defs specs goal source two.source_is formed in
    let f = of_number (PartFits defs scope (PredicatesOf defs scope)) pair.first source.parts p two.first_is fits in
    let g = of_number (PartFits defs scope (PredicatesOf defs scope)) pair.second source.parts q two.second_is fits in
    join_formed defs specs goal formed goals pair source two.source_is made.0 (joined_new defs scope p q made.0 f g made.1) made.2
