-- An assertion holds after the rewriting exactly where it did.
use Rattle.std.proofs.Common.{◌≡◌, ◌↔◌, ℕ, ◌+◌, ◌<◌, ◌≤◌, ◌^◌, Bool, true, false, not, ◌&&◌, ◌||◌, cond, List, [], ◌∷◌, map, Option, Some, None, Result, Ok, Err, refl, sym, ap, subst, ◌∙◌, arith, leb-true, true≢false}
use Rattle.std.specs.Prelude.{bytes_eq, nat_le, IsSome}
use Rattle.std.specs.List.{AllByRecursion}
use Rattle.std.proofs.lemmas.Slice.Eq.{bytes_eq-Decides}
use Rattle.floyd_int.specs.declared.kinds.Value.{Value}
use Rattle.floyd_text.specs.declared.refusal.No.{No}
use Rattle.floyd_tree_sorts.specs.declared.heads.Head.TheVariants.{Variable}
use Rattle.floyd_tree_sorts.specs.declared.sorts.Sort.{Sort}
use Rattle.floyd_tree_sorts.proofs.SortLemmas.{both_true}
use Rattle.floyd_tree.specs.Formulas.{PlainFormula, all_well_sorted, formula_sizes, formulas}
use Rattle.floyd_tree.specs.Made.{fits}
use Rattle.floyd_tree.specs.Plain.{Plain, At, Done, height, mentions, mentions_in, plains, size, sizes}
use Rattle.floyd_tree.specs.WellSorted.{sort_of, sorts_of}
use Rattle.floyd_tree_values.specs.BuiltIns.{Env}
use Rattle.floyd_tree_values.specs.Data.{Datum}
use Rattle.floyd_tree_values.specs.Means.{Means, built_in, none}
use Rattle.floyd_truth.specs.Capture.{bound_in, bound_in_some}
use Rattle.floyd_truth.specs.Laws.{nodes}
use Rattle.floyd_truth.specs.Replace.{puts}
use Rattle.floyd_truth.proofs.Fresh.{neither}
use Rattle.floyd_truth.proofs.OneTruth.{giving, put}
use Rattle.floyd_truth.proofs.Tracks.{means_like}
use Rattle.floyd_clight_heap.specs.Heaplet.{Heaplet}
use Rattle.floyd_assert_trees.specs.declared.assertion.Assertion.{Assertion}
use Rattle.floyd_assert_trees.specs.declared.binder.Binder.{Binder}
use Rattle.floyd_assert_changes.specs.Changed.{AssertionSortsAgree, assertion_after, assertion_fits, assertion_with, has_name, terms_in}
use Rattle.floyd_assert_meaning.specs.Alike.{Alike, MeanAlike, SayAlike}
use Rattle.floyd_assert_meaning.specs.Assertions.{Holds}
use Rattle.floyd_assert_meaning.specs.Same.{Pairwise}
use Rattle.floyd_assert_meaning.specs.Settings.{Setting, with_each}
use Rattle.floyd_assert_meaning.proofs.AlikeLaws.{alike_holds}
use Rattle.floyd_assert_laws.specs.Free.{assertion_mentions}
use Rattle.floyd_assert_laws.specs.InChanged.{IsSorted, body_nodes}
use Rattle.floyd_assert_laws.proofs.FreeLaws.{free_alike}
use Rattle.floyd_assert_laws.proofs.Replaced.{assertion_changed}
use Rattle.floyd_rewriting.specs.Holes.{assertion_opened, formula_opened, hole_for, hole_name, opened, opened_in}
use Rattle.floyd_rewriting.specs.HolesClauses.{IsHole}
use Rattle.floyd_rewriting.specs.Occurrences.{assertion_occurs, formulas_occur, hide, occurs_in}
use Rattle.floyd_rewriting.specs.Rewritten.{assertion_filled, assertion_rewritten, by_hole, if_any, into_holes}
use Rattle.floyd_rewriting.proofs.Agreeing.{assertion_holes_agree, mapped_terms}
use Rattle.floyd_rewriting.proofs.FormulasOpened.{all_well_sorted_kept, formula_sizes_less, formulas_opened_plain}
use Rattle.floyd_rewriting.proofs.HoleNames.{IsNowhere, hole_is, is_nowhere}
use Rattle.floyd_rewriting.proofs.TermsOpened.{opened_plains, sizes_less, sorts_kept}
use Rattle.floyd_pure_rewriting.proofs.FormulasKept.{Valued, truth_kept}
use Rattle.floyd_pure_rewriting.proofs.HoleData.{into_changed, other_than, own_datum, own_name, stays}
use Rattle.floyd_pure_rewriting.proofs.TermsKept.{means_kept}
use Rattle.floyd_rewriting_laws.specs.Laws.{AssertionRewritingKeeps}
use Rattle.floyd_rewriting_laws.proofs.Mapping.{mapped_alike}

-- what the rewriting gave
record Made (from to : Plain) (a made : Assertion) : Type 0 where
  pub name : List ℕ
  pub new : hole_name from a.existentials a.props (terms_in a) ≡ Some name
  pub shown : hide from a.existentials ≡ false
  pub is : assertion_filled from to a name ≡ Ok made

some_made : (b : Bool) (r : Result Assertion No) (made : Assertion) → if_any b r ≡ Ok (Some made) → (b ≡ true) × (r ≡ Ok made)
some_made true (Ok x) made e = (refl, cc)
some_made true (Err refusal) made e = absurd cc
some_made false r made e = absurd cc

not_hidden : (b c : Bool) → (not b && c) ≡ true → b ≡ false
not_hidden true c e = absurd cc
not_hidden false c e = refl

made_by : (from to : Plain) (a made : Assertion) → assertion_rewritten from to a ≡ Ok (Some made) → Made from to a made
made_by from to a made e = by (hole_name from a.existentials a.props (terms_in a)) refl e
  where
    by : (o : Option (List ℕ)) → hole_name from a.existentials a.props (terms_in a) ≡ o → by_hole o (λ name. if_any (assertion_occurs from a) (assertion_filled from to a name)) ≡ Ok (Some made) → Made from to a made
    by None n e = absurd cc
    by (Some name) n e =
        let p = some_made (assertion_occurs from a) (assertion_filled from to a name) made e in
        record {
          name = name;
          new = n;
          shown = not_hidden (hide from a.existentials) (formulas_occur from (formulas a.props) || occurs_in from (plains (terms_in a))) p.0;
          is = p.1;
        }

within_by : (a : Assertion) (b : Bool) (refused : No) (made : Assertion) → ◌≡◌ {A = Result Assertion No} (cond b (Ok a) (Err refused)) (Ok made) → a ≡ made
within_by a true refused made e = cc
within_by a false refused made e = absurd cc

bound : (m n : ℕ) → (nat_le m 65536 && nat_le n 256) ≡ true → m ≤ 65536
bound m n h = leb-true m 65536 (both_true (nat_le m 65536) (nat_le n 256) h).0

-- data for existentials leave the data of other names
each_other : (f : List ℕ → Datum) (bs : List Binder) (ds : List Datum) (x : List ℕ) → has_name x bs ≡ false → with_each f bs ds x ≡ f x
each_other f [] ds x e = refl
each_other f (b ∷ bs) [] x e = refl
each_other f (b ∷ bs) (d ∷ ds) x e =
    let p = neither (bytes_eq x b.name) (has_name x bs) e in
    each_other (λ y. cond (bytes_eq y b.name) d (f y)) bs ds x p.1 ∙ ap (λ c. cond c d (f x)) p.0

-- a variable of the term is none of the existentials
apart : (from : Plain) (bs : List Binder) (x : List ℕ) → hide from bs ≡ false → mentions x from ≡ true → has_name x bs ≡ false
apart from [] x h m = refl
apart from (b ∷ bs) x h m =
    let p = neither (mentions b.name from) (hide from bs) h in
    by p.0 (apart from bs x p.1 m) (bytes_eq x b.name) refl
  where
    by : mentions b.name from ≡ false → has_name x bs ≡ false → (c : Bool) → bytes_eq x b.name ≡ c → (c || has_name x bs) ≡ false
    by away rest true i = absurd (true≢false (sym (subst (λ n. mentions n from ≡ true) ((bytes_eq-Decides x b.name).0 i) m) ∙ away))
    by away rest false i = rest

module _ (S : Setting) (env : Env) (from to : Plain) (s : Sort) (d : Datum) (a : Assertion) (sorted : sort_of from ≡ Some s) (to_sorted : sort_of to ≡ Some s) (small : fits from ≡ true) (to_small : fits to ≡ true) (means : Means S.defs env from d) (to_means : Means S.defs env to d) (well : IsSorted a) (few : body_nodes a < 2 ^ 62) (name : List ℕ) (away : IsNowhere from a.existentials a.props (terms_in a) name) (shown : hide from a.existentials ≡ false) where
  abbrev hole : Plain
  hole = At (Variable name s) Done

  abbrev with_hole : Assertion
  with_hole = assertion_opened from hole a

  abbrev after : List ℕ → Datum
  after = put env.variables name d

  is_hole : IsHole from hole
  is_hole = subst (λ o. IsHole from (hole_for name o)) sorted (hole_is name from s sorted)

  -- with holes it is as well sorted, and no larger
  terms_are : plains (terms_in with_hole) ≡ opened_in from hole (plains (terms_in a))
  terms_are = ap plains (mapped_terms (opened from hole) (map (formula_opened from hole) a.props) a) ∙ sym (opened_plains from hole (terms_in a))

  well_too : IsSorted with_hole
  well_too = record {
    props = ap all_well_sorted (sym (formulas_opened_plain from hole a.props)) ∙ all_well_sorted_kept from hole is_hole (formulas a.props) ∙ well.props;
    terms = subst (λ o. IsSome o) (sym (ap sorts_of terms_are ∙ sorts_kept from hole is_hole (plains (terms_in a)))) well.terms;
  }

  few_too : nodes (into_holes name from to) + body_nodes with_hole < 2 ^ 63
  few_too =
      let props : formula_sizes (formulas with_hole.props) ≤ formula_sizes (formulas a.props) = subst (λ fs. formula_sizes fs ≤ formula_sizes (formulas a.props)) (formulas_opened_plain from hole a.props) (formula_sizes_less from hole is_hole (formulas a.props)) in
      let terms : sizes (plains (terms_in with_hole)) ≤ sizes (plains (terms_in a)) = subst (λ ts. sizes ts ≤ sizes (plains (terms_in a))) (sym terms_are) (sizes_less from hole is_hole (plains (terms_in a))) in
      omega (arith, few, props, terms, bound (size from) (height from) small, bound (size to) (height to) to_small)

  agree : AssertionSortsAgree (puts (into_holes name from to)) with_hole
  agree = subst (λ o. AssertionSortsAgree (puts (into_holes name from to)) (assertion_opened from (hole_for name o) a)) sorted (assertion_holes_agree name from to s a sorted to_sorted away)

  -- for all data for the existentials
  module _ (ds : List Datum) where
    abbrev g : List ℕ → Datum
    g = with_each after a.existentials ds

    valued : Valued from hole is_hole name (λ v e. own_name name v s e) S.defs S.has_spec env d g
    valued = record {
      own = means_like S.defs env env.variables g from (λ v m. stays env.variables name d v (other_than name v (λ n. mentions n from) away.in_from m) ∙ sym (each_other after a.existentials ds v (apart from a.existentials v shown m))) d means;
      here = subst (Means S.defs (giving env g) hole) (each_other after a.existentials ds name away.in_binders ∙ own_datum env.variables name d) (built_in {head = Variable name s} {s = s} refl refl none);
    }

    terms_alike : (us : List Plain) → AllByRecursion (λ u. MeanAlike S env g g (opened from hole u) u) us
    terms_alike [] = tt
    terms_alike (u ∷ us) = (λ e. means_kept from hole is_hole S.defs (giving env g) d valued.own valued.here u e, terms_alike us)

    props_alike : (fs : List PlainFormula) → bound_in_some name (formulas fs) ≡ false → Pairwise (SayAlike S env g g) (map (formula_opened from hole) fs) fs
    props_alike [] n = tt
    props_alike (f ∷ fs) n =
        let p = neither (bound_in name f) (bound_in_some name (formulas fs)) n in
        (truth_kept from hole is_hole name (λ v e. own_name name v s e) S.defs S.has_spec env d g valued f p.0, props_alike fs p.1)

  with_hole_alike : Alike S env after after with_hole a
  with_hole_alike = mapped_alike S env after (opened from hole) (map (formula_opened from hole) a.props) a (λ ds k. (props_alike ds a.props away.bound, terms_alike ds (terms_in a)))

  -- the name is not free in the assertion
  not_free : assertion_mentions a name ≡ false
  not_free = ap (λ b. b && not (has_name name a.existentials)) (ap (λ b. b || mentions_in name (plains (terms_in a))) away.free ∙ away.in_terms)

  filled_keeps : (made : Assertion) (temps : List ℕ → Value) (h : Heaplet) → assertion_with (into_holes name from to) with_hole ≡ Ok made → Holds S env made temps h ↔ Holds S env a temps h
  filled_keeps made temps h e =
      let is : assertion_after (puts (into_holes name from to)) with_hole ≡ made = within_by (assertion_after (puts (into_holes name from to)) with_hole) (assertion_fits (assertion_after (puts (into_holes name from to)) with_hole)) _ made e in
      let first = alike_holds S env env.variables after (assertion_after (puts (into_holes name from to)) with_hole) with_hole (assertion_changed S env (into_holes name from to) after (into_changed S.defs env name from to d to_means) with_hole well_too few_too agree) temps h in
      let second = alike_holds S env after after with_hole a with_hole_alike temps h in
      let third = alike_holds S env after env.variables a a (free_alike S env after env.variables a (λ x m. sym (stays env.variables name d x (other_than name x (assertion_mentions a) not_free m)))) temps h in
      subst (λ b. Holds S env b temps h ↔ Holds S env a temps h) is (λ p. third.0 (second.0 (first.0 p)), λ p. first.1 (second.1 (third.1 p)))

pub assertion_kept : AssertionRewritingKeeps
assertion_kept S env from to s d a made temps h sorted to_sorted small to_small means to_means well few e =
    let m = made_by from to a made e in
    filled_keeps S env from to s d a sorted to_sorted small to_small means to_means well few m.name (is_nowhere from a.existentials a.props (terms_in a) m.name m.new) m.shown made temps h
    (ap (λ o. assertion_with (into_holes m.name from to) (assertion_opened from (hole_for m.name o) a)) (sym sorted) ∙ m.is)
