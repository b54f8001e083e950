-- A formula is true after the rewriting exactly where it was.
use Rattle.std.proofs.Common.{◌≡◌, ◌↔◌, ℕ, ◌+◌, ◌<◌, ◌≤◌, ◌^◌, Bool, true, false, ◌&&◌, cond, List, [], ◌∷◌, Option, Some, None, Result, Ok, Err, refl, sym, ap, subst, ◌∙◌, arith, leb-true}
use Rattle.std.specs.Prelude.{nat_le}
use Rattle.floyd_int.specs.declared.kinds.Value.{Value}
use Rattle.floyd_text.specs.declared.refusal.No.{No}
use Rattle.floyd_tree_sorts.specs.declared.heads.Head.TheVariants.{Variable}
use Rattle.floyd_tree_sorts.specs.declared.sorts.Sort.{Sort}
use Rattle.floyd_tree_sorts.proofs.SortLemmas.{both_true}
use Rattle.floyd_tree.specs.Formulas.{PlainFormula, formula_height, formula_mentions, formula_size, well_sorted}
use Rattle.floyd_tree.specs.Made.{fits}
use Rattle.floyd_tree.specs.MadeFormulas.{formula_fits}
use Rattle.floyd_tree.specs.Plain.{Plain, At, Done, height, mentions, size}
use Rattle.floyd_tree.specs.WellSorted.{sort_of}
use Rattle.floyd_tree_values.specs.BuiltIns.{Env}
use Rattle.floyd_tree_values.specs.Data.{Datum}
use Rattle.floyd_tree_values.specs.Means.{Defs, Means, built_in, none}
use Rattle.floyd_truth.specs.Capture.{bound_in}
use Rattle.floyd_truth.specs.Laws.{nodes}
use Rattle.floyd_truth.specs.Replace.{FormulaSortsAgree, puts, replaced_formula}
use Rattle.floyd_truth.specs.Truth.{Truth}
use Rattle.floyd_truth.proofs.Fresh.{neither}
use Rattle.floyd_truth.proofs.InChanged.{true_in_changed}
use Rattle.floyd_truth.proofs.OneTruth.{giving, put}
use Rattle.floyd_truth.proofs.Tracks.{means_like}
use Rattle.floyd_assert_changes.specs.Substituted.{formula_with}
use Rattle.floyd_pure_formulas.proofs.Substituting.{formula_size_kept}
use Rattle.floyd_rewriting.specs.Holes.{formula_opened, hole_for, hole_name}
use Rattle.floyd_rewriting.specs.HolesClauses.{IsHole}
use Rattle.floyd_rewriting.specs.Occurrences.{formula_occurs}
use Rattle.floyd_rewriting.specs.Rewritten.{by_hole, formula_filled, formula_rewritten, if_any, into_holes}
use Rattle.floyd_rewriting.proofs.Agreeing.{formula_holes_agree}
use Rattle.floyd_rewriting.proofs.FormulasOpened.{well_sorted_kept}
use Rattle.floyd_rewriting.proofs.HoleNames.{IsNowhere, hole_is, is_nowhere}
use Rattle.floyd_pure_rewriting.specs.Laws.{RewritingKeeps}
use Rattle.floyd_pure_rewriting.proofs.FormulasKept.{Valued, truth_kept}
use Rattle.floyd_pure_rewriting.proofs.FreeTruth.{truth_alike}
use Rattle.floyd_pure_rewriting.proofs.HoleData.{into_changed, other_than, own_datum, own_name, stays}

-- what the rewriting gave
record Made (from to : Plain) (f made : PlainFormula) : Type 0 where
  pub name : List ℕ
  pub new : hole_name from [] (f ∷ []) [] ≡ Some name
  pub is : formula_filled from to f name ≡ Ok made

some_made : {T : Type 0} (b : Bool) (r : Result T No) (made : T) → if_any b r ≡ Ok (Some made) → r ≡ Ok made
some_made true (Ok x) made e = cc
some_made true (Err refusal) made e = absurd cc
some_made false r made e = absurd cc

made_by : (from to : Plain) (f made : PlainFormula) → formula_rewritten from to f ≡ Ok (Some made) → Made from to f made
made_by from to f made e = by (hole_name from [] (f ∷ []) []) refl e
  where
    by : (o : Option (List ℕ)) → hole_name from [] (f ∷ []) [] ≡ o → by_hole o (λ name. if_any (formula_occurs from f) (formula_filled from to f name)) ≡ Ok (Some made) → Made from to f made
    by None n e = absurd cc
    by (Some name) n e = record { name = name; new = n; is = some_made (formula_occurs from f) (formula_filled from to f name) made e }

within_by : (a : PlainFormula) (b : Bool) (refused : No) (made : PlainFormula) → formula_fits a ≡ b → ◌≡◌ {A = Result PlainFormula No} (cond b (Ok a) (Err refused)) (Ok made) → (a ≡ made) × (formula_fits a ≡ true)
within_by a true refused made h e = (cc, h)
within_by a false refused made h e = absurd cc

bound : (m n : ℕ) → (nat_le m 65536 && nat_le n 256) ≡ true → m ≤ 65536
bound m n h = leb-true m 65536 (both_true (nat_le m 65536) (nat_le n 256) h).0

module _ (defs : Defs) (specs : List ℕ → Value → Bool) (env : Env) (from to : Plain) (s : Sort) (d : Datum) (f : PlainFormula) (sorted : sort_of from ≡ Some s) (to_sorted : sort_of to ≡ Some s) (small : fits from ≡ true) (to_small : fits to ≡ true) (means : Means defs env from d) (to_means : Means defs env to d) (well : well_sorted f ≡ true) (name : List ℕ) (away : IsNowhere from [] (f ∷ []) [] name) where
  abbrev hole : Plain
  hole = At (Variable name s) Done

  abbrev with_hole : PlainFormula
  with_hole = formula_opened from hole f

  abbrev after : List ℕ → Datum
  after = put env.variables name d

  is_hole : IsHole from hole
  is_hole = subst (λ o. IsHole from (hole_for name o)) sorted (hole_is name from s sorted)

  free : formula_mentions name f ≡ false
  free = (neither (formula_mentions name f) false away.free).0

  unbound : bound_in name f ≡ false
  unbound = (neither (bound_in name f) false away.bound).0

  valued : Valued from hole is_hole name (λ v e. own_name name v s e) defs specs env d after
  valued = record {
    own = means_like defs env env.variables after from (λ v m. stays env.variables name d v (other_than name v (λ n. mentions n from) away.in_from m)) d means;
    here = subst (Means defs (giving env after) hole) (own_datum env.variables name d) (built_in {head = Variable name s} {s = s} refl refl none);
  }

  agree : FormulaSortsAgree (puts (into_holes name from to)) with_hole
  agree = subst (λ o. FormulaSortsAgree (puts (into_holes name from to)) (formula_opened from (hole_for name o) f)) sorted (formula_holes_agree name from to s f sorted to_sorted free unbound)

  filled_keeps : (made : PlainFormula) → formula_with (into_holes name from to) with_hole ≡ Ok made → Truth defs specs env made ↔ Truth defs specs env f
  filled_keeps made e =
      let m = within_by (replaced_formula (puts (into_holes name from to)) with_hole) (formula_fits (replaced_formula (puts (into_holes name from to)) with_hole)) _ made refl e in
      let well_too : well_sorted with_hole ≡ true = well_sorted_kept from hole is_hole f ∙ well in
      let size_is : formula_size with_hole ≤ 65536 = omega (arith, formula_size_kept (puts (into_holes name from to)) with_hole well_too, bound (formula_size (replaced_formula (puts (into_holes name from to)) with_hole)) (formula_height (replaced_formula (puts (into_holes name from to)) with_hole)) m.1) in
      let few : nodes (into_holes name from to) + formula_size with_hole < 2 ^ 63 = omega (arith, bound (size from) (height from) small, bound (size to) (height to) to_small, size_is) in
      let first : Truth defs specs env (replaced_formula (puts (into_holes name from to)) with_hole) ↔ Truth defs specs (giving env after) with_hole = true_in_changed defs env (into_holes name from to) after (into_changed defs env name from to d to_means) specs with_hole well_too few agree in
      let second : Truth defs specs (giving env after) with_hole ↔ Truth defs specs (giving env after) f = truth_kept from hole is_hole name (λ v e. own_name name v s e) defs specs env d after valued f unbound in
      let there = λ (p : Truth defs specs (giving env after) f). truth_alike defs specs env after env.variables f (λ v m. sym (stays env.variables name d v (other_than name v (λ n. formula_mentions n f) free m))) p in
      let back = λ (p : Truth defs specs env f). truth_alike defs specs env env.variables after f (λ v m. stays env.variables name d v (other_than name v (λ n. formula_mentions n f) free m)) p in
      subst (λ g. Truth defs specs env g ↔ Truth defs specs env f) m.0 (λ p. there (second.0 (first.0 p)), λ p. first.1 (second.1 (back p)))

pub rewriting_true : RewritingKeeps
rewriting_true defs specs env from to s d f made sorted to_sorted small to_small means to_means well e =
    let m = made_by from to f made e in
    filled_keeps defs specs env from to s d f sorted to_sorted small to_small means to_means well m.name (is_nowhere from [] (f ∷ []) [] m.name m.new) made
    (ap (λ o. formula_with (into_holes m.name from to) (formula_opened from (hole_for m.name o) f)) (sym sorted) ∙ m.is)
