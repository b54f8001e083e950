-- The sorts of parts of lists, of lists one behind the other, and of differences.
use Rattle.std.proofs.Common.{◌≡◌, zero, List, [], ◌∷◌, Option, Some, None, Ok, refl, sym, ap, ap₂, subst, ◌∙◌}
use Rattle.std.specs.Prelude.{slice_get}
use Rattle.std.proofs.lemmas.Option.{same_Some}
use Rattle.floyd_tree_sorts.specs.declared.heads.Head.TheVariants as h
use Rattle.floyd_tree_sorts.specs.declared.operators.Operator.TheVariants as o
use Rattle.floyd_tree_sorts.specs.declared.sorts.Sort.{Sort, Z}
use Rattle.floyd_tree_sorts.specs.Operators.{row}
use Rattle.floyd_tree_sorts.specs.Sorts.{list_sort}
use Rattle.floyd_tree_sorts.proofs.RowLemmas.{row_taken}
use Rattle.floyd_tree.specs.Plain.{Plain, Plains, At, Done, More, listed}
use Rattle.floyd_tree.specs.WellSorted.{sort_of, sorts_of, with_first}
use Rattle.floyd_tree_values.specs.Rules.{Scope}
use Rattle.floyd_assert_trees.specs.declared.items.Defs.{Defs}
use Rattle.floyd_fieldpath.specs.Projections.{kid_under}
use Rattle.floyd_fieldpath.specs.Sums.{two}
use Rattle.floyd_fieldpath.specs.Updates.{three}
use Rattle.floyd_fieldpath.specs.Written.{written}
use Rattle.floyd_fieldpath_laws.proofs.Meanings.{written_is}
use Rattle.floyd_goal_formulas.proofs.Values.{first_some}
use Rattle.floyd_goal_forms.specs.Terms.{TermFits}
use Rattle.floyd_pure_quantifiers.proofs.Equating.{kid_sorts}
use Rattle.floyd_arrays.specs.Arrays.{slice}
use Rattle.floyd_arrays.specs.JoinArray.{is_difference}
use Rattle.floyd_entail_soundness.proofs.Written.{written_sorted}

same_sorts : (a b : List Sort) → Option.Some a ≡ Option.Some b → a ≡ b
same_sorts a b e = cc

module _ (defs : Defs) (scope : Scope) where
  abbrev Of : Sort → Plain → Type 0
  Of s t = TermFits defs scope s t

  -- a part of a list has its sort
  part_sort : (q s : Sort) (ss : List Sort) (r t : Sort) → list_sort r ≡ s → Z ∷ Z ∷ list_sort r ∷ [] ≡ ss → Z ∷ Z ∷ q ∷ [] ≡ ss → s ≡ q
  part_sort q s ss r t g e f =
      let both : Z ∷ Z ∷ list_sort r ∷ [] ≡ Z ∷ Z ∷ q ∷ [] = e ∙ sym f in
      let same : list_sort r ≡ q = cc in
      sym g ∙ same

  pub slice_fits : (q : Sort) (low high list c : Plain) → Of Z low → Of Z high → Of q list → slice low high list ≡ Ok c → Of q c
  slice_fits q low high list c a b l e =
      let t = three o.Sublist low high list in
      let w = written_sorted t c e in
      let kids = More low (More high (More list Done)) in
      let k = kid_sorts (h.Operator o.Sublist) kids w.0 w.1 in
      let sorts : sorts_of kids ≡ Some (Z ∷ Z ∷ q ∷ []) =
      ap₂ (λ x y. with_first x y) a.fits.sorted (ap₂ (λ x y. with_first x y) b.fits.sorted (ap (λ x. with_first x (Some [])) l.fits.sorted)) in
      let r = row_taken (row o.Sublist) k.0 w.0 k.2 in
      let is : w.0 ≡ q = part_sort q w.0 k.0 r.0 r.1 r.3 r.2 (same_sorts (Z ∷ Z ∷ q ∷ []) k.0 (sym sorts ∙ k.1)) in
      let own : Of q t = record {
        fits = record { sorted = w.1 ∙ ap Some is; allowed = (tt, (a.fits.allowed, (b.fits.allowed, (l.fits.allowed, tt)))) };
        known = (tt, (a.known, (b.known, (l.known, tt))));
      } in
      subst (Of q) (written_is t c e) own

  -- lists one behind the other have the sort of the first
  whole_sort : (q p s : Sort) (ss : List Sort) (r t : Sort) → list_sort r ≡ s → list_sort r ∷ list_sort r ∷ [] ≡ ss → q ∷ p ∷ [] ≡ ss → s ≡ q
  whole_sort q p s ss r t g e f =
      let both : list_sort r ∷ list_sort r ∷ [] ≡ q ∷ p ∷ [] = e ∙ sym f in
      let same : list_sort r ≡ q = cc in
      sym g ∙ same

  pub append_fits : (q p : Sort) (u v c : Plain) → Of q u → Of p v → written (two o.Append u v) ≡ Ok c → Of q c
  append_fits q p u v c a b e =
      let t = two o.Append u v in
      let w = written_sorted t c e in
      let kids = More u (More v Done) in
      let k = kid_sorts (h.Operator o.Append) kids w.0 w.1 in
      let sorts : sorts_of kids ≡ Some (q ∷ p ∷ []) = ap₂ (λ x y. with_first x y) a.fits.sorted (ap (λ x. with_first x (Some [])) b.fits.sorted) in
      let r = row_taken (row o.Append) k.0 w.0 k.2 in
      let is : w.0 ≡ q = whole_sort q p w.0 k.0 r.0 r.1 r.3 r.2 (same_sorts (q ∷ p ∷ []) k.0 (sym sorts ∙ k.1)) in
      let own : Of q t = record { fits = record { sorted = w.1 ∙ ap Some is; allowed = (tt, (a.fits.allowed, (b.fits.allowed, tt))) }; known = (tt, (a.known, (b.known, tt))) } in
      subst (Of q) (written_is t c e) own

  -- the first number of a difference is one
  first_number : (p : Sort) (ps ss : List Sort) → Z ∷ Z ∷ [] ≡ ss → ss ≡ p ∷ ps → p ≡ Z
  first_number p ps ss e f =
      let both : Z ∷ Z ∷ [] ≡ p ∷ ps = e ∙ f in
      cc

  pub whole_fits : (c w : Plain) → Of Z c → kid_under is_difference 0 c ≡ Some w → Of Z w
  whole_fits (At (h.Operator o.Sub) Done) w k e = absurd cc
  whole_fits (At (h.Operator o.Sub) (More t ts)) w k e =
      let s = kid_sorts (h.Operator o.Sub) (More t ts) Z k.fits.sorted in
      let r = row_taken (row o.Sub) s.0 Z s.2 in
      let p = first_some (sort_of t) (sorts_of ts) s.0 s.1 in
      let number : p.0 ≡ Z = first_number p.0 p.1 s.0 r.2 p.4 in
      let own : Of Z t = record { fits = record { sorted = p.2 ∙ ap Some number; allowed = k.fits.allowed.1.0 }; known = k.known.1.0 } in
      subst (Of Z) (same_Some {A = Plain} t w e) own
  whole_fits (At head kids) w k e = absurd cc
