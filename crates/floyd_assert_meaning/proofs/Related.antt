-- Parts whose terms mean the same, one by one, hold of the same heaplets.
use Rattle.std.proofs.Common.{◌≡◌, ℕ, List, [], ◌∷◌, map, sym, subst}
use Rattle.floyd_tree.specs.declared.paths.PathStep.{PathStep}
use Rattle.floyd_tree.specs.declared.paths.PathStep.TheVariants.{Field, Subscript}
use Rattle.floyd_tree.specs.Plain.{Plain, plains}
use Rattle.floyd_tree_values.specs.BuiltIns.{Env}
use Rattle.floyd_tree_values.specs.Data.{Datum, Number, Val}
use Rattle.floyd_tree_values.specs.Means.{Means, AllMean, none as no_data, more as more_data}
use Rattle.floyd_tree_values.proofs.OneValue.{split, no_data as no_data_of}
use Rattle.floyd_truth.proofs.OneTruth.{giving}
use Rattle.floyd_clight_heap.specs.Heaplet.{Heaplet}
use Rattle.floyd_assert_cells.specs.Cells.{FieldPart, PaddingPart}
use Rattle.floyd_assert_cells.specs.Types.{Step, Dot, At}
use Rattle.floyd_assert_trees.specs.declared.sep.Region.{Region}
use Rattle.floyd_assert_trees.specs.declared.sep.Sep.{Sep}
use Rattle.floyd_assert_trees.specs.declared.sep.Sep.TheVariants.{FieldAt, Padding, Valid, Anything, Predicate}
use Rattle.floyd_assert_meaning.specs.Settings.{Setting}
use Rattle.floyd_assert_meaning.specs.Parts.{PathMeans, RegionMeans, ObjectHolds, PaddingHolds, PartHolds, object, gap, address, anything, predicate, PartsHold, none, more}
use Rattle.floyd_assert_meaning.specs.Same.{Pairwise, StepsAgree, RegionsAgree, PartsAgree}
use Rattle.floyd_assert_meaning.proofs.Inversions.{object_of, gap_of, address_of, predicate_of, none_of, more_of}

-- each term of the one means with f what that of the other means with g
module _ (S : Setting) (env : Env) (f g : List ℕ → Datum) (R : Plain → Plain → Type 0) (goes : (t u : Plain) → R t u → (d : Datum) → Means S.defs (giving env f) t d → Means S.defs (giving env g) u d) where
  pub terms_go : (ts us : List Plain) → Pairwise R ts us → (ds : List Datum) → AllMean S.defs (giving env f) (plains ts) ds → AllMean S.defs (giving env g) (plains us) ds
  terms_go [] [] r ds m = subst (AllMean S.defs (giving env g) (plains [])) (sym (no_data_of m)) no_data
  terms_go [] (u ∷ us) r ds m = absurd r
  terms_go (t ∷ ts) [] r ds m = absurd r
  terms_go (t ∷ ts) (u ∷ us) r ds m =
      let x = split m in
      subst (AllMean S.defs (giving env g) (plains (u ∷ us))) (sym x.is) (more_data (goes t u r.0 x.datum x.first) (terms_go ts us r.1 x.data' x.rest))

  path_goes : (ps qs : List PathStep) → Pairwise (StepsAgree R) ps qs → (steps : List Step) → PathMeans S.defs (giving env f) ps steps → PathMeans S.defs (giving env g) qs steps
  path_goes [] [] r [] m = tt
  path_goes [] [] r (s ∷ steps) m = absurd m
  path_goes [] (q ∷ qs) r steps m = absurd r
  path_goes (p ∷ ps) [] r steps m = absurd r
  path_goes (Field x ∷ ps) (Field y ∷ qs) r [] m = absurd m
  path_goes (Field x ∷ ps) (Field y ∷ qs) r (Dot z ∷ steps) m = (subst (λ n. n ≡ z) r.0 m.0, path_goes ps qs r.1 steps m.1)
  path_goes (Field x ∷ ps) (Field y ∷ qs) r (At i ∷ steps) m = absurd m
  path_goes (Field x ∷ ps) (Subscript u ∷ qs) r steps m = absurd r.0
  path_goes (Subscript t ∷ ps) (Field y ∷ qs) r steps m = absurd r.0
  path_goes (Subscript t ∷ ps) (Subscript u ∷ qs) r [] m = absurd m
  path_goes (Subscript t ∷ ps) (Subscript u ∷ qs) r (Dot z ∷ steps) m = absurd m
  path_goes (Subscript t ∷ ps) (Subscript u ∷ qs) r (At i ∷ steps) m = (goes t u r.0 (Number i) m.0, path_goes ps qs r.1 steps m.1)

  region_goes : (r s : Region) → RegionsAgree R r s → RegionMeans S.defs (giving env f) r → RegionMeans S.defs (giving env g) s
  region_goes r s a m = record {
    share = m.share;
    sizes = m.sizes;
    path = m.path;
    root = m.root;
    of_share = goes r.share s.share a.share (Number m.share) m.of_share;
    of_sizes = terms_go r.ty.sizes s.ty.sizes a.type.sizes (map Number m.sizes) m.of_sizes;
    of_path = path_goes r.path s.path a.path m.path m.of_path;
    of_root = goes r.root s.root a.root (Val m.root) m.of_root;
  }

  object_goes : (r s : Region) (t u : Plain) (h : Heaplet) → RegionsAgree R r s → R t u → ObjectHolds S (giving env f) r t h → ObjectHolds S (giving env g) s u h
  unfolding region_goes
  object_goes r s t u h a b x = (
    region_goes r s a x.0,
    x.1,
    goes t u b x.1 x.2,
    subst (λ shape. FieldPart S.defs.structs x.0.share (record { shape = shape; sizes = x.0.sizes }) x.0.path x.1 x.0.root h) a.type.shape x.3,
  )

  padding_goes : (r s : Region) (h : Heaplet) → RegionsAgree R r s → PaddingHolds S (giving env f) r h → PaddingHolds S (giving env g) s h
  unfolding region_goes
  padding_goes r s h a x = (
    region_goes r s a x.0,
    subst (λ shape. PaddingPart S.defs.structs x.0.share (record { shape = shape; sizes = x.0.sizes }) x.0.path x.0.root h) a.type.shape x.1,
  )

  pub part_goes : (p q : Sep) (h : Heaplet) → PartsAgree R p q → PartHolds S (giving env f) p h → PartHolds S (giving env g) q h
  part_goes (FieldAt r t) (FieldAt s u) h a m = object (object_goes r s t u h a.0 a.1 (object_of m))
  part_goes (Padding r) (Padding s) h a m = gap (padding_goes r s h a (gap_of m))
  part_goes (Valid t) (Valid u) h a m = let x = address_of m in address (x.0, goes t u a (Val x.0) x.1, x.2)
  part_goes Anything Anything h a m = anything
  part_goes (Predicate x ts) (Predicate y us) h a m =
      let p = predicate_of m in
      subst (λ name. PartHolds S (giving env g) (Predicate name us) h) a.0
      (predicate {ds = p.arguments} {o = p.opened} (terms_go ts us a.1 p.arguments p.mean) p.is p.holds)
  part_goes p q h a m = absurd a

  pub parts_go : (ps qs : List Sep) (h : Heaplet) → Pairwise (PartsAgree R) ps qs → PartsHold S (giving env f) ps h → PartsHold S (giving env g) qs h
  parts_go [] [] h a m = none (none_of m)
  parts_go [] (q ∷ qs) h a m = absurd a
  parts_go (p ∷ ps) [] h a m = absurd a
  parts_go (p ∷ ps) (q ∷ qs) h a m =
      let x = more_of m in
      more x.joins (part_goes p q x.here a.0 x.first) (parts_go ps qs x.others a.1 x.rest)

-- the other way round
pub flipped : {A : Type 0} (P Q : A → A → Type 0) → ((x y : A) → P x y → Q y x) → (xs ys : List A) → Pairwise P xs ys → Pairwise Q ys xs
flipped P Q k [] [] a = tt
flipped P Q k [] (y ∷ ys) a = absurd a
flipped P Q k (x ∷ xs) [] a = absurd a
flipped P Q k (x ∷ xs) (y ∷ ys) a = (k x y a.0, flipped P Q k xs ys a.1)

module _ (R : Plain → Plain → Type 0) where
  abbrev pub Back : Plain → Plain → Type 0
  Back t u = R u t

  step_back : (p q : PathStep) → StepsAgree R p q → StepsAgree Back q p
  step_back (Field x) (Field y) a = sym a
  step_back (Field x) (Subscript u) a = absurd a
  step_back (Subscript t) (Field y) a = absurd a
  step_back (Subscript t) (Subscript u) a = a

  region_back : (r s : Region) → RegionsAgree R r s → RegionsAgree Back s r
  region_back r s a = record {
    share = a.share;
    type = record { shape = sym a.type.shape; sizes = flipped R Back (λ t u b. b) r.ty.sizes s.ty.sizes a.type.sizes };
    path = flipped (StepsAgree R) (StepsAgree Back) step_back r.path s.path a.path;
    root = a.root;
  }

  pub part_back : (p q : Sep) → PartsAgree R p q → PartsAgree Back q p
  part_back (FieldAt r t) (FieldAt s u) a = (region_back r s a.0, a.1)
  part_back (Padding r) (Padding s) a = region_back r s a
  part_back (Valid t) (Valid u) a = a
  part_back Anything Anything a = tt
  part_back (Predicate x ts) (Predicate y us) a = (sym a.0, flipped R Back (λ t u b. b) ts us a.1)
  part_back p q a = absurd a

  pub parts_back : (ps qs : List Sep) → Pairwise (PartsAgree R) ps qs → Pairwise (PartsAgree Back) qs ps
  parts_back ps qs a = flipped (PartsAgree R) (PartsAgree Back) part_back ps qs a
