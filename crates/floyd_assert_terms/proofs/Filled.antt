-- Filling an assertion with what f makes of each of its terms.
use Rattle.std.proofs.Common.{◌≡◌, ℕ, ◌+◌, List, [], ◌∷◌, ◌++◌, map, length, drop, Some, refl, sym, ap, subst, ◌∙◌, append_assoc, arith}
use Rattle.std.specs.List.{flat_map}
use Rattle.std.specs.Prelude.{slice_get}
use Rattle.std.proofs.lemmas.List.{append-nil, map-append}
use Rattle.floyd_tree.specs.declared.paths.PathStep.{PathStep}
use Rattle.floyd_tree.specs.declared.paths.PathStep.TheVariants.{Field, Subscript}
use Rattle.floyd_tree.specs.Formulas.{PlainFormula}
use Rattle.floyd_tree.specs.Plain.{Plain}
use Rattle.floyd_assert_trees.specs.declared.assertion.Assertion.{Assertion}
use Rattle.floyd_assert_trees.specs.declared.assertion.Local.{Local}
use Rattle.floyd_assert_trees.specs.declared.sep.Region.{Region}
use Rattle.floyd_assert_trees.specs.declared.sep.Sep.{Sep}
use Rattle.floyd_assert_trees.specs.declared.sep.Sep.TheVariants.{FieldAt, Padding, Valid, Anything, Predicate}
use Rattle.floyd_assert_changes.specs.Changed.{local_terms, part_terms, region_terms, step_terms, terms_in}
use Rattle.floyd_assert_changes.proofs.Parting.{left_at}
use Rattle.floyd_assert_terms.specs.FillClauses.{fill_all, fill_local, fill_part, fill_region, fill_step, fill_term}
use Rattle.floyd_assert_terms.specs.Mapped.{body_mapped, local_mapped, part_mapped, region_mapped, step_mapped}

-- as many as there were
pub as_many : (us ts : List Plain) → length (fill_all fill_term us ts).0 ≡ length us
as_many [] ts = refl
as_many (u ∷ us) ts = omega (arith, as_many us (fill_term u ts).1)

-- one step of a path more
module _ (path : List PathStep) (i : ℕ) (s new : PathStep) (left rest : List Plain) (at : slice_get path i ≡ Some s) (made : (new, rest) ≡ fill_step s left) where
  abbrev tail : List PathStep
  tail = drop (i + 1) path

  next : (new ∷ (fill_all fill_step tail rest).0, (fill_all fill_step tail rest).1) ≡ fill_all fill_step (drop i path) left
  next =
      ap (λ (q : PathStep × List Plain). (q.0 ∷ (fill_all fill_step tail q.1).0, (fill_all fill_step tail q.1).1)) made
      ∙ ap (λ d. fill_all fill_step d left) (sym (left_at path i (i + 1) s refl at))

  pub path_made : (done all : List PathStep) → all ≡ done ++ new ∷ [] → all ++ (fill_all fill_step tail rest).0 ≡ done ++ (fill_all fill_step (drop i path) left).0
  path_made done all h =
      ap (λ a. a ++ (fill_all fill_step tail rest).0) h
      ∙ append_assoc done (new ∷ []) (fill_all fill_step tail rest).0
      ∙ ap (λ (q : List PathStep × List Plain). done ++ q.0) next

  pub path_rest : (fill_all fill_step tail rest).1 ≡ (fill_all fill_step (drop i path) left).1
  path_rest = ap (λ (q : List PathStep × List Plain). q.1) next

module _ (f : Plain → Plain) where
  apart : (a b rest : List Plain) → map f (a ++ b) ++ rest ≡ map f a ++ (map f b ++ rest)
  apart a b rest = ap (λ l. l ++ rest) (map-append f a b) ∙ append_assoc (map f a) (map f b) rest

  filled_terms : (us rest : List Plain) → fill_all fill_term us (map f us ++ rest) ≡ (map f us, rest)
  filled_terms [] rest = refl
  filled_terms (u ∷ us) rest = ap (λ (q : List Plain × List Plain). (f u ∷ q.0, q.1)) (filled_terms us rest)

  filled_all : {T : Type 0} (fill : T → List Plain → T × List Plain) (terms : T → List Plain) (mapped : T → T) → ((x : T) (rest : List Plain) → fill x (map f (terms x) ++ rest) ≡ (mapped x, rest)) → (xs : List T) (rest : List Plain) → fill_all fill xs (map f (flat_map terms xs) ++ rest) ≡ (map mapped xs, rest)
  filled_all fill terms mapped h [] rest = refl
  filled_all {T} fill terms mapped h (x ∷ xs) rest =
      ap (fill_all fill (x ∷ xs)) (apart (terms x) (flat_map terms xs) rest)
      ∙ ap (λ (p : T × List Plain). (p.0 ∷ (fill_all fill xs p.1).0, (fill_all fill xs p.1).1)) (h x (map f (flat_map terms xs) ++ rest))
      ∙ ap (λ (q : List T × List Plain). (mapped x ∷ q.0, q.1)) (filled_all fill terms mapped h xs rest)

  filled_step : (step : PathStep) (rest : List Plain) → fill_step step (map f (step_terms step) ++ rest) ≡ (step_mapped f step, rest)
  filled_step (Field name) rest = refl
  filled_step (Subscript t) rest = refl

  from_path : Region → List Plain → List PathStep × List Plain → Region × List Plain
  from_path r sizes path =
      (record { share = f r.share; ty = record { shape = r.ty.shape; sizes = sizes }; path = path.0; root = (fill_term r.root path.1).0 }, (fill_term r.root path.1).1)

  filled_region : (r : Region) (rest : List Plain) → fill_region r (map f (region_terms r) ++ rest) ≡ (region_mapped f r, rest)
  unfolding from_path
  filled_region r rest =
      let behind = flat_map step_terms r.path ++ r.root ∷ [] in
      ap (λ (s : List Plain × List Plain). from_path r s.0 (fill_all fill_step r.path s.1))
      (ap (fill_all fill_term r.ty.sizes) (apart r.ty.sizes behind rest) ∙ filled_terms r.ty.sizes (map f behind ++ rest))
      ∙ ap (from_path r (map f r.ty.sizes))
      (ap (fill_all fill_step r.path) (apart (flat_map step_terms r.path) (r.root ∷ []) rest) ∙ filled_all fill_step step_terms (step_mapped f) filled_step r.path (f r.root ∷ rest))

  filled_part : (part : Sep) (rest : List Plain) → fill_part part (map f (part_terms part) ++ rest) ≡ (part_mapped f part, rest)
  filled_part (FieldAt region value) rest =
      ap (fill_part (FieldAt region value)) (apart (region_terms region) (value ∷ []) rest)
      ∙ ap (λ (p : Region × List Plain). (FieldAt p.0 (fill_term value p.1).0, (fill_term value p.1).1)) (filled_region region (f value ∷ rest))
  filled_part (Padding region) rest = ap (λ (p : Region × List Plain). (Padding p.0, p.1)) (filled_region region rest)
  filled_part (Valid address) rest = refl
  filled_part Anything rest = refl
  filled_part (Predicate name terms) rest = ap (λ (p : List Plain × List Plain). (Predicate name p.0, p.1)) (filled_terms terms rest)

  filled_locals : (locals : List Local) (rest : List Plain) → fill_all fill_local locals (map f (local_terms locals) ++ rest) ≡ (map (local_mapped f) locals, rest)
  filled_locals [] rest = refl
  filled_locals (l ∷ locals) rest = ap (λ (q : List Local × List Plain). (local_mapped f l ∷ q.0, q.1)) (filled_locals locals rest)

  locals_there : (a : Assertion) → fill_all fill_local a.locals (map f (terms_in a)) ≡ (map (local_mapped f) a.locals, map f (flat_map part_terms a.parts))
  locals_there a =
      ap (fill_all fill_local a.locals) (map-append f (local_terms a.locals) (flat_map part_terms a.parts))
      ∙ filled_locals a.locals (map f (flat_map part_terms a.parts))

  parts_there : (a : Assertion) → (fill_all fill_part a.parts (map f (flat_map part_terms a.parts))).0 ≡ map (part_mapped f) a.parts
  parts_there a =
      ap (λ (l : List Plain). (fill_all fill_part a.parts l).0) (sym (append-nil (map f (flat_map part_terms a.parts))))
      ∙ ap (λ (p : List Sep × List Plain). p.0) (filled_all fill_part part_terms (part_mapped f) filled_part a.parts [])

pub filled_is : (a : Assertion) (props : List PlainFormula) (terms left : List Plain) (locals : List Local) (parts : List Sep) → (locals, left) ≡ fill_all fill_local a.locals terms → parts ≡ (fill_all fill_part a.parts left).0 → (f : Plain → Plain) → terms ≡ map f (terms_in a) → record { existentials = a.existentials; props = props; locals = locals; parts = parts } ≡ body_mapped f props a
filled_is a props terms left locals parts l p f e =
    let there : (locals, left) ≡ (map (local_mapped f) a.locals, map f (flat_map part_terms a.parts)) = l ∙ ap (fill_all fill_local a.locals) e ∙ locals_there f a in
    let is_locals : locals ≡ map (local_mapped f) a.locals = ap (λ (q : List Local × List Plain). q.0) there in
    let is_left : left ≡ map f (flat_map part_terms a.parts) = ap (λ (q : List Local × List Plain). q.1) there in
    let is_parts : parts ≡ map (part_mapped f) a.parts = p ∙ ap (λ (l : List Plain). (fill_all fill_part a.parts l).0) is_left ∙ parts_there f a in
    ap (λ (ls : List Local). record { existentials = a.existentials; props = props; locals = ls; parts = parts }) is_locals
    ∙ ap (λ (ps : List Sep). record { existentials = a.existentials; props = props; locals = map (local_mapped f) a.locals; parts = ps }) is_parts
