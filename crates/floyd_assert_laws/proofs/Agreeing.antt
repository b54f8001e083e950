-- Parts whose terms are related one by one: each to itself, or each after changes to what it was.
use Rattle.std.proofs.Common.{◌≡◌, ℕ, List, [], ◌∷◌, ◌++◌, map, refl}
use Rattle.std.specs.List.{AllByRecursion, flat_map}
use Rattle.floyd_tree.specs.declared.paths.PathStep.{PathStep}
use Rattle.floyd_tree.specs.declared.paths.PathStep.TheVariants.{Field, Subscript}
use Rattle.floyd_tree.specs.Plain.{Plain}
use Rattle.floyd_truth.specs.Capture.{Changes}
use Rattle.floyd_truth.specs.Replace.{replaced}
use Rattle.floyd_assert_trees.specs.declared.sep.Region.{Region}
use Rattle.floyd_assert_trees.specs.declared.sep.Sep.{Sep}
use Rattle.floyd_assert_trees.specs.declared.sep.Sep.TheVariants.{FieldAt, Padding, Valid, Anything, Predicate}
use Rattle.floyd_assert_changes.specs.Changed.{step_terms, region_terms, part_terms, step_after, region_after, part_after}
use Rattle.floyd_assert_meaning.specs.Same.{Pairwise, StepsAgree, RegionsAgree, PartsAgree}

pub each_append : (P : Plain → Type 0) (xs ys : List Plain) → AllByRecursion P (xs ++ ys) → AllByRecursion P xs × AllByRecursion P ys
each_append P [] ys h = (tt, h)
each_append P (x ∷ xs) ys h = let p = each_append P xs ys h.1 in ((h.0, p.0), p.1)

-- each term to itself
module _ (R : Plain → Plain → Type 0) where
  abbrev Self : Plain → Type 0
  Self t = R t t

  terms_self : (ts : List Plain) → AllByRecursion Self ts → Pairwise R ts ts
  terms_self [] h = tt
  terms_self (t ∷ ts) h = (h.0, terms_self ts h.1)

  path_self : (path : List PathStep) → AllByRecursion Self (flat_map step_terms path) → Pairwise (StepsAgree R) path path
  path_self [] h = tt
  path_self (Field x ∷ path) h = (refl, path_self path h)
  path_self (Subscript t ∷ path) h = (h.0, path_self path h.1)

  region_self : (r : Region) → AllByRecursion Self (region_terms r) → RegionsAgree R r r
  region_self r h =
      let p = each_append Self r.ty.sizes (flat_map step_terms r.path ++ r.root ∷ []) h.1 in
      let q = each_append Self (flat_map step_terms r.path) (r.root ∷ []) p.1 in
      record {
        share = h.0;
        type = record { shape = refl; sizes = terms_self r.ty.sizes p.0 };
        path = path_self r.path q.0;
        root = q.1.0;
      }

  pub part_self : (p : Sep) → AllByRecursion Self (part_terms p) → PartsAgree R p p
  part_self (FieldAt r t) h =
      let p = each_append Self (region_terms r) (t ∷ []) h in
      (region_self r p.0, p.1.0)
  part_self (Padding r) h = region_self r h
  part_self (Valid t) h = h.0
  part_self Anything h = tt
  part_self (Predicate name ts) h = (refl, terms_self ts h)

  pub parts_self : (ps : List Sep) → AllByRecursion Self (flat_map part_terms ps) → Pairwise (PartsAgree R) ps ps
  parts_self [] h = tt
  parts_self (p ∷ ps) h =
      let q = each_append Self (part_terms p) (flat_map part_terms ps) h in
      (part_self p q.0, parts_self ps q.1)

-- each term after changes to what it was
module _ (ch : Changes) (R : Plain → Plain → Type 0) where
  abbrev After : Plain → Type 0
  After t = R (replaced ch t) t

  terms_after : (ts : List Plain) → AllByRecursion After ts → Pairwise R (map (replaced ch) ts) ts
  terms_after [] h = tt
  terms_after (t ∷ ts) h = (h.0, terms_after ts h.1)

  path_after : (path : List PathStep) → AllByRecursion After (flat_map step_terms path) → Pairwise (StepsAgree R) (map (step_after ch) path) path
  path_after [] h = tt
  path_after (Field x ∷ path) h = (refl, path_after path h)
  path_after (Subscript t ∷ path) h = (h.0, path_after path h.1)

  region_agrees : (r : Region) → AllByRecursion After (region_terms r) → RegionsAgree R (region_after ch r) r
  region_agrees r h =
      let p = each_append After r.ty.sizes (flat_map step_terms r.path ++ r.root ∷ []) h.1 in
      let q = each_append After (flat_map step_terms r.path) (r.root ∷ []) p.1 in
      record {
        share = h.0;
        type = record { shape = refl; sizes = terms_after r.ty.sizes p.0 };
        path = path_after r.path q.0;
        root = q.1.0;
      }

  pub part_agrees : (p : Sep) → AllByRecursion After (part_terms p) → PartsAgree R (part_after ch p) p
  part_agrees (FieldAt r t) h =
      let p = each_append After (region_terms r) (t ∷ []) h in
      (region_agrees r p.0, p.1.0)
  part_agrees (Padding r) h = region_agrees r h
  part_agrees (Valid t) h = h.0
  part_agrees Anything h = tt
  part_agrees (Predicate name ts) h = (refl, terms_after ts h)

  pub parts_agree : (ps : List Sep) → AllByRecursion After (flat_map part_terms ps) → Pairwise (PartsAgree R) (map (part_after ch) ps) ps
  parts_agree [] h = tt
  parts_agree (p ∷ ps) h =
      let q = each_append After (part_terms p) (flat_map part_terms ps) h in
      (part_agrees p q.0, parts_agree ps q.1)
