-- Assertions with other terms, each of which means what the old one does.
use Rattle.std.proofs.Common.{ℕ, List, [], ◌∷◌, ◌++◌, map, refl}
use Rattle.std.specs.List.{AllByRecursion, flat_map}
use Rattle.floyd_tree.specs.declared.paths.PathStep.{PathStep}
use Rattle.floyd_tree.specs.declared.paths.PathStep.TheVariants.{Field, Subscript}
use Rattle.floyd_tree.specs.Formulas.{PlainFormula}
use Rattle.floyd_tree.specs.Plain.{Plain}
use Rattle.floyd_tree_values.specs.BuiltIns.{Env}
use Rattle.floyd_tree_values.specs.Data.{Datum}
use Rattle.floyd_assert_trees.specs.declared.assertion.Assertion.{Assertion}
use Rattle.floyd_assert_trees.specs.declared.assertion.Local.{Local}
use Rattle.floyd_assert_trees.specs.declared.sep.Region.{Region}
use Rattle.floyd_assert_trees.specs.declared.sep.Sep.{Sep}
use Rattle.floyd_assert_trees.specs.declared.sep.Sep.TheVariants.{FieldAt, Padding, Valid, Anything, Predicate}
use Rattle.floyd_assert_changes.specs.Changed.{local_terms, part_terms, region_terms, step_terms, terms_in}
use Rattle.floyd_assert_terms.specs.Mapped.{body_mapped, local_mapped, part_mapped, region_mapped, step_mapped}
use Rattle.floyd_assert_meaning.specs.Alike.{Alike, LocalsAlike, MeanAlike, SayAlike}
use Rattle.floyd_assert_meaning.specs.Same.{Pairwise, PartsAgree, RegionsAgree, StepsAgree}
use Rattle.floyd_assert_meaning.specs.Settings.{AreFor, Setting, with_each}
use Rattle.floyd_assert_laws.proofs.Agreeing.{each_append}

module _ (t : Plain → Plain) (R : Plain → Plain → Type 0) where
  abbrev To : Plain → Type 0
  To u = R (t u) u

  terms_to : (us : List Plain) → AllByRecursion To us → Pairwise R (map t us) us
  terms_to [] h = tt
  terms_to (u ∷ us) h = (h.0, terms_to us h.1)

  path_to : (path : List PathStep) → AllByRecursion To (flat_map step_terms path) → Pairwise (StepsAgree R) (map (step_mapped t) path) path
  path_to [] h = tt
  path_to (Field x ∷ path) h = (refl, path_to path h)
  path_to (Subscript u ∷ path) h = (h.0, path_to path h.1)

  region_to : (r : Region) → AllByRecursion To (region_terms r) → RegionsAgree R (region_mapped t r) r
  region_to r h =
      let p = each_append To r.ty.sizes (flat_map step_terms r.path ++ r.root ∷ []) h.1 in
      let q = each_append To (flat_map step_terms r.path) (r.root ∷ []) p.1 in
      record {
        share = h.0;
        type = record { shape = refl; sizes = terms_to r.ty.sizes p.0 };
        path = path_to r.path q.0;
        root = q.1.0;
      }

  part_to : (p : Sep) → AllByRecursion To (part_terms p) → PartsAgree R (part_mapped t p) p
  part_to (FieldAt r u) h =
      let p = each_append To (region_terms r) (u ∷ []) h in
      (region_to r p.0, p.1.0)
  part_to (Padding r) h = region_to r h
  part_to (Valid u) h = h.0
  part_to Anything h = tt
  part_to (Predicate name us) h = (refl, terms_to us h)

  pub parts_to : (ps : List Sep) → AllByRecursion To (flat_map part_terms ps) → Pairwise (PartsAgree R) (map (part_mapped t) ps) ps
  parts_to [] h = tt
  parts_to (p ∷ ps) h =
      let q = each_append To (part_terms p) (flat_map part_terms ps) h in
      (part_to p q.0, parts_to ps q.1)

module _ (S : Setting) (env : Env) (f : List ℕ → Datum) (t : Plain → Plain) where
  locals_to : (g : List ℕ → Datum) (ls : List Local) → AllByRecursion (λ u. MeanAlike S env g g (t u) u) (local_terms ls) → Pairwise (LocalsAlike S env g g) (map (local_mapped t) ls) ls
  locals_to g [] h = tt
  locals_to g (l ∷ ls) h = ((refl, h.0), locals_to g ls h.1)

  -- the assertion with these formulas and these terms, which say the same for all data for its existentials
  pub mapped_alike : (props : List PlainFormula) (a : Assertion) → ((ds : List Datum) → AreFor a.existentials ds → Pairwise (SayAlike S env (with_each f a.existentials ds) (with_each f a.existentials ds)) props a.props × AllByRecursion (λ u. MeanAlike S env (with_each f a.existentials ds) (with_each f a.existentials ds) (t u) u) (terms_in a)) → Alike S env f f (body_mapped t props a) a
  mapped_alike props a k = record {
    sorts = refl;
    bodies = λ ds s.
        let g = with_each f a.existentials ds in
        let p = k ds s in
        let q = each_append (λ u. MeanAlike S env g g (t u) u) (local_terms a.locals) (flat_map part_terms a.parts) p.1 in
        record {
          props = p.0;
          locals = locals_to g a.locals q.0;
          parts = parts_to t (MeanAlike S env g g) a.parts q.1;
        };
  }
