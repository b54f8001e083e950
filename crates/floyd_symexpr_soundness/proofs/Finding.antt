-- The part in which an object was found.
use Rattle.std.proofs.Common.{◌≡◌, ℕ, suc, ◌+◌, true, false, ◌&&◌, inl, inr, List, [], ◌∷◌, ◌++◌, length, Option, Some, None, refl, sym, ap, ap₂, ◌∙◌, arith}
use Rattle.std.specs.Prelude.{option_and_then}
use Rattle.std.specs.Option.{option_map_or, option_or}
use Rattle.std.proofs.lemmas.Bool.{and_parts}
use Rattle.std.proofs.lemmas.Option.{cond_some}
use Rattle.std.proofs.lemmas.Slice.Eq.{bytes_eq-Decides}
use Rattle.floyd_ctypes.specs.Structs.{Structs}
use Rattle.floyd_tree.specs.declared.paths.PathStep.{PathStep}
use Rattle.floyd_tree.specs.declared.paths.PathStep.TheVariants.{Field, Subscript}
use Rattle.floyd_tree.specs.Plain.{Plain}
use Rattle.floyd_tree.specs.Types.{SizedType}
use Rattle.floyd_assert_cells.proofs.FormLaws.{chained}
use Rattle.floyd_assert_trees.specs.declared.sep.Region.{Region}
use Rattle.floyd_assert_trees.specs.declared.sep.Sep.{Sep}
use Rattle.floyd_assert_trees.specs.declared.sep.Sep.TheVariants.{FieldAt, Padding, Valid, Anything, Predicate}
use Rattle.floyd_arith.specs.Same.{same_term}
use Rattle.floyd_arith.proofs.SameLemmas.{same_term_true}
use Rattle.floyd_symexpr_paths.specs.declared.lvalue.Taken.{Taken}
use Rattle.floyd_symexpr_paths.specs.declared.matching.Found.{Found}
use Rattle.floyd_symexpr_paths.specs.Locating.{agreeing_end, agreeing_step, agrees, found, found_from, found_in, holds, identical_steps, is_prefix, with_first, without_first}
use Rattle.floyd_symexpr_paths.specs.Places.{path_of}
use Rattle.floyd_symexpr_paths.specs.Same.{same_type}
use Rattle.floyd_symexpr_paths.proofs.SameLemmas.{same_type_true}
use Rattle.floyd_symexpr_soundness.proofs.Adding.{IsFormOf}

-- ---- the part's own steps

identical_is : (step other : PathStep) → identical_steps step other ≡ true → other ≡ step
identical_is (Field x) (Field y) e = ap Field (sym ((bytes_eq-Decides x y).0 e))
identical_is (Subscript i) (Subscript j) e = ap Subscript (sym (same_term_true i j e))
identical_is (Field x) (Subscript j) e = absurd cc
identical_is (Subscript i) (Field y) e = absurd cc

-- a form that begins with a path
pub record Begun (path : List PathStep) (form : List Taken) : Type 0 where
  pub own : List Taken
  pub rest : List Taken
  pub is : form ≡ own ++ rest
  pub path_is : path_of own ≡ path

pub begun : (path : List PathStep) (form : List Taken) → is_prefix path form ≡ true → Begun path form
begun [] form e = record { own = []; rest = form; is = refl; path_is = refl }
begun (step ∷ path) [] e = absurd cc
begun (step ∷ path) (taken ∷ form) e =
    let p = and_parts (identical_steps step taken.step) (is_prefix path form) e in
    let b = begun path form p.1 in
    record { own = taken ∷ b.own; rest = b.rest; is = ap (λ f. taken ∷ f) b.is; path_is = ap₂ (λ s f. s ∷ f) (identical_is step taken.step p.0) b.path_is }

-- the types along a form agree on its first steps, and from there on
pub ends_parts : (structs : Structs) (t u : SizedType) (own rest : List Taken) → agreeing_end structs t (own ++ rest) ≡ Some u → (w : SizedType) × (agreeing_end structs t own ≡ Some w) × (agreeing_end structs w rest ≡ Some u)
ends_parts structs t u [] rest e = (t, refl, e)
ends_parts structs t u (taken ∷ own) rest e =
    let a = chained (λ after. agreeing_end structs after (own ++ rest)) (agreeing_step structs t taken) u e in
    let p = ends_parts structs a.0 u own rest a.2 in
    (p.0, ap (option_and_then (λ after. agreeing_end structs after own)) a.1 ∙ p.1, p.2)

-- ---- the part

-- a part that has an object
pub record HasObject (structs : Structs) (root : Plain) (last : SizedType) (form : List Taken) (region : Region) : Type 0 where
  pub root_is : root ≡ region.root
  pub begins : Begun region.path form
  pub ends : agreeing_end structs region.ty form ≡ Some last

agrees_is : (o : Option SizedType) (last : SizedType) → option_map_or (λ u. same_type u last) o false ≡ true → o ≡ Some last
agrees_is (Some u) last e = ap Some (same_type_true u last e)
agrees_is None last e = absurd cc

has_object : (structs : Structs) (root : Plain) (last : SizedType) (form : List Taken) (region : Region) → holds structs root last form region ≡ true → HasObject structs root last form region
has_object structs root last form region e =
    let p = and_parts (same_term root region.root) (is_prefix region.path form && agrees structs region.ty form last) e in
    let q = and_parts (is_prefix region.path form) (agrees structs region.ty form last) p.1 in
    record { root_is = same_term_true root region.root p.0; begins = begun region.path form q.0; ends = agrees_is (agreeing_end structs region.ty form) last q.1 }

-- what is answered of a part of that number
abbrev pub found_as : List Taken → Region → ℕ → Found
found_as form region number = record { form = form; number = number; ty = region.ty; own_steps = length region.path }

-- what was found among parts that are numbered from a number on
pub record PartFound (structs : Structs) (root : Plain) (last : SizedType) (form : List Taken) (from : ℕ) (parts : List Sep) (f : Found) : Type 0 where
  pub before : List Sep
  pub region : Region
  pub value : Plain
  pub behind : List Sep
  pub parts_are : parts ≡ before ++ FieldAt region value ∷ behind
  pub is : f ≡ found_as form region (from + length before)
  pub has : HasObject structs root last form region

module _ (structs : Structs) (root : Plain) (last : SizedType) (form : List Taken) where
  no_more : (n : ℕ) → n ≡ n + 0
  no_more n = omega arith

  one_more : (n k : ℕ) → n + 1 + k ≡ n + suc k
  one_more n k = omega arith

  found_here : (part : Sep) (n : ℕ) (f : Found) (parts : List Sep) → found_in structs root last form n part ≡ Some f → PartFound structs root last form n (part ∷ parts) f
  found_here (FieldAt region value) n f parts e =
      let p = cond_some (holds structs root last form region) (found_as form region n) f e in
      record {
        before = [];
        region = region;
        value = value;
        behind = parts;
        parts_are = refl;
        is = sym p.1 ∙ ap (found_as form region) (no_more n);
        has = has_object structs root last form region p.0;
      }
  found_here (Padding region) n f parts e = absurd cc
  found_here (Valid address) n f parts e = absurd cc
  found_here Anything n f parts e = absurd cc
  found_here (Predicate name terms) n f parts e = absurd cc

  pub found_part : (parts : List Sep) (n : ℕ) (f : Found) → found_from structs root last form n parts ≡ Some f → PartFound structs root last form n parts f
  found_part [] n f e = absurd cc
  found_part (part ∷ parts) n f e = by (found_in structs root last form n part) refl e (λ g. found_part parts (n + 1) f g)
    where
      by : (o : Option Found) → found_in structs root last form n part ≡ o → option_or o (found_from structs root last form (n + 1) parts) ≡ Some f → (found_from structs root last form (n + 1) parts ≡ Some f → PartFound structs root last form (n + 1) parts f) →
          PartFound structs root last form n (part ∷ parts) f
      by (Some g) h i later = found_here part n f parts (h ∙ i)
      by None h i later =
          let r = later i in
          record {
            before = part ∷ r.before;
            region = r.region;
            value = r.value;
            behind = r.behind;
            parts_are = ap (λ ps. part ∷ ps) r.parts_are;
            is = r.is ∙ ap (found_as form r.region) (one_more n (length r.before));
            has = r.has;
          }

-- ---- the forms of a path

-- the form of the path with which the object was found
pub record FormFound (structs : Structs) (root : Plain) (last : SizedType) (form : List Taken) (parts : List Sep) (f : Found) : Type 0 where
  pub used : List Taken
  pub of : IsFormOf form used
  pub part : PartFound structs root last used 1 parts f

pub form_found : (structs : Structs) (parts : List Sep) (root : Plain) (last : SizedType) (form : List Taken) (f : Found) → found structs parts root last form ≡ Some f → FormFound structs root last form parts f
form_found structs parts root last form f e = by (found_from structs root last form 1 parts) refl e
  where
    third : (o : Option Found) → option_and_then (λ shorter. found_from structs root last shorter 1 parts) (without_first form) ≡ o → option_or o (found_from structs root last (with_first form) 1 parts) ≡ Some f → FormFound structs root last form parts f
    third (Some g) h i =
        let s = chained (λ shorter. found_from structs root last shorter 1 parts) (without_first form) f (h ∙ i) in
        record { used = s.0; of = inr (inl s.1); part = found_part structs root last s.0 parts 1 f s.2 }
    third None h i = record { used = with_first form; of = inr (inr refl); part = found_part structs root last (with_first form) parts 1 f i }

    by : (o : Option Found) → found_from structs root last form 1 parts ≡ o → option_or o (option_or (option_and_then (λ shorter. found_from structs root last shorter 1 parts) (without_first form)) (found_from structs root last (with_first form) 1 parts)) ≡ Some f →
        FormFound structs root last form parts f
    by (Some g) h i = record { used = form; of = inl refl; part = found_part structs root last form parts 1 f (h ∙ i) }
    by None h i = third (option_and_then (λ shorter. found_from structs root last shorter 1 parts) (without_first form)) refl i
