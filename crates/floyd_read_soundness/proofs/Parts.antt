-- The part in which an object lies, among the parts of a source.
use Rattle.std.proofs.Common.{◌≡◌, ℕ, suc, ◌+◌, ◌-◌, List, [], ◌∷◌, ◌++◌, drop, take, length, Option, Some, Result, Ok, refl, ap, ap₂, ◌∙◌, append_assoc, arith}
use Rattle.std.specs.Prelude.{slice_get}
use Rattle.std.proofs.Math.Seq.{drop-append_seam, take-append_seam}
use Rattle.floyd_text.specs.declared.refusal.No.{No}
use Rattle.floyd_ctypes.specs.declared.ctype.CType.{CType}
use Rattle.floyd_ctypes.specs.Structs.{Structs}
use Rattle.floyd_clight_heap.specs.Heaplet.{Heaplet, Joins}
use Rattle.floyd_clight_heap.proofs.Sums.{assoc, assoc_back, comm}
use Rattle.floyd_tree.specs.declared.paths.PathStep.{PathStep}
use Rattle.floyd_tree.specs.Plain.{Plain}
use Rattle.floyd_tree.specs.Types.{SizedType}
use Rattle.floyd_tree_values.specs.BuiltIns.{Env}
use Rattle.floyd_assert_trees.specs.declared.sep.Sep.{Sep}
use Rattle.floyd_assert_trees.specs.declared.sep.Sep.TheVariants.{FieldAt}
use Rattle.floyd_assert_meaning.specs.Parts.{PartHolds, PartsHold, more}
use Rattle.floyd_assert_meaning.specs.Settings.{Setting}
use Rattle.floyd_assert_meaning.proofs.Inversions.{more_of}
use Rattle.floyd_fieldpath.specs.Nested.{nested_type, or_illegal}
use Rattle.floyd_fieldpath.specs.Projections.{project}
use Rattle.floyd_fieldpath.specs.Updates.{update}
use Rattle.floyd_fieldpath.specs.Written.{on_ok}
use Rattle.floyd_goal_parts.specs.Sources.{in_place, or_missing, part_at}
use Rattle.floyd_symexpr_paths.specs.declared.location.Located.{Located}
use Rattle.floyd_symexpr_soundness.specs.Laws.{LiesIn}
use Rattle.floyd_forward.specs.Objects.{item_in, part_with, region_at, region_of, steps_inside}

-- ---- lists of parts

at_front : (before : List Sep) (p : Sep) (behind : List Sep) → slice_get (before ++ p ∷ behind) (length before) ≡ Some p
at_front [] p behind = refl
at_front (b ∷ before) p behind = at_front before p behind

past_front : (before : List Sep) (p : Sep) (behind : List Sep) → drop (suc (length before)) (before ++ p ∷ behind) ≡ behind
past_front [] p behind = refl
past_front (b ∷ before) p behind = past_front before p behind

one_more : (n : ℕ) → n + 1 ≡ suc n
one_more n = omega arith

one_less : (n : ℕ) → suc n - 1 ≡ n
one_less n = omega arith

-- ---- what a row finds at a part

module _ (structs : Structs) (parts : List Sep) (given : Located) (t : CType) (lies : LiesIn structs parts given t) where
  abbrev there : Sep
  there = FieldAt lies.region lies.value

  number : given.part ≡ suc (length lies.before)
  number = lies.number ∙ one_more (length lies.before)

  part_there : part_at parts given.part ≡ Ok there
  part_there = ap₂ (λ (ps : List Sep) (k : ℕ). part_at ps k) lies.parts_are number ∙ ap (or_missing (suc (length lies.before))) (at_front lies.before there lies.behind)

  pub region_there : region_at parts given.part ≡ Ok (lies.region, lies.value)
  region_there = ap (λ (d : Result Sep No). on_ok d region_of) part_there

  steps_are : steps_inside given.path lies.region ≡ lies.rest
  steps_are = ap (drop (length lies.region.path)) lies.path ∙ drop-append_seam lies.region.path lies.rest

  nested_is : nested_type structs lies.region.ty lies.region.path ≡ Ok lies.type
  nested_is = ap (λ (o : Option SizedType). or_illegal o) lies.nested

  -- the object's value is the item of the part's value
  pub item_is : item_in structs given.path (lies.region, lies.value) ≡ project structs lies.type lies.rest lies.value
  item_is =
      ap (λ (d : Result SizedType No). on_ok d (λ u. project structs u (steps_inside given.path lies.region) lies.value)) nested_is
      ∙ ap (λ (path : List PathStep). project structs lies.type path lies.value) steps_are

  -- and with another value for the object the part has an updated value
  pub updated_is : (v : Plain) → part_with structs given.path v (lies.region, lies.value) ≡ on_ok (update structs lies.type lies.rest lies.value v) (λ whole. Ok (FieldAt lies.region whole))
  updated_is v =
      ap (λ (d : Result SizedType No). on_ok d (λ u. on_ok (update structs u (steps_inside given.path lies.region) lies.value v) (λ whole. Ok (FieldAt lies.region whole)))) nested_is
      ∙ ap (λ (path : List PathStep). on_ok (update structs lies.type path lies.value v) (λ whole. Ok (FieldAt lies.region whole))) steps_are

  -- another part in its place
  pub in_place_is : (q : Sep) → in_place given.part (q ∷ []) parts ≡ lies.before ++ q ∷ lies.behind
  in_place_is q =
      let whole = lies.before ++ there ∷ lies.behind in
      let k = suc (length lies.before) in
      ap₂ (λ (n : ℕ) (ps : List Sep). in_place n (q ∷ []) ps) number lies.parts_are
      ∙ ap (λ (n : ℕ). (take n whole ++ q ∷ []) ++ drop k whole) (one_less (length lies.before))
      ∙ ap₂ (λ (a b : List Sep). (a ++ q ∷ []) ++ b) (take-append_seam lies.before (there ∷ lies.behind)) (past_front lies.before there lies.behind)
      ∙ append_assoc lies.before (q ∷ []) lies.behind

-- ---- what a part has of a heaplet

module _ (S : Setting) (env : Env) where
  -- a part has a heaplet beside that of the others, and another part may stand in its place
  pub record OnePart (before : List Sep) (p : Sep) (behind : List Sep) (h : Heaplet) : Type 0 where
    pub here : Heaplet
    pub others : Heaplet
    pub joins : Joins here others h
    pub holds : PartHolds S env p here
    pub back : (q : Sep) (g k : Heaplet) → Joins g others k → PartHolds S env q g → PartsHold S env (before ++ q ∷ behind) k

  pub one_part : (before : List Sep) (p : Sep) (behind : List Sep) (h : Heaplet) → PartsHold S env (before ++ p ∷ behind) h → OnePart before p behind h
  one_part [] p behind h m =
      let x = more_of m in
      record { here = x.here; others = x.others; joins = x.joins; holds = x.first; back = λ q g k j holds. more j holds x.rest }
  one_part (b ∷ before) p behind h m =
      let x = more_of m in
      let z = one_part before p behind x.others x.rest in
      let a = assoc_back (comm z.joins) x.joins in
      record {
        here = z.here;
        others = a.0;
        joins = comm a.2;
        holds = z.holds;
        back = λ q g k j holds. (let c = assoc a.1 (comm j) in more c.2 x.first (z.back q g c.0 (comm c.1) holds));
      }
