-- What an expression means in a state that meets an assertion, and what the parts of the assertion say of an object.
use Rattle.std.specs.Prelude.{◌≡◌, ◌≢◌, ◌⊎◌, ℕ, ◌+◌, true, pos, List, [], ◌∷◌, ◌++◌, length, Some, Ok}
use Rattle.std.specs.List.{AllByRecursion}
use Rattle.floyd_int.specs.declared.kinds.Value.{Value}
use Rattle.floyd_int.specs.declared.kinds.Value.TheVariants.{Vundef}
use Rattle.floyd_ctypes.specs.declared.ctype.CType.{CType}
use Rattle.floyd_ctypes.specs.declared.field.Field.{Field}
use Rattle.floyd_ctypes.specs.Has.{has}
use Rattle.floyd_ctypes.specs.Layout.{IsLaidOut}
use Rattle.floyd_ctypes.specs.Structs.{Structs, fields_of}
use Rattle.floyd_memval.specs.Chunks.{chunk_size}
use Rattle.floyd_memval.specs.Encoding.{encoding}
use Rattle.floyd_clight.specs.declared.syntax.Binding.{Binding}
use Rattle.floyd_clight.specs.declared.syntax.Binding.TheVariants.{Block, File}
use Rattle.floyd_clight.specs.declared.syntax.Expr.{Expr}
use Rattle.floyd_clight.specs.Types.{type_of}
use Rattle.floyd_clight_memory.specs.Memory.{Mem, is_aligned}
use Rattle.floyd_clight_heap.specs.Heaplet.{Fits, Heaplet, Joins, OwnsFrom, laid}
use Rattle.floyd_clight_heap.specs.Loads.{Shows}
use Rattle.floyd_clight_machine.specs.Evaluation.{Look, Spot, Temps, eval_by, place_by}
use Rattle.floyd_clight_machine.specs.Footprint.{place_loads, value_loads}
use Rattle.floyd_clight_machine.specs.Machine.{store_at}
use Rattle.floyd_clight_runs.specs.Safe.{AllWithin}
use Rattle.floyd_clight_typing.specs.Expressions.{IsTyped, Names, type_named}
use Rattle.floyd_tree_sorts.specs.declared.sorts.Sort.{Sort, Val as ValSort}
use Rattle.floyd_tree.specs.declared.paths.PathStep.{PathStep}
use Rattle.floyd_tree.specs.Plain.{Plain}
use Rattle.floyd_tree.specs.Types.{SizedType}
use Rattle.floyd_tree.specs.WellSorted.{sort_of}
use Rattle.floyd_tree_values.specs.BuiltIns.{Env}
use Rattle.floyd_tree_values.specs.Data.{IsValue, Val}
use Rattle.floyd_tree_values.specs.Defaults.{value_sort}
use Rattle.floyd_tree_values.specs.Means.{Means}
use Rattle.floyd_assert_cells.specs.Cells as cells
use Rattle.floyd_assert_cells.specs.Scalars.{Scalar, chunk, scalar_of}
use Rattle.floyd_assert_cells.specs.Types.{Step}
use Rattle.floyd_assert_trees.specs.declared.assertion.Assertion.{Assertion}
use Rattle.floyd_assert_trees.specs.declared.assertion.Local.{Local}
use Rattle.floyd_assert_trees.specs.declared.sep.Region.{Region}
use Rattle.floyd_assert_trees.specs.declared.sep.Sep.{Sep}
use Rattle.floyd_assert_trees.specs.declared.sep.Sep.TheVariants.{FieldAt}
use Rattle.floyd_assert_meaning.specs.Assertions.{LocalsHold}
use Rattle.floyd_assert_meaning.specs.Parts.{ObjectHolds, PartsHold, PathMeans, RegionMeans, sized_as}
use Rattle.floyd_assert_meaning.specs.Settings.{Setting}
use Rattle.floyd_fieldpath.specs.Nested.{sized_type, type_at}
use Rattle.floyd_fieldpath.specs.Projections.{project}
use Rattle.floyd_fieldpath.specs.Updates.{update}
use Rattle.floyd_fieldpath_laws.specs.Conditions.{HasSizes}
use Rattle.floyd_symexpr_laws.specs.Laws.{Agrees}
use Rattle.floyd_symexpr_pointer_laws.specs.Laws.{IsMet, Sees}
use Rattle.floyd_symexpr_paths.specs.declared.location.Located.{Located}
use Rattle.floyd_symexpr.specs.declared.evaluation.Evaluated.{Evaluated}
use Rattle.floyd_symexpr.specs.Expressions.{evaluate}
use Rattle.floyd_symexpr.specs.Locate.{locate}

-- ---- states

-- the block of a name in an environment
abbrev pub block_in : Env → Binding → List ℕ → ℕ
block_in env Block x = env.local x
block_in env File x = env.global x

-- each name that may be mentioned is seen in its block
pub record NamesStand (known : Names) (env : Env) (look : Look) : Type 0 where
  pub stand : (binding : Binding) (x : List ℕ) (t : CType) → type_named known binding x ≡ Some t → look.block_of binding x ≡ Some (block_in env binding x)

-- each complete struct lies in memory as its fields do
pub record AreLaidOut (structs : Structs) : Type 0 where
  pub laid : (tag : List ℕ) (fields : List Field) → fields_of structs tag ≡ Some fields → IsLaidOut structs tag fields

-- Temporaries, and what an evaluation sees, meet an assertion under an environment: each temporary of LOCAL has its value,
-- which is one of the machine's, and the parts hold of a heaplet, each place of which is seen to be valid. The names stand
-- in their blocks, and the structs lie as their fields do.
pub record Meets (S : Setting) (env : Env) (look : Look) (temps : Temps) (source : Assertion) (h : Heaplet) (known : Names) : Type 0 where
  pub locals : LocalsHold S.defs env temps source.locals
  pub values : AllByRecursion (λ (l : Local). IsValue (temps l.name)) source.locals
  pub parts : PartsHold S env source.parts h
  pub sees : Sees look h
  pub names : NamesStand known env look
  pub structs : AreLaidOut S.defs.structs

-- ---- expressions

-- the machine evaluates an expression to the value of a term, and loads nothing
pub record IsEvaluated (S : Setting) (env : Env) (look : Look) (temps : Temps) (e : Expr) (t : Plain) : Type 0 where
  pub agrees : Agrees S.defs env t (eval_by S.defs.structs look temps e)
  pub loads : value_loads S.defs.structs look temps e ≡ []

abbrev pub ExpressionsAgree : Type 0
ExpressionsAgree =
    (S : Setting) (env : Env) (look : Look) (temps : Temps) (source : Assertion) (h : Heaplet) (known : Names) (e : Expr) (given : Evaluated) →
    Meets S env look temps source h known → IsTyped S.defs.structs known e →
    evaluate source S.defs.structs e ≡ Ok given → IsMet S env look (record { sides = given.sides; valid = given.valid }) →
    IsEvaluated S env look temps e given.term

-- ---- objects

-- the value of a part has the sort of the type at its path
pub record ObjectIsSorted (structs : Structs) (r : Region) (value : Plain) : Type 0 where
  pub sizes : HasSizes r.ty
  pub nested : SizedType
  pub at : type_at structs r.ty r.path ≡ Some nested
  pub sort : Sort
  pub has : value_sort structs nested.shape ≡ Some sort
  pub sorted : sort_of value ≡ Some sort

abbrev pub PartIsSorted : Structs → Sep → Type 0
PartIsSorted structs (FieldAt r value) = ObjectIsSorted structs r value
PartIsSorted structs part = Unit {0}

-- An object of a type that was located lies in the part of the number that was given: at the root of the part, and at a
-- path that leads on from the part's own.
pub record LiesIn (structs : Structs) (parts : List Sep) (given : Located) (t : CType) : Type 0 where
  pub before : List Sep
  pub region : Region
  pub value : Plain
  pub behind : List Sep
  pub parts_are : parts ≡ before ++ FieldAt region value ∷ behind
  pub number : given.part ≡ length before + 1
  pub root : given.root ≡ region.root
  pub rest : List PathStep
  pub path : given.path ≡ region.path ++ rest
  pub type : SizedType
  pub nested : type_at structs region.ty region.path ≡ Some type
  pub typed : type_at structs type rest ≡ Some (sized_type t)

-- the place to which a path leads from the root of a region
pub record IsAt (S : Setting) (env : Env) (r : Region) (path : List PathStep) (spot : Spot) : Type 0 where
  pub means : RegionMeans S.defs env r
  pub steps : List Step
  pub of_path : PathMeans S.defs env path steps
  pub located : cells.Located S.defs.structs (sized_as r means.sizes) steps means.root
  pub block : spot.block ≡ located.block
  pub offset : spot.offset ≡ located.offset + located.shift

-- The value of a term stands in the heaplet: it is undefined, or one of the object's type. Where it is not undefined, and the
-- bytes of the heaplet are seen, the machine loads it, and what is loaded lies in the heaplet.
pub record IsLoaded (S : Setting) (env : Env) (look : Look) (temps : Temps) (e : Expr) (t : Plain) (h : Heaplet) : Type 0 where
  pub value : Value
  pub means : Means S.defs env t (Val value)
  pub typed : (value ≡ Vundef) ⊎ (has (type_of e) value ≡ true)
  pub is : value ≢ Vundef → Shows look.byte_at h → eval_by S.defs.structs look temps e ≡ Some value
  pub loads : AllWithin h (value_loads S.defs.structs look temps e)

-- a value is stored at a place beside a frame, and then a part holds with another value
pub record IsStored (S : Setting) (env : Env) (r : Region) (updated : Plain) (t : CType) (spot : Spot) (v : Value) (F : Heaplet) (m : Mem) : Type 0 where
  pub mem : Mem
  pub is : store_at t spot v m ≡ Some mem
  pub here : Heaplet
  pub sum : Heaplet
  pub joins : Joins here F sum
  pub fits : Fits sum mem
  pub holds : ObjectHolds S env r updated here

-- a scalar may be written over in a heaplet: its places are aligned, and nothing else has them
pub record IsOwned (s : Scalar) (spot : Spot) (h : Heaplet) : Type 0 where
  pub aligned : is_aligned (chunk s) spot.offset ≡ true
  pub places : OwnsFrom (chunk_size (chunk s)) h spot.block spot.offset

-- What a heaplet of which the part holds has of the object: its place, and where it is a scalar, its value, which is the item
-- of the part's value. If the part has the share 16, a value of its type may be stored
-- there, and then the part holds with the updated value; and so it does of the heaplet with the value laid down there.
pub record StandsIn (S : Setting) (env : Env) (look : Look) (temps : Temps) (parts : List Sep) (e : Expr) (given : Located) (lies : LiesIn S.defs.structs parts given (type_of e)) (h : Heaplet) : Type 0 where
  pub spot : Spot
  pub place : place_by S.defs.structs look temps e ≡ Some spot
  pub at : IsAt S env lies.region given.path spot
  pub loaded : (s : Scalar) (t : Plain) → scalar_of (type_of e) ≡ Some s → project S.defs.structs lies.type lies.rest lies.value ≡ Ok t → IsLoaded S env look temps e t h
  pub stored : (s : Scalar) (v : Value) (new updated : Plain) (F k : Heaplet) (m : Mem) →
      scalar_of (type_of e) ≡ Some s → has (type_of e) v ≡ true → sort_of new ≡ Some ValSort → Means S.defs env new (Val v) →
      update S.defs.structs lies.type lies.rest lies.value new ≡ Ok updated → at.means.share ≡ pos 16 → Joins h F k → Fits k m →
      IsStored S env lies.region updated (type_of e) spot v F m
  pub owned : (s : Scalar) → scalar_of (type_of e) ≡ Some s → at.means.share ≡ pos 16 → IsOwned s spot h
  pub laid_down : (s : Scalar) (v : Value) (new updated : Plain) →
      scalar_of (type_of e) ≡ Some s → has (type_of e) v ≡ true → sort_of new ≡ Some ValSort → Means S.defs env new (Val v) →
      update S.defs.structs lies.type lies.rest lies.value new ≡ Ok updated → at.means.share ≡ pos 16 →
      ObjectHolds S env lies.region updated (laid (encoding (chunk s) v) spot.block spot.offset h)

pub record IsLocated (S : Setting) (env : Env) (look : Look) (temps : Temps) (parts : List Sep) (e : Expr) (given : Located) : Type 0 where
  pub lies : LiesIn S.defs.structs parts given (type_of e)
  pub loads : place_loads S.defs.structs look temps e ≡ []
  pub stands : (h : Heaplet) → ObjectHolds S env lies.region lies.value h → StandsIn S env look temps parts e given lies h

abbrev pub ObjectsLieInParts : Type 0
ObjectsLieInParts =
    (S : Setting) (env : Env) (look : Look) (temps : Temps) (source : Assertion) (h : Heaplet) (known : Names) (e : Expr) (given : Located) →
    Meets S env look temps source h known → IsTyped S.defs.structs known e → AllByRecursion (PartIsSorted S.defs.structs) source.parts →
    locate source S.defs.structs e ≡ Ok given → IsMet S env look (record { sides = given.sides; valid = given.valid }) →
    IsLocated S env look temps source.parts e given
