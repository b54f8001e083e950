-- What the parts of an assertion say of a heaplet. Terms have their values under an environment.
use Rattle.std.specs.Prelude.{◌≡◌, ℕ, IsTrue, ℤ, List, [], ◌∷◌, map, Some}
use Rattle.floyd_int.specs.declared.kinds.Value.{Value}
use Rattle.floyd_tree.specs.declared.paths.PathStep.{PathStep}
use Rattle.floyd_tree.specs.declared.paths.PathStep.TheVariants.{Field, Subscript}
use Rattle.floyd_tree.specs.Plain.{Plain, plains}
use Rattle.floyd_tree_values.specs.BuiltIns.{Env}
use Rattle.floyd_tree_values.specs.Data.{Datum, Number, Val}
use Rattle.floyd_tree_values.specs.Means.{Defs, Means, AllMean, inside}
use Rattle.floyd_truth.specs.Truth.{AllTrue}
use Rattle.floyd_clight_heap.specs.Heaplet.{Heaplet, Joins, empty}
use Rattle.floyd_assert_cells.specs.Cells.{FieldPart, PaddingPart, ValidPart}
use Rattle.floyd_assert_cells.specs.Types.{Sized, Step, Dot, At}
use Rattle.floyd_assert_trees.specs.declared.assertion.Assertion.{Assertion}
use Rattle.floyd_assert_trees.specs.declared.sep.Region.{Region}
use Rattle.floyd_assert_trees.specs.declared.sep.Sep.{Sep}
use Rattle.floyd_assert_trees.specs.declared.sep.Sep.TheVariants.{FieldAt, Padding, Valid, Anything, Predicate}
use Rattle.floyd_assert_meaning.specs.Settings.{Setting, AreFor, with_data}
use Rattle.floyd_assert_meaning.specs.Predicates.{Opened, called}

-- a path with numbers for its subscripts
abbrev pub PathMeans : Defs → Env → List PathStep → List Step → Type 0
PathMeans defs env [] [] = Unit {0}
PathMeans defs env (Field x ∷ path) (Dot y ∷ steps) = (x ≡ y) × PathMeans defs env path steps
PathMeans defs env (Subscript t ∷ path) (At i ∷ steps) = Means defs env t (Number i) × PathMeans defs env path steps
PathMeans defs env path steps = ⊥

-- where a region lies: its share, the sizes of its type's arrays, its path, and its root
pub record RegionMeans (defs : Defs) (env : Env) (r : Region) : Type 0 where
  pub share : ℤ
  pub sizes : List ℤ
  pub path : List Step
  pub root : Value
  pub of_share : Means defs env r.share (Number share)
  pub of_sizes : AllMean defs env (plains r.ty.sizes) (map Number sizes)
  pub of_path : PathMeans defs env r.path path
  pub of_root : Means defs env r.root (Val root)

abbrev pub sized_as : Region → List ℤ → Sized
sized_as r sizes = record { shape = r.ty.shape; sizes = sizes }

-- field_at(share, type, path, value, root)
abbrev pub ObjectHolds : Setting → Env → Region → Plain → Heaplet → Type 0
ObjectHolds S env r value h =
    (m : RegionMeans S.defs env r) × (v : Datum) × Means S.defs env value v × FieldPart S.defs.structs m.share (sized_as r m.sizes) m.path v m.root h

-- padding(share, type, path, root)
abbrev pub PaddingHolds : Setting → Env → Region → Heaplet → Type 0
PaddingHolds S env r h = (m : RegionMeans S.defs env r) × PaddingPart S.defs.structs m.share (sized_as r m.sizes) m.path m.root h

-- valid(address)
abbrev pub ValidHolds : Setting → Env → Plain → Heaplet → Type 0
ValidHolds S env address h = (v : Value) × Means S.defs env address (Val v) × ValidPart (λ block. IsTrue (S.is_function block)) v h

mutual
  -- A part holds of a heaplet. TT holds of any. A predicate holds where the assertion does that it stands for, of the data
  -- of its arguments; one that stood for itself for ever would hold of nothing.
  pub data PartHolds (S : Setting) : Env → Sep → Heaplet → Type 0 where
    object : {env : Env} {r : Region} {value : Plain} {h : Heaplet} → ObjectHolds S env r value h → PartHolds S env (FieldAt r value) h
    gap : {env : Env} {r : Region} {h : Heaplet} → PaddingHolds S env r h → PartHolds S env (Padding r) h
    address : {env : Env} {t : Plain} {h : Heaplet} → ValidHolds S env t h → PartHolds S env (Valid t) h
    anything : {env : Env} {h : Heaplet} → PartHolds S env Anything h
    predicate : {env : Env} {name : List ℕ} {terms : List Plain} {ds : List Datum} {o : Opened} {h : Heaplet} →
        AllMean S.defs env (plains terms) ds → called S.preds name ds ≡ Some o → BodyHolds S (inside env o.bindings) o.body h →
        PartHolds S env (Predicate name terms) h

  -- for some data for the existentials each formula is true, and the heaplet is as the parts say
  pub data BodyHolds (S : Setting) : Env → Assertion → Heaplet → Type 0 where
    body : {env : Env} {a : Assertion} {h : Heaplet} → (ds : List Datum) →
        AreFor a.existentials ds → AllTrue S.defs S.has_spec (with_data env a.existentials ds) a.props → PartsHold S (with_data env a.existentials ds) a.parts h →
        BodyHolds S env a h

  -- the heaplet is the sum of one heaplet for each part
  pub data PartsHold (S : Setting) : Env → List Sep → Heaplet → Type 0 where
    none : {env : Env} {h : Heaplet} → h ≡ empty → PartsHold S env [] h
    more : {env : Env} {p : Sep} {ps : List Sep} {g k h : Heaplet} → Joins g k h → PartHolds S env p g → PartsHold S env ps k → PartsHold S env (p ∷ ps) h
