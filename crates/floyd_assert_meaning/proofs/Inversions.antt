-- What a part that holds comes from.
use Rattle.std.proofs.Common.{◌≡◌, ℕ, List, [], ◌∷◌}
use Rattle.floyd_tree.specs.Plain.{Plain}
use Rattle.floyd_tree_values.specs.BuiltIns.{Env}
use Rattle.floyd_tree_values.specs.Data.{Datum}
use Rattle.floyd_truth.specs.Truth.{AllTrue}
use Rattle.floyd_clight_heap.specs.Heaplet.{Heaplet, Joins, empty}
use Rattle.floyd_assert_trees.specs.declared.assertion.Assertion.{Assertion}
use Rattle.floyd_assert_trees.specs.declared.sep.Region.{Region}
use Rattle.floyd_assert_trees.specs.declared.sep.Sep.{Sep}
use Rattle.floyd_assert_trees.specs.declared.sep.Sep.TheVariants.{FieldAt, Padding, Valid, Predicate}
use Rattle.floyd_assert_meaning.specs.Settings.{Setting, AreFor, with_data}
use Rattle.floyd_assert_meaning.specs.Parts.{ObjectHolds, PaddingHolds, ValidHolds, PartHolds, object, gap, address, predicate, BodyHolds, body, PartsHold, none, more}
use Rattle.floyd_assert_meaning.specs.Laws.{StandsFor}

pub object_of : {S : Setting} {env : Env} {r : Region} {value : Plain} {h : Heaplet} → PartHolds S env (FieldAt r value) h → ObjectHolds S env r value h
object_of (object x) = x

pub gap_of : {S : Setting} {env : Env} {r : Region} {h : Heaplet} → PartHolds S env (Padding r) h → PaddingHolds S env r h
gap_of (gap x) = x

pub address_of : {S : Setting} {env : Env} {t : Plain} {h : Heaplet} → PartHolds S env (Valid t) h → ValidHolds S env t h
address_of (address x) = x

pub predicate_of : {S : Setting} {env : Env} {name : List ℕ} {terms : List Plain} {h : Heaplet} → PartHolds S env (Predicate name terms) h → StandsFor S env name terms h
predicate_of (predicate {ds = ds} {o = o} m e b) = record { arguments = ds; mean = m; opened = o; is = e; holds = b }

-- the data of a body's existentials
pub record Witnessed (S : Setting) (env : Env) (a : Assertion) (h : Heaplet) : Type 0 where
  pub witnesses : List Datum
  pub sorted : AreFor a.existentials witnesses
  pub props : AllTrue S.defs S.has_spec (with_data env a.existentials witnesses) a.props
  pub parts : PartsHold S (with_data env a.existentials witnesses) a.parts h

pub body_of : {S : Setting} {env : Env} {a : Assertion} {h : Heaplet} → BodyHolds S env a h → Witnessed S env a h
body_of (body ds s p q) = record { witnesses = ds; sorted = s; props = p; parts = q }

pub none_of : {S : Setting} {env : Env} {h : Heaplet} → PartsHold S env [] h → h ≡ empty
none_of (none e) = e

-- the heaplet of the first part, and that of the others
pub record Parted (S : Setting) (env : Env) (p : Sep) (ps : List Sep) (h : Heaplet) : Type 0 where
  pub here : Heaplet
  pub others : Heaplet
  pub joins : Joins here others h
  pub first : PartHolds S env p here
  pub rest : PartsHold S env ps others

pub more_of : {S : Setting} {env : Env} {p : Sep} {ps : List Sep} {h : Heaplet} → PartsHold S env (p ∷ ps) h → Parted S env p ps h
more_of (more {g = g} {k = k} j m n) = record { here = g; others = k; joins = j; first = m; rest = n }
