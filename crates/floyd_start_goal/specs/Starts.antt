-- Of what a proof may start, and with which goals.
use Rattle.std.specs.Prelude.{◌≡◌, ℕ, List, Some, bytes_eq, slice_get}
use Rattle.std.specs.Map.{lookup}
use Rattle.floyd_assert_trees.specs.declared.items.Lemma as l
use Rattle.floyd_clight_memory.specs.Memory.{nth}
use Rattle.floyd_goal_meaning.specs.declared.linked.Linked.{Linked}
use Rattle.floyd_goal_meaning.specs.declared.linked.Module.{Module}
use Rattle.floyd_goal_trees.specs.declared.goal.Goal.{Goal}
use Rattle.floyd_linked.specs.Found.{import_in}
use Rattle.floyd_program_soundness.specs.Proofs.{BodyOf, ImportOf, StartsWith}
use Rattle.floyd_soundness.specs.declared.keys.Kind.{Kind}
use Rattle.floyd_soundness.specs.declared.keys.Kind.TheVariants.{Lemma, Body, Import}
use Rattle.floyd_soundness.specs.Keys.{as_kind, kind_in}

-- a lemma of the module, a function with a body that the module declares, or the module's import of that name, which has a
-- specification of its own
abbrev pub IsThere : Linked → ℕ → Module → Kind → List ℕ → Type 0
IsThere L number m Lemma name = (a : l.Lemma) × (lookup (bytes_eq name) m.defs.lemmas ≡ Some a)
IsThere L number m Body name = BodyOf L m name
IsThere L number m Import name = (i : ImportOf L m name) × (import_in L number name ≡ Some i.by'.import)

pub record CanStart (L : Linked) (number : ℕ) (name : List ℕ) : Type 0 where
  pub module' : Module
  pub at : slice_get L.modules number ≡ Some module'
  pub is : IsThere L number module' (kind_in L number name) name

-- these are the start goals of a proof of that name in the module of that number
pub record IsStart (L : Linked) (number : ℕ) (name : List ℕ) (goals : List Goal) : Type 0 where
  pub module' : Module
  pub at : nth L.modules number ≡ Some module'
  pub starts : StartsWith L module' (as_kind (kind_in L number name)) name goals
