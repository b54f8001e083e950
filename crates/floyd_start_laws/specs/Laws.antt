-- What the start goals of proofs give.
use Rattle.std.specs.Prelude.{◌≡◌, ℕ, true, false, List, [], length}
use Rattle.std.specs.List.{AllByRecursion}
use Rattle.floyd_int.specs.declared.kinds.Value.{Value}
use Rattle.floyd_ctypes.specs.Has.{has}
use Rattle.floyd_ctypes.specs.Structs.{Structs}
use Rattle.floyd_clight.specs.declared.unit.Defined.{Defined}
use Rattle.floyd_clight.specs.declared.unit.Local.{Local}
use Rattle.floyd_clight_heap.specs.Heaplet.{Heaplet}
use Rattle.floyd_clight_machine.specs.Exits.{Normal, Broke, Continued, Returned}
use Rattle.floyd_clight_runs.specs.Calls.{KeepsBelow, StartsWith}
use Rattle.floyd_clight_runs.specs.Safe.{Exits}
use Rattle.floyd_clight_typing.specs.Bodies.{IsObject, local_names}
use Rattle.floyd_tree_values.specs.Data.{Datum}
use Rattle.floyd_tree_values.specs.Rules.{AreDistinct}
use Rattle.floyd_assert_trees.specs.declared.items.Defs.{Defs}
use Rattle.floyd_assert_trees.specs.declared.items.Lemma.{Lemma}
use Rattle.floyd_assert_trees.specs.declared.spec.Funspec.{Funspec}
use Rattle.floyd_assert_trees.specs.declared.spec.SpecTable.{SpecTable}
use Rattle.floyd_assert_laws.specs.Bare.{IsBare}
use Rattle.floyd_assert_meaning.specs.Assertions.{LemmaIsTrue}
use Rattle.floyd_assert_meaning.specs.Settings.{Setting}
use Rattle.floyd_assert_meaning.specs.Specifications.{Post, Pre}
use Rattle.floyd_goal_forms.specs.Items.{spec_has_local}
use Rattle.floyd_goal_forms.specs.Starts.{function_start, lemma_start}
use Rattle.floyd_goal_forms.specs.Terms.{names_with}
use Rattle.floyd_goal_meaning.specs.declared.linked.Linked.{Linked}
use Rattle.floyd_goal_meaning.specs.GoalHolds.{HoldsFor, LemmasAreTrue}
use Rattle.floyd_goal_meaning.specs.Links.{AreApart, Has}
use Rattle.floyd_goal_meaning.specs.Programs.{Further, Places, setting}
use Rattle.floyd_goal_meaning.specs.Worlds.{sight, world}

-- P of each program that has what a module's proofs stand on, in blocks apart, where the lemmas that are proved are true
abbrev pub WhereProved : Defs → SpecTable → (Linked → List Further → Places → Type 0) → Type 0
WhereProved defs specs P =
    (L : Linked) (more : List Further) (place : Places) → Has L defs specs → AreApart L more place → LemmasAreTrue (setting L more place) defs → P L more place

-- A lemma is true where its start goal holds. Its variables have names of their own, and its left side has no existentials.
abbrev pub LemmaStartsProve : Type 0
LemmaStartsProve =
    (defs : Defs) (specs : SpecTable) (n : ℕ) (name : List ℕ) (l : Lemma) → AreDistinct (names_with l.with) → l.left.existentials ≡ [] → HoldsFor defs specs n (lemma_start name l) →
    WhereProved defs specs (λ L more place. LemmaIsTrue (setting L more place) l)

-- The variables of a specification have names of their own, and it speaks of no local variable. Those of a function have
-- names of their own and, where they have blocks, sizes, and it has a parameter for each term of PARAMS.
pub record Enters (structs : Structs) (spec : Funspec) (d : Defined) : Type 0 where
  pub withs : AreDistinct (names_with spec.with)
  pub no_local : spec_has_local spec ≡ false
  pub parameters : AreDistinct (local_names d.parameters)
  pub blocks : AreDistinct (local_names d.blocks)
  pub sized : AllByRecursion (λ (b : Local). IsObject structs b.ctype) d.blocks
  pub count : length d.parameters ≡ length spec.pre.params

-- the one way out of a function: it returns a value of its result type, and its postcondition is met
abbrev pub ends : Setting → Funspec → Defined → List Datum → Exits
ends S spec d ds (Normal act) h = ⊥
ends S spec d ds (Broke act) h = ⊥
ends S spec d ds (Continued act) h = ⊥
ends S spec d ds (Returned v) h = (has d.result v ≡ true) × Post S spec ds v h

-- From each call that meets the precondition of the specification the body is safe for n steps and ends in its
-- postcondition, where calls keep what the module sees for fewer steps.
abbrev pub BodyMeets : Linked → List Further → Places → SpecTable → ℕ → Funspec → Defined → Type 0
BodyMeets L more place specs n spec d =
    KeepsBelow (world L more place) (sight L more place specs) n → (ds : List Datum) (args : List Value) (h : Heaplet) → Pre (setting L more place) spec ds args h →
    StartsWith (world L more place) (record { params = d.parameters; result = d.result; locals = d.blocks; body = d.body }) args h (ends (setting L more place) spec d ds) n

-- A body meets its specification where its start goal holds, if no FUN or PRED of the program speaks of local variables.
abbrev pub FunctionStartsProve : Type 0
FunctionStartsProve =
    (defs : Defs) (specs : SpecTable) (n : ℕ) (spec : Funspec) (d : Defined) → Enters defs.structs spec d → HoldsFor defs specs n (function_start defs.structs spec d) →
    WhereProved defs specs (λ L more place. IsBare (setting L more place) → BodyMeets L more place specs n spec d)
