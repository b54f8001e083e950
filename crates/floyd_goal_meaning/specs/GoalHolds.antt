-- When a goal of a proof holds, for n steps of the machine.
use Rattle.std.specs.Prelude.{◌≡◌, ℕ, true, List, [], ◌∷◌, Some, bytes_eq}
use Rattle.std.specs.Map.{lookup}
use Rattle.floyd_int.specs.declared.kinds.Value.{Value}
use Rattle.floyd_int.specs.declared.kinds.Value.TheVariants.{Vundef}
use Rattle.floyd_ctypes.specs.Has.{has}
use Rattle.floyd_clight_memory.specs.Memory.{nth}
use Rattle.floyd_clight_heap.specs.Heaplet.{Heaplet}
use Rattle.floyd_clight_machine.specs.Evaluation.{Temps}
use Rattle.floyd_clight_machine.specs.Exits.{Normal, Broke, Continued, Returned}
use Rattle.floyd_clight_machine.specs.Machine.{Act, LocalBlock}
use Rattle.floyd_clight_runs.specs.Calls.{AreBlocksOf, AreDistinct, KeepsBelow, ReturnOf, SafeAll}
use Rattle.floyd_clight_runs.specs.Safe.{Exits}
use Rattle.floyd_tree_values.specs.BuiltIns.{Env}
use Rattle.floyd_tree_values.specs.Data.{Datum}
use Rattle.floyd_tree_values.specs.Rules.{Suits}
use Rattle.floyd_truth.specs.Truth.{Truth, AllTrue}
use Rattle.floyd_assert_trees.specs.declared.assertion.Assertion.{Assertion}
use Rattle.floyd_assert_trees.specs.declared.items.Defs.{Defs}
use Rattle.floyd_assert_trees.specs.declared.items.Lemma.{Lemma}
use Rattle.floyd_assert_trees.specs.declared.spec.Postcondition.{Postcondition}
use Rattle.floyd_assert_trees.specs.declared.spec.SpecTable.{SpecTable}
use Rattle.floyd_assert_meaning.specs.Settings.{Setting, AreFor}
use Rattle.floyd_assert_meaning.specs.Assertions.{Holds, LemmaHoldsFor, LemmaIsTrue}
use Rattle.floyd_assert_meaning.specs.Specifications.{PostHolds}
use Rattle.floyd_goal_trees.specs.Contexts.{context_of, scope_of}
use Rattle.floyd_goal_trees.specs.declared.context.Context.{Context}
use Rattle.floyd_goal_trees.specs.declared.context.Mark.{Mark}
use Rattle.floyd_goal_trees.specs.declared.context.Mark.TheVariants as m
use Rattle.floyd_goal_trees.specs.declared.exits.Exit as e
use Rattle.floyd_goal_trees.specs.declared.exits.Exit.TheVariants as x
use Rattle.floyd_goal_trees.specs.declared.exits.Exits as g
use Rattle.floyd_goal_trees.specs.declared.exits.Return as r
use Rattle.floyd_goal_trees.specs.declared.goal.Goal.{Goal}
use Rattle.floyd_goal_trees.specs.declared.goal.Goal.TheVariants.{Run, Entail, Pure}
use Rattle.floyd_goal_meaning.specs.declared.linked.Linked.{Linked}
use Rattle.floyd_goal_meaning.specs.Links.{Has, AreApart}
use Rattle.floyd_goal_meaning.specs.Programs.{Further, Places, setting}
use Rattle.floyd_goal_meaning.specs.Worlds.{sight, world}

-- what is proved already is true
abbrev pub LemmasAreTrue : Setting → Defs → Type 0
LemmasAreTrue S defs = (name : List ℕ) (l : Lemma) → lookup (bytes_eq name) defs.proved ≡ Some tt → lookup (bytes_eq name) defs.lemmas ≡ Some l → LemmaIsTrue S l

-- the lemma holds where the variable at the place has that datum
abbrev pub LemmaHoldsAt : Setting → Lemma → ℕ → Datum → Type 0
LemmaHoldsAt S l place d = (ds : List Datum) → AreFor l.with ds → nth ds place ≡ Some d → LemmaHoldsFor S l ds

-- and so for what each of these variables has
abbrev pub LemmaHoldsAtEach : Setting → Lemma → ℕ → Env → List (List ℕ) → Type 0
LemmaHoldsAtEach S l place env [] = Unit {0}
LemmaHoldsAtEach S l place env (x ∷ names) = LemmaHoldsAt S l place (env.variables x) × LemmaHoldsAtEach S l place env names

-- inside a proof by induction the lemma holds for the sublists or subtrees that the mark names
abbrev pub MarkHolds : Setting → Defs → Env → Mark → Type 0
MarkHolds S defs env m.Plain = Unit {0}
MarkHolds S defs env (m.Start name) = Unit {0}
MarkHolds S defs env (m.Induction name place names) = (l : Lemma) → lookup (bytes_eq name) defs.lemmas ≡ Some l → LemmaHoldsAtEach S l place env names

-- An environment that gives each variable of a context a datum of its sort, such that the hypotheses are true, and each name
-- of the file its block. The blocks of local variables are any.
pub record Given (S : Setting) (defs : Defs) (context : Context) (env : Env) : Type 0 where
  pub suits : Suits (scope_of context) env
  pub global : env.global ≡ S.block_of
  pub hypotheses : AllTrue S.defs S.has_spec env context.hypotheses
  pub mark : MarkHolds S defs env context.mark

-- the local variables stand at their places
abbrev pub StandAt : Env → List LocalBlock → Type 0
StandAt env [] = Unit {0}
StandAt env (b ∷ blocks) = (b.block ≡ env.local b.name) × StandAt env blocks

-- An activation of the goal's function meets an assertion: its local blocks are those of the function's local variables,
-- distinct and at their places, and the assertion holds of its temporaries and the heaplet.
pub record Stands (S : Setting) (env : Env) (ret : r.Return) (a : Assertion) (act : Act) (h : Heaplet) : Type 0 where
  pub result : act.result ≡ ret.result
  pub blocks : AreBlocksOf S.defs.structs ret.blocks act.blocks
  pub distinct : AreDistinct act.blocks
  pub places : StandAt env act.blocks
  pub holds : Holds S env a act.temps h

abbrev pub postcondition : r.Return → Postcondition
postcondition ret = record { existentials = ret.post.existentials; props = ret.post.props; value = ret.value; parts = ret.post.parts }

-- v may be returned
abbrev pub MayReturn : Setting → Env → r.Return → Value → Heaplet → Type 0
MayReturn S env ret v h = (has ret.result v ≡ true) × PostHolds S env (postcondition ret) v h

-- the one way out of a function
abbrev pub return_exits : Setting → Env → r.Return → Exits
return_exits S env ret (Normal act) h = ⊥
return_exits S env ret (Broke act) h = ⊥
return_exits S env ret (Continued act) h = ⊥
return_exits S env ret (Returned v) h = MayReturn S env ret v h

-- a way out is met: there is none, or an assertion holds, or the function's end may be done
abbrev pub Leaves : Setting → Env → r.Return → e.Exit → Act → Heaplet → Type 0
Leaves S env ret x.None act h = ⊥
Leaves S env ret (x.To a) act h = Stands S env ret a act h
Leaves S env ret x.End act h = ReturnOf act h (return_exits S env ret) Vundef

abbrev pub goal_exits : Setting → Env → g.Exits → Exits
goal_exits S env exits (Normal act) h = Leaves S env exits.ret exits.normal act h
goal_exits S env exits (Broke act) h = Leaves S env exits.ret exits.brk act h
goal_exits S env exits (Continued act) h = Leaves S env exits.ret exits.cont act h
goal_exits S env exits (Returned v) h = MayReturn S env exits.ret v h

-- What a goal says of an environment, in a program, with further external functions, in blocks for its names. A run goal:
-- from each activation that meets the source the statements are safe for n steps and leave by an exit only where that is
-- met, if the calls in them keep the specifications that the module may use for fewer steps.
abbrev pub HoldsUnder : Linked → List Further → Places → SpecTable → ℕ → Env → Goal → Type 0
HoldsUnder L more place specs n env (Run run) =
    KeepsBelow (world L more place) (sight L more place specs) n
    → (act : Act) (h : Heaplet) → Stands (setting L more place) env run.exits.ret run.source act h
    → SafeAll (world L more place) n run.rest (goal_exits (setting L more place) env run.exits) act h
HoldsUnder L more place specs n env (Entail entail) =
    (temps : Temps) (h : Heaplet) → Holds (setting L more place) env entail.source temps h → Holds (setting L more place) env entail.target temps h
HoldsUnder L more place specs n env (Pure pure) = Truth (setting L more place).defs (setting L more place).has_spec env pure.target

-- The goal holds there: under each environment that is given for its context.
abbrev pub HoldsIn : Linked → List Further → Places → Defs → SpecTable → ℕ → Goal → Type 0
HoldsIn L more place defs specs n goal = (env : Env) → Given (setting L more place) defs (context_of goal) env → HoldsUnder L more place specs n env goal

-- P of every linked program that has what a module's proofs stand on, whatever further external functions there are, in
-- blocks apart, where the lemmas that are proved are true
abbrev pub InEach : Defs → SpecTable → (Linked → List Further → Places → Type 0) → Type 0
InEach defs specs P =
    (L : Linked) (more : List Further) (place : Places) → Has L defs specs → AreApart L more place → LemmasAreTrue (setting L more place) defs → P L more place

-- The goal holds for n steps in every such program.
pub record HoldsFor (defs : Defs) (specs : SpecTable) (n : ℕ) (goal : Goal) : Type 0 where
  pub in_each : InEach defs specs (λ L more place. HoldsIn L more place defs specs n goal)
