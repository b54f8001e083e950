-- What it means that a program is sound. No rule of a proof is mentioned.
use Rattle.std.specs.Prelude.{◌≡◌, ◌≢◌, ℕ, List, [], ◌∷◌, length, Some, AllPairs}
use Rattle.floyd_clight_memory.specs.Memory.{Mem, Block, Slot, Local, Function, Nonempty, nth}
use Rattle.floyd_stub_machine.specs.Machine.{Calling}
use Rattle.floyd_stub_assert.specs.Heaplet.{Heaplet, Fits}
use Rattle.floyd_stub_assert.specs.Data.{Env}
use Rattle.floyd_stub_runs.specs.Linked.{Linked, world, main}
use Rattle.floyd_stub_runs.specs.Runs.{Answer, AllLawful, NoneStuck, CallsMeet, run}

-- the block of a function: one byte, where nothing may be done
pub record IsFunctionBlock (m : Mem) (block : ℕ) : Type 0 where
  pub there : Block
  pub is : nth m block ≡ Some there
  pub kind : there.kind ≡ Function
  pub slot : Slot
  pub size : there.slots ≡ slot ∷ []
  pub perm : slot.perm ≡ Some Nonempty

abbrev pub AreFunctionBlocks : Mem → List ℕ → Type 0
AreFunctionBlocks m [] = Unit {0}
AreFunctionBlocks m (b ∷ bs) = IsFunctionBlock m b × AreFunctionBlocks m bs

-- A start: distinct blocks for the functions, and a memory that has them and no block of a local variable. Some heaplet
-- that meets main's precondition fits it.
pub record IsStart (L : Linked) (blocks : List ℕ) (m : Mem) : Type 0 where
  pub as_many : length blocks ≡ length L.functions
  pub distinct : AllPairs (λ a b. a ≢ b) blocks
  pub functions : AreFunctionBlocks m blocks
  pub no_local : (block : ℕ) (b : Block) → nth m block ≡ Some b → b.kind ≡ Local → ⊥
  pub with : Env
  pub heaplet : Heaplet
  pub fits : Fits heaplet m
  pub pre : (world L).pre main with [] heaplet

-- For every start, every list of answers of external functions and every number of steps of the machine, where the
-- answers that are used keep their specifications, no state is stuck, and every call that was entered in its
-- precondition and returns meets its postcondition, with all else untouched.
abbrev pub Sound : Linked → Type 0
Sound L =
    (blocks : List ℕ) (m : Mem) → IsStart L blocks m
    → (n : ℕ) (answers : List Answer) → AllLawful (world L) n answers (Calling main [] []) m
    → NoneStuck (world L) (run (world L) n answers (Calling main [] []) m) × CallsMeet (world L) (run (world L) n answers (Calling main [] []) m)
