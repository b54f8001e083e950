-- Where a run begins, and what it means that a program is sound from there. No rule of a proof is mentioned.
use Rattle.std.specs.Prelude.{◌≡◌, ◌≢◌, ℕ, List, [], ◌++◌, map, Some, ◌∷◌, ◌⊎◌}
use Rattle.std.specs.List.{AllByRecursion}
use Rattle.floyd_clight_memory.specs.Memory.{Mem, Block, Global, Local, Function, IsMemory, nth}
use Rattle.floyd_clight_machine.specs.Looking.{Ident}
use Rattle.floyd_clight_machine.specs.Machine.{Answer, Calling, Program, GlobalBlock, FunctionBlock}
use Rattle.floyd_clight_machine.specs.Bounds.{AreVariables, AreFunctions}
use Rattle.floyd_clight_heap.specs.Heaplet.{Heaplet, Fits}
use Rattle.floyd_clight_runs.specs.World.{World}
use Rattle.floyd_clight_runs.specs.Runs.{AllLawful, NoneStuck, CallsMeet, run}

abbrev pub variable_blocks : Program → List ℕ
variable_blocks P = map (λ (g : GlobalBlock). g.block) P.variables

abbrev pub function_blocks : Program → List ℕ
function_blocks P = map (λ (g : FunctionBlock). g.block) P.functions

-- no number is there twice
abbrev pub AllDiffer : List ℕ → Type 0
AllDiffer [] = Unit {0}
AllDiffer (x ∷ xs) = AllByRecursion (λ y. x ≢ y) xs × AllDiffer xs

abbrev pub IsAmong : List ℕ → ℕ → Type 0
IsAmong [] n = ⊥
IsAmong (x ∷ xs) n = (x ≡ n) ⊎ IsAmong xs n

-- A memory where a run may begin: the program's variables and functions have distinct blocks of their sizes, there is no
-- other block of a variable or of a function and none of a local variable, and some heaplet that meets main's precondition
-- fits it.
pub record IsStart (W : World) (main : Ident) (m : Mem) : Type 0 where
  pub memory : IsMemory m
  pub distinct : AllDiffer (variable_blocks W.program ++ function_blocks W.program)
  pub variables : AreVariables W.program.variables m
  pub functions : AreFunctions W.program.functions m
  pub no_other_variable : (block : ℕ) (b : Block) → nth m block ≡ Some b → b.kind ≡ Global → IsAmong (variable_blocks W.program) block
  pub no_other_function : (block : ℕ) (b : Block) → nth m block ≡ Some b → b.kind ≡ Function → IsAmong (function_blocks W.program) block
  pub no_local : (block : ℕ) (b : Block) → nth m block ≡ Some b → b.kind ≡ Local → ⊥
  pub with : W.own.With
  pub heaplet : Heaplet
  pub fits : Fits heaplet m
  pub pre : W.own.pre main with [] heaplet

-- For every start, every list of answers of external functions and every number of steps of the machine, where the
-- answers that are used keep their specifications, no state is stuck, and every call that was entered in its
-- precondition and returns meets its postcondition, with all else untouched.
abbrev pub IsSound : World → Ident → Type 0
IsSound W main =
    (m : Mem) → IsStart W main m → (n : ℕ) (answers : List Answer) → AllLawful W n answers (Calling main [] []) m
    → NoneStuck W (run W n answers (Calling main [] []) m) × CallsMeet W (run W n answers (Calling main [] []) m)
