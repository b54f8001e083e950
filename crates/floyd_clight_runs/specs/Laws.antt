-- What holds of expressions over heaplets, and that something meets each premise.
use Rattle.std.specs.Prelude.{◌≡◌, [], Some}
use Rattle.floyd_int.specs.declared.kinds.Value.{Value}
use Rattle.floyd_int.specs.declared.kinds.Value.TheVariants.{Vint}
use Rattle.floyd_clight_memory.specs.Memory.{Mem}
use Rattle.floyd_clight.specs.declared.syntax.Expr.{Expr}
use Rattle.floyd_clight_machine.specs.Machine.{Program, Act, eval}
use Rattle.floyd_clight_machine.specs.Touched.{loads}
use Rattle.floyd_clight_machine.specs.Bounds.{AreFunctions}
use Rattle.floyd_clight_heap.specs.Heaplet.{Heaplet, Fits}
use Rattle.floyd_clight_runs.specs.Runs.{IsLawful}
use Rattle.floyd_clight_runs.specs.Starts.{IsStart, IsSound}
use Rattle.floyd_clight_runs.specs.Safe.{AllWithin}
use Rattle.floyd_clight_runs.specs.Needs.{value_in}
use Rattle.floyd_clight_runs.specs.Sample.{sample_world, sample_memory, main, ask}

-- What an expression gives over a heaplet, it gives over each memory that the heaplet fits, and it loads from places of
-- the heaplet alone.
abbrev pub HeapletsStandForMemory : Type 0
HeapletsStandForMemory =
    (P : Program) (act : Act) (h : Heaplet) (m : Mem) (e : Expr) (v : Value) → Fits h m → AreFunctions P.functions m → value_in P act h e ≡ Some v →
    (eval P m act e ≡ Some v) × AllWithin h (loads P m act e)

-- A run of the small program may begin.
abbrev pub AStartExists : Type 0
AStartExists = IsStart sample_world main sample_memory

-- Its external function may answer 7.
abbrev pub AnAnswerExists : Type 0
AnAnswerExists = IsLawful sample_world ask [] sample_memory (Vint 7) sample_memory

-- And it is sound.
abbrev pub ASoundProgramExists : Type 0
ASoundProgramExists = IsSound sample_world main
