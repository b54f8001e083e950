-- What a step reads and writes.
use Rattle.std.specs.Prelude.{ℕ, List, [], ◌∷◌, ◌++◌, Option, Some, None, length}
use Rattle.floyd_memval.specs.Chunks.{chunk_of}
use Rattle.floyd_clight_memory.specs.Memory.{Mem, Block, nth}
use Rattle.floyd_clight.specs.declared.syntax.Expr.{Expr}
use Rattle.floyd_clight.specs.declared.syntax.Stmt.{Stmt, Skip, Set, Assign, Call, Seq', If', Loop', Break, Continue, Return, Switch'}
use Rattle.floyd_clight.specs.Types.{type_of}
use Rattle.floyd_clight_machine.specs.Evaluation.{Spot}
use Rattle.floyd_clight_machine.specs.Footprint.{spots, chunk_spots, value_loads, all_value_loads, place_loads}
use Rattle.floyd_clight_machine.specs.Machine.{Program, Act, LocalBlock, Kont, Kseq, Kloop1, Kloop2, Kswitch, Kcall, Config, Run, Calling, Returning, look, place}

-- the places that are loaded for the value of an expression
abbrev pub loads : Program → Mem → Act → Expr → List Spot
loads P m act e = value_loads P.structs (look P act.blocks m) act.temps e

abbrev pub all_loads : Program → Mem → Act → List Expr → List Spot
all_loads P m act es = all_value_loads P.structs (look P act.blocks m) act.temps es

abbrev pub run_reads : Program → Stmt → Act → Mem → List Spot
run_reads P Skip act m = []
run_reads P (Set x e) act m = loads P m act e
run_reads P (Assign p e) act m = place_loads P.structs (look P act.blocks m) act.temps p ++ loads P m act e
run_reads P (Call to f es) act m = loads P m act f ++ all_loads P m act es
run_reads P (Seq' shape all) act m = []
run_reads P (If' e p a q b) act m = loads P m act e
run_reads P (Loop' p a q b) act m = []
run_reads P Break act m = []
run_reads P Continue act m = []
run_reads P (Return None) act m = []
run_reads P (Return (Some e)) act m = loads P m act e
run_reads P (Switch' e shape cases) act m = loads P m act e

-- the places that a step loads
abbrev pub reads : Program → Config → Mem → List Spot
reads P (Run s k act) m = run_reads P s act m
reads P (Calling f args k) m = []
reads P (Returning v k) m = []

abbrev pub block_spots : ℕ → Option Block → List Spot
block_spots block None = []
block_spots block (Some b) = spots (length b.slots) block 0

-- all places of these blocks
abbrev pub freed_spots : List LocalBlock → Mem → List Spot
freed_spots [] m = []
freed_spots (b ∷ bs) m = block_spots b.block (nth m b.block) ++ freed_spots bs m

-- at the end of a body, the local blocks are freed
abbrev pub skip_writes : Kont → Act → Mem → List Spot
skip_writes [] act m = freed_spots act.blocks m
skip_writes (Kseq s ∷ k) act m = []
skip_writes (Kloop1 a b ∷ k) act m = []
skip_writes (Kloop2 a b ∷ k) act m = []
skip_writes (Kswitch ∷ k) act m = []
skip_writes (Kcall to caller ∷ k) act m = freed_spots act.blocks m

abbrev pub run_writes : Program → Stmt → Kont → Act → Mem → List Spot
run_writes P Skip k act m = skip_writes k act m
run_writes P (Set x e) k act m = []
run_writes P (Assign p e) k act m = chunk_spots (chunk_of (type_of p)) (place P m act p)
run_writes P (Call to f es) k act m = []
run_writes P (Seq' shape all) k act m = []
run_writes P (If' e p a q b) k act m = []
run_writes P (Loop' p a q b) k act m = []
run_writes P Break k act m = []
run_writes P Continue k act m = []
run_writes P (Return e) k act m = freed_spots act.blocks m
run_writes P (Switch' e shape cases) k act m = []

-- the places that a step stores to or frees
abbrev pub writes : Program → Config → Mem → List Spot
writes P (Run s k act) m = run_writes P s k act m
writes P (Calling f args k) m = []
writes P (Returning v k) m = []
