-- The bounds on blocks: those of local variables, and those of the program's variables and functions.
use Rattle.std.specs.Prelude.{◌≡◌, ◌≢◌, ◌≤◌, ℕ, true, false, Bool, List, [], ◌∷◌, ◌++◌, length, Some}
use Rattle.std.specs.List.{AllByRecursion}
use Rattle.floyd_clight_memory.specs.Memory.{Mem, Block, Slot, Perm, Kind, Global, Local, Ext as ExtKind, Function, Freeable, Nonempty, all_include, nth, next}
use Rattle.floyd_clight_memory.specs.Blocks.{Alike}
use Rattle.floyd_clight_machine.specs.Machine.{Program, GlobalBlock, FunctionBlock, LocalBlock, Kont, Kseq, Kloop1, Kloop2, Kswitch, Kcall, Config, Run, Calling, Returning, Outcome, Next, Asks, Ended, Stuck}
use Rattle.floyd_clight_machine.specs.Exits.{IsCall, IsProper}

-- the block of a local variable: it has the variable's size, and may be freed whole
pub record IsLocal (m : Mem) (l : LocalBlock) : Type 0 where
  pub there : Block
  pub is : nth m l.block ≡ Some there
  pub kind : there.kind ≡ Local
  pub size : length there.slots ≡ l.size
  pub whole : all_include Freeable there.slots ≡ true

abbrev pub IsApart : ℕ → List LocalBlock → Type 0
IsApart block [] = Unit {0}
IsApart block (l ∷ ls) = (block ≢ l.block) × IsApart block ls

-- they are distinct, and each is a local variable's block
abbrev pub AllLocal : List LocalBlock → Mem → Type 0
AllLocal [] m = Unit {0}
AllLocal (l ∷ ls) m = IsLocal m l × IsApart l.block ls × AllLocal ls m

-- a block of that kind and size, with one permission everywhere
pub record IsFixed (m : Mem) (block : ℕ) (kind : Kind) (size : ℕ) (perm : Perm) : Type 0 where
  pub there : Block
  pub is : nth m block ≡ Some there
  pub of : there.kind ≡ kind
  pub length : length there.slots ≡ size
  pub perms : AllByRecursion (λ (s : Slot). s.perm ≡ Some perm) there.slots

abbrev pub AreVariables : List GlobalBlock → Mem → Type 0
AreVariables [] m = Unit {0}
AreVariables (g ∷ gs) m = IsFixed m g.block Global g.size g.perm × AreVariables gs m

-- the block of a function has one byte, with which nothing may be done
abbrev pub AreFunctions : List FunctionBlock → Mem → Type 0
AreFunctions [] m = Unit {0}
AreFunctions (g ∷ gs) m = IsFixed m g.block Function 1 Nonempty × AreFunctions gs m

-- with these blocks of local variables
pub record Bound (P : Program) (ls : List LocalBlock) (m : Mem) : Type 0 where
  pub locals : AllLocal ls m
  pub variables : AreVariables P.variables m
  pub functions : AreFunctions P.functions m

-- the blocks of the callers
abbrev pub kont_blocks : Kont → List LocalBlock
kont_blocks [] = []
kont_blocks (Kseq s ∷ k) = kont_blocks k
kont_blocks (Kloop1 a b ∷ k) = kont_blocks k
kont_blocks (Kloop2 a b ∷ k) = kont_blocks k
kont_blocks (Kswitch ∷ k) = kont_blocks k
kont_blocks (Kcall to act ∷ k) = act.blocks ++ kont_blocks k

-- those of all activations
abbrev pub config_blocks : Config → List LocalBlock
config_blocks (Run s k act) = act.blocks ++ kont_blocks k
config_blocks (Calling f args k) = kont_blocks k
config_blocks (Returning v k) = kont_blocks k

abbrev pub Bounds : Program → Config → Mem → Type 0
Bounds P c m = Bound P (config_blocks c) m

-- the bounds hold after a step, and calls and returns stand where they should
abbrev pub KeepsBounds : Program → Mem → Outcome → Type 0
KeepsBounds P m (Next d n) = Bounds P d n × IsProper d
KeepsBounds P m (Asks f args k) = Bound P (kont_blocks k) m × IsCall k
KeepsBounds P m (Ended v) = Unit {0}
KeepsBounds P m Stuck = Unit {0}

-- What an external function keeps.

abbrev pub is_ext : Kind → Bool
is_ext Global = false
is_ext Local = false
is_ext ExtKind = true
is_ext Function = false

-- All blocks but those of external functions keep kind, size and permissions, and no other block is of their kinds. No
-- number of a block is taken back.
pub record Keeps (m n : Mem) : Type 0 where
  pub kept : (block : ℕ) (b : Block) → nth m block ≡ Some b → is_ext b.kind ≡ false → (c : Block) × (nth n block ≡ Some c) × Alike b c
  pub no_other : (block : ℕ) (c : Block) → nth n block ≡ Some c → is_ext c.kind ≡ false → (b : Block) × (nth m block ≡ Some b) × Alike b c
  pub later : next m ≤ next n
