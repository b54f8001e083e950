-- A program of the machine: its structs, and its variables and functions with their blocks.
use Rattle.std.specs.Prelude.{ℕ, ◌==◌, List, map, Option, Some, None, option_map, find, bytes_eq}
use Rattle.floyd_ctypes.specs.declared.ctype.CType.{CType}
use Rattle.floyd_ctypes.specs.Structs.{Structs}
use Rattle.floyd_clight_memory.specs.Memory.{Perm}
use Rattle.floyd_clight.specs.declared.syntax.Stmt.{Stmt}
use Rattle.floyd_clight.specs.declared.unit.Local.{Local}
use Rattle.floyd_clight_machine.specs.Looking.{Ident}
use Rattle.floyd_clight_machine.specs.Types.{Signature}

-- a function with a body; all temporaries that are no parameters begin undefined
pub record Fun : Type 0 where
  pub params : List Local
  pub result : CType
  pub locals : List Local
  pub body : Stmt

-- a function: its own body, or an external one with its type
pub data Def : Type 0 where
  Own : (fn : Fun) → Def
  Ext : (type : Signature) → Def

-- a variable of the file, with its block, its size in bytes, and what may be done with it
pub record GlobalBlock : Type 0 where
  pub name : Ident
  pub block : ℕ
  pub size : ℕ
  pub perm : Perm

-- a function, with its block
pub record FunctionBlock : Type 0 where
  pub name : Ident
  pub block : ℕ
  pub def : Def

pub record Program : Type 0 where
  pub structs : Structs
  pub variables : List GlobalBlock
  pub functions : List FunctionBlock

abbrev pub signature : Def → Signature
signature (Own fn) = record { params = map (λ (p : Local). p.ctype) fn.params; result = fn.result }
signature (Ext t) = t

abbrev pub variable_named : Program → Ident → Option GlobalBlock
variable_named P x = find (λ (g : GlobalBlock). bytes_eq x g.name) P.variables

abbrev pub function_named : Program → Ident → Option FunctionBlock
function_named P f = find (λ (g : FunctionBlock). bytes_eq f g.name) P.functions

-- the function whose block it is
abbrev pub function_at : Program → ℕ → Option FunctionBlock
function_at P block = find (λ (g : FunctionBlock). block == g.block) P.functions

abbrev pub block_of_function : Option FunctionBlock → Option ℕ
block_of_function g = option_map (λ (g : FunctionBlock). g.block) g

abbrev pub variable_or : Option GlobalBlock → Option ℕ → Option ℕ
variable_or None function = function
variable_or (Some g) function = Some g.block

-- the block of a name of the file
abbrev pub file_block : Program → Ident → Option ℕ
file_block P x = variable_or (variable_named P x) (block_of_function (function_named P x))
