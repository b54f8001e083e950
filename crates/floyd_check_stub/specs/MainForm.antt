-- The form of a unit that is built now: a `main` alone, which sets int temporaries to int constants and then returns one
-- that it set.
use Rattle.std.specs.Prelude.{◌==◌, Bool, true, false, ◌&&◌, bytes_eq, length, List, [], ◌∷◌, codes, if◌then◌else◌, Option, Some, None}
use Rattle.std.specs.List.{list_any, list_all}
use Rattle.floyd_int.specs.declared.kinds.IntKind.{IntKind}
use Rattle.floyd_int.specs.declared.kinds.IntKind.TheVariants.{I32}
use Rattle.floyd_int.specs.declared.kinds.Value.{Value}
use Rattle.floyd_int.specs.declared.kinds.Value.TheVariants.{Vint}
use Rattle.floyd_ctypes.specs.declared.ctype.CType.{CType, Int}
use Rattle.floyd_clight.specs.declared.syntax.Expr.{Expr, Const, Temp}
use Rattle.floyd_clight.specs.declared.syntax.Stmt.{Stmt, Set, Return}
use Rattle.floyd_clight.specs.declared.unit.ClightUnit.{ClightUnit}
use Rattle.floyd_clight.specs.declared.unit.Declared.{Declared}
use Rattle.floyd_clight.specs.declared.unit.Defined.{Defined}
use Rattle.floyd_clight.specs.declared.unit.Local.{Local}
use Rattle.floyd_stub_machine.specs.Evaluation.{Ident}
use Rattle.floyd_clight.specs.Flat.{flat}

abbrev pub is_int_kind : IntKind → Bool
is_int_kind I32 = true
is_int_kind k = false

-- the type int
abbrev pub is_int : CType → Bool
is_int (Int k) = is_int_kind k
is_int t = false

abbrev pub is_vint : Value → Bool
is_vint (Vint n) = true
is_vint v = false

-- an int constant
abbrev pub is_constant : Expr → Bool
is_constant (Const v t) = is_vint v && is_int t
is_constant e = false

-- x = n ;
abbrev pub sets_constant : Stmt → Bool
sets_constant (Set x e) = is_constant e
sets_constant s = false

-- whether a statement sets that temporary
abbrev pub sets : Ident → Stmt → Bool
sets x (Set y e) = bytes_eq y x
sets x s = false

-- whether an expression is an int temporary that one of the statements sets
abbrev pub is_set_in : List Stmt → Expr → Bool
is_set_in statements (Temp x t) = is_int t && list_any (sets x) statements
is_set_in statements e = false

abbrev pub is_some_set_in : List Stmt → Option Expr → Bool
is_some_set_in statements None = false
is_some_set_in statements (Some e) = is_set_in statements e

-- return x ; of an x that one of the statements sets
abbrev pub returns_set : List Stmt → Stmt → Bool
returns_set statements (Return e) = is_some_set_in statements e
returns_set statements s = false

-- all but the last set temporaries to int constants, and the last returns a temporary that one of `statements` sets
abbrev pub ends_well : List Stmt → List Stmt → Bool
ends_well statements [] = false
ends_well statements (s ∷ []) = returns_set statements s
ends_well statements (s ∷ t ∷ more) = sets_constant s && ends_well statements (t ∷ more)

-- temporaries are set to int constants, and then one of those is returned
abbrev pub sets_and_returns : List Stmt → Bool
sets_and_returns statements = ends_well statements statements

-- `int main(void)` without blocks, whose temporaries are ints
abbrev pub is_int_main : Defined → Bool
is_int_main f =
    bytes_eq f.name (codes "main") && is_int f.result && length f.parameters == 0 && length f.blocks == 0
    && list_all (λ (t : Local). is_int t.ctype) f.temporaries

-- the statements of such a `main`
abbrev pub main_of : Defined → Option (List Stmt)
main_of f = if is_int_main f && sets_and_returns (flat f.body) then Some (flat f.body) else None

-- that of the only function with a body
abbrev pub only_main : List Defined → Option (List Stmt)
only_main [] = None
only_main (f ∷ []) = main_of f
only_main (f ∷ g ∷ fs) = None

-- `main` alone is declared
abbrev pub declares_main : List Declared → Bool
declares_main [] = false
declares_main (f ∷ []) = bytes_eq f.name (codes "main")
declares_main (f ∷ g ∷ fs) = false

-- The statements of main, where the unit has no struct and no variable, and `main` alone is declared and defined.
abbrev pub main_in : ClightUnit → Option (List Stmt)
main_in unit =
    if length unit.structs == 0 && length unit.variables == 0 && declares_main unit.declared then only_main unit.defined else None
