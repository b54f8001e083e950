-- Which expressions of Clight load from memory, and that elaboration leaves reads of memory to sets of their own.
use Rattle.std.specs.Prelude.{◌≡◌, ℕ, Bool, true, false, ◌||◌, List, [], Some, None, ◌⊎◌, Ok}
use Rattle.std.specs.List.{AllByRecursion}
use Rattle.floyd_ctypes.specs.declared.ctype.CType.{CType}
use Rattle.floyd_ctypes.specs.Structs.{Structs}
use Rattle.floyd_cparse_trees.specs.declared.expressions.CExpr.{CExpr}
use Rattle.floyd_cparse_trees.specs.declared.statements.CStatement.{CStatement}
use Rattle.floyd_elab_names.specs.Scopes.{Scopes}
use Rattle.floyd_elab_names.specs.Types.{is_scalar}
use Rattle.floyd_clight.specs.declared.syntax.Expr.{Expr, Const, Temp, Var, Deref', AddrOf', Unary', Binary', Cast', Field', SizeOf, end_of-Expr, more_of-Expr}
use Rattle.floyd_clight.specs.declared.syntax.Stmt.{Stmt, Skip, Set, Assign, Call, Seq', If', Loop', Break, Continue, Return, Switch', Row_of-Stmt, end_of-Stmt, more_of-Stmt, Row_of-Case, end_of-Case, more_of-Case}
use Rattle.floyd_clight_machine.specs.Evaluation.{Ident, Temps, Look}
use Rattle.floyd_clight_machine.specs.Footprint.{value_loads, place_loads}
use Rattle.floyd_elab_expressions.specs.Clight.{Translated, is_memory, pulled_name}
use Rattle.floyd_elab_expressions.specs.declared.progress.Progress.{Progress}
use Rattle.floyd_elab_expressions.specs.Expressions.{rvalue}
use Rattle.floyd_elab_effects.specs.Effects.{effect}
use Rattle.floyd_elab_statements.specs.Statements.{body}

-- A number or a pointer is loaded from its place. An array, a function and a struct give their address, as `&` does.
abbrev mutual
  -- its value is found by loads
  pub reads : Expr → Bool
  reads (Const v t) = false
  reads (Temp x t) = false
  reads (Var bound x t) = is_scalar t
  reads (Deref' p (more_of-Expr e end_of-Expr) t) = is_scalar t || reads e
  reads (AddrOf' p (more_of-Expr e end_of-Expr) t) = place_reads e
  reads (Unary' op p (more_of-Expr e end_of-Expr) t) = reads e
  reads (Binary' op p (more_of-Expr a end_of-Expr) q (more_of-Expr b end_of-Expr) t) = reads a || reads b
  reads (Cast' p (more_of-Expr e end_of-Expr) t) = reads e
  reads (Field' p (more_of-Expr e end_of-Expr) x t) = is_scalar t || place_reads e
  reads (SizeOf of t) = false

  -- the place that it stands for is found by loads; what stands for no place, by its value
  pub place_reads : Expr → Bool
  place_reads (Const v t) = false
  place_reads (Temp x t) = false
  place_reads (Var bound x t) = false
  place_reads (Deref' p (more_of-Expr e end_of-Expr) t) = reads e
  place_reads (AddrOf' p (more_of-Expr e end_of-Expr) t) = place_reads e
  place_reads (Unary' op p (more_of-Expr e end_of-Expr) t) = reads e
  place_reads (Binary' op p (more_of-Expr a end_of-Expr) q (more_of-Expr b end_of-Expr) t) = reads a || reads b
  place_reads (Cast' p (more_of-Expr e end_of-Expr) t) = reads e
  place_reads (Field' p (more_of-Expr e end_of-Expr) x t) = place_reads e
  place_reads (SizeOf of t) = false

-- For what reads nothing the machine loads nothing, in whatever it looks at.
abbrev pub ValuesWithoutReadsLoadNothing : Type 0
ValuesWithoutReadsLoadNothing = (structs : Structs) (look : Look) (temps : Temps) (e : Expr) → reads e ≡ false → value_loads structs look temps e ≡ []

abbrev pub PlacesWithoutReadsLoadNothing : Type 0
PlacesWithoutReadsLoadNothing = (structs : Structs) (look : Look) (temps : Temps) (e : Expr) → place_reads e ≡ false → place_loads structs look temps e ≡ []

-- a pulled read: a drawn temporary is set to what a place holds, which is found without loads
pub record IsPull (x : Ident) (e : Expr) : Type 0 where
  pub number : ℕ
  pub name : x ≡ pulled_name number
  pub memory : is_memory e ≡ true
  pub place : place_reads e ≡ false

-- No expression in the statement loads, but the whole right side of a pulled read.
abbrev mutual
  pub ReadsByPulls : Stmt → Type 0
  ReadsByPulls Skip = Unit {0}
  ReadsByPulls (Set x e) = (reads e ≡ false) ⊎ IsPull x e
  ReadsByPulls (Assign place e) = (place_reads place ≡ false) × (reads e ≡ false)
  ReadsByPulls (Call to f es) = (reads f ≡ false) × AllByRecursion (λ e. reads e ≡ false) es
  ReadsByPulls (Seq' shape all) = AllReadByPulls all
  ReadsByPulls (If' e p (more_of-Stmt a end_of-Stmt) q (more_of-Stmt b end_of-Stmt)) = (reads e ≡ false) × ReadsByPulls a × ReadsByPulls b
  ReadsByPulls (Loop' p (more_of-Stmt a end_of-Stmt) q (more_of-Stmt b end_of-Stmt)) = ReadsByPulls a × ReadsByPulls b
  ReadsByPulls Break = Unit {0}
  ReadsByPulls Continue = Unit {0}
  ReadsByPulls (Return None) = Unit {0}
  ReadsByPulls (Return (Some e)) = reads e ≡ false
  ReadsByPulls (Switch' e shape cases) = (reads e ≡ false) × CasesReadByPulls cases

  pub AllReadByPulls : {n : _} → Row_of-Stmt n → Type 0
  AllReadByPulls end_of-Stmt = Unit {0}
  AllReadByPulls (more_of-Stmt s rest) = ReadsByPulls s × AllReadByPulls rest

  pub CasesReadByPulls : {n : _} → Row_of-Case n → Type 0
  CasesReadByPulls end_of-Case = Unit {0}
  CasesReadByPulls (more_of-Case label p (more_of-Stmt body end_of-Stmt) rest) = ReadsByPulls body × CasesReadByPulls rest

-- Of an expression whose value is wanted, of an effect, and of a function's body.
abbrev pub ValuesReadByPulls : Type 0
ValuesReadByPulls = (scopes : Scopes) (e : CExpr) (p q : Progress) (t : Translated) → rvalue scopes e p ≡ Ok (t, q) → AllByRecursion ReadsByPulls t.before × (reads t.expr ≡ false)

abbrev pub EffectsReadByPulls : Type 0
EffectsReadByPulls = (scopes : Scopes) (e : CExpr) (p q : Progress) (ss : List Stmt) → effect scopes e p ≡ Ok (ss, q) → AllByRecursion ReadsByPulls ss

abbrev pub BodiesReadByPulls : Type 0
BodiesReadByPulls = (result : CType) (scopes : Scopes) (s : CStatement) (p q : Progress) (ss : List Stmt) → body result scopes s p ≡ Ok (ss, q) → AllByRecursion ReadsByPulls ss
