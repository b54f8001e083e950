-- Statements whose expressions have their types.
use Rattle.std.specs.Prelude.{◌≡◌, ℕ, ◌<◌, ◌^◌, Bool, true, false, List, [], ◌∷◌, Option, Some, None, is_some}
use Rattle.floyd_int.specs.declared.kinds.IntKind.{IntKind}
use Rattle.floyd_int.specs.Kind.{width}
use Rattle.floyd_int.specs.Operation.{is_comparison}
use Rattle.floyd_ctypes.specs.declared.ctype.CType.{CType, Int, Void}
use Rattle.floyd_ctypes.specs.Structs.{Structs}
use Rattle.floyd_memval.specs.Chunks.{chunk_of}
use Rattle.floyd_clight.specs.declared.syntax.Expr.{Expr, Unary', Binary'}
use Rattle.floyd_clight.specs.declared.syntax.Stmt.{Stmt, Skip, Set, Assign, Call, Seq', If', Loop', Break, Continue, Return, Switch', Row_of-Stmt, end_of-Stmt, more_of-Stmt, Row_of-Case, end_of-Case, more_of-Case}
use Rattle.floyd_clight.specs.declared.syntax.UnaryOp.TheVariants.{Not}
use Rattle.floyd_clight.specs.Types.{type_of}
use Rattle.floyd_clight_machine.specs.Types.{called_type, same_type, Signature}
use Rattle.floyd_clight_typing.specs.Expressions.{IsPromoted, IsTyped, IsValueOf, is_place, local_type, Names}

-- a comparison or `!`
abbrev pub is_test : Expr → Bool
is_test (Unary' Not p e t) = true
is_test (Binary' op p a q b t) = is_comparison op
is_test e = false

-- the labels of cases, in order
abbrev pub labels : {n : _} → Row_of-Case n → List (Option ℕ)
labels end_of-Case = []
labels (more_of-Case label p s rest) = label ∷ labels rest

abbrev pub IsOtherLabel : Option ℕ → List (Option ℕ) → Type 0
IsOtherLabel l [] = Unit {0}
IsOtherLabel l (k ∷ more) = ¬ (l ≡ k) × IsOtherLabel l more

-- no label stands twice, nor does the default, and each is one of the bits of the kind
abbrev pub LabelFits : IntKind → Option ℕ → Type 0
LabelFits k None = Unit {0}
LabelFits k (Some n) = n < 2 ^ width k

abbrev pub LabelsFit : IntKind → List (Option ℕ) → Type 0
LabelsFit k [] = Unit {0}
LabelsFit k (l ∷ more) = LabelFits k l × IsOtherLabel l more × LabelsFit k more

-- a promoted number, with labels of its kind
abbrev pub IsChoice : CType → List (Option ℕ) → Type 0
IsChoice (Int k) all = IsPromoted k × LabelsFit k all
IsChoice t all = ⊥

module _ (structs : Structs) (names : Names) where
  -- a temporary, if there is one, of that type
  abbrev pub IsTarget : Option (List ℕ) → CType → Type 0
  IsTarget None t = Unit {0}
  IsTarget (Some x) t = local_type names.temporaries x ≡ Some t

  -- an argument for each parameter, of its type
  abbrev pub AreArguments : List CType → List Expr → Type 0
  AreArguments [] [] = Unit {0}
  AreArguments [] (e ∷ es) = ⊥
  AreArguments (t ∷ ts) [] = ⊥
  AreArguments (t ∷ ts) (e ∷ es) = IsValueOf structs names t e × AreArguments ts es

  -- what is called has a function's type, that of the arguments and of the target
  pub record IsCall (to : Option (List ℕ)) (f : Expr) (es : List Expr) : Type 0 where
    pub callee : IsTyped structs names f
    pub signature : Signature
    pub is : called_type (type_of f) ≡ Some signature
    pub arguments : AreArguments signature.params es
    pub target : IsTarget to signature.result

  pub record IsSet (x : List ℕ) (e : Expr) : Type 0 where
    pub ctype : CType
    pub declared : local_type names.temporaries x ≡ Some ctype
    pub value : IsValueOf structs names ctype e

  -- a number or a pointer in memory is assigned a value of its type
  pub record IsAssigned (p e : Expr) : Type 0 where
    pub place : IsTyped structs names p
    pub object : is_place p ≡ true
    pub scalar : is_some (chunk_of (type_of p)) ≡ true
    pub value : IsValueOf structs names (type_of p) e

  pub record IsCondition (e : Expr) : Type 0 where
    pub typed : IsTyped structs names e
    pub test : is_test e ≡ true

  -- in a function of that result
  module _ (result : CType) where
    -- a value is returned, unless the function is void
    abbrev pub IsReturn : Option Expr → Type 0
    IsReturn None = same_type result Void ≡ true
    IsReturn (Some e) = (same_type result Void ≡ false) × IsValueOf structs names result e

    abbrev mutual
      pub AreExpressionsTyped : Stmt → Type 0
      AreExpressionsTyped Skip = Unit {0}
      AreExpressionsTyped (Set x e) = IsSet x e
      AreExpressionsTyped (Assign p e) = IsAssigned p e
      AreExpressionsTyped (Call to f es) = IsCall to f es
      AreExpressionsTyped (Seq' shape all) = AllTyped all
      AreExpressionsTyped (If' e p (more_of-Stmt a end_of-Stmt) q (more_of-Stmt b end_of-Stmt)) = IsCondition e × AreExpressionsTyped a × AreExpressionsTyped b
      AreExpressionsTyped (Loop' p (more_of-Stmt a end_of-Stmt) q (more_of-Stmt b end_of-Stmt)) = AreExpressionsTyped a × AreExpressionsTyped b
      AreExpressionsTyped Break = Unit {0}
      AreExpressionsTyped Continue = Unit {0}
      AreExpressionsTyped (Return e) = IsReturn e
      AreExpressionsTyped (Switch' e shape cases) = IsTyped structs names e × IsChoice (type_of e) (labels cases) × CasesTyped cases

      pub AllTyped : {n : _} → Row_of-Stmt n → Type 0
      AllTyped end_of-Stmt = Unit {0}
      AllTyped (more_of-Stmt s rest) = AreExpressionsTyped s × AllTyped rest

      pub CasesTyped : {n : _} → Row_of-Case n → Type 0
      CasesTyped end_of-Case = Unit {0}
      CasesTyped (more_of-Case label p (more_of-Stmt s end_of-Stmt) rest) = AreExpressionsTyped s × CasesTyped rest
