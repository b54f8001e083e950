-- The statements that are left of a typed body are typed.
use Rattle.std.proofs.Common.{inl, inr, List, [], ◌∷◌, ◌++◌, sym, subst}
use Rattle.std.specs.List.{AllByRecursion}
use Rattle.floyd_ctypes.specs.declared.ctype.CType.{CType}
use Rattle.floyd_ctypes.specs.Structs.{Structs}
use Rattle.floyd_clight.specs.declared.syntax.Stmt.{Stmt, Skip, Set, Assign, Call, Seq', If', Loop', Break, Continue, Return, Switch', Row_of-Stmt, end_of-Stmt, more_of-Stmt, Row_of-Case, end_of-Case, more_of-Case}
use Rattle.floyd_clight.specs.Flat.{flat, flats}
use Rattle.floyd_clight_machine.specs.Switching.{bodies}
use Rattle.floyd_clight_typing.specs.Expressions.{Names}
use Rattle.floyd_clight_typing.specs.Statements.{AllTyped, AreExpressionsTyped, CasesTyped}
use Rattle.floyd_goal_forms.specs.Bodies.{IsBranch, IsFromCase, IsPart, behind, inside, whole}

module _ (structs : Structs) (names : Names) (result : CType) where
  abbrev pub AreTyped : List Stmt → Type 0
  AreTyped ss = AllByRecursion (AreExpressionsTyped structs names result) ss

  both_typed : (a b : List Stmt) → AreTyped a → AreTyped b → AreTyped (a ++ b)
  both_typed [] b p q = q
  both_typed (s ∷ a) b p q = (p.0, both_typed a b p.1 q)

  mutual
    pub flat_typed : (s : Stmt) → AreExpressionsTyped structs names result s → AreTyped (flat s)
    flat_typed Skip k = tt
    flat_typed (Seq' shape all) k = flats_typed all k
    flat_typed (Set x e) k = (k, tt)
    flat_typed (Assign p e) k = (k, tt)
    flat_typed (Call to f es) k = (k, tt)
    flat_typed (If' e p a q b) k = (k, tt)
    flat_typed (Loop' p a q b) k = (k, tt)
    flat_typed Break k = (k, tt)
    flat_typed Continue k = (k, tt)
    flat_typed (Return e) k = (k, tt)
    flat_typed (Switch' e shape cases) k = (k, tt)

    flats_typed : {n : _} (all : Row_of-Stmt n) → AllTyped structs names result all → AreTyped (flats all)
    flats_typed end_of-Stmt k = tt
    flats_typed (more_of-Stmt s rest) k = both_typed (flat s) (flats rest) (flat_typed s k.0) (flats_typed rest k.1)

  bodies_typed : {n : _} (cases : Row_of-Case n) → CasesTyped structs names result cases → AllTyped structs names result (bodies cases)
  bodies_typed end_of-Case k = tt
  bodies_typed (more_of-Case label p (more_of-Stmt s end_of-Stmt) rest) k = (k.0, bodies_typed rest k.1)

  case_typed : {n : _} (cases : Row_of-Case n) (ss : List Stmt) → CasesTyped structs names result cases → IsFromCase cases ss → AreTyped ss
  case_typed end_of-Case ss k f = absurd f
  case_typed (more_of-Case label p (more_of-Stmt s end_of-Stmt) rest) ss k (inl e) =
      subst AreTyped (sym e) (flats_typed (bodies (more_of-Case label p (more_of-Stmt s end_of-Stmt) rest)) (bodies_typed (more_of-Case label p (more_of-Stmt s end_of-Stmt) rest) k))
  case_typed (more_of-Case label p (more_of-Stmt s end_of-Stmt) rest) ss k (inr f) = case_typed rest ss k.1 f

  branch_typed : (s : Stmt) (ss : List Stmt) → AreExpressionsTyped structs names result s → IsBranch s ss → AreTyped ss
  branch_typed (If' e p (more_of-Stmt a end_of-Stmt) q (more_of-Stmt b end_of-Stmt)) ss k (inl f) = subst AreTyped (sym f) (flat_typed a k.1)
  branch_typed (If' e p (more_of-Stmt a end_of-Stmt) q (more_of-Stmt b end_of-Stmt)) ss k (inr f) = subst AreTyped (sym f) (flat_typed b k.2)
  branch_typed (Loop' p (more_of-Stmt a end_of-Stmt) q (more_of-Stmt b end_of-Stmt)) ss k (inl f) = subst AreTyped (sym f) (flat_typed a k.0)
  branch_typed (Loop' p (more_of-Stmt a end_of-Stmt) q (more_of-Stmt b end_of-Stmt)) ss k (inr f) = subst AreTyped (sym f) (flat_typed b k.1)
  branch_typed (Switch' e shape cases) ss k f = case_typed cases ss k.2 f
  branch_typed Skip ss k f = absurd f
  branch_typed (Seq' shape all) ss k f = absurd f
  branch_typed (Set x e) ss k f = absurd f
  branch_typed (Assign p e) ss k f = absurd f
  branch_typed (Call to g es) ss k f = absurd f
  branch_typed Break ss k f = absurd f
  branch_typed Continue ss k f = absurd f
  branch_typed (Return e) ss k f = absurd f

  pub part_typed : {ss all : List Stmt} → IsPart ss all → AreTyped all → AreTyped ss
  part_typed whole k = k
  part_typed (behind p) k = part_typed p k.1
  part_typed (inside {s = s} {branch = branch} b p) k = part_typed p (branch_typed s branch k.0 b)
