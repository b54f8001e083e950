-- What a statement of sets and branches makes of the temporaries.
use Rattle.std.specs.Prelude.{List, [], ◌∷◌, Option, Some, None, option_map, option_and_then, if◌then◌else◌}
use Rattle.floyd_ctypes.specs.Structs.{Structs}
use Rattle.floyd_clight.specs.declared.syntax.Stmt.{Stmt, Skip, Set, Seq', If', Row_of-Stmt, end_of-Stmt, more_of-Stmt}
use Rattle.floyd_clight_machine.specs.Evaluation.{Temps, with_temp, Look, eval_by}
use Rattle.floyd_clight_machine.specs.Machine.{is_true}

module _ (structs : Structs) (look : Look) where
  -- None stands where the machine is stuck, or another statement stands
  abbrev mutual
    pub run : Stmt → Temps → Option Temps
    run Skip temps = Some temps
    run (Set x e) temps = option_map (λ v. with_temp x v temps) (eval_by structs look temps e)
    run (Seq' shape all) temps = run_rows all temps
    run (If' e p (more_of-Stmt a end_of-Stmt) q (more_of-Stmt b end_of-Stmt)) temps =
        option_and_then (λ t. if t then run a temps else run b temps) (option_and_then is_true (eval_by structs look temps e))
    run s temps = None

    pub run_rows : {n : _} → Row_of-Stmt n → Temps → Option Temps
    run_rows end_of-Stmt temps = Some temps
    run_rows (more_of-Stmt s rest) temps = option_and_then (run_rows rest) (run s temps)

  -- one after the other
  abbrev pub run_all : List Stmt → Temps → Option Temps
  run_all [] temps = Some temps
  run_all (s ∷ ss) temps = option_and_then (run_all ss) (run s temps)
