-- A program that is proved: one of `main` alone, which returns 0.
use Rattle.std.specs.Prelude.{[], ◌∷◌, List}
use Rattle.floyd_goal_meaning.specs.Programs.{main}
use Rattle.floyd_goal_meaning.specs.Worlds.{Sound}
use Rattle.floyd_links.specs.Examples.{a_program}
use Rattle.floyd_links.specs.Links.{Links}
use Rattle.floyd_program_soundness.specs.Proofs.{AreBodiesProved, AreImportsProved, AreImportsSmall, AreProofs, OfBody, Proof}

abbrev pub its_proofs : List Proof
its_proofs = record { kind = OfBody; number = 0; name = main; before = [] } ∷ []

-- all that is asked for is so, and the program is sound
pub record IsProved : Type 0 where
  pub links : Links a_program
  pub small : AreImportsSmall a_program
  pub proofs : AreProofs a_program [] its_proofs
  pub bodies : AreBodiesProved a_program its_proofs
  pub imports : AreImportsProved its_proofs 0 a_program.modules
  pub sound : Sound a_program
