-- That proved programs are sound.
use Rattle.std.specs.Prelude.{List, []}
use Rattle.floyd_goal_meaning.specs.declared.linked.Linked.{Linked}
use Rattle.floyd_goal_meaning.specs.Worlds.{Sound}
use Rattle.floyd_links.specs.Links.{Links}
use Rattle.floyd_program_soundness.specs.Proofs.{AreBodiesProved, AreImportsProved, AreImportsSmall, AreProofs, Proof}

-- A linked program is sound whose bodies and whose imports with specifications of their own are proved, by proofs that use
-- only lemmas that are proved before.
abbrev pub ProvedProgramsAreSound : Type 0
ProvedProgramsAreSound = (L : Linked) (proofs : List Proof) → Links L → AreImportsSmall L → AreProofs L [] proofs → AreBodiesProved L proofs → AreImportsProved proofs 0 L.modules → Sound L
