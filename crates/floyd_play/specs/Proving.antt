-- What a proof that plays through claims.
use Rattle.std.specs.Prelude.{◌≡◌, List, Result, Ok, Err}
use Rattle.std.specs.Map.{keys_of}
use Rattle.floyd_text.specs.declared.refusal.Refusal.{Refusal}
use Rattle.floyd_assert_trees.specs.declared.items.Defs.{Defs}
use Rattle.floyd_assert_trees.specs.declared.spec.SpecTable.{SpecTable}
use Rattle.floyd_goal_trees.specs.declared.goal.Goal.{Goal}
use Rattle.floyd_proved.specs.declared.claim.Claim.{Claim}
use Rattle.floyd_script_trees.specs.declared.trees.Proof.{Proof}
use Rattle.floyd_play_steps.specs.declared.state.Start.{Start}
use Rattle.floyd_play_steps.specs.Plays.{IsPlayed}

-- the proof's name, its script, and its start goals, where the lemmas that are proved so far are true
abbrev pub claim_of : Defs → SpecTable → Proof → List Goal → Claim
claim_of defs specs proof goals = record {
  name = proof.name;
  file = proof.place.file;
  start = goals;
  before = keys_of defs.proved;
  defs = defs;
  specs = specs;
}

-- the proof is done, and this is claimed; or its first refusal
abbrev pub IsDone : Defs → SpecTable → Proof → Start → Result Claim Refusal → Type 0
IsDone defs specs proof start (Ok claim) = IsPlayed defs specs proof start (Ok tt) × (claim ≡ claim_of defs specs proof start.goals)
IsDone defs specs proof start (Err why) = IsPlayed defs specs proof start (Err why)
