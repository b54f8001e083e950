-- Proofs that are of a linked program.
use Rattle.std.specs.Prelude.{◌≡◌, List, [], ◌∷◌, ◌++◌, Some}
use Rattle.std.specs.List.{AllByRecursion}
use Rattle.floyd_clight_memory.specs.Memory.{nth}
use Rattle.floyd_goal_meaning.specs.declared.linked.Linked.{Linked}
use Rattle.floyd_goal_meaning.specs.declared.linked.Module.{Module}
use Rattle.floyd_program_soundness.specs.Proofs.{IsProvedBy, OfLemma, Proof, StartsWith, with_proved}
use Rattle.floyd_proved.specs.declared.claim.Claim.{Claim}
use Rattle.floyd_soundness.specs.Keys.{as_kind, kind_in, proof_of, script_module}

-- It has the start goals of what it is of, it stands on what the module's proofs stand on, where the lemmas that it may use
-- are proved, and these are proved earlier.
pub record IsClaimOf (L : Linked) (earlier : List Proof) (c : Claim) : Type 0 where
  pub module' : Module
  pub at : nth L.modules (script_module c.file) ≡ Some module'
  pub starts : StartsWith L module' (as_kind (kind_in L (script_module c.file) c.name)) c.name c.start
  pub defs : with_proved c.defs c.before ≡ with_proved module'.defs c.before
  pub specs : c.specs ≡ module'.specs
  pub before : AllByRecursion (IsProvedBy earlier OfLemma) c.before

abbrev pub AreClaimsOf : Linked → List Proof → List Claim → Type 0
AreClaimsOf L earlier [] = Unit {0}
AreClaimsOf L earlier (c ∷ claims) = IsClaimOf L earlier c × AreClaimsOf L (earlier ++ proof_of L c ∷ []) claims
