-- Where tokens stop to read, and why.
use Rattle.std.specs.Prelude.{◌≡◌, ℕ, ◌+◌, ◌-◌, ◌<◌, ◌≤◌, List, [], ◌∷◌, length, take, drop}
use Rattle.floyd_grammar.specs.declared.stop.Fault.{Fault}
use Rattle.floyd_grammar.specs.declared.stop.Stop.TheVariants as stop
use Rattle.floyd_grammar.specs.declared.stop.Stop.{Stop}
use Rattle.floyd_grammar.specs.Phrase.{Phrase}

-- the token at k is the first with which the tokens so far are no front, or k is the end
pub record StopsAt {T : Type 0} (front : List T → Type 0) (ts : List T) (k : ℕ) : Type 0 where
  pub within : k ≤ length ts
  pub so_far : (j : ℕ) → j ≤ k → front (take j ts)
  pub no_further : k < length ts → front (take (k + 1) ts) → ⊥

-- the greatest cause of these, or 0 where there is none
pub record IsGreatest (causes : ℕ → Type 0) (cause : ℕ) : Type 0 where
  pub bounds : (k : ℕ) → causes k → k ≤ cause
  pub stands : 0 < cause → causes cause

-- the greatest cause for which the first of the tokens that are left is refused after those before; 0 where none is left
abbrev pub IsCause : {T : Type 0} → (List T → T → ℕ → Type 0) → List T → List T → ℕ → Type 0
IsCause refuses before [] cause = cause ≡ 0
IsCause refuses before (t ∷ ts) cause = IsGreatest (refuses before t) cause

-- the tokens do not read, and are refused where they stop to be a front, for the greatest cause there
pub record IsRefused {T A : Type 0} (g : Phrase T A) (ts : List T) (fault : Fault) : Type 0 where
  pub no_reading : (x : A) → g.reads ts x → ⊥
  pub place : StopsAt g.front ts (length ts - fault.left)
  pub cause : IsCause g.refuses (take (length ts - fault.left) ts) (drop (length ts - fault.left) ts) fault.cause

-- what is answered is a refusal, or memory ran out
abbrev pub Refuses : {T A : Type 0} → Phrase T A → List T → Stop → Type 0
Refuses g ts (stop.Fault fault) = IsRefused g ts fault
Refuses g ts stop.Memory = Unit {0}
