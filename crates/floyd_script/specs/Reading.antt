-- What a script reads as: its proofs, or the refusal of its tokens.
use Rattle.std.specs.Prelude.{◌≡◌, ℕ, ◌-◌, ◌==◌, if◌then◌else◌, List, [], ◌∷◌, ◌++◌, length, drop, Result, Ok, Err}
use Rattle.floyd_text.specs.declared.code.Code.{Code}
use Rattle.floyd_text.specs.declared.code.Code.TheVariants as c
use Rattle.floyd_text.specs.declared.refusal.Halt.{Halt}
use Rattle.floyd_text.specs.declared.refusal.Halt.TheVariants.{Refused, Memory}
use Rattle.floyd_text.specs.declared.refusal.Refusal.{Refusal}
use Rattle.floyd_text.specs.declared.refusal.Shown.{Shown}
use Rattle.floyd_text.specs.declared.refusal.Shown.TheVariants.{Nothing, Name}
use Rattle.floyd_text.specs.Place.{place_at}
use Rattle.floyd_text.specs.Refusals.{refusal_at}
use Rattle.floyd_lex.specs.Token.{TokenList}
use Rattle.floyd_grammar.specs.declared.stop.Fault.{Fault}
use Rattle.floyd_grammar.specs.Refused.{IsRefused}
use Rattle.floyd_script_trees.specs.declared.trees.Proof.{Proof}
use Rattle.floyd_script.specs.Scripts.{script}
use Rattle.floyd_script_tokens.specs.Sights.{Sight, sights_of, unexpected, unknown}

abbrev pub code_of : ℕ → Code
code_of cause = if cause == unexpected then c.UnexpectedInScript else if cause == unknown then c.UnknownCommand else c.TooDeep

-- A name that is no command is shown.
abbrev pub shown_of : ℕ → List ℕ → Shown
shown_of cause text = if cause == unknown then Name text else Nothing

-- the refusal at the first of the tokens that are left, for this cause, or at the end of the file where none is left
abbrev pub refusal_before : ℕ → List ℕ → List Sight → ℕ → Refusal
refusal_before file bytes [] cause = refusal_at c.UnexpectedInScript (place_at file bytes (length bytes)) Nothing
refusal_before file bytes (s ∷ left) cause = refusal_at (code_of cause) s.token.place (shown_of cause s.token.text)

-- the refusal behind so many tokens
abbrev pub refusal_behind : ℕ → List ℕ → List Sight → ℕ → ℕ → Refusal
refusal_behind file bytes ss at cause = refusal_before file bytes (drop at ss) cause

abbrev pub refusal_of : ℕ → List ℕ → List Sight → Fault → Refusal
refusal_of file bytes ss fault = refusal_behind file bytes ss (length ss - fault.left) fault.cause

-- The tokens of a script read as these proofs; or they do not read, and are refused at the first token with which those so
-- far are no front, or at the end of the file, for the greatest cause there.
abbrev pub IsRead : ℕ → List ℕ → TokenList → Result (List Proof) Refusal → Type 0
IsRead file bytes list (Ok proofs) = (script bytes list).reads (sights_of bytes list) proofs
IsRead file bytes list (Err r) =
    (fault : Fault) × IsRefused (script bytes list) (sights_of bytes list) fault × (r ≡ refusal_of file bytes (sights_of bytes list) fault)

-- what a call answers is so, unless memory ran out
abbrev pub Answers : (Result (List Proof) Refusal → Type 0) → Result (List Proof) Halt → Type 0
Answers P (Ok proofs) = P (Ok proofs)
Answers P (Err (Refused r)) = P (Err r)
Answers P (Err Memory) = Unit {0}

-- Laws. The tokens of a script read in one way at most: as its proofs, or with one refusal.
abbrev pub HasOneReading : Type 0
HasOneReading = (file : ℕ) (bytes : List ℕ) (list : TokenList) (a b : Result (List Proof) Refusal) → IsRead file bytes list a → IsRead file bytes list b → a ≡ b

-- What tokens that read begin with is a front.
abbrev pub BeginningsAreFronts : Type 0
BeginningsAreFronts = (bytes : List ℕ) (list : TokenList) (u v : List Sight) (proofs : List Proof) → (script bytes list).reads (u ++ v) proofs → (script bytes list).front u
