-- What a source of C reads as: its tree, or the refusal of its tokens.
use Rattle.std.specs.Prelude.{◌≡◌, ℕ, ◌-◌, ◌==◌, ◌||◌, if◌then◌else◌, List, [], ◌∷◌, ◌++◌, length, drop, Result, Ok, Err}
use Rattle.floyd_text.specs.declared.code.Code.{Code}
use Rattle.floyd_text.specs.declared.code.Code.TheVariants as c
use Rattle.floyd_text.specs.declared.refusal.Halt.{Halt}
use Rattle.floyd_text.specs.declared.refusal.Halt.TheVariants.{Refused, Memory}
use Rattle.floyd_text.specs.declared.refusal.Refusal.{Refusal}
use Rattle.floyd_text.specs.declared.refusal.Shown.{Shown}
use Rattle.floyd_text.specs.declared.refusal.Shown.TheVariants.{Nothing, Name}
use Rattle.floyd_text.specs.Place.{place_at}
use Rattle.floyd_text.specs.Refusals.{refusal_at}
use Rattle.floyd_lex.specs.Token.{TokenList, tokens_in}
use Rattle.floyd_grammar.specs.declared.stop.Fault.{Fault}
use Rattle.floyd_grammar.specs.Refused.{IsRefused}
use Rattle.floyd_cparse_trees.specs.declared.declarations.CUnit.{CUnit}
use Rattle.floyd_cparse_tokens.specs.Tokens.{Sight, sights, unexpected, shadowed, left_out}
use Rattle.floyd_cparse.specs.Units.{unit}

-- the tokens of a source as its grammar sees them
abbrev pub tokens_of : List ℕ → TokenList → List Sight
tokens_of bytes list = sights (tokens_in bytes list)

abbrev pub code_of : ℕ → Code
code_of cause = if cause == unexpected then c.UnexpectedInSource else if cause == shadowed then c.TypedefShadowed else if cause == left_out then c.OutOfProfile else c.TooDeep

-- What is left out of the profile and a name that is a type's are shown.
abbrev pub shown_of : ℕ → List ℕ → Shown
shown_of cause text = if cause == shadowed || cause == left_out then Name text else Nothing

-- the refusal at the first of the tokens that are left, for this cause, or at the end of the file where none is left
abbrev pub refusal_before : ℕ → List ℕ → List Sight → ℕ → Refusal
refusal_before file bytes [] cause = refusal_at c.UnexpectedInSource (place_at file bytes (length bytes)) Nothing
refusal_before file bytes (s ∷ left) cause = refusal_at (code_of cause) s.token.place (shown_of cause s.token.text)

-- the refusal behind so many tokens
abbrev pub refusal_behind : ℕ → List ℕ → List Sight → ℕ → ℕ → Refusal
refusal_behind file bytes ts at cause = refusal_before file bytes (drop at ts) cause

abbrev pub refusal_of : ℕ → List ℕ → List Sight → Fault → Refusal
refusal_of file bytes ts fault = refusal_behind file bytes ts (length ts - fault.left) fault.cause

-- The tokens of a source read as this tree; or they do not read, and are refused at the first token with which those so
-- far are no front, or at the end of the file, for the greatest cause there.
abbrev pub IsRead : ℕ → List ℕ → TokenList → Result CUnit Refusal → Type 0
IsRead file bytes list (Ok tree) = unit.reads (tokens_of bytes list) tree
IsRead file bytes list (Err r) =
    (fault : Fault) × IsRefused unit (tokens_of bytes list) fault × (r ≡ refusal_of file bytes (tokens_of bytes list) fault)

-- what a call answers is so, unless memory ran out
abbrev pub Answers : (Result CUnit Refusal → Type 0) → Result CUnit Halt → Type 0
Answers P (Ok tree) = P (Ok tree)
Answers P (Err (Refused r)) = P (Err r)
Answers P (Err Memory) = Unit {0}

-- Laws. The tokens of a source read in one way at most: as one tree, or with one refusal.
abbrev pub HasOneReading : Type 0
HasOneReading = (file : ℕ) (bytes : List ℕ) (list : TokenList) (a b : Result CUnit Refusal) → IsRead file bytes list a → IsRead file bytes list b → a ≡ b

-- What tokens that read begin with is a front.
abbrev pub BeginningsAreFronts : Type 0
BeginningsAreFronts = (u v : List Sight) (tree : CUnit) → unit.reads (u ++ v) tree → unit.front u
