-- What a file reads as, or its first refusal.
use Rattle.std.specs.Prelude.{◌≡◌, ℕ, List, Option, Some, None, Result, Ok, Err}
use Rattle.floyd_text.specs.declared.code.Code.TheVariants.{NotBuilt}
use Rattle.floyd_text.specs.declared.refusal.Refusal.{Refusal}
use Rattle.floyd_text.specs.declared.refusal.Shown.TheVariants.{Nothing}
use Rattle.floyd_text.specs.Place.{first_place}
use Rattle.floyd_text.specs.Refusals.{refusal_at}
use Rattle.floyd_lex.specs.declared.kinds.FileKind.{FileKind}
use Rattle.floyd_lex.specs.declared.kinds.FileKind.TheVariants as kind
use Rattle.floyd_lex.specs.Cuts.{IsCut}
use Rattle.floyd_lex.specs.Token.{Token, tokens_in}
use Rattle.floyd_cparse.specs.Source.{IsRead}
use Rattle.floyd_clight.specs.declared.syntax.Stmt.{Stmt}
use Rattle.floyd_elab.specs.Units.{elaboration}
use Rattle.floyd_check_stub.specs.Forms.{ReadsAs}
use Rattle.floyd_check_stub.specs.MainForm.{main_in}

-- what comes after what was had, and the refusal where it was not had
abbrev pub Follows : {X Y : Type 0} → (X → Result Y Refusal → Type 0) → Result X Refusal → Result Y Refusal → Type 0
Follows Next (Ok x) v = Next x v
Follows Next (Err r) v = v ≡ Err r

-- First something is had or refused, and then what comes next is had or refused.
pub record Then {X Y : Type 0} (First : Result X Refusal → Type 0) (Next : X → Result Y Refusal → Type 0) (v : Result Y Refusal) : Type 0 where
  pub first : Result X Refusal
  pub is_first : First first
  pub next : Follows Next first v

-- the same refusal, at its line and column of the file of this number
abbrev pub in_file : ℕ → Refusal → Refusal
in_file file r = record {
  code = r.code;
  rule = r.rule;
  place = record { file = file; line = r.place.line; column = r.place.column };
  goal = r.goal;
  shown = r.shown;
}

-- What a file of this number is read as; its refusal stands in that file.
abbrev pub InFile : {X : Type 0} → ℕ → (Result X Refusal → Type 0) → Result X Refusal → Type 0
InFile file Reads (Ok x) = Reads (Ok x)
InFile file Reads (Err r) = (said : Refusal) × Reads (Err said) × (r ≡ in_file file said)

-- a file of a form that is not built
abbrev pub not_built : ℕ → Refusal
not_built file = refusal_at NotBuilt (first_place file) Nothing

-- what the tokens of a file of this number read as, or that they have no form that is built
abbrev pub ReadsTokens : {X : Type 0} → (List Token → X → Type 0) → ℕ → List Token → Result X Refusal → Type 0
ReadsTokens Form file ts (Ok x) = Form ts x
ReadsTokens Form file ts (Err r) = ReadsAs (Form ts) None × (r ≡ not_built file)

-- A file of this kind and number is cut into tokens, and then they are read.
abbrev pub ReadsFile : {X : Type 0} → (List Token → X → Type 0) → FileKind → ℕ → List ℕ → Result X Refusal → Type 0
ReadsFile Form kind file bytes =
    Then (IsCut kind file bytes) (λ list. ReadsTokens Form file (tokens_in bytes list))

-- the statements of main, unless the source is more than the form that is built
abbrev pub built : Option (List Stmt) → Result (List Stmt) Refusal
built None = Err (not_built 1)
built (Some statements) = Ok statements

-- A source is cut into tokens, these read as a tree of C, this is elaborated, and then the unit is judged: the source
-- reads as the statements of its main.
abbrev pub ReadsSource : List ℕ → Result (List Stmt) Refusal → Type 0
ReadsSource bytes =
    Then (IsCut kind.Source 1 bytes) (λ list.
    Then (IsRead 1 bytes list) (λ tree.
    Then (λ unit. unit ≡ elaboration tree) (λ unit v.
    v ≡ built (main_in unit))))
