-- What holds of every cut: there is one, its texts stand in order with gaps between them, its tokens suit their file, and
-- lines are cut by themselves.
use Rattle.std.specs.Prelude.{◌≡◌, ℕ, ◌+◌, ◌-◌, ◌<◌, ◌≤◌, true, List, [], ◌∷◌, ◌++◌, length, take, drop, slice_index, Option, Some, None, Result, All}
use Rattle.floyd_text.specs.declared.refusal.Refusal.{Refusal}
use Rattle.floyd_lex.specs.declared.kinds.FileKind.{FileKind}
use Rattle.floyd_lex.specs.declared.kinds.FileKind.TheVariants.{Source}
use Rattle.floyd_lex.specs.declared.kinds.LiteralType.{LiteralType}
use Rattle.floyd_lex.specs.declared.kinds.LiteralType.TheVariants.{Untyped}
use Rattle.floyd_lex.specs.declared.kinds.TokenKind.{TokenKind}
use Rattle.floyd_lex.specs.declared.kinds.TokenKind.TheVariants as k
use Rattle.floyd_lex.specs.declared.classes.Class.TheVariants as class
use Rattle.floyd_lex.specs.declared.lead.Flaw.{Flaw}
use Rattle.floyd_lex.specs.declared.lead.Flaw.TheVariants.{OpenComment}
use Rattle.floyd_lex.specs.Classes.{is_white, run}
use Rattle.floyd_lex.specs.Front.{is_marker}
use Rattle.floyd_lex.specs.Cuts.{Cuts, Outcome, IsCut, AreTokens}
use Rattle.floyd_lex.specs.Numbers.{greatest}
use Rattle.floyd_lex.specs.Token.{Piece, TokenList, Lexeme, text_of}

-- A file is cut in one way at most.
abbrev pub HasOneCut : Type 0
HasOneCut = (kind : FileKind) (file : ℕ) (bytes : List ℕ) (a b : Result TokenList Refusal) → IsCut kind file bytes a → IsCut kind file bytes b → a ≡ b

-- no byte is a line feed
abbrev pub IsOnOneLine : List ℕ → Type 0
IsOnOneLine text = run class.NoFeed text ≡ length text

-- `*/` stands at the end, and nowhere before
pub record EndsComment (text : List ℕ) : Type 0 where
  pub at_end : (body : List ℕ) × (text ≡ body ++ 42 ∷ 47 ∷ [])
  pub first : (k : ℕ) → k + 2 < length text → slice_index text k ≡ 42 → slice_index text (k + 1) ≡ 47 → ⊥

-- White space, comments and, in a source, line markers, one after the other.
pub data IsGap (kind : FileKind) : List ℕ → Type 0 where
  nothing : IsGap kind []
  white : {b : ℕ} {more : List ℕ} → is_white b ≡ true → IsGap kind more → IsGap kind (b ∷ more)
  comment : (text more : List ℕ) → EndsComment text → IsGap kind more → IsGap kind ((47 ∷ 42 ∷ text) ++ more)
  line_comment : (text more : List ℕ) → IsOnOneLine text → IsGap kind more → IsGap kind ((47 ∷ 47 ∷ text) ++ more)
  marker : (text more : List ℕ) → kind ≡ Source → IsOnOneLine text → is_marker text ≡ true → IsGap kind more → IsGap kind (text ++ more)

-- From `at` on there are a gap, a text that is not empty, a gap and so on up to the end of the bytes.
abbrev pub StandInOrder : FileKind → List ℕ → ℕ → List Lexeme → Type 0
StandInOrder kind bytes at [] = IsGap kind (drop at bytes)
StandInOrder kind bytes at (x ∷ xs) = (at ≤ x.start) × IsGap kind (take (x.start - at) (drop at bytes)) × (x.start < x.end) × (x.end ≤ length bytes) × StandInOrder kind bytes x.end xs

-- The texts of the tokens stand in the bytes in order, with nothing but white space, comments and markers between them.
abbrev pub TextsStandInOrder : Type 0
TextsStandInOrder = (kind : FileKind) (bytes : List ℕ) (list : TokenList) → AreTokens kind bytes list → StandInOrder kind bytes 0 list.items

-- No token goes beyond its line.
abbrev pub TextsStandOnLines : Type 0
TextsStandOnLines = (kind : FileKind) (bytes : List ℕ) (list : TokenList) → AreTokens kind bytes list → All (λ x. IsOnOneLine (text_of bytes x)) list.items

-- In a source a literal has a type of C, elsewhere none.
abbrev pub HasTypeOf : FileKind → LiteralType → Type 0
HasTypeOf Source Untyped = ⊥
HasTypeOf Source _ = Unit {0}
HasTypeOf _ Untyped = Unit {0}
HasTypeOf _ _ = ⊥

-- what a token of a file of this kind may be: keywords and string literals stand in sources alone, and a literal's type
-- holds its value
abbrev pub Suits : TokenKind → FileKind → Type 0
Suits k.Name kind = Unit {0}
Suits (k.Keyword w) kind = kind ≡ Source
Suits (k.Punctuator p) kind = Unit {0}
Suits (k.Literal t value) kind = HasTypeOf kind t × (value ≤ greatest t)
Suits k.StringLiteral kind = kind ≡ Source

abbrev pub TokensSuit : Type 0
TokensSuit = (kind : FileKind) (bytes : List ℕ) (list : TokenList) → AreTokens kind bytes list → All (λ x. Suits x.kind kind) list.items

-- nothing, or bytes that end with a line feed
pub data AreLines : List ℕ → Type 0 where
  no_lines : AreLines []
  lines : (front : List ℕ) → AreLines (front ++ 10 ∷ [])

abbrev pub behind : List Piece → Outcome → Outcome
behind pieces o = record { pieces = pieces ++ o.pieces; stop = o.stop }

-- Behind these tokens, which begin at `start`, the bytes are cut as they are from `at` on.
abbrev pub GoesOn : FileKind → List ℕ → ℕ → ℕ → ℕ → List Piece → Type 0
GoesOn kind bytes left start at pieces = (o : Outcome) → Cuts kind bytes (left - length pieces) at o → Cuts kind bytes left start (behind pieces o)

-- What the whole is cut into from `start` on, where its first lines have these tokens and this stop there: it goes on where
-- the lines end, or where a comment stays open; else it is cut no further.
abbrev pub Continues : FileKind → List ℕ → ℕ → ℕ → ℕ → List Piece → Option (Flaw × ℕ) → Type 0
Continues kind bytes left start end pieces None = GoesOn kind bytes left start end pieces
Continues kind bytes left start end pieces (Some (OpenComment, at)) = GoesOn kind bytes left start at pieces
Continues kind bytes left start end pieces (Some (flaw, at)) = Cuts kind bytes left start (record { pieces = pieces; stop = Some (flaw, at) })

-- What the first lines are cut into does not depend on the lines after them, but for an open comment.
abbrev pub LinesStandAlone : Type 0
LinesStandAlone = (kind : FileKind) (left : ℕ) (front more : List ℕ) (o : Outcome) → AreLines front → Cuts kind front left 0 o → Continues kind (front ++ more) left 0 (length front) o.pieces o.stop
