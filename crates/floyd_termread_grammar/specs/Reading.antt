-- What the tokens from one on are read as: a tree with the number of the token behind it; or, where the grammar refuses a token,
-- the tree of those before it with the refusal.
use Rattle.std.specs.Prelude.{◌≡◌, ℕ, ◌+◌, ◌-◌, ◌≤◌, ◌==◌, ◌^◌, ◌⊎◌, false, if◌then◌else◌, List, [], ◌∷◌, ◌++◌, length, Result, Ok, Err}
use Rattle.floyd_text.specs.declared.code.Code.{Code}
use Rattle.floyd_text.specs.declared.code.Code.TheVariants as c
use Rattle.floyd_text.specs.declared.refusal.Refusal.{Refusal}
use Rattle.floyd_text.specs.declared.refusal.Shown.TheVariants.{Nothing}
use Rattle.floyd_text.specs.Place.{place_at}
use Rattle.floyd_text.specs.Refusals.{refusal_at}
use Rattle.floyd_lex.specs.Token.{Token, TokenList}
use Rattle.floyd_grammar.specs.declared.stop.Fault.{Fault}
use Rattle.floyd_grammar.specs.Phrase.{Phrase}
use Rattle.floyd_grammar.specs.Refused.{IsRefused}
use Rattle.floyd_termread_trees.specs.declared.written.Written.{Written}
use Rattle.floyd_termread_trees.specs.declared.written.Written.TheVariants as written
use Rattle.floyd_termread_tokens.specs.SeenClauses.{tokens_from, tokens_until}
use Rattle.floyd_termread_tokens.specs.Tokens.{unexpected}
use Rattle.floyd_termread_grammar.specs.declared.values.Operand.{Operand}
use Rattle.floyd_termread_tables.specs.declared.values.Want.{Want}
use Rattle.floyd_termread_tables.specs.Operators.{goes_on}
use Rattle.floyd_termread_grammar.specs.Terms.{nested}

-- what is wanted, where so many brackets are open before it, of the 200 that may be, and no operator stands before it
abbrev pub whole : ℕ → Want → Phrase Token Operand
whole depth wanted = nested (201 - depth) wanted 0

-- the next token does not go on with what was read
abbrev pub Ends : Operand → List Token → Type 0
Ends x [] = Unit {0}
Ends x (t ∷ ts) = goes_on x.end t ≡ false

-- the tokens before the rest read as the tree, and the rest does not go on with it
pub record ReadsUpTo (depth : ℕ) (wanted : Want) (ts rest : List Token) (tree : Written) : Type 0 where
  pub front : List Token
  pub operand : Operand
  pub cut : ts ≡ front ++ rest
  pub reads : (whole depth wanted).reads front operand
  pub ends : Ends operand rest
  pub same : operand.tree ≡ tree

-- the tokens read in no way, whatever the rest
abbrev pub ReadsNever : ℕ → Want → List Token → Type 0
ReadsNever depth wanted ts = (rest : List Token) (tree : Written) → ReadsUpTo depth wanted ts rest tree → ⊥

-- The tokens of a text that is cut off, whose end stands there for all that is missing, read as this tree. What reads in no way
-- is missing as a whole.
abbrev pub IsFront : ℕ → Want → List Token → Written → Type 0
IsFront depth wanted ts tree = ((rest : List Token) × ReadsUpTo depth wanted ts rest tree) ⊎ (ReadsNever depth wanted ts × (tree ≡ written.Missing))

-- how often the end of a text may stand for something: more often than a file has tokens
abbrev pub cut_count : ℕ
cut_count = 2 ^ 32

abbrev pub code_of : ℕ → Code
code_of cause = if cause == unexpected then c.UnexpectedInSpec else c.TooDeep

-- the refusal at the first of the tokens that are left, for this cause, or at the end of the file where none is left
abbrev pub refusal_before : ℕ → List ℕ → List Token → ℕ → Refusal
refusal_before file bytes [] cause = refusal_at c.UnexpectedInSpec (place_at file bytes (length bytes)) Nothing
refusal_before file bytes (t ∷ left) cause = refusal_at (code_of cause) t.place Nothing

-- the number of the token at which those from `at` on are refused
abbrev pub refused_number : TokenList → ℕ → Fault → ℕ
refused_number list at fault = at + (length list.items - at - fault.left)

-- The tokens from `at` on are refused at the first with which those so far are no front, or at the end of the file, for the
-- greatest cause there; and those before it, where the text is cut off, read as the tree.
pub record IsCutOff (bytes : List ℕ) (list : TokenList) (at depth : ℕ) (wanted : Want) (tree : Written) (refusal : Refusal) : Type 0 where
  pub fault : Fault
  pub never : ReadsNever depth wanted (tokens_from bytes list at)
  pub refused : IsRefused (whole depth wanted) (tokens_from bytes list at) fault
  pub same : refusal ≡ refusal_before list.file bytes (tokens_from bytes list (refused_number list at fault)) fault.cause
  pub front : IsFront depth wanted (tokens_until bytes list at (refused_number list at fault) cut_count) tree

-- The tokens from `at` on read as this tree up to the one of that number; or none from there on read as what is wanted, and
-- the tree is cut off with that refusal.
abbrev pub IsRead : List ℕ → TokenList → ℕ → ℕ → Want → Written → Result ℕ Refusal → Type 0
IsRead bytes list at depth wanted tree (Ok next) =
    (at ≤ next) × (next ≤ length list.items) × ReadsUpTo depth wanted (tokens_from bytes list at) (tokens_from bytes list next) tree
IsRead bytes list at depth wanted tree (Err refusal) = IsCutOff bytes list at depth wanted tree refusal

-- A law. The tokens are read in one way at most: as one tree up to one token, or as one that is cut off with one refusal.
abbrev pub HasOneReading : Type 0
HasOneReading =
    (bytes : List ℕ) (list : TokenList) (at depth : ℕ) (wanted : Want) (x y : Written) (a b : Result ℕ Refusal) → IsRead bytes list at depth wanted x a → IsRead bytes list at depth wanted y b → (x ≡ y) × (a ≡ b)
