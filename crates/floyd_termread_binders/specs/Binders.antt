-- Sorts and binders from the tokens of a file: what they are read as, with the number of the token behind it, or the refusal.
use Rattle.std.specs.Prelude.{◌≡◌, ℕ, ◌-◌, ◌≤◌, Bool, false, List, [], ◌∷◌, ◌++◌, length, Result, Ok, Err}
use Rattle.floyd_text.specs.declared.refusal.Halt.{Halt}
use Rattle.floyd_text.specs.declared.refusal.Halt.TheVariants.{Refused, Memory}
use Rattle.floyd_text.specs.declared.refusal.Refusal.{Refusal}
use Rattle.floyd_lex.specs.declared.kinds.Punctuator.TheVariants as p
use Rattle.floyd_lex.specs.Token.{Token, TokenList}
use Rattle.floyd_grammar.specs.declared.stop.Fault.{Fault}
use Rattle.floyd_grammar.specs.Phrase.{Phrase, pure, ◌>>=◌}
use Rattle.floyd_grammar.specs.Refused.{IsRefused}
use Rattle.floyd_termread_trees.specs.declared.written.Binder.{Binder}
use Rattle.floyd_termread_trees.specs.declared.written.SortItem.{SortItem}
use Rattle.floyd_termread_tokens.specs.SeenClauses.{tokens_from}
use Rattle.floyd_termread_tokens.specs.Tokens.{is_mark}
use Rattle.floyd_termread_sorts.specs.Sorts.{sorts, binders}
use Rattle.floyd_termread_grammar.specs.Reading.{refusal_before, refused_number}

-- none of these tokens stands next
abbrev pub Ends : (Token → Bool) → List Token → Type 0
Ends more [] = Unit {0}
Ends more (t ∷ ts) = more t ≡ false

-- the tokens before the rest read as the value, and the rest does not go on with it
pub record ReadsBefore {A : Type 0} (g : Phrase Token A) (more : Token → Bool) (ts rest : List Token) (x : A) : Type 0 where
  pub front : List Token
  pub cut : ts ≡ front ++ rest
  pub reads : g.reads front x
  pub ends : Ends more rest

abbrev pub refusal_of : List ℕ → TokenList → ℕ → Fault → Refusal
refusal_of bytes list at fault = refusal_before list.file bytes (tokens_from bytes list (refused_number list at fault)) fault.cause

-- The tokens from `at` on read as this value up to the one of that number. Or none from there on do, and they are refused at
-- the first with which those so far are no front, or at the end of the file, for the greatest cause there.
abbrev pub IsReadAs : {A : Type 0} → Phrase Token A → (Token → Bool) → List ℕ → TokenList → ℕ → Result (A × ℕ) Refusal → Type 0
IsReadAs {A} g more bytes list at (Ok read) =
    (at ≤ read.1) × (read.1 ≤ length list.items) × ReadsBefore g more (tokens_from bytes list at) (tokens_from bytes list read.1) read.0
IsReadAs {A} g more bytes list at (Err refusal) =
    (fault : Fault) × ((rest : List Token) (x : A) → ReadsBefore g more (tokens_from bytes list at) rest x → ⊥) × IsRefused g (tokens_from bytes list at) fault × (refusal ≡ refusal_of bytes list at fault)

-- a sort, where so many brackets are open before it, of the 200 that may be
abbrev pub IsSort : List ℕ → TokenList → ℕ → ℕ → Result (List SortItem × ℕ) Refusal → Type 0
IsSort bytes list at depth answer = IsReadAs (sorts (201 - depth) 0) (λ t. false) bytes list at answer

-- binders, behind which a comma goes on
abbrev pub binder_list : ℕ → Phrase Token (List Binder)
binder_list depth = binders (200 - depth) 0 0 >>= λ all. pure all.items

abbrev pub IsBinders : List ℕ → TokenList → ℕ → ℕ → Result (List Binder × ℕ) Refusal → Type 0
IsBinders bytes list at depth answer = IsReadAs (binder_list depth) (is_mark p.Comma) bytes list at answer

-- what a call answers is so, unless memory ran out
abbrev pub Answers : {A : Type 0} → (Result A Refusal → Type 0) → Result A Halt → Type 0
Answers P (Ok x) = P (Ok x)
Answers P (Err (Refused r)) = P (Err r)
Answers P (Err Memory) = Unit {0}
