-- Lists in parentheses: "(" [ item { mark item } ] ")". What an item is may depend on those before it.
use Rattle.std.specs.Prelude.{◌≡◌, ℕ, ◌+◌, ◌-◌, ◌==◌, true, false, List, [], ◌∷◌, ◌++◌, length, Ok, Err}
use Rattle.floyd_text.specs.declared.refusal.Refusal.{Refusal}
use Rattle.floyd_lex.specs.declared.kinds.Punctuator.{Punctuator}
use Rattle.floyd_lex.specs.declared.kinds.Punctuator.TheVariants as p
use Rattle.floyd_lex.specs.Token.{TokenList}
use Rattle.floyd_termread_tokens.specs.Tokens.{is_mark}
use Rattle.floyd_termread_marks.specs.Marks.{chosen, mark, is_next}
use Rattle.floyd_termread_phrases.specs.Reads.{Answer, Reads, pure, ◌>>◌}

-- 1 where nothing is before, and else 0
abbrev pub first_only : ℕ → ℕ
first_only n = 1 - n

module _ (bytes : List ℕ) (list : TokenList) (depth : ℕ) where
  -- before an item with so many before it
  abbrev pub before_item : Punctuator → ℕ → Reads (Unit {0})
  before_item between n = chosen (n == 0) (pure tt) (mark bytes list depth between >> pure tt)

  -- one more item
  abbrev pub next_item : {A : Type 0} → Punctuator → (List A → Reads A) → List A → Reads A
  next_item between item xs = before_item between (length xs) >> item xs

  -- what a list has, of which so many items were read: these where it ends, and else one more
  pub data Listed {A : Type 0} (between : Punctuator) (item : List A → Reads A) : List A → ℕ → Answer (List A) → Type 0 where
    ends : {xs : List A} {at : ℕ} → is_next bytes list (is_mark p.CloseParen) at ≡ true → Listed between item xs at (Ok (xs, at + 1))
    goes_on : {xs : List A} {x : A} {at next : ℕ} {answer : Answer (List A)} → is_next bytes list (is_mark p.CloseParen) at ≡ false → next_item between item xs at (Ok (x, next)) → Listed between item (xs ++ x ∷ []) next answer
        → Listed between item xs at answer
    stops : {xs : List A} {at : ℕ} {refusal : Refusal} → is_next bytes list (is_mark p.CloseParen) at ≡ false → next_item between item xs at (Err refusal) → Listed between item xs at (Err refusal)

-- a list whose items are read one bracket further in
abbrev pub listed : {A : Type 0} → List ℕ → TokenList → ℕ → Punctuator → (List A → Reads A) → Reads (List A)
listed bytes list depth between item = mark bytes list depth p.OpenParen >> Listed bytes list (depth + 1) between item []
