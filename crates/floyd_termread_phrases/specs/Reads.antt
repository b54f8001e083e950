-- What is read from the token of a number on: a value with the number of the token behind it, or the first refusal. Readings
-- follow one another, and the first refusal ends them.
use Rattle.std.specs.Prelude.{◌≡◌, ℕ, Result, Ok, Err}
use Rattle.floyd_text.specs.declared.refusal.Halt.{Halt}
use Rattle.floyd_text.specs.declared.refusal.Halt.TheVariants.{Refused, Memory}
use Rattle.floyd_text.specs.declared.refusal.Refusal.{Refusal}

abbrev pub Answer : Type 0 → Type 0
Answer A = Result (A × ℕ) Refusal

abbrev pub Reads : Type 0 → Type 1
Reads A = ℕ → Answer A → Type 0

-- nothing, which is this
abbrev pub pure : {A : Type 0} → A → Reads A
pure x at answer = answer ≡ Ok (x, at)

abbrev pub after : {A B : Type 0} → (A → Reads B) → Answer A → Answer B → Type 0
after next (Ok read) answer = next read.0 read.1 answer
after next (Err refusal) answer = answer ≡ Err refusal

-- one behind the other
infixl 10 ◌>>=◌
abbrev pub ◌>>=◌ : {A B : Type 0} → Reads A → (A → Reads B) → Reads B
◌>>=◌ {A} first next at answer = (middle : Answer A) × first at middle × after next middle answer

infixl 10 ◌>>◌
abbrev pub ◌>>◌ : {A B : Type 0} → Reads A → Reads B → Reads B
first >> second = first >>= λ _. second

-- what a call answers, seen by `view`, is so, unless memory ran out
abbrev pub Answers : {X A : Type 0} → (X → A × ℕ) → (Answer A → Type 0) → Result X Halt → Type 0
Answers view P (Ok x) = P (Ok (view x))
Answers view P (Err (Refused refusal)) = P (Err refusal)
Answers view P (Err Memory) = Unit {0}
