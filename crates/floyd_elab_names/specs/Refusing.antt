-- A text is gone through from left to right, and what was met is kept on the way. It ends at the first refusal.
use Rattle.std.specs.Prelude.{◌≡◌, Bool, List, [], ◌∷◌, Option, Some, None, Result, Ok, Err, if◌then◌else◌}
use Rattle.floyd_text.specs.declared.refusal.Refusal.{Refusal}
use Rattle.floyd_text.specs.declared.refusal.Halt.{Halt}
use Rattle.floyd_text.specs.Gives.{Stops}

-- from what is kept so far, a value and what is kept afterwards, or a refusal
abbrev pub Refusing : Type 0 → Type 0 → Type 0
Refusing S A = S → Result (A × S) Refusal

-- one after the other
abbrev pub and_then : {S A B : Type 0} → Result (A × S) Refusal → (A → Refusing S B) → Result (B × S) Refusal
and_then (Ok r) next = next r.0 r.1
and_then (Err refusal) next = Err refusal

infixl 10 ◌>>=◌
abbrev pub ◌>>=◌ : {S A B : Type 0} → Refusing S A → (A → Refusing S B) → Refusing S B
first >>= next = λ s. and_then (first s) next

infixl 10 ◌>>◌
abbrev pub ◌>>◌ : {S A B : Type 0} → Refusing S A → Refusing S B → Refusing S B
first >> second = first >>= λ _. second

abbrev pub pure : {S A : Type 0} → A → Refusing S A
pure a = λ s. Ok (a, s)

abbrev pub refuse : {S A : Type 0} → Refusal → Refusing S A
refuse refusal = λ s. Err refusal

-- refuses unless this holds
abbrev pub unless : {S : Type 0} → Refusal → Bool → Refusing S (Unit {0})
unless refusal holds = if holds then pure tt else refuse refusal

-- the value, or a refusal where there is none
abbrev pub or_refuse : {S A : Type 0} → Refusal → Option A → Refusing S A
or_refuse refusal (Some a) = pure a
or_refuse refusal None = refuse refusal

-- something of what is kept
abbrev pub of_kept : {S A : Type 0} → (S → A) → Refusing S A
of_kept part = λ s. Ok (part s, s)

-- what is kept is changed
abbrev pub modify : {S : Type 0} → (S → S) → Refusing S (Unit {0})
modify change = λ s. Ok (tt, change s)

-- each in turn, from what the one before it gave
abbrev pub in_turn : {S A : Type 0} → List (A → Refusing S A) → A → Refusing S A
in_turn [] a = pure a
in_turn (step ∷ steps) a = step a >>= in_turn steps

-- What a call answers, seen by `view`, and what it keeps are what the definition gives, unless memory ran out. After a
-- refusal nothing is said of what is kept.
abbrev pub GivesWith : {S X Y : Type 0} → (X → Y) → Result X Halt → S → Result (Y × S) Refusal → Type 0
GivesWith view (Ok x) kept wanted = wanted ≡ Ok (view x, kept)
GivesWith view (Err halt) kept wanted = Stops halt wanted
