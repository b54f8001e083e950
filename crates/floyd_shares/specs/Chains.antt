-- What comes behind a step of a row: what was found goes on, and a refusal is the answer.
use Rattle.std.specs.Prelude.{◌≡◌, Bool, true, false, Result, Ok, Err}
use Rattle.floyd_text.specs.declared.refusal.No.{No}
use Rattle.floyd_goal.specs.Goals.{wrong_goal}

-- behind a step that gives this
abbrev pub Then : {A B : Type 0} → Result A No → (A → Result B No → Type 0) → Result B No → Type 0
Then (Ok a) Next answer = Next a answer
Then (Err why) Next answer = answer ≡ Err why

-- behind a step of which this says what it answers
module _ {A B : Type 0} where
  abbrev pub After : (Result A No → Type 0) → (A → Result B No → Type 0) → Result B No → Type 0
  After Right Next answer = (a : Result A No) × Right a × Then a Next answer

-- where this is so; else the part is of another form
abbrev pub When : {B : Type 0} → Bool → (Result B No → Type 0) → Result B No → Type 0
When true Next answer = Next answer
When false Next answer = answer ≡ Err wrong_goal
