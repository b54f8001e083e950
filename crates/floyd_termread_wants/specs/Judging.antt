-- What is judged gives what is read, or its first refusal. A phrase that the text cuts off gives neither: it is not judged.
use Rattle.std.specs.Prelude.{◌≡◌, Bool, Option, Some, None, Result, Ok, Err, if◌then◌else◌}
use Rattle.floyd_text.specs.declared.refusal.Refusal.{Refusal}
use Rattle.floyd_termread_wants.specs.declared.stop.JudgeStop.{JudgeStop}
use Rattle.floyd_termread_wants.specs.declared.stop.JudgeStop.TheVariants.{Refused, CutOff, Memory}

-- what is read, a refusal, or, where the text is cut off, nothing
abbrev pub Judged : Type 0 → Type 0
Judged A = Result A (Option Refusal)

-- one after the other: what is refused or cut off ends the walk
infixl 10 ◌>>=◌
abbrev pub ◌>>=◌ : {A B : Type 0} → Judged A → (A → Judged B) → Judged B
(Ok a) >>= next = next a
(Err stop) >>= next = Err stop

infixl 10 ◌>>◌
abbrev pub ◌>>◌ : {A B : Type 0} → Judged A → Judged B → Judged B
first >> second = first >>= λ _. second

abbrev pub refuse : {A : Type 0} → Refusal → Judged A
refuse refusal = Err (Some refusal)

abbrev pub cut_off : {A : Type 0} → Judged A
cut_off = Err None

abbrev pub unless : Refusal → Bool → Judged (Unit {0})
unless refusal holds = if holds then Ok tt else refuse refusal

abbrev pub or_refuse : {A : Type 0} → Refusal → Option A → Judged A
or_refuse refusal (Some a) = Ok a
or_refuse refusal None = refuse refusal

-- what the text has, unless it is cut off before it
abbrev pub there : {A : Type 0} → Option A → Judged A
there (Some a) = Ok a
there None = cut_off

-- what stopped a call is what the definition says, unless memory ran out
abbrev pub JudgeStops : {Y : Type 0} → JudgeStop → Judged Y → Type 0
JudgeStops (Refused refusal) wanted = wanted ≡ Err (Some refusal)
JudgeStops CutOff wanted = wanted ≡ Err None
JudgeStops Memory wanted = Unit {0}

-- what a call answers, seen by `view`, is what the definition says, unless memory ran out
abbrev pub Judges : {X Y : Type 0} → (X → Y) → Result X JudgeStop → Judged Y → Type 0
Judges view (Ok x) wanted = wanted ≡ Ok (view x)
Judges view (Err stop) wanted = JudgeStops stop wanted
