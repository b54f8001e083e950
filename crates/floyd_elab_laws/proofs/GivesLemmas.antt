-- What holds of what comes of one step after another.
use Rattle.std.proofs.Common.{Option, Some, None, Result, Ok, Err}
use Rattle.std.specs.Prelude.{IfOk, IfSome, option_map, option_and_then}
use Rattle.floyd_text.specs.declared.refusal.Refusal.{Refusal}
use Rattle.floyd_elab_names.specs.Refusing.{Refusing, and_then}

-- what was found, if it was not refused
pub record Gives {X : Type 0} (r : Result X Refusal) (Q : X → Type 0) : Type 0 where
  pub holds : IfOk r Q

pub after : {S A B : Type 0} {Q : B × S → Type 0} {P : A × S → Type 0} {next : A → Refusing S B} (r : Result (A × S) Refusal) → Gives r P → ((x : A) (s : S) → P (x, s) → Gives (next x s) Q) → Gives (and_then r next) Q
after (Ok x) h f = f x.0 x.1 h.holds
after (Err e) h f = record { holds = tt }

pub here : {X : Type 0} {Q : X → Type 0} {x : X} → Q x → Gives (Ok x) Q
here h = record { holds = h }

pub refused : {X : Type 0} {Q : X → Type 0} {e : Refusal} → Gives (Err e) Q
refused = record { holds = tt }

pub whatever : {X : Type 0} (r : Result X Refusal) → Gives r (λ x. Unit {0})
whatever (Ok x) = record { holds = tt }
whatever (Err e) = record { holds = tt }

-- whatever the first step finds
pub passing : {S A B : Type 0} {Q : B × S → Type 0} {next : A → Refusing S B} (r : Result (A × S) Refusal) → ((x : A) (s : S) → Gives (next x s) Q) → Gives (and_then r next) Q
passing r f = after r (whatever r) (λ x s _. f x s)

-- what follows from what was found
pub thus : {X : Type 0} {P Q : X → Type 0} (r : Result X Refusal) → Gives r P → ((x : X) → P x → Q x) → Gives r Q
thus (Ok x) h f = record { holds = f x h.holds }
thus (Err e) h f = record { holds = tt }

-- the same of an option
pub record Has {X : Type 0} (o : Option X) (Q : X → Type 0) : Type 0 where
  pub holds : IfSome o Q

pub nothing : {X : Type 0} {Q : X → Type 0} → Has None Q
nothing = record { holds = tt }

pub some_then : {X Y : Type 0} {Q : Y → Type 0} {P : X → Type 0} (f : X → Option Y) (o : Option X) → Has o P → ((x : X) → P x → Has (f x) Q) → Has (option_and_then f o) Q
some_then f (Some x) h g = g x h.holds
some_then f None h g = record { holds = tt }

pub some_map : {X Y : Type 0} {Q : Y → Type 0} {P : X → Type 0} (f : X → Y) (o : Option X) → Has o P → ((x : X) → P x → Q (f x)) → Has (option_map f o) Q
some_map f (Some x) h g = record { holds = g x h.holds }
some_map f None h g = record { holds = tt }

pub anything : {X : Type 0} (o : Option X) → Has o (λ x. Unit {0})
anything (Some x) = record { holds = tt }
anything None = record { holds = tt }

pub with_both : {X : Type 0} {P Q : X → Type 0} (o : Option X) → Has o P → Has o Q → Has o (λ x. P x × Q x)
with_both (Some x) h g = record { holds = (h.holds, g.holds) }
with_both None h g = record { holds = tt }
