-- Where a call ends early.
use Rattle.std.specs.Prelude.{Result, Ok, Err, OnOk, IfOk}
use Rattle.std.specs.Result.{IsErrAnd}
use Rattle.std.proofs.Common.{◌≡◌, sym, subst}
use Rattle.floyd_text.specs.declared.refusal.Refusal.{Refusal}
use Rattle.floyd_text.specs.declared.refusal.Halt.{Halt}
use Rattle.floyd_text.specs.declared.refusal.Halt.TheVariants.{Memory}
use Rattle.floyd_text.specs.Gives.{Stops, Gives}

-- An error says nothing of what is there where all went well.
pub only_ok : {X E : Type 0} (r : Result X E) (P : E → Type 0) (Q : Type 0) → IsErrAnd r P → OnOk r Q
only_ok (Ok x) P Q h = absurd h
only_ok (Err e) P Q h = tt

pub only_err : {X E : Type 0} (r : Result X E) (P : E → Type 0) (Q : X → Type 0) → IsErrAnd r P → IfOk r Q
only_err (Ok x) P Q h = absurd h
only_err (Err e) P Q h = tt

-- Nothing is said where memory ran out.
pub gives_memory : {X Y : Type 0} (view : X → Y) (r : Result X Halt) (w : Result Y Refusal) → IsErrAnd r (λ x. x ≡ Memory) → Gives view r w
gives_memory view (Ok x) w h = absurd h
gives_memory view (Err x) w h = subst (λ (z : Halt). Stops z w) (sym h) tt
