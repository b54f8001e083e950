-- What follows an operand, by what the operand gave.
use Rattle.std.proofs.Common.{◌≡◌, refl, sym, subst}
use Rattle.std.specs.Prelude.{Result, Ok, Err}
use Rattle.std.specs.Result.{IsErrAnd}
use Rattle.floyd_text.specs.declared.refusal.Refusal.{Refusal}
use Rattle.floyd_text.specs.declared.refusal.Halt.{Halt}
use Rattle.floyd_text.specs.declared.refusal.Halt.TheVariants.{Refused, Memory}
use Rattle.floyd_text.specs.Gives.{Stops, Gives}
use Rattle.floyd_elab_names.specs.Refusing.{GivesWith, and_then, ◌>>=◌}
use Rattle.floyd_elab_names.specs.Typing.{Typing}
use Rattle.floyd_elab_names.specs.declared.tags.Tags.{Tags}
use Rattle.floyd_ctyping.specs.declared.operand.Operand.{Operand}

abbrev pub GivesOperand : Result Operand Halt → Tags → Result (Operand × Tags) Refusal → Type 0
GivesOperand r kept wanted = GivesWith (λ (a : Operand). a) r kept wanted

-- an answer that is that of equal typing
pub gives_as : (r : Result Operand Halt) (kept : Tags) (f g : Typing Operand) (s : Tags) → f ≡ g → GivesOperand r kept (g s) → GivesOperand r kept (f s)
gives_as r kept f g s e h = subst (λ (k : Typing Operand). GivesOperand r kept (k s)) (sym e) h

stopped : (r : Result Operand Halt) (h : Halt) (kept : Tags) (w : Result (Operand × Tags) Refusal) → IsErrAnd r (λ x. x ≡ h) → Stops h w → GivesOperand r kept w
stopped (Ok a) h kept w e g = absurd e
stopped (Err x) h kept w e g = subst (λ (z : Halt). Stops z w) (sym e) g

stops_on : (h : Halt) (w : Result (Operand × Tags) Refusal) (k : Operand → Typing Operand) → Stops h w → Stops h (and_then w k)
stops_on (Refused refusal) w k e = subst (λ (z : Result (Operand × Tags) Refusal). and_then z k ≡ Err refusal) (sym e) refl
stops_on Memory w k e = tt

kept_on : (r : Result Operand Halt) (kept : Tags) (w : Result (Operand × Tags) Refusal) → Gives (λ (a : Operand). (a, kept)) r w → GivesOperand r kept w
kept_on (Ok a) kept w h = h
kept_on (Err halt) kept w h = h

-- an operand that stops, and one that goes on
pub one_stops : (f m : Typing Operand) (k : Operand → Typing Operand) (s : Tags) (h : Halt) (r : Result Operand Halt) (kept : Tags) → f ≡ (m >>= k) → IsErrAnd r (λ x. x ≡ h) → Stops h (m s) → GivesOperand r kept (f s)
one_stops f m k s h r kept e is g = gives_as r kept f (m >>= k) s e (stopped r h kept (and_then (m s) k) is (stops_on h (m s) k g))

pub one_goes : (f m : Typing Operand) (k : Operand → Typing Operand) (s kept : Tags) (a : Operand) (r : Result Operand Halt) → f ≡ (m >>= k) → m s ≡ Ok (a, kept) → Gives (λ (x : Operand). (x, kept)) r (k a kept) → GivesOperand r kept (f s)
one_goes f m k s kept a r e is g =
    gives_as r kept f (m >>= k) s e
    (subst (λ (z : Result (Operand × Tags) Refusal). GivesOperand r kept (and_then z k)) (sym is) (kept_on r kept (k a kept) g))
