-- What is done one after the other, behind statements that were there before.
use Rattle.std.proofs.Common.{◌≡◌, List, [], refl, ap, sym, subst, ◌∙◌}
use Rattle.std.specs.Prelude.{Result, Ok, Err, OnOk}
use Rattle.std.specs.Result.{IsErrAnd}
use Rattle.std.proofs.lemmas.List.{append-nil}
use Rattle.floyd_text.specs.declared.refusal.Refusal.{Refusal}
use Rattle.floyd_text.specs.declared.refusal.Halt.{Halt}
use Rattle.floyd_text.specs.declared.refusal.Halt.TheVariants.{Refused, Memory}
use Rattle.floyd_text.specs.Gives.{Stops, Gives}
use Rattle.floyd_elab_names.specs.declared.tags.Tags.{Tags}
use Rattle.floyd_elab_names.specs.Refusing.{Refusing, and_then}
use Rattle.floyd_elab_names.specs.Typing.{Typing}
use Rattle.floyd_clight.specs.declared.syntax.Stmt.{Stmt}
use Rattle.floyd_elab_expressions.specs.declared.progress.Progress.{Progress}
use Rattle.floyd_elab_expressions.specs.Progress.{with_tags, typing}
use Rattle.floyd_elab_expressions.specs.Behind.{put_behind}
use Rattle.floyd_elab_statements.specs.LocalClauses.{beginning}

abbrev pub value_or : {A : Type 0} → A → Result A Refusal → A
value_or other (Ok a) = a
value_or other (Err refusal) = other

-- What follows what was done.

pub goes : {S A B : Type 0} (r : Result (A × S) Refusal) (k : A → Refusing S B) (a : A) (s : S) → r ≡ Ok (a, s) → and_then r k ≡ k a s
goes r k a s e = ap (λ x. and_then x k) e

pub stops : {S A B : Type 0} (h : Halt) (r : Result (A × S) Refusal) (k : A → Refusing S B) → Stops h r → Stops h (and_then r k)
stops (Refused refusal) r k e = ap (λ x. and_then x k) e
stops Memory r k e = tt

pub assoc : {S A B C : Type 0} (r : Result (A × S) Refusal) (f : A → Refusing S B) (g : B → Refusing S C) → and_then (and_then r f) g ≡ and_then r (λ a s. and_then (f a s) g)
assoc (Ok r) f g = refl
assoc (Err refusal) f g = refl

pub stops_as : {Y : Type 0} (h : Halt) (r q : Result Y Refusal) → r ≡ q → Stops h q → Stops h r
stops_as (Refused refusal) r q e s = e ∙ s
stops_as Memory r q e s = tt

-- Typing on the way.

pub typed : {A : Type 0} (t : Typing A) (p : Progress) (a : A) (tags : Tags) → t p.tags ≡ Ok (a, tags) → typing t p ≡ Ok (a, record p { tags = tags })
typed t p a tags e = ap (with_tags p) e

pub typing_stops : {A : Type 0} (h : Halt) (t : Typing A) (p : Progress) → Stops h (t p.tags) → Stops h (typing t p)
typing_stops (Refused refusal) t p e = ap (with_tags p) e
typing_stops Memory t p e = tt

-- Nothing went there.
pub appended_none : {S : Type 0} (there : List Stmt) (s : S) → put_behind there (Ok ([], s)) ≡ Ok (there, s)
appended_none {S} there s = ap (λ (l : List Stmt). let made : Result (List Stmt × S) Refusal = Ok (l, s) in made) (append-nil there)

-- Statements beside something else.

pub beginning_halted : {S B : Type 0} (h : Halt) (there : List Stmt) (r : Result ((List Stmt × B) × S) Refusal) → Stops h (beginning there r) → Stops h r
beginning_halted (Refused refusal) there (Ok r) e = absurd (cc)
beginning_halted (Refused refusal) there (Err other) e = cc
beginning_halted Memory there r e = tt

pub beginning_stops : {S B : Type 0} (h : Halt) (there : List Stmt) (r : Result ((List Stmt × B) × S) Refusal) → Stops h r → Stops h (beginning there r)
beginning_stops (Refused refusal) there r e = ap (beginning there) e
beginning_stops Memory there r e = tt

-- What a call answers.

pub gives_as : {X Y : Type 0} (view : X → Y) (r : Result X Halt) (w v : Result Y Refusal) → w ≡ v → Gives view r v → Gives view r w
gives_as view (Ok x) w v e g = e ∙ g
gives_as view (Err h) w v e g = stops_as h w v e g

-- Something else is put beside statements.

beside_is : {S B : Type 0} (there : List Stmt) (w : Result (List Stmt × S) Refusal) (b : B)
    → beginning there (and_then w (λ first s. Ok ((first, b), s))) ≡ and_then (put_behind there w) (λ all s. Ok ((all, b), s))
beside_is there (Ok r) b = refl
beside_is there (Err refusal) b = refl

pub beside : {S B : Type 0} (r : Result (Unit {0}) Halt) (there : List Stmt) (w : Result (List Stmt × S) Refusal) (out : List Stmt) (b : B) (s : S)
    → Gives (λ u. (out, s)) r (put_behind there w) → Gives (λ u. ((out, b), s)) r (beginning there (and_then w (λ first s. Ok ((first, b), s))))
beside (Ok u) there w out b s e = beside_is there w b ∙ goes (put_behind there w) (λ all s. Ok ((all, b), s)) out s e
beside (Err h) there w out b s e = stops_as h _ _ (beside_is there w b) (stops h (put_behind there w) (λ all s. Ok ((all, b), s)) e)

pub gives_err : {X Y : Type 0} (view : X → Y) (r : Result X Halt) (h : Halt) (w : Result Y Refusal) → IsErrAnd r (λ x. x ≡ h) → Stops h w → Gives view r w
gives_err view (Ok x) h w e s = absurd e
gives_err view (Err x) h w e s = subst (λ z. Stops z w) (sym e) s

pub on_ok : {X E : Type 0} (r : Result X E) {P : Type 0} → P → OnOk r P
on_ok (Ok x) p = p
on_ok (Err e) p = tt

pub beside_same : {S B : Type 0} (r : Result (Unit {0}) Halt) (there : List Stmt) (w : Result (List Stmt × S) Refusal) (out : List Stmt) (b now : B) (s : S)
    → OnOk r (now ≡ b)
    → Gives (λ u. (out, s)) r (put_behind there w) → Gives (λ u. ((out, now), s)) r (beginning there (and_then w (λ first s. Ok ((first, b), s))))
beside_same (Ok u) there w out b now s same e = beside (Ok u) there w out b s e ∙ (λ j. let back : b ≡ now = sym same in Ok ((out, back j), s))
beside_same (Err h) there w out b now s same e = beside (Err h) there w out b s e
