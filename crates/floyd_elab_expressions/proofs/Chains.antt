-- Chains of what is done one after the other, and statements that stood before.
use Rattle.std.proofs.Common.{◌≡◌, List, [], ◌++◌, refl, ap}
use Rattle.std.specs.Prelude.{Result, Ok, Err}
use Rattle.floyd_text.specs.declared.refusal.Refusal.{Refusal}
use Rattle.floyd_text.specs.declared.refusal.Halt.{Halt}
use Rattle.floyd_text.specs.declared.refusal.Halt.TheVariants.{Refused, Memory}
use Rattle.floyd_text.specs.Gives.{Stops}
use Rattle.floyd_elab_names.specs.Refusing.{Refusing, and_then}
use Rattle.floyd_elab_names.specs.Typing.{Typing}
use Rattle.floyd_clight.specs.declared.syntax.Stmt.{Stmt}
use Rattle.floyd_elab_expressions.specs.declared.progress.Progress.{Progress}
use Rattle.floyd_elab_expressions.specs.Clight.{Translated}
use Rattle.floyd_elab_expressions.specs.Progress.{with_tags, typing}
use Rattle.floyd_elab_expressions.specs.Behind.{onto}

-- What follows what was done.

pub goes : {S A B : Type 0} (r : Result (A × S) Refusal) (k : A → Refusing S B) (a : A) (s : S) → r ≡ Ok (a, s) → and_then r k ≡ k a s
goes r k a s e = ap (λ x. and_then x k) e

pub stops : {S A B : Type 0} (h : Halt) (r : Result (A × S) Refusal) (k : A → Refusing S B) → Stops h r → Stops h (and_then r k)
stops (Refused refusal) r k e = ap (λ x. and_then x k) e
stops Memory r k e = tt

-- Typing on the way, which keeps the structs.

pub typed : {A : Type 0} (t : Typing A) (p : Progress) (a : A) → t p.tags ≡ Ok (a, p.tags) → typing t p ≡ Ok (a, p)
typed t p a e = ap (with_tags p) e

pub typing_stops : {A : Type 0} (h : Halt) (t : Typing A) (p : Progress) → Stops h (t p.tags) → Stops h (typing t p)
typing_stops (Refused refusal) t p e = ap (with_tags p) e
typing_stops Memory t p e = tt

-- Statements that stood before.

pub onto_through : {S A : Type 0} (there : List Stmt) (r : Result (A × S) Refusal) (k l : A → Refusing S Translated) → ((a : A) (s : S) → onto there (k a s) ≡ l a s) → onto there (and_then r k) ≡ and_then r l
onto_through there (Ok r) k l more = more r.0 r.1
onto_through there (Err refusal) k l more = refl

pub onto_followed : {S : Type 0} (there : List Stmt) (r : Result (Translated × S) Refusal) (k : Translated → Refusing S Translated) → ((a : Translated) (s : S) → onto there (k a s) ≡ k (record a { before = there ++ a.before }) s) → onto there (and_then r k) ≡ and_then (onto there r) k
onto_followed there (Ok r) k more = more r.0 r.1
onto_followed there (Err refusal) k more = refl

pub onto_stops : {S : Type 0} (h : Halt) (there : List Stmt) (r : Result (Translated × S) Refusal) → Stops h r → Stops h (onto there r)
onto_stops (Refused refusal) there r e = ap (onto there) e
onto_stops Memory there r e = tt

pub onto_nothing : {S : Type 0} (r : Result (Translated × S) Refusal) → onto [] r ≡ r
onto_nothing (Ok r) = refl
onto_nothing (Err refusal) = refl
