-- A walk: what is done behind statements that were there before, as it goes through what was done first.
use Rattle.std.proofs.Common.{◌≡◌, List, [], ◌∷◌, ◌++◌, refl, ap, sym, ◌∙◌}
use Rattle.std.specs.Prelude.{Result, Ok, Err, OnOk}
use Rattle.std.proofs.lemmas.List.{append_assoc}
use Rattle.floyd_text.specs.declared.refusal.Refusal.{Refusal}
use Rattle.floyd_text.specs.declared.refusal.Halt.{Halt}
use Rattle.floyd_text.specs.Gives.{Stops}
use Rattle.floyd_elab_names.specs.Refusing.{Refusing, and_then}
use Rattle.floyd_elab_names.specs.Scopes.{Scopes, leave}
use Rattle.floyd_clight.specs.declared.syntax.Stmt.{Stmt}
use Rattle.floyd_elab_expressions.specs.Clight.{Translated, sequence}
use Rattle.floyd_elab_expressions.specs.Behind.{put_behind, onto}
use Rattle.floyd_elab_statements.specs.LocalClauses.{beginning}
use Rattle.floyd_elab_statements.specs.WalkClauses.{sequence_behind}
use Rattle.floyd_elab_statements.proofs.Steps.{goes, stops, stops_as}

-- The same value, shared.
-- Through what was done, to what stands behind statements that were there before.

pub through_value : {S : Type 0} (there : List Stmt) (r : Result (Translated × S) Refusal) (k : Translated → Refusing S (List Stmt)) → ((a : Translated) (s : S) → put_behind there (k a s) ≡ k (record a { before = there ++ a.before }) s)
    → put_behind there (and_then r k) ≡ and_then (onto there r) k
through_value there (Ok r) k more = more r.0 r.1
through_value there (Err refusal) k more = refl

pub beside_value : {S B : Type 0} (there : List Stmt) (r : Result (Translated × S) Refusal) (k : Translated → Refusing S (List Stmt × B)) → ((a : Translated) (s : S) → beginning there (k a s) ≡ k (record a { before = there ++ a.before }) s)
    → beginning there (and_then r k) ≡ and_then (onto there r) k
beside_value there (Ok r) k more = more r.0 r.1
beside_value there (Err refusal) k more = refl

pub through_begun : {S B : Type 0} (there : List Stmt) (r : Result ((List Stmt × B) × S) Refusal) (k l : List Stmt × B → Refusing S (List Stmt)) → ((t : List Stmt × B) (s : S) → put_behind there (k t s) ≡ l (there ++ t.0, t.1) s)
    → put_behind there (and_then r k) ≡ and_then (beginning there r) l
through_begun there (Ok r) k l more = more r.0 r.1
through_begun there (Err refusal) k l more = refl

pub through_appended : {S : Type 0} (there before : List Stmt) (r : Result (List Stmt × S) Refusal) (k l : List Stmt → Refusing S (List Stmt)) → ((new : List Stmt) (s : S) → put_behind there (k new s) ≡ l (before ++ new) s)
    → put_behind there (and_then r k) ≡ and_then (put_behind before r) l
through_appended there before (Ok r) k l more = more r.0 r.1
through_appended there before (Err refusal) k l more = refl

pub through_sequenced : {S : Type 0} (there before : List Stmt) (r : Result (List Stmt × S) Refusal) (k : List Stmt → Refusing S (List Stmt)) (l : Stmt → Refusing S (List Stmt)) → ((new : List Stmt) (s : S) → put_behind there (k new s) ≡ l (sequence (before ++ new)) s)
    → put_behind there (and_then r k) ≡ and_then (sequence_behind before r) l
through_sequenced there before (Ok r) k l more = more r.0 r.1
through_sequenced there before (Err refusal) k l more = refl

-- one statement more
pub pushed_behind : {S : Type 0} (there new : List Stmt) (x : Stmt) (s : S) → put_behind there (Ok (new ++ x ∷ [], s)) ≡ Ok ((there ++ new) ++ x ∷ [], s)
pushed_behind {S} there new x s = ap (λ (l : List Stmt). let made : Result (List Stmt × S) Refusal = Ok (l, s) in made) (sym (append_assoc there new (x ∷ [])))

-- What is judged before the last statement.

pub judged_beside : {S A B : Type 0} (there before : List Stmt) (r : Result (A × S) Refusal) (b : B) → beginning there (and_then r (λ _ s. Ok ((before, b), s))) ≡ and_then r (λ _ s. Ok ((there ++ before, b), s))
judged_beside there before (Ok r) b = refl
judged_beside there before (Err refusal) b = refl

pub found_beside : {S A B : Type 0} (there before : List Stmt) (r : Result (A × S) Refusal) (f : A → B) → beginning there (and_then r (λ a s. Ok ((before, f a), s))) ≡ and_then r (λ a s. Ok ((there ++ before, f a), s))
found_beside there before (Ok r) f = refl
found_beside there before (Err refusal) f = refl

pub judged_behind : {S A : Type 0} (there before : List Stmt) (r : Result (A × S) Refusal) (x : Stmt) → put_behind there (and_then r (λ _ s. Ok (before ++ x ∷ [], s))) ≡ and_then r (λ _ s. Ok ((there ++ before) ++ x ∷ [], s))
judged_behind there before (Ok r) x = pushed_behind there before x r.1
judged_behind there before (Err refusal) x = refl

-- Where nothing stood before.

pub in_empty : {A : Type 0} (f : List Stmt → Result A Refusal) (none : List Stmt) (v : Result A Refusal) → none ≡ [] → f none ≡ v → f [] ≡ v
in_empty f none v is e = ap f (sym is) ∙ e

pub empty_stops : {A : Type 0} (f : List Stmt → Result A Refusal) (none : List Stmt) (h : Halt) → none ≡ [] → Stops h (f none) → Stops h (f [])
empty_stops f none h is e = stops_as h (f []) (f none) (ap f (sym is)) e

-- Statements as one.

sequenced_is : {S : Type 0} (before : List Stmt) (r : Result (List Stmt × S) Refusal) → sequence_behind before r ≡ and_then (put_behind before r) (λ l s. Ok (sequence l, s))
sequenced_is before (Ok r) = refl
sequenced_is before (Err refusal) = refl

pub sequenced_stops : {S : Type 0} (h : Halt) (before : List Stmt) (r : Result (List Stmt × S) Refusal) → Stops h (put_behind before r) → Stops h (sequence_behind before r)
sequenced_stops h before r e = stops_as h _ _ (sequenced_is before r) (stops h (put_behind before r) (λ l s. Ok (sequence l, s)) e)

pub sequenced_goes : {S : Type 0} (before out : List Stmt) (r : Result (List Stmt × S) Refusal) (s : S) (x : Stmt) → put_behind before r ≡ Ok (out, s) → x ≡ sequence out → sequence_behind before r ≡ Ok (x, s)
sequenced_goes {S} before out r s x e is =
    sequenced_is before r
    ∙ goes (put_behind before r) (λ l s. Ok (sequence l, s)) out s e
    ∙ ap (λ (z : Stmt). let made : Result (Stmt × S) Refusal = Ok (z, s) in made) (sym is)

-- Names that are as before have the same scopes around them.
pub outer_same : {X E : Type 0} (r : Result X E) (now old : Scopes) → OnOk r (now ≡ old) → OnOk r (leave now ≡ leave old)
outer_same (Ok x) now old e = ap leave e
outer_same (Err e) now old h = tt

pub names_as : {X E : Type 0} (r : Result X E) (now mid old : Scopes) → mid ≡ old → OnOk r (now ≡ mid) → OnOk r (now ≡ old)
names_as (Ok x) now mid old e h = h ∙ e
names_as (Err x) now mid old e h = tt
