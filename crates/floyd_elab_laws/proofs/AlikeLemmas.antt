-- Two walks side by side: elaboration with its progress, typing with the tags alone.
use Rattle.std.proofs.Common.{◌≡◌, Result, Ok, Err, refl, subst}
use Rattle.floyd_text.specs.declared.refusal.Refusal.{Refusal}
use Rattle.floyd_elab_names.specs.declared.tags.Tags.{Tags}
use Rattle.floyd_elab_names.specs.Refusing.{Refusing, and_then}
use Rattle.floyd_elab_names.specs.Typing.{Typing}
use Rattle.floyd_elab_expressions.specs.declared.progress.Progress.{Progress}
use Rattle.floyd_elab_expressions.specs.Progress.{Elaborating, typing, with_tags}
use Rattle.floyd_elab_laws.proofs.GivesLemmas.{Gives}

abbrev pub Agree : {A B : Type 0} → (A → B → Type 0) → Result (A × Progress) Refusal → Result (B × Tags) Refusal → Type 0
Agree R (Ok x) (Ok y) = R x.0 y.0 × (x.1.tags ≡ y.1)
Agree R (Err a) (Err b) = a ≡ b
Agree R (Ok x) (Err b) = ⊥
Agree R (Err a) (Ok y) = ⊥

-- both refuse alike, or both find what R says, with the same tags
pub record Alike {A B : Type 0} (R : A → B → Type 0) (r : Result (A × Progress) Refusal) (q : Result (B × Tags) Refusal) : Type 0 where
  pub holds : Agree R r q

pub both : {A B : Type 0} {R : A → B → Type 0} {x : A} {p : Progress} {y : B} → R x y → Alike R (Ok (x, p)) (Ok (y, p.tags))
both h = record { holds = (h, refl) }

pub both_after : {A B C D : Type 0} {R : A → B → Type 0} {S : C → D → Type 0} {next : A → Elaborating C}
    (other : B → Typing D) (r : Result (A × Progress) Refusal) (q : Result (B × Tags) Refusal) → Alike R r q →
    ((x : A) (p : Progress) (y : B) → R x y → Alike S (next x p) (other y p.tags)) → Alike S (and_then r next) (and_then q other)
both_after {S = S} {next = next} other (Ok x) (Ok y) h f = subst (λ t. Alike S (next x.0 x.1) (other y.0 t)) h.holds.1 (f x.0 x.1 y.0 h.holds.0)
both_after other (Err a) (Err b) h f = record { holds = h.holds }
both_after other (Ok x) (Err b) h f = absurd h.holds
both_after other (Err a) (Ok y) h f = absurd h.holds

-- typing has found it already
pub one_after : {A B C : Type 0} {R : A → B → Type 0} {S : C → B → Type 0} {next : A → Elaborating C}
    (r : Result (A × Progress) Refusal) (q : Result (B × Tags) Refusal) → Alike R r q →
    ((x : A) (p : Progress) (y : B) → R x y → Alike S (next x p) (Ok (y, p.tags))) → Alike S (and_then r next) q
one_after {S = S} {next = next} (Ok x) (Ok y) h f = subst (λ t. Alike S (next x.0 x.1) (Ok (y.0, t))) h.holds.1 (f x.0 x.1 y.0 h.holds.0)
one_after (Err a) (Err b) h f = record { holds = h.holds }
one_after (Ok x) (Err b) h f = absurd h.holds
one_after (Err a) (Ok y) h f = absurd h.holds

-- the same value, of which something is known
pub record Known {A : Type 0} (Q : A → Type 0) (x y : A) : Type 0 where
  pub same : x ≡ y
  pub known : Q x

with_tags_alike : {A : Type 0} (Q : A → Type 0) (p : Progress) (r : Result (A × Tags) Refusal) → Gives r (λ x. Q x.0) → Alike (Known Q) (with_tags p r) r
with_tags_alike Q p (Ok x) h = record { holds = (record { same = refl; known = h.holds }, refl) }
with_tags_alike Q p (Err a) h = record { holds = refl }

-- one step of typing in both
pub typed_alike : {A : Type 0} (Q : A → Type 0) (t u : Typing A) (p : Progress) → t ≡ u → Gives (t p.tags) (λ x. Q x.0) → Alike (Known Q) (typing t p) (u p.tags)
typed_alike Q t u p e h = subst (λ (v : Typing _). Alike (Known Q) (typing t p) (v p.tags)) e (with_tags_alike Q p (t p.tags) h)
