-- A program of which nothing is missing is sound.
use Rattle.std.proofs.Common.{◌≡◌, ℕ, ◌+◌, Bool, true, false, inl, inr, List, [], ◌∷◌, ◌++◌, map, Option, Some, None, refl, sym, ap, subst, ◌∙◌, eqb-true}
use Rattle.std.specs.Prelude.{◌==◌, ◌&&◌, ◌||◌, ◌⊎◌, not, bytes_eq, if◌then◌else◌, is_some}
use Rattle.std.specs.List.{AllByRecursion, flat_map}
use Rattle.std.proofs.lemmas.Slice.Eq.{bytes_eq-Decides}
use Rattle.floyd_text.specs.declared.place.Place.{Place}
use Rattle.floyd_clight.specs.declared.unit.Defined.{Defined}
use Rattle.floyd_goal_meaning.specs.declared.linked.ImportBy.{ImportBy}
use Rattle.floyd_goal_meaning.specs.declared.linked.Linked.{Linked}
use Rattle.floyd_goal_meaning.specs.declared.linked.LinkedFunction.{LinkedFunction}
use Rattle.floyd_goal_meaning.specs.declared.linked.Module.{Module}
use Rattle.floyd_goal_meaning.specs.GoalHolds.{HoldsFor}
use Rattle.floyd_goal_meaning.specs.Worlds.{Sound}
use Rattle.floyd_links.specs.Links.{Links}
use Rattle.floyd_program_soundness.specs.Proofs as p
use Rattle.floyd_program_soundness.proofs.Soundness.{proved_sound}
use Rattle.floyd_proved.specs.declared.claim.Claim.{Claim}
use Rattle.floyd_proved.specs.Claims.{IsProved}
use Rattle.floyd_soundness.specs.declared.keys.Key.{Key}
use Rattle.floyd_soundness.specs.declared.keys.Kind.{Kind}
use Rattle.floyd_soundness.specs.declared.keys.Kind.TheVariants.{Lemma, Body, Import}
use Rattle.floyd_soundness.specs.declared.missing.Missing.{Missing}
use Rattle.floyd_soundness.specs.Claims.{AreClaimsOf, IsClaimOf}
use Rattle.floyd_soundness.specs.Keys.{as_kind, is_key, is_proved, key_for, key_of, kind_in, proof_of, script_module}
use Rattle.floyd_soundness.specs.Unproved.{first_from, is_before, missing, missing_body, missing_from, missing_function, missing_if, missing_import, missing_in, missing_lemma, missing_of, judged, verdict}
use Rattle.floyd_soundness.proofs.Lists.{nil_parts}

-- ---- proofs

is_proof : (L : Linked) (earlier : List p.Proof) (c : Claim) → IsClaimOf L earlier c → IsProved c → p.IsProof L earlier (proof_of L c)
is_proof L earlier c h q = record {
  module' = h.module';
  at = h.at;
  goals = c.start;
  starts = h.starts;
  holds = λ n.
      subst (λ s. AllByRecursion (HoldsFor (p.with_proved h.module'.defs c.before) s n) c.start) h.specs
      (subst (λ d. AllByRecursion (HoldsFor d c.specs n) c.start) h.defs (q.starts n));
  before = h.before;
}

are_proofs : (L : Linked) (earlier : List p.Proof) (claims : List Claim) → AreClaimsOf L earlier claims → AllByRecursion IsProved claims → p.AreProofs L earlier (map (proof_of L) claims)
are_proofs L earlier [] h q = tt
are_proofs L earlier (c ∷ claims) h q = (is_proof L earlier c h.0 q.0, are_proofs L (earlier ++ proof_of L c ∷ []) claims h.1 q.1)

-- ---- keys of proofs

no_truth : false ≡ true → ⊥
no_truth e = cc

both : (a b : Bool) → (a && b) ≡ true → (a ≡ true) × (b ≡ true)
both true b e = (refl, e)
both false b e = absurd (no_truth e)

either : (a b : Bool) → (a || b) ≡ true → (a ≡ true) ⊎ (b ≡ true)
either true b e = inl refl
either false b e = inr e

same_name : (x name : List ℕ) → bytes_eq x name ≡ true → name ≡ x
same_name x name e = sym ((bytes_eq-Decides x name).0 e)

is_body : (kind : Kind) (number : ℕ) (name x : List ℕ) → is_key Body 0 x (key_for kind number name) ≡ true → (as_kind kind ≡ p.OfBody) × (name ≡ x)
is_body Lemma number name x e = absurd (no_truth e)
is_body Body number name x e = (refl, same_name x name e)
is_body Import number name x e = absurd (no_truth e)

is_import : (kind : Kind) (k number : ℕ) (name x : List ℕ) → is_key Import number x (key_for kind k name) ≡ true → (as_kind kind ≡ p.OfImport) × (k ≡ number) × (name ≡ x)
is_import Lemma k number name x e = absurd (no_truth e)
is_import Body k number name x e = absurd (no_truth e)
is_import Import k number name x e =
    let halves = both (number == k) (bytes_eq x name) e in
    (refl, sym (eqb-true number k halves.0), same_name x name halves.1)

body_proved : (L : Linked) (claims : List Claim) (x : List ℕ) → is_proved (map (key_of L) claims) Body 0 x ≡ true → p.IsProvedBy (map (proof_of L) claims) p.OfBody x
body_proved L [] x e = no_truth e
body_proved L (c ∷ claims) x e = by (body_proved L claims x) (either (is_key Body 0 x (key_of L c)) (is_proved (map (key_of L) claims) Body 0 x) e)
  where
    by : (is_proved (map (key_of L) claims) Body 0 x ≡ true → p.IsProvedBy (map (proof_of L) claims) p.OfBody x) → (is_key Body 0 x (key_of L c) ≡ true) ⊎ (is_proved (map (key_of L) claims) Body 0 x ≡ true) → p.IsProvedBy (map (proof_of L) (c ∷ claims)) p.OfBody x
    by go (inl h) = inl (is_body (kind_in L (script_module c.file) c.name) (script_module c.file) c.name x h)
    by go (inr h) = inr (go h)

import_proved : (L : Linked) (claims : List Claim) (number : ℕ) (x : List ℕ) → is_proved (map (key_of L) claims) Import number x ≡ true → p.IsImportProved (map (proof_of L) claims) number x
import_proved L [] number x e = no_truth e
import_proved L (c ∷ claims) number x e = by (import_proved L claims number x) (either (is_key Import number x (key_of L c)) (is_proved (map (key_of L) claims) Import number x) e)
  where
    by : (is_proved (map (key_of L) claims) Import number x ≡ true → p.IsImportProved (map (proof_of L) claims) number x) → (is_key Import number x (key_of L c) ≡ true) ⊎ (is_proved (map (key_of L) claims) Import number x ≡ true) → p.IsImportProved (map (proof_of L) (c ∷ claims)) number x
    by go (inl h) = inl (is_import (kind_in L (script_module c.file) c.name) (script_module c.file) number c.name x h)
    by go (inr h) = inr (go h)

-- ---- nothing is missing

some_first : (best : Missing) (ms : List Missing) → (m : Missing) × (first_from (Some best) ms ≡ Some m)
some_first best [] = (best, refl)
some_first best (m ∷ ms) = some_first (if is_before m.place best.place then m else best) ms

none_missing : (ms : List Missing) → first_from None ms ≡ None → ms ≡ []
none_missing [] e = refl
none_missing (m ∷ ms) e = absurd (nothing (some_first m ms).0 (sym (some_first m ms).1 ∙ e))
  where
    nothing : (a : Missing) → Some a ≡ None → ⊥
    nothing a e = cc

is_not : (b : Bool) (name : List ℕ) (place : Place) → missing_if (not b) name place ≡ [] → b ≡ true
is_not true name place e = refl
is_not false name place e = absurd cc

one_body : (proved : List ℕ → Bool) (f : LinkedFunction) → missing_function proved f ≡ [] → (d : Defined) → f.body ≡ Some d → (is_some f.own ≡ true) × (proved f.name ≡ true)
one_body proved f e d is = both (is_some f.own) (proved f.name) (is_not (is_some f.own && proved f.name) f.name f.place (subst (λ b. missing_body proved f b ≡ []) is e))

bodies : (L : Linked) (claims : List Claim) (fs : List LinkedFunction) → flat_map (missing_function (is_proved (map (key_of L) claims) Body 0)) fs ≡ [] → AllByRecursion (λ (f : LinkedFunction). (d : Defined) → f.body ≡ Some d → (is_some f.own ≡ true) × p.IsProvedBy (map (proof_of L) claims) p.OfBody f.name) fs
bodies L claims [] e = tt
bodies L claims (f ∷ fs) e =
    let parts = nil_parts (missing_function (is_proved (map (key_of L) claims) Body 0) f) (flat_map (missing_function (is_proved (map (key_of L) claims) Body 0)) fs) e in
    (λ d is. let q = one_body (is_proved (map (key_of L) claims) Body 0) f parts.0 d is in (q.0, body_proved L claims f.name q.1), bodies L claims fs parts.1)

imports_in : (L : Linked) (claims : List Claim) (number : ℕ) (imports : List ImportBy) → flat_map (missing_import (is_proved (map (key_of L) claims) Import number)) imports ≡ [] → AllByRecursion (λ (i : ImportBy). p.IsImportProved (map (proof_of L) claims) number i.name) imports
imports_in L claims number [] e = tt
imports_in L claims number (i ∷ imports) e =
    let proved = is_proved (map (key_of L) claims) Import number in
    let parts = nil_parts (missing_import proved i) (flat_map (missing_import proved) imports) e in
    (import_proved L claims number i.name (is_not (proved i.name) i.name i.place parts.0), imports_in L claims number imports parts.1)

imports : (L : Linked) (claims : List Claim) (number : ℕ) (modules : List Module) → missing_from (is_proved (map (key_of L) claims)) number modules ≡ [] → p.AreImportsProved (map (proof_of L) claims) number modules
imports L claims number [] e = tt
imports L claims number (m ∷ modules) e =
    let proved = is_proved (map (key_of L) claims) in
    let parts = nil_parts (missing_in proved number m) (missing_from proved (number + 1) modules) e in
    let here = nil_parts (flat_map (missing_lemma m.defs.home (proved Lemma 0)) m.defs.lemmas) (flat_map (missing_import (proved Import number)) m.imports) parts.0 in
    (imports_in L claims number m.imports here.1, imports L claims (number + 1) modules parts.1)

pub is_sound : (L : Linked) (claims : List Claim) → Links L → p.AreImportsSmall L → AreClaimsOf L [] claims → AllByRecursion IsProved claims → first_from None (missing L claims) ≡ None → Sound L
is_sound L claims links small are hold e =
    let proved = is_proved (map (key_of L) claims) in
    let parts = nil_parts (flat_map (missing_function (proved Body 0)) L.functions) (missing_from proved 0 L.modules) (none_missing (missing L claims) e) in
    proved_sound L (map (proof_of L) claims) links small (are_proofs L [] claims are hold) (bodies L claims L.functions parts.0) (imports L claims 0 L.modules parts.1)

-- ---- what is answered

-- the first of what is missing, where the keys and what is missing are as they should be
pub first_by : (L : Linked) (claims : List Claim) (keys : List Key) (all : List Missing) (o : Option Missing) → keys ≡ map (key_of L) claims → all ≡ missing_of (is_proved keys) L → o ≡ first_from None all → o ≡ first_from None (missing L claims)
first_by L claims keys all o k a e = e ∙ ap (first_from None) (a ∙ ap (λ ks. missing_of (is_proved ks) L) k)

pub judged_by : (L : Linked) (claims : List Claim) (keys : List Key) (all : List Missing) (o : Option Missing) → keys ≡ map (key_of L) claims → all ≡ missing_of (is_proved keys) L → o ≡ first_from None all → judged L claims ≡ verdict o
judged_by L claims keys all o k a e = sym (ap verdict (first_by L claims keys all o k a e))
