-- Names in the table of what is proved of one kind.
use Rattle.std.proofs.Common.{◌≡◌, ℕ, Bool, true, false, cond, List, [], ◌∷◌, ◌++◌, Option, Some, None, refl, sym, ap, subst, ◌∙◌}
use Rattle.std.specs.Prelude.{◌==◌, ◌&&◌, ◌||◌, not, bytes_eq, is_some, if◌then◌else◌}
use Rattle.std.specs.List.{flat_map}
use Rattle.std.specs.Map.{lookup}
use Rattle.std.proofs.lemmas.Slice.Eq.{bytes_eq-Decides}
use Rattle.floyd_clight.specs.declared.unit.Defined.{Defined}
use Rattle.floyd_assert_trees.specs.declared.items.Lemma.{Lemma}
use Rattle.floyd_goal_meaning.specs.declared.linked.ImportBy.{ImportBy}
use Rattle.floyd_goal_meaning.specs.declared.linked.LinkedFunction.{LinkedFunction}
use Rattle.floyd_soundness.specs.declared.keys.Key.{Key}
use Rattle.floyd_soundness.specs.declared.keys.Kind.{Kind}
use Rattle.floyd_soundness.specs.declared.keys.Kind.TheVariants as k
use Rattle.floyd_soundness.specs.KeyClauses.{Names, knows, with_key, with_keys, with_name}
use Rattle.floyd_soundness.specs.Keys.{is_key, is_proved, same_kind}
use Rattle.floyd_soundness.specs.Unproved.{missing_body, missing_function, missing_if, missing_import, missing_lemma}

no_truth : false ≡ true → ⊥
no_truth e = cc

at_end : (x name : List ℕ) (all : Names) → knows (all ++ (name, tt) ∷ []) x ≡ (bytes_eq x name || knows all x)
at_end x name [] = by (bytes_eq x name) (Some tt) refl
  where
    by : (b : Bool) (o : Option (Unit {0})) → is_some o ≡ true → is_some (cond b o None) ≡ (b || false)
    by true o e = e
    by false o e = refl
at_end x name (q ∷ all) = by (bytes_eq x q.0) (bytes_eq x name) (lookup (bytes_eq x) (all ++ (name, tt) ∷ [])) (lookup (bytes_eq x) all) (at_end x name all)
  where
    by : (b c : Bool) (o r : Option (Unit {0})) → is_some o ≡ (c || is_some r) → is_some (cond b (Some q.1) o) ≡ (c || is_some (cond b (Some q.1) r))
    by true true o r e = refl
    by true false o r e = refl
    by false c o r e = e

added : (x name : List ℕ) (all : Names) → knows (with_name name all) x ≡ (bytes_eq x name || knows all x)
added x name all = by (knows all name) refl
  where
    there : knows all name ≡ true → (b : Bool) → bytes_eq x name ≡ b → (k : Bool) → knows all x ≡ k → k ≡ (b || k)
    there e false d k q = refl
    there e true d true q = refl
    there e true d false q =
        let same : x ≡ name = (bytes_eq-Decides x name).0 d in
        absurd (no_truth (sym q ∙ subst (λ y. knows all y ≡ true) (sym same) e))

    by : (t : Bool) → knows all name ≡ t → knows (if t then all else all ++ (name, tt) ∷ []) x ≡ (bytes_eq x name || knows all x)
    by true e = there e (bytes_eq x name) refl (knows all x) refl
    by false e = at_end x name all

-- one key more
put : (kind : Kind) (number : ℕ) (x : List ℕ) (k : Key) (names : Names) → knows (with_key kind number k names) x ≡ (is_key kind number x k || knows names x)
put kind number x k names = by (same_kind kind k.kind) (number == k.number)
  where
    by : (a b : Bool) → knows (if a && b then with_name k.name names else names) x ≡ ((a && (b && bytes_eq x k.name)) || knows names x)
    by true true = added x k.name names
    by true false = refl
    by false b = refl

turn : (a b c : Bool) → (a || (b || c)) ≡ ((b || a) || c)
turn true true c = refl
turn true false c = refl
turn false true c = refl
turn false false c = refl

put_all : (kind : Kind) (number : ℕ) (x : List ℕ) (keys : List Key) (names : Names) → knows (with_keys kind number keys names) x ≡ (is_proved keys kind number x || knows names x)
put_all kind number x [] names = refl
put_all kind number x (k ∷ keys) names =
    put_all kind number x keys (with_key kind number k names)
    ∙ ap (λ b. is_proved keys kind number x || b) (put kind number x k names)
    ∙ turn (is_proved keys kind number x) (is_key kind number x k) (knows names x)

-- the table knows just what is proved
pub knows_proved : (kind : Kind) (number : ℕ) (keys : List Key) (x : List ℕ) → knows (with_keys kind number keys []) x ≡ is_proved keys kind number x
knows_proved kind number keys x = put_all kind number x keys [] ∙ by (is_proved keys kind number x)
  where
    by : (b : Bool) → (b || false) ≡ b
    by true = refl
    by false = refl

-- ---- what is missing where the table is looked at

lemmas_known : (home : ℕ) (p q : List ℕ → Bool) → ((x : List ℕ) → p x ≡ q x) → (all : List (List ℕ × Lemma)) → flat_map (missing_lemma home p) all ≡ flat_map (missing_lemma home q) all
lemmas_known home p q e [] = refl
lemmas_known home p q e (a ∷ all) =
    ap (λ b. missing_if (a.1.«module» == home && not b) a.0 a.1.place ++ flat_map (missing_lemma home p) all) (e a.0)
    ∙ ap (λ ms. missing_lemma home q a ++ ms) (lemmas_known home p q e all)

imports_known : (p q : List ℕ → Bool) → ((x : List ℕ) → p x ≡ q x) → (all : List ImportBy) → flat_map (missing_import p) all ≡ flat_map (missing_import q) all
imports_known p q e [] = refl
imports_known p q e (i ∷ all) =
    ap (λ b. missing_if (not b) i.name i.place ++ flat_map (missing_import p) all) (e i.name)
    ∙ ap (λ ms. missing_import q i ++ ms) (imports_known p q e all)

one_function : (p q : List ℕ → Bool) → ((x : List ℕ) → p x ≡ q x) → (f : LinkedFunction) (body : Option Defined) → missing_body p f body ≡ missing_body q f body
one_function p q e f None = refl
one_function p q e f (Some d) = ap (λ b. missing_if (not (is_some f.own && b)) f.name f.place) (e f.name)

functions_known : (p q : List ℕ → Bool) → ((x : List ℕ) → p x ≡ q x) → (all : List LinkedFunction) → flat_map (missing_function p) all ≡ flat_map (missing_function q) all
functions_known p q e [] = refl
functions_known p q e (f ∷ all) =
    ap (λ ms. ms ++ flat_map (missing_function p) all) (one_function p q e f f.body)
    ∙ ap (λ ms. missing_function q f ++ ms) (functions_known p q e all)

known : (kind : Kind) (number : ℕ) (keys : List Key) (names : Names) → names ≡ with_keys kind number keys [] → (x : List ℕ) → knows names x ≡ is_proved keys kind number x
known kind number keys names e x = ap (λ n. knows n x) e ∙ knows_proved kind number keys x

pub lemmas_are : (home : ℕ) (keys : List Key) (names : Names) (all : List (List ℕ × Lemma)) → names ≡ with_keys k.Lemma 0 keys [] → flat_map (missing_lemma home (knows names)) all ≡ flat_map (missing_lemma home (is_proved keys k.Lemma 0)) all
lemmas_are home keys names all e = lemmas_known home (knows names) (is_proved keys k.Lemma 0) (known k.Lemma 0 keys names e) all

pub imports_are : (number : ℕ) (keys : List Key) (names : Names) (all : List ImportBy) → names ≡ with_keys k.Import number keys [] → flat_map (missing_import (knows names)) all ≡ flat_map (missing_import (is_proved keys k.Import number)) all
imports_are number keys names all e = imports_known (knows names) (is_proved keys k.Import number) (known k.Import number keys names e) all

pub functions_are : (keys : List Key) (names : Names) (all : List LinkedFunction) → names ≡ with_keys k.Body 0 keys [] → flat_map (missing_function (knows names)) all ≡ flat_map (missing_function (is_proved keys k.Body 0)) all
functions_are keys names all e = functions_known (knows names) (is_proved keys k.Body 0) (known k.Body 0 keys names e) all
