-- What of a linked program has no proof, and which of it is refused.
use Rattle.std.specs.Prelude.{ℕ, ◌+◌, ◌==◌, ◌&&◌, ◌||◌, Bool, true, false, not, nat_lt, if◌then◌else◌, List, [], ◌∷◌, ◌++◌, map, Option, Some, None, is_some, Result, Ok, Err}
use Rattle.std.specs.List.{flat_map}
use Rattle.floyd_text.specs.declared.code.Code.TheVariants.{Unproved}
use Rattle.floyd_text.specs.declared.place.Place.{Place}
use Rattle.floyd_text.specs.declared.refusal.Refusal.{Refusal}
use Rattle.floyd_text.specs.declared.refusal.Shown.TheVariants.{Name}
use Rattle.floyd_text.specs.Refusals.{refusal_at}
use Rattle.floyd_clight.specs.declared.unit.Defined.{Defined}
use Rattle.floyd_assert_trees.specs.declared.items.Lemma as l
use Rattle.floyd_goal_meaning.specs.declared.linked.ImportBy.{ImportBy}
use Rattle.floyd_goal_meaning.specs.declared.linked.Linked.{Linked}
use Rattle.floyd_goal_meaning.specs.declared.linked.LinkedFunction.{LinkedFunction}
use Rattle.floyd_goal_meaning.specs.declared.linked.Module.{Module}
use Rattle.floyd_proved.specs.declared.claim.Claim.{Claim}
use Rattle.floyd_soundness.specs.declared.keys.Kind.{Kind}
use Rattle.floyd_soundness.specs.declared.keys.Kind.TheVariants.{Lemma, Body, Import}
use Rattle.floyd_soundness.specs.declared.missing.Missing.{Missing}
use Rattle.floyd_soundness.specs.Keys.{is_proved, key_of}

abbrev pub missing_if : Bool → List ℕ → Place → List Missing
missing_if true name place = record { name = name; place = place } ∷ []
missing_if false name place = []

-- a function with a body that has no specification of its own, or no proof
abbrev pub missing_body : (List ℕ → Bool) → LinkedFunction → Option Defined → List Missing
missing_body proved f None = []
missing_body proved f (Some d) = missing_if (not (is_some f.own && proved f.name)) f.name f.place

abbrev pub missing_function : (List ℕ → Bool) → LinkedFunction → List Missing
missing_function proved f = missing_body proved f f.body

-- a lemma of the module itself that has no proof
abbrev pub missing_lemma : ℕ → (List ℕ → Bool) → List ℕ × l.Lemma → List Missing
missing_lemma home proved q = missing_if (q.1.«module» == home && not (proved q.0)) q.0 q.1.place

-- an import with a specification of its own that has no proof
abbrev pub missing_import : (List ℕ → Bool) → ImportBy → List Missing
missing_import proved i = missing_if (not (proved i.name)) i.name i.place

module _ (proved : Kind → ℕ → List ℕ → Bool) where
  abbrev pub missing_in : ℕ → Module → List Missing
  missing_in number m = flat_map (missing_lemma m.defs.home (proved Lemma 0)) m.defs.lemmas ++ flat_map (missing_import (proved Import number)) m.imports

  abbrev pub missing_from : ℕ → List Module → List Missing
  missing_from number [] = []
  missing_from number (m ∷ modules) = missing_in number m ++ missing_from (number + 1) modules

  abbrev pub missing_of : Linked → List Missing
  missing_of L = flat_map (missing_function (proved Body 0)) L.functions ++ missing_from 0 L.modules

-- by files, then by lines, then by columns
abbrev pub is_before : Place → Place → Bool
is_before a b = nat_lt a.file b.file || (a.file == b.file && (nat_lt a.line b.line || (a.line == b.line && nat_lt a.column b.column)))

-- the one whose place is first
abbrev pub sooner : Option Missing → Missing → Option Missing
sooner None m = Some m
sooner (Some a) m = Some (if is_before m.place a.place then m else a)

abbrev pub first_from : Option Missing → List Missing → Option Missing
first_from best [] = best
first_from best (m ∷ more) = first_from (sooner best m) more

abbrev pub refused : Missing → Refusal
refused m = refusal_at Unproved m.place (Name m.name)

abbrev pub verdict : Option Missing → Result (Unit {0}) Refusal
verdict None = Ok tt
verdict (Some m) = Err (refused m)

-- what is missing where these are proved
abbrev pub missing : Linked → List Claim → List Missing
missing L claims = missing_of (is_proved (map (key_of L) claims)) L

-- What is answered: a refusal at the first place of what has no proof, or nothing.
abbrev pub judged : Linked → List Claim → Result (Unit {0}) Refusal
judged L claims = verdict (first_from None (missing L claims))
