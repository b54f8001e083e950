-- What the places of names find.
use Rattle.std.proofs.Common.{◌≡◌, ℕ, zero, suc, ◌+◌, Bool, true, false, cond, List, [], ◌∷◌, ◌++◌, map, drop, Option, Some, None, refl, sym, ap, subst, ◌∙◌}
use Rattle.std.specs.Prelude.{bytes_eq, find, is_some, if◌then◌else◌, option_and_then, slice_get}
use Rattle.std.specs.List.{position_from}
use Rattle.std.specs.Map.{lookup}
use Rattle.std.proofs.lemmas.List.{drop-drop}
use Rattle.std.proofs.lemmas.Slice.Eq.{bytes_eq-Decides}
use Rattle.floyd_goal_meaning.specs.declared.linked.ImportBy.{ImportBy}
use Rattle.floyd_goal_meaning.specs.declared.linked.Linked.{Linked}
use Rattle.floyd_goal_meaning.specs.declared.linked.LinkedFunction.{LinkedFunction}
use Rattle.floyd_goal_meaning.specs.declared.linked.Module.{Module}
use Rattle.floyd_goal_meaning.specs.Programs.{linked_function}
use Rattle.floyd_linked.specs.Found.{import_in, import_of}
use Rattle.floyd_linked.specs.PlaceClauses.{Places, function_places, import_places, with_place, with_places}

-- the first of two, where there is one
abbrev or_else : {A : Type 0} → Option A → Option A → Option A
or_else (Some a) b = Some a
or_else None b = b

-- what is found behind the others
at_end : (x name : List ℕ) (at : ℕ) (all : Places) → lookup (bytes_eq x) (all ++ (name, at) ∷ []) ≡ or_else (lookup (bytes_eq x) all) (cond (bytes_eq x name) (Some at) None)
at_end x name at [] = refl
at_end x name at (q ∷ all) = by (bytes_eq x q.0) (lookup (bytes_eq x) (all ++ (name, at) ∷ [])) (lookup (bytes_eq x) all) (cond (bytes_eq x name) (Some at) None) (at_end x name at all)
  where
    by : (b : Bool) (o r c : Option ℕ) → o ≡ or_else r c → cond b (Some q.1) o ≡ or_else (cond b (Some q.1) r) c
    by true o r c e = refl
    by false o r c e = e

-- a name that has a place is found there
known : (x name : List ℕ) (at : ℕ) (all : Places) → is_some (lookup (bytes_eq name) all) ≡ true → (o : Option ℕ) → lookup (bytes_eq x) all ≡ o → (b : Bool) → bytes_eq x name ≡ b → o ≡ or_else o (cond b (Some at) None)
known x name at all k (Some a) e b d = refl
known x name at all k None e false d = refl
known x name at all k None e true d =
    let same : x ≡ name = (bytes_eq-Decides x name).0 d in
    absurd (no_some (sym (ap is_some e) ∙ subst (λ y. is_some (lookup (bytes_eq y) all) ≡ true) (sym same) k))
  where
    no_some : false ≡ true → ⊥
    no_some e = cc

put : (x name : List ℕ) (at : ℕ) (all : Places) → lookup (bytes_eq x) (with_place name at all) ≡ or_else (lookup (bytes_eq x) all) (cond (bytes_eq x name) (Some at) None)
put x name at all = by (is_some (lookup (bytes_eq name) all)) refl
  where
    by : (t : Bool) → is_some (lookup (bytes_eq name) all) ≡ t → lookup (bytes_eq x) (if t then all else all ++ (name, at) ∷ []) ≡ or_else (lookup (bytes_eq x) all) (cond (bytes_eq x name) (Some at) None)
    by true e = known x name at all e (lookup (bytes_eq x) all) refl (bytes_eq x name) refl
    by false e = at_end x name at all

-- the first of three
in_turn : (o : Option ℕ) (b : Bool) (at : ℕ) (more : Option ℕ) → or_else (or_else o (cond b (Some at) None)) more ≡ or_else o (cond b (Some at) more)
in_turn (Some a) b at more = refl
in_turn None true at more = refl
in_turn None false at more = refl

put_all : (x : List ℕ) (at : ℕ) (names : List (List ℕ)) (all : Places) → lookup (bytes_eq x) (with_places at names all) ≡ or_else (lookup (bytes_eq x) all) (position_from (bytes_eq x) at names)
put_all x at [] all = by (lookup (bytes_eq x) all)
  where
    by : (o : Option ℕ) → o ≡ or_else o None
    by (Some a) = refl
    by None = refl
put_all x at (name ∷ names) all =
    put_all x (at + 1) names (with_place name at all)
    ∙ ap (λ o. or_else o (position_from (bytes_eq x) (at + 1) names)) (put x name at all)
    ∙ in_turn (lookup (bytes_eq x) all) (bytes_eq x name) at (position_from (bytes_eq x) (at + 1) names)

-- ---- what stands at a place

get_dropped : {A : Type 0} (k : ℕ) (xs : List A) → slice_get xs k ≡ slice_get (drop k xs) 0
get_dropped zero xs = refl
get_dropped (suc k) [] = refl
get_dropped (suc k) (x ∷ xs) = get_dropped k xs

get_at : {A : Type 0} (k : ℕ) (xs : List A) (a : A) (rest : List A) → drop k xs ≡ a ∷ rest → slice_get xs k ≡ Some a
get_at k xs a rest e = get_dropped k xs ∙ ap (λ ys. slice_get ys 0) e

drop_next : {A : Type 0} (k : ℕ) (xs : List A) (a : A) (rest : List A) → drop k xs ≡ a ∷ rest → drop (k + 1) xs ≡ rest
drop_next k xs a rest e = sym (drop-drop 1 k xs) ∙ ap (drop 1) e

found_from : {A : Type 0} (name_of : A → List ℕ) (x : List ℕ) (all rest : List A) (k : ℕ) → drop k all ≡ rest → option_and_then (slice_get all) (position_from (bytes_eq x) k (map name_of rest)) ≡ find (λ a. bytes_eq x (name_of a)) rest
found_from name_of x all [] k e = refl
found_from name_of x all (a ∷ rest) k e =
    by (bytes_eq x (name_of a)) (position_from (bytes_eq x) (k + 1) (map name_of rest)) (found_from name_of x all rest (k + 1) (drop_next k all a rest e))
  where
    by : (b : Bool) (p : Option ℕ) → option_and_then (slice_get all) p ≡ find (λ c. bytes_eq x (name_of c)) rest → option_and_then (slice_get all) (cond b (Some k) p) ≡ cond b (Some a) (find (λ c. bytes_eq x (name_of c)) rest)
    by true p h = get_at k all a rest e
    by false p h = h

-- the table of first places finds what the list has first
found : {A : Type 0} (name_of : A → List ℕ) (x : List ℕ) (all : List A) → option_and_then (slice_get all) (lookup (bytes_eq x) (with_places 0 (map name_of all) [])) ≡ find (λ a. bytes_eq x (name_of a)) all
found name_of x all = ap (option_and_then (slice_get all)) (put_all x 0 (map name_of all) []) ∙ found_from name_of x all all 0 refl

-- ---- functions

functions_found : (L : Linked) (name : List ℕ) (places : Places) → places ≡ function_places L.functions → option_and_then (slice_get L.functions) (lookup (bytes_eq name) places) ≡ linked_function L name
functions_found L name places e =
    ap (λ all. option_and_then (slice_get L.functions) (lookup (bytes_eq name) all)) e
    ∙ found (λ (f : LinkedFunction). f.name) name L.functions

pub function_found : (L : Linked) (name : List ℕ) (places : Places) (place : ℕ) → places ≡ function_places L.functions → Some place ≡ lookup (bytes_eq name) places → slice_get L.functions place ≡ linked_function L name
function_found L name places place e p = ap (option_and_then (slice_get L.functions)) p ∙ functions_found L name places e

pub no_function : (L : Linked) (name : List ℕ) (places : Places) → places ≡ function_places L.functions → None ≡ lookup (bytes_eq name) places → None ≡ linked_function L name
no_function L name places e p = ap (option_and_then (slice_get L.functions)) p ∙ functions_found L name places e

-- ---- imports

places_at : (modules : List Module) (number : ℕ) (places : Places) → Some places ≡ slice_get (map import_places modules) number → (m : Module) × (slice_get modules number ≡ Some m) × (places ≡ import_places m)
places_at [] number places e = absurd (nothing e)
  where
    nothing : Some places ≡ None → ⊥
    nothing e = cc
places_at (m ∷ modules) zero places e = (m, refl, inner e)
  where
    inner : Some places ≡ Some (import_places m) → places ≡ import_places m
    inner e = cc
places_at (m ∷ modules) (suc number) places e = places_at modules number places e

imports_found : (m : Module) (name : List ℕ) (places : Places) → places ≡ import_places m → option_and_then (slice_get m.imports) (lookup (bytes_eq name) places) ≡ import_of name m
imports_found m name places e =
    ap (λ all. option_and_then (slice_get m.imports) (lookup (bytes_eq name) all)) e
    ∙ found (λ (i : ImportBy). i.name) name m.imports

pub import_found : (L : Linked) (number : ℕ) (name : List ℕ) (all : List Places) (places : Places) (m : Module) (place : ℕ) → all ≡ map import_places L.modules → Some places ≡ slice_get all number → slice_get L.modules number ≡ Some m → Some place ≡ lookup (bytes_eq name) places → slice_get m.imports place ≡ import_in L number name
import_found L number name all places m place e p at q =
    let there = places_at L.modules number places (p ∙ ap (λ (a : List Places). slice_get a number) e) in
    let same : places ≡ import_places m = there.2 ∙ ap import_places (inner there.0 (sym there.1 ∙ at)) in
    ap (option_and_then (slice_get m.imports)) q ∙ imports_found m name places same ∙ ap (option_and_then (import_of name)) (sym at)
  where
    inner : (n : Module) → Some n ≡ Some m → n ≡ m
    inner n k = cc

pub no_import : (L : Linked) (number : ℕ) (name : List ℕ) (all : List Places) (places : Places) → all ≡ map import_places L.modules → Some places ≡ slice_get all number → None ≡ lookup (bytes_eq name) places → None ≡ import_in L number name
no_import L number name all places e p q =
    let there = places_at L.modules number places (p ∙ ap (λ (a : List Places). slice_get a number) e) in
    ap (option_and_then (slice_get there.0.imports)) q ∙ imports_found there.0 name places there.2 ∙ ap (option_and_then (import_of name)) (sym there.1)

pub no_module : (L : Linked) (number : ℕ) (name : List ℕ) (all : List Places) → all ≡ map import_places L.modules → None ≡ slice_get all number → None ≡ import_in L number name
no_module L number name all e p = by L.modules number (p ∙ ap (λ (a : List Places). slice_get a number) e)
  where
    by : (modules : List Module) (k : ℕ) → None ≡ slice_get (map import_places modules) k → None ≡ option_and_then (import_of name) (slice_get modules k)
    by [] k h = refl
    by (m ∷ modules) zero h = absurd (nothing h)
      where
        nothing : None ≡ Some (import_places m) → ⊥
        nothing e = cc
    by (m ∷ modules) (suc k) h = by modules k h
