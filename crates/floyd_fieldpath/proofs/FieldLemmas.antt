-- The fields of a struct beside one, as the program walks over them, and the defaults of fields.
use Rattle.std.proofs.Common.{◌≡◌, ℕ, zero, suc, ◌+◌, ◌-◌, ◌<◌, ◌≤◌, Bool, true, false, List, [], ◌∷◌, ◌++◌, length, drop, take, get_or, Option, Some, None, Result, Ok, Err, refl, ap, ap₂, sym, ◌∙◌, subst, arith, bytes_eq, append-nil, append_assoc}
use Rattle.std.specs.Prelude.{if◌then◌else◌}
use Rattle.std.proofs.Math.Seq.{take-length}
use Rattle.std.proofs.lemmas.List.{length-drop}
use Rattle.floyd_text.specs.declared.refusal.No.{No}
use Rattle.floyd_text.specs.declared.refusal.RuleStop.{RuleStop}
use Rattle.floyd_text.specs.Gives.{RuleGives, RuleStops}
use Rattle.floyd_ctypes.specs.declared.field.Field.{Field}
use Rattle.floyd_ctypes.specs.Structs.{Structs, fields_of}
use Rattle.floyd_tree.specs.Plain.{Plain}
use Rattle.floyd_fieldpath.specs.declared.fields.Others.{Others}
use Rattle.floyd_fieldpath.specs.Nested.{path_illegal}
use Rattle.floyd_fieldpath.specs.Updates.{default_and, default_of_field, fields_default, first_value, other_values, others_written, pair, with_component}
use Rattle.floyd_fieldpath.specs.UpdateClauses.{behind_one, beside, others, with_before, with_behind, with_others}
use Rattle.floyd_fieldpath.specs.Written.{on_ok}
use Rattle.floyd_fieldpath.proofs.AddressLemmas.{dropped_all}
use Rattle.floyd_fieldpath.proofs.UpdateLemmas.{in_turn}
use Rattle.floyd_fieldpath.proofs.WrittenLemmas.{goes_on, stops}

-- with others before them
abbrev pub behind : List Plain → Result Others No → Result Others No
behind before r = on_ok r (λ o. Ok (beside (before ++ o.before) o.behind))

pub behind_none : (r : Result Others No) → behind [] r ≡ r
behind_none (Ok o) = refl
behind_none (Err refusal) = refl

behind_more : (before : List Plain) (a : Plain) (r : Result Others No) → behind (before ++ a ∷ []) r ≡ behind before (on_ok r (behind_one a))
behind_more before a (Ok o) = ap (λ xs. Ok (beside xs o.behind)) (append_assoc before (a ∷ []) o.before)
behind_more before a (Err refusal) = refl

behind_stops : (before : List Plain) (r : Result Others No) (stop : RuleStop) → RuleStops stop r → RuleStops stop (behind before r)
behind_stops before r stop h = stops stop r (λ o. Ok (beside (before ++ o.before) o.behind)) h

-- ---- one field on

here : (structs : Structs) (fields : List Field) (x : List ℕ) (k : ℕ) (f : Field) (v : Plain) → suc k < length fields → f ≡ get_or fields k f → others structs (drop k fields) x v ≡
    (if bytes_eq x f.name then on_ok (others_written structs (drop (suc k) fields) v) (λ rest. Ok (beside [] (Some rest)))
    else on_ok (first_value structs f v) (λ a. on_ok (other_values v) (λ w. on_ok (others structs (drop (suc k) fields) x w) (behind_one a))))
here structs [] x k f v l e = absurd (omega arith)
here structs (g ∷ []) x k f v l e = absurd (omega arith)
here structs (g ∷ h ∷ more) x zero f v l e =
    ap (λ (y : Field). if bytes_eq x y.name then on_ok (others_written structs (h ∷ more) v) (λ rest. Ok (beside [] (Some rest)))
    else on_ok (first_value structs y v) (λ a. on_ok (other_values v) (λ w. on_ok (others structs (h ∷ more) x w) (behind_one a)))) (sym e)
here structs (g ∷ h ∷ more) x (suc k) f v l e = here structs (h ∷ more) x k f v (omega arith) e

chosen : {A : Type 0} (b c : Bool) (x y : A) → b ≡ c → (if b then x else y) ≡ (if c then x else y)
chosen b c x y e = ap (λ t. if t then x else y) e

there : (structs : Structs) (fields : List Field) (x : List ℕ) (k : ℕ) (f : Field) (v : Plain) → suc k < length fields → f ≡ get_or fields k f → bytes_eq x f.name ≡ true →
    others structs (drop k fields) x v ≡ on_ok (others_written structs (drop (suc k) fields) v) (λ rest. Ok (beside [] (Some rest)))
there structs fields x k f v l e n =
    here structs fields x k f v l e
    ∙ chosen (bytes_eq x f.name) true (on_ok (others_written structs (drop (suc k) fields) v) (λ rest. Ok (beside [] (Some rest))))
    (on_ok (first_value structs f v) (λ a. on_ok (other_values v) (λ w. on_ok (others structs (drop (suc k) fields) x w) (behind_one a)))) n

on : (structs : Structs) (fields : List Field) (x : List ℕ) (k : ℕ) (f : Field) (v : Plain) → suc k < length fields → f ≡ get_or fields k f → bytes_eq x f.name ≡ false →
    others structs (drop k fields) x v ≡ on_ok (first_value structs f v) (λ a. on_ok (other_values v) (λ w. on_ok (others structs (drop (suc k) fields) x w) (behind_one a)))
on structs fields x k f v l e n =
    here structs fields x k f v l e
    ∙ chosen (bytes_eq x f.name) false (on_ok (others_written structs (drop (suc k) fields) v) (λ rest. Ok (beside [] (Some rest))))
    (on_ok (first_value structs f v) (λ a. on_ok (other_values v) (λ w. on_ok (others structs (drop (suc k) fields) x w) (behind_one a)))) n

pub last_field : (structs : Structs) (fields : List Field) (x : List ℕ) (k : ℕ) (v : Plain) (before : List Plain) → k < length fields → k + 1 ≡ length fields → behind before (others structs (drop k fields) x v) ≡ Ok (beside before None)
last_field structs [] x k v before l e = absurd (omega arith)
last_field structs (f ∷ []) x zero v before l e = ap (λ xs. Ok (beside xs None)) (append-nil before)
last_field structs (f ∷ []) x (suc k) v before l e = absurd (omega arith)
last_field structs (f ∷ g ∷ more) x zero v before l e = absurd (omega arith)
last_field structs (f ∷ g ∷ more) x (suc k) v before l e = last_field structs (g ∷ more) x k v before (omega arith) (omega arith)

pub field_there : (structs : Structs) (fields : List Field) (x : List ℕ) (k : ℕ) (f : Field) (v rest : Plain) (before : List Plain) → suc k < length fields → f ≡ get_or fields k f → bytes_eq x f.name ≡ true →
    others_written structs (drop (suc k) fields) v ≡ Ok rest → behind before (others structs (drop k fields) x v) ≡ Ok (beside before (Some rest))
field_there structs fields x k f v rest before l e n h =
    ap (behind before) (there structs fields x k f v l e n ∙ ap (λ r. on_ok r (λ y. Ok (beside [] (Some y)))) h)
    ∙ ap (λ xs. Ok (beside xs (Some rest))) (append-nil before)

pub rest_stops : (structs : Structs) (fields : List Field) (x : List ℕ) (k : ℕ) (f : Field) (v : Plain) (before : List Plain) (stop : RuleStop) → suc k < length fields → f ≡ get_or fields k f → bytes_eq x f.name ≡ true →
    RuleStops stop (others_written structs (drop (suc k) fields) v) → RuleStops stop (behind before (others structs (drop k fields) x v))
rest_stops structs fields x k f v before stop l e n h =
    behind_stops before (others structs (drop k fields) x v) stop
    (subst (RuleStops stop) (sym (there structs fields x k f v l e n)) (stops stop (others_written structs (drop (suc k) fields) v) (λ rest. Ok (beside [] (Some rest))) h))

pub first_stops : (structs : Structs) (fields : List Field) (x : List ℕ) (k : ℕ) (f : Field) (v : Plain) (before : List Plain) (stop : RuleStop) → suc k < length fields → f ≡ get_or fields k f → bytes_eq x f.name ≡ false →
    RuleStops stop (first_value structs f v) → RuleStops stop (behind before (others structs (drop k fields) x v))
first_stops structs fields x k f v before stop l e n h =
    behind_stops before (others structs (drop k fields) x v) stop
    (subst (RuleStops stop) (sym (on structs fields x k f v l e n))
    (stops stop (first_value structs f v) (λ a. on_ok (other_values v) (λ w. on_ok (others structs (drop (suc k) fields) x w) (behind_one a))) h))

pub others_stop : (structs : Structs) (fields : List Field) (x : List ℕ) (k : ℕ) (f : Field) (v a : Plain) (before : List Plain) (stop : RuleStop) → suc k < length fields → f ≡ get_or fields k f → bytes_eq x f.name ≡ false →
    first_value structs f v ≡ Ok a → RuleStops stop (other_values v) → RuleStops stop (behind before (others structs (drop k fields) x v))
others_stop structs fields x k f v a before stop l e n first h =
    behind_stops before (others structs (drop k fields) x v) stop
    (subst (RuleStops stop) (sym (on structs fields x k f v l e n ∙ ap (λ r. on_ok r (λ b. on_ok (other_values v) (λ w. on_ok (others structs (drop (suc k) fields) x w) (behind_one b)))) first))
    (stops stop (other_values v) (λ w. on_ok (others structs (drop (suc k) fields) x w) (behind_one a)) h))

pub field_on : (structs : Structs) (fields : List Field) (x : List ℕ) (j k : ℕ) (f : Field) (v a w : Plain) (before : List Plain) → j ≡ suc k → suc k < length fields → f ≡ get_or fields k f → bytes_eq x f.name ≡ false →
    first_value structs f v ≡ Ok a → other_values v ≡ Ok w → behind (before ++ a ∷ []) (others structs (drop j fields) x w) ≡ behind before (others structs (drop k fields) x v)
field_on structs fields x j k f v a w before s l e n first rest =
    ap (λ i. behind (before ++ a ∷ []) (others structs (drop i fields) x w)) s
    ∙ behind_more before a (others structs (drop (suc k) fields) x w)
    ∙ ap (behind before) (sym (on structs fields x k f v l e n
    ∙ ap (λ r. on_ok r (λ b. on_ok (other_values v) (λ y. on_ok (others structs (drop (suc k) fields) x y) (behind_one b)))) first
    ∙ ap (λ r. on_ok r (λ y. on_ok (others structs (drop (suc k) fields) x y) (behind_one a))) rest))

pub no_field : (structs : Structs) (fields : List Field) (x : List ℕ) (k : ℕ) (v : Plain) (before : List Plain) → length fields ≤ k → behind before (others structs (drop k fields) x v) ≡ Err path_illegal
no_field structs fields x k v before h = ap (λ fs. behind before (others structs fs x v)) (dropped_all k fields h)

-- ---- the value of a field with the others beside it

one_before : (a u : Plain) (d : Result Others No) → on_ok (on_ok d (λ o. with_others o u)) (pair a) ≡ on_ok (on_ok d (behind_one a)) (λ o. with_others o u)
one_before a u (Ok o) = sym (in_turn (with_behind o.behind u) (with_before o.before) (pair a))
one_before a u (Err refusal) = refl

whole_pair : (r : Result Plain No) → r ≡ on_ok r Ok
whole_pair (Ok p) = refl
whole_pair (Err refusal) = refl

at_it : (u : Plain) (d : Result Plain No) → on_ok d (λ rest. pair u rest) ≡ on_ok (on_ok d (λ rest. Ok (beside [] (Some rest)))) (λ o. with_others o u)
at_it u (Ok rest) = whole_pair (pair u rest)
at_it u (Err refusal) = refl

module _ (structs : Structs) (f : Field) (fields : List Field) (x : List ℕ) (v u : Plain) (inner : (w : Plain) → with_component structs fields x w u ≡ on_ok (others structs fields x w) (λ o. with_others o u)) where
  further : (a : Plain) (d : Result Plain No) →
      on_ok d (λ w. on_ok (with_component structs fields x w u) (pair a))
      ≡ on_ok (on_ok d (λ w. on_ok (others structs fields x w) (behind_one a))) (λ o. with_others o u)
  further a (Ok w) = ap (λ r. on_ok r (pair a)) (inner w) ∙ one_before a u (others structs fields x w)
  further a (Err refusal) = refl

  beyond : (d : Result Plain No) →
      on_ok d (λ a. on_ok (other_values v) (λ w. on_ok (with_component structs fields x w u) (pair a)))
      ≡ on_ok (on_ok d (λ a. on_ok (other_values v) (λ w. on_ok (others structs fields x w) (behind_one a)))) (λ o. with_others o u)
  beyond (Ok a) = further a (other_values v)
  beyond (Err refusal) = refl

  either : (b : Bool) →
      (if b then on_ok (others_written structs fields v) (λ rest. pair u rest)
      else on_ok (first_value structs f v) (λ a. on_ok (other_values v) (λ w. on_ok (with_component structs fields x w u) (pair a))))
      ≡ on_ok (if b then on_ok (others_written structs fields v) (λ rest. Ok (beside [] (Some rest)))
      else on_ok (first_value structs f v) (λ a. on_ok (other_values v) (λ w. on_ok (others structs fields x w) (behind_one a)))) (λ o. with_others o u)
  either true = at_it u (others_written structs fields v)
  either false = beyond (first_value structs f v)

by_others : (structs : Structs) (fields : List Field) (x : List ℕ) (v u : Plain) → with_component structs fields x v u ≡ on_ok (others structs fields x v) (λ o. with_others o u)
by_others structs [] x v u = refl
by_others structs (f ∷ []) x v u = refl
by_others structs (f ∷ g ∷ more) x v u = either structs f (g ∷ more) x v u (λ w. by_others structs (g ∷ more) x w u) (bytes_eq x f.name)

pub component_gives : (structs : Structs) (fields : List Field) (x : List ℕ) (v u : Plain) (o : Others) (r : Result Plain RuleStop) → others structs fields x v ≡ Ok o → RuleGives (λ a. a) r (with_others o u) → RuleGives (λ a. a) r (with_component structs fields x v u)
component_gives structs fields x v u o r e h =
    subst (RuleGives (λ a. a) r) (sym (by_others structs fields x v u)) (goes_on (others structs fields x v) (λ p. with_others p u) o r e h)

pub component_stops : (structs : Structs) (fields : List Field) (x : List ℕ) (v u : Plain) (stop : RuleStop) → RuleStops stop (others structs fields x v) → RuleStops stop (with_component structs fields x v u)
component_stops structs fields x v u stop h =
    subst (RuleStops stop) (sym (by_others structs fields x v u)) (stops stop (others structs fields x v) (λ p. with_others p u) h)

-- ---- defaults

pub last_default : (structs : Structs) (fields : List Field) (k : ℕ) (f : Field) → k + 1 ≡ length fields → f ≡ get_or fields k f → fields_default structs (drop k fields) ≡ default_of_field structs f
last_default structs [] k f l e = absurd (omega arith)
last_default structs (g ∷ []) zero f l e = ap (default_of_field structs) (sym e)
last_default structs (g ∷ []) (suc k) f l e = absurd (omega arith)
last_default structs (g ∷ h ∷ more) zero f l e = absurd (omega arith)
last_default structs (g ∷ h ∷ more) (suc k) f l e = last_default structs (h ∷ more) k f (omega arith) e

one_default : (structs : Structs) (fields : List Field) (k : ℕ) (f : Field) → suc k < length fields → f ≡ get_or fields k f → fields_default structs (drop k fields) ≡ on_ok (fields_default structs (drop (suc k) fields)) (default_and structs f)
one_default structs [] k f l e = absurd (omega arith)
one_default structs (g ∷ []) k f l e = absurd (omega arith)
one_default structs (g ∷ h ∷ more) zero f l e = ap (λ y. on_ok (fields_default structs (h ∷ more)) (default_and structs y)) (sym e)
one_default structs (g ∷ h ∷ more) (suc k) f l e = one_default structs (h ∷ more) k f (omega arith) e

-- what stops the defaults of the last fields stops those of all
all_default : (structs : Structs) (fields : List Field) (k : ℕ) (stop : RuleStop) → k < length fields → RuleStops stop (fields_default structs (drop k fields)) → RuleStops stop (fields_default structs fields)
all_default structs fields zero stop l h = h
all_default structs [] (suc k) stop l h = absurd (omega arith)
all_default structs (f ∷ []) (suc k) stop l h = absurd (omega arith)
all_default structs (f ∷ g ∷ more) (suc k) stop l h = stops stop (fields_default structs (g ∷ more)) (default_and structs f) (all_default structs (g ∷ more) k stop (omega arith) h)

pub last_default_stops : (structs : Structs) (fields : List Field) (k : ℕ) (f : Field) (stop : RuleStop) → k + 1 ≡ length fields → f ≡ get_or fields k f → RuleStops stop (default_of_field structs f) → RuleStops stop (fields_default structs fields)
last_default_stops structs fields k f stop l e h = all_default structs fields k stop (omega arith) (subst (RuleStops stop) (sym (last_default structs fields k f l e)) h)

pub default_before : (structs : Structs) (fields : List Field) (j k : ℕ) (f : Field) (u w : Plain) → j ≡ suc k → suc k < length fields → f ≡ get_or fields k f → fields_default structs (drop j fields) ≡ Ok u → default_and structs f u ≡ Ok w → fields_default structs (drop k fields) ≡ Ok w
default_before structs fields j k f u w s l e held h =
    one_default structs fields k f l e ∙ ap (λ i. on_ok (fields_default structs (drop i fields)) (default_and structs f)) (sym s) ∙ ap (λ r. on_ok r (default_and structs f)) held ∙ h

pub default_stops : (structs : Structs) (fields : List Field) (j k : ℕ) (f : Field) (u : Plain) (stop : RuleStop) → j ≡ suc k → suc k < length fields → f ≡ get_or fields k f → fields_default structs (drop j fields) ≡ Ok u → RuleStops stop (default_and structs f u) → RuleStops stop (fields_default structs fields)
default_stops structs fields j k f u stop s l e held h =
    all_default structs fields k stop (omega arith)
    (subst (RuleStops stop)
    (sym (one_default structs fields k f l e ∙ ap (λ i. on_ok (fields_default structs (drop i fields)) (default_and structs f)) (sym s) ∙ ap (λ r. on_ok r (default_and structs f)) held)) h)

-- ---- the fields behind one

pub behind_first : {A : Type 0} (xs : List A) (k : ℕ) → take (length xs - (k + 1)) (drop (k + 1) xs) ≡ drop (suc k) xs
behind_first xs k =
    let one : k + 1 ≡ suc k = omega arith in
    ap (λ n. take (length xs - n) (drop n xs)) one ∙ ap (λ n. take n (drop (suc k) xs)) (sym (length-drop (suc k) xs)) ∙ take-length (drop (suc k) xs)
