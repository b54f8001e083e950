-- Objects among parts, one after the other.
use Rattle.std.proofs.Common.{◌≡◌, ◌↔◌, IsTrue, ℕ, ◌+◌, ◌<◌, ◌≤◌, Bool, true, false, List, [], ◌∷◌, ◌++◌, length, take, drop, get_or, Option, Some, None, Result, Ok, Err, refl, sym, ap, subst, ◌∙◌, inl, inr, append_assoc, append-nil, arith}
use Rattle.std.proofs.lemmas.List.{drop_all, drop_more, take_all}
use Rattle.std.proofs.lemmas.List.Elements.{All-get_or, All-more}
use Rattle.floyd_text.specs.declared.refusal.No.{No}
use Rattle.floyd_text.specs.declared.refusal.RuleStop.{RuleStop}
use Rattle.floyd_text.specs.declared.refusal.RuleStop.TheVariants as r
use Rattle.floyd_ctypes.specs.declared.field.Field.{Field}
use Rattle.floyd_tree.specs.Plain.{Plain}
use Rattle.floyd_assert.specs.Removal.{Lacks}
use Rattle.floyd_assert_trees.specs.declared.sep.Region.{Region}
use Rattle.floyd_assert_trees.specs.declared.sep.Sep.{Sep}
use Rattle.floyd_assert_trees.specs.declared.sep.Sep.TheVariants.{FieldAt, Padding, Valid, Anything, Predicate}
use Rattle.floyd_goal.specs.Answers.{IsAnswer}
use Rattle.floyd_goal.specs.Goals.{wrong_goal}
use Rattle.floyd_shares.specs.Chains.{After, Then}
use Rattle.floyd_arrays_structs.specs.declared.objects.Found.{Found}
use Rattle.floyd_arrays_structs.specs.JoinStruct.{Before, IsFound, IsValue, LacksFirst, NoObjectAt, none_found, with_first}
use Rattle.floyd_arrays_structs.specs.JoinStructClauses.{Adds, AddsValue, IsHere, IsIn, found_ahead, with_last}
use Rattle.floyd_arrays_structs.specs.StructParts.{field_region}

false_is_true : false ≡ true → ⊥
false_is_true e = absurd cc

-- ---- the value of one part

same_some : (u v : Plain) → ◌≡◌ {A = Option Plain} (Some u) (Some v) → v ≡ u
same_some u v e = cc

none_some : (v : Plain) → ◌≡◌ {A = Option Plain} None (Some v) → ⊥
none_some v e = absurd cc

here_is : (here region : Region) (w v : Plain) → IsHere here w region (Some v) → FieldAt here w ≡ FieldAt region v
here_is here region w v h = elim h [
  | inl p ↦ ap (λ (x : Region). FieldAt x w) p.0 ∙ ap (λ (y : Plain). FieldAt region y) (same_some v w p.1)
  | inr p ↦ absurd (none_some v (sym p.1))
]

here_none : (here region : Region) (w : Plain) → IsHere here w region None → NoObjectAt region (FieldAt here w)
here_none here region w h = elim h [
  | inl p ↦ absurd (none_some w p.1)
  | inr p ↦ λ v e. p.0 cc
]

pub object_is : (region : Region) (q : Sep) (v : Plain) → IsIn region q (Some v) → q ≡ FieldAt region v
object_is region (FieldAt here w) v h = here_is here region w v h
object_is region (Padding here) v h = absurd (none_some v (sym h))
object_is region (Valid address) v h = absurd (none_some v (sym h))
object_is region Anything v h = absurd (none_some v (sym h))
object_is region (Predicate name terms) v h = absurd (none_some v (sym h))

pub no_object : (region : Region) (q : Sep) → IsIn region q None → NoObjectAt region q
no_object region (FieldAt here w) h = here_none here region w h
no_object region (Padding here) h = λ v e. absurd cc
no_object region (Valid address) h = λ v e. absurd cc
no_object region Anything h = λ v e. absurd cc
no_object region (Predicate name terms) h = λ v e. absurd cc

-- ---- the value of the first object

here_first : (parts : List Sep) (i : ℕ) (q : Sep) → i < length parts → q ≡ get_or parts i q → drop i parts ≡ q ∷ drop (i + 1) parts
here_first parts i q within is = drop_more parts i q within ∙ ap (λ p. p ∷ drop (i + 1) parts) (sym is)

pub value_there : (region : Region) (parts : List Sep) (i : ℕ) (q : Sep) (v : Plain) → i < length parts → q ≡ get_or parts i q → IsIn region q (Some v) → IsValue region (drop i parts) (Ok v)
value_there region parts i q v within is h =
    subst (λ ps. IsValue region ps (Ok v)) (sym (here_first parts i q within is)) (inl (v, object_is region q v h, refl))

pub value_on : (region : Region) (parts : List Sep) (i : ℕ) (q : Sep) (value : Result Plain No) → i < length parts → q ≡ get_or parts i q → IsIn region q None → IsValue region (drop (i + 1) parts) value → IsValue region (drop i parts) value
value_on region parts i q value within is h more =
    subst (λ ps. IsValue region ps value) (sym (here_first parts i q within is)) (inr (no_object region q h, more))

pub no_value : (region : Region) (parts : List Sep) (i : ℕ) (why : No) → length parts ≤ i → why ≡ wrong_goal → IsValue region (drop i parts) (Err why)
no_value region parts i why past e = subst (λ ps. IsValue region ps (Err why)) (sym (drop_all i parts past)) (ap (λ (w : No). Err w) e)

-- ---- objects one after the other

abbrev put_first : Region → Plain → Result Found No → Result Found No
put_first region v (Ok found) = Ok (with_first region v found)
put_first region v (Err why) = Err why

put_by : (region : Region) (v : Plain) (answer : Result Found No) → Then answer (λ found a. a ≡ Ok (with_first region v found)) (put_first region v answer)
put_by region v (Ok found) = refl
put_by region v (Err why) = refl

pub ahead_nothing : (answer : Result Found No) → found_ahead none_found answer ≡ answer
ahead_nothing (Ok found) = refl
ahead_nothing (Err why) = refl

abbrev found_by : List Plain → List Sep → Result Found No
found_by values objects = Ok (record { values = values; objects = objects })

ahead_one : (found : Found) (region : Region) (v : Plain) (answer : Result Found No) → found_ahead (with_last found region v) answer ≡ found_ahead found (put_first region v answer)
ahead_one found region v (Ok more) =
    ap (λ xs. found_by xs ((found.objects ++ FieldAt region v ∷ []) ++ more.objects)) (append_assoc found.values (v ∷ []) more.values)
    ∙ ap (λ ps. found_by (found.values ++ v ∷ more.values) ps) (append_assoc found.objects (FieldAt region v ∷ []) more.objects)
ahead_one found region v (Err why) = refl

module _ (region : Region) (parts : List Sep) (fields : List Field) (i : ℕ) (f : Field) (place : Region) (found : Found) (within : i < length fields) (is : f ≡ get_or fields i f) (at : place ≡ field_region region f.name) where
  next : drop i fields ≡ f ∷ drop (i + 1) fields
  next = drop_more fields i f within ∙ ap (λ g. g ∷ drop (i + 1) fields) (sym is)

  one_found : (v : Plain) (answer : Result Found No) → IsValue place parts (Ok v) → IsFound region parts (drop (i + 1) fields) answer → IsFound region parts (drop i fields) (put_first place v answer)
  one_found v answer value more =
      subst (λ fs. IsFound region parts fs (put_first place v answer)) (sym next)
      (subst (λ (x : Region). After (IsValue x parts) (Before x (IsFound region parts (drop (i + 1) fields))) (put_first place v answer)) at
      (Ok v, value, (answer, more, put_by place v answer)))

  none_here : (why : No) → IsValue place parts (Err why) → IsFound region parts (drop i fields) (Err why)
  none_here why value =
      subst (λ fs. IsFound region parts fs (Err why)) (sym next)
      (subst (λ (x : Region). After (IsValue x parts) (Before x (IsFound region parts (drop (i + 1) fields))) (Err why)) at (Err why, value, refl))

  same_found : (one other : Found) → ◌≡◌ {A = Result Found No} (Ok one) (Ok other) → one ≡ other
  same_found one other e = cc

  module _ (whole : (answer : Result Found No) → IsFound region parts (drop i fields) answer → IsFound region parts fields (found_ahead found answer)) where
    step_by : (more : Found) (a : Result Plain No) → IsValue place parts a → Then a (AddsValue found place) (Ok more) → (answer : Result Found No) → IsFound region parts (drop (i + 1) fields) answer → IsFound region parts fields (found_ahead more answer)
    step_by more (Ok v) value so answer h =
        subst (IsFound region parts fields) (sym (ap (λ (x : Found). found_ahead x answer) (same_found more (with_last found place v) so) ∙ ahead_one found place v answer))
        (whole (put_first place v answer) (one_found v answer value h))
    step_by more (Err why) value so answer h = absurd cc

    pub found_step : (more : Found) → Adds found place parts (Ok more) → (answer : Result Found No) → IsFound region parts (drop (i + 1) fields) answer → IsFound region parts fields (found_ahead more answer)
    found_step more h answer = step_by more h.0 h.1 h.2 answer

    stop_by : (why : No) (a : Result Plain No) → IsValue place parts a → Then a (AddsValue found place) (Err why) → IsFound region parts fields (Err why)
    stop_by why (Ok v) value so = absurd cc
    stop_by why (Err other) value so = subst (λ (w : No). IsFound region parts fields (Err w)) (same_no other why so) (whole (Err other) (none_here other value))
      where
        same_no : (one two : No) → ◌≡◌ {A = Result Found No} (Err two) (Err one) → one ≡ two
        same_no one two e = cc

    pub found_stops : (stop : RuleStop) → IsAnswer (Adds found place parts) (Err stop) → IsAnswer (IsFound region parts fields) (Err stop)
    found_stops (r.No why) h = stop_by why h.0 h.1 h.2
    found_stops r.Memory h = tt

pub found_end : (region : Region) (parts : List Sep) (fields : List Field) (i : ℕ) (found : Found) → length fields ≤ i → ((answer : Result Found No) → IsFound region parts (drop i fields) answer → IsFound region parts fields (found_ahead found answer)) → IsFound region parts fields (Ok found)
found_end region parts fields i found past whole =
    let none : IsFound region parts (drop i fields) (Ok none_found) = subst (λ fs. IsFound region parts fs (Ok none_found)) (sym (drop_all i fields past)) refl in
    subst (IsFound region parts fields) (ap (λ xs. found_by xs (found.objects ++ [])) (append-nil found.values) ∙ ap (λ ps. found_by found.values ps) (append-nil found.objects)) (whole (Ok none_found) none)

-- ---- a part that is there, or not

abbrev Unlike : Sep → Sep → Type 0
Unlike p q = ¬ (q ≡ p)

pub unlike_more : (p : Sep) (parts : List Sep) (i : ℕ) (q : Sep) (same : Bool) → i < length parts → q ≡ get_or parts i q → (IsTrue same ↔ (q ≡ p)) → same ≡ false → Lacks p (take i parts) → Lacks p (take (i + 1) parts)
unlike_more p parts i q same within is h differ so = All-more (Unlike p) parts i q within so (λ e. false_is_true (sym differ ∙ h.1 (is ∙ e)))

pub there : (p : Sep) (parts : List Sep) (i : ℕ) (q : Sep) (same : Bool) → i < length parts → q ≡ get_or parts i q → (IsTrue same ↔ (q ≡ p)) → same ≡ true → IsTrue false ↔ Lacks p parts
there p parts i q same within is h so = (λ e. absurd (false_is_true e), λ none. absurd (All-get_or (Unlike p) parts i q within none (sym is ∙ h.0 so)))

pub nowhere : (p : Sep) (parts : List Sep) (i : ℕ) → length parts ≤ i → Lacks p (take i parts) → IsTrue true ↔ Lacks p parts
nowhere p parts i past so = (λ e. subst (Lacks p) (take_all i parts past) so, λ h. refl)

-- the first of some parts
pub lacks_none : (padding parts : List Sep) → length padding ≡ 0 → IsTrue false ↔ LacksFirst padding parts
lacks_none [] parts e = (λ h. absurd (false_is_true h), λ h. absurd h)
lacks_none (p ∷ more) parts e = absurd (omega (arith, e))

pub lacks_one : (padding parts : List Sep) (p : Sep) (b : Bool) → 1 ≤ length padding → p ≡ get_or padding 0 p → (IsTrue b ↔ Lacks p parts) → IsTrue b ↔ LacksFirst padding parts
lacks_one [] parts p b some e h = absurd (omega (arith, some))
lacks_one (q ∷ more) parts p b some e h = subst (λ (x : Sep). IsTrue b ↔ Lacks x parts) e h
