-- The name that a binder gets, step by step.
use Rattle.std.proofs.Common.{◌≡◌, ℕ, zero, suc, ◌+◌, ◌<◌, ◌^◌, Bool, true, false, not, ◌&&◌, ◌||◌, List, [], ◌∷◌, Option, Some, refl, sym, ap, ◌∙◌, arith}
use Rattle.std.specs.Prelude.{if◌then◌else◌, bytes_eq, cond}
use Rattle.std.specs.List.{list_any}
use Rattle.std.specs.Map.{lookup}
use Rattle.floyd_tree.specs.Formulas.{PlainFormulas, formulas_mention}
use Rattle.floyd_truth.specs.Capture.{Becomes, Changes, bound_in_some, brings, captures, in_new_terms, marked, most_marks, renamed, unmarked_from}
use Rattle.floyd_assert_changes.specs.NamesClauses.{formulas_names, has, new_term_names}
use Rattle.floyd_assert_changes.proofs.Naming.{has_formulas, has_new_terms}

pub found_mark : (taken : List ℕ → Bool) (x : List ℕ) (n k : ℕ) → 0 < n → taken (marked x k) ≡ false → unmarked_from taken x n k ≡ marked x k
found_mark taken x zero k l e = absurd (omega arith)
found_mark taken x (suc n) k l e = ap (λ b. if b then unmarked_from taken x n (k + 1) else marked x k) e

pub next_mark : (taken : List ℕ → Bool) (x : List ℕ) (n m k : ℕ) → n ≡ m + 1 → taken (marked x k) ≡ true → unmarked_from taken x n k ≡ unmarked_from taken x m (k + 1)
next_mark taken x zero m k l e = absurd (omega arith)
next_mark taken x (suc n) m k l e =
    let same : n ≡ m = omega (arith, l) in
    ap (λ b. if b then unmarked_from taken x n (k + 1) else marked x k) e ∙ ap (λ i. unmarked_from taken x i (k + 1)) same

-- two tests that agree find the same name
pub same_marks : (p q : List ℕ → Bool) (x : List ℕ) (n k : ℕ) → ((y : List ℕ) → p y ≡ q y) → unmarked_from p x n k ≡ unmarked_from q x n k
same_marks p q x zero k h = refl
same_marks p q x (suc n) k h =
    ap (λ b. if b then unmarked_from p x n (k + 1) else marked x k) (h (marked x k))
    ∙ ap (λ name. if q (marked x k) then name else marked x k) (same_marks p q x n (k + 1) h)

-- what is brought by a change is free in a new term
here : (x : List ℕ) (b : Bool) (c : Becomes) (o : Option Becomes) (rest : Bool) → (brings x o ≡ true → rest ≡ true) → brings x (cond b (Some c) o) ≡ true → (brings x (Some c) || rest) ≡ true
here x true c o rest h e = ap (λ a. a || rest) e
here x false c o rest h e = ap (λ a. brings x (Some c) || a) (h e) ∙ last (brings x (Some c))
  where
    last : (a : Bool) → (a || true) ≡ true
    last true = refl
    last false = refl

brought : (x v : List ℕ) (ch : Changes) → brings x (lookup (bytes_eq v) ch) ≡ true → in_new_terms ch x ≡ true
brought x v [] e = absurd cc
brought x v (c ∷ ch) e = here x (bytes_eq v c.0) c.1 (lookup (bytes_eq v) ch) (in_new_terms ch x) (brought x v ch) e

not_brought : (x v : List ℕ) (ch : Changes) (b : Bool) → brings x (lookup (bytes_eq v) ch) ≡ b → in_new_terms ch x ≡ false → b ≡ false
not_brought x v ch true e h = sym (brought x v ch e) ∙ h
not_brought x v ch false e h = refl

none_captures : (covers : List ℕ → Bool) (x : List ℕ) (whole ch : Changes) → in_new_terms whole x ≡ false → list_any (λ (c : List ℕ × Becomes). brings x (lookup (bytes_eq c.0) whole) && (not (bytes_eq x c.0) && covers c.0)) ch ≡ false
none_captures covers x whole [] h = refl
none_captures covers x whole (c ∷ ch) h =
    ap (λ b. (b && (not (bytes_eq x c.0) && covers c.0)) || list_any (λ (d : List ℕ × Becomes). brings x (lookup (bytes_eq d.0) whole) && (not (bytes_eq x d.0) && covers d.0)) ch)
    (not_brought x c.0 whole (brings x (lookup (bytes_eq c.0) whole)) refl h)
    ∙ none_captures covers x whole ch h

-- nothing is captured by a name that is free in no new term
pub quiet : (ch : Changes) (covers : List ℕ → Bool) (x : List ℕ) → in_new_terms ch x ≡ false → captures ch covers x ≡ false
quiet ch covers x h = none_captures covers x ch ch h

abbrev pub covered_by : PlainFormulas → List ℕ → Bool
covered_by kids y = formulas_mention y kids

abbrev pub taken : Changes → PlainFormulas → List ℕ → Bool
taken ch kids name = in_new_terms ch name || (formulas_mention name kids || bound_in_some name kids)

pub kept_name : (ch : Changes) (kids : PlainFormulas) (x : List ℕ) → captures ch (λ y. formulas_mention y kids) x ≡ false → x ≡ renamed ch kids x
kept_name ch kids x h = sym (ap (λ b. if b then unmarked_from (taken ch kids) x most_marks 1 else x) h)

pub quiet_name : (ch : Changes) (kids : PlainFormulas) (x : List ℕ) → in_new_terms ch x ≡ false → x ≡ renamed ch kids x
quiet_name ch kids x h = kept_name ch kids x (quiet ch (λ y. formulas_mention y kids) x h)

pub new_name_is : (ch : Changes) (kids : PlainFormulas) (x : List ℕ) → captures ch (λ y. formulas_mention y kids) x ≡ true → unmarked_from (has (formulas_names kids (new_term_names ch []))) x most_marks 1 ≡ renamed ch kids x
new_name_is ch kids x h =
    same_marks (has (formulas_names kids (new_term_names ch []))) (taken ch kids) x most_marks 1
    (λ y. has_formulas y kids (new_term_names ch []) ∙ ap (λ b. b || (formulas_mention y kids || bound_in_some y kids)) (has_new_terms y ch []))
    ∙ sym (ap (λ b. if b then unmarked_from (taken ch kids) x most_marks 1 else x) h)

pub most_is : most_marks ≡ 2 ^ 63
unfolding most_marks
most_is = refl

pub last_mark : (taken : List ℕ → Bool) (x : List ℕ) (n k : ℕ) → n ≡ 0 → unmarked_from taken x n k ≡ marked x k
last_mark taken x zero k e = refl
last_mark taken x (suc n) k e = absurd (omega arith)
