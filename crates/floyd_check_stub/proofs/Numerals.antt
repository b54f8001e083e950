-- The numerals that are read are those that are written.
use Rattle.std.proofs.Common.{◌≡◌, ℕ, ◌+◌, ◌-◌, ◌*◌, ◌^◌, ◌≤◌, ◌<◌, true, false, eqb, leb, not, List, [], ◌∷◌, length, take, get_or, refl, sym, ap, ◌∙◌, arith, rules, inl, inr, Some, None}
use Rattle.std.specs.Fmt.{decimal}
use Rattle.std.specs.List.{list_all}
use Rattle.std.specs.Char.{digit_value}
use Rattle.std.specs.Str.Parse.{digits_value}
use Rattle.std.proofs.lemmas.Int.Digits.{digits_value_more}
use Rattle.std.proofs.lemmas.List.Sums.{AllPass-from_list_all}
use Rattle.std.proofs.lemmas.Bool.{cases_Bool, and_parts, and_from, leb-true, le-leb, eqb-true, not_from_false, false_from_ne_true, false≢true, cases_eq, le-ltb, lt-ltb, lt-leb}
use Rattle.std.proofs.lemmas.Fmt.{digits_decimal, digits_value-decimal, decimal-digits_value, decimal_nonempty, first_decimal, decimal_digit}
use Rattle.std.proofs.lemmas.Str.Parse.{IsNumeralModel, IsDigitsTest, numerals_by_value, digits_value-take-le}
use Rattle.floyd_check_stub.specs.ReadingClauses.{is_digit, is_numeral, small, int_of}

abbrev are_digits : List ℕ → Type 0
are_digits ds = list_all is_digit ds ≡ true

tells_digits : IsDigitsTest are_digits
tells_digits = search rules

own : IsNumeralModel are_digits (digits_value 10)
own = numerals_by_value are_digits tells_digits

-- what a numeral is, by parts
numeral_digits : (text : List ℕ) → is_numeral text ≡ true → are_digits text
numeral_digits [] e = absurd (false≢true e)
numeral_digits (d ∷ []) e = and_from (is_digit d) true e refl
numeral_digits (d ∷ f ∷ ds) e = (and_parts (not (eqb d 48)) (list_all is_digit (d ∷ f ∷ ds)) e).1

numeral_some : (text : List ℕ) → is_numeral text ≡ true → 0 < length text
numeral_some [] e = absurd (false≢true e)
numeral_some (d ∷ ds) e = omega arith

numeral_first : (text : List ℕ) → is_numeral text ≡ true → get_or text 0 0 ≡ 48 → length text ≡ 1
numeral_first [] e z = absurd (false≢true e)
numeral_first (d ∷ []) e z = refl
numeral_first (d ∷ f ∷ ds) e z =
    let none : not (eqb d 48) ≡ false = ap (λ (n : ℕ). not (eqb n 48)) z in
    absurd (false≢true (sym none ∙ (and_parts (not (eqb d 48)) (list_all is_digit (d ∷ f ∷ ds)) e).0))

numeral_from : (text : List ℕ) → are_digits text → 0 < length text → (get_or text 0 0 ≡ 48 → length text ≡ 1) → is_numeral text ≡ true
numeral_from [] all some first = absurd (omega arith)
numeral_from (d ∷ []) all some first = (and_parts (is_digit d) true all).0
numeral_from (d ∷ f ∷ ds) all some first =
    let other : eqb d 48 ≡ false = false_from_ne_true (eqb d 48) (λ e. omega (arith, first (eqb-true d 48 e))) in
    and_from (not (eqb d 48)) (list_all is_digit (d ∷ f ∷ ds)) (not_from_false (eqb d 48) other) all

small_read : (v n : ℕ) → small v ≡ Some n → (v ≡ n) × (n ≤ 2147483647)
small_read v n e = elim (cases_Bool (leb v 2147483647)) [
  | inl l ↦
      let same : Some v ≡ Some n = rw l at e in
      let is : v ≡ n = cc in
      (is, omega (arith, leb-true v 2147483647 l))
  | inr l ↦
      let wrong : None ≡ Some n = rw l at e in
      absurd cc
]

-- what is read is the numeral of an int
pub int_read : (text : List ℕ) (n : ℕ) → int_of text ≡ Some n → (text ≡ decimal n) × (n ≤ 2147483647)
int_read text n e = elim (cases_Bool (is_numeral text)) [
  | inl k ↦
      let v = digits_value 10 text in
      let found : small v ≡ Some n = rw k at e in
      let same = small_read v n found in
      let fits : v < 2 ^ 64 = omega (arith, same.0, same.1) in
      (sym (decimal-digits_value own text (numeral_digits text k) (numeral_some text k) (numeral_first text k) fits) ∙ ap decimal same.0, same.1)
  | inr k ↦
      let wrong : None ≡ Some n = rw k at e in
      absurd cc
]

first_digit : (n : ℕ) → n < 2 ^ 64 → get_or (decimal n) 0 0 ≡ 48 → length (decimal n) ≡ 1
first_digit n h z = elim (cases_eq n 0) [
  | inl e ↦ ap length (ap decimal e ∙ decimal_digit 0 (omega arith))
  | inr e ↦ absurd (omega (arith, z, first_decimal n (omega arith) h))
]

pub decimal_is_numeral : (n : ℕ) → n < 2 ^ 64 → is_numeral (decimal n) ≡ true
decimal_is_numeral n h = numeral_from (decimal n) (digits_decimal own n h) (decimal_nonempty n h) (first_digit n h)

-- the numeral of an int is read as it
pub int_given : (n : ℕ) → n ≤ 2147483647 → int_of (decimal n) ≡ Some n
int_given n h =
    let fits : n < 2 ^ 64 = omega arith in
    rw (decimal_is_numeral n fits, digits_value-decimal own n fits, le-leb n 2147483647 h) refl

digit_is : (c : ℕ) → is_digit c ≡ true → digit_value c ≡ c - 48
digit_is c e =
    let both = and_parts (leb 48 c) (leb c 57) e in
    rw (le-ltb c 48 (leb-true 48 c both.0), lt-ltb c 58 (omega (arith, leb-true c 57 both.1))) refl

-- one more digit
pub one_more : (ds : List ℕ) (i : ℕ) → are_digits ds → i < length ds → digits_value 10 (take (i + 1) ds) ≡ digits_value 10 (take i ds) * 10 + (get_or ds i 0 - 48)
one_more ds i all h = digits_value_more 10 ds i h ∙ ap (λ (d : ℕ). digits_value 10 (take i ds) * 10 + d) (digit_is (get_or ds i 0) (AllPass-from_list_all is_digit ds all i 0 h))

-- more digits are no less
pub too_great : (ds : List ℕ) (i : ℕ) → 2147483647 < digits_value 10 (take i ds) → small (digits_value 10 ds) ≡ None
too_great ds i h = rw (lt-leb (digits_value 10 ds) 2147483647 (omega (arith, h, digits_value-take-le 10 ds i (omega arith)))) refl
