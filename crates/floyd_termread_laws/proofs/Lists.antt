-- Lists whose items have one answer have one.
use Rattle.std.proofs.Common.{◌≡◌, ℕ, ◌+◌, ◌==◌, Bool, true, false, List, [], ◌∷◌, ◌++◌, length, Ok, Err, refl, ap, subst}
use Rattle.floyd_text.specs.declared.refusal.Refusal.{Refusal}
use Rattle.floyd_lex.specs.declared.kinds.Punctuator.{Punctuator}
use Rattle.floyd_lex.specs.declared.kinds.Punctuator.TheVariants as p
use Rattle.floyd_lex.specs.Token.{TokenList}
use Rattle.floyd_termread_tokens.specs.Tokens.{is_mark}
use Rattle.floyd_termread_phrases.specs.Reads.{Answer, Reads, pure, ◌>>◌}
use Rattle.floyd_termread_phrases.specs.Laws.{OneAnswer}
use Rattle.floyd_termread_marks.specs.Lists.{before_item, next_item, Listed, listed}
use Rattle.floyd_termread_marks.specs.Lists.Listed.{ends, goes_on, stops}
use Rattle.floyd_termread_marks.specs.Marks.{mark, is_next}
use Rattle.floyd_termread_laws.proofs.Chains.{pure_once, then, chosen_once, mark_once}

abbrev read_as : {A : Type 0} → A → ℕ → Answer A
read_as x n = Ok (x, n)

abbrev refused_as : {A : Type 0} → Refusal → Answer A
refused_as r = Err r

refusal_is : {A : Type 0} (r s : Refusal) → refused_as {A = A} r ≡ refused_as s → r ≡ s
refusal_is r s e = cc

abbrev given : {A : Type 0} → A × ℕ → Answer A
given p = Ok p

pair_is : {A : Type 0} (p q : A × ℕ) → given p ≡ given q → p ≡ q
pair_is p q e = cc

value_is : {A : Type 0} (x y : A) (n m : ℕ) → read_as x n ≡ read_as y m → x ≡ y
value_is {A} x y n m e = ap (λ (p : A × ℕ). p.0) (pair_is (x, n) (y, m) e)

number_is : {A : Type 0} (x y : A) (n m : ℕ) → read_as x n ≡ read_as y m → n ≡ m
number_is {A} x y n m e = ap (λ (p : A × ℕ). p.1) (pair_is (x, n) (y, m) e)

not_both : {P : Type 0} (b : Bool) → b ≡ true → b ≡ false → P
not_both b e f = absurd cc

no_refusal : {A P : Type 0} (x : A) (n : ℕ) (r : Refusal) → read_as x n ≡ Err r → P
no_refusal x n r e = absurd cc

module _ (bytes : List ℕ) (list : TokenList) (depth : ℕ) {A : Type 0} (between : Punctuator) (item : List A → Reads A) (each : (xs : List A) → OneAnswer (item xs)) where
  abbrev closes : ℕ → Bool
  closes at = is_next bytes list (is_mark p.CloseParen) at

  abbrev This : List A → ℕ → Answer (List A) → Type 0
  This xs at answer = Listed bytes list depth between item xs at answer

  before_once : (n : ℕ) → OneAnswer (before_item bytes list depth between n)
  before_once n = chosen_once (n == 0) (pure tt) (mark bytes list depth between >> pure tt) (pure_once tt) (then (mark bytes list depth between) (pure tt) (mark_once bytes list depth between) (pure_once tt))

  next_once : (xs : List A) → OneAnswer (next_item bytes list depth between item xs)
  next_once xs = then (before_item bytes list depth between (length xs)) (item xs) (before_once (length xs)) (each xs)

  -- where it ends
  at_end : {xs : List A} {at : ℕ} {answer : Answer (List A)} → closes at ≡ true → This xs at answer → Ok (xs, at + 1) ≡ answer
  at_end shut (ends also) = refl
  at_end {at = at} shut (goes_on open_yet read rest) = not_both (closes at) shut open_yet
  at_end {at = at} shut (stops open_yet refused) = not_both (closes at) shut open_yet

  -- where its next item is refused
  at_stop : {xs : List A} {at : ℕ} {answer : Answer (List A)} (refusal : Refusal) → closes at ≡ false → next_item bytes list depth between item xs at (Err refusal) → This xs at answer → Err refusal ≡ answer
  at_stop {at = at} refusal open_yet refused (ends shut) = not_both (closes at) shut open_yet
  at_stop {xs = xs} {at = at} refusal open_yet refused (goes_on {x = x} {next = next} also read rest) = no_refusal x next refusal (next_once xs at (Ok (x, next)) (Err refusal) read refused)
  at_stop {xs = xs} {at = at} refusal open_yet refused (stops {refusal = other} also stopped) = ap (λ (r : Refusal). Err r) (refusal_is refusal other (next_once xs at (Err refusal) (Err other) refused stopped))

  -- behind its next item
  behind : {xs : List A} {at : ℕ} {answer : Answer (List A)} (x : A) (next : ℕ) → closes at ≡ false → next_item bytes list depth between item xs at (Ok (x, next)) → This xs at answer → This (xs ++ x ∷ []) next answer
  behind {at = at} x next open_yet read (ends shut) = not_both (closes at) shut open_yet
  behind {xs = xs} {at = at} {answer = answer} x next open_yet read (goes_on {x = y} {next = other} also found rest) =
      let same = next_once xs at (Ok (y, other)) (Ok (x, next)) found read in
      subst (λ (z : A). This (xs ++ z ∷ []) next answer) (value_is y x other next same)
      (subst (λ (n : ℕ). This (xs ++ y ∷ []) n answer) (number_is y x other next same) rest)
  behind {xs = xs} {at = at} x next open_yet read (stops {refusal = refusal} also refused) = no_refusal x next refusal (next_once xs at (Ok (x, next)) (Err refusal) read refused)

  same_list : {xs : List A} {at : ℕ} {a : Answer (List A)} → This xs at a → (b : Answer (List A)) → This xs at b → a ≡ b
  same_list (ends shut) b q = at_end shut q
  same_list (goes_on {x = x} {next = next} open_yet read rest) b q = same_list rest b (behind x next open_yet read q)
  same_list (stops {refusal = refusal} open_yet refused) b q = at_stop refusal open_yet refused q

  pub items_once : (xs : List A) → OneAnswer (Listed bytes list depth between item xs)
  items_once xs at a b p q = same_list p b q

pub listed_once : (bytes : List ℕ) (list : TokenList) (depth : ℕ) {A : Type 0} (between : Punctuator) (item : List A → Reads A) → ((xs : List A) → OneAnswer (item xs)) → OneAnswer (listed bytes list depth between item)
listed_once bytes list depth between item each =
    then (mark bytes list depth p.OpenParen) (Listed bytes list (depth + 1) between item []) (mark_once bytes list depth p.OpenParen) (items_once bytes list (depth + 1) between item each [])
