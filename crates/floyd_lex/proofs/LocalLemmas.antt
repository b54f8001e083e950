-- What stands at the front of a line does not depend on what follows the line, but for a comment.
use Rattle.std.proofs.Common.{◌≡◌, ℕ, ◌+◌, ◌-◌, ◌*◌, ◌∙◌, ◌<◌, ◌≤◌, ◌&&◌, Bool, true, false, not, cond, eqb, nat_le, nat_eq, List, [], ◌∷◌, ◌++◌, length, take, drop, get_or, suc, zero, Option, Some, None, option_map, IfSome, refl, ap, sym, subst, arith, inl, inr, codes, lit<}
use Rattle.std.specs.Char.{is_ascii_digit}
use Rattle.std.specs.Str.{continuation_len, lead_bits, is_utf8, chars, chars_after, IsUtf8}
use Rattle.std.proofs.lemmas.Bool.{cases_lt, and_parts}
use Rattle.std.proofs.lemmas.List.{length-take, length-drop, length-append, get_or-take, take-append-le, drop-append-le, append-nil, append_assoc}
use Rattle.std.proofs.lemmas.Str.{IsUtf8-from_is_utf8, encodes-chars, inside_one, encode_ascii, is_utf8-from_IsUtf8, IsUtf8-encode}
use Rattle.unicode_ident.specs.Ident.{is_xid_continue}
use Rattle.unicode_ident.proofs.IdentLemmas.{is_xid_continue-ascii}
use Rattle.std.proofs.Math.Seq.{get_or-append_seam}
use lib.Pointwise.{pointwise}
use lib.Utf8.{encode, encodes}
use Prim.Native.String.{String}
use Rattle.floyd_lex.specs.declared.classes.Class.{Class}
use Rattle.floyd_lex.specs.declared.classes.Class.TheVariants as class
use Rattle.floyd_lex.specs.declared.kinds.FileKind.{FileKind}
use Rattle.floyd_lex.specs.declared.kinds.FileKind.TheVariants.{Source, Spec, Script}
use Rattle.floyd_lex.specs.declared.lead.Flaw.TheVariants.{OpenComment}
use Rattle.floyd_lex.specs.declared.lead.Lead.{Lead}
use Rattle.floyd_lex.specs.declared.lead.Lead.TheVariants.{Skip, Bad}
use Rattle.floyd_lex.specs.Classes.{in_class, run, begins, is_white}
use Rattle.floyd_lex.specs.Marks.{Mark, mark_in, mark_or, c_mark, c_three, c_two, c_one, other_mark, shared_two, shared_one, own_two, own_one, no_token}
use Rattle.floyd_lex.specs.Numbers.{c_number}
use Rattle.floyd_lex.specs.Quotes.{constant, constant_of, constant_or_bad, goes_on, is_plain, string, string_len, string_or_bad}
use Rattle.floyd_lex.specs.Unicode.{char_at, char_of, continues_word, name_step, name_len, name_len_after, plain_number}
use Rattle.floyd_lex.specs.Front.{front, token_front, c_front, other_front, word, line_comment, comment, comment_of, comment_len, comment_or_bad, is_marker}
use Rattle.floyd_lex.proofs.MoveLemmas.{run_within, step_within, constant_within, comment_within}

-- runs
pub run_line : (kl : Class) → in_class kl 10 ≡ false → (xs ys : List ℕ) → run kl (xs ++ 10 ∷ ys) ≡ run kl xs
run_line kl stops [] ys = rw stops refl
run_line kl stops (x ∷ xs) ys = elim (in_class kl x) as (λ v. cond v (1 + run kl (xs ++ 10 ∷ ys)) 0 ≡ cond v (1 + run kl xs) 0) [
  | true ↦ ap (λ (n : ℕ). 1 + n) (run_line kl stops xs ys)
  | false ↦ refl
]

pub take_line : (n : ℕ) (xs ys : List ℕ) → n ≤ length xs → take n (xs ++ 10 ∷ ys) ≡ take n xs
take_line n xs ys h = take-append-le n xs (10 ∷ ys) h

drop_line : (n : ℕ) (xs ys : List ℕ) → n ≤ length xs → drop n (xs ++ 10 ∷ ys) ≡ drop n xs ++ 10 ∷ ys
drop_line n xs ys h = drop-append-le n xs (10 ∷ ys) h

-- texts
abbrev no_feed : List ℕ → Bool
no_feed [] = true
no_feed (b ∷ bytes) = not (eqb b 10) && no_feed bytes

text_line : (text xs ys : List ℕ) → no_feed text ≡ true → pointwise nat_eq text (take (length text) (xs ++ 10 ∷ ys)) ≡ pointwise nat_eq text (take (length text) xs)
text_line [] xs ys e = refl
text_line (c ∷ text) [] ys e =
    let other : nat_eq c 10 ≡ false = grind (arith, (and_parts (not (eqb c 10)) (no_feed text) e).0) in
    rw other refl
text_line (c ∷ text) (x ∷ xs) ys e = ap (λ (b : Bool). nat_eq c x && b) (text_line text xs ys (and_parts (not (eqb c 10)) (no_feed text) e).1)

pub begins_line : (text : String) (xs ys : List ℕ) → no_feed (codes text) ≡ true → begins text (xs ++ 10 ∷ ys) ≡ begins text xs
begins_line text xs ys e = text_line (codes text) xs ys e

-- marks
abbrev all_on_line : List Mark → Bool
all_on_line [] = true
all_on_line (m ∷ marks) = no_feed (codes m.0) && all_on_line marks

mark_line : (marks : List Mark) (xs ys : List ℕ) → all_on_line marks ≡ true → mark_in marks (xs ++ 10 ∷ ys) ≡ mark_in marks xs
mark_line [] xs ys e = refl
mark_line (m ∷ marks) xs ys e =
    let parts = and_parts (no_feed (codes m.0)) (all_on_line marks) e in
    rw (begins_line m.0 xs ys parts.0, mark_line marks xs ys parts.1) refl

c_mark_line : (xs ys : List ℕ) → c_mark (xs ++ 10 ∷ ys) ≡ c_mark xs
unfolding c_mark
c_mark_line xs ys =
    ap (λ o. mark_or 3 o (mark_or 2 (mark_in c_two (xs ++ 10 ∷ ys)) (mark_or 1 (mark_in c_one (xs ++ 10 ∷ ys)) no_token))) (mark_line c_three xs ys refl)
    ∙ ap (λ o. mark_or 3 (mark_in c_three xs) (mark_or 2 o (mark_or 1 (mark_in c_one (xs ++ 10 ∷ ys)) no_token))) (mark_line c_two xs ys refl)
    ∙ ap (λ o. mark_or 3 (mark_in c_three xs) (mark_or 2 (mark_in c_two xs) (mark_or 1 o no_token))) (mark_line c_one xs ys refl)

own_two_line : (kind : FileKind) → all_on_line (own_two kind) ≡ true
own_two_line Source = refl
own_two_line Spec = refl
own_two_line Script = refl

own_one_line : (kind : FileKind) → all_on_line (own_one kind) ≡ true
own_one_line Source = refl
own_one_line Spec = refl
own_one_line Script = refl

other_mark_line : (kind : FileKind) (xs ys : List ℕ) → other_mark kind (xs ++ 10 ∷ ys) ≡ other_mark kind xs
unfolding other_mark
other_mark_line kind xs ys =
    rw (mark_line shared_two xs ys refl, mark_line (own_two kind) xs ys (own_two_line kind), mark_line shared_one xs ys refl, mark_line (own_one kind) xs ys (own_one_line kind)) refl

-- names, keywords and literals of C
word_line : (xs ys : List ℕ) → word (xs ++ 10 ∷ ys) ≡ word xs
unfolding word
word_line xs ys = rw (run_line class.Word refl xs ys, take_line (run class.Word xs) xs ys (run_within class.Word xs)) refl

c_number_line : (xs ys : List ℕ) → c_number (xs ++ 10 ∷ ys) ≡ c_number xs
unfolding c_number
c_number_line xs ys =
    let h = run_within class.Word xs in
    rw (run_line class.Word refl xs ys, take_line (run class.Word xs) xs ys h, drop_line (run class.Word xs) xs ys h, begins_line "." (drop (run class.Word xs) xs) ys refl) refl

-- quotes
goes_on_line : (xs ys : List ℕ) → goes_on (xs ++ 10 ∷ ys) ≡ goes_on xs
goes_on_line [] ys = refl
goes_on_line (x ∷ xs) ys = refl

either_none : (b : Bool) → cond {A = Option (ℕ × ℕ)} b None None ≡ None
either_none true = refl
either_none false = refl

and_no : (b : Bool) → (b && false) ≡ false
and_no true = refl
and_no false = refl

constant_of_line : (b : ℕ) (xs ys : List ℕ) → constant_of (b ∷ (xs ++ 10 ∷ ys)) ≡ constant_of (b ∷ xs)
constant_of_line b [] ys = refl
constant_of_line b (c ∷ []) ys = rw (and_no (is_plain c), either_none (eqb c 92 && eqb (get_or ys 0 0) 39), and_no (eqb c 92)) refl
constant_of_line b (c ∷ d ∷ []) ys = rw (and_no (eqb c 92)) refl
constant_of_line b (c ∷ d ∷ e ∷ xs) ys = refl

constant_line : (b : ℕ) (xs ys : List ℕ) → constant (b ∷ (xs ++ 10 ∷ ys)) ≡ constant (b ∷ xs)
unfolding constant
constant_line b xs ys = rw (constant_of_line b xs ys) (bad_line (constant_of (b ∷ xs)) (constant_within (b ∷ xs)))
  where
    bad_line : (o : Option (ℕ × ℕ)) → IfSome o (λ c. (0 < c.1) × (c.1 ≤ length (b ∷ xs))) → constant_or_bad o (b ∷ (xs ++ 10 ∷ ys)) ≡ constant_or_bad o (b ∷ xs)
    bad_line (Some c) h = rw (drop_line c.1 (b ∷ xs) ys h.1, goes_on_line (drop c.1 (b ∷ xs)) ys) refl
    bad_line None h = refl

string_len_line : (before : ℕ) (xs ys : List ℕ) → string_len before (xs ++ 10 ∷ ys) ≡ string_len before xs
string_len_line before [] ys = refl
string_len_line before (x ∷ xs) ys = rw (string_len_line x xs ys) refl

string_line : (b : ℕ) (xs ys : List ℕ) → string (b ∷ (xs ++ 10 ∷ ys)) ≡ string (b ∷ xs)
unfolding string
string_line b xs ys = ap string_or_bad (string_len_line 34 xs ys)

-- line markers
digit_line : (xs ys : List ℕ) (n : ℕ) → n ≤ length xs → is_ascii_digit (get_or (xs ++ 10 ∷ ys) n 0) ≡ is_ascii_digit (get_or xs n 0)
digit_line [] ys zero h = refl
digit_line [] ys (suc n) h = absurd (omega (arith, h))
digit_line (x ∷ xs) ys zero h = refl
digit_line (x ∷ xs) ys (suc n) h = digit_line xs ys n (omega (arith, h))

pub marker_line : (b : ℕ) (xs ys : List ℕ) → is_marker (b ∷ (xs ++ 10 ∷ ys)) ≡ is_marker (b ∷ xs)
marker_line b xs ys =
    rw (begins_line "#" (b ∷ xs) ys refl, run_line class.Blank refl xs ys, digit_line xs ys (run class.Blank xs) (run_within class.Blank xs)) refl

-- characters: a line feed is none of the bytes behind a character's first
one_char : (m c : ℕ) (xs : List ℕ) → length xs ≡ m → (d : ℕ) × (chars_after m c xs ≡ d ∷ [])
one_char zero c [] e = (c, refl)
one_char zero c (x ∷ xs) e = absurd (omega (arith, e))
one_char (suc m) c [] e = absurd (omega (arith, e))
one_char (suc m) c (x ∷ xs) e = one_char m (c * 64 + (x - 128)) xs (omega (arith, e))

no_feed_inside : (b : ℕ) (xs : List ℕ) (k : ℕ) → length xs ≡ continuation_len b → 0 < k → k < length (b ∷ xs) → get_or (b ∷ xs) k 0 ≡ 10 → is_utf8 (b ∷ xs) ≡ true → ⊥
unfolding chars
no_feed_inside b xs k e some h is_feed u =
    let c = one_char (continuation_len b) (lead_bits b) xs e in
    let spelled : b ∷ xs ≡ encode c.0 ++ [] = sym (encodes-chars (b ∷ xs) (IsUtf8-from_is_utf8 (b ∷ xs) u)) ∙ ap encodes c.1 in
    let whole : encode c.0 ≡ b ∷ xs = sym (append-nil (encode c.0)) ∙ sym spelled in
    let is_10 : c.0 ≡ 10 = inside_one c.0 [] (b ∷ xs) k spelled (rw whole h) (rw is_feed (lit< tt)) ∙ is_feed in
    let one : length (b ∷ xs) ≡ 1 = ap length (sym whole) ∙ ap (λ (d : ℕ). length (encode d)) is_10 ∙ ap length (encode_ascii 10 (lit< tt)) in
    omega (arith, one, some, h)

-- a character that would go on beyond the line is none
short_char : (n : ℕ) (xs ys : List ℕ) → n ≤ length xs → char_of n (xs ++ 10 ∷ ys) ≡ char_of n xs
short_char n xs ys h =
    let a : nat_le n (length (xs ++ 10 ∷ ys)) ≡ true = grind (arith, h, length-append xs (10 ∷ ys)) in
    let b : nat_le n (length xs) ≡ true = grind (arith, h) in
    rw (a, b, take_line n xs ys h) refl

long_char : (m b : ℕ) (xs ys : List ℕ) → m ≡ continuation_len b → length xs < m → char_of (m + 1) (b ∷ (xs ++ 10 ∷ ys)) ≡ None
long_char m b xs ys is_m h =
    let whole = b ∷ (xs ++ 10 ∷ ys) in
    let P : Bool → Bool → Type 0 = λ v w. cond {A = Option (ℕ × ℕ)} (v && w) (Some (get_or (chars (take (m + 1) whole)) 0 0, m + 1)) None ≡ None in
    elim (nat_le (m + 1) (length whole)) as (λ v. nat_le (m + 1) (length whole) ≡ v → P v (is_utf8 (take (m + 1) whole))) [
      | true ↦ λ e.
          let fits : m + 1 ≤ length whole = grind (arith, e) in
          let rest = take m (xs ++ 10 ∷ ys) in
          let len : length rest ≡ m = omega (arith, length-take m (xs ++ 10 ∷ ys), fits) in
          let front : take (m + 1) whole ≡ b ∷ rest = let one : m + 1 ≡ suc m = omega arith in rw one refl in
          let feed : get_or (b ∷ rest) (suc (length xs)) 0 ≡ 10 = get_or-take m (xs ++ 10 ∷ ys) (length xs) 0 h ∙ get_or-append_seam xs 10 ys 0 in
          elim (is_utf8 (take (m + 1) whole)) as (λ w. is_utf8 (take (m + 1) whole) ≡ w → P true w) [
            | true ↦ λ u. absurd (no_feed_inside b rest (suc (length xs)) (len ∙ is_m) (omega arith) (omega (arith, len, h)) feed (subst (λ (z : List ℕ). is_utf8 z ≡ true) front u))
            | false ↦ λ _. refl
          ] refl
      | false ↦ λ _. refl
    ] refl

pub char_line : (b : ℕ) (xs ys : List ℕ) → char_at (b ∷ (xs ++ 10 ∷ ys)) ≡ char_at (b ∷ xs)
unfolding char_at
char_line b xs ys = elim (cases_lt (length xs) (continuation_len b)) [
  | inl h ↦
      let no : nat_le (continuation_len b + 1) (length (b ∷ xs)) ≡ false = grind (arith, h) in
      long_char (continuation_len b) b xs ys refl h ∙ sym (rw no refl)
  | inr h ↦ short_char (continuation_len b + 1) (b ∷ xs) ys (omega (arith, h))
]

-- names and numbers of specifications and scripts
feed_char : (ys : List ℕ) → char_at (10 ∷ ys) ≡ Some (10, 1)
unfolding char_at chars
feed_char ys =
    let within : nat_le 1 (suc (length ys)) ≡ true = grind arith in
    let text : is_utf8 (10 ∷ []) ≡ true = is_utf8-from_IsUtf8 (10 ∷ []) (subst IsUtf8 (encode_ascii 10 (lit< tt)) (IsUtf8-encode 10 refl)) in
    rw (within, text) refl

feed_no_word : is_xid_continue 10 ≡ false
feed_no_word = is_xid_continue-ascii 10 (lit< tt)

feed_step : (ys : List ℕ) → name_step (10 ∷ ys) ≡ 0
unfolding name_step
feed_step ys = rw (feed_char ys, feed_no_word) refl

step_line : (b : ℕ) (xs ys : List ℕ) → name_step (b ∷ (xs ++ 10 ∷ ys)) ≡ name_step (b ∷ xs)
unfolding name_step
step_line b xs ys = rw (char_line b xs ys) refl

name_after_line : (inside : ℕ) (xs ys : List ℕ) → inside ≤ length xs → name_len_after inside (xs ++ 10 ∷ ys) ≡ name_len_after inside xs
name_after_line zero [] ys h = rw (feed_step ys) refl
name_after_line (suc inside) [] ys h = absurd (omega (arith, h))
name_after_line (suc inside) (x ∷ xs) ys h = rw (name_after_line inside xs ys (omega (arith, h))) refl
name_after_line zero (x ∷ xs) ys h =
    let less : name_step (x ∷ xs) - 1 ≤ length xs = omega (arith, step_within (x ∷ xs)) in
    rw (step_line x xs ys, name_after_line (name_step (x ∷ xs) - 1) xs ys less) refl

name_line : (xs ys : List ℕ) → name_len (xs ++ 10 ∷ ys) ≡ name_len xs
name_line xs ys = name_after_line 0 xs ys (omega arith)

no_word_at_end : continues_word (char_at []) ≡ false
unfolding char_at
no_word_at_end = refl

word_after_line : (xs ys : List ℕ) → continues_word (char_at (xs ++ 10 ∷ ys)) ≡ continues_word (char_at xs)
word_after_line [] ys = ap continues_word (feed_char ys) ∙ feed_no_word ∙ sym no_word_at_end
word_after_line (x ∷ xs) ys = ap continues_word (char_line x xs ys)

plain_number_line : (xs ys : List ℕ) → plain_number (xs ++ 10 ∷ ys) ≡ plain_number xs
unfolding plain_number
plain_number_line xs ys =
    let n = run class.Decimal xs in
    let h = run_within class.Decimal xs in
    rw (run_line class.Decimal refl xs ys, take_line n xs ys h, drop_line n xs ys h, begins_line "." (drop n xs) ys refl, word_after_line (drop n xs) ys) refl

-- all
c_front_line : (before : List ℕ) (b : ℕ) (xs ys : List ℕ) → c_front before b (b ∷ (xs ++ 10 ∷ ys)) ≡ c_front before b (b ∷ xs)
unfolding c_front
c_front_line before b xs ys =
    rw (word_line (b ∷ xs) ys, c_number_line (b ∷ xs) ys, constant_line b xs ys, string_line b xs ys, marker_line b xs ys, run_line class.NoFeed refl (b ∷ xs) ys, c_mark_line (b ∷ xs) ys) refl

other_front_line : (kind : FileKind) (b : ℕ) (xs ys : List ℕ) → other_front kind b (b ∷ (xs ++ 10 ∷ ys)) ≡ other_front kind b (b ∷ xs)
unfolding other_front
other_front_line kind b xs ys =
    rw (plain_number_line (b ∷ xs) ys, char_line b xs ys, name_line (b ∷ xs) ys, other_mark_line kind (b ∷ xs) ys) refl

pub token_line : (kind : FileKind) (before : List ℕ) (b : ℕ) (xs ys : List ℕ) → token_front kind before b (b ∷ (xs ++ 10 ∷ ys)) ≡ token_front kind before b (b ∷ xs)
token_line Source before b xs ys = c_front_line before b xs ys
token_line Spec before b xs ys = other_front_line Spec b xs ys
token_line Script before b xs ys = other_front_line Script b xs ys

-- comments
comment_of_same : (kind : FileKind) (n : ℕ) (a b : List ℕ) → take n a ≡ take n b → comment_of kind n a ≡ comment_of kind n b
comment_of_same Source n a b e = refl
comment_of_same Spec n a b e = rw e refl
comment_of_same Script n a b e = rw e refl

line_comment_line : (kind : FileKind) (xs ys : List ℕ) → line_comment kind (xs ++ 10 ∷ ys) ≡ line_comment kind xs
unfolding line_comment
line_comment_line kind xs ys =
    ap (λ (n : ℕ). comment_of kind n (xs ++ 10 ∷ ys)) (run_line class.NoFeed refl xs ys)
    ∙ comment_of_same kind (run class.NoFeed xs) (xs ++ 10 ∷ ys) xs (take_line (run class.NoFeed xs) xs ys (run_within class.NoFeed xs))

map_some : (o p : Option ℕ) (n : ℕ) → ((m : ℕ) → o ≡ Some m → p ≡ Some m) → option_map (λ n. n + 1) o ≡ Some n → option_map (λ n. n + 1) p ≡ Some n
map_some (Some m) p n f e = rw (f m refl) e
map_some None p n f e = absurd cc

comment_len_more : (bytes more : List ℕ) (n : ℕ) → comment_len bytes ≡ Some n → comment_len (bytes ++ more) ≡ Some n
comment_len_more [] more n = λ e. absurd cc
comment_len_more (b ∷ []) more n = λ e. absurd (no_end b n e)
  where
    no_end : (b n : ℕ) → comment_len (b ∷ []) ≡ Some n → ⊥
    no_end b n = rw (and_no (eqb b 42)) (λ e. absurd cc)
comment_len_more (b ∷ c ∷ bytes) more n = elim (eqb b 42 && eqb c 47) as (λ v. cond v (Some 2) (option_map (λ n. n + 1) (comment_len (c ∷ bytes))) ≡ Some n → cond v (Some 2) (option_map (λ n. n + 1) (comment_len (c ∷ (bytes ++ more)))) ≡ Some n) [
  | true ↦ λ e. e
  | false ↦ map_some (comment_len (c ∷ bytes)) (comment_len (c ∷ (bytes ++ more))) n (comment_len_more (c ∷ bytes) more)
]

or_bad_more : (kind : FileKind) (bytes more : List ℕ) (o p : Option ℕ) (l : Lead) → ((n : ℕ) → o ≡ Some n → (p ≡ Some n) × (n + 2 ≤ length bytes)) → comment_or_bad kind o bytes ≡ l → (l ≡ Bad OpenComment 0 → ⊥) → comment_or_bad kind p (bytes ++ more) ≡ l
or_bad_more kind bytes more (Some n) p l f e closed =
    let h = f n refl in
    rw h.0 (comment_of_same kind (n + 2) (bytes ++ more) bytes (take-append-le (n + 2) bytes more h.1) ∙ e)
or_bad_more kind bytes more None p l f e closed = absurd (closed (sym e))

pub comment_more : (kind : FileKind) (bytes more : List ℕ) (l : Lead) → 2 ≤ length bytes → comment kind bytes ≡ l → (l ≡ Bad OpenComment 0 → ⊥) → comment kind (bytes ++ more) ≡ l
unfolding comment
comment_more kind bytes more l two e closed =
    or_bad_more kind bytes more (comment_len (drop 2 bytes)) (comment_len (drop 2 (bytes ++ more))) l
    (λ n found. (
      ap comment_len (drop-append-le 2 bytes more two) ∙ comment_len_more (drop 2 bytes) more n found,
      omega (arith, IfSome-at (comment_len (drop 2 bytes)) n found (comment_within (drop 2 bytes)), length-drop 2 bytes, two),
    ))
    e closed
  where
    IfSome-at : (o : Option ℕ) (n : ℕ) → o ≡ Some n → IfSome o (λ m. m ≤ length (drop 2 bytes)) → n ≤ length (drop 2 bytes)
    IfSome-at o n found = subst (λ (z : Option ℕ). IfSome z (λ m. m ≤ length (drop 2 bytes)) → n ≤ length (drop 2 bytes)) (sym found) (λ h. h)

-- what stands at the front of a line, unless it is a comment that may go on behind the line
pub front_line : (kind : FileKind) (before : List ℕ) (b : ℕ) (xs ys : List ℕ) → begins "/*" (b ∷ xs) ≡ false → front kind before (b ∷ (xs ++ 10 ∷ ys)) ≡ front kind before (b ∷ xs)
unfolding front
front_line kind before b xs ys e =
    rw (begins_line "//" (b ∷ xs) ys refl, begins_line "/*" (b ∷ xs) ys refl, e, line_comment_line kind (b ∷ xs) ys, token_line kind before b xs ys) refl

-- what stands at the front, by the three tests
pub front_by : (kind : FileKind) (before : List ℕ) (b : ℕ) (bytes : List ℕ) (w s c : Bool) → is_white b ≡ w → begins "//" (b ∷ bytes) ≡ s → begins "/*" (b ∷ bytes) ≡ c → front kind before (b ∷ bytes) ≡ cond w (Skip 1) (cond s (line_comment kind (b ∷ bytes)) (cond c (comment kind (b ∷ bytes)) (token_front kind before b (b ∷ bytes))))
unfolding front
front_by kind before b bytes w s c is_w is_s is_c = rw (is_w, is_s, is_c) refl

feed_stays : (kind : FileKind) (before ys more : List ℕ) (l : Lead) → front kind before (10 ∷ ys) ≡ l → front kind before (10 ∷ (ys ++ more)) ≡ l
unfolding front
feed_stays kind before ys more l e = e

-- where a comment begins
module _ (kind : FileKind) (before : List ℕ) (b : ℕ) (xs ys more : List ℕ) (l : Lead) (e : front kind before (b ∷ (xs ++ 10 ∷ ys)) ≡ l) (closed : l ≡ Bad OpenComment 0 → ⊥) (opens : begins "/*" (b ∷ xs) ≡ true) where
  same_line : (text : String) (zs : List ℕ) (v : Bool) → no_feed (codes text) ≡ true → begins text (b ∷ xs) ≡ v → begins text (b ∷ (xs ++ 10 ∷ zs)) ≡ v
  same_line text zs v f h = begins_line text (b ∷ xs) zs f ∙ h

  comment_stays : (w s : Bool) → is_white b ≡ w → begins "//" (b ∷ xs) ≡ s → front kind before (b ∷ (xs ++ 10 ∷ (ys ++ more))) ≡ l
  comment_stays w s is_w is_s =
      let short = front_by kind before b (xs ++ 10 ∷ ys) w s true is_w (same_line "//" ys s refl is_s) (same_line "/*" ys true refl opens) in
      let long = front_by kind before b (xs ++ 10 ∷ (ys ++ more)) w s true is_w (same_line "//" (ys ++ more) s refl is_s) (same_line "/*" (ys ++ more) true refl opens) in
      long ∙ elim w as (λ w. l ≡ cond w (Skip 1) (cond s (line_comment kind (b ∷ (xs ++ 10 ∷ ys))) (comment kind (b ∷ (xs ++ 10 ∷ ys)))) → cond w (Skip 1) (cond s (line_comment kind (b ∷ (xs ++ 10 ∷ (ys ++ more)))) (comment kind (b ∷ (xs ++ 10 ∷ (ys ++ more))))) ≡ l) [
        | true ↦ sym
        | false ↦ elim s as (λ s. l ≡ cond s (line_comment kind (b ∷ (xs ++ 10 ∷ ys))) (comment kind (b ∷ (xs ++ 10 ∷ ys))) → cond s (line_comment kind (b ∷ (xs ++ 10 ∷ (ys ++ more)))) (comment kind (b ∷ (xs ++ 10 ∷ (ys ++ more)))) ≡ l) [
          | true ↦ λ h. line_comment_line kind (b ∷ xs) (ys ++ more) ∙ sym (line_comment_line kind (b ∷ xs) ys) ∙ sym h
          | false ↦ λ h.
              let two : 2 ≤ length (b ∷ (xs ++ 10 ∷ ys)) = omega (arith, length-append xs (10 ∷ ys)) in
              ap (λ (zs : List ℕ). comment kind (b ∷ zs)) (sym (append_assoc xs (10 ∷ ys) more)) ∙ comment_more kind (b ∷ (xs ++ 10 ∷ ys)) more l two (sym h) closed
        ]
      ] (sym e ∙ short)

-- what stands at the front stays there, whatever follows the line, but for an open comment
pub front_stays : (kind : FileKind) (before xs ys more : List ℕ) (l : Lead) → front kind before (xs ++ 10 ∷ ys) ≡ l → (l ≡ Bad OpenComment 0 → ⊥) → front kind before (xs ++ 10 ∷ (ys ++ more)) ≡ l
front_stays kind before [] ys more l e closed = feed_stays kind before ys more l e
front_stays kind before (b ∷ xs) ys more l e closed =
    elim (begins "/*" (b ∷ xs)) as (λ v. begins "/*" (b ∷ xs) ≡ v → front kind before (b ∷ (xs ++ 10 ∷ (ys ++ more))) ≡ l) [
      | true ↦ λ c. comment_stays kind before b xs ys more l e closed c (is_white b) (begins "//" (b ∷ xs)) refl refl
      | false ↦ λ c. front_line kind before b xs (ys ++ more) c ∙ sym (front_line kind before b xs ys c) ∙ e
    ] refl
