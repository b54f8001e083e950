-- What is skipped is a gap.
use Rattle.std.proofs.Common.{◌≡◌, ℕ, ◌+◌, ◌-◌, ◌^◌, ◌∙◌, ◌<◌, ◌≤◌, ◌&&◌, ◌||◌, Bool, true, false, not, cond, eqb, nat_le, nat_eq, List, [], ◌∷◌, ◌++◌, length, take, drop, get_or, suc, zero, Option, Some, None, option_map, IfSome, refl, ap, sym, subst, arith, inl, inr}
use Rattle.std.specs.Char.{is_ascii_digit}
use Rattle.std.specs.Int.{is_in_range}
use Rattle.std.specs.Str.{is_utf8}
use Rattle.std.specs.Str.Lossy.{utf8_valid_len}
use Rattle.std.proofs.lemmas.Bool.{cases_lt, and_parts}
use Rattle.std.proofs.lemmas.List.{length-take, append-nil, take_all}
use lib.Pointwise.{pointwise}
use Rattle.floyd_lex.specs.declared.classes.Class.TheVariants as class
use Rattle.floyd_lex.specs.declared.kinds.FileKind.{FileKind}
use Rattle.floyd_lex.specs.declared.kinds.FileKind.TheVariants.{Source, Spec, Script}
use Rattle.floyd_lex.specs.declared.kinds.LiteralType.{LiteralType}
use Rattle.floyd_lex.specs.declared.kinds.LiteralType.TheVariants.{Int, UnsignedInt, Long, UnsignedLong, Untyped}
use Rattle.floyd_lex.specs.declared.kinds.Keyword.{Keyword}
use Rattle.floyd_lex.specs.declared.kinds.Punctuator.{Punctuator}
use Rattle.floyd_lex.specs.declared.kinds.TokenKind.{TokenKind}
use Rattle.floyd_lex.specs.declared.kinds.TokenKind.TheVariants as k
use Rattle.floyd_lex.specs.declared.lead.Flaw.{Flaw}
use Rattle.floyd_lex.specs.declared.lead.Flaw.TheVariants.{BadByte, BadNumber, OpenComment}
use Rattle.floyd_lex.specs.declared.lead.Lead.{Lead}
use Rattle.floyd_lex.specs.declared.lead.Lead.TheVariants.{End, Skip, Piece, Bad}
use Rattle.floyd_lex.specs.Classes.{run, begins, is_white, is_letter}
use Rattle.floyd_lex.specs.Front.{front, token_front, c_front, other_front, word, kind_of_word, comment, comment_of, comment_len, comment_or_bad, line_comment, line_is_blank, is_marker}
use Rattle.floyd_lex.specs.Laws.{Suits, HasTypeOf, IsGap, IsOnOneLine, EndsComment, nothing, white, comment as gap_comment, line_comment as gap_line, marker}
use Rattle.floyd_lex.specs.Marks.{mark_in, mark_or, c_mark, c_three, c_two, c_one, no_token, other_mark, shared_two, shared_one, own_two, own_one}
use Rattle.floyd_lex.specs.Numbers.{c_number, literal_of, literal_or_bad, number_in, greatest}
use Rattle.floyd_lex.specs.Quotes.{constant, constant_of, constant_or_bad, escape_of, is_plain, goes_on, string, string_len, string_or_bad}
use Rattle.floyd_lex.specs.Unicode.{char_at, starts_name, continues_word, name_len, plain_number}
use Rattle.floyd_lex.proofs.MoveLemmas.{run_within}
use Rattle.floyd_lex.specs.Keywords.{keyword_of}
use Rattle.floyd_lex.proofs.NumberLemmas.{is_typed, literal_holds}
use Rattle.floyd_lex.proofs.LocalLemmas.{marker_line}

-- runs
pub run_take : (xs : List ℕ) (n : ℕ) → n ≤ run class.NoFeed xs → run class.NoFeed (take n xs) ≡ n
run_take xs zero = λ h. refl
run_take [] (suc n) = λ h. absurd (omega (arith, h))
run_take (x ∷ xs) (suc n) = elim (not (eqb x 10)) as (λ v. suc n ≤ cond v (1 + run class.NoFeed xs) 0 → cond v (1 + run class.NoFeed (take n xs)) 0 ≡ suc n) [
  | true ↦ λ h. omega (arith, run_take xs n (omega (arith, h)))
  | false ↦ λ h. absurd (omega (arith, h))
]

pub one_line : (xs : List ℕ) (n : ℕ) → n ≤ run class.NoFeed xs → IsOnOneLine (take n xs)
one_line xs n h = run_take xs n h ∙ (let e : n ≡ length (take n xs) = omega (arith, length-take n xs, h, run_within class.NoFeed xs) in e)

-- a line and its feed
pub line_split : (xs : List ℕ) → run class.NoFeed xs < length xs → xs ≡ take (run class.NoFeed xs) xs ++ 10 ∷ drop (run class.NoFeed xs + 1) xs
line_split [] = λ h. absurd (omega (arith, h))
line_split (x ∷ xs) = elim (eqb x 10) as (λ v. eqb x 10 ≡ v → cond (not v) (1 + run class.NoFeed xs) 0 < suc (length xs) → x ∷ xs ≡ take (cond (not v) (1 + run class.NoFeed xs) 0) (x ∷ xs) ++ 10 ∷ drop (cond (not v) (1 + run class.NoFeed xs) 0 + 1) (x ∷ xs)) [
  | true ↦ λ e h. let feed : x ≡ 10 = grind (arith, e) in rw feed refl
  | false ↦ λ e h.
      let one : 1 + run class.NoFeed xs ≡ suc (run class.NoFeed xs) = omega arith in
      let two : suc (run class.NoFeed xs) + 1 ≡ suc (run class.NoFeed xs + 1) = omega arith in
      rw (one, two) (ap (λ (zs : List ℕ). x ∷ zs) (line_split xs (omega (arith, h))))
] refl

-- a comment begins here that does not end
abbrev pub OpenHere : List ℕ → Type 0
OpenHere bytes = (rest : List ℕ) × (bytes ≡ 47 ∷ 42 ∷ rest) × (comment_len rest ≡ None)

-- What is skipped is a gap, a token suits its file, the end is no byte's, and a comment that does not end begins here.
pub data Found (kind : FileKind) (bytes : List ℕ) : Lead → Type 0 where
  skipped : {n : ℕ} → IsGap kind (take n bytes) → Found kind bytes (Skip n)
  taken : {n : ℕ} {t : TokenKind} → Suits t kind → Found kind bytes (Piece t n)
  bad : {n : ℕ} {flaw : Flaw} → (flaw ≡ OpenComment → (n ≡ 0) × OpenHere bytes) → Found kind bytes (Bad flaw n)

either_found : (kind : FileKind) (bytes : List ℕ) (b : Bool) (x y : Lead) → (b ≡ true → Found kind bytes x) → (b ≡ false → Found kind bytes y) → Found kind bytes (cond b x y)
either_found kind bytes true x y f g = f refl
either_found kind bytes false x y f g = g refl

typed_of : (t : LiteralType) → is_typed t ≡ true → HasTypeOf Source t
typed_of Int e = tt
typed_of UnsignedInt e = tt
typed_of Long e = tt
typed_of UnsignedLong e = tt
typed_of Untyped e = absurd (no_type e)
  where
    no_type : false ≡ true → ⊥
    no_type e = cc

untyped_of : (kind : FileKind) → (kind ≡ Source → ⊥) → HasTypeOf kind Untyped
untyped_of Source other = absurd (other refl)
untyped_of Spec other = tt
untyped_of Script other = tt

small_value : (b : Bool) (value : ℕ) → (b || nat_le (2 ^ 126) value) ≡ false → value ≤ 2 ^ 126 - 1
small_value true value e = absurd (no_both e)
  where
    no_both : true ≡ false → ⊥
    no_both e = cc
small_value false value e = grind (arith, e)

-- the characters that letters mean are small
either_small : (b : Bool) (x y : Option ℕ) → IfSome x (λ c. c ≤ 92) → IfSome y (λ c. c ≤ 92) → IfSome (cond b x y) (λ c. c ≤ 92)
either_small true x y f g = f
either_small false x y f g = g

escaped_small : (b : ℕ) → IfSome (escape_of b) (λ c. c ≤ 92)
escaped_small b =
    either_small (eqb b 110) (Some 10) _ (omega arith) (either_small (eqb b 116) (Some 9) _ (omega arith) (either_small (eqb b 114) (Some 13) _ (omega arith)
    (either_small (eqb b 48) (Some 0) _ (omega arith) (either_small (eqb b 92) (Some 92) _ (omega arith) (either_small (eqb b 39) (Some 39) _ (omega arith)
    (either_small (eqb b 34) (Some 34) None (omega arith) tt))))))

abbrev IsSmall : Option (ℕ × ℕ) → Type 0
IsSmall o = IfSome o (λ c. c.0 ≤ 2 ^ 31 - 1)

mapped_small : (o : Option ℕ) → IfSome o (λ c. c ≤ 92) → IsSmall (option_map (λ c. (c, 4)) o)
mapped_small (Some c) h = omega (arith, h)
mapped_small None h = tt

constant_small : (bytes : List ℕ) → IsSmall (constant_of bytes)
constant_small bytes =
    elim (is_plain (get_or bytes 1 0) && eqb (get_or bytes 2 0) 39) as (λ v. (is_plain (get_or bytes 1 0) && eqb (get_or bytes 2 0) 39) ≡ v → IsSmall (cond v (Some (get_or bytes 1 0, 3)) (cond (eqb (get_or bytes 1 0) 92 && eqb (get_or bytes 3 0) 39) (option_map (λ c. (c, 4)) (escape_of (get_or bytes 2 0))) None))) [
      | true ↦ λ e. plain_small (get_or bytes 1 0) (and_parts (is_plain (get_or bytes 1 0)) (eqb (get_or bytes 2 0) 39) e).0
      | false ↦ λ _. elim (eqb (get_or bytes 1 0) 92 && eqb (get_or bytes 3 0) 39) as (λ v. IsSmall (cond v (option_map (λ c. (c, 4)) (escape_of (get_or bytes 2 0))) None)) [
        | true ↦ mapped_small (escape_of (get_or bytes 2 0)) (escaped_small (get_or bytes 2 0))
        | false ↦ tt
      ]
    ] refl
  where
    plain_small : (b : ℕ) → is_plain b ≡ true → b ≤ 2 ^ 31 - 1
    plain_small b e =
        let range = (and_parts (is_in_range 32 126 b) _ (and_parts (is_in_range 32 126 b && not (eqb b 39)) _ e).0).0 in
        grind (arith, (and_parts (nat_le 32 b) (nat_le b 126) range).1)

module _ (kind : FileKind) (bytes : List ℕ) where
  mark_found : (n : ℕ) (o : Option Punctuator) (other : Lead) → Found kind bytes other → Found kind bytes (mark_or n o other)
  mark_found n (Some m) other f = taken tt
  mark_found n None other f = f

  no_token_found : Found kind bytes no_token
  no_token_found = bad (λ e. absurd cc)

  c_mark_found : (xs : List ℕ) → Found kind bytes (c_mark xs)
  unfolding c_mark
  c_mark_found xs = mark_found 3 (mark_in c_three xs) _ (mark_found 2 (mark_in c_two xs) _ (mark_found 1 (mark_in c_one xs) _ no_token_found))

  other_mark_found : (of : FileKind) (xs : List ℕ) → Found kind bytes (other_mark of xs)
  unfolding other_mark
  other_mark_found of xs =
      mark_found 2 (mark_in shared_two xs) _ (mark_found 2 (mark_in (own_two of) xs) _ (mark_found 1 (mark_in shared_one xs) _ (mark_found 1 (mark_in (own_one of) xs) _ no_token_found)))

  literal_found : kind ≡ Source → (o : Option (LiteralType × ℕ)) (n : ℕ) → IfSome o (λ l. (l.1 ≤ greatest l.0) × (is_typed l.0 ≡ true)) → Found kind bytes (literal_or_bad o n)
  literal_found of (Some l) n h = taken (subst (λ (z : FileKind). HasTypeOf z l.0) (sym of) (typed_of l.0 h.1), h.0)
  literal_found of None n h = bad (λ e. absurd cc)

  c_number_found : kind ≡ Source → (xs : List ℕ) → Found kind bytes (c_number xs)
  unfolding c_number
  c_number_found of xs =
      let n = run class.Word xs in
      either_found kind bytes (begins "." (drop n xs)) (Bad BadNumber 0) (literal_or_bad (literal_of (take n xs)) n) (λ _. bad (λ e. absurd cc)) (λ _. literal_found of (literal_of (take n xs)) n (literal_holds (take n xs)))

  plain_number_found : (kind ≡ Source → ⊥) → (xs : List ℕ) → Found kind bytes (plain_number xs)
  unfolding plain_number
  plain_number_found other xs =
      let n = run class.Decimal xs in
      let value = number_in 10 (take n xs) in
      either_found kind bytes (begins "." (drop n xs) || continues_word (char_at (drop n xs)) || nat_le (2 ^ 126) value) (Bad BadNumber 0) (Piece (k.Literal Untyped value) n) (λ _. bad (λ e. absurd cc)) (λ e. taken (untyped_of kind other, small_value (begins "." (drop n xs) || continues_word (char_at (drop n xs))) value e))

  constant_or_bad_found : kind ≡ Source → (o : Option (ℕ × ℕ)) (xs : List ℕ) → IsSmall o → Found kind bytes (constant_or_bad o xs)
  constant_or_bad_found of (Some c) xs h = either_found kind bytes (goes_on (drop c.1 xs)) (Bad BadNumber 0) _ (λ _. bad (λ e. absurd cc)) (λ _. taken (subst (λ (z : FileKind). HasTypeOf z Int) (sym of) tt, h))
  constant_or_bad_found of None xs h = bad (λ e. absurd cc)

  constant_found : kind ≡ Source → (xs : List ℕ) → Found kind bytes (constant xs)
  unfolding constant
  constant_found of xs = constant_or_bad_found of (constant_of xs) xs (constant_small xs)

  string_or_bad_found : kind ≡ Source → (o : Option ℕ) → Found kind bytes (string_or_bad o)
  string_or_bad_found of (Some n) = taken of
  string_or_bad_found of None = bad (λ e. absurd cc)

  string_found : kind ≡ Source → (xs : List ℕ) → Found kind bytes (string xs)
  unfolding string
  string_found of xs = string_or_bad_found of (string_len 34 (drop 1 xs))

  word_found : kind ≡ Source → (o : Option Keyword) (n : ℕ) → Found kind bytes (Piece (kind_of_word o) n)
  word_found of (Some w) n = taken of
  word_found of None n = taken tt

  other_front_found : (kind ≡ Source → ⊥) → (of : FileKind) (b : ℕ) (xs : List ℕ) → Found kind bytes (other_front of b xs)
  unfolding other_front
  other_front_found other of b xs =
      either_found kind bytes (is_ascii_digit b) (plain_number xs) _ (λ _. plain_number_found other xs)
      (λ _. either_found kind bytes (starts_name (char_at xs)) (Piece k.Name (name_len xs)) (other_mark of xs) (λ _. taken tt)
      (λ _. other_mark_found of xs))

  -- a comment of n bytes
  comment_of_found : (n : ℕ) → IsGap kind (take n bytes) → Found kind bytes (comment_of kind n bytes)
  comment_of_found n gap = by_kind kind refl
    where
      by_kind : (of : FileKind) → kind ≡ of → Found kind bytes (comment_of of n bytes)
      by_kind Source e = skipped gap
      by_kind Spec e = either_found kind bytes (is_utf8 (take n bytes)) (Skip n) (Bad BadByte (utf8_valid_len (take n bytes))) (λ _. skipped gap) (λ _. bad (λ e. absurd cc))
      by_kind Script e = either_found kind bytes (is_utf8 (take n bytes)) (Skip n) (Bad BadByte (utf8_valid_len (take n bytes))) (λ _. skipped gap) (λ _. bad (λ e. absurd cc))

-- two bytes at the front
two_bytes : (c d : ℕ) (bytes : List ℕ) → pointwise nat_eq (c ∷ d ∷ []) (take 2 bytes) ≡ true → (rest : List ℕ) × (bytes ≡ c ∷ d ∷ rest)
two_bytes c d [] e = absurd cc
two_bytes c d (x ∷ []) e = absurd (no_second (and_parts (nat_eq c x) false e).1)
  where
    no_second : false ≡ true → ⊥
    no_second e = cc
two_bytes c d (x ∷ y ∷ rest) e =
    let parts = and_parts (nat_eq c x) (nat_eq d y && true) e in
    let first : x ≡ c = grind (arith, parts.0) in
    let second : y ≡ d = grind (arith, (and_parts (nat_eq d y) true parts.1).0) in
    (rest, rw (first, second) refl)

-- a comment that ends
ends_more : (b : ℕ) (text : List ℕ) → EndsComment text → (b ≡ 42 → get_or text 0 0 ≡ 47 → ⊥) → EndsComment (b ∷ text)
ends_more b text ends other = record {
  at_end = (b ∷ ends.at_end.0, ap (λ (zs : List ℕ). b ∷ zs) ends.at_end.1);
  first = later;
}
  where
    later : (n : ℕ) → n + 2 < length (b ∷ text) → get_or (b ∷ text) n 0 ≡ 42 → get_or (b ∷ text) (n + 1) 0 ≡ 47 → ⊥
    later zero h c d = other c d
    later (suc j) h c d =
        let next : suc j + 1 ≡ suc (j + 1) = omega arith in
        ends.first j (omega (arith, h)) c (subst (λ (m : ℕ). get_or (b ∷ text) m 0 ≡ 47) next d)

and_no : (b : Bool) → (b && false) ≡ false
and_no true = refl
and_no false = refl

no_end : (b n : ℕ) → comment_len (b ∷ []) ≡ Some n → ⊥
no_end b n = rw (and_no (eqb b 42)) (λ e. absurd cc)

-- the second byte of a text that is no `*/`
not_closed : (b c m : ℕ) (bytes : List ℕ) → (eqb b 42 && eqb c 47) ≡ false → b ≡ 42 → get_or (take m (c ∷ bytes)) 0 0 ≡ 47 → ⊥
not_closed b c zero bytes e is_b is_c = absurd cc
not_closed b c (suc m) bytes e is_b is_c =
    let closed : (eqb b 42 && eqb c 47) ≡ true = rw (is_b, is_c) refl in
    let both : true ≡ false = sym closed ∙ e in
    cc

comment_ends : (bytes : List ℕ) (n : ℕ) → comment_len bytes ≡ Some n → EndsComment (take n bytes)
comment_ends [] n = λ e. absurd cc
comment_ends (b ∷ []) n = λ e. absurd (no_end b n e)
comment_ends (b ∷ c ∷ bytes) n =
    elim (eqb b 42 && eqb c 47) as (λ v. (eqb b 42 && eqb c 47) ≡ v → cond v (Some 2) (option_map (λ n. n + 1) (comment_len (c ∷ bytes))) ≡ Some n → EndsComment (take n (b ∷ c ∷ bytes))) [
      | true ↦ λ t e.
          let two : 2 ≡ n = cc in
          let is_b : b ≡ 42 = grind (arith, (and_parts (eqb b 42) (eqb c 47) t).0) in
          let is_c : c ≡ 47 = grind (arith, (and_parts (eqb b 42) (eqb c 47) t).1) in
          subst (λ (m : ℕ). EndsComment (take m (b ∷ c ∷ bytes))) two (closing b c is_b is_c)
      | false ↦ λ t e. further (comment_len (c ∷ bytes)) t (comment_ends (c ∷ bytes)) e
    ] refl
  where
    closing : (b c : ℕ) → b ≡ 42 → c ≡ 47 → EndsComment (b ∷ c ∷ [])
    closing b c is_b is_c = record { at_end = ([], rw (is_b, is_c) refl); first = λ j h. absurd (omega (arith, h)) }

    further : (o : Option ℕ) → (eqb b 42 && eqb c 47) ≡ false → ((m : ℕ) → o ≡ Some m → EndsComment (take m (c ∷ bytes))) → option_map (λ n. n + 1) o ≡ Some n → EndsComment (take n (b ∷ c ∷ bytes))
    further (Some m) t ends e =
        let more : m + 1 ≡ n = cc in
        let is_n : suc m ≡ n = omega (arith, more) in
        subst (λ (j : ℕ). EndsComment (take j (b ∷ c ∷ bytes))) is_n (ends_more b (take m (c ∷ bytes)) (ends m refl) (not_closed b c m bytes t))
    further None t ends e = absurd cc

-- gaps of one part
one_part : (kind : FileKind) (text : List ℕ) → IsGap kind (text ++ []) → IsGap kind text
one_part kind text = subst (IsGap kind) (append-nil text)

line_gap : (kind : FileKind) (bytes : List ℕ) → begins "//" bytes ≡ true → IsGap kind (take (run class.NoFeed bytes) bytes)
line_gap kind bytes e =
    let two = two_bytes 47 47 bytes e in
    let rest = two.0 in
    let len : 1 + (1 + run class.NoFeed rest) ≡ suc (suc (run class.NoFeed rest)) = omega arith in
    subst (λ (zs : List ℕ). IsGap kind (take (run class.NoFeed zs) zs)) (sym two.1)
    (rw len (one_part kind (47 ∷ 47 ∷ take (run class.NoFeed rest) rest) (gap_line (take (run class.NoFeed rest) rest) [] (one_line rest (run class.NoFeed rest) (omega arith)) nothing)))

comment_gap : (kind : FileKind) (rest : List ℕ) (n : ℕ) → comment_len rest ≡ Some n → IsGap kind (take (n + 2) (47 ∷ 42 ∷ rest))
comment_gap kind rest n e =
    let len : n + 2 ≡ suc (suc n) = omega arith in
    rw len (one_part kind (47 ∷ 42 ∷ take n rest) (gap_comment (take n rest) [] (comment_ends rest n e) nothing))

comment_found : (kind : FileKind) (bytes : List ℕ) → begins "/*" bytes ≡ true → Found kind bytes (comment kind bytes)
unfolding comment
comment_found kind bytes e =
    let two = two_bytes 47 42 bytes e in
    subst (λ (zs : List ℕ). Found kind zs (comment_or_bad kind (comment_len (drop 2 zs)) zs)) (sym two.1) (by_end two.0 (comment_len two.0) refl)
  where
    by_end : (rest : List ℕ) (o : Option ℕ) → comment_len rest ≡ o → Found kind (47 ∷ 42 ∷ rest) (comment_or_bad kind o (47 ∷ 42 ∷ rest))
    by_end rest (Some n) e = comment_of_found kind (47 ∷ 42 ∷ rest) (n + 2) (comment_gap kind rest n e)
    by_end rest None e = bad (λ _. (refl, (rest, refl, e)))

-- a marker, to the end of its line
marker_of_line : (xs ys : List ℕ) → is_marker (xs ++ 10 ∷ ys) ≡ is_marker xs
marker_of_line [] ys = refl
marker_of_line (x ∷ xs) ys = marker_line x xs ys

marker_stays : (bytes : List ℕ) → is_marker bytes ≡ true → is_marker (take (run class.NoFeed bytes) bytes) ≡ true
marker_stays bytes e = elim (cases_lt (run class.NoFeed bytes) (length bytes)) [
  | inl h ↦ sym (marker_of_line (take (run class.NoFeed bytes) bytes) (drop (run class.NoFeed bytes + 1) bytes)) ∙ ap is_marker (sym (line_split bytes h)) ∙ e
  | inr h ↦ ap is_marker (take_all (run class.NoFeed bytes) bytes h) ∙ e
]

c_front_found : (before : List ℕ) (b : ℕ) (bytes : List ℕ) → Found Source (b ∷ bytes) (c_front before b (b ∷ bytes))
unfolding c_front word
c_front_found before b bytes =
    let xs = b ∷ bytes in
    either_found Source xs (is_letter b) (Piece (kind_of_word (keyword_of (take (run class.Word xs) xs))) (run class.Word xs)) _ (λ _. word_found Source xs refl (keyword_of (take (run class.Word xs) xs)) (run class.Word xs))
    (λ _. either_found Source xs (is_ascii_digit b) (c_number xs) _ (λ _. c_number_found Source xs refl xs)
    (λ _. either_found Source xs (eqb b 39) (constant xs) _ (λ _. constant_found Source xs refl xs)
    (λ _. either_found Source xs (eqb b 34) (string xs) _ (λ _. string_found Source xs refl xs)
    (λ _. either_found Source xs (is_marker xs && line_is_blank before) (Skip (run class.NoFeed xs)) (c_mark xs)
    (λ e. skipped (one_part Source _ (marker (take (run class.NoFeed xs) xs) [] refl (one_line xs (run class.NoFeed xs) (omega arith)) (marker_stays xs (and_parts (is_marker xs) (line_is_blank before) e).0) nothing)))
    (λ _. c_mark_found Source xs xs)))))

token_found : (kind : FileKind) (before : List ℕ) (b : ℕ) (bytes : List ℕ) → Found kind (b ∷ bytes) (token_front kind before b (b ∷ bytes))
token_found Source before b bytes = c_front_found before b bytes
token_found Spec before b bytes = other_front_found Spec (b ∷ bytes) (λ e. cc) Spec b (b ∷ bytes)
token_found Script before b bytes = other_front_found Script (b ∷ bytes) (λ e. cc) Script b (b ∷ bytes)

pub found : (kind : FileKind) (before : List ℕ) (b : ℕ) (bytes : List ℕ) → Found kind (b ∷ bytes) (front kind before (b ∷ bytes))
unfolding front line_comment
found kind before b bytes =
    let xs = b ∷ bytes in
    either_found kind xs (is_white b) (Skip 1) _ (λ e. skipped (white e nothing))
    (λ _. either_found kind xs (begins "//" xs) (line_comment kind xs) _ (λ e. comment_of_found kind xs (run class.NoFeed xs) (line_gap kind xs e))
    (λ _. either_found kind xs (begins "/*" xs) (comment kind xs) _ (λ e. comment_found kind xs e)
    (λ _. token_found kind before b bytes)))

-- what is no end, by what was found
pub found_end : (kind : FileKind) (bytes : List ℕ) (l : Lead) → Found kind bytes l → l ≡ End → ⊥
found_end kind bytes End f e = elim f [ ]
found_end kind bytes (Skip n) (skipped gap) e = cc
found_end kind bytes (Piece t n) (taken h) e = cc
found_end kind bytes (Bad flaw n) (bad f) e = cc

-- by the bytes that are left
module _ (kind : FileKind) (before : List ℕ) where
  pub rest_end : (rest : List ℕ) → front kind before rest ≡ End → rest ≡ []
  rest_end [] e = refl
  rest_end (b ∷ rest) e = absurd (found_end kind (b ∷ rest) (front kind before (b ∷ rest)) (found kind before b rest) e)

  pub none_left : front kind before [] ≡ End
  unfolding front
  none_left = refl

  skip_by : (bytes : List ℕ) (l : Lead) (n : ℕ) → Found kind bytes l → l ≡ Skip n → IsGap kind (take n bytes)
  skip_by bytes End n f e = elim f [ ]
  skip_by bytes (Skip m) n (skipped gap) e = let same : m ≡ n = cc in subst (λ (j : ℕ). IsGap kind (take j bytes)) same gap
  skip_by bytes (Piece t m) n (taken h) e = absurd cc
  skip_by bytes (Bad flaw m) n (bad f) e = absurd cc

  pub skip_gap : (rest : List ℕ) (n : ℕ) → front kind before rest ≡ Skip n → IsGap kind (take n rest)
  skip_gap [] n e = let no : End ≡ Skip n = sym none_left ∙ e in absurd cc
  skip_gap (b ∷ rest) n e = skip_by (b ∷ rest) (front kind before (b ∷ rest)) n (found kind before b rest) e

  open_by : (bytes : List ℕ) (l : Lead) (n : ℕ) → Found kind bytes l → l ≡ Bad OpenComment n → (n ≡ 0) × OpenHere bytes
  open_by bytes End n f e = elim f [ ]
  open_by bytes (Skip m) n (skipped gap) e = absurd cc
  open_by bytes (Piece t m) n (taken h) e = absurd cc
  open_by bytes (Bad flaw m) n (bad f) e = let of : flaw ≡ OpenComment = cc in let same : m ≡ n = cc in (sym same ∙ (f of).0, (f of).1)

  opened : (rest : List ℕ) (n : ℕ) → front kind before rest ≡ Bad OpenComment n → (n ≡ 0) × OpenHere rest
  opened [] n e = let no : End ≡ Bad OpenComment n = sym none_left ∙ e in absurd cc
  opened (b ∷ rest) n e = open_by (b ∷ rest) (front kind before (b ∷ rest)) n (found kind before b rest) e

  pub open_here : (rest : List ℕ) (n : ℕ) → front kind before rest ≡ Bad OpenComment n → n ≡ 0
  open_here rest n e = (opened rest n e).0

  pub open_rest : (rest : List ℕ) (n : ℕ) → front kind before rest ≡ Bad OpenComment n → OpenHere rest
  open_rest rest n e = (opened rest n e).1

  pub open_front : (rest : List ℕ) → comment_len rest ≡ None → front kind before (47 ∷ 42 ∷ rest) ≡ Bad OpenComment 0
  unfolding front comment
  open_front rest e = ap (λ (o : Option ℕ). comment_or_bad kind o (47 ∷ 42 ∷ rest)) e

  suits_by : (bytes : List ℕ) (l : Lead) (t : TokenKind) (n : ℕ) → Found kind bytes l → l ≡ Piece t n → Suits t kind
  suits_by bytes End t n f e = elim f [ ]
  suits_by bytes (Skip m) t n (skipped gap) e = absurd cc
  suits_by bytes (Piece u m) t n (taken h) e = let same : u ≡ t = cc in subst (λ (z : TokenKind). Suits z kind) same h
  suits_by bytes (Bad flaw m) t n (bad f) e = absurd cc

  pub piece_suits : (rest : List ℕ) (t : TokenKind) (n : ℕ) → front kind before rest ≡ Piece t n → Suits t kind
  piece_suits [] t n e = let no : End ≡ Piece t n = sym none_left ∙ e in absurd cc
  piece_suits (b ∷ rest) t n e = suits_by (b ∷ rest) (front kind before (b ∷ rest)) t n (found kind before b rest) e
