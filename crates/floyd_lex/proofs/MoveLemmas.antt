-- What stands at the front lies within the bytes, and takes one of them at least.
use Rattle.std.proofs.Common.{◌≡◌, ℕ, ◌+◌, ◌-◌, ◌^◌, ◌<◌, ◌≤◌, ◌&&◌, ◌||◌, Bool, true, false, not, cond, eqb, nat_le, nat_lt, nat_eq, List, [], ◌∷◌, length, take, drop, get_or, suc, zero, Option, Some, None, option_map, IfSome, refl, subst, arith, inl, inr, codes, lit<}
use Rattle.std.specs.Char.{is_ascii_digit}
use Rattle.std.specs.Str.{continuation_len, is_utf8, chars}
use Rattle.std.proofs.lemmas.Bool.{cases_lt, and_parts}
use Rattle.std.proofs.lemmas.List.{length-take, length-drop, get_or_past}
use Rattle.std.proofs.lemmas.List.Sums.{prefix_len-le-length}
use Rattle.std.proofs.lemmas.Str.{utf8_valid_len_le}
use Rattle.unicode_ident.proofs.IdentLemmas.{is_xid_start-is_xid_continue, is_xid_continue-ascii}
use Rattle.unicode_ident.specs.Ident.{is_xid_start, is_xid_continue}
use lib.Pointwise.{pointwise, pointwise_long}
use Prim.Native.String.{String}
use Rattle.floyd_lex.specs.declared.classes.Class.{Class}
use Rattle.floyd_lex.specs.declared.classes.Class.TheVariants as class
use Rattle.floyd_lex.specs.declared.kinds.FileKind.{FileKind}
use Rattle.floyd_lex.specs.declared.kinds.FileKind.TheVariants.{Source, Spec, Script}
use Rattle.floyd_lex.specs.declared.kinds.LiteralType.{LiteralType}
use Rattle.floyd_lex.specs.declared.kinds.LiteralType.TheVariants.{Untyped}
use Rattle.floyd_lex.specs.declared.kinds.Punctuator.{Punctuator}
use Rattle.floyd_lex.specs.declared.kinds.TokenKind.{TokenKind}
use Rattle.floyd_lex.specs.declared.kinds.TokenKind.TheVariants as k
use Rattle.floyd_lex.specs.declared.lead.Flaw.{Flaw}
use Rattle.floyd_lex.specs.declared.lead.Flaw.TheVariants.{BadNumber}
use Rattle.floyd_lex.specs.declared.lead.Lead.{Lead}
use Rattle.floyd_lex.specs.declared.lead.Lead.TheVariants.{End, Skip, Piece, Bad}
use Rattle.floyd_lex.specs.Classes.{in_class, run, begins, is_letter}
use Rattle.floyd_lex.specs.Front.{front, token_front, c_front, other_front, word, comment, comment_of, comment_len, comment_or_bad, line_comment, line_is_blank, is_marker}
use Rattle.floyd_lex.specs.Marks.{Mark, mark_in, mark_or, c_mark, c_three, c_two, c_one, other_mark, shared_two, shared_one, own_two, own_one}
use Rattle.floyd_lex.specs.Numbers.{c_number, literal_of, literal_or_bad, number_in}
use Rattle.floyd_lex.specs.Quotes.{constant, constant_of, constant_or_bad, escape_of, is_plain, string, string_len, string_or_bad}
use Rattle.floyd_lex.specs.Unicode.{char_at, char_of, starts_name, continues_name, continues_word, width, name_step, name_len, name_len_after, plain_number}
use Rattle.floyd_lex.proofs.NameLemmas.{name_len_step}

pub data Moves (len : ℕ) : Lead → Type 0 where
  at_end : Moves len End
  skipped : {n : ℕ} → 0 < n → n ≤ len → Moves len (Skip n)
  taken : {n : ℕ} {t : TokenKind} → 0 < n → n ≤ len → Moves len (Piece t n)
  bad : {n : ℕ} {flaw : Flaw} → n ≤ len → Moves len (Bad flaw n)

-- the same by cases on the lead
abbrev pub Steps : ℕ → Lead → Type 0
Steps len End = Unit {0}
Steps len (Skip n) = (0 < n) × (n ≤ len)
Steps len (Piece t n) = (0 < n) × (n ≤ len)
Steps len (Bad flaw n) = n ≤ len

pub steps_by : {len : ℕ} {l : Lead} → Moves len l → Steps len l
steps_by at_end = tt
steps_by (skipped some h) = (some, h)
steps_by (taken some h) = (some, h)
steps_by (bad h) = h

-- by a test
pub either_moves : (len : ℕ) (b : Bool) (x y : Lead) → (b ≡ true → Moves len x) → (b ≡ false → Moves len y) → Moves len (cond b x y)
either_moves len true x y f g = f refl
either_moves len false x y f g = g refl

-- runs
pub run_some : (kl : Class) (b : ℕ) (bytes : List ℕ) → in_class kl b ≡ true → 0 < run kl (b ∷ bytes)
run_some kl b bytes e = rw e (omega arith)

pub run_within : (kl : Class) (bytes : List ℕ) → run kl bytes ≤ length bytes
run_within kl bytes = prefix_len-le-length (in_class kl) bytes

-- marks
pub begins_len : (text : String) (bytes : List ℕ) → begins text bytes ≡ true → length (codes text) ≤ length bytes
begins_len text bytes e = omega (arith, pointwise_long _ (codes text) (take (length (codes text)) bytes) e, length-take (length (codes text)) bytes)

-- each mark of the table has n bytes
abbrev pub all_long : ℕ → List Mark → Bool
all_long n [] = true
all_long n (m ∷ marks) = eqb (length (codes m.0)) n && all_long n marks

mark_long : (n : ℕ) (marks : List Mark) (bytes : List ℕ) → all_long n marks ≡ true → IfSome (mark_in marks bytes) (λ _. n ≤ length bytes)
mark_long n [] bytes all = tt
mark_long n (m ∷ marks) bytes all =
    let parts = and_parts (eqb (length (codes m.0)) n) (all_long n marks) all in
    elim (begins m.0 bytes) as (λ v. begins m.0 bytes ≡ v → IfSome (cond v (Some m.1) (mark_in marks bytes)) (λ _. n ≤ length bytes)) [
      | true ↦ λ e. grind (arith, begins_len m.0 bytes e, parts.0)
      | false ↦ λ e. mark_long n marks bytes parts.1
    ] refl

mark_moves : (len n : ℕ) (o : Option Punctuator) (other : Lead) → 0 < n → IfSome o (λ _. n ≤ len) → Moves len other → Moves len (mark_or n o other)
mark_moves len n (Some m) other some h rest = taken some h
mark_moves len n None other some h rest = rest

pub c_mark_moves : (bytes : List ℕ) → Moves (length bytes) (c_mark bytes)
unfolding c_mark
c_mark_moves bytes =
    mark_moves _ 3 _ _ (lit< tt) (mark_long 3 c_three bytes refl)
    (mark_moves _ 2 _ _ (lit< tt) (mark_long 2 c_two bytes refl)
    (mark_moves _ 1 _ _ (lit< tt) (mark_long 1 c_one bytes refl) (bad (omega arith))))

own_two_long : (kind : FileKind) → all_long 2 (own_two kind) ≡ true
own_two_long Source = refl
own_two_long Spec = refl
own_two_long Script = refl

own_one_long : (kind : FileKind) → all_long 1 (own_one kind) ≡ true
own_one_long Source = refl
own_one_long Spec = refl
own_one_long Script = refl

pub other_mark_moves : (kind : FileKind) (bytes : List ℕ) → Moves (length bytes) (other_mark kind bytes)
unfolding other_mark
other_mark_moves kind bytes =
    mark_moves _ 2 _ _ (lit< tt) (mark_long 2 shared_two bytes refl)
    (mark_moves _ 2 _ _ (lit< tt) (mark_long 2 (own_two kind) bytes (own_two_long kind))
    (mark_moves _ 1 _ _ (lit< tt) (mark_long 1 shared_one bytes refl)
    (mark_moves _ 1 _ _ (lit< tt) (mark_long 1 (own_one kind) bytes (own_one_long kind)) (bad (omega arith)))))

-- numbers
literal_moves : (len n : ℕ) (o : Option (LiteralType × ℕ)) → 0 < n → n ≤ len → Moves len (literal_or_bad o n)
literal_moves len n (Some l) some h = taken some h
literal_moves len n None some h = bad (omega arith)

pub c_number_moves : (bytes : List ℕ) → 0 < run class.Word bytes → Moves (length bytes) (c_number bytes)
unfolding c_number
c_number_moves bytes some =
    either_moves (length bytes) (begins "." (drop (run class.Word bytes) bytes)) (Bad BadNumber 0) _ (λ _. bad (omega arith)) (λ _. literal_moves (length bytes) (run class.Word bytes) (literal_of (take (run class.Word bytes) bytes)) some (run_within class.Word bytes))

pub plain_number_moves : (bytes : List ℕ) → 0 < run class.Decimal bytes → Moves (length bytes) (plain_number bytes)
unfolding plain_number
plain_number_moves bytes some =
    let n = run class.Decimal bytes in
    let value = number_in 10 (take n bytes) in
    either_moves (length bytes) (begins "." (drop n bytes) || continues_word (char_at (drop n bytes)) || nat_le (2 ^ 126) value) (Bad BadNumber 0) (Piece (k.Literal Untyped value) n) (λ _. bad (omega arith)) (λ _. taken some (run_within class.Decimal bytes))

-- a byte that is not 0 stands within
pub byte_within : (bytes : List ℕ) (k b : ℕ) → get_or bytes k 0 ≡ b → 0 < b → k < length bytes
byte_within bytes k b e some = elim (cases_lt k (length bytes)) [ inl h ↦ h | inr h ↦ absurd (omega (arith, get_or_past bytes k 0 h, e, some)) ]

-- quotes
escape_within : (len : ℕ) (o : Option ℕ) → 4 ≤ len → IfSome {T = ℕ × ℕ} (option_map (λ c. (c, 4)) o) (λ c. (0 < c.1) × (c.1 ≤ len))
escape_within len (Some c) h = (lit< tt, h)
escape_within len None h = tt

pub constant_within : (bytes : List ℕ) → IfSome (constant_of bytes) (λ c. (0 < c.1) × (c.1 ≤ length bytes))
constant_within bytes =
    let W : Option (ℕ × ℕ) → Type 0 = λ o. IfSome o (λ c. (0 < c.1) × (c.1 ≤ length bytes)) in
    elim (is_plain (get_or bytes 1 0) && eqb (get_or bytes 2 0) 39) as (λ v. (is_plain (get_or bytes 1 0) && eqb (get_or bytes 2 0) 39) ≡ v → W (cond v (Some (get_or bytes 1 0, 3)) (cond (eqb (get_or bytes 1 0) 92 && eqb (get_or bytes 3 0) 39) (option_map (λ c. (c, 4)) (escape_of (get_or bytes 2 0))) None))) [
      | true ↦ λ e. (lit< tt, omega (arith, byte_within bytes 2 39 (grind (arith, (and_parts (is_plain (get_or bytes 1 0)) (eqb (get_or bytes 2 0) 39) e).1)) (lit< tt)))
      | false ↦ λ _. elim (eqb (get_or bytes 1 0) 92 && eqb (get_or bytes 3 0) 39) as (λ v. (eqb (get_or bytes 1 0) 92 && eqb (get_or bytes 3 0) 39) ≡ v → W (cond v (option_map (λ c. (c, 4)) (escape_of (get_or bytes 2 0))) None)) [
        | true ↦ λ e. escape_within (length bytes) (escape_of (get_or bytes 2 0)) (omega (arith, byte_within bytes 3 39 (grind (arith, (and_parts (eqb (get_or bytes 1 0) 92) (eqb (get_or bytes 3 0) 39) e).1)) (lit< tt)))
        | false ↦ λ _. tt
      ] refl
    ] refl

constant_or_bad_moves : (bytes : List ℕ) (o : Option (ℕ × ℕ)) → IfSome o (λ c. (0 < c.1) × (c.1 ≤ length bytes)) → Moves (length bytes) (constant_or_bad o bytes)
constant_or_bad_moves bytes (Some c) h = either_moves _ _ _ _ (λ _. bad {n = 0} (omega arith)) (λ _. taken h.0 h.1)
constant_or_bad_moves bytes None h = bad (omega arith)

pub constant_moves : (bytes : List ℕ) → Moves (length bytes) (constant bytes)
unfolding constant
constant_moves bytes = constant_or_bad_moves bytes (constant_of bytes) (constant_within bytes)

more_within : (len : ℕ) (o : Option ℕ) → IfSome o (λ n. n ≤ len) → IfSome (option_map (λ n. n + 1) o) (λ n. n ≤ suc len)
more_within len (Some n) h = omega (arith, h)
more_within len None h = tt

string_within : (before : ℕ) (bytes : List ℕ) → IfSome (string_len before bytes) (λ n. n ≤ length bytes)
string_within before [] = tt
string_within before (b ∷ bytes) =
    elim (eqb b 10) as (λ v. IfSome (cond v None (cond (eqb b 34 && not (eqb before 92)) (Some 1) (option_map (λ n. n + 1) (string_len b bytes)))) (λ n. n ≤ suc (length bytes))) [
      | true ↦ tt
      | false ↦ elim (eqb b 34 && not (eqb before 92)) as (λ v. IfSome (cond v (Some 1) (option_map (λ n. n + 1) (string_len b bytes))) (λ n. n ≤ suc (length bytes))) [
        | true ↦ omega arith
        | false ↦ more_within (length bytes) (string_len b bytes) (string_within b bytes)
      ]
    ]

string_or_bad_moves : (len : ℕ) (o : Option ℕ) → IfSome o (λ n. n ≤ len) → Moves (suc len) (string_or_bad o)
string_or_bad_moves len (Some n) h = taken (omega arith) (omega (arith, h))
string_or_bad_moves len None h = bad (omega arith)

pub string_moves : (b : ℕ) (bytes : List ℕ) → Moves (length (b ∷ bytes)) (string (b ∷ bytes))
unfolding string
string_moves b bytes = string_or_bad_moves (length bytes) (string_len 34 bytes) (string_within 34 bytes)

-- comments
pub comment_of_moves : (kind : FileKind) (n : ℕ) (bytes : List ℕ) → 0 < n → n ≤ length bytes → Moves (length bytes) (comment_of kind n bytes)
comment_of_moves Source n bytes some h = skipped some h
comment_of_moves Spec n bytes some h = either_moves _ _ _ _ (λ _. skipped some h) (λ _. bad (omega (arith, utf8_valid_len_le (take n bytes), length-take n bytes)))
comment_of_moves Script n bytes some h = either_moves _ _ _ _ (λ _. skipped some h) (λ _. bad (omega (arith, utf8_valid_len_le (take n bytes), length-take n bytes)))

pub comment_within : (bytes : List ℕ) → IfSome (comment_len bytes) (λ n. n ≤ length bytes)
comment_within [] = tt
comment_within (b ∷ bytes) =
    elim (eqb b 42 && eqb (get_or bytes 0 0) 47) as (λ v. (eqb b 42 && eqb (get_or bytes 0 0) 47) ≡ v → IfSome (cond v (Some 2) (option_map (λ n. n + 1) (comment_len bytes))) (λ n. n ≤ suc (length bytes))) [
      | true ↦ λ e. omega (arith, byte_within bytes 0 47 (grind (arith, (and_parts (eqb b 42) (eqb (get_or bytes 0 0) 47) e).1)) (lit< tt))
      | false ↦ λ _. more_within (length bytes) (comment_len bytes) (comment_within bytes)
    ] refl

comment_or_bad_moves : (kind : FileKind) (bytes : List ℕ) (o : Option ℕ) → IfSome o (λ n. n + 2 ≤ length bytes) → Moves (length bytes) (comment_or_bad kind o bytes)
comment_or_bad_moves kind bytes (Some n) h = comment_of_moves kind (n + 2) bytes (omega arith) h
comment_or_bad_moves kind bytes None h = bad (omega arith)

two_more : (o : Option ℕ) (len short : ℕ) → short + 2 ≡ len → IfSome o (λ n. n ≤ short) → IfSome o (λ n. n + 2 ≤ len)
two_more (Some n) len short e h = omega (arith, e, h)
two_more None len short e h = tt

pub comment_moves : (kind : FileKind) (bytes : List ℕ) → begins "/*" bytes ≡ true → Moves (length bytes) (comment kind bytes)
unfolding comment
comment_moves kind bytes e =
    comment_or_bad_moves kind bytes (comment_len (drop 2 bytes)) (two_more _ (length bytes) (length (drop 2 bytes)) (omega (arith, length-drop 2 bytes, begins_len "/*" bytes e)) (comment_within (drop 2 bytes)))

-- characters and names
pub char_within : (n : ℕ) (bytes : List ℕ) → IfSome (char_of (n + 1) bytes) (λ c. (0 < c.1) × (c.1 ≤ length bytes))
char_within n bytes =
    let W : Option (ℕ × ℕ) → Type 0 = λ o. IfSome o (λ c. (0 < c.1) × (c.1 ≤ length bytes)) in
    elim (nat_le (n + 1) (length bytes) && is_utf8 (take (n + 1) bytes)) as (λ v. (nat_le (n + 1) (length bytes) && is_utf8 (take (n + 1) bytes)) ≡ v → W (cond v (Some (get_or (chars (take (n + 1) bytes)) 0 0, n + 1)) None)) [
      | true ↦ λ e. (omega arith, grind (arith, (and_parts (nat_le (n + 1) (length bytes)) (is_utf8 (take (n + 1) bytes)) e).0))
      | false ↦ λ _. tt
    ] refl

pub char_at_within : (bytes : List ℕ) → IfSome (char_at bytes) (λ c. (0 < c.1) × (c.1 ≤ length bytes))
unfolding char_at
char_at_within bytes = char_within (continuation_len (get_or bytes 0 0)) bytes

step_or : (len : ℕ) (o : Option (ℕ × ℕ)) → IfSome o (λ c. (0 < c.1) × (c.1 ≤ len)) → cond (continues_name o) (width o) 0 ≤ len
step_or len (Some c) h = elim (is_xid_continue c.0 || eqb c.0 39) as (λ v. cond v c.1 0 ≤ len) [ true ↦ h.1 | false ↦ omega arith ]
step_or len None h = omega arith

pub step_within : (bytes : List ℕ) → name_step bytes ≤ length bytes
unfolding name_step
step_within bytes = step_or (length bytes) (char_at bytes) (char_at_within bytes)

name_after_within : (inside : ℕ) (bytes : List ℕ) → name_len_after inside bytes ≤ length bytes
name_after_within zero [] = omega arith
name_after_within (suc inside) [] = omega arith
name_after_within (suc inside) (b ∷ bytes) = omega (arith, name_after_within inside bytes)
name_after_within zero (b ∷ bytes) = elim (eqb (name_step (b ∷ bytes)) 0) as (λ v. cond v 0 (name_len_after (name_step (b ∷ bytes) - 1) bytes + 1) ≤ suc (length bytes)) [
  | true ↦ omega arith
  | false ↦ omega (arith, name_after_within (name_step (b ∷ bytes) - 1) bytes)
]

pub name_within : (bytes : List ℕ) → name_len bytes ≤ length bytes
name_within bytes = name_after_within 0 bytes

-- what begins a name goes on with it
continues : (c : ℕ) → (is_xid_start c || eqb c 95) ≡ true → (is_xid_continue c || eqb c 39) ≡ true
continues c = elim (is_xid_start c) as (λ v. is_xid_start c ≡ v → (v || eqb c 95) ≡ true → (is_xid_continue c || eqb c 39) ≡ true) [
  | true ↦ λ s _. rw (is_xid_start-is_xid_continue c s) refl
  | false ↦ λ _ e. let is_95 : c ≡ 95 = grind (arith, e) in rw (is_95, is_xid_continue-ascii 95 (lit< tt)) refl
] refl

step_some : (o : Option (ℕ × ℕ)) (len : ℕ) → starts_name o ≡ true → IfSome o (λ c. (0 < c.1) × (c.1 ≤ len)) → 0 < cond (continues_name o) (width o) 0
step_some (Some c) len e h = rw (continues c.0 e) h.0
step_some None len e h = absurd cc

pub name_some : (bytes : List ℕ) → starts_name (char_at bytes) ≡ true → 0 < name_len bytes
unfolding name_step
name_some bytes e =
    let some : 0 < name_step bytes = step_some (char_at bytes) (length bytes) e (char_at_within bytes) in
    omega (arith, some, name_len_step bytes (name_step bytes) refl some (step_within bytes))

head_no_feed : (text : List ℕ) (b : ℕ) (bytes : List ℕ) → pointwise nat_eq text (take (length text) (b ∷ bytes)) ≡ true → (nat_lt 0 (length text) && not (eqb (get_or text 0 10) 10)) ≡ true → not (eqb b 10) ≡ true
head_no_feed [] b bytes e first = absurd cc
head_no_feed (c ∷ text) b bytes e first =
    let same : c ≡ b = grind (arith, (and_parts (nat_eq c b) (pointwise nat_eq text (take (length text) bytes)) e).0) in
    subst (λ (z : ℕ). not (eqb z 10) ≡ true) same (and_parts (nat_lt 0 (suc (length text))) (not (eqb c 10)) first).1

-- the first byte of a text that begins with no line feed is none
begun_no_feed : (text : String) (b : ℕ) (bytes : List ℕ) → begins text (b ∷ bytes) ≡ true → (nat_lt 0 (length (codes text)) && not (eqb (get_or (codes text) 0 10) 10)) ≡ true → 0 < run class.NoFeed (b ∷ bytes)
begun_no_feed text b bytes e first = run_some class.NoFeed b bytes (head_no_feed (codes text) b bytes e first)

-- all
letter_word : (b : ℕ) → is_letter b ≡ true → in_class class.Word b ≡ true
letter_word b e = rw e refl

or_right : (a b : Bool) → b ≡ true → (a || b) ≡ true
or_right true b e = refl
or_right false b e = e

pub c_front_moves : (before : List ℕ) (b : ℕ) (bytes : List ℕ) → Moves (length (b ∷ bytes)) (c_front before b (b ∷ bytes))
unfolding c_front word
c_front_moves before b bytes =
    either_moves _ _ _ _ (λ e. taken (run_some class.Word b bytes (letter_word b e)) (run_within class.Word (b ∷ bytes)))
    (λ _. either_moves _ _ _ _ (λ e. c_number_moves (b ∷ bytes) (run_some class.Word b bytes (or_right (is_letter b) (is_ascii_digit b) e)))
    (λ _. either_moves _ (eqb b 39) (constant (b ∷ bytes)) _ (λ _. constant_moves (b ∷ bytes))
    (λ _. either_moves _ (eqb b 34) (string (b ∷ bytes)) _ (λ _. string_moves b bytes)
    (λ _. either_moves _ _ _ _ (λ e. skipped (begun_no_feed "#" b bytes (and_parts (begins "#" (b ∷ bytes)) _ (and_parts (begins "#" (b ∷ bytes) && nat_lt 0 (run class.Blank bytes)) _ (and_parts (is_marker (b ∷ bytes)) (line_is_blank before) e).0).0).0 refl) (run_within class.NoFeed (b ∷ bytes)))
    (λ _. c_mark_moves (b ∷ bytes))))))

pub other_front_moves : (kind : FileKind) (b : ℕ) (bytes : List ℕ) → Moves (length (b ∷ bytes)) (other_front kind b (b ∷ bytes))
unfolding other_front
other_front_moves kind b bytes =
    either_moves _ _ _ _ (λ e. plain_number_moves (b ∷ bytes) (run_some class.Decimal b bytes e))
    (λ _. either_moves _ _ _ _ (λ e. taken (name_some (b ∷ bytes) e) (name_within (b ∷ bytes)))
    (λ _. other_mark_moves kind (b ∷ bytes)))

token_moves : (kind : FileKind) (before : List ℕ) (b : ℕ) (bytes : List ℕ) → Moves (length (b ∷ bytes)) (token_front kind before b (b ∷ bytes))
token_moves Source before b bytes = c_front_moves before b bytes
token_moves Spec before b bytes = other_front_moves Spec b bytes
token_moves Script before b bytes = other_front_moves Script b bytes

pub front_moves : (kind : FileKind) (before bytes : List ℕ) → Moves (length bytes) (front kind before bytes)
unfolding front line_comment
front_moves kind before [] = at_end
front_moves kind before (b ∷ bytes) =
    either_moves _ _ _ _ (λ _. skipped {n = 1} (lit< tt) (omega arith))
    (λ _. either_moves _ _ _ _ (λ e. comment_of_moves kind (run class.NoFeed (b ∷ bytes)) (b ∷ bytes) (begun_no_feed "//" b bytes e refl) (run_within class.NoFeed (b ∷ bytes)))
    (λ _. either_moves _ _ _ _ (λ e. comment_moves kind (b ∷ bytes) e)
    (λ _. token_moves kind before b bytes)))
