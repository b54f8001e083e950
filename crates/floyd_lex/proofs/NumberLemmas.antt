-- A value that is capped has the same type, and only a value below the cap has one.
use Rattle.std.proofs.Common.{◌≡◌, ℕ, ◌^◌, ◌<◌, ◌≤◌, ◌∙◌, ◌&&◌, ◌||◌, Bool, true, false, cond, not, nat_le, min, List, [], ◌∷◌, take, drop, lit<, IfSome, option_map, option_and_then, Option, Some, None, find, refl, ap, sym, subst, arith}
use Rattle.std.proofs.lemmas.Bool.{and_parts}
use Rattle.floyd_lex.specs.declared.kinds.LiteralType.{LiteralType}
use Rattle.floyd_lex.specs.declared.kinds.LiteralType.TheVariants.{Int, UnsignedInt, Long, UnsignedLong, Untyped}
use Rattle.floyd_lex.specs.declared.numbers.Base.{Base}
use Rattle.floyd_lex.specs.declared.numbers.Base.TheVariants.{Decimal, Octal, Hexadecimal}
use Rattle.floyd_lex.specs.declared.numbers.Suffix.{Suffix}
use Rattle.floyd_lex.specs.Classes.{run}
use Rattle.floyd_lex.specs.Numbers.{radix, digits_of, number_in, base_of, prefix_of, suffix_of, type_of, types_of, is_long_type, greatest, literal_at, literal_in, literal_of}

-- a type of C
abbrev pub is_typed : LiteralType → Bool
is_typed Untyped = false
is_typed _ = true

abbrev all_typed : List LiteralType → Bool
all_typed [] = true
all_typed (t ∷ ts) = is_typed t && all_typed ts

abbrev cap : ℕ
cap = 2 ^ 126

-- every type's greatest value is below the cap
greatest_small : (t : LiteralType) → greatest t < cap
greatest_small Int = lit< tt
greatest_small UnsignedInt = lit< tt
greatest_small Long = lit< tt
greatest_small UnsignedLong = lit< tt
greatest_small Untyped = lit< tt

same_test : (n v : ℕ) → n < cap → nat_le (min v cap) n ≡ nat_le v n
same_test n v h = grind (arith, h)

abbrev fits : Bool → ℕ → LiteralType → Bool
fits long v t = (not long || is_long_type t) && nat_le v (greatest t)

same_fit : (long : Bool) (v : ℕ) (t : LiteralType) → fits long (min v cap) t ≡ fits long v t
same_fit long v t = ap (λ (b : Bool). (not long || is_long_type t) && b) (same_test (greatest t) v (greatest_small t))

same_find : (long : Bool) (v : ℕ) (ts : List LiteralType) → find (fits long (min v cap)) ts ≡ find (fits long v) ts
same_find long v [] = refl
same_find long v (t ∷ ts) = rw (same_fit long v t, same_find long v ts) refl

pub type_of-cap : (base : Base) (s : Suffix) (v : ℕ) → type_of base s (min v cap) ≡ type_of base s v
unfolding type_of
type_of-cap base s v = same_find s.long v (types_of base s.unsigned)

and_false : (b : Bool) → (b && false) ≡ false
and_false true = refl
and_false false = refl

-- a type that is found holds the value, and is one of C
held : (long : Bool) (v : ℕ) (ts : List LiteralType) (t : LiteralType) → all_typed ts ≡ true → find (fits long v) ts ≡ Some t → (v ≤ greatest t) × (is_typed t ≡ true)
held long v [] t all = λ e. absurd cc
held long v (u ∷ ts) t all = elim (not long || is_long_type u) as (λ w. cond (w && nat_le v (greatest u)) (Some u) (find (fits long v) ts) ≡ Some t → (v ≤ greatest t) × (is_typed t ≡ true)) [
  | true ↦ elim (nat_le v (greatest u)) as (λ w. nat_le v (greatest u) ≡ w → cond w (Some u) (find (fits long v) ts) ≡ Some t → (v ≤ greatest t) × (is_typed t ≡ true)) [
    | true ↦ λ h e.
        let same : u ≡ t = cc in
        let small : v ≤ greatest u = grind (arith, h) in
        subst (λ (z : LiteralType). (v ≤ greatest z) × (is_typed z ≡ true)) same (small, (and_parts (is_typed u) (all_typed ts) all).0)
    | false ↦ λ h. held long v ts t (and_parts (is_typed u) (all_typed ts) all).1
  ] refl
  | false ↦ held long v ts t (and_parts (is_typed u) (all_typed ts) all).1
]

types_typed : (base : Base) (u : Bool) → all_typed (types_of base u) ≡ true
types_typed Decimal true = refl
types_typed Decimal false = refl
types_typed Octal true = refl
types_typed Octal false = refl
types_typed Hexadecimal true = refl
types_typed Hexadecimal false = refl

-- of a literal that is read
abbrev Holds : Option (LiteralType × ℕ) → Type 0
Holds o = IfSome o (λ l. (l.1 ≤ greatest l.0) × (is_typed l.0 ≡ true))

type_holds : (base : Base) (s : Suffix) (v : ℕ) (o : Option LiteralType) → type_of base s v ≡ o → Holds (option_map (λ t. (t, v)) o)
unfolding type_of
type_holds base s v (Some t) e = held s.long v (types_of base s.unsigned) t (types_typed base s.unsigned) e
type_holds base s v None e = tt

suffix_holds : (base : Base) (v : ℕ) (o : Option Suffix) → Holds (option_and_then (λ s. option_map (λ t. (t, v)) (type_of base s v)) o)
suffix_holds base v (Some s) = type_holds base s v (type_of base s v) refl
suffix_holds base v None = tt

pub literal_holds : (word : List ℕ) → IfSome (literal_of word) (λ l. (l.1 ≤ greatest l.0) × (is_typed l.0 ≡ true))
unfolding literal_of
literal_holds word = suffix_holds (base_of word) _ _

found_small : (long : Bool) (v : ℕ) (ts : List LiteralType) (t : LiteralType) → find (fits long v) ts ≡ Some t → v < cap
found_small long v [] t = λ e. absurd cc
found_small long v (u ∷ ts) t = elim (nat_le v (greatest u)) as (λ w. nat_le v (greatest u) ≡ w → cond ((not long || is_long_type u) && w) (Some u) (find (fits long v) ts) ≡ Some t → v < cap) [
  | true ↦ λ h e. grind (arith, h, greatest_small u)
  | false ↦ λ h. rw (and_false (not long || is_long_type u)) (found_small long v ts t)
] refl

pub type_of-small : (base : Base) (s : Suffix) (v : ℕ) (t : LiteralType) → type_of base s v ≡ Some t → min v cap ≡ v
unfolding type_of
type_of-small base s v t e = omega (arith, found_small s.long v (types_of base s.unsigned) t e)

-- what the steps of a reading find
module _ (word : List ℕ) (base : Base) (body : List ℕ) (n v : ℕ) (s : Suffix) (is_base : base ≡ base_of word) (is_body : body ≡ drop (prefix_of base) word) (is_n : n ≡ run (digits_of base) body) (is_v : v ≡ min (number_in (radix base) (take n body)) cap) (is_s : Some s ≡ suffix_of (drop n body)) where
  same : literal_at base body n ≡ literal_of word
  unfolding literal_of
  same = ap (λ (k : ℕ). literal_at base body k) is_n ∙ ap (λ (b : List ℕ). literal_in base b) is_body ∙ ap (λ (b : Base). literal_in b (drop (prefix_of b) word)) is_base

  capped : type_of base s v ≡ type_of base s (number_in (radix base) (take n body))
  capped = ap (type_of base s) is_v ∙ type_of-cap base s (number_in (radix base) (take n body))

  pub no_type : None ≡ type_of base s v → None ≡ literal_of word
  no_type e = rw (← same, ← is_s, ← capped, ← e) refl

  pub some_type : (t : LiteralType) → Some t ≡ type_of base s v → Some (t, v) ≡ literal_of word
  some_type t e =
      let found : type_of base s (number_in (radix base) (take n body)) ≡ Some t = sym capped ∙ sym e in
      let exact : v ≡ number_in (radix base) (take n body) = is_v ∙ type_of-small base s (number_in (radix base) (take n body)) t found in
      rw (← same, ← is_s, found, ← exact) refl
