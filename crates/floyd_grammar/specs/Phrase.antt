-- Phrases: parts of a grammar over lists of tokens. A phrase says at once which tokens read as which value, which tokens
-- begin what may still read, and for what cause a token is refused where another is wanted.
use Rattle.std.specs.Prelude.{◌≡◌, ℕ, ◌⊎◌, List, [], ◌∷◌, ◌++◌, Option, Some, None, Result, Ok, Err}

pub record Phrase (T A : Type 0) : Type 1 where
  -- the tokens read as the value
  pub reads : List T → A → Type 0
  -- the tokens begin what may still read
  pub front : List T → Type 0
  -- after the tokens one is wanted that this one is not, and it is refused for that cause; of two causes at one token
  -- the greater goes first
  pub refuses : List T → T → ℕ → Type 0

-- One token. The function says what it is read as, or for what cause it is refused.
abbrev pub one : {T A : Type 0} → (T → Result A ℕ) → Phrase T A
one {T} {A} f = record {
  reads = λ ts a. (t : T) × (ts ≡ t ∷ []) × (f t ≡ Ok a);
  front = λ ts. (ts ≡ []) ⊎ ((t : T) × (a : A) × (ts ≡ t ∷ []) × (f t ≡ Ok a));
  refuses = λ ts t k. (ts ≡ []) × (f t ≡ Err k);
}

-- nothing, whose value is given
abbrev pub pure : {T A : Type 0} → A → Phrase T A
pure a = record {
  reads = λ ts x. (ts ≡ []) × (x ≡ a);
  front = λ ts. ts ≡ [];
  refuses = λ ts t k. ⊥;
}

-- no token at all: each is refused for that cause
abbrev pub never : {T A : Type 0} → ℕ → Phrase T A
never cause = one (λ t. Err cause)

-- one after the other, which may depend on what was read
infixl 10 ◌>>=◌
abbrev pub ◌>>=◌ : {T A B : Type 0} → Phrase T A → (A → Phrase T B) → Phrase T B
◌>>=◌ {T} {A} g h = record {
  reads = λ ts y. (u v : List T) × (x : A) × (ts ≡ u ++ v) × g.reads u x × (h x).reads v y;
  front = λ ts. g.front ts ⊎ ((u v : List T) × (x : A) × (ts ≡ u ++ v) × g.reads u x × (h x).front v);
  refuses = λ ts t k. g.refuses ts t k ⊎ ((u v : List T) × (x : A) × (ts ≡ u ++ v) × g.reads u x × (h x).refuses v t k);
}

infixl 10 ◌>>◌
abbrev pub ◌>>◌ : {T A B : Type 0} → Phrase T A → Phrase T B → Phrase T B
g >> h = g >>= λ _. h

-- either
infixl 9 ◌or◌
abbrev pub ◌or◌ : {T A : Type 0} → Phrase T A → Phrase T A → Phrase T A
g or h = record {
  reads = λ ts x. g.reads ts x ⊎ h.reads ts x;
  front = λ ts. g.front ts ⊎ h.front ts;
  refuses = λ ts t k. g.refuses ts t k ⊎ h.refuses ts t k;
}

-- A phrase that does not begin with some tokens. The function says for what cause each of them is refused, and nothing
-- of the others.
abbrev pub Passes : {T : Type 0} → (T → Option ℕ) → List T → Type 0
Passes bars [] = Unit {0}
Passes bars (t ∷ ts) = bars t ≡ None

abbrev pub barred : Option ℕ → (ℕ → Type 0) → ℕ → Type 0
barred None causes k = causes k
barred (Some cause) causes k = k ≡ cause

abbrev pub barred_at : {T : Type 0} → (T → Option ℕ) → (List T → T → ℕ → Type 0) → List T → T → ℕ → Type 0
barred_at bars refuses [] t k = barred (bars t) (refuses [] t) k
barred_at bars refuses (s ∷ ts) t k = (bars s ≡ None) × refuses (s ∷ ts) t k

abbrev pub barring : {T A : Type 0} → (T → Option ℕ) → Phrase T A → Phrase T A
barring {T} {A} bars g = record {
  reads = λ ts x. Passes bars ts × g.reads ts x;
  front = λ ts. Passes bars ts × g.front ts;
  refuses = barred_at bars g.refuses;
}

-- Any number of items, one after the other, each joined to what was there before. What an item may be may depend on
-- that.
pub data Folded {T A B : Type 0} (join : A → B → A) (item : A → List T → B → Type 0) (start : A) : List T → A → Type 0 where
  none : Folded join item start [] start
  then : {u v : List T} {x : A} {y : B} → Folded join item start u x → item x v y → Folded join item start (u ++ v) (join x y)

abbrev pub folded : {T A B : Type 0} → (A → B → A) → (A → Phrase T B) → A → Phrase T A
folded {T} {A} {B} join g start = record {
  reads = Folded join (λ x. (g x).reads) start;
  front = λ ts. (u v : List T) × (x : A) × (ts ≡ u ++ v) × Folded join (λ x. (g x).reads) start u x × (g x).front v;
  refuses = λ ts t k. (u v : List T) × (x : A) × (ts ≡ u ++ v) × Folded join (λ x. (g x).reads) start u x × (g x).refuses v t k;
}

-- one or more, with something between them
abbrev pub listed : {T A C : Type 0} → Phrase T C → Phrase T A → Phrase T (List A)
listed {T} {A} {C} between g = g >>= λ x. folded (λ (xs : List A) (y : A). xs ++ y ∷ []) (λ xs. between >>= λ _. g) (x ∷ [])

-- Operands between operators, which group to the left. Which operator may follow, and which operand an operator, may
-- depend on what stands before.
abbrev pub grouped : {T A O : Type 0} → (O → A → A → A) → (A → T → Result O ℕ) → (A → O → Phrase T A) → Phrase T A → Phrase T A
grouped {T} {A} {O} join op operand first =
    first >>= λ x. folded (λ (x : A) (oy : O × A). join oy.0 x oy.1) (λ x. one (op x) >>= λ o. operand x o >>= λ y. pure (o, y)) x
