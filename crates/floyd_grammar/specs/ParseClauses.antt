-- Readers of token lists as functions: what they read and the tokens that are left, or where and why they stop. They
-- are built like phrases, and decide by the next token.
use Rattle.std.specs.Prelude.{ℕ, zero, suc, Bool, true, false, if◌then◌else◌, ◌||◌, List, [], ◌∷◌, ◌++◌, length, Option, Some, None, Result, Ok, Err}
use Rattle.floyd_grammar.specs.declared.stop.Fault.{Fault}

abbrev pub Read : Type 0 → Type 0 → Type 0
Read T A = Result (A × List T) Fault

abbrev pub Parser : Type 0 → Type 0 → Type 0
Parser T A = List T → Read T A

-- what one token is read as, with those that are left behind it
abbrev pub taken : {T A : Type 0} → List T → Result A ℕ → Read T A
taken ts (Ok a) = Ok (a, ts)
taken ts (Err k) = Err record { left = suc (length ts); cause = k }

abbrev pub one : {T A : Type 0} → (T → Result A ℕ) → Parser T A
one f [] = Err record { left = 0; cause = 0 }
one f (t ∷ ts) = taken ts (f t)

abbrev pub pure : {T A : Type 0} → A → Parser T A
pure a ts = Ok (a, ts)

abbrev pub never : {T A : Type 0} → ℕ → Parser T A
never cause = one (λ t. Err cause)

-- goes on with what was read
abbrev pub bind : {T A B : Type 0} → Read T A → (A → Parser T B) → Read T B
bind (Ok r) q = q r.0 r.1
bind (Err f) q = Err f

infixl 10 ◌>>=◌
abbrev pub ◌>>=◌ : {T A B : Type 0} → Parser T A → (A → Parser T B) → Parser T B
◌>>=◌ p q ts = bind (p ts) q

infixl 10 ◌>>◌
abbrev pub ◌>>◌ : {T A B : Type 0} → Parser T A → Parser T B → Parser T B
p >> q = p >>= λ _. q

-- the next token is one of these
abbrev pub leads : {T : Type 0} → (T → Bool) → List T → Bool
leads first [] = false
leads first (t ∷ ts) = first t

-- the one or the other, by the tokens ahead
abbrev pub either_by : {T A : Type 0} → (List T → Bool) → Parser T A → Parser T A → Parser T A
either_by ahead p q ts = if ahead ts then p ts else q ts

-- the one where the next token is one of these, else the other
abbrev pub either : {T A : Type 0} → (T → Bool) → Parser T A → Parser T A → Parser T A
either first p q = either_by (leads first) p q

-- a fault at a barred token
abbrev pub stopped_at : {T A : Type 0} → Option ℕ → List T → Read T A → Read T A
stopped_at None ts read = read
stopped_at (Some cause) ts read = Err record { left = suc (length ts); cause = cause }

abbrev pub barring : {T A : Type 0} → (T → Option ℕ) → Parser T A → Parser T A
barring bars p [] = p []
barring bars p (t ∷ ts) = stopped_at (bars t) ts (p (t ∷ ts))

-- items as long as the next token is one that begins an item, and at most so many
abbrev pub fold_at : {T A B : Type 0} → (A → T → Bool) → (A → B → A) → (A → Parser T B) → ℕ → A → Parser T A
fold_at first join p zero x ts = Ok (x, ts)
fold_at first join p (suc n) x ts =
    if leads (first x) ts then bind (p x ts) (λ y. fold_at first join p n (join x y)) else Ok (x, ts)

abbrev pub folded : {T A B : Type 0} → (A → T → Bool) → (A → B → A) → (A → Parser T B) → A → Parser T A
folded first join p x ts = fold_at first join p (length ts) x ts

-- one or more, where what stands between two begins with one of these tokens
abbrev pub listed : {T A C : Type 0} → (T → Bool) → Parser T C → Parser T A → Parser T (List A)
listed {T} {A} {C} first between p =
    p >>= λ x. folded (λ xs. first) (λ (xs : List A) (y : A). xs ++ y ∷ []) (λ xs. between >>= λ _. p) (x ∷ [])

-- a token is taken, or it is refused for more than that it is not wanted
abbrev pub is_taken : {O : Type 0} → Result O ℕ → Bool
is_taken (Ok o) = true
is_taken (Err k) = false

abbrev pub is_blamed : {O : Type 0} → Result O ℕ → Bool
is_blamed (Ok o) = false
is_blamed (Err zero) = false
is_blamed (Err (suc k)) = true

-- of a token that may be barred: it is not, and these begin what is read; or it is blamed
abbrev pub passes_and : Option ℕ → Bool → Bool
passes_and None b = b
passes_and (Some k) b = false

abbrev pub blamed_or : Option ℕ → Bool → Bool
blamed_or None b = b
blamed_or (Some zero) b = false
blamed_or (Some (suc k)) b = true

abbrev pub is_meant : {O : Type 0} → Result O ℕ → Bool
is_meant o = is_taken o || is_blamed o

abbrev pub grouped : {T A O : Type 0} → (O → A → A → A) → (A → T → Result O ℕ) → (A → O → Parser T A) → Parser T A → Parser T A
grouped {T} {A} {O} join op operand first =
    first >>= λ x. folded (λ x t. is_meant (op x t)) (λ (x : A) (oy : O × A). join oy.0 x oy.1) (λ x. one (op x) >>= λ o. operand x o >>= λ y. pure (o, y)) x

-- a value where no token is left, and else a fault at the next
abbrev pub ended : {T A : Type 0} → A → List T → Result A Fault
ended x [] = Ok x
ended x (t ∷ ts) = Err record { left = suc (length ts); cause = 0 }

-- what all of a list is read as
abbrev pub ended_read : {T A : Type 0} → Read T A → Result A Fault
ended_read (Ok r) = ended r.0 r.1
ended_read (Err f) = Err f

abbrev pub whole : {T A : Type 0} → Parser T A → List T → Result A Fault
whole p ts = ended_read (p ts)
