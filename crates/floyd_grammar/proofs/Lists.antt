-- Lists with something between their items, and operands between operators that group to the left.
use Rattle.std.proofs.Common.{◌≡◌, ℕ, Bool, true, false, List, [], ◌∷◌, ◌++◌, Result, refl, sym, subst}
use Rattle.floyd_grammar.specs.Phrase.{Phrase}
use Rattle.floyd_grammar.specs.Phrase as phrase
use Rattle.floyd_grammar.specs.ParseClauses.{Parser, is_taken, is_blamed, is_meant}
use Rattle.floyd_grammar.specs.ParseClauses as parse
use Rattle.floyd_grammar.proofs.Exact.{Exact, token_solid, nothing}
use Rattle.floyd_grammar.proofs.Seq.{seq, seq_open, seq_solid, token_then, made}
use Rattle.floyd_grammar.proofs.Either.{or_left, or_right}
use Rattle.floyd_grammar.proofs.Repeat.{repeat, folded_nil}

-- one or more, with something between them
module _ {T A C : Type 0} (test : T → Bool) (between : Parser T C) (mid : Phrase T C) (first bad : T → Bool) (more : C → T → Bool) (p : Parser T A) (g : Phrase T A) (first' bad' : T → Bool) (more' : A → T → Bool) (after : List A → T → Bool)
    (M : Exact between mid first bad more) (E : Exact p g first' bad' more')
    (mid_solid : (c : C) → mid.reads [] c → ⊥) (solid : (x : A) → g.reads [] x → ⊥)
    (opens : (t : T) → first t ≡ true → test t ≡ true) (blames : (t : T) → bad t ≡ true → test t ≡ true)
    (apart : (c : C) (t : T) → first' t ≡ true → more c t ≡ false) (apart_bad : (c : C) (t : T) → bad' t ≡ true → more c t ≡ false)
    (splits : (x : A) (t : T) → test t ≡ true → more' x t ≡ false)
    (stops : (xs : List A) (t : T) → after xs t ≡ false → test t ≡ false)
    (ends : (xs : List A) (x : A) (t : T) → after (xs ++ x ∷ []) t ≡ false → more' x t ≡ false) where
  abbrev snoc : List A → A → List A
  snoc xs y = xs ++ y ∷ []

  next : Exact (parse.◌>>=◌ between (λ _. p)) (phrase.◌>>=◌ mid (λ _. g)) first bad more'
  next = seq M (λ _. E) mid_solid (λ u c d t e. apart c t e) (λ u c d t e. apart_bad c t e) (λ u c y d d' t e. absurd (solid y d'))

  next_solid : (y : A) → (phrase.◌>>=◌ mid (λ _. g)).reads [] y → ⊥
  next_solid y d = seq_solid mid (λ _. g) mid_solid y d

  later : (x : A) → Exact (parse.folded (λ xs. test) snoc (λ xs. parse.◌>>=◌ between (λ _. p)) (x ∷ [])) (phrase.folded snoc (λ xs. phrase.◌>>=◌ mid (λ _. g)) (x ∷ [])) first bad after
  later x =
      repeat (λ xs. test) snoc after (λ xs. next) (λ xs y d. next_solid y d) (λ xs. opens) (λ xs. blames) (λ xs u y d t e. splits y t e) stops (λ xs u y d t e. ends xs y t e) (x ∷ [])

  only : (x : A) (y : List A) → (phrase.folded snoc (λ xs. phrase.◌>>=◌ mid (λ _. g)) (x ∷ [])).reads [] y → y ≡ x ∷ []
  only x y d = folded_nil snoc (λ xs. (phrase.◌>>=◌ mid (λ _. g)).reads) (λ xs z e. next_solid z e) (x ∷ []) [] y d refl

  pub listed_exact : Exact (parse.listed test between p) (phrase.listed mid g) first' bad' after
  listed_exact =
      seq E later solid (λ u x d t e. splits x t (opens t e)) (λ u x d t e. splits x t (blames t e))
      (λ u x y d d' t e. ends [] x t (subst (λ (z : List A). after z t ≡ false) (only x y d') e))

-- operands between operators, which group to the left
module _ {T A O : Type 0} (join : O → A → A → A) (op : A → T → Result O ℕ) (operand : A → O → Parser T A) (goperand : A → O → Phrase T A) (first bad : A → O → T → Bool) (more : A → T → Bool)
    (head : Parser T A) (ghead : Phrase T A) (opens bads : T → Bool) (after : A → T → Bool)
    (H : Exact head ghead opens bads more) (E : (x : A) (o : O) → Exact (operand x o) (goperand x o) (first x o) (bad x o) more)
    (head_solid : (x : A) → ghead.reads [] x → ⊥) (solid : (x : A) (o : O) (y : A) → (goperand x o).reads [] y → ⊥)
    (apart : (u : List T) (x : A) → ghead.reads u x → (t : T) → is_meant (op x t) ≡ true → more x t ≡ false)
    (splits : (x : A) (o : O) (u : List T) (y : A) → (goperand x o).reads u y → (t : T) → is_meant (op (join o x y) t) ≡ true → more y t ≡ false)
    (stops : (x : A) (t : T) → after x t ≡ false → is_meant (op x t) ≡ false)
    (ends : (u : List T) (x : A) → ghead.reads u x → (t : T) → after x t ≡ false → more x t ≡ false)
    (ends_item : (x : A) (o : O) (u : List T) (y : A) → (goperand x o).reads u y → (t : T) → after (join o x y) t ≡ false → more y t ≡ false) where
  abbrev add : A → O × A → A
  add x oy = join oy.0 x oy.1

  abbrev item : A → Parser T (O × A)
  item x = parse.◌>>=◌ (parse.one (op x)) (λ o. parse.◌>>=◌ (operand x o) (λ y. parse.pure (o, y)))

  abbrev gitem : A → Phrase T (O × A)
  gitem x = phrase.◌>>=◌ (phrase.one (op x)) (λ o. phrase.◌>>=◌ (goperand x o) (λ y. phrase.pure (o, y)))

  item_exact : (x : A) → Exact (item x) (gitem x) (λ t. is_taken (op x t)) (λ t. is_blamed (op x t)) (λ oy. more oy.1)
  item_exact x = token_then (op x) (λ o. made (λ y. (o, y)) (λ oy. more oy.1) (E x o) (λ u y d t e. e))

  item_solid : (x : A) (oy : O × A) → (gitem x).reads [] oy → ⊥
  item_solid x oy d = seq_solid (phrase.one (op x)) (λ o. phrase.◌>>=◌ (goperand x o) (λ y. phrase.pure (o, y))) (token_solid (op x)) oy d

  -- what was read as an item is an operator and its operand
  item_operand : (x : A) (u : List T) (oy : O × A) → (gitem x).reads u oy → (v : List T) × (goperand x oy.0).reads v oy.1
  item_operand x u oy d =
      let e = d.5 in
      (e.0, subst (λ (z : O × A). (goperand x z.0).reads e.0 z.1) (sym e.5.1) e.4)

  rest_exact : (x : A) → Exact (parse.folded (λ z t. is_meant (op z t)) add item x) (phrase.folded add gitem x) (λ t. is_taken (op x t)) (λ t. is_blamed (op x t)) after
  rest_exact x =
      repeat (λ z t. is_meant (op z t)) add after item_exact item_solid
      (λ z t e. or_left (is_taken (op z t)) (is_blamed (op z t)) e) (λ z t e. or_right (is_taken (op z t)) (is_blamed (op z t)) e)
      (λ z u oy d t e. splits z oy.0 (item_operand z u oy d).0 oy.1 (item_operand z u oy d).1 t e) stops
      (λ z u oy d t e. ends_item z oy.0 (item_operand z u oy d).0 oy.1 (item_operand z u oy d).1 t e) x

  pub grouped_exact : Exact (parse.grouped join op operand head) (phrase.grouped join op goperand ghead) opens bads after
  grouped_exact =
      seq H rest_exact head_solid
      (λ u x d t e. apart u x d t (or_left (is_taken (op x t)) (is_blamed (op x t)) e)) (λ u x d t e. apart u x d t (or_right (is_taken (op x t)) (is_blamed (op x t)) e))
      (λ u x y d d' t e. ends u x d t (subst (λ (z : A). after z t ≡ false) (folded_nil add (λ z. (gitem z).reads) item_solid x [] y d' refl) e))

-- A first part, and then any number of further ones, each behind a token. What is read grows by each.
pub separated : {T A B C S : Type 0} {p : Parser T A} {g : Phrase T A} {first bad : T → Bool} {more : A → T → Bool} (f : S → T → Result C ℕ) (test : S → T → Bool) (join : S → B → S) (start : A → S)
    {q : S → Parser T B} {h : S → Phrase T B} {first' bad' : S → T → Bool} {more' : B → T → Bool} (after : S → T → Bool)
    → Exact p g first bad more → ((s : S) → Exact (q s) (h s) (first' s) (bad' s) more')
    → ((x : A) → g.reads [] x → ⊥)
    → ((s : S) (t : T) → is_meant (f s t) ≡ true → test s t ≡ true)
    → ((u : List T) (x : A) → g.reads u x → (t : T) → test (start x) t ≡ true → more x t ≡ false)
    → ((s : S) (u : List T) (y : B) → (h s).reads u y → (t : T) → test (join s y) t ≡ true → more' y t ≡ false)
    → ((s : S) (t : T) → after s t ≡ false → test s t ≡ false)
    → ((u : List T) (x : A) → g.reads u x → (t : T) → after (start x) t ≡ false → more x t ≡ false)
    → ((s : S) (u : List T) (y : B) → (h s).reads u y → (t : T) → after (join s y) t ≡ false → more' y t ≡ false)
    → Exact (parse.◌>>=◌ p (λ x. parse.folded test join (λ s. parse.◌>>=◌ (parse.one (f s)) (λ _. q s)) (start x)))
    (phrase.◌>>=◌ g (λ x. phrase.folded join (λ s. phrase.◌>>=◌ (phrase.one (f s)) (λ _. h s)) (start x))) first bad after
separated {T} {A} {B} {C} {S} {g = g} f test join start {q} {h} {first'} {bad'} {more'} after E F solid meant splits_first splits stops ends_first ends =
    seq E (λ x. rest (start x)) solid
    (λ u x d t e. splits_first u x d t (meant (start x) t (or_left (is_taken (f (start x) t)) (is_blamed (f (start x) t)) e)))
    (λ u x d t e. splits_first u x d t (meant (start x) t (or_right (is_taken (f (start x) t)) (is_blamed (f (start x) t)) e)))
    (λ u x y d d' t e. ends_first u x d t (subst (λ (z : S). after z t ≡ false) (folded_nil join (λ s. (item s).reads) item_solid (start x) [] y d' refl) e))
  where
    item : S → Phrase T B
    item s = phrase.◌>>=◌ (phrase.one (f s)) (λ _. h s)

    item_solid : (s : S) (y : B) → (phrase.◌>>=◌ (phrase.one (f s)) (λ _. h s)).reads [] y → ⊥
    item_solid s y d = seq_solid (phrase.one (f s)) (λ _. h s) (token_solid (f s)) y d

    rest : (s : S) → Exact (parse.folded test join (λ s. parse.◌>>=◌ (parse.one (f s)) (λ _. q s)) s) (phrase.folded join (λ s. phrase.◌>>=◌ (phrase.one (f s)) (λ _. h s)) s) (λ t. is_taken (f s t)) (λ t. is_blamed (f s t)) after
    rest s =
        repeat test join after (λ s. token_then (f s) (λ _. F s)) item_solid
        (λ s t e. meant s t (or_left (is_taken (f s t)) (is_blamed (f s t)) e)) (λ s t e. meant s t (or_right (is_taken (f s t)) (is_blamed (f s t)) e))
        (λ s u y d t e. splits s d.1 y d.5 t e) stops (λ s u y d t e. ends s d.1 y d.5 t e) s

-- A part, the token behind it, and a value made of the part.
pub closed : {T A B C : Type 0} {p : Parser T A} {g : Phrase T A} {first bad : T → Bool} {more : A → T → Bool} (f : A → T → Result C ℕ) (make : A → B) (after : B → T → Bool)
    → Exact p g first bad more → ((x : A) → g.reads [] x → ⊥)
    → ((u : List T) (x : A) → g.reads u x → (t : T) → is_meant (f x t) ≡ true → more x t ≡ false)
    → Exact (parse.◌>>=◌ p (λ x. parse.◌>>=◌ (parse.one (f x)) (λ _. parse.pure (make x)))) (phrase.◌>>=◌ g (λ x. phrase.◌>>=◌ (phrase.one (f x)) (λ _. phrase.pure (make x)))) first bad after
closed f make after E solid meant =
    seq E (λ x. token_then (f x) (λ _. nothing (make x) after)) solid
    (λ u x d t e. meant u x d t (or_left (is_taken (f x t)) (is_blamed (f x t)) e))
    (λ u x d t e. meant u x d t (or_right (is_taken (f x t)) (is_blamed (f x t)) e))
    (λ u x y d d' t e. absurd (seq_solid (phrase.one (f x)) (λ _. phrase.pure (make x)) (token_solid (f x)) y d'))

-- The same where the part may be nothing, and it is not said with which tokens they begin.
pub closed_any : {T A B C : Type 0} {p : Parser T A} {g : Phrase T A} {first bad : T → Bool} {more : A → T → Bool} (f : A → T → Result C ℕ) (make : A → B) (after : B → T → Bool)
    → Exact p g first bad more
    → ((u : List T) (x : A) → g.reads u x → (t : T) → is_meant (f x t) ≡ true → more x t ≡ false)
    → Exact (parse.◌>>=◌ p (λ x. parse.◌>>=◌ (parse.one (f x)) (λ _. parse.pure (make x)))) (phrase.◌>>=◌ g (λ x. phrase.◌>>=◌ (phrase.one (f x)) (λ _. phrase.pure (make x)))) (λ t. true) (λ t. true) after
closed_any f make after E meant =
    seq_open E (λ x. token_then (f x) (λ _. nothing (make x) after))
    (λ u x d t e. meant u x d t (or_left (is_taken (f x t)) (is_blamed (f x t)) e))
    (λ u x d t e. meant u x d t (or_right (is_taken (f x t)) (is_blamed (f x t)) e))
    (λ u x y d d' t e. absurd (seq_solid (phrase.one (f x)) (λ _. phrase.pure (make x)) (token_solid (f x)) y d'))
    (λ t. true) (λ t. true) (λ t e. refl) (λ t e. refl) (λ x d t e. refl) (λ x d t e. refl)

-- The same, where `opens` and `bads` have the tokens of the part, and where it may be nothing those of the token behind.
pub closed_open : {T A B C : Type 0} {p : Parser T A} {g : Phrase T A} {first bad : T → Bool} {more : A → T → Bool} (f : A → T → Result C ℕ) (make : A → B) (after : B → T → Bool)
    → Exact p g first bad more
    → ((u : List T) (x : A) → g.reads u x → (t : T) → is_meant (f x t) ≡ true → more x t ≡ false)
    → (opens bads : T → Bool) → ((t : T) → first t ≡ true → opens t ≡ true) → ((t : T) → bad t ≡ true → bads t ≡ true)
    → ((x : A) → g.reads [] x → (t : T) → is_taken (f x t) ≡ true → opens t ≡ true) → ((x : A) → g.reads [] x → (t : T) → is_blamed (f x t) ≡ true → bads t ≡ true)
    → Exact (parse.◌>>=◌ p (λ x. parse.◌>>=◌ (parse.one (f x)) (λ _. parse.pure (make x)))) (phrase.◌>>=◌ g (λ x. phrase.◌>>=◌ (phrase.one (f x)) (λ _. phrase.pure (make x)))) opens bads after
closed_open f make after E meant opens bads begins blames passes passes_bad =
    seq_open E (λ x. token_then (f x) (λ _. nothing (make x) after))
    (λ u x d t e. meant u x d t (or_left (is_taken (f x t)) (is_blamed (f x t)) e))
    (λ u x d t e. meant u x d t (or_right (is_taken (f x t)) (is_blamed (f x t)) e))
    (λ u x y d d' t e. absurd (seq_solid (phrase.one (f x)) (λ _. phrase.pure (make x)) (token_solid (f x)) y d'))
    opens bads begins blames passes passes_bad
