-- The items of all modules: where modules agree, each item of each of them is there.
use Rattle.std.proofs.Common.{◌≡◌, ◌⊎◌, inl, inr, ℕ, Bool, true, false, ◌||◌, cond, List, [], ◌∷◌, ◌++◌, Option, Some, None, refl, sym, ap, ◌∙◌}
use Rattle.std.specs.Prelude.{find, bytes_eq, if◌then◌else◌}
use Rattle.std.specs.List.{list_any, AllByRecursion}
use Rattle.std.proofs.lemmas.Slice.Eq.{bytes_eq-Decides}
use Rattle.floyd_goal_meaning.specs.declared.linked.Module.{Module}
use Rattle.floyd_goal_meaning.specs.Programs.{of_modules, with_new}

itself : (x : List ℕ) → bytes_eq x x ≡ true
itself x = (bytes_eq-Decides x x).1 refl

module _ {A : Type 0} (name : A → List ℕ) where
  -- the first item of that name
  abbrev pub named : List A → List ℕ → Option A
  named all x = find (λ a. bytes_eq x (name a)) all

  -- items of one name are the same
  abbrev pub Alike : List A → List A → Type 0
  Alike all others = (x : List ℕ) (a b : A) → named all x ≡ Some a → named others x ≡ Some b → a ≡ b

  -- no name stands twice
  abbrev pub Apart : List A → Type 0
  Apart [] = Unit {0}
  Apart (a ∷ all) = (named all (name a) ≡ None) × Apart all

  named_first : (a : A) (all : List A) (x : List ℕ) → bytes_eq x (name a) ≡ true → named (a ∷ all) x ≡ Some a
  named_first a all x e = ap (λ t. cond t (Some a) (named all x)) e

  named_rest : (a : A) (all : List A) (x : List ℕ) → bytes_eq x (name a) ≡ false → named (a ∷ all) x ≡ named all x
  named_rest a all x e = ap (λ t. cond t (Some a) (named all x)) e

  -- behind others
  pub named_append : (all others : List A) (x : List ℕ) (a : A) → named all x ≡ Some a → named (all ++ others) x ≡ Some a
  named_append [] others x a e = absurd cc
  named_append (b ∷ all) others x a e = by (named_append all others x a) (bytes_eq x (name b)) refl e
    where
      by : (named all x ≡ Some a → named (all ++ others) x ≡ Some a) → (t : Bool) → bytes_eq x (name b) ≡ t → cond t (Some b) (named all x) ≡ Some a → cond (bytes_eq x (name b)) (Some b) (named (all ++ others) x) ≡ Some a
      by go true k q = ap (λ t. cond t (Some b) (named (all ++ others) x)) k ∙ q
      by go false k q = ap (λ t. cond t (Some b) (named (all ++ others) x)) k ∙ go q

  pub named_behind : (all others : List A) (x : List ℕ) → named all x ≡ None → named (all ++ others) x ≡ named others x
  named_behind [] others x e = refl
  named_behind (b ∷ all) others x e = by (named_behind all others x) (bytes_eq x (name b)) refl e
    where
      by : (named all x ≡ None → named (all ++ others) x ≡ named others x) → (t : Bool) → bytes_eq x (name b) ≡ t → cond t (Some b) (named all x) ≡ None → cond (bytes_eq x (name b)) (Some b) (named (all ++ others) x) ≡ named others x
      by go true k q = absurd cc
      by go false k q = ap (λ t. cond t (Some b) (named (all ++ others) x)) k ∙ go q

  -- the test of `with_new`
  pub none_named : (all : List A) (x : List ℕ) → list_any (λ b. bytes_eq x (name b)) all ≡ false → named all x ≡ None
  none_named [] x e = refl
  none_named (b ∷ all) x e = by (none_named all x) (bytes_eq x (name b)) refl e
    where
      by : (list_any (λ b. bytes_eq x (name b)) all ≡ false → named all x ≡ None) → (t : Bool) → bytes_eq x (name b) ≡ t → (t || list_any (λ b. bytes_eq x (name b)) all) ≡ false → cond (bytes_eq x (name b)) (Some b) (named all x) ≡ None
      by go true k q = absurd cc
      by go false k q = ap (λ t. cond t (Some b) (named all x)) k ∙ go q

  pub some_named : (all : List A) (x : List ℕ) → list_any (λ b. bytes_eq x (name b)) all ≡ true → (a : A) × (named all x ≡ Some a)
  some_named [] x e = absurd cc
  some_named (b ∷ all) x e = by (some_named all x) (bytes_eq x (name b)) refl e
    where
      by : (list_any (λ b. bytes_eq x (name b)) all ≡ true → (a : A) × (named all x ≡ Some a)) → (t : Bool) → bytes_eq x (name b) ≡ t → (t || list_any (λ b. bytes_eq x (name b)) all) ≡ true → (a : A) × (cond (bytes_eq x (name b)) (Some b) (named all x) ≡ Some a)
      by go true k q = (b, ap (λ t. cond t (Some b) (named all x)) k)
      by go false k q = let p = go q in (p.0, ap (λ t. cond t (Some b) (named all x)) k ∙ p.1)

  abbrev pub step : List A → A → List A
  step all a = if list_any (λ b. bytes_eq (name a) (name b)) all then all else all ++ a ∷ []

  -- ---- one item more

  pub step_keeps : (all : List A) (a : A) (x : List ℕ) (b : A) → named all x ≡ Some b → named (step all a) x ≡ Some b
  step_keeps all a x b e = by (list_any (λ c. bytes_eq (name a) (name c)) all)
    where
      by : (t : Bool) → named (if t then all else all ++ a ∷ []) x ≡ Some b
      by true = e
      by false = named_append all (a ∷ []) x b e

  pub step_has : (all : List A) (a : A) → ((b : A) → named all (name a) ≡ Some b → b ≡ a) → named (step all a) (name a) ≡ Some a
  step_has all a k = by (list_any (λ c. bytes_eq (name a) (name c)) all) refl
    where
      by : (t : Bool) → list_any (λ c. bytes_eq (name a) (name c)) all ≡ t → named (if t then all else all ++ a ∷ []) (name a) ≡ Some a
      by true e = let p = some_named all (name a) e in p.1 ∙ ap Option.Some (k p.0 p.1)
      by false e = named_behind all (a ∷ []) (name a) (none_named all (name a) e) ∙ named_first a [] (name a) (itself (name a))

  step_from : (all : List A) (a : A) (x : List ℕ) (b : A) → named (step all a) x ≡ Some b → (named all x ≡ Some b) ⊎ ((x ≡ name a) × (a ≡ b))
  step_from all a x b e = by (list_any (λ c. bytes_eq (name a) (name c)) all) e
    where
      behind : (o : Option A) → named all x ≡ o → named (all ++ a ∷ []) x ≡ Some b → (named all x ≡ Some b) ⊎ ((x ≡ name a) × (a ≡ b))
      behind (Some c) q r = inl (q ∙ sym (named_append all (a ∷ []) x c q) ∙ r)
      behind None q r = last (bytes_eq x (name a)) refl (sym (named_behind all (a ∷ []) x q) ∙ r)
        where
          last : (t : Bool) → bytes_eq x (name a) ≡ t → cond t (Some a) None ≡ Some b → (named all x ≡ Some b) ⊎ ((x ≡ name a) × (a ≡ b))
          last true k s = inr ((bytes_eq-Decides x (name a)).0 k, cc)
          last false k s = absurd cc

      by : (t : Bool) → named (if t then all else all ++ a ∷ []) x ≡ Some b → (named all x ≡ Some b) ⊎ ((x ≡ name a) × (a ≡ b))
      by true q = inl q
      by false q = behind (named all x) refl q

  -- ---- a list more

  pub new_keeps : (all others : List A) (x : List ℕ) (b : A) → named all x ≡ Some b → named (with_new name all others) x ≡ Some b
  new_keeps all [] x b e = e
  new_keeps all (a ∷ others) x b e = new_keeps (step all a) others x b (step_keeps all a x b e)

  other_name : (x y : List ℕ) (o : Option A) (b : A) → o ≡ None → o ≡ Some b → ⊥
  other_name x y o b e k = absurd cc

  pub alike_step : (all others : List A) (a : A) → Apart (a ∷ others) → Alike all (a ∷ others) → Alike (step all a) others
  alike_step all others a apart k x b c e q = by (step_from all a x b e)
    where
      there : bytes_eq x (name a) ≡ true → ⊥
      there i = other_name x (name a) (named others x) c (ap (named others) ((bytes_eq-Decides x (name a)).0 i) ∙ apart.0) q

      at : (t : Bool) → bytes_eq x (name a) ≡ t → named (a ∷ others) x ≡ Some c
      at true i = absurd (there i)
      at false i = named_rest a others x i ∙ q

      by : (named all x ≡ Some b) ⊎ ((x ≡ name a) × (a ≡ b)) → b ≡ c
      by (inl p) = k x b c p (at (bytes_eq x (name a)) refl)
      by (inr p) = absurd (there ((bytes_eq-Decides x (name a)).1 p.0))

  pub new_has : (all others : List A) → Apart others → Alike all others → (x : List ℕ) (b : A) → named others x ≡ Some b → named (with_new name all others) x ≡ Some b
  new_has all [] apart k x b e = absurd cc
  new_has all (a ∷ others) apart k x b e = by (new_has (step all a) others apart.1 (alike_step all others a apart k) x b) (bytes_eq x (name a)) refl e
    where
      first : (c : A) → named all (name a) ≡ Some c → c ≡ a
      first c q = k (name a) c a q (named_first a others (name a) (itself (name a)))

      by : (named others x ≡ Some b → named (with_new name (step all a) others) x ≡ Some b) → (t : Bool) → bytes_eq x (name a) ≡ t → cond t (Some a) (named others x) ≡ Some b → named (with_new name (step all a) others) x ≡ Some b
      by go true i q =
          let same : a ≡ b = cc in
          new_keeps (step all a) others x b (ap (named (step all a)) ((bytes_eq-Decides x (name a)).0 i) ∙ step_has all a first ∙ ap Option.Some same)
      by go false i q = go q

  pub new_from : (all others : List A) → Apart others → (x : List ℕ) (b : A) → named (with_new name all others) x ≡ Some b → (named all x ≡ Some b) ⊎ (named others x ≡ Some b)
  new_from all [] apart x b e = inl e
  new_from all (a ∷ others) apart x b e = by (new_from (step all a) others apart.1 x b e)
    where
      of_step : (named all x ≡ Some b) ⊎ ((x ≡ name a) × (a ≡ b)) → (named all x ≡ Some b) ⊎ (named (a ∷ others) x ≡ Some b)
      of_step (inl p) = inl p
      of_step (inr p) = inr (named_first a others x ((bytes_eq-Decides x (name a)).1 p.0) ∙ ap Option.Some p.1)

      later : (t : Bool) → bytes_eq x (name a) ≡ t → named others x ≡ Some b → named (a ∷ others) x ≡ Some b
      later true i q = absurd (other_name x (name a) (named others x) b (ap (named others) ((bytes_eq-Decides x (name a)).0 i) ∙ apart.0) q)
      later false i q = named_rest a others x i ∙ q

      by : (named (step all a) x ≡ Some b) ⊎ (named others x ≡ Some b) → (named all x ≡ Some b) ⊎ (named (a ∷ others) x ≡ Some b)
      by (inl p) = of_step (step_from all a x b p)
      by (inr p) = inr (later (bytes_eq x (name a)) refl p)

  pub alike_new : (all others more : List A) → Apart others → Alike all more → Alike others more → Alike (with_new name all others) more
  alike_new all others more apart h k x b c e q = by (new_from all others apart x b e)
    where
      by : (named all x ≡ Some b) ⊎ (named others x ≡ Some b) → b ≡ c
      by (inl p) = h x b c p q
      by (inr p) = k x b c p q

  -- ---- all modules

  module _ (items : Module → List A) where
    abbrev pub AllAlike : List Module → Type 0
    AllAlike [] = Unit {0}
    AllAlike (m ∷ modules) = AllByRecursion (λ n. Alike (items m) (items n)) modules × AllAlike modules

    pub union_keeps : (all : List A) (modules : List Module) (x : List ℕ) (b : A) → named all x ≡ Some b → named (of_modules name items all modules) x ≡ Some b
    union_keeps all [] x b e = e
    union_keeps all (m ∷ modules) x b e = union_keeps (with_new name all (items m)) modules x b (new_keeps all (items m) x b e)

    alike_all : (all : List A) (m : Module) (modules : List Module) → Apart (items m) → AllByRecursion (λ n. Alike all (items n)) modules → AllByRecursion (λ n. Alike (items m) (items n)) modules → AllByRecursion (λ n. Alike (with_new name all (items m)) (items n)) modules
    alike_all all m [] apart h k = tt
    alike_all all m (n ∷ modules) apart h k = (alike_new all (items m) (items n) apart h.0 k.0, alike_all all m modules apart h.1 k.1)

    pub union_has : (all : List A) (modules : List Module) → AllByRecursion (λ m. Apart (items m)) modules → AllByRecursion (λ m. Alike all (items m)) modules → AllAlike modules → AllByRecursion (λ m. (x : List ℕ) (b : A) → named (items m) x ≡ Some b → named (of_modules name items all modules) x ≡ Some b) modules
    union_has all [] apart h k = tt
    union_has all (m ∷ modules) apart h k = (
      λ x b e. union_keeps (with_new name all (items m)) modules x b (new_has all (items m) apart.0 h.0 x b e),
      union_has (with_new name all (items m)) modules apart.1 (alike_all all m modules apart.0 h.1 k.0) k.1,
    )

    pub none_alike : (modules : List Module) → AllByRecursion (λ m. Alike [] (items m)) modules
    none_alike [] = tt
    none_alike (m ∷ modules) = (λ x a b e q. absurd cc, none_alike modules)
