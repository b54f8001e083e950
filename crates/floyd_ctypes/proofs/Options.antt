-- Options that are read one after another.
use Rattle.std.proofs.Common.{◌≡◌, Bool, true, false, cond, Option, None, Some, option_map, option_and_then, is_some, true≢false, refl, sym}

module _ {A B : Type 0} where
  -- a map that gives a value had one
  pub map_some : (f : A → B) (o : Option A) (b : B) → option_map f o ≡ Some b → (a : A) × (o ≡ Some a) × (f a ≡ b)
  map_some f None b e = cc
  map_some f (Some a) b e = (a, refl, cc)

  -- so had a second step
  pub then_some : (g : A → Option B) (o : Option A) (b : B) → option_and_then g o ≡ Some b → (a : A) × (o ≡ Some a) × (g a ≡ Some b)
  then_some g None b e = cc
  then_some g (Some a) b e = (a, refl, e)

  -- two second steps that agree where there was a first
  pub then_agree : (g h : A → Option B) (o : Option A) → ((a : A) → o ≡ Some a → g a ≡ h a) → option_and_then g o ≡ option_and_then h o
  then_agree g h None agree = refl
  then_agree g h (Some a) agree = agree a refl

module _ {A B C : Type 0} where
  pub then-map : (f : B → C) (g : A → Option B) (h : A → Option C) → ((a : A) → option_map f (g a) ≡ h a) → (o : Option A) → option_map f (option_and_then g o) ≡ option_and_then h o
  then-map f g h agree None = refl
  then-map f g h agree (Some a) = agree a

  pub then-then : (f : B → Option C) (g : A → Option B) (h : A → Option C) (o : Option A) → ((a : A) → o ≡ Some a → option_and_then f (g a) ≡ h a) → option_and_then f (option_and_then g o) ≡ option_and_then h o
  then-then f g h None agree = refl
  then-then f g h (Some a) agree = agree a refl

module _ {B C : Type 0} where
  pub map-cond : (f : B → C) (b : Bool) (x : B) (y : Option B) (z : Option C) → option_map f y ≡ z → option_map f (cond b (Some x) y) ≡ cond b (Some (f x)) z
  map-cond f true x y z e = refl
  map-cond f false x y z e = e

  pub then-cond : (f : B → Option C) (b : Bool) (x : B) (y : Option B) (w z : Option C) → f x ≡ w → option_and_then f y ≡ z → option_and_then f (cond b (Some x) y) ≡ cond b w z
  then-cond f true x y w z d e = d
  then-cond f false x y w z d e = e

pub is_none : {A : Type 0} (o : Option A) → false ≡ is_some o → None ≡ o
is_none None e = refl
is_none (Some a) e = absurd (true≢false (sym e))
