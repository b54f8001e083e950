-- Two parts at one region lie at one place.
use Rattle.std.proofs.Common.{◌≡◌, ℕ, ◌+◌, ℤ, pos, List, [], ◌∷◌, map, Option, Some, refl, sym, ap, ap₂, subst, ◌∙◌}
use Rattle.std.proofs.lemmas.Option.{same_Some}
use Rattle.floyd_int.specs.declared.kinds.Value.{Value}
use Rattle.floyd_int.specs.declared.kinds.Value.TheVariants.{Vptr}
use Rattle.floyd_ctypes.specs.Structs.{Structs}
use Rattle.floyd_clight_heap.specs.Heaplet.{Heaplet}
use Rattle.floyd_tree.specs.declared.paths.PathStep.{PathStep}
use Rattle.floyd_tree.specs.declared.paths.PathStep.TheVariants.{Field, Subscript}
use Rattle.floyd_tree.specs.Plain.{Plain}
use Rattle.floyd_tree_values.specs.BuiltIns.{Env}
use Rattle.floyd_tree_values.specs.Data.{Number, Val, number_in}
use Rattle.floyd_tree_values.specs.Means.{Defs}
use Rattle.floyd_tree_values.proofs.OneValue.{one_list, one_value}
use Rattle.floyd_assert_cells.specs.Cells.{Located}
use Rattle.floyd_assert_cells.specs.Types.{Sized, Step, Dot, At}
use Rattle.floyd_assert_trees.specs.declared.sep.Region.{Region}
use Rattle.floyd_assert_meaning.specs.Parts.{PathMeans, RegionMeans}
use Rattle.floyd_shares.specs.Shares.{shared}

numbers_back : (zs : List ℤ) → map number_in (map Number zs) ≡ zs
numbers_back [] = refl
numbers_back (z ∷ zs) = ap (λ ys. z ∷ ys) (numbers_back zs)

same_numbers : (xs ys : List ℤ) → map Number xs ≡ map Number ys → xs ≡ ys
same_numbers xs ys e = sym (numbers_back xs) ∙ ap (map number_in) e ∙ numbers_back ys

number_is : (x y : ℤ) → Number x ≡ Number y → x ≡ y
number_is x y e = cc

value_is : (v w : Value) → Val v ≡ Val w → v ≡ w
value_is v w e = cc

module _ (defs : Defs) (env : Env) where
  one_path : (path : List PathStep) (is js : List Step) → PathMeans defs env path is → PathMeans defs env path js → is ≡ js
  one_path [] [] [] m n = refl
  one_path (Field x ∷ path) (Dot y ∷ is) (Dot z ∷ js) m n = ap₂ (λ a as'. Dot a ∷ as') (sym m.0 ∙ n.0) (one_path path is js m.1 n.1)
  one_path (Subscript t ∷ path) (At i ∷ is) (At j ∷ js) m n = ap₂ (λ a as'. At a ∷ as') (number_is i j (one_value defs m.0 (Number j) n.0)) (one_path path is js m.1 n.1)
  one_path [] [] (j ∷ js) m n = absurd n
  one_path [] (i ∷ is) js m n = absurd m
  one_path (Field x ∷ path) (Dot y ∷ is) [] m n = absurd n
  one_path (Field x ∷ path) (Dot y ∷ is) (At j ∷ js) m n = absurd n
  one_path (Field x ∷ path) [] js m n = absurd m
  one_path (Field x ∷ path) (At i ∷ is) js m n = absurd m
  one_path (Subscript t ∷ path) (At i ∷ is) [] m n = absurd n
  one_path (Subscript t ∷ path) (At i ∷ is) (Dot y ∷ js) m n = absurd n
  one_path (Subscript t ∷ path) [] js m n = absurd m
  one_path (Subscript t ∷ path) (Dot y ∷ is) js m n = absurd m

  -- the sizes, the path and the root do not look at the share
  module _ (r : Region) (a b : Plain) (m : RegionMeans defs env (shared r a)) (k : RegionMeans defs env (shared r b)) where
    pub one_sizes : k.sizes ≡ m.sizes
    one_sizes = same_numbers k.sizes m.sizes (one_list defs k.of_sizes (map Number m.sizes) m.of_sizes)

    pub one_steps : k.path ≡ m.path
    one_steps = one_path r.path k.path m.path k.of_path m.of_path

    pub one_root : k.root ≡ m.root
    one_root = value_is k.root m.root (one_value defs k.of_root (Val m.root) m.of_root)

-- ---- the place

pub same_block : (b o c p : ℕ) → Vptr b o ≡ Vptr c p → (b ≡ c) × (o ≡ p)
same_block b o c p e = (cc, cc)

pub same_shift : (m n : ℕ) → ◌≡◌ {A = Option ℤ} (Some (pos m)) (Some (pos n)) → m ≡ n
same_shift m n e = cc

-- what holds of the type at a place
abbrev pub Holding : Type 1
Holding = Sized → ℕ → ℕ → Heaplet → Type 0

pub at_one_place : (Q : Holding) (structs : Structs) (t : Sized) (path : List Step) (root : Value) (l k : Located structs t path root) (h : Heaplet) → Q k.type k.block (k.offset + k.shift) h → Q l.type l.block (l.offset + l.shift) h
at_one_place Q structs t path root l k h q =
    let place = same_block k.block k.offset l.block l.offset (sym k.points ∙ l.points) in
    let type : k.type ≡ l.type = same_Some {A = Sized} k.type l.type (sym k.nested ∙ l.nested) in
    let shift : k.shift ≡ l.shift = same_shift k.shift l.shift (sym k.shifted ∙ l.shifted) in
    subst (λ u. Q u l.block (l.offset + l.shift) h) type (subst (λ b. Q k.type b (l.offset + l.shift) h) place.0 (subst (λ o. Q k.type k.block o h) (ap₂ (λ x y. x + y) place.1 shift) q))
