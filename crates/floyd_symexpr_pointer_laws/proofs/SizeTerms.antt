-- The values of sizes as terms, and of pointers that are moved.
use Rattle.std.proofs.Common.{◌≡◌, ℕ, ◌^◌, ◌<◌, Bool, true, false, ℤ, pos, ◌+ℤ◌, ◌-ℤ◌, ◌*ℤ◌, List, [], ◌∷◌, map, Option, Some, None, Result, Ok, refl, sym, ap, subst, ◌∙◌, if◌then◌else◌, arith}
use Rattle.std.specs.Prelude.{option_map}
use Rattle.std.specs.Option.{option_map_or}
use Rattle.std.specs.Ordering.{int_eq}
use Rattle.std.proofs.lemmas.Int.{ints}
use Rattle.std.proofs.lemmas.Bool.Decides.{Decides-int_eq}
use Rattle.floyd_text.specs.declared.refusal.No.{No}
use Rattle.floyd_int.specs.declared.kinds.Value.TheVariants.{Vptr}
use Rattle.floyd_int.specs.Kind.{modulo}
use Rattle.floyd_int.proofs.Modulo.{modulo-small}
use Rattle.floyd_ctypes.specs.declared.ctype.CType.{CType}
use Rattle.floyd_ctypes.specs.Layout as c
use Rattle.floyd_ctypes.specs.Structs.{Structs}
use Rattle.floyd_tree_sorts.specs.declared.heads.Head.TheVariants as h
use Rattle.floyd_tree_sorts.specs.declared.operators.Operator.TheVariants.{Mul, PtrAdd, Sub}
use Rattle.floyd_tree_sorts.specs.declared.shape.Shape.{Shape, Void, Int, Pointer', Array', Struct, Function', more_of-Shape, end_of-Shape}
use Rattle.floyd_tree.specs.Plain.{Plain, Done, More}
use Rattle.floyd_tree_values.specs.BuiltIns.{Env}
use Rattle.floyd_tree_values.specs.Data.{Val, number_in}
use Rattle.floyd_tree_values.specs.Means.{Defs, Means, built_in, more, none}
use Rattle.floyd_tree_values.specs.Values.{ptr_add}
use Rattle.floyd_assert_cells.specs.Types.{shape_of, size_by, sizes_of}
use Rattle.floyd_assert_cells.proofs.ObjectLaws.{layouts_agree}
use Rattle.floyd_fieldpath.specs.Addresses.{element_offset, number_or_zero, size_term}
use Rattle.floyd_fieldpath.specs.Nested.{literal, sized_type}
use Rattle.floyd_fieldpath.specs.Sums.{is_zero, literal_in, literal_or, moved, of_both, small, times, two}
use Rattle.floyd_fieldpath.specs.Written.{written}
use Rattle.floyd_folding.specs.Folding.{folded, number_of_two, of_literals}
use Rattle.floyd_arith.proofs.Values.{Is}
use Rattle.floyd_symexpr_pointers.specs.PointerRows.{directed, way}
use Rattle.floyd_symexpr_laws.proofs.TermMeanings.{folded_is, is_written, literal_at, literal_in_is, literal_is, ok_parts}

product_of_both : (o p : Option ℤ) → of_both (λ x y. x *ℤ y) o p ≡ of_literals (number_of_two Mul) o p
product_of_both (Some x) (Some y) = refl
product_of_both (Some x) None = refl
product_of_both None (Some y) = refl
product_of_both None None = refl

times_folds : (a b : Plain) → times a b ≡ folded Mul a b
times_folds a b = ap (λ o. literal_or (small o) (two Mul a b)) (product_of_both (literal_in a) (literal_in b))

mapped : {A B : Type 0} (f : A → B) (o : Option A) (y : B) → option_map f o ≡ Some y → (x : A) × (o ≡ Some x) × (f x ≡ y)
mapped f (Some x) y e = (x, refl, cc)
mapped f None y e = absurd cc

module _ (defs : Defs) (env : Env) where
  -- the terms have these numbers
  abbrev pub AreNumbers : List Plain → List ℤ → Type 0
  AreNumbers [] [] = Unit {0}
  AreNumbers [] (n ∷ ns) = ⊥
  AreNumbers (t ∷ ts) [] = ⊥
  AreNumbers (t ∷ ts) (n ∷ ns) = Is defs env t n × AreNumbers ts ns

  literals_are : (ns : List ℤ) → AreNumbers (map literal ns) ns
  literals_are [] = tt
  literals_are (n ∷ ns) = (literal_is defs env n, literals_are ns)

  size_number : (o : Option ℤ) (m : ℤ) (t : Plain) → o ≡ Some m → ◌≡◌ {A = Result Plain No} (Ok (number_or_zero o)) (Ok t) → Is defs env t m
  size_number (Some x) m t e f = literal_at defs env m t cc
  size_number None m t e f = absurd cc

  pub size_is : (structs : Structs) (shape : Shape) (ts : List Plain) (ns : List ℤ) (m : ℤ) (t : Plain) → AreNumbers ts ns → size_by structs shape ns ≡ Some m → size_term structs shape ts ≡ Ok t → Is defs env t m
  size_is structs Void ts ns m t k e f = absurd cc
  size_is structs (Int kind) ts ns m t k e f = size_number (size_by structs (Int kind) []) m t e f
  size_is structs (Pointer' p to) ts ns m t k e f = size_number (size_by structs (Pointer' p to) []) m t e f
  size_is structs (Array' p (more_of-Shape element end_of-Shape)) [] [] m t k e f = absurd cc
  size_is structs (Array' p (more_of-Shape element end_of-Shape)) [] (n ∷ ns) m t k e f = absurd k
  size_is structs (Array' p (more_of-Shape element end_of-Shape)) (u ∷ ts) [] m t k e f = absurd k
  size_is structs (Array' p (more_of-Shape element end_of-Shape)) (u ∷ ts) (n ∷ ns) m t k e f =
      let o = mapped (λ bytes. bytes *ℤ n) (size_by structs element ns) m e in
      let q = ok_parts (size_term structs element ts) (λ bytes. times bytes u) t f in
      let s = size_is structs element ts ns o.0 q.0 k.1 o.1 q.1 in
      folded_is defs env Mul q.0 u t o.0 n m (sym (times_folds q.0 u) ∙ q.2) s k.0 (ap Some o.2)
  size_is structs (Struct tag) ts ns m t k e f = size_number (size_by structs (Struct tag) []) m t e f
  size_is structs (Function' shape ps p r) ts ns m t k e f = absurd cc

  -- so many elements of a type of C, in bytes
  elements_are : (structs : Structs) (t : CType) (n : ℕ) (i b : Plain) (y : ℤ) → c.size structs t ≡ Some n → Is defs env i y → element_offset structs (sized_type t) i ≡ Ok b → Is defs env b (pos n *ℤ y)
  elements_are structs t n i b y e k f =
      let p = ok_parts (size_term structs (shape_of t) (map literal (sizes_of t))) (λ bytes. times bytes i) b f in
      let s : size_by structs (shape_of t) (sizes_of t) ≡ Some (pos n) = (layouts_agree structs t).0 ∙ ap (option_map pos) e in
      let bytes = size_is structs (shape_of t) (map literal (sizes_of t)) (sizes_of t) (pos n) p.0 (literals_are (sizes_of t)) s p.1 in
      folded_is defs env Mul p.0 i b (pos n) y (pos n *ℤ y) (sym (times_folds p.0 i) ∙ p.2) bytes k refl

  -- up, or down
  abbrev pub towards : Bool → ℤ → ℤ
  towards down z = if down then pos 0 -ℤ z else z

  pub way_is : (structs : Structs) (down : Bool) (t : CType) (n : ℕ) (i b : Plain) (y : ℤ) → c.size structs t ≡ Some n → Is defs env i y → way structs down t i ≡ Ok b → Is defs env b (towards down (pos n *ℤ y))
  way_is structs down t n i b y e k f =
      let p = ok_parts (element_offset structs (sized_type t) i) (directed down) b f in
      by down (elements_are structs t n i p.0 y e k p.1) p.2
    where
      by : (d : Bool) {m : Plain} → Is defs env m (pos n *ℤ y) → directed d m ≡ Ok b → Is defs env b (towards d (pos n *ℤ y))
      by true {m} i f = folded_is defs env Sub (literal (pos 0)) m b (pos 0) (pos n *ℤ y) (pos 0 -ℤ pos n *ℤ y) f (literal_is defs env (pos 0)) i refl
      by false {m} i f = let same : m ≡ b = cc in subst (λ u. Is defs env u (pos n *ℤ y)) same i

  -- ---- moved pointers

  nothing_more : (z : ℤ) → z +ℤ pos 0 ≡ z
  nothing_more z = omega (arith, ints)

  stays : (o : ℕ) → o < 2 ^ 64 → modulo (pos o +ℤ pos 0) (2 ^ 64) ≡ o
  stays o h = ap (λ z. modulo z (2 ^ 64)) (nothing_more (pos o)) ∙ modulo-small o (2 ^ 64) h

  zero_is : (b : Plain) (z : ℤ) → is_zero b ≡ true → Is defs env b z → z ≡ pos 0
  zero_is b z e i = by (literal_in b) refl e
    where
      by : (o : Option ℤ) → literal_in b ≡ o → option_map_or (λ y. int_eq y (pos 0)) o false ≡ true → z ≡ pos 0
      by (Some y) f g = literal_in_is defs env b y z f i ∙ (Decides-int_eq y (pos 0)).0 g
      by None f g = absurd cc

  pub moved_is : (p b r : Plain) (block offset : ℕ) (z : ℤ) → offset < 2 ^ 64 → Means defs env p (Val (Vptr block offset)) → Is defs env b z → moved p b ≡ Ok r → Means defs env r (Val (Vptr block (modulo (pos offset +ℤ z) (2 ^ 64))))
  moved_is p b r block offset z low m i e = by (is_zero b) refl e
    where
      by : (t : Bool) → is_zero b ≡ t → ◌≡◌ {A = Result Plain No} (if t then Ok p else written (two PtrAdd p b)) (Ok r) → Means defs env r (Val (Vptr block (modulo (pos offset +ℤ z) (2 ^ 64))))
      by true f g =
          let same : p ≡ r = cc in
          let here : offset ≡ modulo (pos offset +ℤ z) (2 ^ 64) = sym (ap (λ y. modulo (pos offset +ℤ y) (2 ^ 64)) (zero_is b z f i) ∙ stays offset low) in
          subst (λ u. Means defs env u (Val (Vptr block (modulo (pos offset +ℤ z) (2 ^ 64))))) same (subst (λ o. Means defs env p (Val (Vptr block o))) here m)
      by false f g =
          let w = is_written (two PtrAdd p b) r g in
          let d : Means defs env (two PtrAdd p b) (Val (ptr_add (Vptr block offset) (number_in i.datum))) =
          built_in {env = env} {head = h.Operator PtrAdd} {kids = More p (More b Done)} {s = w.sort} {ds = Val (Vptr block offset) ∷ i.datum ∷ []} refl w.sorted (more m (more i.means none)) in
          subst (λ (u : Plain). Means defs env u (Val (Vptr block (modulo (pos offset +ℤ z) (2 ^ 64))))) (sym w.same)
          (subst (λ (y : ℤ). Means defs env (two PtrAdd p b) (Val (ptr_add (Vptr block offset) y))) i.number d)
