-- How many bytes the steps of a form add, by the types that stand beside them.
use Rattle.std.proofs.Common.{◌≡◌, ℕ, Bool, true, false, ◌⊎◌, inl, inr, ℤ, pos, ◌+ℤ◌, ◌*ℤ◌, List, [], ◌∷◌, ◌++◌, Option, Some, None, refl, sym, subst, ◌∙◌, if◌then◌else◌, arith}
use Rattle.std.specs.Option.{option_map_or}
use Rattle.std.specs.Ordering.{int_eq}
use Rattle.std.proofs.lemmas.Int.{ints}
use Rattle.std.proofs.lemmas.Bool.Decides.{Decides-int_eq}
use Rattle.floyd_ctypes.specs.declared.ctype.CType.{CType}
use Rattle.floyd_ctypes.specs.Layout.{offset, size}
use Rattle.floyd_tree_sorts.specs.declared.shape.Shape.{Struct}
use Rattle.floyd_tree_sorts.specs.declared.sorts.Sort.{Z}
use Rattle.floyd_tree.specs.declared.paths.PathStep.{PathStep}
use Rattle.floyd_tree.specs.declared.paths.PathStep.TheVariants.{Field, Subscript}
use Rattle.floyd_tree.specs.Plain.{Plain}
use Rattle.floyd_tree.specs.Types.{SizedType}
use Rattle.floyd_tree.specs.WellSorted.{sort_of}
use Rattle.floyd_tree_values.specs.BuiltIns.{Env}
use Rattle.floyd_tree_values.specs.Data.{Number}
use Rattle.floyd_tree_values.specs.Means.{Defs, Means}
use Rattle.floyd_fieldpath.specs.Nested.{sized_type}
use Rattle.floyd_fieldpath.specs.Sums.{is_zero, literal_in}
use Rattle.floyd_symexpr_laws.proofs.TermMeanings.{literal_in_is, literal_means}
use Rattle.floyd_symexpr_paths.specs.declared.lvalue.Taken.{Taken}
use Rattle.floyd_symexpr_paths.specs.Locating.{is_first, with_first, without_first}

-- a form of the path of an object: as it is, without a leading `[0]`, or with one more
abbrev pub IsFormOf : List Taken → List Taken → Type 0
IsFormOf form used = (used ≡ form) ⊎ ((without_first form ≡ Some used) ⊎ (used ≡ with_first form))

module _ (defs : Defs) (env : Env) where
  -- the offset of a field in the struct that stands beside it
  pub record FieldAdds (x : List ℕ) (t : SizedType) (z : ℤ) : Type 0 where
    pub tag : List ℕ
    pub shape : t.shape ≡ Struct tag
    pub place : ℕ
    pub at : offset defs.structs tag x ≡ Some place
    pub bytes : z ≡ pos place

  -- a subscript times the size of the element that stands beside it, where that has one; the subscript 0 adds nothing
  pub record ElementAdds (i : Plain) (t : SizedType) (z : ℤ) : Type 0 where
    pub element : CType
    pub is : t ≡ sized_type element
    pub subscript : ℤ
    pub means : Means defs env i (Number subscript)
    pub sorted : sort_of i ≡ Some Z
    pub bytes : (n : ℕ) → size defs.structs element ≡ Some n → z ≡ pos n *ℤ subscript
    pub nothing : subscript ≡ pos 0 → z ≡ pos 0

  -- the subscript 0, beside which no type stands
  pub record ZeroAdds (i : Plain) (z : ℤ) : Type 0 where
    pub means : Means defs env i (Number (pos 0))
    pub sorted : sort_of i ≡ Some Z
    pub bytes : z ≡ pos 0

  abbrev pub StepAdds : PathStep → Option SizedType → ℤ → Type 0
  StepAdds (Field x) (Some t) z = FieldAdds x t z
  StepAdds (Field x) None z = ⊥
  StepAdds (Subscript i) (Some t) z = ElementAdds i t z
  StepAdds (Subscript i) None z = ZeroAdds i z

  abbrev pub Adds : List Taken → ℤ → Type 0
  Adds [] z = z ≡ pos 0
  Adds (taken ∷ form) z = (one : ℤ) × (rest : ℤ) × StepAdds taken.step taken.ty one × Adds form rest × (z ≡ one +ℤ rest)

  -- with one more step at the end
  pub adds_on : (form : List Taken) (taken : Taken) (z s : ℤ) → Adds form z → StepAdds taken.step taken.ty s → Adds (form ++ taken ∷ []) (z +ℤ s)
  adds_on [] taken z s a b = (s, pos 0, b, refl, omega (arith, ints, a))
  adds_on (t ∷ form) taken z s a b = (a.0, a.1 +ℤ s, a.2, adds_on form taken a.1 s a.3 b, omega (arith, ints, a.4))

  -- of the first steps, and of those behind them
  pub adds_parts : (own rest : List Taken) (z : ℤ) → Adds (own ++ rest) z → (x : ℤ) × (y : ℤ) × Adds own x × Adds rest y × (z ≡ x +ℤ y)
  adds_parts [] rest z a = (pos 0, z, refl, a, omega (arith, ints))
  adds_parts (t ∷ own) rest z a =
      let p = adds_parts own rest a.1 a.3 in
      (a.0 +ℤ p.0, p.1, (a.0, p.0, a.2, p.2, refl), p.3, omega (arith, ints, a.4, p.4))

  -- ---- the forms of a path

  zero_is : (i : Plain) (y : ℤ) → is_zero i ≡ true → Means defs env i (Number y) → y ≡ pos 0
  zero_is i y e m = by (literal_in i) refl e
    where
      by : (o : Option ℤ) → literal_in i ≡ o → option_map_or (λ z. int_eq z (pos 0)) o false ≡ true → y ≡ pos 0
      by (Some z) f g = literal_in_is defs env i z y f (record { datum = Number y; means = m; number = refl }) ∙ (Decides-int_eq z (pos 0)).0 g
      by None f g = absurd cc

  zero_step : (step : PathStep) (ty : Option SizedType) (z : ℤ) → is_first step ≡ true → StepAdds step ty z → z ≡ pos 0
  zero_step (Field x) ty z e a = absurd cc
  zero_step (Subscript i) None z e a = a.bytes
  zero_step (Subscript i) (Some t) z e a = a.nothing (zero_is i a.subscript e a.means)

  without_adds : (form used : List Taken) (z : ℤ) → without_first form ≡ Some used → Adds form z → Adds used z
  without_adds [] used z e a = absurd cc
  without_adds (taken ∷ form) used z e a = by (is_first taken.step) refl e
    where
      by : (b : Bool) → is_first taken.step ≡ b → (if b then Some form else None) ≡ Some used → Adds used z
      by true f g =
          let same : form ≡ used = cc in
          let first : a.0 ≡ pos 0 = zero_step taken.step taken.ty a.0 f a.2 in
          let sum : a.1 ≡ z = omega (arith, ints, first, a.4) in
          subst (λ l. Adds l z) same (subst (Adds form) sum a.3)
      by false f g = absurd cc

  with_adds : (form : List Taken) (z : ℤ) → Adds form z → Adds (with_first form) z
  with_adds form z a =
      (pos 0, z, record { means = literal_means defs env (pos 0); sorted = refl; bytes = refl }, a, omega (arith, ints))

  -- each form adds the same
  pub form_adds : (form used : List Taken) (z : ℤ) → IsFormOf form used → Adds form z → Adds used z
  form_adds form used z (inl e) a = subst (λ l. Adds l z) (sym e) a
  form_adds form used z (inr (inl e)) a = without_adds form used z e a
  form_adds form used z (inr (inr e)) a = subst (λ l. Adds l z) (sym e) (with_adds form z a)
