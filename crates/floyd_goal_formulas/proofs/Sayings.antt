-- What a formula says at its head, as a fact about values.
use Rattle.std.proofs.Common.{◌≡◌, ◌⊎◌, ℕ, ◌+◌, Bool, true, ◌&&◌, List, [], ◌∷◌, Option, Some, None, ℤ, refl, sym, ap, subst, ◌∙◌}
use Rattle.std.specs.Prelude.{int_le, nat_eq, length}
use Rattle.floyd_int.specs.declared.kinds.Value.{Value}
use Rattle.floyd_int.specs.declared.kinds.Value.TheVariants.{Vundef, Vptr}
use Rattle.floyd_tree_sorts.specs.declared.connectives.FormulaHead.TheVariants as f
use Rattle.floyd_tree_sorts.specs.declared.shape.Shape.{Shape}
use Rattle.floyd_tree_sorts.specs.declared.sorts.Sort.{Sort, Z}
use Rattle.floyd_tree_sorts.specs.Rows.{takes, numbers_then_val, is_scalar}
use Rattle.floyd_tree_sorts.specs.Sorts.{is_z}
use Rattle.floyd_tree_sorts.specs.Table.{arrays}
use Rattle.floyd_tree_sorts.proofs.SortLemmas.{both_true}
use Rattle.floyd_tree.specs.Formulas.{PlainFormula, PlainFormulas, Says, NoFormula, MoreFormulas, listed_formulas}
use Rattle.floyd_tree.specs.Plain.{Plain, Plains, Done, More, listed}
use Rattle.floyd_tree.specs.WellSorted.{sort_of, sorts_of}
use Rattle.floyd_tree_values.specs.BuiltIns.{Env}
use Rattle.floyd_tree_values.specs.Data.{Datum, Number, Val}
use Rattle.floyd_tree_values.specs.Means.{Defs, Means, AllMean, more, none}
use Rattle.floyd_tree_values.specs.Rules.{Scope, Suits, DefsKeep, CallsOf, AllAllowed}
use Rattle.floyd_tree_values.proofs.OneValue.{split, no_data}
use Rattle.floyd_truth.specs.Truth.{Truth, numbers_then}
use Rattle.floyd_truth.specs.Types.{has_shape}
use Rattle.floyd_goal_formulas.specs.Said.{Saying, Equation, Inequality, Pointer, NotUndefined, OfType, Implication, Either, Both, ForAll, ThereIs, Else, said, of_pair, of_one, pair_of, one_of, last_of}
use Rattle.floyd_goal_formulas.specs.Fits.{Fits}
use Rattle.floyd_goal_formulas.proofs.Values.{first_some, some_value, a_number, sorted, is_z_is}

module _ (defs : Defs) (specs : List ℕ → Value → Bool) (env : Env) where
  -- of another kind of formula it is P
  abbrev pub SaidTrue : Type 0 → Saying → Type 0
  SaidTrue P (Equation a b) = (d : Datum) × Means defs env a d × Means defs env b d
  SaidTrue P (Inequality a b) = (m : ℤ) × (n : ℤ) × Means defs env a (Number m) × Means defs env b (Number n) × (int_le m n ≡ true)
  SaidTrue P (Pointer v) = (block : ℕ) × (offset : ℕ) × Means defs env v (Val (Vptr block offset))
  SaidTrue P (NotUndefined v) = (w : Value) × Means defs env v (Val w) × ¬ (w ≡ Vundef)
  SaidTrue P (OfType shape v) = (w : Value) × Means defs env v (Val w) × (has_shape shape w ≡ true)
  SaidTrue P (Implication a b) = Truth defs specs env a → Truth defs specs env b
  SaidTrue P (Either a b) = Truth defs specs env a ⊎ Truth defs specs env b
  SaidTrue P (Both a b) = Truth defs specs env a × Truth defs specs env b
  SaidTrue P saying = P

  -- the terms have values
  abbrev pub Values : Saying → Type 0
  Values (Equation a b) = (d : Datum) × Means defs env a d
  Values (Inequality a b) = (m : ℤ) × (n : ℤ) × Means defs env a (Number m) × Means defs env b (Number n)
  Values (Pointer v) = (d : Datum) × Means defs env v d
  Values (NotUndefined v) = (d : Datum) × Means defs env v d
  Values (OfType shape v) = (d : Datum) × Means defs env v d
  Values saying = Unit {0}

  all_pairs : {T : Type 0} (P : Saying → Type 0) (says : T → T → Saying) (o : Option (T × T)) → P Else → ((a b : T) → P (says a b)) → P (of_pair says o)
  all_pairs P says None p h = p
  all_pairs P says (Some q) p h = h q.0 q.1

  all_ones : {T : Type 0} (P : Saying → Type 0) (says : T → Saying) (o : Option T) → P Else → ((a : T) → P (says a)) → P (of_one says o)
  all_ones P says None p h = p
  all_ones P says (Some a) p h = h a

  last_both : (ts : Plains) (ds : List Datum) → AllMean defs env ts ds → (v : Plain) → last_of (listed ts) ≡ Some v → (d : Datum) → last_of ds ≡ Some d → Means defs env v d
  last_both Done ds all v e d g = absurd cc
  last_both (More t Done) ds all v e d g =
      let p = split all in
      let one : ds ≡ p.datum ∷ [] = p.is ∙ ap (λ x. p.datum ∷ x) (no_data p.rest) in
      let last : last_of (p.datum ∷ []) ≡ Some d = ap last_of (sym one) ∙ g in
      let same : p.datum ≡ d = cc in
      let own : t ≡ v = cc in
      subst (λ u. Means defs env u d) own (subst (Means defs env t) same p.first)
  last_both (More t (More u ts)) ds all v e d g =
      let p = split all in
      let q = split p.rest in
      let two : ds ≡ p.datum ∷ q.datum ∷ q.data' = p.is ∙ ap (λ x. p.datum ∷ x) q.is in
      let last : last_of (p.datum ∷ q.datum ∷ q.data') ≡ Some d = ap last_of (sym two) ∙ g in
      last_both (More u ts) p.data' p.rest v e d (ap last_of q.is ∙ last)

  last_number : (zs : List ℤ) (d : Datum) → last_of (numbers_then zs d) ≡ Some d
  last_number [] d = refl
  last_number (z ∷ []) d = refl
  last_number (z ∷ y ∷ zs) d = last_number (y ∷ zs) d

  two_mean : (a b : Plain) (d e : Datum) → AllMean defs env (More a (More b Done)) (d ∷ e ∷ []) → Means defs env a d × Means defs env b e
  two_mean a b d e all =
      let p = split all in
      let q = split p.rest in
      let first : p.datum ≡ d = cc (p.is) in
      let rest : e ∷ [] ≡ p.data' = cc (p.is) in
      let second : q.datum ≡ e = cc (rest, q.is) in
      (subst (Means defs env a) first p.first, subst (Means defs env b) second q.first)

  one_means : (a : Plain) (d : Datum) → AllMean defs env (More a Done) (d ∷ []) → Means defs env a d
  one_means a d all =
      let p = split all in
      let first : p.datum ≡ d = cc (p.is) in
      subst (Means defs env a) first p.first

  of_type : (shape : Shape) (ts : Plains) (w : Value) (zs : List ℤ) → AllMean defs env ts (numbers_then zs (Val w)) → has_shape shape w ≡ true → (o : Option Plain) → last_of (listed ts) ≡ o → SaidTrue (Unit {0}) (of_one (OfType shape) o)
  of_type shape ts w zs all h None e = tt
  of_type shape ts w zs all h (Some v) e = (w, last_both ts (numbers_then zs (Val w)) all v e (Val w) (last_number zs (Val w)), h)

  -- what a true formula says is so
  pub truth_said : (a : PlainFormula) → Truth defs specs env a → SaidTrue (Unit {0}) (said a)
  truth_said (Says f.True ts fs) t = tt
  truth_said (Says f.False ts fs) t = tt
  truth_said (Says f.Implies ts NoFormula) t = tt
  truth_said (Says f.Implies ts (MoreFormulas a NoFormula)) t = tt
  truth_said (Says f.Implies ts (MoreFormulas a (MoreFormulas b NoFormula))) t = t
  truth_said (Says f.Implies ts (MoreFormulas a (MoreFormulas b (MoreFormulas c fs)))) t = tt
  truth_said (Says f.Or ts NoFormula) t = tt
  truth_said (Says f.Or ts (MoreFormulas a NoFormula)) t = tt
  truth_said (Says f.Or ts (MoreFormulas a (MoreFormulas b NoFormula))) t = t
  truth_said (Says f.Or ts (MoreFormulas a (MoreFormulas b (MoreFormulas c fs)))) t = tt
  truth_said (Says f.And ts NoFormula) t = tt
  truth_said (Says f.And ts (MoreFormulas a NoFormula)) t = tt
  truth_said (Says f.And ts (MoreFormulas a (MoreFormulas b NoFormula))) t = t
  truth_said (Says f.And ts (MoreFormulas a (MoreFormulas b (MoreFormulas c fs)))) t = tt
  truth_said (Says (f.Forall x s) ts fs) t = all_ones (SaidTrue (Unit {0})) (ForAll x s) (one_of (listed_formulas fs)) tt (λ a. tt)
  truth_said (Says (f.Exists x s) ts fs) t = all_ones (SaidTrue (Unit {0})) (ThereIs x s) (one_of (listed_formulas fs)) tt (λ a. tt)
  truth_said (Says f.Equal Done fs) t = tt
  truth_said (Says f.Equal (More a Done) fs) t = tt
  truth_said (Says f.Equal (More a (More b Done)) fs) t = let p = two_mean a b t.0 t.0 t.1 in (t.0, p.0, p.1)
  truth_said (Says f.Equal (More a (More b (More c ts))) fs) t = tt
  truth_said (Says f.AtMost Done fs) t = tt
  truth_said (Says f.AtMost (More a Done) fs) t = tt
  truth_said (Says f.AtMost (More a (More b Done)) fs) t = let p = two_mean a b (Number t.0) (Number t.1) t.2 in (t.0, t.1, p.0, p.1, t.3)
  truth_said (Says f.AtMost (More a (More b (More c ts))) fs) t = tt
  truth_said (Says f.IsPtr Done fs) t = tt
  truth_said (Says f.IsPtr (More v Done) fs) t = (t.0, t.1, one_means v (Val (Vptr t.0 t.1)) t.2)
  truth_said (Says f.IsPtr (More v (More w ts)) fs) t = tt
  truth_said (Says f.Defined Done fs) t = tt
  truth_said (Says f.Defined (More v Done) fs) t = (t.0, one_means v (Val t.0) t.1, t.2)
  truth_said (Says f.Defined (More v (More w ts)) fs) t = tt
  truth_said (Says (f.Hasty shape) ts fs) t = of_type shape ts t.1 t.0 t.2 t.3 (last_of (listed ts)) refl
  truth_said (Says (f.Compatible shape path) ts fs) t = tt
  truth_said (Says (f.FuncPtr name) ts fs) t = tt

  no_one : {T : Type 0} (says : T → Saying) (o : Option T) → ((a : T) → SaidTrue ⊥ (says a) → ⊥) → SaidTrue ⊥ (of_one says o) → ⊥
  no_one says None h p = p
  no_one says (Some a) h p = h a p

module _ (defs : Defs) (specs : List ℕ → Value → Bool) (scope : Scope) (env : Env) (keeps : DefsKeep defs) (suits : Suits scope env) where
  -- the terms of an inequality are numbers
  two_numbers : (a b : Plain) (kids : PlainFormulas) → Fits defs scope (Says f.AtMost (More a (More b Done)) kids) → (sort_of a ≡ Some Z) × (sort_of b ≡ Some Z)
  two_numbers a b kids fit =
      let s = sorted f.AtMost (More a (More b Done)) kids fit.sorted in
      let p = first_some (sort_of a) (sorts_of (More b Done)) s.sorts s.are in
      let q = first_some (sort_of b) (sorts_of Done) p.1 p.3 in
      let none' : q.1 ≡ [] = cc (q.3) in
      let are : s.sorts ≡ p.0 ∷ q.0 ∷ [] = p.4 ∙ ap (λ x. p.0 ∷ x) (q.4 ∙ ap (λ x. q.0 ∷ x) none') in
      let h : takes f.AtMost (p.0 ∷ q.0 ∷ []) (length (listed_formulas kids)) ≡ true = subst (λ x. takes f.AtMost x (length (listed_formulas kids)) ≡ true) are s.taken in
      let zs = both_true (is_z p.0) (is_z q.0) (both_true (nat_eq (length (listed_formulas kids)) 0) (is_z p.0 && is_z q.0) h).1 in
      (p.2 ∙ ap (λ x. Some x) (is_z_is p.0 zs.0), q.2 ∙ ap (λ x. Some x) (is_z_is q.0 zs.1))

  last_valued : (ts : Plains) (sorts : List Sort) → sorts_of ts ≡ Some sorts → AllAllowed defs.structs scope (CallsOf defs.funs) ts → (v : Plain) → last_of (listed ts) ≡ Some v → (d : Datum) × Means defs env v d
  last_valued Done sorts e al v g = absurd cc
  last_valued (More t Done) sorts e al v g =
      let own : t ≡ v = cc in
      subst (λ u. (d : Datum) × Means defs env u d) own (some_value defs scope env keeps suits t Done sorts e al.0)
  last_valued (More t (More u ts)) sorts e al v g =
      let p = first_some (sort_of t) (sorts_of (More u ts)) sorts e in
      last_valued (More u ts) p.1 p.3 al.1 v g

  valued_last : (shape : Shape) (ts : Plains) (sorts : List Sort) → sorts_of ts ≡ Some sorts → AllAllowed defs.structs scope (CallsOf defs.funs) ts → (o : Option Plain) → last_of (listed ts) ≡ o → Values defs specs env (of_one (OfType shape) o)
  valued_last shape ts sorts e al None g = tt
  valued_last shape ts sorts e al (Some v) g = last_valued ts sorts e al v g

  pub values_said : (a : PlainFormula) → Fits defs scope a → Values defs specs env (said a)
  values_said (Says f.True ts fs) fit = tt
  values_said (Says f.False ts fs) fit = tt
  values_said (Says f.Implies ts fs) fit = all_pairs defs specs env (Values defs specs env) Implication (pair_of (listed_formulas fs)) tt (λ a b. tt)
  values_said (Says f.Or ts fs) fit = all_pairs defs specs env (Values defs specs env) Either (pair_of (listed_formulas fs)) tt (λ a b. tt)
  values_said (Says f.And ts fs) fit = all_pairs defs specs env (Values defs specs env) Both (pair_of (listed_formulas fs)) tt (λ a b. tt)
  values_said (Says (f.Forall x s) ts fs) fit = all_ones defs specs env (Values defs specs env) (ForAll x s) (one_of (listed_formulas fs)) tt (λ a. tt)
  values_said (Says (f.Exists x s) ts fs) fit = all_ones defs specs env (Values defs specs env) (ThereIs x s) (one_of (listed_formulas fs)) tt (λ a. tt)
  values_said (Says f.Equal Done fs) fit = tt
  values_said (Says f.Equal (More a Done) fs) fit = tt
  values_said (Says f.Equal (More a (More b Done)) fs) fit =
      let s = sorted f.Equal (More a (More b Done)) fs fit.sorted in
      some_value defs scope env keeps suits a (More b Done) s.sorts s.are fit.allowed.0.0
  values_said (Says f.Equal (More a (More b (More c ts))) fs) fit = tt
  values_said (Says f.AtMost Done fs) fit = tt
  values_said (Says f.AtMost (More a Done) fs) fit = tt
  values_said (Says f.AtMost (More a (More b Done)) fs) fit =
      let p = two_numbers a b fs fit in
      let m = a_number defs scope env keeps suits a fit.allowed.0.0 p.0 in
      let n = a_number defs scope env keeps suits b fit.allowed.0.1.0 p.1 in
      (m.0, n.0, m.1, n.1)
  values_said (Says f.AtMost (More a (More b (More c ts))) fs) fit = tt
  values_said (Says f.IsPtr Done fs) fit = tt
  values_said (Says f.IsPtr (More v Done) fs) fit =
      let s = sorted f.IsPtr (More v Done) fs fit.sorted in
      some_value defs scope env keeps suits v Done s.sorts s.are fit.allowed.0.0
  values_said (Says f.IsPtr (More v (More w ts)) fs) fit = tt
  values_said (Says f.Defined Done fs) fit = tt
  values_said (Says f.Defined (More v Done) fs) fit =
      let s = sorted f.Defined (More v Done) fs fit.sorted in
      some_value defs scope env keeps suits v Done s.sorts s.are fit.allowed.0.0
  values_said (Says f.Defined (More v (More w ts)) fs) fit = tt
  values_said (Says (f.Hasty shape) ts fs) fit =
      let s = sorted (f.Hasty shape) ts fs fit.sorted in
      valued_last shape ts s.sorts s.are fit.allowed.0 (last_of (listed ts)) refl
  values_said (Says (f.Compatible shape path) ts fs) fit = tt
  values_said (Says (f.FuncPtr name) ts fs) fit = tt

  -- sizes and then a value
  sizes_then : (ts : Plains) (sorts : List Sort) → sorts_of ts ≡ Some sorts → numbers_then_val sorts ≡ true → AllAllowed defs.structs scope (CallsOf defs.funs) ts → (v : Plain) → last_of (listed ts) ≡ Some v → (w : Value) → Means defs env v (Val w) → (zs : List ℤ) × AllMean defs env ts (numbers_then zs (Val w))
  sizes_then Done sorts e h al v g w m = absurd cc
  sizes_then (More t Done) sorts e h al v g w m =
      let own : v ≡ t = cc in
      ([], more (subst (λ u. Means defs env u (Val w)) own m) none)
  sizes_then (More t (More u ts)) sorts e h al v g w m =
      let p = first_some (sort_of t) (sorts_of (More u ts)) sorts e in
      let q = first_some (sort_of u) (sorts_of ts) p.1 p.3 in
      let are : sorts ≡ p.0 ∷ q.0 ∷ q.1 = p.4 ∙ ap (λ x. p.0 ∷ x) q.4 in
      let k : numbers_then_val (p.0 ∷ q.0 ∷ q.1) ≡ true = subst (λ x. numbers_then_val x ≡ true) are h in
      let both = both_true (is_z p.0) (numbers_then_val (q.0 ∷ q.1)) k in
      let z = a_number defs scope env keeps suits t al.0 (p.2 ∙ ap (λ x. Some x) (is_z_is p.0 both.0)) in
      let rest = sizes_then (More u ts) p.1 p.3 (subst (λ x. numbers_then_val x ≡ true) (sym q.4) both.1) al.1 v g w m in
      (z.0 ∷ rest.0, more z.1 rest.1)

  has_type : (shape : Shape) (ts : Plains) (fs : PlainFormulas) → Fits defs scope (Says (f.Hasty shape) ts fs) → (o : Option Plain) → last_of (listed ts) ≡ o → SaidTrue defs specs env ⊥ (of_one (OfType shape) o) → Truth defs specs env (Says (f.Hasty shape) ts fs)
  has_type shape ts fs fit None g t = absurd t
  has_type shape ts fs fit (Some v) g t =
      let s = sorted (f.Hasty shape) ts fs fit.sorted in
      let n = length (listed_formulas fs) in
      let tail : Bool = nat_eq (length s.sorts) (arrays shape + 1) && numbers_then_val s.sorts in
      let a = both_true (is_scalar shape) (nat_eq n 0 && tail) s.taken in
      let b = both_true (nat_eq n 0) tail a.1 in
      let c = both_true (nat_eq (length s.sorts) (arrays shape + 1)) (numbers_then_val s.sorts) b.1 in
      let all = sizes_then ts s.sorts s.are c.1 fit.allowed.0 v g t.0 t.1 in
      (all.0, t.0, all.1, t.2)

  -- a formula is true where what it says is so
  pub said_truth : (a : PlainFormula) → Fits defs scope a → SaidTrue defs specs env ⊥ (said a) → Truth defs specs env a
  said_truth (Says f.True ts fs) fit t = absurd t
  said_truth (Says f.False ts fs) fit t = absurd t
  said_truth (Says f.Implies ts NoFormula) fit t = absurd t
  said_truth (Says f.Implies ts (MoreFormulas a NoFormula)) fit t = absurd t
  said_truth (Says f.Implies ts (MoreFormulas a (MoreFormulas b NoFormula))) fit t = t
  said_truth (Says f.Implies ts (MoreFormulas a (MoreFormulas b (MoreFormulas c fs)))) fit t = absurd t
  said_truth (Says f.Or ts NoFormula) fit t = absurd t
  said_truth (Says f.Or ts (MoreFormulas a NoFormula)) fit t = absurd t
  said_truth (Says f.Or ts (MoreFormulas a (MoreFormulas b NoFormula))) fit t = t
  said_truth (Says f.Or ts (MoreFormulas a (MoreFormulas b (MoreFormulas c fs)))) fit t = absurd t
  said_truth (Says f.And ts NoFormula) fit t = absurd t
  said_truth (Says f.And ts (MoreFormulas a NoFormula)) fit t = absurd t
  said_truth (Says f.And ts (MoreFormulas a (MoreFormulas b NoFormula))) fit t = t
  said_truth (Says f.And ts (MoreFormulas a (MoreFormulas b (MoreFormulas c fs)))) fit t = absurd t
  said_truth (Says (f.Forall x s) ts fs) fit t = absurd (no_one defs specs env (ForAll x s) (one_of (listed_formulas fs)) (λ a p. p) t)
  said_truth (Says (f.Exists x s) ts fs) fit t = absurd (no_one defs specs env (ThereIs x s) (one_of (listed_formulas fs)) (λ a p. p) t)
  said_truth (Says f.Equal Done fs) fit t = absurd t
  said_truth (Says f.Equal (More a Done) fs) fit t = absurd t
  said_truth (Says f.Equal (More a (More b Done)) fs) fit t = (t.0, more t.1 (more t.2 none))
  said_truth (Says f.Equal (More a (More b (More c ts))) fs) fit t = absurd t
  said_truth (Says f.AtMost Done fs) fit t = absurd t
  said_truth (Says f.AtMost (More a Done) fs) fit t = absurd t
  said_truth (Says f.AtMost (More a (More b Done)) fs) fit t = (t.0, t.1, more t.2 (more t.3 none), t.4)
  said_truth (Says f.AtMost (More a (More b (More c ts))) fs) fit t = absurd t
  said_truth (Says f.IsPtr Done fs) fit t = absurd t
  said_truth (Says f.IsPtr (More v Done) fs) fit t = (t.0, t.1, more t.2 none)
  said_truth (Says f.IsPtr (More v (More w ts)) fs) fit t = absurd t
  said_truth (Says f.Defined Done fs) fit t = absurd t
  said_truth (Says f.Defined (More v Done) fs) fit t = (t.0, more t.1 none, t.2)
  said_truth (Says f.Defined (More v (More w ts)) fs) fit t = absurd t
  said_truth (Says (f.Hasty shape) ts fs) fit t = has_type shape ts fs fit (last_of (listed ts)) refl t
  said_truth (Says (f.Compatible shape path) ts fs) fit t = absurd t
  said_truth (Says (f.FuncPtr name) ts fs) fit t = absurd t
