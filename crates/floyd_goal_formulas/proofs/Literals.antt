-- What is known of a formula by its literals is so.
use Rattle.std.proofs.Common.{◌≡◌, ◌⊎◌, ℕ, Bool, true, false, not, cond, List, [], ◌∷◌, Option, Some, None, ℤ, refl, sym, ap, subst, ◌∙◌, inl, inr, ⊎_elim, true≢false}
use Rattle.std.specs.Prelude.{int_le, option_map}
use Rattle.std.specs.Ordering.{int_eq}
use Rattle.std.proofs.lemmas.Bool.Decides.{Decides-int_eq}
use Rattle.floyd_int.specs.declared.kinds.Value.{Value}
use Rattle.floyd_tree_sorts.specs.declared.connectives.FormulaHead.{FormulaHead}
use Rattle.floyd_tree_sorts.specs.declared.connectives.FormulaHead.TheVariants as f
use Rattle.floyd_tree_sorts.specs.declared.heads.Head.{Head}
use Rattle.floyd_tree_sorts.specs.declared.heads.Head.TheVariants.{Literal}
use Rattle.floyd_tree_sorts.specs.declared.sorts.Sort.{Sort}
use Rattle.floyd_tree_sorts.proofs.SortLemmas.{both_true}
use Rattle.floyd_tree.specs.Formulas.{PlainFormula, PlainFormulas, Says, NoFormula, MoreFormulas, well_sorted, all_well_sorted, takes_all, form_of}
use Rattle.floyd_tree.specs.Plain.{Plain, Plains, At, Done, More}
use Rattle.floyd_tree.specs.WellSorted.{sort_of, sorts_of}
use Rattle.floyd_tree_values.specs.BuiltIns.{Env}
use Rattle.floyd_tree_values.specs.Data.{Datum, Number}
use Rattle.floyd_tree_values.specs.Means.{Defs, Means, AllMean, more, none}
use Rattle.floyd_tree_values.specs.Rules.{Scope, Suits, DefsKeep, CallsOf, AllAllowed}
use Rattle.floyd_tree_values.proofs.OneValue.{applies, split}
use Rattle.floyd_truth.specs.Truth.{Truth}
use Rattle.floyd_goal_formulas.specs.Known.{literal_of, number_in, compared, known, and_known, or_known, not_known, is_absurd}
use Rattle.floyd_goal_formulas.specs.Fits.{Fits, AreAllowed, scope_below}
use Rattle.floyd_goal_formulas.proofs.Values.{first_some, some_value, sorted}

pub literal_head : (head : Head) (z : ℤ) → number_in head ≡ Some z → head ≡ Literal z
literal_head (Literal y) z e = cc
literal_head head z e = absurd cc

pub number_is : (m n : ℤ) → Number m ≡ Number n → m ≡ n
number_is m n e = cc

-- a literal means its number
pub literal_means : (defs : Defs) (env : Env) (t : Plain) (z : ℤ) (d : Datum) → literal_of t ≡ Some z → Means defs env t d → d ≡ Number z
literal_means defs env (At (Literal y) kids) z d e m = (applies refl m).is ∙ cc
literal_means defs env (At head kids) z d e m = absurd cc

pub record Literals (test : ℤ → ℤ → Bool) (a b : Plain) (answer : Bool) : Type 0 where
  pub first : ℤ
  pub second : ℤ
  pub left : literal_of a ≡ Some first
  pub right : literal_of b ≡ Some second
  pub says : test first second ≡ answer

pub literals : (test : ℤ → ℤ → Bool) (a b : Plain) (answer : Bool) → compared test (literal_of a) (literal_of b) ≡ Some answer → Literals test a b answer
literals test a b answer e = by (literal_of a) refl (literal_of b) refl e
  where
    by : (p : Option ℤ) → literal_of a ≡ p → (q : Option ℤ) → literal_of b ≡ q → compared test p q ≡ Some answer → Literals test a b answer
    by (Some m) g (Some n) h e = record { first = m; second = n; left = g; right = h; says = cc }
    by (Some m) g None h e = absurd cc
    by None g q h e = absurd cc

and_true : (p q : Option Bool) → and_known p q ≡ Some true → (p ≡ Some true) × (q ≡ Some true)
and_true (Some true) q e = (refl, e)
and_true (Some false) q e = absurd cc
and_true None (Some true) e = absurd cc
and_true None (Some false) e = absurd cc
and_true None None e = absurd cc

and_false : (p q : Option Bool) → and_known p q ≡ Some false → (p ≡ Some false) ⊎ (q ≡ Some false)
and_false (Some true) q e = inr e
and_false (Some false) q e = inl refl
and_false None (Some true) e = absurd cc
and_false None (Some false) e = inr refl
and_false None None e = absurd cc

or_true : (p q : Option Bool) → or_known p q ≡ Some true → (p ≡ Some true) ⊎ (q ≡ Some true)
or_true (Some true) q e = inl refl
or_true (Some false) q e = inr e
or_true None (Some true) e = inr refl
or_true None (Some false) e = absurd cc
or_true None None e = absurd cc

or_false : (p q : Option Bool) → or_known p q ≡ Some false → (p ≡ Some false) × (q ≡ Some false)
or_false (Some true) q e = absurd cc
or_false (Some false) q e = (refl, e)
or_false None (Some true) e = absurd cc
or_false None (Some false) e = absurd cc
or_false None None e = absurd cc

not_is : (p : Option Bool) (b : Bool) → option_map not p ≡ Some b → p ≡ Some (not b)
not_is (Some true) b e = cc
not_is (Some false) b e = cc
not_is None b e = absurd cc

-- the negation of a formula
record Negates (g : PlainFormula) (p : Option Bool) (b : Bool) : Type 0 where
  pub absurd' : is_absurd (form_of g) ≡ true
  pub known' : p ≡ Some (not b)

negates : (g : PlainFormula) (p : Option Bool) (b : Bool) → not_known g p ≡ Some b → Negates g p b
negates g p b e = by (is_absurd (form_of g)) refl e
  where
    by : (c : Bool) → is_absurd (form_of g) ≡ c → cond c (option_map not p) None ≡ Some b → Negates g p b
    by true h e = record { absurd' = h; known' = not_is p b e }
    by false h e = absurd cc

-- both formulas are well formed
pub kids_fit : (defs : Defs) (scope : Scope) (terms : Plains) (head : FormulaHead) (a b : PlainFormula) → scope_below head scope ≡ scope → Fits defs scope (Says head terms (MoreFormulas a (MoreFormulas b NoFormula))) → Fits defs scope a × Fits defs scope b
kids_fit defs scope terms head a b same fit =
    let kids = both_true (takes_all head (sorts_of terms) 2) (all_well_sorted (MoreFormulas a (MoreFormulas b NoFormula))) fit.sorted in
    let first = both_true (well_sorted a) (all_well_sorted (MoreFormulas b NoFormula)) kids.1 in
    let second = both_true (well_sorted b) true first.1 in
    let allowed : AreAllowed defs scope (MoreFormulas a (MoreFormulas b NoFormula)) = subst (λ x. AreAllowed defs x (MoreFormulas a (MoreFormulas b NoFormula))) same fit.allowed.1 in
    (record { sorted = first.0; allowed = allowed.0 }, record { sorted = second.0; allowed = allowed.1.0 })

module _ (defs : Defs) (specs : List ℕ → Value → Bool) (env : Env) where
  -- what is False is not true
  pub absurd_false : (g : PlainFormula) → is_absurd (form_of g) ≡ true → Truth defs specs env g → ⊥
  absurd_false (Says f.False terms kids) h p = p
  absurd_false (Says head terms kids) h p = absurd cc

module _ (defs : Defs) (specs : List ℕ → Value → Bool) (scope : Scope) (env : Env) (keeps : DefsKeep defs) (suits : Suits scope env) where
  -- two literals have their numbers
  literals_mean : (a b : Plain) (sorts : List Sort) (m n : ℤ) → sorts_of (More a (More b Done)) ≡ Some sorts → AllAllowed defs.structs scope (CallsOf defs.funs) (More a (More b Done)) → literal_of a ≡ Some m → literal_of b ≡ Some n → AllMean defs env (More a (More b Done)) (Number m ∷ Number n ∷ [])
  literals_mean a b sorts m n e al g h =
      let p = first_some (sort_of a) (sorts_of (More b Done)) sorts e in
      let v = some_value defs scope env keeps suits a (More b Done) sorts e al.0 in
      let w = some_value defs scope env keeps suits b Done p.1 p.3 al.1.0 in
      more (subst (Means defs env a) (literal_means defs env a m v.0 g v.1) v.1)
      (more (subst (Means defs env b) (literal_means defs env b n w.0 h w.1) w.1) none)

  -- numbers that two literals mean
  numbers : (a b : Plain) (m n : ℤ) (d e : Datum) → literal_of a ≡ Some m → literal_of b ≡ Some n → AllMean defs env (More a (More b Done)) (d ∷ e ∷ []) → (d ≡ Number m) × (e ≡ Number n)
  numbers a b m n d e g h all =
      let p = split all in
      let q = split p.rest in
      let first : d ≡ p.datum = cc (p.is) in
      let more' : e ∷ [] ≡ p.data' = cc (p.is) in
      let second : e ≡ q.datum = cc (more', q.is) in
      (first ∙ literal_means defs env a m p.datum g p.first, second ∙ literal_means defs env b n q.datum h q.first)

  -- the formula is true, or it is not
  abbrev Holds : Bool → PlainFormula → Type 0
  Holds true a = Truth defs specs env a
  Holds false a = Truth defs specs env a → ⊥

  equal_holds : (a b : Plain) (kids : PlainFormulas) (sorts : List Sort) → sorts_of (More a (More b Done)) ≡ Some sorts → AllAllowed defs.structs scope (CallsOf defs.funs) (More a (More b Done)) → (answer : Bool) → Literals int_eq a b answer → Holds answer (Says f.Equal (More a (More b Done)) kids)
  equal_holds a b kids sorts e al true l =
      let same : l.first ≡ l.second = (Decides-int_eq l.first l.second).0 l.says in
      let right : literal_of b ≡ Some l.first = l.right ∙ ap (λ z. Some z) (sym same) in
      (Number l.first, literals_mean a b sorts l.first l.first e al l.left right)
  equal_holds a b kids sorts e al false l = λ t.
      let p = numbers a b l.first l.second t.0 t.0 l.left l.right t.1 in
      let same : l.first ≡ l.second = number_is l.first l.second (sym p.0 ∙ p.1) in
      let yes : int_eq l.first l.second ≡ true = (Decides-int_eq l.first l.second).1 same in
      true≢false (sym yes ∙ l.says)

  order_holds : (a b : Plain) (kids : PlainFormulas) (sorts : List Sort) → sorts_of (More a (More b Done)) ≡ Some sorts → AllAllowed defs.structs scope (CallsOf defs.funs) (More a (More b Done)) → (answer : Bool) → Literals int_le a b answer → Holds answer (Says f.AtMost (More a (More b Done)) kids)
  order_holds a b kids sorts e al true l = (l.first, l.second, literals_mean a b sorts l.first l.second e al l.left l.right, l.says)
  order_holds a b kids sorts e al false l = λ t.
      let p = numbers a b l.first l.second (Number t.0) (Number t.1) l.left l.right t.2 in
      let first : t.0 ≡ l.first = number_is t.0 l.first p.0 in
      let second : t.1 ≡ l.second = number_is t.1 l.second p.1 in
      let no : int_le t.0 t.1 ≡ false = ap (λ m. int_le m t.1) first ∙ ap (λ n. int_le l.first n) second ∙ l.says in
      true≢false (sym t.3 ∙ no)

  both_hold : (a b : PlainFormula) (terms : Plains) (answer : Bool) → and_known (known a) (known b) ≡ Some answer → ((c : Bool) → known a ≡ Some c → Holds c a) → ((c : Bool) → known b ≡ Some c → Holds c b) → Holds answer (Says f.And terms (MoreFormulas a (MoreFormulas b NoFormula)))
  both_hold a b terms true e h k = let p = and_true (known a) (known b) e in (h true p.0, k true p.1)
  both_hold a b terms false e h k = λ t. ⊎_elim (λ p. h false p t.0) (λ p. k false p t.1) (and_false (known a) (known b) e)

  either_holds : (a b : PlainFormula) (terms : Plains) (answer : Bool) → or_known (known a) (known b) ≡ Some answer → ((c : Bool) → known a ≡ Some c → Holds c a) → ((c : Bool) → known b ≡ Some c → Holds c b) → Holds answer (Says f.Or terms (MoreFormulas a (MoreFormulas b NoFormula)))
  either_holds a b terms true e h k = ⊎_elim (λ p. inl (h true p)) (λ p. inr (k true p)) (or_true (known a) (known b) e)
  either_holds a b terms false e h k = λ t. let p = or_false (known a) (known b) e in ⊎_elim (h false p.0) (k false p.1) t

  not_holds : (a b : PlainFormula) (terms : Plains) (answer : Bool) → not_known b (known a) ≡ Some answer → ((c : Bool) → known a ≡ Some c → Holds c a) → Holds answer (Says f.Implies terms (MoreFormulas a (MoreFormulas b NoFormula)))
  not_holds a b terms true e h = λ t. let p = negates b (known a) true e in absurd (h false p.known' t)
  not_holds a b terms false e h = λ t. let p = negates b (known a) false e in absurd_false defs specs env b p.absurd' (t (h true p.known'))

  pub known_holds : (a : PlainFormula) → Fits defs scope a → (answer : Bool) → known a ≡ Some answer → Holds answer a
  known_holds (Says f.Equal (More a (More b Done)) NoFormula) fit answer e =
      let s = sorted f.Equal (More a (More b Done)) NoFormula fit.sorted in
      equal_holds a b NoFormula s.sorts s.are fit.allowed.0 answer (literals int_eq a b answer e)
  known_holds (Says f.Equal (More a (More b Done)) (MoreFormulas g gs)) fit answer e = absurd cc
  known_holds (Says f.Equal (More a (More b (More c ts))) kids) fit answer e = absurd cc
  known_holds (Says f.Equal (More a Done) kids) fit answer e = absurd cc
  known_holds (Says f.Equal Done kids) fit answer e = absurd cc
  known_holds (Says f.AtMost (More a (More b Done)) NoFormula) fit answer e =
      let s = sorted f.AtMost (More a (More b Done)) NoFormula fit.sorted in
      order_holds a b NoFormula s.sorts s.are fit.allowed.0 answer (literals int_le a b answer e)
  known_holds (Says f.AtMost (More a (More b Done)) (MoreFormulas g gs)) fit answer e = absurd cc
  known_holds (Says f.AtMost (More a (More b (More c ts))) kids) fit answer e = absurd cc
  known_holds (Says f.AtMost (More a Done) kids) fit answer e = absurd cc
  known_holds (Says f.AtMost Done kids) fit answer e = absurd cc
  known_holds (Says f.And terms (MoreFormulas a (MoreFormulas b NoFormula))) fit answer e =
      let fits = kids_fit defs scope terms f.And a b refl fit in
      both_hold a b terms answer e (known_holds a fits.0) (known_holds b fits.1)
  known_holds (Says f.And terms NoFormula) fit answer e = absurd cc
  known_holds (Says f.And terms (MoreFormulas a NoFormula)) fit answer e = absurd cc
  known_holds (Says f.And terms (MoreFormulas a (MoreFormulas b (MoreFormulas c gs)))) fit answer e = absurd cc
  known_holds (Says f.Or terms (MoreFormulas a (MoreFormulas b NoFormula))) fit answer e =
      let fits = kids_fit defs scope terms f.Or a b refl fit in
      either_holds a b terms answer e (known_holds a fits.0) (known_holds b fits.1)
  known_holds (Says f.Or terms NoFormula) fit answer e = absurd cc
  known_holds (Says f.Or terms (MoreFormulas a NoFormula)) fit answer e = absurd cc
  known_holds (Says f.Or terms (MoreFormulas a (MoreFormulas b (MoreFormulas c gs)))) fit answer e = absurd cc
  known_holds (Says f.Implies terms (MoreFormulas a (MoreFormulas b NoFormula))) fit answer e =
      let fits = kids_fit defs scope terms f.Implies a b refl fit in
      not_holds a b terms answer e (known_holds a fits.0)
  known_holds (Says f.Implies terms NoFormula) fit answer e = absurd cc
  known_holds (Says f.Implies terms (MoreFormulas a NoFormula)) fit answer e = absurd cc
  known_holds (Says f.Implies terms (MoreFormulas a (MoreFormulas b (MoreFormulas c gs)))) fit answer e = absurd cc
  known_holds (Says head terms kids) fit answer e = absurd cc
