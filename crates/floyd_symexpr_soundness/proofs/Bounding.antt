-- Where the bounds of its subscripts are true, a path is legal; and a path behind another.
use Rattle.std.proofs.Common.{◌≡◌, ℕ, suc, ◌-◌, Bool, true, false, ◌&&◌, int_le, int_lt, ◌<◌, lt-ltb, eqb-true, ℤ, pos, negsuc, ◌+ℤ◌, List, [], ◌∷◌, ◌++◌, length, map, Option, Some, None, Result, Ok, is_some, refl, sym, ap, ap₂, subst, ◌∙◌, if◌then◌else◌, arith}
use Rattle.std.specs.Prelude.{◌==◌, option_and_then, option_map, slice_get, unwrap_or}
use Rattle.std.specs.Option.{option_map_or}
use Rattle.std.proofs.lemmas.Bool.{and_parts}
use Rattle.std.proofs.lemmas.Int.{ints}
use Rattle.std.proofs.lemmas.List.{append-nil, append_assoc}
use Rattle.std.proofs.lemmas.Option.{same_Some}
use Rattle.floyd_text.specs.declared.refusal.No.{No}
use Rattle.floyd_ctypes.specs.Structs.{Structs}
use Rattle.floyd_tree_sorts.specs.declared.operators.Operator.TheVariants.{Add}
use Rattle.floyd_tree.specs.declared.paths.PathStep.{PathStep}
use Rattle.floyd_tree.specs.declared.paths.PathStep.TheVariants.{Field, Subscript}
use Rattle.floyd_tree.specs.Formulas.{PlainFormula}
use Rattle.floyd_tree.specs.Plain.{Plain, plains}
use Rattle.floyd_tree.specs.Types.{SizedType}
use Rattle.floyd_tree_values.specs.BuiltIns.{Env}
use Rattle.floyd_tree_values.specs.Data.{Number}
use Rattle.floyd_tree_values.specs.Means.{AllMean, Means}
use Rattle.floyd_truth.specs.Truth.{AllTrue}
use Rattle.floyd_assert_cells.specs.Types.{Sized, Step, Dot, At, in_range, is_legal, offset_at, size, step_offset}
use Rattle.floyd_assert_cells.specs.Types as z
use Rattle.floyd_assert_cells.proofs.FormLaws.{chained, mapped}
use Rattle.floyd_assert_meaning.specs.Parts.{PathMeans}
use Rattle.floyd_assert_meaning.specs.Settings.{Setting}
use Rattle.floyd_fieldpath.specs.Addresses.{on_type}
use Rattle.floyd_fieldpath.specs.Nested.{literal, type_after, type_at}
use Rattle.floyd_fieldpath.specs.Sums.{plus}
use Rattle.floyd_fieldpath_laws.proofs.AddressMeanings.{StepMeans, TypeMeans, after_means, first_size}
use Rattle.floyd_fieldpath_laws.proofs.TypeSorts.{is_element}
use Rattle.floyd_arith.proofs.Values.{Is}
use Rattle.floyd_symexpr_rows.specs.Formulas.{at_most, saying}
use Rattle.floyd_symexpr_laws.proofs.SideTruths.{all_true_first, all_true_second, at_most_is, saying_is}
use Rattle.floyd_symexpr_laws.proofs.TermMeanings.{folded_is, literal_is, ok_parts}
use Rattle.floyd_symexpr_paths.specs.declared.lvalue.Taken.{Taken}
use Rattle.floyd_symexpr_paths.specs.Bounds.{bounded_step, bounds, count, step_bounds, within}
use Rattle.floyd_symexpr_paths.specs.Places.{path_of}
use Rattle.floyd_symexpr_soundness.proofs.Reaching.{plus_folds}

-- ---- bounds

-- the type after a step
type_parts : {A : Type 0} (o : Option SizedType) (f : SizedType → Result A No) (a : A) → on_type o f ≡ Ok a → (t : SizedType) × (o ≡ Some t) × (f t ≡ Ok a)
type_parts (Some t) f a e = (t, refl, e)
type_parts None f a e = absurd cc

-- a step of which the bounds are said, or not
record BoundedStep (structs : Structs) (t : SizedType) (asked : Bool) (step : PathStep) (all : List PlainFormula) (u : SizedType) (more : List PlainFormula) : Type 0 where
  pub said : (if asked then step_bounds t step all else Ok all) ≡ Ok more
  pub after : type_after structs t step ≡ Some u

step_parts : (structs : Structs) (t : SizedType) (asked : Bool) (step : PathStep) (all : List PlainFormula) (u : SizedType) (more : List PlainFormula) → bounded_step structs t asked step all ≡ Ok (u, more) → BoundedStep structs t asked step all u more
step_parts structs t asked step all u more e =
    let p = ok_parts (if asked then step_bounds t step all else Ok all) (λ m. on_type (type_after structs t step) (λ after. Ok (after, m))) (u, more) e in
    let q = type_parts (type_after structs t step) (λ after. Ok (after, p.0)) (u, more) p.2 in
    let same : ◌≡◌ {A = SizedType × List PlainFormula} (q.0, p.0) (u, more) = cc in
    let type : q.0 ≡ u = ap (λ (r : SizedType × List PlainFormula). r.0) same in
    let list : p.0 ≡ more = ap (λ (r : SizedType × List PlainFormula). r.1) same in
    record { said = p.1 ∙ ap Ok list; after = q.1 ∙ ap Some type }

-- what is said stands behind what was said
abbrev pub Follows : List PlainFormula → List PlainFormula → Type 0
Follows all more = (new : List PlainFormula) × (more ≡ all ++ new)

follows_itself : (all : List PlainFormula) → Follows all all
follows_itself all = ([], sym (append-nil all))

follows_on : (a b c : List PlainFormula) → Follows a b → Follows b c → Follows a c
follows_on a b c p q = (p.0 ++ q.0, q.1 ∙ ap (λ l. l ++ q.0) p.1 ∙ append_assoc a p.0 q.0)

within_follows : (i n : Plain) (all more : List PlainFormula) → within i n all ≡ Ok more → Follows all more
within_follows i n all more e =
    let p = ok_parts (plus i (literal (pos 1))) (λ m. saying all (at_most (literal (pos 0)) i ∷ at_most m n ∷ [])) more e in
    (at_most (literal (pos 0)) i ∷ at_most p.0 n ∷ [], saying_is all (at_most (literal (pos 0)) i ∷ at_most p.0 n ∷ []) more p.2)

step_follows : (t : SizedType) (step : PathStep) (asked : Bool) (all more : List PlainFormula) → (if asked then step_bounds t step all else Ok all) ≡ Ok more → Follows all more
step_follows t step false all more e = let same : all ≡ more = cc in subst (Follows all) same (follows_itself all)
step_follows t (Field x) true all more e = let same : all ≡ more = cc in subst (Follows all) same (follows_itself all)
step_follows t (Subscript i) true all more e = within_follows i (count t) all more e

-- the first step of bounds, and the others
record BoundsOn (structs : Structs) (t : SizedType) (skip : ℕ) (taken : Taken) (form : List Taken) (all more : List PlainFormula) : Type 0 where
  pub type : SizedType
  pub middle : List PlainFormula
  pub step : BoundedStep structs t (skip == 0) taken.step all type middle
  pub rest : bounds structs type (skip - 1) form middle ≡ Ok more

bounds_on : (structs : Structs) (t : SizedType) (skip : ℕ) (taken : Taken) (form : List Taken) (all more : List PlainFormula) → bounds structs t skip (taken ∷ form) all ≡ Ok more → BoundsOn structs t skip taken form all more
bounds_on structs t skip taken form all more e =
    let p = ok_parts {A = SizedType × List PlainFormula} (bounded_step structs t (skip == 0) taken.step all) (λ m. bounds structs m.0 (skip - 1) form m.1) more e in
    record { type = p.0.0; middle = p.0.1; step = step_parts structs t (skip == 0) taken.step all p.0.0 p.0.1 p.1; rest = p.2 }

pub bounds_follow : (structs : Structs) (t : SizedType) (skip : ℕ) (form : List Taken) (all more : List PlainFormula) → bounds structs t skip form all ≡ Ok more → Follows all more
bounds_follow structs t skip [] all more e = let same : all ≡ more = cc in subst (Follows all) same (follows_itself all)
bounds_follow structs t skip (taken ∷ form) all more e =
    let b = bounds_on structs t skip taken form all more e in
    follows_on all b.middle more (step_follows t taken.step (skip == 0) all b.middle b.step.said) (bounds_follow structs b.type (skip - 1) form b.middle more b.rest)

not_zero : (n : ℕ) → (suc n == 0) ≡ false
not_zero n = by (suc n == 0) refl
  where
    by : (b : Bool) → (suc n == 0) ≡ b → b ≡ false
    by true e = let wrong : suc n ≡ 0 = eqb-true (suc n) 0 e in absurd (omega (arith, wrong))
    by false e = refl

one_less : (n : ℕ) → suc n - 1 ≡ n
one_less n = omega arith

-- past the steps of the part's own path the bounds are said of the others
pub bounds_past : (structs : Structs) (t w : SizedType) (own rest : List Taken) (all more : List PlainFormula) → type_at structs t (path_of own) ≡ Some w → bounds structs t (length own) (own ++ rest) all ≡ Ok more → bounds structs w 0 rest all ≡ Ok more
bounds_past structs t w [] rest all more e f = let same : t ≡ w = same_Some t w e in subst (λ u. bounds structs u 0 rest all ≡ Ok more) same f
bounds_past structs t w (taken ∷ own) rest all more e f =
    let b = bounds_on structs t (suc (length own)) taken (own ++ rest) all more f in
    let said : ◌≡◌ {A = Result (List PlainFormula) No} (Ok all) (Ok b.middle) = subst (λ asked. (if asked then step_bounds t taken.step all else Ok all) ≡ Ok b.middle) (not_zero (length own)) b.step.said in
    let middle : all ≡ b.middle = cc in
    let typed : type_at structs b.type (path_of own) ≡ Some w = sym (ap (option_and_then (λ u. type_at structs u (path_of own))) b.step.after) ∙ e in
    let behind : bounds structs b.type (length own) (own ++ rest) b.middle ≡ Ok more = subst (λ k. bounds structs b.type k (own ++ rest) b.middle ≡ Ok more) (one_less (length own)) b.rest in
    subst (λ m. bounds structs w 0 rest m ≡ Ok more) (sym middle) (bounds_past structs b.type w own rest b.middle more typed behind)

module _ (S : Setting) (env : Env) where
  abbrev pub AllSay : List PlainFormula → Type 0
  AllSay fs = AllTrue S.defs S.has_spec env fs

  pub said_before : (all more : List PlainFormula) → Follows all more → AllSay more → AllSay all
  said_before all more p k = all_true_first S.defs S.has_spec env all p.0 (subst AllSay p.1 k)

  smaller : (k m : ℕ) → int_le (pos k +ℤ pos 1) (pos m) ≡ true → k < m
  smaller k m f = omega (arith, ints, f)

  -- a subscript in its bounds is one of its array
  below : (y n : ℤ) → int_le (pos 0) y ≡ true → int_le (y +ℤ pos 1) n ≡ true → (int_le (pos 0) y && int_lt y n) ≡ true
  below (pos k) (pos m) e f = ap₂ (λ p q. p && q) e (lt-ltb k m (smaller k m f))
  below (pos k) (negsuc m) e f = absurd cc
  below (negsuc k) n e f = absurd cc

  subscript_below : (t a : SizedType) (T : Sized) (i : Plain) (y : ℤ) (all more : List PlainFormula) → TypeMeans S.defs env t T → type_after S.defs.structs t (Subscript i) ≡ Some a → Means S.defs env i (Number y) → within i (count t) all ≡ Ok more → AllSay more → in_range T (At y) ≡ true
  subscript_below t a T i y all more m e mean f say =
      let k = is_element t.shape t.sizes a e in
      let q = first_size S.defs env k.count a.sizes T.sizes (subst (λ ts. AllMean S.defs env (plains ts) (map Number T.sizes)) k.sizes_are m.sizes) in
      let size_is : count t ≡ k.count = ap (λ ts. unwrap_or (slice_get ts 0) (literal (pos 0))) k.sizes_are in
      let p = ok_parts (plus i (literal (pos 1))) (λ n. saying all (at_most (literal (pos 0)) i ∷ at_most n (count t) ∷ [])) more f in
      let sides = at_most (literal (pos 0)) i ∷ at_most p.0 (count t) ∷ [] in
      let own = all_true_second S.defs S.has_spec env all sides (subst AllSay (saying_is all sides more p.2) say) in
      let number : Is S.defs env i y = record { datum = Number y; means = mean; number = refl } in
      let next = folded_is S.defs env Add i (literal (pos 1)) p.0 y (pos 1) (y +ℤ pos 1) (sym (plus_folds i (literal (pos 1))) ∙ p.1) number (literal_is S.defs env (pos 1)) refl in
      let whole : Is S.defs env (count t) q.0 = subst (λ u. Is S.defs env u q.0) (sym size_is) (record { datum = Number q.0; means = q.3; number = refl }) in
      let low = at_most_is S.defs S.has_spec env (literal (pos 0)) i (pos 0) y own.0 (literal_is S.defs env (pos 0)) number in
      let high = at_most_is S.defs S.has_spec env p.0 (count t) (y +ℤ pos 1) q.0 own.1.0 next whole in
      ap (λ ns. z.is_below ns y) q.2 ∙ below y q.0 low high

  step_legal : (t a : SizedType) (T : Sized) (step : PathStep) (i : Step) (all more : List PlainFormula) → TypeMeans S.defs env t T → type_after S.defs.structs t step ≡ Some a → StepMeans S.defs env step i → step_bounds t step all ≡ Ok more → AllSay more → in_range T i ≡ true
  step_legal t a T (Field x) (Dot y) all more m e k f say = refl
  step_legal t a T (Subscript i) (At y) all more m e k f say = subscript_below t a T i y all more m e k f say
  step_legal t a T (Field x) (At y) all more m e k f say = absurd k
  step_legal t a T (Subscript i) (Dot y) all more m e k f say = absurd k

  legal_on : (T U : Sized) (i : Step) (steps : List Step) → in_range T i ≡ true → z.type_after S.defs.structs T i ≡ Some U → is_legal S.defs.structs U steps ≡ true → is_legal S.defs.structs T (i ∷ steps) ≡ true
  legal_on T U i steps e f g = ap₂ (λ p q. p && q) e (ap (λ o. option_map_or (λ u. is_legal S.defs.structs u steps) o false) f ∙ g)

  taken_legal : (taken : Taken) (i : Step) (steps : List Step) (form : List Taken) (t : SizedType) (T V : Sized) (all more : List PlainFormula) → TypeMeans S.defs env t T → StepMeans S.defs env taken.step i → z.type_at S.defs.structs T (i ∷ steps) ≡ Some V →
      bounds S.defs.structs t 0 (taken ∷ form) all ≡ Ok more → AllSay more →
      ((u : SizedType) (U : Sized) (middle : List PlainFormula) → TypeMeans S.defs env u U → z.type_at S.defs.structs U steps ≡ Some V → bounds S.defs.structs u 0 form middle ≡ Ok more → is_legal S.defs.structs U steps ≡ true) →
      is_legal S.defs.structs T (i ∷ steps) ≡ true
  taken_legal taken i steps form t T V all more m k e f say further =
      let structs = S.defs.structs in
      let b = bounds_on structs t 0 taken form all more f in
      let a = after_means S.defs env t b.type T taken.step i m k b.step.after in
      let nested : z.type_at structs a.0 steps ≡ Some V = sym (ap (option_and_then (λ u. z.type_at structs u steps)) a.1) ∙ e in
      let middle = said_before b.middle more (bounds_follow structs b.type 0 form b.middle more b.rest) say in
      legal_on T a.0 i steps (step_legal t b.type T taken.step i all b.middle m b.step.after k b.step.said middle) a.1 (further b.type a.0 b.middle a.2 nested b.rest)

  step_of : (step : PathStep) (path : List PathStep) (i : Step) (steps : List Step) → PathMeans S.defs env (step ∷ path) (i ∷ steps) → StepMeans S.defs env step i × PathMeans S.defs env path steps
  step_of (Field x) path (Dot y) steps m = m
  step_of (Subscript x) path (At y) steps m = m
  step_of (Field x) path (At y) steps m = absurd m
  step_of (Subscript x) path (Dot y) steps m = absurd m

  no_steps : (step : PathStep) (path : List PathStep) → PathMeans S.defs env (step ∷ path) [] → ⊥
  no_steps (Field x) path m = m
  no_steps (Subscript x) path m = m

  some_size : (o : Option ℤ) (T V : Sized) → (if is_some o then Some T else None) ≡ Some V → is_some o ≡ true
  some_size (Some n) T V e = refl
  some_size None T V e = absurd cc

  -- a path whose subscripts are in their bounds is legal
  pub bounds_legal : (form : List Taken) (steps : List Step) (t : SizedType) (T V : Sized) (all more : List PlainFormula) → TypeMeans S.defs env t T → PathMeans S.defs env (path_of form) steps → z.type_at S.defs.structs T steps ≡ Some V →
      bounds S.defs.structs t 0 form all ≡ Ok more → AllSay more → is_legal S.defs.structs T steps ≡ true
  bounds_legal [] [] t T V all more m k e f say = some_size (size S.defs.structs T) T V e
  bounds_legal [] (i ∷ steps) t T V all more m k e f say = absurd k
  bounds_legal (taken ∷ form) [] t T V all more m k e f say = absurd (no_steps taken.step (path_of form) k)
  bounds_legal (taken ∷ form) (i ∷ steps) t T V all more m k e f say =
      let p = step_of taken.step (path_of form) i steps k in
      taken_legal taken i steps form t T V all more m p.0 e f say (λ u U middle n nested rest. bounds_legal form steps u U V middle more n p.1 nested rest say)

-- ---- a path behind another

pub record Joined (structs : Structs) (T V : Sized) (p q : List Step) (x y : ℤ) : Type 0 where
  pub nested : z.type_at structs T (p ++ q) ≡ Some V
  pub shifted : offset_at structs T (p ++ q) ≡ Some (x +ℤ y)
  pub legal : is_legal structs T (p ++ q) ≡ true

if_some : {A : Type 0} (o : Option ℤ) (a b : A) → (if is_some o then Some a else None) ≡ Some b → a ≡ b
if_some (Some n) a b e = same_Some a b e
if_some None a b e = absurd cc

nothing_first : (x y : ℤ) → pos 0 ≡ x → y ≡ x +ℤ y
nothing_first x y e = omega (arith, ints, e)

regrouped : (o r x y : ℤ) → o +ℤ r ≡ x → o +ℤ (r +ℤ y) ≡ x +ℤ y
regrouped o r x y e = omega (arith, ints, e)

legal_step : (o : Option Sized) (U : Sized) (F : Sized → Bool) → o ≡ Some U → option_map_or F o false ≡ true → F U ≡ true
legal_step o U F e f = ap (λ p. option_map_or F p false) (sym e) ∙ f

pub joined : (structs : Structs) (p q : List Step) (T U V : Sized) (x y : ℤ) → z.type_at structs T p ≡ Some U → offset_at structs T p ≡ Some x → is_legal structs T p ≡ true →
    z.type_at structs U q ≡ Some V → offset_at structs U q ≡ Some y → is_legal structs U q ≡ true → Joined structs T V p q x y
joined structs [] q T U V x y e f l g h k =
    let type : T ≡ U = if_some (size structs T) T U e in
    let none : pos 0 ≡ x = if_some (size structs T) (pos 0) x f in
    record {
      nested = ap (λ w. z.type_at structs w q) type ∙ g;
      shifted = ap (λ w. offset_at structs w q) type ∙ h ∙ ap Some (nothing_first x y none);
      legal = ap (λ w. is_legal structs w q) type ∙ k;
    }
joined structs (i ∷ p) q T U V x y e f l g h k =
    let a = chained (λ w. z.type_at structs w p) (z.type_after structs T i) U e in
    let o = chained (λ o. option_and_then (λ w. option_map (λ rest. o +ℤ rest) (offset_at structs w p)) (z.type_after structs T i)) (step_offset structs T i) x f in
    let b = chained (λ w. option_map (λ rest. o.0 +ℤ rest) (offset_at structs w p)) (z.type_after structs T i) x o.2 in
    let r = mapped (λ rest. o.0 +ℤ rest) (offset_at structs b.0 p) x b.2 in
    let same : b.0 ≡ a.0 = same_Some b.0 a.0 (sym b.1 ∙ a.1) in
    let parts = and_parts (in_range T i) (option_map_or (λ w. is_legal structs w p) (z.type_after structs T i) false) l in
    let s = joined structs p q a.0 U V r.0 y a.2 (ap (λ w. offset_at structs w p) (sym same) ∙ r.1) (legal_step (z.type_after structs T i) a.0 (λ w. is_legal structs w p) a.1 parts.1) g h k in
    record {
      nested = ap (option_and_then (λ w. z.type_at structs w (p ++ q))) a.1 ∙ s.nested;
      shifted = ap (option_and_then (λ o. option_and_then (λ w. option_map (λ rest. o +ℤ rest) (offset_at structs w (p ++ q))) (z.type_after structs T i))) o.1
          ∙ ap (option_and_then (λ w. option_map (λ rest. o.0 +ℤ rest) (offset_at structs w (p ++ q)))) a.1
          ∙ ap (option_map (λ rest. o.0 +ℤ rest)) s.shifted
          ∙ ap Some (regrouped o.0 r.0 x y r.2);
      legal = ap₂ (λ m n. m && n) parts.0 (ap (λ o. option_map_or (λ w. is_legal structs w (p ++ q)) o false) a.1 ∙ s.legal);
    }
