-- The number of bytes that a path adds to its root, step by step.
use Rattle.std.proofs.Common.{◌≡◌, ℕ, ℤ, pos, ◌+ℤ◌, ◌*ℤ◌, List, [], ◌∷◌, ◌++◌, map, false, Option, Some, None, Result, Ok, refl, sym, ap, subst, ◌∙◌, arith}
use Rattle.std.specs.Prelude.{option_and_then, option_map, unwrap_or}
use Rattle.std.proofs.lemmas.Int.{ints}
use Rattle.std.proofs.Math.IntN.{*ℤ-zero}
use Rattle.floyd_text.specs.declared.refusal.No.{No}
use Rattle.floyd_ctypes.specs.declared.ctype.CType.{CType}
use Rattle.floyd_ctypes.specs.Layout.{offset, size}
use Rattle.floyd_ctypes.specs.Structs.{Structs}
use Rattle.floyd_tree_sorts.specs.declared.operators.Operator.TheVariants.{Add, Mul}
use Rattle.floyd_tree_sorts.specs.declared.shape.Shape.{Shape, Void, Int, Pointer', Array', Struct, Function', more_of-Shape, end_of-Shape}
use Rattle.floyd_tree.specs.declared.paths.PathStep.{PathStep}
use Rattle.floyd_tree.specs.declared.paths.PathStep.TheVariants.{Field, Subscript}
use Rattle.floyd_tree.specs.Plain.{Plain}
use Rattle.floyd_tree.specs.Types.{SizedType}
use Rattle.floyd_tree_values.specs.BuiltIns.{Env}
use Rattle.floyd_tree_values.specs.Means.{Defs}
use Rattle.floyd_assert_cells.specs.Types.{dot_offset, shape_of, size_by, sizes_of}
use Rattle.floyd_fieldpath.specs.Addresses.{number_or_zero, on_type, path_sum, size_term, step_sum, step_term, with_term}
use Rattle.floyd_fieldpath.specs.Nested.{literal, sized_type, type_after, type_at}
use Rattle.floyd_fieldpath.specs.Sums.{literal_in, literal_or, of_both, plus, small, times, two}
use Rattle.floyd_fieldpath.specs.Written.{on_ok}
use Rattle.floyd_folding.specs.Folding.{folded, number_of_two, of_literals}
use Rattle.floyd_arith.proofs.Values.{Is}
use Rattle.floyd_symexpr_laws.proofs.TermMeanings.{folded_is, literal_at, literal_in_is, literal_is, ok_parts}
use Rattle.floyd_symexpr_pointer_laws.proofs.SizeTerms.{way_is}

-- the parts of what follows a type
type_parts : {A : Type 0} (o : Option SizedType) (f : SizedType → Result A No) (a : A) → on_type o f ≡ Ok a → (t : SizedType) × (o ≡ Some t) × (f t ≡ Ok a)
type_parts (Some t) f a e = (t, refl, e)
type_parts None f a e = absurd cc

some_parts : (o : Option SizedType) (f : SizedType → Option SizedType) (u : SizedType) → option_and_then f o ≡ Some u → (v : SizedType) × (o ≡ Some v) × (f v ≡ Some u)
some_parts (Some v) f u e = (v, refl, e)
some_parts None f u e = absurd cc

module _ (structs : Structs) where
  -- the type after one more step
  type_on : (path : List PathStep) (t u w : SizedType) (step : PathStep) → type_at structs t path ≡ Some u → type_after structs u step ≡ Some w → type_at structs t (path ++ step ∷ []) ≡ Some w
  type_on [] t u w step e after =
      let same : t ≡ u = cc in
      ap (λ v. option_and_then (λ (x : SizedType). Some x) (type_after structs v step)) same ∙ ap (option_and_then (λ (x : SizedType). Some x)) after
  type_on (s ∷ path) t u w step e after =
      let p = some_parts (type_after structs t s) (λ v. type_at structs v path) u e in
      ap (option_and_then (λ v. type_at structs v (path ++ step ∷ []))) p.1 ∙ type_on path p.0 u w step p.2 after

  -- what was added once a path is done: what was there before, if it has no step, or a sum
  abbrev pub IsPartSum : SizedType → List PathStep → Option Plain → Option Plain → Type 0
  IsPartSum t [] sum more = more ≡ sum
  IsPartSum t (step ∷ path) sum more = (n : Plain) × (more ≡ Some n) × (path_sum structs t (step ∷ path) sum ≡ Ok n)

  pub record LastStep (t : SizedType) (path : List PathStep) (u w : SizedType) (step : PathStep) (sum : Option Plain) (n : Plain) : Type 0 where
    pub before : Option Plain
    pub part : IsPartSum t path sum before
    pub last : step_sum structs u w step before ≡ Ok n

  first_after : (t after : SizedType) (step : PathStep) (path : List PathStep) (sum : Option Plain) (more n : Plain) → type_after structs t step ≡ Some after → step_sum structs t after step sum ≡ Ok more → path_sum structs after path (Some more) ≡ Ok n → path_sum structs t (step ∷ path) sum ≡ Ok n
  first_after t after step path sum more n e f g =
      ap (λ (o : Option SizedType). on_type o (λ u. on_ok (step_sum structs t u step sum) (λ m. path_sum structs u path (Some m)))) e
      ∙ ap (λ (d : Result Plain No). on_ok d (λ m. path_sum structs after path (Some m))) f
      ∙ g

  joined : (t after : SizedType) (step : PathStep) (path : List PathStep) (sum before : Option Plain) (more : Plain) → type_after structs t step ≡ Some after → step_sum structs t after step sum ≡ Ok more → IsPartSum after path (Some more) before → IsPartSum t (step ∷ path) sum before
  joined t after step [] sum before more e f part = (more, part, first_after t after step [] sum more more e f refl)
  joined t after step (s ∷ path) sum before more e f part = (part.0, part.1, first_after t after step (s ∷ path) sum more part.0 e f part.2)

  pub last_step : (path : List PathStep) (t u w : SizedType) (step : PathStep) (sum : Option Plain) (n : Plain) → type_at structs t path ≡ Some u → type_after structs u step ≡ Some w → path_sum structs t (path ++ step ∷ []) sum ≡ Ok n → LastStep t path u w step sum n
  last_step [] t u w step sum n typed after e =
      let p = type_parts (type_after structs t step) (λ v. on_ok (step_sum structs t v step sum) (λ m. path_sum structs v [] (Some m))) n e in
      let q = ok_parts (step_sum structs t p.0 step sum) (λ m. path_sum structs p.0 [] (Some m)) n p.2 in
      let here : t ≡ u = cc in
      let there : Some p.0 ≡ Some w = sym p.1 ∙ ap (λ v. type_after structs v step) here ∙ after in
      let type_is : p.0 ≡ w = cc in
      let number_is : q.0 ≡ n = cc in
      record {
        before = sum;
        part = refl;
        last = subst (λ v. step_sum structs v w step sum ≡ Ok n) here (subst (λ v. step_sum structs t v step sum ≡ Ok n) type_is (q.1 ∙ ap (λ (m : Plain). Ok m) number_is));
      }
  last_step (s ∷ path) t u w step sum n typed after e =
      let p = type_parts (type_after structs t s) (λ v. on_ok (step_sum structs t v s sum) (λ m. path_sum structs v (path ++ step ∷ []) (Some m))) n e in
      let q = ok_parts (step_sum structs t p.0 s sum) (λ m. path_sum structs p.0 (path ++ step ∷ []) (Some m)) n p.2 in
      let inner : type_at structs p.0 path ≡ Some u = sym (ap (option_and_then (λ v. type_at structs v path)) p.1) ∙ typed in
      let r = last_step path p.0 u w step (Some q.0) n inner after q.2 in
      record { before = r.before; part = joined t p.0 s path sum r.before q.0 p.1 q.1 r.part; last = r.last }

sum_of_both : (o p : Option ℤ) → of_both (λ x y. x +ℤ y) o p ≡ of_literals (number_of_two Add) o p
sum_of_both (Some x) (Some y) = refl
sum_of_both (Some x) None = refl
sum_of_both None (Some y) = refl
sum_of_both None None = refl

pub plus_folds : (a b : Plain) → plus a b ≡ folded Add a b
plus_folds a b = ap (λ o. literal_or (small o) (two Add a b)) (sum_of_both (literal_in a) (literal_in b))

product_of_both : (o p : Option ℤ) → of_both (λ x y. x *ℤ y) o p ≡ of_literals (number_of_two Mul) o p
product_of_both (Some x) (Some y) = refl
product_of_both (Some x) None = refl
product_of_both None (Some y) = refl
product_of_both None None = refl

times_folds : (a b : Plain) → times a b ≡ folded Mul a b
times_folds a b = ap (λ o. literal_or (small o) (two Mul a b)) (product_of_both (literal_in a) (literal_in b))

module _ (structs : Structs) (defs : Defs) (env : Env) where
  -- the term of a step is that number
  abbrev pub StepIs : SizedType → SizedType → PathStep → ℤ → Type 0
  StepIs u w step z = (m : Plain) → step_term structs u w step ≡ Ok m → Is defs env m z

  -- a path leads from a type to another, and adds that number of bytes
  pub data Reach : SizedType → List PathStep → SizedType → ℤ → Type 0 where
    here : {t : SizedType} → Reach t [] t (pos 0)
    onward : {t u w : SizedType} (path : List PathStep) (step : PathStep) {z s : ℤ} → Reach t path u z → type_after structs u step ≡ Some w → StepIs u w step s → Reach t (path ++ step ∷ []) w (z +ℤ s)

  pub field_is : (u w : SizedType) (tag x : List ℕ) (o : ℕ) → u.shape ≡ Struct tag → offset structs tag x ≡ Some o → StepIs u w (Field x) (pos o)
  field_is u w tag x o is e m f =
      let there : dot_offset structs u.shape x ≡ Some (pos o) = ap (λ s. dot_offset structs s x) is ∙ ap (option_map pos) e in
      let same : Ok (literal (pos o)) ≡ Ok m = ap (λ (d : Option ℤ). Ok (number_or_zero d)) (sym there) ∙ f in
      let term : m ≡ literal (pos o) = cc in
      literal_at defs env (pos o) m term

  pub subscript_is : (u : SizedType) (t : CType) (i : Plain) (n : ℕ) (y : ℤ) → size structs t ≡ Some n → Is defs env i y → StepIs u (sized_type t) (Subscript i) (pos n *ℤ y)
  subscript_is u t i n y e k m f =
      way_is defs env structs false t n i m y e k (ap (λ (d : Result Plain No). on_ok d (λ b. Ok b)) f)

  number_somehow : (o : Option ℤ) (m : Plain) → ◌≡◌ {A = Result Plain No} (Ok (number_or_zero o)) (Ok m) → (z : ℤ) × Is defs env m z
  number_somehow o m e = (unwrap_or o (pos 0), literal_at defs env (unwrap_or o (pos 0)) m cc)

  -- the size of a type of C is a number
  size_somehow : (shape : Shape) (ns : List ℤ) (m : Plain) → size_term structs shape (map literal ns) ≡ Ok m → (z : ℤ) × Is defs env m z
  size_somehow (Array' p (more_of-Shape element end_of-Shape)) (n ∷ ns) m e =
      let q = ok_parts (size_term structs element (map literal ns)) (λ bytes. times bytes (literal n)) m e in
      let r = size_somehow element ns q.0 q.1 in
      (r.0 *ℤ n, folded_is defs env Mul q.0 (literal n) m r.0 n (r.0 *ℤ n) (sym (times_folds q.0 (literal n)) ∙ q.2) r.1 (literal_is defs env n) refl)
  size_somehow (Array' p (more_of-Shape element end_of-Shape)) [] m e = number_somehow (size_by structs (Array' p (more_of-Shape element end_of-Shape)) []) m e
  size_somehow Void ns m e = number_somehow (size_by structs Void []) m e
  size_somehow (Int kind) ns m e = number_somehow (size_by structs (Int kind) []) m e
  size_somehow (Pointer' p to) ns m e = number_somehow (size_by structs (Pointer' p to) []) m e
  size_somehow (Struct tag) ns m e = number_somehow (size_by structs (Struct tag) []) m e
  size_somehow (Function' q ps p r) ns m e = number_somehow (size_by structs (Function' q ps p r) []) m e

  -- the subscript 0 adds nothing, whatever the elements are
  pub zero_adds_nothing : (u : SizedType) (t : CType) → StepIs u (sized_type t) (Subscript (literal (pos 0))) (pos 0)
  zero_adds_nothing u t m e =
      let q = ok_parts (size_term structs (shape_of t) (map literal (sizes_of t))) (λ bytes. times bytes (literal (pos 0))) m e in
      let r = size_somehow (shape_of t) (sizes_of t) q.0 q.1 in
      folded_is defs env Mul q.0 (literal (pos 0)) m r.0 (pos 0) (pos 0) (sym (times_folds q.0 (literal (pos 0))) ∙ q.2) r.1 (literal_is defs env (pos 0)) (ap Some (*ℤ-zero r.0))

  -- what was added before is that number
  abbrev pub SumIs : Option Plain → ℤ → Type 0
  SumIs None z = z ≡ pos 0
  SumIs (Some n) z = Is defs env n z

  pub reach_type : {t u : SizedType} {path : List PathStep} {z : ℤ} → Reach t path u z → type_at structs t path ≡ Some u
  reach_type here = refl
  reach_type (onward {t = t} {u = u} {w = w} path step r after is) = type_on structs path t u w step (reach_type r) after

  with_more : (u w : SizedType) (step : PathStep) (before : Option Plain) (n : Plain) (x s : ℤ) → StepIs u w step s → SumIs before x → step_sum structs u w step before ≡ Ok n → Is defs env n (x +ℤ s)
  with_more u w step None n x s is held e =
      let p = ok_parts (step_term structs u w step) (with_term None) n e in
      let same : p.0 ≡ n = cc in
      let nothing : x +ℤ s ≡ s = omega (arith, ints, held) in
      subst (λ z. Is defs env n z) (sym nothing) (subst (λ m. Is defs env m s) same (is p.0 p.1))
  with_more u w step (Some k) n x s is held e =
      let p = ok_parts (step_term structs u w step) (with_term (Some k)) n e in
      folded_is defs env Add k p.0 n x s (x +ℤ s) (sym (plus_folds k p.0) ∙ p.2) held (is p.0 p.1) refl

  none_is : (t : SizedType) (sum : Option Plain) (y z : ℤ) → ((n : Plain) → path_sum structs t [] sum ≡ Ok n → Is defs env n z) → SumIs sum y → SumIs sum z
  none_is t None y z all held = let zero = all (literal (pos 0)) refl in literal_in_is defs env (literal (pos 0)) (pos 0) z refl zero
  none_is t (Some n) y z all held = all n refl

  part_is : (t : SizedType) (path : List PathStep) (sum before : Option Plain) (y z : ℤ) → ((n : Plain) → path_sum structs t path sum ≡ Ok n → Is defs env n z) → SumIs sum y → IsPartSum structs t path sum before → SumIs before z
  part_is t [] sum before y z all held part = subst (λ o. SumIs o z) (sym part) (none_is t sum y z all held)
  part_is t (s ∷ path) sum before y z all held part = subst (λ o. SumIs o z) (sym part.1) (all part.0 part.2)

  sum_moves : (y z s : ℤ) → (y +ℤ z) +ℤ s ≡ y +ℤ (z +ℤ s)
  sum_moves y z s = omega (arith, ints)

  -- the sum of a path, behind what was added before
  pub reach_sum : {t u : SizedType} {path : List PathStep} {z : ℤ} → Reach t path u z → (sum : Option Plain) (y : ℤ) → SumIs sum y → (n : Plain) → path_sum structs t path sum ≡ Ok n → Is defs env n (y +ℤ z)
  reach_sum here None y held n e =
      let same : literal (pos 0) ≡ n = cc in
      let nothing : y +ℤ pos 0 ≡ pos 0 = omega (arith, ints, held) in
      subst (λ x. Is defs env n x) (sym nothing) (literal_at defs env (pos 0) n (sym same))
  reach_sum here (Some k) y held n e =
      let same : k ≡ n = cc in
      let nothing : y +ℤ pos 0 ≡ y = omega (arith, ints) in
      subst (λ x. Is defs env n x) (sym nothing) (subst (λ m. Is defs env m y) same held)
  reach_sum (onward {t = t} {u = u} {w = w} path step {z = x} {s = s} r after is) sum y held n e =
      let last = last_step structs path t u w step sum n (reach_type r) after e in
      let before = part_is t path sum last.before y (y +ℤ x) (reach_sum r sum y held) held last.part in
      subst (λ v. Is defs env n v) (sum_moves y x s) (with_more u w step last.before n (y +ℤ x) s is before last.last)
