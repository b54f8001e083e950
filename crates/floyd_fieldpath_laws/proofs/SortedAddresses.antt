-- Addresses along paths are values, unless something that is written is beyond the limits.
use Rattle.std.proofs.Common.{◌≡◌, Bool, true, false, ℤ, ◌+ℤ◌, ◌*ℤ◌, List, [], ◌∷◌, Option, Some, None, Result, Ok, refl, sym, subst, All}
use Rattle.std.specs.Prelude.{if◌then◌else◌}
use Rattle.std.proofs.lemmas.List.Elements.{All-head, All-tail}
use Rattle.floyd_text.specs.declared.refusal.No.{No}
use Rattle.floyd_ctypes.specs.Structs.{Structs}
use Rattle.floyd_tree_sorts.specs.declared.operators.Operator.TheVariants.{Add, Mul, PtrAdd}
use Rattle.floyd_tree_sorts.specs.declared.shape.Shape.{Shape, more_of-Shape, end_of-Shape}
use Rattle.floyd_tree_sorts.specs.declared.shape.Shape as s
use Rattle.floyd_tree_sorts.specs.declared.sorts.Sort.{Z, Val}
use Rattle.floyd_tree.specs.declared.paths.PathStep.{PathStep}
use Rattle.floyd_tree.specs.declared.paths.PathStep.TheVariants.{Field as FieldStep, Subscript}
use Rattle.floyd_tree.specs.Plain.{Plain}
use Rattle.floyd_tree.specs.Types.{SizedType}
use Rattle.floyd_tree.specs.WellSorted.{sort_of}
use Rattle.floyd_fieldpath.specs.Addresses.{address, on_type, path_sum, size_term, step_sum, step_term, with_term}
use Rattle.floyd_fieldpath.specs.Nested.{type_after, type_at}
use Rattle.floyd_fieldpath.specs.Sums.{is_zero, literal_in, literal_or, moved, of_both, plus, small, times, two}
use Rattle.floyd_fieldpath.specs.Written.{on_ok, written}
use Rattle.floyd_fieldpath_laws.specs.Conditions.{Answers, HasSizes, IsNumber, IsPath, IsStep}
use Rattle.floyd_fieldpath_laws.proofs.TermSorts.{made, next, two_sort}
use Rattle.floyd_fieldpath_laws.proofs.TypeSorts.{sizes_after, step_some}

folded : (o : Option ℤ) (t : Plain) → IsNumber t → Answers Z (literal_or o t)
folded None t e = made Z t e
folded (Some z) t e = refl

pub plus_sort : (a b : Plain) → IsNumber a → IsNumber b → Answers Z (plus a b)
plus_sort a b e f = folded (small (of_both (λ x y. x +ℤ y) (literal_in a) (literal_in b))) (two Add a b) (two_sort Add Z Z Z a b e f refl)

pub times_sort : (a b : Plain) → IsNumber a → IsNumber b → Answers Z (times a b)
times_sort a b e f = folded (small (of_both (λ x y. x *ℤ y) (literal_in a) (literal_in b))) (two Mul a b) (two_sort Mul Z Z Z a b e f refl)

pub moved_sort : (p n : Plain) → sort_of p ≡ Some Val → IsNumber n → Answers Val (moved p n)
moved_sort p n e f = by (is_zero n) (written (two PtrAdd p n)) (made Val (two PtrAdd p n) (two_sort PtrAdd Val Val Z p n e f refl))
  where
    by : (b : Bool) (r : Result Plain No) → Answers Val r → Answers Val (if b then Ok p else r)
    by true r h = e
    by false r h = h

pub size_sort : (structs : Structs) (shape : Shape) (sizes : List Plain) → All IsNumber sizes → Answers Z (size_term structs shape sizes)
size_sort structs (s.Array' p (more_of-Shape element end_of-Shape)) (n ∷ sizes) h =
    next Z Z (size_term structs element sizes) (λ bytes. times bytes n) (size_sort structs element sizes (All-tail IsNumber n sizes h)) (λ bytes e. times_sort bytes n e (All-head IsNumber n sizes h))
size_sort structs (s.Array' p (more_of-Shape element end_of-Shape)) [] h = refl
size_sort structs s.Void sizes h = refl
size_sort structs (s.Int kind) sizes h = refl
size_sort structs (s.Pointer' p to) sizes h = refl
size_sort structs (s.Struct tag) sizes h = refl
size_sort structs (s.Function' q ps p r) sizes h = refl

pub step_sort : (structs : Structs) (t after : SizedType) (step : PathStep) → HasSizes after → IsStep step → Answers Z (step_term structs t after step)
step_sort structs t after (FieldStep x) w h = refl
step_sort structs t after (Subscript i) w h =
    next Z Z (size_term structs after.shape after.sizes) (λ bytes. times bytes i) (size_sort structs after.shape after.sizes w.numbers) (λ bytes e. times_sort bytes i e h)

-- a sum so far
abbrev pub IsSum : Option Plain → Type 0
IsSum None = Unit {0}
IsSum (Some sum) = IsNumber sum

pub more_sort : (sum : Option Plain) (n : Plain) → IsSum sum → IsNumber n → Answers Z (with_term sum n)
more_sort None n h e = e
more_sort (Some sum) n h e = plus_sort sum n h e

pub sum_sort : (structs : Structs) (t u : SizedType) (path : List PathStep) (sum : Option Plain) → HasSizes t → IsPath path → type_at structs t path ≡ Some u → IsSum sum → Answers Z (path_sum structs t path sum)
sum_sort structs t u [] None w p e h = refl
sum_sort structs t u [] (Some sum) w p e h = h
sum_sort structs t u (step ∷ path) sum w p e h =
    let a = step_some structs path (type_after structs t step) u e in
    let after = a.0 in
    let there = sizes_after structs t after step w a.1 in
    subst (λ o. Answers Z (on_type o (λ after. on_ok (step_sum structs t after step sum) (λ more. path_sum structs after path (Some more))))) (sym a.1)
    (next Z Z (step_sum structs t after step sum) (λ more. path_sum structs after path (Some more))
    (next Z Z (step_term structs t after step) (with_term sum) (step_sort structs t after step there (All-head IsStep step path p)) (λ n f. more_sort sum n h f))
    (λ more f. sum_sort structs after u path (Some more) there (All-tail IsStep step path p) a.2 f))

pub addresses_are_values : (structs : Structs) (t u : SizedType) (path : List PathStep) (root : Plain) → HasSizes t → IsPath path → type_at structs t path ≡ Some u → sort_of root ≡ Some Val → Answers Val (address structs t path root)
addresses_are_values structs t u path root w p e f =
    subst (λ o. Answers Val (on_type o (λ nested. on_ok (path_sum structs t path None) (moved root)))) (sym e)
    (next Z Val (path_sum structs t path None) (moved root) (sum_sort structs t u path None w p e tt) (λ n g. moved_sort root n f g))
