-- Sizes, offsets and sums along a path, as the program makes them.
use Rattle.std.proofs.Common.{◌≡◌, ℕ, zero, suc, ◌+◌, ◌-◌, ◌<◌, ◌≤◌, pos, List, [], ◌∷◌, length, take, drop, get_or, Option, Some, None, Result, Ok, Err, refl, ap, ap₂, sym, ◌∙◌, subst, arith}
use Rattle.std.specs.Prelude.{slice_get}
use Rattle.std.proofs.Math.Seq.{take-length}
use Rattle.floyd_text.specs.declared.refusal.No.{No}
use Rattle.floyd_text.specs.declared.refusal.RuleStop.{RuleStop}
use Rattle.floyd_text.specs.declared.refusal.RuleStop.TheVariants as r
use Rattle.floyd_text.specs.Gives.{RuleGives, RuleStops}
use Rattle.floyd_ctypes.specs.Structs.{Structs}
use Rattle.floyd_tree_sorts.specs.declared.shape.Shape.{Shape, Pointer, Array, Function}
use Rattle.floyd_tree_sorts.specs.declared.shape.Shape.TheBlock as sh
use Rattle.floyd_tree.specs.declared.paths.PathStep.{PathStep}
use Rattle.floyd_tree.specs.Plain.{Plain}
use Rattle.floyd_tree.specs.Types.{SizedType}
use Rattle.floyd_assert_cells.specs.Types.{dot_offset}
use Rattle.floyd_fieldpath.specs.Nested.{literal, or_illegal, path_illegal, type_after, type_at}
use Rattle.floyd_fieldpath.specs.Written.{on_ok}
use Rattle.floyd_fieldpath.specs.Sums.{moved, times}
use Rattle.floyd_fieldpath.specs.Addresses.{address, on_type, or_zero, path_sum, size_term, step_sum, where_typed}
use Rattle.floyd_fieldpath.proofs.PathLemmas.{drop_step}
use Rattle.floyd_fieldpath.proofs.WrittenLemmas.{goes_on, stops}
use denote.Hole.Carrier.{hidden}

-- offsets and sizes
pub no_offset_in_pointer : (structs : Structs) (a : Shape) (x : List ℕ) → dot_offset structs (Pointer a) x ≡ None
unfolding sh.shape-the_row-Shape-0 sh.hidden-the_row-Shape-0 hidden
no_offset_in_pointer structs a x = refl

pub no_offset_in_array : (structs : Structs) (a : Shape) (x : List ℕ) → dot_offset structs (Array a) x ≡ None
unfolding sh.shape-the_row-Shape-0 sh.hidden-the_row-Shape-0 hidden
no_offset_in_array structs a x = refl

pub no_offset_in_function : (structs : Structs) (ps : List Shape) (r : Shape) (x : List ℕ) → dot_offset structs (Function ps r) x ≡ None
unfolding sh.shape-the_row-Shape-0 sh.hidden-the_row-Shape-0 hidden
no_offset_in_function structs ps r x = refl

pub size_of_pointer : (structs : Structs) (a : Shape) (sizes : List Plain) → size_term structs (Pointer a) sizes ≡ Ok (literal (pos 8))
unfolding sh.shape-the_row-Shape-0 sh.hidden-the_row-Shape-0 hidden
size_of_pointer structs a sizes = refl

pub size_of_function : (structs : Structs) (ps : List Shape) (r : Shape) (sizes : List Plain) → size_term structs (Function ps r) sizes ≡ Ok (literal (pos 0))
unfolding sh.shape-the_row-Shape-0 sh.hidden-the_row-Shape-0 hidden
size_of_function structs ps r sizes = refl

pub size_of_none : (structs : Structs) (a : Shape) (sizes : List Plain) → length sizes ≡ 0 → size_term structs (Array a) sizes ≡ Ok (literal (pos 0))
unfolding sh.shape-the_row-Shape-0 sh.hidden-the_row-Shape-0 hidden
size_of_none structs a [] e = refl
size_of_none structs a (n ∷ sizes) e = absurd (omega arith)

-- of an array
pub size_of_array : (structs : Structs) (a : Shape) (sizes rest : List Plain) (n : Plain) → 0 < length sizes → n ≡ get_or sizes 0 n → rest ≡ take (length sizes - 1) (drop 1 sizes) → on_ok (size_term structs a rest) (λ bytes. times bytes n) ≡ size_term structs (Array a) sizes
unfolding sh.shape-the_row-Shape-0 sh.hidden-the_row-Shape-0 hidden
size_of_array structs a [] rest n some e f = absurd (omega arith)
size_of_array structs a (m ∷ sizes) rest n some e f =
    let all : length (m ∷ sizes) - 1 ≡ length sizes = omega arith in
    ap₂ (λ (ns : List Plain) (k : Plain). on_ok (size_term structs a ns) (λ bytes. times bytes k)) (f ∙ ap (λ k. take k sizes) all ∙ take-length sizes) e

pub array_stops : (structs : Structs) (shape a b : Shape) (sizes rest : List Plain) (stop : RuleStop) → shape ≡ Array a → b ≡ a → 0 < length sizes → rest ≡ take (length sizes - 1) (drop 1 sizes) → RuleStops stop (size_term structs b rest) → RuleStops stop (size_term structs shape sizes)
array_stops structs shape a b sizes rest stop e f some g h =
    let d = get_or sizes 0 (literal (pos 0)) in
    subst (λ y. RuleStops stop (size_term structs y sizes)) (sym e)
    (subst (RuleStops stop) (size_of_array structs a sizes rest d some (first_item sizes (literal (pos 0)) some) g)
    (stops stop (size_term structs a rest) (λ bytes. times bytes d) (subst (λ y. RuleStops stop (size_term structs y rest)) f h)))
  where
    first_item : (ns : List Plain) (d : Plain) → 0 < length ns → get_or ns 0 d ≡ get_or ns 0 (get_or ns 0 d)
    first_item [] d some = absurd (omega arith)
    first_item (n ∷ ns) d some = refl

pub array_gives : (structs : Structs) (shape a b : Shape) (sizes rest : List Plain) (n bytes : Plain) (x : Result Plain RuleStop) → shape ≡ Array a → b ≡ a → 0 < length sizes → n ≡ get_or sizes 0 n → rest ≡ take (length sizes - 1) (drop 1 sizes) → size_term structs b rest ≡ Ok bytes → RuleGives (λ t. t) x (times bytes n) → RuleGives (λ t. t) x (size_term structs shape sizes)
array_gives structs shape a b sizes rest n bytes x e f some first g is h =
    subst (λ y. RuleGives (λ t. t) x (size_term structs y sizes)) (sym e)
    (subst (RuleGives (λ t. t) x) (size_of_array structs a sizes rest n some first g)
    (goes_on (size_term structs a rest) (λ k. times k n) bytes x (ap (λ y. size_term structs y rest) (sym f) ∙ is) h))

-- a path without a type is refused first
pub typed_stops : {A : Type 0} (structs : Structs) (t : SizedType) (path : List PathStep) (answer : Result A No) (stop : RuleStop) → RuleStops stop (or_illegal (type_at structs t path)) → RuleStops stop (where_typed structs t path answer)
typed_stops structs t path answer stop h = by (type_at structs t path) stop h
  where
    by : (o : Option SizedType) (stop : RuleStop) → RuleStops stop (or_illegal o) → RuleStops stop (on_type o (λ u. answer))
    by (Some u) (r.No refusal) e = absurd cc
    by (Some u) r.Memory e = tt
    by None (r.No refusal) e = cc
    by None r.Memory e = tt

pub typed : {A : Type 0} (structs : Structs) (t u : SizedType) (path : List PathStep) (answer : Result A No) → or_illegal (type_at structs t path) ≡ Ok u → answer ≡ where_typed structs t path answer
typed structs t u path answer h = by (type_at structs t path) h
  where
    by : (o : Option SizedType) → or_illegal o ≡ Ok u → answer ≡ on_type o (λ v. answer)
    by (Some v) e = refl
    by None e = absurd cc

-- the sum along a path
pub dropped_all : {A : Type 0} (k : ℕ) (xs : List A) → length xs ≤ k → drop k xs ≡ []
dropped_all zero [] h = refl
dropped_all (suc k) [] h = refl
dropped_all zero (x ∷ xs) h = absurd (omega arith)
dropped_all (suc k) (x ∷ xs) h = dropped_all k xs (omega arith)

pub sum_end : (structs : Structs) (inner : SizedType) (path : List PathStep) (k : ℕ) (sum : Option Plain) → length path ≤ k → path_sum structs inner (drop k path) sum ≡ or_zero sum
sum_end structs inner path k sum h = ap (λ p. path_sum structs inner p sum) (dropped_all k path h)

at_step : (structs : Structs) (inner : SizedType) (path : List PathStep) (k : ℕ) (step : PathStep) (sum : Option Plain) (o : Option SizedType) → slice_get path k ≡ Some step → o ≡ type_after structs inner step → path_sum structs inner (drop k path) sum ≡ on_type o (λ after. on_ok (step_sum structs inner after step sum) (λ more. path_sum structs after (drop (k + 1) path) (Some more)))
at_step structs inner path k step sum o get e =
    ap (λ p. path_sum structs inner p sum) (drop_step path k step get)
    ∙ ap (λ q. on_type q (λ after. on_ok (step_sum structs inner after step sum) (λ more. path_sum structs after (drop (k + 1) path) (Some more)))) (sym e)

pub sum_on : (structs : Structs) (inner after : SizedType) (path : List PathStep) (k : ℕ) (step : PathStep) (sum : Option Plain) (more : Plain) → slice_get path k ≡ Some step → Some after ≡ type_after structs inner step → step_sum structs inner after step sum ≡ Ok more → path_sum structs after (drop (k + 1) path) (Some more) ≡ path_sum structs inner (drop k path) sum
sum_on structs inner after path k step sum more get e f =
    sym (at_step structs inner path k step sum (Some after) get e ∙ ap (λ y. on_ok y (λ m. path_sum structs after (drop (k + 1) path) (Some m))) f)

pub sum_off : (structs : Structs) (inner : SizedType) (path : List PathStep) (k : ℕ) (step : PathStep) (sum : Option Plain) → slice_get path k ≡ Some step → None ≡ type_after structs inner step → path_sum structs inner (drop k path) sum ≡ Err path_illegal
sum_off structs inner path k step sum get e = at_step structs inner path k step sum None get e

pub sum_stops : (structs : Structs) (inner after : SizedType) (path : List PathStep) (k : ℕ) (step : PathStep) (sum : Option Plain) (stop : RuleStop) → slice_get path k ≡ Some step → Some after ≡ type_after structs inner step → RuleStops stop (step_sum structs inner after step sum) → RuleStops stop (path_sum structs inner (drop k path) sum)
sum_stops structs inner after path k step sum stop get e h =
    subst (RuleStops stop) (sym (at_step structs inner path k step sum (Some after) get e)) (stops stop (step_sum structs inner after step sum) (λ m. path_sum structs after (drop (k + 1) path) (Some m)) h)

-- the address at a path
pub address_gives : (structs : Structs) (t u : SizedType) (path : List PathStep) (root sum : Plain) (x : Result Plain RuleStop) → or_illegal (type_at structs t path) ≡ Ok u → path_sum structs t path None ≡ Ok sum → RuleGives (λ a. a) x (moved root sum) → RuleGives (λ a. a) x (address structs t path root)
address_gives structs t u path root sum x e f h =
    subst (RuleGives (λ a. a) x) (typed structs t u path (on_ok (path_sum structs t path None) (moved root)) e)
    (goes_on (path_sum structs t path None) (moved root) sum x f h)

pub address_stops : (structs : Structs) (t u : SizedType) (path : List PathStep) (root : Plain) (stop : RuleStop) → or_illegal (type_at structs t path) ≡ Ok u → RuleStops stop (path_sum structs t path None) → RuleStops stop (address structs t path root)
address_stops structs t u path root stop e h =
    subst (RuleStops stop) (typed structs t u path (on_ok (path_sum structs t path None) (moved root)) e)
    (stops stop (path_sum structs t path None) (moved root) h)
