-- The variables that are bound while a formula is read, as the program binds them and puts back what they hid.
use Rattle.std.specs.Prelude.{ℕ, cond, List, [], ◌∷◌, ◌++◌, Option, Some, None, Ok, Err, bytes_eq}
use Rattle.floyd_tree_sorts.specs.declared.sorts.Sort.{Sort}
use Rattle.floyd_termread_wants.specs.Judging.{Judged}
use Rattle.floyd_termread_forms.specs.declared.frames.Frame.{Frame}
use Rattle.floyd_termread_forms.specs.declared.frames.Frame.TheVariants as frame

abbrev pub Sorts : Type 0
Sorts = List ℕ → Option Sort

abbrev pub with_sort : List ℕ → Option Sort → Sorts → Sorts
with_sort x s sorts = λ y. cond (bytes_eq x y) s (sorts y)

abbrev pub bound_by : Frame → Sorts → Sorts
bound_by (frame.Not place) sorts = sorts
bound_by (frame.Forall place x s) sorts = with_sort x (Some s) sorts
bound_by (frame.Exists place x s) sorts = with_sort x (Some s) sorts

abbrev pub hidden_by : Frame → Sorts → Option Sort
hidden_by (frame.Not place) sorts = None
hidden_by (frame.Forall place x s) sorts = sorts x
hidden_by (frame.Exists place x s) sorts = sorts x

abbrev pub put_back : Frame → Option Sort → Sorts → Sorts
put_back (frame.Not place) hidden sorts = sorts
put_back (frame.Forall place x s) hidden sorts = with_sort x hidden sorts
put_back (frame.Exists place x s) hidden sorts = with_sort x hidden sorts

abbrev pub bound_by_all : List Frame → Sorts → Sorts
bound_by_all [] sorts = sorts
bound_by_all (x ∷ xs) sorts = bound_by_all xs (bound_by x sorts)

abbrev pub hidden_by_all : List Frame → Sorts → List (Option Sort)
hidden_by_all [] sorts = []
hidden_by_all (x ∷ xs) sorts = hidden_by x sorts ∷ hidden_by_all xs (bound_by x sorts)

abbrev pub put_back_all : List Frame → List (Option Sort) → Sorts → Sorts
put_back_all [] hidden sorts = sorts
put_back_all (x ∷ xs) [] sorts = sorts
put_back_all (x ∷ xs) (h ∷ hs) sorts = put_back x h (put_back_all xs hs sorts)

-- what was read before, and what is read
abbrev pub behind : {A : Type 0} → List A → Judged (List A) → Judged (List A)
behind before (Ok xs) = Ok (before ++ xs)
behind before (Err stop) = Err stop
