-- What is made of a bracket whose items were read.
use Rattle.std.specs.Prelude.{Bool, true, false, ℕ, ◌+◌, ◌==◌, List, [], ◌∷◌, ◌++◌, map, flat_map, length, Option, Some, None, option_map, bytes_eq}
use Rattle.std.specs.Map.{lookup}
use Rattle.floyd_text.specs.declared.place.Place.{Place}
use Rattle.floyd_cparse_trees.specs.declared.types.Identifier.{Identifier}
use Rattle.floyd_tree_sorts.specs.declared.heads.Head.{Head}
use Rattle.floyd_tree_sorts.specs.declared.heads.Head.TheVariants as h
use Rattle.floyd_tree_sorts.specs.declared.heads.Width.{Width}
use Rattle.floyd_tree_sorts.specs.declared.operators.Operator.{Operator}
use Rattle.floyd_tree_sorts.specs.declared.operators.Operator.TheVariants as o
use Rattle.floyd_tree_sorts.specs.declared.shape.Shape.{Shape, Pointer, Array, Function}
use Rattle.floyd_tree_sorts.specs.declared.sorts.Sort.{Sort}
use Rattle.floyd_tree_sorts.specs.Operators.{row}
use Rattle.floyd_tree_sorts.specs.Sorts.{list_sort}
use Rattle.floyd_tree_sorts.specs.Table.{forms}
use Rattle.floyd_tree.specs.Plain.{Plain, At, Done, More, head_of, plains}
use Rattle.floyd_tree.specs.Types.{SizedType}
use Rattle.floyd_tree.specs.WellSorted.{sort_of}
use Rattle.floyd_fieldpath.specs.DefaultTerms.{default_term}
use Rattle.floyd_assert_trees.specs.declared.binder.Binder.{Binder}
use Rattle.floyd_assert_trees.specs.declared.items.Fun.{Fun}
use Rattle.floyd_termread_trees.specs.declared.words.Word.{Word}
use Rattle.floyd_termread_trees.specs.declared.words.Word.TheVariants as word
use Rattle.floyd_termread_trees.specs.declared.words.TermWord.{TermWord}
use Rattle.floyd_termread_trees.specs.declared.words.TermWord.TheVariants as t
use Rattle.floyd_termread_trees.specs.declared.words.TypeWord.{TypeWord}
use Rattle.floyd_termread_trees.specs.declared.words.TypeWord.TheVariants as y
use Rattle.floyd_termread_trees.specs.declared.written.Opening.{Opening}
use Rattle.floyd_termread_trees.specs.declared.written.Opening.TheVariants as opens
use Rattle.floyd_termread_scope.specs.Scopes.{Named}
use Rattle.floyd_termread_brackets.specs.declared.slots.Part.{Part}
use Rattle.floyd_termread_brackets.specs.declared.slots.Part.TheVariants as part
use Rattle.floyd_termread_wants.specs.declared.wants.Wanted.{Wanted}
use Rattle.floyd_termread_wants.specs.declared.wants.Wanted.TheVariants as w
use Rattle.floyd_termread_wants.specs.Judging.{Judged, ◌>>=◌, ◌>>◌, refuse, cut_off, unless, there}
use Rattle.floyd_termread_wants.specs.Refusals.{ill_sorted}
use Rattle.floyd_termread_wants.specs.Wants.{width_of, takes_sorted}
use Rattle.floyd_termread_wants.specs.Making.{taken, placed, leaf, two}

-- What is made of a bracket whose items were read. A wrong number of arguments is ill sorted where the bracket closes.

abbrev pub terms_in : List Part → List Plain
terms_in [] = []
terms_in (part.Term x ∷ xs) = x ∷ terms_in xs
terms_in (x ∷ xs) = terms_in xs

abbrev pub applied : Wanted → Place → Head → ℕ → List Part → Place → Judged Plain
applied wanted place head count xs close =
    unless (ill_sorted close) (length xs == count) >> placed wanted place (At head (plains (terms_in xs)))

abbrev pub binder_sort : Binder → Sort
binder_sort b = b.sort

abbrev pub fun_head : Identifier → Fun → Head
fun_head i f = h.Fun i.name (map binder_sort f.arguments) f.result

abbrev pub call_made : Wanted → Identifier → Option Fun → List Part → Place → Judged Plain
call_made wanted i None xs close = cut_off
call_made wanted i (Some f) xs close = applied wanted i.place (fun_head i f) (length f.arguments) xs close

-- `signed` and `unsigned`, whose first argument is one of four literals and stands in the head
abbrev pub width_head : Bool → Width → Head
width_head true width = h.Signed width
width_head false width = h.Unsigned width

abbrev pub width_at_head : Wanted → Place → Bool → Option Width → Plain → Judged Plain
width_at_head wanted place signed None z = cut_off
width_at_head wanted place signed (Some width) z = placed wanted place (At (width_head signed width) (More z Done))

abbrev pub width_made : Wanted → Place → Bool → List Part → Place → Judged Plain
width_made wanted place signed (part.Term x ∷ part.Term z ∷ []) close = width_at_head wanted place signed (width_of (head_of x)) z
width_made wanted place signed xs close = refuse (ill_sorted close)

-- `gv` and `lv`
abbrev pub name_head : Bool → List ℕ → Head
name_head true x = h.Gv x
name_head false x = h.Lv x

abbrev pub name_made : Wanted → Place → Bool → List Part → Judged Plain
name_made wanted place global (part.Name x ∷ []) = placed wanted place (leaf (name_head global x))
name_made wanted place global xs = cut_off

abbrev pub default_made : Wanted → Place → List Part → Judged Plain
default_made wanted place (part.Valued x s ∷ []) = placed wanted place (default_term x s)
default_made wanted place xs = cut_off

abbrev pub parenthesis_made : Wanted → Place → List Plain → Judged Plain
parenthesis_made wanted place (x ∷ []) = taken wanted place x
parenthesis_made wanted place (x ∷ y ∷ []) = placed wanted place (two o.Pair x y)
parenthesis_made wanted place xs = cut_off

-- A literal list is made from its end. Wherever it gets too large, it is too large at its bracket.
abbrev pub one_more : Place → Plain → Plain → Judged Plain
one_more place x rest = placed (w.Any None) place (two o.Cons x rest)

abbrev pub consed : Place → Sort → List Plain → Judged Plain
consed place s [] = placed (w.Any None) place (leaf (h.Nil s))
consed place s (x ∷ xs) = consed place s xs >>= one_more place x

abbrev pub list_of : Wanted → Place → Sort → List Plain → Judged Plain
list_of wanted place s xs = unless (ill_sorted place) (takes_sorted wanted (h.Operator o.Cons) (list_sort s)) >> consed place s xs

abbrev pub list_made : Wanted → Place → List Plain → Judged Plain
list_made wanted place [] = cut_off
list_made wanted place (x ∷ xs) = there (sort_of x) >>= λ s. list_of wanted place s (x ∷ xs)

abbrev pub word_made : Wanted → TermWord → Place → List Part → Place → Judged Plain
word_made wanted (t.Operator op) place xs close = applied wanted place (h.Operator op) (length (forms (row op).takes)) xs close
word_made wanted t.Signed place xs close = width_made wanted place true xs close
word_made wanted t.Unsigned place xs close = width_made wanted place false xs close
word_made wanted t.Gv place xs close = name_made wanted place true xs
word_made wanted t.Lv place xs close = name_made wanted place false xs
word_made wanted t.Default place xs close = default_made wanted place xs
word_made wanted t.Nil place xs close = cut_off
word_made wanted t.Leaf place xs close = cut_off

abbrev pub made_of : Named Fun → Opening → Place → List Part → Place → Wanted → Judged Plain
made_of funs (opens.Call i) place xs close wanted = call_made wanted i (lookup (bytes_eq i.name) funs) xs close
made_of funs (opens.Word (word.Term x) at) place xs close wanted = word_made wanted x at xs close
made_of funs opens.Parenthesis place xs close wanted = parenthesis_made wanted place (terms_in xs)
made_of funs opens.List place xs close wanted = list_made wanted place (terms_in xs)
made_of funs opening place xs close wanted = cut_off

-- .. unless the text is cut off before the bracket closes
abbrev pub closed_term : Named Fun → Opening → Place → List Part → Option Place → Wanted → Judged Plain
closed_term funs opening place xs close wanted = there close >>= λ end. made_of funs opening place xs end wanted

-- Types that are made of types and sizes. The sizes stand in the order of the text, but that of an array before those of
-- its elements.

abbrev pub types_in : List Part → List SizedType
types_in [] = []
types_in (part.Type x ∷ xs) = x ∷ types_in xs
types_in (x ∷ xs) = types_in xs

abbrev pub pointer_made : List Part → Option SizedType
pointer_made (part.Type x ∷ []) = Some (record { shape = Pointer x.shape; sizes = x.sizes })
pointer_made xs = None

abbrev pub array_made : List Part → Option SizedType
array_made (part.Type x ∷ part.Term n ∷ []) = Some (record { shape = Array x.shape; sizes = n ∷ x.sizes })
array_made xs = None

abbrev pub type_shape : SizedType → Shape
type_shape x = x.shape

abbrev pub type_sizes : SizedType → List Plain
type_sizes x = x.sizes

abbrev pub function_type : List SizedType → SizedType → SizedType
function_type ps result = record { shape = Function (map type_shape ps) result.shape; sizes = flat_map type_sizes ps ++ result.sizes }

-- all but the last, and the last
abbrev pub ends_from : {A : Type 0} → A → List A → List A × A
ends_from x [] = ([], x)
ends_from x (y ∷ ys) = (x ∷ (ends_from y ys).0, (ends_from y ys).1)

abbrev pub split_last : {A : Type 0} → List A → Option (List A × A)
split_last [] = None
split_last (x ∷ xs) = Some (ends_from x xs)

-- the last type is that of the result
abbrev pub function_made : List SizedType → Option SizedType
function_made xs = option_map (λ ends. function_type ends.0 ends.1) (split_last xs)

abbrev pub word_type_made : TypeWord → List Part → Option SizedType
word_type_made y.Ptr xs = pointer_made xs
word_type_made y.Array xs = array_made xs
word_type_made y.Fn xs = function_made (types_in xs)
word_type_made other xs = None

abbrev pub type_made : Opening → List Part → Option SizedType
type_made (opens.Word (word.Type x) place) xs = word_type_made x xs
type_made opening xs = None

abbrev pub closed_type : Opening → List Part → Option Place → Judged SizedType
closed_type opening xs close = there close >>= λ end. there (type_made opening xs)

-- A phrase with a bracket begins at what stands before it.
abbrev pub bracket_place : Opening → Place → Place
bracket_place (opens.Call i) place = i.place
bracket_place (opens.Word x at) place = at
bracket_place opening place = place
