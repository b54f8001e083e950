-- The worked examples.
use Rattle.std.proofs.Common.{ℕ, ℤ, pos, List, [], ◌∷◌, inr, refl, arith}
use Rattle.floyd_int.specs.declared.kinds.Value.TheVariants as v
use Rattle.floyd_memval.specs.declared.bytes.MemByte.TheVariants.{Byte}
use Rattle.floyd_memval.specs.Decoding.{decoding}
use Rattle.floyd_tree_sorts.specs.declared.heads.Head.TheVariants.{Literal, Variable, Gv, Operator}
use Rattle.floyd_tree_sorts.specs.declared.heads.Head.TheVariants as h
use Rattle.floyd_tree_sorts.specs.declared.operators.Operator.TheVariants as o
use Rattle.floyd_tree_sorts.specs.declared.shape.Shape.{Int}
use Rattle.floyd_tree_sorts.specs.declared.sorts.Sort.{Z, Val as ValSort}
use Rattle.floyd_tree_sorts.specs.Sorts.{list_sort}
use Rattle.floyd_int.specs.declared.kinds.IntKind.TheVariants.{I32}
use Rattle.floyd_tree.specs.Plain.{Plain, At, Done, More}
use Rattle.floyd_tree_values.specs.BuiltIns.{Env}
use Rattle.floyd_tree_values.specs.Data.{Datum, Number, Val, seq}
use Rattle.floyd_tree_values.specs.Funs.{Bindings}
use Rattle.floyd_tree_values.specs.Means.{Means, built_in, none as no_data, more as more_data, inside}
use Rattle.floyd_clight_heap.specs.Heaplet.{empty}
use Rattle.floyd_clight_heap.proofs.Sums.{right_empty}
use Rattle.floyd_assert_cells.specs.Cells.{FieldPart}
use Rattle.floyd_assert_trees.specs.declared.sep.Sep.TheVariants.{Predicate}
use Rattle.floyd_assert_meaning.specs.Settings.{with_data}
use Rattle.floyd_assert_meaning.specs.Parts.{RegionMeans, PartHolds, object, anything, predicate, body, none, more}
use Rattle.floyd_assert_meaning.specs.Examples.{Worked, an_x, cons, example, g, here, int_at_g, leaf, nothing, number, one_and_more, ones, r, seven, x}

number_means : (env : Env) (z : ℤ) → Means example.defs env (number z) (Number z)
number_means env z = built_in {head = Literal z} {s = Z} {ds = []} refl refl no_data

variable_means : (env : Env) → Means example.defs env (leaf (Variable x Z)) (env.variables x)
variable_means env = built_in {head = Variable x Z} {s = Z} {ds = []} refl refl no_data

global_means : (env : Env) (name : List ℕ) → Means example.defs env (leaf (Gv name)) (Val (v.Vptr (env.global name) 0))
global_means env name = built_in {head = Gv name} {s = ValSort} {ds = []} refl refl no_data

nil_means : (env : Env) → Means example.defs env (leaf (h.Nil Z)) (seq [])
nil_means env = built_in {head = h.Nil Z} {s = list_sort Z} {ds = []} refl refl no_data

-- `ones` of no list, and of a list with one more 1
abbrev bindings : List Datum → Bindings
bindings ds = (x, Number (pos 1)) ∷ (r, seq ds) ∷ (108 ∷ [], seq (Number (pos 1) ∷ ds)) ∷ []

no_ones : (env : Env) (t : Plain) → Means example.defs env t (seq []) → PartHolds example env (Predicate ones (t ∷ [])) empty
no_ones env t m = predicate {ds = seq [] ∷ []} {o = record { bindings = (108 ∷ [], seq []) ∷ []; body = nothing }} (more_data m no_data) refl (body [] tt tt (none refl))

one_more : (env : Env) (t : Plain) (ds : List Datum) → Means example.defs env t (seq (Number (pos 1) ∷ ds)) → ((e : Env) (u : Plain) → Means example.defs e u (seq ds) → PartHolds example e (Predicate ones (u ∷ [])) empty) → PartHolds example env (Predicate ones (t ∷ [])) empty
one_more env t ds m rest =
    let inner = inside env (bindings ds) in
    let tail : Means example.defs inner (leaf (Variable r (list_sort Z))) (seq ds) = built_in {head = Variable r (list_sort Z)} {s = list_sort Z} {ds = []} refl refl no_data in
    predicate {ds = seq (Number (pos 1) ∷ ds) ∷ []} {o = record { bindings = bindings ds; body = one_and_more }} (more_data m no_data) refl
    (body [] tt ((Number (pos 1), more_data (variable_means inner) (more_data (number_means inner (pos 1)) no_data)), tt)
    (more (right_empty empty) (rest inner (leaf (Variable r (list_sort Z))) tail) (none refl)))

list_means : (env : Env) → Means example.defs env (cons (number (pos 1)) (cons (number (pos 1)) (leaf (h.Nil Z)))) (seq (Number (pos 1) ∷ Number (pos 1) ∷ []))
list_means env =
    built_in {head = Operator o.Cons} {s = list_sort Z} {ds = Number (pos 1) ∷ seq (Number (pos 1) ∷ []) ∷ []} refl refl
    (more_data (number_means env (pos 1))
    (more_data (built_in {head = Operator o.Cons} {s = list_sort Z} {ds = Number (pos 1) ∷ seq [] ∷ []} refl refl (more_data (number_means env (pos 1)) (more_data (nil_means env) no_data))) no_data))

-- ---- memory

-- where x has that number
abbrev with_x : ℤ → Env
with_x z = with_data here (an_x ∷ []) (Number z ∷ [])

seven_means : Means example.defs (with_x (pos 7)) (At (Operator o.Vint) (More (leaf (Variable x Z)) Done)) (Val (v.Vint 7))
seven_means = built_in {head = Operator o.Vint} {s = ValSort} {ds = Number (pos 7) ∷ []} refl refl (more_data (variable_means (with_x (pos 7))) no_data)

five_means : Means example.defs (with_x (pos 5)) (At (Operator o.Vint) (More (leaf (Variable x Z)) Done)) (Val (v.Vint 5))
five_means = built_in {head = Operator o.Vint} {s = ValSort} {ds = Number (pos 5) ∷ []} refl refl (more_data (variable_means (with_x (pos 5))) no_data)

region_means : RegionMeans example.defs (with_x (pos 7)) int_at_g
region_means = record {
  share = pos 16;
  sizes = [];
  path = [];
  root = v.Vptr 3 0;
  of_share = number_means (with_x (pos 7)) (pos 16);
  of_sizes = no_data;
  of_path = tt;
  of_root = global_means (with_x (pos 7)) g;
}

field_holds : FieldPart [] (pos 16) (record { shape = Int I32; sizes = [] }) [] (Val (v.Vint 7)) (v.Vptr 3 0) seven
unfolding decoding
field_holds = (
  record { block = 3; offset = 0; points = refl; fits = refl; type = record { shape = Int I32; sizes = [] }; nested = refl; shift = 0; shifted = refl },
  (omega arith, record { bytes = Byte 7 ∷ Byte 0 ∷ Byte 0 ∷ Byte 0 ∷ []; count = refl; exact = refl; reads = inr (refl, refl) }),
)

pub worked : Worked
unfolding region_means
worked = record {
  two_ones = one_more here (cons (number (pos 1)) (cons (number (pos 1)) (leaf (h.Nil Z)))) (Number (pos 1) ∷ []) (list_means here) (λ e u m. one_more e u [] m no_ones);
  memory = record {
    witnesses = Number (pos 7) ∷ [];
    sorted = (tt, tt);
    props = ((Number (pos 7), more_data (variable_means (with_x (pos 7))) (more_data (number_means (with_x (pos 7)) (pos 7)) no_data)), tt);
    locals = (global_means (with_x (pos 7)) g, tt);
    parts = more (right_empty seven) (object (region_means, Val (v.Vint 7), seven_means, field_holds)) (more (right_empty empty) anything (none refl));
  };
  asks = record {
    sorted = (tt, tt);
    props = ((Number (pos 5), more_data (variable_means (with_x (pos 5))) (more_data (number_means (with_x (pos 5)) (pos 5)) no_data)), tt);
    params = more_data five_means no_data;
    parts = none refl;
  };
  gives = record { witnesses = []; sorted = tt; props = tt; returned = five_means; parts = none refl };
}
