-- Objects as the program takes them apart, and what is said of their subscripts.
use Rattle.std.proofs.Common.{◌≡◌, ℕ, zero, suc, ◌<◌, List, [], ◌∷◌, ◌++◌, length, drop, get_or, Result, Ok, Err, refl, ap, sym, subst, ◌∙◌, arith}
use denote.Hole.Carrier.{hidden}
use Rattle.floyd_text.specs.declared.refusal.RuleStop.{RuleStop}
use Rattle.floyd_text.specs.declared.refusal.No.{No}
use Rattle.floyd_text.specs.Gives.{RuleStops}
use Rattle.floyd_ctypes.specs.declared.ctype.CType.{CType, Pointer, Array, Function}
use Rattle.floyd_ctypes.specs.declared.ctype.CType.TheBlock.{shape-the_row-CType-0, hidden-the_row-CType-0, shape-the_row-CType-1, hidden-the_row-CType-1}
use Rattle.floyd_ctypes.specs.Structs.{Structs}
use Rattle.floyd_tree.specs.Formulas.{PlainFormula}
use Rattle.floyd_fieldpath.specs.Written.{on_ok}
use Rattle.floyd_symexpr_rows.specs.declared.needs.Needs.{Needs}
use Rattle.floyd_symexpr_rows.specs.declared.needs.Number.{Number}
use Rattle.floyd_symexpr_rows.specs.Formulas.{saying}
use Rattle.floyd_symexpr_rows.specs.Rows.{not_number, range}
use Rattle.floyd_symexpr_rows.proofs.SayingLemmas.{saying_append, said_stops}
use Rattle.floyd_symexpr_paths.specs.declared.lvalue.Lvalue.{Lvalue}
use Rattle.floyd_symexpr_paths.specs.Places.{address_row, object_value, subscript_ranges}

pub value_of_array : (structs : Structs) (a : CType) (n : ℕ) (l : Lvalue) (needs : Needs) → object_value structs (Array a n) l needs ≡ address_row structs l needs
unfolding shape-the_row-CType-0 hidden-the_row-CType-0 hidden
value_of_array structs a n l needs = refl

pub value_of_function : (structs : Structs) (ps : List CType) (r : CType) (l : Lvalue) (needs : Needs) → object_value structs (Function ps r) l needs ≡ address_row structs l needs
unfolding shape-the_row-CType-0 hidden-the_row-CType-0 shape-the_row-CType-1 hidden-the_row-CType-1 hidden
value_of_function structs ps r l needs = refl

pub value_of_pointer : (structs : Structs) (a : CType) (l : Lvalue) (needs : Needs) → object_value structs (Pointer a) l needs ≡ Err not_number
unfolding shape-the_row-CType-0 hidden-the_row-CType-0 hidden
value_of_pointer structs a l needs = refl

-- the ranges of subscripts, one by one
pub ranges_on : (all behind : List PlainFormula) (i : Number) (more : List Number) → saying all (range i.kind i.term) ≡ Ok behind → saying behind (subscript_ranges more) ≡ saying all (subscript_ranges (i ∷ more))
ranges_on all behind i more e =
    sym (saying_append all (range i.kind i.term) (subscript_ranges more) ∙ ap (λ (d : Result (List PlainFormula) No). on_ok d (λ m. saying m (subscript_ranges more))) e)

number_step : (all : List Number) (i : ℕ) (n : Number) → i < length all → n ≡ get_or all i n → drop i all ≡ n ∷ drop (suc i) all
number_step [] i n h e = absurd (omega arith)
number_step (x ∷ xs) zero n h e = ap (λ y. y ∷ xs) (sym e)
number_step (x ∷ xs) (suc i) n h e = number_step xs i n (omega arith) e

-- what is said of one of them stops, and so does what is said of all
pub ranges_stop : (stop : RuleStop) (before all : List PlainFormula) (numbers : List Number) (i : ℕ) (n : Number) → i < length numbers → n ≡ get_or numbers i n → saying all (subscript_ranges (drop i numbers)) ≡ saying before (subscript_ranges numbers) → RuleStops stop (saying all (range n.kind n.term)) → RuleStops stop (saying before (subscript_ranges numbers))
ranges_stop stop before all numbers i n h e held s =
    subst (λ (d : Result (List PlainFormula) No). RuleStops stop d) held
    (subst (λ (more : List Number). RuleStops stop (saying all (subscript_ranges more))) (sym (number_step numbers i n h e))
    (said_stops stop all (range n.kind n.term) (subscript_ranges (drop (suc i) numbers)) s))
