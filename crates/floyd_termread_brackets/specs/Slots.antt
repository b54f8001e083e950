-- What the items of a bracket are to be, by what stands before it.
use Rattle.std.specs.Prelude.{Bool, Ok, ℕ, ◌==◌, if◌then◌else◌, List, [], ◌∷◌, map, slice_get, Option, Some, None, codes, bytes_eq}
use Rattle.std.specs.Option.{unwrap_or}
use Rattle.std.specs.Map.{lookup}
use Rattle.floyd_text.specs.declared.place.Place.{Place}
use Rattle.floyd_ctypes.specs.Structs.{Structs}
use Rattle.floyd_cparse_trees.specs.declared.types.Identifier.{Identifier}
use Rattle.floyd_tree_sorts.specs.declared.heads.Width.{Width}
use Rattle.floyd_tree_sorts.specs.declared.operators.Operator.{Operator}
use Rattle.floyd_tree_sorts.specs.declared.operators.Operator.TheVariants as o
use Rattle.floyd_tree_sorts.specs.declared.operators.RowSort.{RowSort}
use Rattle.floyd_tree_sorts.specs.declared.operators.RowSort.TheVariants as r
use Rattle.floyd_tree_sorts.specs.declared.shape.Shape.{Array}
use Rattle.floyd_tree_sorts.specs.declared.sorts.Sort.{Sort, Z}
use Rattle.floyd_tree_sorts.specs.Operators.{row}
use Rattle.floyd_tree_sorts.specs.Rows.{is_scalar}
use Rattle.floyd_tree_sorts.specs.Table.{forms}
use Rattle.floyd_tree.specs.Types.{SizedType}
use Rattle.floyd_tree.specs.WellSorted.{sort_of}
use Rattle.floyd_tree_values.specs.Defaults.{value_sort}
use Rattle.floyd_assert_trees.specs.declared.binder.Binder.{Binder}
use Rattle.floyd_assert_trees.specs.declared.items.Fun.{Fun}
use Rattle.floyd_termread_trees.specs.declared.words.Word.{Word}
use Rattle.floyd_termread_trees.specs.declared.words.Word.TheVariants as word
use Rattle.floyd_termread_trees.specs.declared.words.TermWord.{TermWord}
use Rattle.floyd_termread_trees.specs.declared.words.TermWord.TheVariants as t
use Rattle.floyd_termread_trees.specs.declared.words.TypeWord.{TypeWord}
use Rattle.floyd_termread_trees.specs.declared.words.TypeWord.TheVariants as y
use Rattle.floyd_termread_trees.specs.declared.written.Opening.{Opening}
use Rattle.floyd_termread_trees.specs.declared.written.Opening.TheVariants as opens
use Rattle.floyd_termread_scope.specs.Scopes.{Named, is_among, is_local}
use Rattle.floyd_termread_brackets.specs.declared.slots.Goal.{Goal}
use Rattle.floyd_termread_brackets.specs.declared.slots.Goal.TheVariants as g
use Rattle.floyd_termread_brackets.specs.declared.slots.Part.{Part}
use Rattle.floyd_termread_brackets.specs.declared.slots.Part.TheVariants as part
use Rattle.floyd_termread_brackets.specs.declared.slots.Slot.{Slot}
use Rattle.floyd_termread_brackets.specs.declared.slots.Slot.TheVariants as slot
use Rattle.floyd_termread_brackets.specs.declared.slots.Slots.{Slots}
use Rattle.floyd_termread_wants.specs.declared.wants.Known.{Known}
use Rattle.floyd_termread_wants.specs.declared.wants.Wanted.{Wanted}
use Rattle.floyd_termread_wants.specs.declared.wants.Wanted.TheVariants as w
use Rattle.floyd_termread_wants.specs.Judging.{Judged, ◌>>◌, refuse, cut_off, unless}
use Rattle.floyd_termread_wants.specs.Refusals.{unknown, ill_sorted}
use Rattle.floyd_termread_wants.specs.Wants.{nothing_known, learn, from_above, wanted_by, expected_at}

-- What the items of a bracket are to be.

abbrev pub any_term : Slot
any_term = slot.Fixed (g.Term (w.Any None))

abbrev pub fixed : List Goal → Slots
fixed goals = record { first = map slot.Fixed goals; rest = any_term; above = nothing_known }

abbrev pub row_slot : RowSort → Slot
row_slot form = slot.Row form

-- the arguments of an operator
abbrev pub by_row : Operator → Wanted → Slots
by_row op wanted = record { first = map row_slot (forms (row op).takes); rest = any_term; above = from_above (row op).gives wanted }

-- the items of a literal list, which are all of one sort
abbrev pub list_slots : Wanted → Slots
list_slots wanted = record { first = []; rest = slot.Row r.S; above = from_above r.ListS wanted }

abbrev pub slot_at : Slots → ℕ → Slot
slot_at slots n = unwrap_or (slice_get slots.first n) slots.rest

abbrev pub goal_of : Known → Known → Slot → Goal
goal_of known above (slot.Row form) = g.Term (wanted_by known above form)
goal_of known above (slot.Fixed goal) = goal

-- the arguments of a FUN
abbrev pub argument_slot : Binder → Slot
argument_slot b = slot.Fixed (g.Term (w.This b.sort))

abbrev pub fun_slots : Identifier → Option Fun → Judged Slots
fun_slots i None = refuse (unknown i)
fun_slots i (Some f) = Ok (record { first = map argument_slot f.arguments; rest = any_term; above = nothing_known })

-- one term, or a pair
abbrev pub parenthesis_slots : ℕ → Wanted → Slots
parenthesis_slots n wanted = if n == 1 then fixed (g.Term (w.Any (expected_at wanted)) ∷ []) else by_row o.Pair wanted

-- a width, and a number
abbrev pub width_slots : Slots
width_slots = fixed (g.Term w.Width ∷ g.Term (w.This Z) ∷ [])

-- the name of a local variable, where `lv` may stand
abbrev pub local_slots : Bool → Place → Judged Slots
local_slots locals place = unless (unknown (record { name = codes "lv"; place = place })) locals >> Ok (fixed (g.Local ∷ []))

abbrev pub word_slots : Bool → TermWord → Place → Wanted → Judged Slots
word_slots locals (t.Operator op) place wanted = Ok (by_row op wanted)
word_slots locals t.Signed place wanted = Ok width_slots
word_slots locals t.Unsigned place wanted = Ok width_slots
word_slots locals t.Gv place wanted = Ok (fixed (g.Global ∷ []))
word_slots locals t.Lv place wanted = local_slots locals place
word_slots locals t.Default place wanted = Ok (fixed (g.ValueType ∷ []))
word_slots locals t.Nil place wanted = cut_off
word_slots locals t.Leaf place wanted = cut_off

-- of a term's bracket with so many items
abbrev pub slots_of : Named Fun → Bool → Opening → ℕ → Wanted → Judged Slots
slots_of funs locals (opens.Call i) n wanted = fun_slots i (lookup (bytes_eq i.name) funs)
slots_of funs locals (opens.Word (word.Term x) place) n wanted = word_slots locals x place wanted
slots_of funs locals opens.Parenthesis n wanted = Ok (parenthesis_slots n wanted)
slots_of funs locals opens.List n wanted = Ok (list_slots wanted)
slots_of funs locals opening n wanted = cut_off

-- of types, what they are made of
abbrev pub type_word_slots : TypeWord → Option Slots
type_word_slots y.Ptr = Some (fixed (g.Type ∷ []))
type_word_slots y.Array = Some (fixed (g.Type ∷ g.Term (w.This Z) ∷ []))
type_word_slots y.Fn = Some (record { first = []; rest = slot.Fixed g.Type; above = nothing_known })
type_word_slots other = None

abbrev pub type_slots : Opening → Option Slots
type_slots (opens.Word (word.Type x) place) = type_word_slots x
type_slots opening = None

-- What an item is read as.

-- a type that has a value sort, or that is scalar; else it is ill sorted where it begins
abbrev pub valued : Place → SizedType → Option Sort → Judged Part
valued place x None = refuse (ill_sorted place)
valued place x (Some s) = Ok (part.Valued x s)

abbrev pub value_type : Structs → Place → SizedType → Judged Part
value_type structs place x = valued place x (value_sort structs x.shape)

abbrev pub scalar_type : Place → SizedType → Judged Part
scalar_type place x = unless (ill_sorted place) (is_scalar x.shape) >> Ok (part.Type x)

-- a name that stands for something of the kind
abbrev pub named : Identifier → Bool → Judged Part
named i holds = unless (unknown i) holds >> Ok (part.Name i.name)

abbrev pub global_part : Named (Unit {0}) → Option Identifier → Judged Part
global_part globals None = cut_off
global_part globals (Some i) = named i (is_among globals i.name)

abbrev pub local_part : Option (Named (Unit {0})) → Option Identifier → Judged Part
local_part locals None = cut_off
local_part locals (Some i) = named i (is_local locals i.name)

-- what a term says of S and T, where it stands in that slot
abbrev pub learn_part : Known → Slot → Part → Known
learn_part known (slot.Row form) (part.Term x) = learn known form (sort_of x)
learn_part known place x = known
