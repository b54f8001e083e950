-- Brackets: the items are judged in turn, and then what is made of them.
use Rattle.std.specs.Prelude.{ℕ, ◌+◌, List, [], ◌∷◌, length, Option, None, Ok, is_some}
use Rattle.floyd_text.specs.declared.place.Place.{Place}
use Rattle.floyd_tree.specs.Plain.{Plain}
use Rattle.floyd_tree.specs.Types.{SizedType}
use Rattle.floyd_termread_trees.specs.declared.written.Opening.{Opening}
use Rattle.floyd_termread_scope.specs.Scopes.{Env}
use Rattle.floyd_termread_wants.specs.declared.wants.Known.{Known}
use Rattle.floyd_termread_wants.specs.declared.wants.Wanted.{Wanted}
use Rattle.floyd_termread_wants.specs.Judging.{Judged, ◌>>=◌, there}
use Rattle.floyd_termread_wants.specs.Wants.{nothing_known}
use Rattle.floyd_termread_brackets.specs.declared.slots.Goal.{Goal}
use Rattle.floyd_termread_brackets.specs.declared.slots.Goal.TheVariants as g
use Rattle.floyd_termread_brackets.specs.declared.slots.Part.{Part}
use Rattle.floyd_termread_brackets.specs.declared.slots.Part.TheVariants as part
use Rattle.floyd_termread_brackets.specs.declared.slots.Slots.{Slots}
use Rattle.floyd_termread_brackets.specs.Slots.{goal_of, slot_at, learn_part, value_type, scalar_type, global_part, local_part, slots_of, type_slots}
use Rattle.floyd_termread_brackets.specs.Brackets.{bracket_place, closed_term, closed_type}
use Rattle.floyd_termread_terms.specs.Senses.{Sense}

-- an item, judged as what it is to be
abbrev pub part_of : Env → Goal → Sense → Judged Part
part_of env (g.Term wanted) item = item.term env wanted >>= λ x. Ok (part.Term x)
part_of env g.Type item = item.type env >>= λ x. Ok (part.Type x)
part_of env g.ValueType item = item.type env >>= value_type env.defs.structs item.place
part_of env g.ScalarType item = item.type env >>= scalar_type item.place
part_of env g.Global item = global_part env.defs.globals item.name
part_of env g.Local item = local_part env.locals item.name

-- the items from the one of number n on, where so much is known from those before
abbrev pub parts_of : Env → Slots → ℕ → Known → List Sense → Judged (List Part)
parts_of env slots n known [] = Ok []
parts_of env slots n known (item ∷ items) = do
  x ← part_of env (goal_of known slots.above (slot_at slots n)) item
  xs ← parts_of env slots (n + 1) (learn_part known (slot_at slots n) x) items
  Ok (x ∷ xs)

abbrev pub bracket_term : Opening → Place → List Sense → Option Place → Env → Wanted → Judged Plain
bracket_term opening place items close env wanted = do
  slots ← slots_of env.defs.funs (is_some env.locals) opening (length items) wanted
  xs ← parts_of env slots 0 nothing_known items
  closed_term env.defs.funs opening place xs close wanted

abbrev pub bracket_type : Opening → List Sense → Option Place → Env → Judged SizedType
bracket_type opening items close env = do
  slots ← there (type_slots opening)
  xs ← parts_of env slots 0 nothing_known items
  closed_type opening xs close

abbrev pub bracket : Opening → Place → List Sense → Option Place → Sense
bracket opening place items close = record {
  place = bracket_place opening place;
  name = None;
  term = bracket_term opening place items close;
  type = bracket_type opening items close;
}
